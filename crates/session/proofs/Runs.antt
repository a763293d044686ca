-- Every life that a session can have is lawful. Assumes nothing.
use Rattle.std.proofs.Common.{◌≡◌, ℕ, false, Ok, Err, List, refl, sym}
use Rattle.sharing.specs.Shares.{Divides}
use Rattle.list.specs.Held.{kept}
use Rattle.order.specs.declared.sale.Quote.{Quote as AQuote}
use Rattle.session.specs.declared.call.Call.{Call}
use Rattle.session.specs.declared.call.Call.TheVariants.{Time, Sale, Quote, Entry, Cancel, Reduction, Publication, Close}
use Rattle.session.specs.declared.call.Outcome.TheVariants.{Taken}
use Rattle.session.specs.Answers.{time_answer, sale_answer, quote_answer}
use Rattle.session.specs.Changes.{if_accepted, at_time, after_sale, after_quote}
use Rattle.session.specs.Laws.{KeepsLife}
use Rattle.session.specs.Lives.{begun, later}
use Rattle.session.specs.Replies.{Reply, Answer, answer_of}
use Rattle.session.specs.Moments.{Moment, Work, answer_at, moment_after}
use Rattle.session.specs.Runs.{Follows, AllLived}
use Rattle.session.specs.States.{State}
use Rattle.session.proofs.Closing.{closes}
use Rattle.session.proofs.Grounds.{Grounds, refusal_grounds, time_grounds, sale_grounds, quote_grounds}
use Rattle.session.proofs.Keeping.{enters, cancels, reduces, publishes}
use Rattle.session.proofs.Steps.{begun_life, time_life, sale_life, quote_life, refused_other}
use Rattle.session.proofs.Upheld.{is_close}

-- a call carries a life on from one moment to the next
abbrev Carries : Call → Answer → Moment → Moment → Type 0
Carries call answer m m' = KeepsLife call answer m.state (kept m.orders) (kept m.notices) m'.state (kept m'.orders) (kept m'.notices)

-- a call that changes what the session keeps, other than the close, carries a life on where it does so when it is accepted
module _ (call : Call) (other : is_close call ≡ false) (m : Moment) where
  state_carries : (reply : Reply) (after : State) → Grounds m.state reply → (m.state.done ≡ false → Carries call (Ok Taken) m (record m { state = after }))
      → Carries call (answer_of reply) m (record m { state = if_accepted reply after m.state })
  state_carries (Ok nothing) after g keeps = keeps (sym g.done)
  state_carries (Err fault) after g keeps = refused_other call (Err fault) m.state (kept m.orders) (kept m.notices) other refl (refusal_grounds m.state fault g)

module _ (m : Moment) where
  time_carries : (t : ℕ) → Carries (Time t) (answer_of (time_answer m.state t)) m (record m { state = if_accepted (time_answer m.state t) (at_time m.state t) m.state })
  time_carries t = state_carries (Time t) refl m (time_answer m.state t) (at_time m.state t) (time_grounds m.state t) (λ undone. time_life m.state (kept m.orders) (kept m.notices) undone t)

  sale_carries : (p : ℕ) → Carries (Sale p) (answer_of (sale_answer m.state p)) m (record m { state = if_accepted (sale_answer m.state p) (after_sale m.state p) m.state })
  sale_carries p = state_carries (Sale p) refl m (sale_answer m.state p) (after_sale m.state p) (sale_grounds m.state p) (λ undone. sale_life m.state (kept m.orders) (kept m.notices) undone p)

  quote_carries : (q : AQuote) → Carries (Quote q) (answer_of (quote_answer m.state q)) m (record m { state = if_accepted (quote_answer m.state q) (after_quote m.state q) m.state })
  quote_carries q = state_carries (Quote q) refl m (quote_answer m.state q) (after_quote m.state q) (quote_grounds m.state q) (λ undone. quote_life m.state (kept m.orders) (kept m.notices) undone q)

  -- each call carries a life on, with any work lists and any method
  pub call_carries : (work : Work) (meaning : ℕ → List ℕ → List ℕ) → Divides meaning → (call : Call) → Carries call (answer_at m work call) m (moment_after m work meaning call)
  call_carries work meaning divides (Time t) = time_carries t
  call_carries work meaning divides (Sale p) = sale_carries p
  call_carries work meaning divides (Quote q) = quote_carries q
  call_carries work meaning divides (Entry t) = (enters m.state m.orders (kept m.notices) t _ _ refl refl).life
  call_carries work meaning divides (Cancel n in_error) = (cancels m.state m.orders (kept m.notices) n in_error _ _ refl refl).life
  call_carries work meaning divides (Reduction n size in_error) = (reduces m.state m.orders (kept m.notices) n size in_error _ _ refl refl).life
  call_carries work meaning divides (Publication significant) = publishes m.state (kept m.orders) m.notices significant _ _ refl refl
  call_carries work meaning divides (Close p) = (closes m.state m.orders work.claims work.gifts p meaning divides _ _ _ refl refl refl).life (kept m.notices)

-- and so does each call that follows
follows_carries : (m : Moment) (call : Call) (answer : Answer) (m' : Moment) → Follows m call answer m' → Carries call answer m m'
follows_carries m call answer m' f = rw (f.says, f.leaves) (call_carries m f.work f.meaning f.divides call)

pub all_lived : AllLived
all_lived begun m o = rw (o.at_start, o.no_orders, o.no_notices) begun_life
all_lived (later life call answer) m' (m, led, follows) = follows_carries m call answer m' follows life (all_lived life m led)
