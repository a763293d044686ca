-- What a call of any kind is answered at a moment, and the moment that it leaves. Assumes nothing.
use Rattle.std.specs.Prelude.{◌≡◌, ℕ, List, []}
use Rattle.list.specs.declared.List.{List as Held}
use Rattle.list.specs.Held.{kept, full}
use Rattle.order.specs.declared.kind.Row.{Row}
use Rattle.session.specs.declared.call.Call.{Call}
use Rattle.session.specs.declared.call.Call.TheVariants.{Time, Sale, Quote, Entry, Cancel, Reduction, Publication, Close}
use Rattle.session.specs.declared.notice.Notice.{Notice}
use Rattle.session.specs.Answers.{time_answer, sale_answer, quote_answer, entry_answer, cancel_answer, reduction_answer, publication_answer, close_answer}
use Rattle.session.specs.Changes.{if_accepted, at_time, after_sale, after_quote, with_order, without_order, with_reduced, with_answered, as_done, with_fills, with_claims, with_gifts}
use Rattle.session.specs.Replies.{Answer, answer_of, notice_answer_of, print_answer_of}
use Rattle.session.specs.States.{State, opened}

-- what stands between two calls: what the session keeps, and its two lists
pub record Moment : Type 0 where
  pub state : State
  pub orders : Held Row
  pub notices : Held Notice

-- the two work lists that are lent to a call
pub record Work : Type 0 where
  pub claims : List ℕ
  pub gifts : List ℕ

-- the moment at which these stand
abbrev pub moment : State → Held Row → Held Notice → Moment
moment state orders notices = record { state = state; orders = orders; notices = notices }

-- the work lists with these entries
abbrev pub work_of : List ℕ → List ℕ → Work
work_of claims gifts = record { claims = claims; gifts = gifts }

-- a session has just opened, and both lists are empty
pub record Opened (m : Moment) : Type 0 where
  pub at_start : m.state ≡ opened
  pub no_orders : kept m.orders ≡ []
  pub no_notices : kept m.notices ≡ []

-- at a moment, with two work lists
module _ (m : Moment) (work : Work) where
  -- what a call is answered
  abbrev pub answer_at : Call → Answer
  answer_at (Time t) = answer_of (time_answer m.state t)
  answer_at (Sale p) = answer_of (sale_answer m.state p)
  answer_at (Quote q) = answer_of (quote_answer m.state q)
  answer_at (Entry t) = answer_of (entry_answer m.state (kept m.orders) (full m.orders) (kept m.notices) t)
  answer_at (Cancel n in_error) = answer_of (cancel_answer m.state (kept m.orders) n in_error)
  answer_at (Reduction n size in_error) = answer_of (reduction_answer m.state (kept m.orders) n size in_error)
  answer_at (Publication significant) = notice_answer_of (publication_answer m.state (kept m.orders) (kept m.notices) (full m.notices) significant)
  answer_at (Close p) = print_answer_of (close_answer m.state m.orders work.claims work.gifts p)

  -- the moment that it leaves, where a close is shared by a method of this meaning
  abbrev pub moment_after : (ℕ → List ℕ → List ℕ) → Call → Moment
  moment_after meaning (Time t) = record m { state = if_accepted (time_answer m.state t) (at_time m.state t) m.state }
  moment_after meaning (Sale p) = record m { state = if_accepted (sale_answer m.state p) (after_sale m.state p) m.state }
  moment_after meaning (Quote q) = record m { state = if_accepted (quote_answer m.state q) (after_quote m.state q) m.state }
  moment_after meaning (Entry t) = record m { orders = if_accepted (entry_answer m.state (kept m.orders) (full m.orders) (kept m.notices) t) (with_order m.orders t) m.orders }
  moment_after meaning (Cancel n in_error) = record m { orders = if_accepted (cancel_answer m.state (kept m.orders) n in_error) (without_order m.orders n) m.orders }
  moment_after meaning (Reduction n size in_error) = record m { orders = if_accepted (reduction_answer m.state (kept m.orders) n size in_error) (with_reduced m.orders n size) m.orders }
  moment_after meaning (Publication significant) = record m { notices = with_answered m.notices (publication_answer m.state (kept m.orders) (kept m.notices) (full m.notices) significant) }
  moment_after meaning (Close p) =
      let answer = close_answer m.state m.orders work.claims work.gifts p in
      record m { state = if_accepted answer (as_done m.state) m.state; orders = if_accepted answer (with_fills meaning m.state p m.orders) m.orders }

  -- the work lists that it leaves
  abbrev pub work_left : (ℕ → List ℕ → List ℕ) → Call → Work
  work_left meaning (Time t) = work
  work_left meaning (Sale p) = work
  work_left meaning (Quote q) = work
  work_left meaning (Entry t) = work
  work_left meaning (Cancel n in_error) = work
  work_left meaning (Reduction n size in_error) = work
  work_left meaning (Publication significant) = work
  work_left meaning (Close p) =
      let answer = close_answer m.state m.orders work.claims work.gifts p in
      record { claims = if_accepted answer (with_claims m.state p m.orders work.claims) work.claims; gifts = if_accepted answer (with_gifts meaning m.state p m.orders work.gifts) work.gifts }
