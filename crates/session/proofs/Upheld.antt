-- The answers to calls other than the close are upheld, and those without a print with any shares. Assumes nothing.
use Rattle.std.proofs.Common.{◌≡◌, ℕ, Bool, true, false, List, None, Ok, Err, Result, refl, sym, ap, ◌∙◌, true≢false}
use Rattle.std.proofs.lemmas.Bool.{or_parts}
use Rattle.order.specs.declared.kind.Row.{Row}
use Rattle.session.specs.declared.call.Call.{Call}
use Rattle.session.specs.declared.call.Call.TheVariants.{Time, Sale, Quote, Entry, Cancel, Reduction, Publication, Close}
use Rattle.session.specs.declared.call.Outcome.TheVariants.{Taken, Published}
use Rattle.session.specs.declared.fault.SessionFault.{SessionFault}
use Rattle.session.specs.declared.notice.Notice.{Notice}
use Rattle.session.specs.Agreement.{Agrees}
use Rattle.session.specs.Laws.{AllUpheld}
use Rattle.session.specs.Ledgers.{Ledger}
use Rattle.session.specs.Lives.{Life, begun, later, ledger_of, was_closed}
use Rattle.session.specs.Questions.{refused_with}
use Rattle.session.specs.Replies.{Reply, Answer, answer_of, notice_answer_of, is_print}
use Rattle.session.specs.States.{State}
use Rattle.session.specs.Upheld.{UpheldBy}
use Rattle.session.proofs.Grounds.{Grounds}

-- an answer other than a print is upheld with any shares
upheld_with : (L : Ledger) (call : Call) (answer : Answer) (xs ys : List ℕ) → is_print answer ≡ false → UpheldBy L call answer xs → UpheldBy L call answer ys
upheld_with L call answer xs ys none u =
    record {
      unfillable = u.unfillable;
      equal = u.equal;
      no_sale = u.no_sale;
      printed = λ print is. absurd (true≢false (sym (ap is_print is) ∙ none));
      completed = u.completed;
    }

-- and so is each answer of a life in which no close was completed
pub all_upheld_with : (life : Life) (xs ys : List ℕ) → was_closed life ≡ false → AllUpheld life xs → AllUpheld life ys
all_upheld_with begun xs ys none u = tt
all_upheld_with (later life call answer) xs ys none u =
    let both = or_parts (was_closed life) (is_print answer) none in
    (all_upheld_with life xs ys both.0 u.0, upheld_with (ledger_of life) call answer xs ys both.1 u.1)

-- whether a call is a close
abbrev pub is_close : Call → Bool
is_close (Time t) = false
is_close (Sale p) = false
is_close (Quote q) = false
is_close (Entry t) = false
is_close (Cancel n in_error) = false
is_close (Reduction n size in_error) = false
is_close (Publication significant) = false
is_close (Close p) = true

-- the answer to a call other than a close is upheld, where it is no print and keeps to the grounds of such a call
pub other_upheld : (L : Ledger) (call : Call) (answer : Answer) (shares : List ℕ) → is_close call ≡ false → is_print answer ≡ false
    → (refused_with 16 answer ≡ true → L.sale ≡ None) → refused_with 21 answer ≡ false → refused_with 22 answer ≡ false → UpheldBy L call answer shares
other_upheld L call answer shares other none no_sale unfillable equal =
    record {
      unfillable = λ is. absurd (true≢false (sym is ∙ unfillable));
      equal = equal;
      no_sale = no_sale;
      printed = λ print is. absurd (true≢false (sym (ap is_print is) ∙ none));
      completed = λ p is. absurd (true≢false (sym (ap is_close is) ∙ other));
    }

-- so is its refusal on the grounds of such a call, by every ledger that agrees
pub refusal_upheld : {T : Type 0} (s : State) (rows : List Row) (call : Call) (fault : SessionFault) (shares : List ℕ) → is_close call ≡ false → Grounds {T = T} s (Err fault)
    → (L : Ledger) → Agrees L s rows → UpheldBy L call (Err fault) shares
refusal_upheld s rows call fault shares other g L old = other_upheld L call (Err fault) shares other refl (λ e. sym old.same_sale ∙ g.no_sale e) g.unfillable g.equal

-- so are the answers of calls that have nothing more to say, and of a publication, by every ledger that agrees
pub reply_upheld : (s : State) (rows : List Row) (call : Call) (r : Reply) (shares : List ℕ) → is_close call ≡ false → Grounds s r → (L : Ledger) → Agrees L s rows → UpheldBy L call (answer_of r) shares
reply_upheld s rows call (Ok nothing) shares other g L old = other_upheld L call (Ok Taken) shares other refl (λ e. absurd (true≢false (sym e))) refl refl
reply_upheld s rows call (Err fault) shares other g L old = refusal_upheld s rows call fault shares other g L old

pub notice_upheld : (s : State) (rows : List Row) (call : Call) (r : Result Notice SessionFault) (shares : List ℕ) → is_close call ≡ false → Grounds s r → (L : Ledger) → Agrees L s rows → UpheldBy L call (notice_answer_of r) shares
notice_upheld s rows call (Ok n) shares other g L old = other_upheld L call (Ok (Published n)) shares other refl (λ e. absurd (true≢false (sym e))) refl refl
notice_upheld s rows call (Err fault) shares other g L old = refusal_upheld s rows call fault shares other g L old
