-- What the calls that change a list keep, accepted or refused. Assumes nothing.
use Rattle.std.proofs.Common.{◌≡◌, ℕ, Bool, false, List, Ok, Err, Result, refl, sym, ap, subst, ◌∙◌}
use Rattle.std.specs.Prelude.{is_ok}
use Rattle.list.specs.declared.List.{List as Held}
use Rattle.list.specs.Held.{kept, full}
use Rattle.list.proofs.Kept.{kept-appended, kept-written, kept-without}
use Rattle.order.specs.declared.kind.Row.{Row}
use Rattle.order.specs.declared.ticket.Ticket.{Ticket}
use Rattle.order.specs.Entered.{entered_row}
use Rattle.order.specs.Rows.{resized}
use Rattle.session.specs.declared.call.Call.{Call}
use Rattle.session.specs.declared.call.Call.TheVariants.{Entry, Cancel, Reduction, Publication}
use Rattle.session.specs.declared.fault.SessionFault.{SessionFault}
use Rattle.session.specs.declared.notice.Notice.{Notice}
use Rattle.session.specs.Agreement.{KeepsLedger}
use Rattle.session.specs.Answers.{entry_answer, cancel_answer, reduction_answer, publication_answer}
use Rattle.session.specs.Changes.{if_accepted, with_order, without_order, with_reduced, with_answered}
use Rattle.session.specs.Laws.{KeepsLife}
use Rattle.session.specs.Questions.{refused_with}
use Rattle.session.specs.Replies.{Reply, answer_of, notice_answer_of}
use Rattle.session.specs.States.{State}
use Rattle.session.proofs.Grounds.{Grounds, refusal_grounds, entry_grounds, cancel_grounds, reduction_grounds, publication_grounds}
use Rattle.session.proofs.Rows.{is_found}
use Rattle.session.proofs.Steps.{entered, found-from_cancel, found-from_reduction, published-from, entry_ledger, entry_life, cancel_ledger, cancel_life, reduction_ledger, reduction_life, publication_life, refused_other}
use Rattle.session.proofs.Upheld.{is_close}

-- a call with the answer r, which makes other rows of the rows of a list, keeps every ledger and every life
pub record Keeps (call : Call) (s : State) (rows : List Row) (notices : List Notice) (r : Reply) (rows' : List Row) : Type 0 where
  pub ledger : KeepsLedger call (is_ok r) s rows s rows'
  pub life : KeepsLife call (answer_of r) s rows notices s rows' notices

-- a refusal does
refused_keeps : (call : Call) → is_close call ≡ false → (s : State) (rows : List Row) (notices : List Notice) (fault : SessionFault) → Grounds {T = Unit {0}} s (Err fault) → Keeps call s rows notices (Err fault) rows
refused_keeps call other s rows notices fault g = record { ledger = λ L old. old; life = refused_other call (Err fault) s rows notices other refl (refusal_grounds s fault g) }

module _ (s : State) (l : Held Row) (notices : List Notice) where
  -- an order comes in
  enters-by : (t : Ticket) (r : Reply) → entry_answer s (kept l) (full l) notices t ≡ r → Keeps (Entry t) s (kept l) notices r (kept (if_accepted r (with_order l t) l))
  enters-by t (Ok nothing) e =
      let asked = entered s (kept l) (full l) notices t e in
      let undone = sym (sym (ap (refused_with 7) e) ∙ (entry_grounds s (kept l) (full l) notices t).done) in
      rw (kept-appended l (entered_row t) asked.has_place) (record { ledger = entry_ledger s (kept l) notices t (full l) e; life = entry_life s (kept l) notices t (full l) e undone })
  enters-by t (Err fault) e = refused_keeps (Entry t) refl s (kept l) notices fault (subst (Grounds s) e (entry_grounds s (kept l) (full l) notices t))

  pub enters : (t : Ticket) (r : Reply) (l' : Held Row) → r ≡ entry_answer s (kept l) (full l) notices t → l' ≡ if_accepted r (with_order l t) l → Keeps (Entry t) s (kept l) notices r (kept l')
  enters t r l' answer_is list_is = rw list_is (enters-by t r (sym answer_is))

  -- an order goes off
  cancels-by : (n : ℕ) (in_error : Bool) (r : Reply) → cancel_answer s (kept l) n in_error ≡ r → Keeps (Cancel n in_error) s (kept l) notices r (kept (if_accepted r (without_order l n) l))
  cancels-by n in_error (Ok nothing) e =
      let found = found-from_cancel s (kept l) n in_error e in
      let order = is_found n (kept l) found.0 found.1 in
      let undone = sym (sym (ap (refused_with 7) e) ∙ (cancel_grounds s (kept l) n in_error).done) in
      rw (found.1, kept-without l found.0.place order.first.inside) (record { ledger = cancel_ledger s (kept l) n found.0.place in_error order.first; life = cancel_life s (kept l) n found.0.place in_error order.first undone notices })
  cancels-by n in_error (Err fault) e = refused_keeps (Cancel n in_error) refl s (kept l) notices fault (subst (Grounds s) e (cancel_grounds s (kept l) n in_error))

  pub cancels : (n : ℕ) (in_error : Bool) (r : Reply) (l' : Held Row) → r ≡ cancel_answer s (kept l) n in_error → l' ≡ if_accepted r (without_order l n) l → Keeps (Cancel n in_error) s (kept l) notices r (kept l')
  cancels n in_error r l' answer_is list_is = rw list_is (cancels-by n in_error r (sym answer_is))

  -- an order is reduced
  reduces-by : (n size : ℕ) (in_error : Bool) (r : Reply) → reduction_answer s (kept l) n size in_error ≡ r → Keeps (Reduction n size in_error) s (kept l) notices r (kept (if_accepted r (with_reduced l n size) l))
  reduces-by n size in_error (Ok nothing) e =
      let asked = found-from_reduction s (kept l) n size in_error e in
      let found = asked.0 in
      let order = is_found n (kept l) found asked.1 in
      let undone = sym (sym (ap (refused_with 7) e) ∙ (reduction_grounds s (kept l) n size in_error).done) in
      rw (asked.1, kept-written l found.place (resized found.row size) order.first.inside, ← order.its found.row)
      (record { ledger = reduction_ledger s (kept l) n found.place size found.row in_error order.first asked.2; life = reduction_life s (kept l) n found.place size found.row in_error order.first asked.2 undone notices })
  reduces-by n size in_error (Err fault) e = refused_keeps (Reduction n size in_error) refl s (kept l) notices fault (subst (Grounds s) e (reduction_grounds s (kept l) n size in_error))

  pub reduces : (n size : ℕ) (in_error : Bool) (r : Reply) (l' : Held Row) → r ≡ reduction_answer s (kept l) n size in_error → l' ≡ if_accepted r (with_reduced l n size) l → Keeps (Reduction n size in_error) s (kept l) notices r (kept l')
  reduces n size in_error r l' answer_is list_is = rw list_is (reduces-by n size in_error r (sym answer_is))

-- a notice is published
module _ (s : State) (rows : List Row) (l : Held Notice) (significant : Bool) where
  publishes-by : (r : Result Notice SessionFault) → publication_answer s rows (kept l) (full l) significant ≡ r → KeepsLife (Publication significant) (notice_answer_of r) s rows (kept l) s rows (kept (with_answered l r))
  publishes-by (Ok n) e =
      let was = published-from s rows (kept l) (full l) significant n e in
      let undone = sym (sym (ap (refused_with 7) e) ∙ (publication_grounds s rows (kept l) (full l) significant).done) in
      rw (kept-appended l n was.has_place) (publication_life s rows (kept l) (full l) significant n e undone)
  publishes-by (Err fault) e =
      let g : Grounds {T = Notice} s (Err fault) = subst (Grounds {T = Notice} s) e (publication_grounds s rows (kept l) (full l) significant) in
      refused_other (Publication significant) (Err fault) s rows (kept l) refl refl (refusal_grounds s fault g)

  pub publishes : (r : Result Notice SessionFault) (l' : Held Notice) → r ≡ publication_answer s rows (kept l) (full l) significant → l' ≡ with_answered l r → KeepsLife (Publication significant) (notice_answer_of r) s rows (kept l) s rows (kept l')
  publishes r l' answer_is list_is = rw list_is (publishes-by r (sym answer_is))
