-- What an accepted call leaves; a refused one leaves everything as it was. Assumes nothing.
use Rattle.std.specs.Prelude.{ℕ, true, if◌then◌else◌, List, Some, Ok, Err, Result, is_ok}
use Rattle.std.specs.Option.{option_map_or}
use Rattle.list.specs.declared.List.{List as Held}
use Rattle.list.specs.Held.{kept, appended, written, without}
use Rattle.order.specs.declared.kind.Row.{Row}
use Rattle.order.specs.declared.sale.Quote.{Quote}
use Rattle.order.specs.declared.ticket.Ticket.{Ticket}
use Rattle.order.specs.Entered.{entered_row}
use Rattle.order.specs.Rows.{resized}
use Rattle.order.specs.Sales.{sale_after}
use Rattle.book.specs.Answers.{gifts_of, work_after, list_after}
use Rattle.book.specs.Entries.{orders_at}
use Rattle.book.specs.Fill.{claims_of, fills_of}
use Rattle.session.specs.declared.fault.SessionFault.{SessionFault}
use Rattle.session.specs.declared.notice.Notice.{Notice}
use Rattle.session.specs.Answers.{listed_at, at_price}
use Rattle.session.specs.States.{State}

-- one thing where the call was accepted, and another where it was refused
abbrev pub if_accepted : {S T : Type 0} → Result T SessionFault → S → S → S
if_accepted r after before = (if is_ok r then after else before)

-- a session whose clock has moved
abbrev pub at_time : State → ℕ → State
at_time s t = record s { time = t }

-- a session after a sale
abbrev pub after_sale : State → ℕ → State
after_sale s p = record s { sale = Some (sale_after s.sale p) }

-- a session after a quote
abbrev pub after_quote : State → Quote → State
after_quote s q = record s { quote = q }

-- a list with an order that has come in, with no share filled
abbrev pub with_order : Held Row → Ticket → Held Row
with_order l t = appended l (entered_row t)

-- a list without the first order of a number
abbrev pub without_order : Held Row → ℕ → Held Row
without_order l n = option_map_or (λ found. without l found.place) (listed_at n (kept l)) l

-- a list in which the first order of a number has another size, and no share filled
abbrev pub with_reduced : Held Row → ℕ → ℕ → Held Row
with_reduced l n size = option_map_or (λ found. written l found.place (resized found.row size)) (listed_at n (kept l)) l

-- a list with the notice that was answered
abbrev pub with_answered : Held Notice → Result Notice SessionFault → Held Notice
with_answered l (Ok n) = appended l n
with_answered l (Err fault) = l

-- a session that is done
abbrev pub as_done : State → State
as_done s = record s { done = true }

-- a list whose orders have what a close at the price p gives them, shared by a method of this meaning
abbrev pub with_fills : (ℕ → List ℕ → List ℕ) → State → ℕ → Held Row → Held Row
with_fills meaning s p l = option_map_or (λ last. let orders = orders_at l (at_price p last) in list_after l (fills_of orders (gifts_of meaning orders))) s.sale l

-- a work list with a claim for each row; later places hold what they held
abbrev pub with_claims : State → ℕ → Held Row → List ℕ → List ℕ
with_claims s p l claims = option_map_or (λ last. work_after l (claims_of (orders_at l (at_price p last))) claims) s.sale claims

-- and one with a gift of the method for each
abbrev pub with_gifts : (ℕ → List ℕ → List ℕ) → State → ℕ → Held Row → List ℕ → List ℕ
with_gifts meaning s p l gifts = option_map_or (λ last. work_after l (gifts_of meaning (orders_at l (at_price p last))) gifts) s.sale gifts
