-- What each call answers: the first question answered no, or else that it is accepted. Assumes nothing.
use Rattle.std.specs.Prelude.{ℕ, Bool, not, ◌&&◌, ◌||◌, List, Option, Ok, Result, nat_le, nat_lt, slice_get}
use Rattle.std.specs.Option.{option_and_then, option_map}
use Rattle.list.specs.declared.List.{List as Held}
use Rattle.order.specs.declared.kind.Row.{Row}
use Rattle.order.specs.declared.kind.Side.TheVariants.{Buy, Sell}
use Rattle.order.specs.declared.sale.Quote.{Quote}
use Rattle.order.specs.declared.sale.Sale.{Sale}
use Rattle.order.specs.declared.terms.Terms.{Terms}
use Rattle.order.specs.declared.ticket.Ticket.{Ticket}
use Rattle.order.specs.Entered.{sound_ticket}
use Rattle.order.specs.Kinds.{is_price, is_size, is_number}
use Rattle.order.specs.Sales.{sound_quote}
use Rattle.book.specs.Answers.{have_room}
use Rattle.book.specs.Entries.{entries, orders_at}
use Rattle.book.specs.Listing.{place_of, is_listed}
use Rattle.book.specs.Volume.{traded, unfillable}
use Rattle.book.specs.Weight.{weight}
use Rattle.clock.specs.declared.table.Allowance.{Allowance}
use Rattle.clock.specs.declared.table.Event.{Event}
use Rattle.clock.specs.declared.table.Event.TheVariants as event
use Rattle.clock.specs.Phases.{is_time, is_late, phase_at}
use Rattle.clock.specs.Table.{allowed_in, lets, wants_notice}
use Rattle.session.specs.declared.call.Print.{Print}
use Rattle.session.specs.declared.fault.SessionFault.{SessionFault}
use Rattle.session.specs.declared.fault.SessionFault.TheVariants.{Done, OutOfLimits, Earlier, Unlisted, NotNow, NoNotice, AlreadyListed, OrdersFull, NotSmaller, NoSale, AlreadyMandatory, Insignificant, NoticesFull, NoPlace, Unfillable}
use Rattle.session.specs.declared.notice.Notice.{Notice}
use Rattle.session.specs.declared.orders.Found.{Found}
use Rattle.session.specs.Notices.{notice_of, is_faced, has_mandatory, is_notable}
use Rattle.session.specs.Questions.{ask, ask_for}
use Rattle.session.specs.Replies.{Reply, accepted}
use Rattle.session.specs.States.{State}

-- what the clock of a session says to an event
abbrev pub allowance_of : State → Event → Allowance
allowance_of s event = allowed_in (phase_at s.time) event

-- whether the clock of a session lets an event happen
abbrev pub lets_now : State → Event → Bool
lets_now s event = lets (allowance_of s event)

-- the first order of a number with its place, or none
abbrev pub listed_at : ℕ → List Row → Option Found
listed_at n rows = option_and_then (λ place. option_map (λ row. record { place = place; row = row }) (slice_get rows place)) (place_of n rows)

-- a price with the last sale
abbrev pub at_price : ℕ → Sale → Terms
at_price p last = record { price = p; sale = last }

-- the clock moves to the time t
abbrev pub time_answer : State → ℕ → Reply
time_answer s t =
    ask (not s.done) Done (
    ask (is_time t) OutOfLimits (
    ask (nat_le s.time t) Earlier
    accepted))

-- a sale at the price p comes in
abbrev pub sale_answer : State → ℕ → Reply
sale_answer s p =
    ask (not s.done) Done (
    ask (is_price p) OutOfLimits (
    ask (lets_now s event.Sale) NotNow
    accepted))

-- a quote comes in
abbrev pub quote_answer : State → Quote → Reply
quote_answer s q =
    ask (not s.done) Done (
    ask (sound_quote q) OutOfLimits (
    ask (lets_now s event.Quote) NotNow
    accepted))

-- an order comes in, to a list of these rows that is full or not, with these notices
abbrev pub entry_answer : State → List Row → Bool → List Notice → Ticket → Reply
entry_answer s rows full notices t =
    ask (not s.done) Done (
    ask (sound_ticket t) OutOfLimits (
    ask (lets_now s (event.In t.kind)) NotNow (
    ask (not (wants_notice (allowance_of s (event.In t.kind))) || is_faced t.side notices) NoNotice (
    ask (not (is_listed t.number rows)) AlreadyListed (
    ask (not full) OrdersFull
    accepted)))))

-- the first order of the number n goes off, with or without the error flag
abbrev pub cancel_answer : State → List Row → ℕ → Bool → Reply
cancel_answer s rows n in_error =
    ask (not s.done) Done (
    ask (is_number n) OutOfLimits (
    ask_for (listed_at n rows) Unlisted (λ found.
    ask (lets_now s (event.Off found.row.kind in_error)) NotNow
    accepted)))

-- the first order of the number n is reduced to a size, with or without the error flag
abbrev pub reduction_answer : State → List Row → ℕ → ℕ → Bool → Reply
reduction_answer s rows n size in_error =
    ask (not s.done) Done (
    ask (is_number n && is_size size) OutOfLimits (
    ask_for (listed_at n rows) Unlisted (λ found.
    ask (lets_now s (event.Off found.row.kind in_error)) NotNow (
    ask (nat_lt size found.row.size) NotSmaller
    accepted))))

-- a notice is published, to a list of these notices that is full or not; the notice is the answer
abbrev pub publication_answer : State → List Row → List Notice → Bool → Bool → Result Notice SessionFault
publication_answer s rows notices full significant =
    ask (not s.done) Done (
    ask (lets_now s event.Publication) NotNow (
    ask_for s.sale NoSale (λ last.
    ask (not (is_late s.time && has_mandatory notices)) AlreadyMandatory (
    ask (is_notable (notice_of s rows last) significant) Insignificant (
    ask (not full) NoticesFull (
    Ok (notice_of s rows last)))))))

-- W to buy and W to sell at the price p
abbrev pub totals_answer : State → List Row → ℕ → Result (ℕ × ℕ) SessionFault
totals_answer s rows p =
    ask (is_price p) OutOfLimits (
    ask_for s.sale NoSale (λ last.
    Ok (weight (entries (at_price p last) rows) Buy, weight (entries (at_price p last) rows) Sell)))

-- the orders of a list are closed at the price p, with two work lists; the print is the answer
abbrev pub close_answer : State → Held Row → List ℕ → List ℕ → ℕ → Result Print SessionFault
close_answer s orders claims gifts p =
    ask (not s.done) Done (
    ask (is_price p) OutOfLimits (
    ask (lets_now s event.Close) NotNow (
    ask_for s.sale NoSale (λ last.
    ask (have_room orders claims gifts) NoPlace (
    ask (not (unfillable (orders_at orders (at_price p last)))) Unfillable (
    Ok (record { price = p; volume = traded (orders_at orders (at_price p last)) })))))))
