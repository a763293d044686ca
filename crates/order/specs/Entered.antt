-- Orders as they are entered, and their rows. Assumes nothing.
use Rattle.std.specs.Prelude.{ℕ, Bool, ◌&&◌}
use Rattle.order.specs.declared.kind.Kind.{Kind}
use Rattle.order.specs.declared.kind.Row.{Row}
use Rattle.order.specs.declared.kind.Side.{Side}
use Rattle.order.specs.declared.ticket.Ticket.{Ticket}
use Rattle.order.specs.Kinds.{is_number}
use Rattle.order.specs.Rows.{sound}

-- the row of an order of which no share is filled
abbrev pub unfilled_row : ℕ → Kind → Side → Bool → ℕ → ℕ → Row
unfilled_row number kind side marked price size = record { number = number; kind = kind; side = side; marked = marked; price = price; size = size; filled = 0 }

-- the row of an order as it is entered, with no share filled
abbrev pub entered_row : Ticket → Row
entered_row t = unfilled_row t.number t.kind t.side t.marked t.price t.size

-- the order in a row as it was entered, whatever is filled
abbrev pub ticket_of : Row → Ticket
ticket_of r = record { number = r.number; kind = r.kind; side = r.side; marked = r.marked; price = r.price; size = r.size }

-- an order may be entered: its number is within its limits, and its row passes the check
abbrev pub sound_ticket : Ticket → Bool
sound_ticket t = is_number t.number && sound (entered_row t)
