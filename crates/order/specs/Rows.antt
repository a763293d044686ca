-- Rows and orders: which rows are orders, and the row of an order. Assumes nothing.
use Rattle.std.specs.Prelude.{◌≡◌, ℕ, Bool, true, false, ◌&&◌, if◌then◌else◌, Some, None, Option, Ok, Err, Result, MatchResult, nat_le}
use Rattle.std.specs.Result.{result_map_both}
use Rattle.order.specs.declared.kind.Row.{Row}
use Rattle.order.specs.declared.record.Order.{Order}
use Rattle.order.specs.declared.record.Unsound.{Unsound}
use Rattle.order.specs.Kinds.{is_size, priced, marks}

-- a row passes the check: its size is within its limits, it is filled no further than that, and its price and its mark are in keeping
-- with its kind
abbrev pub sound : Row → Bool
sound r = is_size r.size && nat_le r.filled r.size && priced r.kind r.price && marks r.kind r.marked

-- the row of an order
abbrev pub row_of : Order → Row
row_of o = o.row

-- the refusal of a row that fails the check
abbrev pub no_order : Unsound
no_order = record {}

-- the row of the order that was made, or the refusal
abbrev pub row_made : Result Order Unsound → Result Row Unsound
row_made r = result_map_both row_of (λ fault. fault) r

-- an order is made from a row just where the row passes the check, and this is its row
abbrev pub checked : Row → Result Row Unsound
checked row = (if sound row then Ok row else Err no_order)

-- the same by cases, as a caller reads it: the order of that row, which passes the check, or the refusal of one that fails it
abbrev pub MadeFrom : Row → Result Order Unsound → Type 0
MadeFrom row r = MatchResult r (λ order. (sound row ≡ true) × (row_of order ≡ row)) (λ _. sound row ≡ false)

-- the same row with other filled shares
abbrev pub refilled : Row → ℕ → Row
refilled r n = record r { filled = n }

-- and one with no more of them than its size, or none
abbrev pub refilled_within : Row → ℕ → Option Row
refilled_within r n = (if nat_le n r.size then Some (refilled r n) else None)

-- the same row with another size, and no share filled
abbrev pub resized : Row → ℕ → Row
resized r n = record r { size = n; filled = 0 }
