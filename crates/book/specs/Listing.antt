-- Orders in a list by their numbers. Assumes nothing.
use Rattle.std.specs.Prelude.{ℕ, Bool, ◌&&◌, ◌==◌, List, Option, is_some, position}
use Rattle.order.specs.declared.kind.Row.{Row}
use Rattle.order.specs.Rows.{sound}

-- an order of this number; a row that fails its check is none
abbrev pub is_numbered : ℕ → Row → Bool
is_numbered n r = r.number == n && sound r

-- the place of the first order of this number, or none
abbrev pub place_of : ℕ → List Row → Option ℕ
place_of n rows = position (is_numbered n) rows

-- whether an order of this number is listed
abbrev pub is_listed : ℕ → List Row → Bool
is_listed n rows = is_some (place_of n rows)
