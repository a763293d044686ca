-- The rows of a list as orders at a price. Assumes nothing.
use Rattle.std.specs.Prelude.{if◌then◌else◌, List, map, None}
use Rattle.std.specs.Option.{option_map}
use Rattle.list.specs.declared.List.{List as Held}
use Rattle.list.specs.Held.{kept}
use Rattle.order.specs.declared.kind.Row.{Row}
use Rattle.order.specs.declared.terms.Terms.{Terms}
use Rattle.order.specs.Rows.{sound}
use Rattle.order.specs.Classes.{rank_of, class_of}
use Rattle.book.specs.declared.entry.Entry.{Entry}

-- a row's side, its size and the rank of its class on these terms; a row that fails its check has no rank
abbrev pub entered : Terms → Row → Entry
entered terms r = record { side = r.side; rank = (if sound r then option_map rank_of (class_of r terms) else None); size = r.size }

-- the rows of a list on these terms
abbrev pub entries : Terms → List Row → List Entry
entries terms rows = map (entered terms) rows

-- the orders of a list on these terms
abbrev pub orders_at : Held Row → Terms → List Entry
orders_at l terms = entries terms (kept l)
