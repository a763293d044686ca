-- The imbalance of a list at the reference price. Assumes nothing.
use Rattle.std.specs.Prelude.{ℕ, ◌-◌, ◌*◌, ◌/◌, Bool, true, false, if◌then◌else◌, not, ◌&&◌, List, ℤ, pos, neg_ℤ, is_some, sum_by, nat_lt}
use Rattle.order.specs.declared.kind.Kind.{Kind}
use Rattle.order.specs.declared.kind.Kind.TheVariants.{MarketOnClose, Crowd, LimitOnClose, Book, MarketMaker, ClosingOffset, Yielding, Stop}
use Rattle.order.specs.declared.kind.Row.{Row}
use Rattle.order.specs.declared.kind.Side.{Side}
use Rattle.order.specs.declared.kind.Side.TheVariants.{Buy, Sell}
use Rattle.order.specs.declared.limit.Standing.{Standing}
use Rattle.order.specs.declared.limit.Standing.TheVariants.{Better, At, Out}
use Rattle.order.specs.declared.terms.Terms.{Terms}
use Rattle.order.specs.Classes.{class_of}
use Rattle.order.specs.Kinds.{is, on_close}
use Rattle.order.specs.Limits.{standing_of}
use Rattle.order.specs.Rows.{sound}

-- a size cut down to a multiple of 100
abbrev pub in_hundreds : ℕ → ℕ
in_hundreds n = n / 100 * 100

-- better than the price
abbrev pub is_better : Standing → Bool
is_better Better = true
is_better At = false
is_better Out = false

-- whether the aggregate takes unmarked orders of a kind: market on close, and limit on close better than the reference price
abbrev pub aggregates : Kind → Standing → Bool
aggregates MarketOnClose st = true
aggregates Crowd st = false
aggregates LimitOnClose st = is_better st
aggregates Book st = false
aggregates MarketMaker st = false
aggregates ClosingOffset st = false
aggregates Yielding st = false
aggregates Stop st = false

-- an order of the aggregate on these terms, whose price is the reference price
abbrev pub in_aggregate : Terms → Row → Bool
in_aggregate terms r = sound r && not r.marked && aggregates r.kind (standing_of r terms)

-- an order that offsets: market or limit on close, eligible on these terms, and outside the aggregate
abbrev pub in_offset : Terms → Row → Bool
in_offset terms r = sound r && on_close r.kind && is_some (class_of r terms) && not (in_aggregate terms r)

-- the sizes of a side's orders that pass a test, each cut down to hundreds, added up
abbrev pub hundreds : (Row → Bool) → Side → List Row → ℕ
hundreds test s rows = sum_by (λ r. (if is s r.side && test r then in_hundreds r.size else 0)) rows

-- the aggregate of a side
abbrev pub aggregate_of : List Row → Terms → Side → ℕ
aggregate_of rows terms s = hundreds (in_aggregate terms) s rows

-- what a side has to offset the other's aggregate
abbrev pub offset_of : List Row → Terms → Side → ℕ
offset_of rows terms s = hundreds (in_offset terms) s rows

-- by how much a side's aggregate exceeds the other's, brought towards 0, and never past it, by what offsets it on the other side
abbrev pub excess : List Row → Terms → Side → Side → ℕ
excess rows terms larger smaller = aggregate_of rows terms larger - aggregate_of rows terms smaller - offset_of rows terms smaller

-- the amount: positive is a buy imbalance, negative a sell imbalance
abbrev pub amount_of : List Row → Terms → ℤ
amount_of rows terms =
    (if nat_lt (aggregate_of rows terms Sell) (aggregate_of rows terms Buy)
    then pos (excess rows terms Buy Sell)
    else neg_ℤ (pos (excess rows terms Sell Buy)))
