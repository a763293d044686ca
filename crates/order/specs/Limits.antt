-- The effective limit of an order, and how it stands to a price. Assumes nothing.
use Rattle.std.specs.Prelude.{ℕ, ◌+◌, ◌-◌, min, max, Bool, true, false, if◌then◌else◌, Some, None, Option, ◌==◌, nat_le, nat_lt}
use Rattle.order.specs.declared.kind.Kind.{Kind}
use Rattle.order.specs.declared.kind.Kind.TheVariants.{MarketOnClose, Crowd, LimitOnClose, Book, MarketMaker, ClosingOffset, Yielding, Stop}
use Rattle.order.specs.declared.kind.Row.{Row}
use Rattle.order.specs.declared.kind.Side.{Side}
use Rattle.order.specs.declared.kind.Side.TheVariants.{Buy, Sell}
use Rattle.order.specs.declared.limit.Standing.{Standing}
use Rattle.order.specs.declared.limit.Standing.TheVariants.{Better, At, Out}
use Rattle.order.specs.declared.sale.Tick.{Tick}
use Rattle.order.specs.declared.sale.Tick.TheVariants.{Plus, Minus}
use Rattle.order.specs.declared.sale.Sale.{Sale}
use Rattle.order.specs.declared.terms.Terms.{Terms}

-- the tick bound. Of a marked sell: the last sale on a plus tick, one cent more on a minus tick. Of a marked buy: the last sale on a minus
-- tick, one cent less on a plus tick; it may be 0, which no price meets
abbrev pub bound : Side → Tick → ℕ → ℕ
bound Sell Plus last = last
bound Sell Minus last = last + 1
bound Buy Minus last = last
bound Buy Plus last = last - 1

-- the stricter of two limits: the lower for a buy, the higher for a sell
abbrev pub stricter : Side → ℕ → ℕ → ℕ
stricter Buy a b = min a b
stricter Sell a b = max a b

-- the effective limit by kind and mark, of a side, the price entered and the tick bound: of a marked market on close its bound, of a marked
-- limit on close the stricter of limit and bound; any other limit stands as entered. At the market there is none, and a stop has a trigger
abbrev pub limit_by : Kind → Bool → Side → ℕ → ℕ → Option ℕ
limit_by MarketOnClose true side entered b = Some b
limit_by MarketOnClose false side entered b = None
limit_by Crowd marked side entered b = None
limit_by LimitOnClose true side entered b = Some (stricter side entered b)
limit_by LimitOnClose false side entered b = Some entered
limit_by Book marked side entered b = Some entered
limit_by MarketMaker marked side entered b = Some entered
limit_by ClosingOffset marked side entered b = Some entered
limit_by Yielding marked side entered b = (if entered == 0 then None else Some entered)
limit_by Stop marked side entered b = None

-- the effective limit of the order in a row after the last sale
abbrev pub effective : Row → Sale → Option ℕ
effective r last = limit_by r.kind r.marked r.side r.price (bound r.side last.tick last.price)

-- a buy is better when its limit is above the price, at when equal, out when below; a sell is the mirror image
abbrev pub stands : Side → ℕ → ℕ → Standing
stands Buy limit p = (if nat_lt p limit then Better else (if limit == p then At else Out))
stands Sell limit p = (if nat_lt limit p then Better else (if limit == p then At else Out))

-- without a limit an order is better than every price
abbrev pub standing_by : Side → Option ℕ → ℕ → Standing
standing_by side None p = Better
standing_by side (Some limit) p = stands side limit p

-- how the order in a row stands on these terms
abbrev pub standing_of : Row → Terms → Standing
standing_of r terms = standing_by r.side (effective r terms.sale) terms.price

-- a buy stop is elected when the price is at or above its trigger, a sell stop when it is at or below
abbrev pub elected : Side → ℕ → ℕ → Bool
elected Buy trigger p = nat_le trigger p
elected Sell trigger p = nat_le p trigger
