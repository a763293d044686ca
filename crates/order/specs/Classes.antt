-- The seven classes, and the class of an order at a price. Assumes nothing.
use Rattle.std.specs.Prelude.{ℕ, Bool, true, false, if◌then◌else◌, Some, None, Option}
use Rattle.order.specs.declared.class.Class.{Class}
use Rattle.order.specs.declared.class.Class.TheVariants.{MustExecute, BookAt, LimitAt, MarkedMarketAt, MarkedLimitAt, YieldingIn, OffsetIn}
use Rattle.order.specs.declared.kind.Kind.{Kind}
use Rattle.order.specs.declared.kind.Kind.TheVariants.{MarketOnClose, Crowd, LimitOnClose, Book, MarketMaker, ClosingOffset, Yielding, Stop}
use Rattle.order.specs.declared.kind.Row.{Row}
use Rattle.order.specs.declared.limit.Standing.{Standing}
use Rattle.order.specs.declared.limit.Standing.TheVariants.{Better, At, Out}
use Rattle.order.specs.declared.terms.Terms.{Terms}
use Rattle.order.specs.Limits.{standing_of, elected}

-- the number of a class, which is its rank: a class is filled before those of higher number
abbrev pub rank_of : Class → ℕ
rank_of MustExecute = 0
rank_of BookAt = 1
rank_of LimitAt = 2
rank_of MarkedMarketAt = 3
rank_of MarkedLimitAt = 4
rank_of YieldingIn = 5
rank_of OffsetIn = 6

-- one class when better, another when at, and none when out
abbrev pub placed : Standing → Class → Class → Option Class
placed Better better at = Some better
placed At better at = Some at
placed Out better at = None

-- the class of an order by its kind and mark, how it stands to the price and, for a stop, whether it is elected
abbrev pub class_by : Kind → Bool → Standing → Bool → Option Class
class_by MarketOnClose false st el = Some MustExecute
class_by MarketOnClose true st el = placed st MustExecute MarkedMarketAt
class_by Crowd marked st el = Some MustExecute
class_by LimitOnClose false st el = placed st MustExecute LimitAt
class_by LimitOnClose true st el = placed st MustExecute MarkedLimitAt
class_by Book marked st el = placed st MustExecute BookAt
class_by MarketMaker marked st el = placed st BookAt BookAt
class_by ClosingOffset marked st el = placed st OffsetIn OffsetIn
class_by Yielding marked st el = placed st YieldingIn YieldingIn
class_by Stop marked st el = (if el then Some MustExecute else None)

-- the class of an order on these terms, or none. The last class, of closing offset orders, is open to the lighter side only
abbrev pub class_of : Row → Terms → Option Class
class_of r terms = class_by r.kind r.marked (standing_of r terms) (elected r.side r.price terms.price)
