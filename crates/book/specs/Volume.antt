-- How much trades at a price. Assumes nothing.
use Rattle.std.specs.Prelude.{ℕ, ◌+◌, min, Bool, if◌then◌else◌, ◌||◌, List, nat_lt}
use Rattle.order.specs.declared.kind.Side.TheVariants.{Buy, Sell}
use Rattle.book.specs.declared.entry.Entry.{Entry}
use Rattle.book.specs.Weight.{must_execute, open_to_both, first, in_class, weight}

-- V of the W to buy and to sell and the last class to buy and to sell: the lesser of the heavier W and the lighter W plus the lighter side's
-- last class; with equal sides it is their W
abbrev pub traded_by : ℕ → ℕ → ℕ → ℕ → ℕ
traded_by buy sell last_buy last_sell = (if nat_lt buy sell then min sell (buy + last_buy) else (if nat_lt sell buy then min buy (sell + last_sell) else buy))

-- V, what trades
abbrev pub traded : List Entry → ℕ
traded es = traded_by (weight es Buy) (weight es Sell) (in_class es Buy open_to_both) (in_class es Sell open_to_both)

-- the price is unfillable: what must execute on one of the sides exceeds V
abbrev pub unfillable : List Entry → Bool
unfillable es = nat_lt (traded es) (first es Buy must_execute) || nat_lt (traded es) (first es Sell must_execute)
