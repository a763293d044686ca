-- The texts of ticks and of a refusal. Assumes nothing.
use Rattle.std.specs.Prelude.{ℕ, List, codes}
use Rattle.order.specs.declared.sale.Tick.{Tick}
use Rattle.order.specs.declared.sale.Tick.TheVariants.{Plus, Minus}

-- a tick in words
abbrev pub tick_text : Tick → List ℕ
tick_text Plus = codes "plus"
tick_text Minus = codes "minus"

-- a row fails its check
abbrev pub unsound_text : List ℕ
unsound_text = codes "size, filled shares, price or mark are not those of an order"
