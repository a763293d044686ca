-- The plan of a price, from the totals of its sides. Assumes nothing.
use Rattle.std.proofs.Common.{◌≡◌, ℕ, true, false, List, Ok, Err}
use Rattle.order.specs.declared.kind.Side.TheVariants.{Buy, Sell}
use Rattle.book.specs.declared.entry.Entry.{Entry}
use Rattle.book.specs.declared.sides.Cut.{Cut}
use Rattle.book.specs.Plans.{cut_of, no_fill, Planned}
use Rattle.book.specs.Volume.{traded, unfillable}
use Rattle.book.proofs.Stands.{none, largest}
use Rattle.book.proofs.Whole.{one_left}

module _ (es : List Entry) where
  pub plan_refused : unfillable es ≡ true → Planned es (Err no_fill)
  plan_refused short = record { value = rw short; largest = none es short; one_left = tt }

  pub plan_found : unfillable es ≡ false → (v : ℕ) (b s : Cut) → v ≡ traded es → b ≡ cut_of es Buy → s ≡ cut_of es Sell → Planned es (Ok (record { volume = v; buy = b; sell = s }))
  plan_found fillable v b s whole buy sell = record { value = rw (fillable, whole, buy, sell); largest = rw whole (largest es fillable); one_left = rw (buy, sell) (one_left es) }
