use Rattle.std.proofs.Common.{◌≡◌, true, false, arith}
use Rattle.order.specs.declared.kind.Side.TheVariants.{Buy, Sell}
use Rattle.book.specs.Volume.{unfillable}
use Rattle.book.proofs.Planning.{plan_refused, plan_found}
use Rattle.book.proofs.volume.plan_by.Goals as goal

pub returns-then-exceeds : goal.returns-then-exceeds
returns-then-exceeds c =
    record {
      value = λ es b s.
          let whole = c.volume_by-volume.ensures.value es b s in
          let short : unfillable es ≡ true = grind (arith, c.exceeds.ensures.value, c.must_execute.ensures.value es Buy b, c.must_execute-2.ensures.value es Sell s) in
          plan_refused es short;
    }

pub returns : goal.returns
returns c =
    record {
      value = λ es b s.
          let whole = c.volume_by-volume.ensures.value es b s in
          let fillable : unfillable es ≡ false = grind (arith, c.exceeds.ensures.value, c.must_execute.ensures.value es Buy b, c.must_execute-2.ensures.value es Sell s) in
          plan_found es fillable _ _ _ whole (c.cut.ensures.value es Buy b whole) (c.cut-2.ensures.value es Sell s whole);
    }
