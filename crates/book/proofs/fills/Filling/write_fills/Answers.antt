use Rattle.std.proofs.Common.{arith}
use Rattle.std.proofs.lemmas.Bool.{lt-ltb}
use Rattle.std.proofs.lemmas.Bool.Decides.{nat_tests}
use Rattle.list.specs.Held.{held}
use Rattle.book.proofs.Writing.{within, holds, more, finished}
use Rattle.book.proofs.fills.Filling.write_fills.Goals as goal

pub offset_bounds-elements-place : goal.offset_bounds-elements-place
offset_bounds-elements-place c = omega (arith, within c.loop-place.invariant c.loop-place-test.true)

pub bounds-elements-place : goal.bounds-elements-place
bounds-elements-place c = omega (arith, within c.loop-place.invariant c.loop-place-test.true)

pub filled-requires : goal.filled-requires
filled-requires c = rw c.elements.ensures.value (holds c.loop-place.invariant c.loop-place-test.true _ _)

pub unwrap-requires : goal.unwrap-requires
unwrap-requires c = let inside = within c.loop-place.invariant c.loop-place-test.true in grind (arith, nat_tests, c.put.ensures.value)

pub loop-place-preserved : goal.loop-place-preserved
loop-place-preserved c =
    let inside = lt-ltb c.loop-place.place (held c.loop-place.rows) (within c.loop-place.invariant c.loop-place-test.true) in
    rw (c.put.ensures.after, inside, c.filled.ensures.value, c.elements.ensures.value) (more c.loop-place.invariant c.loop-place-test.true _ _)

pub returns : goal.returns
returns c = record { after = finished c.loop-place.invariant (omega arith) }
