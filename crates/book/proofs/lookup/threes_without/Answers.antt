use Rattle.std.proofs.Common.{refl, arith}
use Rattle.book.proofs.Looking.{three_more}
use Rattle.book.proofs.lookup.threes_without.Goals as goal

pub loop-first-preserved : goal.loop-first-preserved
loop-first-preserved c = (
  three_more c.args.number _ _ c.loop-first.first-index c.loop-first.passed c.args.rows.now c.as_chunks.result.0.now c.as_chunks.ensures.front refl c.loop-first-test.true
      c.as_chunks.ensures.front_len c.loop-first.invariant.1 c.if-first-number.false c.if-second-number.false c.if-third-number.false c.loop-first.invariant.0,
  omega (arith, c.loop-first.invariant.1),
)
