use Rattle.std.proofs.Common.{rules}
use Rattle.book.proofs.Tallying.{counting_more}
use Rattle.book.proofs.totals.TotalsBySide.of.Goals as goal

pub loop-row-preserved : goal.loop-row-preserved
loop-row-preserved c = search (rules, counting_more)
