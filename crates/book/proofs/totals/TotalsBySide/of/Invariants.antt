use Rattle.std.proofs.Common.{take}
use Rattle.order.specs.declared.kind.Side.TheVariants.{Buy, Sell}
use Rattle.book.specs.Entries.{entries}
use Rattle.book.proofs.Tallying.{Counting}
use Rattle.book.proofs.totals.TotalsBySide.of.Given as goal

abbrev pub invariant-loop-row : goal.invariant-loop-row
invariant-loop-row l =
    record {
      buy : Counting (entries l.terms (take l.row-index l.row-items)) Buy l.row-index l.buy_classes l.buy;
      sell : Counting (entries l.terms (take l.row-index l.row-items)) Sell l.row-index l.sell_classes l.sell;
    }
