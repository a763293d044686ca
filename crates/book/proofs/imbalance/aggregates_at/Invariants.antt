use Rattle.std.proofs.Common.{◌≡◌, ◌*◌, ◌^◌, ◌≤◌, take}
use Rattle.order.specs.declared.kind.Side.TheVariants.{Buy, Sell}
use Rattle.book.specs.Imbalance.{aggregate_of}
use Rattle.book.proofs.imbalance.aggregates_at.Given as goal

abbrev pub invariant-loop-row : goal.invariant-loop-row
invariant-loop-row l =
    record {
      buy : l.buy ≡ aggregate_of (take l.row-index l.rows) l.terms Buy;
      sell : l.sell ≡ aggregate_of (take l.row-index l.rows) l.terms Sell;
      few_to_buy : l.buy ≤ l.row-index * 2 ^ 32;
      few_to_sell : l.sell ≤ l.row-index * 2 ^ 32;
    }
