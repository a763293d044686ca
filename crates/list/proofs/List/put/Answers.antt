use Rattle.std.proofs.Common.{rules}
use lib.Seq.{take-set-lt}
use Rattle.list.proofs.List.put.Goals as goal

pub returns-clause-items : goal.returns-clause-items
returns-clause-items g c = search (rules, take-set-lt)
