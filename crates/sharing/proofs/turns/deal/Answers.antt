use Rattle.std.proofs.Common.{refl, arith, rules}
use Rattle.sharing.proofs.Dealing.{amid_more, none_given, round_idle, round_more, spent_amid}
use Rattle.sharing.proofs.turns.deal.Goals as goal

pub rounds-init : goal.rounds-init
rounds-init c = none_given _ _ _ _ c.requires.paired (c.fill.ensures.after (λ y e. e))

pub loop-i-preserved : goal.loop-i-preserved
loop-i-preserved c = amid_more c.loop-i.invariant _ _ (omega arith) (omega arith) (omega arith)

pub rounds-preserved : goal.rounds-preserved
rounds-preserved c = search (rules, round_more)

pub returns-then-left-from : goal.returns-then-left-from
returns-then-left-from c = record {
  after = spent_amid c.rounds.invariant (amid_more c.loop-i.invariant 0 _ (omega arith) (omega arith) (omega arith)) refl;
}

pub returns-then-left-before : goal.returns-then-left-before
returns-then-left-before c = search (rules, round_idle)
