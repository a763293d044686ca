use Rattle.sharing.specs.Dealing.{Between, Amid}
use Rattle.sharing.proofs.turns.deal.Given as goal

abbrev pub invariant-rounds : goal.invariant-rounds
invariant-rounds l = Between l.amount l.claims l.left l.gifts

abbrev pub decreases-rounds : goal.decreases-rounds
decreases-rounds l = l.left

abbrev pub invariant-loop-i : goal.invariant-loop-i
invariant-loop-i l = Amid l.claims l.initial.gifts l.initial.left l.i l.left l.gifts
