use Rattle.std.proofs.Common.{◌≡◌, ◌≤◌, length, drop, ◌-◌}
use Rattle.tape.specs.Standing.{fill_turn, further, taken_from}
use Rattle.tape.specs.Runs.{standing}
use Rattle.tape.proofs.run.Run.advance.Given as goal

-- what follows the bytes that were taken is what the piece leads to
abbrev pub invariant-loop-taken : goal.invariant-loop-taken
invariant-loop-taken g l = record {
  within : l.taken ≤ length l.piece;
  leads : taken_from g.S.Sharing.LOT (g.S.Sharing.meaning l.method) (fill_turn (standing l.fn.self l.fn.orders l.fn.notices l.fn.claims l.fn.gifts)).standing l.piece
      ≡ further l.taken (taken_from g.S.Sharing.LOT (g.S.Sharing.meaning l.method) (standing l.self l.orders l.notices l.claims l.gifts) (drop l.taken l.piece));
}

abbrev pub decreases-loop-taken : goal.decreases-loop-taken
decreases-loop-taken g l = length l.piece - l.taken
