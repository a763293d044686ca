use Rattle.std.proofs.Common.{◌≡◌, false}
use Rattle.tape.specs.Places.{lists}
use Rattle.tape.specs.Played.{lent}
use Rattle.tape.specs.Runs.{spot_of, standing}
use Rattle.tape.specs.Standing.{is_over}
use Rattle.tape.proofs.Whole.{Far}
use Rattle.tape.proofs.play.play_pieces.Given as goal

-- the file was not refused so far
abbrev pub invariant-loop-turn : goal.invariant-loop-turn
invariant-loop-turn g l = record {
  far : Far g.S.Sharing.LOT (g.S.Sharing.meaning l.method) (lent (g.I.Source.input l.fn.input) (g.O.Sink.output l.fn.output) (lists l.fn.orders l.fn.notices l.fn.claims l.fn.gifts))
      (g.I.Source.input l.input) (g.O.Sink.output l.output) (standing l.run l.orders l.notices l.claims l.gifts) l.unsent.items l.turn;
  going : is_over (spot_of l.run).place ≡ false;
}
