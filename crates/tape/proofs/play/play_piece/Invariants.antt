use Rattle.std.proofs.Common.{length}
use Rattle.tape.specs.Runs.{standing}
use Rattle.tape.proofs.Pieces.{ahead}
use Rattle.tape.proofs.Playing.{Goes}
use Rattle.tape.proofs.play.play_piece.Given as goal

abbrev pub invariant-loop-line : goal.invariant-loop-line
invariant-loop-line g l =
    Goes g.S.Sharing.LOT (g.S.Sharing.meaning l.method) (standing l.fn.run l.fn.orders l.fn.notices l.fn.claims l.fn.gifts) (g.O.Sink.output l.fn.output) l.piece
    (standing l.run l.orders l.notices l.claims l.gifts) (g.O.Sink.output l.output) l.unsent.items l.rest

abbrev pub decreases-loop-line : goal.decreases-loop-line
decreases-loop-line g l = length (ahead g.S.Sharing.LOT (g.S.Sharing.meaning l.method) (standing l.run l.orders l.notices l.claims l.gifts) l.rest)
