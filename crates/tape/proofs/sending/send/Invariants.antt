use Rattle.tape.proofs.Sendings.{Going}
use Rattle.tape.proofs.sending.send.Given as goal

abbrev pub invariant-loop-turn : goal.invariant-loop-turn
invariant-loop-turn g l = Going l.bytes (g.O.Sink.output l.fn.output) (g.O.Sink.output l.output) l.rest l.turn
