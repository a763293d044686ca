use Rattle.player.proofs.Playing.{at_err, nothing_written}
use Rattle.player.proofs.play_alone.Goals as goal

pub returns-in_err-refuse_argument : goal.returns-in_err-refuse_argument
returns-in_err-refuse_argument g c = record { tape = at_err _ c.from_residual.result c.from_residual.ensures.0 (nothing_written g.S.Sharing.LOT (g.S.Sharing.meaning c.args.method.now) (g.I.Source.input c.args.input.now) (g.O.Sink.output c.args.output.now)) }
