use Rattle.line.specs.Texts.{line_text}
use Rattle.tape.proofs.Sendings.{at_err, breaks_more}
use Rattle.tape.proofs.sending.write_line.Goals as goal

pub returns-in_err-make_room : goal.returns-in_err-make_room
returns-in_err-make_room g c = record { cases = at_err _ c.from_residual.result c.from_residual.ensures.0 (breaks_more (line_text c.args.line) c.in_err-make_room.ensures.cases) }
