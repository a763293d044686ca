use Rattle.std.proofs.Common.{sym, ◌∙◌}
use Rattle.tape.proofs.Sendings.{at_err}
use Rattle.tape.proofs.Playing.{ends_on, ends_wrong, ends_out}
use Rattle.tape.proofs.play.play_end.Goals as goal

pub loop-line-preserved : goal.loop-line-preserved
loop-line-preserved g c =
    record {
      ends = ends_on c.loop-line.invariant.ends _ (sym c.in-Some.ensures.value) c.finish.ensures.after c.in-Some.ensures.types c.in_ok-write_line-in-Some.ensures.cases;
      session = c.finish.ensures.session ∙ c.loop-line.invariant.session;
    }

pub returns-in_err-write_line-in-Some-clause-cases : goal.returns-in_err-write_line-in-Some-clause-cases
returns-in_err-write_line-in-Some-clause-cases g c =
    at_err _ c.from_residual.result c.from_residual.ensures.0
    (ends_wrong c.loop-line.invariant.ends _ (sym c.in-Some.ensures.value) c.finish.ensures.after c.in_err-write_line-in-Some.ensures.cases)

pub returns-in-None-clause-cases : goal.returns-in-None-clause-cases
returns-in-None-clause-cases g c = ends_out c.loop-line.invariant.ends _ _ c.send_now.result (sym c.in-None.ensures.value) c.send_now.ensures.cases
