use Rattle.std.proofs.Common.{[], List, ℕ, sym, refl, subst}
use Rattle.std.proofs.lemmas.List.Elements.{All-nil}
use Rattle.line.specs.Reading.{OfTypes}
use Rattle.tape.specs.Sending.{Sends}
use Rattle.tape.specs.Tapes.{texts}
use Rattle.tape.proofs.Sendings.{at_err, sends_none}
use Rattle.tape.proofs.Playing.{went_none, goes_on, goes_down, goes_wrong, goes_out}
use Rattle.tape.proofs.play.play_piece.Goals as goal

pub loop-line-init : goal.loop-line-init
loop-line-init g c =
    let o = g.O.Sink.output c.args.output.now in
    record {
      bytes = [];
      lines = [];
      split = refl;
      went = went_none g.S.Sharing.LOT (g.S.Sharing.meaning c.args.method.now) _;
      sends = subst (λ (l : List ℕ). Sends o o [] l (texts [])) (sym c.requires) (sends_none o []);
      types = All-nil OfTypes;
    }

pub loop-line-smaller : goal.loop-line-smaller
loop-line-smaller g c = goes_down c.loop-line.invariant _ c.advance-next.ensures.value c.advance-next.ensures.after _ c.in-Some.is _ refl

pub loop-line-preserved : goal.loop-line-preserved
loop-line-preserved g c =
    goes_on c.loop-line.invariant _ c.advance-next.ensures.value c.advance-next.ensures.after _ c.in-Some.is _ (rw c.in-Some.is at c.advance-next.ensures.types) refl c.in_ok-write_line-in-Some.ensures.cases

pub returns-in_err-write_line-in-Some-clause-cases : goal.returns-in_err-write_line-in-Some-clause-cases
returns-in_err-write_line-in-Some-clause-cases g c =
    at_err _ c.from_residual.result c.from_residual.ensures.0
    (goes_wrong c.loop-line.invariant _ c.advance-next.ensures.value c.advance-next.ensures.after _ c.in-Some.is c.in_err-write_line-in-Some.ensures.cases)

pub returns-in-None-clause-cases : goal.returns-in-None-clause-cases
returns-in-None-clause-cases g c =
    goes_out c.loop-line.invariant _ c.advance-next.ensures.value c.advance-next.ensures.after _ _ c.send_now.result c.in-None.is (c.advance-next.ensures.all c.in-None.is) c.send_now.ensures.cases
