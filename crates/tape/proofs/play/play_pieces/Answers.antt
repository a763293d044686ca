use Rattle.std.proofs.Common.{◌≡◌, ◌<◌, false, sym, ap, ◌∙◌, arith, length, take}
use Rattle.tape.specs.Runs.{spot_of}
use Rattle.tape.specs.Standing.{Standing, is_over}
use Rattle.tape.proofs.Whole.{read_none, far_begun, far_on, far_again, far_input, far_stops, far_end, far_over, far_endless}
use Rattle.tape.proofs.play.play_pieces.Goals.{in-Ok+in_default+else-is_over, in-Err}
use Rattle.tape.proofs.play.play_pieces.Goals as goal

pub loop-turn-init : goal.loop-turn-init
loop-turn-init g c =
    let opened = c.open-run.ensures.value c.args.claims.now c.args.gifts.now in
    record { far = far_begun opened c.new-unsent.ensures; going = ap (λ (s : Standing). is_over s.spot.place) opened }

pub returns-in-Ok-eq0 : goal.returns-in-Ok-eq0
returns-in-Ok-eq0 g c =
    let read = rw c.in-Ok-eq0.is at c.read.ensures.bytes in
    let room : 0 < length c.read.new.piece = omega (arith, c.requires, c.loop-turn.auto.piece, c.read.auto.piece) in
    record {
      plays = rw c.of_output.ensures.value
          (far_end _ _ _ (g.met.S.Sharing.paired c.args.method.now) c.loop-turn.invariant.far _ _ c.play_end.result
          (read_none _ _ c.in-Ok-eq0.field-0 _ c.in-Ok-eq0.field-0-test read.0) (read.1 c.in-Ok-eq0.field-0-test room) c.play_end.ensures.cases);
    }

pub returns-in-Err-played : goal.returns-in-Err-played
returns-in-Err-played g c =
    record { plays = far_stops _ _ _ (g.met.S.Sharing.paired c.args.method.now) c.loop-turn.invariant.far _ c.in-Ok.ensures.bytes.0 c.in-Err-played.ensures.cases c.in-Err-played.error }

pub returns-then-is_over : goal.returns-then-is_over
returns-then-is_over g c =
    let some : 0 < length (take c.in-Ok.count c.read.new.piece) = omega (arith, c.in-Ok.count-test, c.in-Ok.ensures.bound.1) in
    let on = far_on c.loop-turn.invariant.far c.read.ensures.stays c.in-Ok.ensures.bytes.0 some c.in_default.ensures.cases c.in_default.ensures.forgotten in
    record {
      plays = rw c.of_output-then-is_over.ensures.value
          (far_over _ _ _ (g.met.S.Sharing.paired c.args.method.now) on _ c.play_end-then-is_over.result (sym c.is_over.ensures.value ∙ c.if-is_over.true) c.play_end-then-is_over.ensures.cases);
    }

pub returns-in-Err-2 : goal.returns-in-Err-2
returns-in-Err-2 g c =
    record { plays = far_input _ _ _ (g.met.S.Sharing.paired c.args.method.now) c.loop-turn.invariant.far _ c.in-Err.ensures.bytes c.in-Err.ensures.fails c.in-Err.error }

pub returns : goal.returns
returns g c =
    record { plays = far_endless _ _ _ (g.met.S.Sharing.paired c.args.method.now) c.loop-turn.invariant.far c.loop-turn.invariant.going (omega (arith, c.loop-turn-test.false)) c.from.result }

pub loop-turn-preserved : goal.loop-turn-preserved
loop-turn-preserved g c =
    elim c.match-read.branch [
      | in-Ok+in_default+else-is_over w ↦
          let some : 0 < length (take w.in-Ok.count c.read.new.piece) = omega (arith, w.in-Ok.count-test, w.in-Ok.ensures.bound.1) in
          let going : is_over (spot_of w.play_piece-played.new.run).place ≡ false = sym w.is_over.ensures.value ∙ w.if-is_over.false in
          rw (w.output-is, w.orders-is, w.notices-is, w.claims-is, w.gifts-is, w.run-is, w.unsent-is)
          (record { far = far_on c.loop-turn.invariant.far c.read.ensures.stays w.in-Ok.ensures.bytes.0 some w.in_default.ensures.cases w.in_default.ensures.forgotten; going = going })
      | in-Err w ↦
          rw (w.output-is, w.orders-is, w.notices-is, w.claims-is, w.gifts-is, w.run-is, w.unsent-is)
          (record { far = far_again c.loop-turn.invariant.far c.read.ensures.stays w.in-Err.ensures.bytes w.in-Err.ensures.fails; going = c.loop-turn.invariant.going })
    ]
