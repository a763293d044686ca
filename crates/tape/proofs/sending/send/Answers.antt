use Rattle.std.proofs.Common.{◌≡◌, ◌<◌, length, ap, rules, Bor, List, ℕ}
use Rattle.tape.proofs.Sendings.{going_on, going_again, going_done, going_wrong, going_nowhere}
use Rattle.tape.proofs.sending.send.Goals.{in-Ok, in-Err}
use Rattle.tape.proofs.sending.send.Goals as goal

pub loop-turn-preserved : goal.loop-turn-preserved
loop-turn-preserved g c =
    let some : 0 < length c.loop-turn.rest.now = search rules in
    elim c.match-write.branch [
      | in-Ok w ↦ going_on c.loop-turn.invariant c.match-write.rest.now w.in-Ok.ensures.bound some w.in-Ok.ensures.bytes w.in-Ok.ensures.some w.in-Ok.ensures.spends (ap (λ (r : Bor (List ℕ)). r.now) w.rest-is)
      | in-Err w ↦ going_again c.loop-turn.invariant c.match-write.rest.now w.in-Err.ensures.bytes w.in-Err.ensures.fails (ap (λ (r : Bor (List ℕ)). r.now) w.rest-is)
    ]

pub returns-then-is_empty : goal.returns-then-is_empty
returns-then-is_empty g c =
    let none : length c.loop-turn.rest.now ≡ 0 = search rules in
    record { cases = going_done c.loop-turn.invariant none }

pub returns-in-Err-2 : goal.returns-in-Err-2
returns-in-Err-2 g c = record { cases = going_wrong c.loop-turn.invariant c.in-Err.ensures.bytes c.in-Err.ensures.fails }

pub returns-in-Ok-eq0 : goal.returns-in-Ok-eq0
returns-in-Ok-eq0 g c =
    let some : 0 < length c.loop-turn.rest.now = search rules in
    let wrote = rw c.in-Ok-eq0.is at c.write.ensures.bytes in
    let takes = rw c.in-Ok-eq0.is at c.write.ensures.some in
    record { cases = going_nowhere c.loop-turn.invariant c.in-Ok-eq0.field-0-test some wrote takes }
