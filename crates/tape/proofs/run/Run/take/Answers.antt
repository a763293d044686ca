use Rattle.std.proofs.Common.{arith, ◌≤◌, length}
use Rattle.std.proofs.lemmas.List.{length-take-le}
use Rattle.tape.proofs.Taking.{message-taken}
use Rattle.tape.specs.Runs.{standing}
use Rattle.tape.proofs.run.Run.take.Goals as goal

pub returns-in-Some-whole_message_next-clause-value : goal.returns-in-Some-whole_message_next-clause-value
returns-in-Some-whole_message_next-clause-value g c =
    let front = c.in-Some.ensures.cases in
    let enough : 16 ≤ length c.args.bytes.now = omega (arith, front.2) in
    let next = c.in-Some-whole_message_next.ensures.at in
    message-taken g.S.Sharing.LOT (g.S.Sharing.meaning c.args.method.now) (standing c.args.self.now c.args.orders.now c.args.notices.now c.args.claims.now c.args.gifts.now)
    (standing c.take_message-line.new.self c.take_message-line.new.orders c.take_message-line.new.notices c.take_message-line.new.claims c.take_message-line.new.gifts)
    c.in-Some-whole_message_next.number _ c.take_message-line.result next.1 next.0 (length-take-le 16 c.args.bytes.now enough) (rw (← front.0) c.take_message-line.ensures.value)
