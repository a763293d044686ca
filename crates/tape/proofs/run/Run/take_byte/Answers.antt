use Rattle.std.proofs.Common.{rules}
use Rattle.tape.proofs.run.Run.take_byte.Goals as goal

pub returns-in-Header : goal.returns-in-Header
returns-in-Header g c =
    let is = c.take_in_header.ensures.value (g.S.Sharing.meaning c.args.method.now) c.args.orders.now c.args.notices.now c.args.claims.now c.args.gifts.now in
    record { value = search (rules, is); types = c.take_in_header.ensures.types }
