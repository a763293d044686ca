use Rattle.std.proofs.Common.{rules}
use Rattle.list.specs.Held.{kept}
use Rattle.session.specs.Replies.{accepted}
use Rattle.session.proofs.Keeping.{enters}
use Rattle.session.proofs.session.Session.enter.Goals as goal

pub returns-in_err-map_err-clause-life : goal.returns-in_err-map_err-clause-life
returns-in_err-map_err-clause-life c = (enters c.args.self.now c.args.orders.now (kept c.args.notices.now) c.args.ticket c.from_residual-in_err-map_err.result c.push.new.self (search rules) (search rules)).life

pub returns-clause-ledger : goal.returns-clause-ledger
returns-clause-ledger c = (enters c.args.self.now c.args.orders.now (kept c.args.notices.now) c.args.ticket accepted c.push.new.self (search rules) (search rules)).ledger

pub returns-clause-life : goal.returns-clause-life
returns-clause-life c = (enters c.args.self.now c.args.orders.now (kept c.args.notices.now) c.args.ticket accepted c.push.new.self (search rules) (search rules)).life
