use Rattle.std.proofs.Common.{Ok, rules}
use Rattle.list.specs.Held.{kept}
use Rattle.session.proofs.Keeping.{publishes}
use Rattle.session.proofs.session.Session.publish.Goals as goal

pub returns-in_err-ask-3-clause-life : goal.returns-in_err-ask-3-clause-life
returns-in_err-ask-3-clause-life c = publishes c.args.self.now (kept c.args.orders.now) c.args.notices.now c.args.significant c.from_residual-in_err-ask-3.result c.args.notices.now (search rules) (search rules)

pub returns-in_err-map_err-clause-life : goal.returns-in_err-map_err-clause-life
returns-in_err-map_err-clause-life c = publishes c.args.self.now (kept c.args.orders.now) c.args.notices.now c.args.significant c.from_residual-in_err-map_err.result c.push.new.self (search rules) (search rules)

pub returns-clause-life : goal.returns-clause-life
returns-clause-life c = publishes c.args.self.now (kept c.args.orders.now) c.args.notices.now c.args.significant (Ok c.notice-notice.result) c.push.new.self (search rules) (search rules)
