use Rattle.std.proofs.Common.{[], rules}
use Rattle.session.specs.Replies.{accepted}
use Rattle.session.proofs.Keeping.{cancels}
use Rattle.session.proofs.session.Session.cancel.Goals as goal

pub returns-clause-ledger : goal.returns-clause-ledger
returns-clause-ledger c = (cancels c.args.self.now c.args.orders.now [] c.args.number c.args.in_error accepted c.remove.new.self (search rules) (search rules)).ledger

pub returns-clause-life : goal.returns-clause-life
returns-clause-life c = λ notices. (cancels c.args.self.now c.args.orders.now notices c.args.number c.args.in_error accepted c.remove.new.self (search rules) (search rules)).life
