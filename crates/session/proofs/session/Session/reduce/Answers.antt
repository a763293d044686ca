use Rattle.std.proofs.Common.{[], rules}
use Rattle.session.specs.Replies.{accepted}
use Rattle.session.proofs.Keeping.{reduces}
use Rattle.session.proofs.session.Session.reduce.Goals as goal

pub returns-clause-ledger : goal.returns-clause-ledger
returns-clause-ledger c = (reduces c.args.self.now c.args.orders.now [] c.args.number c.args.size c.args.in_error accepted c.put.new.self (search rules) (search rules)).ledger

pub returns-clause-life : goal.returns-clause-life
returns-clause-life c = λ notices. (reduces c.args.self.now c.args.orders.now notices c.args.number c.args.size c.args.in_error accepted c.put.new.self (search rules) (search rules)).life
