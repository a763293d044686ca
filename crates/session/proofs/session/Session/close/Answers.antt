use Rattle.std.proofs.Common.{true, Ok, rules}
use Rattle.sharing.specs.Shares.{Divides}
use Rattle.session.proofs.Closing.{Closes, closes}
use Rattle.session.proofs.session.Session.close.Given.{Over}
use Rattle.session.proofs.session.Session.close.Goals as goal

-- a method that keeps its laws divides
divides : (g : Over) (method : g.row.S.Denot) → Divides (g.S.Sharing.meaning method)
divides g method = let laws = g.met.S.Sharing in record { paired = laws.paired method; within = laws.within method; spends = laws.spends method }

-- a close whose fill is refused
refused_closes : (g : Over) (c : goal.After-from_residual-in_err-volume g)
    → Closes c.args.self.now c.args.orders.now c.args.claims.now c.args.gifts.now c.args.price c.from_residual-in_err-volume.result c.args.self.now c.fill.new.rows
refused_closes g c = closes _ _ _ _ _ _ (divides g c.args.method.now) _ _ _ (search rules) (search rules) (search rules)

-- a close that is accepted
accepted_closes : (g : Over) (c : goal.After-self-1 g)
    → Closes c.args.self.now c.args.orders.now c.args.claims.now c.args.gifts.now c.args.price (Ok (record { price = c.args.price; volume = c.in_ok-volume.volume }))
    (record { time = c.self.inside.time; sale = c.self.inside.sale; quote = c.self.inside.quote; done = true }) c.fill.new.rows
accepted_closes g c = closes _ _ _ _ _ _ (divides g c.args.method.now) _ _ _ (search rules) (search rules) (search rules)

pub returns-in_err-volume-clause-ledger : goal.returns-in_err-volume-clause-ledger
returns-in_err-volume-clause-ledger g c = (refused_closes g c).ledger

pub returns-in_err-volume-clause-upheld : goal.returns-in_err-volume-clause-upheld
returns-in_err-volume-clause-upheld g c = (refused_closes g c).upheld

pub returns-in_err-volume-clause-life : goal.returns-in_err-volume-clause-life
returns-in_err-volume-clause-life g c = (refused_closes g c).life

pub returns-clause-ledger : goal.returns-clause-ledger
returns-clause-ledger g c = (accepted_closes g c).ledger

pub returns-clause-upheld : goal.returns-clause-upheld
returns-clause-upheld g c = (accepted_closes g c).upheld

pub returns-clause-life : goal.returns-clause-life
returns-clause-life g c = (accepted_closes g c).life
