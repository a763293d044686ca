use Rattle.std.proofs.Common.{rules, arith}
use Rattle.sharing.specs.Shares.{Divides}
use Rattle.life.proofs.Living.{more, lived_whole, opens}
use Rattle.life.proofs.live.Goals as goal

pub loop-place-preserved : goal.loop-place-preserved
loop-place-preserved g c =
    more _ c.loop-place.invariant _ _ _ (omega (arith, c.loop-place-test.true)) (omega (arith, c.if-answers-calls.false, c.loop-place-test.true))
    c.apply.ensures.value c.apply.ensures.after c.apply.ensures.work

pub returns-clause-whole : goal.returns-clause-whole
returns-clause-whole g c =
    let method = c.args.method.now in
    let laws = g.met.S.Sharing in
    let divides : Divides (g.S.Sharing.meaning method) = record { paired = laws.paired method; within = laws.within method; spends = laws.spends method } in
    lived_whole _ c.loop-place.invariant divides (opens c.args.orders.now c.args.notices.now c.args.claims.now c.args.gifts.now) (search rules)
