use Rattle.tape.specs.Places.{lists, places_of}
use Rattle.sharing.specs.Shares.{Divides}
use Rattle.tape.proofs.Upholding.{tape_upheld}
use Rattle.tape.proofs.Whole.{plays_ok}
use Rattle.tape.proofs.play.play_file.Goals as goal

pub returns-clause-succeeds : goal.returns-clause-succeeds
returns-clause-succeeds g c = plays_ok g.S.Sharing.LOT (g.S.Sharing.meaning c.args.method.now) c.play_pieces.result _ _ c.play_pieces.ensures.plays

pub returns-clause-upheld : goal.returns-clause-upheld
returns-clause-upheld g c =
    let method = c.args.method.now in
    let laws = g.met.S.Sharing in
    let divides : Divides (g.S.Sharing.meaning method) = record { paired = laws.paired method; within = laws.within method; spends = laws.spends method } in
    tape_upheld g.S.Sharing.LOT (g.S.Sharing.meaning method) divides (places_of (lists c.args.orders.now c.args.notices.now c.args.claims.now c.args.gifts.now))
