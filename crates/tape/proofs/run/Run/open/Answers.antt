use Rattle.tape.proofs.Alike.{places_decide}
use Rattle.tape.proofs.Pieces.{answers_each_file}
use Rattle.tape.proofs.Reading.{read_back}
use Rattle.tape.proofs.Upholding.{tape_upheld}
use Rattle.tape.specs.Places.{lists, opening, places_of}
use Rattle.tape.proofs.run.Run.open.Goals as goal

pub returns-clause-pieces : goal.returns-clause-pieces
returns-clause-pieces c = λ lot meaning divides claims gifts.
    let l = lists c.args.orders.now c.args.notices.now claims gifts in
    rw (c.open.ensures.value, c.open.ensures.orders, c.open.ensures.notices) (answers_each_file lot meaning (opening l) (places_of l) (places_decide lot meaning divides.paired l))

pub returns-clause-upheld : goal.returns-clause-upheld
returns-clause-upheld c = λ lot meaning divides claims gifts. tape_upheld lot meaning divides (places_of (lists c.args.orders.now c.args.notices.now claims gifts))

pub returns-clause-readable : goal.returns-clause-readable
returns-clause-readable c = read_back
