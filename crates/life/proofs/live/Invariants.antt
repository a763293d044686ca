use Rattle.life.specs.Stages.{at_opening}
use Rattle.session.specs.Moments.{moment, work_of}
use Rattle.life.proofs.Living.{Answered}
use Rattle.life.proofs.live.Given as goal

abbrev pub invariant-loop-place : goal.invariant-loop-place
invariant-loop-place g l =
    Answered (g.S.Sharing.meaning l.method) (at_opening l.fn.orders l.fn.notices l.fn.claims l.fn.gifts) l.calls l.fn.answers l.answers
    (record { moment = moment l.session l.orders l.notices; work = work_of l.claims l.gifts }) l.place
