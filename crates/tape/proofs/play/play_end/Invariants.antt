use Rattle.std.proofs.Common.{◌≡◌, ◌+◌, length}
use Rattle.list.specs.Held.{kept}
use Rattle.tape.specs.Pieces.{answered}
use Rattle.tape.specs.Runs.{spot_of, session_of}
use Rattle.tape.specs.Standing.{last_line}
use Rattle.tape.proofs.Pieces.{fills_ahead}
use Rattle.tape.proofs.Playing.{Ends}
use Rattle.tape.proofs.play.play_end.Given as goal

abbrev pub invariant-loop-line : goal.invariant-loop-line
invariant-loop-line g l = record {
  ends : Ends (spot_of l.fn.run) (kept l.orders) (g.O.Sink.output l.fn.output) (spot_of l.run) (g.O.Sink.output l.output) l.unsent.items;
  session : session_of l.run ≡ session_of l.fn.run;
}

abbrev pub decreases-loop-line : goal.decreases-loop-line
decreases-loop-line g l = length (fills_ahead (spot_of l.run).fills (kept l.orders)) + length (answered (last_line (spot_of l.run).place))
