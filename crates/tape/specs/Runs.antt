-- A run as its contracts see it. Assumes nothing.
use Rattle.std.specs.Prelude.{ℕ, List, None}
use Rattle.list.specs.declared.List.{List as Held}
use Rattle.order.specs.declared.kind.Row.{Row}
use Rattle.session.specs.declared.notice.Notice.{Notice}
use Rattle.session.specs.Moments.{moment, work_of}
use Rattle.session.specs.States.{State}
use Rattle.life.specs.Stages.{Stage}
use Rattle.tape.specs.declared.header.Awaited.TheVariants.{C}
use Rattle.tape.specs.declared.run.Run.{Run}
use Rattle.tape.specs.declared.run.Place.{Place as RunPlace}
use Rattle.tape.specs.declared.run.Place.TheVariants.{Header, Messages, Over}
use Rattle.tape.specs.Standing.{Place, in_header, in_message, over, Spot, Standing}

-- the place of a run, and the bytes of its message that have come
abbrev pub place_of : RunPlace → List ℕ → Place
place_of (Header awaited) come = in_header awaited
place_of (Messages n) come = in_message n come
place_of Over come = over

-- where a run stands in its file
abbrev pub spot_of : Run → Spot
spot_of r = record { place = place_of r.place r.begun; fills = r.fills }

-- a run has just begun
abbrev pub at_start : Spot
at_start = record { place = in_header C; fills = None }

-- what its session keeps
abbrev pub session_of : Run → State
session_of r = r.session

-- that, and what the run is lent
abbrev pub stage_of : Run → Held Row → Held Notice → List ℕ → List ℕ → Stage
stage_of r orders notices claims gifts = record { moment = moment (session_of r) orders notices; work = work_of claims gifts }

-- where a run stands, with what it is lent
abbrev pub standing : Run → Held Row → Held Notice → List ℕ → List ℕ → Standing
standing r orders notices claims gifts = record { spot = spot_of r; stage = stage_of r orders notices claims gifts }

-- a run has just begun, with a session that has opened at this stage
abbrev pub opened_at : Stage → Standing
opened_at st = record { spot = at_start; stage = st }
