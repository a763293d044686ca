-- The lives of sessions: their calls with the answers, and what an outsider reads from them. Assumes nothing.
use Rattle.std.specs.Prelude.{ℕ, Bool, false, ◌||◌, if◌then◌else◌, List, [], ◌∷◌, ◌++◌, Ok, Err, is_ok}
use Rattle.session.specs.declared.call.Call.{Call}
use Rattle.session.specs.declared.call.Call.TheVariants.{Time, Sale, Quote, Entry, Cancel, Reduction, Publication, Close}
use Rattle.session.specs.declared.call.Outcome.TheVariants.{Taken, Published, Printed}
use Rattle.session.specs.declared.notice.Notice.{Notice}
use Rattle.session.specs.Ledgers.{Ledger, empty, fed}
use Rattle.session.specs.Replies.{Answer, is_print}

-- a life: it has just begun, or a call was answered after an earlier life. These are calls with any answers; `Led` says which of them a session can have
pub data Life : Type 0 where
  begun : Life
  later : Life → Call → Answer → Life

-- the ledger of a life
abbrev pub ledger_of : Life → Ledger
ledger_of begun = empty
ledger_of (later life call answer) = fed (ledger_of life) call (is_ok answer)

-- the time after a call that was accepted
abbrev pub time_after : ℕ → Call → ℕ
time_after now (Time t) = t
time_after now (Sale p) = now
time_after now (Quote q) = now
time_after now (Entry t) = now
time_after now (Cancel n in_error) = now
time_after now (Reduction n size in_error) = now
time_after now (Publication significant) = now
time_after now (Close p) = now

-- the time of a life: the last one that was accepted, or 0
abbrev pub time_of : Life → ℕ
time_of begun = 0
time_of (later life call answer) = (if is_ok answer then time_after (time_of life) call else time_of life)

-- the notices of a life, in order
abbrev pub notices_of : Life → List Notice
notices_of begun = []
notices_of (later life call (Ok Taken)) = notices_of life
notices_of (later life call (Ok (Published n))) = notices_of life ++ n ∷ []
notices_of (later life call (Ok (Printed print))) = notices_of life
notices_of (later life call (Err fault)) = notices_of life

-- whether a close of a life was completed: it was answered with a print
abbrev pub was_closed : Life → Bool
was_closed begun = false
was_closed (later life call answer) = was_closed life || is_print answer
