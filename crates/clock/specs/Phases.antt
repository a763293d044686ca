-- Times, and the phases that they begin. Assumes nothing.
use Rattle.std.specs.Prelude.{ℕ, Bool, if◌then◌else◌, nat_le, nat_lt}
use Rattle.clock.specs.declared.phase.Phase.{Phase}
use Rattle.clock.specs.declared.phase.Phase.TheVariants.{Regular, Imbalance, Final, Closing}

-- a time: 0 to 86,399 seconds after midnight
abbrev pub is_time : ℕ → Bool
is_time t = nat_le t 86399

-- the time at which a phase begins
abbrev pub begin_of : Phase → ℕ
begin_of Regular = 0
begin_of Imbalance = 56700  -- 15:45
begin_of Final = 57480  -- 15:58
begin_of Closing = 57600  -- 16:00

-- the phase at a time: each lasts until the next begins
abbrev pub phase_at : ℕ → Phase
phase_at t = (if nat_lt t (begin_of Imbalance) then Regular else (if nat_lt t (begin_of Final) then Imbalance else (if nat_lt t (begin_of Closing) then Final else Closing)))

-- it is 15:45 or later
abbrev pub is_late : ℕ → Bool
is_late t = nat_le (begin_of Imbalance) t
