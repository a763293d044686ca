use Rattle.std.proofs.Common.{◌≡◌, ◌≤◌, take}
use Rattle.division.specs.Numbers.{value}
use Rattle.division.proofs.reading.number.Given as goal

-- the number that the digits read so far write
abbrev pub invariant-loop-byte : goal.invariant-loop-byte
invariant-loop-byte l = record { reads : l.value ≡ value (take l.byte-index l.word); within : l.value ≤ l.limit }
