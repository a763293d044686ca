-- A file and a tape in memory. Assumes nothing.
use Rattle.std.specs.Prelude.{ℕ, ◌-◌, false, List, length, take, Some}
use Rattle.tape.specs.declared.memory.Memory.{Memory}
use Rattle.tape.specs.Ends.{Input, Output}

-- the bytes that were written
abbrev pub written_in : Memory → List ℕ
written_in m = take m.count m.places.now

-- an output in memory: it takes a byte for each place that is left
abbrev pub output_of : Memory → Output
output_of m = record { bytes = Some (written_in m); room = Some (length m.places.now - m.count) }

-- an input of these bytes, which no read fails to bring
abbrev pub file_in_memory : List ℕ → Input
file_in_memory file = record { bytes = Some file; may_fail = false }
