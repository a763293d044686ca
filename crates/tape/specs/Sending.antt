-- Bytes are held back, and sent together. Assumes nothing.
use Rattle.std.specs.Prelude.{◌≡◌, ℕ, ◌+◌, List, ◌++◌, length}
use Rattle.std.specs.Io.KnownBytes.{Appends}
use Rattle.tape.specs.Ends.{Output, HasRoom}

-- some bytes were held back, more came, and others are held back then: what came between went to the output
pub record Sends (before after : Output) (unsent left more : List ℕ) : Type 0 where
  pub sent : List ℕ
  pub split : unsent ++ more ≡ sent ++ left
  pub wrote : Appends before.bytes after.bytes sent
  pub spent : (count : ℕ) → HasRoom before (length sent + count) → HasRoom after count

-- of these bytes a beginning went to the output, which had no room for sure for all of them
pub record Breaks (before after : Output) (bytes : List ℕ) : Type 0 where
  pub sent : List ℕ
  pub unsent : List ℕ
  pub split : bytes ≡ sent ++ unsent
  pub wrote : Appends before.bytes after.bytes sent
  pub short : HasRoom before (length bytes) → ⊥
