-- What a program that plays a file has written. Assumes nothing.
use Rattle.std.specs.Prelude.{◌≡◌, ◌⊎◌, ℕ, List, ◌++◌, IfSome}
use Rattle.std.specs.Io.KnownBytes.{Appends}
use Rattle.tape.specs.Ends.{Input, Output}
use Rattle.tape.specs.Places.{Places}
use Rattle.tape.specs.Tapes.{tape_of}

-- the places of a session in a program: 1,024 for orders, 64 for notices, and as many as for orders in each work list
abbrev pub program_places : Places
program_places = record { orders = 1024; notices = 64; claims = 1024; gifts = 1024 }

-- closes are shared by a method of this lot and this meaning
module _ (lot : ℕ) (meaning : ℕ → List ℕ → List ℕ) where
  -- the tape of the file that the input brings was written
  pub record WritesTape (input : Input) (before after : Output) : Type 0 where
    pub file : List ℕ
    pub brings : IfSome input.bytes (λ known. tape_of lot meaning program_places known ≡ tape_of lot meaning program_places file)
    pub wrote : Appends before.bytes after.bytes (tape_of lot meaning program_places file)

  -- a beginning of it was written, some bytes or none or all
  pub record WritesBeginning (input : Input) (before after : Output) : Type 0 where
    pub file : List ℕ
    pub brings : IfSome input.bytes (λ known. known ≡ file)
    pub written : List ℕ
    pub rest : List ℕ
    pub begins : tape_of lot meaning program_places file ≡ written ++ rest
    pub wrote : Appends before.bytes after.bytes written

  -- a program that ends with status 0 has written the tape; else it ends with status 1, and a beginning of the tape is written
  abbrev pub StatusTells : ℕ → Input → Output → Output → Type 0
  StatusTells status input before after = ((status ≡ 0) × WritesTape input before after) ⊎ ((status ≡ 1) × WritesBeginning input before after)
