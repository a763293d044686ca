-- Where a file comes from and where its tape goes, as a contract sees them. Assumes nothing.
use Rattle.std.specs.Prelude.{◌≡◌, ℕ, ◌+◌, Bool, List, Some, Option}

-- the bytes that reads will bring from here on, where they are known, and whether a read may fail
pub record Input : Type 0 where
  pub bytes : Option (List ℕ)
  pub may_fail : Bool

-- the bytes that were written, where they are known, and how many more are taken for sure, where that is known: then no flush fails
pub record Output : Type 0 where
  pub bytes : Option (List ℕ)
  pub room : Option ℕ

-- an output takes so many bytes for sure, and perhaps more
abbrev pub HasRoom : Output → ℕ → Type 0
HasRoom o count = (spare : ℕ) × (o.room ≡ Some (count + spare))
