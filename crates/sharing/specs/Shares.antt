-- An amount shared among claims, and what every sharing method owes. Assumes nothing.
use Rattle.std.specs.Prelude.{◌≡◌, ℕ, ◌+◌, ◌%◌, ◌<◌, ◌≤◌, min, Bool, if◌then◌else◌, ◌⊎◌, List, [], ◌∷◌, length, Ok, Err, Result, ◌==◌, ◌≢◌, slice_index, codes}
use Rattle.sharing.specs.declared.Unequal.{Unequal}

-- all claims, or all gifts, together
abbrev pub total : List ℕ → ℕ
total [] = 0
total (x ∷ xs) = x + total xs

-- no gift exceeds its claim
abbrev pub Within : List ℕ → List ℕ → Type 0
Within claims gifts = (i : ℕ) → i < length claims → slice_index gifts i ≤ slice_index claims i

-- a gift is its claim or a multiple of the lot
abbrev pub InLots : ℕ → ℕ → ℕ → Type 0
InLots lot claim gift = (gift ≡ claim) ⊎ (gift % lot ≡ 0)

-- every gift is so, save for at most one claimant, k
abbrev pub Lotted : ℕ → List ℕ → List ℕ → Type 0
Lotted lot claims gifts = (k : ℕ) × ((i : ℕ) → i < length claims → (i ≢ k) → InLots lot (slice_index claims i) (slice_index gifts i))

-- claims and gifts are equally long
abbrev pub equally_long : List ℕ → List ℕ → Bool
equally_long claims gifts = length claims == length gifts

-- the one refusal
abbrev pub unequal : Unequal
unequal = record {}

-- the question that it answers no: are claims and gifts equally long?
abbrev pub unequal_question : ℕ
unequal_question = 22

-- what it prints
abbrev pub unequal_text : List ℕ
unequal_text = codes "claims and gifts are not equally long"

-- the answer of a method: it refuses just where claims and gifts are not equally long
abbrev pub answer : List ℕ → List ℕ → Result (Unit {0}) Unequal
answer claims gifts = (if equally_long claims gifts then Ok tt else Err unequal)

-- what the gifts hold then: the shares, and after a refusal what they held
abbrev pub given : List ℕ → List ℕ → List ℕ → List ℕ
given claims gifts shares = (if equally_long claims gifts then shares else gifts)

-- a meaning divides every amount among any claims
pub record Divides (meaning : ℕ → List ℕ → List ℕ) : Type 0 where
  -- there are as many gifts as claims
  pub paired : (amount : ℕ) (claims : List ℕ) → length (meaning amount claims) ≡ length claims
  -- no gift exceeds its claim
  pub within : (amount : ℕ) (claims : List ℕ) → Within claims (meaning amount claims)
  -- the gifts add up to the lesser of the amount and all claims
  pub spends : (amount : ℕ) (claims : List ℕ) → total (meaning amount claims) ≡ min amount (total claims)
