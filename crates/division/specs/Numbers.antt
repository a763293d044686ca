-- The numbers that words write. Assumes nothing.
use Rattle.std.specs.Prelude.{ℕ, ◌+◌, ◌-◌, ◌*◌, Bool, if◌then◌else◌, ◌&&◌, List, Ok, Err, Result, nat_le}
use Rattle.std.specs.List.{list_all, fold}
use Rattle.division.specs.declared.Fault.{Fault}
use Rattle.division.specs.declared.Fault.TheVariants.{NoNumber, TooLarge}

-- a digit is one of the bytes "0" to "9"
abbrev pub digit : ℕ → Bool
digit b = nat_le 48 b && nat_le b 57

-- each byte of a word is a digit. A word is never empty
abbrev pub digits : List ℕ → Bool
digits word = list_all digit word

-- the number that digits write: each digit comes after ten times the number that those before it write
abbrev pub value : List ℕ → ℕ
value word = fold (λ n b. n * 10 + (b - 48)) 0 word

-- the number that the word at this place writes. A word with a byte that is no digit is no number, and a number above the limit is too large
unfoldable pub number_of : ℕ → ℕ → List ℕ → Result ℕ Fault
number_of limit place word =
    (if digits word then (if nat_le (value word) limit then Ok (value word) else Err (TooLarge place)) else Err (NoNumber place))
