-- The elements after a place, moved down by one over it. Assumes nothing.
use Rattle.std.proofs.Common.{◌≡◌, ℕ, ◌+◌, ◌-◌, ◌<◌, ◌≤◌, List, ◌++◌, length, take, drop, add-one, arith}
use Rattle.std.specs.List.{copy_within, remove}
use Rattle.std.proofs.lemmas.List.{drop-take, take-take}

pub closed : {X : Type 0} (s : List X) (at count : ℕ) → at < count → count ≤ length s → copy_within s (at + 1) count at ≡ remove (take count s) at ++ drop (count - 1) s
closed s at count l h =
    let n : ℕ = count - (at + 1) in
    let last : at + n ≡ count - 1 = omega arith in
    let all : at + 1 + n ≡ count = omega arith in
    let front : take at (take count s) ≡ take at s = take-take at count s (omega arith) in
    let moved : drop (at + 1) (take (at + 1 + n) s) ≡ take n (drop (at + 1) s) = drop-take (at + 1) n s in
    let next = add-one at in
    cc
