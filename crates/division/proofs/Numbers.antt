-- The number that digits write, from the front.
use Rattle.std.proofs.Common.{ℕ, ◌+◌, ◌-◌, ◌*◌, ◌<◌, ◌≤◌, List, [], ◌∷◌, length, get_or, take, drop, take-append-drop, ap, arith}
use Rattle.std.proofs.lemmas.List.Sums.{fold_more, fold-append}
use Rattle.std.specs.List.{fold}
use Rattle.division.specs.Numbers.{value}

grows : (n : ℕ) (bs : List ℕ) → n ≤ fold (λ n b. n * 10 + (b - 48)) n bs
grows n [] = omega arith
grows n (b ∷ bs) = omega (arith, grows (n * 10 + (b - 48)) bs)

-- more digits write no smaller number
pub value_of_more : (word : List ℕ) (i : ℕ) → i < length word → value (take i word) * 10 + (get_or word i 0 - 48) ≤ value word
value_of_more word i h =
    let more = fold_more (λ n b. n * 10 + (b - 48)) 0 word i 0 h in
    let both = fold-append (λ n b. n * 10 + (b - 48)) 0 (take (i + 1) word) (drop (i + 1) word) in
    let whole = ap value (take-append-drop (i + 1) word) in
    omega (arith, more, both, whole, grows (value (take (i + 1) word)) (drop (i + 1) word))
