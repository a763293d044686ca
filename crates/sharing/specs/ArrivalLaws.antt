-- What sharing by arrival keeps. Assumes nothing.
use Rattle.std.specs.Prelude.{◌≡◌, ℕ, zero, suc, ◌+◌, ◌-◌, ◌<◌, ◌≤◌, min, List, [], ◌∷◌, length, take, drop, slice_index, slice_index_or, slice_set, refl}
use Rattle.std.proofs.Common.{ap, inr, arith}
use Rattle.std.proofs.Math.Nat.{mod-one}
use Rattle.std.proofs.lemmas.List.{append_assoc, append-nil, drop_all, drop_more, take_all, take_more_set}
use Rattle.sharing.specs.Shares.{total, Within, Lotted}
use Rattle.sharing.specs.Arrival.{arrival, served, FirstCome}

pub arrival_paired : (amount : ℕ) (cs : List ℕ) → length (arrival amount cs) ≡ length cs
arrival_paired amount [] = refl
arrival_paired amount (c ∷ cs) = ap suc (arrival_paired (amount - c) cs)

pub arrival_within : (amount : ℕ) (cs : List ℕ) → Within cs (arrival amount cs)
arrival_within amount [] i h = omega arith
arrival_within amount (c ∷ cs) zero h = omega arith
arrival_within amount (c ∷ cs) (suc i) h = arrival_within (amount - c) cs i (omega arith)

pub arrival_spends : (amount : ℕ) (cs : List ℕ) → total (arrival amount cs) ≡ min amount (total cs)
arrival_spends amount [] = omega arith
arrival_spends amount (c ∷ cs) = omega (arith, arrival_spends (amount - c) cs)

pub arrival_lots : (amount : ℕ) (cs : List ℕ) → Lotted 1 cs (arrival amount cs)
arrival_lots amount cs = (0, λ i h other. inr (mod-one (slice_index (arrival amount cs) i)))

-- of nothing nobody gets anything
arrival_none : (cs : List ℕ) (i : ℕ) → slice_index (arrival 0 cs) i ≡ 0
arrival_none [] i = refl
arrival_none (c ∷ cs) zero = omega arith
arrival_none (c ∷ cs) (suc i) = let less : 0 - c ≡ 0 = omega arith in rw less (arrival_none cs i)

pub arrival_first_come : (amount : ℕ) (cs : List ℕ) → FirstCome cs (arrival amount cs)
arrival_first_come amount [] i j later there short = omega arith
arrival_first_come amount (c ∷ cs) i zero later there short = absurd (omega arith)
arrival_first_come amount (c ∷ cs) zero (suc j) later there short =
    let spent : amount - c ≡ 0 = omega arith in
    rw spent (arrival_none cs j)
arrival_first_come amount (c ∷ cs) (suc i) (suc j) later there short =
    arrival_first_come (amount - c) cs i j (omega arith) (omega arith) short

-- one claimant more is served
pub served_more : (cs gs : List ℕ) (i left gift : ℕ) → i < length cs → length cs ≡ length gs → gift ≡ min left (slice_index cs i) → served (i + 1) (left - gift) cs (slice_set gs i gift) ≡ served i left cs gs
served_more cs gs i left gift h same is =
    let rest : arrival left (drop i cs) ≡ min (slice_index cs i) left ∷ arrival (left - slice_index cs i) (drop (i + 1) cs) = ap (arrival left) (drop_more cs i 0 h) in
    let more = take_more_set gs i gift (omega arith) in
    let first : min (slice_index cs i) left ≡ gift = omega arith in
    let less : left - gift ≡ left - slice_index_or cs i 0 = omega arith in
    let join = append_assoc (take i gs) (gift ∷ []) (arrival (left - gift) (drop (i + 1) cs)) in
    cc

-- every claimant is served
pub served_all : (cs gs : List ℕ) (i left : ℕ) → length cs ≤ i → length cs ≡ length gs → gs ≡ served i left cs gs
served_all cs gs i left h same =
    let none = drop_all i cs h in
    let all = take_all i gs (omega arith) in
    let nil : arrival left [] ≡ [] = refl in
    let join = append-nil gs in
    cc
