-- What sharing by turns keeps, and why as many rounds as shares are enough. Assumes nothing.
use Rattle.std.specs.Prelude.{◌≡◌, ℕ, zero, suc, ◌+◌, ◌-◌, ◌%◌, ◌<◌, ◌≤◌, min, ◌⊎◌, List, [], ◌∷◌, length, replicate, ◌≢◌, slice_index, refl}
use Rattle.std.specs.List.{AllZip}
use Rattle.std.proofs.Common.{sym, ap, subst, ◌∙◌, inl, inr, arith}
use Rattle.std.proofs.lemmas.Bool.{cases_lt}
use Rattle.std.proofs.lemmas.List.Elements.{AllZip-get_or}
use Rattle.std.proofs.lemmas.Slice.Zip.{AllZip-long}
use Rattle.sharing.specs.Shares.{total, Within, InLots, Lotted}
use Rattle.sharing.specs.Turns.{turn, round, rounds, turns, Level}
use Rattle.sharing.specs.Pairs.{each_zero, Fits, fits_total, total_zero}

-- One round.

pub round_fits : (left : ℕ) (cs gs : List ℕ) → Fits cs gs → Fits cs (round left cs gs)
round_fits left [] [] f = tt
round_fits left [] (g ∷ gs) f = absurd f
round_fits left (c ∷ cs) [] f = absurd f
round_fits left (c ∷ cs) (g ∷ gs) f = (omega arith, round_fits (left - turn left c g) cs gs f.1)

pub round_total : (left : ℕ) (cs gs : List ℕ) → Fits cs gs → (total gs ≤ total (round left cs gs)) × (total (round left cs gs) ≤ total gs + left)
round_total left [] [] f = omega arith
round_total left [] (g ∷ gs) f = absurd f
round_total left (c ∷ cs) [] f = absurd f
round_total left (c ∷ cs) (g ∷ gs) f = omega (arith, round_total (left - turn left c g) cs gs f.1)

-- a round gives something where something is left and somebody is short
pub round_gives : (left : ℕ) (cs gs : List ℕ) → Fits cs gs → 0 < left → total gs < total cs → total gs < total (round left cs gs)
round_gives left [] [] f some short = omega arith
round_gives left [] (g ∷ gs) f some short = absurd f
round_gives left (c ∷ cs) [] f some short = absurd f
round_gives left (c ∷ cs) (g ∷ gs) f some short =
    elim (cases_lt g c) [
      | inl here ↦ omega (arith, round_total (left - turn left c g) cs gs f.1)
      | inr full ↦ omega (arith, round_gives (left - turn left c g) cs gs f.1 (omega arith) (omega arith))
    ]

-- the amount is spent, or nobody is short
abbrev pub Over : ℕ → List ℕ → List ℕ → Type 0
Over left cs gs = (left ≡ 0) ⊎ (total cs ≤ total gs)

pub round_over : (left : ℕ) (cs gs : List ℕ) → Fits cs gs → Over left cs gs → round left cs gs ≡ gs
round_over left [] [] f o = refl
round_over left [] (g ∷ gs) f o = absurd f
round_over left (c ∷ cs) [] f o = absurd f
round_over left (c ∷ cs) (g ∷ gs) f (inl spent) =
    grind (arith, round_over (left - turn left c g) cs gs f.1 (inl (omega arith)))
round_over left (c ∷ cs) (g ∷ gs) f (inr full) =
    grind (arith, f.0, fits_total cs gs f.1, round_over (left - turn left c g) cs gs f.1 (inr (omega arith)))

-- Many rounds.

pub rounds_over : (n amount : ℕ) (cs gs : List ℕ) → Fits cs gs → Over (amount - total gs) cs gs → rounds n amount cs gs ≡ gs
rounds_over zero amount cs gs f o = refl
rounds_over (suc n) amount cs gs f o = ap (rounds n amount cs) (round_over (amount - total gs) cs gs f o) ∙ rounds_over n amount cs gs f o

rounds_fits : (n amount : ℕ) (cs gs : List ℕ) → Fits cs gs → Fits cs (rounds n amount cs gs)
rounds_fits zero amount cs gs f = f
rounds_fits (suc n) amount cs gs f =
    rounds_fits n amount cs (round (amount - total gs) cs gs) (round_fits (amount - total gs) cs gs f)

rounds_total : (n amount : ℕ) (cs gs : List ℕ) → Fits cs gs → total gs ≤ amount → total (rounds n amount cs gs) ≤ amount
rounds_total zero amount cs gs f h = h
rounds_total (suc n) amount cs gs f h =
    rounds_total n amount cs (round (amount - total gs) cs gs) (round_fits (amount - total gs) cs gs f)
    (omega (arith, round_total (amount - total gs) cs gs f))

-- after n rounds the division is over, or n shares at least were given
rounds_give : (n amount : ℕ) (cs gs : List ℕ) → Fits cs gs → Over (amount - total (rounds n amount cs gs)) cs (rounds n amount cs gs) ⊎ (total gs + n ≤ total (rounds n amount cs gs))
rounds_give zero amount cs gs f = inr (omega arith)
rounds_give (suc n) amount cs gs f =
    let left : ℕ = amount - total gs in
    let At : List ℕ → Type 0 = λ w. Over (amount - total w) cs w in
    let over : Over left cs gs → At (rounds (suc n) amount cs gs) = λ o. subst At (sym (rounds_over (suc n) amount cs gs f o)) o in
    elim (cases_lt 0 left) [
      | inr spent ↦ inl (over (inl (omega arith)))
      | inl some ↦ elim (cases_lt (total gs) (total cs)) [
        | inr full ↦ inl (over (inr full))
        | inl short ↦ elim (rounds_give n amount cs (round left cs gs) (round_fits left cs gs f)) [
          | inl o ↦ inl o
          | inr h ↦ inr (omega (arith, round_gives left cs gs f some short))
        ]
      ]
    ]

rounds_end : (amount : ℕ) (cs gs : List ℕ) → Fits cs gs → Over (amount - total (rounds amount amount cs gs)) cs (rounds amount amount cs gs)
rounds_end amount cs gs f = elim (rounds_give amount amount cs gs f) [ inl o ↦ o | inr h ↦ inl (omega arith) ]

-- a round ahead of n others is a round after them
rounds_last : (n amount : ℕ) (cs gs : List ℕ) → rounds n amount cs (round (amount - total gs) cs gs) ≡ round (amount - total (rounds n amount cs gs)) cs (rounds n amount cs gs)
rounds_last zero amount cs gs = refl
rounds_last (suc n) amount cs gs = rounds_last n amount cs (round (amount - total gs) cs gs)

-- a round more comes to the same
pub one_more : (amount : ℕ) (cs gs : List ℕ) → Fits cs gs → rounds amount amount cs (round (amount - total gs) cs gs) ≡ rounds amount amount cs gs
one_more amount cs gs f =
    rounds_last amount amount cs gs
    ∙ round_over (amount - total (rounds amount amount cs gs)) cs (rounds amount amount cs gs) (rounds_fits amount amount cs gs f) (rounds_end amount cs gs f)

-- Every claimant stands at one level, or the last round has come so far.

-- each gift is the lesser of its claim and the level
abbrev Flat : ℕ → List ℕ → List ℕ → Type 0
Flat level = AllZip (λ c g. g ≡ min c level)

-- the claimants up to one have had a turn above the level, that one perhaps in part, and the later ones have not
abbrev Dealt : ℕ → List ℕ → List ℕ → Type 0
Dealt level [] [] = Unit {0}
Dealt level [] (g ∷ gs) = ⊥
Dealt level (c ∷ cs) [] = ⊥
Dealt level (c ∷ cs) (g ∷ gs) = ((g ≡ min c (level + 100)) × Dealt level cs gs) ⊎ ((min c level ≤ g) × (g ≤ min c (level + 100)) × Flat level cs gs)

flat_dealt : (level : ℕ) (cs gs : List ℕ) → Flat level cs gs → Dealt level cs gs
flat_dealt level [] [] f = tt
flat_dealt level [] (g ∷ gs) f = absurd f
flat_dealt level (c ∷ cs) [] f = absurd f
flat_dealt level (c ∷ cs) (g ∷ gs) f = inr (omega arith, omega arith, f.1)

flat_fits : (level : ℕ) (cs gs : List ℕ) → Flat level cs gs → Fits cs gs
flat_fits level [] [] f = tt
flat_fits level [] (g ∷ gs) f = absurd f
flat_fits level (c ∷ cs) [] f = absurd f
flat_fits level (c ∷ cs) (g ∷ gs) f = (omega arith, flat_fits level cs gs f.1)

-- a round lifts every claimant to the next level, or the amount is spent in it
round_dealt : (left level : ℕ) (cs gs : List ℕ) → Flat level cs gs → Flat (level + 100) cs (round left cs gs) ⊎ (Dealt level cs (round left cs gs) × (total gs + left ≤ total (round left cs gs)))
round_dealt left level [] [] f = inl tt
round_dealt left level [] (g ∷ gs) f = absurd f
round_dealt left level (c ∷ cs) [] f = absurd f
round_dealt left level (c ∷ cs) (g ∷ gs) f =
    let rest : ℕ = left - turn left c g in
    elim (cases_lt left (min 100 (c - g))) [
      | inl few ↦
          let same : round rest cs gs ≡ gs = round_over rest cs gs (flat_fits level cs gs f.1) (inl (omega arith)) in
          inr (inr (omega arith, omega arith, subst (Flat level cs) (sym same) f.1), omega (arith, ap total same))
      | inr whole ↦ elim (round_dealt rest level cs gs f.1) [
        | inl flat ↦ inl (omega arith, flat)
        | inr dealt ↦ inr (inl (omega arith, dealt.0), omega arith)
      ]
    ]

rounds_dealt : (n amount level : ℕ) (cs gs : List ℕ) → level % 100 ≡ 0 → Flat level cs gs → (top : ℕ) × (top % 100 ≡ 0) × Dealt top cs (rounds n amount cs gs)
rounds_dealt zero amount level cs gs even f = (level, even, flat_dealt level cs gs f)
rounds_dealt (suc n) amount level cs gs even f =
    let left : ℕ = amount - total gs in
    let next : List ℕ = round left cs gs in
    elim (round_dealt left level cs gs f) [
      | inl flat ↦ rounds_dealt n amount (level + 100) cs next (omega arith) flat
      | inr dealt ↦
          let fits = round_fits left cs gs (flat_fits level cs gs f) in
          let same : rounds n amount cs next ≡ next = rounds_over n amount cs next fits (inl (omega arith)) in
          (level, even, subst (Dealt level cs) (sym same) dealt.0)
    ]

turns_dealt : (amount : ℕ) (cs : List ℕ) → (top : ℕ) × (top % 100 ≡ 0) × Dealt top cs (turns amount cs)
turns_dealt amount cs = rounds_dealt amount amount 0 cs (replicate (length cs) 0) refl (each_zero _ (λ c. omega arith) cs)

-- The laws.

pub zero_fits : (cs : List ℕ) → Fits cs (replicate (length cs) 0)
zero_fits = each_zero _ (λ c. omega arith)

turns_fits : (amount : ℕ) (cs : List ℕ) → Fits cs (turns amount cs)
turns_fits amount cs = rounds_fits amount amount cs (replicate (length cs) 0) (zero_fits cs)

pub turns_paired : (amount : ℕ) (cs : List ℕ) → length (turns amount cs) ≡ length cs
turns_paired amount cs = AllZip-long _ cs (turns amount cs) (turns_fits amount cs)

pub turns_within : (amount : ℕ) (cs : List ℕ) → Within cs (turns amount cs)
turns_within amount cs i = AllZip-get_or _ cs (turns amount cs) i 0 0 (turns_fits amount cs)

pub turns_spends : (amount : ℕ) (cs : List ℕ) → total (turns amount cs) ≡ min amount (total cs)
turns_spends amount cs =
    let none : List ℕ = replicate (length cs) 0 in
    omega (
      arith,
      rounds_total amount amount cs none (zero_fits cs) (omega (arith, total_zero (length cs))),
      fits_total cs (turns amount cs) (turns_fits amount cs),
      rounds_end amount cs none (zero_fits cs),
    )

-- a claim or a multiple of 100 is in lots
least_lotted : (c g level : ℕ) → level % 100 ≡ 0 → g ≡ min c level → InLots 100 c g
least_lotted c g level even e = elim (cases_lt c level) [ inl below ↦ inl (omega arith) | inr above ↦ inr (omega arith) ]

-- the one claimant that is perhaps not in lots is one further on, or first
lotted_later : (c g : ℕ) (cs gs : List ℕ) → InLots 100 c g → Lotted 100 cs gs → Lotted 100 (c ∷ cs) (g ∷ gs)
lotted_later c g cs gs here rest = (suc rest.0, at)
  where
    at : (i : ℕ) → i < length (c ∷ cs) → (i ≢ suc rest.0) → InLots 100 (slice_index (c ∷ cs) i) (slice_index (g ∷ gs) i)
    at zero h other = here
    at (suc i) h other = rest.1 i (omega arith) (λ e. other (ap suc e))

lotted_first : (c g level : ℕ) (cs gs : List ℕ) → level % 100 ≡ 0 → Flat level cs gs → Lotted 100 (c ∷ cs) (g ∷ gs)
lotted_first c g level cs gs even flat = (0, at)
  where
    at : (i : ℕ) → i < length (c ∷ cs) → (i ≢ 0) → InLots 100 (slice_index (c ∷ cs) i) (slice_index (g ∷ gs) i)
    at zero h other = absurd (other refl)
    at (suc i) h other = least_lotted (slice_index cs i) (slice_index gs i) level even (AllZip-get_or _ cs gs i 0 0 flat (omega arith))

dealt_lotted : (level : ℕ) (cs gs : List ℕ) → level % 100 ≡ 0 → Dealt level cs gs → Lotted 100 cs gs
dealt_lotted level [] gs even d = (0, λ i h other. absurd (omega arith))
dealt_lotted level (c ∷ cs) [] even d = absurd d
dealt_lotted level (c ∷ cs) (g ∷ gs) even (inl d) =
    lotted_later c g cs gs (least_lotted c g (level + 100) (omega arith) d.0) (dealt_lotted level cs gs even d.1)
dealt_lotted level (c ∷ cs) (g ∷ gs) even (inr d) = lotted_first c g level cs gs even d.2

pub turns_lots : (amount : ℕ) (cs : List ℕ) → Lotted 100 cs (turns amount cs)
turns_lots amount cs = let dealt = turns_dealt amount cs in dealt_lotted dealt.0 cs (turns amount cs) dealt.1 dealt.2

-- each gift lies between its claim's share of the level and that of the next
abbrev Banded : ℕ → List ℕ → List ℕ → Type 0
Banded level = AllZip (λ c g. (min c level ≤ g) × (g ≤ min c (level + 100)))

flat_banded : (level : ℕ) (cs gs : List ℕ) → Flat level cs gs → Banded level cs gs
flat_banded level [] [] f = tt
flat_banded level [] (g ∷ gs) f = absurd f
flat_banded level (c ∷ cs) [] f = absurd f
flat_banded level (c ∷ cs) (g ∷ gs) f = ((omega arith, omega arith), flat_banded level cs gs f.1)

dealt_banded : (level : ℕ) (cs gs : List ℕ) → Dealt level cs gs → Banded level cs gs
dealt_banded level [] [] d = tt
dealt_banded level [] (g ∷ gs) d = absurd d
dealt_banded level (c ∷ cs) [] d = absurd d
dealt_banded level (c ∷ cs) (g ∷ gs) (inl d) = ((omega arith, omega arith), dealt_banded level cs gs d.1)
dealt_banded level (c ∷ cs) (g ∷ gs) (inr d) = ((d.0, d.1), flat_banded level cs gs d.2)

pub turns_level : (amount : ℕ) (cs : List ℕ) → Level cs (turns amount cs)
turns_level amount cs i j i_there j_there short =
    let dealt = turns_dealt amount cs in
    let band = dealt_banded dealt.0 cs (turns amount cs) dealt.2 in
    omega (arith, AllZip-get_or _ cs (turns amount cs) i 0 0 band i_there, AllZip-get_or _ cs (turns amount cs) j 0 0 band j_there)
