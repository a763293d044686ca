-- Claims and gifts side by side. Assumes nothing.
use Rattle.std.specs.Prelude.{◌≡◌, ℕ, zero, suc, ◌+◌, ◌<◌, ◌≤◌, List, [], ◌∷◌, length, drop, replicate, slice_index, slice_set, refl}
use Rattle.std.specs.List.{AllZip}
use Rattle.std.proofs.Common.{arith}
use Rattle.sharing.specs.Shares.{total, Within}

module _ (P : ℕ → ℕ → Type 0) where
  pub each_set : (cs gs : List ℕ) → AllZip P cs gs → (i v : ℕ) → P (slice_index cs i) v → AllZip P cs (slice_set gs i v)
  each_set [] [] e i v h = tt
  each_set [] (g ∷ gs) e i v h = absurd e
  each_set (c ∷ cs) [] e i v h = absurd e
  each_set (c ∷ cs) (g ∷ gs) e zero v h = (h, e.1)
  each_set (c ∷ cs) (g ∷ gs) e (suc i) v h = (e.0, each_set cs gs e.1 i v h)

  pub each_drop : (cs gs : List ℕ) → AllZip P cs gs → (i : ℕ) → AllZip P (drop i cs) (drop i gs)
  each_drop cs gs e zero = e
  each_drop [] [] e (suc i) = tt
  each_drop [] (g ∷ gs) e (suc i) = absurd e
  each_drop (c ∷ cs) [] e (suc i) = absurd e
  each_drop (c ∷ cs) (g ∷ gs) e (suc i) = each_drop cs gs e.1 i

  pub each_zero : ((c : ℕ) → P c 0) → (cs : List ℕ) → AllZip P cs (replicate (length cs) 0)
  each_zero z [] = tt
  each_zero z (c ∷ cs) = (z c, each_zero z cs)

-- as many gifts as claims, and none above its claim
abbrev pub Fits : List ℕ → List ℕ → Type 0
Fits = AllZip (λ c g. g ≤ c)

pub fits_from : (cs gs : List ℕ) → length gs ≡ length cs → Within cs gs → Fits cs gs
fits_from [] [] same h = tt
fits_from [] (g ∷ gs) same h = absurd (omega arith)
fits_from (c ∷ cs) [] same h = absurd (omega arith)
fits_from (c ∷ cs) (g ∷ gs) same h = (h 0 (omega arith), fits_from cs gs (omega arith) (λ i there. h (suc i) (omega arith)))

pub fits_total : (cs gs : List ℕ) → Fits cs gs → total gs ≤ total cs
fits_total [] [] f = omega arith
fits_total [] (g ∷ gs) f = absurd f
fits_total (c ∷ cs) [] f = absurd f
fits_total (c ∷ cs) (g ∷ gs) f = omega (arith, fits_total cs gs f.1)

pub total_zero : (n : ℕ) → total (replicate n 0) ≡ 0
total_zero zero = refl
total_zero (suc n) = omega (arith, total_zero n)

pub total_set : (gs : List ℕ) (i v : ℕ) → i < length gs → total (slice_set gs i v) + slice_index gs i ≡ total gs + v
total_set [] i v h = omega arith
total_set (g ∷ gs) zero v h = omega arith
total_set (g ∷ gs) (suc i) v h = omega (arith, total_set gs i v (omega arith))
