-- What each change of a list makes of its elements. Assumes nothing.
use Rattle.std.proofs.Common.{◌≡◌, ℕ, ◌+◌, ◌<◌, false, [], ◌∷◌, ◌++◌, length, set, refl, arith}
use Rattle.std.specs.List.{remove}
use Rattle.std.proofs.lemmas.Bool.Decides.{nat_tests}
use Rattle.std.proofs.lemmas.List.{places, take_at, take_more_set, length-set, length-take-le}
use Rattle.std.proofs.lemmas.List.Edits.{length-remove}
use Rattle.std.proofs.Math.Seq.{take-set-lt}
use Rattle.list.specs.declared.List.{List as Held}
use Rattle.list.specs.Held.{contents, held, kept, full, appended, written, without, emptied}

module _ {T : Type 0} (l : Held T) where
  held-appended : (x : T) → full l ≡ false → held (appended l x) ≡ held l + 1
  held-appended x free = grind (arith, nat_tests, length-set)

  pub kept-appended : (x : T) → full l ≡ false → kept (appended l x) ≡ kept l ++ x ∷ []
  kept-appended x free =
      let inside : held l < length (contents l) = grind (arith, nat_tests) in
      rw (held-appended x free) (take_more_set (contents l) (held l) x inside)

  held-written : (i : ℕ) (x : T) → held (written l i x) ≡ held l
  held-written i x = rw (length-set (contents l) i x) refl

  pub kept-written : (i : ℕ) (x : T) → i < length (kept l) → kept (written l i x) ≡ set (kept l) i x
  kept-written i x inside =
      let within : i < held l = grind (arith, places) in
      rw (held-written i x) (take-set-lt (held l) (contents l) i x within)

  pub kept-without : (i : ℕ) → i < length (kept l) → kept (without l i) ≡ remove (kept l) i
  kept-without i inside = grind (arith, places, take_at, length-remove, length-take-le)

  pub kept-emptied : kept (emptied l) ≡ []
  kept-emptied = let none : held (emptied l) ≡ 0 = omega arith in rw none refl
