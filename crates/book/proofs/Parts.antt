-- One entry: what its part gives it. Assumes nothing.
use Rattle.std.proofs.Common.{◌≡◌, ℕ, ◌+◌, ◌<◌, ◌≤◌, true, false, cond, Some, None, Option, refl, arith}
use Rattle.std.proofs.lemmas.Bool.Decides.{nat_tests}
use Rattle.book.specs.Weight.{among, ranked}
use Rattle.book.specs.Assignment.{Before}
use Rattle.book.specs.Fill.{part, claim_in, share_in}

-- m classes are filled whole, and l is left
module _ (m l : ℕ) where
  pub claim_none : l ≡ 0 → (c : Option ℕ) (n : ℕ) → claim_in (part m l c) n ≡ 0
  claim_none h None n = refl
  claim_none h (Some k) n = grind (arith, nat_tests)

  pub claim_whole : 0 < l → (c : Option ℕ) (n : ℕ) → ranked m c ≡ true → claim_in (part m l c) n ≡ n
  claim_whole h None n at = grind arith
  claim_whole h (Some k) n at = grind (arith, nat_tests)

  pub share_is : (c : Option ℕ) (n g : ℕ) → g ≤ claim_in (part m l c) n → share_in (part m l c) n g ≡ cond (among m c) n 0 + g
  share_is None n g h = omega arith
  share_is (Some k) n g h = grind (arith, nat_tests)

  pub share_within : (c : Option ℕ) (n g : ℕ) → g ≤ claim_in (part m l c) n → share_in (part m l c) n g ≤ n
  share_within None n g h = omega arith
  share_within (Some k) n g h = grind (arith, nat_tests)

  -- nothing outside the open classes, if those filled whole are open and so is the next where something is left
  pub share_none : (o : ℕ) → m ≤ o → (0 < l → m < o) → (c : Option ℕ) (n g : ℕ) → among o c ≡ false → share_in (part m l c) n g ≡ 0
  share_none o all next None n g out = refl
  share_none o all next (Some k) n g out = grind (arith, nat_tests)

  pub share_whole : (o : ℕ) → o ≤ m → (c : Option ℕ) (n g : ℕ) → among o c ≡ true → share_in (part m l c) n g ≡ n
  share_whole o all None n g is = grind arith
  share_whole o all (Some k) n g is = grind (arith, nat_tests)

  -- who comes before one that gets something has all
  pub share_before : (c d : Option ℕ) (n g k f : ℕ) → 0 < share_in (part m l c) n g → Before d c → share_in (part m l d) k f ≡ k
  share_before c None n g k f some before = absurd before
  share_before None (Some j) n g k f some before = absurd before
  share_before (Some i) (Some j) n g k f some before = grind (arith, nat_tests)
