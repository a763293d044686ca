-- V as the lesser of what the sides have in open classes, and how many classes fit whole. Assumes nothing.
use Rattle.std.proofs.Common.{◌≡◌, ℕ, zero, suc, ◌+◌, ◌<◌, ◌≤◌, min, Bool, cond, ◌&&◌, leb, ◌⊎◌, List, [], ◌∷◌, Option, refl, arith}
use Rattle.std.proofs.lemmas.Bool.{cond_both, leb-true}
use Rattle.std.proofs.lemmas.Bool.Decides.{nat_tests}
use Rattle.order.specs.declared.kind.Side.{Side}
use Rattle.order.specs.declared.kind.Side.TheVariants.{Buy, Sell}
use Rattle.order.specs.Kinds.{is}
use Rattle.book.specs.declared.entry.Entry.{Entry}
use Rattle.book.specs.Weight.{must_execute, open_to_both, among, ranked, first, in_class, open_to}
use Rattle.book.specs.Volume.{traded}
use Rattle.book.specs.Fill.{fitting, filled_whole, left_over}

-- all that the theorem about fills uses of the two numbers of classes: those that must execute are open to both sides
pub must_execute_open : (es : List Entry) (s : Side) → must_execute ≤ open_to es s
unfolding must_execute open_to_both
must_execute_open es s = grind arith

pub first_zero : (es : List Entry) (s : Side) → first es s 0 ≡ 0
first_zero [] s = refl
first_zero (e ∷ es) s = grind (arith, nat_tests, first_zero es s)

-- what one entry adds to the first k classes and one more
pub among_more : (k : ℕ) (b : Bool) (c : Option ℕ) (n : ℕ) → cond (b && among (suc k) c) n 0 ≡ cond (b && among k c) n 0 + cond (b && ranked k c) n 0
among_more k b c n = grind (arith, nat_tests)

pub one_more : (es : List Entry) (s : Side) (k : ℕ) → first es s (suc k) ≡ first es s k + in_class es s k
one_more [] s k = refl
one_more (e ∷ es) s k = omega (arith, among_more k (is s e.side) e.rank e.size, one_more es s k)

pub first_grows : (es : List Entry) (s : Side) (j k : ℕ) → j ≤ k → first es s j ≤ first es s k
first_grows es s j zero h = grind arith
first_grows es s j (suc k) h = grind (arith, one_more es s k, first_grows es s j k)

-- V is the lesser of what the sides have in open classes
pub lesser : (es : List Entry) → traded es ≡ min (first es Buy (open_to es Buy)) (first es Sell (open_to es Sell))
lesser es = grind (arith, nat_tests, one_more es Buy open_to_both, one_more es Sell open_to_both)

module _ (es : List Entry) (s : Side) where
  pub fits : (n : ℕ) → first es s (fitting es s n) ≤ traded es
  fits zero = omega (arith, first_zero es s)
  fits (suc n) = cond_both (leb (first es s (suc n)) (traded es)) (suc n) (fitting es s n) (λ k. first es s k ≤ traded es) (leb-true _ _) (λ e. fits n)

  fitting_le : (n : ℕ) → fitting es s n ≤ n
  fitting_le zero = omega arith
  fitting_le (suc n) = grind (arith, nat_tests, fitting_le n)

  fitting_most : (n k : ℕ) → k ≤ n → first es s k ≤ traded es → k ≤ fitting es s n
  fitting_most zero k h f = h
  fitting_most (suc n) k h f = grind (arith, nat_tests, fitting_most n k)

  pub whole_open : filled_whole es s ≤ open_to es s
  whole_open = fitting_le (open_to es s)

  -- as many classes as fit are filled whole
  pub whole_most : (k : ℕ) → k ≤ open_to es s → first es s k ≤ traded es → k ≤ filled_whole es s
  whole_most k = fitting_most (open_to es s) k

  pub whole_left : first es s (filled_whole es s) + left_over es s ≡ traded es
  whole_left = omega (arith, fits (open_to es s))

  -- where something is left one more class is open, and it does not fit
  pub left_open : 0 < left_over es s → filled_whole es s < open_to es s
  left_open some = grind (arith, most s, whole_open)
    where
      most : (t : Side) → traded es ≤ first es t (open_to es t)
      most Buy = omega (arith, lesser es)
      most Sell = omega (arith, lesser es)

  pub left_short : 0 < left_over es s → traded es < first es s (suc (filled_whole es s))
  left_short some = grind (arith, whole_most (suc (filled_whole es s)), left_open some)

  left_none : first es s (open_to es s) ≤ traded es → left_over es s ≡ 0
  left_none fit = grind (arith, left_open, whole_most (open_to es s))

-- at most one of the sides has something left
pub one_left : (es : List Entry) → (left_over es Buy ≡ 0) ⊎ (left_over es Sell ≡ 0)
one_left es = grind (arith, lesser es, left_none es Buy, left_none es Sell)
