-- What the place of an order says of the rows. Assumes nothing.
use Rattle.std.proofs.Common.{◌≡◌, ℕ, ◌<◌, true, false, List, length, get_or, Some, None, arith}
use Rattle.std.proofs.lemmas.Bool.Decides.{nat_tests}
use Rattle.std.proofs.lemmas.List.Quantifiers.{position-Some}
use Rattle.std.proofs.lemmas.List.Sums.{fails_before_first}
use Rattle.order.specs.declared.kind.Row.{Row}
use Rattle.order.specs.Rows.{sound}
use Rattle.book.specs.Listing.{is_numbered, place_of}

-- the row at place i is the first order of the number n
pub record FirstNumbered (n : ℕ) (rows : List Row) (i : ℕ) : Type 0 where
  pub inside : i < length rows
  pub numbered : (d : Row) → (get_or rows i d).number ≡ n
  pub passes : (d : Row) → sound (get_or rows i d) ≡ true
  pub first : (k : ℕ) (d : Row) → k < i → is_numbered n (get_or rows k d) ≡ false

module _ (n : ℕ) (rows : List Row) where
  pub first_numbered : (i : ℕ) → place_of n rows ≡ Some i → FirstNumbered n rows i
  first_numbered i found =
      record {
        inside = grind (arith, nat_tests);
        numbered = λ d. let at = position-Some (is_numbered n) rows i d found in grind (arith, nat_tests);
        passes = λ d. let at = position-Some (is_numbered n) rows i d found in grind (arith, nat_tests);
        first = λ k d earlier. (position-Some (is_numbered n) rows i d found).2 k earlier;
      }

  -- no row is an order of the number n
  pub none_numbered : place_of n rows ≡ None → (k : ℕ) (d : Row) → k < length rows → is_numbered n (get_or rows k d) ≡ false
  none_numbered none k d inside = grind (arith, nat_tests, fails_before_first (is_numbered n) rows k d)
