-- A look through rows by threes. Assumes nothing.
use Rattle.std.proofs.Common.{◌≡◌, ℕ, zero, suc, ◌+◌, ◌*◌, ◌<◌, ◌≤◌, ◌/◌, ◌≢◌, false, eqb, List, [], ◌∷◌, length, get_or, take, drop, Bool, true, Some, None, Option, ltb, refl, ap, ◌∙◌, arith}
use Rattle.std.specs.Option.{option_map}
use Rattle.std.specs.List.{position_or_len}
use Rattle.std.specs.Simd.{first_chunks}
use Rattle.std.proofs.lemmas.Bool.{lt-ltb, le-ltb, ltb-true, ltb-false, ne_eqb}
use Rattle.std.proofs.lemmas.List.{drop-drop, length-drop}
use Rattle.order.specs.declared.kind.Row.{Row}
use Rattle.book.specs.Listing.{is_numbered, place_of}

-- the three at place i
pub three_at : (k i : ℕ) (rows : List Row) → i < k → get_or (first_chunks 3 k rows) i [] ≡ take 3 (drop (3 * i) rows)
three_at zero i rows inside = absurd (omega (arith, inside))
three_at (suc k) zero rows inside = refl
three_at (suc k) (suc i) rows inside =
    let later : drop (3 * i) (drop 3 rows) ≡ drop (3 * suc i) rows = drop-drop (3 * i) 3 rows ∙ ap (λ (m : ℕ). drop m rows) (omega arith) in
    three_at k i (drop 3 rows) (omega (arith, inside)) ∙ ap (λ (xs : List Row). take 3 xs) later

module _ (n : ℕ) (d : Row) where
  -- a row that has another number
  past_one : (a : Row) (rows : List Row) → eqb a.number n ≡ false → place_of n (a ∷ rows) ≡ option_map (λ more. 1 + more) (place_of n rows)
  past_one a rows other = by_place (ltb (position_or_len (is_numbered n) rows) (length rows)) refl
    where
      q : ℕ
      q = position_or_len (is_numbered n) rows

      by_place : (inside : Bool) → ltb q (length rows) ≡ inside → place_of n (a ∷ rows) ≡ option_map (λ more. 1 + more) (place_of n rows)
      by_place true e = rw (other, e, lt-ltb (1 + q) (suc (length rows)) (omega (arith, ltb-true q (length rows) e))) refl
      by_place false e = rw (other, e, le-ltb (1 + q) (suc (length rows)) (omega (arith, ltb-false q (length rows) e))) refl

  thrice : (o : Option ℕ) → option_map (λ more. 1 + more) (option_map (λ more. 1 + more) (option_map (λ more. 1 + more) o)) ≡ option_map (λ more. 3 + more) o
  thrice None = refl
  thrice (Some more) = ap Some (omega arith)

  -- none of the first three rows has the number
  past_three : (rows : List Row) → 3 ≤ length rows → eqb (get_or (take 3 rows) 0 d).number n ≡ false → eqb (get_or (take 3 rows) 1 d).number n ≡ false
      → eqb (get_or (take 3 rows) 2 d).number n ≡ false → place_of n rows ≡ option_map (λ more. 3 + more) (place_of n (drop 3 rows))
  past_three [] long first second third = absurd (omega (arith, long))
  past_three (a ∷ []) long first second third = absurd (omega (arith, long))
  past_three (a ∷ b ∷ []) long first second third = absurd (omega (arith, long))
  past_three (a ∷ b ∷ c ∷ rows) long first second third =
      let one = past_one a (b ∷ c ∷ rows) first in
      let two = past_one b (c ∷ rows) second in
      let three = past_one c rows third in
      one ∙ ap (λ (o : Option ℕ). option_map (λ more. 1 + more) o) (two ∙ ap (λ (o : Option ℕ). option_map (λ more. 1 + more) o) three) ∙ thrice (place_of n rows)

  onward : (p : ℕ) (o : Option ℕ) → option_map (λ more. 3 * p + more) (option_map (λ more. 3 + more) o) ≡ option_map (λ more. 3 * (p + 1) + more) o
  onward p None = refl
  onward p (Some more) = ap Some (omega arith)

  -- and so it goes on, from a place among the threes
  pub three_more : (k i p : ℕ) (rows : List Row) (threes : List (List Row)) → threes ≡ first_chunks 3 k rows → k ≡ length rows / 3 → i < length threes → length threes ≡ k → p ≡ i
      → (get_or (get_or threes i []) 0 d).number ≢ n → (get_or (get_or threes i []) 1 d).number ≢ n → (get_or (get_or threes i []) 2 d).number ≢ n
      → place_of n rows ≡ option_map (λ more. 3 * p + more) (place_of n (drop (3 * p) rows))
      → place_of n rows ≡ option_map (λ more. 3 * (p + 1) + more) (place_of n (drop (3 * (p + 1)) rows))
  three_more k i p rows threes are fits inside long same first second third so_far =
      let rest : List Row = drop (3 * p) rows in
      let at : get_or threes i [] ≡ take 3 rest = rw (are, same) (three_at k i rows (omega (arith, inside, long))) in
      let enough : 3 ≤ length rest = omega (arith, length-drop (3 * p) rows, fits, inside, long, same) in
      let next : drop 3 rest ≡ drop (3 * (p + 1)) rows = drop-drop 3 (3 * p) rows ∙ ap (λ (m : ℕ). drop m rows) (omega arith) in
      let step : place_of n rest ≡ option_map (λ more. 3 + more) (place_of n (drop 3 rest)) =
      past_three rest enough (rw (← at) (ne_eqb _ n first)) (rw (← at) (ne_eqb _ n second)) (rw (← at) (ne_eqb _ n third)) in
      so_far ∙ ap (λ (o : Option ℕ). option_map (λ more. 3 * p + more) o) step ∙ onward p (place_of n (drop 3 rest))
      ∙ ap (λ (xs : List Row). option_map (λ more. 3 * (p + 1) + more) (place_of n xs)) next
