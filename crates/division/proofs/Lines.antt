-- What is written, line after line.
use Rattle.std.proofs.Common.{◌≡◌, ℕ, zero, suc, ◌+◌, ◌-◌, ◌^◌, List, [], ◌∷◌, ◌++◌, length, codes, decimal, refl, ap, ◌⊎◌, append_assoc, append-nil, arith}
use Rattle.std.specs.List.{repeat}
use Rattle.std.specs.Fmt.{padded, padded_integral, char_count, take_chars, styled_text, styled_decimal, format_spec}
use lib.Utf8.{encode}
use Rattle.sharing.specs.Shares.{total}
use Rattle.division.specs.Table.{blanks, column, line, rows, heading, table_by}

blank_by_blank : (n : ℕ) → repeat n (32 ∷ []) ≡ blanks n
blank_by_blank zero = refl
blank_by_blank (suc n) = ap (λ l. 32 ∷ l) (blank_by_blank n)

-- what `{:>11}` writes of a number
at_right : (s : _) (n : ℕ) → s ≡ format_spec 32 3 0 11 (2 ^ 64 - 1) → styled_decimal s n ≡ blanks (11 - length (decimal n)) ++ decimal n
unfolding padded_integral char_count encode
at_right s n is =
    let k = 11 - length (decimal n) in
    let all : k - 0 - 0 ≡ k = omega arith in
    let none : k - k ≡ 0 = omega arith in
    rw (is, all, none, blank_by_blank k) (simp append-nil)

-- the options of a line's four columns
module _ (a b c d : _) (p : a ≡ format_spec 32 3 0 11 (2 ^ 64 - 1)) (q : b ≡ format_spec 32 3 0 11 (2 ^ 64 - 1)) (r : c ≡ format_spec 32 3 0 11 (2 ^ 64 - 1)) (s : d ≡ format_spec 32 3 0 11 (2 ^ 64 - 1)) where
  pub heading_is : 32 ∷ (styled_text a [] ++ (32 ∷ (styled_text b (codes "claim") ++ (32 ∷ (styled_text c (codes "arrival") ++ (32 ∷ (styled_text d (codes "turns") ++ codes "\n"))))))) ≡ heading
  unfolding padded char_count take_chars encode line column
  heading_is = rw (p, q, r, s) refl

  pub numbers_are : (n x y z : ℕ) → 32 ∷ (styled_decimal a n ++ (32 ∷ (styled_decimal b x ++ (32 ∷ (styled_decimal c y ++ (32 ∷ (styled_decimal d z ++ codes "\n"))))))) ≡ line (decimal n) (decimal x) (decimal y) (decimal z)
  unfolding line column
  numbers_are n x y z = rw (at_right a n p, at_right b x q, at_right c y r, at_right d z s) (simp append_assoc)

  pub sums_are : (x y z : ℕ) → 32 ∷ (styled_text a (codes "sum") ++ (32 ∷ (styled_decimal b x ++ (32 ∷ (styled_decimal c y ++ (32 ∷ (styled_decimal d z ++ codes "\n"))))))) ≡ line (codes "sum") (decimal x) (decimal y) (decimal z)
  unfolding padded char_count take_chars encode line column
  sums_are x y z = rw (p, at_right b x q, at_right c y r, at_right d z s) (simp append_assoc)

-- one row more, where k rows are written
pub rows_more : (i k more c x y : ℕ) (cs xs ys cs' xs' ys' out text now goal : List ℕ) → cs ≡ c ∷ cs' → xs ≡ x ∷ xs' → ys ≡ y ∷ ys' → i ≡ k → more ≡ k + 1
    → now ≡ out ++ text → text ≡ line (decimal (i + 1)) (decimal c) (decimal x) (decimal y) → out ++ rows (k + 1) cs xs ys ≡ goal → now ++ rows (more + 1) cs' xs' ys' ≡ goal
unfolding rows
rows_more i k more c x y cs xs ys cs' xs' ys' out text now goal p q r here one wrote is so_far =
    rw (one, wrote, is, here, append_assoc) (rw (p, q, r) at so_far)

-- no row more, where a list is at its end
rows_end : (n : ℕ) (cs xs ys : List ℕ) → ((length cs ≡ 0) ⊎ (length xs ≡ 0)) ⊎ (length ys ≡ 0) → rows n cs xs ys ≡ []
unfolding rows
rows_end n [] xs ys h = refl
rows_end n (c ∷ cs) [] ys h = refl
rows_end n (c ∷ cs) (x ∷ xs) [] h = refl
rows_end n (c ∷ cs) (x ∷ xs) (y ∷ ys) h = absurd (omega arith)

-- the sums after the heading and the rows
pub table_whole : (cs xs ys cs' xs' ys' out text now : List ℕ) (n c x y : ℕ) → ((length cs' ≡ 0) ⊎ (length xs' ≡ 0)) ⊎ (length ys' ≡ 0)
    → out ++ rows n cs' xs' ys' ≡ heading ++ rows 1 cs xs ys → c ≡ total cs → x ≡ total xs → y ≡ total ys
    → now ≡ out ++ text → text ≡ line (codes "sum") (decimal c) (decimal x) (decimal y) → now ≡ table_by cs xs ys
table_whole cs xs ys cs' xs' ys' out text now n c x y ends so_far is_c is_x is_y wrote is =
    let end = rows_end n cs' xs' ys' ends in
    let whole = append-nil out in
    let join = append_assoc heading (rows 1 cs xs ys) text in
    cc
