-- Where a field ends: at the first byte that stands in none. Assumes nothing.
use Rattle.std.proofs.Common.{◌≡◌, ◌≢◌, ℕ, suc, ◌^◌, ◌<◌, List, [], ◌∷◌, ◌++◌, ℤ, pos, negsuc, refl, arith}
use Rattle.std.specs.Prelude.{All, FitsSigned}
use Rattle.std.specs.Int.{w64}
use Rattle.std.specs.Fmt.{decimal, signed_decimal}
use Rattle.std.specs.Str.Parse.{AllDigits}
use Rattle.std.proofs.lemmas.Fmt.{decimal_is_IsNumeral, decimal_injective, signed_decimal_injective}
use Rattle.std.proofs.lemmas.List.Elements.{All-nil, All-cons, All-head, All-tail}
use Rattle.std.proofs.lemmas.Str.Parse.{digit_from_value}

-- bytes of which none is c
abbrev pub Without : ℕ → List ℕ → Type 0
Without c = All (λ byte. byte ≢ c)

-- bytes are split in one way at the first c
pub split_once : (c : ℕ) (xs ys us vs : List ℕ) → Without c xs → Without c ys → xs ++ c ∷ us ≡ ys ++ c ∷ vs → (xs ≡ ys) × (us ≡ vs)
split_once c [] [] us vs p q e = (refl, cc)
split_once c [] (y ∷ ys) us vs p q e = absurd (All-head (λ byte. byte ≢ c) y ys q (cc))
split_once c (x ∷ xs) [] us vs p q e = absurd (All-head (λ byte. byte ≢ c) x xs p (cc))
split_once c (x ∷ xs) (y ∷ ys) us vs p q e =
    let rest = split_once c xs ys us vs (All-tail (λ byte. byte ≢ c) x xs p) (All-tail (λ byte. byte ≢ c) y ys q) (cc) in
    (cc, rest.1)

-- no byte below the digits stands in a number
digits_without : (c : ℕ) (ds : List ℕ) → c < 48 → AllDigits 10 ds → Without c ds
digits_without c [] low h = All-nil (λ byte. byte ≢ c)
digits_without c (d ∷ ds) low h =
    let digit = digit_from_value d h.0 in
    All-cons (λ byte. byte ≢ c) d ds (λ e. omega arith) (digits_without c ds low h.1)

pub number_without : (c n : ℕ) → c < 48 → n < 2 ^ 64 → Without c (decimal n)
number_without c n low small = digits_without c (decimal n) low (decimal_is_IsNumeral n small).0.1

-- nor below the minus sign in an amount
pub amount_without : (c : ℕ) (z : ℤ) → c < 45 → FitsSigned w64 z → Without c (signed_decimal z)
amount_without c (pos n) low fits = number_without c n (omega arith) (omega arith)
amount_without c (negsuc n) low fits =
    All-cons (λ byte. byte ≢ c) 45 (decimal (suc n)) (λ e. omega arith) (number_without c (suc n) (omega arith) (omega arith))

-- so a number is read back, and what follows it
pub number_read : (c m n : ℕ) (us vs : List ℕ) → c < 48 → m < 2 ^ 64 → n < 2 ^ 64 → decimal m ++ c ∷ us ≡ decimal n ++ c ∷ vs
    → (m ≡ n) × (us ≡ vs)
number_read c m n us vs low p q e =
    let parts = split_once c (decimal m) (decimal n) us vs (number_without c m low p) (number_without c n low q) e in
    (decimal_injective m n p q parts.0, parts.1)

-- and an amount
pub amount_read : (c : ℕ) (y z : ℤ) (us vs : List ℕ) → c < 45 → FitsSigned w64 y → FitsSigned w64 z
    → signed_decimal y ++ c ∷ us ≡ signed_decimal z ++ c ∷ vs → (y ≡ z) × (us ≡ vs)
amount_read c y z us vs low p q e =
    let parts = split_once c (signed_decimal y) (signed_decimal z) us vs (amount_without c y low p) (amount_without c z low q) e in
    (signed_decimal_injective y z (omega arith) (omega arith) parts.0, parts.1)
