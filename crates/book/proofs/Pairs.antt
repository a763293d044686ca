-- Entries beside their shares, and sums over them. Assumes nothing.
use Rattle.std.proofs.Common.{◌≡◌, ℕ, ◌+◌, ◌<◌, ◌≤◌, Bool, true, cond, not, ◌&&◌, ◌⊎◌, List, [], ◌∷◌, length, map, slice_index_or, zero, suc, refl, inl, arith}
use Rattle.std.proofs.lemmas.Bool.{false≢true}
use Rattle.std.specs.List.{AllZip}
use Rattle.sharing.specs.Shares.{total}
use Rattle.order.specs.declared.kind.Side.{Side}
use Rattle.order.specs.declared.kind.Side.TheVariants.{Buy, Sell}
use Rattle.order.specs.Kinds.{is}
use Rattle.book.specs.declared.entry.Entry.{Entry}
use Rattle.book.specs.Weight.{sizes}
use Rattle.book.specs.Assignment.{shares, side_shares}
use Rattle.book.specs.Fill.{beside}

module _ {A B : Type 0} (P : A → B → Type 0) where
  pub each_at : (xs : List A) (ys : List B) (x : A) (y : B) → AllZip P xs ys → (i : ℕ) → i < length xs → P (slice_index_or xs i x) (slice_index_or ys i y)
  each_at [] ys x y e i h = absurd (omega arith)
  each_at (a ∷ xs) [] x y e i h = absurd e
  each_at (a ∷ xs) (b ∷ ys) x y e zero h = e.0
  each_at (a ∷ xs) (b ∷ ys) x y e (suc i) h = each_at xs ys x y e.1 i (omega arith)

  pub each_map : (Q : A → B → Type 0) → ((x : A) (y : B) → P x y → Q x y) → (xs : List A) (ys : List B) → AllZip P xs ys → AllZip Q xs ys
  each_map Q f [] [] h = tt
  each_map Q f [] (y ∷ ys) h = h
  each_map Q f (x ∷ xs) [] h = h
  each_map Q f (x ∷ xs) (y ∷ ys) h = (f x y h.0, each_map Q f xs ys h.1)

  pub each_and : (Q : A → B → Type 0) (xs : List A) (ys : List B) → AllZip P xs ys → AllZip Q xs ys → AllZip (λ x y. P x y × Q x y) xs ys
  each_and Q [] [] h k = tt
  each_and Q [] (y ∷ ys) h k = h
  each_and Q (x ∷ xs) [] h k = h
  each_and Q (x ∷ xs) (y ∷ ys) h k = ((h.0, k.0), each_and Q xs ys h.1 k.1)

  -- where a function made the first list of a third, or the second of the first
  pub each_from : {C : Type 0} (f : C → A) (cs : List C) (ys : List B) → AllZip P (map f cs) ys → AllZip (λ c y. P (f c) y) cs ys
  each_from f [] [] h = tt
  each_from f [] (y ∷ ys) h = h
  each_from f (c ∷ cs) [] h = h
  each_from f (c ∷ cs) (y ∷ ys) h = (h.0, each_from f cs ys h.1)

  pub each_made : (f : A → B) → ((x : A) → P x (f x)) → (xs : List A) → AllZip P xs (map f xs)
  each_made f h [] = tt
  each_made f h (x ∷ xs) = (h x, each_made f h xs)

pub each_gifts : (P : Entry → ℕ → Type 0) (f : Entry → ℕ → ℕ) (es : List Entry) (gs : List ℕ) → AllZip (λ e g. P e (f e g)) es gs → AllZip P es (beside f es gs)
each_gifts P f [] gs h = tt
each_gifts P f (e ∷ es) [] h = h
each_gifts P f (e ∷ es) (g ∷ gs) h = (h.0, each_gifts P f es gs h.1)

module _ (p : Entry → Bool) where
  pub shares_within : (es : List Entry) (xs : List ℕ) → AllZip (λ e x. x ≤ e.size) es xs → shares p es xs ≤ sizes p es
  shares_within [] xs h = omega arith
  shares_within (e ∷ es) [] h = absurd h
  shares_within (e ∷ es) (x ∷ xs) h = grind (arith, shares_within es xs h.1)

  pub shares_whole : (es : List Entry) (xs : List ℕ) → AllZip (λ e x. p e ≡ true → x ≡ e.size) es xs → shares p es xs ≡ sizes p es
  shares_whole [] xs h = refl
  shares_whole (e ∷ es) [] h = absurd h
  shares_whole (e ∷ es) (x ∷ xs) h = grind (arith, shares_whole es xs h.1)

  -- Q holds, or the shares are 0
  pub shares_none_or : (Q : Type 0) (es : List Entry) (xs : List ℕ) → AllZip (λ e x. p e ≡ true → 0 < x → Q) es xs → (shares p es xs ≡ 0) ⊎ Q
  shares_none_or Q [] xs h = inl refl
  shares_none_or Q (e ∷ es) [] h = inl refl
  shares_none_or Q (e ∷ es) (x ∷ xs) h = grind (arith, shares_none_or Q es xs h.1)

  pub shares_none : (es : List Entry) (xs : List ℕ) → AllZip (λ e x. p e ≡ true → x ≡ 0) es xs → shares p es xs ≡ 0
  shares_none [] xs h = refl
  shares_none (e ∷ es) [] h = refl
  shares_none (e ∷ es) (x ∷ xs) h = grind (arith, shares_none es xs h.1)

  pub shares_split : (q : Entry → Bool) (es : List Entry) (xs : List ℕ) → shares (λ e. p e && q e) es xs + shares (λ e. p e && not (q e)) es xs ≡ shares p es xs
  shares_split q [] xs = refl
  shares_split q (e ∷ es) [] = refl
  shares_split q (e ∷ es) (x ∷ xs) = grind (arith, shares_split q es xs)

  pub shares_gifts : (q : Entry → Bool) (f : Entry → ℕ → ℕ) (es : List Entry) (gs : List ℕ) → AllZip (λ e g. p e ≡ true → f e g ≡ cond (q e) e.size 0 + g) es gs → shares p es (beside f es gs) ≡ sizes (λ e. p e && q e) es + shares p es gs
  shares_gifts q f [] gs h = refl
  shares_gifts q f (e ∷ es) [] h = absurd h
  shares_gifts q f (e ∷ es) (g ∷ gs) h = grind (arith, shares_gifts q f es gs h.1)

pub same_side : (s t : Side) → is s t ≡ true → t ≡ s
same_side Buy Buy h = refl
same_side Buy Sell h = absurd (false≢true h)
same_side Sell Buy h = absurd (false≢true h)
same_side Sell Sell h = refl

-- each share is a buy's or a sell's
pub shares_both : (P : Entry → ℕ → Type 0) (es : List Entry) (xs : List ℕ) → AllZip P es xs → side_shares Buy es xs + side_shares Sell es xs ≡ total xs
shares_both P [] [] h = refl
shares_both P [] (x ∷ xs) h = absurd h
shares_both P (e ∷ es) [] h = absurd h
shares_both P (e ∷ es) (x ∷ xs) h = omega (arith, one e.side, shares_both P es xs h.1)
  where
    one : (t : Side) → cond (is Buy t) x 0 + cond (is Sell t) x 0 ≡ x
    one Buy = omega arith
    one Sell = omega arith
