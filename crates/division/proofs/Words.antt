-- The first word of a text.
use Rattle.std.proofs.Common.{◌≡◌, ℕ, suc, ◌<◌, true, false, not, nat_lt, Option, List, [], ◌∷◌, ◌++◌, length, take, drop, sym, refl, ap, ◌∙◌, inl, inr, append_assoc, append-nil, one-add, arith}
use Rattle.std.specs.List.{prefix_len, position, position_or_len}
use Rattle.std.specs.Option.{unwrap_or}
use Rattle.std.proofs.lemmas.Grind.{common_steps}
use Rattle.std.proofs.lemmas.List.Sums.{prefix_len-le-length}
use Rattle.std.proofs.lemmas.Bool.{cases_Bool}
use Rattle.division.specs.Words.{blank, ended, words_after, words}

-- the blanks before a text
abbrev gap : List ℕ → ℕ
gap text = prefix_len blank text

-- how many bytes come before the first that is blank
abbrev run : List ℕ → ℕ
run text = position_or_len blank text

gap_more : (b : ℕ) (bs : List ℕ) → blank b ≡ true → gap (b ∷ bs) ≡ suc (gap bs)
gap_more b bs e = rw e (one-add (gap bs))

gap_none : (b : ℕ) (bs : List ℕ) → blank b ≡ false → gap (b ∷ bs) ≡ 0
gap_none b bs e = rw e

run_more : (b : ℕ) (bs : List ℕ) → blank b ≡ false → run (b ∷ bs) ≡ suc (run bs)
run_more b bs e = rw e (one-add (run bs))

run_none : (b : ℕ) (bs : List ℕ) → blank b ≡ true → run (b ∷ bs) ≡ 0
run_none b bs e = rw e

-- a word goes on to the first blank
word_ends : (begun bs : List ℕ) → words_after begun bs ≡ ended (begun ++ take (run bs) bs) ++ words (drop (run bs) bs)
unfolding words_after
word_ends begun [] = sym (append-nil (ended (begun ++ [])) ∙ ap ended (append-nil begun))
word_ends begun (b ∷ bs) =
    elim (cases_Bool (blank b)) [
      | inl e ↦ rw (run_none b bs e) (rw (append-nil, e) refl)
      | inr e ↦ rw (run_more b bs e) (rw e (word_ends (begun ++ b ∷ []) bs ∙ rw append_assoc))
    ]

-- blanks before a text leave its words
past_gap : (text : List ℕ) → words text ≡ words (drop (gap text) text)
unfolding words_after
past_gap [] = refl
past_gap (b ∷ bs) =
    elim (cases_Bool (blank b)) [
      | inl e ↦ rw (gap_more b bs e) (rw e (past_gap bs))
      | inr e ↦ rw (gap_none b bs e)
    ]

no_gap : (text : List ℕ) → gap (drop (gap text) text) ≡ 0
no_gap [] = refl
no_gap (b ∷ bs) =
    elim (cases_Bool (blank b)) [
      | inl e ↦ rw (gap_more b bs e) (no_gap bs)
      | inr e ↦ rw (gap_none b bs e) (gap_none b bs e)
    ]

-- where no blank comes first, a word does
word_first : (text : List ℕ) → gap text ≡ 0 → 0 < length text → (words text ≡ take (run text) text ∷ words (drop (run text) text)) × (0 < run text)
unfolding words_after
word_first [] none some = absurd (omega (arith, some))
word_first (b ∷ bs) none some =
    elim (cases_Bool (blank b)) [
      | inl e ↦ absurd (omega (arith, gap_more b bs e, none))
      | inr e ↦ (rw (run_more b bs e) (rw e (word_ends (b ∷ []) bs)), omega (arith, run_more b bs e))
    ]

-- no word is left of a text where nothing is left after its blanks
pub no_word : (text rest : List ℕ) → rest ≡ drop (prefix_len blank text) text → length rest ≡ 0 → words text ≡ []
unfolding words_after
no_word text [] after none = past_gap text ∙ ap words (sym after)
no_word text (b ∷ bs) after none = absurd (omega (arith, none))

-- the first word is what stands between the first blanks and the next
pub word_cut : (text rest word after : List ℕ) → rest ≡ drop (prefix_len blank text) text → 0 < length rest → word ≡ take (position_or_len blank rest) rest
    → after ≡ drop (position_or_len blank rest) rest → words text ≡ word ∷ words after
word_cut text rest word after p some q r =
    let past = past_gap text in
    let none : gap rest ≡ 0 = ap gap p ∙ no_gap text in
    let here = (word_first rest none some).0 in
    cc

-- and it is not empty
pub word_some : (text rest : List ℕ) → rest ≡ drop (prefix_len blank text) text → 0 < length rest → 0 < position_or_len blank rest
word_some text rest p some = (word_first rest (ap gap p ∙ no_gap text) some).1

-- the place of the first blank, or the length where there is none
pub first_or_all : (text : List ℕ) (place : Option ℕ) (otherwise n : ℕ) → place ≡ position blank text → n ≡ unwrap_or place otherwise → otherwise ≡ length text → n ≡ position_or_len blank text
first_or_all text place otherwise n p q r =
    let e : n ≡ unwrap_or (position blank text) (length text) = rw (← p, ← r) q in
    let within = prefix_len-le-length (λ b. not (blank b)) text in
    elim (cases_Bool (nat_lt (position_or_len blank text) (length text))) [
      | inl y ↦ rw y at e
      | inr z ↦ grind (arith, common_steps)
    ]
