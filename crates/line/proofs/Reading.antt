-- A line is read back from its bytes. Assumes nothing.
use Rattle.std.proofs.Common.{◌≡◌, ◌≢◌, ℕ, ◌^◌, ◌<◌, List, [], ◌∷◌, ◌++◌, ℤ, get_or, drop, ap, refl, append_assoc, arith}
use Rattle.std.specs.Prelude.{FitsSigned}
use Rattle.std.specs.Int.{w64}
use Rattle.std.specs.Fmt.{decimal, signed_decimal}
use Rattle.std.proofs.lemmas.List.Elements.{All-nil, All-cons, All-append}
use Rattle.message.specs.Faults.{layer_number, file_layer, file_question}
use Rattle.order.specs.Kinds.{side_letter}
use Rattle.line.specs.declared.Line.{Line}
use Rattle.line.specs.declared.Line.TheVariants.{Lot, Notice, Print, Fill, Refusal}
use Rattle.line.specs.Texts.{line_text}
use Rattle.line.specs.Reading.{OfTypes, EndsAtLineFeed}
use Rattle.line.proofs.Fields.{Without, split_once, number_without, amount_without, number_read, amount_read}
use Rattle.line.proofs.Letters.{side_read, side_plain, fault_read, question_small, layer_small}

-- the bytes of a line, one field after another
abbrev fields : Line → List ℕ
fields (Lot lot) = 85 ∷ 32 ∷ (decimal lot ++ 10 ∷ [])
fields (Notice message amount reference) =
    78 ∷ 32 ∷ (decimal message ++ 32 ∷ (signed_decimal amount ++ 32 ∷ (decimal reference ++ 10 ∷ [])))
fields (Print price volume) = 80 ∷ 32 ∷ (decimal price ++ 32 ∷ (decimal volume ++ 10 ∷ []))
fields (Fill number side filled unfilled) =
    70 ∷ 32 ∷ (decimal number ++ 32 ∷ side_letter side ∷ 32 ∷ (decimal filled ++ 32 ∷ (decimal unfilled ++ 10 ∷ [])))
fields (Refusal message fault) =
    82 ∷ 32 ∷ (decimal message ++ 32 ∷ (decimal (layer_number (file_layer fault)) ++ 32 ∷ (decimal (file_question fault) ++ 10 ∷ [])))

text_fields : (line : Line) → line_text line ≡ fields line
text_fields (Lot lot) = refl
text_fields (Notice message amount reference) = simp append_assoc
text_fields (Print price volume) = simp append_assoc
text_fields (Fill number side filled unfilled) = simp append_assoc
text_fields (Refusal message fault) = simp append_assoc

-- a line feed ends at itself, and so does what ends so behind a letter, a space or a number
feed_ends : EndsAtLineFeed (10 ∷ [])
feed_ends = record { front = []; plain = All-nil (λ byte. byte ≢ 10); whole = refl }

behind_ends : (xs text : List ℕ) → Without 10 xs → EndsAtLineFeed text → EndsAtLineFeed (xs ++ text)
behind_ends xs text p end = record {
  front = xs ++ end.front;
  plain = All-append (λ byte. byte ≢ 10) xs end.front p end.plain;
  whole = rw (end.whole, ← append_assoc) refl;
}

byte_ends : (b : ℕ) (text : List ℕ) → b ≢ 10 → EndsAtLineFeed text → EndsAtLineFeed (b ∷ text)
byte_ends b text p end = behind_ends (b ∷ []) text (All-cons (λ byte. byte ≢ 10) b [] p (All-nil (λ byte. byte ≢ 10))) end

space_ends : (text : List ℕ) → EndsAtLineFeed text → EndsAtLineFeed (32 ∷ text)
space_ends text end = byte_ends 32 text (λ e. omega arith) end

letter_ends : (b : ℕ) (text : List ℕ) → b ≢ 10 → EndsAtLineFeed text → EndsAtLineFeed (b ∷ 32 ∷ text)
letter_ends b text p end = byte_ends b (32 ∷ text) p (space_ends text end)

number_ends : (n : ℕ) (text : List ℕ) → n < 2 ^ 64 → EndsAtLineFeed text → EndsAtLineFeed (decimal n ++ text)
number_ends n text small end = behind_ends (decimal n) text (number_without 10 n (omega arith) small) end

amount_ends : (z : ℤ) (text : List ℕ) → FitsSigned w64 z → EndsAtLineFeed text → EndsAtLineFeed (signed_decimal z ++ text)
amount_ends z text fits end = behind_ends (signed_decimal z) text (amount_without 10 z (omega arith) fits) end

fields_end : (line : Line) → OfTypes line → EndsAtLineFeed (fields line)
fields_end (Lot lot) t = letter_ends 85 _ (λ e. omega arith) (number_ends lot _ (omega arith) feed_ends)
fields_end (Notice message amount reference) t =
    letter_ends 78 _ (λ e. omega arith) (number_ends message _ (omega arith) (
    space_ends _ (amount_ends amount _ t.1 (
    space_ends _ (number_ends reference _ (omega arith) feed_ends)))))
fields_end (Print price volume) t =
    letter_ends 80 _ (λ e. omega arith) (number_ends price _ (omega arith) (
    space_ends _ (number_ends volume _ (omega arith) feed_ends)))
fields_end (Fill number side filled unfilled) t =
    letter_ends 70 _ (λ e. omega arith) (number_ends number _ (omega arith) (
    space_ends _ (letter_ends (side_letter side) _ (side_plain side) (number_ends filled _ (omega arith) (
    space_ends _ (number_ends unfilled _ (omega arith) feed_ends))))))
fields_end (Refusal message fault) t =
    letter_ends 82 _ (λ e. omega arith) (number_ends message _ (omega arith) (
    space_ends _ (number_ends _ _ (layer_small (file_layer fault)) (
    space_ends _ (number_ends _ _ (question_small fault) feed_ends)))))

-- so a line ends at its first line feed
pub line_ends : (line : Line) → OfTypes line → EndsAtLineFeed (line_text line)
line_ends line t = rw (text_fields line) (fields_end line t)

-- and a text that ends so is found by its line feed, whatever follows it
pub text_split : (text other rest others : List ℕ) → EndsAtLineFeed text → EndsAtLineFeed other → text ++ rest ≡ other ++ others
    → (text ≡ other) × (rest ≡ others)
text_split text other rest others first second e =
    let here : text ++ rest ≡ first.front ++ 10 ∷ rest = rw (first.whole, append_assoc) refl in
    let there : other ++ others ≡ second.front ++ 10 ∷ others = rw (second.whole, append_assoc) refl in
    let parts = split_once 10 first.front second.front rest others first.plain second.plain (cc) in
    let whole = first.whole in
    let whole' = second.whole in
    let front = parts.0 in
    (cc, parts.1)

-- fields are read back one after another
fields_read : (line other : Line) → OfTypes line → OfTypes other → fields line ≡ fields other → line ≡ other
fields_read (Lot lot) (Lot lot') p q e =
    let first = number_read 10 lot lot' [] [] (omega arith) (omega arith) (omega arith) (ap (drop 2) e) in
    cc
fields_read (Notice message amount reference) (Notice message' amount' reference') p q e =
    let first = number_read 32 message message' _ _ (omega arith) (omega arith) (omega arith) (ap (drop 2) e) in
    let second = amount_read 32 amount amount' _ _ (omega arith) p.1 q.1 first.1 in
    let third = number_read 10 reference reference' [] [] (omega arith) (omega arith) (omega arith) second.1 in
    cc
fields_read (Print price volume) (Print price' volume') p q e =
    let first = number_read 32 price price' _ _ (omega arith) (omega arith) (omega arith) (ap (drop 2) e) in
    let second = number_read 10 volume volume' [] [] (omega arith) (omega arith) (omega arith) first.1 in
    cc
fields_read (Fill number side filled unfilled) (Fill number' side' filled' unfilled') p q e =
    let first = number_read 32 number number' _ _ (omega arith) (omega arith) (omega arith) (ap (drop 2) e) in
    let second = side_read side side' (ap (λ bytes. get_or bytes 0 0) first.1) in
    let third = number_read 32 filled filled' _ _ (omega arith) (omega arith) (omega arith) (ap (drop 2) first.1) in
    let fourth = number_read 10 unfilled unfilled' [] [] (omega arith) (omega arith) (omega arith) third.1 in
    cc
fields_read (Refusal message fault) (Refusal message' fault') p q e =
    let first = number_read 32 message message' _ _ (omega arith) (omega arith) (omega arith) (ap (drop 2) e) in
    let second = number_read 32 _ _ _ _ (omega arith) (layer_small (file_layer fault)) (layer_small (file_layer fault')) first.1 in
    let third = number_read 10 _ _ [] [] (omega arith) (question_small fault) (question_small fault') second.1 in
    let same = fault_read fault fault' third.0 in
    cc
fields_read line other p q e = absurd (omega (arith, ap (λ bytes. get_or bytes 0 0) e))

-- so a line is read back from its text
pub line_read : (line other : Line) → OfTypes line → OfTypes other → line_text line ≡ line_text other → line ≡ other
line_read line other p q e =
    let here = text_fields line in
    let there = text_fields other in
    fields_read line other p q (cc)
