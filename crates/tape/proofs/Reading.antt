-- A whole tape is read back from its bytes. Assumes nothing.
use Rattle.std.proofs.Common.{◌≡◌, List, [], ◌∷◌, ◌++◌, refl, sym}
use Rattle.std.proofs.lemmas.Grind.{flat_map-append}
use Rattle.std.proofs.lemmas.List.Elements.{All-head, All-tail}
use Rattle.line.specs.declared.Line.{Line}
use Rattle.line.specs.declared.Line.TheVariants.{Lot, Notice, Print, Fill, Refusal}
use Rattle.line.specs.Texts.{line_text}
use Rattle.line.specs.Reading.{OfTypes}
use Rattle.line.proofs.Reading.{line_ends, text_split, line_read}
use Rattle.tape.specs.Tapes.{texts, ReadBack}

-- no bytes are those of a line and more
no_bytes : (line : Line) (lines : List Line) → [] ≡ line_text line ++ texts lines → ⊥
no_bytes (Lot lot) lines e = cc
no_bytes (Notice message amount reference) lines e = cc
no_bytes (Print price volume) lines e = cc
no_bytes (Fill number side filled unfilled) lines e = cc
no_bytes (Refusal message fault) lines e = cc

-- the bytes of lines and then of more
pub texts-append : (xs ys : List Line) → texts (xs ++ ys) ≡ texts xs ++ texts ys
texts-append xs ys = flat_map-append line_text xs ys

-- lines are read back one after another
pub read_back : ReadBack
read_back [] [] p q e = refl
read_back [] (other ∷ others) p q e = absurd (no_bytes other others e)
read_back (line ∷ lines) [] p q e = absurd (no_bytes line lines (sym e))
read_back (line ∷ lines) (other ∷ others) p q e =
    let here = All-head OfTypes line lines p in
    let there = All-head OfTypes other others q in
    let parts = text_split (line_text line) (line_text other) (texts lines) (texts others) (line_ends line here) (line_ends other there) e in
    let first = line_read line other here there parts.0 in
    let rest = read_back lines others (All-tail OfTypes line lines p) (All-tail OfTypes other others q) parts.1 in
    cc
