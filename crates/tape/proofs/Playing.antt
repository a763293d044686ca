-- Pieces and the end of a file are played. Assumes nothing.
use Rattle.std.proofs.Common.{◌≡◌, ℕ, ◌-◌, ◌<◌, List, [], ◌∷◌, ◌++◌, length, take, drop, Some, None, Option, Ok, Err, refl, sym, ap, ◌∙◌, subst, arith}
use Rattle.std.specs.Prelude.{Result, MatchResult, All, is_some}
use Rattle.std.proofs.lemmas.List.{append_assoc, append-nil, length-drop, take_all, take-append-drop}
use Rattle.std.proofs.lemmas.List.Elements.{All-nil, All-cons, All-append}
use Rattle.order.specs.declared.kind.Row.{Row}
use Rattle.line.specs.declared.Line.{Line}
use Rattle.line.specs.Reading.{OfTypes}
use Rattle.line.specs.Texts.{line_text}
use Rattle.tape.specs.declared.run.Advance.{Advance}
use Rattle.tape.specs.Ends.{Output}
use Rattle.tape.specs.Pieces.{answered, offered, Calls, Went, FinishesAt}
use Rattle.tape.specs.Parts.{Plays, Stops, Finished, Unfinished}
use Rattle.tape.specs.Sending.{Sends, Breaks}
use Rattle.tape.specs.Standing.{Spot, Standing, advanced, line_at_end, spot_at_end}
use Rattle.tape.specs.Tapes.{texts}
use Rattle.tape.proofs.Pieces.{ahead, advanced_ahead, quiet_advanced}
use Rattle.tape.proofs.Reading.{texts-append}
use Rattle.tape.proofs.Sendings.{sends_more, sends_breaks}

-- the bytes of one more line
texts-line : (lines : List Line) (line : Line) → texts (lines ++ line ∷ []) ≡ texts lines ++ line_text line
texts-line lines line = texts-append lines (line ∷ []) ∙ ap (λ (l : List ℕ). texts lines ++ l) (append-nil (line_text line))

-- one more line is of its types
typed-line : (lines : List Line) (line : Line) → All OfTypes lines → OfTypes line → All OfTypes (lines ++ line ∷ [])
typed-line lines line all typed = All-append OfTypes lines (line ∷ []) all (All-cons OfTypes line [] typed (All-nil OfTypes))

module _ (lot : ℕ) (meaning : ℕ → List ℕ → List ℕ) where
  pub went_none : (s : Standing) → Went lot meaning s [] [] s
  went_none s = record { pieces = []; is = refl }

  offered-append : (s : Standing) (ps qs : List (List ℕ)) → let a = offered lot meaning s ps in let b = offered lot meaning a.standing qs in
      offered lot meaning s (ps ++ qs) ≡ record { taken = a.taken ++ b.taken; lines = a.lines ++ b.lines; standing = b.standing }
  offered-append s [] qs = refl
  offered-append s (p ∷ ps) qs =
      let a = advanced lot meaning s p in
      let b = offered lot meaning a.standing ps in
      let c = offered lot meaning b.standing qs in
      rw (offered-append a.standing ps qs, append_assoc (take a.answer.taken p) b.taken c.taken, append_assoc (answered a.answer.line) b.lines c.lines) refl

module _ {lot : ℕ} {meaning : ℕ → List ℕ → List ℕ} where
  pub went_more : {s s' s'' : Standing} {xs ys : List ℕ} {ls ms : List Line} → Went lot meaning s xs ls s' → Went lot meaning s' ys ms s'' → Went lot meaning s (xs ++ ys) (ls ++ ms) s''
  went_more {s = s} {s' = s'} {xs = xs} {ls = ls} w v =
      let both : Calls → Calls → Calls = λ c d. record { taken = c.taken ++ d.taken; lines = c.lines ++ d.lines; standing = d.standing } in
      let first : Calls = record { taken = xs; lines = ls; standing = s' } in
      record {
        pieces = w.pieces ++ v.pieces;
        is = offered-append lot meaning s w.pieces v.pieces ∙ ap (λ (c : Calls). both c (offered lot meaning c.standing v.pieces)) w.is ∙ ap (both first) v.is;
      }

  went_one : {s s' : Standing} (piece : List ℕ) (a : Advance) → a ≡ (advanced lot meaning s piece).answer → s' ≡ (advanced lot meaning s piece).standing → Went lot meaning s (take a.taken piece) (answered a.line) s'
  went_one {s = s} piece a a_is s'_is =
      record { pieces = piece ∷ []; is = rw (a_is, s'_is, append-nil (take (advanced lot meaning s piece).answer.taken piece), append-nil (answered (advanced lot meaning s piece).answer.line)) refl }

-- some bytes of a piece are taken, and their lines are sent or held back
pub record Goes (lot : ℕ) (meaning : ℕ → List ℕ → List ℕ) (s : Standing) (o : Output) (piece : List ℕ) (s' : Standing) (o' : Output) (unsent rest : List ℕ) : Type 0 where
  pub bytes : List ℕ
  pub lines : List Line
  pub split : piece ≡ bytes ++ rest
  pub went : Went lot meaning s bytes lines s'
  pub sends : Sends o o' [] unsent (texts lines)
  pub types : All OfTypes lines

module _ {lot : ℕ} {meaning : ℕ → List ℕ → List ℕ} {s s1 s2 : Standing} {o o1 : Output} {piece unsent rest : List ℕ} (so_far : Goes lot meaning s o piece s1 o1 unsent rest)
    (a : Advance) (a_is : a ≡ (advanced lot meaning s1 rest).answer) (s2_is : s2 ≡ (advanced lot meaning s1 rest).standing) where
  abbrev bytes : List ℕ
  bytes = so_far.bytes ++ take a.taken rest

  split : piece ≡ bytes ++ drop a.taken rest
  split = so_far.split ∙ ap (λ (l : List ℕ). so_far.bytes ++ l) (sym (take-append-drop a.taken rest)) ∙ sym (append_assoc so_far.bytes (take a.taken rest) (drop a.taken rest))

  went : Went lot meaning s bytes (so_far.lines ++ answered a.line) s2
  went = went_more so_far.went (went_one rest a a_is s2_is)

  -- what is not taken
  left : (rest' : List ℕ) → rest' ≡ take (length rest - a.taken) (drop a.taken rest) → rest' ≡ drop a.taken rest
  left rest' is = is ∙ take_all (length rest - a.taken) (drop a.taken rest) (omega (arith, length-drop a.taken rest))

  -- a line is due
  module _ (line : Line) (due : a.line ≡ Some line) where
    went_line : Went lot meaning s bytes (so_far.lines ++ line ∷ []) s2
    went_line = subst (λ (l : Option Line). Went lot meaning s bytes (so_far.lines ++ answered l) s2) due went

    pub goes_on : {o2 : Output} {unsent' : List ℕ} (rest' : List ℕ) → OfTypes line → rest' ≡ take (length rest - a.taken) (drop a.taken rest) → Sends o1 o2 unsent unsent' (line_text line)
        → Goes lot meaning s o piece s2 o2 unsent' rest'
    goes_on {o2 = o2} {unsent' = unsent'} rest' typed is sends =
        record {
          bytes = bytes;
          lines = so_far.lines ++ line ∷ [];
          split = split ∙ ap (λ (l : List ℕ). bytes ++ l) (sym (left rest' is));
          went = went_line;
          sends = subst (Sends o o2 [] unsent') (sym (texts-line so_far.lines line)) (sends_more so_far.sends sends);
          types = typed-line so_far.lines line so_far.types typed;
        }

    -- each line is one of those that are still to come
    pub goes_down : (rest' : List ℕ) → rest' ≡ take (length rest - a.taken) (drop a.taken rest) → length (ahead lot meaning s2 rest') < length (ahead lot meaning s1 rest)
    goes_down rest' is =
        let k = (advanced lot meaning s1 rest).answer.taken in
        let whole : ahead lot meaning s1 rest ≡ line ∷ ahead lot meaning s2 rest' =
        ap (ahead lot meaning s1) (sym (take-append-drop k rest)) ∙ advanced_ahead lot meaning s1 rest (drop k rest)
        ∙ rw (← a_is, due, ← s2_is, left rest' is) refl in
        omega (arith, ap length whole)

    pub goes_wrong : {o2 : Output} → Breaks o1 o2 (unsent ++ line_text line) → Stops lot meaning s s2 o o2 piece
    goes_wrong {o2 = o2} breaks =
        record {
          bytes = bytes;
          rest = drop a.taken rest;
          split = split;
          lines = so_far.lines ++ line ∷ [];
          went = went_line;
          breaks = subst (Breaks o o2) (sym (texts-line so_far.lines line)) (sends_breaks so_far.sends (line_text line) breaks);
        }

  -- the piece is used up
  pub goes_out : {E : Type 0} (o2 : Output) (unsent' : List ℕ) (r : Result (Unit {0}) E) → a.line ≡ None → a.taken ≡ length rest
      → MatchResult r (λ _. Sends o1 o2 unsent unsent' [] × (unsent' ≡ [])) (λ _. Breaks o1 o2 unsent)
      → MatchResult r (λ _. Plays lot meaning s s2 o o2 piece) (λ _. Stops lot meaning s s2 o o2 piece)
  goes_out {E = E} o2 unsent' r none all sent = by_result r sent
    where
      whole : bytes ≡ piece
      whole = ap (λ (l : List ℕ). so_far.bytes ++ l) (take_all a.taken rest (omega (arith, all))) ∙ sym so_far.split

      went_all : Went lot meaning s piece so_far.lines s2
      went_all =
          subst (λ (xs : List ℕ). Went lot meaning s xs so_far.lines s2) whole
          (subst (λ (ls : List Line). Went lot meaning s bytes ls s2) (ap (λ (l : Option Line). so_far.lines ++ answered l) none ∙ append-nil so_far.lines) went)

      by_result : (r : Result (Unit {0}) E) → MatchResult r (λ _. Sends o1 o2 unsent unsent' [] × (unsent' ≡ [])) (λ _. Breaks o1 o2 unsent)
          → MatchResult r (λ _. Plays lot meaning s s2 o o2 piece) (λ _. Stops lot meaning s s2 o o2 piece)
      by_result (Ok x) sent =
          record {
            lines = so_far.lines;
            types = so_far.types;
            went = went_all;
            sends = subst (λ (l : List ℕ). Sends o o2 [] l (texts so_far.lines)) sent.1 (subst (Sends o o2 [] unsent') (append-nil (texts so_far.lines)) (sends_more so_far.sends sent.0));
            quiet = rw s2_is (quiet_advanced lot meaning s1 rest (ap is_some (sym (ap (λ (x : Advance). x.line) a_is) ∙ none)));
          }
      by_result (Err e) breaks =
          record {
            bytes = piece;
            rest = [];
            split = sym (append-nil piece);
            lines = so_far.lines;
            went = went_all;
            breaks = subst (Breaks o o2) (append-nil (texts so_far.lines)) (sends_breaks so_far.sends [] (subst (Breaks o1 o2) (sym (append-nil unsent)) breaks));
          }

-- some lines of an end were answered, and are sent or held back
pub record Ends (spot : Spot) (rows : List Row) (o : Output) (spot' : Spot) (o' : Output) (unsent : List ℕ) : Type 0 where
  pub lines : List Line
  pub rest : (last : List Line) → FinishesAt spot rows last → (more : List Line) × (last ≡ lines ++ more) × FinishesAt spot' rows more
  pub sends : Sends o o' [] unsent (texts lines)
  pub types : All OfTypes lines

module _ {spot spot1 : Spot} {rows : List Row} {o o1 : Output} {unsent : List ℕ} (so_far : Ends spot rows o spot1 o1 unsent) where
  module _ {spot2 : Spot} (line : Line) (due : line_at_end spot1 rows ≡ Some line) (spot2_is : spot2 ≡ spot_at_end spot1 rows) where
    next : (last : List Line) → FinishesAt spot rows last → (more : List Line) × (last ≡ (so_far.lines ++ line ∷ []) ++ more) × FinishesAt spot2 rows more
    next last finishes = by_more (so_far.rest last finishes).0 (so_far.rest last finishes).1 (so_far.rest last finishes).2
      where
        by_more : (more : List Line) → last ≡ so_far.lines ++ more → FinishesAt spot1 rows more → (rest : List Line) × (last ≡ (so_far.lines ++ line ∷ []) ++ rest) × FinishesAt spot2 rows rest
        by_more [] is ends = absurd (let e = sym ends ∙ due in cc)
        by_more (l ∷ ls) is ends =
            let e = sym ends.0 ∙ due in
            let same : l ≡ line = cc in
            (ls, is ∙ ap (λ (x : Line). so_far.lines ++ x ∷ ls) same ∙ sym (append_assoc so_far.lines (line ∷ []) ls), rw spot2_is ends.1)

    pub ends_on : {o2 : Output} {unsent' : List ℕ} → OfTypes line → Sends o1 o2 unsent unsent' (line_text line) → Ends spot rows o spot2 o2 unsent'
    ends_on {o2 = o2} {unsent' = unsent'} typed sends =
        record {
          lines = so_far.lines ++ line ∷ [];
          rest = next;
          sends = subst (Sends o o2 [] unsent') (sym (texts-line so_far.lines line)) (sends_more so_far.sends sends);
          types = typed-line so_far.lines line so_far.types typed;
        }

    pub ends_wrong : {o2 : Output} → Breaks o1 o2 (unsent ++ line_text line) → Unfinished spot rows o o2
    ends_wrong {o2 = o2} breaks =
        record {
          lines = so_far.lines ++ line ∷ [];
          first = λ last finishes. ((next last finishes).0, (next last finishes).1);
          breaks = subst (Breaks o o2) (sym (texts-line so_far.lines line)) (sends_breaks so_far.sends (line_text line) breaks);
        }

  pub ends_out : {E : Type 0} (o2 : Output) (unsent' : List ℕ) (r : Result (Unit {0}) E) → line_at_end spot1 rows ≡ None
      → MatchResult r (λ _. Sends o1 o2 unsent unsent' [] × (unsent' ≡ [])) (λ _. Breaks o1 o2 unsent)
      → MatchResult r (λ _. Finished spot rows o o2) (λ _. Unfinished spot rows o o2)
  ends_out {E = E} o2 unsent' r none sent = by_result r sent
    where
      no_more : (more : List Line) → FinishesAt spot1 rows more → more ≡ []
      no_more [] ends = refl
      no_more (l ∷ ls) ends = absurd (let e = sym ends.0 ∙ none in cc)

      by_result : (r : Result (Unit {0}) E) → MatchResult r (λ _. Sends o1 o2 unsent unsent' [] × (unsent' ≡ [])) (λ _. Breaks o1 o2 unsent)
          → MatchResult r (λ _. Finished spot rows o o2) (λ _. Unfinished spot rows o o2)
      by_result (Ok x) sent =
          record {
            lines = so_far.lines;
            types = so_far.types;
            all = λ last finishes. let m = so_far.rest last finishes in m.1 ∙ ap (λ (l : List Line). so_far.lines ++ l) (no_more m.0 m.2) ∙ append-nil so_far.lines;
            sends = subst (λ (l : List ℕ). Sends o o2 [] l (texts so_far.lines)) sent.1 (subst (Sends o o2 [] unsent') (append-nil (texts so_far.lines)) (sends_more so_far.sends sent.0));
          }
      by_result (Err e) breaks =
          record {
            lines = so_far.lines;
            first = λ last finishes. ((so_far.rest last finishes).0, (so_far.rest last finishes).1);
            breaks = subst (Breaks o o2) (append-nil (texts so_far.lines)) (sends_breaks so_far.sends [] (subst (Breaks o1 o2) (sym (append-nil unsent)) breaks));
          }
