-- Bytes that are taken one after another. Assumes nothing.
use Rattle.std.proofs.Common.{◌≡◌, ℕ, arith, ◌-◌, ap, ◌∙◌, ◌+◌, ◌<◌, ◌≤◌, true, false, inl, inr, List, [], ◌∷◌, ◌++◌, length, take, drop, Some, None, Option, refl, sym, zero-add, add_assoc}
use Rattle.std.specs.Prelude.{is_some, if◌then◌else◌}
use Rattle.std.proofs.lemmas.Bool.{le-ltb, eq-eqb, ne_eqb, cases_Bool}
use Rattle.std.proofs.lemmas.List.{append_assoc, take-append-drop, take_all, length-append, length-drop}
use Rattle.std.proofs.Math.Seq.{drop-drop}
use Rattle.life.specs.Stages.{Stage}
use Rattle.line.specs.declared.Line.{Line}
use Rattle.tape.specs.Files.{is_whole}
use Rattle.tape.specs.Standing.{Place, in_message, Standing, Turn, Advanced, at, turn, advanced_by, further, fill_turn, byte_at, after_message, taken_from, advanced}

module _ (lot : ℕ) (meaning : ℕ → List ℕ → List ℕ) where
  -- a line is due, or more bytes are taken
  abbrev pub then_on : Advanced → List ℕ → Advanced
  then_on a ys = (if is_some a.answer.line then a else further a.answer.taken (taken_from lot meaning a.standing ys))

  further-zero : (a : Advanced) → further 0 a ≡ a
  further-zero a = rw (zero-add a.answer.taken) refl

  further-further : (m n : ℕ) (a : Advanced) → further m (further n a) ≡ further (m + n) a
  further-further m n a = rw (add_assoc m n a.answer.taken) refl

  further-then : (n : ℕ) (a : Advanced) (ys : List ℕ) → further n (then_on a ys) ≡ then_on (further n a) ys
  further-then n a ys = elim (cases_Bool (is_some a.answer.line)) [
    | inl some ↦ rw some refl
    | inr none ↦ rw none (further-further n a.answer.taken (taken_from lot meaning a.standing ys))
  ]

  -- bytes come, and then more
  pub taken-append : (s : Standing) (xs ys : List ℕ) → taken_from lot meaning s (xs ++ ys) ≡ then_on (taken_from lot meaning s xs) ys
  taken-append s [] ys = sym (further-zero (taken_from lot meaning s ys))
  taken-append s (b ∷ xs) ys = by_line (byte_at lot meaning s s.spot.place b) (λ next. taken-append next xs ys)
    where
      by_line : (t : Turn) → ((next : Standing) → taken_from lot meaning next (xs ++ ys) ≡ then_on (taken_from lot meaning next xs) ys)
          → (if is_some t.line then advanced_by 1 t else further 1 (taken_from lot meaning t.standing (xs ++ ys)))
          ≡ then_on (if is_some t.line then advanced_by 1 t else further 1 (taken_from lot meaning t.standing xs)) ys
      by_line t rest = elim (cases_Bool (is_some t.line)) [
        | inl some ↦ rw some (sym (stays (advanced_by 1 t) some))
        | inr none ↦ rw none (ap (further 1) (rest t.standing) ∙ further-then 1 (taken_from lot meaning t.standing xs) ys)
      ]
        where
          stays : (a : Advanced) → is_some a.answer.line ≡ true → then_on a ys ≡ a
          stays a some = rw some refl

  -- the last of some bytes comes
  last_taken : (line : Option Line) (s : Standing) → (if is_some line then advanced_by 1 (turn line s) else further 1 (taken_from lot meaning s [])) ≡ advanced_by 1 (turn line s)
  last_taken None s = refl
  last_taken (Some line) s = refl

  -- the bytes that a message lacks come
  module _ (fills : Option ℕ) (st : Stage) (n : ℕ) (within : n ≤ 1000000) where
    abbrev begun : List ℕ → Standing
    begun come = at (in_message n come) fills st

    whole_message : (come bytes : List ℕ) → length come + length bytes ≡ 16 → 0 < length bytes
        → taken_from lot meaning (begun come) bytes ≡ advanced_by (length bytes) (after_message lot meaning (begun []) n (come ++ bytes))
    whole_message come [] long some = absurd (omega (arith, some))
    whole_message come (b ∷ []) long some =
        rw (le-ltb 1000000 n within, eq-eqb (length (come ++ b ∷ [])) 16 (omega (arith, length-append come (b ∷ []), long)))
        (last_taken (after_message lot meaning (begun []) n (come ++ b ∷ [])).line (after_message lot meaning (begun []) n (come ++ b ∷ [])).standing)
    whole_message come (b ∷ c ∷ bytes) long some =
        let cut : is_whole (come ++ b ∷ []) ≡ false = ne_eqb (length (come ++ b ∷ [])) 16 (λ whole. omega (arith, length-append come (b ∷ []), long, whole)) in
        let rest = whole_message (come ++ b ∷ []) (c ∷ bytes) (omega (arith, length-append come (b ∷ []), long)) (omega arith) in
        let same : (come ++ b ∷ []) ++ c ∷ bytes ≡ come ++ b ∷ c ∷ bytes = append_assoc come (b ∷ []) (c ∷ bytes) in
        let count : 1 + length (c ∷ bytes) ≡ length (b ∷ c ∷ bytes) = omega arith in
        rw (le-ltb 1000000 n within, cut) (ap (further 1) rest ∙ rw (same, count) refl)

  pub message-taken : (s s' : Standing) (n : ℕ) (bytes : List ℕ) (line : Option Line) → n ≤ 1000000 → s.spot.place ≡ in_message n [] → length bytes ≡ 16
      → turn line s' ≡ after_message lot meaning s n bytes → taken_from lot meaning s bytes ≡ record { answer = record { taken = 16; line = line }; standing = s' }
  message-taken s s' n bytes line within next long is =
      let begins : s ≡ at (in_message n []) s.spot.fills s.stage = ap (λ (p : Place). at p s.spot.fills s.stage) next in
      let enough : 0 < length bytes = omega (arith, long) in
      let whole = whole_message s.spot.fills s.stage n within [] bytes (omega (arith, long)) enough in
      ap (λ (t : Standing). taken_from lot meaning t bytes) begins ∙ whole ∙ ap (λ (k : ℕ). advanced_by k (after_message lot meaning s n bytes)) long ∙ ap (advanced_by 16) (sym is)

  -- of a piece of which some bytes have been taken
  module _ (s s' s'' : Standing) (piece : List ℕ) (taken n : ℕ) (line : Option Line)
      (leads : taken_from lot meaning s piece ≡ further taken (taken_from lot meaning s' (drop taken piece)))
      (more : taken_from lot meaning s' (take n (take (length piece - taken) (drop taken piece))) ≡ record { answer = record { taken = n; line = line }; standing = s'' }) where
    all : take (length piece - taken) (drop taken piece) ≡ drop taken piece
    all = take_all (length piece - taken) (drop taken piece) (omega (arith, length-drop taken piece))

    split : taken_from lot meaning s' (drop taken piece) ≡ then_on (record { answer = record { taken = n; line = line }; standing = s'' }) (drop (taken + n) piece)
    split =
        ap (taken_from lot meaning s') (sym (take-append-drop n (drop taken piece))) ∙ taken-append s' (take n (drop taken piece)) (drop n (drop taken piece))
        ∙ ap (λ (a : Advanced). then_on a (drop n (drop taken piece))) (ap (λ (xs : List ℕ). taken_from lot meaning s' (take n xs)) (sym all) ∙ more)
        ∙ ap (λ (ys : List ℕ). then_on (record { answer = record { taken = n; line = line }; standing = s'' }) ys) (drop-drop n taken piece)

    -- a line is due then
    pub stops : is_some line ≡ true → taken_from lot meaning s piece ≡ record { answer = record { taken = taken + n; line = line }; standing = s'' }
    stops some = leads ∙ ap (further taken) split ∙ rw some refl

    -- or none is
    pub goes_on : is_some line ≡ false → taken_from lot meaning s piece ≡ further (taken + n) (taken_from lot meaning s'' (drop (taken + n) piece))
    goes_on none = leads ∙ ap (further taken) split ∙ rw none (further-further taken n (taken_from lot meaning s'' (drop (taken + n) piece)))

  -- no F line is due: bytes are taken
  pub takes : (s : Standing) (piece : List ℕ) (a : Advanced) → is_some (fill_turn s).line ≡ false → taken_from lot meaning (fill_turn s).standing piece ≡ a → advanced lot meaning s piece ≡ a
  takes s piece a none is = rw none is
