-- Whatever pieces the calls of a run are offered, they answer the lines of the file. Assumes nothing.
use Rattle.std.proofs.Common.{◌≡◌, ◌⊎◌, ℕ, zero, suc, ◌+◌, ◌-◌, ◌*◌, ◌<◌, ◌≤◌, Bool, true, false, List, [], ◌∷◌, ◌++◌, length, drop, take, map, inl, inr, Some, None, Option, Ok, Err, refl, ap, sym, subst, ◌∙◌, arith, add-one}
use Rattle.std.specs.Prelude.{nat_le, nat_lt, ◌==◌, if◌then◌else◌, is_some}
use Rattle.std.specs.List.{slice_get}
use Rattle.std.proofs.lemmas.Bool.{cases_lt, cases_eq, cases_Bool, and_right, ne_eqb, eqb-false, eqb-true, lt-ltb, le-ltb, le-leb, lt-leb}
use Rattle.std.proofs.lemmas.List.{append_assoc, append-nil, length-append}
use Rattle.life.specs.Stages.{Stage}
use Rattle.order.specs.declared.kind.Row.{Row}
use Rattle.session.specs.declared.call.Outcome.TheVariants.{Taken, Published, Printed}
use Rattle.line.specs.declared.Line.{Line}
use Rattle.line.specs.declared.Line.TheVariants.{Refusal}
use Rattle.message.specs.declared.fault.FileFault.TheVariants.{NoMessage}
use Rattle.tape.specs.Files.{is_whole, gathered}
use Rattle.tape.specs.Messages.{FileReply, of_message, reply_to, stage_left, rows_at, fill_line, lines_of, lines_at}
use Rattle.tape.specs.Places.{Places}
use Rattle.tape.specs.Tapes.{message_lines, lines_from_opening, lines_of_file}
use Rattle.tape.specs.Upheld.{handled}
use Rattle.tape.specs.declared.header.Awaited.{Awaited}
use Rattle.tape.specs.declared.header.Awaited.TheVariants.{C, L, O, High, Low}
use Rattle.tape.specs.Standing.{Place, in_header, in_message, over, Standing, Turn, Advanced, at, turn, advanced_by, further, header_byte, header_fault, awaited_next, after_header_byte, in_header_byte, in_message_byte, after_message, byte_at, taken_from, advanced, fill_turn, first_line, fills_after, last_line, finished, is_over}
use Rattle.tape.specs.Runs.{opened_at}
use Rattle.tape.specs.Pieces.{answered, Finishes, Calls, Went, offered, AnswersEachFile, stage_after_messages, stage_after_file}

-- the first line of a message and its F lines are its lines
abbrev pub fills_ahead : Option ℕ → List Row → List Line
fills_ahead None rows = []
fills_ahead (Some k) rows = map fill_line (drop k rows)

of_reply : (n : ℕ) (r : FileReply) (rows : List Row) → lines_of n r rows ≡ answered (first_line n r) ++ fills_ahead (fills_after r) rows
of_reply n (Ok Taken) rows = refl
of_reply n (Ok (Published notice)) rows = refl
of_reply n (Ok (Printed print)) rows = refl
of_reply n (Err fault) rows = refl

no_line : (n : ℕ) (r : FileReply) → is_some (first_line n r) ≡ false → fills_after r ≡ None
no_line n (Ok Taken) none = refl
no_line n (Ok (Published notice)) none = refl
no_line n (Ok (Printed print)) none = absurd cc
no_line n (Err fault) none = refl

-- the rows from a place on
from_place : {T : Type 0} (xs : List T) (k : ℕ) (x : T) → slice_get xs k ≡ Some x → drop k xs ≡ x ∷ drop (suc k) xs
from_place [] k x is = absurd cc
from_place (y ∷ ys) zero x is = let same : y ≡ x = cc in rw same refl
from_place (y ∷ ys) (suc k) x is = from_place ys k x is

past_place : {T : Type 0} (xs : List T) (k : ℕ) → slice_get xs k ≡ None → drop k xs ≡ []
past_place [] zero none = refl
past_place [] (suc k) none = refl
past_place (y ∷ ys) zero none = absurd cc
past_place (y ∷ ys) (suc k) none = past_place ys k none

take_next : (k b : ℕ) (xs : List ℕ) → take (1 + k) (b ∷ xs) ≡ b ∷ take k xs
take_next k b xs = let e : 1 + k ≡ suc k = omega arith in rw e refl

cases_Option : {T : Type 0} (o : Option T) → (o ≡ None) ⊎ ((x : T) × (o ≡ Some x))
cases_Option None = inl refl
cases_Option (Some x) = inr (x, refl)

-- the bytes of a header before the one that is awaited
abbrev pub come_before : Awaited → List ℕ
come_before C = []
come_before L = 67 ∷ []
come_before O = 67 ∷ 76 ∷ []
come_before High = 67 ∷ 76 ∷ 79 ∷ []
come_before Low = 67 ∷ 76 ∷ 79 ∷ 0 ∷ []

-- fewer than sixteen bytes of a message have come
abbrev pub Sound : Place → Type 0
Sound (in_header awaited) = Unit {0}
Sound (in_message n come) = length come < 16
Sound over = Unit {0}

-- k bytes have come where message n comes
record CountedIn (k n : ℕ) (come : List ℕ) : Type 0 where
  first : 1 ≤ n
  last : n ≤ 1000001
  so_far : k ≡ 5 + 16 * (n - 1) + length come
  cut : length come < 16
  past : n ≡ 1000001 → length come ≡ 0

-- and at any place
abbrev Counted : ℕ → Place → Type 0
Counted k (in_header awaited) = k ≡ length (come_before awaited)
Counted k (in_message n come) = CountedIn k n come
Counted k over = Unit {0}

sound_at : (k : ℕ) (place : Place) → Counted k place → Sound place
sound_at k (in_header awaited) c = tt
sound_at k (in_message n come) c = c.cut
sound_at k over c = tt

module _ (lot : ℕ) (meaning : ℕ → List ℕ → List ℕ) where
  -- the lines that are still to be written at a place, where these bytes come and then the file ends
  abbrev pub lines_from : Stage → Place → List ℕ → List Line
  lines_from st (in_header awaited) bytes = lines_from_opening lot meaning st (come_before awaited ++ bytes)
  lines_from st (in_message n come) bytes = message_lines lot meaning st n (gathered come bytes)
  lines_from st over bytes = []

  -- a message past the last that a file may have is refused
  past_last : (st : Stage) (n : ℕ) → 1000000 < n → (m : List ℕ) (ms : List (List ℕ)) → message_lines lot meaning st n (m ∷ ms) ≡ Refusal n NoMessage ∷ []
  past_last st n past m ms = rw (and_right (is_whole m) (nat_le n 1000000) (lt-leb n 1000000 past)) refl

  -- as soon as a byte of it comes
  past_at_once : (st : Stage) (n : ℕ) → 1000000 < n → (c : ℕ) (come bytes : List ℕ) → message_lines lot meaning st n (gathered (c ∷ come) bytes) ≡ Refusal n NoMessage ∷ []
  past_at_once st n past c come [] = past_last st n past (c ∷ come) []
  past_at_once st n past c come (b ∷ bytes) = past_if (is_whole (c ∷ (come ++ b ∷ []))) (past_at_once st n past c (come ++ b ∷ []) bytes)
    where
      past_if : (whole : Bool) → message_lines lot meaning st n (gathered (c ∷ (come ++ b ∷ [])) bytes) ≡ Refusal n NoMessage ∷ []
          → message_lines lot meaning st n (if whole then (c ∷ (come ++ b ∷ [])) ∷ gathered [] bytes else gathered (c ∷ (come ++ b ∷ [])) bytes) ≡ Refusal n NoMessage ∷ []
      past_if true later = past_last st n past (c ∷ (come ++ b ∷ [])) (gathered [] bytes)
      past_if false later = later

  past_byte : (st : Stage) (n : ℕ) → 1000000 < n → (come : List ℕ) (b : ℕ) (bytes : List ℕ) → message_lines lot meaning st n (gathered come (b ∷ bytes)) ≡ Refusal n NoMessage ∷ []
  past_byte st n past [] b bytes = past_at_once st n past b [] bytes
  past_byte st n past (c ∷ come) b bytes = past_at_once st n past c come (b ∷ bytes)

  -- the lines that are still to be answered, where these bytes come and then the file ends
  abbrev pub ahead : Standing → List ℕ → List Line
  ahead s bytes = fills_ahead s.spot.fills (rows_at s.stage) ++ lines_from s.stage s.spot.place bytes

  -- of a byte at a place where no F line is due
  module _ (st : Stage) (b : ℕ) (bytes : List ℕ) where
    abbrev Says : Place → Turn → Type 0
    Says place t = lines_from st place (b ∷ bytes) ≡ answered t.line ++ ahead t.standing bytes

    byte_in_header : (awaited : Awaited) → Says (in_header awaited) (in_header_byte lot meaning (at (in_header awaited) None st) awaited b)
    byte_in_header awaited = elim (cases_eq b (header_byte awaited)) [
      | inl good ↦ good_byte awaited good
      | inr bad ↦ bad_byte awaited (ne_eqb b (header_byte awaited) bad)
    ]
      where
        good_byte : (a : Awaited) → b ≡ header_byte a → Says (in_header a) (in_header_byte lot meaning (at (in_header a) None st) a b)
        good_byte C good = rw good refl
        good_byte L good = rw good refl
        good_byte O good = rw good refl
        good_byte High good = rw good refl
        good_byte Low good = rw good refl

        bad_byte : (a : Awaited) → (b == header_byte a) ≡ false → Says (in_header a) (in_header_byte lot meaning (at (in_header a) None st) a b)
        bad_byte C bad = rw bad refl
        bad_byte L bad = rw bad refl
        bad_byte O bad = rw bad refl
        bad_byte High bad = rw bad refl
        bad_byte Low bad = rw bad refl

    whole_byte : (n : ℕ) (m : List ℕ)
        → lines_at meaning st n m ++ message_lines lot meaning (stage_left meaning st m) (n + 1) (gathered [] bytes)
        ≡ answered (after_message lot meaning (at over None st) n m).line ++ ahead (after_message lot meaning (at over None st) n m).standing bytes
    whole_byte n m =
        let r = of_message (reply_to st m) in
        let rows = rows_at (stage_left meaning st m) in
        rw (of_reply n r rows) (append_assoc (answered (first_line n r)) (fills_ahead (fills_after r) rows) (message_lines lot meaning (stage_left meaning st m) (n + 1) (gathered [] bytes)))

    byte_in_message : (n : ℕ) (come : List ℕ) → Says (in_message n come) (in_message_byte lot meaning (at (in_message n come) None st) n come b)
    byte_in_message n come = elim (cases_lt 1000000 n) [
      | inl past ↦ rw (lt-ltb 1000000 n past) (past_byte st n past come b bytes)
      | inr within ↦ elim (cases_Bool (is_whole (come ++ b ∷ []))) [
        | inl whole ↦ rw (le-ltb 1000000 n within, whole, whole, le-leb n 1000000 within) (whole_byte n (come ++ b ∷ []))
        | inr cut ↦ rw (le-ltb 1000000 n within, cut) refl
      ]
    ]

    one_byte : (place : Place) → Says place (byte_at lot meaning (at place None st) place b)
    one_byte (in_header awaited) = byte_in_header awaited
    one_byte (in_message n come) = byte_in_message n come
    one_byte over = refl

  -- a byte that makes no line due leaves no F line due
  quiet_byte : (st : Stage) (place : Place) (b : ℕ) → let t = byte_at lot meaning (at place None st) place b in is_some t.line ≡ false → t.standing.spot.fills ≡ None
  quiet_byte st (in_header awaited) b none = quiet_header (b == header_byte awaited) (awaited_next awaited)
    where
      quiet_header : (good : Bool) (next : Option Awaited)
          → (if good then after_header_byte lot meaning (at (in_header awaited) None st) next else turn (Some (Refusal 0 (header_fault awaited))) (at over None st)).standing.spot.fills ≡ None
      quiet_header true (Some next) = refl
      quiet_header true None = refl
      quiet_header false next = refl
  quiet_byte st (in_message n come) b none = quiet_message (nat_lt 1000000 n) (is_whole (come ++ b ∷ [])) none
    where
      quiet_message : (past whole : Bool)
          → let t = (if past then turn (Some (Refusal n NoMessage)) (at over None st) else if whole then after_message lot meaning (at (in_message n come) None st) n (come ++ b ∷ []) else turn None (at (in_message n (come ++ b ∷ [])) None st)) in
          is_some t.line ≡ false → t.standing.spot.fills ≡ None
      quiet_message true whole none = refl
      quiet_message false true none = no_line n (of_message (reply_to st (come ++ b ∷ []))) none
      quiet_message false false none = refl
  quiet_byte st over b none = refl

  -- bytes are taken where no F line is due
  taken_ahead : (place : Place) (st : Stage) (xs more : List ℕ) → let a = taken_from lot meaning (at place None st) xs in
      ahead (at place None st) (take a.answer.taken xs ++ more) ≡ answered a.answer.line ++ ahead a.standing more
  taken_ahead place st [] more = refl
  taken_ahead place st (b ∷ xs) more =
      let t = byte_at lot meaning (at place None st) place b in
      by_line t.line t.standing (quiet_byte st place b) (λ bytes. one_byte st b bytes place) (λ next stage. taken_ahead next stage xs more)
    where
      by_line : (line : Option Line) (s : Standing) → (is_some line ≡ false → s.spot.fills ≡ None)
          → ((bytes : List ℕ) → ahead (at place None st) (b ∷ bytes) ≡ answered line ++ ahead s bytes)
          → ((next : Place) (stage : Stage) → let a = taken_from lot meaning (at next None stage) xs in
          ahead (at next None stage) (take a.answer.taken xs ++ more) ≡ answered a.answer.line ++ ahead a.standing more)
          → let a : Advanced = (if is_some line then advanced_by 1 (turn line s) else further 1 (taken_from lot meaning s xs)) in
          ahead (at place None st) (take a.answer.taken (b ∷ xs) ++ more) ≡ answered a.answer.line ++ ahead a.standing more
      by_line (Some line) s quiet one rest = one more
      by_line None s quiet one rest =
          let still : s ≡ at s.spot.place None s.stage = ap (λ (f : Option ℕ). at s.spot.place f s.stage) (quiet refl) in
          let Goal : Standing → Type 0 = λ s'. let a = taken_from lot meaning s' xs in ahead s' (take a.answer.taken xs ++ more) ≡ answered a.answer.line ++ ahead a.standing more in
          let k = (taken_from lot meaning s xs).answer.taken in
          let next : take (1 + k) (b ∷ xs) ≡ b ∷ take k xs = take_next k b xs in
          rw next (one (take k xs ++ more) ∙ subst Goal (sym still) (rest s.spot.place s.stage))

  -- an F line is due, or bytes are taken
  pub advanced_ahead : (s : Standing) (piece more : List ℕ) → let a = advanced lot meaning s piece in
      ahead s (take a.answer.taken piece ++ more) ≡ answered a.answer.line ++ ahead a.standing more
  advanced_ahead s piece more = by_fills s.spot.fills
    where
      by_fills : (fills : Option ℕ) → let s' = at s.spot.place fills s.stage in let a = advanced lot meaning s' piece in
          ahead s' (take a.answer.taken piece ++ more) ≡ answered a.answer.line ++ ahead a.standing more
      by_fills None = taken_ahead s.spot.place s.stage piece more
      by_fills (Some k) = elim (cases_Option (slice_get (rows_at s.stage) k)) [
        | inl none ↦ rw (none, past_place (rows_at s.stage) k none) (taken_ahead s.spot.place s.stage piece more)
        | inr (row, is) ↦ rw (is, from_place (rows_at s.stage) k row is, add-one) refl
      ]

  -- a call that answers no line leaves no F line due
  quiet_taken : (place : Place) (st : Stage) (xs : List ℕ) → let a = taken_from lot meaning (at place None st) xs in is_some a.answer.line ≡ false → a.standing.spot.fills ≡ None
  quiet_taken place st [] = λ none. refl
  quiet_taken place st (b ∷ xs) =
      let t = byte_at lot meaning (at place None st) place b in
      by_line t.line t.standing (quiet_byte st place b) (λ next stage. quiet_taken next stage xs)
    where
      by_line : (line : Option Line) (s : Standing) → (is_some line ≡ false → s.spot.fills ≡ None)
          → ((next : Place) (stage : Stage) → let a = taken_from lot meaning (at next None stage) xs in is_some a.answer.line ≡ false → a.standing.spot.fills ≡ None)
          → let a : Advanced = (if is_some line then advanced_by 1 (turn line s) else further 1 (taken_from lot meaning s xs)) in is_some a.answer.line ≡ false → a.standing.spot.fills ≡ None
      by_line (Some line) s quiet rest = λ none. absurd cc
      by_line None s quiet rest =
          let still : s ≡ at s.spot.place None s.stage = ap (λ (f : Option ℕ). at s.spot.place f s.stage) (quiet refl) in
          let Goal : Standing → Type 0 = λ s'. let a = taken_from lot meaning s' xs in is_some a.answer.line ≡ false → a.standing.spot.fills ≡ None in
          subst Goal (sym still) (rest s.spot.place s.stage)

  pub quiet_advanced : (s : Standing) (piece : List ℕ) → let a = advanced lot meaning s piece in is_some a.answer.line ≡ false → a.standing.spot.fills ≡ None
  quiet_advanced s piece = by_fills s.spot.fills
    where
      by_fills : (fills : Option ℕ) → let a = advanced lot meaning (at s.spot.place fills s.stage) piece in is_some a.answer.line ≡ false → a.standing.spot.fills ≡ None
      by_fills None = quiet_taken s.spot.place s.stage piece
      by_fills (Some k) = elim (cases_Option (slice_get (rows_at s.stage) k)) [
        | inl none ↦ rw none (quiet_taken s.spot.place s.stage piece)
        | inr (row, is) ↦ rw is (λ none. absurd cc)
      ]

  -- what the messages leave at a place, where these bytes come and then the file ends
  abbrev pub left_from : Place → Stage → List ℕ → Stage
  left_from (in_header awaited) st bytes = stage_after_file meaning st (come_before awaited ++ bytes)
  left_from (in_message n come) st bytes = stage_after_messages meaning st (handled n (gathered come bytes))
  left_from over st bytes = st

  abbrev pub left : Standing → List ℕ → Stage
  left s bytes = left_from s.spot.place s.stage bytes

  none_handled : (n : ℕ) → 1000000 < n → (ms : List (List ℕ)) → handled n ms ≡ []
  none_handled n past [] = refl
  none_handled n past (m ∷ ms) = rw (and_right (is_whole m) (nat_le n 1000000) (lt-leb n 1000000 past)) refl

  module _ (st : Stage) (fills : Option ℕ) (b : ℕ) (bytes : List ℕ) where
    header_left : (awaited : Awaited) → left_from (in_header awaited) st (b ∷ bytes) ≡ left (in_header_byte lot meaning (at (in_header awaited) fills st) awaited b).standing bytes
    header_left awaited = elim (cases_eq b (header_byte awaited)) [
      | inl good ↦ good_byte awaited good
      | inr bad ↦ bad_byte awaited (ne_eqb b (header_byte awaited) bad)
    ]
      where
        good_byte : (a : Awaited) → b ≡ header_byte a → left_from (in_header a) st (b ∷ bytes) ≡ left (in_header_byte lot meaning (at (in_header a) fills st) a b).standing bytes
        good_byte C good = rw good refl
        good_byte L good = rw good refl
        good_byte O good = rw good refl
        good_byte High good = rw good refl
        good_byte Low good = rw good refl

        bad_byte : (a : Awaited) → (b == header_byte a) ≡ false → left_from (in_header a) st (b ∷ bytes) ≡ left (in_header_byte lot meaning (at (in_header a) fills st) a b).standing bytes
        bad_byte C bad = rw bad refl
        bad_byte L bad = rw bad refl
        bad_byte O bad = rw bad refl
        bad_byte High bad = rw bad refl
        bad_byte Low bad = rw bad refl

    message_left : (n : ℕ) (come : List ℕ) → left_from (in_message n come) st (b ∷ bytes) ≡ left (in_message_byte lot meaning (at (in_message n come) fills st) n come b).standing bytes
    message_left n come = elim (cases_lt 1000000 n) [
      | inl past ↦ rw (lt-ltb 1000000 n past, none_handled n past (gathered come (b ∷ bytes))) refl
      | inr within ↦ elim (cases_Bool (is_whole (come ++ b ∷ []))) [
        | inl whole ↦ rw (le-ltb 1000000 n within, whole, whole, le-leb n 1000000 within) refl
        | inr cut ↦ rw (le-ltb 1000000 n within, cut) refl
      ]
    ]

    byte_left : (place : Place) → left_from place st (b ∷ bytes) ≡ left (byte_at lot meaning (at place fills st) place b).standing bytes
    byte_left (in_header awaited) = header_left awaited
    byte_left (in_message n come) = message_left n come
    byte_left over = refl

  taken_left : (s : Standing) (xs more : List ℕ) → let a = taken_from lot meaning s xs in left s (take a.answer.taken xs ++ more) ≡ left a.standing more
  taken_left s [] more = refl
  taken_left s (b ∷ xs) more =
      let t = byte_at lot meaning s s.spot.place b in
      by_line t (λ bytes. byte_left s.stage s.spot.fills b bytes s.spot.place) (λ next. taken_left next xs more)
    where
      by_line : (t : Turn) → ((bytes : List ℕ) → left s (b ∷ bytes) ≡ left t.standing bytes)
          → ((next : Standing) → let a = taken_from lot meaning next xs in left next (take a.answer.taken xs ++ more) ≡ left a.standing more)
          → let a : Advanced = (if is_some t.line then advanced_by 1 t else further 1 (taken_from lot meaning t.standing xs)) in
          left s (take a.answer.taken (b ∷ xs) ++ more) ≡ left a.standing more
      by_line t one rest =
          let k = (taken_from lot meaning t.standing xs).answer.taken in
          let next : take (1 + k) (b ∷ xs) ≡ b ∷ take k xs = take_next k b xs in
          elim (cases_Bool (is_some t.line)) [
            | inl some ↦ rw some (one more)
            | inr none ↦ rw (none, next) (one (take k xs ++ more) ∙ rest t.standing)
          ]

  advanced_left : (s : Standing) (piece more : List ℕ) → let a = advanced lot meaning s piece in left s (take a.answer.taken piece ++ more) ≡ left a.standing more
  advanced_left s piece more =
      let t = fill_turn s in
      elim (cases_Bool (is_some t.line)) [ inl some ↦ rw some refl | inr none ↦ rw none (taken_left t.standing piece more) ]

  left_at_end : (st : Stage) (place : Place) → Sound place → left_from place st [] ≡ st
  left_at_end st (in_header C) sound = refl
  left_at_end st (in_header L) sound = refl
  left_at_end st (in_header O) sound = refl
  left_at_end st (in_header High) sound = refl
  left_at_end st (in_header Low) sound = refl
  left_at_end st (in_message n []) sound = refl
  left_at_end st (in_message n (c ∷ come)) sound = rw (ne_eqb (length (c ∷ come)) 16 (λ whole. omega (arith, sound, whole))) refl
  left_at_end st over sound = refl

  -- a byte more has come
  counted_byte : (st : Stage) (place : Place) (b k : ℕ) (fills : Option ℕ) → Counted k place → Counted (k + 1) (byte_at lot meaning (at place fills st) place b).standing.spot.place
  counted_byte st (in_header awaited) b k fills c = counted_if awaited (b == header_byte awaited) c
    where
      counted_if : (a : Awaited) (good : Bool) → k ≡ length (come_before a)
          → Counted (k + 1) (if good then after_header_byte lot meaning (at (in_header a) fills st) (awaited_next a) else turn (Some (Refusal 0 (header_fault a))) (at over fills st)).standing.spot.place
      counted_if C true c = omega (arith, c)
      counted_if L true c = omega (arith, c)
      counted_if O true c = omega (arith, c)
      counted_if High true c = omega (arith, c)
      counted_if Low true c = record { first = omega arith; last = omega arith; so_far = omega (arith, c); cut = omega arith; past = λ e. refl }
      counted_if a false c = tt
  counted_byte st (in_message n come) b k fills c = elim (cases_lt 1000000 n) [
    | inl past ↦ rw (lt-ltb 1000000 n past) tt
    | inr within ↦ elim (cases_Bool (is_whole more)) [
      | inl whole ↦ rw (le-ltb 1000000 n within, whole)
          (record { first = omega arith; last = omega (arith, within); so_far = omega (arith, c.so_far, c.first, long, eqb-true (length more) 16 whole); cut = omega arith; past = λ e. refl })
      | inr unfinished ↦ rw (le-ltb 1000000 n within, unfinished)
          (record {
            first = c.first;
            last = c.last;
            so_far = omega (arith, c.so_far, long);
            cut = omega (arith, c.cut, long, eqb-false (length more) 16 unfinished);
            past = λ e. absurd (omega (arith, e, within));
          })
    ]
  ]
    where
      more : List ℕ
      more = come ++ b ∷ []

      long : length more ≡ length come + 1
      long = length-append come (b ∷ [])
  counted_byte st over b k fills c = tt

  -- bytes have come
  counted_taken : (s : Standing) (xs : List ℕ) (j k : ℕ) → Counted k s.spot.place → let a = taken_from lot meaning s xs in j ≡ k + length (take a.answer.taken xs) → Counted j a.standing.spot.place
  counted_taken s [] j k c is = subst (λ (n : ℕ). Counted n s.spot.place) (omega (arith, is)) c
  counted_taken s (b ∷ xs) j k c is = by_line (byte_at lot meaning s s.spot.place b) (counted_byte s.stage s.spot.place b k s.spot.fills c) (λ next. counted_taken next xs j (k + 1)) is
    where
      by_line : (t : Turn) → Counted (k + 1) t.standing.spot.place
          → ((next : Standing) → Counted (k + 1) next.spot.place → let a = taken_from lot meaning next xs in j ≡ k + 1 + length (take a.answer.taken xs) → Counted j a.standing.spot.place)
          → let a : Advanced = (if is_some t.line then advanced_by 1 t else further 1 (taken_from lot meaning t.standing xs)) in
          j ≡ k + length (take a.answer.taken (b ∷ xs)) → Counted j a.standing.spot.place
      by_line t here rest =
          let n = (taken_from lot meaning t.standing xs).answer.taken in
          elim (cases_Bool (is_some t.line)) [
            | inl some ↦ rw some (λ is. subst (λ (m : ℕ). Counted m t.standing.spot.place) (omega (arith, is)) here)
            | inr none ↦ rw none (λ is. rest t.standing here (omega (arith, is, ap length (take_next n b xs))))
          ]

  counted_advanced : (s : Standing) (piece : List ℕ) (j k : ℕ) → Counted k s.spot.place → let a = advanced lot meaning s piece in j ≡ k + length (take a.answer.taken piece) → Counted j a.standing.spot.place
  counted_advanced s piece j k c =
      let t = fill_turn s in
      elim (cases_Bool (is_some t.line)) [
        | inl some ↦ rw some (λ is. subst (λ (n : ℕ). Counted n s.spot.place) (omega (arith, is)) c)
        | inr none ↦ rw none (counted_taken t.standing piece j k c)
      ]

  -- what the end makes due is all that is still to be answered
  at_end : (st : Stage) (place : Place) → Sound place → lines_from st place [] ≡ answered (last_line place)
  at_end st (in_header C) sound = refl
  at_end st (in_header L) sound = refl
  at_end st (in_header O) sound = refl
  at_end st (in_header High) sound = refl
  at_end st (in_header Low) sound = refl
  at_end st (in_message n []) sound = refl
  at_end st (in_message n (c ∷ come)) sound = rw (ne_eqb (length (c ∷ come)) 16 (λ whole. omega (arith, sound, whole))) refl
  at_end st over sound = refl

  finishes_last : (line : Option Line) (s : Standing) → (finished s).line ≡ line → (finished (finished s).standing).line ≡ None → Finishes s (answered line)
  finishes_last None s is after = is
  finishes_last (Some line) s is after = (is, after)

  finishes_fills : (place : Place) (st : Stage) (rows : List Row) (k : ℕ) → drop k (rows_at st) ≡ rows → Finishes (at place (Some k) st) (map fill_line rows ++ answered (last_line place))
  finishes_fills place st [] k from = elim (cases_Option (slice_get (rows_at st) k)) [
    | inl none ↦ finishes_last (last_line place) (at place (Some k) st) (rw none refl) (rw none refl)
    | inr (r, is) ↦ absurd (let e = sym from ∙ from_place (rows_at st) k r is in cc)
  ]
  finishes_fills place st (row ∷ rows) k from = elim (cases_Option (slice_get (rows_at st) k)) [
    | inl none ↦ absurd (let e = sym from ∙ past_place (rows_at st) k none in cc)
    | inr (r, is) ↦
        let s = at place (Some k) st in
        let e : row ∷ rows ≡ r ∷ drop (suc k) (rows_at st) = sym from ∙ from_place (rows_at st) k r is in
        let same : r ≡ row = cc in
        let rest : drop (suc k) (rows_at st) ≡ rows = cc in
        let here : (finished s).line ≡ Some (fill_line row) = rw is (ap (λ (x : Row). Some (fill_line x)) same) in
        let next : (finished s).standing ≡ at place (Some (k + 1)) st = rw is refl in
        (here, subst (λ (s' : Standing). Finishes s' (map fill_line rows ++ answered (last_line place))) (sym next) (finishes_fills place st rows (k + 1) (rw add-one rest)))
  ]

  finishes : (s : Standing) → Sound s.spot.place → Finishes s (ahead s [])
  finishes s sound = by_fills s.spot.fills
    where
      by_fills : (fills : Option ℕ) → Finishes (at s.spot.place fills s.stage) (ahead (at s.spot.place fills s.stage) [])
      by_fills None = rw (at_end s.stage s.spot.place sound) (finishes_last (last_line s.spot.place) (at s.spot.place None s.stage) refl refl)
      by_fills (Some k) = rw (at_end s.stage s.spot.place sound) (finishes_fills s.spot.place s.stage (drop k (rows_at s.stage)) k refl)

  -- there is one way to finish
  finishes_once : (s : Standing) (xs ys : List Line) → Finishes s xs → Finishes s ys → xs ≡ ys
  finishes_once s [] [] p q = refl
  finishes_once s [] (y ∷ ys) p q = absurd (let e = sym p ∙ q.0 in cc)
  finishes_once s (x ∷ xs) [] p q = absurd (let e = sym q ∙ p.0 in cc)
  finishes_once s (x ∷ xs) (y ∷ ys) p q =
      let e : Some x ≡ Some y = sym p.0 ∙ q.0 in
      let same : x ≡ y = cc in
      let rest = finishes_once (finished s).standing xs ys p.1 q.1 in
      cc

  -- calls that are offered any pieces
  offered_ahead : (s : Standing) (pieces : List (List ℕ)) (more : List ℕ) → let c = offered lot meaning s pieces in ahead s (c.taken ++ more) ≡ c.lines ++ ahead c.standing more
  offered_ahead s [] more = refl
  offered_ahead s (piece ∷ pieces) more =
      let a = advanced lot meaning s piece in
      let c = offered lot meaning a.standing pieces in
      ap (ahead s) (append_assoc (take a.answer.taken piece) c.taken more)
      ∙ advanced_ahead s piece (c.taken ++ more)
      ∙ ap (λ (l : List Line). answered a.answer.line ++ l) (offered_ahead a.standing pieces more)
      ∙ sym (append_assoc (answered a.answer.line) c.lines (ahead c.standing more))

  offered_left : (s : Standing) (pieces : List (List ℕ)) (more : List ℕ) → let c = offered lot meaning s pieces in left s (c.taken ++ more) ≡ left c.standing more
  offered_left s [] more = refl
  offered_left s (piece ∷ pieces) more =
      let a = advanced lot meaning s piece in
      let c = offered lot meaning a.standing pieces in
      ap (left s) (append_assoc (take a.answer.taken piece) c.taken more) ∙ advanced_left s piece (c.taken ++ more) ∙ offered_left a.standing pieces more

  counted_offered : (s : Standing) (pieces : List (List ℕ)) (j k : ℕ) → Counted k s.spot.place → let c = offered lot meaning s pieces in j ≡ k + length c.taken → Counted j c.standing.spot.place
  counted_offered s [] j k c is = subst (λ (n : ℕ). Counted n s.spot.place) (omega (arith, is)) c
  counted_offered s (piece ∷ pieces) j k c is =
      let a = advanced lot meaning s piece in
      let first = take a.answer.taken piece in
      counted_offered a.standing pieces j (k + length first) (counted_advanced s piece (k + length first) k c refl) (omega (arith, is, length-append first (offered lot meaning a.standing pieces).taken))

  counted : (st : Stage) (pieces : List (List ℕ)) → let c = offered lot meaning (opened_at st) pieces in Counted (length c.taken) c.standing.spot.place
  counted st pieces = counted_offered (opened_at st) pieces (length (offered lot meaning (opened_at st) pieces).taken) 0 refl (omega arith)

  -- a run that is not over has taken no more bytes than a file may have
  few_at : (k : ℕ) (place : Place) → Counted k place → is_over place ≡ false → k ≤ 16000005
  few_at k (in_header C) c going = omega (arith, c)
  few_at k (in_header L) c going = omega (arith, c)
  few_at k (in_header O) c going = omega (arith, c)
  few_at k (in_header High) c going = omega (arith, c)
  few_at k (in_header Low) c going = omega (arith, c)
  few_at k (in_message n come) c going = elim (cases_lt n 1000001) [
    | inl within ↦ omega (arith, within, c.first, c.so_far, c.cut)
    | inr past ↦ omega (arith, past, c.last, c.so_far, c.past (omega (arith, past, c.last)))
  ]
  few_at k over c going = absurd cc

  pub few_bytes : (st : Stage) (bytes : List ℕ) (lines : List Line) (s : Standing) → Went lot meaning (opened_at st) bytes lines s → is_over s.spot.place ≡ false → length bytes ≤ 16000005
  few_bytes st bytes lines s went = subst (λ (c : Calls). is_over c.standing.spot.place ≡ false → length c.taken ≤ 16000005) went.is
      (few_at (length (offered lot meaning (opened_at st) went.pieces).taken) (offered lot meaning (opened_at st) went.pieces).standing.spot.place (counted st went.pieces))

  -- a session has opened at a stage, and the lines of each file from there on are those on so many places
  module _ (st : Stage) (places : Places) (decide : (file : List ℕ) → lines_from_opening lot meaning st file ≡ lines_of_file lot meaning places file) where
    pub answers_each_file : AnswersEachFile lot meaning (opened_at st) places
    answers_each_file pieces =
        let c = offered lot meaning (opened_at st) pieces in
        let sound = sound_at (length c.taken) c.standing.spot.place (counted st pieces) in
        let last = ahead c.standing [] in
        let ends : Finishes c.standing last = finishes c.standing sound in
        let file : (more : List ℕ) → lines_of_file lot meaning places (c.taken ++ more) ≡ c.lines ++ ahead c.standing more = λ more. sym (decide (c.taken ++ more)) ∙ offered_ahead (opened_at st) pieces more in
        let whole : lines_of_file lot meaning places c.taken ≡ c.lines ++ last = ap (lines_of_file lot meaning places) (sym (append-nil c.taken)) ∙ file [] in
        record {
          first = λ more. (ahead c.standing more, file more);
          all = λ lines finish. whole ∙ ap (λ (l : List Line). c.lines ++ l) (finishes_once c.standing last lines ends finish);
          ends = (last, ends);
          stage = sym (ap (stage_after_file meaning st) (sym (append-nil c.taken)) ∙ offered_left (opened_at st) pieces [] ∙ left_at_end c.standing.stage c.standing.spot.place sound);
        }

    -- after the file was refused no byte makes a line due
    pub nothing_more : (bytes : List ℕ) (lines : List Line) (s : Standing) → Went lot meaning (opened_at st) bytes lines s → is_over s.spot.place ≡ true
        → (more : List ℕ) → lines_of_file lot meaning places (bytes ++ more) ≡ lines_of_file lot meaning places bytes
    nothing_more bytes lines s went done more =
        after more ∙ ap (λ (l : List Line). lines ++ l) (at_over s.spot.fills s.spot.place s.stage done more) ∙ sym (after []) ∙ ap (lines_of_file lot meaning places) (append-nil bytes)
      where
        after : (more : List ℕ) → lines_of_file lot meaning places (bytes ++ more) ≡ lines ++ ahead s more
        after more =
            sym (decide (bytes ++ more))
            ∙ subst (λ (c : Calls). lines_from_opening lot meaning st (c.taken ++ more) ≡ c.lines ++ ahead c.standing more) went.is (offered_ahead (opened_at st) went.pieces more)

        at_over : (fills : Option ℕ) (place : Place) (stage : Stage) → is_over place ≡ true → (more : List ℕ) → ahead (at place fills stage) more ≡ ahead (at place fills stage) []
        at_over fills (in_header awaited) stage done more = absurd cc
        at_over fills (in_message n come) stage done more = absurd cc
        at_over fills over stage done more = refl
