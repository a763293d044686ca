-- A whole file is played. Assumes nothing.
use Rattle.std.proofs.Common.{◌≡◌, ℕ, ◌+◌, ◌-◌, ◌<◌, ◌≤◌, ◌^◌, true, false, List, [], ◌++◌, length, take, Some, None, Option, Ok, Err, inl, inr, refl, sym, ap, ◌∙◌, subst, arith}
use Rattle.std.specs.Prelude.{Result, MatchResult, IfSome, OnOk, IsOk, All}
use Rattle.std.specs.Io.KnownBytes.{Appends, Consumes, Keeps, IsAtEnd}
use Rattle.std.proofs.KnownBytes.{Consumes-trans}
use Rattle.std.proofs.lemmas.Bool.{cases_Bool, false≢true}
use Rattle.std.proofs.lemmas.List.{append_assoc, append-nil, length-append}
use Rattle.std.proofs.lemmas.List.Elements.{All-nil, All-append}
use Rattle.line.specs.declared.Line.{Line}
use Rattle.line.specs.Reading.{OfTypes}
use Rattle.tape.specs.declared.trouble.Trouble.{Trouble}
use Rattle.tape.specs.declared.trouble.Trouble.TheVariants as trouble
use Rattle.tape.specs.Ends.{Input, Output, HasRoom}
use Rattle.tape.specs.Messages.{rows_at}
use Rattle.tape.specs.Pieces.{Went, AnswersFile}
use Rattle.tape.specs.Parts.{Plays, Stops, Finished, Unfinished}
use Rattle.tape.specs.Places.{opening, lists_at, places_of}
use Rattle.tape.specs.Played.{Lent, lent, Played, MayHaveFailed, IfInput, AllDue, Stuck, PlaysFile, as_trouble, NothingFails, HasRoomForTape}
use Rattle.tape.specs.Runs.{opened_at}
use Rattle.tape.specs.Sending.{Sends, Breaks}
use Rattle.tape.specs.Standing.{Standing, is_over}
use Rattle.tape.specs.Tapes.{texts, lines_from_opening, lines_of_file, tape_of}
use Rattle.tape.proofs.Alike.{places_decide}
use Rattle.tape.proofs.Pieces.{answers_each_file, nothing_more, few_bytes}
use Rattle.tape.proofs.Playing.{went_more, went_none}
use Rattle.tape.proofs.Reading.{texts-append, read_back}
use Rattle.tape.proofs.Sendings.{room_as, room_less, sends_none, sends_more, sends_breaks}

-- the bytes that are left, where they are known
abbrev known_of : Option (List ℕ) → List ℕ
known_of None = []
known_of (Some xs) = xs

-- read, not taken and left, they are the file
whole-is : (input left : Option (List ℕ)) (taken untaken : List ℕ) → Consumes input left (taken ++ untaken) → IfSome input (λ file. file ≡ taken ++ (untaken ++ known_of left))
whole-is None left taken untaken read = tt
whole-is (Some file) None taken untaken read = absurd read
whole-is (Some file) (Some more) taken untaken read = read ∙ append_assoc taken untaken more

keeps-consumes : (a b c : Option (List ℕ)) (xs : List ℕ) → Consumes a b xs → Keeps b c → Consumes a c xs
keeps-consumes None b c xs p q = tt
keeps-consumes (Some x) None c xs p q = absurd p
keeps-consumes (Some x) (Some y) None xs p q = absurd q
keeps-consumes (Some x) (Some y) (Some z) xs p q = p ∙ ap (λ (l : List ℕ). xs ++ l) (sym q)

consumes-none : (a : Option (List ℕ)) → Consumes a a []
consumes-none None = tt
consumes-none (Some x) = refl

-- a read that brings no byte
pub read_none : (a b : Option (List ℕ)) (n : ℕ) (xs : List ℕ) → n ≡ 0 → Consumes a b (take n xs) → Consumes a b []
read_none a b n xs none read = subst (λ (k : ℕ). Consumes a b (take k xs)) none read

-- all that was to be sent is sent
sent-all : {o o' : Output} {xs : List ℕ} → Sends o o' [] [] xs → Appends o.bytes o'.bytes xs
sent-all {o = o} {o' = o'} sends = subst (Appends o.bytes o'.bytes) (sym (sends.split ∙ append-nil sends.sent)) sends.wrote

module _ (lot : ℕ) (meaning : ℕ → List ℕ → List ℕ) where
  -- where nothing can fail, no file is left unfinished
  never-stuck : (t : Trouble) (before after : Lent) → NothingFails lot meaning (places_of before.lists) before.input before.output → Stuck lot meaning t before after → ⊥
  never-stuck (trouble.Input error) before after nothing stuck = false≢true (sym nothing.reads ∙ stuck.why)
  never-stuck (trouble.Output error) before after nothing stuck = by_input before.input.bytes nothing.writes stuck.whole
    where
      file : List ℕ
      file = stuck.taken ++ (stuck.untaken ++ stuck.unread)

      by_input : (input : Option (List ℕ)) → HasRoomForTape lot meaning (places_of before.lists) input before.output → IfSome input (λ whole. whole ≡ stuck.taken ++ (stuck.untaken ++ stuck.unread)) → ⊥
      by_input None room same = stuck.why (room file)
      by_input (Some whole) room same = stuck.why (subst (λ (f : List ℕ). HasRoom before.output (length (tape_of lot meaning (places_of before.lists) f))) same room)

  pub plays_ok : (r : Result (Unit {0}) Trouble) (before after : Lent) → PlaysFile lot meaning r before after → NothingFails lot meaning (places_of before.lists) before.input before.output → IsOk r
  plays_ok (Ok x) before after plays nothing = refl
  plays_ok (Err t) before after stuck nothing = absurd (never-stuck t before after nothing stuck)

  -- what follows where a whole file was played
  pub on_played : {P : Type 0} (r : Result (Unit {0}) Trouble) (before after : Lent) → PlaysFile lot meaning r before after → (Played lot meaning before after → P) → OnOk r P
  on_played (Ok x) before after played says = says played
  on_played (Err t) before after stuck says = tt

-- some bytes were read and taken, and their lines are sent
pub record Far (lot : ℕ) (meaning : ℕ → List ℕ → List ℕ) (before : Lent) (input : Input) (output : Output) (s : Standing) (unsent : List ℕ) (turn : ℕ) : Type 0 where
  pub bytes : List ℕ
  pub lines : List Line
  pub read : Consumes before.input.bytes input.bytes bytes
  pub went : Went lot meaning (opened_at (opening before.lists)) bytes lines s
  pub sends : Sends before.output output [] [] (texts lines)
  pub types : All OfTypes lines
  pub empty : unsent ≡ []
  pub stays : input.may_fail ≡ true → before.input.may_fail ≡ true
  -- where no read may fail, each turn read a byte or more
  pub turns : before.input.may_fail ≡ false → turn ≤ length bytes
  -- no F line is due
  pub quiet : s.spot.fills ≡ None

module _ {lot : ℕ} {meaning : ℕ → List ℕ → List ℕ} {before : Lent} where
  pub far_begun : {s : Standing} {unsent : List ℕ} → s ≡ opened_at (opening before.lists) → unsent ≡ [] → Far lot meaning before before.input before.output s unsent 0
  far_begun {s = s} opened empty =
      record {
        bytes = [];
        lines = [];
        read = consumes-none before.input.bytes;
        went = subst (Went lot meaning (opened_at (opening before.lists)) [] []) (sym opened) (went_none lot meaning (opened_at (opening before.lists)));
        sends = sends_none before.output [];
        types = All-nil OfTypes;
        empty = empty;
        stays = λ fails. fails;
        turns = λ safe. omega arith;
        quiet = rw opened refl;
      }

  module _ {input input2 : Input} {output : Output} {s : Standing} {unsent : List ℕ} {turn : ℕ} (far : Far lot meaning before input output s unsent turn) (stays : input2.may_fail ≡ true → input.may_fail ≡ true) where
    -- a piece was read and played
    pub far_on : {output2 : Output} {s2 : Standing} {unsent2 piece : List ℕ} → Consumes input.bytes input2.bytes piece → 0 < length piece
        → Plays lot meaning s s2 output output2 piece → unsent2 ≡ [] → Far lot meaning before input2 output2 s2 unsent2 (turn + 1)
    far_on {output2 = output2} {piece = piece} read some plays empty =
        record {
          bytes = far.bytes ++ piece;
          lines = far.lines ++ plays.lines;
          read = Consumes-trans before.input.bytes input.bytes input2.bytes far.bytes piece far.read read;
          went = went_more far.went plays.went;
          sends = subst (Sends before.output output2 [] []) (sym (texts-append far.lines plays.lines)) (sends_more far.sends plays.sends);
          types = All-append OfTypes far.lines plays.lines far.types plays.types;
          empty = empty;
          stays = λ fails. far.stays (stays fails);
          turns = λ safe. omega (arith, far.turns safe, some, length-append far.bytes piece);
          quiet = plays.quiet;
        }

    -- a read was interrupted
    pub far_again : Keeps input.bytes input2.bytes → input.may_fail ≡ true → Far lot meaning before input2 output s unsent (turn + 1)
    far_again kept fails =
        record {
          bytes = far.bytes;
          lines = far.lines;
          read = keeps-consumes before.input.bytes input.bytes input2.bytes far.bytes far.read kept;
          went = far.went;
          sends = far.sends;
          types = far.types;
          empty = far.empty;
          stays = λ fails. far.stays (stays fails);
          turns = λ safe. absurd (false≢true (sym safe ∙ far.stays fails));
          quiet = far.quiet;
        }

module _ (lot : ℕ) (meaning : ℕ → List ℕ → List ℕ) (before : Lent) (paired : (amount : ℕ) (claims : List ℕ) → length (meaning amount claims) ≡ length claims) where
  -- the lines of a file depend on how many places there are alone
  decide : (file : List ℕ) → lines_from_opening lot meaning (opening before.lists) file ≡ lines_of_file lot meaning (places_of before.lists) file
  decide = places_decide lot meaning paired before.lists

  abbrev lines_on : List ℕ → List Line
  lines_on file = lines_of_file lot meaning (places_of before.lists) file

  abbrev tape_on : List ℕ → List ℕ
  tape_on file = tape_of lot meaning (places_of before.lists) file

  -- the file, as far as it is known, where some bytes were taken, some were read besides, and some are left
  abbrev file_of : List ℕ → List ℕ → Input → List ℕ
  file_of taken untaken left = taken ++ (untaken ++ known_of left.bytes)

  -- what is not read makes no line due
  abbrev Closed : List ℕ → Option (List ℕ) → Type 0
  Closed bytes left = (more : List ℕ) → left ≡ Some more → lines_on (bytes ++ more) ≡ lines_on bytes

  law : {bytes : List ℕ} {lines : List Line} {s : Standing} → Went lot meaning (opened_at (opening before.lists)) bytes lines s
      → AnswersFile lot meaning (opening before.lists) (places_of before.lists) (record { taken = bytes; lines = lines; standing = s })
  law went = subst (AnswersFile lot meaning (opening before.lists) (places_of before.lists)) went.is (answers_each_file lot meaning (opening before.lists) (places_of before.lists) decide went.pieces)

  module _ {input : Input} {output : Output} {s : Standing} {taken : List ℕ} {lines : List Line} (untaken : List ℕ)
      (went : Went lot meaning (opened_at (opening before.lists)) taken lines s) (read : Consumes before.input.bytes input.bytes (taken ++ untaken)) where
    -- trouble leaves a file unfinished
    stuck : (t : Trouble) (written unwritten : List ℕ) → tape_on (file_of taken untaken input) ≡ written ++ unwritten → Appends before.output.bytes output.bytes written → MayHaveFailed lot meaning t before (file_of taken untaken input)
        → IfInput t (AllDue lot meaning (opening before.lists) taken untaken written) → Stuck lot meaning t before (lent input output (lists_at s.stage))
    stuck t written unwritten begins wrote why due =
        record {
          taken = taken;
          untaken = untaken;
          unread = known_of input.bytes;
          read = read;
          whole = whole-is before.input.bytes input.bytes taken untaken read;
          written = written;
          unwritten = unwritten;
          begins = begins;
          wrote = wrote;
          due = due;
          left = ap lists_at (law went).stage;
          why = why;
        }

    -- a write or a flush failed
    stuck_output : (xs tail : List ℕ) → Breaks before.output output xs → tape_on (file_of taken untaken input) ≡ xs ++ tail → (error : _) → Stuck lot meaning (trouble.Output error) before (lent input output (lists_at s.stage))
    stuck_output xs tail breaks is = λ error.
        stuck (trouble.Output error) breaks.sent (breaks.unsent ++ tail) (is ∙ ap (λ (l : List ℕ). l ++ tail) breaks.split ∙ append_assoc breaks.sent breaks.unsent tail) breaks.wrote
        (λ room. breaks.short (room_less before.output (length xs) (length tail) (room_as before.output (length (tape_on (file_of taken untaken input))) (length xs + length tail) (ap length is ∙ length-append xs tail) room)))
        tt

  module _ {input : Input} {output : Output} {s : Standing} {unsent : List ℕ} {turn : ℕ} (far : Far lot meaning before input output s unsent turn) (input2 : Input) where
    -- a read failed
    stuck_input : Consumes before.input.bytes input2.bytes far.bytes → before.input.may_fail ≡ true → (error : _) → Stuck lot meaning (trouble.Input error) before (lent input2 output (lists_at s.stage))
    stuck_input read fails = λ error.
        let f = (law far.went).first ([] ++ known_of input2.bytes) in
        stuck {input = input2} {output = output} [] far.went (subst (Consumes before.input.bytes input2.bytes) (sym (append-nil far.bytes)) read) (trouble.Input error) (texts far.lines) (texts f.0)
        (ap texts f.1 ∙ texts-append far.lines f.0) (sent-all far.sends) fails
        (record { all_taken = refl; lines = far.lines; standing = s; went = far.went; quiet = far.quiet; wrote = refl })

    pub far_input : Keeps input.bytes input2.bytes → input.may_fail ≡ true → (error : _) → Stuck lot meaning (trouble.Input error) before (lent input2 output (lists_at s.stage))
    far_input kept fails = stuck_input (keeps-consumes before.input.bytes input.bytes input2.bytes far.bytes far.read kept) (far.stays fails)

    -- a write failed within a piece
    pub far_stops : {output2 : Output} {s2 : Standing} {piece : List ℕ} → Consumes input.bytes input2.bytes piece → Stops lot meaning s s2 output output2 piece
        → (error : _) → Stuck lot meaning (trouble.Output error) before (lent input2 output2 (lists_at s2.stage))
    far_stops {output2 = output2} {s2 = s2} {piece = piece} read stops =
        let taken = far.bytes ++ stops.bytes in
        let went : Went lot meaning (opened_at (opening before.lists)) taken (far.lines ++ stops.lines) s2 = went_more far.went stops.went in
        let split : far.bytes ++ piece ≡ taken ++ stops.rest = ap (λ (l : List ℕ). far.bytes ++ l) stops.split ∙ sym (append_assoc far.bytes stops.bytes stops.rest) in
        let f = (law went).first (stops.rest ++ known_of input2.bytes) in
        stuck_output {input = input2} {output = output2} stops.rest went
        (subst (Consumes before.input.bytes input2.bytes) split (Consumes-trans before.input.bytes input.bytes input2.bytes far.bytes piece far.read read))
        (texts far.lines ++ texts stops.lines) (texts f.0) (sends_breaks far.sends (texts stops.lines) stops.breaks)
        (ap texts f.1 ∙ texts-append (far.lines ++ stops.lines) f.0 ∙ ap (λ (l : List ℕ). l ++ texts f.0) (texts-append far.lines stops.lines))

    -- the file ends, or was refused
    module _ (read : Consumes before.input.bytes input2.bytes far.bytes) (closed : Closed far.bytes input2.bytes) {output2 : Output} where
      played : Finished s.spot (rows_at s.stage) output output2 → Played lot meaning before (lent input2 output2 (lists_at s.stage))
      played fin =
          let l = law far.went in
          let last : l.ends.0 ≡ fin.lines = fin.all l.ends.0 l.ends.1 in
          let lines : lines_on far.bytes ≡ far.lines ++ fin.lines = l.all l.ends.0 l.ends.1 ∙ ap (λ (ls : List Line). far.lines ++ ls) last in
          let typed : All OfTypes (lines_on far.bytes) = subst (All OfTypes) (sym lines) (All-append OfTypes far.lines fin.lines far.types fin.types) in
          record {
            bytes = far.bytes;
            read = read;
            whole = by_input before.input.bytes input2.bytes read closed;
            wrote = subst (Appends before.output.bytes output2.bytes) (sym (ap texts lines ∙ texts-append far.lines fin.lines)) (sent-all (sends_more far.sends fin.sends));
            left = ap lists_at l.stage;
            types = typed;
            readable = λ others others_typed same. read_back others (lines_on far.bytes) others_typed typed same;
          }
        where
          by_input : (i rest : Option (List ℕ)) → Consumes i rest far.bytes → Closed far.bytes rest
              → IfSome i (λ file. lines_on file ≡ lines_on far.bytes)
          by_input None rest read closed = tt
          by_input (Some file) None read closed = absurd read
          by_input (Some file) (Some more) read closed = ap lines_on read ∙ closed more refl

      unfinished : Unfinished s.spot (rows_at s.stage) output output2 → (error : _) → Stuck lot meaning (trouble.Output error) before (lent input2 output2 (lists_at s.stage))
      unfinished unfin =
          let l = law far.went in
          let first = unfin.first l.ends.0 l.ends.1 in
          let tape : tape_on far.bytes ≡ (texts far.lines ++ texts unfin.lines) ++ texts first.0 =
          ap texts (l.all l.ends.0 l.ends.1) ∙ texts-append far.lines l.ends.0
          ∙ ap (λ (ls : List ℕ). texts far.lines ++ ls) (ap texts first.1 ∙ texts-append unfin.lines first.0)
          ∙ sym (append_assoc (texts far.lines) (texts unfin.lines) (texts first.0)) in
          stuck_output {input = input2} {output = output2} [] far.went (subst (Consumes before.input.bytes input2.bytes) (sym (append-nil far.bytes)) read)
          (texts far.lines ++ texts unfin.lines) (texts first.0) (sends_breaks far.sends (texts unfin.lines) unfin.breaks)
          (by_rest input2.bytes closed ∙ tape)
        where
          by_rest : (rest : Option (List ℕ)) → Closed far.bytes rest → tape_on (far.bytes ++ ([] ++ known_of rest)) ≡ tape_on far.bytes
          by_rest None closed = ap tape_on (append-nil far.bytes)
          by_rest (Some more) closed = ap texts (closed more refl)

    -- nothing is left to read
    read_all : Consumes input.bytes input2.bytes [] → Consumes before.input.bytes input2.bytes far.bytes
    read_all read = subst (Consumes before.input.bytes input2.bytes) (append-nil far.bytes) (Consumes-trans before.input.bytes input.bytes input2.bytes far.bytes [] far.read read)

    closed_end : IsAtEnd input2.bytes → Closed far.bytes input2.bytes
    closed_end at_end = by_rest input2.bytes at_end
      where
        by_rest : (rest : Option (List ℕ)) → IsAtEnd rest → Closed far.bytes rest
        by_rest None at_end more is = absurd cc
        by_rest (Some xs) at_end more is =
            let same : xs ≡ more = cc in
            ap lines_on (ap (λ (l : List ℕ). far.bytes ++ l) (sym same ∙ at_end) ∙ append-nil far.bytes)

    closed_over : is_over s.spot.place ≡ true → Closed far.bytes input2.bytes
    closed_over over more is = nothing_more lot meaning (opening before.lists) (places_of before.lists) decide far.bytes far.lines s far.went over more

    by_end : (output2 : Output) (r : Result (Unit {0}) _) → Consumes before.input.bytes input2.bytes far.bytes → Closed far.bytes input2.bytes
        → MatchResult r (λ _. Finished s.spot (rows_at s.stage) output output2) (λ _. Unfinished s.spot (rows_at s.stage) output output2)
        → PlaysFile lot meaning (as_trouble trouble.Output r) before (lent input2 output2 (lists_at s.stage))
    by_end output2 (Ok x) read closed ended = played read closed ended
    by_end output2 (Err error) read closed ended = unfinished read closed ended error

    -- the file ends
    pub far_end : (output2 : Output) (r : Result (Unit {0}) _) → Consumes input.bytes input2.bytes [] → IsAtEnd input2.bytes
        → MatchResult r (λ _. Finished s.spot (rows_at s.stage) output output2) (λ _. Unfinished s.spot (rows_at s.stage) output output2)
        → PlaysFile lot meaning (as_trouble trouble.Output r) before (lent input2 output2 (lists_at s.stage))
    far_end output2 r read at_end ended = by_end output2 r (read_all read) (closed_end at_end) ended

  module _ {input : Input} {output : Output} {s : Standing} {unsent : List ℕ} {turn : ℕ} (far : Far lot meaning before input output s unsent turn) where
    -- the file was refused
    pub far_over : (output2 : Output) (r : Result (Unit {0}) _) → is_over s.spot.place ≡ true
        → MatchResult r (λ _. Finished s.spot (rows_at s.stage) output output2) (λ _. Unfinished s.spot (rows_at s.stage) output output2)
        → PlaysFile lot meaning (as_trouble trouble.Output r) before (lent input output2 (lists_at s.stage))
    far_over output2 r over ended = by_end far input output2 r far.read (closed_over far input over) ended

    -- no read succeeds in the end
    pub far_endless : is_over s.spot.place ≡ false → 2 ^ 64 - 1 ≤ turn → (error : _) → Stuck lot meaning (trouble.Input error) before (lent input output (lists_at s.stage))
    far_endless going long = elim (cases_Bool before.input.may_fail) [
      | inl fails ↦ stuck_input far input far.read fails
      | inr safe ↦ absurd (omega (arith, long, far.turns safe, few_bytes lot meaning (opening before.lists) far.bytes far.lines s far.went going))
    ]
