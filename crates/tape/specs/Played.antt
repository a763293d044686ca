-- What a call that plays a file has read, written and left. Assumes nothing.
use Rattle.std.specs.Prelude.{◌≡◌, ⊤, ℕ, true, false, List, [], ◌++◌, length, All, None, Some, Option, Ok, Err, IfSome, Result, MatchResult}
use Rattle.std.specs.Io.KnownBytes.{Appends, Consumes}
use Rattle.line.specs.declared.Line.{Line}
use Rattle.line.specs.Reading.{OfTypes}
use Rattle.tape.specs.declared.trouble.Trouble.{Trouble}
use Rattle.tape.specs.declared.trouble.Trouble.TheVariants as trouble
use Rattle.tape.specs.Ends.{Input, Output, HasRoom}
use Rattle.tape.specs.Pieces.{Went, stage_after_file}
use Rattle.life.specs.Stages.{Stage}
use Rattle.tape.specs.Places.{Lists, Places, opening, lists_at, places_of}
use Rattle.tape.specs.Runs.{opened_at}
use Rattle.tape.specs.Standing.{Standing}
use Rattle.tape.specs.Tapes.{texts, lines_of_file, tape_of}

-- what such a call is lent: where the file comes from, where its tape goes, the two lists and the two work lists
pub record Lent : Type 0 where
  pub input : Input
  pub output : Output
  pub lists : Lists

abbrev pub lent : Input → Output → Lists → Lent
lent input output lists = record { input = input; output = output; lists = lists }

-- this holds, where the trouble is that a read failed
abbrev pub IfInput : Trouble → Type 0 → Type 0
IfInput (trouble.Input error) P = P
IfInput (trouble.Output error) P = ⊤

-- an error is trouble of this sort
abbrev pub as_trouble : {E : Type 0} → (E → Trouble) → Result (Unit {0}) E → Result (Unit {0}) Trouble
as_trouble sort (Ok nothing) = Ok nothing
as_trouble sort (Err error) = Err (sort error)

-- closes are shared by a method of this lot and this meaning
module _ (lot : ℕ) (meaning : ℕ → List ℕ → List ℕ) where
  -- the lines of a file, where as many places are lent, and their bytes
  abbrev pub lines_with : Lent → List ℕ → List Line
  lines_with l file = lines_of_file lot meaning (places_of l.lists) file

  abbrev pub tape_with : Lent → List ℕ → List ℕ
  tape_with l file = tape_of lot meaning (places_of l.lists) file

  -- a whole file was played
  pub record Played (before after : Lent) : Type 0 where
    -- these bytes were read
    pub bytes : List ℕ
    pub read : Consumes before.input.bytes after.input.bytes bytes
    -- what is not read makes no line due: theirs are the lines of the file that the input brings
    pub whole : IfSome before.input.bytes (λ file. lines_with before file ≡ lines_with before bytes)
    -- their tape was written, and nothing else
    pub wrote : Appends before.output.bytes after.output.bytes (tape_with before bytes)
    -- lists and work lists hold what their messages leave
    pub left : after.lists ≡ lists_at (stage_after_file meaning (opening before.lists) bytes)
    -- the numbers of their lines are of their types
    pub types : All OfTypes (lines_with before bytes)
    -- so the bytes of the tape determine the lines
    pub readable : (others : List Line) → All OfTypes others → texts others ≡ tape_with before bytes → others ≡ lines_with before bytes

  -- what may have failed: a read, where one may; or a write or a flush, where the output had no room for sure for the tape of the file
  abbrev pub MayHaveFailed : Trouble → Lent → List ℕ → Type 0
  MayHaveFailed (trouble.Input error) before file = before.input.may_fail ≡ true
  MayHaveFailed (trouble.Output error) before file = HasRoom before.output (length (tape_with before file)) → ⊥

  -- all bytes that were read were taken, and what is written are the lines that a run answers on them, to the last that is due
  pub record AllDue (start : Stage) (taken untaken written : List ℕ) : Type 0 where
    pub all_taken : untaken ≡ []
    pub lines : List Line
    pub standing : Standing
    pub went : Went lot meaning (opened_at start) taken lines standing
    pub quiet : standing.spot.fills ≡ None
    pub wrote : written ≡ texts lines

  -- a file was not played to its end
  pub record Stuck (trouble : Trouble) (before after : Lent) : Type 0 where
    -- these bytes were read and taken, these were read and not taken, and these were not read
    pub taken : List ℕ
    pub untaken : List ℕ
    pub unread : List ℕ
    pub read : Consumes before.input.bytes after.input.bytes (taken ++ untaken)
    -- together they are the file that the input brings
    pub whole : IfSome before.input.bytes (λ file. file ≡ taken ++ (untaken ++ unread))
    -- a beginning of its tape was written, and nothing else
    pub written : List ℕ
    pub unwritten : List ℕ
    pub begins : tape_with before (taken ++ (untaken ++ unread)) ≡ written ++ unwritten
    pub wrote : Appends before.output.bytes after.output.bytes written
    -- where a read failed, no line is wanting that was due before
    pub due : IfInput trouble (AllDue (opening before.lists) taken untaken written)
    -- lists and work lists hold what the messages leave that were taken
    pub left : after.lists ≡ lists_at (stage_after_file meaning (opening before.lists) taken)
    -- the trouble names an end that may have failed
    pub why : MayHaveFailed trouble before (taken ++ (untaken ++ unread))

  -- the answer of a call that plays a file: it was played to its end, or not, and then the trouble says why
  abbrev pub PlaysFile : Result (Unit {0}) Trouble → Lent → Lent → Type 0
  PlaysFile result before after = MatchResult result (λ _. Played before after) (λ trouble. Stuck trouble before after)

  -- the output has room for the tape of what the input brings; where that is not known, for the tape of any file
  abbrev pub HasRoomForTape : Places → Option (List ℕ) → Output → Type 0
  HasRoomForTape places None output = (file : List ℕ) → HasRoom output (length (tape_of lot meaning places file))
  HasRoomForTape places (Some file) output = HasRoom output (length (tape_of lot meaning places file))

  -- nothing can fail, where the session is lent so many places: no read may, and the output has room
  pub record NothingFails (places : Places) (input : Input) (output : Output) : Type 0 where
    pub reads : input.may_fail ≡ false
    pub writes : HasRoomForTape places input.bytes output
