-- However a file is cut into pieces, the calls of a run answer its lines. Assumes nothing.
use Rattle.std.specs.Prelude.{◌≡◌, ℕ, List, [], ◌∷◌, ◌++◌, take, None, Some, Option}
use Rattle.life.specs.Stages.{Stage}
use Rattle.order.specs.declared.kind.Row.{Row}
use Rattle.line.specs.declared.Line.{Line}
use Rattle.tape.specs.Messages.{stage_left, rows_at}
use Rattle.tape.specs.Places.{Places}
use Rattle.tape.specs.Tapes.{lines_of_file}
use Rattle.tape.specs.Upheld.{messages_in}
use Rattle.tape.specs.Standing.{Spot, Standing, advanced, line_at_end, spot_at_end}

-- the line of an answer, or none
abbrev pub answered : Option Line → List Line
answered None = []
answered (Some line) = line ∷ []

-- calls of advance, one after another: the bytes that they took, the lines that they answered, and where the run then stands
pub record Calls : Type 0 where
  pub taken : List ℕ
  pub lines : List Line
  pub standing : Standing

-- these lines are what finish answers, where the orders lie in these rows, until it answers none
abbrev pub FinishesAt : Spot → List Row → List Line → Type 0
FinishesAt spot rows [] = line_at_end spot rows ≡ None
FinishesAt spot rows (line ∷ lines) = (line_at_end spot rows ≡ Some line) × FinishesAt (spot_at_end spot rows) rows lines

abbrev pub Finishes : Standing → List Line → Type 0
Finishes s lines = FinishesAt s.spot (rows_at s.stage) lines

-- closes are shared by a method of this meaning
module _ (meaning : ℕ → List ℕ → List ℕ) where
  -- what messages leave, one after another
  abbrev pub stage_after_messages : Stage → List (List ℕ) → Stage
  stage_after_messages st [] = st
  stage_after_messages st (m ∷ ms) = stage_after_messages (stage_left meaning st m) ms

  -- what a file leaves: every message of it that is whole, and not past the last that a file may have
  abbrev pub stage_after_file : Stage → List ℕ → Stage
  stage_after_file st file = stage_after_messages st (messages_in file)

-- and of this lot
module _ (lot : ℕ) (meaning : ℕ → List ℕ → List ℕ) where
  -- each call is offered a piece, and takes some bytes of it; nothing but the calls changes what the run is lent
  abbrev pub offered : Standing → List (List ℕ) → Calls
  offered s [] = record { taken = []; lines = []; standing = s }
  offered s (piece ∷ pieces) =
      let a = advanced lot meaning s piece in
      let rest = offered a.standing pieces in
      record { taken = take a.answer.taken piece ++ rest.taken; lines = answered a.answer.line ++ rest.lines; standing = rest.standing }

  -- what calls answer and leave, where the session opened at a stage on so many places. The file is the bytes that they took
  pub record AnswersFile (opening : Stage) (places : Places) (calls : Calls) : Type 0 where
    -- whatever follows the bytes that were taken, the lines so far are the first of the file's
    pub first : (more : List ℕ) → (rest : List Line) × (lines_of_file lot meaning places (calls.taken ++ more) ≡ calls.lines ++ rest)
    -- where the file ends here, finish answers the rest of its lines
    pub all : (last : List Line) → Finishes calls.standing last → lines_of_file lot meaning places calls.taken ≡ calls.lines ++ last
    -- and answers none in the end
    pub ends : (last : List Line) × Finishes calls.standing last
    -- lists and work lists hold what the messages so far have left
    pub stage : calls.standing.stage ≡ stage_after_file meaning opening calls.taken

  -- whatever pieces the calls of a run are offered that stands so
  abbrev pub AnswersEachFile : Standing → Places → Type 0
  AnswersEachFile s places = (pieces : List (List ℕ)) → AnswersFile s.stage places (offered s pieces)

  -- calls that are offered some pieces take these bytes, answer these lines, and lead from one standing to another
  pub record Went (s : Standing) (bytes : List ℕ) (lines : List Line) (s' : Standing) : Type 0 where
    pub pieces : List (List ℕ)
    pub is : offered s pieces ≡ record { taken = bytes; lines = lines; standing = s' }
