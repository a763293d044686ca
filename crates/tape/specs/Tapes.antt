-- The tape of a file. Assumes nothing.
use Rattle.std.specs.Prelude.{◌≡◌, ℕ, ◌+◌, if◌then◌else◌, List, [], ◌∷◌, ◌++◌, All, Ok, Err, Result}
use Rattle.std.specs.List.{flat_map}
use Rattle.life.specs.Stages.{Stage}
use Rattle.message.specs.declared.fault.FileFault.{FileFault}
use Rattle.message.specs.declared.fault.FileFault.TheVariants.{NoMessage}
use Rattle.line.specs.declared.Line.{Line}
use Rattle.line.specs.declared.Line.TheVariants.{Lot, Refusal}
use Rattle.line.specs.Texts.{line_text}
use Rattle.line.specs.Reading.{OfTypes}
use Rattle.tape.specs.Files.{body_of, messages_of, is_message}
use Rattle.tape.specs.Messages.{stage_left, lines_at}
use Rattle.tape.specs.Places.{Places, blank_lists, opening}

-- the bytes of lines
abbrev pub texts : List Line → List ℕ
texts lines = flat_map line_text lines

-- lines are read back from their bytes: no others have the same, where the numbers of all are of their types
abbrev pub ReadBack : Type 0
ReadBack = (lines others : List Line) → All OfTypes lines → All OfTypes others → texts lines ≡ texts others → lines ≡ others

-- closes are shared by a method of this lot and this meaning
module _ (lot : ℕ) (meaning : ℕ → List ℕ → List ℕ) where
  -- the lines of message n and of those that follow it; the first that is cut, or past the last that a file may have, ends the tape
  abbrev pub message_lines : Stage → ℕ → List (List ℕ) → List Line
  message_lines st n [] = []
  message_lines st n (m ∷ ms) =
      (if is_message n m then lines_at meaning st n m ++ message_lines (stage_left meaning st m) (n + 1) ms
      else Refusal n NoMessage ∷ [])

  -- the lines of a file: the lot and those of its messages, or the refusal of its header
  abbrev pub lines_after_header : Stage → Result (List ℕ) FileFault → List Line
  lines_after_header st (Ok bytes) = Lot lot ∷ message_lines st 1 (messages_of bytes)
  lines_after_header st (Err fault) = Refusal 0 fault ∷ []

  -- those of a file whose session has opened at this stage
  abbrev pub lines_from_opening : Stage → List ℕ → List Line
  lines_from_opening st file = lines_after_header st (body_of file)

  -- the lines of a file depend on how many places the session is lent, and on nothing that these held
  abbrev pub lines_of_file : Places → List ℕ → List Line
  lines_of_file places file = lines_from_opening (opening (blank_lists places)) file

  -- the tape of a file
  abbrev pub tape_of : Places → List ℕ → List ℕ
  tape_of places file = texts (lines_of_file places file)
