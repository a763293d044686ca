-- What playing a piece of a file, and its end, has taken and written. Assumes nothing.
use Rattle.std.specs.Prelude.{◌≡◌, ℕ, List, [], ◌++◌, All, None}
use Rattle.order.specs.declared.kind.Row.{Row}
use Rattle.line.specs.declared.Line.{Line}
use Rattle.line.specs.Reading.{OfTypes}
use Rattle.tape.specs.Ends.{Output}
use Rattle.tape.specs.Pieces.{FinishesAt, Went}
use Rattle.tape.specs.Sending.{Sends, Breaks}
use Rattle.tape.specs.Standing.{Spot, Standing}
use Rattle.tape.specs.Tapes.{texts}

-- an end is played, with lines held back neither before nor after it
pub record Finished (spot : Spot) (rows : List Row) (before after : Output) : Type 0 where
  pub lines : List Line
  pub types : All OfTypes lines
  pub all : (last : List Line) → FinishesAt spot rows last → last ≡ lines
  pub sends : Sends before after [] [] (texts lines)

-- or not to its end
pub record Unfinished (spot : Spot) (rows : List Row) (before after : Output) : Type 0 where
  pub lines : List Line
  pub first : (last : List Line) → FinishesAt spot rows last → (more : List Line) × (last ≡ lines ++ more)
  pub breaks : Breaks before after (texts lines)

-- closes are shared by a method of this lot and this meaning
module _ (lot : ℕ) (meaning : ℕ → List ℕ → List ℕ) where
  -- a piece is played, with lines held back neither before nor after it
  pub record Plays (s s' : Standing) (before after : Output) (piece : List ℕ) : Type 0 where
    pub lines : List Line
    pub types : All OfTypes lines
    pub went : Went lot meaning s piece lines s'
    pub sends : Sends before after [] [] (texts lines)
    -- no F line is due any more
    pub quiet : s'.spot.fills ≡ None

  -- or not to its end
  pub record Stops (s s' : Standing) (before after : Output) (piece : List ℕ) : Type 0 where
    pub bytes : List ℕ
    pub rest : List ℕ
    pub split : piece ≡ bytes ++ rest
    pub lines : List Line
    pub went : Went lot meaning s bytes lines s'
    pub breaks : Breaks before after (texts lines)
