-- Where a run stands in its file, what a call of it answers, and where it stands then. Assumes nothing.
use Rattle.std.specs.Prelude.{ℕ, ◌+◌, Bool, true, false, if◌then◌else◌, ◌==◌, List, [], ◌∷◌, ◌++◌, nat_lt, Some, None, Option, Ok, Err, slice_get, is_some}
use Rattle.std.specs.Option.{option_map}
use Rattle.order.specs.declared.kind.Row.{Row}
use Rattle.life.specs.Stages.{Stage}
use Rattle.message.specs.declared.fault.FileFault.{FileFault}
use Rattle.message.specs.declared.fault.FileFault.TheVariants.{NoMark, OtherVersion, NoMessage}
use Rattle.session.specs.declared.call.Outcome.TheVariants.{Taken, Published, Printed}
use Rattle.line.specs.declared.Line.{Line}
use Rattle.line.specs.declared.Line.TheVariants.{Lot, Notice, Print, Refusal}
use Rattle.tape.specs.Files.{is_whole}
use Rattle.tape.specs.Messages.{FileReply, of_message, reply_to, stage_left, rows_at, fill_line}
use Rattle.tape.specs.declared.header.Awaited.{Awaited}
use Rattle.tape.specs.declared.header.Awaited.TheVariants.{C, L, O, High, Low}
use Rattle.tape.specs.declared.run.Advance.{Advance}

-- the byte of a header that is awaited: those of mark and version, one after another
abbrev pub header_byte : Awaited → ℕ
header_byte C = 67
header_byte L = 76
header_byte O = 79
header_byte High = 0
header_byte Low = 1

-- the one after it, or none
abbrev pub awaited_next : Awaited → Option Awaited
awaited_next C = Some L
awaited_next L = Some O
awaited_next O = Some High
awaited_next High = Some Low
awaited_next Low = None

-- the question that is answered no where another byte comes, or no more
abbrev pub header_fault : Awaited → FileFault
header_fault C = NoMark
header_fault L = NoMark
header_fault O = NoMark
header_fault High = OtherVersion
header_fault Low = OtherVersion

-- where a run stands: in the header, of which a byte is awaited; in a message, with its number and the bytes of it that have come; or at the end
pub data Place : Type 0 where
  in_header : Awaited → Place
  in_message : ℕ → List ℕ → Place
  over : Place

-- the place, and the place of the order whose F line is the next one, while those of a close are due
pub record Spot : Type 0 where
  pub place : Place
  pub fills : Option ℕ

-- the spot, and what the messages so far have left
pub record Standing : Type 0 where
  pub spot : Spot
  pub stage : Stage

-- a line or none, and where the run stands then
pub record Turn : Type 0 where
  pub line : Option Line
  pub standing : Standing

-- what a call answers, and where the run stands then
pub record Advanced : Type 0 where
  pub answer : Advance
  pub standing : Standing

abbrev pub turn : Option Line → Standing → Turn
turn line s = record { line = line; standing = s }

abbrev pub at : Place → Option ℕ → Stage → Standing
at place fills st = record { spot = record { place = place; fills = fills }; stage = st }

abbrev pub advanced_by : ℕ → Turn → Advanced
advanced_by taken t = record { answer = record { taken = taken; line = t.line }; standing = t.standing }

-- the same, and some bytes before it
abbrev pub further : ℕ → Advanced → Advanced
further n a = record { answer = record { taken = n + a.answer.taken; line = a.answer.line }; standing = a.standing }

-- the place is another one
abbrev pub placed : Standing → Place → Standing
placed s place = at place s.spot.fills s.stage

-- the F line that is due, or none where none is due any more; and the place of the order whose F line is the next one
abbrev pub due_fill : Option ℕ → List Row → Option Line
due_fill None rows = None
due_fill (Some k) rows = option_map fill_line (slice_get rows k)

abbrev pub next_fills : Option ℕ → List Row → Option ℕ
next_fills None rows = None
next_fills (Some k) rows = option_map (λ row. k + 1) (slice_get rows k)

abbrev pub fill_turn : Standing → Turn
fill_turn s = turn (due_fill s.spot.fills (rows_at s.stage)) (at s.spot.place (next_fills s.spot.fills (rows_at s.stage)) s.stage)

-- the first line of message n that is answered so; and whether F lines follow
abbrev pub first_line : ℕ → FileReply → Option Line
first_line n (Ok Taken) = None
first_line n (Ok (Published notice)) = Some (Notice n notice.amount notice.reference)
first_line n (Ok (Printed print)) = Some (Print print.price print.volume)
first_line n (Err fault) = Some (Refusal n fault)

abbrev pub fills_after : FileReply → Option ℕ
fills_after (Ok Taken) = None
fills_after (Ok (Published notice)) = None
fills_after (Ok (Printed print)) = Some 0
fills_after (Err fault) = None

-- closes are shared by a method of this lot and this meaning
module _ (lot : ℕ) (meaning : ℕ → List ℕ → List ℕ) where
  -- the awaited byte of the header has come: the next one is awaited, or the header is good, and message 1 comes
  abbrev pub after_header_byte : Standing → Option Awaited → Turn
  after_header_byte s (Some next) = turn None (placed s (in_header next))
  after_header_byte s None = turn (Some (Lot lot)) (placed s (in_message 1 []))

  -- a byte comes where one of the header is awaited
  abbrev pub in_header_byte : Standing → Awaited → ℕ → Turn
  in_header_byte s awaited b =
      (if b == header_byte awaited then after_header_byte s (awaited_next awaited)
      else turn (Some (Refusal 0 (header_fault awaited))) (placed s over))

  -- message n is whole
  abbrev pub after_message : Standing → ℕ → List ℕ → Turn
  after_message s n bytes =
      let reply = of_message (reply_to s.stage bytes) in
      turn (first_line n reply) (at (in_message (n + 1) []) (fills_after reply) (stage_left meaning s.stage bytes))

  -- a byte comes where those of message n have come
  abbrev pub in_message_byte : Standing → ℕ → List ℕ → ℕ → Turn
  in_message_byte s n come b =
      (if nat_lt 1000000 n then turn (Some (Refusal n NoMessage)) (placed s over)
      else if is_whole (come ++ b ∷ []) then after_message s n (come ++ b ∷ [])
      else turn None (placed s (in_message n (come ++ b ∷ []))))

  -- a byte comes at a place
  abbrev pub byte_at : Standing → Place → ℕ → Turn
  byte_at s (in_header awaited) b = in_header_byte s awaited b
  byte_at s (in_message n come) b = in_message_byte s n come b
  byte_at s over b = turn None s

  -- bytes come where no F line is due: they are taken until a line is due
  abbrev pub taken_from : Standing → List ℕ → Advanced
  taken_from s [] = advanced_by 0 (turn None s)
  taken_from s (b ∷ bytes) =
      let t = byte_at s s.spot.place b in
      (if is_some t.line then advanced_by 1 t else further 1 (taken_from t.standing bytes))

  -- a piece comes: an F line that is due is the answer, before another byte is taken
  abbrev pub advanced : Standing → List ℕ → Advanced
  advanced s piece = let t = fill_turn s in (if is_some t.line then advanced_by 0 t else taken_from t.standing piece)

-- whether no more lines become due
abbrev pub is_over : Place → Bool
is_over (in_header awaited) = false
is_over (in_message n come) = false
is_over over = true

-- the line that the end makes due at a place
abbrev pub last_line : Place → Option Line
last_line (in_header awaited) = Some (Refusal 0 (header_fault awaited))
last_line (in_message n []) = None
last_line (in_message n (c ∷ come)) = Some (Refusal n NoMessage)
last_line over = None

-- the file ends: an F line that is due is the answer, and then the line that the end makes due
abbrev pub line_at_end : Spot → List Row → Option Line
line_at_end spot rows = (if is_some (due_fill spot.fills rows) then due_fill spot.fills rows else last_line spot.place)

abbrev pub spot_at_end : Spot → List Row → Spot
spot_at_end spot rows = record { place = (if is_some (due_fill spot.fills rows) then spot.place else over); fills = next_fills spot.fills rows }

abbrev pub finished : Standing → Turn
finished s = turn (line_at_end s.spot (rows_at s.stage)) (record { spot = spot_at_end s.spot (rows_at s.stage); stage = s.stage })
