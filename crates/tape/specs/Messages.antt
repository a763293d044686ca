-- What a message is answered, what it leaves, and the lines that say so. Assumes nothing.
use Rattle.std.specs.Prelude.{ℕ, ◌-◌, List, [], ◌∷◌, map, Ok, Err, Result}
use Rattle.list.specs.Held.{kept}
use Rattle.order.specs.declared.kind.Row.{Row}
use Rattle.session.specs.declared.call.Call.{Call}
use Rattle.session.specs.declared.call.Outcome.{Outcome}
use Rattle.session.specs.declared.call.Outcome.TheVariants.{Taken, Published, Printed}
use Rattle.session.specs.Moments.{answer_at}
use Rattle.session.specs.Replies.{Answer}
use Rattle.life.specs.Stages.{Stage, stage_after}
use Rattle.message.specs.declared.fault.FileFault.{FileFault}
use Rattle.message.specs.declared.fault.FileFault.TheVariants as file
use Rattle.message.specs.declared.fault.MessageFault.{MessageFault}
use Rattle.message.specs.declared.fault.MessageFault.TheVariants as message
use Rattle.message.specs.Calls.{decoded}
use Rattle.line.specs.declared.Line.{Line}
use Rattle.line.specs.declared.Line.TheVariants.{Notice, Print, Fill, Refusal}

-- the answer to a message: that of its call, or why the message is refused
abbrev pub MessageReply : Type 0
MessageReply = Result Outcome MessageFault

-- the same in a file; the number of the message stands beside it in the line
abbrev pub FileReply : Type 0
FileReply = Result Outcome FileFault

-- a session refuses inside the message, and that inside the file
abbrev pub of_session : Answer → MessageReply
of_session (Ok outcome) = Ok outcome
of_session (Err fault) = Err (message.Session fault)

abbrev pub of_message : MessageReply → FileReply
of_message (Ok outcome) = Ok outcome
of_message (Err fault) = Err (file.Message fault)

-- the call in the bytes of a message, or why there is none
abbrev pub Reading : Type 0
Reading = Result Call MessageFault

-- what a message that reads so is answered
abbrev pub reply_to_reading : Stage → Reading → MessageReply
reply_to_reading st (Ok call) = of_session (answer_at st.moment st.work call)
reply_to_reading st (Err fault) = Err fault

-- what sixteen bytes are answered
abbrev pub reply_to : Stage → List ℕ → MessageReply
reply_to st bytes = reply_to_reading st (decoded bytes)

-- what a message that reads so leaves, where a close is shared by a method of this meaning
abbrev pub stage_after_reading : (ℕ → List ℕ → List ℕ) → Stage → Reading → Stage
stage_after_reading meaning st (Ok call) = stage_after meaning st call
stage_after_reading meaning st (Err fault) = st

-- what sixteen bytes leave
abbrev pub stage_left : (ℕ → List ℕ → List ℕ) → Stage → List ℕ → Stage
stage_left meaning st bytes = stage_after_reading meaning st (decoded bytes)

-- the line of an order: its number and side, how many of its shares are filled, and how many are not
abbrev pub fill_line : Row → Line
fill_line row = Fill row.number row.side row.filled (row.size - row.filled)

-- the rows of the orders at a stage
abbrev pub rows_at : Stage → List Row
rows_at st = kept st.moment.orders

-- the lines of message n, answered so, where the orders then lie in these rows
abbrev pub lines_of : ℕ → FileReply → List Row → List Line
lines_of n (Ok Taken) rows = []
lines_of n (Ok (Published notice)) rows = Notice n notice.amount notice.reference ∷ []
lines_of n (Ok (Printed print)) rows = Print print.price print.volume ∷ map fill_line rows
lines_of n (Err fault) rows = Refusal n fault ∷ []

-- the lines of message n, which is these sixteen bytes
abbrev pub lines_at : (ℕ → List ℕ → List ℕ) → Stage → ℕ → List ℕ → List Line
lines_at meaning st n bytes = lines_of n (of_message (reply_to st bytes)) (rows_at (stage_left meaning st bytes))
