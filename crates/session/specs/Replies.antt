-- The forms of answers: of one call, and of any. Assumes nothing.
use Rattle.std.specs.Prelude.{Bool, true, false, Ok, Err, Result}
use Rattle.session.specs.declared.call.Outcome.{Outcome}
use Rattle.session.specs.declared.call.Outcome.TheVariants.{Taken, Published, Printed}
use Rattle.session.specs.declared.call.Print.{Print}
use Rattle.session.specs.declared.fault.SessionFault.{SessionFault}
use Rattle.session.specs.declared.notice.Notice.{Notice}

-- accepted, with nothing more to say, or refused
abbrev pub Reply : Type 0
Reply = Result (Unit {0}) SessionFault

-- accepted
abbrev pub accepted : Reply
accepted = Ok tt

-- the answer of any call: refused, or accepted and perhaps with something to say
abbrev pub Answer : Type 0
Answer = Result Outcome SessionFault

-- the answer of a call that has nothing more to say
abbrev pub answer_of : Reply → Answer
answer_of (Ok nothing) = Ok Taken
answer_of (Err fault) = Err fault

-- the answer of a publication
abbrev pub notice_answer_of : Result Notice SessionFault → Answer
notice_answer_of (Ok n) = Ok (Published n)
notice_answer_of (Err fault) = Err fault

-- the answer of a close
abbrev pub print_answer_of : Result Print SessionFault → Answer
print_answer_of (Ok print) = Ok (Printed print)
print_answer_of (Err fault) = Err fault

-- whether a call was answered with a print
abbrev pub is_print : Answer → Bool
is_print (Ok Taken) = false
is_print (Ok (Published n)) = false
is_print (Ok (Printed print)) = true
is_print (Err fault) = false
