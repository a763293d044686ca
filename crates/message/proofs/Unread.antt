-- Bytes that are no call are refused by the message, and not by the session. Assumes nothing.
use Rattle.std.proofs.Common.{◌≡◌, ℕ, ◌<◌, Bool, true, false, List, Some, None, Option, Ok, Err, Result, arith}
use Rattle.session.specs.declared.call.Call.{Call}
use Rattle.session.specs.Questions.{ask, ask_for}
use Rattle.message.specs.declared.fault.MessageFault.{MessageFault}
use Rattle.message.specs.declared.fault.MessageFault.TheVariants.{UnknownVerb, Illegal, NotZero}
use Rattle.message.specs.declared.fields.Fields.{Fields}
use Rattle.message.specs.declared.letters.Verb.{Verb}
use Rattle.message.specs.declared.letters.Verb.TheVariants.{Time, Sale, Quote, Entry, Cancel, Reduction, Publication, Close}
use Rattle.message.specs.Calls.{call_in, decoded}
use Rattle.message.specs.Faults.{message_question}
use Rattle.message.specs.Fields.{fields_of}
use Rattle.message.specs.Letters.{verb_of}

-- a reading fails on a question before the session's first, which is 7, or not at all
pub record FailsEarly (reading : Result Call MessageFault) : Type 0 where
  pub early : (fault : MessageFault) → reading ≡ Err fault → message_question fault < 7

-- a call does not fail
call_early : (call : Call) → FailsEarly (Ok call)
call_early call = record { early = λ fault is. absurd cc }

-- such a question is put before a reading that fails so
ask_early : (b : Bool) (fault : MessageFault) (rest : Result Call MessageFault) → message_question fault < 7 → FailsEarly rest
    → FailsEarly (ask b fault rest)
ask_early true fault rest early more = more
ask_early false fault rest early more = record { early = λ other is. let same : fault ≡ other = cc in rw (← same) early }

ask_for_early : {X : Type 0} (o : Option X) (fault : MessageFault) (rest : X → Result Call MessageFault) → message_question fault < 7
    → ((x : X) → FailsEarly (rest x)) → FailsEarly (ask_for o fault rest)
ask_for_early None fault rest early more = record { early = λ other is. let same : fault ≡ other = cc in rw (← same) early }
ask_for_early (Some x) fault rest early more = more x

-- such are the questions whether unused bytes are 0, and whether kinds, sides and flags are legal
unused_early : (b : Bool) (call : Call) → FailsEarly (ask b NotZero (Ok call))
unused_early b call = ask_early b NotZero (Ok call) (omega arith) (call_early call)

legal_early : {X : Type 0} (o : Option X) (rest : X → Result Call MessageFault) → ((x : X) → FailsEarly (rest x))
    → FailsEarly (ask_for o Illegal rest)
legal_early o rest more = ask_for_early o Illegal rest (omega arith) more

call_in_early : (verb : Verb) (f : Fields) → FailsEarly (call_in verb f)
call_in_early Time f = unused_early _ _
call_in_early Sale f = unused_early _ _
call_in_early Quote f = unused_early _ _
call_in_early Entry f = search (legal_early, call_early)
call_in_early Cancel f = search (legal_early, unused_early)
call_in_early Reduction f = search (legal_early, unused_early)
call_in_early Publication f = search (legal_early, unused_early)
call_in_early Close f = unused_early _ _

-- sixteen bytes are read so
pub decoded_early : (bytes : List ℕ) → FailsEarly (decoded bytes)
decoded_early bytes =
    let f = fields_of bytes in
    ask_for_early (verb_of f.verb) UnknownVerb (λ verb. call_in verb f) (omega arith) (λ verb. call_in_early verb f)
