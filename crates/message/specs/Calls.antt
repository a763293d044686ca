-- The call in the bytes of a message. Assumes nothing.
use Rattle.std.specs.Prelude.{ℕ, ◌&&◌, ◌==◌, List, Ok, Result}
use Rattle.session.specs.declared.call.Call.{Call}
use Rattle.session.specs.declared.call.Call.TheVariants as call
use Rattle.session.specs.Questions.{ask, ask_for}
use Rattle.message.specs.declared.fault.MessageFault.{MessageFault}
use Rattle.message.specs.declared.fault.MessageFault.TheVariants.{UnknownVerb, Illegal, NotZero}
use Rattle.message.specs.declared.fields.Fields.{Fields}
use Rattle.message.specs.declared.letters.Verb.{Verb}
use Rattle.message.specs.declared.letters.Verb.TheVariants.{Time, Sale, Quote, Entry, Cancel, Reduction, Publication, Close}
use Rattle.message.specs.Fields.{fields_of}
use Rattle.message.specs.Letters.{verb_of, kind_of, side_of, flag_of}

-- the call of a verb in these fields: are the kind, the side and the flag that it uses legal, and are the fields that it does not use 0?
abbrev pub call_in : Verb → Fields → Result Call MessageFault
call_in Time f =
    ask (f.kind == 0 && f.side == 0 && f.flag == 0 && f.number == 0 && f.price == 0) NotZero (
    Ok (call.Time f.quantity))
call_in Sale f =
    ask (f.kind == 0 && f.side == 0 && f.flag == 0 && f.number == 0 && f.quantity == 0) NotZero (
    Ok (call.Sale f.price))
call_in Quote f =
    ask (f.kind == 0 && f.side == 0 && f.flag == 0 && f.number == 0) NotZero (
    Ok (call.Quote (record { bid = f.price; offer = f.quantity })))
call_in Entry f =
    ask_for (kind_of f.kind) Illegal (λ kind.
    ask_for (side_of f.side) Illegal (λ side.
    ask_for (flag_of f.flag) Illegal (λ marked.
    Ok (call.Entry (record { number = f.number; kind = kind; side = side; marked = marked; price = f.price; size = f.quantity })))))
call_in Cancel f =
    ask_for (flag_of f.flag) Illegal (λ in_error.
    ask (f.kind == 0 && f.side == 0 && f.price == 0 && f.quantity == 0) NotZero (
    Ok (call.Cancel f.number in_error)))
call_in Reduction f =
    ask_for (flag_of f.flag) Illegal (λ in_error.
    ask (f.kind == 0 && f.side == 0 && f.price == 0) NotZero (
    Ok (call.Reduction f.number f.quantity in_error)))
call_in Publication f =
    ask_for (flag_of f.flag) Illegal (λ significant.
    ask (f.kind == 0 && f.side == 0 && f.number == 0 && f.price == 0 && f.quantity == 0) NotZero (
    Ok (call.Publication significant)))
call_in Close f =
    ask (f.kind == 0 && f.side == 0 && f.flag == 0 && f.number == 0 && f.quantity == 0) NotZero (
    Ok (call.Close f.price))

-- the call in sixteen bytes: is the verb known, and then as above
abbrev pub decoded : List ℕ → Result Call MessageFault
decoded bytes = ask_for (verb_of (fields_of bytes).verb) UnknownVerb (λ verb. call_in verb (fields_of bytes))
