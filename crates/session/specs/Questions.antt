-- The questions that calls put, and their numbers. Assumes nothing.
use Rattle.std.specs.Prelude.{ℕ, Bool, false, if◌then◌else◌, Some, None, Option, Ok, Err, Result, ◌==◌}
use Rattle.book.specs.declared.fills.FillFault.{FillFault}
use Rattle.book.specs.declared.fills.FillFault.TheVariants as fill
use Rattle.session.specs.declared.fault.SessionFault.{SessionFault}
use Rattle.session.specs.declared.fault.SessionFault.TheVariants.{Done, OutOfLimits, Earlier, Unlisted, NotNow, NoNotice, AlreadyListed, OrdersFull, NotSmaller, NoSale, AlreadyMandatory, Insignificant, NoticesFull, NoPlace, Unfillable, Unequal}

-- the number of the question that was answered no
abbrev pub question_of : SessionFault → ℕ
question_of Done = 7
question_of OutOfLimits = 8
question_of Earlier = 9
question_of Unlisted = 10
question_of NotNow = 11
question_of NoNotice = 12
question_of AlreadyListed = 13
question_of OrdersFull = 14
question_of NotSmaller = 15
question_of NoSale = 16
question_of AlreadyMandatory = 17
question_of Insignificant = 18
question_of NoticesFull = 19
question_of NoPlace = 20
question_of Unfillable = 21
question_of Unequal = 22

-- the question that a fill answered no
abbrev pub of_fill : FillFault → SessionFault
of_fill fill.NoPlace = NoPlace
of_fill fill.Unfillable = Unfillable
of_fill fill.Unequal = Unequal

-- a question: where the answer is no, the refusal, and else what follows
abbrev pub ask : {F T : Type 0} → Bool → F → Result T F → Result T F
ask answer fault rest = (if answer then rest else Err fault)

-- a question for something: where there is none, the refusal, and else what follows of it
abbrev pub ask_for : {F X T : Type 0} → Option X → F → (X → Result T F) → Result T F
ask_for None fault rest = Err fault
ask_for (Some x) fault rest = rest x

-- the call was refused, and this is the number of its question
abbrev pub refused_with : {T : Type 0} → ℕ → Result T SessionFault → Bool
refused_with n (Ok x) = false
refused_with n (Err fault) = question_of fault == n
