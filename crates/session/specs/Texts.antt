-- The texts of refusals. Assumes nothing.
use Rattle.std.specs.Prelude.{ℕ, List, codes}
use Rattle.book.specs.declared.fills.FillFault.TheVariants as fill
use Rattle.book.specs.Texts.{fault_text as fill_text}
use Rattle.session.specs.declared.fault.SessionFault.{SessionFault}
use Rattle.session.specs.declared.fault.SessionFault.TheVariants.{Done, OutOfLimits, Earlier, Unlisted, NotNow, NoNotice, AlreadyListed, OrdersFull, NotSmaller, NoSale, AlreadyMandatory, Insignificant, NoticesFull, NoPlace, Unfillable, Unequal}

-- the ground on which a call is refused
abbrev pub fault_text : SessionFault → List ℕ
fault_text Done = codes "the session is done"
fault_text OutOfLimits = codes "a number is outside its limits, or price, mark or quote are not in keeping"
fault_text Earlier = codes "the time is earlier than the clock"
fault_text Unlisted = codes "no order of this number is listed"
fault_text NotNow = codes "the clock does not allow it"
fault_text NoNotice = codes "no mandatory notice for the other side stands"
fault_text AlreadyListed = codes "an order of this number is listed already"
fault_text OrdersFull = codes "the order list has no place left"
fault_text NotSmaller = codes "the new size is not smaller"
fault_text NoSale = codes "there is no sale yet"
fault_text AlreadyMandatory = codes "a mandatory notice stands already"
fault_text Insignificant = codes "the imbalance is 0, or too small for a mandatory notice"
fault_text NoticesFull = codes "the notice list has no place left"
fault_text NoPlace = fill_text fill.NoPlace
fault_text Unfillable = fill_text fill.Unfillable
fault_text Unequal = fill_text fill.Unequal
