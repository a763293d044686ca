-- A side is known by its letter, and a fault by the number of its question. Assumes nothing.
use Rattle.std.proofs.Common.{◌≡◌, ◌≢◌, ◌^◌, ◌<◌, List, [], ◌∷◌, get_or, refl, arith}
use Rattle.order.specs.declared.kind.Side.{Side}
use Rattle.order.specs.declared.kind.Side.TheVariants.{Buy, Sell}
use Rattle.order.specs.Kinds.{side_letter}
use Rattle.session.specs.declared.fault.SessionFault.TheVariants.{Done, OutOfLimits, Earlier, Unlisted, NotNow, NoNotice, AlreadyListed, OrdersFull, NotSmaller, NoSale, AlreadyMandatory, Insignificant, NoticesFull, NoPlace, Unfillable, Unequal}
use Rattle.message.specs.declared.fault.FileFault.{FileFault}
use Rattle.message.specs.declared.fault.FileFault.TheVariants.{NoMark, OtherVersion, NoMessage, Message}
use Rattle.message.specs.declared.fault.MessageFault.TheVariants.{UnknownVerb, Illegal, NotZero, Session}
use Rattle.message.specs.declared.fault.Layer.{Layer}
use Rattle.message.specs.declared.fault.Layer.TheVariants as layer
use Rattle.message.specs.Faults.{layer_number, file_question}

pub side_read : (s t : Side) → side_letter s ≡ side_letter t → s ≡ t
side_read Buy Buy e = refl
side_read Buy Sell e = absurd (omega arith)
side_read Sell Buy e = absurd (omega arith)
side_read Sell Sell e = refl

-- no side has the line feed for its letter
pub side_plain : (s : Side) → side_letter s ≢ 10
side_plain Buy e = omega arith
side_plain Sell e = omega arith

-- the faults by the numbers of their questions, which begin at 1
numbered : List FileFault
numbered =
    NoMark ∷ NoMark ∷ OtherVersion ∷ NoMessage ∷ Message UnknownVerb ∷ Message Illegal ∷ Message NotZero
    ∷ Message (Session Done) ∷ Message (Session OutOfLimits) ∷ Message (Session Earlier) ∷ Message (Session Unlisted)
    ∷ Message (Session NotNow) ∷ Message (Session NoNotice) ∷ Message (Session AlreadyListed) ∷ Message (Session OrdersFull)
    ∷ Message (Session NotSmaller) ∷ Message (Session NoSale) ∷ Message (Session AlreadyMandatory) ∷ Message (Session Insignificant)
    ∷ Message (Session NoticesFull) ∷ Message (Session NoPlace) ∷ Message (Session Unfillable) ∷ Message (Session Unequal) ∷ []

fault_numbered : (fault : FileFault) → (file_question fault < 23) × (get_or numbered (file_question fault) NoMark ≡ fault)
unfolding numbered
fault_numbered NoMark = (omega arith, refl)
fault_numbered OtherVersion = (omega arith, refl)
fault_numbered NoMessage = (omega arith, refl)
fault_numbered (Message UnknownVerb) = (omega arith, refl)
fault_numbered (Message Illegal) = (omega arith, refl)
fault_numbered (Message NotZero) = (omega arith, refl)
fault_numbered (Message (Session Done)) = (omega arith, refl)
fault_numbered (Message (Session OutOfLimits)) = (omega arith, refl)
fault_numbered (Message (Session Earlier)) = (omega arith, refl)
fault_numbered (Message (Session Unlisted)) = (omega arith, refl)
fault_numbered (Message (Session NotNow)) = (omega arith, refl)
fault_numbered (Message (Session NoNotice)) = (omega arith, refl)
fault_numbered (Message (Session AlreadyListed)) = (omega arith, refl)
fault_numbered (Message (Session OrdersFull)) = (omega arith, refl)
fault_numbered (Message (Session NotSmaller)) = (omega arith, refl)
fault_numbered (Message (Session NoSale)) = (omega arith, refl)
fault_numbered (Message (Session AlreadyMandatory)) = (omega arith, refl)
fault_numbered (Message (Session Insignificant)) = (omega arith, refl)
fault_numbered (Message (Session NoticesFull)) = (omega arith, refl)
fault_numbered (Message (Session NoPlace)) = (omega arith, refl)
fault_numbered (Message (Session Unfillable)) = (omega arith, refl)
fault_numbered (Message (Session Unequal)) = (omega arith, refl)

pub fault_read : (f g : FileFault) → file_question f ≡ file_question g → f ≡ g
fault_read f g e =
    let first = (fault_numbered f).1 in
    let second = (fault_numbered g).1 in
    cc

-- the numbers of questions and layers are small
pub question_small : (fault : FileFault) → file_question fault < 2 ^ 64
question_small fault = omega (arith, (fault_numbered fault).0)

pub layer_small : (layer : Layer) → layer_number layer < 2 ^ 64
layer_small layer.File = omega arith
layer_small layer.Message = omega arith
layer_small layer.Session = omega arith
