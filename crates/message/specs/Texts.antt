-- The texts of refusals. Assumes nothing.
use Rattle.std.specs.Prelude.{ℕ, List, codes}
use Rattle.session.specs.Texts.{fault_text}
use Rattle.message.specs.declared.fault.FileFault.{FileFault}
use Rattle.message.specs.declared.fault.FileFault.TheVariants.{NoMark, OtherVersion, NoMessage}
use Rattle.message.specs.declared.fault.FileFault.TheVariants as file
use Rattle.message.specs.declared.fault.MessageFault.{MessageFault}
use Rattle.message.specs.declared.fault.MessageFault.TheVariants.{UnknownVerb, Illegal, NotZero}
use Rattle.message.specs.declared.fault.MessageFault.TheVariants as message

-- the ground on which a message is refused
abbrev pub message_text : MessageFault → List ℕ
message_text UnknownVerb = codes "the verb is unknown"
message_text Illegal = codes "the kind, the side or the flag is not legal"
message_text NotZero = codes "an unused byte is not 0"
message_text (message.Session fault) = fault_text fault

-- the ground on which a file refuses
abbrev pub file_text : FileFault → List ℕ
file_text NoMark = codes "the file does not begin with CLO"
file_text OtherVersion = codes "the file is not of version 1"
file_text NoMessage = codes "the message is cut, or past the 1,000,000th"
file_text (file.Message fault) = message_text fault
