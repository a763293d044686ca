-- The layers of a file and the numbers of their questions. Assumes nothing.
use Rattle.std.specs.Prelude.{ℕ}
use Rattle.session.specs.Questions.{question_of}
use Rattle.message.specs.declared.fault.FileFault.{FileFault}
use Rattle.message.specs.declared.fault.FileFault.TheVariants.{NoMark, OtherVersion, NoMessage}
use Rattle.message.specs.declared.fault.FileFault.TheVariants as file
use Rattle.message.specs.declared.fault.Layer.{Layer}
use Rattle.message.specs.declared.fault.Layer.TheVariants as layer
use Rattle.message.specs.declared.fault.MessageFault.{MessageFault}
use Rattle.message.specs.declared.fault.MessageFault.TheVariants.{UnknownVerb, Illegal, NotZero}
use Rattle.message.specs.declared.fault.MessageFault.TheVariants as message

-- the number of a layer
abbrev pub layer_number : Layer → ℕ
layer_number layer.File = 1
layer_number layer.Message = 2
layer_number layer.Session = 3

-- the number of the question that a message answers no
abbrev pub message_question : MessageFault → ℕ
message_question UnknownVerb = 4
message_question Illegal = 5
message_question NotZero = 6
message_question (message.Session fault) = question_of fault

-- the layer that puts it
abbrev pub message_layer : MessageFault → Layer
message_layer UnknownVerb = layer.Message
message_layer Illegal = layer.Message
message_layer NotZero = layer.Message
message_layer (message.Session fault) = layer.Session

-- the number of the question that a file answers no
abbrev pub file_question : FileFault → ℕ
file_question NoMark = 1
file_question OtherVersion = 2
file_question NoMessage = 3
file_question (file.Message fault) = message_question fault

-- the layer that puts it
abbrev pub file_layer : FileFault → Layer
file_layer NoMark = layer.File
file_layer OtherVersion = layer.File
file_layer NoMessage = layer.File
file_layer (file.Message fault) = message_layer fault
