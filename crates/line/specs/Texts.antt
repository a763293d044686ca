-- The bytes of lines. Assumes nothing.
use Rattle.std.specs.Prelude.{ℕ, List, [], ◌∷◌, ◌++◌, codes, decimal}
use Rattle.std.specs.Fmt.{signed_decimal}
use Rattle.order.specs.declared.kind.Side.{Side}
use Rattle.order.specs.Kinds.{side_letter}
use Rattle.message.specs.Faults.{layer_number, file_layer, file_question}
use Rattle.line.specs.declared.Line.{Line}
use Rattle.line.specs.declared.Line.TheVariants.{Lot, Notice, Print, Fill, Refusal}

-- a space and the letter of a side
abbrev pub side_code : Side → List ℕ
side_code side = 32 ∷ side_letter side ∷ []

-- the bytes of a line: a letter, the fields with one space before each, numbers in decimal with `-` before a negative one and a side as its
-- letter, and a line feed
abbrev pub line_text : Line → List ℕ
line_text (Lot lot) = codes "U " ++ decimal lot ++ codes "\n"
line_text (Notice message amount reference) = codes "N " ++ decimal message ++ codes " " ++ signed_decimal amount ++ codes " " ++ decimal reference ++ codes "\n"
line_text (Print price volume) = codes "P " ++ decimal price ++ codes " " ++ decimal volume ++ codes "\n"
line_text (Fill number side filled unfilled) = codes "F " ++ decimal number ++ side_code side ++ codes " " ++ decimal filled ++ codes " " ++ decimal unfilled ++ codes "\n"
line_text (Refusal message fault) =
    codes "R " ++ decimal message ++ codes " " ++ decimal (layer_number (file_layer fault)) ++ codes " " ++ decimal (file_question fault) ++ codes "\n"
