-- How a line is read back from its bytes. Assumes nothing.
use Rattle.std.specs.Prelude.{◌≡◌, ℕ, ◌^◌, ◌<◌, ◌≢◌, List, ◌++◌, All, FitsSigned, codes}
use Rattle.std.specs.Int.{w64}
use Rattle.line.specs.declared.Line.{Line}
use Rattle.line.specs.declared.Line.TheVariants.{Lot, Notice, Print, Fill, Refusal}
use Rattle.line.specs.Texts.{line_text}

-- the numbers of a line are of their types: a volume is below 2^64, an amount has 64 bits with its sign, and the others are below 2^32
abbrev pub OfTypes : Line → Type 0
OfTypes (Lot lot) = lot < 2 ^ 32
OfTypes (Notice message amount reference) = (message < 2 ^ 32) × FitsSigned w64 amount × (reference < 2 ^ 32)
OfTypes (Print price volume) = (price < 2 ^ 32) × (volume < 2 ^ 64)
OfTypes (Fill number side filled unfilled) = (number < 2 ^ 32) × (filled < 2 ^ 32) × (unfilled < 2 ^ 32)
OfTypes (Refusal message fault) = message < 2 ^ 32

-- a text ends at its first line feed: it is some bytes, none of which is a line feed, and then one
pub record EndsAtLineFeed (text : List ℕ) : Type 0 where
  pub front : List ℕ
  pub plain : All (λ byte. byte ≢ 10) front
  pub whole : text ≡ front ++ codes "\n"

-- only this line has this text, of those whose numbers are of their types
abbrev pub HasOwnText : Line → Type 0
HasOwnText line = (other : Line) → OfTypes other → line_text other ≡ line_text line → other ≡ line
