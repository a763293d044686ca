-- How a file reads: its header, and the messages that follow. Assumes nothing.
use Rattle.std.specs.Prelude.{ℕ, Bool, true, false, ◌&&◌, if◌then◌else◌, ◌==◌, List, [], ◌∷◌, ◌++◌, length, drop, nat_le, Ok, Result, codes}
use Rattle.message.specs.declared.fault.FileFault.{FileFault}
use Rattle.message.specs.declared.fault.FileFault.TheVariants.{NoMark, OtherVersion}
use Rattle.session.specs.Questions.{ask}

-- the three bytes that a file begins with, and the two that say its version
abbrev pub mark : List ℕ
mark = codes "CLO"

abbrev pub version : List ℕ
version = 0 ∷ 1 ∷ []

-- whether bytes begin with others
abbrev pub begin_with : List ℕ → List ℕ → Bool
begin_with [] bytes = true
begin_with (x ∷ xs) [] = false
begin_with (x ∷ xs) (b ∷ bytes) = b == x && begin_with xs bytes

-- what follows the header: do three bytes read CLO, and do two more say version 1?
abbrev pub body_of : List ℕ → Result (List ℕ) FileFault
body_of file =
    ask (begin_with mark file) NoMark (
    ask (begin_with version (drop 3 file)) OtherVersion (
    Ok (drop 5 file)))

-- whether these bytes are a whole message
abbrev pub is_whole : List ℕ → Bool
is_whole bytes = length bytes == 16

-- a message of which no more bytes come, or none where none have come
abbrev pub left_over : List ℕ → List (List ℕ)
left_over [] = []
left_over (c ∷ come) = (c ∷ come) ∷ []

-- bytes gathered into messages, where those of one have come already; the last may be cut
abbrev pub gathered : List ℕ → List ℕ → List (List ℕ)
gathered come [] = left_over come
gathered come (b ∷ bytes) = (if is_whole (come ++ b ∷ []) then (come ++ b ∷ []) ∷ gathered [] bytes else gathered (come ++ b ∷ []) bytes)

-- the messages in the bytes that follow a header, the first of which is message 1
abbrev pub messages_of : List ℕ → List (List ℕ)
messages_of bytes = gathered [] bytes

-- whether a message is whole and not past the 1,000,000th
abbrev pub is_message : ℕ → List ℕ → Bool
is_message n bytes = is_whole bytes && nat_le n 1000000
