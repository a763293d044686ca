-- The words of a text. Assumes nothing.
use Rattle.std.specs.Prelude.{ℕ, Bool, if◌then◌else◌, ◌||◌, List, [], ◌∷◌, ◌++◌, ◌==◌}

-- blank are space, tab, line feed and carriage return
abbrev pub blank : ℕ → Bool
blank b = b == 32 || (b == 9 || (b == 10 || b == 13))

-- a word that has ended: none, where no byte of it was read
abbrev pub ended : List ℕ → List (List ℕ)
ended [] = []
ended (b ∷ bs) = (b ∷ bs) ∷ []

-- the words of a text before which the bytes `begun` of its first word were read
unfoldable pub words_after : List ℕ → List ℕ → List (List ℕ)
words_after begun [] = ended begun
words_after begun (b ∷ bs) = (if blank b then ended begun ++ words_after [] bs else words_after (begun ++ b ∷ []) bs)

-- the words of a text: its longest runs of bytes that are not blank
abbrev pub words : List ℕ → List (List ℕ)
words text = words_after [] text
