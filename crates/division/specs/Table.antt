-- The table that answers a task. Assumes nothing.
use Rattle.std.specs.Prelude.{ℕ, ◌+◌, ◌-◌, List, [], ◌∷◌, ◌++◌, length, replicate, codes, decimal}
use Rattle.sharing.specs.Shares.{total}
use Rattle.sharing.specs.Arrival.{arrival}
use Rattle.sharing.specs.Turns.{turns}
use Rattle.division.specs.Tasks.{Asked}

-- so many blanks
abbrev pub blanks : ℕ → List ℕ
blanks n = replicate n 32

-- a column is a blank, and then a text at the right of eleven places; a longer text is written whole
unfoldable pub column : List ℕ → List ℕ
column text = blanks 1 ++ (blanks (11 - length text) ++ text)

-- a line has four columns
unfoldable pub line : List ℕ → List ℕ → List ℕ → List ℕ → List ℕ
line a b c d = column a ++ (column b ++ (column c ++ (column d ++ codes "\n")))

-- the heading names the columns; the first has no name
abbrev pub heading : List ℕ
heading = line [] (codes "claim") (codes "arrival") (codes "turns")

-- a line for each claimant: its number, the first having the number n, its claim, and its gifts by arrival and by turns
unfoldable pub rows : ℕ → List ℕ → List ℕ → List ℕ → List ℕ
rows n [] xs ys = []
rows n (c ∷ cs) [] ys = []
rows n (c ∷ cs) (x ∷ xs) [] = []
rows n (c ∷ cs) (x ∷ xs) (y ∷ ys) = line (decimal n) (decimal c) (decimal x) (decimal y) ++ rows (n + 1) cs xs ys

-- the last line has the sums of the claims and of the gifts
abbrev pub sums : List ℕ → List ℕ → List ℕ → List ℕ
sums cs xs ys = line (codes "sum") (decimal (total cs)) (decimal (total xs)) (decimal (total ys))

-- the heading, the claimants numbered from 1, and the sums
abbrev pub table_by : List ℕ → List ℕ → List ℕ → List ℕ
table_by cs xs ys = heading ++ (rows 1 cs xs ys ++ sums cs xs ys)

-- the table of a task: its claims, and what arrival and turns give them of its amount
abbrev pub table_of : Asked → List ℕ
table_of t = table_by t.claims (arrival t.amount t.claims) (turns t.amount t.claims)
