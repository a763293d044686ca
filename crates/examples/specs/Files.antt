-- The bytes of messages, and files of them. Assumes nothing.
use Prim.Native.Char.{Char, code}
use Rattle.std.specs.Prelude.{ℕ, List, [], ◌∷◌, ◌++◌, map, take, codes}
use Rattle.std.specs.Int.{w32, to_be_bytes}
use Rattle.std.specs.List.{concat}

-- a number in four bytes, high byte first
abbrev in_four : ℕ → List ℕ
in_four n = to_be_bytes w32 n

-- a message: the letters of a verb, a kind and a side, a flag, and then a number, a price and a quantity
abbrev pub message : Char → Char → Char → ℕ → ℕ → ℕ → ℕ → List ℕ
message verb kind side flag number price quantity = code verb ∷ code kind ∷ code side ∷ flag ∷ in_four number ++ in_four price ++ in_four quantity

-- what stands for a letter that a verb does not use
abbrev pub unused : Char
unused = "\0"

-- a message of each verb
abbrev pub time : ℕ → List ℕ
time t = message "T" unused unused 0 0 0 t

abbrev pub sale : ℕ → List ℕ
sale p = message "S" unused unused 0 0 p 0

abbrev pub quote : ℕ → ℕ → List ℕ
quote bid offer = message "Q" unused unused 0 0 bid offer

abbrev pub entry : Char → Char → ℕ → ℕ → ℕ → ℕ → List ℕ
entry kind side mark number price size = message "E" kind side mark number price size

abbrev pub cancel : ℕ → List ℕ
cancel number = message "X" unused unused 0 number 0 0

abbrev pub reduction : ℕ → ℕ → List ℕ
reduction number size = message "R" unused unused 0 number 0 size

abbrev pub publication : List ℕ
publication = message "P" unused unused 0 0 0 0

abbrev pub close : ℕ → List ℕ
close p = message "C" unused unused 0 0 p 0

-- a message of a verb that is not known
abbrev pub unknown : List ℕ
unknown = message "Z" unused unused 0 0 0 0

-- a file of messages, behind a good header
abbrev pub file_of : List (List ℕ) → List ℕ
file_of messages = codes "CLO" ++ 0 ∷ 1 ∷ concat messages

-- a session that closes at its second price: after sales at 1999 and 2000 the orders of the offset book come in, a cancel of a number that is
-- not listed is refused, and at 16:00 the session is closed at 2001, which is unfillable, and at 2002
abbrev pub sample_file : List ℕ
sample_file =
    file_of (
    sale 1999
    ∷ sale 2000
    ∷ entry "M" "B" 0 1 0 1000
    ∷ entry "M" "S" 1 2 0 300
    ∷ entry "L" "S" 0 3 2002 500
    ∷ entry "O" "S" 0 4 2002 400
    ∷ cancel 9
    ∷ time 57600
    ∷ close 2001
    ∷ close 2002
    ∷ [])

-- a market on close to buy leaves 250 for three orders on the book, which have 300, 50 and 200
abbrev pub cut_file : List ℕ
cut_file =
    file_of (
    sale 1500
    ∷ entry "M" "B" 0 1 0 250
    ∷ entry "B" "S" 0 2 1500 300
    ∷ entry "B" "S" 0 3 1500 50
    ∷ entry "B" "S" 0 4 1500 200
    ∷ time 57600
    ∷ close 1500
    ∷ [])

-- of three orders on the book one is cancelled and one reduced before the close
abbrev pub changed_file : List ℕ
changed_file =
    file_of (
    sale 1500
    ∷ entry "M" "B" 0 1 0 500
    ∷ entry "B" "S" 0 2 1500 300
    ∷ entry "B" "S" 0 3 1500 400
    ∷ entry "B" "S" 0 4 1500 200
    ∷ cancel 2
    ∷ reduction 3 350
    ∷ time 57600
    ∷ close 1500
    ∷ [])

-- from 15:45 on a limit on close to sell is refused, comes in after a mandatory notice to buy, and a market on close to buy does not
abbrev pub noticed_file : List ℕ
noticed_file =
    file_of (
    sale 1500
    ∷ entry "M" "B" 0 1 0 60000
    ∷ time 56700
    ∷ entry "L" "S" 0 2 1500 60000
    ∷ publication
    ∷ entry "L" "S" 0 2 1500 60000
    ∷ entry "M" "B" 0 3 0 500
    ∷ time 57600
    ∷ close 1500
    ∷ [])

-- at 15:45 an imbalance of 49,900 is published, not flagged as significant
abbrev pub slight_file : List ℕ
slight_file =
    file_of (
    sale 1500
    ∷ entry "M" "B" 0 1 0 60099
    ∷ entry "M" "S" 0 2 0 5000
    ∷ entry "L" "S" 0 3 1500 5100
    ∷ time 56700
    ∷ publication
    ∷ [])

-- with a bid above the last sale a notice to sell is published
abbrev pub quoted_file : List ℕ
quoted_file = file_of (sale 1500 ∷ quote 1502 1520 ∷ entry "M" "S" 0 1 0 60000 ∷ publication ∷ [])

-- a market on close to buy is alone at 16:00
abbrev pub lone_file : List ℕ
lone_file = file_of (sale 1500 ∷ entry "M" "B" 0 1 0 100 ∷ time 57600 ∷ close 1500 ∷ [])

-- an empty list is closed, and then a close, a time, and what is no call
abbrev pub done_file : List ℕ
done_file = file_of (sale 1500 ∷ time 57600 ∷ close 1500 ∷ close 1500 ∷ time 57601 ∷ unknown ∷ [])

-- a verb that is not known, a kind that is none, an unused byte that is not 0 and a sale at 0, among the messages of a good close
abbrev pub refused_file : List ℕ
refused_file =
    file_of (
    unknown
    ∷ sale 1500
    ∷ entry "M" "B" 0 1 0 100
    ∷ entry "Z" "S" 0 2 0 100
    ∷ message "T" "M" unused 0 0 0 57600
    ∷ sale 0
    ∷ entry "M" "S" 0 2 0 100
    ∷ time 57600
    ∷ close 1500
    ∷ [])

-- seven orders come in for six places
abbrev pub full_file : List ℕ
full_file = file_of (map (λ number. entry "B" "B" 0 number 1500 100) (1 ∷ 2 ∷ 3 ∷ 4 ∷ 5 ∷ 6 ∷ 7 ∷ []))

-- the first of its messages ends after fifteen bytes
abbrev pub short_file : List ℕ
short_file = file_of (take 15 (sale 1500) ∷ [])

-- so does the third, which would be a close
abbrev pub unclosed_file : List ℕ
unclosed_file = file_of (sale 1500 ∷ time 57600 ∷ take 15 (close 1500) ∷ [])
