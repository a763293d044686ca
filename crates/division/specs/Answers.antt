-- What a text is answered with. Assumes nothing.
use Rattle.std.specs.Prelude.{◌≡◌, ℕ, ◌⊎◌, List, ◌++◌, Ok, Err, codes, decimal, Result}
use Rattle.division.specs.declared.Fault.{Fault}
use Rattle.division.specs.declared.Fault.TheVariants.{NoAmount, NoClaim, NoNumber, TooLarge, Memory}
use Rattle.division.specs.Tasks.{Asked, task_of}
use Rattle.division.specs.Table.{table_of}

-- a task is answered with its table, a fault with itself
abbrev pub tabled : Result Asked Fault → Result (List ℕ) Fault
tabled (Ok t) = Ok (table_of t)
tabled (Err f) = Err f

-- the answer to a text: the table of the task that it asks, or its fault
abbrev pub answer_of : List ℕ → Result (List ℕ) Fault
answer_of text = tabled (task_of text)

-- a call gives what a definition says, or refuses for want of memory. `read` is what the definition has in place of a value
abbrev pub Answers : {X Y : Type 0} → Result Y Fault → (X → Y) → Result X Fault → Type 0
Answers says read (Ok x) = says ≡ Ok (read x)
Answers says read (Err f) = (f ≡ Memory) ⊎ (says ≡ Err f)

-- the words for a fault
abbrev pub fault_text : Fault → List ℕ
fault_text NoAmount = codes "no amount is given"
fault_text NoClaim = codes "no claim is given"
fault_text (NoNumber place) = codes "word " ++ (decimal place ++ codes " is no number")
fault_text (TooLarge place) = codes "word " ++ (decimal place ++ codes " is too large: an amount is at most 18446744073709551615, a claim at most 4294967295")
fault_text Memory = codes "out of memory"
