-- The task that a text asks. Assumes nothing.
use Rattle.std.specs.Prelude.{ℕ, ◌+◌, ◌-◌, ◌^◌, List, [], ◌∷◌, Ok, Err, vec_items, Result}
use Rattle.division.specs.declared.Fault.{Fault}
use Rattle.division.specs.declared.Fault.TheVariants.{NoAmount, NoClaim}
use Rattle.division.specs.declared.Task.{Task}
use Rattle.division.specs.Words.{words}
use Rattle.division.specs.Numbers.{number_of}

-- an amount is at most 2^64 - 1
abbrev pub amount_limit : ℕ
amount_limit = 2 ^ 64 - 1

-- a claim is at most 2^32 - 1
abbrev pub claim_limit : ℕ
claim_limit = 2 ^ 32 - 1

-- a claim before other claims, or the first fault among them
abbrev pub before : Result ℕ Fault → Result (List ℕ) Fault → Result (List ℕ) Fault
before (Ok c) (Ok cs) = Ok (c ∷ cs)
before (Ok c) (Err f) = Err f
before (Err f) cs = Err f

-- the claims that words write, the first of them at the given place; or the fault of the first word that is wrong
unfoldable pub claims_of : ℕ → List (List ℕ) → Result (List ℕ) Fault
claims_of place [] = Ok []
claims_of place (w ∷ ws) = before (number_of claim_limit place w) (claims_of (place + 1) ws)

-- an amount, and the claims on it
pub record Asked : Type 0 where
  pub amount : ℕ
  pub claims : List ℕ

-- an amount with claims on it, of which there is one at least, or the first fault among them
abbrev pub with_claims : Result ℕ Fault → Result (List ℕ) Fault → Result Asked Fault
with_claims (Ok a) (Ok []) = Err NoClaim
with_claims (Ok a) (Ok (c ∷ cs)) = Ok (record { amount = a; claims = c ∷ cs })
with_claims (Ok a) (Err f) = Err f
with_claims (Err f) cs = Err f

-- the first word is the amount, each other word a claim
abbrev pub asked_by : List (List ℕ) → Result Asked Fault
asked_by [] = Err NoAmount
asked_by (w ∷ ws) = with_claims (number_of amount_limit 1 w) (claims_of 2 ws)

-- the task of a text
abbrev pub task_of : List ℕ → Result Asked Fault
task_of text = asked_by (words text)

-- what a task asks
abbrev pub asked : Task → Asked
asked t = record { amount = t.amount; claims = vec_items t.claims }
