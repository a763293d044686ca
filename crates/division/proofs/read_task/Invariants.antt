use Rattle.std.proofs.Common.{◌≡◌, ◌+◌, List, ℕ, Ok, Result, length, vec_items, vec_len}
use Rattle.division.specs.declared.Fault.{Fault}
use Rattle.division.specs.Words.{words}
use Rattle.division.specs.Tasks.{claims_of, task_of, with_claims}
use Rattle.division.proofs.Tasks.{onto}
use Rattle.division.proofs.read_task.Given as goal

-- the claims read so far, and then those of the words left, are those of all words
abbrev pub invariant-loop-word : goal.invariant-loop-word
invariant-loop-word l =
    (all : Result (List ℕ) Fault)
    × (onto (vec_items l.claims) (claims_of (vec_len l.claims + 2) (words l.rest)) ≡ all)
    × (with_claims (Ok l.amount) all ≡ task_of l.fn.text)

abbrev pub decreases-loop-word : goal.decreases-loop-word
decreases-loop-word l = length l.rest
