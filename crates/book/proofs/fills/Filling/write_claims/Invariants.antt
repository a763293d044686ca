use Rattle.std.proofs.Common.{◌≡◌, map, take}
use Rattle.book.specs.Plans.{row_claim}
use Rattle.book.proofs.fills.Filling.write_claims.Given as goal

abbrev pub invariant-loop-place : goal.invariant-loop-place
invariant-loop-place l = take l.place l.claims ≡ map (row_claim l.self) (take l.place l.row-items)
