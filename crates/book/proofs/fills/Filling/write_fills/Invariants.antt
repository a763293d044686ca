use Rattle.std.proofs.Common.{◌≤◌}
use Rattle.book.specs.Plans.{row_claim, row_filled}
use Rattle.book.proofs.Writing.{Underway}
use Rattle.book.proofs.fills.Filling.write_fills.Given as goal

abbrev pub invariant-loop-place : goal.invariant-loop-place
invariant-loop-place l = Underway (λ row gift. gift ≤ row_claim l.self row) (row_filled l.self) l.gifts l.initial.rows l.rows l.place
