-- What a side's tallies hold. Assumes nothing.
use Rattle.std.specs.Prelude.{ℕ, List, sum_by}
use Rattle.book.specs.declared.totals.Tally.{Tally}

-- the shares of all classes together
abbrev pub together : List Tally → ℕ
together tallies = sum_by (λ tally. tally.shares) tallies
