use Rattle.std.proofs.Common.{◌≡◌, ◌+◌, ◌*◌, drop}
use Rattle.std.specs.Option.{option_map}
use Rattle.book.specs.Listing.{place_of}
use Rattle.book.proofs.lookup.threes_without.Given as goal

-- so many threes have no row of the number
abbrev pub invariant-loop-first : goal.invariant-loop-first
invariant-loop-first l =
    (place_of l.number l.rows ≡ option_map (λ more. 3 * l.passed + more) (place_of l.number (drop (3 * l.passed) l.rows)))
    × (l.passed ≡ l.first-index)
