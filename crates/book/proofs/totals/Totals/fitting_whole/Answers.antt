use Rattle.std.proofs.Common.{rules, ℕ, ◌<◌, ◌≤◌, ◌-◌, take, sym, arith}
use Rattle.std.proofs.lemmas.Grind.{common_steps}
use Rattle.std.proofs.iter.runs.Sources.{ranges, inclusive_listed_back}
use Rattle.book.specs.Tally.{together}
use Rattle.book.proofs.Tallying.{filled_is}
use Rattle.book.proofs.totals.Totals.fitting_whole.Goals as goal

pub returns-clause-value : goal.returns-clause-value
returns-clause-value c =
    let t = c.args.self.now in
    let fit : together (take c.unwrap_or.result t.tallies) ≤ c.args.volume = search (rules, ranges) in
    let over : (k : ℕ) → c.unwrap_or.result < k → k ≤ t.classes → c.args.volume < together (take k t.tallies) =
    λ k above inside.
    let asked = c.find.ensures.runs in
    let counts = c.rev.ensures.runs asked.0 asked.0.seen asked.1 in
    let down = (inclusive_listed_back counts.0 counts.0.seen).4 (cc (counts.1, c.new.ensures.exhausted)) in
    grind (arith, common_steps, down.0.3 (t.classes - k), counts, c.new.ensures, asked.2) in
    λ es s totals e. filled_is es s t totals c.unwrap_or.result (search (rules, ranges)) (rw (sym e) fit) (rw (sym e) over)
