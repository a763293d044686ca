use Rattle.std.proofs.Common.{◌≡◌, take, rules, ◌∙◌, arith}
use Rattle.std.proofs.lemmas.Grind.{common_steps}
use Rattle.std.proofs.lemmas.List.Sums.{sum_by-take-le}
use Rattle.book.specs.declared.totals.Tally.{Tally}
use Rattle.book.specs.Tally.{together}
use Rattle.book.proofs.Tallying.{together_first}
use Rattle.book.proofs.totals.Totals.sum_of_first.Goals as goal

pub sum-requires-clause-fits : goal.sum-requires-clause-fits
sum-requires-clause-fits c = grind (arith, common_steps, sum_by-take-le (λ (tally : Tally). tally.shares) c.args.self.now.tallies c.args.count)

pub returns-clause-value : goal.returns-clause-value
returns-clause-value c =
    let whole : c.sum.result ≡ together (take c.args.count c.args.self.now.tallies) = search rules in
    λ es s each inside. whole ∙ together_first es s c.args.self.now each c.args.count inside
