use Rattle.std.proofs.Common.{◌≡◌, ℕ, ◌+◌, List, [], ◌∷◌, sum, refl, ap, ◌∙◌, rules}
use Rattle.std.proofs.lemmas.List.Sums.{sum_by-cons}
use Rattle.sharing.specs.Shares.{total}
use Rattle.division.proofs.gifts.sum_of.Goals as goal

sum_is_total : (xs : List ℕ) → sum xs ≡ total xs
sum_is_total [] = refl
sum_is_total (x ∷ xs) = sum_by-cons (λ n. n) x xs ∙ ap (λ n. x + n) (sum_is_total xs)

pub returns : goal.returns
returns c =
    let added : c.sum.result ≡ sum c.args.numbers.now = search rules in
    added ∙ sum_is_total c.args.numbers.now
