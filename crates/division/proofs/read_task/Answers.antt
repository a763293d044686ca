use Rattle.std.proofs.Common.{◌≡◌, ◌+◌, ◌++◌, [], ◌∷◌, Ok, vec_items, vec_len, sym, ap, ◌∙◌, inr, rules}
use Rattle.division.specs.Tasks.{with_claims}
use Rattle.division.proofs.Tasks.{with_none, with_some, claims_none, claims_more, claims_wrong}
use Rattle.division.proofs.read_task.Goals as goal

pub returns-in_err-claim : goal.returns-in_err-claim
returns-in_err-claim c =
    let inv = c.loop-word.invariant in
    let wrong = claims_wrong _ _ _ _ inv.1 _ _ c.in-Some.ensures.words _ c.len.ensures _ c.in_err-claim.ensures.value in
    let fault = sym inv.2 ∙ ap (with_claims (Ok c.in_ok-amount.amount)) wrong in
    search rules

pub loop-word-preserved : goal.loop-word-preserved
loop-word-preserved c =
    let inv = c.loop-word.invariant in
    let items : vec_items c.push.new.self ≡ vec_items c.loop-word.claims ++ c.in_ok-claim.claim ∷ [] = search rules in
    let longer : vec_len c.push.new.self ≡ vec_len c.loop-word.claims + 1 = search rules in
    (inv.0, claims_more _ _ _ _ inv.1 _ _ c.in-Some.ensures.words _ c.len.ensures _ _ _ c.in_ok-claim.ensures.value items longer, inv.2)

pub returns-then-is_empty : goal.returns-then-is_empty
returns-then-is_empty c =
    let inv = c.loop-word.invariant in
    let whole = claims_none _ _ _ _ inv.1 c.in_default.ensures.words in
    let task = sym inv.2 ∙ ap (with_claims (Ok c.in_ok-amount.amount)) whole in
    inr (task ∙ with_none _ _ (search rules))

pub returns : goal.returns
returns c =
    let inv = c.loop-word.invariant in
    let whole = claims_none _ _ _ _ inv.1 c.in_default.ensures.words in
    let task = sym inv.2 ∙ ap (with_claims (Ok c.in_ok-amount.amount)) whole in
    task ∙ with_some _ _ (search rules)
