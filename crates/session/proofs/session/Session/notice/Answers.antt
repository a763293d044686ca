use Rattle.std.proofs.Common.{rules, ◌∙◌}
use Rattle.std.proofs.lemmas.Int.{to_z-of_z}
use mir.Syntax.{w64}
use Rattle.list.specs.Held.{kept}
use Rattle.session.proofs.Steps.{notice_is}
use Rattle.session.proofs.session.Session.notice.Goals as goal

-- an amount is a number of 64 bits
pub returns : goal.returns
returns c =
    record { value = notice_is c.args.self.now (kept c.args.orders.now) c.args.sale _ _ _ (to_z-of_z w64 c.imbalance_at.result (search rules) ∙ c.imbalance_at.ensures.value) (search rules) (search rules) }
