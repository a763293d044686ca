use Rattle.std.proofs.Common.{◌≡◌, map, length, refl, rules}
use Rattle.list.specs.Held.{kept}
use Rattle.sharing.specs.Shares.{Within}
use Rattle.book.specs.Plans.{row_claim}
use Rattle.book.proofs.Outcome.{shared_out}
use Rattle.sharing.specs.Pairs.{fits_from}
use Rattle.book.proofs.Pairs.{each_from}
use Rattle.book.proofs.Stands.{divided_by}
use Rattle.book.proofs.fills.Filling.share_out.Goals as goal

pub write_fills-requires : goal.write_fills-requires
write_fills-requires g c =
    let claims = map (row_claim c.args.self.now) (kept c.args.rows.now) in
    let paired : length c.share.new.gifts ≡ length claims = search rules in
    let within : Within claims c.share.new.gifts = search rules in
    each_from _ (row_claim c.args.self.now) (kept c.args.rows.now) c.share.new.gifts (fits_from claims c.share.new.gifts paired within)

pub returns-in_err-share : goal.returns-in_err-share
returns-in_err-share g c = absurd (search rules)

pub returns : goal.returns
returns g c =
    let method = c.args.method.now in
    let laws = g.met.S.Sharing in
    let shared =
    shared_out c.args.self.now c.args.rows.now c.requires.planned c.requires.fillable
    (g.S.Sharing.meaning method) (λ a cs. divided_by a cs _ (laws.paired method a cs) (laws.within method a cs) (laws.spends method a cs))
    c.amount.result c.write_claims.new.claims c.share.new.gifts c.write_fills.new.rows
    c.amount.ensures.value c.write_claims.ensures.after (search rules) c.write_fills.ensures.after in
    record { value = refl; claims = shared.claims_are; gifts = shared.gifts_are; after = shared.after_is; filled = shared.filled }
