use Rattle.std.proofs.Common.{◌≡◌, false, arith, ap, sym, rules}
use Rattle.std.specs.Prelude.{is_some}
use Rattle.std.proofs.lemmas.List.{length-drop}
use Rattle.tape.specs.Standing.{Advanced, fill_turn}
use Rattle.tape.specs.Runs.{standing}
use Rattle.tape.proofs.Taking.{stops, goes_on, takes}
use Rattle.tape.proofs.run.Run.advance.Goals as goal

pub returns-then-is_some-2-clause-value : goal.returns-then-is_some-2-clause-value
returns-then-is_some-2-clause-value g c =
    let here = standing c.args.self.now c.args.orders.now c.args.notices.now c.args.claims.now c.args.gifts.now in
    let begun = fill_turn here in
    let none : is_some begun.line ≡ false = search rules in
    let whole = stops g.S.Sharing.LOT (g.S.Sharing.meaning c.args.method.now) begun.standing
    (standing c.loop-taken.self c.loop-taken.orders c.loop-taken.notices c.loop-taken.claims c.loop-taken.gifts)
    (standing c.take-more.new.self c.take-more.new.orders c.take-more.new.notices c.take-more.new.claims c.take-more.new.gifts)
    c.args.piece.now c.loop-taken.taken c.take-more.result.taken c.take-more.result.line c.loop-taken.invariant.leads c.take-more.ensures.value (search rules) in
    ap (λ (a : Advanced). a.answer) (sym (takes g.S.Sharing.LOT (g.S.Sharing.meaning c.args.method.now) here c.args.piece.now _ none whole))

pub returns-then-is_some-2-clause-after : goal.returns-then-is_some-2-clause-after
returns-then-is_some-2-clause-after g c =
    let here = standing c.args.self.now c.args.orders.now c.args.notices.now c.args.claims.now c.args.gifts.now in
    let begun = fill_turn here in
    let none : is_some begun.line ≡ false = search rules in
    let whole = stops g.S.Sharing.LOT (g.S.Sharing.meaning c.args.method.now) begun.standing
    (standing c.loop-taken.self c.loop-taken.orders c.loop-taken.notices c.loop-taken.claims c.loop-taken.gifts)
    (standing c.take-more.new.self c.take-more.new.orders c.take-more.new.notices c.take-more.new.claims c.take-more.new.gifts)
    c.args.piece.now c.loop-taken.taken c.take-more.result.taken c.take-more.result.line c.loop-taken.invariant.leads c.take-more.ensures.value (search rules) in
    ap (λ (a : Advanced). a.standing) (sym (takes g.S.Sharing.LOT (g.S.Sharing.meaning c.args.method.now) here c.args.piece.now _ none whole))

pub loop-taken-preserved : goal.loop-taken-preserved
loop-taken-preserved g c =
    let begun = fill_turn (standing c.args.self.now c.args.orders.now c.args.notices.now c.args.claims.now c.args.gifts.now) in
    record {
      within = omega (arith, c.take-more.ensures.within, c.loop-taken.invariant.within, length-drop c.loop-taken.taken c.args.piece.now);
      leads = goes_on g.S.Sharing.LOT (g.S.Sharing.meaning c.args.method.now) begun.standing
          (standing c.loop-taken.self c.loop-taken.orders c.loop-taken.notices c.loop-taken.claims c.loop-taken.gifts)
          (standing c.take-more.new.self c.take-more.new.orders c.take-more.new.notices c.take-more.new.claims c.take-more.new.gifts)
          c.args.piece.now c.loop-taken.taken c.take-more.result.taken c.take-more.result.line c.loop-taken.invariant.leads c.take-more.ensures.value (search rules);
    }
