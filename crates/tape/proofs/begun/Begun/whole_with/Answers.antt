use Rattle.std.proofs.Common.{◌≡◌, ℕ, List, ◌++◌, [], ◌∷◌, set, take, length, arith, ◌∙◌, sym, refl}
use Rattle.std.proofs.lemmas.List.{take_more_set, take_all, length-set}
use Rattle.tape.proofs.begun.Begun.whole_with.Goals as goal

pub returns : goal.returns
returns c =
    let bytes : List ℕ = c.self.inside.bytes in
    let count : c.self.inside.count ≡ 15 = omega (arith, c.self.invariant, c.if-self-lt15.false) in
    let long : length (set bytes 15 c.args.byte) ≡ 16 = length-set bytes 15 c.args.byte ∙ c.self.told in
    let last : set bytes 15 c.args.byte ≡ take 15 bytes ++ c.args.byte ∷ [] =
    sym (take_all 16 (set bytes 15 c.args.byte) (omega (arith, long))) ∙ take_more_set bytes 15 c.args.byte (omega (arith, c.self.told)) in
    let whole : set bytes 15 c.args.byte ≡ c.args.self.now ++ c.args.byte ∷ [] = rw (← c.self.view_is, count) last in
    rw (← whole, long) (record { value = refl })
