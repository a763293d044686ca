-- From turn to turn and from round to round. Assumes nothing.
use Rattle.std.proofs.Common.{◌≡◌, ℕ, ◌+◌, ◌-◌, ◌<◌, ◌≤◌, ◌⊎◌, List, length, get_or, drop, set, replicate, sym, ap, ◌∙◌, subst, inl, inr, arith}
use Rattle.std.proofs.lemmas.Grind.{common_steps}
use Rattle.std.proofs.lemmas.List.{length-set, take-append-drop}
use Rattle.std.proofs.lemmas.Bool.{cases_lt}
use Rattle.sharing.specs.Shares.{total}
use Rattle.sharing.specs.Turns.{round, turns}
use Rattle.sharing.specs.Dealing.{turn_at, Between, Amid}
use Rattle.sharing.specs.Pairs.{Fits, fits_from, total_set, total_zero}
use Rattle.sharing.specs.TurnsLaws.{Over, one_more, round_gives, round_over, rounds_over}

-- Within a round.

module _ {cs begun gs : List ℕ} {before place left : ℕ} (amid : Amid cs begun before place left gs) where
  -- the next claimant takes its turn, which gives it the gift v and leaves the rest
  pub amid_more : (rest v : ℕ) → place < length cs → rest ≡ left - turn_at place left cs gs → v ≡ get_or gs place 0 + turn_at place left cs gs → Amid cs begun before (place + 1) rest (set gs place v)
  amid_more rest v there less more =
      let below = amid.within place there in
      record {
        paired = length-set gs place v ∙ amid.paired;
        within = λ i h. grind (arith, common_steps, amid.within i h);
        fewer = omega arith;
        sums = omega (arith, total_set gs place v (omega arith));
        ends = grind (arith, common_steps, amid.ends, amid.paired);
      }

  -- a round is complete when every claimant has had its turn, or nothing is left
  complete : (length cs ≤ place) ⊎ (left ≡ 0) → gs ≡ round before cs begun
  complete (inl past) = grind (arith, common_steps, amid.ends, amid.paired)
  complete (inr spent) =
      let fits : Fits (drop place cs) (drop place gs) = fits_from (drop place cs) (drop place gs) (grind (arith, common_steps, amid.paired)) (λ i h. grind (arith, common_steps, amid.within (place + i))) in
      let stays = round_over left (drop place cs) (drop place gs) fits (inl spent) in
      let join = take-append-drop place gs in
      let ends = amid.ends in
      cc

-- Between two rounds.

pub none_given : (amount n : ℕ) (cs gs : List ℕ) → n ≡ length cs → gs ≡ replicate n 0 → Between amount cs amount gs
none_given amount n cs gs same e = record {
  paired = grind (arith, common_steps);
  within = λ i h. grind (arith, common_steps);
  sums = grind (arith, total_zero n);
  ends = cc;
}

-- the division is over
over : {amount left : ℕ} {cs gs : List ℕ} → Between amount cs left gs → Over left cs gs → gs ≡ turns amount cs
over {amount} {left} {cs} {gs} now ended =
    let all : left ≡ amount - total gs = omega (arith, now.sums) in
    let fits = fits_from cs gs now.paired now.within in
    sym (rounds_over amount amount cs gs fits (subst (λ (n : ℕ). Over n cs gs) all ended)) ∙ now.ends

module _ {amount before place left : ℕ} {cs begun gs : List ℕ} (was : Between amount cs before begun) (amid : Amid cs begun before place left gs) where
  next : (length cs ≤ place) ⊎ (left ≡ 0) → Between amount cs left gs
  next end =
      let fits = fits_from cs begun was.paired was.within in
      let all : before ≡ amount - total begun = omega (arith, was.sums) in
      let more = one_more amount cs begun fits in
      let whole = complete amid end in
      let ends = was.ends in
      record { paired = amid.paired; within = amid.within; sums = omega (arith, amid.sums, was.sums); ends = cc }

  -- every claimant has had its turn
  pub round_more : length cs ≤ place → Between amount cs left gs
  round_more past = next (inl past)

  -- the amount is spent in mid-round
  pub spent_amid : left ≡ 0 → gs ≡ turns amount cs
  spent_amid spent = over (next (inr spent)) (inl spent)

  -- a round that gives nothing is the last
  pub round_idle : length cs ≤ place → left ≡ before → gs ≡ turns amount cs
  round_idle past idle =
      let fits = fits_from cs begun was.paired was.within in
      let whole = complete amid (inl past) in
      over (next (inl past)) (
      elim (cases_lt 0 left) [
        | inr spent ↦ inl (omega arith)
        | inl some ↦ elim (cases_lt (total begun) (total cs)) [
          | inr full ↦ inr (omega (arith, amid.sums))
          | inl short ↦ absurd (omega (arith, round_gives before cs begun fits (omega arith) short, ap total whole, amid.sums))
        ]
      ]
      )
