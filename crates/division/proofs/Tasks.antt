-- The claims that words write, one after another.
use Rattle.std.proofs.Common.{◌≡◌, ℕ, ◌+◌, ◌<◌, length, List, [], ◌∷◌, ◌++◌, Ok, Err, Result, sym, refl, ap, ◌∙◌, append_assoc, append-nil, arith}
use Rattle.division.specs.declared.Fault.{Fault}
use Rattle.division.specs.declared.Fault.TheVariants.{NoClaim}
use Rattle.division.specs.Numbers.{number_of}
use Rattle.division.specs.Tasks.{claim_limit, before, claims_of, with_claims}

-- claims after those that were read
abbrev pub onto : List ℕ → Result (List ℕ) Fault → Result (List ℕ) Fault
onto cs (Ok ds) = Ok (cs ++ ds)
onto cs (Err f) = Err f

onto_before : (cs : List ℕ) (c : ℕ) (ds : Result (List ℕ) Fault) → onto cs (before (Ok c) ds) ≡ onto (cs ++ c ∷ []) ds
onto_before cs c (Ok ds) = ap Ok (sym (append_assoc cs (c ∷ []) ds))
onto_before cs c (Err f) = refl

-- After n claims cs were read, ws are the words that are left of those that give `all`. The first of them is the task's word n + 2.
module _ (all : Result (List ℕ) Fault) (n : ℕ) (cs : List ℕ) (ws : List (List ℕ)) (so_far : onto cs (claims_of (n + 2) ws) ≡ all) where
  pub claims_none : ws ≡ [] → all ≡ Ok cs
  unfolding claims_of
  claims_none none = sym so_far ∙ rw none (ap Ok (append-nil cs))

  module _ (w : List ℕ) (left : List (List ℕ)) (cut : ws ≡ w ∷ left) (len : ℕ) (is_len : len ≡ n) where
    claims_here : onto cs (before (number_of claim_limit (len + 2) w) (claims_of (n + 2 + 1) left)) ≡ all
    unfolding claims_of
    claims_here = rw is_len (rw cut at so_far)

    pub claims_more : (m c : ℕ) (now : List ℕ) → Ok c ≡ number_of claim_limit (len + 2) w → now ≡ cs ++ c ∷ [] → m ≡ n + 1 → onto now (claims_of (m + 2) left) ≡ all
    claims_more m c now is pushed one =
        let more = onto_before cs c (claims_of (n + 2 + 1) left) in
        let here = claims_here in
        let next : m + 2 ≡ n + 2 + 1 = omega arith in
        cc

    pub claims_wrong : (f : Fault) → Err f ≡ number_of claim_limit (len + 2) w → all ≡ Err f
    claims_wrong f is = sym (rw (← is) at claims_here)

-- an amount without claims, and with some
pub with_none : (a : ℕ) (cs : List ℕ) → length cs ≡ 0 → with_claims (Ok a) (Ok cs) ≡ Err NoClaim
with_none a [] h = refl
with_none a (c ∷ cs) h = absurd (omega (arith, h))

pub with_some : (a : ℕ) (cs : List ℕ) → 0 < length cs → with_claims (Ok a) (Ok cs) ≡ Ok (record { amount = a; claims = cs })
with_some a [] h = absurd (omega (arith, h))
with_some a (c ∷ cs) h = refl
