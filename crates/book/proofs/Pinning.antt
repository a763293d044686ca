-- What every assignment keeps to, and what one that trades V in the order of classes gives to each class. Assumes nothing.
use Rattle.std.proofs.Common.{◌≡◌, ℕ, suc, ◌+◌, ◌-◌, ◌<◌, ◌≤◌, min, Bool, true, false, not, ◌&&◌, ◌⊎◌, List, [], ◌∷◌, Some, None, Option, sym, refl, ap, ◌∙◌, subst, inl, inr, arith}
use Rattle.std.proofs.lemmas.Bool.{and_parts, cases_lt, false≢true, not-true}
use Rattle.std.proofs.lemmas.Bool.Decides.{nat_tests}
use Rattle.order.specs.declared.kind.Side.{Side}
use Rattle.order.specs.declared.kind.Side.TheVariants.{Buy, Sell}
use Rattle.order.specs.Kinds.{is}
use Rattle.book.specs.declared.entry.Entry.{Entry}
use Rattle.book.specs.Weight.{must_execute, among, first, in_class, open_to}
use Rattle.book.specs.Volume.{traded}
use Rattle.book.specs.Assignment.{shares, side_shares, class_shares, Assignment, trades, Before, InOrder, CutClass, OneCut}
use Rattle.book.proofs.Pairs.{each_map, each_and, same_side, shares_within, shares_whole, shares_none, shares_none_or, shares_split}
use Rattle.book.proofs.Whole.{among_more, one_more, lesser, first_grows}

-- of a side, and in its first k classes or not
abbrev early : Side → ℕ → Entry → Bool
early s k e = is s e.side && among k e.rank

abbrev late : Side → ℕ → Entry → Bool
late s k e = is s e.side && not (among k e.rank)

-- the shares of a side's first k classes
abbrev first_shares : List Entry → List ℕ → Side → ℕ → ℕ
first_shares es xs s k = shares (early s k) es xs

one_more_shares : (es : List Entry) (xs : List ℕ) (s : Side) (k : ℕ) → first_shares es xs s (suc k) ≡ first_shares es xs s k + class_shares es xs s k
one_more_shares [] xs s k = refl
one_more_shares (e ∷ es) [] s k = refl
one_more_shares (e ∷ es) (x ∷ xs) s k = omega (arith, among_more k (is s e.side) e.rank x, one_more_shares es xs s k)

module _ (es : List Entry) (xs : List ℕ) (a : Assignment es xs) where
  early_late : (s : Side) (k : ℕ) → first_shares es xs s k + shares (late s k) es xs ≡ side_shares s es xs
  early_late s k = shares_split (λ e. is s e.side) (λ e. among k e.rank) es xs

  early_most : (s : Side) (k : ℕ) → first_shares es xs s k ≤ first es s k
  early_most s k = shares_within (early s k) es xs a.within

  side_most : (s : Side) → side_shares s es xs ≤ first es s (open_to es s)
  side_most s = omega (arith, early_late s (open_to es s), early_most s (open_to es s), shares_none (late s (open_to es s)) es xs (each_map _ _ closed es xs a.eligible_only))
    where
      closed : (e : Entry) (x : ℕ) → (among (open_to es e.side) e.rank ≡ false → x ≡ 0) → late s (open_to es s) e ≡ true → x ≡ 0
      closed e x only is_late =
          let here = and_parts _ _ is_late in
          only (ap (λ t. among (open_to es t) e.rank) (same_side s e.side here.0) ∙ not-true _ here.1)

  side_trades : (s : Side) → side_shares s es xs ≡ trades es xs
  side_trades Buy = refl
  side_trades Sell = sym a.level

  pub trades_most : trades es xs ≤ traded es
  trades_most = omega (arith, lesser es, side_most Buy, side_most Sell, a.level)

  pub must_execute_fits : (s : Side) → first es s must_execute ≤ traded es
  must_execute_fits s = omega (arith, early_late s must_execute, shares_whole (early s must_execute) es xs (each_map _ _ must es xs a.must_whole), side_trades s, trades_most)
    where
      must : (e : Entry) (x : ℕ) → (among must_execute e.rank ≡ true → x ≡ e.size) → early s must_execute e ≡ true → x ≡ e.size
      must e x whole is_early = whole (and_parts (is s e.side) _ is_early).1

  module _ (ordered : InOrder es xs) (s : Side) (k : ℕ) where
    -- nothing goes past the first k classes, unless they are whole
    late_none : (shares (late s k) es xs ≡ 0) ⊎ (first_shares es xs s k ≡ first es s k)
    late_none = shares_none_or (late s k) _ es xs (each_map _ _ (λ e x h is_late some. shares_whole (early s k) es xs (each_map _ _ (before e x some h.0 is_late) es xs (h.1 some))) es xs (each_and _ _ es xs a.eligible_only ordered))
      where
        earlier : (c d : Option ℕ) (o x : ℕ) → 0 < x → (among o c ≡ false → x ≡ 0) → among k c ≡ false → among k d ≡ true → (among o d ≡ true) × Before d c
        earlier c None o x some only is_late is_early = absurd (false≢true is_early)
        earlier None (Some j) o x some only is_late is_early = absurd (omega (arith, only refl))
        earlier (Some i) (Some j) o x some only is_late is_early = (grind (arith, nat_tests), grind (arith, nat_tests))

        before : (e : Entry) (x : ℕ) → 0 < x → (among (open_to es e.side) e.rank ≡ false → x ≡ 0) → late s k e ≡ true → (d : Entry) (y : ℕ) → (d.side ≡ e.side → among (open_to es d.side) d.rank ≡ true → Before d.rank e.rank → y ≡ d.size) → early s k d ≡ true → y ≡ d.size
        before e x some only is_late d y whole is_early =
            let l = and_parts _ _ is_late in
            let f = and_parts _ _ is_early in
            let here = same_side s d.side f.0 ∙ sym (same_side s e.side l.0) in
            let r = earlier e.rank d.rank (open_to es e.side) x some only (not-true _ l.1) f.1 in
            whole here (ap (λ t. among (open_to es t) d.rank) here ∙ r.0) r.1

    pins : trades es xs ≡ traded es → first_shares es xs s k ≡ min (first es s k) (traded es)
    pins all =
        elim late_none
        [ inl none ↦ omega (arith, early_most s k, early_late s k, side_trades s) | inr whole ↦ omega (arith, early_late s k, side_trades s) ]

  -- a class gets the lesser of what it has and what the classes before it leave of V
  pub class_pins : InOrder es xs → (s : Side) (k : ℕ) → trades es xs ≡ traded es → class_shares es xs s k ≡ min (in_class es s k) (traded es - first es s k)
  class_pins ordered s k all = omega (arith, one_more es s k, one_more_shares es xs s k, pins ordered s k all, pins ordered s (suc k) all)

  module _ (ordered : InOrder es xs) (all : trades es xs ≡ traded es) where
    -- V ends within a cut class
    within_cut : (s : Side) (k : ℕ) → CutClass es xs s k → (first es s k < traded es) × (traded es < first es s (suc k))
    within_cut s k c =
        let pinned = class_pins ordered s k all in
        (omega (arith, pinned, c.some), omega (arith, pinned, c.not_all, one_more es s k))

    -- so a side with a cut class has more than V
    cut_over : (s : Side) (k : ℕ) → CutClass es xs s k → traded es < first es s (open_to es s)
    cut_over s k c =
        let ends = within_cut s k c in
        elim (cases_lt k (open_to es s))
        [ inl inside ↦ omega (arith, ends.1, first_grows es s (suc k) (open_to es s) inside) | inr past ↦ absurd (omega (arith, ends.0, first_grows es s (open_to es s) k past, most s)) ]
      where
        most : (t : Side) → traded es ≤ first es t (open_to es t)
        most Buy = omega (arith, lesser es)
        most Sell = omega (arith, lesser es)

    pub one_cut : OneCut es xs
    one_cut s t j k c d = let same = one_side s t c d in (same, one_class j k c (subst (λ (u : Side). CutClass es xs u k) (sym same) d))
      where
        one_side : (s t : Side) → CutClass es xs s j → CutClass es xs t k → s ≡ t
        one_side Buy Buy c d = refl
        one_side Buy Sell c d = absurd (omega (arith, lesser es, cut_over Buy j c, cut_over Sell k d))
        one_side Sell Buy c d = absurd (omega (arith, lesser es, cut_over Sell j c, cut_over Buy k d))
        one_side Sell Sell c d = refl

        apart : (i l : ℕ) → i < l → CutClass es xs s i → CutClass es xs s l → ⊥
        apart i l less c d = omega (arith, (within_cut s i c).1, (within_cut s l d).0, first_grows es s (suc i) l less)

        one_class : (i l : ℕ) → CutClass es xs s i → CutClass es xs s l → i ≡ l
        one_class i l c d =
            elim (cases_lt i l)
            [ inl less ↦ absurd (apart i l less c d) | inr more ↦ elim (cases_lt l i) [ inl less ↦ absurd (apart l i less d c) | inr same ↦ omega arith ] ]
