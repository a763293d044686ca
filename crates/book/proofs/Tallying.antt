-- Classes added up, and entries counted one by one. Assumes nothing.
use Rattle.std.proofs.Common.{◌≡◌, ℕ, zero, suc, ◌+◌, ◌*◌, ◌^◌, ◌<◌, ◌≤◌, Bool, cond, if◌then◌else◌, ◌&&◌, ltb, List, [], ◌∷◌, map, length, get_or, take, sym, add-one, arith}
use Rattle.std.proofs.lemmas.List.Sums.{sum_by_more}
use Rattle.std.proofs.lemmas.Bool.Decides.{nat_tests}
use Rattle.order.specs.declared.kind.Row.{Row}
use Rattle.order.specs.declared.kind.Side.{Side}
use Rattle.order.specs.Kinds.{is}
use Rattle.book.specs.declared.entry.Entry.{Entry}
use Rattle.book.specs.declared.totals.Tally.{Tally}
use Rattle.book.specs.declared.totals.Totals.{Totals}
use Rattle.book.specs.Tally.{together}
use Rattle.book.specs.Totals.{tallied, counted, Tallies, TotalsOf}
use Rattle.book.specs.Fill.{filled_whole}
use Rattle.book.specs.Volume.{traded}
use Rattle.book.specs.Weight.{ranked, sizes, first, in_class, open_to}
use Rattle.book.proofs.Whole.{first_zero, one_more, fits, whole_open, whole_most}

module _ (p : Entry → Bool) (f : Row → Entry) where
  sizes_more : (xs : List Row) (i : ℕ) (d : Row) → i < length xs → sizes p (map f (take (i + 1) xs)) ≡ sizes p (map f (take i xs)) + cond (p (f (get_or xs i d))) (f (get_or xs i d)).size 0
  sizes_more [] i d h = absurd (omega arith)
  sizes_more (x ∷ xs) zero d h = omega arith
  sizes_more (x ∷ xs) (suc i) d h = rw add-one (omega (arith, rw add-one at (sizes_more xs i d (omega arith))))

-- one row more
tallied_more : (s : Side) (k n : ℕ) (f : Row → Entry) (rows : List Row) (i : ℕ) (d : Row) (e : Entry) → i < length rows → e ≡ f (get_or rows i d)
    → (if ltb k n then in_class (map f (take i rows)) s k else 0) + counted s n k e ≡ (if ltb k n then in_class (map f (take (i + 1) rows)) s k else 0)
tallied_more s k n f rows i d e h its = grind (arith, its, sizes_more (λ x. is s x.side && ranked k x.rank) f rows i d h)

-- t has counted the n entries es, of which those of the side s count, with the first m classes open
pub record Counting (es : List Entry) (s : Side) (n m : ℕ) (t : Totals) : Type 0 where
  pub each : Tallies es s t
  pub few : together t.tallies ≤ n * 2 ^ 32
  pub opened : t.classes ≡ m

-- t counts the entry of one row more, and becomes u
pub counting_more : (s : Side) (m : ℕ) (f : Row → Entry) (rows : List Row) (i : ℕ) (d : Row) (e : Entry) (t u : Totals)
    → Counting (map f (take i rows)) s i m t → i < length rows → e ≡ f (get_or rows i d) → e.size < 2 ^ 32
    → ((k : ℕ) → tallied u k ≡ tallied t k + counted s t.classes k e) → u.classes ≡ t.classes → together u.tallies ≤ together t.tallies + e.size
    → Counting (map f (take (i + 1) rows)) s (i + 1) m u
counting_more s m f rows i d e t u so_far inside its small after same within =
    record {
      each = λ k. simp same (omega (arith, after k, so_far.each k, tallied_more s k t.classes f rows i d e inside its));
      few = omega arith;
      opened = cc;
    }

module _ (es : List Entry) (s : Side) (t : Totals) where
  -- the first n tallies hold together what the side has in its first n classes
  pub together_first : Tallies es s t → (n : ℕ) → n ≤ t.classes → together (take n t.tallies) ≡ first es s n
  together_first each zero inside = sym (first_zero es s)
  together_first each (suc n) inside =
      let here : n < length t.tallies = omega arith in
      grind (arith, nat_tests, rw add-one at (sum_by_more (λ (tally : Tally). tally.shares) t.tallies n (record { shares = 0 }) here), together_first each n, each n, one_more es s n)

  -- m classes fit, and no more that are open: they are those that are filled whole
  pub filled_is : TotalsOf es s t → (m : ℕ) → m ≤ t.classes → together (take m t.tallies) ≤ traded es
      → ((k : ℕ) → m < k → k ≤ t.classes → traded es < together (take k t.tallies)) → m ≡ filled_whole es s
  filled_is totals m within fit over =
      grind (
        arith,
        totals.opened,
        whole_open es s,
        whole_most es s m,
        fits es s (open_to es s),
        over (filled_whole es s),
        together_first totals.each m,
        together_first totals.each (filled_whole es s),
      )
