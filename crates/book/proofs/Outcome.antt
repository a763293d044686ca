-- What a list holds once its orders are filled by the plan. Assumes nothing.
use Rattle.std.proofs.Common.{◌≡◌, ℕ, ◌≤◌, false, List, [], ◌∷◌, map, length, drop, sym, refl, ap, ◌∙◌, subst, ap₂, arith}
use mathlib.Core.Path.{fun_ext}
use Rattle.std.proofs.lemmas.List.{take_at, length-append, length-drop, length-map}
use Rattle.std.proofs.lemmas.Bool.Decides.{nat_tests}
use Rattle.std.proofs.lemmas.Simd.{map-map}
use Rattle.list.specs.declared.List.{List as Held}
use Rattle.list.specs.Held.{contents, held, kept}
use Rattle.order.specs.declared.kind.Row.{Row}
use Rattle.order.specs.declared.kind.Side.{Side}
use Rattle.order.specs.declared.kind.Side.TheVariants.{Buy, Sell}
use Rattle.order.specs.declared.terms.Terms.{Terms}
use Rattle.order.specs.Rows.{sound}
use Rattle.std.specs.List.{AllZip}
use Rattle.book.specs.declared.entry.Entry.{Entry}
use Rattle.book.specs.declared.fills.Filling.{Filling}
use Rattle.book.specs.Answers.{gifts_of, rewritten, list_after, given_in}
use Rattle.book.specs.Assignment.{Assignment}
use Rattle.book.specs.Entries.{entered, entries, orders_at}
use Rattle.book.specs.Fill.{part, part_of, claim_in, share_in, asked, claims_of, beside, fills_of, given_row, given_rows, given_of}
use Rattle.book.specs.Plans.{cut_of, planned, cut_for, part_in, asked_by, row_claim, row_filled}
use Rattle.book.specs.Theorem.{Filled}
use Rattle.book.specs.Volume.{traded, unfillable}
use Rattle.book.specs.Weight.{eligible}
use Rattle.std.proofs.lemmas.Slice.Zip.{AllZip-long}
use Rattle.book.proofs.Stands.{Divided, stands}
use Rattle.book.proofs.Writing.{length_kept, length-beside}

cut_planned : (es : List Entry) (s : Side) → cut_for (planned es) s ≡ cut_of es s
cut_planned es Buy = refl
cut_planned es Sell = refl

beside_through : {A B : Type 0} (f : A → ℕ → A) (h : A → B) (k : B → ℕ → ℕ) (xs : List A) (ns : List ℕ) → beside (λ x n. f x (k (h x) n)) xs ns ≡ beside f xs (beside k (map h xs) ns)
beside_through f h k [] ns = refl
beside_through f h k (x ∷ xs) [] = refl
beside_through f h k (x ∷ xs) (n ∷ ns) = ap (λ ys. f x (k (h x) n) ∷ ys) (beside_through f h k xs ns)

-- rows filled by the plan that was made for them
module _ (f : Filling) (rows : List Row) (by_plan : f.plan ≡ planned (entries f.terms rows)) where
  -- the plan gives an order's class its part
  parts : part_in f.plan ≡ part_of (entries f.terms rows)
  parts = ap part_in by_plan ∙ fun_ext (λ e. ap (λ c. part c.whole c.left e.rank) (cut_planned (entries f.terms rows) e.side))

  pub claims_planned : map (row_claim f) rows ≡ claims_of (entries f.terms rows)
  claims_planned = ap (λ p. map (λ row. claim_in (p (entered f.terms row)) row.size) rows) parts ∙ sym (map-map _ (entered f.terms) rows)

  pub fills_planned : (gifts : List ℕ) → beside (row_filled f) rows gifts ≡ given_rows rows (fills_of (entries f.terms rows) gifts)
  fills_planned gifts =
      ap (λ p. beside (λ row gift. given_row row (share_in (p (entered f.terms row)) row.size gift)) rows gifts) parts
      ∙ beside_through given_row (entered f.terms) (λ e g. share_in (part_of (entries f.terms rows) e) e.size g) rows gifts

-- what a row is given it has, if it has as many shares, or fails its check and is given none
given_is : (r : Row) (n : ℕ) → n ≤ r.size → (sound r ≡ false → n ≡ 0) → given_of (given_row r n) ≡ n
given_is r n h z = grind (arith, nat_tests)

pub kept_rewritten : {T : Type 0} (l : Held T) (xs : List T) → length xs ≡ held l → kept (rewritten l xs) ≡ xs
kept_rewritten l xs e =
    let rest = drop (held l) (contents l) in
    take_at xs rest (held (rewritten l xs)) (omega (arith, length-append xs rest, length-drop (held l) (contents l)))

module _ (terms : Terms) where
  -- an assignment is what the rows have been given
  given_all : (es : List Entry) (rows : List Row) (ns : List ℕ) → AllZip (λ e x. x ≤ e.size) (entries terms rows) ns → AllZip (λ e x. eligible es e ≡ false → x ≡ 0) (entries terms rows) ns
      → map given_of (given_rows rows ns) ≡ ns
  given_all es [] [] w e = refl
  given_all es [] (n ∷ ns) w e = absurd w
  given_all es (r ∷ rows) [] w e = refl
  given_all es (r ∷ rows) (n ∷ ns) w e = cc (given_is r n w.0 (λ unsound. e.0 (rw unsound)), given_all es rows ns w.1 e.1)

  pub given_after : (l : Held Row) (ns : List ℕ) → Assignment (entries terms (kept l)) ns → given_in (list_after l ns) ≡ ns
  given_after l ns a =
      let paired : length ns ≡ length (kept l) = AllZip-long _ _ ns a.within ∙ length-map (kept l) (entered terms) in
      ap (map given_of) (kept_rewritten l (given_rows (kept l) ns) (length-beside given_row (kept l) ns (omega arith) ∙ length_kept l))
      ∙ given_all (entries terms (kept l)) (kept l) ns a.within a.eligible_only

-- a list shared out by its plan with a method of the meaning m
pub record SharedOut (es : List Entry) (m : ℕ → List ℕ → List ℕ) (l after : Held Row) (claims gifts : List ℕ) : Type 0 where
  pub claims_are : claims ≡ claims_of es
  pub gifts_are : gifts ≡ gifts_of m es
  pub after_is : after ≡ list_after l (fills_of es (gifts_of m es))
  pub filled : Filled es (given_in after) (traded es)

module _ (f : Filling) (l : Held Row) (by_plan : f.plan ≡ planned (orders_at l f.terms)) (fill : unfillable (orders_at l f.terms) ≡ false)
    (m : ℕ → List ℕ → List ℕ) (divides : (a : ℕ) (cs : List ℕ) → Divided a cs (m a cs)) where
  pub shared_out : (amount : ℕ) (claims gifts : List ℕ) (after : Held Row)
      → amount ≡ asked_by f.plan → claims ≡ map (row_claim f) (kept l) → gifts ≡ m amount claims → after ≡ rewritten l (beside (row_filled f) (kept l) gifts)
      → SharedOut (orders_at l f.terms) m l after claims gifts
  shared_out amount claims gifts after amount_is claims_are gifts_are after_is =
      let es = orders_at l f.terms in
      let its_claims : claims ≡ claims_of es = claims_are ∙ claims_planned f (kept l) by_plan in
      let its_gifts : gifts ≡ gifts_of m es = gifts_are ∙ ap₂ m (amount_is ∙ ap asked_by by_plan) its_claims in
      let it_holds : after ≡ list_after l (fills_of es (gifts_of m es)) = after_is ∙ ap (rewritten l) (ap (beside (row_filled f) (kept l)) its_gifts ∙ fills_planned f (kept l) by_plan (gifts_of m es)) in
      let fills = stands es (gifts_of m es) (divides (asked es) (claims_of es)) fill in
      record {
        claims_are = its_claims;
        gifts_are = its_gifts;
        after_is = it_holds;
        filled = subst (λ (ns : List ℕ). Filled es ns (traded es)) (sym (ap given_in it_holds ∙ given_after f.terms l (fills_of es (gifts_of m es)) fills.assigned)) fills;
      }
