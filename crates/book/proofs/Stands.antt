-- The theorem: what a list's fills are, and that V is the most that trades. Assumes nothing.
use Rattle.std.proofs.Common.{◌≡◌, ℕ, ◌+◌, ◌<◌, ◌≤◌, min, true, false, cond, ◌&&◌, ◌||◌, ltb, ◌⊎◌, List, length, sym, ap, ◌∙◌, inl, inr, arith}
use Rattle.std.proofs.lemmas.Bool.{cases_lt, and_parts, or_parts, ltb-false}
use Rattle.std.proofs.lemmas.Bool.Decides.{nat_tests}
use Rattle.std.specs.List.{AllZip}
use Rattle.sharing.specs.Shares.{total, Within}
use Rattle.sharing.specs.Pairs.{fits_from}
use Rattle.sharing.specs.Arrival.{arrival}
use Rattle.sharing.specs.ArrivalLaws.{arrival_paired, arrival_within, arrival_spends}
use Rattle.order.specs.declared.kind.Side.{Side}
use Rattle.order.specs.declared.kind.Side.TheVariants.{Buy, Sell}
use Rattle.order.specs.Kinds.{is}
use Rattle.book.specs.declared.entry.Entry.{Entry}
use Rattle.book.specs.Answers.{gifts_of}
use Rattle.book.specs.Weight.{must_execute, among, ranked, first, open_to}
use Rattle.book.specs.Volume.{traded, unfillable}
use Rattle.book.specs.Assignment.{side_shares, Assignment, InOrder}
use Rattle.book.specs.Fill.{filled_whole, left_over, part_of, claim_in, share_in, asked, claims_of, fills_of}
use Rattle.book.specs.Theorem.{NoAssignment, Largest, Filled}
use Rattle.book.proofs.Pairs.{each_map, each_from, each_made, each_gifts, same_side, shares_whole, shares_none, shares_split, shares_gifts, shares_both}
use Rattle.book.proofs.Whole.{must_execute_open, one_more, whole_open, whole_most, whole_left, left_open, left_short, one_left}
use Rattle.book.proofs.Parts.{claim_none, claim_whole, share_is, share_within, share_none, share_whole, share_before}
use Rattle.book.proofs.Pinning.{trades_most, must_execute_fits, class_pins, one_cut}

-- an amount divided among claims: as many gifts as claims, none above its claim, together the lesser of the amount and all claims
pub record Divided (amount : ℕ) (claims gifts : List ℕ) : Type 0 where
  pub within : AllZip (λ c g. g ≤ c) claims gifts
  pub spent : total gifts ≡ min amount (total claims)

pub none : (es : List Entry) → unfillable es ≡ true → NoAssignment es
none es short xs a = neither _ _ _ short (must_execute_fits es xs a Buy) (must_execute_fits es xs a Sell)
  where
    neither : (v b c : ℕ) → (ltb v b || ltb v c) ≡ true → b ≤ v → c ≤ v → ⊥
    neither v b c h f g = grind (arith, nat_tests)

-- the cut class claims as much as is left, or more
claims_enough : (es : List Entry) (s : Side) → left_over es s ≤ side_shares s es (claims_of es)
claims_enough es s = elim (cases_lt 0 (left_over es s)) [ inl some ↦ enough some | inr none_left ↦ omega arith ]
  where
    enough : 0 < left_over es s → left_over es s ≤ side_shares s es (claims_of es)
    enough some =
        omega (
          arith,
          shares_split (λ e. is s e.side) (λ e. ranked (filled_whole es s) e.rank) es (claims_of es),
          shares_whole (λ e. is s e.side && ranked (filled_whole es s) e.rank) es (claims_of es) (each_made _ _ whole es),
          one_more es s (filled_whole es s),
          left_short es s some,
        )
      where
        whole : (e : Entry) → (is s e.side && ranked (filled_whole es s) e.rank) ≡ true → claim_in (part_of es e) e.size ≡ e.size
        whole e last = let here = and_parts _ _ last in rw (same_side s e.side here.0) (claim_whole (filled_whole es s) (left_over es s) some e.rank e.size here.1)

module _ (es : List Entry) (gs : List ℕ) (divided : Divided (asked es) (claims_of es) gs) where
  within : AllZip (λ e g. g ≤ claim_in (part_of es e) e.size) es gs
  within = each_from (λ c g. g ≤ c) (λ e. claim_in (part_of es e) e.size) es gs divided.within

  each_fill : (P : Entry → ℕ → Type 0) → ((e : Entry) (g : ℕ) → g ≤ claim_in (part_of es e) e.size → P e (share_in (part_of es e) e.size g)) → AllZip P es (fills_of es gs)
  each_fill P h = each_gifts P (λ e g. share_in (part_of es e) e.size g) es gs (each_map _ _ h es gs within)

  gifts_none : (s : Side) → left_over es s ≡ 0 → side_shares s es gs ≡ 0
  gifts_none s none_left = shares_none (λ e. is s e.side) es gs (each_map _ _ nothing es gs within)
    where
      nothing : (e : Entry) (g : ℕ) → g ≤ claim_in (part_of es e) e.size → is s e.side ≡ true → g ≡ 0
      nothing e g h here = omega (arith, claim_none (filled_whole es e.side) (left_over es e.side) (ap (left_over es) (same_side s e.side here) ∙ none_left) e.rank e.size)

  fills_are : (s : Side) → side_shares s es (fills_of es gs) ≡ first es s (filled_whole es s) + side_shares s es gs
  fills_are s = shares_gifts (λ e. is s e.side) (λ e. among (filled_whole es s) e.rank) (λ e g. share_in (part_of es e) e.size g) es gs (each_map _ _ both es gs within)
    where
      both : (e : Entry) (g : ℕ) → g ≤ claim_in (part_of es e) e.size → is s e.side ≡ true → share_in (part_of es e) e.size g ≡ cond (among (filled_whole es s) e.rank) e.size 0 + g
      both e g h here = share_is (filled_whole es e.side) (left_over es e.side) e.rank e.size g h ∙ ap (λ t. cond (among (filled_whole es t) e.rank) e.size 0 + g) (same_side s e.side here)

  fills_trade : (side_shares Buy es (fills_of es gs) ≡ traded es) × (side_shares Sell es (fills_of es gs) ≡ traded es)
  fills_trade = go (one_left es)
    where
      spent : total gs ≡ asked es
      spent = omega (arith, divided.spent, shares_both (λ e x. Unit {0}) es (claims_of es) (each_made _ _ (λ e. tt) es), claims_enough es Buy, claims_enough es Sell)

      go : (left_over es Buy ≡ 0) ⊎ (left_over es Sell ≡ 0) → (side_shares Buy es (fills_of es gs) ≡ traded es) × (side_shares Sell es (fills_of es gs) ≡ traded es)
      go (inl n) = omega (arith, spent, fills_are Buy, fills_are Sell, gifts_none Buy n, shares_both _ es gs within, whole_left es Buy, whole_left es Sell)
      go (inr n) = omega (arith, spent, fills_are Buy, fills_are Sell, gifts_none Sell n, shares_both _ es gs within, whole_left es Buy, whole_left es Sell)

  fills_assigned : ((s : Side) → first es s must_execute ≤ traded es) → Assignment es (fills_of es gs)
  fills_assigned fit =
      record {
        within = each_fill _ (λ e g h. share_within (filled_whole es e.side) (left_over es e.side) e.rank e.size g h);
        eligible_only = each_fill _ (λ e g h. share_none (filled_whole es e.side) (left_over es e.side) (open_to es e.side) (whole_open es e.side) (left_open es e.side) e.rank e.size g);
        must_whole = each_fill _ (λ e g h. share_whole (filled_whole es e.side) (left_over es e.side) must_execute (whole_most es e.side must_execute (must_execute_open es e.side) (fit e.side)) e.rank e.size g);
        level = fills_trade.0 ∙ sym fills_trade.1;
      }

  fills_in_order : InOrder es (fills_of es gs)
  fills_in_order = each_fill _ (λ e g h some. each_fill _ (λ d k h' same el before. rw same (share_before (filled_whole es e.side) (left_over es e.side) e.rank d.rank e.size g d.size k some before)))

  pub stands : unfillable es ≡ false → Filled es (fills_of es gs) (traded es)
  stands fillable =
      let a = fills_assigned fit in
      record {
        assigned = a;
        bought = fills_trade.0;
        sold = fills_trade.1;
        most = λ ys b. trades_most es ys b;
        in_order = fills_in_order;
        one_cut = one_cut es (fills_of es gs) a fills_in_order fills_trade.0;
        pinned = λ ys b ordered all s k. class_pins es (fills_of es gs) a fills_in_order s k fills_trade.0 ∙ sym (class_pins es ys b ordered s k all);
      }
    where
      fit : (s : Side) → first es s must_execute ≤ traded es
      fit Buy = ltb-false _ _ (or_parts _ _ fillable).0
      fit Sell = ltb-false _ _ (or_parts _ _ fillable).1

pub divided_by : (a : ℕ) (cs gs : List ℕ) → length gs ≡ length cs → Within cs gs → total gs ≡ min a (total cs) → Divided a cs gs
divided_by a cs gs paired within spent = record { within = fits_from cs gs paired within; spent = spent }

-- shared by arrival, the orders are filled with V
pub by_arrival : (es : List Entry) → unfillable es ≡ false → Filled es (fills_of es (gifts_of arrival es)) (traded es)
by_arrival es = stands es _ (divided_by (asked es) (claims_of es) _ (arrival_paired _ _) (arrival_within _ _) (arrival_spends _ _))

-- so V is reached, and it is the most
pub largest : (es : List Entry) → unfillable es ≡ false → Largest es (traded es)
largest es fillable = let filled = by_arrival es fillable in record { reached = (fills_of es (gifts_of arrival es), (filled.assigned, filled.bought)); most = filled.most }
