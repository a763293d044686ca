-- What is proved of the fills of a list at a price, for every list and every method. Assumes nothing.
use Rattle.std.specs.Prelude.{◌≡◌, ℕ, ◌≤◌, List}
use Rattle.order.specs.declared.kind.Side.{Side}
use Rattle.order.specs.declared.kind.Side.TheVariants.{Buy, Sell}
use Rattle.book.specs.declared.entry.Entry.{Entry}
use Rattle.book.specs.Assignment.{side_shares, class_shares, Assignment, trades, InOrder, OneCut}

-- no assignment exists
abbrev pub NoAssignment : List Entry → Type 0
NoAssignment es = (xs : List ℕ) → Assignment es xs → ⊥

-- v can be traded, and no more than v
pub record Largest (es : List Entry) (v : ℕ) : Type 0 where
  pub reached : (xs : List ℕ) × (Assignment es xs × (trades es xs ≡ v))
  pub most : (ys : List ℕ) → Assignment es ys → trades es ys ≤ v

-- class by class the shares are those of every assignment that trades v and keeps the order of classes: only the division within the cut
-- class is open
abbrev pub Pinned : List Entry → List ℕ → ℕ → Type 0
Pinned es xs v =
    (ys : List ℕ) → Assignment es ys → InOrder es ys → trades es ys ≡ v →
    (s : Side) (k : ℕ) → class_shares es xs s k ≡ class_shares es ys s k

-- the shares xs fill the orders es with the volume v
pub record Filled (es : List Entry) (xs : List ℕ) (v : ℕ) : Type 0 where
  -- the fills are an assignment
  pub assigned : Assignment es xs
  -- bought, sold and v are one number
  pub bought : side_shares Buy es xs ≡ v
  pub sold : side_shares Sell es xs ≡ v
  -- no assignment trades more
  pub most : (ys : List ℕ) → Assignment es ys → trades es ys ≤ v
  -- nobody gets shares while an eligible order of an earlier class on its side lacks some
  pub in_order : InOrder es xs
  -- at most one class is cut
  pub one_cut : OneCut es xs
  pub pinned : Pinned es xs v
