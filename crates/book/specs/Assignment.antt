-- Assignments of shares to the orders of a list at a price. Assumes nothing.
use Rattle.std.specs.Prelude.{◌≡◌, ℕ, ◌+◌, ◌<◌, ◌≤◌, Bool, true, false, if◌then◌else◌, ◌&&◌, List, [], ◌∷◌, Some, None, Option}
use Rattle.std.specs.List.{AllZip}
use Rattle.order.specs.declared.kind.Side.{Side}
use Rattle.order.specs.declared.kind.Side.TheVariants.{Buy, Sell}
use Rattle.order.specs.Kinds.{is}
use Rattle.book.specs.declared.entry.Entry.{Entry}
use Rattle.book.specs.Weight.{must_execute, among, ranked, in_class, eligible}

-- the shares of the entries that pass a test, added up
abbrev pub shares : (Entry → Bool) → List Entry → List ℕ → ℕ
shares p [] xs = 0
shares p (e ∷ es) [] = 0
shares p (e ∷ es) (x ∷ xs) = (if p e then x else 0) + shares p es xs

-- the shares of a side
abbrev pub side_shares : Side → List Entry → List ℕ → ℕ
side_shares s = shares (λ e. is s e.side)

-- the shares of a side's class k
abbrev pub class_shares : List Entry → List ℕ → Side → ℕ → ℕ
class_shares es xs s k = shares (λ e. is s e.side && ranked k e.rank) es xs

-- an assignment gives each order a whole number of shares
pub record Assignment (es : List Entry) (xs : List ℕ) : Type 0 where
  -- none more than its size
  pub within : AllZip (λ e x. x ≤ e.size) es xs
  -- none to an order that is not eligible
  pub eligible_only : AllZip (λ e x. eligible es e ≡ false → x ≡ 0) es xs
  -- whoever must execute gets its whole size
  pub must_whole : AllZip (λ e x. among must_execute e.rank ≡ true → x ≡ e.size) es xs
  -- buys and sells add up alike
  pub level : side_shares Buy es xs ≡ side_shares Sell es xs

-- an assignment trades what its buys add up to
abbrev pub trades : List Entry → List ℕ → ℕ
trades es xs = side_shares Buy es xs

-- one class comes before another
abbrev pub Before : Option ℕ → Option ℕ → Type 0
Before None d = ⊥
Before (Some j) None = ⊥
Before (Some j) (Some k) = j < k

-- nobody gets shares while an eligible order of an earlier class on its side lacks some
abbrev pub InOrder : List Entry → List ℕ → Type 0
InOrder es xs =
    AllZip
    (λ e x. 0 < x → AllZip (λ d y. d.side ≡ e.side → eligible es d ≡ true → Before d.rank e.rank → y ≡ d.size) es xs)
    es
    xs

-- the class k of a side is cut: it gets some shares, but not all
pub record CutClass (es : List Entry) (xs : List ℕ) (s : Side) (k : ℕ) : Type 0 where
  pub some : 0 < class_shares es xs s k
  pub not_all : class_shares es xs s k < in_class es s k

-- at most one class is cut, and on one side only
abbrev pub OneCut : List Entry → List ℕ → Type 0
OneCut es xs = (s t : Side) (j k : ℕ) → CutClass es xs s j → CutClass es xs t k → (s ≡ t) × (j ≡ k)
