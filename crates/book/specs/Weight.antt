-- What each side has in its classes, and which side is lighter. Assumes nothing.
use Rattle.std.specs.Prelude.{◌≡◌, ℕ, suc, ◌+◌, Bool, false, if◌then◌else◌, ◌&&◌, List, [], ◌∷◌, Some, None, Option, ◌==◌, nat_lt}
use Rattle.order.specs.declared.kind.Side.{Side}
use Rattle.order.specs.declared.kind.Side.TheVariants.{Buy, Sell}
use Rattle.order.specs.declared.class.Class.TheVariants.{BookAt, OffsetIn}
use Rattle.order.specs.Classes.{rank_of}
use Rattle.order.specs.Kinds.{is, facing}
use Rattle.book.specs.declared.entry.Entry.{Entry}

-- how many classes come first and must execute whole: class 0 alone. Class 1 is the first that need not be filled
unfoldable pub must_execute : ℕ
must_execute = rank_of BookAt

-- how many classes are open to both sides, those that must execute among them: 0 to 5. The next, of closing offset orders, is open to the
-- lighter side only
unfoldable pub open_to_both : ℕ
open_to_both = rank_of OffsetIn

-- in one of the first k classes
abbrev pub among : ℕ → Option ℕ → Bool
among k None = false
among k (Some rank) = nat_lt rank k

-- in the class k
abbrev pub ranked : ℕ → Option ℕ → Bool
ranked k None = false
ranked k (Some rank) = rank == k

-- the sizes of the entries that pass a test, added up
abbrev pub sizes : (Entry → Bool) → List Entry → ℕ
sizes p [] = 0
sizes p (e ∷ es) = (if p e then e.size else 0) + sizes p es

-- what a side has in its first k classes
abbrev pub first : List Entry → Side → ℕ → ℕ
first es s k = sizes (λ e. is s e.side && among k e.rank) es

-- what a side has in its class k
abbrev pub in_class : List Entry → Side → ℕ → ℕ
in_class es s k = sizes (λ e. is s e.side && ranked k e.rank) es

-- W of a side: its sizes in the classes 0 to 5
abbrev pub weight : List Entry → Side → ℕ
weight es s = first es s open_to_both

-- the lighter side has the smaller W; equal sides have no lighter one
abbrev pub lighter : List Entry → Side → Bool
lighter es s = nat_lt (weight es s) (weight es (facing s))

-- how many classes are open to a side of this W, where the other side has that: 0 to 5, and 6 too where it is the lighter
abbrev pub open_where : ℕ → ℕ → ℕ
open_where own other = (if nat_lt own other then suc open_to_both else open_to_both)

-- how many classes are open to a side of a list
abbrev pub open_to : List Entry → Side → ℕ
open_to es s = open_where (weight es s) (weight es (facing s))

-- eligible: in a class that is open to its side
abbrev pub eligible : List Entry → Entry → Bool
eligible es e = among (open_to es e.side) e.rank

-- how many classes are open to a side by the W to buy and to sell
abbrev pub open_by : ℕ × ℕ → Side → ℕ
open_by (buy, sell) Buy = open_where buy sell
open_by (buy, sell) Sell = open_where sell buy

-- eligible by the W to buy and to sell
abbrev pub eligible_by : ℕ × ℕ → Entry → Bool
eligible_by weights e = among (open_by weights e.side) e.rank

-- this is whether an entry is eligible, in every list of these W to buy and to sell
abbrev pub EligibleBy : ℕ × ℕ → Entry → Bool → Type 0
EligibleBy weights e b = (es : List Entry) → weights ≡ (weight es Buy, weight es Sell) → b ≡ eligible es e
