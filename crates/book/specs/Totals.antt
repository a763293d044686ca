-- What a side's totals hold for the entries of a list. Assumes nothing.
use Rattle.std.specs.Prelude.{◌≡◌, ℕ, ◌≤◌, true, if◌then◌else◌, ◌&&◌, List, Result, nat_lt, slice_index_or}
use Rattle.order.specs.declared.kind.Side.{Side}
use Rattle.order.specs.declared.kind.Side.TheVariants.{Buy, Sell}
use Rattle.book.specs.declared.entry.Entry.{Entry}
use Rattle.book.specs.declared.totals.Totals.{Totals}
use Rattle.order.specs.Kinds.{is}
use Rattle.book.specs.declared.sides.Cut.{Cut}
use Rattle.book.specs.declared.sides.Plan.{Plan}
use Rattle.book.specs.declared.sides.Unfillable.{Unfillable}
use Rattle.book.specs.Fill.{filled_whole}
use Rattle.book.specs.Plans.{cut_of, Planned}
use Rattle.book.specs.Volume.{traded}
use Rattle.book.specs.Weight.{must_execute, open_to_both, ranked, first, in_class, weight, lighter, open_to}

-- the tally of the class k; there is none above 6
abbrev pub tallied : Totals → ℕ → ℕ
tallied t k = (slice_index_or t.tallies k (record { shares = 0 })).shares

-- what an entry adds to the tally of the class k of a side to which the first n classes are open
abbrev pub counted : Side → ℕ → ℕ → Entry → ℕ
counted s n k e = (if is s e.side && ranked k e.rank && nat_lt k n then e.size else 0)

-- t has the totals of the side s: each class that is open has its sizes, and any other has 0
abbrev pub Tallies : List Entry → Side → Totals → Type 0
Tallies es s t = (k : ℕ) → tallied t k ≡ (if nat_lt k t.classes then in_class es s k else 0)

-- v is what the first n classes hold together, of whatever list these are the totals
abbrev pub SumsFirst : Totals → ℕ → ℕ → Type 0
SumsFirst t n v = (es : List Entry) (s : Side) → Tallies es s t → n ≤ t.classes → v ≡ first es s n

-- the totals of a side at a price: each class that is open to it, and no other, is open
pub record TotalsOf (es : List Entry) (s : Side) (t : Totals) : Type 0 where
  pub each : Tallies es s t
  pub opened : t.classes ≡ open_to es s

-- of whatever list these are the totals of a side, v is its W
abbrev pub Weighs : Totals → ℕ → Type 0
Weighs t v = (es : List Entry) (s : Side) → TotalsOf es s t → v ≡ weight es s

-- v is what must execute
abbrev pub MustExecute : Totals → ℕ → Type 0
MustExecute t v = (es : List Entry) (s : Side) → TotalsOf es s t → v ≡ first es s must_execute

-- v is the last class, if the side is the lighter one
abbrev pub Offsets : Totals → ℕ → Type 0
Offsets t v = (es : List Entry) (s : Side) → TotalsOf es s t → lighter es s ≡ true → v ≡ in_class es s open_to_both

-- n classes are filled whole by the volume v
abbrev pub FillsWhole : Totals → ℕ → ℕ → Type 0
FillsWhole t v n = (es : List Entry) (s : Side) → TotalsOf es s t → v ≡ traded es → n ≡ filled_whole es s

-- c is how far the volume v fills the side
abbrev pub CutsAt : Totals → ℕ → Cut → Type 0
CutsAt t v c = (es : List Entry) (s : Side) → TotalsOf es s t → v ≡ traded es → c ≡ cut_of es s

-- of whatever list these are the totals to buy and to sell, v is what trades
abbrev pub TradesBy : Totals → Totals → ℕ → Type 0
TradesBy b c v = (es : List Entry) → TotalsOf es Buy b → TotalsOf es Sell c → v ≡ traded es

-- of whatever list these are the totals to buy and to sell, r is the plan
abbrev pub PlansBy : Totals → Totals → Result Plan Unfillable → Type 0
PlansBy b c r = (es : List Entry) → TotalsOf es Buy b → TotalsOf es Sell c → Planned es r
