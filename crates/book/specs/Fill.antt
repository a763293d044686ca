-- Each side filled class by class up to V, and the class that is cut. Assumes nothing.
use Rattle.std.specs.Prelude.{ℕ, zero, suc, ◌-◌, max, if◌then◌else◌, ◌&&◌, List, map, zip, Some, None, Option, ◌==◌, nat_le, nat_lt}
use Rattle.order.specs.declared.kind.Row.{Row}
use Rattle.order.specs.declared.kind.Side.{Side}
use Rattle.order.specs.declared.kind.Side.TheVariants.{Buy, Sell}
use Rattle.order.specs.Rows.{sound, refilled}
use Rattle.book.specs.declared.entry.Entry.{Entry}
use Rattle.book.specs.declared.sides.Part.{Part}
use Rattle.book.specs.declared.sides.Part.TheVariants.{Whole, Shared, Nothing}
use Rattle.book.specs.Weight.{first, open_to}
use Rattle.book.specs.Volume.{traded}

-- of a side's first n classes, how many fit whole into V
abbrev pub fitting : List Entry → Side → ℕ → ℕ
fitting es s zero = 0
fitting es s (suc n) = (if nat_le (first es s (suc n)) (traded es) then suc n else fitting es s n)

-- how many classes of a side are filled whole
abbrev pub filled_whole : List Entry → Side → ℕ
filled_whole es s = fitting es s (open_to es s)

-- what is then left of V for the class after them, the cut class
abbrev pub left_over : List Entry → Side → ℕ
left_over es s = traded es - first es s (filled_whole es s)

-- what an order's class gets, with m classes filled whole and l left: its whole size, a share of what is left, or nothing
abbrev pub part : ℕ → ℕ → Option ℕ → Part
part m l None = Nothing
part m l (Some rank) = (if nat_lt rank m then Whole else (if rank == m && nat_lt 0 l then Shared else Nothing))

-- the same of an order of a list
abbrev pub part_of : List Entry → Entry → Part
part_of es e = part (filled_whole es e.side) (left_over es e.side) e.rank

-- the claim of an order of size n: its size in the cut class, and 0 elsewhere
abbrev pub claim_in : Part → ℕ → ℕ
claim_in Whole n = 0
claim_in Shared n = n
claim_in Nothing n = 0

-- what an order of size n gets, with the gift g
abbrev pub share_in : Part → ℕ → ℕ → ℕ
share_in Whole n g = n
share_in Shared n g = g
share_in Nothing n g = 0

-- what the method is asked to divide: what is left for the cut class. At most one side has something left
abbrev pub asked : List Entry → ℕ
asked es = max (left_over es Buy) (left_over es Sell)

-- the claims of all orders
abbrev pub claims_of : List Entry → List ℕ
claims_of es = map (λ e. claim_in (part_of es e) e.size) es

-- f of each element and the number at its place
abbrev pub beside : {A B : Type 0} → (A → ℕ → B) → List A → List ℕ → List B
beside f xs ns = map (λ p. f p.0 p.1) (zip xs ns)

-- what each order gets, with the gifts of the method
abbrev pub fills_of : List Entry → List ℕ → List ℕ
fills_of es gifts = beside (λ e g. share_in (part_of es e) e.size g) es gifts

-- a row with what it gets; a row that fails its check stays as it is
abbrev pub given_row : Row → ℕ → Row
given_row r n = (if sound r then refilled r n else r)

-- the rows of a list with what they get
abbrev pub given_rows : List Row → List ℕ → List Row
given_rows rows fills = beside given_row rows fills

-- what a row has been given: its filled shares, or 0 where it fails its check
abbrev pub given_of : Row → ℕ
given_of r = (if sound r then r.filled else 0)
