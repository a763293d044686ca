-- What a fill answers, and what the lists then hold. Assumes nothing.
use Rattle.std.specs.Prelude.{◌≡◌, ℕ, Bool, false, if◌then◌else◌, not, ◌&&◌, List, ◌++◌, map, length, drop, Ok, Err, Result, nat_le}
use Rattle.list.specs.declared.List.{List as Held}
use Rattle.list.specs.Held.{contents, held, kept, holding}
use Rattle.order.specs.declared.kind.Row.{Row}
use Rattle.order.specs.declared.terms.Terms.{Terms}
use Rattle.sharing.specs.Shares.{unequal_question}
use Rattle.book.specs.declared.entry.Entry.{Entry}
use Rattle.book.specs.declared.fills.FillFault.{FillFault}
use Rattle.book.specs.declared.fills.FillFault.TheVariants.{NoPlace, Unfillable, Unequal}
use Rattle.book.specs.Entries.{orders_at}
use Rattle.book.specs.Fill.{asked, claims_of, fills_of, given_rows, given_of}
use Rattle.book.specs.Plans.{unfillable_question}
use Rattle.book.specs.Theorem.{NoAssignment, Filled}
use Rattle.book.specs.Volume.{traded, unfillable}

-- the question that a refusal answers no: has each row a place in both work lists, does an assignment exist, are claims and gifts
-- equally long?
abbrev pub question_of : FillFault → ℕ
question_of NoPlace = 20
question_of Unfillable = unfillable_question
question_of Unequal = unequal_question

-- both work lists have a place for each row
abbrev pub have_room : Held Row → List ℕ → List ℕ → Bool
have_room l claims gifts = nat_le (held l) (length claims) && nat_le (held l) (length gifts)

-- the gifts of a method of this meaning, which is asked once
abbrev pub gifts_of : (ℕ → List ℕ → List ℕ) → List Entry → List ℕ
gifts_of meaning es = meaning (asked es) (claims_of es)

-- what a work list then holds: the numbers ns, one for each row, and in later places what it held
abbrev pub work_after : Held Row → List ℕ → List ℕ → List ℕ
work_after l ns places = ns ++ drop (held l) places

-- the list with these elements in the place of those it holds; its other places hold what they held
abbrev pub rewritten : {T : Type 0} → Held T → List T → Held T
rewritten l xs = holding l (xs ++ drop (held l) (contents l)) l.count

-- the list with what each order gets
abbrev pub list_after : Held Row → List ℕ → Held Row
list_after l fills = rewritten l (given_rows (kept l) fills)

-- of a list, the terms, and the two work lists
module _ (l : Held Row) (terms : Terms) (claims gifts : List ℕ) where
  -- the volume, or the first question answered no
  abbrev pub fill_answer : Result ℕ FillFault
  fill_answer = (if have_room l claims gifts then (if unfillable (orders_at l terms) then Err Unfillable else Ok (traded (orders_at l terms))) else Err NoPlace)

  -- no question is answered no
  abbrev pub fillable : Bool
  fillable = have_room l claims gifts && not (unfillable (orders_at l terms))

  -- what the claims, the gifts and the list are then; a refusal leaves each as it was
  abbrev pub claims_after : List ℕ
  claims_after = (if fillable then work_after l (claims_of (orders_at l terms)) claims else claims)

  abbrev pub gifts_after : (ℕ → List ℕ → List ℕ) → List ℕ
  gifts_after meaning = (if fillable then work_after l (gifts_of meaning (orders_at l terms)) gifts else gifts)

  abbrev pub rows_after : (ℕ → List ℕ → List ℕ) → Held Row
  rows_after meaning = (if fillable then list_after l (fills_of (orders_at l terms) (gifts_of meaning (orders_at l terms))) else l)

  -- an answer upheld, where the orders have been given these shares: a volume comes with fills of the theorem, a price is called unfillable
  -- on one ground only, that there is no assignment, and where a place is said to be missing, one is. No method is called unequal
  abbrev pub Upheld : List ℕ → Result ℕ FillFault → Type 0
  Upheld fills (Ok v) = Filled (orders_at l terms) fills v
  Upheld fills (Err NoPlace) = have_room l claims gifts ≡ false
  Upheld fills (Err Unfillable) = NoAssignment (orders_at l terms)
  Upheld fills (Err Unequal) = ⊥

-- what the rows of a list have been given
abbrev pub given_in : Held Row → List ℕ
given_in l = map given_of (kept l)
