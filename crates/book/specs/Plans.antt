-- The plan of a price: how much trades there, and how far each side is filled. Assumes nothing.
use Rattle.std.specs.Prelude.{◌≡◌, ◌⊎◌, ℕ, max, if◌then◌else◌, List, Ok, Err, Result, MatchResult, IfOk}
use Rattle.order.specs.declared.kind.Side.{Side}
use Rattle.order.specs.declared.kind.Side.TheVariants.{Buy, Sell}
use Rattle.order.specs.declared.kind.Row.{Row}
use Rattle.book.specs.declared.entry.Entry.{Entry}
use Rattle.book.specs.declared.fills.Filling.{Filling}
use Rattle.book.specs.declared.sides.Cut.{Cut}
use Rattle.book.specs.declared.sides.Part.{Part}
use Rattle.book.specs.declared.sides.Plan.{Plan}
use Rattle.book.specs.declared.sides.Unfillable.{Unfillable}
use Rattle.book.specs.Entries.{entered}
use Rattle.book.specs.Fill.{filled_whole, left_over, part, claim_in, share_in, given_row}
use Rattle.book.specs.Theorem.{NoAssignment, Largest}
use Rattle.book.specs.Volume.{traded, unfillable}

-- how far a side is filled
abbrev pub cut_of : List Entry → Side → Cut
cut_of es s = record { whole = filled_whole es s; left = left_over es s }

-- what trades, and how far each side is filled
abbrev pub planned : List Entry → Plan
planned es = record { volume = traded es; buy = cut_of es Buy; sell = cut_of es Sell }

-- the one refusal
abbrev pub no_fill : Unfillable
no_fill = record {}

-- the question that it answers no: does an assignment exist?
abbrev pub unfillable_question : ℕ
unfillable_question = 21

-- the plan, or the refusal where the price is unfillable
abbrev pub plan_at : List Entry → Result Plan Unfillable
plan_at es = (if unfillable es then Err no_fill else Ok (planned es))

-- at most one side has something left for a cut class
abbrev pub OneLeft : Plan → Type 0
OneLeft p = (p.buy.left ≡ 0) ⊎ (p.sell.left ≡ 0)

-- a plan comes with a volume that is the largest, and something left on at most one side; its refusal means that there is no assignment
pub record Planned (es : List Entry) (r : Result Plan Unfillable) : Type 0 where
  pub value : r ≡ plan_at es
  pub largest : MatchResult r (λ p. Largest es p.volume) (λ _. NoAssignment es)
  pub one_left : IfOk r OneLeft

-- how far a plan fills a side
abbrev pub cut_for : Plan → Side → Cut
cut_for p Buy = p.buy
cut_for p Sell = p.sell

-- what an order's class gets by a plan
abbrev pub part_in : Plan → Entry → Part
part_in p e = part (cut_for p e.side).whole (cut_for p e.side).left e.rank

-- what a plan leaves for the cut class
abbrev pub asked_by : Plan → ℕ
asked_by p = max p.buy.left p.sell.left

-- an order's claim by a plan
abbrev pub claim_by : Plan → Entry → ℕ
claim_by p e = claim_in (part_in p e) e.size

-- what an order gets by a plan, with its gift
abbrev pub share_by : Plan → Entry → ℕ → ℕ
share_by p e g = share_in (part_in p e) e.size g

-- what a row claims by a plan on the terms that it was made for
abbrev pub row_claim : Filling → Row → ℕ
row_claim f row = claim_by f.plan (entered f.terms row)

-- what a row becomes by the plan, with its gift
abbrev pub row_filled : Filling → Row → ℕ → Row
row_filled f row gift = given_row row (share_by f.plan (entered f.terms row) gift)
