-- Notices of an imbalance. Assumes nothing.
use Rattle.std.specs.Prelude.{ℕ, Bool, not, ◌&&◌, ◌||◌, ◌==◌, List, ℤ, pos, int_lt, nat_le, unsigned_abs}
use Rattle.std.specs.List.{list_any}
use Rattle.order.specs.declared.kind.Row.{Row}
use Rattle.order.specs.declared.kind.Side.{Side}
use Rattle.order.specs.declared.kind.Side.TheVariants.{Buy, Sell}
use Rattle.order.specs.declared.sale.Sale.{Sale}
use Rattle.order.specs.declared.terms.Terms.{Terms}
use Rattle.order.specs.Kinds.{facing}
use Rattle.order.specs.Sales.{reference}
use Rattle.book.specs.Imbalance.{amount_of}
use Rattle.clock.specs.Phases.{is_late}
use Rattle.session.specs.declared.notice.Notice.{Notice}
use Rattle.session.specs.States.{State}

-- the reference price of a session after a last sale
abbrev pub reference_of : State → Sale → ℕ
reference_of s last = reference last.price s.quote

-- the reference price with the last sale
abbrev pub reference_terms : State → Sale → Terms
reference_terms s last = record { price = reference_of s last; sale = last }

-- the notice of the imbalance of these rows after a last sale: the amount at R, R, and that it is mandatory from 15:45 on
abbrev pub notice_of : State → List Row → Sale → Notice
notice_of s rows last = record { amount = amount_of rows (reference_terms s last); reference = reference_of s last; mandatory = is_late s.time }

-- an amount is an imbalance on this side: a positive one to buy, a negative one to sell
abbrev pub is_on : Side → ℤ → Bool
is_on Buy amount = int_lt (pos 0) amount
is_on Sell amount = int_lt amount (pos 0)

-- a notice is mandatory and for the other side
abbrev pub faces : Side → Notice → Bool
faces side n = n.mandatory && is_on (facing side) n.amount

-- one of the notices is mandatory and for the other side
abbrev pub is_faced : Side → List Notice → Bool
is_faced side notices = list_any (faces side) notices

-- one of the notices is mandatory
abbrev pub has_mandatory : List Notice → Bool
has_mandatory notices = list_any (λ n. n.mandatory) notices

-- a notice may be published: its amount is not 0 and, where it is mandatory, at least 50,000 either way or flagged as significant
abbrev pub is_notable : Notice → Bool → Bool
is_notable n significant = not (unsigned_abs n.amount == 0) && (not n.mandatory || nat_le 50000 (unsigned_abs n.amount) || significant)
