-- The ledger that an outsider keeps of a session's calls: it reads nothing of the session. Assumes nothing.
use Rattle.std.specs.Prelude.{ℕ, Bool, if◌then◌else◌, List, [], ◌∷◌, ◌++◌, None, Some, Option, ◌==◌}
use Rattle.order.specs.declared.sale.Sale.{Sale as LastSale}
use Rattle.order.specs.declared.ticket.Ticket.{Ticket}
use Rattle.order.specs.Sales.{sale_after}
use Rattle.session.specs.declared.call.Call.{Call}
use Rattle.session.specs.declared.call.Call.TheVariants.{Time, Sale, Quote, Entry, Cancel, Reduction, Publication, Close}

-- the orders as they were entered, in order of arrival, and the last sale with its tick
pub record Ledger : Type 0 where
  pub orders : List Ticket
  pub sale : Option LastSale

-- no order and no sale
abbrev pub empty : Ledger
empty = record { orders = []; sale = None }

-- orders without the first one of a number
abbrev pub without_first : ℕ → List Ticket → List Ticket
without_first n [] = []
without_first n (t ∷ ts) = (if t.number == n then ts else t ∷ without_first n ts)

-- orders of which the first one of a number has another size
abbrev pub with_first_sized : ℕ → ℕ → List Ticket → List Ticket
with_first_sized n size [] = []
with_first_sized n size (t ∷ ts) = (if t.number == n then record t { size = size } ∷ ts else t ∷ with_first_sized n size ts)

-- the ledger after a call that was accepted
abbrev pub noted : Ledger → Call → Ledger
noted L (Time t) = L
noted L (Sale p) = record L { sale = Some (sale_after L.sale p) }
noted L (Quote q) = L
noted L (Entry t) = record L { orders = L.orders ++ t ∷ [] }
noted L (Cancel n in_error) = record L { orders = without_first n L.orders }
noted L (Reduction n size in_error) = record L { orders = with_first_sized n size L.orders }
noted L (Publication significant) = L
noted L (Close p) = L

-- the ledger fed a call, and whether it was accepted
abbrev pub fed : Ledger → Call → Bool → Ledger
fed L call accepted = (if accepted then noted L call else L)
