-- A session agrees with the ledger of its calls. Assumes nothing.
use Rattle.std.specs.Prelude.{◌≡◌, Bool, List, map}
use Rattle.std.specs.List.{AllPass}
use Rattle.order.specs.declared.kind.Row.{Row}
use Rattle.order.specs.Entered.{ticket_of}
use Rattle.order.specs.Rows.{sound}
use Rattle.session.specs.declared.call.Call.{Call}
use Rattle.session.specs.Ledgers.{Ledger, fed}
use Rattle.session.specs.States.{State}

-- a session and the rows of its list agree with a ledger
pub record Agrees (L : Ledger) (s : State) (rows : List Row) : Type 0 where
  -- the rows are the ledger's orders, filled shares aside, in the same order
  pub same_orders : map ticket_of rows ≡ L.orders
  -- the last sale is the ledger's, with its tick
  pub same_sale : s.sale ≡ L.sale
  -- each row is an order
  pub all_sound : AllPass sound rows

-- a call keeps agreement: every ledger that agrees before it agrees after it, fed the call and whether it was accepted
abbrev pub KeepsLedger : Call → Bool → State → List Row → State → List Row → Type 0
KeepsLedger call accepted s rows s' rows' = (L : Ledger) → Agrees L s rows → Agrees (fed L call accepted) s' rows'
