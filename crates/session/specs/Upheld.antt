-- What the answer to a call says of the ledger of the calls before it. Assumes nothing.
use Rattle.std.specs.Prelude.{◌≡◌, ℕ, true, false, List, map, None, Ok, is_ok, IsSomeAnd}
use Rattle.order.specs.declared.kind.Row.{Row}
use Rattle.order.specs.declared.sale.Sale.{Sale}
use Rattle.order.specs.Entered.{entered_row}
use Rattle.book.specs.declared.entry.Entry.{Entry}
use Rattle.book.specs.Entries.{entries}
use Rattle.book.specs.Theorem.{NoAssignment, Filled}
use Rattle.session.specs.declared.call.Call.{Call}
use Rattle.session.specs.declared.call.Call.TheVariants.{Close}
use Rattle.session.specs.declared.call.Outcome.TheVariants.{Printed}
use Rattle.session.specs.declared.call.Print.{Print}
use Rattle.session.specs.Answers.{at_price}
use Rattle.session.specs.Ledgers.{Ledger}
use Rattle.session.specs.Questions.{refused_with}
use Rattle.session.specs.Replies.{Answer, is_print}

-- the orders of a ledger at a price, after a last sale: each with its side, its class there and its size
abbrev pub ledger_orders : Ledger → ℕ → Sale → List Entry
ledger_orders L p last = entries (at_price p last) (map entered_row L.orders)

-- the ledger has a sale, and of its orders at the price this holds
abbrev pub HoldsAt : Ledger → ℕ → (List Entry → Type 0) → Type 0
HoldsAt L p Says = IsSomeAnd L.sale (λ last. Says (ledger_orders L p last))

-- the filled shares of rows
abbrev pub filled_shares : List Row → List ℕ
filled_shares rows = map (λ r. r.filled) rows

-- the answer to a call is upheld by the ledger of the calls before it, where the orders then have these shares
pub record UpheldBy (L : Ledger) (call : Call) (answer : Answer) (shares : List ℕ) : Type 0 where
  -- a price is called unfillable on one ground only: it is that of a close, and no assignment of the ledger's orders exists there
  pub unfillable : refused_with 21 answer ≡ true → (p : ℕ) × (call ≡ Close p) × HoldsAt L p NoAssignment
  -- no call is refused because claims and gifts differ in length
  pub equal : refused_with 22 answer ≡ false
  -- a sale is said to be missing only where the ledger has none
  pub no_sale : refused_with 16 answer ≡ true → L.sale ≡ None
  -- a print is that of a close at its price, and the shares fill the ledger's orders with its volume: bought, sold and printed are one number;
  -- the shares are an assignment, and no other trades more; nobody gets shares while an eligible order of an earlier class on its side
  -- lacks some
  pub printed : (print : Print) → answer ≡ Ok (Printed print) → (call ≡ Close print.price) × HoldsAt L print.price (λ orders. Filled orders shares print.volume)
  -- an accepted close is answered with a print
  pub completed : (p : ℕ) → call ≡ Close p → is_ok answer ≡ true → is_print answer ≡ true
