-- What a tape says of the close, and the ledger of the file's own messages. Assumes nothing.
use Rattle.std.specs.Prelude.{◌≡◌, ℕ, ◌+◌, ◌-◌, ◌<◌, ◌≤◌, ◌⊎◌, Bool, true, false, not, ◌&&◌, ◌||◌, if◌then◌else◌, ◌==◌, List, [], ◌∷◌, None, Some, Option, Ok, Err, Result, filter, is_some, is_ok}
use Rattle.std.specs.List.{list_any}
use Rattle.order.specs.declared.ticket.Ticket.{Ticket}
use Rattle.book.specs.Theorem.{NoAssignment, Filled}
use Rattle.session.specs.declared.call.Call.TheVariants.{Time, Sale, Quote, Entry, Cancel, Reduction, Publication, Close}
use Rattle.session.specs.Ledgers.{Ledger, empty, fed}
use Rattle.session.specs.Upheld.{HoldsAt}
use Rattle.message.specs.declared.fault.FileFault.{FileFault}
use Rattle.message.specs.Calls.{decoded}
use Rattle.message.specs.Faults.{file_question}
use Rattle.line.specs.declared.Line.{Line}
use Rattle.line.specs.declared.Line.TheVariants.{Lot, Notice, Print, Fill, Refusal}
use Rattle.tape.specs.Files.{body_of, messages_of, is_message}
use Rattle.tape.specs.Messages.{Reading}

-- a line names message n as refused
abbrev pub refuses : ℕ → Line → Bool
refuses n (Lot lot) = false
refuses n (Notice message amount reference) = false
refuses n (Print price volume) = false
refuses n (Fill number side filled unfilled) = false
refuses n (Refusal message fault) = message == n

-- and gives the question q as the ground
abbrev pub refuses_with : ℕ → ℕ → Line → Bool
refuses_with n q (Lot lot) = false
refuses_with n q (Notice message amount reference) = false
refuses_with n q (Print price volume) = false
refuses_with n q (Fill number side filled unfilled) = false
refuses_with n q (Refusal message fault) = message == n && file_question fault == q

-- a line tells of a close
abbrev pub is_of_close : Line → Bool
is_of_close (Lot lot) = false
is_of_close (Notice message amount reference) = false
is_of_close (Print price volume) = true
is_of_close (Fill number side filled unfilled) = true
is_of_close (Refusal message fault) = false

-- a message is accepted exactly when no R line names it
abbrev pub accepted_on : List Line → ℕ → Bool
accepted_on tape n = not (list_any (refuses n) tape)

-- some R line names it with this question
abbrev pub refused_on : List Line → ℕ → ℕ → Bool
refused_on tape n q = list_any (refuses_with n q) tape

-- the price of a close, or none
abbrev pub close_price : Reading → Option ℕ
close_price (Ok (Time t)) = None
close_price (Ok (Sale p)) = None
close_price (Ok (Quote q)) = None
close_price (Ok (Entry t)) = None
close_price (Ok (Cancel n in_error)) = None
close_price (Ok (Reduction n size in_error)) = None
close_price (Ok (Publication significant)) = None
close_price (Ok (Close p)) = Some p
close_price (Err fault) = None

-- a message that reads so is a close
abbrev pub is_close : Reading → Bool
is_close reading = is_some (close_price reading)

-- the ledger after a message that reads so
abbrev pub noted_message : Ledger → Reading → Bool → Ledger
noted_message L (Ok call) accepted = fed L call accepted
noted_message L (Err fault) accepted = L

-- the F lines of orders that have these shares
abbrev pub fill_lines : List Ticket → List ℕ → List Line
fill_lines [] shares = []
fill_lines (t ∷ ts) [] = []
fill_lines (t ∷ ts) (s ∷ shares) = Fill t.number t.side s (t.size - s) ∷ fill_lines ts shares

-- the messages that a run handles: those before the first that is cut, or past the last that a file may have
abbrev pub handled : ℕ → List (List ℕ) → List (List ℕ)
handled n [] = []
handled n (m ∷ ms) = (if is_message n m then m ∷ handled (n + 1) ms else [])

-- those of a file: of its body, or none where its header is refused
abbrev pub handled_after_header : Result (List ℕ) FileFault → List (List ℕ)
handled_after_header (Ok body) = handled 1 (messages_of body)
handled_after_header (Err fault) = []

abbrev pub messages_in : List ℕ → List (List ℕ)
messages_in file = handled_after_header (body_of file)

-- on a tape
module _ (tape : List Line) where
  -- the P and F lines are those of a close at the price p: its orders are those of a ledger, and their shares fill them
  pub record Closed (L : Ledger) (p : ℕ) : Type 0 where
    pub volume : ℕ
    pub shares : List ℕ
    pub says : filter is_of_close tape ≡ Print p volume ∷ fill_lines L.orders shares
    pub filled : HoldsAt L p (λ orders. Filled orders shares volume)

  -- what the tape says of message n, which reads so, is upheld by the ledger of the messages before it, of which one was an accepted close or not
  pub record UpheldMessage (L : Ledger) (closed : Bool) (n : ℕ) (reading : Reading) : Type 0 where
    -- bytes that are no call are refused
    pub unread : is_ok reading ≡ false → accepted_on tape n ≡ false
    -- a price is called unfillable (21) on one ground only: the message is a close, and no assignment of the ledger's orders exists there
    pub unfillable : refused_on tape n 21 ≡ true → (p : ℕ) × (close_price reading ≡ Some p) × HoldsAt L p NoAssignment
    -- no message is refused because claims and gifts differ in length (22)
    pub equal : refused_on tape n 22 ≡ false
    -- a sale is said to be missing (16) only where the ledger has none
    pub no_sale : refused_on tape n 16 ≡ true → L.sale ≡ None
    -- an accepted close has the P line and the F lines of the tape
    pub printed : (p : ℕ) → close_price reading ≡ Some p → accepted_on tape n ≡ true → Closed L p
    -- a message is refused as done (7) only after an accepted close, and then every call is
    pub ends : refused_on tape n 7 ≡ (is_ok reading && closed)

  -- where no close was accepted, no P and no F line stands
  abbrev pub Silent : Bool → Type 0
  Silent closed = closed ≡ false → filter is_of_close tape ≡ []

  -- no R line gives the header, or message n or a later one, a question that is not the file's own (1 to 3)
  abbrev pub AsksNoOther : ℕ → Type 0
  AsksNoOther n = (k q : ℕ) → (k ≡ 0) ⊎ (n ≤ k) → 3 < q → refused_on tape k q ≡ false

  -- each message from message n on is upheld; after the last, the tape is silent of a close unless one was accepted, and gives neither the header
  -- nor a later number a question past 3
  abbrev pub EachUpheld : Ledger → Bool → ℕ → List (List ℕ) → Type 0
  EachUpheld L closed n [] = Silent closed × AsksNoOther n
  EachUpheld L closed n (m ∷ ms) =
      UpheldMessage L closed n (decoded m)
      × EachUpheld (noted_message L (decoded m) (accepted_on tape n)) (closed || (is_close (decoded m) && accepted_on tape n)) (n + 1) ms

-- what a tape says of the close is upheld by the ledger of the file's own messages
abbrev pub UpheldTape : List (List ℕ) → List Line → Type 0
UpheldTape messages tape = EachUpheld tape empty false 1 messages
