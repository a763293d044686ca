-- What holds of each life that a session had. Assumes nothing.
use Rattle.std.specs.Prelude.{◌≡◌, ◌≢◌, ℕ, ◌≤◌, true, List, map, AllPairs, count_by, Ok, Err, is_ok}
use Rattle.order.specs.declared.kind.Row.{Row}
use Rattle.order.specs.declared.ticket.Ticket.{Ticket}
use Rattle.order.specs.Kinds.{on_close}
use Rattle.clock.specs.Phases.{is_late}
use Rattle.session.specs.declared.call.Call.{Call}
use Rattle.session.specs.declared.call.Call.TheVariants.{Time, Sale, Quote, Entry, Cancel, Reduction, Publication, Close}
use Rattle.session.specs.declared.call.Outcome.TheVariants.{Taken, Published, Printed}
use Rattle.session.specs.declared.notice.Notice.{Notice}
use Rattle.session.specs.Agreement.{Agrees}
use Rattle.session.specs.Lives.{Life, begun, later, ledger_of, time_of, notices_of, was_closed}
use Rattle.session.specs.Notices.{is_faced}
use Rattle.session.specs.Questions.{refused_with}
use Rattle.session.specs.Replies.{Answer}
use Rattle.session.specs.States.{State}
use Rattle.session.specs.Upheld.{UpheldBy, filled_shares}

-- the numbers of orders
abbrev pub numbers : List Ticket → List ℕ
numbers orders = map (λ t. t.number) orders

-- no two orders have the same number
abbrev pub HaveOwnNumbers : List Ticket → Type 0
HaveOwnNumbers orders = AllPairs (λ m n. m ≢ n) (numbers orders)

-- how many notices are mandatory
abbrev pub mandatory_count : List Notice → ℕ
mandatory_count notices = count_by (λ n. n.mandatory) notices

-- an accepted call heeds the notices: an M or L that came in at 15:45 or later had a mandatory notice for the other side standing
abbrev pub Heeds : Life → Call → Type 0
Heeds life (Time t) = Unit {0}
Heeds life (Sale p) = Unit {0}
Heeds life (Quote q) = Unit {0}
Heeds life (Entry t) = on_close t.kind ≡ true → is_late (time_of life) ≡ true → is_faced t.side (notices_of life) ≡ true
Heeds life (Cancel n in_error) = Unit {0}
Heeds life (Reduction n size in_error) = Unit {0}
Heeds life (Publication significant) = Unit {0}
Heeds life (Close p) = Unit {0}

-- each accepted call of a life heeded the notices
abbrev pub AllHeed : Life → Type 0
AllHeed begun = Unit {0}
AllHeed (later life call answer) = AllHeed life × (is_ok answer ≡ true → Heeds life call)

-- each notice of a life was mandatory just where it was published at 15:45 or later
abbrev pub AllMarked : Life → Type 0
AllMarked begun = Unit {0}
AllMarked (later life call (Ok Taken)) = AllMarked life
AllMarked (later life call (Ok (Published n))) = AllMarked life × (n.mandatory ≡ is_late (time_of life))
AllMarked (later life call (Ok (Printed print))) = AllMarked life
AllMarked (later life call (Err fault)) = AllMarked life

-- each call of a life was refused as done (7) just where a close before it was completed
abbrev pub AllEnd : Life → Type 0
AllEnd begun = Unit {0}
AllEnd (later life call answer) = AllEnd life × (refused_with 7 answer ≡ was_closed life)

-- each answer of a life was upheld by the ledger of the calls before it, where the orders have these shares
abbrev pub AllUpheld : Life → List ℕ → Type 0
AllUpheld begun shares = Unit {0}
AllUpheld (later life call answer) shares = AllUpheld life shares × UpheldBy (ledger_of life) call answer shares

-- the law of lives
pub record Lawful (life : Life) : Type 0 where
  -- no two listed orders have the same number
  pub once : HaveOwnNumbers (ledger_of life).orders
  -- no M or L came in from 15:45 without a mandatory notice for the other side standing at that moment
  pub heeded : AllHeed life
  -- a notice was mandatory just where it was published at 15:45 or later
  pub marked : AllMarked life
  -- at most one mandatory notice was ever published
  pub one_mandatory : mandatory_count (notices_of life) ≤ 1
  -- a call was refused as done just where a close before it was completed
  pub ends : AllEnd life

-- a session, the rows and the notices in its lists are those after a life, which is lawful
pub record Lived (life : Life) (s : State) (rows : List Row) (notices : List Notice) : Type 0 where
  -- session and rows agree with the ledger of the life
  pub agrees : Agrees (ledger_of life) s rows
  -- the clock shows the time of the life
  pub same_time : s.time ≡ time_of life
  -- the notice list holds its notices, in order
  pub same_notices : notices ≡ notices_of life
  -- the session is done just where a close was completed
  pub same_end : s.done ≡ was_closed life
  -- each answer was upheld, and the orders have the shares that a completed close gave them
  pub upheld : AllUpheld life (filled_shares rows)
  -- the law of lives holds of it
  pub lawful : Lawful life

-- a call carries a life on: what holds before it holds after it, of the life with the call and its answer
abbrev pub KeepsLife : Call → Answer → State → List Row → List Notice → State → List Row → List Notice → Type 0
KeepsLife call answer s rows notices s' rows' notices' = (life : Life) → Lived life s rows notices → Lived (later life call answer) s' rows' notices'
