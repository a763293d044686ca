-- Worked examples of the rule, and what it is for one to hold. Assumes nothing.
use Rattle.std.specs.Prelude.{◌≡◌, ℕ, ◌≤◌, Bool, false, List, [], ◌∷◌, map, length, replicate, ℤ, Option, Result}
use Rattle.list.specs.declared.List.{List as Held}
use Rattle.list.specs.Held.{kept}
use Rattle.order.specs.declared.class.Class.{Class}
use Rattle.order.specs.declared.kind.Row.{Row}
use Rattle.order.specs.declared.limit.Standing.{Standing}
use Rattle.order.specs.declared.limit.Standing.TheVariants.{Out}
use Rattle.order.specs.declared.sale.Tick.{Tick}
use Rattle.order.specs.declared.sale.Sale.{Sale}
use Rattle.order.specs.declared.sale.Quote.{Quote}
use Rattle.order.specs.declared.terms.Terms.{Terms}
use Rattle.order.specs.declared.ticket.Ticket.{Ticket}
use Rattle.order.specs.Classes.{class_of}
use Rattle.order.specs.Limits.{standing_of}
use Rattle.order.specs.Sales.{reference, tick_after}
use Rattle.sharing.specs.Arrival.{arrival}
use Rattle.sharing.specs.Turns.{turns}
use Rattle.book.specs.declared.entry.Entry.{Entry}
use Rattle.book.specs.Answers.{gifts_of}
use Rattle.book.specs.Entries.{entries}
use Rattle.book.specs.Fill.{fills_of}
use Rattle.book.specs.Imbalance.{amount_of}
use Rattle.book.specs.Theorem.{NoAssignment, Largest, Filled}
use Rattle.clock.specs.declared.table.Allowance.{Allowance}
use Rattle.clock.specs.declared.table.Event.{Event}
use Rattle.clock.specs.Phases.{phase_at}
use Rattle.clock.specs.Table.{allowed_in}
use Rattle.session.specs.declared.call.Call.{Call}
use Rattle.session.specs.declared.call.Print.{Print}
use Rattle.session.specs.declared.fault.SessionFault.{SessionFault}
use Rattle.session.specs.declared.notice.Notice.{Notice}
use Rattle.session.specs.Answers.{entry_answer, publication_answer, close_answer}
use Rattle.session.specs.Moments.{Moment}
use Rattle.session.specs.Replies.{Reply, Answer}
use Rattle.session.specs.States.{State}
use Rattle.session.specs.Upheld.{filled_shares}
use Rattle.life.specs.Stages.{Stage, after_all, moments_along, answers_to}
use Rattle.life.specs.Whole.{WholeLife}
use Rattle.message.specs.Calls.{decoded}
use Rattle.line.specs.declared.Line.{Line}
use Rattle.line.specs.Texts.{line_text}
use Rattle.tape.specs.Messages.{Reading}
use Rattle.player.specs.Played.{program_places}
use Rattle.tape.specs.Places.{Places, blank_lists, opening}
use Rattle.tape.specs.Tapes.{lines_of_file, tape_of}
use Rattle.tape.specs.Upheld.{messages_in, UpheldTape}

-- a worked example: one sentence of the rule, with numbers
pub data Example : Type 0 where
  -- a last sale and a quote have a reference price
  has_reference : ℕ → Quote → ℕ → Example
  -- a sale at a price, after the last one or as the first, has a tick
  has_tick : Option Sale → ℕ → Tick → Example
  -- a row stands so on these terms
  has_standing : Row → Terms → Standing → Example
  -- it is out at every price after the last sale
  is_always_out : Row → Sale → Example
  -- it has a class on these terms, or none
  has_class : Row → Terms → Option Class → Example
  -- rows trade a volume on these terms
  trade : List Row → Terms → ℕ → Example
  -- they are unfillable
  are_unfillable : List Row → Terms → Example
  -- shared by arrival, each of them gets so many shares, and together they trade a volume
  are_filled : List Row → Terms → List ℕ → ℕ → Example
  -- they have an imbalance on terms whose price is the reference price
  have_imbalance : List Row → Terms → ℤ → Example
  -- at a time the clock says so to an event
  has_allowance : ℕ → Event → Allowance → Example
  -- a session with these rows and notices, and a place left for an order, answers an order that comes in so
  has_entry : State → List Row → List Notice → Ticket → Reply → Example
  -- a session with these rows and notices, and a place left for a notice, answers a publication so, flagged as significant or not
  has_publication : State → List Row → List Notice → Bool → Result Notice SessionFault → Example
  -- a session with these rows, and two work lists of so many places, answers a close at a price so
  has_close : State → List Row → ℕ → ℕ → Result Print SessionFault → Example
  -- a session that opens on lists and work lists of six places and shares its close by arrival answers each of these calls so, and its
  -- orders then have these filled shares
  lives_by_arrival : List (Call × Answer) → List ℕ → Example
  -- one that shares its close by turns does so
  lives_by_turns : List (Call × Answer) → List ℕ → Example
  -- sixteen bytes read as this call, or are refused so
  reads : List ℕ → Reading → Example
  -- a line has these bytes, and no more than 64
  has_text : Line → List ℕ → Example
  -- the bytes of a file have this tape, on a session that opens on lists and work lists of six places and shares its close by arrival
  has_tape_by_arrival : List ℕ → List ℕ → Example
  -- they have it where the close is shared by turns
  has_tape_by_turns : List ℕ → List ℕ → Example
  -- the bytes of a file have this tape on the places of the program `arrival`, 1,024 for orders and 64 for notices
  plays_by_arrival : List ℕ → List ℕ → Example
  -- they have it on those of the program `turns`
  plays_by_turns : List ℕ → List ℕ → Example
  -- an amount is shared so among claims by arrival
  shared_by_arrival : ℕ → List ℕ → List ℕ → Example
  -- it is shared so among them by turns
  shared_by_turns : ℕ → List ℕ → List ℕ → Example

-- what each order gets, shared by arrival
abbrev pub fills_by_arrival : List Entry → List ℕ
fills_by_arrival es = fills_of es (gifts_of arrival es)

-- a list that holds these elements and has no place left; where its memory lies does not matter
abbrev pub holding_all : {T : Type 0} → List T → Held T
holding_all xs = record { places = record { ref_ptr = (0, 0); ghost_name = 0; now = xs }; count = length xs }

-- a work list of so many places
abbrev pub work_list : ℕ → List ℕ
work_list n = replicate n 0

-- six places in each list and work list
abbrev pub six_places : Places
six_places = record { orders = 6; notices = 6; claims = 6; gifts = 6 }

-- a session has just opened on them
abbrev pub on_six_places : Stage
on_six_places = opening (blank_lists six_places)

-- the calls of such a session, without their answers
abbrev pub calls_of : List (Call × Answer) → List Call
calls_of life = map (λ each. each.0) life

-- the answers, without the calls
abbrev pub answers_of : List (Call × Answer) → List Answer
answers_of life = map (λ each. each.1) life

-- what stands after the calls, where a close is shared by a method of this meaning
abbrev pub end_of : (ℕ → List ℕ → List ℕ) → List (Call × Answer) → Moment
end_of meaning life = (after_all meaning on_six_places (calls_of life)).moment

-- what stands after the first k of these calls
abbrev pub moments_in : (ℕ → List ℕ → List ℕ) → List (Call × Answer) → ℕ → Moment
moments_in meaning life = moments_along meaning on_six_places (calls_of life)

-- a session lives so, where a close is shared by a method of this meaning
pub record Lives (meaning : ℕ → List ℕ → List ℕ) (life : List (Call × Answer)) (shares : List ℕ) : Type 0 where
  -- each call is answered so
  pub answered : answers_to meaning on_six_places (calls_of life) ≡ answers_of life
  -- the orders then have these filled shares
  pub filled : filled_shares (kept (end_of meaning life).orders) ≡ shares
  -- the calls with these answers are a whole life
  pub whole : WholeLife (calls_of life) (answers_of life) (moments_in meaning life) (end_of meaning life).state (kept (end_of meaning life).orders) (kept (end_of meaning life).notices)

-- the bytes of a file have this tape on a session that opens on so many places, where a close is shared by a method of this lot and this meaning
pub record HasTape (places : Places) (lot : ℕ) (meaning : ℕ → List ℕ → List ℕ) (file tape : List ℕ) : Type 0 where
  -- the bytes of its tape are these
  pub same : tape_of lot meaning places file ≡ tape
  -- what it says of the close is upheld by the ledger of the file's own messages
  pub upheld : UpheldTape (messages_in file) (lines_of_file lot meaning places file)

-- an example holds: what it says is so by the definitions of the rule
abbrev pub Holds : Example → Type 0
Holds (has_reference last quote p) = reference last quote ≡ p
Holds (has_tick last p tick) = tick_after last p ≡ tick
Holds (has_standing row terms standing) = standing_of row terms ≡ standing
Holds (is_always_out row last) = (p : ℕ) → 1 ≤ p → standing_of row (record { price = p; sale = last }) ≡ Out
Holds (has_class row terms class) = class_of row terms ≡ class
Holds (trade rows terms v) = Largest (entries terms rows) v
Holds (are_unfillable rows terms) = NoAssignment (entries terms rows)
Holds (are_filled rows terms fills v) = (fills_by_arrival (entries terms rows) ≡ fills) × Filled (entries terms rows) fills v
Holds (have_imbalance rows terms n) = amount_of rows terms ≡ n
Holds (has_allowance time event allowance) = allowed_in (phase_at time) event ≡ allowance
Holds (has_entry s rows notices ticket reply) = entry_answer s rows false notices ticket ≡ reply
Holds (has_publication s rows notices significant answer) = publication_answer s rows notices false significant ≡ answer
Holds (has_close s rows places p answer) = close_answer s (holding_all rows) (work_list places) (work_list places) p ≡ answer
Holds (lives_by_arrival life shares) = Lives arrival life shares
Holds (lives_by_turns life shares) = Lives turns life shares
Holds (reads bytes reading) = decoded bytes ≡ reading
Holds (has_text line bytes) = (line_text line ≡ bytes) × (length bytes ≤ 64)
Holds (has_tape_by_arrival file tape) = HasTape six_places 1 arrival file tape
Holds (has_tape_by_turns file tape) = HasTape six_places 100 turns file tape
Holds (plays_by_arrival file tape) = HasTape program_places 1 arrival file tape
Holds (plays_by_turns file tape) = HasTape program_places 100 turns file tape
Holds (shared_by_arrival amount claims gifts) = arrival amount claims ≡ gifts
Holds (shared_by_turns amount claims gifts) = turns amount claims ≡ gifts

-- each example of a table holds
abbrev pub AllHold : List Example → Type 0
AllHold [] = Unit {0}
AllHold (e ∷ es) = Holds e × AllHold es
