-- The table of worked examples. Assumes nothing.
use Rattle.std.specs.Prelude.{ℕ, Bool, true, false, List, [], ◌∷◌, ◌++◌, replicate, ℤ, pos, neg_ℤ, Some, None, Ok, Err, codes}
use Rattle.order.specs.declared.class.Class.TheVariants.{MustExecute, BookAt, LimitAt, MarkedMarketAt, MarkedLimitAt, YieldingIn, OffsetIn}
use Rattle.order.specs.declared.kind.Kind.{Kind}
use Rattle.order.specs.declared.kind.Kind.TheVariants.{MarketOnClose, Crowd, LimitOnClose, Book, MarketMaker, ClosingOffset, Yielding, Stop}
use Rattle.order.specs.declared.kind.Row.{Row}
use Rattle.order.specs.declared.kind.Side.{Side}
use Rattle.order.specs.declared.kind.Side.TheVariants.{Buy, Sell}
use Rattle.order.specs.declared.limit.Standing.TheVariants.{At, Out}
use Rattle.order.specs.declared.sale.Tick.TheVariants.{Plus, Minus}
use Rattle.order.specs.declared.sale.Sale.{Sale}
use Rattle.order.specs.declared.sale.Quote.{Quote}
use Rattle.order.specs.declared.terms.Terms.{Terms}
use Rattle.order.specs.Entered.{unfilled_row, ticket_of}
use Rattle.order.specs.Kinds.{facing}
use Rattle.clock.specs.declared.table.Allowance.TheVariants.{Yes, AgainstNotice, No}
use Rattle.clock.specs.declared.table.Event.TheVariants as event
use Rattle.session.specs.declared.call.Call.{Call}
use Rattle.session.specs.declared.call.Call.TheVariants as call
use Rattle.session.specs.declared.call.Outcome.TheVariants.{Taken, Published, Printed}
use Rattle.session.specs.declared.call.Print.{Print}
use Rattle.session.specs.declared.fault.SessionFault.TheVariants.{Done, OutOfLimits, Unlisted, NotNow, NoNotice, AlreadyListed, NoSale, AlreadyMandatory, Insignificant, NoPlace, Unfillable}
use Rattle.session.specs.declared.notice.Notice.{Notice}
use Rattle.session.specs.Answers.{at_price}
use Rattle.session.specs.Replies.{Answer, accepted}
use Rattle.session.specs.States.{State, opened}
use Rattle.message.specs.declared.fault.FileFault.TheVariants.{NoMark, NoMessage}
use Rattle.message.specs.declared.fault.FileFault.TheVariants as file
use Rattle.message.specs.declared.fault.MessageFault.TheVariants.{UnknownVerb, Illegal, NotZero}
use Rattle.message.specs.declared.fault.MessageFault.TheVariants as message_fault
use Rattle.line.specs.declared.Line.TheVariants.{Lot, Fill, Refusal}
use Rattle.line.specs.declared.Line.TheVariants as line
use Rattle.examples.specs.Examples.{Example, has_reference, has_tick, has_standing, is_always_out, has_class, trade, are_unfillable, are_filled, have_imbalance, has_allowance, has_entry, has_publication, has_close, lives_by_arrival, lives_by_turns, reads, has_text, has_tape_by_arrival, has_tape_by_turns, plays_by_arrival, plays_by_turns, shared_by_arrival, shared_by_turns}
use Rattle.examples.specs.Files.{message, unused, sale, sample_file, cut_file, changed_file, noticed_file, slight_file, quoted_file, lone_file, done_file, refused_file, full_file, short_file, unclosed_file}

-- the row of an order of a kind, side, price and size, without a mark
abbrev unmarked : Kind → Side → ℕ → ℕ → Row
unmarked kind side p n = unfilled_row 1 kind side false p n

-- the same with a mark: Sell Plus on a sell, Buy Minus on a buy
abbrev marked : Kind → Side → ℕ → ℕ → Row
marked kind side p n = unfilled_row 1 kind side true p n

-- a last sale at a price, on a plus tick
abbrev plus_at : ℕ → Sale
plus_at p = record { price = p; tick = Plus }

-- a last sale at a price, on a minus tick
abbrev minus_at : ℕ → Sale
minus_at p = record { price = p; tick = Minus }

-- the price 1500 after a last sale at 1500, on a plus tick
abbrev at_1500 : Terms
at_1500 = at_price 1500 (plus_at 1500)

-- a quote with a bid and an offer
abbrev quote : ℕ → ℕ → Quote
quote bid offer = record { bid = bid; offer = offer }

-- after a sale at 2000 on a plus tick, a market on close to buy faces three sells: a marked market on close that is better both at 2001
-- and at 2002, and a limit on close and a closing offset order that are out at 2001 and, at 2002, at the price
abbrev offset_book : List Row
offset_book = unmarked MarketOnClose Buy 0 1000 ∷ marked MarketOnClose Sell 0 300 ∷ unmarked LimitOnClose Sell 2002 500 ∷ unmarked ClosingOffset Sell 2002 400 ∷ []

-- a market on close of one side faces two marked orders, a market on close and a limit on close with this limit
abbrev against_marked : Side → ℕ → List Row
against_marked side limit = unmarked MarketOnClose side 0 60000 ∷ marked MarketOnClose (facing side) 0 5000 ∷ marked LimitOnClose (facing side) limit 5000 ∷ []

-- a market on close to buy faces a market on close to sell and, at 1500, a limit on close to sell of this size
abbrev imbalance_book : ℕ → List Row
imbalance_book n = unmarked MarketOnClose Buy 0 60099 ∷ unmarked MarketOnClose Sell 0 5000 ∷ unmarked LimitOnClose Sell 1500 n ∷ []

-- a session at a time, after a last sale at 1500 on a plus tick and without a quote
abbrev session_at : ℕ → State
session_at time = record opened { time = time; sale = Some (plus_at 1500) }

-- a notice of an amount at the reference price 1500, mandatory or not
abbrev notice : ℤ → Bool → Notice
notice amount mandatory = record { amount = amount; reference = 1500; mandatory = mandatory }

-- a notice of 50,000 shares to buy, mandatory or not
abbrev notice_to_buy : Bool → Notice
notice_to_buy mandatory = notice (pos 50000) mandatory

-- a market on close to buy faces three sells, as large together: a market on close, a limit order on the book at 3025 and crowd interest
abbrev book_at_3025 : List Row
book_at_3025 = unmarked MarketOnClose Buy 0 6000000 ∷ unmarked MarketOnClose Sell 0 5000000 ∷ unmarked Book Sell 3025 700000 ∷ unmarked Crowd Sell 0 300000 ∷ []

-- a market on close to buy alone, which no price fills
abbrev lone_buy : List Row
lone_buy = unmarked MarketOnClose Buy 0 100 ∷ []

-- a print of a volume at a price
abbrev print : ℕ → ℕ → Print
print p v = record { price = p; volume = v }

-- the order of a row comes in under a number
abbrev entry : ℕ → Row → Call
entry number row = call.Entry (record (ticket_of row) { number = number })

-- a call is accepted, with nothing more to say
abbrev taken : Answer
taken = Ok Taken

-- a close is completed with a print of a volume at a price
abbrev printed : ℕ → ℕ → Answer
printed p v = Ok (Printed (print p v))

-- a life that closes at its second price: after sales at 1999 and 2000 the orders of the offset book come in, a cancel of a number that is not
-- listed is refused, and at 16:00 the session is closed at 2001, which is unfillable, and at 2002
abbrev sample_life : List (Call × Answer)
sample_life =
    (call.Sale 1999, taken)
    ∷ (call.Sale 2000, taken)
    ∷ (entry 1 (unmarked MarketOnClose Buy 0 1000), taken)
    ∷ (entry 2 (marked MarketOnClose Sell 0 300), taken)
    ∷ (entry 3 (unmarked LimitOnClose Sell 2002 500), taken)
    ∷ (entry 4 (unmarked ClosingOffset Sell 2002 400), taken)
    ∷ (call.Cancel 9 false, Err Unlisted)
    ∷ (call.Time 57600, taken)
    ∷ (call.Close 2001, Err Unfillable)
    ∷ (call.Close 2002, printed 2002 1000)
    ∷ []

-- a market on close to buy is alone at 16:00
abbrev lone_life : List (Call × Answer)
lone_life =
    (call.Sale 1500, taken)
    ∷ (entry 1 (unmarked MarketOnClose Buy 0 100), taken)
    ∷ (call.Time 57600, taken)
    ∷ (call.Close 1500, Err Unfillable)
    ∷ []

-- calls after a completed close are refused as done
abbrev done_life : List (Call × Answer)
done_life =
    (call.Sale 1500, taken)
    ∷ (entry 1 (unmarked MarketOnClose Buy 0 100), taken)
    ∷ (entry 2 (unmarked MarketOnClose Sell 0 100), taken)
    ∷ (call.Time 57600, taken)
    ∷ (call.Close 1500, printed 1500 100)
    ∷ (call.Close 1500, Err Done)
    ∷ (call.Time 57601, Err Done)
    ∷ []

-- from 15:45 on a mandatory notice to buy lets a limit on close to sell in and a market on close to buy not, and an order goes off with the
-- error flag only
abbrev noticed_life : List (Call × Answer)
noticed_life =
    (call.Sale 1500, taken)
    ∷ (entry 1 (unmarked MarketOnClose Buy 0 60000), taken)
    ∷ (entry 2 (unmarked MarketOnClose Buy 0 1000), taken)
    ∷ (call.Time 56700, taken)
    ∷ (entry 3 (unmarked LimitOnClose Sell 1500 60000), Err NoNotice)
    ∷ (call.Publication false, Ok (Published (notice (pos 61000) true)))
    ∷ (entry 3 (unmarked LimitOnClose Sell 1500 60000), taken)
    ∷ (entry 4 (unmarked MarketOnClose Buy 0 500), Err NoNotice)
    ∷ (call.Cancel 2 false, Err NotNow)
    ∷ (call.Cancel 2 true, taken)
    ∷ (call.Time 57600, taken)
    ∷ (call.Close 1500, printed 1500 60000)
    ∷ []

-- of three orders on the book one is cancelled and one reduced before the close
abbrev changed_life : List (Call × Answer)
changed_life =
    (call.Sale 1500, taken)
    ∷ (entry 1 (unmarked MarketOnClose Buy 0 500), taken)
    ∷ (entry 2 (unmarked Book Sell 1500 300), taken)
    ∷ (entry 3 (unmarked Book Sell 1500 400), taken)
    ∷ (entry 4 (unmarked Book Sell 1500 200), taken)
    ∷ (call.Cancel 2 false, taken)
    ∷ (call.Reduction 3 350 false, taken)
    ∷ (call.Time 57600, taken)
    ∷ (call.Close 1500, printed 1500 500)
    ∷ []

-- a market on close to buy leaves 250 for three orders on the book, which have 300, 50 and 200
abbrev cut_life : List (Call × Answer)
cut_life =
    (call.Sale 1500, taken)
    ∷ (entry 1 (unmarked MarketOnClose Buy 0 250), taken)
    ∷ (entry 2 (unmarked Book Sell 1500 300), taken)
    ∷ (entry 3 (unmarked Book Sell 1500 50), taken)
    ∷ (entry 4 (unmarked Book Sell 1500 200), taken)
    ∷ (call.Time 57600, taken)
    ∷ (call.Close 1500, printed 1500 250)
    ∷ []

-- the worked examples
abbrev pub table : List Example
table =
    -- reference prices
    has_reference 1500 (quote 1502 1520) 1502
    ∷ has_reference 1500 (quote 1491 1499) 1499
    ∷ has_reference 1500 (quote 1498 1502) 1500
    -- ticks: an equal sale keeps the tick, and a first sale is a plus tick
    ∷ has_tick (Some (minus_at 2000)) 2000 Minus
    ∷ has_tick None 2000 Plus
    -- marked orders, held to the tick bound
    ∷ has_standing (marked LimitOnClose Sell 1009 100) (at_price 1010 (plus_at 1011)) Out
    ∷ has_standing (marked LimitOnClose Buy 1011 100) (at_price 1010 (minus_at 1009)) Out
    ∷ is_always_out (marked MarketOnClose Buy 0 100) (plus_at 1)
    ∷ has_standing (marked MarketOnClose Sell 0 100) (at_price 4601 (minus_at 4600)) At
    ∷ has_class (marked MarketOnClose Sell 0 100) (at_price 4601 (minus_at 4600)) (Some MarkedMarketAt)
    ∷ has_class (marked MarketOnClose Sell 0 100) (at_price 1501 (plus_at 1500)) (Some MustExecute)
    ∷ has_class (marked LimitOnClose Sell 1500 100) (at_price 1501 (plus_at 1500)) (Some MustExecute)
    ∷ has_class (marked LimitOnClose Sell 1500 100) at_1500 (Some MarkedLimitAt)
    ∷ has_class (marked MarketOnClose Buy 0 100) (at_price 1499 (plus_at 1500)) (Some MarkedMarketAt)
    ∷ has_class (marked LimitOnClose Buy 1501 100) (at_price 1500 (minus_at 1500)) (Some MarkedLimitAt)
    -- classes of unmarked buys, by kind; that of a closing offset order is open to the lighter side only
    ∷ has_class (unmarked MarketOnClose Buy 0 100) at_1500 (Some MustExecute)
    ∷ has_class (unmarked Crowd Buy 0 100) at_1500 (Some MustExecute)
    ∷ has_class (unmarked LimitOnClose Buy 1501 100) at_1500 (Some MustExecute)
    ∷ has_class (unmarked LimitOnClose Buy 1500 100) at_1500 (Some LimitAt)
    ∷ has_class (unmarked LimitOnClose Buy 1499 100) at_1500 None
    ∷ has_class (unmarked Book Buy 1501 100) at_1500 (Some MustExecute)
    ∷ has_class (unmarked Book Buy 1500 100) at_1500 (Some BookAt)
    ∷ has_class (unmarked Book Buy 1499 100) at_1500 None
    ∷ has_class (unmarked MarketMaker Buy 1501 100) at_1500 (Some BookAt)
    ∷ has_class (unmarked MarketMaker Buy 1500 100) at_1500 (Some BookAt)
    ∷ has_class (unmarked MarketMaker Buy 1499 100) at_1500 None
    ∷ has_class (unmarked Yielding Buy 0 100) at_1500 (Some YieldingIn)
    ∷ has_class (unmarked Yielding Buy 1501 100) at_1500 (Some YieldingIn)
    ∷ has_class (unmarked Yielding Buy 1500 100) at_1500 (Some YieldingIn)
    ∷ has_class (unmarked Yielding Buy 1499 100) at_1500 None
    ∷ has_class (unmarked ClosingOffset Buy 1501 100) at_1500 (Some OffsetIn)
    ∷ has_class (unmarked ClosingOffset Buy 1500 100) at_1500 (Some OffsetIn)
    ∷ has_class (unmarked ClosingOffset Buy 1499 100) at_1500 None
    ∷ has_class (unmarked Stop Buy 1500 100) at_1500 (Some MustExecute)
    ∷ has_class (unmarked Stop Buy 1501 100) at_1500 None
    -- classes of sells, the mirror image
    ∷ has_class (unmarked LimitOnClose Sell 1499 100) at_1500 (Some MustExecute)
    ∷ has_class (unmarked LimitOnClose Sell 1501 100) at_1500 None
    ∷ has_class (unmarked ClosingOffset Sell 1499 100) at_1500 (Some OffsetIn)
    ∷ has_class (unmarked ClosingOffset Sell 1501 100) at_1500 None
    ∷ has_class (unmarked Stop Sell 1500 100) at_1500 (Some MustExecute)
    ∷ has_class (unmarked Stop Sell 1499 100) at_1500 None
    -- volumes, and an unfillable price
    ∷ trade [] at_1500 0
    ∷ trade book_at_3025 (at_price 3025 (plus_at 3025)) 6000000
    ∷ are_unfillable lone_buy at_1500
    -- closing offset orders: after a limit on close, in order of arrival, with equal sides, on the heavier side, and filled whole
    ∷ are_unfillable offset_book (at_price 2001 (plus_at 2000))
    ∷ trade offset_book (at_price 2002 (plus_at 2000)) 1000
    ∷ are_filled offset_book (at_price 2002 (plus_at 2000)) (1000 ∷ 300 ∷ 500 ∷ 200 ∷ []) 1000
    ∷ are_filled (unmarked MarketOnClose Buy 0 50000 ∷ unmarked ClosingOffset Sell 1500 50000 ∷ unmarked ClosingOffset Sell 1500 50000 ∷ []) at_1500 (50000 ∷ 50000 ∷ 0 ∷ []) 50000
    ∷ are_filled (unmarked MarketOnClose Buy 0 100 ∷ unmarked MarketOnClose Sell 0 100 ∷ unmarked ClosingOffset Buy 1500 100 ∷ []) at_1500 (100 ∷ 100 ∷ 0 ∷ []) 100
    ∷ are_filled (unmarked MarketOnClose Buy 0 100 ∷ unmarked Book Sell 1500 200 ∷ unmarked ClosingOffset Sell 1500 100 ∷ []) at_1500 (100 ∷ 100 ∷ 0 ∷ []) 100
    ∷ are_filled (unmarked MarketOnClose Sell 0 300 ∷ unmarked MarketOnClose Buy 0 100 ∷ unmarked ClosingOffset Buy 1500 200 ∷ []) at_1500 (300 ∷ 100 ∷ 200 ∷ []) 300
    -- imbalances: counted in hundreds, and against marked orders, which offset only where they are eligible
    ∷ have_imbalance (imbalance_book 4950) at_1500 (pos 50100)
    ∷ have_imbalance (imbalance_book 5100) at_1500 (pos 49900)
    ∷ have_imbalance (against_marked Buy 1009) (at_price 1010 (plus_at 1011)) (pos 60000)
    ∷ have_imbalance (against_marked Sell 1011) (at_price 1010 (minus_at 1009)) (neg_ℤ (pos 60000))
    ∷ have_imbalance (against_marked Buy 1009) (at_price 1010 (plus_at 1009)) (pos 50000)
    -- the clock, at the last second of a phase and the first of the next: market on close comes in and goes off
    ∷ has_allowance 56699 (event.In MarketOnClose) Yes
    ∷ has_allowance 56700 (event.In MarketOnClose) AgainstNotice
    ∷ has_allowance 57599 (event.In MarketOnClose) AgainstNotice
    ∷ has_allowance 57600 (event.In MarketOnClose) No
    ∷ has_allowance 56699 (event.Off MarketOnClose false) Yes
    ∷ has_allowance 56700 (event.Off MarketOnClose false) No
    -- closing offset orders go off from 15:45 with the error flag only, and not at all from 15:58, and come in until 16:00
    ∷ has_allowance 56700 (event.Off ClosingOffset true) Yes
    ∷ has_allowance 57479 (event.Off ClosingOffset true) Yes
    ∷ has_allowance 57480 (event.Off ClosingOffset true) No
    ∷ has_allowance 56700 (event.Off ClosingOffset false) No
    ∷ has_allowance 57599 (event.In ClosingOffset) Yes
    ∷ has_allowance 57600 (event.In ClosingOffset) No
    -- book orders go off until 16:00; crowd and market maker interest comes in and goes off at any time
    ∷ has_allowance 57599 (event.Off Book false) Yes
    ∷ has_allowance 57600 (event.Off Book false) No
    ∷ has_allowance 57600 (event.In Crowd) Yes
    ∷ has_allowance 57600 (event.Off MarketMaker false) Yes
    -- sales, quotes and publications end at 16:00, when the close is allowed
    ∷ has_allowance 57599 event.Sale Yes
    ∷ has_allowance 57600 event.Quote No
    ∷ has_allowance 57600 event.Publication No
    ∷ has_allowance 57599 event.Close No
    ∷ has_allowance 57600 event.Close Yes
    -- entries at 15:45: only a mandatory notice for the other side lets market on close and limit on close in
    ∷ has_entry (session_at 56700) [] (notice_to_buy true ∷ []) (ticket_of (unmarked LimitOnClose Sell 1500 100)) accepted
    ∷ has_entry (session_at 56700) [] (notice_to_buy true ∷ []) (ticket_of (unmarked LimitOnClose Buy 1500 100)) (Err NoNotice)
    ∷ has_entry (session_at 56700) [] (notice_to_buy false ∷ []) (ticket_of (unmarked LimitOnClose Sell 1500 100)) (Err NoNotice)
    ∷ has_entry (session_at 56700) [] [] (ticket_of (unmarked MarketOnClose Sell 0 100)) (Err NoNotice)
    ∷ has_entry (session_at 56700) [] [] (ticket_of (unmarked Book Sell 1500 100)) accepted
    -- a number that is listed already, a market on close with a price, the number 0, and a mark on a book order
    ∷ has_entry (session_at 56700) (unmarked Book Buy 1500 100 ∷ []) [] (ticket_of (unmarked Book Sell 1500 100)) (Err AlreadyListed)
    ∷ has_entry (session_at 56700) [] (notice_to_buy true ∷ []) (ticket_of (unmarked MarketOnClose Sell 1500 100)) (Err OutOfLimits)
    ∷ has_entry (session_at 56700) [] [] (ticket_of (unfilled_row 0 Book Sell false 1500 100)) (Err OutOfLimits)
    ∷ has_entry (session_at 56700) [] [] (ticket_of (marked Book Sell 1500 100)) (Err OutOfLimits)
    -- publications: question 18 is answered no where the amount is 0 and, from 15:45, where it is below 50,000 and not flagged; nothing is
    -- published after a mandatory notice, before a sale, or from 16:00
    ∷ has_publication (session_at 56700) (imbalance_book 4950) [] false (Ok (notice (pos 50100) true))
    ∷ has_publication (session_at 56700) (imbalance_book 5000) [] false (Ok (notice (pos 50000) true))
    ∷ has_publication (session_at 56700) (imbalance_book 5100) [] false (Err Insignificant)
    ∷ has_publication (session_at 56700) (imbalance_book 5100) [] true (Ok (notice (pos 49900) true))
    ∷ has_publication (session_at 56699) (imbalance_book 5100) [] false (Ok (notice (pos 49900) false))
    ∷ has_publication (session_at 56699) (imbalance_book 55000) [] true (Err Insignificant)
    ∷ has_publication (session_at 56700) (imbalance_book 4950) (notice (pos 50100) true ∷ []) false (Err AlreadyMandatory)
    ∷ has_publication opened (imbalance_book 4950) [] false (Err NoSale)
    ∷ has_publication (session_at 57600) (imbalance_book 4950) [] false (Err NotNow)
    -- closes, at 16:00 after a sale at 1500 unless said: of an empty list, of an unfillable one, and without a place in the work lists, which
    -- question 20 asks for before 21 asks for an assignment
    ∷ has_close (session_at 57600) [] 0 1500 (Ok (print 1500 0))
    ∷ has_close (session_at 57600) lone_buy 1 1500 (Err Unfillable)
    ∷ has_close (session_at 57600) lone_buy 0 1500 (Err NoPlace)
    ∷ has_close (session_at 57600) (unmarked MarketOnClose Buy 0 100 ∷ unmarked MarketOnClose Sell 0 100 ∷ []) 1 1500 (Err NoPlace)
    -- before 16:00, at prices outside the limits, before any sale, and after a completed close
    ∷ has_close (session_at 57599) [] 0 1500 (Err NotNow)
    ∷ has_close (session_at 57600) [] 0 0 (Err OutOfLimits)
    ∷ has_close (session_at 57600) [] 0 10000000 (Err OutOfLimits)
    ∷ has_close (record opened { time = 57600 }) [] 0 1500 (Err NoSale)
    ∷ has_close (record (session_at 57600) { done = true }) [] 0 1500 (Err Done)
    -- the volume above, at 3025 after a sale at 3025
    ∷ has_close (record opened { time = 57600; sale = Some (plus_at 3025) }) book_at_3025 4 3025 (Ok (print 3025 6000000))
    -- whole lives: closed at a second price after the first is unfillable, not closed, and closed once only
    ∷ lives_by_arrival sample_life (1000 ∷ 300 ∷ 500 ∷ 200 ∷ [])
    ∷ lives_by_arrival lone_life (0 ∷ [])
    ∷ lives_by_arrival done_life (100 ∷ 100 ∷ [])
    -- with a mandatory notice, and with orders that go off, where what is left is filled
    ∷ lives_by_arrival noticed_life (60000 ∷ 60000 ∷ [])
    ∷ lives_by_arrival changed_life (500 ∷ 350 ∷ 150 ∷ [])
    -- one life with a class that is cut, shared by both methods
    ∷ lives_by_turns cut_life (250 ∷ 100 ∷ 50 ∷ 100 ∷ [])
    ∷ lives_by_arrival cut_life (250 ∷ 250 ∷ 0 ∷ 0 ∷ [])
    -- messages, one of each verb: its letter, those of a kind and a side, a flag, a number, a price and a quantity
    ∷ reads (message "T" unused unused 0 0 0 57600) (Ok (call.Time 57600))
    ∷ reads (message "S" unused unused 0 0 2000 0) (Ok (call.Sale 2000))
    ∷ reads (message "Q" unused unused 0 0 1999 2001) (Ok (call.Quote (quote 1999 2001)))
    ∷ reads (message "E" "M" "B" 0 1 0 1000) (Ok (entry 1 (unmarked MarketOnClose Buy 0 1000)))
    ∷ reads (message "X" unused unused 0 9 0 0) (Ok (call.Cancel 9 false))
    ∷ reads (message "R" unused unused 0 3 0 350) (Ok (call.Reduction 3 350 false))
    ∷ reads (message "P" unused unused 0 0 0 0) (Ok (call.Publication false))
    ∷ reads (message "C" unused unused 0 0 2002 0) (Ok (call.Close 2002))
    -- entries of the other kinds
    ∷ reads (message "E" "C" "S" 0 2 0 300) (Ok (entry 2 (unmarked Crowd Sell 0 300)))
    ∷ reads (message "E" "L" "S" 0 3 2002 500) (Ok (entry 3 (unmarked LimitOnClose Sell 2002 500)))
    ∷ reads (message "E" "B" "B" 0 4 1500 200) (Ok (entry 4 (unmarked Book Buy 1500 200)))
    ∷ reads (message "E" "D" "B" 0 5 1500 200) (Ok (entry 5 (unmarked MarketMaker Buy 1500 200)))
    ∷ reads (message "E" "O" "S" 0 6 2002 400) (Ok (entry 6 (unmarked ClosingOffset Sell 2002 400)))
    ∷ reads (message "E" "G" "S" 0 7 0 100) (Ok (entry 7 (unmarked Yielding Sell 0 100)))
    ∷ reads (message "E" "S" "B" 0 8 1510 100) (Ok (entry 8 (unmarked Stop Buy 1510 100)))
    -- flag 1: an order has the mark, an order that goes off was entered in error, and an amount is significant
    ∷ reads (message "E" "M" "S" 1 2 0 300) (Ok (entry 2 (marked MarketOnClose Sell 0 300)))
    ∷ reads (message "X" unused unused 1 2 0 0) (Ok (call.Cancel 2 true))
    ∷ reads (message "R" unused unused 1 3 0 350) (Ok (call.Reduction 3 350 true))
    ∷ reads (message "P" unused unused 1 0 0 0) (Ok (call.Publication true))
    -- numbers lie high byte first: 7 and 208 are 2000; the session asks for their limits, so that the largest reads too
    ∷ reads (83 ∷ 0 ∷ 0 ∷ 0 ∷ 0 ∷ 0 ∷ 0 ∷ 0 ∷ 0 ∷ 0 ∷ 7 ∷ 208 ∷ 0 ∷ 0 ∷ 0 ∷ 0 ∷ []) (Ok (call.Sale 2000))
    ∷ reads (69 ∷ 76 ∷ 83 ∷ 1 ∷ 0 ∷ 0 ∷ 0 ∷ 3 ∷ 0 ∷ 0 ∷ 7 ∷ 210 ∷ 0 ∷ 0 ∷ 1 ∷ 244 ∷ []) (Ok (entry 3 (marked LimitOnClose Sell 2002 500)))
    ∷ reads (81 ∷ 0 ∷ 0 ∷ 0 ∷ 0 ∷ 0 ∷ 0 ∷ 0 ∷ 1 ∷ 2 ∷ 3 ∷ 4 ∷ 5 ∷ 6 ∷ 7 ∷ 8 ∷ []) (Ok (call.Quote (quote 16909060 84281096)))
    ∷ reads (88 ∷ 0 ∷ 0 ∷ 1 ∷ 255 ∷ 255 ∷ 255 ∷ 255 ∷ 0 ∷ 0 ∷ 0 ∷ 0 ∷ 0 ∷ 0 ∷ 0 ∷ 0 ∷ []) (Ok (call.Cancel 4294967295 true))
    -- a verb that is not known: another letter, a small one, and 0
    ∷ reads (message "Z" unused unused 0 0 0 0) (Err UnknownVerb)
    ∷ reads (message "s" unused unused 0 0 2000 0) (Err UnknownVerb)
    ∷ reads (replicate 16 0) (Err UnknownVerb)
    -- a kind, a side and a flag that are not legal
    ∷ reads (message "E" "X" "B" 0 1 0 1000) (Err Illegal)
    ∷ reads (message "E" "M" "M" 0 1 0 1000) (Err Illegal)
    ∷ reads (message "E" "M" "B" 2 1 0 1000) (Err Illegal)
    ∷ reads (message "E" unused unused 0 1 0 1000) (Err Illegal)
    ∷ reads (message "X" unused unused 2 9 0 0) (Err Illegal)
    ∷ reads (message "R" unused unused 255 3 0 350) (Err Illegal)
    ∷ reads (message "P" unused unused 2 0 0 0) (Err Illegal)
    -- an unused byte that is not 0: a flag of a verb that has none is one too
    ∷ reads (message "T" "M" unused 0 0 0 57600) (Err NotZero)
    ∷ reads (message "S" unused "B" 0 0 2000 0) (Err NotZero)
    ∷ reads (message "C" unused unused 1 0 2002 0) (Err NotZero)
    ∷ reads (message "Q" unused unused 0 1 1999 2001) (Err NotZero)
    ∷ reads (message "X" unused unused 0 9 1 0) (Err NotZero)
    ∷ reads (message "R" unused unused 0 3 2000 350) (Err NotZero)
    ∷ reads (message "P" unused unused 0 0 0 1) (Err NotZero)
    -- the verb is asked for first (4), then kind, side and flag (5), and then the unused bytes (6)
    ∷ reads (message "Z" "X" "X" 2 1 1 1) (Err UnknownVerb)
    ∷ reads (message "X" unused unused 2 9 2000 0) (Err Illegal)
    ∷ reads (message "P" "M" "B" 2 1 1 1) (Err Illegal)
    -- lines of each letter
    ∷ has_text (Lot 1) (codes "U 1\n")
    ∷ has_text (line.Notice 5 (pos 60000) 1500) (codes "N 5 60000 1500\n")
    ∷ has_text (line.Print 2002 1000) (codes "P 2002 1000\n")
    ∷ has_text (Fill 1 Buy 1000 0) (codes "F 1 B 1000 0\n")
    ∷ has_text (Fill 4 Sell 200 200) (codes "F 4 S 200 200\n")
    ∷ has_text (Refusal 7 (file.Message (message_fault.Session Unlisted))) (codes "R 7 3 10\n")
    -- refusals of the other layers: a header, which is message 0, a message that is cut, and one that does not read
    ∷ has_text (Refusal 0 NoMark) (codes "R 0 1 1\n")
    ∷ has_text (Refusal 1 NoMessage) (codes "R 1 1 3\n")
    ∷ has_text (Refusal 1 (file.Message NotZero)) (codes "R 1 2 6\n")
    -- a negative amount, and the longest line, of 45 bytes
    ∷ has_text (line.Notice 4 (neg_ℤ (pos 60000)) 1502) (codes "N 4 -60000 1502\n")
    ∷ has_text (line.Notice 4294967295 (neg_ℤ (pos 9223372036854775808)) 4294967295) (codes "N 4294967295 -9223372036854775808 4294967295\n")
    -- tapes of the two programs: of a close at a second price after the first is unfillable
    ∷ plays_by_arrival sample_file (codes "U 1\nR 7 3 10\nR 9 3 21\nP 2002 1000\nF 1 B 1000 0\nF 2 S 300 0\nF 3 S 500 0\nF 4 S 200 200\n")
    ∷ plays_by_turns sample_file (codes "U 100\nR 7 3 10\nR 9 3 21\nP 2002 1000\nF 1 B 1000 0\nF 2 S 300 0\nF 3 S 500 0\nF 4 S 200 200\n")
    -- tapes on six places: with a class that is cut, shared by both methods
    ∷ has_tape_by_arrival cut_file (codes "U 1\nP 1500 250\nF 1 B 250 0\nF 2 S 250 50\nF 3 S 0 50\nF 4 S 0 200\n")
    ∷ has_tape_by_turns cut_file (codes "U 100\nP 1500 250\nF 1 B 250 0\nF 2 S 100 200\nF 3 S 50 0\nF 4 S 100 100\n")
    -- with orders that go off, and with notices, to buy and to sell
    ∷ has_tape_by_arrival changed_file (codes "U 1\nP 1500 500\nF 1 B 500 0\nF 3 S 350 0\nF 4 S 150 50\n")
    ∷ has_tape_by_arrival noticed_file (codes "U 1\nR 4 3 12\nN 5 60000 1500\nR 7 3 12\nP 1500 60000\nF 1 B 60000 0\nF 2 S 60000 0\n")
    ∷ has_tape_by_arrival slight_file (codes "U 1\nR 6 3 18\n")
    ∷ has_tape_by_arrival quoted_file (codes "U 1\nN 4 -60000 1502\n")
    -- without a close, and after a close, where each call is refused as done
    ∷ has_tape_by_arrival lone_file (codes "U 1\nR 4 3 21\n")
    ∷ has_tape_by_arrival done_file (codes "U 1\nP 1500 0\nR 4 3 7\nR 5 3 7\nR 6 2 4\n")
    -- a refused message does not end the tape; one has no place left for its order
    ∷ has_tape_by_arrival refused_file (codes "U 1\nR 1 2 4\nR 4 2 5\nR 5 2 6\nR 6 3 8\nP 1500 100\nF 1 B 100 0\nF 2 S 100 0\n")
    ∷ has_tape_by_arrival full_file (codes "U 1\nR 7 3 14\n")
    -- a message that is cut ends it
    ∷ has_tape_by_arrival short_file (codes "U 1\nR 1 1 3\n")
    ∷ has_tape_by_turns unclosed_file (codes "U 100\nR 3 1 3\n")
    -- headers: a good one alone, no bytes, a mark that is cut or wrong, and a byte before it
    ∷ has_tape_by_arrival (codes "CLO" ++ 0 ∷ 1 ∷ []) (codes "U 1\n")
    ∷ has_tape_by_turns (codes "CLO" ++ 0 ∷ 1 ∷ []) (codes "U 100\n")
    ∷ has_tape_by_arrival [] (codes "R 0 1 1\n")
    ∷ has_tape_by_arrival (codes "CL") (codes "R 0 1 1\n")
    ∷ has_tape_by_turns (codes "CLo" ++ 0 ∷ 1 ∷ []) (codes "R 0 1 1\n")
    ∷ has_tape_by_arrival (codes "X" ++ sample_file) (codes "R 0 1 1\n")
    -- a mark alone, a version that is cut, and versions 2, with a message behind it, and 256
    ∷ has_tape_by_arrival (codes "CLO") (codes "R 0 1 2\n")
    ∷ has_tape_by_arrival (codes "CLO" ++ 0 ∷ []) (codes "R 0 1 2\n")
    ∷ has_tape_by_turns (codes "CLO" ++ 0 ∷ 2 ∷ sale 1500) (codes "R 0 1 2\n")
    ∷ has_tape_by_arrival (codes "CLO" ++ 1 ∷ 0 ∷ []) (codes "R 0 1 2\n")
    -- one amount shared by both methods
    ∷ shared_by_turns 250 (300 ∷ 50 ∷ 200 ∷ []) (100 ∷ 50 ∷ 100 ∷ [])
    ∷ shared_by_arrival 250 (300 ∷ 50 ∷ 200 ∷ []) (250 ∷ 0 ∷ 0 ∷ [])
    ∷ []
