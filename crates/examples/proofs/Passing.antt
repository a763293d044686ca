-- A test of each example, and that an example that passes holds. Assumes nothing.
use Rattle.std.proofs.Common.{◌≡◌, ℕ, ◌≤◌, Bool, true, false, not, ◌&&◌, eqb, leb, List, [], ◌∷◌, length, replicate, Some, None, Option, Ok, Err, Result, sym, refl, ap, subst, true≢false, arith}
use Rattle.std.specs.Bool.{beq}
use Rattle.std.specs.Cmp.{booleans_Decides}
use Rattle.std.specs.Cmp.Lexicographic.{pointwise}
use Rattle.std.specs.Option.{option_eq}
use Rattle.std.specs.Ordering.{int_eq}
use Rattle.std.specs.Result.{result_eq}
use Rattle.std.specs.Str.{bytes_eq as list_eq}
use Rattle.std.proofs.lemmas.Bool.{and_parts, not-true, eqb-true}
use Rattle.std.proofs.lemmas.Bool.Decides.{nat_tests, Decides-int_eq}
use Rattle.std.proofs.lemmas.Slice.Eq.{bytes_eq-Decides as list_eq-Decides}
use denote.Enum.Bare.{sameb, same_true}
use Rattle.list.specs.Held.{kept}
use Rattle.order.specs.contracts.class.Class.{the_type as the_class}
use Rattle.order.specs.contracts.kind.Kind.{the_type as the_kind}
use Rattle.order.specs.contracts.kind.Side.{the_type as the_side}
use Rattle.order.specs.contracts.limit.Standing.{the_type as the_standing}
use Rattle.order.specs.contracts.sale.Tick.{the_type as the_tick}
use Rattle.order.specs.declared.class.Class.{Class}
use Rattle.order.specs.declared.kind.Side.{Side}
use Rattle.order.specs.declared.kind.Side.TheVariants.{Buy, Sell}
use Rattle.order.specs.declared.limit.Standing.TheVariants.{Out}
use Rattle.order.specs.declared.sale.Quote.{Quote}
use Rattle.order.specs.declared.ticket.Ticket.{Ticket}
use Rattle.order.specs.Classes.{class_of}
use Rattle.order.specs.Limits.{effective, standing_by, standing_of}
use Rattle.order.specs.Sales.{reference, tick_after}
use Rattle.sharing.specs.Arrival.{arrival}
use Rattle.sharing.specs.ArrivalLaws.{arrival_paired, arrival_within, arrival_spends}
use Rattle.sharing.specs.Shares.{Divides}
use Rattle.sharing.specs.Turns.{turns}
use Rattle.sharing.specs.TurnsLaws.{turns_paired, turns_within, turns_spends}
use Rattle.book.specs.declared.entry.Entry.{Entry}
use Rattle.book.specs.Entries.{entries}
use Rattle.book.specs.Imbalance.{amount_of}
use Rattle.book.specs.Volume.{traded, unfillable}
use Rattle.book.proofs.Stands.{none, by_arrival, largest}
use Rattle.clock.specs.contracts.table.Allowance.{the_type as the_allowance}
use Rattle.clock.specs.Phases.{phase_at}
use Rattle.clock.specs.Table.{allowed_in}
use Rattle.session.specs.contracts.fault.SessionFault.{the_type as the_fault}
use Rattle.session.specs.declared.call.Call.{Call}
use Rattle.session.specs.declared.call.Call.TheVariants as call
use Rattle.session.specs.declared.call.Outcome.{Outcome}
use Rattle.session.specs.declared.call.Outcome.TheVariants.{Taken, Published, Printed}
use Rattle.session.specs.declared.call.Print.{Print}
use Rattle.session.specs.declared.fault.SessionFault.{SessionFault}
use Rattle.session.specs.declared.notice.Notice.{Notice}
use Rattle.session.specs.Answers.{entry_answer, publication_answer, close_answer}
use Rattle.session.specs.Moments.{Opened}
use Rattle.session.specs.Replies.{Answer}
use Rattle.session.specs.Upheld.{filled_shares}
use Rattle.life.specs.Stages.{answers_to}
use Rattle.life.specs.Whole.{WholeLife}
use Rattle.life.proofs.Living.{whole_life, opens}
use Rattle.message.specs.declared.fault.MessageFault.{MessageFault}
use Rattle.message.specs.declared.fault.MessageFault.TheVariants.{UnknownVerb, Illegal, NotZero}
use Rattle.message.specs.declared.fault.MessageFault.TheVariants as message
use Rattle.message.specs.Calls.{decoded}
use Rattle.line.specs.Texts.{line_text}
use Rattle.tape.specs.Messages.{Reading}
use Rattle.tape.specs.Places.{Places, blank_lists}
use Rattle.tape.specs.Tapes.{tape_of}
use Rattle.tape.proofs.Upholding.{tape_upheld}
use Rattle.player.specs.Played.{program_places}
use Rattle.examples.specs.Examples.{Example, has_reference, has_tick, has_standing, is_always_out, has_class, trade, are_unfillable, are_filled, have_imbalance, has_allowance, has_entry, has_publication, has_close, lives_by_arrival, lives_by_turns, reads, has_text, has_tape_by_arrival, has_tape_by_turns, plays_by_arrival, plays_by_turns, shared_by_arrival, shared_by_turns, fills_by_arrival, holding_all, work_list, six_places, on_six_places, calls_of, answers_of, end_of, moments_in, Lives, HasTape, Holds, AllHold}

-- a buy that is held to 0, which no price meets
abbrev held_to_nothing : Side → Option ℕ → Bool
held_to_nothing Buy None = false
held_to_nothing Buy (Some limit) = eqb limit 0
held_to_nothing Sell limit = false

-- the orders are fillable, and v is what trades
abbrev trades_so : List Entry → ℕ → Bool
trades_so es v = not (unfillable es) && eqb (traded es) v

-- two notices are the same
abbrev notice_eq : Notice → Notice → Bool
notice_eq m n = int_eq m.amount n.amount && eqb m.reference n.reference && beq m.mandatory n.mandatory

-- two answers with nothing more to say are the same
abbrev nothing_eq : Unit {0} → Unit {0} → Bool
nothing_eq a b = true

-- two answers are the same, where a test says so of what they say when they are accepted
abbrev answer_eq : {T : Type 0} → (T → T → Bool) → Result T SessionFault → Result T SessionFault → Bool
answer_eq same a b = result_eq same (sameb the_fault) a b

-- two prints are the same
abbrev print_eq : Print → Print → Bool
print_eq a b = eqb a.price b.price && eqb a.volume b.volume

-- two outcomes of accepted calls are the same
abbrev outcome_eq : Outcome → Outcome → Bool
outcome_eq Taken Taken = true
outcome_eq (Published m) (Published n) = notice_eq m n
outcome_eq (Printed a) (Printed b) = print_eq a b
outcome_eq a b = false

-- two lists of answers are the same
abbrev answers_eq : List Answer → List Answer → Bool
answers_eq = pointwise (answer_eq outcome_eq)

-- two quotes are the same
abbrev quote_eq : Quote → Quote → Bool
quote_eq q r = eqb q.bid r.bid && eqb q.offer r.offer

-- two tickets are the same
abbrev ticket_eq : Ticket → Ticket → Bool
ticket_eq t u = eqb t.number u.number && sameb the_kind t.kind u.kind && sameb the_side t.side u.side && beq t.marked u.marked && eqb t.price u.price && eqb t.size u.size

-- two calls are the same
abbrev call_eq : Call → Call → Bool
call_eq (call.Time t) (call.Time u) = eqb t u
call_eq (call.Sale p) (call.Sale q) = eqb p q
call_eq (call.Quote q) (call.Quote r) = quote_eq q r
call_eq (call.Entry t) (call.Entry u) = ticket_eq t u
call_eq (call.Cancel m e) (call.Cancel n f) = eqb m n && beq e f
call_eq (call.Reduction m s e) (call.Reduction n t f) = eqb m n && eqb s t && beq e f
call_eq (call.Publication b) (call.Publication c) = beq b c
call_eq (call.Close p) (call.Close q) = eqb p q
call_eq a b = false

-- two refusals of a message are the same
abbrev refusal_eq : MessageFault → MessageFault → Bool
refusal_eq UnknownVerb UnknownVerb = true
refusal_eq Illegal Illegal = true
refusal_eq NotZero NotZero = true
refusal_eq (message.Session f) (message.Session g) = sameb the_fault f g
refusal_eq a b = false

-- two readings are the same
abbrev reading_eq : Reading → Reading → Bool
reading_eq = result_eq call_eq refusal_eq

-- each call is answered so, and the orders then have these filled shares
abbrev lives_so : (ℕ → List ℕ → List ℕ) → List (Call × Answer) → List ℕ → Bool
lives_so meaning life shares = answers_eq (answers_to meaning on_six_places (calls_of life)) (answers_of life) && list_eq (filled_shares (kept (end_of meaning life).orders)) shares

-- the test of an example
abbrev passes : Example → Bool
passes (has_reference last quote p) = eqb (reference last quote) p
passes (has_tick last p tick) = sameb the_tick (tick_after last p) tick
passes (has_standing row terms standing) = sameb the_standing (standing_of row terms) standing
passes (is_always_out row last) = held_to_nothing row.side (effective row last)
passes (has_class row terms class) = option_eq (sameb the_class) (class_of row terms) class
passes (trade rows terms v) = trades_so (entries terms rows) v
passes (are_unfillable rows terms) = unfillable (entries terms rows)
passes (are_filled rows terms fills v) = list_eq (fills_by_arrival (entries terms rows)) fills && trades_so (entries terms rows) v
passes (have_imbalance rows terms n) = int_eq (amount_of rows terms) n
passes (has_allowance time event allowance) = sameb the_allowance (allowed_in (phase_at time) event) allowance
passes (has_entry s rows notices ticket reply) = answer_eq nothing_eq (entry_answer s rows false notices ticket) reply
passes (has_publication s rows notices significant answer) = answer_eq notice_eq (publication_answer s rows notices false significant) answer
passes (has_close s rows places p answer) = answer_eq print_eq (close_answer s (holding_all rows) (work_list places) (work_list places) p) answer
passes (lives_by_arrival life shares) = lives_so arrival life shares
passes (lives_by_turns life shares) = lives_so turns life shares
passes (reads bytes reading) = reading_eq (decoded bytes) reading
passes (has_text line bytes) = list_eq (line_text line) bytes && leb (length bytes) 64
passes (has_tape_by_arrival file tape) = list_eq (tape_of 1 arrival six_places file) tape
passes (has_tape_by_turns file tape) = list_eq (tape_of 100 turns six_places file) tape
passes (plays_by_arrival file tape) = list_eq (tape_of 1 arrival program_places file) tape
passes (plays_by_turns file tape) = list_eq (tape_of 100 turns program_places file) tape
passes (shared_by_arrival amount claims gifts) = list_eq (arrival amount claims) gifts
passes (shared_by_turns amount claims gifts) = list_eq (turns amount claims) gifts

-- each example of a table passes
abbrev pub all_pass : List Example → Bool
all_pass [] = true
all_pass (e ∷ es) = passes e && all_pass es

always_out : (side : Side) (limit : Option ℕ) → held_to_nothing side limit ≡ true → (p : ℕ) → 1 ≤ p → standing_by side limit p ≡ Out
always_out Buy None e p h = absurd (true≢false (sym e))
always_out Buy (Some limit) e p h = let z = eqb-true limit 0 e in grind (arith, nat_tests)
always_out Sell limit e p h = absurd (true≢false (sym e))

same_class : (b c : Option Class) → option_eq (sameb the_class) b c ≡ true → b ≡ c
same_class None None e = refl
same_class None (Some c) e = absurd (true≢false (sym e))
same_class (Some b) None e = absurd (true≢false (sym e))
same_class (Some b) (Some c) e = ap Some (same_true the_class tt b c e)

same_notice : (m n : Notice) → notice_eq m n ≡ true → m ≡ n
same_notice m n t =
    let all = and_parts _ _ t in
    let numbers = and_parts _ _ all.0 in
    let same_amount = (Decides-int_eq m.amount n.amount).0 numbers.0 in
    let same_reference = eqb-true m.reference n.reference numbers.1 in
    let same_mandatory = (booleans_Decides m.mandatory n.mandatory).0 all.1 in
    λ i. record { amount = same_amount i; reference = same_reference i; mandatory = same_mandatory i }

same_nothing : (a b : Unit {0}) → nothing_eq a b ≡ true → a ≡ b
same_nothing a b t = refl

same_result : {T F : Type 0} (same : T → T → Bool) (same_fault : F → F → Bool) → ((m n : T) → same m n ≡ true → m ≡ n)
    → ((f g : F) → same_fault f g ≡ true → f ≡ g) → (a b : Result T F) → result_eq same same_fault a b ≡ true → a ≡ b
same_result same same_fault alike faults (Ok m) (Ok n) e = ap Ok (alike m n e)
same_result same same_fault alike faults (Ok m) (Err g) e = absurd (true≢false (sym e))
same_result same same_fault alike faults (Err f) (Ok n) e = absurd (true≢false (sym e))
same_result same same_fault alike faults (Err f) (Err g) e = ap Err (faults f g e)

same_answer : {T : Type 0} (same : T → T → Bool) → ((m n : T) → same m n ≡ true → m ≡ n) → (a b : Result T SessionFault) → answer_eq same a b ≡ true → a ≡ b
same_answer same alike = same_result same (sameb the_fault) alike (same_true the_fault tt)

same_print : (a b : Print) → print_eq a b ≡ true → a ≡ b
same_print a b t =
    let both = and_parts _ _ t in
    let same_price = eqb-true a.price b.price both.0 in
    let same_volume = eqb-true a.volume b.volume both.1 in
    λ i. record { price = same_price i; volume = same_volume i }

same_outcome : (a b : Outcome) → outcome_eq a b ≡ true → a ≡ b
same_outcome Taken Taken e = refl
same_outcome (Published m) (Published n) e = ap Published (same_notice m n e)
same_outcome (Printed a) (Printed b) e = ap Printed (same_print a b e)
same_outcome a b e = absurd (true≢false (sym e))

same_answers : (xs ys : List Answer) → answers_eq xs ys ≡ true → xs ≡ ys
same_answers [] [] e = refl
same_answers [] (y ∷ ys) e = absurd (true≢false (sym e))
same_answers (x ∷ xs) [] e = absurd (true≢false (sym e))
same_answers (x ∷ xs) (y ∷ ys) e =
    let both = and_parts _ _ e in
    let first = same_answer outcome_eq same_outcome x y both.0 in
    let rest = same_answers xs ys both.1 in
    λ i. first i ∷ rest i

same_quote : (q r : Quote) → quote_eq q r ≡ true → q ≡ r
same_quote q r t =
    let both = and_parts _ _ t in
    let same_bid = eqb-true q.bid r.bid both.0 in
    let same_offer = eqb-true q.offer r.offer both.1 in
    λ i. record { bid = same_bid i; offer = same_offer i }

same_ticket : (t u : Ticket) → ticket_eq t u ≡ true → t ≡ u
same_ticket t u e =
    let sizes = and_parts _ _ e in
    let prices = and_parts _ _ sizes.0 in
    let marks = and_parts _ _ prices.0 in
    let sides = and_parts _ _ marks.0 in
    let kinds = and_parts _ _ sides.0 in
    let same_number = eqb-true t.number u.number kinds.0 in
    let same_kind = same_true the_kind tt t.kind u.kind kinds.1 in
    let same_side = same_true the_side tt t.side u.side sides.1 in
    let same_mark = (booleans_Decides t.marked u.marked).0 marks.1 in
    let same_price = eqb-true t.price u.price prices.1 in
    let same_size = eqb-true t.size u.size sizes.1 in
    λ i. record { number = same_number i; kind = same_kind i; side = same_side i; marked = same_mark i; price = same_price i; size = same_size i }

same_call : (a b : Call) → call_eq a b ≡ true → a ≡ b
same_call (call.Time t) (call.Time u) e = ap call.Time (eqb-true t u e)
same_call (call.Sale p) (call.Sale q) e = ap call.Sale (eqb-true p q e)
same_call (call.Quote q) (call.Quote r) e = ap call.Quote (same_quote q r e)
same_call (call.Entry t) (call.Entry u) e = ap call.Entry (same_ticket t u e)
same_call (call.Cancel m e) (call.Cancel n f) t =
    let both = and_parts _ _ t in
    let same_number = eqb-true m n both.0 in
    let same_flag = (booleans_Decides e f).0 both.1 in
    λ i. call.Cancel (same_number i) (same_flag i)
same_call (call.Reduction m s e) (call.Reduction n u f) t =
    let all = and_parts _ _ t in
    let numbers = and_parts _ _ all.0 in
    let same_number = eqb-true m n numbers.0 in
    let same_size = eqb-true s u numbers.1 in
    let same_flag = (booleans_Decides e f).0 all.1 in
    λ i. call.Reduction (same_number i) (same_size i) (same_flag i)
same_call (call.Publication b) (call.Publication c) e = ap call.Publication ((booleans_Decides b c).0 e)
same_call (call.Close p) (call.Close q) e = ap call.Close (eqb-true p q e)
same_call a b e = absurd (true≢false (sym e))

same_refusal : (a b : MessageFault) → refusal_eq a b ≡ true → a ≡ b
same_refusal UnknownVerb UnknownVerb e = refl
same_refusal Illegal Illegal e = refl
same_refusal NotZero NotZero e = refl
same_refusal (message.Session f) (message.Session g) e = ap message.Session (same_true the_fault tt f g e)
same_refusal a b e = absurd (true≢false (sym e))

-- sharing by arrival divides as every method must
arrival_divides : Divides arrival
arrival_divides = record { paired = arrival_paired; within = arrival_within; spends = arrival_spends }

-- and so does sharing by turns
turns_divides : Divides turns
turns_divides = record { paired = turns_paired; within = turns_within; spends = turns_spends }

-- a session has just opened on six places
just_opened : Opened on_six_places.moment
just_opened = let l = blank_lists six_places in opens l.orders l.notices l.claims l.gifts

lives_so_is : (meaning : ℕ → List ℕ → List ℕ) → Divides meaning → (life : List (Call × Answer)) (shares : List ℕ) → lives_so meaning life shares ≡ true → Lives meaning life shares
lives_so_is meaning divides life shares t =
    let both = and_parts _ _ t in
    let end = end_of meaning life in
    let answered = same_answers _ (answers_of life) both.0 in
    let whole = whole_life meaning divides on_six_places just_opened (calls_of life) in
    record {
      answered = answered;
      filled = (list_eq-Decides _ shares).0 both.1;
      whole = subst (λ (answers : List Answer). WholeLife (calls_of life) answers (moments_in meaning life) end.state (kept end.orders) (kept end.notices)) answered whole;
    }

tape_is : (places : Places) (lot : ℕ) (meaning : ℕ → List ℕ → List ℕ) → Divides meaning → (file tape : List ℕ) → list_eq (tape_of lot meaning places file) tape ≡ true → HasTape places lot meaning file tape
tape_is places lot meaning divides file tape t = record { same = (list_eq-Decides _ tape).0 t; upheld = tape_upheld lot meaning divides places file }

trades_so_is : (es : List Entry) (v : ℕ) → trades_so es v ≡ true → (unfillable es ≡ false) × (traded es ≡ v)
trades_so_is es v t = let both = and_parts _ _ t in (not-true _ both.0, eqb-true _ v both.1)

holds : (e : Example) → passes e ≡ true → Holds e
holds (has_reference last quote p) t = eqb-true _ p t
holds (has_tick last p tick) t = same_true the_tick tt _ tick t
holds (has_standing row terms standing) t = same_true the_standing tt _ standing t
holds (is_always_out row last) t = always_out row.side (effective row last) t
holds (has_class row terms class) t = same_class _ class t
holds (trade rows terms v) t = let so = trades_so_is (entries terms rows) v t in rw (← so.1) (largest _ so.0)
holds (are_unfillable rows terms) t = none (entries terms rows) t
holds (are_filled rows terms fills v) t =
    let both = and_parts _ _ t in
    let same = (list_eq-Decides _ fills).0 both.0 in
    let so = trades_so_is (entries terms rows) v both.1 in
    (same, rw (← same, ← so.1) (by_arrival _ so.0))
holds (have_imbalance rows terms n) t = (Decides-int_eq _ n).0 t
holds (has_allowance time event allowance) t = same_true the_allowance tt _ allowance t
holds (has_entry s rows notices ticket reply) t = same_answer nothing_eq same_nothing _ reply t
holds (has_publication s rows notices significant answer) t = same_answer notice_eq same_notice _ answer t
holds (has_close s rows places p answer) t = same_answer print_eq same_print _ answer t
holds (lives_by_arrival life shares) t = lives_so_is arrival arrival_divides life shares t
holds (lives_by_turns life shares) t = lives_so_is turns turns_divides life shares t
holds (reads bytes reading) t = same_result call_eq refusal_eq same_call same_refusal _ reading t
holds (has_text line bytes) t =
    let both = and_parts _ _ t in
    let short = both.1 in
    ((list_eq-Decides _ bytes).0 both.0, grind (arith, nat_tests))
holds (has_tape_by_arrival file tape) t = tape_is six_places 1 arrival arrival_divides file tape t
holds (has_tape_by_turns file tape) t = tape_is six_places 100 turns turns_divides file tape t
holds (plays_by_arrival file tape) t = tape_is program_places 1 arrival arrival_divides file tape t
holds (plays_by_turns file tape) t = tape_is program_places 100 turns turns_divides file tape t
holds (shared_by_arrival amount claims gifts) t = (list_eq-Decides _ gifts).0 t
holds (shared_by_turns amount claims gifts) t = (list_eq-Decides _ gifts).0 t

pub all_hold : (es : List Example) → all_pass es ≡ true → AllHold es
all_hold [] t = tt
all_hold (e ∷ es) t = let both = and_parts _ _ t in (holds e both.0, all_hold es both.1)
