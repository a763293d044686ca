-- The tape of every file is upheld. Assumes nothing.
use Rattle.std.proofs.Common.{◌≡◌, ◌≢◌, ℕ, ◌+◌, ◌<◌, ◌≤◌, Bool, true, false, not, ◌&&◌, ◌||◌, List, [], ◌∷◌, ◌++◌, drop, ◌⊎◌, eqb, map, Some, Ok, Err, Result, is_ok, inl, inr, refl, ap, sym, ◌∙◌, arith, append_assoc}
use Rattle.std.specs.Prelude.{◌==◌, filter, is_some}
use Rattle.std.specs.List.{list_any}
use Rattle.std.proofs.Math.Bool.{or-false}
use Rattle.std.proofs.lemmas.Bool.{cases_Bool, false_from_ne_true, or_left, cond_both, not-true, or_right, or_parts, or_from, and_right, ne_eqb, eq-eqb, true≢false, false≢true}
use Rattle.std.proofs.lemmas.List.{append-nil}
use Rattle.std.proofs.lemmas.List.Elements.{filter-append}
use Rattle.std.proofs.lemmas.List.Folds.{list_any-append}
use Rattle.list.specs.Held.{kept}
use Rattle.order.specs.declared.kind.Row.{Row}
use Rattle.order.specs.Entered.{ticket_of}
use Rattle.sharing.specs.Shares.{Divides}
use Rattle.session.specs.declared.call.Call.{Call}
use Rattle.session.specs.declared.call.Call.TheVariants.{Time, Sale, Quote, Entry, Cancel, Reduction, Publication, Close}
use Rattle.session.specs.declared.call.Outcome.TheVariants.{Taken, Published, Printed}
use Rattle.session.specs.declared.notice.Notice.{Notice as ANotice}
use Rattle.session.specs.Ledgers.{Ledger, fed}
use Rattle.session.specs.Laws.{Lived}
use Rattle.session.specs.Lives.{Life, begun, later, ledger_of, was_closed}
use Rattle.session.specs.Moments.{Opened, answer_at}
use Rattle.session.specs.Questions.{refused_with, ask}
use Rattle.session.specs.Replies.{Answer, is_print}
use Rattle.session.specs.States.{State}
use Rattle.session.specs.Upheld.{UpheldBy, filled_shares}
use Rattle.session.proofs.Runs.{call_carries}
use Rattle.session.proofs.Steps.{begun_life}
use Rattle.life.specs.Stages.{Stage}
use Rattle.message.specs.declared.fault.FileFault.{FileFault}
use Rattle.message.specs.declared.fault.FileFault.TheVariants.{NoMark, OtherVersion, NoMessage}
use Rattle.message.specs.declared.fault.MessageFault.{MessageFault}
use Rattle.message.specs.Calls.{decoded}
use Rattle.message.specs.Faults.{message_question, file_question}
use Rattle.message.proofs.Unread.{FailsEarly, decoded_early}
use Rattle.line.specs.declared.Line.{Line}
use Rattle.line.specs.declared.Line.TheVariants.{Lot, Notice, Print, Fill, Refusal}
use Rattle.tape.specs.Files.{mark, version, begin_with, body_of, is_message, messages_of}
use Rattle.tape.specs.Messages.{Reading, MessageReply, of_session, of_message, reply_to, reply_to_reading, stage_after_reading, stage_left, fill_line, rows_at, lines_of, lines_at}
use Rattle.life.proofs.Living.{opens}
use Rattle.tape.specs.Places.{Places, blank_lists, opening}
use Rattle.tape.specs.Tapes.{message_lines, lines_after_header, lines_of_file}
use Rattle.tape.specs.Upheld.{refuses, refuses_with, is_of_close, accepted_on, refused_on, close_price, is_close, noted_message, fill_lines, handled, handled_after_header, messages_in, UpheldMessage, Closed, EachUpheld, UpheldTape}

-- a message is refused with the question q
abbrev refused_as : ℕ → MessageReply → Bool
refused_as q (Ok outcome) = false
refused_as q (Err fault) = message_question fault == q

-- what does not read is not refused with a question of the session
refused-unread : (fault : MessageFault) → message_question fault < 7 → (q : ℕ) → 7 ≤ q → refused_as q (Err fault) ≡ false
refused-unread fault early q above = ne_eqb (message_question fault) q (λ e. omega (arith, e))

-- what reads is refused with the question that the session answered no, and accepted where the session accepts
refused-session : (q : ℕ) (answer : Answer) → refused_as q (of_session answer) ≡ refused_with q answer
refused-session q (Ok outcome) = refl
refused-session q (Err fault) = refl

accepted-session : (answer : Answer) → is_ok (of_session answer) ≡ is_ok answer
accepted-session (Ok outcome) = refl
accepted-session (Err fault) = refl

-- a call is a close or not
close_or_other : (call : Call) → ((p : ℕ) × (call ≡ Close p)) ⊎ (is_close (Ok call) ≡ false)
close_or_other (Time t) = inr refl
close_or_other (Sale p) = inr refl
close_or_other (Quote q) = inr refl
close_or_other (Entry t) = inr refl
close_or_other (Cancel n in_error) = inr refl
close_or_other (Reduction n size in_error) = inr refl
close_or_other (Publication significant) = inr refl
close_or_other (Close p) = inl (p, refl)

-- the close of a price is the call that has it
close_at : (call : Call) (p : ℕ) → close_price (Ok call) ≡ Some p → call ≡ Close p
close_at call p has =
    elim (close_or_other call) [
      | inl found ↦ let same : Some found.0 ≡ Some p = sym (ap (λ (c : Call). close_price (Ok c)) found.1) ∙ has in cc
      | inr other ↦ absurd (true≢false (sym (ap is_some has) ∙ other))
    ]

module _ (L : Ledger) (call : Call) (shares : List ℕ) where
  -- a call other than a close is not answered with a print, and a close is where it is accepted
  print_is_of_close : (answer : Answer) → UpheldBy L call answer shares → is_print answer ≡ true → is_close (Ok call) ≡ true
  print_is_of_close (Ok Taken) u is = absurd (false≢true is)
  print_is_of_close (Ok (Published n)) u is = absurd (false≢true is)
  print_is_of_close (Ok (Printed print)) u is = rw (u.printed print refl).0 refl
  print_is_of_close (Err fault) u is = absurd (false≢true is)

  close_is_printed : (p : ℕ) (answer : Answer) → UpheldBy L call answer shares → call ≡ Close p → is_print answer ≡ is_ok answer
  close_is_printed p (Ok Taken) u is = u.completed p is refl
  close_is_printed p (Ok (Published n)) u is = u.completed p is refl
  close_is_printed p (Ok (Printed print)) u is = refl
  close_is_printed p (Err fault) u is = refl

  close-print : (answer : Answer) → UpheldBy L call answer shares → (is_close (Ok call) && is_ok answer) ≡ is_print answer
  close-print answer u =
      elim (close_or_other call) [
        | inl found ↦ rw found.1 (sym (close_is_printed found.0 answer u found.1))
        | inr other ↦ rw other (sym (false_from_ne_true (is_print answer) (λ is. true≢false (sym (print_is_of_close answer u is) ∙ other))))
      ]

-- what is refused is no print
refused_no_print : (q : ℕ) (answer : Answer) → refused_with q answer ≡ true → is_print answer ≡ false
refused_no_print q (Ok outcome) refused = absurd (false≢true refused)
refused_no_print q (Err fault) refused = refl

-- where no line of an order passes a test, no list of them does
no_fill : (f : Line → Bool) → ((row : Row) → f (fill_line row) ≡ false) → (rows : List Row) → list_any f (map fill_line rows) ≡ false
no_fill f none [] = refl
no_fill f none (row ∷ rows) = rw (none row) (no_fill f none rows)

-- the lines of message n refuse it where its reply does, and no other message
lines-refuse : (k n : ℕ) (reply : MessageReply) (rows : List Row)
    → list_any (refuses k) (lines_of n (of_message reply) rows) ≡ (not (is_ok reply) && n == k)
lines-refuse k n (Ok Taken) rows = refl
lines-refuse k n (Ok (Published notice)) rows = refl
lines-refuse k n (Ok (Printed print)) rows = no_fill (refuses k) (λ row. refl) rows
lines-refuse k n (Err fault) rows = or-false (n == k)

lines-other : (k n : ℕ) (reply : MessageReply) (rows : List Row) → k ≢ n → list_any (refuses k) (lines_of n (of_message reply) rows) ≡ false
lines-other k n reply rows other = rw (lines-refuse k n reply rows, ne_eqb n k (λ e. other (sym e))) (and_right (not (is_ok reply)) false refl)

-- they refuse it with the question of the reply
lines-refuse_with : (n q : ℕ) (reply : MessageReply) (rows : List Row)
    → list_any (refuses_with n q) (lines_of n (of_message reply) rows) ≡ refused_as q reply
lines-refuse_with n q (Ok Taken) rows = refl
lines-refuse_with n q (Ok (Published notice)) rows = refl
lines-refuse_with n q (Ok (Printed print)) rows = no_fill (refuses_with n q) (λ row. refl) rows
lines-refuse_with n q (Err fault) rows = rw (eq-eqb n n refl, or-false) refl

-- they say whether it is accepted
lines-accept : (n : ℕ) (reply : MessageReply) (rows : List Row) → accepted_on (lines_of n (of_message reply) rows) n ≡ is_ok reply
lines-accept n (Ok outcome) rows = rw (lines-refuse n n (Ok outcome) rows) refl
lines-accept n (Err fault) rows = rw (lines-refuse n n (Err fault) rows, eq-eqb n n refl) refl

-- a line that does not refuse a message does not refuse it with a question
line-refuse_with : (n q : ℕ) (line : Line) → refuses n line ≡ false → refuses_with n q line ≡ false
line-refuse_with n q (Lot lot) none = refl
line-refuse_with n q (Notice message amount reference) none = refl
line-refuse_with n q (Print price volume) none = refl
line-refuse_with n q (Fill number side filled unfilled) none = refl
line-refuse_with n q (Refusal message fault) none = rw none refl

none-refuse_with : (n q : ℕ) (lines : List Line) → list_any (refuses n) lines ≡ false → list_any (refuses_with n q) lines ≡ false
none-refuse_with n q [] none = refl
none-refuse_with n q (line ∷ lines) none =
    let both = or_parts (refuses n line) (list_any (refuses n) lines) none in
    rw (line-refuse_with n q line both.0) (none-refuse_with n q lines both.1)

-- where no line before or after passes a test, those between decide
between : (f : Line → Bool) (before here after : List Line) → list_any f before ≡ false → list_any f after ≡ false
    → list_any f (before ++ (here ++ after)) ≡ list_any f here
between f before here after none_before none_after =
    rw (list_any-append f before (here ++ after), list_any-append f here after, none_before, none_after) (or-false (list_any f here))

-- likewise for the lines that pass it
only_here : (f : Line → Bool) (before here after : List Line) → filter f before ≡ [] → filter f after ≡ []
    → filter f (before ++ (here ++ after)) ≡ filter f here
only_here f before here after none_before none_after =
    rw (filter-append f before (here ++ after), filter-append f here after, none_before, none_after) (append-nil (filter f here))

-- the lines of orders tell of a close, and they are those of the ledger's orders with the filled shares
fills-close : (rows : List Row) → filter is_of_close (map fill_line rows) ≡ map fill_line rows
fills-close [] = refl
fills-close (row ∷ rows) = ap (λ (lines : List Line). fill_line row ∷ lines) (fills-close rows)

fills-ledger : (rows : List Row) → map fill_line rows ≡ fill_lines (map ticket_of rows) (filled_shares rows)
fills-ledger [] = refl
fills-ledger (row ∷ rows) = ap (λ (lines : List Line). fill_line row ∷ lines) (fills-ledger rows)

-- the lines of a message that is not answered with a print tell of no close
lines-silent : (n : ℕ) (answer : Answer) (rows : List Row) → is_print answer ≡ false
    → filter is_of_close (lines_of n (of_message (of_session answer)) rows) ≡ []
lines-silent n (Ok Taken) rows none = refl
lines-silent n (Ok (Published notice)) rows none = refl
lines-silent n (Ok (Printed print)) rows none = absurd (true≢false none)
lines-silent n (Err fault) rows none = refl

-- those of an accepted close tell of it, with the ledger's orders
lines-closed : (n p : ℕ) (L : Ledger) (call : Call) (answer : Answer) (rows : List Row) → UpheldBy L call answer (filled_shares rows)
    → map ticket_of rows ≡ (fed L call (is_ok answer)).orders → call ≡ Close p → is_ok answer ≡ true
    → Closed (lines_of n (of_message (of_session answer)) rows) L p
lines-closed n p L call (Ok Taken) rows u agrees is ok = absurd (false≢true (u.completed p is refl))
lines-closed n p L call (Ok (Published notice)) rows u agrees is ok = absurd (false≢true (u.completed p is refl))
lines-closed n p L call (Ok (Printed print)) rows u agrees is ok =
    let printed = u.printed print refl in
    let both : Close print.price ≡ Close p = sym printed.0 ∙ is in
    let same : print.price ≡ p = cc in
    let orders : map ticket_of rows ≡ L.orders = rw is at agrees in
    record {
      volume = print.volume;
      shares = filled_shares rows;
      says = rw (fills-close rows, fills-ledger rows, orders, same) refl;
      filled = rw (← same) printed.1;
    }
lines-closed n p L call (Err fault) rows u agrees is ok = absurd (false≢true ok)

-- the lines of a message that is a call are upheld by the ledger of the life before it
call_upheld : (n : ℕ) (life : Life) (call : Call) (answer : Answer) (s : State) (rows : List Row) (notices : List ANotice)
    → Lived (later life call answer) s rows notices
    → UpheldMessage (lines_of n (of_message (of_session answer)) rows) (ledger_of life) (was_closed life) n (Ok call)
call_upheld n life call answer s rows notices lived =
    let u : UpheldBy (ledger_of life) call answer (filled_shares rows) = lived.upheld.1 in
    let reply = of_session answer in
    let here = lines_of n (of_message reply) rows in
    let refused : (q : ℕ) → refused_on here n q ≡ refused_with q answer = λ q. lines-refuse_with n q reply rows ∙ refused-session q answer in
    let accepted : accepted_on here n ≡ is_ok answer = lines-accept n reply rows ∙ accepted-session answer in
    record {
      unread = λ none. absurd cc;
      unfillable = λ is. let ground = u.unfillable (sym (refused 21) ∙ is) in (ground.0, ap (λ (c : Call). close_price (Ok c)) ground.1, ground.2);
      equal = refused 22 ∙ u.equal;
      no_sale = λ is. u.no_sale (sym (refused 16) ∙ is);
      printed = λ p has ok. lines-closed n p (ledger_of life) call answer rows u lived.agrees.same_orders (close_at call p has) (sym accepted ∙ ok);
      ends = refused 7 ∙ lived.lawful.ends.1;
    }

-- so are those of a message that does not read
unread_upheld : (n : ℕ) (L : Ledger) (closed : Bool) (fault : MessageFault) (rows : List Row) → message_question fault < 7
    → UpheldMessage (lines_of n (of_message (Err fault)) rows) L closed n (Err fault)
unread_upheld n L closed fault rows early =
    let refused : (q : ℕ) → 7 ≤ q → refused_on (lines_of n (of_message (Err fault)) rows) n q ≡ false =
    λ q above. lines-refuse_with n q (Err fault) rows ∙ refused-unread fault early q above in
    record {
      unread = λ none. lines-accept n (Err fault) rows;
      unfillable = λ is. absurd (true≢false (sym is ∙ refused 21 (omega arith)));
      equal = refused 22 (omega arith);
      no_sale = λ is. absurd (true≢false (sym is ∙ refused 16 (omega arith)));
      printed = λ p has. absurd cc;
      ends = refused 7 (omega arith);
    }

-- a close reads
close_reads : (reading : Reading) (p : ℕ) → close_price reading ≡ Some p → is_ok reading ≡ true
close_reads (Ok call) p has = refl
close_reads (Err fault) p has = absurd cc

-- where the other lines of a tape do not refuse message n
module _ (before here after : List Line) (n : ℕ) (none_before : list_any (refuses n) before ≡ false)
    (none_after : list_any (refuses n) after ≡ false) where
  -- the tape accepts it, or refuses it with a question, where its own lines do
  whole_accepts : accepted_on (before ++ (here ++ after)) n ≡ accepted_on here n
  whole_accepts = ap not (between (refuses n) before here after none_before none_after)

  whole_refuses : (q : ℕ) → refused_on (before ++ (here ++ after)) n q ≡ refused_on here n q
  whole_refuses q = between (refuses_with n q) before here after (none-refuse_with n q before none_before) (none-refuse_with n q after none_after)

  -- it is upheld as on its own lines, where those before tell of no close unless one was accepted, and those after of none if one has been
  whole_upheld : (L : Ledger) (closed : Bool) (reading : Reading) → (closed ≡ false → filter is_of_close before ≡ [])
      → ((closed || (is_close reading && accepted_on here n)) ≡ true → filter is_of_close after ≡ [])
      → UpheldMessage here L closed n reading → UpheldMessage (before ++ (here ++ after)) L closed n reading
  whole_upheld L closed reading silent_before silent_after u =
      record {
        unread = λ none. whole_accepts ∙ u.unread none;
        unfillable = λ is. u.unfillable (sym (whole_refuses 21) ∙ is);
        equal = whole_refuses 22 ∙ u.equal;
        no_sale = λ is. u.no_sale (sym (whole_refuses 16) ∙ is);
        printed = λ p has ok.
            let ok_here : accepted_on here n ≡ true = sym whole_accepts ∙ ok in
            let reads = close_reads reading p has in
            let is : is_close reading ≡ true = ap is_some has in
            let unrefused = not-true (list_any (refuses n) here) ok_here in
            let undone : (is_ok reading && closed) ≡ false = sym u.ends ∙ none-refuse_with n 7 here unrefused in
            let still : closed ≡ false = rw reads at undone in
            let done : (closed || (is_close reading && accepted_on here n)) ≡ true = rw (is, ok_here) (or_right closed true refl) in
            let c = u.printed p has ok_here in
            let says = only_here is_of_close before here after (silent_before still) (silent_after done) ∙ c.says in
            record { volume = c.volume; shares = c.shares; says = says; filled = c.filled };
        ends = whole_refuses 7 ∙ u.ends;
      }

-- a life has led to a stage
abbrev LivedTo : Life → Stage → Type 0
LivedTo life st = Lived life st.moment.state (kept st.moment.orders) (kept st.moment.notices)

-- the life after a message that reads so
abbrev life_after : Life → Stage → Reading → Life
life_after life st (Ok call) = later life call (answer_at st.moment st.work call)
life_after life st (Err fault) = life

-- once it is closed it stays so
stays_closed : (life : Life) (st : Stage) (reading : Reading) → was_closed life ≡ true → was_closed (life_after life st reading) ≡ true
stays_closed life st (Ok call) closed = or_left (was_closed life) _ closed
stays_closed life st (Err fault) closed = closed

was_open : (life : Life) (st : Stage) (reading : Reading) → was_closed (life_after life st reading) ≡ false → was_closed life ≡ false
was_open life st (Ok call) none = (or_parts (was_closed life) _ none).0
was_open life st (Err fault) none = none

-- what stands before the lines of message n: it refuses neither the header, nor that message or a later one, and tells of no close unless one was accepted
record Before (lines : List Line) (n : ℕ) (closed : Bool) : Type 0 where
  some : 1 ≤ n
  none : (k : ℕ) → (k ≡ 0) ⊎ (n ≤ k) → list_any (refuses k) lines ≡ false
  silent : closed ≡ false → filter is_of_close lines ≡ []

-- a header is refused with a question of the file
abbrev OfHeader : Result (List ℕ) FileFault → Type 0
OfHeader (Ok body) = Unit {0}
OfHeader (Err fault) = file_question fault ≤ 3

of_ask : (answer : Bool) (fault : FileFault) (rest : Result (List ℕ) FileFault) → file_question fault ≤ 3 → OfHeader rest → OfHeader (ask answer fault rest)
of_ask true fault rest own follows = follows
of_ask false fault rest own follows = own

of_header : (file : List ℕ) → OfHeader (body_of file)
of_header file =
    let body : Result (List ℕ) FileFault = Ok (drop 5 file) in
    let of_version : OfHeader (ask (begin_with version (drop 3 file)) OtherVersion body) = of_ask (begin_with version (drop 3 file)) OtherVersion body (omega arith) tt in
    of_ask (begin_with mark file) NoMark (ask (begin_with version (drop 3 file)) OtherVersion body) (omega arith) of_version

module _ (lot : ℕ) (meaning : ℕ → List ℕ → List ℕ) where
  -- the lines of message n and of later ones refuse none before it
  later_lines : (k n : ℕ) (st : Stage) (ms : List (List ℕ)) → k < n → list_any (refuses k) (message_lines lot meaning st n ms) ≡ false
  later_lines k n st [] before = refl
  later_lines k n st (m ∷ ms) before =
      let after = stage_left meaning st m in
      let other : k ≢ n = λ e. omega (arith, e) in
      let here = lines-other k n (reply_to st m) (rows_at after) other in
      cond_both (is_message n m) _ _ (λ (lines : List Line). list_any (refuses k) lines ≡ false)
      (λ whole. rw list_any-append (or_from _ _ here (later_lines k (n + 1) after ms (omega arith))))
      (λ cut. rw (ne_eqb n k (λ e. other (sym e))) refl)

  -- the lines of message n, which reads so
  abbrev lines_read : Stage → ℕ → Reading → List Line
  lines_read st n reading = lines_of n (of_message (reply_to_reading st reading)) (rows_at (stage_after_reading meaning st reading))

  -- they say which ledger it leaves
  noted-life : (n : ℕ) (life : Life) (st : Stage) (reading : Reading)
      → noted_message (ledger_of life) reading (accepted_on (lines_read st n reading) n) ≡ ledger_of (life_after life st reading)
  noted-life n life st (Ok call) =
      let answer = answer_at st.moment st.work call in
      ap (fed (ledger_of life) call) (lines-accept n (of_session answer) (rows_at (stage_after_reading meaning st (Ok call))) ∙ accepted-session answer)
  noted-life n life st (Err fault) = refl

  -- they tell of no close where none has been accepted
  silent_open : (n : ℕ) (life : Life) (st : Stage) (reading : Reading) → was_closed (life_after life st reading) ≡ false
      → filter is_of_close (lines_read st n reading) ≡ []
  silent_open n life st (Ok call) none = lines-silent n _ _ (or_parts (was_closed life) _ none).1
  silent_open n life st (Err fault) none = refl

  -- so it is before the next one
  next_before : (before : List Line) (n : ℕ) (life : Life) (st : Stage) (reading : Reading) → Before before n (was_closed life)
      → Before (before ++ lines_read st n reading) (n + 1) (was_closed (life_after life st reading))
  next_before before n life st reading b =
      let earlier : (k : ℕ) → (k ≡ 0) ⊎ (n + 1 ≤ k) → (k ≡ 0) ⊎ (n ≤ k) = λ k other. elim other [ inl zeroth ↦ inl zeroth | inr above ↦ inr (omega (arith, above)) ] in
      let unlike : (k : ℕ) → (k ≡ 0) ⊎ (n + 1 ≤ k) → k ≡ n → ⊥ = λ k other e. elim other [ inl zeroth ↦ omega (arith, zeroth, e, b.some) | inr above ↦ omega (arith, above, e) ] in
      record {
        some = omega arith;
        none = λ k other. rw list_any-append (or_from _ _ (b.none k (earlier k other)) (lines-other k n (reply_to_reading st reading) _ (λ e. unlike k other e)));
        silent = λ none. rw (filter-append is_of_close before, b.silent (was_open life st reading none), silent_open n life st reading none) refl;
      }

  module _ (divides : Divides meaning) where
    -- a life goes on with a message
    lived_after : (life : Life) (st : Stage) (reading : Reading) → LivedTo life st
        → LivedTo (life_after life st reading) (stage_after_reading meaning st reading)
    lived_after life st (Ok call) old = call_carries st.moment st.work meaning divides call life old
    lived_after life st (Err fault) old = old

    -- it is closed then where it was before, or the message is an accepted close
    closed-life : (n : ℕ) (life : Life) (st : Stage) (reading : Reading) → LivedTo life st
        → (was_closed life || (is_close reading && accepted_on (lines_read st n reading) n)) ≡ was_closed (life_after life st reading)
    closed-life n life st (Ok call) old =
        let answer = answer_at st.moment st.work call in
        rw (
          lines-accept n (of_session answer) (rows_at (stage_after_reading meaning st (Ok call))),
          accepted-session answer,
          close-print (ledger_of life) call _ answer (lived_after life st (Ok call) old).upheld.1,
        ) refl
    closed-life n life st (Err fault) old = or-false (was_closed life)

    -- the message is upheld on its lines
    reading_upheld : (n : ℕ) (life : Life) (st : Stage) (reading : Reading) → FailsEarly reading → LivedTo life st
        → UpheldMessage (lines_read st n reading) (ledger_of life) (was_closed life) n reading
    reading_upheld n life st (Ok call) read old = call_upheld n life call (answer_at st.moment st.work call) _ _ _ (lived_after life st (Ok call) old)
    reading_upheld n life st (Err fault) read old = unread_upheld n (ledger_of life) (was_closed life) fault (rows_at st) (read.early fault refl)

    -- after a close no line tells of one
    silent_closed : (n : ℕ) (life : Life) (st : Stage) (reading : Reading) → LivedTo life st → was_closed life ≡ true
        → filter is_of_close (lines_read st n reading) ≡ []
    silent_closed n life st (Ok call) old closed =
        let answer = answer_at st.moment st.work call in
        lines-silent n answer _ (refused_no_print 7 answer ((lived_after life st (Ok call) old).lawful.ends.1 ∙ closed))
    silent_closed n life st (Err fault) old closed = refl

    later_silent : (n : ℕ) (life : Life) (st : Stage) (ms : List (List ℕ)) → LivedTo life st → was_closed life ≡ true
        → filter is_of_close (message_lines lot meaning st n ms) ≡ []
    later_silent n life st [] old closed = refl
    later_silent n life st (m ∷ ms) old closed =
        let reading = decoded m in
        let after = stage_left meaning st m in
        let rest = later_silent (n + 1) (life_after life st reading) after ms (lived_after life st reading old) (stays_closed life st reading closed) in
        cond_both (is_message n m) _ _ (λ (lines : List Line). filter is_of_close lines ≡ [])
        (λ whole. rw (filter-append is_of_close (lines_at meaning st n m), silent_closed n life st reading old closed) rest)
        (λ cut. refl)

    -- on a tape that begins so, each message from message n on is upheld
    each_upheld : (tape before : List Line) (n : ℕ) (life : Life) (st : Stage) (ms : List (List ℕ)) → LivedTo life st
        → Before before n (was_closed life) → tape ≡ before ++ message_lines lot meaning st n ms
        → EachUpheld tape (ledger_of life) (was_closed life) n (handled n ms)
    each_upheld tape before n life st [] old b is = (λ none. rw (is, append-nil before) (b.silent none), λ k q other high. rw (is, append-nil before) (none-refuse_with k q before (b.none k other)))
    each_upheld tape before n life st (m ∷ ms) old b is =
        let reading = decoded m in
        let after = stage_left meaning st m in
        let next = life_after life st reading in
        let here = lines_at meaning st n m in
        let rest = message_lines lot meaning after (n + 1) ms in
        let lived = lived_after life st reading old in
        let closed = closed-life n life st reading old in
        let none_before = b.none n (inr (omega arith)) in
        let none_after = later_lines n (n + 1) after ms (omega arith) in
        elim (cases_Bool (is_message n m)) [
          | inl whole ↦
              let split : tape ≡ before ++ (here ++ rest) = rw whole at is in
              let accepted : accepted_on tape n ≡ accepted_on here n = rw split (whole_accepts before here rest n none_before none_after) in
              let upheld = reading_upheld n life st reading (decoded_early m) old in
              let silent_after = λ (done : (was_closed life || (is_close reading && accepted_on here n)) ≡ true).
              later_silent (n + 1) next after ms lived (sym closed ∙ done) in
              let so_far = next_before before n life st reading b in
              let again = split ∙ sym (append_assoc before here rest) in
              rw whole (
                rw split (whole_upheld before here rest n none_before none_after (ledger_of life) (was_closed life) reading b.silent silent_after upheld),
                rw (accepted, noted-life n life st reading, closed) (each_upheld tape (before ++ here) (n + 1) next after ms lived so_far again),
              )
          | inr cut ↦
              let end : tape ≡ before ++ (Refusal n NoMessage ∷ []) = rw cut at is in
              let file_asks : (k q : ℕ) → 3 < q → refused_on (Refusal n NoMessage ∷ []) k q ≡ false =
              λ k q high. rw (ne_eqb 3 q (λ e. omega (arith, high, e)), and_right (eqb n k) false refl) refl in
              rw cut (
                λ none. rw (end, filter-append is_of_close before, b.silent none) refl,
                λ k q other high. rw (end, list_any-append) (or_from _ _ (none-refuse_with k q before (b.none k other)) (file_asks k q high)),
              )
        ]

    -- the tape of what follows a header, or of its refusal, is upheld
    after_header_upheld : (st : Stage) → Opened st.moment → (body : Result (List ℕ) FileFault) → OfHeader body
        → UpheldTape (handled_after_header body) (lines_after_header lot meaning st body)
    after_header_upheld st o (Ok body) asks =
        let began : LivedTo begun st = rw (o.at_start, o.no_orders, o.no_notices) begun_life in
        each_upheld _ (Lot lot ∷ []) 1 begun st (messages_of body) began (record { some = omega arith; none = λ k other. refl; silent = λ none. refl }) refl
    after_header_upheld st o (Err fault) asks =
        (λ none. refl, λ k q other high. rw (ne_eqb (file_question fault) q (λ e. omega (arith, high, e, asks)), and_right (eqb 0 k) false refl) refl)

-- the tape of every file is upheld
pub tape_upheld : (lot : ℕ) (meaning : ℕ → List ℕ → List ℕ) → Divides meaning → (places : Places) (file : List ℕ) → UpheldTape (messages_in file) (lines_of_file lot meaning places file)
tape_upheld lot meaning divides places file =
    let l = blank_lists places in
    after_header_upheld lot meaning divides (opening l) (opens l.orders l.notices l.claims l.gifts) (body_of file) (of_header file)
