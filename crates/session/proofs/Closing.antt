-- What a close keeps: agreement with every ledger, that its answer is upheld, and what holds of every life. Assumes nothing.
use Rattle.std.proofs.Common.{◌≡◌, ℕ, true, false, not, List, map, None, Some, Option, Ok, Err, Result, is_ok, refl, sym, ap, subst, ◌∙◌, true≢false}
use Rattle.std.specs.List.{AllPass}
use Rattle.std.specs.Option.{option_map_or}
use Rattle.std.specs.Prelude.{IsSomeAnd}
use Rattle.std.proofs.lemmas.Bool.{not-true, not-false}
use Rattle.list.specs.declared.List.{List as Held}
use Rattle.list.specs.Held.{kept}
use Rattle.sharing.specs.Shares.{Divides}
use Rattle.order.specs.declared.kind.Row.{Row}
use Rattle.order.specs.declared.sale.Sale.{Sale as LastSale}
use Rattle.order.specs.declared.ticket.Ticket.{Ticket}
use Rattle.order.specs.Entered.{entered_row}
use Rattle.order.specs.Kinds.{is_price}
use Rattle.order.specs.Rows.{sound}
use Rattle.book.specs.declared.entry.Entry.{Entry}
use Rattle.book.specs.Answers.{have_room, gifts_of, list_after}
use Rattle.book.specs.Entries.{entries, orders_at}
use Rattle.book.specs.Fill.{asked, claims_of, fills_of}
use Rattle.book.specs.Theorem.{NoAssignment, Filled}
use Rattle.book.specs.Volume.{traded, unfillable}
use Rattle.book.proofs.Stands.{Divided, divided_by, none, stands}
use Rattle.clock.specs.declared.table.Event.TheVariants as event
use Rattle.session.specs.declared.call.Call.TheVariants.{Close}
use Rattle.session.specs.declared.call.Outcome.TheVariants.{Printed}
use Rattle.session.specs.declared.call.Print.{Print}
use Rattle.session.specs.declared.fault.SessionFault.{SessionFault}
use Rattle.session.specs.declared.fault.SessionFault.TheVariants.{Done, OutOfLimits, NotNow, NoSale, NoPlace, Unfillable}
use Rattle.session.specs.declared.notice.Notice.{Notice}
use Rattle.session.specs.Agreement.{Agrees, KeepsLedger}
use Rattle.session.specs.Answers.{at_price, lets_now, close_answer}
use Rattle.session.specs.Changes.{if_accepted, as_done, with_fills}
use Rattle.session.specs.Ledgers.{Ledger}
use Rattle.session.specs.Laws.{KeepsLife}
use Rattle.session.specs.Lives.{ledger_of, was_closed}
use Rattle.session.specs.Questions.{refused_with}
use Rattle.session.specs.Replies.{Answer, print_answer_of}
use Rattle.session.specs.States.{State}
use Rattle.session.specs.Upheld.{UpheldBy, HoldsAt, ledger_orders, filled_shares}
use Rattle.session.proofs.Asking.{yes-from_ask, some-from_ask_for, ask-other, ask_for-other, past-ask, past-ask_for, no-from_ask, none-from_ask_for, ask-done}
use Rattle.session.proofs.Given.{Given, given, entries-tickets}
use Rattle.session.proofs.Steps.{refused_life}
use Rattle.session.proofs.Upheld.{all_upheld_with}

-- what holds of the orders of a list at a price holds of those of a ledger that agrees
holds_at : (L : Ledger) (s : State) (rows : List Row) (p : ℕ) (last : LastSale) (Says : List Entry → Type 0) → Agrees L s rows → s.sale ≡ Some last → Says (entries (at_price p last) rows) → HoldsAt L p Says
holds_at L s rows p last Says old sold holds =
    let same : entries (at_price p last) rows ≡ ledger_orders L p last =
    entries-tickets (at_price p last) rows old.all_sound ∙ ap (λ (orders : List Ticket). entries (at_price p last) (map entered_row orders)) old.same_orders in
    subst (λ (o : Option LastSale). IsSomeAnd o (λ x. Says (ledger_orders L p x))) (sym (sym old.same_sale ∙ sold)) (subst Says same holds)

module _ (s : State) (l : Held Row) (claims gifts : List ℕ) (p : ℕ) where
  -- the questions of an accepted close, all answered yes, and its answer
  record Closed (print : Print) : Type 0 where
    undone : s.done ≡ false
    last : LastSale
    sold : s.sale ≡ Some last
    fits : unfillable (orders_at l (at_price p last)) ≡ false
    its_price : print.price ≡ p
    its_volume : print.volume ≡ traded (orders_at l (at_price p last))

  closed : (print : Print) → close_answer s l claims gifts p ≡ Ok print → Closed print
  closed print e =
      let done = yes-from_ask {T = Print} (not s.done) Done _ print e in
      let price = yes-from_ask {T = Print} (is_price p) OutOfLimits _ print done.1 in
      let now = yes-from_ask {T = Print} (lets_now s event.Close) NotNow _ print price.1 in
      let sale = some-from_ask_for {T = Print} s.sale NoSale _ print now.1 in
      let room = yes-from_ask {T = Print} (have_room l claims gifts) NoPlace _ print sale.2 in
      let fits = yes-from_ask {T = Print} (not (unfillable (orders_at l (at_price p sale.0)))) Unfillable _ print room.1 in
      let its : record { price = p; volume = traded (orders_at l (at_price p sale.0)) } ≡ print = cc (fits.1) in
      record {
        undone = not-true _ done.0;
        last = sale.0;
        sold = sale.1;
        fits = not-true _ fits.0;
        its_price = sym (ap (λ (x : Print). x.price) its);
        its_volume = sym (ap (λ (x : Print). x.volume) its);
      }

  -- a close is refused as done just where the session is
  close_ends : refused_with 7 (close_answer s l claims gifts p) ≡ s.done
  close_ends =
      ask-done s.done _ (ask-other 7 (is_price p) OutOfLimits _ refl (ask-other 7 (lets_now s event.Close) NotNow _ refl (ask_for-other 7 s.sale NoSale _ refl (λ last.
      ask-other 7 (have_room l claims gifts) NoPlace _ refl (ask-other 7 (not (unfillable (orders_at l (at_price p last)))) Unfillable _ refl refl)))))

  -- it never says that claims and gifts differ in length
  never_unequal : refused_with 22 (close_answer s l claims gifts p) ≡ false
  never_unequal =
      ask-other 22 (not s.done) Done _ refl (ask-other 22 (is_price p) OutOfLimits _ refl (ask-other 22 (lets_now s event.Close) NotNow _ refl (ask_for-other 22 s.sale NoSale _ refl (λ last.
      ask-other 22 (have_room l claims gifts) NoPlace _ refl (ask-other 22 (not (unfillable (orders_at l (at_price p last)))) Unfillable _ refl refl)))))

  -- a sale is said to be missing where there is none
  no_sale : refused_with 16 (close_answer s l claims gifts p) ≡ true → s.sale ≡ None
  no_sale e =
      let done = past-ask 16 (not s.done) Done _ refl e in
      let price = past-ask 16 (is_price p) OutOfLimits _ refl done in
      let now = past-ask 16 (lets_now s event.Close) NotNow _ refl price in
      none-from_ask_for 16 s.sale NoSale _ (λ last. ask-other 16 (have_room l claims gifts) NoPlace _ refl (ask-other 16 (not (unfillable (orders_at l (at_price p last)))) Unfillable _ refl refl)) now

  -- a price is called unfillable where there is no assignment
  no_assignment : refused_with 21 (close_answer s l claims gifts p) ≡ true → (last : LastSale) × (s.sale ≡ Some last) × NoAssignment (orders_at l (at_price p last))
  no_assignment e =
      let done = past-ask 21 (not s.done) Done _ refl e in
      let price = past-ask 21 (is_price p) OutOfLimits _ refl done in
      let now = past-ask 21 (lets_now s event.Close) NotNow _ refl price in
      let sale = past-ask_for 21 s.sale NoSale _ refl now in
      let room = past-ask 21 (have_room l claims gifts) NoPlace _ refl sale.2 in
      let fits = no-from_ask 21 (not (unfillable (orders_at l (at_price p sale.0)))) Unfillable _ refl room in
      (sale.0, sale.1, none (orders_at l (at_price p sale.0)) (not-false _ fits))

  -- a refused close is upheld
  refused_upheld : (fault : SessionFault) → close_answer s l claims gifts p ≡ Err fault → (L : Ledger) → Agrees L s (kept l) → (shares : List ℕ) → UpheldBy L (Close p) (Err fault) shares
  refused_upheld fault e L old shares =
      record {
        unfillable = λ is. let found = no_assignment (ap (refused_with 21) e ∙ is) in (p, refl, holds_at L s (kept l) p found.0 NoAssignment old found.1 found.2);
        equal = sym (ap (refused_with 22) e) ∙ never_unequal;
        no_sale = λ is. sym old.same_sale ∙ no_sale (ap (refused_with 16) e ∙ is);
        printed = λ print is. absurd cc;
        completed = λ q is ok. ok;
      }

  -- what an accepted close leaves, shared by a method of the meaning m: the rows have been given shares that fill the orders with the volume
  record Left (m : ℕ → List ℕ → List ℕ) (print : Print) : Type 0 where
    was : Closed print
    shares : List ℕ
    rows : Given (kept l) (kept (with_fills m s p l)) shares
    fills : Filled (orders_at l (at_price p was.last)) shares print.volume

  left : (m : ℕ → List ℕ → List ℕ) → Divides m → (print : Print) → Closed print → AllPass sound (kept l) → Left m print
  left m divides print was all_sound =
      let orders = orders_at l (at_price p was.last) in
      let gifts_are = gifts_of m orders in
      let divided : Divided (asked orders) (claims_of orders) gifts_are =
      divided_by (asked orders) (claims_of orders) gifts_are (divides.paired _ _) (divides.within _ _) (divides.spends _ _) in
      let fills = stands orders gifts_are divided was.fits in
      let rows = given (at_price p was.last) l (fills_of orders gifts_are) all_sound fills.assigned in
      let after : with_fills m s p l ≡ list_after l (fills_of orders gifts_are) =
      ap (λ o. option_map_or (λ last. list_after l (fills_of (orders_at l (at_price p last)) (gifts_of m (orders_at l (at_price p last))))) o l) was.sold in
      record {
        was = was;
        shares = fills_of orders gifts_are;
        rows = subst (λ (k : Held Row). Given (kept l) (kept k) (fills_of orders gifts_are)) (sym after) rows;
        fills = subst (λ v. Filled orders (fills_of orders gifts_are) v) (sym was.its_volume) fills;
      }

  module _ (m : ℕ → List ℕ → List ℕ) (divides : Divides m) (print : Print) (e : close_answer s l claims gifts p ≡ Ok print) where
    is_left : AllPass sound (kept l) → Left m print
    is_left = left m divides print (closed print e)

    close_ledger : KeepsLedger (Close p) true s (kept l) (as_done s) (kept (with_fills m s p l))
    close_ledger = λ L old.
        let is = is_left old.all_sound in
        record { same_orders = is.rows.same_tickets ∙ old.same_orders; same_sale = old.same_sale; all_sound = is.rows.all_sound }

    -- it is upheld
    close_upheld : (L : Ledger) → Agrees L s (kept l) → UpheldBy L (Close p) (Ok (Printed print)) (filled_shares (kept (with_fills m s p l)))
    close_upheld L old =
        let is = is_left old.all_sound in
        let price = is.was.its_price in
        let shares = filled_shares (kept (with_fills m s p l)) in
        let fills : HoldsAt L p (λ orders. Filled orders shares print.volume) =
        rw (is.rows.filled) (holds_at L s (kept l) p is.was.last (λ (orders : List Entry). Filled orders is.shares print.volume) old is.was.sold is.fills) in
        record {
          unfillable = λ no. absurd (true≢false (sym no));
          equal = refl;
          no_sale = λ no. absurd (true≢false (sym no));
          printed = λ other same. subst (λ (x : Print). (Close p ≡ Close x.price) × HoldsAt L x.price (λ orders. Filled orders shares x.volume)) (same_print same) (rw price (refl, fills));
          completed = λ q other yes. refl;
        }
      where
        same_print : {other : Print} → ◌≡◌ {A = Answer} (Ok (Printed print)) (Ok (Printed other)) → print ≡ other
        same_print e = cc

    close_life : (notices : List Notice) → KeepsLife (Close p) (Ok (Printed print)) s (kept l) notices (as_done s) (kept (with_fills m s p l)) notices
    close_life notices = λ life old.
        let undone : was_closed life ≡ false = sym old.same_end ∙ (closed print e).undone in
        record {
          agrees = close_ledger (ledger_of life) old.agrees;
          same_time = old.same_time;
          same_notices = old.same_notices;
          same_end = rw undone refl;
          upheld = (all_upheld_with life _ _ undone old.upheld, close_upheld (ledger_of life) old.agrees);
          lawful = record {
            once = old.lawful.once;
            heeded = (old.lawful.heeded, λ _. tt);
            marked = old.lawful.marked;
            one_mandatory = old.lawful.one_mandatory;
            ends = (old.lawful.ends, sym undone);
          };
        }

  -- what holds of a close with the answer r, which leaves the session s' and the list l'
  pub record Closes (r : Result Print SessionFault) (s' : State) (l' : Held Row) : Type 0 where
    pub ledger : KeepsLedger (Close p) (is_ok r) s (kept l) s' (kept l')
    pub upheld : (L : Ledger) → Agrees L s (kept l) → UpheldBy L (Close p) (print_answer_of r) (filled_shares (kept l'))
    pub life : (notices : List Notice) → KeepsLife (Close p) (print_answer_of r) s (kept l) notices s' (kept l') notices

  closes-by : (m : ℕ → List ℕ → List ℕ) → Divides m → (r : Result Print SessionFault) → close_answer s l claims gifts p ≡ r → Closes r (if_accepted r (as_done s) s) (if_accepted r (with_fills m s p l) l)
  closes-by m divides (Ok print) e = record { ledger = close_ledger m divides print e; upheld = close_upheld m divides print e; life = close_life m divides print e }
  closes-by m divides (Err fault) e =
      record {
        ledger = λ L old. old;
        upheld = λ L old. refused_upheld fault e L old (filled_shares (kept l));
        life = λ notices.
            refused_life (Close p) fault s (kept l) notices (sym (ap (refused_with 7) e) ∙ close_ends)
            (λ L old. refused_upheld fault e L old (filled_shares (kept l)));
      }

  pub closes : (m : ℕ → List ℕ → List ℕ) → Divides m → (r : Result Print SessionFault) (s' : State) (l' : Held Row)
      → r ≡ close_answer s l claims gifts p → s' ≡ if_accepted r (as_done s) s → l' ≡ if_accepted r (with_fills m s p l) l → Closes r s' l'
  closes m divides r s' l' answer_is state_is list_is = rw (state_is, list_is) (closes-by m divides r (sym answer_is))
