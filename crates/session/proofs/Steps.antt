-- What each call keeps: agreement with every ledger, and what holds of every life. Assumes nothing.
use Rattle.std.proofs.Common.{◌≡◌, ◌≢◌, ℕ, ℤ, ◌+◌, ◌<◌, ◌≤◌, Bool, true, false, not, ◌&&◌, ◌||◌, cond, List, [], ◌∷◌, ◌++◌, length, get_or, set, Some, None, Option, Ok, Err, is_ok, refl, sym, ap, subst, ◌∙◌, is_some, true≢false, arith}
use Rattle.std.specs.List.{remove}
use Rattle.std.proofs.lemmas.Bool.{not-true, and_parts, or_parts}
use Rattle.std.proofs.lemmas.List.{map-append}
use Rattle.std.proofs.lemmas.List.Elements.{All-nil, All-push, All-set}
use Rattle.std.proofs.lemmas.List.Quantifiers.{all_pairs_push}
use Rattle.std.proofs.lemmas.List.Sums.{sum_by-append, sum_by-cons}
use Rattle.order.specs.declared.kind.Row.{Row}
use Rattle.order.specs.declared.sale.Quote.{Quote as AQuote}
use Rattle.order.specs.declared.sale.Sale.{Sale as LastSale}
use Rattle.order.specs.declared.ticket.Ticket.{Ticket}
use Rattle.order.specs.Entered.{ticket_of, entered_row}
use Rattle.order.specs.Kinds.{is_size}
use Rattle.order.specs.Rows.{sound, resized}
use Rattle.order.specs.Sales.{sale_after}
use Rattle.book.specs.Imbalance.{amount_of}
use Rattle.book.specs.Listing.{is_listed}
use Rattle.book.proofs.Listing.{FirstNumbered}
use Rattle.clock.specs.declared.table.Event.TheVariants.{In, Publication as APublication}
use Rattle.clock.specs.Phases.{is_late}
use Rattle.clock.specs.Table.{wants_notice}
use Rattle.clock.proofs.Late.{late_wants_notice}
use Rattle.session.specs.declared.call.Call.TheVariants.{Time, Sale, Quote, Entry, Cancel, Reduction, Publication}
use Rattle.session.specs.declared.call.Call.{Call}
use Rattle.session.specs.declared.call.Outcome.{Outcome}
use Rattle.session.specs.declared.call.Outcome.TheVariants.{Taken, Published}
use Rattle.session.specs.declared.fault.SessionFault.{SessionFault}
use Rattle.session.specs.declared.fault.SessionFault.TheVariants.{Done, NotNow, NoSale, AlreadyMandatory, Insignificant, NoticesFull}
use Rattle.session.specs.declared.notice.Notice.{Notice}
use Rattle.session.specs.declared.orders.Found.{Found}
use Rattle.session.specs.Agreement.{Agrees, KeepsLedger}
use Rattle.session.specs.Answers.{allowance_of, lets_now, listed_at, entry_answer, cancel_answer, reduction_answer, publication_answer}
use Rattle.session.specs.Changes.{at_time, after_sale, after_quote}
use Rattle.session.specs.Ledgers.{Ledger, noted, without_first, with_first_sized}
use Rattle.session.specs.Lives.{Life, begun, later, ledger_of, time_after, time_of, notices_of, was_closed}
use Rattle.session.specs.Laws.{Lived, KeepsLife, Heeds, AllUpheld, HaveOwnNumbers, mandatory_count, numbers}
use Rattle.session.specs.Notices.{reference_of, notice_of, is_faced, has_mandatory, is_notable}
use Rattle.session.specs.Questions.{refused_with}
use Rattle.session.specs.Replies.{Answer, accepted, is_print}
use Rattle.session.specs.States.{State, opened}
use Rattle.session.specs.Upheld.{UpheldBy, filled_shares}
use Rattle.session.proofs.Asking.{yes-from_ask, some-from_ask_for}
use Rattle.session.proofs.Grounds.{Grounds}
use Rattle.session.proofs.Upheld.{is_close, all_upheld_with, other_upheld, refusal_upheld}
use Rattle.session.proofs.Rows.{without-rows, sized-rows, new-number, once-without, numbers-sized, sound-entered, sound-resized, all_sound-without}

-- the questions of an accepted entry, all answered yes
pub record Entered (s : State) (rows : List Row) (full : Bool) (notices : List Notice) (t : Ticket) : Type 0 where
  pub fits : sound (entered_row t) ≡ true
  pub lets : lets_now s (In t.kind) ≡ true
  pub heeds : (not (wants_notice (allowance_of s (In t.kind))) || is_faced t.side notices) ≡ true
  pub unlisted : is_listed t.number rows ≡ false
  pub has_place : full ≡ false

pub entered : (s : State) (rows : List Row) (full : Bool) (notices : List Notice) (t : Ticket) → entry_answer s rows full notices t ≡ accepted → Entered s rows full notices t
entered s rows full notices t e =
    let done = yes-from_ask _ _ _ _ e in
    let fits = yes-from_ask _ _ _ _ done.1 in
    let lets = yes-from_ask _ _ _ _ fits.1 in
    let heeds = yes-from_ask _ _ _ _ lets.1 in
    let unlisted = yes-from_ask _ _ _ _ heeds.1 in
    let room = yes-from_ask _ _ _ _ unlisted.1 in
    record { fits = sound-entered t fits.0; lets = lets.0; heeds = heeds.0; unlisted = not-true _ unlisted.0; has_place = not-true _ room.0 }

-- what an accepted cancel found
pub found-from_cancel : (s : State) (rows : List Row) (n : ℕ) (in_error : Bool) → cancel_answer s rows n in_error ≡ accepted → (found : Found) × (listed_at n rows ≡ Some found)
found-from_cancel s rows n in_error e =
    let done = yes-from_ask _ _ _ _ e in
    let fits = yes-from_ask _ _ _ _ done.1 in
    let found = some-from_ask_for _ _ _ _ fits.1 in
    (found.0, found.1)

-- what an accepted reduction found, and that its size fits
pub found-from_reduction : (s : State) (rows : List Row) (n size : ℕ) (in_error : Bool) → reduction_answer s rows n size in_error ≡ accepted → (found : Found) × (listed_at n rows ≡ Some found) × (is_size size ≡ true)
found-from_reduction s rows n size in_error e =
    let done = yes-from_ask _ _ _ _ e in
    let fits = yes-from_ask _ _ _ _ done.1 in
    let found = some-from_ask_for _ _ _ _ fits.1 in
    (found.0, found.1, (and_parts _ _ fits.0).1)

none-listed : (o : Option ℕ) → is_some o ≡ false → o ≡ None
none-listed None e = refl
none-listed (Some place) e = absurd (true≢false e)

is_faced-from_or : (wants is : Bool) → (not wants || is) ≡ true → wants ≡ true → is ≡ true
is_faced-from_or true is e w = e
is_faced-from_or false is e w = absurd (true≢false (sym w))

-- each of some orders has another number than n
abbrev HaveOthers : ℕ → List Ticket → Type 0
HaveOthers n orders = (k d : ℕ) → k < length (numbers orders) → get_or (numbers orders) k d ≢ n

once-push : (orders : List Ticket) (t : Ticket) → HaveOthers t.number orders → HaveOwnNumbers orders → HaveOwnNumbers (orders ++ t ∷ [])
once-push orders t others once = rw (map-append (λ (u : Ticket). u.number) orders (t ∷ [])) (all_pairs_push (λ m n. m ≢ n) (numbers orders) t.number once others)

-- a call other than a close, accepted by a session that is not done
module _ (life : Life) (call : Call) (outcome : Outcome) (other : is_close call ≡ false) (no_print : is_print (Ok outcome) ≡ false) (undone : was_closed life ≡ false) where
  end_after : was_closed (later life call (Ok outcome)) ≡ false
  end_after = rw (undone, no_print) refl

  upheld_after : (xs ys : List ℕ) → AllUpheld life xs → AllUpheld (later life call (Ok outcome)) ys
  upheld_after xs ys u = (all_upheld_with life xs ys undone u, other_upheld (ledger_of life) call (Ok outcome) ys other no_print (λ e. absurd (true≢false (sym e))) refl refl)

-- an accepted call carries every life on where it keeps the ledger, moves the clock as it says, leaves each order its own number, and heeds the notices
taken_life : (call : Call) → is_close call ≡ false → (s : State) (rows : List Row) (notices : List Notice) (s' : State) (rows' : List Row) → s.done ≡ false → s'.done ≡ false
    → KeepsLedger call true s rows s' rows'
    → ((now : ℕ) → s.time ≡ now → s'.time ≡ time_after now call)
    → ((life : Life) → Lived life s rows notices → HaveOwnNumbers (noted (ledger_of life) call).orders × Heeds life call)
    → KeepsLife call (Ok Taken) s rows notices s' rows' notices
taken_life call other s rows notices s' rows' undone still ledger clock law = λ life old.
    let none : was_closed life ≡ false = sym old.same_end ∙ undone in
    let keeps = law life old in
    record {
      agrees = ledger (ledger_of life) old.agrees;
      same_time = clock (time_of life) old.same_time;
      same_notices = old.same_notices;
      same_end = still ∙ sym (end_after life call Taken other refl none);
      upheld = upheld_after life call Taken other refl none (filled_shares rows) (filled_shares rows') old.upheld;
      lawful = record {
        once = keeps.0;
        heeded = (old.lawful.heeded, λ _. keeps.1);
        marked = old.lawful.marked;
        one_mandatory = old.lawful.one_mandatory;
        ends = (old.lawful.ends, sym none);
      };
    }

-- a session has just opened
pub begun_life : Lived begun opened [] []
begun_life =
    record {
      agrees = record { same_orders = refl; same_sale = refl; all_sound = All-nil (λ r. sound r ≡ true) };
      same_time = refl;
      same_notices = refl;
      same_end = refl;
      upheld = tt;
      lawful = record { once = λ i j d before inside. absurd (omega arith); heeded = tt; marked = tt; one_mandatory = omega arith; ends = tt };
    }

-- the clock moves, a sale or a quote comes in
module _ (s : State) (rows : List Row) (notices : List Notice) (undone : s.done ≡ false) where
  pub time_life : (t : ℕ) → KeepsLife (Time t) (Ok Taken) s rows notices (at_time s t) rows notices
  time_life t =
      taken_life (Time t) refl s rows notices (at_time s t) rows undone undone
      (λ L old. record { same_orders = old.same_orders; same_sale = old.same_sale; all_sound = old.all_sound }) (λ now e. refl) (λ life old. (old.lawful.once, tt))

  pub sale_life : (p : ℕ) → KeepsLife (Sale p) (Ok Taken) s rows notices (after_sale s p) rows notices
  sale_life p =
      taken_life (Sale p) refl s rows notices (after_sale s p) rows undone undone
      (λ L old. record { same_orders = old.same_orders; same_sale = ap (λ (last : Option LastSale). Some (sale_after last p)) old.same_sale; all_sound = old.all_sound })
      (λ now e. e) (λ life old. (old.lawful.once, tt))

  pub quote_life : (q : AQuote) → KeepsLife (Quote q) (Ok Taken) s rows notices (after_quote s q) rows notices
  quote_life q =
      taken_life (Quote q) refl s rows notices (after_quote s q) rows undone undone
      (λ L old. record { same_orders = old.same_orders; same_sale = old.same_sale; all_sound = old.all_sound }) (λ now e. e) (λ life old. (old.lawful.once, tt))

-- an order comes in
module _ (s : State) (rows : List Row) (notices : List Notice) (t : Ticket) (full : Bool) (e : entry_answer s rows full notices t ≡ accepted) where
  pub entry_ledger : KeepsLedger (Entry t) true s rows s (rows ++ entered_row t ∷ [])
  entry_ledger = λ L old.
      record {
        same_orders = map-append ticket_of rows (entered_row t ∷ []) ∙ ap (λ (orders : List Ticket). orders ++ t ∷ []) old.same_orders;
        same_sale = old.same_sale;
        all_sound = All-push (λ r. sound r ≡ true) rows (entered_row t) old.all_sound (entered s rows full notices t e).fits;
      }

  heeds-entry : (life : Life) → Lived life s rows notices → Heeds life (Entry t)
  heeds-entry life old on late =
      let asked = entered s rows full notices t e in
      rw (← old.same_notices) (is_faced-from_or _ _ asked.heeds (late_wants_notice t.kind on s.time (rw (old.same_time) late) asked.lets))

  pub entry_life : s.done ≡ false → KeepsLife (Entry t) (Ok Taken) s rows notices s (rows ++ entered_row t ∷ []) notices
  entry_life undone =
      taken_life (Entry t) refl s rows notices s (rows ++ entered_row t ∷ []) undone undone entry_ledger (λ now e. e)
      (λ life old. (once-push (ledger_of life).orders t (subst (HaveOthers t.number) old.agrees.same_orders (new-number t.number rows old.agrees.all_sound (none-listed _ (entered s rows full notices t e).unlisted))) old.lawful.once, heeds-entry life old))

-- an order goes off
module _ (s : State) (rows : List Row) (n i : ℕ) (in_error : Bool) (f : FirstNumbered n rows i) where
  pub cancel_ledger : KeepsLedger (Cancel n in_error) true s rows s (remove rows i)
  cancel_ledger = λ L old.
      record {
        same_orders = without-rows n rows old.all_sound i f ∙ ap (without_first n) old.same_orders;
        same_sale = old.same_sale;
        all_sound = all_sound-without rows i old.all_sound;
      }

  pub cancel_life : s.done ≡ false → (notices : List Notice) → KeepsLife (Cancel n in_error) (Ok Taken) s rows notices s (remove rows i) notices
  cancel_life undone notices =
      taken_life (Cancel n in_error) refl s rows notices s (remove rows i) undone undone cancel_ledger (λ now e. e)
      (λ life old. (subst (λ (orders : List Ticket). HaveOwnNumbers orders → HaveOwnNumbers (without_first n orders)) old.agrees.same_orders (once-without n rows old.agrees.all_sound i f) old.lawful.once, tt))

-- an order is reduced
module _ (s : State) (rows : List Row) (n i size : ℕ) (d : Row) (in_error : Bool) (f : FirstNumbered n rows i) (fits : is_size size ≡ true) where
  pub reduction_ledger : KeepsLedger (Reduction n size in_error) true s rows s (set rows i (resized (get_or rows i d) size))
  reduction_ledger = λ L old.
      record {
        same_orders = sized-rows n rows old.all_sound i size d f ∙ ap (with_first_sized n size) old.same_orders;
        same_sale = old.same_sale;
        all_sound = All-set (λ r. sound r ≡ true) rows i (resized (get_or rows i d) size) (sound-resized (get_or rows i d) size (f.passes d) fits) old.all_sound;
      }

  pub reduction_life : s.done ≡ false → (notices : List Notice) → KeepsLife (Reduction n size in_error) (Ok Taken) s rows notices s (set rows i (resized (get_or rows i d) size)) notices
  reduction_life undone notices =
      taken_life (Reduction n size in_error) refl s rows notices s (set rows i (resized (get_or rows i d) size)) undone undone reduction_ledger (λ now e. e)
      (λ life old. (rw numbers-sized old.lawful.once, tt))

-- where no notice is mandatory, none is counted
none-counted : (ns : List Notice) → has_mandatory ns ≡ false → mandatory_count ns ≡ 0
none-counted [] none = refl
none-counted (n ∷ ns) none =
    let both = or_parts n.mandatory (has_mandatory ns) none in
    omega (arith, sum_by-cons (λ (m : Notice). cond m.mandatory 1 0) n ns, ap {B = ℕ} (λ (b : Bool). cond b 1 0) both.0, none-counted ns both.1)

at-most-one : (this others : Bool) (count : ℕ) → not (this && others) ≡ true → (others ≡ false → count ≡ 0) → count ≤ 1 → count + cond this 1 0 ≤ 1
at-most-one true true count alone none few = absurd (true≢false (sym alone))
at-most-one true false count alone none few = omega (arith, none refl)
at-most-one false others count alone none few = omega arith

-- one more notice is no second mandatory one
one-more : (ns : List Notice) (n : Notice) → not (n.mandatory && has_mandatory ns) ≡ true → mandatory_count ns ≤ 1 → mandatory_count (ns ++ n ∷ []) ≤ 1
one-more ns n alone few =
    let sum = sum_by-append (λ (m : Notice). cond m.mandatory 1 0) ns (n ∷ []) in
    omega (arith, sum, at-most-one n.mandatory (has_mandatory ns) _ alone (none-counted ns) few)

-- what holds of a published notice: it is no second mandatory one, it is mandatory just from 15:45 on, and the list had a place
pub record IsPublished (s : State) (notices : List Notice) (full : Bool) (n : Notice) : Type 0 where
  pub alone : not (n.mandatory && has_mandatory notices) ≡ true
  pub marked : n.mandatory ≡ is_late s.time
  pub has_place : full ≡ false

pub published-from : (s : State) (rows : List Row) (notices : List Notice) (full significant : Bool) (n : Notice) → publication_answer s rows notices full significant ≡ Ok n → IsPublished s notices full n
published-from s rows notices full significant n e =
    let done = yes-from_ask {T = Notice} (not s.done) Done _ n e in
    let allowed = yes-from_ask {T = Notice} (lets_now s APublication) NotNow _ n done.1 in
    let sale = some-from_ask_for {T = Notice} s.sale NoSale _ n allowed.1 in
    let alone = yes-from_ask {T = Notice} (not (is_late s.time && has_mandatory notices)) AlreadyMandatory _ n sale.2 in
    let notable = yes-from_ask {T = Notice} (is_notable (notice_of s rows sale.0) significant) Insignificant _ n alone.1 in
    let room = yes-from_ask {T = Notice} (not full) NoticesFull _ n notable.1 in
    let same : notice_of s rows sale.0 ≡ n = cc (room.1) in
    record {
      alone = subst (λ (m : Notice). not (m.mandatory && has_mandatory notices) ≡ true) same alone.0;
      marked = sym (ap (λ (m : Notice). m.mandatory) same);
      has_place = not-true _ room.0;
    }

-- a notice is published
module _ (s : State) (rows : List Row) (notices : List Notice) (full significant : Bool) (n : Notice) (e : publication_answer s rows notices full significant ≡ Ok n) where
  pub publication_life : s.done ≡ false → KeepsLife (Publication significant) (Ok (Published n)) s rows notices s rows (notices ++ n ∷ [])
  publication_life undone = λ life old.
      let none : was_closed life ≡ false = sym old.same_end ∙ undone in
      let was = published-from s rows notices full significant n e in
      record {
        agrees = old.agrees;
        same_time = old.same_time;
        same_notices = ap (λ (ns : List Notice). ns ++ n ∷ []) old.same_notices;
        same_end = undone ∙ sym (end_after life (Publication significant) (Published n) refl refl none);
        upheld = upheld_after life (Publication significant) (Published n) refl refl none (filled_shares rows) _ old.upheld;
        lawful = record {
          once = old.lawful.once;
          heeded = (old.lawful.heeded, λ _. tt);
          marked = (old.lawful.marked, was.marked ∙ ap is_late old.same_time);
          one_mandatory = one-more (notices_of life) n (rw (← old.same_notices) was.alone) old.lawful.one_mandatory;
          ends = (old.lawful.ends, sym none);
        };
      }

-- the notice of an imbalance, by its parts
pub notice_is : (s : State) (rows : List Row) (last : LastSale) (amount : ℤ) (price : ℕ) (late : Bool)
    → amount ≡ amount_of rows (record { price = price; sale = last }) → price ≡ reference_of s last → late ≡ is_late s.time
    → record { amount = amount; reference = price; mandatory = late } ≡ notice_of s rows last
notice_is s rows last amount price late a p m = rw (a, p, m)

or_false : (b : Bool) → (b || false) ≡ b
or_false true = refl
or_false false = refl

-- a refused call, which changes nothing, carries every life on where it is upheld
pub refused_life : (call : Call) (fault : SessionFault) (s : State) (rows : List Row) (notices : List Notice) → refused_with {T = Outcome} 7 (Err fault) ≡ s.done
    → ((L : Ledger) → Agrees L s rows → UpheldBy L call (Err fault) (filled_shares rows))
    → KeepsLife call (Err fault) s rows notices s rows notices
refused_life call fault s rows notices done upheld = λ life old.
    record {
      agrees = old.agrees;
      same_time = old.same_time;
      same_notices = old.same_notices;
      same_end = old.same_end ∙ sym (or_false (was_closed life));
      upheld = (old.upheld, upheld (ledger_of life) old.agrees);
      lawful = record {
        once = old.lawful.once;
        heeded = (old.lawful.heeded, λ yes. absurd (true≢false (sym yes)));
        marked = old.lawful.marked;
        one_mandatory = old.lawful.one_mandatory;
        ends = (old.lawful.ends, done ∙ old.same_end);
      };
    }

-- and so a call other than the close that keeps to its grounds
pub refused_other : (call : Call) (answer : Answer) (s : State) (rows : List Row) (notices : List Notice) → is_close call ≡ false → is_ok answer ≡ false → Grounds s answer → KeepsLife call answer s rows notices s rows notices
refused_other call (Ok outcome) s rows notices other refused g = absurd (true≢false refused)
refused_other call (Err fault) s rows notices other refused g =
    refused_life call fault s rows notices g.done (refusal_upheld s rows call fault (filled_shares rows) other g)
