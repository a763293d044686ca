-- Lists that hold the same elements in as many places are alike: what calls answer and leave is. Assumes nothing.
use Rattle.std.proofs.Common.{◌≡◌, ℕ, suc, ◌+◌, ◌-◌, ◌≤◌, Bool, true, false, List, [], ◌∷◌, ◌++◌, length, take, drop, set, min, Some, None, Option, Ok, Err, inl, inr, refl, ap, sym, ◌∙◌, subst, arith}
use Rattle.std.specs.Prelude.{Result, if◌then◌else◌, is_ok, nat_le, not, ◌&&◌}
use Rattle.std.specs.List.{remove}
use Rattle.std.specs.Option.{option_map_or}
use Rattle.std.proofs.lemmas.Bool.{cases_lt}
use Rattle.std.proofs.lemmas.Bool.Decides.{nat_tests}
use Rattle.std.proofs.lemmas.List.{length-append, length-take, length-drop, length-set, length-map, take-append-le, take-set-le, length-replicate}
use Rattle.list.specs.declared.List.{List as Held}
use Rattle.list.specs.Held.{contents, room, held, kept, full, appended, written, without, emptied}
use Rattle.list.proofs.Kept.{kept-appended, kept-written, kept-emptied}
use Rattle.book.proofs.Writing.{length_kept, length-beside}
use Rattle.book.proofs.Outcome.{kept_rewritten}
use Rattle.book.specs.Answers.{have_room, gifts_of, work_after, list_after}
use Rattle.book.specs.Entries.{entered, entries, orders_at}
use Rattle.book.specs.Fill.{asked, claims_of, fills_of, given_row, given_rows}
use Rattle.book.specs.Volume.{traded, unfillable}
use Rattle.clock.specs.declared.table.Event.TheVariants as event
use Rattle.order.specs.declared.kind.Row.{Row}
use Rattle.order.specs.declared.sale.Sale.{Sale as SaleRecord}
use Rattle.order.specs.declared.terms.Terms.{Terms}
use Rattle.order.specs.Kinds.{is_price}
use Rattle.order.specs.Rows.{resized}
use Rattle.session.specs.declared.call.Call.{Call}
use Rattle.session.specs.declared.call.Call.TheVariants.{Time, Sale, Quote, Entry, Cancel, Reduction, Publication, Close}
use Rattle.session.specs.declared.call.Print.{Print}
use Rattle.session.specs.declared.fault.SessionFault.{SessionFault}
use Rattle.session.specs.declared.fault.SessionFault.TheVariants.{Done, OutOfLimits, NotNow, NoSale, NoPlace, Unfillable}
use Rattle.session.specs.declared.notice.Notice.{Notice}
use Rattle.order.specs.Entered.{entered_row}
use Rattle.session.specs.Answers.{time_answer, sale_answer, quote_answer, entry_answer, cancel_answer, reduction_answer, publication_answer, lets_now, at_price, listed_at}
use Rattle.session.specs.Changes.{if_accepted, at_time, after_sale, after_quote, with_order, without_order, with_reduced, with_answered, as_done, with_fills}
use Rattle.session.specs.Moments.{answer_at}
use Rattle.session.specs.Questions.{ask, ask_for}
use Rattle.session.specs.Replies.{Answer, answer_of, notice_answer_of, print_answer_of}
use Rattle.session.specs.States.{State}
use Rattle.life.specs.Stages.{Stage, stage_after}
use Rattle.line.specs.declared.Line.{Line}
use Rattle.line.specs.declared.Line.TheVariants.{Lot, Refusal}
use Rattle.message.specs.declared.fault.FileFault.{FileFault}
use Rattle.message.specs.declared.fault.FileFault.TheVariants.{NoMessage}
use Rattle.message.specs.Calls.{decoded}
use Rattle.tape.specs.Files.{body_of, messages_of, is_message}
use Rattle.tape.specs.Messages.{MessageReply, Reading, of_session, of_message, reply_to, reply_to_reading, stage_after_reading, stage_left, rows_at, lines_of, lines_at}
use Rattle.tape.specs.Places.{Lists, opening, places_of, blank_list, blank_row, blank_notice, blank_lists}
use Rattle.tape.specs.Tapes.{message_lines, lines_after_header, lines_from_opening, lines_of_file}

pub record SameList {T : Type 0} (l l' : Held T) : Type 0 where
  pub same : kept l ≡ kept l'
  pub places : length (contents l) ≡ length (contents l')

module _ {T : Type 0} (l l' : Held T) (s : SameList l l') where
  pub same_held : held l ≡ held l'
  same_held = sym (length_kept l) ∙ ap length s.same ∙ length_kept l'

  pub same_full : full l ≡ full l'
  same_full = ap (λ (n : ℕ). nat_le (min n 4096) (held l)) s.places ∙ ap (λ (n : ℕ). nat_le (room l') n) same_held

-- what each change makes of the elements
module _ {T : Type 0} (l : Held T) where
  kept_appended_full : (x : T) → full l ≡ true → kept (appended l x) ≡ kept l
  kept_appended_full x no_room =
      let all : held l ≡ room l = grind (arith, nat_tests) in
      let same : held (appended l x) ≡ held l = omega (arith, all, length-set (contents l) (held l) x) in
      rw same (take-set-le (held l) (contents l) (held l) x (omega arith))

  pub kept_appended : (x : T) → kept (appended l x) ≡ (if full l then kept l else kept l ++ x ∷ [])
  kept_appended x = by_full (full l) refl
    where
      by_full : (b : Bool) → full l ≡ b → kept (appended l x) ≡ (if b then kept l else kept l ++ x ∷ [])
      by_full true e = kept_appended_full x e
      by_full false e = kept-appended l x e

  kept_written_past : (i : ℕ) (x : T) → held l ≤ i → kept (written l i x) ≡ kept l
  kept_written_past i x past =
      let same : held (written l i x) ≡ held l = omega (arith, length-set (contents l) i x) in
      rw same (take-set-le (held l) (contents l) i x past)

  kept_without : (i : ℕ) → kept (without l i) ≡ take (held l - 1) (remove (kept l) i)
  kept_without i =
      let long : held l - 1 ≤ length (remove (kept l) i) = omega (arith, length_kept l, length-append (take i (kept l)) (drop (suc i) (kept l)), length-take i (kept l), length-drop (suc i) (kept l)) in
      let rest = drop (held l - 1) (contents l) in
      let count : held (without l i) ≡ held l - 1 = omega (arith, long, length-append (remove (kept l) i) rest, length-drop (held l - 1) (contents l)) in
      rw count (take-append-le (held l - 1) (remove (kept l) i) rest long)

module _ {T : Type 0} (l l' : Held T) (s : SameList l l') where
  pub same_appended : (x : T) → SameList (appended l x) (appended l' x)
  same_appended x =
      record {
        same = kept_appended l x ∙ ap (λ (b : Bool). if b then kept l else kept l ++ x ∷ []) (same_full l l' s) ∙ ap (λ (xs : List T). if full l' then xs else xs ++ x ∷ []) s.same ∙ sym (kept_appended l' x);
        places = length-set (contents l) (held l) x ∙ s.places ∙ sym (length-set (contents l') (held l') x);
      }

  pub same_written : (i : ℕ) (x : T) → SameList (written l i x) (written l' i x)
  same_written i x =
      record {
        same = elim (cases_lt i (held l)) [
          | inl inside ↦
              kept-written l i x (omega (arith, inside, length_kept l)) ∙ ap (λ (xs : List T). set xs i x) s.same
              ∙ sym (kept-written l' i x (omega (arith, inside, length_kept l', same_held l l' s)))
          | inr past ↦ kept_written_past l i x past ∙ s.same ∙ sym (kept_written_past l' i x (omega (arith, past, same_held l l' s)))
        ];
        places = length-set (contents l) i x ∙ s.places ∙ sym (length-set (contents l') i x);
      }

  pub same_without : (i : ℕ) → SameList (without l i) (without l' i)
  same_without i =
      let h = same_held l l' s in
      record {
        same = kept_without l i ∙ ap (λ (n : ℕ). take (n - 1) (remove (kept l) i)) h ∙ ap (λ (xs : List T). take (held l' - 1) (remove xs i)) s.same ∙ sym (kept_without l' i);
        places = omega (arith, s.places, h, ap (λ (xs : List T). length (remove xs i)) s.same, length-append (remove (kept l) i) (drop (held l - 1) (contents l)), length-append (remove (kept l') i) (drop (held l' - 1) (contents l')), length-drop (held l - 1) (contents l), length-drop (held l' - 1) (contents l'));
      }

  pub same_if : (b : Bool) (x x' : Held T) → SameList x x' → SameList (if b then x else l) (if b then x' else l')
  same_if true x x' t = t
  same_if false x x' t = s

module _ {T X : Type 0} (l l' : Held T) (s : SameList l l') where
  same_map_or : (f f' : X → Held T) → ((x : X) → SameList (f x) (f' x)) → (o : Option X) → SameList (option_map_or f o l) (option_map_or f' o l')
  same_map_or f f' each None = s
  same_map_or f f' each (Some x) = each x

module _ {T X : Type 0} (l l' : Held T) (s : SameList l l') where
  same_map : (f f' : X → Held T) → ((x : X) → SameList (f x) (f' x)) → (o o' : Option X) → o ≡ o' → SameList (option_map_or f o l) (option_map_or f' o' l')
  same_map f f' each o o' e = subst (λ (q : Option X). SameList (option_map_or f o l) (option_map_or f' q l')) e (same_map_or l l' s f f' each o)

module _ {T : Type 0} (l l' : Held T) (s : SameList l l') where
  same_accepted : {E : Type 0} (r r' : Result E SessionFault) → r ≡ r' → (x x' : Held T) → SameList x x' → SameList (if_accepted r x l) (if_accepted r' x' l')
  same_accepted r r' e x x' t = subst (λ q. SameList (if_accepted r x l) (if_accepted q x' l')) e (same_if l l' s (is_ok r) x x' t)

-- and so are lists of numbers as long
same_long : {E : Type 0} (r r' : Result E SessionFault) → r ≡ r' → (xs xs' ys ys' : List ℕ) → length xs ≡ length xs' → length ys ≡ length ys' → length (if_accepted r ys xs) ≡ length (if_accepted r' ys' xs')
same_long r r' e xs xs' ys ys' p q = subst (λ t. length (if_accepted r ys xs) ≡ length (if_accepted t ys' xs')) e (by_test (is_ok r))
  where
    by_test : (b : Bool) → length (if b then ys else xs) ≡ length (if b then ys' else xs')
    by_test true = q
    by_test false = p

same_list : {X : Type 0} (f f' : X → List ℕ) → ((x : X) → length (f x) ≡ length (f' x)) → (o o' : Option X) → o ≡ o' → (xs xs' : List ℕ) → length xs ≡ length xs' → length (option_map_or f o xs) ≡ length (option_map_or f' o' xs')
same_list {X = X} f f' each o o' e xs xs' p = subst (λ q. length (option_map_or f o xs) ≡ length (option_map_or f' q xs')) e (by_option o)
  where
    by_option : (o : Option X) → length (option_map_or f o xs) ≡ length (option_map_or f' o xs')
    by_option None = p
    by_option (Some x) = each x

-- what calls are answered by, of a moment and two work lists
record View : Type 0 where
  state : State
  rows : List Row
  no_room : Bool
  notices : List Notice
  no_notice_room : Bool
  have : Bool

abbrev view : Stage → View
view st = record { state = st.moment.state; rows = kept st.moment.orders; no_room = full st.moment.orders; notices = kept st.moment.notices; no_notice_room = full st.moment.notices; have = have_room st.moment.orders st.work.claims st.work.gifts }

abbrev close_by : View → ℕ → Result Print SessionFault
close_by v p =
    ask (not v.state.done) Done (
    ask (is_price p) OutOfLimits (
    ask (lets_now v.state event.Close) NotNow (
    ask_for v.state.sale NoSale (λ last.
    ask v.have NoPlace (
    ask (not (unfillable (entries (at_price p last) v.rows))) Unfillable (
    Ok (record { price = p; volume = traded (entries (at_price p last) v.rows) })))))))

abbrev answer_by : View → Call → Answer
answer_by v (Time t) = answer_of (time_answer v.state t)
answer_by v (Sale p) = answer_of (sale_answer v.state p)
answer_by v (Quote q) = answer_of (quote_answer v.state q)
answer_by v (Entry t) = answer_of (entry_answer v.state v.rows v.no_room v.notices t)
answer_by v (Cancel n in_error) = answer_of (cancel_answer v.state v.rows n in_error)
answer_by v (Reduction n size in_error) = answer_of (reduction_answer v.state v.rows n size in_error)
answer_by v (Publication significant) = notice_answer_of (publication_answer v.state v.rows v.notices v.no_notice_room significant)
answer_by v (Close p) = print_answer_of (close_by v p)

answer_is : (st : Stage) (call : Call) → answer_at st.moment st.work call ≡ answer_by (view st) call
answer_is st (Time t) = refl
answer_is st (Sale p) = refl
answer_is st (Quote q) = refl
answer_is st (Entry t) = refl
answer_is st (Cancel n in_error) = refl
answer_is st (Reduction n size in_error) = refl
answer_is st (Publication significant) = refl
answer_is st (Close p) = refl

-- two stages are alike
pub record Alike (st st' : Stage) : Type 0 where
  pub state : st.moment.state ≡ st'.moment.state
  pub orders : SameList st.moment.orders st'.moment.orders
  pub notices : SameList st.moment.notices st'.moment.notices
  pub claims : length st.work.claims ≡ length st'.work.claims
  pub gifts : length st.work.gifts ≡ length st'.work.gifts

module _ (st st' : Stage) (a : Alike st st') where
  same_have : have_room st.moment.orders st.work.claims st.work.gifts ≡ have_room st'.moment.orders st'.work.claims st'.work.gifts
  same_have =
      ap (λ (n : ℕ). nat_le n (length st.work.claims) && nat_le n (length st.work.gifts)) (same_held st.moment.orders st'.moment.orders a.orders)
      ∙ ap (λ (n : ℕ). nat_le (held st'.moment.orders) n && nat_le (held st'.moment.orders) (length st.work.gifts)) a.claims
      ∙ ap (λ (n : ℕ). nat_le (held st'.moment.orders) (length st'.work.claims) && nat_le (held st'.moment.orders) n) a.gifts

  same_view : view st ≡ view st'
  same_view = by_fields _ _ _ _ _ _ _ _ _ _ _ _ a.state a.orders.same (same_full st.moment.orders st'.moment.orders a.orders) a.notices.same (same_full st.moment.notices st'.moment.notices a.notices) same_have
    where
      by_fields : (s s' : State) (r r' : List Row) (f f' : Bool) (n n' : List Notice) (g g' : Bool) (h h' : Bool) → s ≡ s' → r ≡ r' → f ≡ f' → n ≡ n' → g ≡ g' → h ≡ h'
          → let v : View = record { state = s; rows = r; no_room = f; notices = n; no_notice_room = g; have = h } in
          let v' : View = record { state = s'; rows = r'; no_room = f'; notices = n'; no_notice_room = g'; have = h' } in
          v ≡ v'
      by_fields s s' r r' f f' n n' g g' h h' a b c d e i = rw (a, b, c, d, e, i) refl

  pub same_answer : (call : Call) → answer_at st.moment st.work call ≡ answer_at st'.moment st'.work call
  same_answer call = answer_is st call ∙ ap (λ (v : View). answer_by v call) same_view ∙ sym (answer_is st' call)

  same_state_if : {E : Type 0} (answer : View → Result E SessionFault) (after : State → State)
      → if_accepted (answer (view st)) (after st.moment.state) st.moment.state ≡ if_accepted (answer (view st')) (after st'.moment.state) st'.moment.state
  same_state_if answer after = ap (λ (v : View). if_accepted (answer v) (after v.state) v.state) same_view

  module _ (meaning : ℕ → List ℕ → List ℕ) (paired : (amount : ℕ) (claims : List ℕ) → length (meaning amount claims) ≡ length claims) where
    -- the rows of a close, with what they get
    fills_long : (l : Held Row) (terms : Terms) → length (given_rows (kept l) (fills_of (orders_at l terms) (gifts_of meaning (orders_at l terms)))) ≡ held l
    fills_long l terms =
        let es = orders_at l terms in
        let many : length es ≡ length (kept l) = length-map (kept l) (entered terms) in
        let claims : length (claims_of es) ≡ length es = length-map es _ in
        let gifts : length (gifts_of meaning es) ≡ length es = paired (asked es) (claims_of es) ∙ claims in
        let fills : length (fills_of es (gifts_of meaning es)) ≡ length es = length-beside _ es (gifts_of meaning es) (omega (arith, gifts)) in
        length-beside given_row (kept l) (fills_of es (gifts_of meaning es)) (omega (arith, fills, many)) ∙ length_kept l

    same_fills : (p : ℕ) (last : SaleRecord) → let l = st.moment.orders in let l' = st'.moment.orders in
        let f = λ (h : Held Row). list_after h (fills_of (orders_at h (at_price p last)) (gifts_of meaning (orders_at h (at_price p last)))) in SameList (f l) (f l')
    same_fills p last =
        let l = st.moment.orders in
        let l' = st'.moment.orders in
        let terms = at_price p last in
        let rows = λ (xs : List Row). given_rows xs (fills_of (entries terms xs) (gifts_of meaning (entries terms xs))) in
        record {
          same = kept_rewritten l (rows (kept l)) (fills_long l terms) ∙ ap rows a.orders.same ∙ sym (kept_rewritten l' (rows (kept l')) (fills_long l' terms));
          places = omega (
            arith,
            fills_long l terms,
            fills_long l' terms,
            a.orders.places,
            same_held l l' a.orders,
            length-append (rows (kept l)) (drop (held l) (contents l)),
            length-append (rows (kept l')) (drop (held l') (contents l')),
            length-drop (held l) (contents l),
            length-drop (held l') (contents l'),
          );
        }

    same_work : (ns ns' : List ℕ) (work work' : List ℕ) → ns ≡ ns' → length work ≡ length work' → length (work_after st.moment.orders ns work) ≡ length (work_after st'.moment.orders ns' work')
    same_work ns ns' work work' e long =
        omega (
          arith,
          ap length e,
          long,
          same_held st.moment.orders st'.moment.orders a.orders,
          length-append ns (drop (held st.moment.orders) work),
          length-append ns' (drop (held st'.moment.orders) work'),
          length-drop (held st.moment.orders) work,
          length-drop (held st'.moment.orders) work',
        )

    -- a call leaves them alike
    pub alike_after : (call : Call) → Alike (stage_after meaning st call) (stage_after meaning st' call)
    alike_after (Time t) = record { state = same_state_if (λ v. time_answer v.state t) (λ s. at_time s t); orders = a.orders; notices = a.notices; claims = a.claims; gifts = a.gifts }
    alike_after (Sale p) = record { state = same_state_if (λ v. sale_answer v.state p) (λ s. after_sale s p); orders = a.orders; notices = a.notices; claims = a.claims; gifts = a.gifts }
    alike_after (Quote q) = record { state = same_state_if (λ v. quote_answer v.state q) (λ s. after_quote s q); orders = a.orders; notices = a.notices; claims = a.claims; gifts = a.gifts }
    alike_after (Entry t) =
        let l = st.moment.orders in
        let l' = st'.moment.orders in
        record {
          state = a.state;
          orders = same_accepted l l' a.orders _ _ (ap (λ (v : View). entry_answer v.state v.rows v.no_room v.notices t) same_view) (with_order l t) (with_order l' t) (same_appended l l' a.orders (entered_row t));
          notices = a.notices;
          claims = a.claims;
          gifts = a.gifts;
        }
    alike_after (Cancel n in_error) =
        let l = st.moment.orders in
        let l' = st'.moment.orders in
        let same : SameList (without_order l n) (without_order l' n) =
        same_map l l' a.orders _ _ (λ found. same_without l l' a.orders found.place) _ _ (ap (listed_at n) a.orders.same) in
        record {
          state = a.state;
          orders = same_accepted l l' a.orders _ _ (ap (λ (v : View). cancel_answer v.state v.rows n in_error) same_view) (without_order l n) (without_order l' n) same;
          notices = a.notices;
          claims = a.claims;
          gifts = a.gifts;
        }
    alike_after (Reduction n size in_error) =
        let l = st.moment.orders in
        let l' = st'.moment.orders in
        let same : SameList (with_reduced l n size) (with_reduced l' n size) =
        same_map l l' a.orders _ _ (λ found. same_written l l' a.orders found.place (resized found.row size)) _ _ (ap (listed_at n) a.orders.same) in
        record {
          state = a.state;
          orders = same_accepted l l' a.orders _ _ (ap (λ (v : View). reduction_answer v.state v.rows n size in_error) same_view) (with_reduced l n size) (with_reduced l' n size) same;
          notices = a.notices;
          claims = a.claims;
          gifts = a.gifts;
        }
    alike_after (Publication significant) =
        record {
          state = a.state;
          orders = a.orders;
          notices = same_answered _ _ (ap (λ (v : View). publication_answer v.state v.rows v.notices v.no_notice_room significant) same_view);
          claims = a.claims;
          gifts = a.gifts;
        }
      where
        same_answered : (r r' : Result Notice SessionFault) → r ≡ r' → SameList (with_answered st.moment.notices r) (with_answered st'.moment.notices r')
        same_answered r r' e = subst (λ (q : Result Notice SessionFault). SameList (with_answered st.moment.notices r) (with_answered st'.moment.notices q)) e (by_answer r)
          where
            by_answer : (r : Result Notice SessionFault) → SameList (with_answered st.moment.notices r) (with_answered st'.moment.notices r)
            by_answer (Ok n) = same_appended st.moment.notices st'.moment.notices a.notices n
            by_answer (Err fault) = a.notices
    alike_after (Close p) =
        let l = st.moment.orders in
        let l' = st'.moment.orders in
        let fills : SameList (with_fills meaning st.moment.state p l) (with_fills meaning st'.moment.state p l') = same_map l l' a.orders _ _ (same_fills p) _ _ (ap (λ (s : State). s.sale) a.state) in
        record {
          state = same_state_if (λ v. close_by v p) (λ s. as_done s);
          orders = same_accepted l l' a.orders _ _ (ap (λ (v : View). close_by v p) same_view) (with_fills meaning st.moment.state p l) (with_fills meaning st'.moment.state p l') fills;
          notices = a.notices;
          claims = same_long _ _ (ap (λ (v : View). close_by v p) same_view) _ _ _ _ a.claims
              (same_list _ _ (λ last. same_work _ _ st.work.claims st'.work.claims (ap (λ (rows : List Row). claims_of (entries (at_price p last) rows)) a.orders.same) a.claims) _ _ (ap (λ (s : State). s.sale) a.state) _ _ a.claims);
          gifts = same_long _ _ (ap (λ (v : View). close_by v p) same_view) _ _ _ _ a.gifts
              (same_list _ _ (λ last. same_work _ _ st.work.gifts st'.work.gifts (ap (λ (rows : List Row). gifts_of meaning (entries (at_price p last) rows)) a.orders.same) a.gifts) _ _ (ap (λ (s : State). s.sale) a.state) _ _ a.gifts);
        }

module _ (lot : ℕ) (meaning : ℕ → List ℕ → List ℕ) (paired : (amount : ℕ) (claims : List ℕ) → length (meaning amount claims) ≡ length claims) where
  same_reply : (st st' : Stage) → Alike st st' → (r : Reading) → reply_to_reading st r ≡ reply_to_reading st' r
  same_reply st st' a (Ok call) = ap of_session (same_answer st st' a call)
  same_reply st st' a (Err fault) = refl

  alike_left : (st st' : Stage) → Alike st st' → (r : Reading) → Alike (stage_after_reading meaning st r) (stage_after_reading meaning st' r)
  alike_left st st' a (Ok call) = alike_after st st' a meaning paired call
  alike_left st st' a (Err fault) = a

  same_lines : (st st' : Stage) → Alike st st' → (n : ℕ) (ms : List (List ℕ)) → message_lines lot meaning st n ms ≡ message_lines lot meaning st' n ms
  same_lines st st' a n [] = refl
  same_lines st st' a n (m ∷ ms) = by_test (λ next next' alike. same_lines next next' alike (n + 1) ms) (is_message n m)
    where
      left : Alike (stage_left meaning st m) (stage_left meaning st' m)
      left = alike_left st st' a (decoded m)

      here : lines_at meaning st n m ≡ lines_at meaning st' n m
      here =
          ap (λ (r : MessageReply). lines_of n (of_message r) (rows_at (stage_left meaning st m))) (same_reply st st' a (decoded m))
          ∙ ap (λ (rows : List Row). lines_of n (of_message (reply_to st' m)) rows) left.orders.same

      by_test : ((next next' : Stage) → Alike next next' → message_lines lot meaning next (n + 1) ms ≡ message_lines lot meaning next' (n + 1) ms) → (b : Bool) → (if b then lines_at meaning st n m ++ message_lines lot meaning (stage_left meaning st m) (n + 1) ms else Refusal n NoMessage ∷ [])
          ≡ (if b then lines_at meaning st' n m ++ message_lines lot meaning (stage_left meaning st' m) (n + 1) ms else Refusal n NoMessage ∷ [])
      by_test rest true = ap (λ (l : List Line). l ++ message_lines lot meaning (stage_left meaning st m) (n + 1) ms) here ∙ ap (λ (l : List Line). lines_at meaning st' n m ++ l) (rest (stage_left meaning st m) (stage_left meaning st' m) left)
      by_test rest false = refl

  same_after_header : (st st' : Stage) → Alike st st' → (body : Result (List ℕ) FileFault) → lines_after_header lot meaning st body ≡ lines_after_header lot meaning st' body
  same_after_header st st' a (Ok bytes) = ap (λ (l : List Line). Lot lot ∷ l) (same_lines st st' a 1 (messages_of bytes))
  same_after_header st st' a (Err fault) = refl

  same_emptied : {T : Type 0} (l l' : Held T) → length (contents l) ≡ length (contents l') → SameList (emptied l) (emptied l')
  same_emptied l l' e = record { same = kept-emptied l ∙ sym (kept-emptied l'); places = e }

  -- the lines of a file depend on how many places there are alone
  pub places_decide : (l : Lists) (file : List ℕ) → lines_from_opening lot meaning (opening l) file ≡ lines_of_file lot meaning (places_of l) file
  places_decide l file =
      let p = places_of l in
      same_after_header (opening l) (opening (blank_lists p))
      (record {
        state = refl;
        orders = same_emptied l.orders (blank_list p.orders blank_row) (sym (length-replicate p.orders blank_row));
        notices = same_emptied l.notices (blank_list p.notices blank_notice) (sym (length-replicate p.notices blank_notice));
        claims = sym (length-replicate p.claims 0);
        gifts = sym (length-replicate p.gifts 0);
      })
      (body_of file)
