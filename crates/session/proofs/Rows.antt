-- What a change of the rows of a list makes of the orders in them. Assumes nothing.
use Rattle.std.proofs.Common.{◌≡◌, ◌≢◌, ℕ, zero, suc, ◌<◌, true, false, if◌then◌else◌, eqb, List, [], ◌∷◌, map, length, get_or, set, take, drop, Some, None, Option, eq-eqb, refl, sym, ap, subst, ◌∙◌, arith}
use Rattle.std.specs.List.{AllPass, All, remove, slice_get}
use Rattle.std.specs.Option.{option_and_then, option_map}
use Rattle.std.proofs.lemmas.Bool.Decides.{nat_tests}
use Rattle.std.proofs.lemmas.List.{map-append, map-set, take-map, drop-map, get_or-map, length-map}
use Rattle.std.proofs.lemmas.List.Elements.{All-append, All-take, All-drop}
use Rattle.std.proofs.lemmas.List.Quantifiers.{all_pairs_remove}
use Rattle.std.proofs.lemmas.Option.{get_or_from_slice_get}
use Rattle.order.specs.declared.kind.Row.{Row}
use Rattle.order.specs.declared.ticket.Ticket.{Ticket}
use Rattle.order.specs.declared.kind.Kind.TheVariants.{Book}
use Rattle.order.specs.declared.kind.Side.TheVariants.{Buy}
use Rattle.order.specs.Entered.{ticket_of, entered_row, unfilled_row, sound_ticket}
use Rattle.order.specs.Kinds.{is_size}
use Rattle.order.specs.Rows.{sound, resized}
use Rattle.book.specs.Listing.{is_numbered, place_of}
use Rattle.book.proofs.Listing.{FirstNumbered, first_numbered, none_numbered}
use Rattle.session.specs.declared.orders.Found.{Found}
use Rattle.session.specs.Answers.{listed_at}
use Rattle.session.specs.Ledgers.{without_first, with_first_sized}
use Rattle.session.specs.Laws.{numbers, HaveOwnNumbers}

-- one taken out of a list, and then each seen through f
map-remove : {A B : Type 0} (f : A → B) (xs : List A) (i : ℕ) → map f (remove xs i) ≡ remove (map f xs) i
map-remove f xs i = simp (map-append, take-map, drop-map)

All-remove : {A : Type 0} (P : A → Type 0) (xs : List A) (i : ℕ) → All P xs → All P (remove xs i)
All-remove P xs i h = All-append P (take i xs) (drop (suc i) xs) (All-take P i xs h) (All-drop P (suc i) xs h)

-- i is the place of the first order of the number n
record First (n : ℕ) (orders : List Ticket) (i : ℕ) : Type 0 where
  inside : i < length orders
  here : (d : Ticket) → eqb (get_or orders i d).number n ≡ true
  before : (k : ℕ) (d : Ticket) → k < i → eqb (get_or orders k d).number n ≡ false

first-tail : (n : ℕ) (t : Ticket) (ts : List Ticket) (i : ℕ) → First n (t ∷ ts) (suc i) → First n ts i
first-tail n t ts i f = record { inside = omega arith; here = f.here; before = λ k d earlier. f.before (suc k) d (omega arith) }

-- the first order of a number is the one that is taken out
without_first-at : (n : ℕ) (orders : List Ticket) (i : ℕ) → First n orders i → without_first n orders ≡ remove orders i
without_first-at n [] i f = absurd (omega arith)
without_first-at n (t ∷ ts) zero f = rw (f.here t)
without_first-at n (t ∷ ts) (suc i) f = rw (f.before 0 t (omega arith)) (ap (λ rest. t ∷ rest) (without_first-at n ts i (first-tail n t ts i f)))

-- and the one that gets another size
with_first_sized-at : (n size : ℕ) (orders : List Ticket) (i : ℕ) (d : Ticket) → First n orders i → with_first_sized n size orders ≡ set orders i (record (get_or orders i d) { size = size })
with_first_sized-at n size [] i d f = absurd (omega arith)
with_first_sized-at n size (t ∷ ts) zero d f = rw (f.here t)
with_first_sized-at n size (t ∷ ts) (suc i) d f = rw (f.before 0 t (omega arith)) (ap (λ rest. t ∷ rest) (with_first_sized-at n size ts i d (first-tail n t ts i f)))

not-numbered : (n : ℕ) (row : Row) → sound row ≡ true → is_numbered n row ≡ false → eqb row.number n ≡ false
not-numbered n row is_sound other = grind (arith, nat_tests, is_sound, other)

module _ (n : ℕ) (rows : List Row) (all_sound : AllPass sound rows) where
  -- where each row is an order, the first row of a number is the first order of it
  first-tickets : (i : ℕ) → FirstNumbered n rows i → First n (map ticket_of rows) i
  first-tickets i f =
      record {
        inside = rw (length-map rows ticket_of) (f.inside);
        here = λ t. rw (get_or-map ticket_of rows i (entered_row t) t f.inside) (eq-eqb _ n (f.numbered (entered_row t)));
        before = λ k t earlier.
            let row = get_or rows k (entered_row t) in
            let inside : k < length rows = omega (arith, f.inside) in
            let other : is_numbered n row ≡ false = f.first k (entered_row t) earlier in
            let is_sound : sound row ≡ true = all_sound k (entered_row t) inside in
            rw (get_or-map ticket_of rows k (entered_row t) t inside) (not-numbered n row is_sound other);
      }

  -- a row taken out is an order taken out
  pub without-rows : (i : ℕ) → FirstNumbered n rows i → map ticket_of (remove rows i) ≡ without_first n (map ticket_of rows)
  without-rows i f = map-remove ticket_of rows i ∙ sym (without_first-at n (map ticket_of rows) i (first-tickets i f))

  -- and a row with another size is an order with it
  pub sized-rows : (i size : ℕ) (d : Row) → FirstNumbered n rows i → map ticket_of (set rows i (resized (get_or rows i d) size)) ≡ with_first_sized n size (map ticket_of rows)
  sized-rows i size d f =
      let orders = map ticket_of rows in
      let same : get_or orders i (ticket_of d) ≡ ticket_of (get_or rows i d) = get_or-map ticket_of rows i d (ticket_of d) f.inside in
      map-set ticket_of rows i (resized (get_or rows i d) size)
      ∙ ap (λ (t : Ticket). set orders i (record t { size = size })) (sym same)
      ∙ sym (with_first_sized-at n size orders i (ticket_of d) (first-tickets i f))

  -- where no order of the number n is listed, each has another number
  pub new-number : place_of n rows ≡ None → (k d : ℕ) → k < length (numbers (map ticket_of rows)) → get_or (numbers (map ticket_of rows)) k d ≢ n
  new-number none k d h =
      let blank : Row = unfilled_row d Book Buy false 0 0 in
      let inside : k < length rows = omega (arith, h, length-map (map ticket_of rows) (λ (t : Ticket). t.number), length-map rows ticket_of) in
      let row = get_or rows k blank in
      let other : eqb row.number n ≡ false = not-numbered n row (all_sound k blank inside) (none_numbered n rows none k blank inside) in
      let its : get_or (numbers (map ticket_of rows)) k d ≡ row.number = get_or-map (λ (t : Ticket). t.number) (map ticket_of rows) k (ticket_of blank) d (rw (length-map rows ticket_of) inside) ∙ ap (λ (t : Ticket). t.number) (get_or-map ticket_of rows k blank (ticket_of blank) inside) in
      λ same. grind (arith, nat_tests, its, same)

  -- no two orders have the same number after one is taken out
  pub once-without : (i : ℕ) → FirstNumbered n rows i → HaveOwnNumbers (map ticket_of rows) → HaveOwnNumbers (without_first n (map ticket_of rows))
  once-without i f once =
      rw (without_first-at n (map ticket_of rows) i (first-tickets i f), map-remove (λ (t : Ticket). t.number))
      (all_pairs_remove (λ a b. a ≢ b) (numbers (map ticket_of rows)) i (omega (arith, f.inside, length-map (map ticket_of rows) (λ (t : Ticket). t.number), length-map rows ticket_of)) once)

-- an order keeps its number with another size
pub numbers-sized : (n size : ℕ) (orders : List Ticket) → numbers (with_first_sized n size orders) ≡ numbers orders
numbers-sized n size [] = refl
numbers-sized n size (t ∷ ts) =
    elim (eqb t.number n) as (λ b. numbers (if b then record t { size = size } ∷ ts else t ∷ with_first_sized n size ts) ≡ numbers (t ∷ ts))
    [ true ↦ refl | false ↦ ap (λ rest. t.number ∷ rest) (numbers-sized n size ts) ]

-- each row is still an order
pub sound-entered : (t : Ticket) → sound_ticket t ≡ true → sound (entered_row t) ≡ true
sound-entered t is_sound = grind (arith, nat_tests, is_sound)

pub sound-resized : (row : Row) (size : ℕ) → sound row ≡ true → is_size size ≡ true → sound (resized row size) ≡ true
sound-resized row size is_sound fits = grind (arith, nat_tests, is_sound, fits)

pub all_sound-without : (rows : List Row) (i : ℕ) → AllPass sound rows → AllPass sound (remove rows i)
all_sound-without rows i = All-remove (λ r. sound r ≡ true) rows i

-- what the look-up of a number found is the first order of it
pub record IsFound (n : ℕ) (rows : List Row) (found : Found) : Type 0 where
  pub first : FirstNumbered n rows found.place
  pub its : (d : Row) → get_or rows found.place d ≡ found.row

found-by : (n : ℕ) (rows : List Row) (found : Found) (place : Option ℕ) → place_of n rows ≡ place → option_and_then {U = Found} (λ i. option_map {U = Found} (λ r. record { place = i; row = r }) (slice_get rows i)) place ≡ Some found → IsFound n rows found
found-by n rows found None p e = absurd cc
found-by n rows found (Some i) p e = by_row (slice_get rows i) refl e
  where
    by_row : (o : Option Row) → slice_get rows i ≡ o → option_map {U = Found} (λ r. record { place = i; row = r }) o ≡ Some found → IsFound n rows found
    by_row None s q = absurd cc
    by_row (Some r) s q =
        let both : ◌≡◌ {A = Found} (record { place = i; row = r }) found = cc in
        let same : i ≡ found.place = ap (λ (f : Found). f.place) both in
        let its : r ≡ found.row = ap (λ (f : Found). f.row) both in
        record {
          first = first_numbered n rows found.place (p ∙ ap Some same);
          its = λ d. get_or_from_slice_get rows found.place found.row d (subst (λ k. slice_get rows k ≡ Some found.row) same (s ∙ ap Some its));
        }

pub is_found : (n : ℕ) (rows : List Row) (found : Found) → listed_at n rows ≡ Some found → IsFound n rows found
is_found n rows found e = found-by n rows found (place_of n rows) refl e
