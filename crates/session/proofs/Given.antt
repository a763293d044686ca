-- The shares that a close gives to rows leave the orders in them as they were entered. Assumes nothing.
use Rattle.std.proofs.Common.{◌≡◌, ℕ, ◌≤◌, true, false, cond, List, [], ◌∷◌, length, map, refl, ap, ap₂, ◌∙◌, arith}
use Rattle.std.specs.List.{AllPass, AllZip}
use Rattle.std.proofs.lemmas.Bool.Decides.{nat_tests}
use Rattle.std.proofs.lemmas.List.{length-map}
use Rattle.std.proofs.lemmas.List.Elements.{All-nil, All-cons, All-head, All-tail}
use Rattle.std.proofs.lemmas.Slice.Zip.{AllZip-long}
use Rattle.list.specs.declared.List.{List as Held}
use Rattle.list.specs.Held.{kept}
use Rattle.order.specs.declared.kind.Row.{Row}
use Rattle.order.specs.declared.terms.Terms.{Terms}
use Rattle.order.specs.Entered.{ticket_of, entered_row}
use Rattle.order.specs.Rows.{sound}
use Rattle.book.specs.declared.entry.Entry.{Entry}
use Rattle.book.specs.Answers.{list_after}
use Rattle.book.specs.Assignment.{Assignment}
use Rattle.book.specs.Entries.{entered, entries, orders_at}
use Rattle.book.specs.Fill.{given_row, given_rows, given_of}
use Rattle.book.proofs.Outcome.{kept_rewritten, given_after}
use Rattle.book.proofs.Pairs.{each_from}
use Rattle.book.proofs.Writing.{length_kept, length-beside}
use Rattle.session.specs.Upheld.{filled_shares}

-- a row that is an order makes the same entry as the row that its ticket enters, with no share filled
entered-ticket : (terms : Terms) (r : Row) → sound r ≡ true → entered terms r ≡ entered terms (entered_row (ticket_of r))
entered-ticket terms r is_sound =
    let again : sound (entered_row (ticket_of r)) ≡ true = grind (arith, nat_tests, is_sound) in
    rw (is_sound, again) refl

pub entries-tickets : (terms : Terms) (rows : List Row) → AllPass sound rows → entries terms rows ≡ entries terms (map entered_row (map ticket_of rows))
entries-tickets terms [] all_sound = refl
entries-tickets terms (r ∷ rows) all_sound =
    ap₂ (λ (e : Entry) (es : List Entry). e ∷ es) (entered-ticket terms r (All-head (λ row. sound row ≡ true) r rows all_sound)) (entries-tickets terms rows (All-tail (λ row. sound row ≡ true) r rows all_sound))

-- where each row is an order, what they have been given is their filled shares
filled-given : (rows : List Row) → AllPass sound rows → filled_shares rows ≡ map given_of rows
filled-given [] all_sound = refl
filled-given (r ∷ rows) all_sound = rw (All-head (λ row. sound row ≡ true) r rows all_sound) (ap (λ (ns : List ℕ). r.filled ∷ ns) (filled-given rows (All-tail (λ row. sound row ≡ true) r rows all_sound)))

sound-given : (r : Row) (n : ℕ) → n ≤ r.size → sound r ≡ true → sound (given_row r n) ≡ true
sound-given r n h is_sound = rw is_sound (grind (arith, nat_tests, is_sound))

ticket-given : (r : Row) (n : ℕ) → ticket_of (given_row r n) ≡ ticket_of r
ticket-given r n = elim (sound r) as (λ b. ticket_of (cond b (record r { filled = n }) r) ≡ ticket_of r) [ true ↦ refl | false ↦ refl ]

-- rows that are given shares within their sizes are orders still, and the same ones
all_sound-given : (rows : List Row) (ns : List ℕ) → AllZip (λ r n. n ≤ r.size) rows ns → AllPass sound rows → AllPass sound (given_rows rows ns)
all_sound-given [] [] within all_sound = All-nil (λ r. sound r ≡ true)
all_sound-given [] (n ∷ ns) within all_sound = absurd within
all_sound-given (r ∷ rows) [] within all_sound = absurd within
all_sound-given (r ∷ rows) (n ∷ ns) within all_sound =
    All-cons (λ row. sound row ≡ true) (given_row r n) (given_rows rows ns) (sound-given r n within.0 (All-head (λ row. sound row ≡ true) r rows all_sound)) (all_sound-given rows ns within.1 (All-tail (λ row. sound row ≡ true) r rows all_sound))

tickets-given : (rows : List Row) (ns : List ℕ) → AllZip (λ r n. n ≤ r.size) rows ns → map ticket_of (given_rows rows ns) ≡ map ticket_of rows
tickets-given [] [] within = refl
tickets-given [] (n ∷ ns) within = absurd within
tickets-given (r ∷ rows) [] within = absurd within
tickets-given (r ∷ rows) (n ∷ ns) within = ap₂ (λ t ts. t ∷ ts) (ticket-given r n) (tickets-given rows ns within.1)

-- the rows of a list that is given an assignment
pub record Given (rows after : List Row) (ns : List ℕ) : Type 0 where
  pub same_tickets : map ticket_of after ≡ map ticket_of rows
  pub all_sound : AllPass sound after
  pub filled : filled_shares after ≡ ns

pub given : (terms : Terms) (l : Held Row) (ns : List ℕ) → AllPass sound (kept l) → Assignment (orders_at l terms) ns → Given (kept l) (kept (list_after l ns)) ns
given terms l ns all_sound a =
    let paired : length ns ≡ length (kept l) = AllZip-long _ _ ns a.within ∙ length-map (kept l) (entered terms) in
    let rows : kept (list_after l ns) ≡ given_rows (kept l) ns = kept_rewritten l (given_rows (kept l) ns) (length-beside given_row (kept l) ns (omega arith) ∙ length_kept l) in
    let within = each_from (λ (e : Entry) (n : ℕ). n ≤ e.size) (entered terms) (kept l) ns a.within in
    let still : AllPass sound (kept (list_after l ns)) = rw rows (all_sound-given (kept l) ns within all_sound) in
    record {
      same_tickets = rw rows (tickets-given (kept l) ns within);
      all_sound = still;
      filled = filled-given (kept (list_after l ns)) still ∙ given_after terms l ns a;
    }
