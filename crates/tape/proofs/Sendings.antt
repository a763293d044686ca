-- Bytes that are sent, one after another. Assumes nothing.
use Rattle.std.proofs.Common.{◌≡◌, ℕ, ◌+◌, ◌-◌, ◌<◌, ◌≤◌, true, List, [], ◌++◌, length, take, drop, Some, None, Option, Ok, Err, refl, sym, ap, subst, ◌∙◌, arith, zero-add, add_assoc}
use Rattle.std.specs.Prelude.{Result, MatchResult, OnErr, is_err}
use Rattle.std.proofs.lemmas.List.{append_assoc, append-nil, length-append, length-drop, length-take-le, take_all, take-append-drop, nil_from_length}
use Rattle.std.proofs.KnownBytes.{Appends-nil, Appends-trans}
use Rattle.std.specs.Io.KnownBytes.{Appends, Keeps}
use Rattle.tape.specs.Ends.{Output, HasRoom}
use Rattle.tape.specs.Sending.{Sends, Breaks}

-- room is room for as many bytes, and for fewer
pub room_as : (o : Output) (m n : ℕ) → m ≡ n → HasRoom o m → HasRoom o n
room_as o m n is room = subst (HasRoom o) is room

pub room_less : (o : Output) (m n : ℕ) → HasRoom o (m + n) → HasRoom o m
room_less o m n room = (n + room.0, room.1 ∙ ap (λ (k : ℕ). Some k) (add_assoc m n room.0))

pub sends_none : (o : Output) (unsent : List ℕ) → Sends o o unsent unsent []
sends_none o unsent = record { sent = []; split = append-nil unsent; wrote = Appends-nil o.bytes; spent = λ count room. room_as o (0 + count) count (zero-add count) room }

module _ {o o1 : Output} {unsent left1 xs : List ℕ} (first : Sends o o1 unsent left1 xs) where
  -- and then more
  pub sends_more : {o2 : Output} {left2 ys : List ℕ} → Sends o1 o2 left1 left2 ys → Sends o o2 unsent left2 (xs ++ ys)
  sends_more {o2 = o2} {left2 = left2} {ys = ys} second =
      record {
        sent = first.sent ++ second.sent;
        split = sym (append_assoc unsent xs ys) ∙ ap (λ (l : List ℕ). l ++ ys) first.split ∙ append_assoc first.sent left1 ys
            ∙ ap (λ (l : List ℕ). first.sent ++ l) second.split ∙ sym (append_assoc first.sent second.sent left2);
        wrote = Appends-trans o.bytes o1.bytes o2.bytes first.sent second.sent first.wrote second.wrote;
        spent = λ count room. second.spent count (first.spent (length second.sent + count)
            (room_as o (length (first.sent ++ second.sent) + count) (length first.sent + (length second.sent + count)) (omega (arith, length-append first.sent second.sent)) room));
      }

  -- and then a break
  pub sends_breaks : {o2 : Output} (ys : List ℕ) → Breaks o1 o2 (left1 ++ ys) → Breaks o o2 (unsent ++ (xs ++ ys))
  sends_breaks {o2 = o2} ys second =
      let both : unsent ++ (xs ++ ys) ≡ first.sent ++ (left1 ++ ys) =
      sym (append_assoc unsent xs ys) ∙ ap (λ (l : List ℕ). l ++ ys) first.split ∙ append_assoc first.sent left1 ys in
      record {
        sent = first.sent ++ second.sent;
        unsent = second.unsent;
        split = both ∙ ap (λ (l : List ℕ). first.sent ++ l) second.split ∙ sym (append_assoc first.sent second.sent second.unsent);
        wrote = Appends-trans o.bytes o1.bytes o2.bytes first.sent second.sent first.wrote second.wrote;
        short = λ room. second.short (first.spent (length (left1 ++ ys))
            (room_as o (length (unsent ++ (xs ++ ys))) (length first.sent + length (left1 ++ ys)) (ap length both ∙ length-append first.sent (left1 ++ ys)) room));
      }

-- bytes that are appended stay so
keeps-appends : (a b c : Option (List ℕ)) (sent : List ℕ) → Appends a b sent → Keeps b c → Appends a c sent
keeps-appends None b c sent p q = tt
keeps-appends (Some x) None c sent p q = absurd p
keeps-appends (Some x) (Some y) None sent p q = absurd q
keeps-appends (Some x) (Some y) (Some z) sent p q = q ∙ p

-- all that was held back was sent, and then the output passes it on, or not
pub flushed : {E : Type 0} {o o1 : Output} {unsent left : List ℕ} (o2 : Output) (r : Result (Unit {0}) E) → Sends o o1 unsent left [] × (left ≡ [])
    → Keeps o1.bytes o2.bytes → ((count : ℕ) → HasRoom o1 count → HasRoom o2 count) → OnErr r (HasRoom o1 0 → ⊥)
    → MatchResult r (λ _. Sends o o2 unsent left [] × (left ≡ [])) (λ _. Breaks o o2 unsent)
flushed {o = o} {o1 = o1} o2 (Ok x) first kept stays fails = (
  record { sent = first.0.sent; split = first.0.split; wrote = keeps-appends o.bytes o1.bytes o2.bytes first.0.sent first.0.wrote kept; spent = λ count room. stays count (first.0.spent count room) },
  first.1,
)
flushed {o = o} {o1 = o1} {unsent = unsent} o2 (Err e) first kept stays fails =
    let all : unsent ≡ first.0.sent = sym (append-nil unsent) ∙ first.0.split ∙ ap (λ (l : List ℕ). first.0.sent ++ l) first.1 ∙ append-nil first.0.sent in
    record {
      sent = first.0.sent;
      unsent = [];
      split = all ∙ sym (append-nil first.0.sent);
      wrote = keeps-appends o.bytes o1.bytes o2.bytes first.0.sent first.0.wrote kept;
      short = λ room. fails (first.0.spent 0 (room_as o (length unsent) (length first.0.sent + 0) (omega (arith, ap length all)) room));
    }

-- more bytes do not help
pub breaks_more : {o o' : Output} {bytes : List ℕ} (more : List ℕ) → Breaks o o' bytes → Breaks o o' (bytes ++ more)
breaks_more {o = o} {bytes = bytes} more b =
    record {
      sent = b.sent;
      unsent = b.unsent ++ more;
      split = ap (λ (l : List ℕ). l ++ more) b.split ∙ append_assoc b.sent b.unsent more;
      wrote = b.wrote;
      short = λ room. b.short (room_less o (length bytes) (length more) (room_as o (length (bytes ++ more)) (length bytes + length more) (length-append bytes more) room));
    }

-- what an error is to mean, where there is one
pub at_err : {T E Q : Type 0} (P : Type 0) (r : Result T E) → is_err r ≡ true → Q → MatchResult r (λ _. P) (λ _. Q)
at_err P (Ok x) failed holds = absurd cc
at_err P (Err e) failed holds = holds

-- some of these bytes are sent; where there was room for all, each turn sent one or more
pub record Going (bytes : List ℕ) (before now : Output) (rest : List ℕ) (turn : ℕ) : Type 0 where
  pub sent : List ℕ
  pub split : bytes ≡ sent ++ rest
  pub wrote : Appends before.bytes now.bytes sent
  pub spent : (more : ℕ) → HasRoom before (length bytes + more) → HasRoom now (length rest + more)
  pub some : HasRoom before (length bytes) → turn ≤ length sent

pub going_begun : (bytes : List ℕ) (o : Output) → Going bytes o o bytes 0
going_begun bytes o = record { sent = []; split = refl; wrote = Appends-nil o.bytes; spent = λ more room. room; some = λ room. omega arith }

module _ {bytes rest : List ℕ} {o o1 : Output} {turn : ℕ} (so_far : Going bytes o o1 rest turn) where
  -- where there was room for all, there is for the rest
  room_left : HasRoom o (length bytes) → HasRoom o1 (length rest)
  room_left room = room_as o1 (length rest + 0) (length rest) (omega arith) (so_far.spent 0 (room_as o (length bytes) (length bytes + 0) (omega arith) room))

  -- a write takes some
  pub going_on : {o2 : Output} {count : ℕ} (rest' : List ℕ) → count ≤ length rest → 0 < length rest → Appends o1.bytes o2.bytes (take count rest)
      → (HasRoom o1 (length rest) → 0 < length rest → 0 < count) → ((more : ℕ) → HasRoom o1 (count + more) → HasRoom o2 more)
      → rest' ≡ take (length rest - count) (drop count rest) → Going bytes o o2 rest' (turn + 1)
  going_on {o2 = o2} {count = count} rest' within any wrote some spends is =
      let left : rest' ≡ drop count rest = is ∙ take_all (length rest - count) (drop count rest) (omega (arith, length-drop count rest)) in
      let long : count + length rest' ≡ length rest = omega (arith, within, ap length left, length-drop count rest) in
      record {
        sent = so_far.sent ++ take count rest;
        split = so_far.split ∙ ap (λ (l : List ℕ). so_far.sent ++ l) (sym (take-append-drop count rest)) ∙ sym (append_assoc so_far.sent (take count rest) (drop count rest))
            ∙ ap (λ (l : List ℕ). (so_far.sent ++ take count rest) ++ l) (sym left);
        wrote = Appends-trans o.bytes o1.bytes o2.bytes so_far.sent (take count rest) so_far.wrote wrote;
        spent = λ more room. spends (length rest' + more) (room_as o1 (length rest + more) (count + (length rest' + more)) (omega (arith, long)) (so_far.spent more room));
        some = λ room. omega (arith, so_far.some room, some (room_left room) any, length-append so_far.sent (take count rest), length-take-le count rest within);
      }

  -- or is interrupted, where there was no room for sure
  pub going_again : {o2 : Output} (rest' : List ℕ) → Keeps o1.bytes o2.bytes → (HasRoom o1 (length rest) → ⊥) → rest' ≡ rest → Going bytes o o2 rest' (turn + 1)
  going_again {o2 = o2} rest' kept fails is =
      record {
        sent = so_far.sent;
        split = so_far.split ∙ ap (λ (l : List ℕ). so_far.sent ++ l) (sym is);
        wrote = keeps-appends o.bytes o1.bytes o2.bytes so_far.sent so_far.wrote kept;
        spent = λ more room. absurd (fails (room_less o1 (length rest) more (so_far.spent more room)));
        some = λ room. absurd (fails (room_left room));
      }

  -- all are sent
  pub going_done : length rest ≡ 0 → Sends o o1 bytes [] []
  going_done none =
      let nothing : rest ≡ [] = nil_from_length rest none in
      record {
        sent = so_far.sent;
        split = append-nil bytes ∙ so_far.split ∙ ap (λ (l : List ℕ). so_far.sent ++ l) nothing;
        wrote = so_far.wrote;
        spent = λ count room. room_as o1 (length rest + count) count (omega (arith, none))
            (so_far.spent count (room_as o (length so_far.sent + count) (length bytes + count) (omega (arith, none, ap length so_far.split, length-append so_far.sent rest)) room));
      }

  -- a write fails
  pub going_wrong : {o2 : Output} → Keeps o1.bytes o2.bytes → (HasRoom o1 (length rest) → ⊥) → Breaks o o2 bytes
  going_wrong {o2 = o2} kept fails =
      record { sent = so_far.sent; unsent = rest; split = so_far.split; wrote = keeps-appends o.bytes o1.bytes o2.bytes so_far.sent so_far.wrote kept; short = λ room. fails (room_left room) }

  -- a write takes none
  pub going_nowhere : {o2 : Output} {count : ℕ} → count ≡ 0 → 0 < length rest → Appends o1.bytes o2.bytes (take count rest) → (HasRoom o1 (length rest) → 0 < length rest → 0 < count) → Breaks o o2 bytes
  going_nowhere {o2 = o2} {count = count} none any wrote some =
      record {
        sent = so_far.sent;
        unsent = rest;
        split = so_far.split;
        wrote = subst (Appends o.bytes o2.bytes) (ap (λ (k : ℕ). so_far.sent ++ take k rest) none ∙ append-nil so_far.sent)
            (Appends-trans o.bytes o1.bytes o2.bytes so_far.sent (take count rest) so_far.wrote wrote);
        short = λ room. omega (arith, none, some (room_left room) any);
      }

  -- no write succeeds in the end
  pub going_endless : length bytes < turn → Breaks o o1 bytes
  going_endless long =
      record {
        sent = so_far.sent;
        unsent = rest;
        split = so_far.split;
        wrote = so_far.wrote;
        short = λ room. omega (arith, long, so_far.some room, ap length so_far.split, length-append so_far.sent rest);
      }
