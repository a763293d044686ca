-- A list whose elements are written anew, in order, each by the number at its place. Assumes nothing.
use Rattle.std.proofs.Common.{◌≡◌, ℕ, ◌+◌, ◌<◌, ◌≤◌, List, ◌++◌, length, get_or, take, drop, ap, ◌∙◌, arith}
use Rattle.std.specs.List.{zip}
use Rattle.std.proofs.lemmas.List.{places, append_assoc, drop_more, set_at, take_more, take_all, length-map, length-take-le, get_or-map}
use Rattle.std.proofs.lemmas.Slice.Zip.{length-zip, get_or-zip}
use Rattle.list.specs.declared.List.{List as Held}
use Rattle.list.specs.Held.{contents, held, kept, holding, written}
use Rattle.book.specs.Answers.{rewritten}
use Rattle.std.specs.List.{AllZip}
use Rattle.book.specs.Fill.{beside}
use Rattle.std.proofs.lemmas.Slice.Zip.{AllZip-long}
use Rattle.book.proofs.Pairs.{each_at}

pub length_kept : {T : Type 0} (l : Held T) → length (kept l) ≡ held l
length_kept l = length-take-le (held l) (contents l) (omega arith)

pub length-beside : {A B : Type 0} (f : A → ℕ → B) (xs : List A) (ns : List ℕ) → length xs ≤ length ns → length (beside f xs ns) ≡ length xs
length-beside f xs ns h = grind (arith, length-map, length-zip)

get_or-beside : {A B : Type 0} (f : A → ℕ → B) (xs : List A) (ns : List ℕ) (i : ℕ) (d : A) (z : ℕ) (e : B) → i < length xs → i < length ns → get_or (beside f xs ns) i e ≡ f (get_or xs i d) (get_or ns i z)
get_or-beside f xs ns i d z e h k = get_or-map (λ p. f p.0 p.1) (zip xs ns) i (d, z) e (omega (arith, length-zip xs ns)) ∙ ap (λ p. f p.0 p.1) (get_or-zip xs ns i (d, z) h k)

-- a list in whose first i places the first of xs are written
abbrev pub half : {X : Type 0} → Held X → List X → ℕ → Held X
half l xs i = holding l (take i xs ++ drop i (contents l)) l.count

module _ {X : Type 0} (l : Held X) (xs : List X) (whole : length xs ≡ held l) where
  half_held : (i : ℕ) → i < held l → held (half l xs i) ≡ held l
  half_held i inside = grind (arith, places)

  -- what has not been written is as it was
  half_read : (i : ℕ) (d : X) → i < held l → get_or (kept (half l xs i)) i d ≡ get_or (kept l) i d
  half_read i d inside = grind (arith, places, half_held)

  half_more : (i : ℕ) (z : X) → i < held l → written (half l xs i) i (get_or xs i z) ≡ half l xs (i + 1)
  half_more i z inside =
      let front : length (take i xs) ≡ i = length-take-le i xs (omega arith) in
      ap (λ ys. holding l ys l.count) (rw (drop_more (contents l) i z (omega arith), set_at, take_more xs i z (omega arith), append_assoc))

  half_all : half l xs (held l) ≡ rewritten l xs
  half_all = let enough : length xs ≤ held l = omega arith in rw take_all

-- m is l with its first i elements written anew by f, and P holds of each element and its number
pub record Underway {X : Type 0} (P : X → ℕ → Type 0) (f : X → ℕ → X) (ns : List ℕ) (l m : Held X) (i : ℕ) : Type 0 where
  pub each : AllZip P (kept l) ns
  pub so_far : m ≡ half l (beside f (kept l) ns) i

module _ {X : Type 0} {P : X → ℕ → Type 0} {f : X → ℕ → X} {ns : List ℕ} {l m : Held X} {i : ℕ} (u : Underway P f ns l m i) where
  paired : length ns ≡ held l
  paired = AllZip-long P (kept l) ns u.each ∙ length_kept l

  whole : length (beside f (kept l) ns) ≡ held l
  whole = length-beside f (kept l) ns (omega (arith, paired, length_kept l)) ∙ length_kept l

  module _ (inside : i < length ns) where
    pub within : i < held m
    within = rw (u.so_far, half_held l _ whole i (omega (arith, paired))) (omega (arith, paired))

    read : (d : X) → get_or (kept m) i d ≡ get_or (kept l) i d
    read d = rw u.so_far (half_read l _ whole i d (omega (arith, paired)))

    -- P holds of what is read and its number
    pub holds : (d : X) (z : ℕ) → P (get_or (kept m) i d) (get_or ns i z)
    holds d z = rw (read d) (each_at P (kept l) ns d z u.each i (omega (arith, paired, length_kept l)))

    pub more : (d : X) (z : ℕ) → Underway P f ns l (written m i (f (get_or (kept m) i d) (get_or ns i z))) (i + 1)
    more d z =
        let fills = beside f (kept l) ns in
        let gets = get_or-beside f (kept l) ns i d z d (omega (arith, paired, length_kept l)) inside in
        record { each = u.each; so_far = rw (read d, ← gets, u.so_far) (half_more l fills whole i d (omega (arith, paired))) }

  pub finished : i ≡ length ns → m ≡ rewritten l (beside f (kept l) ns)
  finished all = let end : i ≡ held l = omega (arith, paired) in rw (u.so_far, end) (half_all l _ whole)
