-- What a list holds, and what each change makes of it. Assumes nothing.
use Rattle.std.specs.Prelude.{ℕ, ◌+◌, ◌-◌, min, Bool, List, ◌++◌, length, take, drop, nat_le, slice_set, codes}
use Rattle.std.specs.Borrow.{MutBor}
use Rattle.std.specs.List.{remove}
use Rattle.list.specs.declared.List.{List as Held}
use Rattle.list.specs.declared.Full.{Full}
use Rattle.list.specs.declared.Absent.{Absent}

-- what every place holds that the list is lent, used or not
abbrev pub contents : {T : Type 0} → Held T → List T
contents l = l.places.now

-- how many elements the list can hold: as many as it has places, and at most 4,096
abbrev pub room : {T : Type 0} → Held T → ℕ
room l = min (length (contents l)) 4096

-- how many it holds: never more than there is room for, whatever its count says
abbrev pub held : {T : Type 0} → Held T → ℕ
held l = min l.count (room l)

-- its elements, in order of arrival
abbrev pub kept : {T : Type 0} → Held T → List T
kept l = take (held l) (contents l)

-- no place is left
abbrev pub full : {T : Type 0} → Held T → Bool
full l = nat_le (room l) (held l)

-- the two refusals
abbrev pub no_place : Full
no_place = record {}

abbrev pub no_element : Absent
no_element = record {}

-- what each of them prints
abbrev pub no_place_text : List ℕ
no_place_text = codes "no place is left"

abbrev pub no_element_text : List ℕ
no_element_text = codes "there is no element at that place"

-- the same list with other contents of its places, and another count
abbrev pub holding : {T : Type 0} → Held T → List T → ℕ → Held T
holding l xs n = record { places = record { ref_ptr = l.places.ref_ptr; ghost_name = l.places.ghost_name; now = xs }; count = n }

-- an empty list over lent places, which keep what they hold
abbrev pub opened : {T : Type 0} → MutBor (List T) → Held T
opened lent = record { places = lent; count = 0 }

-- an element more, in the first place that is free; no other place changes
abbrev pub appended : {T : Type 0} → Held T → T → Held T
appended l x = holding l (slice_set (contents l) (held l) x) (held l + 1)

-- another element at place i; no other place changes
abbrev pub written : {T : Type 0} → Held T → ℕ → T → Held T
written l i x = holding l (slice_set (contents l) i x) l.count

-- the element at place i taken out, and the later ones moved down by one; the place that is freed keeps what it held, and so do those after it
abbrev pub without : {T : Type 0} → Held T → ℕ → Held T
without l i = holding l (remove (kept l) i ++ drop (held l - 1) (contents l)) (held l - 1)

-- no element; every place keeps what it held
abbrev pub emptied : {T : Type 0} → Held T → Held T
emptied l = holding l (contents l) 0
