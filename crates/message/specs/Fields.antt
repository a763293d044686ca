-- The fields of a message, as they lie in its sixteen bytes. Assumes nothing.
use Rattle.std.specs.Prelude.{ℕ, ◌+◌, List, [], ◌∷◌, slice_index}
use Rattle.std.specs.Int.{w32, from_be_bytes}
use Rattle.message.specs.declared.fields.Fields.{Fields}

-- the number in four bytes from a place on, high byte first
abbrev pub number_at : List ℕ → ℕ → ℕ
number_at bytes i = from_be_bytes w32 (slice_index bytes i ∷ slice_index bytes (i + 1) ∷ slice_index bytes (i + 2) ∷ slice_index bytes (i + 3) ∷ [])

-- verb, kind, side and flag in a byte each, then number, price and quantity in four bytes each
abbrev pub fields_of : List ℕ → Fields
fields_of bytes =
    record {
      verb = slice_index bytes 0;
      kind = slice_index bytes 1;
      side = slice_index bytes 2;
      flag = slice_index bytes 3;
      number = number_at bytes 4;
      price = number_at bytes 8;
      quantity = number_at bytes 12;
    }
