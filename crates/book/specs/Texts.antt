-- The texts of what a fill refuses. Assumes nothing.
use Rattle.std.specs.Prelude.{ℕ, List, codes}
use Rattle.sharing.specs.Shares.{unequal_text}
use Rattle.book.specs.declared.fills.FillFault.{FillFault}
use Rattle.book.specs.declared.fills.FillFault.TheVariants.{NoPlace, Unfillable, Unequal}

-- a price at which the orders cannot be filled
abbrev pub unfillable_text : List ℕ
unfillable_text = codes "unfillable: no division of the shares fills every order that must execute"

-- the ground on which a list is not filled
abbrev pub fault_text : FillFault → List ℕ
fault_text NoPlace = codes "a work list has no place for each order"
fault_text Unfillable = unfillable_text
fault_text Unequal = unequal_text
