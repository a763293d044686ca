-- The letters of verbs, kinds and sides, and the numbers of flags. Assumes nothing.
use Rattle.std.specs.Prelude.{ℕ, Bool, true, false, if◌then◌else◌, ◌==◌, Some, None, Option}
use Rattle.order.specs.declared.kind.Kind.{Kind}
use Rattle.order.specs.declared.kind.Kind.TheVariants.{MarketOnClose, Crowd, LimitOnClose, Book, MarketMaker, ClosingOffset, Yielding, Stop}
use Rattle.order.specs.declared.kind.Side.{Side}
use Rattle.order.specs.declared.kind.Side.TheVariants.{Buy, Sell}
use Rattle.order.specs.Kinds.{kind_letter, side_letter}
use Rattle.message.specs.declared.letters.Verb.{Verb}
use Rattle.message.specs.declared.letters.Verb.TheVariants.{Time, Sale, Quote, Entry, Cancel, Reduction, Publication, Close}

-- the verb of a letter, or none
abbrev pub verb_of : ℕ → Option Verb
verb_of b =
    if b == 84 then Some Time  -- T
    else if b == 83 then Some Sale  -- S
    else if b == 81 then Some Quote  -- Q
    else if b == 69 then Some Entry  -- E
    else if b == 88 then Some Cancel  -- X
    else if b == 82 then Some Reduction  -- R
    else if b == 80 then Some Publication  -- P
    else if b == 67 then Some Close  -- C
    else None

-- the kind that has a letter, or none
abbrev pub kind_of : ℕ → Option Kind
kind_of b =
    if b == kind_letter MarketOnClose then Some MarketOnClose
    else if b == kind_letter Crowd then Some Crowd
    else if b == kind_letter LimitOnClose then Some LimitOnClose
    else if b == kind_letter Book then Some Book
    else if b == kind_letter MarketMaker then Some MarketMaker
    else if b == kind_letter ClosingOffset then Some ClosingOffset
    else if b == kind_letter Yielding then Some Yielding
    else if b == kind_letter Stop then Some Stop
    else None

-- the side that has a letter, or none
abbrev pub side_of : ℕ → Option Side
side_of b = if b == side_letter Buy then Some Buy else if b == side_letter Sell then Some Sell else None

-- what a flag says, which is the number 0 or 1, or none
abbrev pub flag_of : ℕ → Option Bool
flag_of b = if b == 0 then Some false else if b == 1 then Some true else None
