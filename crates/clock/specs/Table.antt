-- The clock table: what a session may do in each phase. Assumes nothing.
use Rattle.std.specs.Prelude.{Bool, true, false, if◌then◌else◌}
use Rattle.order.specs.declared.kind.Kind.TheVariants.{MarketOnClose, Crowd, LimitOnClose, Book, MarketMaker, ClosingOffset, Yielding, Stop}
use Rattle.clock.specs.declared.phase.Phase.{Phase}
use Rattle.clock.specs.declared.phase.Phase.TheVariants.{Regular, Imbalance, Final, Closing}
use Rattle.clock.specs.declared.table.Allowance.{Allowance}
use Rattle.clock.specs.declared.table.Allowance.TheVariants.{Yes, AgainstNotice, No}
use Rattle.clock.specs.declared.table.Event.{Event}
use Rattle.clock.specs.declared.table.Event.TheVariants.{In, Off, Sale, Quote, Publication, Close}

-- a line of the table: what it says from 0, from 15:45, from 15:58 and from 16:00
abbrev pub line : Allowance → Allowance → Allowance → Allowance → Phase → Allowance
line a b c d Regular = a
line a b c d Imbalance = b
line a b c d Final = c
line a b c d Closing = d

-- what only the error flag allows
abbrev pub if_flagged : Bool → Allowance
if_flagged flagged = (if flagged then Yes else No)

-- the table, a line for each event
unfoldable pub line_of : Event → Phase → Allowance
line_of (In MarketOnClose) = line Yes AgainstNotice AgainstNotice No
line_of (In LimitOnClose) = line Yes AgainstNotice AgainstNotice No
line_of (Off MarketOnClose flagged) = line Yes (if_flagged flagged) No No
line_of (Off LimitOnClose flagged) = line Yes (if_flagged flagged) No No
line_of (Off ClosingOffset flagged) = line Yes (if_flagged flagged) No No
line_of (In ClosingOffset) = line Yes Yes Yes No
line_of (In Book) = line Yes Yes Yes No
line_of (In Yielding) = line Yes Yes Yes No
line_of (In Stop) = line Yes Yes Yes No
line_of (Off Book flagged) = line Yes Yes Yes No
line_of (Off Yielding flagged) = line Yes Yes Yes No
line_of (Off Stop flagged) = line Yes Yes Yes No
line_of Sale = line Yes Yes Yes No
line_of Quote = line Yes Yes Yes No
line_of Publication = line Yes Yes Yes No
line_of (In Crowd) = line Yes Yes Yes Yes
line_of (In MarketMaker) = line Yes Yes Yes Yes
line_of (Off Crowd flagged) = line Yes Yes Yes Yes
line_of (Off MarketMaker flagged) = line Yes Yes Yes Yes
line_of Close = line No No No Yes

-- what the clock says to an event in a phase
abbrev pub allowed_in : Phase → Event → Allowance
allowed_in phase event = line_of event phase

-- whether the clock lets it happen, be it against a notice
abbrev pub lets : Allowance → Bool
lets Yes = true
lets AgainstNotice = true
lets No = false

-- whether it takes a notice
abbrev pub wants_notice : Allowance → Bool
wants_notice Yes = false
wants_notice AgainstNotice = true
wants_notice No = false
