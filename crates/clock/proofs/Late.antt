-- What the clock says from 15:45 on. Assumes nothing.
use Rattle.std.proofs.Common.{◌≡◌, ℕ, true, sym, true≢false, arith}
use Rattle.std.proofs.lemmas.Bool.Decides.{nat_tests}
use Rattle.order.specs.declared.kind.Kind.{Kind}
use Rattle.order.specs.declared.kind.Kind.TheVariants.{MarketOnClose, Crowd, LimitOnClose, Book, MarketMaker, ClosingOffset, Yielding, Stop}
use Rattle.order.specs.Kinds.{on_close}
use Rattle.clock.specs.declared.phase.Phase.{Phase}
use Rattle.clock.specs.declared.table.Allowance.{Allowance}
use Rattle.clock.specs.declared.table.Allowance.TheVariants.{Yes, AgainstNotice, No}
use Rattle.clock.specs.declared.table.Event.TheVariants.{In}
use Rattle.clock.specs.Phases.{is_late, phase_at}
use Rattle.clock.specs.Table.{line, line_of, allowed_in, lets, wants_notice}

-- of a line that says yes until 15:45, then asks for a notice, and says no from 16:00
abbrev of_notices : Phase → Allowance
of_notices = line Yes AgainstNotice AgainstNotice No

late : (t : ℕ) → is_late t ≡ true → lets (of_notices (phase_at t)) ≡ true → wants_notice (of_notices (phase_at t)) ≡ true
late t after allowed = grind (arith, nat_tests, after, allowed)

-- from 15:45 on an M or L that the clock lets in takes a notice
pub late_wants_notice : (kind : Kind) → on_close kind ≡ true → (t : ℕ) → is_late t ≡ true → lets (allowed_in (phase_at t) (In kind)) ≡ true → wants_notice (allowed_in (phase_at t) (In kind)) ≡ true
unfolding line_of
late_wants_notice MarketOnClose on t = late t
late_wants_notice Crowd on t = absurd (true≢false (sym on))
late_wants_notice LimitOnClose on t = late t
late_wants_notice Book on t = absurd (true≢false (sym on))
late_wants_notice MarketMaker on t = absurd (true≢false (sym on))
late_wants_notice ClosingOffset on t = absurd (true≢false (sym on))
late_wants_notice Yielding on t = absurd (true≢false (sym on))
late_wants_notice Stop on t = absurd (true≢false (sym on))
