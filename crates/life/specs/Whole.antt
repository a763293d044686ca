-- What holds of a whole life: of each call and its answer, at each step, and at the end. Assumes nothing.
use Rattle.std.specs.Prelude.{◌≡◌, ℕ, List, [], ◌∷◌, length, take, Some, Ok, slice_get}
use Rattle.list.specs.Held.{kept}
use Rattle.order.specs.declared.kind.Row.{Row}
use Rattle.session.specs.declared.call.Call.{Call}
use Rattle.session.specs.declared.call.Outcome.TheVariants.{Printed}
use Rattle.session.specs.declared.call.Print.{Print}
use Rattle.session.specs.declared.notice.Notice.{Notice}
use Rattle.session.specs.Laws.{Lived}
use Rattle.session.specs.Lives.{Life, begun, later, ledger_of, was_closed}
use Rattle.session.specs.Moments.{Moment}
use Rattle.session.specs.Questions.{refused_with}
use Rattle.session.specs.Replies.{Answer}
use Rattle.session.specs.States.{State}
use Rattle.session.specs.Upheld.{UpheldBy, filled_shares}

-- the life of calls with their answers, after an earlier life
abbrev pub lived_on : Life → List Call → List Answer → Life
lived_on life [] answers = life
lived_on life (call ∷ calls) [] = life
lived_on life (call ∷ calls) (answer ∷ answers) = lived_on (later life call answer) calls answers

-- the life of the first k calls with their answers
abbrev pub first_of : ℕ → List Call → List Answer → Life
first_of k calls answers = lived_on begun (take k calls) (take k answers)

-- what holds of a whole life: of each call and its answer, and of the session, its rows and its notices, at each step and at the end. Given are what
-- stood after the first k calls, for each k, and what stands at the end
pub record WholeLife (calls : List Call) (answers : List Answer) (moments : ℕ → Moment) (s : State) (rows : List Row) (notices : List Notice) : Type 0 where
  -- each call has one answer
  pub paired : length answers ≡ length calls
  -- each answer is upheld by the ledger of the calls before it and their answers
  pub upheld : (k : ℕ) (call : Call) (answer : Answer) → slice_get calls k ≡ Some call → slice_get answers k ≡ Some answer
      → UpheldBy (ledger_of (first_of k calls answers)) call answer (filled_shares rows)
  -- a call is refused as done (7) just where a close before it was completed
  pub ends : (k : ℕ) (answer : Answer) → slice_get answers k ≡ Some answer → refused_with 7 answer ≡ was_closed (first_of k calls answers)
  -- at most one call is answered with a print
  pub printed_once : (j k : ℕ) (a b : Print) → slice_get answers j ≡ Some (Ok (Printed a)) → slice_get answers k ≡ Some (Ok (Printed b)) → j ≡ k
  -- session, rows and notices agree at each step with the ledger and the life of the first k calls
  pub steps : (k : ℕ) → Lived (first_of k calls answers) (moments k).state (kept (moments k).orders) (kept (moments k).notices)
  -- session, rows and notices are those after the whole life, which is lawful
  pub lived : Lived (lived_on begun calls answers) s rows notices
