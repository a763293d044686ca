-- Which lives a session can have: one call after another, each answered, and each leaving, what its contract says. Assumes nothing.
use Rattle.std.specs.Prelude.{◌≡◌, ℕ, List}
use Rattle.list.specs.Held.{kept}
use Rattle.sharing.specs.Shares.{Divides}
use Rattle.session.specs.declared.call.Call.{Call}
use Rattle.session.specs.Laws.{Lived}
use Rattle.session.specs.Lives.{Life, begun, later}
use Rattle.session.specs.Moments.{Moment, Work, Opened, answer_at, moment_after}
use Rattle.session.specs.Replies.{Answer}

-- a call is answered at a moment and leaves the next
pub record Follows (m : Moment) (call : Call) (answer : Answer) (m' : Moment) : Type 0 where
  -- it is lent some work lists, and a method of some meaning that divides
  pub work : Work
  pub meaning : ℕ → List ℕ → List ℕ
  pub divides : Divides meaning
  -- the answer and the next moment are those defined
  pub says : answer ≡ answer_at m work call
  pub leaves : m' ≡ moment_after m work meaning call

-- a life that began with an opening has led to a moment, and nothing but its calls has changed what stands
abbrev pub Led : Life → Moment → Type 0
Led begun m = Opened m
Led (later life call answer) m' = (m : Moment) × Led life m × Follows m call answer m'

-- every life that a session can have is lawful, and session and lists are those after it
abbrev pub AllLived : Type 0
AllLived = (life : Life) (m : Moment) → Led life m → Lived life m.state (kept m.orders) (kept m.notices)
