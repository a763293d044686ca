-- What calls are answered and leave, one after another, from an opening on. Assumes nothing.
use Rattle.std.specs.Prelude.{ℕ, List, [], ◌∷◌, take}
use Rattle.list.specs.declared.List.{List as Held}
use Rattle.list.specs.Held.{emptied}
use Rattle.order.specs.declared.kind.Row.{Row}
use Rattle.session.specs.declared.call.Call.{Call}
use Rattle.session.specs.declared.notice.Notice.{Notice}
use Rattle.session.specs.Moments.{Moment, Work, moment, work_of, answer_at, moment_after, work_left}
use Rattle.session.specs.Replies.{Answer}
use Rattle.session.specs.States.{opened}

-- what stands between two calls, and the work lists
pub record Stage : Type 0 where
  pub moment : Moment
  pub work : Work

-- a session has just opened on two lists, which are then empty
abbrev pub at_opening : Held Row → Held Notice → List ℕ → List ℕ → Stage
at_opening orders notices claims gifts = record { moment = moment opened (emptied orders) (emptied notices); work = work_of claims gifts }

-- closes are shared by a method of this meaning
module _ (meaning : ℕ → List ℕ → List ℕ) where
  -- what a call leaves
  abbrev pub stage_after : Stage → Call → Stage
  stage_after st call = record { moment = moment_after st.moment st.work meaning call; work = work_left st.moment st.work meaning call }

  -- what calls leave, one after another
  abbrev pub after_all : Stage → List Call → Stage
  after_all st [] = st
  after_all st (call ∷ calls) = after_all (stage_after st call) calls

  -- what stands after the first k of them
  abbrev pub moments_along : Stage → List Call → ℕ → Moment
  moments_along st calls k = (after_all st (take k calls)).moment

  -- what they are answered
  abbrev pub answers_to : Stage → List Call → List Answer
  answers_to st [] = []
  answers_to st (call ∷ calls) = answer_at st.moment st.work call ∷ answers_to (stage_after st call) calls

-- what stands at the end of a whole life, on these lists and with these work lists
abbrev pub ending : (ℕ → List ℕ → List ℕ) → Held Row → Held Notice → List ℕ → List ℕ → List Call → Stage
ending meaning orders notices claims gifts calls = after_all meaning (at_opening orders notices claims gifts) calls

-- what stands after its first k calls
abbrev pub moments_of : (ℕ → List ℕ → List ℕ) → Held Row → Held Notice → List ℕ → List ℕ → List Call → ℕ → Moment
moments_of meaning orders notices claims gifts calls = moments_along meaning (at_opening orders notices claims gifts) calls

-- the answers to its calls
abbrev pub all_answers : (ℕ → List ℕ → List ℕ) → Held Row → Held Notice → List ℕ → List ℕ → List Call → List Answer
all_answers meaning orders notices claims gifts calls = answers_to meaning (at_opening orders notices claims gifts) calls
