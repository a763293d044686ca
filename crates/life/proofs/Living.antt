-- Calls that are answered one after another live a whole life. Assumes nothing.
use Rattle.std.proofs.Common.{◌≡◌, ℕ, zero, suc, ◌+◌, ◌<◌, true, List, [], ◌∷◌, ◌++◌, length, get_or, set, take, drop, Some, Ok, inl, inr, refl, ap, subst, ◌∙◌, arith}
use Rattle.std.specs.List.{slice_get}
use Rattle.std.proofs.lemmas.Bool.{cases_lt, or_right, false≢true}
use Rattle.std.proofs.lemmas.List.{take_more, take_all, take_at, drop_more, set_at, append_assoc, length-take-le}
use Rattle.list.specs.declared.List.{List as Held}
use Rattle.list.specs.Held.{kept}
use Rattle.list.proofs.Kept.{kept-emptied}
use Rattle.order.specs.declared.kind.Row.{Row}
use Rattle.sharing.specs.Shares.{Divides}
use Rattle.session.specs.declared.call.Call.{Call}
use Rattle.session.specs.declared.notice.Notice.{Notice}
use Rattle.session.specs.declared.call.Outcome.TheVariants.{Printed}
use Rattle.session.specs.declared.call.Print.{Print}
use Rattle.session.specs.Laws.{Lived, AllEnd, AllUpheld}
use Rattle.session.specs.Lives.{Life, begun, later, ledger_of, was_closed}
use Rattle.session.specs.Moments.{Opened, answer_at, moment_after, work_left}
use Rattle.session.specs.Questions.{refused_with}
use Rattle.session.specs.Replies.{Answer}
use Rattle.session.specs.Upheld.{UpheldBy}
use Rattle.session.proofs.Runs.{call_carries}
use Rattle.session.proofs.Steps.{begun_life}
use Rattle.life.specs.Stages.{Stage, at_opening, stage_after, after_all, moments_along, answers_to}
use Rattle.life.specs.Whole.{lived_on, WholeLife}

-- what holds of a life and holds of the life before its last call, holds of each life that it went on from
earlier : (P : Life → Type 0) → ((life : Life) (call : Call) (answer : Answer) → P (later life call answer) → P life)
    → (life : Life) (calls : List Call) (answers : List Answer) → P (lived_on life calls answers) → P life
earlier P before life [] answers h = h
earlier P before life (call ∷ calls) [] h = h
earlier P before life (call ∷ calls) (answer ∷ answers) h = before life call answer (earlier P before (later life call answer) calls answers h)

-- each answer of a life that went on was upheld
upheld_at : (shares : List ℕ) (life : Life) (calls : List Call) (answers : List Answer) → AllUpheld (lived_on life calls answers) shares
    → (k : ℕ) (call : Call) (answer : Answer) → slice_get calls k ≡ Some call → slice_get answers k ≡ Some answer
    → UpheldBy (ledger_of (lived_on life (take k calls) (take k answers))) call answer shares
upheld_at shares life [] answers all k call answer is says = absurd cc
upheld_at shares life (first ∷ calls) [] all k call answer is says = absurd cc
upheld_at shares life (first ∷ calls) (reply ∷ answers) all zero call answer is says =
    let here = earlier (λ l. AllUpheld l shares) (λ l c a h. h.0) (later life first reply) calls answers all in
    let same_call : first ≡ call = cc in
    let same : reply ≡ answer = cc in
    rw (← same_call, ← same) (here.1)
upheld_at shares life (first ∷ calls) (reply ∷ answers) all (suc k) call answer is says = upheld_at shares (later life first reply) calls answers all k call answer is says

-- and each call was refused as done just where a close before it was completed
ends_at : (life : Life) (calls : List Call) (answers : List Answer) → length answers ≡ length calls → AllEnd (lived_on life calls answers)
    → (k : ℕ) (answer : Answer) → slice_get answers k ≡ Some answer
    → refused_with 7 answer ≡ was_closed (lived_on life (take k calls) (take k answers))
ends_at life [] [] paired all k answer says = absurd cc
ends_at life [] (first ∷ answers) paired all k answer says = absurd (omega (arith, paired))
ends_at life (call ∷ calls) [] paired all k answer says = absurd cc
ends_at life (call ∷ calls) (first ∷ answers) paired all zero answer says =
    let here = earlier AllEnd (λ l c a h. h.0) (later life call first) calls answers all in
    let same : first ≡ answer = cc in
    subst (λ (a : Answer). refused_with 7 a ≡ was_closed life) same here.1
ends_at life (call ∷ calls) (first ∷ answers) paired all (suc k) answer says = ends_at (later life call first) calls answers (omega (arith, paired)) all k answer says

-- once a close of a life was completed, it stays so
stays_closed : (life : Life) (calls : List Call) (answers : List Answer) → was_closed life ≡ true → was_closed (lived_on life calls answers) ≡ true
stays_closed life [] answers closed = closed
stays_closed life (call ∷ calls) [] closed = closed
stays_closed life (call ∷ calls) (answer ∷ answers) closed = stays_closed (later life call answer) calls answers (rw closed refl)

-- it is so from the call on that was answered with a print
closed_from : (life : Life) (calls : List Call) (answers : List Answer) → length answers ≡ length calls → (j k : ℕ) (print : Print)
    → slice_get answers j ≡ Some (Ok (Printed print)) → j < k → was_closed (lived_on life (take k calls) (take k answers)) ≡ true
closed_from life calls [] paired j k print says before = absurd cc
closed_from life [] (first ∷ answers) paired j k print says before = absurd (omega (arith, paired))
closed_from life (call ∷ calls) (first ∷ answers) paired j zero print says before = absurd (omega (arith, before))
closed_from life (call ∷ calls) (first ∷ answers) paired zero (suc k) print says before =
    let same : first ≡ Ok (Printed print) = cc in
    stays_closed (later life call first) (take k calls) (take k answers) (rw same (or_right (was_closed life) true refl))
closed_from life (call ∷ calls) (first ∷ answers) paired (suc j) (suc k) print says before =
    closed_from (later life call first) calls answers (omega (arith, paired)) j k print says (omega (arith, before))

-- so no call after that is answered with a print
no_print_after : (calls : List Call) (answers : List Answer) → length answers ≡ length calls → AllEnd (lived_on begun calls answers) → (j k : ℕ) (a b : Print)
    → slice_get answers j ≡ Some (Ok (Printed a)) → slice_get answers k ≡ Some (Ok (Printed b)) → j < k → ⊥
no_print_after calls answers paired all j k a b first second before =
    false≢true (ends_at begun calls answers paired all k (Ok (Printed b)) second ∙ closed_from begun calls answers paired j k a first before)

-- at most one call is answered with a print
one_print : (calls : List Call) (answers : List Answer) → length answers ≡ length calls → AllEnd (lived_on begun calls answers) → (j k : ℕ) (a b : Print)
    → slice_get answers j ≡ Some (Ok (Printed a)) → slice_get answers k ≡ Some (Ok (Printed b)) → j ≡ k
one_print calls answers paired all j k a b first second =
    elim (cases_lt j k) [
      | inl before ↦ absurd (no_print_after calls answers paired all j k a b first second before)
      | inr later_on ↦
          elim (cases_lt k j)
          [ inl before ↦ absurd (no_print_after calls answers paired all k j b a second first before) | inr same ↦ omega (arith, later_on, same) ]
    ]

-- what stands at an opening is a session that has just opened
pub opens : (orders : Held Row) (notices : Held Notice) (claims gifts : List ℕ) → Opened (at_opening orders notices claims gifts).moment
opens orders notices claims gifts = record { at_start = refl; no_orders = kept-emptied orders; no_notices = kept-emptied notices }

module _ (meaning : ℕ → List ℕ → List ℕ) where
  length-answers_to : (st : Stage) (calls : List Call) → length (answers_to meaning st calls) ≡ length calls
  length-answers_to st [] = refl
  length-answers_to st (call ∷ calls) = ap suc (length-answers_to (stage_after meaning st call) calls)

  -- the answers to the first calls are the first answers
  answers_to-take : (k : ℕ) (st : Stage) (calls : List Call) → answers_to meaning st (take k calls) ≡ take k (answers_to meaning st calls)
  answers_to-take zero st calls = refl
  answers_to-take (suc k) st [] = refl
  answers_to-take (suc k) st (call ∷ calls) = rw (answers_to-take k (stage_after meaning st call) calls) refl

  -- one call more
  after_all-push : (st : Stage) (calls : List Call) (call : Call) → after_all meaning st (calls ++ call ∷ []) ≡ stage_after meaning (after_all meaning st calls) call
  after_all-push st [] call = refl
  after_all-push st (first ∷ calls) call = after_all-push (stage_after meaning st first) calls call

  answers_to-push : (st : Stage) (calls : List Call) (call : Call)
      → answers_to meaning st (calls ++ call ∷ []) ≡ answers_to meaning st calls ++ answer_at (after_all meaning st calls).moment (after_all meaning st calls).work call ∷ []
  answers_to-push st [] call = refl
  answers_to-push st (first ∷ calls) call = ap (λ (rest : List Answer). answer_at st.moment st.work first ∷ rest) (answers_to-push (stage_after meaning st first) calls call)

  -- a life goes on with calls and their answers
  lives_on : Divides meaning → (life : Life) (st : Stage) (calls : List Call) → Lived life st.moment.state (kept st.moment.orders) (kept st.moment.notices)
      → let end = (after_all meaning st calls).moment in Lived (lived_on life calls (answers_to meaning st calls)) end.state (kept end.orders) (kept end.notices)
  lives_on divides life st [] old = old
  lives_on divides life st (call ∷ calls) old =
      lives_on divides (later life call (answer_at st.moment st.work call)) (stage_after meaning st call) calls (call_carries st.moment st.work meaning divides call life old)

  -- calls to a session that has just opened live a whole life
  pub whole_life : Divides meaning → (start : Stage) → Opened start.moment → (calls : List Call)
      → let end = (after_all meaning start calls).moment in WholeLife calls (answers_to meaning start calls) (moments_along meaning start calls) end.state (kept end.orders) (kept end.notices)
  whole_life divides start o calls =
      let answers = answers_to meaning start calls in
      let began : Lived begun start.moment.state (kept start.moment.orders) (kept start.moment.notices) = rw (o.at_start, o.no_orders, o.no_notices) begun_life in
      let lived = lives_on divides begun start calls began in
      record {
        paired = length-answers_to start calls;
        upheld = upheld_at _ begun calls answers lived.upheld;
        ends = ends_at begun calls answers (length-answers_to start calls) lived.lawful.ends;
        printed_once = one_print calls answers (length-answers_to start calls) lived.lawful.ends;
        steps = λ k. rw (← answers_to-take k start calls) (lives_on divides begun start (take k calls) began);
        lived = lived;
      }

  -- the first i calls have been answered: the answers are written, and later places hold what they held
  pub record Answered (start : Stage) (calls : List Call) (before answers : List Answer) (st : Stage) (i : ℕ) : Type 0 where
    pub so_far : st ≡ after_all meaning start (take i calls)
    pub written : answers ≡ answers_to meaning start (take i calls) ++ drop i before

  module _ {start : Stage} {calls : List Call} {before answers : List Answer} {st : Stage} {i : ℕ} (a : Answered start calls before answers st i) where
    -- one more is answered, and leaves a stage
    pub more : (d : Call) (answer : Answer) (st' : Stage) → i < length calls → i < length before
        → answer ≡ answer_at st.moment st.work (get_or calls i d)
        → st'.moment ≡ moment_after st.moment st.work meaning (get_or calls i d)
        → st'.work ≡ work_left st.moment st.work meaning (get_or calls i d)
        → Answered start calls before (set answers i answer) st' (i + 1)
    more d answer st' inside place says moment_is work_is =
        let call = get_or calls i d in
        let told = answers_to meaning start (take i calls) in
        let count : length told ≡ i = length-answers_to start (take i calls) ∙ length-take-le i calls (omega (arith, inside)) in
        let told_more : answers_to meaning start (take (i + 1) calls) ≡ told ++ answer ∷ [] =
        rw (take_more calls i d inside, answers_to-push, ← a.so_far, says) refl in
        record {
          so_far = rw (take_more calls i d inside, after_all-push, ← a.so_far) (λ k. record { moment = moment_is k; work = work_is k });
          written = rw (a.written, told_more, drop_more before i answer place, set_at told (get_or before i answer) (drop (i + 1) before) answer i count, append_assoc) refl;
        }

    -- all are answered: they have lived a whole life
    pub lived_whole : Divides meaning → Opened start.moment → i ≡ length calls → WholeLife calls (take (length calls) answers) (moments_along meaning start calls) st.moment.state (kept st.moment.orders) (kept st.moment.notices)
    lived_whole divides o all =
        let told = answers_to meaning start calls in
        let every : take i calls ≡ calls = take_all i calls (omega (arith, all)) in
        let written : take (length calls) answers ≡ told = rw (a.written, every) (take_at told (drop i before) (length calls) (length-answers_to start calls)) in
        rw (written, a.so_far, every) (whole_life divides start o calls)
