-- What the answer to a row of questions says of each of them. Assumes nothing.
use Rattle.std.proofs.Common.{◌≡◌, ℕ, Bool, true, false, eqb, not, ◌&&◌, Some, None, Option, Ok, Err, Result, refl, sym, ◌∙◌, true≢false, arith}
use Rattle.std.specs.Prelude.{nat_le, nat_lt}
use Rattle.std.proofs.lemmas.Bool.Decides.{nat_tests}
use Rattle.session.specs.declared.fault.SessionFault.{SessionFault}
use Rattle.session.specs.declared.fault.SessionFault.TheVariants.{Done}
use Rattle.session.specs.Questions.{question_of, refused_with, ask, ask_for}

-- plain questions: after the first (7), not for a sale (16), and not of a close alone (20 to 22)
abbrev pub is_plain_number : ℕ → Bool
is_plain_number n = nat_lt 7 n && (nat_le n 19 && not (eqb n 16))

abbrev pub is_plain : SessionFault → Bool
is_plain fault = is_plain_number (question_of fault)

module _ {T : Type 0} where
  -- a question that does not refuse is answered yes, and what follows is the answer
  pub yes-from_ask : (answer : Bool) (fault : SessionFault) (rest : Result T SessionFault) (x : T) → ask answer fault rest ≡ Ok x → (answer ≡ true) × (rest ≡ Ok x)
  yes-from_ask true fault rest x e = (refl, e)
  yes-from_ask false fault rest x e = absurd cc

  -- what is asked for is there
  pub some-from_ask_for : {X : Type 0} (o : Option X) (fault : SessionFault) (rest : X → Result T SessionFault) (x : T) → ask_for o fault rest ≡ Ok x → (y : X) × (o ≡ Some y) × (rest y ≡ Ok x)
  some-from_ask_for None fault rest x e = absurd cc
  some-from_ask_for (Some y) fault rest x e = (y, refl, e)

  module _ (n : ℕ) where
    -- questions of other numbers do not refuse with the number n
    pub ask-other : (answer : Bool) (fault : SessionFault) (rest : Result T SessionFault) → eqb (question_of fault) n ≡ false → refused_with n rest ≡ false → refused_with n (ask answer fault rest) ≡ false
    ask-other true fault rest other follows = follows
    ask-other false fault rest other follows = other

    pub ask_for-other : {X : Type 0} (o : Option X) (fault : SessionFault) (rest : X → Result T SessionFault) → eqb (question_of fault) n ≡ false → ((x : X) → refused_with n (rest x) ≡ false) → refused_with n (ask_for o fault rest) ≡ false
    ask_for-other None fault rest other follows = other
    ask_for-other (Some x) fault rest other follows = follows x

    -- a refusal with the number n passes over a question of another number
    pub past-ask : (answer : Bool) (fault : SessionFault) (rest : Result T SessionFault) → eqb (question_of fault) n ≡ false → refused_with n (ask answer fault rest) ≡ true → refused_with n rest ≡ true
    past-ask true fault rest other e = e
    past-ask false fault rest other e = absurd (true≢false (sym e ∙ other))

    pub past-ask_for : {X : Type 0} (o : Option X) (fault : SessionFault) (rest : X → Result T SessionFault) → eqb (question_of fault) n ≡ false → refused_with n (ask_for o fault rest) ≡ true → (x : X) × (o ≡ Some x) × (refused_with n (rest x) ≡ true)
    past-ask_for None fault rest other e = absurd (true≢false (sym e ∙ other))
    past-ask_for (Some x) fault rest other e = (x, refl, e)

    -- and stops at its own
    pub no-from_ask : (answer : Bool) (fault : SessionFault) (rest : Result T SessionFault) → refused_with n rest ≡ false → refused_with n (ask answer fault rest) ≡ true → answer ≡ false
    no-from_ask true fault rest follows e = absurd (true≢false (sym e ∙ follows))
    no-from_ask false fault rest follows e = refl

    pub none-from_ask_for : {X : Type 0} (o : Option X) (fault : SessionFault) (rest : X → Result T SessionFault) → ((x : X) → refused_with n (rest x) ≡ false) → refused_with n (ask_for o fault rest) ≡ true → o ≡ None
    none-from_ask_for None fault rest follows e = refl
    none-from_ask_for (Some x) fault rest follows e = absurd (true≢false (sym e ∙ follows x))

  -- each refusal is with a plain question
  abbrev pub plain : Result T SessionFault → Bool
  plain (Ok x) = true
  plain (Err fault) = is_plain fault

  pub ask-plain : (answer : Bool) (fault : SessionFault) (rest : Result T SessionFault) → is_plain fault ≡ true → plain rest ≡ true → plain (ask answer fault rest) ≡ true
  ask-plain true fault rest this follows = follows
  ask-plain false fault rest this follows = this

  pub ask_for-plain : {X : Type 0} (o : Option X) (fault : SessionFault) (rest : X → Result T SessionFault) → is_plain fault ≡ true → ((x : X) → plain (rest x) ≡ true) → plain (ask_for o fault rest) ≡ true
  ask_for-plain None fault rest this follows = this
  ask_for-plain (Some x) fault rest this follows = follows x

  pub plain-other : (r : Result T SessionFault) (n : ℕ) → plain r ≡ true → is_plain_number n ≡ false → refused_with n r ≡ false
  plain-other (Ok x) n p other = refl
  plain-other (Err fault) n p other = grind (arith, nat_tests, p, other)

  -- a call is refused as done just where the session is, if no later question has that number
  pub ask-done : (done : Bool) (rest : Result T SessionFault) → refused_with 7 rest ≡ false → refused_with 7 (ask (not done) Done rest) ≡ done
  ask-done true rest follows = refl
  ask-done false rest follows = follows
