-- Whether there is a place for each answer, and the refusal where there is not. Assumes nothing.
use Rattle.std.specs.Prelude.{ℕ, if◌then◌else◌, List, length, nat_le, codes}
use Rattle.session.specs.declared.call.Call.{Call}
use Rattle.session.specs.Replies.{Answer}
use Rattle.life.specs.declared.TooFewPlaces.{TooFewPlaces}

-- the one refusal: there are fewer places for answers than calls
abbrev pub too_few_places : TooFewPlaces
too_few_places = record {}

-- what it prints
abbrev pub too_few_places_text : List ℕ
too_few_places_text = codes "there are fewer places for answers than calls"

-- one thing where there is a place for the answer to each call, and another where there is not
abbrev pub if_places : {S : Type 0} → List Call → List Answer → S → S → S
if_places calls answers lived refused = (if nat_le (length calls) (length answers) then lived else refused)
