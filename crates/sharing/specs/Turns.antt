-- Sharing by turns. Assumes nothing.
use Rattle.std.specs.Prelude.{ℕ, zero, suc, ◌+◌, ◌-◌, ◌<◌, ◌≤◌, min, List, [], ◌∷◌, length, replicate, slice_index}
use Rattle.sharing.specs.Shares.{total}

-- what a claimant takes in its turn: the least of 100, what it lacks and what is left
abbrev pub turn : ℕ → ℕ → ℕ → ℕ
turn left claim gift = min 100 (min (claim - gift) left)

-- a round: each claimant takes its turn, first to last
abbrev pub round : ℕ → List ℕ → List ℕ → List ℕ
round left [] gifts = []
round left (c ∷ cs) [] = []
round left (c ∷ cs) (g ∷ gs) = (g + turn left c g) ∷ round (left - turn left c g) cs gs

-- n rounds, each with what the gifts so far leave of the amount
abbrev pub rounds : ℕ → ℕ → List ℕ → List ℕ → List ℕ
rounds zero amount claims gifts = gifts
rounds (suc n) amount claims gifts = rounds n amount claims (round (amount - total gifts) claims gifts)

-- rounds until the amount is spent or nobody is short: before that a round gives one share at least, and after it none, so as many rounds as shares are enough
abbrev pub turns : ℕ → List ℕ → List ℕ
turns amount claims = rounds amount amount claims (replicate (length claims) 0)

-- of any two claimants, if the first is left short, the second's gift is at most 100 above the first's
abbrev pub Level : List ℕ → List ℕ → Type 0
Level claims gifts = (i j : ℕ) → i < length claims → j < length claims → slice_index gifts i < slice_index claims i → slice_index gifts j ≤ slice_index gifts i + 100
