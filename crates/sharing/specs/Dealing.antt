-- A division by turns under way: what holds between two rounds, and within one. Assumes nothing.
use Rattle.std.specs.Prelude.{◌≡◌, ℕ, ◌+◌, ◌≤◌, List, ◌++◌, length, take, drop, slice_index}
use Rattle.sharing.specs.Shares.{total, Within}
use Rattle.sharing.specs.Turns.{turn, round, rounds, turns}

-- what the claimant at `place` takes in its turn
abbrev pub turn_at : ℕ → ℕ → List ℕ → List ℕ → ℕ
turn_at place left claims gifts = turn left (slice_index claims place) (slice_index gifts place)

-- between two rounds: what is left and what is given make up the amount, and to go on from here is to divide by turns
pub record Between (amount : ℕ) (claims : List ℕ) (left : ℕ) (gifts : List ℕ) : Type 0 where
  pub paired : length gifts ≡ length claims
  pub within : Within claims gifts
  pub sums : left + total gifts ≡ amount
  pub ends : rounds amount amount claims gifts ≡ turns amount claims

-- the gifts at a round's end: the claimants before `place` have had their turn, and the others take theirs of what is left
abbrev pub round_end : ℕ → ℕ → List ℕ → List ℕ → List ℕ
round_end place left claims gifts = take place gifts ++ round left (drop place claims) (drop place gifts)

-- within a round that began with the gifts `begun` and with `before` left, ahead of the turn of the claimant at `place`:
-- nothing is lost, and to go on from here is to complete the round
pub record Amid (claims begun : List ℕ) (before place left : ℕ) (gifts : List ℕ) : Type 0 where
  pub paired : length gifts ≡ length claims
  pub within : Within claims gifts
  pub fewer : left ≤ before
  pub sums : left + total gifts ≡ before + total begun
  pub ends : round_end place left claims gifts ≡ round before claims begun
