-- What the last turn of a participant is.
use Rattle.std.specs.Prelude.{◌≡◌, ℕ, ◌+◌, ◌<◌, ◌≤◌}
use Rattle.channel_values.specs.Rows.{mover, last_turn}

-- the greatest turn of at most t whose mover, of n, is j
pub record IsLastTurn (n j t u : ℕ) : Type 0 where
  pub at_most : u ≤ t
  pub mine : mover n u ≡ j
  pub greatest : (v : ℕ) → v ≤ t → mover n v ≡ j → v ≤ u

-- From turn n-1 on each participant has had a turn, and the last one of each is found.
abbrev pub LastTurnIsGreatest : Type 0
LastTurnIsGreatest = (n j t : ℕ) → j < n → n ≤ t + 1 → IsLastTurn n j t (last_turn n j t)
