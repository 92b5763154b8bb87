-- What a tower keeps: who holds a chain of which channel, and which channels are challenged.
use Rattle.std.specs.Prelude.{◌≡◌, ℕ, Bool, true, false, List, map, slice_get, Some}
use Rattle.std.specs.List.{list_any, Contains}
use Rattle.std.specs.Str.{bytes_eq}
use Rattle.call_history.specs.Mode.{mode_at, is_challenged}
use Rattle.network.specs.Watching.{Watching, watched_row}
use Rattle.watchtower.specs.declared.client.Client.{Client}
use Rattle.watchtower.specs.Towers.{is_of}
use Rattle.watchtower.specs.Holders.{holders_of}

-- each client that has a chain of a channel is a holder of it
abbrev pub AreIndexed : List Client → List (List ℕ) → List (List ℕ) → Type 0
AreIndexed clients channels places =
    (place : ℕ) (c : Client) (channel : List ℕ) → slice_get clients place ≡ Some c
    → list_any (is_of channel) c.chains ≡ true → Contains (holders_of channels places channel) place

-- the channel is challenged, by what was followed
abbrev pub is_open : Watching → List ℕ → Bool
is_open w channel = is_challenged (mode_at (watched_row w.rows channel).deadline w.time)

-- each challenged channel is noted
abbrev pub AreNoted : Watching → List (List ℕ) → Type 0
AreNoted w noted = (channel : List ℕ) → is_open w channel ≡ true → list_any (bytes_eq channel) noted ≡ true

-- what a tower keeps
pub record IsTower (names : List (List ℕ)) (clients : List Client) (channels places : List (List ℕ)) (w : Watching)
    (noted : List (List ℕ)) (lost : Bool) : Type 0 where
  pub named : names ≡ map (λ c. c.name) clients
  pub indexed : AreIndexed clients channels places
  pub noted_all : lost ≡ false → AreNoted w noted
