-- What contracts see of fixed parts and states, and which of them there are.
use Rattle.std.specs.Prelude.{◌≡◌, ℕ, ◌^◌, ◌<◌, ◌≤◌, Bool, List, length}
use Rattle.std.specs.List.{AllByRecursion}
use Rattle.std.specs.Str.{bytes_eq}
use Rattle.channel_values.specs.declared.value.AssetOutcome.{AssetOutcome}
use Rattle.channel_values.specs.Outcomes.{AreBytes, AreApart, IsOutcome}

pub record FixedParts : Type 0 where
  pub keys : List (List ℕ)
  pub nonce : ℕ
  pub app : ℕ
  pub duration : ℕ

pub record StateParts : Type 0 where
  pub turn : ℕ
  pub is_final : Bool
  pub outcome : List AssetOutcome
  pub app_bytes : List ℕ

abbrev pub IsKey : List ℕ → Type 0
IsKey key = (length key ≡ 56) × AreBytes key

-- the keys of a channel: each once
pub record AreKeys (keys : List (List ℕ)) : Type 0 where
  pub each : AllByRecursion IsKey keys
  pub apart : AreApart bytes_eq keys

-- two to four keys, an application (1, payment, has two keys), and a duration above 0
pub record IsFixed (f : FixedParts) : Type 0 where
  pub at_least_two : 2 ≤ length f.keys
  pub at_most_four : length f.keys ≤ 4
  pub keys : AreKeys f.keys
  pub nonce : f.nonce < 2 ^ 64
  pub app : f.app ≤ 2
  pub payment : f.app ≡ 1 → length f.keys ≡ 2
  pub started : 1 ≤ f.duration
  pub duration : f.duration < 2 ^ 32

-- a turn below 2^48, an outcome, and at most 4,096 bytes of application data
pub record IsState (s : StateParts) : Type 0 where
  pub turn : s.turn < 2 ^ 48
  pub outcome : IsOutcome s.outcome
  pub few : length s.app_bytes ≤ 4096
  pub bytes : AreBytes s.app_bytes

-- the parts, one by one
abbrev pub fixed_with : List (List ℕ) → ℕ → ℕ → ℕ → FixedParts
fixed_with keys nonce app duration = record { keys = keys; nonce = nonce; app = app; duration = duration }

abbrev pub state_with : ℕ → Bool → List AssetOutcome → List ℕ → StateParts
state_with turn is_final outcome app_bytes =
    record { turn = turn; is_final = is_final; outcome = outcome; app_bytes = app_bytes }
