-- Which clients hold a chain of a channel, by the channels in their order and the places of the clients of each.
use Rattle.std.specs.Prelude.{ℕ, List, [], position, slice_index_or, Option, Some, None}
use Rattle.std.specs.List.{Contains}
use Rattle.std.specs.Str.{bytes_eq}

abbrev pub places_at : List (List ℕ) → Option ℕ → List ℕ
places_at places None = []
places_at places (Some index) = slice_index_or places index []

-- the places of the clients that hold a chain of the channel
abbrev pub holders_of : List (List ℕ) → List (List ℕ) → List ℕ → List ℕ
holders_of channels places channel = places_at places (position (bytes_eq channel) channels)

-- each holder before is one after
abbrev pub KeepsHolders : (channels places channels' places' : List (List ℕ)) → Type 0
KeepsHolders channels places channels' places' =
    (channel : List ℕ) (place : ℕ) → Contains (holders_of channels places channel) place
    → Contains (holders_of channels' places' channel) place
