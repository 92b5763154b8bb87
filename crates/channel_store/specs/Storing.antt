-- What the calls of a store answer and make of what it keeps.
use Rattle.std.specs.Prelude.{◌≡◌, ℕ, Bool, List, position, slice_set, Option, Some, None}
use Rattle.std.specs.List.{slice_get, position_or_len}
use Rattle.std.specs.Map.{lookup}
use Rattle.std.specs.Str.{bytes_eq}
use Rattle.channel_values.specs.Parts.{FixedParts}
use Rattle.channel_values.specs.Spelling.{fixed}
use Rattle.channel_values.specs.Digests.{name_of_channel}
use Rattle.call_history.specs.Marked.{nothing, chain_of}
use Rattle.channel_store.specs.declared.kept.Kept.{Kept}

-- ---- which channel

abbrev pub is_of : List ℕ → Kept → Bool
is_of channel k = bytes_eq k.channel channel

abbrev pub place_of : List ℕ → List Kept → ℕ
place_of channel kept = position_or_len (is_of channel) kept

-- the table says of each channel which place it has, if it was added
abbrev pub ArePlaced : List (List ℕ × ℕ) → List Kept → Type 0
ArePlaced by_name kept = (channel : List ℕ) → lookup (bytes_eq channel) by_name ≡ position (is_of channel) kept

-- what is kept of a channel, if it was added
abbrev pub kept_of : List ℕ → List Kept → Option Kept
kept_of channel kept = slice_get kept (place_of channel kept)

abbrev pub kept_at : (Kept → Kept) → List Kept → ℕ → Option Kept → List Kept
kept_at change kept place None = kept
kept_at change kept place (Some k) = slice_set kept place (change k)

-- with a change of what is kept of a channel, if it was added
abbrev pub kept_with : (Kept → Kept) → List ℕ → List Kept → List Kept
kept_with change channel kept = kept_at change kept (place_of channel kept) (kept_of channel kept)

-- a channel of which nothing was noted yet
abbrev pub added : FixedParts → ℕ → Kept
added f me = record { channel = name_of_channel (fixed f); me = me; chain = chain_of f nothing; last = None }
