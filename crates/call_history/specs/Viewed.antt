-- Rows of a view: of the rows of one channel, or of one person and asset, the first is meant.
use Rattle.std.specs.Prelude.{◌≡◌, ℕ, ◌==◌, ◌&&◌, Bool, List, [], map, position, None}
use Rattle.std.specs.Map.{lookup}
use Rattle.std.specs.Str.{bytes_eq}
use Rattle.call_history.specs.Tables.{found, changed}
use Rattle.call_history.specs.declared.view.ChannelView.{ChannelView}

-- ---- what is known of a channel

abbrev pub unknown : List ℕ → ChannelView
unknown channel =
    record { channel = channel; turn = 0; deadline = None; held = []; shown = None; settled = None; rest = None }

abbrev pub is_of : List ℕ → ChannelView → Bool
is_of channel v = bytes_eq v.channel channel

abbrev pub view_of : List ChannelView → List ℕ → ChannelView
view_of views channel = found (is_of channel) (unknown channel) views

abbrev pub views_with : (ChannelView → ChannelView) → List ℕ → List ChannelView → List ChannelView
views_with change channel views = changed (is_of channel) change (unknown channel) views

-- the table says of each channel at which place its row is, if it has one
abbrev pub ArePlaced : List (List ℕ × ℕ) → List ChannelView → Type 0
ArePlaced places views = (channel : List ℕ) → lookup (bytes_eq channel) places ≡ position (is_of channel) views

-- ---- what a person was paid of an asset

abbrev pub is_paid : List ℕ → ℕ → List ℕ × ℕ × ℕ → Bool
is_paid person asset balance = bytes_eq balance.0 person && (balance.1 == asset)

abbrev pub paid_amount : List (List ℕ × ℕ × ℕ) → List ℕ → ℕ → ℕ
paid_amount paid person asset = (found (is_paid person asset) (person, asset, 0) paid).2

abbrev pub paid_with : (ℕ → ℕ) → List ℕ → ℕ → List (List ℕ × ℕ × ℕ) → List (List ℕ × ℕ × ℕ)
paid_with change person asset paid =
    changed (is_paid person asset) (λ balance. (person, asset, change balance.2)) (person, asset, 0) paid

-- the keys are the same person and asset
abbrev pub same_key : List ℕ × ℕ → List ℕ × ℕ → Bool
same_key x y = bytes_eq x.0 y.0 && (x.1 == y.1)

-- the rows that a map of amounts stands for, in its order
abbrev pub paid_rows : List ((List ℕ × ℕ) × ℕ) → List (List ℕ × ℕ × ℕ)
paid_rows entries = map (λ e. (e.0.0, e.0.1, e.1)) entries
