-- What a node's person can get, by what it knows.
use Rattle.std.specs.Prelude.{ℕ, List, map, Option, Some, None}
use Rattle.std.specs.List.{flat_map}
use Rattle.call_history.specs.declared.view.ChannelView.{ChannelView}
use Rattle.channel_node.specs.Minds.{Mind, facts_of}
use Rattle.plan_share.specs.Seen.{share_seen}

-- of an asset
abbrev pub share_known : Mind → ℕ → ℕ
share_known m asset = share_seen m.view (facts_of m).plan (facts_of m).known asset

-- of each asset that a channel holds or held
abbrev pub shares_in : Mind → ChannelView → List (ℕ × ℕ)
shares_in m v = map (λ x. (x.0, share_known m x.0)) v.held

-- of each asset that any channel holds or held, channel after channel
abbrev pub shares_known : Mind → List (ℕ × ℕ)
shares_known m = flat_map (shares_in m) m.view.channels

-- the first of these that was noted
abbrev pub or_now : Option (List (ℕ × ℕ)) → List (ℕ × ℕ) → Option (List (ℕ × ℕ))
or_now None now = Some now
or_now (Some noted) now = Some noted
