-- What a participant can get and whether its plan is funded, by its view, its plan and the states that it signed last.
use Rattle.std.specs.Prelude.{ℕ, Bool, List, [], ◌∷◌, ◌++◌}
use Rattle.channel_values.specs.Parts.{StateParts}
use Rattle.channel_values.specs.declared.value.AssetOutcome.{AssetOutcome}
use Rattle.call_history.specs.Mode.{mode_at, is_final}
use Rattle.call_history.specs.declared.held_chain.Known.{Known}
use Rattle.call_history.specs.declared.view.ChannelView.{ChannelView}
use Rattle.call_history.specs.declared.view.WorldView.{WorldView}
use Rattle.history_view.specs.Views.{view_of, held_amount, paid_amount}
use Rattle.funding_plans.specs.declared.plan.Plan.{Plan}
use Rattle.share_laws.specs.Books.{Counting}
use Rattle.share_laws.specs.Share.{share_of}
use Rattle.share_laws.specs.Funded.{is_funded}
use Rattle.share_laws.specs.Places.{possible_if, counting_of}

-- what a channel holds of an asset
abbrev pub held_seen : WorldView → (asset : ℕ) → List ℕ → ℕ
held_seen w asset channel = held_amount (view_of w.channels channel).held asset

-- the outcomes that a channel can end with
abbrev pub possible_seen : (now : ℕ) → ChannelView → (last : StateParts) → List (List AssetOutcome)
possible_seen now v last = possible_if (is_final (mode_at v.deadline now)) v.rest last

-- the channels that count
abbrev pub counting_seen : WorldView → List Known → List Counting
counting_seen w [] = []
counting_seen w (k ∷ ks) =
    counting_of k.channel (possible_seen w.now (view_of w.channels k.channel) k.last) ++ counting_seen w ks

abbrev pub share_seen : WorldView → Plan → List Known → (asset : ℕ) → ℕ
share_seen w plan known asset =
    share_of plan.me (paid_amount w.paid plan.me asset) plan.parts (held_seen w asset) (counting_seen w known) asset

abbrev pub is_funded_seen : WorldView → Plan → List Known → (asset : ℕ) → Bool
is_funded_seen w plan known asset = is_funded plan.me plan.parts (held_seen w asset) (counting_seen w known) asset
