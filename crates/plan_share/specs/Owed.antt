-- Whether a participant can still be paid anything.
use Rattle.std.specs.Prelude.{ℕ, ◌==◌, nat_lt, Bool, List, [], ◌∷◌, ◌++◌, if◌then◌else◌}
use Rattle.std.specs.List.{list_any}
use Rattle.call_history.specs.declared.held_chain.Known.{Known}
use Rattle.call_history.specs.declared.view.ChannelView.{ChannelView}
use Rattle.call_history.specs.declared.view.WorldView.{WorldView}
use Rattle.history_view.specs.Views.{paid_amount}
use Rattle.funding_plans.specs.declared.plan.Plan.{Plan}
use Rattle.plan_share.specs.Seen.{share_seen}

abbrev pub with_asset : ℕ → List ℕ → List ℕ
with_asset asset assets = if list_any (λ other. other == asset) assets then assets else assets ++ asset ∷ []

-- the assets of what a channel holds or held, each once
abbrev pub with_held : List (ℕ × ℕ) → List ℕ → List ℕ
with_held [] assets = assets
with_held (x ∷ held) assets = with_held held (with_asset x.0 assets)

-- and of what these channels do: all that was ever deposited
abbrev pub with_channels : List ChannelView → List ℕ → List ℕ
with_channels [] assets = assets
with_channels (v ∷ views) assets = with_channels views (with_held v.held assets)

-- in an asset the share is more than what was paid
abbrev pub is_owed_of : WorldView → Plan → List Known → (asset : ℕ) → Bool
is_owed_of w own known asset = nat_lt (paid_amount w.paid own.me asset) (share_seen w own known asset)

-- in some asset
abbrev pub is_owed_seen : WorldView → Plan → List Known → Bool
is_owed_seen w own known = list_any (is_owed_of w own known) (with_channels w.channels [])
