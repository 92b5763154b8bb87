-- What determines the conditions of plans and the shares after a history, the newest entry first.
use Rattle.std.specs.Prelude.{◌≡◌, ℕ, ◌==◌, Bool, true, not, ◌&&◌, nat_le, count_by, List, [], ◌∷◌, ◌++◌, map, None}
use Rattle.std.specs.List.{flat_map, list_all, list_any}
use Rattle.channel_values.specs.declared.value.AssetOutcome.{AssetOutcome}
use Rattle.call_history.specs.Mode.{is_final}
use Rattle.call_history.specs.Flows.{is_among}
use Rattle.call_history.specs.History.{mode, row, now_of, held_of, paid_to, rest_of_channel}
use Rattle.call_history.specs.declared.entry.Entry.{Entry}
use Rattle.call_history.specs.declared.held_chain.Known.{Known}
use Rattle.call_history.specs.declared.view.ChannelView.{ChannelView}
use Rattle.call_history.specs.declared.view.WorldView.{WorldView}
use Rattle.funding_plans.specs.Parts.{channels}
use Rattle.funding_plans.specs.declared.plan.Plan.{Plan}
use Rattle.plan_share.specs.Pages.{or_empty}
use Rattle.share_laws.specs.Places.{proposed, balances}
use Rattle.share_laws.specs.Share.{share_of}
use Rattle.support_rules.specs.Real.{real}
use Rattle.run_record.specs.declared.run_record.Ending.{Ending}
use Rattle.run_record.specs.Plans.{joined, firsts, are_distinct, stand_on, other_than, counting_then, shares_then}

-- ---- conditions of plans

abbrev pub two_seen : List Entry → Known → Bool
two_seen h k = not (is_final (mode real k.channel h)) && other_than k.last.outcome (proposed k.last.app_bytes)

abbrev pub few_seen : List Entry → Plan → List Known → Bool
few_seen h own known = nat_le (count_by (two_seen h) (firsts (joined own.parts) known)) 2

abbrev pub is_tellable_seen : List Entry → Plan → List Known → Bool
is_tellable_seen h own known =
    are_distinct (channels own.parts) && (stand_on [] own.parts && few_seen h own known)

abbrev pub HasPlanSeen : List Entry → Ending → Type 0
HasPlanSeen h e = is_tellable_seen h e.plan e.known ≡ true

-- ---- shares

-- where these are the known states that count
abbrev pub share_by : List Entry → Plan → List Known → (asset : ℕ) → ℕ
share_by h own ks asset =
    share_of own.me (paid_to h own.me asset) own.parts (balances h asset) (counting_then real h ks) asset

abbrev pub HasSharesBy : List Entry → (assets : List ℕ) → Ending → Type 0
HasSharesBy h assets e = e.shares ≡ shares_then real h e.plan e.known assets

-- each is of a channel in which the plan's person is a participant
abbrev pub are_joined : Plan → List Known → Bool
are_joined own ks = list_all (λ k. is_among k.channel (joined own.parts)) ks

-- what a share of one asset needs of a channel, and of all of those
abbrev pub channel_seen : List Entry → (asset : ℕ) → List ℕ → ChannelView
channel_seen h asset channel =
    record {
      channel = channel;
      turn = 0;
      deadline = (row real channel h).deadline;
      held = (asset, held_of h channel asset) ∷ [];
      shown = None;
      settled = None;
      rest = rest_of_channel real channel h;
    }

abbrev pub plan_seen : List Entry → Plan → (asset : ℕ) → WorldView
plan_seen h own asset =
    record {
      now = now_of h;
      count = 0;
      channels = map (channel_seen h asset) (joined own.parts);
      paid = (own.me, asset, paid_to h own.me asset) ∷ [];
    }

-- the assets of an outcome, and of those that channels with these known states can end with, whether they are final or
-- not
abbrev pub assets_in : List AssetOutcome → List ℕ
assets_in outcome = map (λ o. o.asset) outcome

abbrev pub named_by : List Entry → Known → List ℕ
named_by h k =
    assets_in k.last.outcome
    ++ (assets_in (or_empty (rest_of_channel real k.channel h)) ++ assets_in (or_empty (proposed k.last.app_bytes)))

abbrev pub named : List Entry → List Known → List ℕ
named h ks = flat_map (named_by h) ks

abbrev pub is_named : (asset : ℕ) → List ℕ → Bool
is_named asset assets = list_any (λ other. other == asset) assets
