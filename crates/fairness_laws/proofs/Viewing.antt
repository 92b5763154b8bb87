-- A view that stands for a whole history gives the shares that a checker wants.
use Rattle.std.proofs.Common.{◌≡◌, ℕ, List, [], ◌∷◌, ◌++◌, map, refl, ◌∙◌, ap}
use Rattle.std.specs.Prelude.{Option}
use Rattle.channel_values.specs.declared.value.AssetOutcome.{AssetOutcome}
use Rattle.call_history.specs.Mode.{mode_at, is_final}
use Rattle.channel_values.specs.Rules.{Rules}
use Rattle.call_history.specs.History.{mode, row, paid_to, newest_first, flows_of}
use Rattle.call_history.specs.declared.entry.Entry.{Entry}
use Rattle.call_history.specs.declared.held_chain.Known.{Known}
use Rattle.call_history.specs.declared.view.ChannelView.{ChannelView}
use Rattle.call_history.specs.declared.view.WorldView.{WorldView}
use Rattle.asset_holder.specs.Receipts.{assets_of}
use Rattle.funding_plans.specs.declared.plan.Plan.{Plan}
use Rattle.history_view.specs.Views.{view_of}
use Rattle.history_view.specs.Standing.{KnowsChannel, StandsFor}
use Rattle.share_laws.specs.Books.{Counting}
use Rattle.share_laws.specs.Places.{possible_if, counting_of, balances}
use Rattle.share_laws.specs.Share.{share_of}
use Rattle.plan_share.specs.Seen.{held_seen, possible_seen, counting_seen, share_seen}
use Rattle.support_rules.specs.Real.{real}
use Rattle.run_record.specs.declared.run_record.Ending.{Ending}
use Rattle.run_record.specs.Plans.{joined, firsts, possible_then, counting_then, share_then, shares_then}
use Rattle.run_record.specs.Sound.{HasShares}
use mathlib.Core.Path.{fun_ext}

abbrev pub shares_seen : WorldView → Plan → List Known → (assets : List ℕ) → List (ℕ × ℕ)
shares_seen w own known assets = map (λ asset. (asset, share_seen w own known asset)) assets

abbrev pub HasSharesSeen : WorldView → (assets : List ℕ) → Ending → Type 0
HasSharesSeen w assets e = e.shares ≡ shares_seen w e.plan (firsts (joined e.plan.parts) e.known) assets

module _ (r : Rules) (h : List Entry) (w : WorldView) (stands : StandsFor r h w) where
  -- what is known of a channel says what it can end with
  possible_is : (k : Known) → possible_seen w.now (view_of w.channels k.channel) k.last ≡ possible_then r h k
  possible_is k =
      ap (λ (d : Option ℕ). possible_if (is_final (mode_at d w.now)) v.rest k.last) knows.deadline
      ∙ (ap (λ (n : ℕ). possible_if (is_final (mode_at (row r k.channel h).deadline n)) v.rest k.last) stands.now
      ∙ ap (λ (o : Option (List AssetOutcome)). possible_if (is_final (mode r k.channel h)) o k.last) knows.rest)
    where
      v : ChannelView
      v = view_of w.channels k.channel

      knows : KnowsChannel r k.channel h (view_of w.channels k.channel)
      knows = stands.channels k.channel

  counting_is : (ks : List Known) → counting_seen w ks ≡ counting_then r h ks
  counting_is [] = refl
  counting_is (k ∷ ks) =
      ap (λ (os : List (List AssetOutcome)). counting_of k.channel os ++ counting_seen w ks) (possible_is k)
      ∙ ap (λ (cs : List Counting). counting_of k.channel (possible_then r h k) ++ cs) (counting_is ks)

  balances_are : (asset : ℕ) → held_seen w asset ≡ balances h asset
  balances_are asset = fun_ext (λ channel. (stands.channels channel).held asset)

  share_is : (own : Plan) (known : List Known) (asset : ℕ) → share_seen w own (firsts (joined own.parts) known) asset ≡ share_then r h own known asset
  share_is own known asset =
      ap (λ (n : ℕ). share_of own.me n own.parts (held_seen w asset) (counting_seen w ks) asset) (stands.paid own.me asset)
      ∙ (ap (λ (held : List ℕ → ℕ). share_of own.me (paid_to h own.me asset) own.parts held (counting_seen w ks) asset) (balances_are asset)
      ∙ ap (λ (cs : List Counting). share_of own.me (paid_to h own.me asset) own.parts (balances h asset) cs asset) (counting_is ks))
    where
      ks : List Known
      ks = firsts (joined own.parts) known

shares_are : (h : List Entry) (w : WorldView) (assets : List ℕ) (e : Ending) → StandsFor real (newest_first h) w → assets ≡ assets_of (flows_of h)
    → map (λ asset. (asset, share_seen w e.plan (firsts (joined e.plan.parts) e.known) asset)) assets ≡ shares_then real (newest_first h) e.plan e.known (assets_of (flows_of h))
shares_are h w assets e stands are =
    ap (λ (f : ℕ → ℕ × ℕ). map f assets) (fun_ext (λ asset. ap (λ (n : ℕ). (asset, n)) (share_is real (newest_first h) w stands e.plan e.known asset)))
    ∙ ap (shares_then real (newest_first h) e.plan e.known) are

pub shares_told : (h : List Entry) (w : WorldView) (assets : List ℕ) (e : Ending) → StandsFor real (newest_first h) w → assets ≡ assets_of (flows_of h) → HasSharesSeen w assets e → HasShares h e
shares_told h w assets e stands are holds = holds ∙ shares_are h w assets e stands are
