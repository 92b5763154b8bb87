-- What a channel holds once a source has given.
use Rattle.std.proofs.Common.{◌≡◌, ℕ, ◌-◌, List, true, false, Some, None, refl, ◌∙◌, ap, subst}
use Rattle.std.specs.Prelude.{Option}
use Rattle.std.specs.Str.{bytes_eq}
use Rattle.std.proofs.lemmas.Bool.{eq-eqb}
use Rattle.std.proofs.lemmas.Slice.Eq.{bytes_eq-Decides}
use Rattle.call_history.specs.Flows.{comes_from}
use Rattle.call_history.specs.declared.view.ChannelView.{ChannelView}
use Rattle.call_history.proofs.Tabled.{found_same, found_other}
use Rattle.history_view.specs.Views.{unknown, is_of, view_of, views_with, is_in, held_amount, held_with, channel_gave, views_gave}

same_name : (a b : List ℕ) → bytes_eq a b ≡ true → a ≡ b
same_name a b e = (bytes_eq-Decides a b).0 e

is_self : (a : List ℕ) → bytes_eq a a ≡ true
is_self a = (bytes_eq-Decides a a).1 refl

held_lowered : (asset amount : ℕ) (held : List (ℕ × ℕ)) → held_amount (held_with (λ n. n - amount) asset held) asset ≡ held_amount held asset - amount
held_lowered asset amount held =
    ap (λ (balance : ℕ × ℕ). balance.1)
    (found_same (is_in asset) (λ balance. (asset, balance.1 - amount)) (asset, 0) held (λ x e. eq-eqb asset asset refl) (eq-eqb asset asset refl))

gave_same : (source : List ℕ) (asset amount : ℕ) (views : List ChannelView)
    → view_of (views_with (channel_gave asset amount) source views) source ≡ channel_gave asset amount (view_of views source)
gave_same source asset amount views = found_same (is_of source) (channel_gave asset amount) (unknown source) views (λ x e. e) (is_self source)

gave_other : (source channel : List ℕ) (asset amount : ℕ) (views : List ChannelView) → bytes_eq source channel ≡ false
    → view_of (views_with (channel_gave asset amount) source views) channel ≡ view_of views channel
gave_other source channel asset amount views other =
    found_other (is_of source) (is_of channel) (channel_gave asset amount) (unknown source) (unknown channel) views
    (λ x e. ap (λ (n : List ℕ). bytes_eq n channel) (same_name x.channel source e) ∙ other)
    (λ x e. ap (λ (n : List ℕ). bytes_eq n channel) (same_name x.channel source e) ∙ other) other

-- the source itself, and another channel
pub held_of_source : (from : Option (List ℕ)) (channel : List ℕ) (asset amount : ℕ) (views : List ChannelView) → comes_from channel from ≡ true
    → held_amount (view_of (views_gave from asset amount views) channel).held asset ≡ held_amount (view_of views channel).held asset - amount
held_of_source None channel asset amount views e = absurd cc
held_of_source (Some source) channel asset amount views e =
    let same : source ≡ channel = same_name source channel e in
    subst (λ (c : List ℕ). held_amount (view_of (views_with (channel_gave asset amount) source views) c).held asset ≡ held_amount (view_of views c).held asset - amount) same
    (ap (λ (v : ChannelView). held_amount v.held asset) (gave_same source asset amount views) ∙ held_lowered asset amount (view_of views source).held)

pub held_of_other : (from : Option (List ℕ)) (channel : List ℕ) (asset amount : ℕ) (views : List ChannelView) → comes_from channel from ≡ false
    → held_amount (view_of (views_gave from asset amount views) channel).held asset ≡ held_amount (view_of views channel).held asset
held_of_other None channel asset amount views e = refl
held_of_other (Some source) channel asset amount views e = ap (λ (v : ChannelView). held_amount v.held asset) (gave_other source channel asset amount views e)
