-- What a change of one view, amount or balance makes of the others: they stay.
use Rattle.std.proofs.Common.{◌≡◌, ℕ, ◌+◌, ◌-◌, List, [], ◌∷◌, Bool, true, false, cond, ◌&&◌, Some, None, refl, ◌∙◌, ap}
use Rattle.std.proofs.lemmas.Bool.{eqb-true, eq-eqb}
use Rattle.std.specs.Prelude.{◌==◌, Option}
use Rattle.std.specs.Str.{bytes_eq}
use Rattle.channel_values.specs.Parts.{FixedParts}
use Rattle.channel_values.specs.declared.value.AssetOutcome.{AssetOutcome}
use Rattle.channel_values.specs.declared.value.Dest.{Dest}
use Rattle.channel_values.specs.declared.value.Dest.TheVariants.{Person, Channel}
use Rattle.call_history.specs.declared.call.Op.{Op}
use Rattle.call_history.specs.declared.funds.Flow.{Flow}
use Rattle.call_history.specs.declared.funds.Payment.{Payment}
use Rattle.call_history.specs.declared.view.ChannelView.{ChannelView}
use Rattle.call_history.proofs.Names.{same_bytes, bytes_eq_self}
use Rattle.call_history.proofs.Tabled.{found_same, found_other}
use Rattle.history_view.specs.Views.{unknown, is_of, view_of, views_with, is_in, held_amount, held_with, is_paid, paid_amount, paid_with, channel_turned, views_turned, channel_gave, channel_got, views_gave, views_got, views_moved, channel_paid, views_paid}
use Rattle.history_view.proofs.Accepting.{and_both}

-- ---- views

-- a change that leaves the channel's name
abbrev pub KeepsName : (ChannelView → ChannelView) → Type 0
KeepsName change = (v : ChannelView) → (change v).channel ≡ v.channel

pub view_with : (change : ChannelView → ChannelView) (name channel : List ℕ) (views : List ChannelView) → KeepsName change
    → view_of (views_with change name views) channel ≡ cond (bytes_eq name channel) (change (view_of views channel)) (view_of views channel)
view_with change name channel views keeps = go (bytes_eq name channel) refl
  where
    go : (b : Bool) → bytes_eq name channel ≡ b → view_of (views_with change name views) channel ≡ cond b (change (view_of views channel)) (view_of views channel)
    go true same =
        ap (λ (n : List ℕ). view_of (views_with change n views) channel) (same_bytes name channel same)
        ∙ found_same (is_of channel) change (unknown channel) views
        (λ v e. ap (λ (n : List ℕ). bytes_eq n channel) (keeps v) ∙ e)
        (ap (λ (n : List ℕ). bytes_eq n channel) (keeps (unknown channel)) ∙ bytes_eq_self channel)
    go false other =
        found_other (is_of name) (is_of channel) change (unknown name) (unknown channel) views
        (λ v e. ap (λ (n : List ℕ). bytes_eq n channel) (same_bytes v.channel name e) ∙ other)
        (λ v e. ap (λ (n : List ℕ). bytes_eq n channel) (keeps v ∙ same_bytes v.channel name e) ∙ other)
        (ap (λ (n : List ℕ). bytes_eq n channel) (keeps (unknown name)) ∙ other)

-- a part of the views that a change leaves
kept_with : {A : Type 0} (part : ChannelView → A) (change : ChannelView → ChannelView) (name channel : List ℕ) (views : List ChannelView) → KeepsName change
    → ((v : ChannelView) → part (change v) ≡ part v) → part (view_of (views_with change name views) channel) ≡ part (view_of views channel)
kept_with part change name channel views keeps same = ap part (view_with change name channel views keeps) ∙ either (bytes_eq name channel)
  where
    either : (b : Bool) → part (cond b (change (view_of views channel)) (view_of views channel)) ≡ part (view_of views channel)
    either true = same (view_of views channel)
    either false = refl

-- turning calls leave what channels hold
pub held_turned : (named : FixedParts → List ℕ) (op : Op) (o : Option FixedParts) (told : Option (ℕ × Option ℕ)) (views : List ChannelView) (channel : List ℕ)
    → (view_of (views_turned named op o told views) channel).held ≡ (view_of views channel).held
held_turned named op None told views channel = refl
held_turned named op (Some f) None views channel = refl
held_turned named op (Some f) (Some told) views channel = kept_with (λ (v : ChannelView). v.held) (channel_turned op told) (named f) channel views (λ v. refl) (λ v. refl)

-- flows leave all but that
abbrev pub IsBesideHeld : {A : Type 0} → (ChannelView → A) → Type 0
IsBesideHeld part = (v : ChannelView) (held : List (ℕ × ℕ)) → part (record v { held = held }) ≡ part v

kept_gave : {A : Type 0} (part : ChannelView → A) (from : Option (List ℕ)) (asset amount : ℕ) (views : List ChannelView) (channel : List ℕ) → IsBesideHeld part
    → part (view_of (views_gave from asset amount views) channel) ≡ part (view_of views channel)
kept_gave part None asset amount views channel beside = refl
kept_gave part (Some source) asset amount views channel beside =
    kept_with part (channel_gave asset amount) source channel views (λ v. refl) (λ v. beside v (held_with (λ n. n - amount) asset v.held))

kept_got : {A : Type 0} (part : ChannelView → A) (to : Dest) (asset amount : ℕ) (views : List ChannelView) (channel : List ℕ) → IsBesideHeld part
    → part (view_of (views_got to asset amount views) channel) ≡ part (view_of views channel)
kept_got part (Person person) asset amount views channel beside = refl
kept_got part (Channel target) asset amount views channel beside =
    kept_with part (channel_got asset amount) target channel views (λ v. refl) (λ v. beside v (held_with (λ n. n + amount) asset v.held))

pub kept_moved : {A : Type 0} (part : ChannelView → A) (flows : List Flow) (views : List ChannelView) (channel : List ℕ) → IsBesideHeld part
    → part (view_of (views_moved flows views) channel) ≡ part (view_of views channel)
kept_moved part [] views channel beside = refl
kept_moved part (flow ∷ flows) views channel beside =
    kept_moved part flows (views_got flow.to flow.asset flow.amount (views_gave flow.from flow.asset flow.amount views)) channel beside
    ∙ (kept_got part flow.to flow.asset flow.amount (views_gave flow.from flow.asset flow.amount views) channel beside
    ∙ kept_gave part flow.from flow.asset flow.amount views channel beside)

-- and payments leave all but what is left of the outcome
abbrev pub IsBesideRest : {A : Type 0} → (ChannelView → A) → Type 0
IsBesideRest part = (v : ChannelView) (rest : Option (List AssetOutcome)) → part (record v { rest = rest }) ≡ part v

pub kept_paid : {A : Type 0} (part : ChannelView → A) (payments : List Payment) (views : List ChannelView) (channel : List ℕ) → IsBesideRest part
    → part (view_of (views_paid payments views) channel) ≡ part (view_of views channel)
kept_paid part [] views channel beside = refl
kept_paid part (payment ∷ payments) views channel beside =
    kept_paid part payments (views_with (channel_paid payment) payment.channel views) channel beside
    ∙ kept_with part (channel_paid payment) payment.channel channel views (λ v. refl) (λ v. beside v (channel_paid payment v).rest)

-- ---- amounts and balances

is_asset : (a : ℕ) → (a == a) ≡ true
is_asset a = eq-eqb a a refl

pub amount_with : (change : ℕ → ℕ) (asset other : ℕ) (held : List (ℕ × ℕ)) → held_amount (held_with change asset held) other ≡ cond (asset == other) (change (held_amount held other)) (held_amount held other)
amount_with change asset other held = go (asset == other) refl
  where
    new : ℕ → ℕ × ℕ → ℕ × ℕ
    new kind balance = (kind, change balance.1)

    go : (b : Bool) → (asset == other) ≡ b → held_amount (held_with change asset held) other ≡ cond b (change (held_amount held other)) (held_amount held other)
    go true same =
        ap (λ (kind : ℕ). held_amount (held_with change kind held) other) (eqb-true asset other same)
        ∙ ap (λ (balance : ℕ × ℕ). balance.1) (found_same (is_in other) (new other) (other, 0) held (λ balance e. is_asset other) (is_asset other))
    go false apart =
        ap (λ (balance : ℕ × ℕ). balance.1)
        (found_other (is_in asset) (is_in other) (new asset) (asset, 0) (other, 0) held
        (λ balance e. ap (λ (kind : ℕ). kind == other) (eqb-true balance.0 asset e) ∙ apart) (λ balance e. apart) apart)

is_balance : (person : List ℕ) (asset : ℕ) → (bytes_eq person person && (asset == asset)) ≡ true
is_balance person asset = ap (λ (b : Bool). b && (asset == asset)) (bytes_eq_self person) ∙ is_asset asset

pub balance_with : (change : ℕ → ℕ) (person other : List ℕ) (asset kind : ℕ) (paid : List (List ℕ × ℕ × ℕ))
    → paid_amount (paid_with change person asset paid) other kind ≡ cond (bytes_eq person other && (asset == kind)) (change (paid_amount paid other kind)) (paid_amount paid other kind)
balance_with change person other asset kind paid = go (bytes_eq person other && (asset == kind)) refl
  where
    new : List ℕ → ℕ → List ℕ × ℕ × ℕ → List ℕ × ℕ × ℕ
    new who of balance = (who, of, change balance.2)

    go : (b : Bool) → (bytes_eq person other && (asset == kind)) ≡ b → paid_amount (paid_with change person asset paid) other kind ≡ cond b (change (paid_amount paid other kind)) (paid_amount paid other kind)
    go true same =
        let p = and_both (bytes_eq person other) (asset == kind) same in
        ap (λ (who : List ℕ). paid_amount (paid_with change who asset paid) other kind) (same_bytes person other p.0)
        ∙ (ap (λ (of : ℕ). paid_amount (paid_with change other of paid) other kind) (eqb-true asset kind p.1)
        ∙ ap (λ (balance : List ℕ × ℕ × ℕ). balance.2) (found_same (is_paid other kind) (new other kind) (other, kind, 0) paid (λ balance e. is_balance other kind) (is_balance other kind)))
    go false apart =
        ap (λ (balance : List ℕ × ℕ × ℕ). balance.2)
        (found_other (is_paid person asset) (is_paid other kind) (new person asset) (person, asset, 0) (other, kind, 0) paid
        (λ balance e. at_other balance (and_both (bytes_eq balance.0 person) (balance.1 == asset) e)) (λ balance e. apart) apart)
      where
        at_other : (balance : List ℕ × ℕ × ℕ) → (bytes_eq balance.0 person ≡ true) × ((balance.1 == asset) ≡ true) → is_paid other kind balance ≡ false
        at_other balance p =
            ap (λ (who : List ℕ). bytes_eq who other && (balance.1 == kind)) (same_bytes balance.0 person p.0)
            ∙ (ap (λ (of : ℕ). bytes_eq person other && (of == kind)) (eqb-true balance.1 asset p.1) ∙ apart)
