-- With which outcomes a state can end.
use Rattle.std.proofs.Common.{◌≡◌, ℕ, ◌^◌, ◌<◌, Bool, true, false, cond, ◌&&◌, List, [], ◌∷◌, inl, inr, refl, ◌∙◌, ap, subst, arith}
use Rattle.std.proofs.lemmas.Bool.Decides.{nat_tests}
use Rattle.std.specs.Prelude.{◌==◌, nat_le, nat_lt, is_ok, Some, None}
use Rattle.std.specs.List.{AllByRecursion}
use Rattle.channel_values.specs.Outcomes.{is_same, IsItem, IsShape, IsAssetOutcome}
use Rattle.channel_values.specs.Parts.{StateParts}
use Rattle.channel_values.specs.Reading.{outcome_of}
use Rattle.channel_values.specs.declared.value.AssetOutcome.{AssetOutcome}
use Rattle.channel_values.specs.declared.value.Dest.{Dest}
use Rattle.channel_values.specs.declared.value.Item.{Item}
use Rattle.channel_values.specs.declared.value.Shape.{Shape}
use Rattle.channel_values.specs.declared.value.Shape.TheVariants.{Allocation, Guarantee}
use Rattle.support_rules.specs.Ballots.{ballot_of}
use Rattle.support_rules.specs.Toward.{has_no_votes}
use Rattle.channel_safety.proofs.Tests.{clash, and-left}
use Rattle.call_history.specs.Dues.{shape_in}
use Rattle.channel_values.specs.Amounts.{amt}
use Rattle.funding_plans.specs.Shapes.{items_of, items_in}
use Rattle.channel_safety.specs.Journals.{In}
use Rattle.share_laws.specs.Places.{listed, proposed, outcomes_of}
use Rattle.fairness_laws.specs.OpeningChannels.{IsExactly}

-- without data with its own alone
pub alone : (s : StateParts) → s.app_bytes ≡ [] → outcomes_of s ≡ s.outcome ∷ []
alone s e = ap (λ (bytes : List ℕ). s.outcome ∷ listed (proposed bytes)) e

-- a state is this outcome alone
pub exactly-alone : (promise : List AssetOutcome) (s : StateParts) → IsExactly promise s → outcomes_of s ≡ promise ∷ []
exactly-alone promise s e =
    ap (λ (o : List AssetOutcome). o ∷ listed (proposed s.app_bytes)) e.1 ∙ ap (λ (bytes : List ℕ). promise ∷ listed (proposed bytes)) e.2

-- and where that is alone with no other
pub only : (s : StateParts) (o : List AssetOutcome) → outcomes_of s ≡ o ∷ [] → (x : List AssetOutcome) → In x (outcomes_of s) → x ≡ o
only s o e x i = by (subst (In x) e i)
  where
    by : In x (o ∷ []) → x ≡ o
    by (inl same) = same
    by (inr j) = absurd j

-- what a destination has in an outcome is an amount
pub amount-small : (os : List AssetOutcome) → AllByRecursion IsAssetOutcome os → (asset : ℕ) (d : Dest) → amt (items_in asset os) d < 2 ^ 64
amount-small [] all asset d = omega arith
amount-small (o ∷ os) all asset d = go (o.asset == asset) (amount-small os all.1 asset d)
  where
    in-items : (items : List Item) → AllByRecursion IsItem items → amt items d < 2 ^ 64
    in-items [] each = omega arith
    in-items (x ∷ xs) each = by (is_same x.to d) (in-items xs each.1)
      where
        by : (b : Bool) → amt xs d < 2 ^ 64 → cond b x.amount (amt xs d) < 2 ^ 64
        by true rest = each.0.1
        by false rest = rest

    in-shape : (z : Shape) → IsShape z → amt (items_of (Some z)) d < 2 ^ 64
    in-shape (Allocation items) is = in-items items is.1.each
    in-shape (Guarantee target list) is = omega arith

    go : (b : Bool) → amt (items_in asset os) d < 2 ^ 64 → amt (items_of (cond b (Some o.shape) (shape_in os asset))) d < 2 ^ 64
    go true rest = in-shape o.shape all.0.1
    go false rest = rest

-- no votes, no data
pub bare-data : (n : ℕ) (bytes : List ℕ) → has_no_votes (ballot_of n bytes) ≡ true → bytes ≡ []
bare-data n [] e = refl
bare-data n (k ∷ bytes) e = absurd (go (nat_le 1 k && nat_lt k n && is_ok (outcome_of bytes)) refl e)
  where
    zero-one : (k : ℕ) → nat_le 1 k ≡ true → (k == 0) ≡ true → ⊥
    zero-one k p q = grind (arith, nat_tests)

    go : (b : Bool) → (nat_le 1 k && nat_lt k n && is_ok (outcome_of bytes)) ≡ b → has_no_votes (cond b (Some (record { votes = k; proposal = bytes })) None) ≡ true → ⊥
    go true t e = zero-one k (and-left (nat_le 1 k) (nat_lt k n) (and-left (nat_le 1 k && nat_lt k n) (is_ok (outcome_of bytes)) t)) e
    go false t e = clash false e refl
