-- The outcomes of a joint channel, apart and together: no spelling is of both.
use Rattle.std.proofs.Common.{◌≡◌, ℕ, ◌+◌, ◌^◌, ◌<◌, Bool, true, false, cond, ◌||◌, List, [], ◌∷◌, refl, ◌∙◌, ap, subst, arith}
use Rattle.std.specs.Prelude.{Option, Some, None, slice_index}
use Rattle.std.specs.List.{AllByRecursion}
use Rattle.std.specs.Option.{option_or}
use Rattle.std.specs.Str.{bytes_eq}
use Rattle.channel_values.proofs.Format.{valid_again}
use Rattle.channel_values.proofs.Formats.{outcome_format}
use Rattle.channel_values.specs.Outcomes.{IsName, IsOutcome}
use Rattle.channel_values.specs.Parts.{FixedParts, StateParts}
use Rattle.channel_values.specs.Spelling.{outcome}
use Rattle.channel_values.specs.declared.value.AssetOutcome.{AssetOutcome}
use Rattle.channel_values.specs.declared.value.Dest.TheVariants.{Person, Channel}
use Rattle.channel_values.specs.declared.value.Shape.TheVariants.{Allocation}
use Rattle.support_rules.specs.Ballots.{ballot_of}
use Rattle.support_rules.specs.Rules.{is_same_outcome}
use Rattle.call_history.proofs.Names.{same_bytes, bytes_eq_self}
use Rattle.channel_values.specs.Amounts.{has}
use Rattle.funding_plans.specs.Shapes.{items_of, items_in}
use Rattle.funding_plans.specs.Targets.{pays, apart, together, apart_in, apart_read, apart_spelled}
use Rattle.funding_plans.proofs.Found.{found}
use Rattle.virtual_channel.specs.Apart.{apart_proposed, apart_of}
use Rattle.funding_plans.specs.declared.terms.Terms.{Terms}
use Rattle.support_rules.specs.Steps.{persons}
use Rattle.std.proofs.lemmas.Bool.{eq-eqb}
use Rattle.fairness_laws.proofs.Joint.Pays.{AreTerms, asset-small}
use Rattle.fairness_laws.proofs.NamesAreNames.{people_are_names}

-- ---- they differ, and so do their spellings

-- the number of items
together-counts : (t : Terms) → slice_index (outcome (together t)) 6 ≡ 2
unfolding outcome
together-counts t = refl

apart-counts : (t : Terms) (ab : ℕ × ℕ) → slice_index (outcome (apart t ab)) 6 ≡ 3
unfolding outcome
apart-counts t ab = refl

pub spelled-apart : (t : Terms) (ab : ℕ × ℕ) → is_same_outcome (together t) (apart t ab) ≡ true → ⊥
spelled-apart t ab e =
    never (slice_index (outcome (together t)) 6) (together-counts t)
    (ap (λ (bytes : List ℕ). slice_index bytes 6) (same_bytes (outcome (together t)) (outcome (apart t ab)) e) ∙ apart-counts t ab)
  where
    never : (n : ℕ) → n ≡ 2 → n ≡ 3 → ⊥
    never n p q = absurd (omega (arith, p, q))

pub spelled-together : (t : Terms) (ab : ℕ × ℕ) → is_same_outcome (apart t ab) (together t) ≡ true → ⊥
spelled-together t ab e =
    spelled-apart t ab
    (subst (λ (bytes : List ℕ). bytes_eq bytes (outcome (apart t ab)) ≡ true) (same_bytes (outcome (apart t ab)) (outcome (together t)) e) (bytes_eq_self (outcome (apart t ab))))

pub together-not-apart : (t : Terms) (ab : ℕ × ℕ) → together t ≡ apart t ab → ⊥
together-not-apart t ab e = spelled-apart t ab (subst (λ (o : List AssetOutcome). is_same_outcome (together t) o ≡ true) e (bytes_eq_self (outcome (together t))))

-- ---- the item for the payment channel

pub together-has : (t : Terms) → has (items_in t.asset (together t)) (Channel t.channel) ≡ true
together-has t =
    ap (λ (b : Bool). has (items_of (cond b (Some (Allocation (pays (Channel t.channel) t.total ∷ pays (Person t.middle) t.total ∷ []))) None)) (Channel t.channel)) (eq-eqb t.asset t.asset refl)
    ∙ ap (λ (b : Bool). b || has (pays (Person t.middle) t.total ∷ []) (Channel t.channel)) (bytes_eq_self t.channel)

pub apart-has-not : (t : Terms) (ab : ℕ × ℕ) → has (items_in t.asset (apart t ab)) (Channel t.channel) ≡ false
apart-has-not t ab =
    ap (λ (b : Bool). has (items_of (cond b (Some (Allocation (pays (Person t.first) ab.0 ∷ pays (Person t.second) ab.1 ∷ pays (Person t.middle) t.total ∷ []))) None)) (Channel t.channel))
    (eq-eqb t.asset t.asset refl)

-- ---- the terms

-- of an asset they are those of names, where the people are those of a channel
pub terms-of : (f : FixedParts) (t : Terms) → persons f ≡ t.first ∷ t.middle ∷ t.second ∷ [] → IsName t.channel → t.total < 2 ^ 64 → t.asset < 2 ^ 32 → AreTerms t
terms-of f t people channel small asset =
    let all = subst (AllByRecursion IsName) people (people_are_names f.keys) in
    record { asset = asset; total = small; channel = channel; first = all.0; middle = all.1.0; second = all.1.1.0 }

-- the asset of an outcome is one
pub together-asset : (t : Terms) → IsOutcome (together t) → t.asset < 2 ^ 32
together-asset t valid = asset-small t.asset (Allocation (pays (Channel t.channel) t.total ∷ pays (Person t.middle) t.total ∷ [])) valid

pub apart-asset : (t : Terms) (ab : ℕ × ℕ) → IsOutcome (apart t ab) → t.asset < 2 ^ 32
apart-asset t ab valid = asset-small t.asset (Allocation (pays (Person t.first) ab.0 ∷ pays (Person t.second) ab.1 ∷ pays (Person t.middle) t.total ∷ [])) valid

-- ---- amounts for the ends

-- those that an outcome has are found
pub found-apart : (t : Terms) (top : StateParts) (ab : ℕ × ℕ) → IsOutcome top.outcome → top.outcome ≡ apart t ab → ab.0 + ab.1 ≡ t.total → apart_of t top ≡ Some ab
found-apart t top ab valid is sum = ap (λ (o : Option (ℕ × ℕ)). option_or o (apart_proposed t (ballot_of 3 top.app_bytes))) spelled
  where
    spelled : apart_spelled t (outcome top.outcome) ≡ Some ab
    spelled = ap (apart_read t) (valid_again outcome_format top.outcome valid) ∙ (ap (apart_in t) is ∙ found t ab sum)
