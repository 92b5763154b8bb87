-- What a node signs in the guarantors and the joint channels of its virtual channels.
use Rattle.std.proofs.Common.{◌≡◌, ℕ, Bool, true, false, cond, List, [], ◌∷◌, ◌⊎◌, inl, inr, refl, sym, ◌∙◌, ap, subst}
use Rattle.std.specs.Prelude.{◌==◌, Some, None}
use Rattle.std.specs.List.{AllByRecursion}
use Rattle.channel_values.specs.Parts.{FixedParts}
use Rattle.channel_values.specs.declared.chain.Signed.{Signed}
use Rattle.channel_values.specs.declared.value.AssetOutcome.{AssetOutcome}
use Rattle.channel_values.specs.declared.value.Dest.{Dest}
use Rattle.channel_values.specs.declared.value.Dest.TheVariants.{Person, Channel}
use Rattle.channel_values.specs.declared.value.Shape.{Shape}
use Rattle.channel_values.specs.declared.value.Shape.TheVariants.{Guarantee}
use Rattle.channel_safety.proofs.Tests.{none-eq}
use Rattle.call_history.specs.declared.entry.Entry.{Entry}
use Rattle.channel_values.specs.Digests.{name_of_person}
use Rattle.channel_exits.specs.Fair.{HasAsset, HasNoOther, Signs, SignsInAsset}
use Rattle.funding_plans.specs.Parts.{own_guarantor}
use Rattle.funding_plans.specs.Shapes.{items_of}
use Rattle.funding_plans.specs.declared.plan.Goal.{Goal}
use Rattle.funding_plans.specs.declared.plan.Part.TheVariants.{End, Middle}
use Rattle.funding_plans.specs.declared.plan.Virtual.{Virtual}
use Rattle.channel_safety.proofs.Members.{In-append_right}
use Rattle.channel_safety.specs.Journals.{In, Line, made_in}
use Rattle.fairness_laws.proofs.Joint.Pays.{only-there, only-other}
use Rattle.fairness_laws.proofs.Apps.{no-payments, no-payments-either}
use Rattle.fairness_laws.proofs.Outcomes.{exactly-alone}
use Rattle.fairness_laws.proofs.Seat.Past.{one-fixed}
use Rattle.fairness_laws.proofs.OpenedVirtuals.{end-opened, middle-opened}
use Rattle.fairness_laws.specs.JointKeeping.{IsSplit, SignsSplits}
use Rattle.fairness_laws.specs.OpeningChannels.{SignsOnly}
use Rattle.fairness_laws.specs.PaymentLaws.{At}
use Rattle.fairness_laws.specs.PlanParts.{EndIs, MiddleIs}
use Rattle.fairness_laws.specs.PlanSettings.{IsFair}
use Rattle.channel_node.specs.Minds.{Mind, facts_of}
use Rattle.channel_node.specs.Places.{Told, lines_of, mind_at}
use Rattle.channel_node.specs.Playing.{Signing}
use Rattle.funding_plans.specs.Targets.{only, together, guarantee}
use Rattle.funding_plans.specs.declared.terms.Terms.{Terms}
use Rattle.share_laws.specs.Signed.{Promises, SignsGuarantees, IsNoPayment, HasSigned}
use Rattle.share_laws.specs.Sound.{IsPromise}
use Rattle.share_laws.specs.Places.{channels, outcomes_of}
use Rattle.funding_plans.specs.Gathered.{goal_in}
use Rattle.support_rules.specs.Real.{real}

-- ---- an outcome of one asset

only-promises : (asset : ℕ) (joint : List ℕ) (list : List Dest) → Promises joint list (only asset (Guarantee joint list))
only-promises asset joint list a = go (asset == a)
  where
    go : (b : Bool) → IsPromise joint list (cond b (Some (Guarantee joint list)) None)
    go true = refl
    go false = tt

only-has : (asset : ℕ) (shape : Shape) → HasAsset asset (only asset shape)
only-has asset shape none = none-eq shape (sym none ∙ only-there asset shape)

only-no-other : (asset : ℕ) (shape : Shape) → HasNoOther asset (only asset shape)
only-no-other asset shape other differ = ap items_of (only-other asset other shape differ)

module _ (s : Signing) (h : List Entry) (journal : List Told) (fair : IsFair s h journal) (past : List Entry) (front : List Told) (at : At s h journal past front) where
  abbrev m : Mind
  m = mind_at real s.key past front

  -- ---- what was signed

  -- a name of a channel that isn't a payment channel
  no-payment : (f : FixedParts) (name : List ℕ) → In f (channels (lines_of s.key front)) → real.named f ≡ name → (f.app ≡ 1 → ⊥) → IsNoPayment real (lines_of s.key front) name
  no-payment f name i named not-one g j same one = not-one (ap (λ (x : FixedParts). x.app) (one-fixed s h journal fair past front at.front_is past front at.front_is f g i j (named ∙ sym same)) ∙ one)

  -- what was signed up to here stands in the whole journal
  whole-line : (x : Line) → In x (lines_of s.key front) → In x (lines_of s.key journal)
  whole-line x i = subst (In x) (sym at.place.lines) (In-append_right x at.place.newer (lines_of s.key front) i)

  -- a guarantor of which the promise alone is signed
  guarantees : (f : FixedParts) (name joint : List ℕ) (asset : ℕ) (list : List Dest) → real.named f ≡ name → SignsOnly f (only asset (Guarantee joint list)) (lines_of s.key journal)
      → SignsGuarantees (lines_of s.key front) name joint list × Signs (lines_of s.key front) name (HasAsset asset)
  guarantees f name joint asset list named signs = (
    λ x n i made. subst (AllByRecursion (Promises joint list)) (sym (alone x n i made)) (only-promises asset joint list, tt),
    λ x n i made. subst (AllByRecursion (HasAsset asset)) (sym (alone x n i made)) (only-has asset (Guarantee joint list), tt),
  )
    where
      alone : (x : Line) (n : Signed) → In x (lines_of s.key front) → made_in name x.deed ≡ Some n → outcomes_of n.state ≡ only asset (Guarantee joint list) ∷ []
      alone x n i made =
          exactly-alone (only asset (Guarantee joint list)) n.state
          (signs x n (whole-line x i) (subst (λ (c : List ℕ). made_in c x.deed ≡ Some n) (sym named) made))

  -- of the part's asset, for its payment channel
  promised : (f : FixedParts) (t : Terms) (v : Virtual) (joint end : List ℕ) (rest : List Dest) → t.asset ≡ v.asset → t.channel ≡ v.channel → SignsOnly f (only t.asset (Guarantee joint (Channel t.channel ∷ Person end ∷ rest))) (lines_of s.key journal)
      → SignsOnly f (only v.asset (Guarantee joint (Channel v.channel ∷ Person end ∷ rest))) (lines_of s.key journal)
  promised f t v joint end rest asset channel signs =
      subst (λ (n : ℕ). SignsOnly f (only n (Guarantee joint (Channel v.channel ∷ Person end ∷ rest))) (lines_of s.key journal)) asset
      (subst (λ (c : List ℕ). SignsOnly f (only t.asset (Guarantee joint (Channel c ∷ Person end ∷ rest))) (lines_of s.key journal)) channel signs)

  -- a joint channel
  splits : (t : Terms) (joint : List ℕ) (asset : ℕ) → t.asset ≡ asset → SignsSplits t joint (lines_of s.key front) → Signs (lines_of s.key front) joint (HasNoOther asset)
  splits t joint asset same signs x n i made = each (outcomes_of n.state) (λ o j. subst (λ (a : ℕ). HasNoOther a o) same (by o (signs x n o i made j)))
    where
      by : (o : List AssetOutcome) → (o ≡ together t) ⊎ IsSplit t o → HasNoOther t.asset o
      by o (inl e) = subst (HasNoOther t.asset) (sym e) (only-no-other t.asset _)
      by o (inr z) = subst (HasNoOther t.asset) (sym z.is) (only-no-other t.asset _)

      each : (os : List (List AssetOutcome)) → ((o : List AssetOutcome) → In o os → HasNoOther asset o) → AllByRecursion (HasNoOther asset) os
      each [] all = tt
      each (o ∷ os) all = (all o (inl refl), each os (λ z j. all z (inr j)))

  -- ---- an end

  module _ (v : Virtual) (g : Goal) (i : In (End v) m.parts) (found : goal_in (facts_of m) v.channel ≡ Some g) (e : EndIs s.key past (lines_of s.key front) (facts_of m) v g) where
    abbrev t : Terms
    t = e.end.terms

    abbrev list : List Dest
    list = Channel v.channel ∷ Person (name_of_person s.key) ∷ Person t.middle ∷ []

    end-signs : SignsGuarantees (lines_of s.key front) (own_guarantor v) v.joint list × Signs (lines_of s.key front) (own_guarantor v) (HasAsset v.asset)
    end-signs = guarantees e.guarantor.fixed (own_guarantor v) v.joint v.asset list e.guarantor.named
        (promised e.guarantor.fixed t v v.joint (name_of_person s.key) (Person t.middle ∷ []) e.joint.asset e.joint.channel (end-opened s h journal fair past front at v g i e).signs)

    pub end-has_signed : HasSigned real (name_of_person s.key) (lines_of s.key front) (End v)
    end-has_signed = (
      no-payment e.guarantor.fixed (own_guarantor v) e.guarantor.seat.own.there e.guarantor.named (no-payments-either e.guarantor.fixed e.guarantor.app),
      (Person t.middle, end-signs.0),
    )

    pub end-in_asset : SignsSplits t v.joint (lines_of s.key front) → SignsInAsset real (lines_of s.key front) (End v)
    end-in_asset signs = (
      no-payment e.joint.fixed v.joint e.joint.seat.own.there e.joint.named (no-payments e.joint.fixed e.joint.app),
      (splits t v.joint v.asset e.joint.asset signs, end-signs.1),
    )

  -- ---- the intermediary

  module _ (v : Virtual) (g : Goal) (i : In (Middle v) m.parts) (found : goal_in (facts_of m) v.channel ≡ Some g) (e : MiddleIs s.key past (lines_of s.key front) (facts_of m) v g) where
    abbrev u : Terms
    u = e.middle.terms

    abbrev list-of : List ℕ → List Dest
    list-of end = Channel v.channel ∷ Person end ∷ Person (name_of_person s.key) ∷ []

    abbrev SignsOf : List ℕ → List ℕ → Type 0
    SignsOf guarantor end = SignsGuarantees (lines_of s.key front) guarantor v.joint (list-of end) × Signs (lines_of s.key front) guarantor (HasAsset v.asset)

    both-sign : SignsOf v.guarantor_a u.first × SignsOf v.guarantor_b u.second
    both-sign =
        let opened = middle-opened s h journal fair past front at v g i e in (
          guarantees e.guarantor_a.fixed v.guarantor_a v.joint v.asset (list-of u.first) e.guarantor_a.named (me-there e.guarantor_a.fixed u.first opened.signs_a),
          guarantees e.guarantor_b.fixed v.guarantor_b v.joint v.asset (list-of u.second) e.guarantor_b.named (me-there e.guarantor_b.fixed u.second opened.signs_b),
        )
      where
        me-there : (f : FixedParts) (end : List ℕ) → SignsOnly f (guarantee u v.joint end) (lines_of s.key journal) → SignsOnly f (only v.asset (Guarantee v.joint (list-of end))) (lines_of s.key journal)
        me-there f end signs =
            subst (λ (n : List ℕ). SignsOnly f (only v.asset (Guarantee v.joint (Channel v.channel ∷ Person end ∷ Person n ∷ []))) (lines_of s.key journal)) e.me
            (promised f u v v.joint end (Person u.middle ∷ []) e.joint.asset e.joint.channel signs)

    pub middle-has_signed : HasSigned real (name_of_person s.key) (lines_of s.key front) (Middle v)
    middle-has_signed = (
      (no-payment e.guarantor_a.fixed v.guarantor_a e.guarantor_a.seat.own.there e.guarantor_a.named (no-payments-either e.guarantor_a.fixed e.guarantor_a.app), (Person u.first, both-sign.0.0)),
      (no-payment e.guarantor_b.fixed v.guarantor_b e.guarantor_b.seat.own.there e.guarantor_b.named (no-payments-either e.guarantor_b.fixed e.guarantor_b.app), (Person u.second, both-sign.1.0)),
    )

    pub middle-in_asset : SignsSplits u v.joint (lines_of s.key front) → SignsInAsset real (lines_of s.key front) (Middle v)
    middle-in_asset signs = (
      no-payment e.joint.fixed v.joint e.joint.seat.own.there e.joint.named (no-payments e.joint.fixed e.joint.app),
      (splits u v.joint v.asset e.joint.asset signs, (both-sign.0.1, both-sign.1.1)),
    )
