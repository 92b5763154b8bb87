-- The seat of a joint channel, by what is known of that.
use Rattle.std.proofs.Common.{◌≡◌, ◌≢◌, ℕ, ◌+◌, ◌*◌, ◌-◌, ◌^◌, ◌<◌, ◌≤◌, Bool, true, false, ◌&&◌, ◌⊎◌, inl, inr, List, [], ◌∷◌, length, refl, sym, ◌∙◌, ap, subst, arith}
use Rattle.std.specs.Prelude.{Option, Some, None}
use Rattle.std.specs.Option.{option_map}
use Rattle.std.specs.Str.{bytes_eq}
use Rattle.channel_values.specs.Outcomes.{IsName}
use Rattle.channel_values.specs.Parts.{FixedParts, StateParts}
use Rattle.channel_values.specs.Spelling.{outcome}
use Rattle.channel_values.specs.declared.chain.Signed.{Signed}
use Rattle.channel_values.specs.declared.value.AssetOutcome.{AssetOutcome}
use Rattle.support_rules.specs.Ballots.{ballot_of}
use Rattle.support_rules.specs.Rules.{is_same_outcome}
use Rattle.support_rules.specs.Toward.{is_settled, has_no_votes}
use Rattle.channel_safety.proofs.Tests.{some-eq, none-eq, clash}
use Rattle.call_history.proofs.Names.{same_bytes, bytes_eq_self}
use Rattle.call_history.specs.declared.entry.Entry.{Entry}
use Rattle.channel_values.specs.Rules.{people}
use Rattle.funding_plans.specs.declared.plan.Goal.{Goal}
use Rattle.funding_plans.specs.declared.plan.Virtual.{Virtual}
use Rattle.channel_safety.specs.Journals.{In, Line}
use Rattle.channel_node.specs.Places.{Told, lines_of}
use Rattle.channel_node.specs.Playing.{Signing}
use Rattle.fairness_laws.proofs.Apps.{no-payments}
use Rattle.fairness_laws.specs.PaymentLaws.{At}
use Rattle.fairness_laws.specs.PlanParts.{JointIs}
use Rattle.fairness_laws.specs.PlanSettings.{IsFair}
use Rattle.fairness_laws.proofs.Joint.Pays.{AreTerms}
use Rattle.fairness_laws.proofs.Plan.Asked.{OnLedger}
use Rattle.fairness_laws.proofs.Joint.Core.{Late, Settled, Core, settled-late, settled-so}
use Rattle.fairness_laws.proofs.Seat.Held.{last-of}
use Rattle.fairness_laws.proofs.Joint.Late.{late-of, of-late, own-of, low-turn}
use Rattle.fairness_laws.proofs.Joint.Outcomes.{terms-of}
use Rattle.fairness_laws.proofs.Outcomes.{alone}
use Rattle.fairness_laws.proofs.Seat.Past.{one-fixed, own-late}
use Rattle.fairness_laws.proofs.Joint.Terms.{three-people}
use Rattle.funding_plans.specs.Targets.{apart, together}
use Rattle.funding_plans.specs.declared.terms.Terms.{Terms}
use Rattle.share_laws.specs.Places.{channels, last_made, outcomes_of}
use Rattle.funding_plans.specs.Seats.{Seat, has_signed_past, settled_on}
use Rattle.support_rules.specs.Real.{real}
use Rattle.support_rules.specs.Steps.{persons}

module _ (s : Signing) (h : List Entry) (journal : List Told) (fair : IsFair s h journal) (past : List Entry) (front : List Told) (at : At s h journal past front) where
  abbrev L : List Line
  L = lines_of s.key front

  -- a name determines the fixed part, and so the application
  pub same-fixed : (f k : FixedParts) → In f (channels L) → In k (channels L) → real.named f ≡ real.named k → f ≡ k
  same-fixed f k j l e = one-fixed s h journal fair past front at.front_is past front at.front_is f k j l e

  pub other-apps : (f k : FixedParts) → In f (channels L) → In k (channels L) → real.named f ≡ real.named k → (n o : ℕ) → f.app ≡ n → k.app ≡ o → (n ≡ o → ⊥) → ⊥
  other-apps f k j l e n o b c differ = differ (sym b ∙ (ap (λ (z : FixedParts). z.app) (same-fixed f k j l e) ∙ c))

  module _ (v : Virtual) (g : Goal) (t : Terms) (c : Seat) (j : JointIs s.key past L v g t c) where
    pub opens : c.opening ≡ apart t g.amounts
    opens = ap (λ (z : Seat). z.opening) j.seat.is

    pub three : people j.fixed ≡ 3
    three = three-people s.key past L v g t c j

    pub consensus : j.fixed.app ≢ 1
    consensus = no-payments j.fixed j.app

    -- it is no ledger
    pub no-ledger : OnLedger L v.joint → ⊥
    no-ledger l = never (ap (λ (xs : List (List ℕ)). length xs) (sym l.people ∙ (ap persons (same-fixed l.fixed j.fixed l.there j.seat.own.there (l.named ∙ sym j.named)) ∙ j.people)))
      where
        never : ◌≡◌ {A = ℕ} 2 3 → ⊥
        never e = absurd cc

    pub has-name : (name : List ℕ) → bytes_eq c.name name ≡ true → real.named j.fixed ≡ name
    has-name name e = sym (ap (λ (z : Seat). z.name) j.seat.is) ∙ same_bytes c.name name e

    pub terms-are : IsName v.channel → t.asset < 2 ^ 32 → AreTerms t
    terms-are named = terms-of j.fixed t j.people (subst IsName (sym j.channel) named) (small t.total v.total j.total j.small)
      where
        small : (n m : ℕ) → n ≡ m → 2 * m ≤ 2 ^ 64 - 1 → n < 2 ^ 64
        small n m e h = omega arith

    -- who signed past the set-up
    pub late-of-seat : has_signed_past c ≡ true → Late 3 (last-of v.joint L)
    late-of-seat = late-of s h journal fair past front at j.fixed (apart t g.amounts) c j.seat 3 three v.joint j.named

    pub seat-late : Late 3 (last-of v.joint L) → has_signed_past c ≡ true
    seat-late = of-late s h journal fair past front at j.fixed (apart t g.amounts) c j.seat 3 three v.joint j.named

    pub own-is : (last : StateParts) → c.own ≡ Some last → last-of v.joint L ≡ Some last
    own-is = own-of s h journal fair past front at j.fixed (apart t g.amounts) c j.seat 3 three v.joint j.named

    module _ (closing set five : Bool) (Back : List AssetOutcome → Type 0) (core : Core t c.opening closing set five Back (last-of v.joint L)) where
      pub core-named : Core t c.opening closing set five Back (last-of (real.named j.fixed) L)
      core-named = subst (λ (n : List ℕ). Core t c.opening closing set five Back (last-of n L)) (sym j.named) core

      -- where the table says that it is settled on together, it is
      pub settled-here : closing ≡ false → settled_on (Some (together t)) c ≡ true → Settled t (last-of v.joint L) × (five ≡ true)
      settled-here stays e = go c.own refl e
        where
          go : (o : Option StateParts) → c.own ≡ o → is_settled (length c.people) (together t) o ≡ true → Settled t (last-of v.joint L) × (five ≡ true)
          go None is e = absurd (clash false e refl)
          go (Some u) is e = settled-so t c.opening closing set five Back (last-of v.joint L) core g.amounts opens stays (length c.people) u (own-is u is) e

      pub late-settled : Settled t (last-of v.joint L) → Late 3 (last-of v.joint L)
      late-settled z = settled-late t c.opening closing set five Back (last-of v.joint L) core g.amounts opens z

      -- and the other way round
      pub settled-there : Settled t (last-of v.joint L) → settled_on (Some (together t)) c ≡ true
      settled-there z = ap (is_settled (length c.people) (together t)) known ∙ settled
        where
          late : Late 3 (last-of v.joint L)
          late = late-settled z

          made : (o : Option Signed) → last_made v.joint L ≡ o → option_map (λ (x : Signed). x.state) o ≡ Some z.state → (u : Signed) × (last_made v.joint L ≡ Some u) × (u.state ≡ z.state)
          made None is e = absurd (none-eq z.state e)
          made (Some u) is e = (u, is, some-eq u.state z.state e)

          high : (n a b : ℕ) → n ≡ 3 → 3 ≤ a → b ≡ a → n ≤ b + 1
          high n a b p q r = omega arith

          known : c.own ≡ Some z.state
          known =
              let u = made (last_made v.joint L) refl z.is in
              own-late s h journal fair.nodes past front at.front_is j.fixed (apart t g.amounts) c j.seat u.0 (subst (λ (n : List ℕ). last_made n L ≡ Some u.0) (sym j.named) u.1)
              (high (people j.fixed) late.state.turn u.0.state.turn three late.far (ap (λ (x : StateParts). x.turn) (u.2 ∙ some-eq z.state late.state (sym z.is ∙ late.is))))
              ∙ ap (λ (x : StateParts). Some x) u.2

          settled : is_settled (length c.people) (together t) (Some z.state) ≡ true
          settled =
              ap (λ (bytes : List ℕ). is_same_outcome z.state.outcome (together t) && has_no_votes (ballot_of (length c.people) bytes)) z.bare
              ∙ ap (λ (b : Bool). b && true) (ap (λ (o : List AssetOutcome). is_same_outcome o (together t)) z.outcome ∙ bytes_eq_self (outcome (together t)))

      -- ---- what is known by the state that was signed last

      pub sets : (closing ≡ true) ⊎ (has_signed_past c ≡ true) → set ≡ true
      sets (inl closed) = core.set_up (inl closed)
      sets (inr late) = core.set_up (inr (late-of-seat late))

      pub opens-with : (last : StateParts) → c.own ≡ Some last → has_signed_past c ≡ false → outcomes_of last ≡ apart t g.amounts ∷ []
      opens-with last is early =
          core.opens last (own-is last is) (low-turn s h journal fair past front at j.fixed (apart t g.amounts) c j.seat 3 three v.joint j.named last is early)
          ∙ ap (λ (o : List AssetOutcome). o ∷ []) opens

      pub joins : closing ≡ false → (last : StateParts) (o : List AssetOutcome) → c.own ≡ Some last → In o (outcomes_of last) → (o ≡ apart t g.amounts) ⊎ (o ≡ together t)
      joins stays last o is i = by (core.joins stays last o (own-is last is) i)
        where
          by : (o ≡ c.opening) ⊎ ((o ≡ together t) × (five ≡ true)) → (o ≡ apart t g.amounts) ⊎ (o ≡ together t)
          by (inl same) = inl (same ∙ opens)
          by (inr same) = inr same.0

      pub joined : closing ≡ false → settled_on (Some (together t)) c ≡ true → (last : StateParts) → c.own ≡ Some last → (outcomes_of last ≡ together t ∷ []) × (five ≡ true)
      joined stays settled last is =
          let z = settled-here stays settled in
          let same = some-eq z.0.state last (sym z.0.is ∙ own-is last is) in
          (subst (λ (x : StateParts). outcomes_of x ≡ together t ∷ []) same (alone z.0.state z.0.bare ∙ ap (λ (o : List AssetOutcome). o ∷ []) z.0.outcome), z.1)

      pub parts : closing ≡ true → (last : StateParts) (o : List AssetOutcome) → c.own ≡ Some last → In o (outcomes_of last) → (o ≡ together t) ⊎ Back o
      parts closed last o is i = core.parts closed last o (own-is last is) i
