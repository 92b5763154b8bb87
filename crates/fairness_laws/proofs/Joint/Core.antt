-- What a joint channel can end with until Close, and from then on, by the state that was signed last there; and what
-- keeps it so.
use Rattle.std.proofs.Common.{◌≡◌, ℕ, ◌<◌, ◌≤◌, Bool, true, false, List, [], ◌∷◌, ◌⊎◌, inl, inr, refl, sym, ◌∙◌, subst}
use Rattle.std.specs.Prelude.{Option, Some, None}
use Rattle.channel_values.specs.Parts.{StateParts}
use Rattle.channel_values.specs.declared.value.AssetOutcome.{AssetOutcome}
use Rattle.support_rules.specs.Ballots.{ballot_of}
use Rattle.support_rules.specs.Rules.{is_same_outcome}
use Rattle.support_rules.specs.Toward.{is_settled, has_no_votes}
use Rattle.channel_safety.proofs.Tests.{some-eq, none-eq, clash, and-left, and-right, le_or_lt}
use Rattle.channel_safety.specs.Journals.{In}
use Rattle.funding_plans.specs.Targets.{apart, together}
use Rattle.funding_plans.specs.declared.terms.Terms.{Terms}
use Rattle.share_laws.specs.Places.{outcomes_of}
use Rattle.fairness_laws.proofs.Joint.Outcomes.{spelled-together, together-not-apart}
use Rattle.fairness_laws.proofs.Outcomes.{alone, bare-data}

-- a state of this turn or a later one was signed last
pub record Late (n : ℕ) (last : Option StateParts) : Type 0 where
  pub state : StateParts
  pub is : last ≡ Some state
  pub far : n ≤ state.turn

-- one that pays all to the payment channel, without votes
pub record Settled (t : Terms) (last : Option StateParts) : Type 0 where
  pub state : StateParts
  pub is : last ≡ Some state
  pub outcome : state.outcome ≡ together t
  pub bare : state.app_bytes ≡ []

-- Where the channel opens with an outcome. Where Close was commanded or not, the set-up of the part's channels is
-- held or not, and the post-fund round. And where after Close it can be parted so.
pub record Core (t : Terms) (opening : List AssetOutcome) (closing set five : Bool) (Back : List AssetOutcome → Type 0) (last : Option StateParts) : Type 0 where
  pub set_up : (closing ≡ true) ⊎ Late 3 last → set ≡ true
  pub closed : closing ≡ true → Late 3 last
  pub opens : (s : StateParts) → last ≡ Some s → s.turn < 3 → outcomes_of s ≡ opening ∷ []
  pub joins : closing ≡ false → (s : StateParts) (o : List AssetOutcome) → last ≡ Some s → In o (outcomes_of s) → (o ≡ opening) ⊎ ((o ≡ together t) × (five ≡ true))
  pub parts : closing ≡ true → (s : StateParts) (o : List AssetOutcome) → last ≡ Some s → In o (outcomes_of s) → (o ≡ together t) ⊎ Back o

module _ (t : Terms) (opening : List AssetOutcome) where
  -- nothing is signed there, and what is known only grows
  pub core-grows : (closing set five set-then five-then : Bool) (Back Then : List AssetOutcome → Type 0) (last : Option StateParts) → (set ≡ true → set-then ≡ true) → (five ≡ true → five-then ≡ true)
      → ((o : List AssetOutcome) → Back o → Then o) → Core t opening closing set five Back last → Core t opening closing set-then five-then Then last
  core-grows closing set five set-then five-then Back Then last sets fives backs core = record {
    set_up = λ why. sets (core.set_up why);
    closed = core.closed;
    opens = core.opens;
    joins = λ going s o is i. by (core.joins going s o is i);
    parts = λ closed s o is i. back (core.parts closed s o is i);
  }
    where
      by : {o : List AssetOutcome} → (o ≡ opening) ⊎ ((o ≡ together t) × (five ≡ true)) → (o ≡ opening) ⊎ ((o ≡ together t) × (five-then ≡ true))
      by (inl e) = inl e
      by (inr e) = inr (e.0, fives e.1)

      back : {o : List AssetOutcome} → (o ≡ together t) ⊎ Back o → (o ≡ together t) ⊎ Then o
      back {o} (inl e) = inl e
      back {o} (inr b) = inr (backs o b)

  -- nothing was signed yet
  pub core-new : (closing set five : Bool) (Back : List AssetOutcome → Type 0) (last : Option StateParts) → closing ≡ false → last ≡ None → Core t opening closing set five Back last
  core-new closing set five Back last going none = record {
    set_up = unset;
    closed = λ closed. absurd (clash closing closed going);
    opens = λ s is low. absurd (none-eq s (sym none ∙ is));
    joins = λ going s o is i. absurd (none-eq s (sym none ∙ is));
    parts = λ closed s o is i. absurd (clash closing closed going);
  }
    where
      unset : (closing ≡ true) ⊎ Late 3 last → set ≡ true
      unset (inl closed) = absurd (clash closing closed going)
      unset (inr late) = absurd (none-eq late.state (sym none ∙ late.is))

  module _ (closing set five : Bool) (Back : List AssetOutcome → Type 0) where
    -- a state is signed there
    pub record Signing (state : StateParts) : Type 0 where
      pub sets : (closing ≡ true) ⊎ (3 ≤ state.turn) → set ≡ true
      pub far : closing ≡ true → 3 ≤ state.turn
      pub low : state.turn < 3 → outcomes_of state ≡ opening ∷ []
      pub joins : closing ≡ false → (o : List AssetOutcome) → In o (outcomes_of state) → (o ≡ opening) ⊎ ((o ≡ together t) × (five ≡ true))
      pub parts : closing ≡ true → (o : List AssetOutcome) → In o (outcomes_of state) → (o ≡ together t) ⊎ Back o

    pub core-signs : (state : StateParts) (last : Option StateParts) → last ≡ Some state → Signing state → Core t opening closing set five Back last
    core-signs state last made signs = record {
      set_up = sets;
      closed = λ closed. record { state = state; is = made; far = signs.far closed };
      opens = λ s is low. subst (λ (x : StateParts). outcomes_of x ≡ opening ∷ []) (same s is) (signs.low (subst (λ (x : StateParts). x.turn < 3) (sym (same s is)) low));
      joins = λ going s o is i. signs.joins going o (subst (λ (x : StateParts). In o (outcomes_of x)) (sym (same s is)) i);
      parts = λ closed s o is i. signs.parts closed o (subst (λ (x : StateParts). In o (outcomes_of x)) (sym (same s is)) i);
    }
      where
        same : (s : StateParts) → last ≡ Some s → state ≡ s
        same s is = some-eq state s (sym made ∙ is)

        sets : (closing ≡ true) ⊎ Late 3 last → set ≡ true
        sets (inl closed) = signs.sets (inl closed)
        sets (inr late) = signs.sets (inr (subst (λ (x : StateParts). 3 ≤ x.turn) (sym (same late.state late.is)) late.far))

    module _ (last : Option StateParts) (core : Core t opening closing set five Back last) (ab : ℕ × ℕ) (opens : opening ≡ apart t ab) where
      differ : together t ≡ opening → ⊥
      differ e = together-not-apart t ab (e ∙ opens)

      -- who settled on together signed past the set-up
      pub settled-late : Settled t last → Late 3 last
      settled-late z = by (le_or_lt 3 z.state.turn)
        where
          first : (x y : List AssetOutcome) (xs ys : List (List AssetOutcome)) → x ∷ xs ≡ y ∷ ys → x ≡ y
          first x y xs ys e = cc

          by : (3 ≤ z.state.turn) ⊎ (z.state.turn < 3) → Late 3 last
          by (inl far) = record { state = z.state; is = z.is; far = far }
          by (inr low) = absurd (differ (sym z.outcome ∙ first z.state.outcome opening _ [] (core.opens z.state z.is low)))

      -- what was signed last is settled on together where it is spelled so and has no votes
      pub settled-so : closing ≡ false → (n : ℕ) (s : StateParts) → last ≡ Some s → is_settled n (together t) (Some s) ≡ true → Settled t last × (five ≡ true)
      settled-so going n s is e = by (core.joins going s s.outcome is (inl refl))
        where
          spelled : is_same_outcome s.outcome (together t) ≡ true
          spelled = and-left (is_same_outcome s.outcome (together t)) (has_no_votes (ballot_of n s.app_bytes)) e

          by : (s.outcome ≡ opening) ⊎ ((s.outcome ≡ together t) × (five ≡ true)) → Settled t last × (five ≡ true)
          by (inl same) = absurd (spelled-together t ab (subst (λ (o : List AssetOutcome). is_same_outcome o (together t) ≡ true) (same ∙ opens) spelled))
          by (inr so) = (
            record { state = s; is = is; outcome = so.0; bare = bare-data n s.app_bytes (and-right (is_same_outcome s.outcome (together t)) (has_no_votes (ballot_of n s.app_bytes)) e) },
            so.1,
          )

      -- Close was commanded, once it was settled so
      pub core-closes : set ≡ true → Settled t last → Core t opening true set five Back last
      core-closes is-set z = record {
        set_up = λ why. is-set;
        closed = λ closed. settled-late z;
        opens = core.opens;
        joins = λ going s o is i. absurd (clash true refl going);
        parts = λ closed s o is i. inl (all s is o i);
      }
        where
          all : (s : StateParts) → last ≡ Some s → (o : List AssetOutcome) → In o (outcomes_of s) → o ≡ together t
          all s is o i =
              let same : z.state ≡ s = some-eq z.state s (sym z.is ∙ is) in
              by (subst (In o) (alone z.state z.bare) (subst (λ (x : StateParts). In o (outcomes_of x)) (sym same) i))
            where
              by : In o (z.state.outcome ∷ []) → o ≡ together t
              by (inl e) = e ∙ z.outcome
              by (inr j) = absurd j
