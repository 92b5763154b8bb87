-- The amounts for the ends that are found in a joint channel make up the total.
use Rattle.std.proofs.Common.{◌≡◌, ℕ, ◌+◌, Bool, true, false, cond, List, refl, subst}
use Rattle.std.specs.Prelude.{◌==◌, Option, Some, None, Result, Ok, Err}
use Rattle.std.specs.Option.{option_or}
use Rattle.channel_values.specs.Parts.{StateParts}
use Rattle.channel_values.specs.Reading.{outcome_of}
use Rattle.channel_values.specs.Spelling.{outcome}
use Rattle.channel_values.specs.declared.fault.ByteFault.{ByteFault}
use Rattle.channel_values.specs.declared.value.AssetOutcome.{AssetOutcome}
use Rattle.channel_values.specs.declared.value.Item.{Item}
use Rattle.support_rules.specs.Ballots.{Ballot, ballot_of}
use Rattle.channel_safety.proofs.Tests.{some-eq, none-eq, and-left, eqb-true}
use Rattle.funding_plans.specs.Targets.{is_apart, amounts_if, apart_with, apart_read, apart_spelled}
use Rattle.funding_plans.specs.declared.terms.Terms.{Terms}
use Rattle.virtual_channel.specs.Apart.{apart_proposed, apart_at}

-- amounts for the ends that an outcome of a joint channel spells do
spelled-sum : (t : Terms) (bytes : List ℕ) (ab : ℕ × ℕ) → apart_spelled t bytes ≡ Some ab → ab.0 + ab.1 ≡ t.total
spelled-sum t bytes ab e = of-read (outcome_of bytes) e
  where
    chosen : (b : Bool) (xy : ℕ × ℕ) → (b ≡ true → xy.0 + xy.1 ≡ t.total) → amounts_if b xy ≡ Some ab → ab.0 + ab.1 ≡ t.total
    chosen true xy sum e = subst (λ (y : ℕ × ℕ). y.0 + y.1 ≡ t.total) (some-eq xy ab e) (sum refl)
    chosen false xy sum e = absurd (none-eq ab e)

    with-items : (read : List ℕ) (i j : Option Item) → apart_with t read i j ≡ Some ab → ab.0 + ab.1 ≡ t.total
    with-items read (Some i) (Some j) e =
        chosen (is_apart t read (i.amount, j.amount)) (i.amount, j.amount) (λ holds. eqb-true (i.amount + j.amount) t.total (and-left (i.amount + j.amount == t.total) _ holds)) e
    with-items read (Some i) None e = absurd (none-eq ab e)
    with-items read None j e = absurd (none-eq ab e)

    of-read : (r : Result (List AssetOutcome) ByteFault) → apart_read t r ≡ Some ab → ab.0 + ab.1 ≡ t.total
    of-read (Ok os) e = with-items (outcome os) _ _ e
    of-read (Err fault) e = absurd (none-eq ab e)

-- and so do those that are found there
pub found-sum : (t : Terms) (o : Option StateParts) (ab : ℕ × ℕ) → apart_at t o ≡ Some ab → ab.0 + ab.1 ≡ t.total
found-sum t None ab e = absurd (none-eq ab e)
found-sum t (Some s) ab e = by (apart_spelled t (outcome s.outcome)) (apart_proposed t (ballot_of 3 s.app_bytes)) (spelled-sum t (outcome s.outcome) ab) (of-ballot (ballot_of 3 s.app_bytes)) e
  where
    of-ballot : (b : Option Ballot) → apart_proposed t b ≡ Some ab → ab.0 + ab.1 ≡ t.total
    of-ballot None e = absurd (none-eq ab e)
    of-ballot (Some b) e = go (b.votes == 0) e
      where
        go : (z : Bool) → cond z None (apart_spelled t b.proposal) ≡ Some ab → ab.0 + ab.1 ≡ t.total
        go true e = absurd (none-eq ab e)
        go false e = spelled-sum t b.proposal ab e

    by : (x y : Option (ℕ × ℕ)) → (x ≡ Some ab → ab.0 + ab.1 ≡ t.total) → (y ≡ Some ab → ab.0 + ab.1 ≡ t.total) → option_or x y ≡ Some ab → ab.0 + ab.1 ≡ t.total
    by None y first second e = second e
    by (Some x) y first second e = first e
