-- What two made signers and a channel of the format's limits give.
pub use Rattle.script_run.specs.Finish.{AreMade}
use Rattle.std.proofs.Common.{◌≡◌, ℕ, ◌+◌, ◌<◌, Bool, true, List, [], refl, sym, subst, arith}
use Rattle.std.specs.Prelude.{◌^◌, Result, is_ok}
use Rattle.channel_values.specs.Outcomes.{AreBytes, IsOutcome}
use Rattle.channel_values.specs.Parts.{IsState}
use Rattle.channel_values.specs.Spelling.{outcome}
use Rattle.channel_values.specs.declared.fault.ByteFault.{ByteFault}
use Rattle.channel_values.specs.declared.value.AssetOutcome.{AssetOutcome}
use Rattle.channel_values.proofs.Format.{valid_again}
use Rattle.channel_values.proofs.Formats.{outcome_format}
use Rattle.call_history.proofs.Formats.{message_format}
use Rattle.channel_node.specs.Playing.{SignerOf}
use Rattle.funding_plans.specs.Limits.{is_valid}
use Rattle.support_rules.specs.Real.{real}
use Rattle.script_run.specs.Pair.{split, state}
use Rattle.script_run.specs.TwoPeople.{Pair, name}
use Rattle.script_run.proofs.Notes.{by}
use Rattle.script_run.proofs.Phases.{Fits, signature}
use Rattle.script_run.proofs.Steps.{repeats}

small-first : (x y total limit : ℕ) → x + y ≡ total → total < limit → x < limit
small-first x y total limit e h = omega arith

small-second : (x y total limit : ℕ) → x + y ≡ total → total < limit → y < limit
small-second x y total limit e h = omega arith

small-both : (x y total limit : ℕ) → x + y ≡ total → total < limit → 0 + x + y < limit
small-both x y total limit e h = omega arith

no-bytes : AreBytes []
no-bytes i = omega arith

module _ (p : Pair) (sa sb : SignerOf) (m : AreMade p sa sb) where
  pub is_outcome : (x y : ℕ) → x + y ≡ p.a + p.b → IsOutcome (split p x y)
  is_outcome x y e = (
    omega arith,
    record {
      each = (
        (
          m.asset,
          (
            omega arith,
            record {
              each = ((m.person_a, small-first x y (p.a + p.b) (2 ^ 64) e m.sum), ((m.person_b, small-second x y (p.a + p.b) (2 ^ 64) e m.sum), tt));
              apart = (simp m.apart, (refl, tt));
              within = small-both x y (p.a + p.b) (2 ^ 64) e m.sum;
            },
          ),
        ),
        tt,
      );
      rising = (refl, tt);
    },
  )

  is_state : (turn x y : ℕ) (final : Bool) → turn < 2 ^ 48 → x + y ≡ p.a + p.b → IsState (state p turn final x y)
  is_state turn x y final early e = record { turn = early; outcome = is_outcome x y e; few = omega arith; bytes = no-bytes }

  valid : is_valid (split p p.a p.b) ≡ true
  valid = subst (λ (r : Result (List AssetOutcome) ByteFault). is_ok r ≡ true) (sym (valid_again outcome_format (split p p.a p.b) (is_outcome p.a p.b refl))) refl

  -- and so the two can open, pay and close
  pub fits : Fits p sa sb
  fits = record {
    begins = record { valid = valid; apart = m.apart; repeats = λ turn few. repeats p turn p.a p.b few; some_a = m.some_a; some_b = m.some_b };
    small = record { sum = m.sum };
    keys = m.keys;
    well_a = m.well_a;
    well_b = m.well_b;
    reads_a = λ used turn x y final early e. valid_again message_format (name real p, by (state p turn final x y) (signature p sa used (state p turn final x y))) (m.channel, (is_state turn x y final early e, m.short_a used _));
    reads_b = λ used turn x y final early e. valid_again message_format (name real p, by (state p turn final x y) (signature p sb used (state p turn final x y))) (m.channel, (is_state turn x y final early e, m.short_b used _));
  }
