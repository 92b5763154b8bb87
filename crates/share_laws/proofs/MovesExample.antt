-- The premises on moves can hold together.
use Rattle.std.proofs.Common.{refl, arith, inl, inr}
use Rattle.funding_plans.specs.declared.plan.Part.TheVariants.{OnLedger, Middle}
use Rattle.share_laws.specs.Moves.{sets_aside, joins}
use Rattle.share_laws.specs.Witness.{name, me, ann, between, items, PremisesHold}
use Rattle.share_laws.proofs.Fits.{set_aside_fits}

pub premises_hold : PremisesHold
premises_hold = (
  record { apart = (refl, (refl, (refl, (refl, (refl, (refl, (refl, tt))))))); on_ledgers = (tt, (tt, (refl, ((refl, refl), tt)))) },
  grind (arith),
  sets_aside (OnLedger (name 10) (name 12)) (name 12) 4 6 (inr (inr (inl refl))) (refl, refl, refl, omega arith)
      (set_aside_fits me ann (name 12) 4 2 (items (name 10)) refl refl (omega arith) (omega arith)).0,
  joins (Middle between) (inr (inr (inr (inl refl)))) (λ p c i w. refl) (
    refl,
    record {
      a = 2;
      c = 3;
      apart = record { channel = refl; first = refl; second = refl; own = refl; whole = refl };
      together = record { channel = refl; first = refl; second = refl; own = refl };
      full_a = record { counts = refl; named = refl; amount = refl };
      full_b = record { counts = refl; named = refl; amount = refl };
    },
  ),
)
