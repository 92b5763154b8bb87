-- The example by computing, and its guarantees by cases on the asset.
use Rattle.std.proofs.Common.{ℕ, Bool, true, false, cond, List, [], ◌∷◌, refl}
use Rattle.std.specs.Prelude.{◌==◌, Some, None}
use Rattle.channel_values.specs.declared.value.Dest.{Dest}
use Rattle.channel_values.specs.declared.value.Dest.TheVariants.{Person, Channel}
use Rattle.channel_values.specs.declared.value.Shape.TheVariants.{Guarantee}
use Rattle.share_laws.specs.Sound.{IsPromise}
use Rattle.further_laws.specs.Example.{a, first, second, b, near_joint, near_channel, far_joint, far_channel, ExampleHolds}

promise : (joint : List ℕ) (list : List Dest) (t : Bool) → IsPromise joint list (cond t (Some (Guarantee joint list)) None)
promise joint list true = refl
promise joint list false = tt

-- for the channel, its end and the intermediary
abbrev for-three : (channel end middle : List ℕ) → List Dest
for-three channel end middle = Channel channel ∷ Person end ∷ Person middle ∷ []

pub example_holds : ExampleHolds
example_holds = record {
  of_a = record {
    share_is = refl;
    funded = refl;
    sound = record {
      payers = (refl, (refl, (refl, (refl, (refl, tt)))));
      apart = (tt, (refl, (refl, tt)));
      guarantors = (
        tt,
        (
          (Person first, λ taken asset. promise near_joint (for-three near_channel a first) (0 == asset)),
          ((Person second, λ taken asset. promise far_joint (for-three far_channel a second) (0 == asset)), tt),
        ),
      );
    };
  };
  of_first = record {
    share_is = refl;
    funded = refl;
    sound = record {
      payers = (refl, (refl, (refl, tt)));
      apart = (tt, (tt, (refl, tt)));
      guarantors = (
        tt,
        (
          tt,
          (
            (
              (Person a, λ taken asset. promise near_joint (for-three near_channel a first) (0 == asset)),
              (Person second, λ taken asset. promise near_joint (for-three near_channel second first) (0 == asset)),
            ),
            tt,
          ),
        ),
      );
    };
  };
  of_second = record {
    share_is = refl;
    funded = refl;
    sound = record {
      payers = (refl, (refl, (refl, (refl, (refl, tt)))));
      apart = (tt, (tt, (refl, (refl, tt))));
      guarantors = (
        tt,
        (
          tt,
          (
            (Person first, λ taken asset. promise near_joint (for-three near_channel second first) (0 == asset)),
            (
              (
                (Person a, λ taken asset. promise far_joint (for-three far_channel a second) (0 == asset)),
                (Person b, λ taken asset. promise far_joint (for-three far_channel b second) (0 == asset)),
              ),
              tt,
            ),
          ),
        ),
      );
    };
  };
  of_b = record {
    share_is = refl;
    funded = refl;
    sound = record {
      payers = (refl, (refl, (refl, tt)));
      apart = (tt, (refl, tt));
      guarantors = (tt, ((Person second, λ taken asset. promise far_joint (for-three far_channel b second) (0 == asset)), tt));
    };
  };
  exit_of_a = refl;
  exit_of_second = refl;
}
