-- The example by computing, and its guarantees by cases on the asset.
use Rattle.std.proofs.Common.{Bool, true, false, cond, List, [], ◌∷◌, refl}
use Rattle.std.specs.Prelude.{◌==◌, Some, None}
use Rattle.channel_values.specs.declared.value.Dest.{Dest}
use Rattle.channel_values.specs.declared.value.Dest.TheVariants.{Person, Channel}
use Rattle.channel_values.specs.declared.value.Shape.TheVariants.{Guarantee}
use Rattle.share_laws.specs.Sound.{IsPromise}
use Rattle.share_laws.specs.Example.{a, i, b, joint, channel, ExampleHolds}

promise : (list : List Dest) (t : Bool) → IsPromise joint list (cond t (Some (Guarantee joint list)) None)
promise list true = refl
promise list false = tt

pub example_holds : ExampleHolds
example_holds = record {
  of_a = record {
    share_is = refl;
    funded = refl;
    sound = record {
      payers = (refl, (refl, (refl, tt)));
      apart = (tt, (refl, tt));
      guarantors = (tt, ((Person i, λ taken asset. promise (Channel channel ∷ Person a ∷ Person i ∷ []) (0 == asset)), tt));
    };
  };
  of_i = record {
    share_is = refl;
    funded = refl;
    sound = record {
      payers = (refl, (refl, (refl, tt)));
      apart = (tt, (tt, (refl, tt)));
      guarantors = (
        tt,
        (
          tt,
          (
            (
              (Person a, λ taken asset. promise (Channel channel ∷ Person a ∷ Person i ∷ []) (0 == asset)),
              (Person b, λ taken asset. promise (Channel channel ∷ Person b ∷ Person i ∷ []) (0 == asset)),
            ),
            tt,
          ),
        ),
      );
    };
  };
  of_b = record {
    share_is = refl;
    funded = refl;
    sound = record {
      payers = (refl, (refl, (refl, tt)));
      apart = (tt, (refl, tt));
      guarantors = (tt, ((Person i, λ taken asset. promise (Channel channel ∷ Person b ∷ Person i ∷ []) (0 == asset)), tt));
    };
  };
}
