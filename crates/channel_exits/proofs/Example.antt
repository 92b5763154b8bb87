-- The example by computing, and its guarantee by cases on the asset.
use Rattle.std.proofs.Common.{Bool, true, false, cond, List, [], ◌∷◌, refl}
use Rattle.std.specs.Prelude.{◌==◌, Some, None}
use Rattle.channel_values.specs.declared.value.Dest.{Dest}
use Rattle.channel_values.specs.declared.value.Dest.TheVariants.{Person, Channel}
use Rattle.channel_values.specs.declared.value.Shape.TheVariants.{Guarantee}
use Rattle.share_laws.specs.Sound.{IsPromise}
use Rattle.share_laws.specs.Example.{a, i, joint, channel}
use Rattle.channel_exits.specs.Example.{ExampleHolds}

promise : (list : List Dest) (t : Bool) → IsPromise joint list (cond t (Some (Guarantee joint list)) None)
promise list true = refl
promise list false = tt

pub example_holds : ExampleHolds
example_holds = record {
  end = refl;
  middle = refl;
  unbacked_share = refl;
  unbacked_sound = record {
    payers = (refl, (refl, (refl, tt)));
    apart = (tt, (refl, tt));
    guarantors = (tt, ((Person i, λ taken asset. promise (Channel channel ∷ Person a ∷ Person i ∷ []) (0 == asset)), tt));
  };
  unbacked_exit = refl;
}
