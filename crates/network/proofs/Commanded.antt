-- Nodes that follow the commands of steps go on to, whatever happens.
use Rattle.std.proofs.Common.{◌≡◌, ℕ, List, [], ◌∷◌, refl, sym, subst, ◌⊎◌, inl, inr}
use Rattle.std.specs.Prelude.{Option, Some, None, slice_get, reverse}
use Rattle.std.specs.List.{find}
use Rattle.std.specs.Option.{option_map}
use Rattle.channel_safety.specs.Journals.{In}
use Rattle.network.specs.Ways.{Ways}
use Rattle.network.specs.declared.command.Command.{Command}
use Rattle.network.specs.declared.lookout.Lookout.{Lookout}
use Rattle.network.specs.Members.{MemberOf, sees, told, handed, acts, looks, looks_with}
use Rattle.network.specs.Worlds.{WorldOf, has_number, replaced, changed, happened}
use Rattle.network.specs.declared.happening.Happening.{Happening}
use Rattle.network.specs.declared.happening.Happening.TheVariants.{Enter, Time, See, Command as Told, Deliver, Tick, Watch}
use Rattle.network.specs.Commanded.{FollowCommands, IsOfStep, AllFollow}
use Rattle.network.proofs.Fronts.{in_found, in_parts}

module _ {P : Type 0} (ways : Ways P) (commands : ℕ → Option Command) (follows : P → Type 0) (kept : FollowCommands ways commands follows) where
  at_found : (w : WorldOf P) (f : MemberOf P → MemberOf P) (number : ℕ) (o : Option (MemberOf P)) → find (has_number ways number) w.members ≡ o
      → ((m : MemberOf P) → follows m.node → follows (f m).node) → AllFollow follows w → AllFollow follows (replaced ways w number (option_map f o))
  at_found w f number None e keeps all = all
  at_found w f number (Some m) e keeps all = λ x i. of x (in_parts (has_number ways number) w.members m (f m) x e i)
    where
      of : (x : MemberOf P) → (x ≡ f m) ⊎ In x w.members → follows x.node
      of x (inl same) = subst (λ (y : MemberOf P). follows y.node) (sym same) (keeps m (all m (in_found (has_number ways number) w.members m e)))
      of x (inr i) = all x i

  at_number : (w : WorldOf P) (f : MemberOf P → MemberOf P) (number : ℕ)
      → ((m : MemberOf P) → follows m.node → follows (f m).node) → AllFollow follows w → AllFollow follows (changed ways number f w)
  at_number w f number keeps all = at_found w f number (find (has_number ways number) w.members) refl keeps all

  looking : (w : WorldOf P) (place : ℕ) (m : MemberOf P) (o : Option Lookout) → follows m.node → follows (looks_with ways (reverse w.history) place m o).node
  looking w place m None f = f
  looking w place m (Some l) f = kept.watched _ place _ m.node f

  pub go_on : (w : WorldOf P) (event : Happening) → IsOfStep commands event → AllFollow follows w → AllFollow follows (happened ways event w)
  go_on w (Enter by call) is all = all
  go_on w (Time to) is all = all
  go_on w (See number) is all = at_number w (sees ways (reverse w.history)) number (λ m f. kept.saw _ m.node f) all
  go_on w (Told number step command) is all = at_number w (told ways step command) number (λ m f. kept.commanded step command m.node is f) all
  go_on w (Deliver number bytes) is all = at_number w (handed ways bytes) number (λ m f. kept.handled bytes m.node f) all
  go_on w (Tick number) is all = at_number w (acts ways) number (λ m f. kept.ticked m.node f) all
  go_on w (Watch number place) is all = at_number w (looks ways (reverse w.history) place) number (λ m f. looking w place m (slice_get m.watchers place) f) all
