-- Every play keeps the world.
use Rattle.std.proofs.Common.{◌≡◌, ℕ, zero, suc, List, [], ◌∷◌, ◌++◌, replicate, append-nil, refl, sym, subst, ◌⊎◌, inl, inr}
use Rattle.std.specs.Prelude.{All, Option}
use Rattle.call_history.specs.declared.entry.Entry.{Entry}
use Rattle.channel_safety.specs.Journals.{In}
use Rattle.network.proofs.Watching.{stands_fresh}
use Rattle.support_rules.specs.Real.{real}
use Rattle.lms_signatures.specs.Signing.{Signing}
use Rattle.network.specs.Ways.{Ways, unlooking}
use Rattle.network.specs.Histories.{IsFresh}
use Rattle.network.specs.declared.command.Command.{Command}
use Rattle.network.specs.declared.lookout.Lookout.{Lookout}
use Rattle.network.specs.Members.{MemberOf}
use Rattle.network.specs.Worlds.{WorldOf, joined}
use Rattle.step_meanings.specs.Commands.{command_of}
use Rattle.script_play.specs.Play.{play}
use Rattle.script_steps.specs.Bounds.{Fits}
use Rattle.script_steps.specs.declared.step.Step.{Step}
use Rattle.network.specs.Commanded.{FollowCommands, AllFollow}
use Rattle.network.specs.Standing.{AreKept, Follows, IsWorld}
use Rattle.network.proofs.Commanded.{go_on}
use Rattle.network.proofs.Standing.{stays, honest}
use Rattle.script_play.proofs.Walked.{IsKept, play_keeps}
use Rattle.script_play.specs.Plays.{PlaysAreKept, PlaysFollowCommands}

-- an element of a list with one more, or of one that repeats
in_more : {A : Type 0} (xs : List A) (y x : A) → In x (xs ++ y ∷ []) → (x ≡ y) ⊎ In x xs
in_more [] y x (inl e) = inl e
in_more [] y x (inr i) = absurd i
in_more (a ∷ xs) y x (inl e) = inr (inl e)
in_more (a ∷ xs) y x (inr i) = later (in_more xs y x i)
  where
    later : (x ≡ y) ⊎ In x xs → (x ≡ y) ⊎ In x (a ∷ xs)
    later (inl e) = inl e
    later (inr j) = inr (inr j)

in_replicate : {A : Type 0} (n : ℕ) (y x : A) → In x (replicate n y) → x ≡ y
in_replicate zero y x i = absurd i
in_replicate (suc n) y x (inl e) = e
in_replicate (suc n) y x (inr i) = in_replicate n y x i

module _ {P : Type 0} (ways : Ways P) (stands : List Entry → P → Type 0) (kept : AreKept ways stands) where
  abbrev World : WorldOf P → Type 0
  World w = IsWorld stands w

  -- a node that joins
  joined_kept : (number : ℕ) (signer : Signing) (watchers : ℕ) (w : WorldOf P) → IsFresh signer → World w → World (joined ways number signer watchers w)
  joined_kept number signer watchers w unused is =
      record {
        legal = is.legal;
        nodes = λ m i. node_of m (in_more w.members _ m i);
        watchers = λ m i. watchers_of m (in_more w.members _ m i);
      }
    where
      new : MemberOf P
      new = record { node = ways.fresh number signer; watchers = replicate watchers unlooking }

      follows : Follows w.history unlooking
      follows = record { later = w.history; past = []; is = sym (append-nil w.history); count = refl; stands = stands_fresh real }

      node_of : (m : MemberOf P) → (m ≡ new) ⊎ In m w.members → stands w.history m.node
      node_of m (inl same) = subst (λ (y : MemberOf P). stands w.history y.node) (sym same) (kept.fresh w.history number signer unused)
      node_of m (inr i) = is.nodes m i

      watchers_of : (m : MemberOf P) → (m ≡ new) ⊎ In m w.members → (l : Lookout) → In l m.watchers → Follows w.history l
      watchers_of m (inl same) =
          subst (λ (y : MemberOf P). (l : Lookout) → In l y.watchers → Follows w.history l) (sym same)
          (λ l i. subst (Follows w.history) (sym (in_replicate watchers unlooking l i)) follows)
      watchers_of m (inr i) = is.watchers m i

  pub plays_are_kept : PlaysAreKept ways stands
  plays_are_kept = record { worlds = worlds; honest = λ steps fit. honest ways stands kept (play ways steps).world (worlds steps fit) }
    where
      worlds : (steps : List Step) → All Fits steps → World (play ways steps).world
      worlds steps fit =
          play_keeps ways World steps
          (record { new = record { legal = tt; nodes = λ m i. absurd i; watchers = λ m i. absurd i }; happens = λ w event of. stays ways stands kept w event; joins = joined_kept }) fit

-- whatever happens, each node follows the commands
pub commands_kept : {P : Type 0} (ways : Ways P) (commands : ℕ → Option Command) (follows : P → Type 0) → FollowCommands ways commands follows
    → IsKept ways commands (AllFollow follows)
commands_kept {P} ways commands follows kept = record {
  new = λ m i. absurd i;
  happens = go_on ways commands follows kept;
  joins = λ number signer watchers w fresh all m i. of number signer watchers m w.members (all m) (in_more w.members _ m i);
}
  where
    of : (number : ℕ) (signer : Signing) (watchers : ℕ) (m : MemberOf P) (members : List (MemberOf P)) → (In m members → follows m.node)
        → (m ≡ record { node = ways.fresh number signer; watchers = replicate watchers unlooking }) ⊎ In m members → follows m.node
    of number signer watchers m members all (inl same) = subst (λ (y : MemberOf P). follows y.node) (sym same) (kept.fresh number signer)
    of number signer watchers m members all (inr i) = all i

-- and so in a play
pub plays_follow_commands : {P : Type 0} (ways : Ways P) (follows : (ℕ → Option Command) → P → Type 0)
    → ((commands : ℕ → Option Command) → FollowCommands ways commands (follows commands)) → PlaysFollowCommands ways follows
plays_follow_commands ways follows kept steps fit =
    play_keeps ways (AllFollow (follows (command_of steps))) steps (commands_kept ways (command_of steps) (follows (command_of steps)) (kept (command_of steps))) fit
