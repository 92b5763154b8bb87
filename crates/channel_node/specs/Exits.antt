-- A node signs states until it leaves, and challenges from then on.
use Rattle.std.specs.Prelude.{◌≡◌, ℕ, Bool, true, false, List, Option, Some, None}
use Rattle.std.specs.List.{list_any}
use Rattle.channel_values.specs.Parts.{StateParts}
use Rattle.call_history.specs.declared.event.Deed.{Deed}
use Rattle.call_history.specs.declared.event.Deed.TheVariants as deeds
use Rattle.network.specs.declared.command.Command.{Command}
use Rattle.network.specs.declared.command.Command.TheVariants.{Exit}
use Rattle.channel_node.specs.Places.{Told}

-- an exit that was accepted
abbrev pub is_exit : Deed → Option Command → Bool
is_exit (deeds.Commanded step None) (Some Exit) = true
is_exit _ command = false

-- in the journal of a node no state is signed after an exit that was accepted, and no challenge where none was
pub record LeavesForGood (x : Told) (front : List Told) : Type 0 where
  pub states : (channel : List ℕ) (state : StateParts) (signature : List ℕ) → x.deed ≡ deeds.Signed channel state signature
      → list_any (λ y. is_exit y.deed y.command) front ≡ false
  pub challenges : (channel : List ℕ) (state : StateParts) (who : ℕ) (signature : List ℕ)
      → x.deed ≡ deeds.SignedChallenge channel state who signature → list_any (λ y. is_exit y.deed y.command) front ≡ true
