-- What is kept of a participant's own channels.
use Rattle.std.specs.Prelude.{◌≡◌, ℕ, List, Some}
use Rattle.std.specs.List.{AllByRecursion, slice_get}
use Rattle.call_history.specs.Naming.{name_of}
use Rattle.channel_store.specs.declared.kept.Kept.{Kept}

-- a channel is kept by its name, with this key at the participant's position
pub record IsOwned (key : List ℕ) (k : Kept) : Type 0 where
  pub named : name_of k.chain.fixed ≡ k.channel
  pub mine : slice_get k.chain.fixed.keys k.me ≡ Some key

abbrev pub AreOwned : List ℕ → List Kept → Type 0
AreOwned key kept = AllByRecursion (IsOwned key) kept
