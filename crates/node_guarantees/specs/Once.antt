-- That no index of a key signs twice.
use Rattle.std.specs.Prelude.{◌≡◌, ℕ, List, [], ◌∷◌, ◌++◌, length}
use Rattle.channel_values.specs.Messages.{message_of_state, message_of_challenge}
use Rattle.channel_values.specs.Rules.{Rules}
use Rattle.call_history.specs.declared.event.Deed.{Deed}
use Rattle.call_history.specs.declared.event.Deed.TheVariants as deeds
use Rattle.channel_safety.specs.Journals.{In}
use Rattle.channel_node.specs.Places.{Told}
use Rattle.lms_signatures.specs.Calls.{index_of}

-- A string that was signed, and its signature.
pub record Signature : Type 0 where
  pub message : List ℕ
  pub bytes : List ℕ

-- what an event signs
abbrev pub signed_in : Rules → Deed → List Signature
signed_in r (deeds.Signed channel state signature) = record { message = message_of_state (r.digest channel state); bytes = signature } ∷ []
signed_in r (deeds.SignedChallenge channel state who signature) = record { message = message_of_challenge (r.digest channel state) who; bytes = signature } ∷ []
signed_in r _ = []

-- and what these events sign, in their order
abbrev pub signed_by : Rules → List Told → List Signature
signed_by r [] = []
signed_by r (x ∷ front) = signed_in r x.deed ++ signed_by r front

-- each carries as its index the number of those that were made before it: 0, 1, 2, ..
abbrev pub AreCounted : List Signature → Type 0
AreCounted [] = Unit {0}
AreCounted (x ∷ before) = (index_of x.bytes ≡ length before) × AreCounted before

-- no two messages are signed with one index
abbrev pub NoIndexTwice : List Signature → Type 0
NoIndexTwice made = (x y : Signature) → In x made → In y made → index_of x.bytes ≡ index_of y.bytes → x ≡ y

-- Of the journal's signatures each carries the index that comes next, so no index signs two messages. Events stand
-- newest first.
pub record SignsOnce (r : Rules) (events : List Told) : Type 0 where
  pub counted : AreCounted (signed_by r events)
  pub once : NoIndexTwice (signed_by r events)
