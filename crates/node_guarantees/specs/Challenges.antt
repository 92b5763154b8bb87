-- That a person calls no challenge but one that it signed right before, as itself.
use Rattle.std.specs.Prelude.{◌≡◌, ℕ, List, [], ◌∷◌, Some, slice_get}
use Rattle.channel_values.specs.Parts.{StateParts}
use Rattle.channel_values.specs.Rules.{newest}
use Rattle.call_history.specs.declared.call.Call.{Call}
use Rattle.call_history.specs.declared.call.Call.TheVariants.{Challenge}
use Rattle.call_history.specs.declared.call.ChallengeCall.{ChallengeCall}
use Rattle.call_history.specs.declared.event.Deed.{Deed}
use Rattle.call_history.specs.declared.event.Deed.TheVariants as deeds
use Rattle.channel_safety.specs.Journals.{In}
use Rattle.channel_node.specs.Places.{Told}
use Rattle.support_rules.specs.Real.{real}

-- A challenge that was signed: how many entries had been seen, its channel, its state and its challenger, and the
-- signature.
pub record MadeChallenge : Type 0 where
  pub seen : ℕ
  pub channel : List ℕ
  pub state : StateParts
  pub who : ℕ
  pub signature : List ℕ

abbrev pub made_then : (seen : ℕ) → Deed → (before : List MadeChallenge) → List MadeChallenge
made_then seen (deeds.SignedChallenge channel state who signature) before =
    record { seen = seen; channel = channel; state = state; who = who; signature = signature } ∷ before
made_then seen (deeds.Called call) before = before
made_then seen _ before = []

-- the challenges that the newest of these events signed, with nothing but calls and challenges since
abbrev pub just_made : List Told → List MadeChallenge
just_made [] = []
just_made (x ∷ front) = made_then x.seen x.deed (just_made front)

module _ (key : List ℕ) where
  -- One of these was made, when so many entries had been seen, for the newest state of the chain in its own channel.
  -- It was made at the key's place there, with the signature of the call.
  pub record IsMadeBy (made : List MadeChallenge) (seen : ℕ) (k : ChallengeCall) : Type 0 where
    pub it : MadeChallenge
    pub there : In it made
    pub then : it.seen ≡ seen
    pub channel : it.channel ≡ real.named k.chain.fixed
    pub state : newest k.chain.states ≡ Some it.state
    pub challenger : it.who ≡ k.challenger
    pub mine : slice_get k.chain.fixed.keys k.challenger ≡ Some key
    pub signed : it.signature ≡ k.signature

  abbrev pub IsOwnCall : (made : List MadeChallenge) → (seen : ℕ) → Call → Type 0
  IsOwnCall made seen (Challenge k) = IsMadeBy made seen k
  IsOwnCall made seen _ = Unit {0}

  abbrev pub IsOwnDeed : (made : List MadeChallenge) → (seen : ℕ) → Deed → Type 0
  IsOwnDeed made seen (deeds.Called call) = IsOwnCall made seen call
  IsOwnDeed made seen _ = Unit {0}

  -- Each challenge that the person with this key calls was signed right before, with nothing but calls and other
  -- challenges between, as itself. Events stand newest first.
  abbrev pub CallsOwnChallenges : List Told → Type 0
  CallsOwnChallenges [] = Unit {0}
  CallsOwnChallenges (x ∷ front) = IsOwnDeed (just_made front) x.seen x.deed × CallsOwnChallenges front
