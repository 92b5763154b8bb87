-- Which values occur in a history and a journal: that names and digests determine them, and that they are valid.
use Rattle.std.specs.Prelude.{◌≡◌, ℕ, List, Some, ◌⊎◌}
use Rattle.channel_values.specs.Parts.{FixedParts, StateParts, IsFixed, IsState}
use Rattle.channel_values.specs.Outcomes.{IsName, IsOutcome}
use Rattle.channel_values.specs.declared.chain.Signed.{Signed}
use Rattle.channel_values.specs.declared.value.AssetOutcome.{AssetOutcome}
use Rattle.channel_values.specs.Rules.{Rules}
use Rattle.call_history.specs.Rows.{fixed_of}
use Rattle.call_history.specs.declared.entry.Entry.{Entry}
use Rattle.channel_safety.specs.Journals.{In, Line, opened, noted_in}
use Rattle.channel_safety.specs.Strings.{states_in, outcomes_in, signed_of}

-- a fixed part of a call, or one that a line of the journal opened
abbrev pub OccursFixed : List Entry → List Line → FixedParts → Type 0
OccursFixed h journal f =
    ((e : Entry) × (In e h) × (fixed_of e.op ≡ Some f)) ⊎ ((x : Line) × (In x journal) × (In f (opened x)))

-- a state of a channel in a call, or one that a line of the journal signed, itself or in a challenge
pub data OccursState (r : Rules) (h : List Entry) (journal : List Line) (channel : List ℕ) (s : StateParts)
    : Type 0 where
  in_call : (e : Entry) (f : FixedParts) → In e h → fixed_of e.op ≡ Some f → r.named f ≡ channel
      → In s (states_in e.op) → OccursState r h journal channel s
  in_line : (x : Line) → In x journal → signed_of x.deed ≡ Some (channel, s) → OccursState r h journal channel s

-- an outcome of an op: of one of its states, or one that a transfer or a claim gives
abbrev pub OccursOutcome : List Entry → List AssetOutcome → Type 0
OccursOutcome h o = (e : Entry) × (In e h) × (In o (outcomes_in e.op))

-- A name determines its fixed part, the digest of a state its channel and the state, and that of an outcome the
-- outcome.
pub record NoCollision (r : Rules) (h : List Entry) (journal : List Line) : Type 0 where
  pub names : (f g : FixedParts) → OccursFixed h journal f → OccursFixed h journal g → r.named f ≡ r.named g → f ≡ g
  pub states :
      (c d : List ℕ) (s t : StateParts) → OccursState r h journal c s → OccursState r h journal d t
      → r.digest c s ≡ r.digest d t → (c ≡ d) × (s ≡ t)
  pub outcomes :
      (o p : List AssetOutcome) → OccursOutcome h o → OccursOutcome h p
      → r.outcome_digest o ≡ r.outcome_digest p → o ≡ p

pub record AreValid (h : List Entry) (journal : List Line) : Type 0 where
  pub fixed : (f : FixedParts) → OccursFixed h journal f → IsFixed f
  pub states : (e : Entry) (s : StateParts) → In e h → In s (states_in e.op) → IsState s
  pub outcomes : (o : List AssetOutcome) → OccursOutcome h o → IsOutcome o
  pub signed : (x : Line) (channel : List ℕ) (s : StateParts) → In x journal → signed_of x.deed ≡ Some (channel, s)
      → IsName channel × IsState s
  pub noted : (x : Line) (channel : List ℕ) (s : Signed) → In x journal → noted_in channel x.deed ≡ Some s
      → IsState s.state
