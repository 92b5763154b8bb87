-- The laws where names and digests are hashes, and the premise on collisions is on the strings that are hashed.
use Rattle.std.specs.Prelude.{◌≡◌, ℕ, List}
use Rattle.channel_values.specs.Parts.{FixedParts, StateParts}
use Rattle.channel_values.specs.Spelling.{fixed, state, outcome}
use Rattle.channel_values.specs.declared.value.AssetOutcome.{AssetOutcome}
use Rattle.channel_values.specs.Collisions.{NoneCollide}
use Rattle.channel_values.specs.Digests.{name_of_channel, digest_of_state, digest_of_outcome}
use Rattle.channel_values.specs.Rules.{Rules, KeepsFinal}
use Rattle.call_history.specs.History.{Legal}
use Rattle.call_history.specs.declared.entry.Entry.{Entry}
use Rattle.channel_safety.specs.Journals.{Line}
use Rattle.channel_safety.specs.Hashed.{hashed}
use Rattle.channel_safety.specs.Premises.{Unforged, InTime}
use Rattle.channel_safety.specs.Occurring.{NoCollision, AreValid}
use Rattle.channel_safety.specs.Honest.{Honest}
use Rattle.channel_safety.specs.Safety.{IsSafe}
use Rattle.channel_safety.specs.Steps.{HasStepsAfterLast, FewAreCleared}

-- The rules name channels by the SHA-256 of their fixed parts; the digest of a state is that of its channel and itself,
-- and that of an outcome its own.
pub record Hashes (r : Rules) : Type 0 where
  pub named : (f : FixedParts) → r.named f ≡ name_of_channel (fixed f)
  pub digest : (channel : List ℕ) (s : StateParts) → r.digest channel s ≡ digest_of_state channel (state s)
  pub outcome_digest : (o : List AssetOutcome) → r.outcome_digest o ≡ digest_of_outcome (outcome o)

-- where none of the hashed strings collide, names determine fixed parts, and digests determine states and outcomes
abbrev pub StringsTell : Type 0
StringsTell =
    (r : Rules) (h : List Entry) (journal : List Line) → Hashes r → AreValid h journal → NoneCollide (hashed h journal)
    → NoCollision r h journal

abbrev pub HashedOutcomesAreNotOlder : Type 0
HashedOutcomesAreNotOlder =
    (r : Rules) (key : List ℕ) (h : List Entry) (journal : List Line) → KeepsFinal r → Hashes r → Legal r h
    → Honest r key h journal → Unforged r key h journal → NoneCollide (hashed h journal) → AreValid h journal
    → InTime r h journal → IsSafe r key h journal

abbrev pub HashedChainsHaveTheSteps : Type 0
HashedChainsHaveTheSteps =
    (r : Rules) (key : List ℕ) (h : List Entry) (journal : List Line) → KeepsFinal r → Hashes r → Legal r h
    → Honest r key h journal → Unforged r key h journal → NoneCollide (hashed h journal)
    → AreValid h journal → HasStepsAfterLast r key h journal

abbrev pub FewHashedChallengesAreCleared : Type 0
FewHashedChallengesAreCleared =
    (r : Rules) (key : List ℕ) (h : List Entry) (journal : List Line) → KeepsFinal r → Hashes r → Legal r h
    → Honest r key h journal → Unforged r key h journal → NoneCollide (hashed h journal)
    → AreValid h journal → FewAreCleared r key h journal
