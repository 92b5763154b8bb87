-- What a participant holds of a channel ends with an outcome with which the channel could end, by what it signed last.
use Rattle.std.specs.Prelude.{◌≡◌, ◌≢◌, ℕ, ◌<◌, true, List, length, Some}
use Rattle.std.specs.List.{slice_get, AllByRecursion}
use Rattle.channel_values.specs.Parts.{FixedParts, StateParts, IsState}
use Rattle.channel_values.specs.declared.chain.Signed.{Signed}
use Rattle.channel_values.specs.Collisions.{NoneCollide}
use Rattle.channel_values.specs.Rows.{mover, last_of}
use Rattle.channel_values.specs.Rules.{Rules, people, newest, KeepsFinal}
use Rattle.channel_values.specs.Supported.{Rises, AreSteps}
use Rattle.call_history.specs.History.{Legal}
use Rattle.call_history.specs.Marked.{Marked, is_supported}
use Rattle.call_history.specs.declared.entry.Entry.{Entry}
use Rattle.channel_safety.specs.Hashed.{hashed}
use Rattle.channel_safety.specs.Held.{held}
use Rattle.channel_safety.specs.Honest.{Honest}
use Rattle.channel_safety.specs.Journals.{In, Line, made_in, noted_in}
use Rattle.channel_safety.specs.Premises.{Unforged}
use Rattle.channel_safety.specs.Occurring.{NoCollision, AreValid}
use Rattle.channel_safety.specs.Hashing.{Hashes}
use Rattle.share_laws.specs.Places.{channels, last_made, outcomes_of, IsPlace}
use Rattle.share_laws.specs.Finality.{StandsFor, StepsKeepPossible}
use Rattle.support_rules.specs.May.{OneOf}

-- What is held ends with fewer than n steps of others after the state that the participant signed last, in an outcome
-- that stands for one that was possible then.
pub record EndsPossibly (r : Rules) (key me : List ℕ) (f : FixedParts) (last : Signed) (w : Marked) : Type 0 where
  pub at : ℕ
  pub mine : slice_get f.keys at ≡ Some key
  pub valid : IsState last.state
  pub rest : List StateParts
  pub states : AllByRecursion IsState rest
  pub turns : Rises last.state rest
  pub steps : AreSteps r f last.state rest
  pub few : length rest < people f
  pub others : AllByRecursion (λ t. mover (people f) t.turn ≢ at) rest
  pub ends : newest w.states ≡ Some (last_of last.state rest)
  pub possible : OneOf (λ o. StandsFor f me o (last_of last.state rest).outcome) (outcomes_of last.state)

-- each supported chain that is held of a channel at a place
abbrev pub HeldEndsPossibly : Rules → (key me : List ℕ) → List Entry → List Line → Type 0
HeldEndsPossibly r key me past front =
    (f : FixedParts) → In f (channels front) → (w : Marked) → held r f past front ≡ Some w → is_supported r f w ≡ true
    → (last : Signed) × (last_made (r.named f) front ≡ Some last) × EndsPossibly r key me f last w

-- A state that was noted, from a message too, and one that the participant signed are one where their digests are.
abbrev pub NotedTell : Rules → List Line → Type 0
NotedTell r journal =
    (f : FixedParts) (channel : List ℕ) (x y : Line) (s t : Signed)
    → In x journal → noted_in (r.named f) x.deed ≡ Some s → In y journal → made_in channel y.deed ≡ Some t
    → r.digest (r.named f) s.state ≡ r.digest channel t.state → (r.named f ≡ channel) × (s.state ≡ t.state)

abbrev pub HeldChainsEndPossibly : Type 0
HeldChainsEndPossibly =
    (r : Rules) (key me : List ℕ) (h : List Entry) (journal : List Line) → KeepsFinal r → StepsKeepPossible r key me
    → Legal r h
    → Honest r key h journal → Unforged r key h journal → NoCollision r h journal → NotedTell r journal
    → AreValid h journal
    → (past : List Entry) (front : List Line) → IsPlace h journal past front → HeldEndsPossibly r key me past front

-- ---- where names and digests are hashes, and none of the hashed strings collide

abbrev pub HashesTellNoted : Type 0
HashesTellNoted =
    (r : Rules) (h : List Entry) (journal : List Line) → Hashes r → AreValid h journal → NoneCollide (hashed h journal)
    → NotedTell r journal

abbrev pub HashedChainsEndPossibly : Type 0
HashedChainsEndPossibly =
    (r : Rules) (key me : List ℕ) (h : List Entry) (journal : List Line) → KeepsFinal r → StepsKeepPossible r key me
    → Hashes r → Legal r h
    → Honest r key h journal → Unforged r key h journal → NoneCollide (hashed h journal) → AreValid h journal
    → (past : List Entry) (front : List Line) → IsPlace h journal past front → HeldEndsPossibly r key me past front
