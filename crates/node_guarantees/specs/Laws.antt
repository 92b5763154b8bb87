-- What is said of any journal by the rules, and of the people of any world, whatever happens.
use Rattle.std.specs.Prelude.{◌≡◌, ℕ, Bool, false, List}
use Rattle.std.specs.List.{AllByRecursion}
use Rattle.call_history.specs.declared.entry.Entry.{Entry}
use Rattle.channel_safety.specs.Journals.{In}
use Rattle.channel_safety.specs.Valid.{IsValidEntry}
use Rattle.network.specs.Ways.{Ways}
use Rattle.network.specs.Members.{MemberOf}
use Rattle.network.specs.Worlds.{WorldOf, happened, given}
use Rattle.network.specs.declared.happening.Happening.{Happening}
use Rattle.channel_node.specs.Places.{Told}
use Rattle.support_rules.specs.Real.{real}
use Rattle.network.specs.Safe.{after}
use Rattle.network.specs.Standing.{IsWorld}
use Rattle.node_guarantees.specs.Challenges.{CallsOwnChallenges}
use Rattle.node_guarantees.specs.Once.{Signature, signed_by, SignsOnce}
use Rattle.node_guarantees.specs.Promised.{IsByRules, IsHonest}
use Rattle.node_guarantees.specs.Sends.{IsSigned, HasSigned}
use Rattle.node_guarantees.specs.Telling.{KeepsIf}

-- in no journal by the rules an index of the key signs twice
abbrev pub NoIndexSignsTwice : Type 0
NoIndexSignsTwice = (h : List Entry) (key : List ℕ) (events : List Told) → IsByRules h key events → SignsOnce real events

-- after any happenings, in any order, each person with a node keeps its share, is paid on its exit, signs fairly and
-- ends well, where its premises hold
abbrev pub NobodyLowersAShare : {P : Type 0} → Ways P → (stands : List Entry → P → Type 0) → (told : P → List Told) → Type 0
NobodyLowersAShare {P} ways stands told =
    (events : List Happening) (w : WorldOf P) → IsWorld stands w → (m : MemberOf P) → In m (after ways events w).members
    → KeepsIf (after ways events w).history (ways.key m.node) (told m.node)

-- and its journal is honest, by the rules, and signs with no index twice
abbrev pub EveryJournalIsHonest : {P : Type 0} → Ways P → (stands : List Entry → P → Type 0) → (told : P → List Told) → Type 0
EveryJournalIsHonest {P} ways stands told =
    (events : List Happening) (w : WorldOf P) → IsWorld stands w → AllByRecursion IsValidEntry (after ways events w).history
    → (m : MemberOf P) → In m (after ways events w).members → IsHonest (after ways events w).history (ways.key m.node) (told m.node)

-- and, unless memory failed its node, it called no challenge but one that it signed right before, as itself
abbrev pub EveryChallengeIsOwn : {P : Type 0} → Ways P → (stands : List Entry → P → Type 0) → (lost : P → Bool)
    → (told : P → List Told) → Type 0
EveryChallengeIsOwn {P} ways stands lost told =
    (events : List Happening) (w : WorldOf P) → IsWorld stands w
    → (m : MemberOf P) → In m (after ways events w).members → lost m.node ≡ false
    → CallsOwnChallenges (ways.key m.node) (told m.node)

-- ---- what is sent

module _ {P : Type 0} (ways : Ways P) (told : P → List Told) where
  -- a message spells a state that somebody's journal signed in this world
  pub record IsSignedIn (w : WorldOf P) (bytes : List ℕ) : Type 0 where
    pub who : MemberOf P
    pub there : In who w.members
    pub signed : IsSigned (signed_by real (told who.node)) bytes

  -- the journal of this key has signed this in this world
  pub record IsSignedBy (key : List ℕ) (made : Signature) (w : WorldOf P) : Type 0 where
    pub who : MemberOf P
    pub there : In who w.members
    pub signed : HasSigned ways told key made who.node

  -- of what happens, each message that is sent for it spells a state that somebody's journal has signed then, where
  -- memory failed no node
  abbrev pub EveryMessageIsSigned : (lost : P → Bool) → Type 0
  EveryMessageIsSigned lost =
      (event : Happening) (w : WorldOf P) → ((m : MemberOf P) → In m w.members → lost m.node ≡ false)
      → (letter : List ℕ × List ℕ) → In letter (given ways event w).sends → IsSignedIn (happened ways event w) letter.1

  -- and whatever happens, what the journal of a key signed it has signed after that
  abbrev pub EverySignatureStays : Type 0
  EverySignatureStays =
      (events : List Happening) (w : WorldOf P) (m : MemberOf P) → In m w.members
      → (made : Signature) → In made (signed_by real (told m.node)) → IsSignedBy (ways.key m.node) made (after ways events w)
