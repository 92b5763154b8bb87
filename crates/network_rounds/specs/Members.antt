-- What a node and its watchers do in a round, by the rules of the node. Histories are in the order of time here.
use Rattle.std.specs.Prelude.{◌≡◌, ℕ, suc, ◌≤◌, ◌<◌, ◌^◌, List, [], ◌∷◌, ◌++◌, length, fold, slice_get, if◌then◌else◌}
use Rattle.std.specs.Str.{bytes_eq}
use Rattle.channel_values.specs.Digests.{name_of_person}
use Rattle.call_history.specs.declared.entry.Entry.{Entry}
use Rattle.shared_object.specs.Caller.{Caller}
use Rattle.shared_object.specs.History.{StartsWith}
use Rattle.channel_safety.specs.Journals.{In}
use Rattle.network.specs.Ways.{Ways}
use Rattle.network.specs.declared.lookout.Lookout.{Lookout}
use Rattle.network.specs.declared.outs.Outs.{Outs}
use Rattle.network.specs.Members.{MemberOf, sees, handed, acts, looks, calls_if}
use Rattle.network_rounds.specs.Working.{Given, given_at, Works}

-- a message, with the person that it is for
abbrev pub Letter : Type 0
Letter = List ℕ × List ℕ

-- a caller saw these entries between these two
pub record Saw (seen : List Entry) (c d : Caller Entry) : Type 0 where
  pub since : StartsWith seen c.seen
  pub until : StartsWith d.seen seen

-- what was seen rises, from these entries on, through each of these, to those
abbrev pub Rises : List Entry → List (List Entry) → List Entry → Type 0
Rises h [] later = StartsWith later h
Rises h (seen ∷ rest) later = StartsWith seen h × Rises seen rest later

module _ {P : Type 0} (ways : Ways P) where
  -- ---- a node acts

  -- a message is handed to it, if it is for this person
  abbrev pub heard : List ℕ → MemberOf P → Letter → MemberOf P
  heard who m letter = if bytes_eq letter.0 who then handed ways letter.1 m else m

  -- the person of its key
  abbrev pub person : MemberOf P → List ℕ
  person m = name_of_person (ways.key m.node)

  -- it follows what was seen, and handles the messages that came for it
  abbrev pub ready : List Letter → List Entry → MemberOf P → MemberOf P
  ready post seen m = fold (heard (person m)) (sees ways seen m) post

  -- and acts
  abbrev pub acted : List Letter → List Entry → MemberOf P → MemberOf P
  acted post seen m = acts ways (ready post seen m)

  -- what it gives then
  abbrev pub outs : List Letter → List Entry → MemberOf P → Outs
  outs post seen m = ways.gives (ready post seen m).node

  abbrev pub tick_gave : List Letter → List Entry → MemberOf P → List Given
  tick_gave post seen m = given_at (ways.number (acted post seen m).node) (length seen) (outs post seen m).calls

  -- ---- its watchers look, one after another, each at what it looked up itself

  abbrev pub looked_all : ℕ → List (List Entry) → MemberOf P → MemberOf P
  looked_all place [] m = m
  looked_all place (seen ∷ rest) m = looked_all (suc place) rest (looks ways seen place m)

  -- the calls of one look
  abbrev pub look_gave : ℕ → List Entry → MemberOf P → List Given
  look_gave place seen m =
      given_at (ways.number (looks ways seen place m).node) (length seen) (calls_if ways seen m (slice_get m.watchers place))

  abbrev pub looks_gave : ℕ → List (List Entry) → MemberOf P → List Given
  looks_gave place [] m = []
  looks_gave place (seen ∷ rest) m = look_gave place seen m ++ looks_gave (suc place) rest (looks ways seen place m)

  -- the watcher at a place looks, and its calls are entered
  pub record LooksOnce (place : ℕ) (m m' : MemberOf P) (c d : Caller Entry) : Type 0 where
    pub seen : List Entry
    pub saw : Saw seen c d
    pub is : m' ≡ looks ways seen place m
    pub works : Works (look_gave place seen m) c d

-- ---- before that

-- what these watchers have followed has been seen
abbrev pub HaveFollowed : List Entry → List Lookout → Type 0
HaveFollowed seen watchers = (l : Lookout) → In l watchers → l.seen ≤ length seen

-- what a node and its watchers have followed has been seen, and their places have numbers of 32 bits
pub record HasFollowed {P : Type 0} (ways : Ways P) (seen : List Entry) (m : MemberOf P) : Type 0 where
  pub node : ways.seen m.node ≤ length seen
  pub watchers : HaveFollowed seen m.watchers
  pub few : length m.watchers < 2 ^ 32
