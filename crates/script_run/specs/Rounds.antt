-- A world of two nodes, and what a round makes of it.
use Rattle.std.specs.Prelude.{◌≡◌, ◌≤◌, ℕ, false, List, [], ◌∷◌, ◌++◌, length, drop, fold, None, if◌then◌else◌}
use Rattle.std.specs.Str.{bytes_eq}
use Rattle.call_history.specs.declared.call.Call.{Call}
use Rattle.call_history.specs.declared.call.Op.TheVariants as ops
use Rattle.call_history.specs.declared.entry.Entry.{Entry}
use Rattle.call_history.specs.declared.held_chain.HeldChain.{HeldChain}
use Rattle.channel_values.specs.Digests.{name_of_person}
use Rattle.network.specs.Watching.{is_stale}
use Rattle.network.specs.declared.command.Command.{Command}
use Rattle.network.specs.declared.lookout.Lookout.{Lookout}
use Rattle.network.specs.Entered.{entered, oldest_first}
use Rattle.network.specs.Members.{MemberOf, up_to_date}
use Rattle.network.specs.Worlds.{WorldOf}
use Rattle.channel_node.specs.Giving.{after_tick, tick_gives}
use Rattle.channel_node.specs.Minds.{Mind, saw}
use Rattle.channel_node.specs.Nodes.{NodeOf, handled}
use Rattle.channel_node.specs.Playing.{SignerOf, signing_of}
use Rattle.stage_tables.specs.Stages.{stages}
use Rattle.network.specs.Ways.{Ways}
use Rattle.node_guarantees.specs.Ways.{Numbered}
use Rattle.node_guarantees.specs.Ways as network
use Rattle.script_play.specs.Rounds.{Letter, round}
use Rattle.step_meanings.specs.People.{has_node}
use Rattle.step_meanings.specs.declared.people.Person.{Person}
use Rattle.support_rules.specs.Real.{real}
use Rattle.script_run.specs.Pair.{node, Becomes, Past}

-- the ways that these laws are about: those of the network's node
abbrev pub ways : Ways Numbered
ways = network.ways

-- ---- two nodes, with their watchers

abbrev pub member : ℕ → NodeOf → List Lookout → MemberOf Numbered
member number n eyes = record { node = record { number = number; node = n; exits = None }; watchers = eyes }

abbrev pub world : List Entry → NodeOf → List Lookout → NodeOf → List Lookout → WorldOf Numbered
world h a eyes_a b eyes_b = record { history = h; members = member 1 a eyes_a ∷ member 2 b eyes_b ∷ []; is_lost = false }

-- the watcher followed no more than there is, and when it has followed that, no chain is below a challenge
pub record IsCalm (h : List Entry) (eye : Lookout) : Type 0 where
  pub within : eye.seen ≤ length h
  pub calm : (held : HeldChain) → is_stale (up_to_date ways (oldest_first h) eye).watcher held ≡ false

-- each of the watchers
abbrev pub AreCalm : List Entry → List Lookout → Type 0
AreCalm h [] = Unit {0}
AreCalm h (eye ∷ eyes) = IsCalm h eye × AreCalm h eyes

-- what the two know, and how often they signed
pub record Pairing : Type 0 where
  pub signer_a : SignerOf
  pub signer_b : SignerOf
  pub mind_a : Mind
  pub mind_b : Mind
  pub used_a : ℕ
  pub used_b : ℕ

pub record Is (h : List Entry) (s : Pairing) (w : WorldOf Numbered) : Type 0 where
  pub a : NodeOf
  pub b : NodeOf
  pub eye_a : List Lookout
  pub eye_b : List Lookout
  pub is : w ≡ world h a eye_a b eye_b
  pub knows_a : Becomes s.signer_a s.mind_a s.used_a a
  pub knows_b : Becomes s.signer_b s.mind_b s.used_b b
  pub calm_a : AreCalm h eye_a
  pub calm_b : AreCalm h eye_b

-- ---- what one of them does in a round

abbrev pub enter_all : ℕ → List Entry → List Call → List Entry
enter_all by h [] = h
enter_all by h (call ∷ calls) = enter_all by (entered h by (ops.Call call)) calls

-- the messages for this person are handled
abbrev pub hand : List ℕ → List Letter → NodeOf → NodeOf
hand who [] n = n
hand who (letter ∷ post) n = hand who post (if bytes_eq letter.0 who then handled stages real letter.1 n else n)

-- It follows the entries, handles what came for it, and in its tick sends and calls this.
pub record Does (signer : SignerOf) (who : List ℕ) (h : List Entry) (post : List Letter) (m : Mind) (used : ℕ) (after : Mind) (used_after : ℕ) (sends : List Letter) (calls : List Call) : Type 0 where
  pub seen : Mind
  pub sees : fold (λ x e. saw real e x) m (drop m.view.count (oldest_first h)) ≡ seen
  pub taken : Mind
  pub takes : (journal : Past) (commands : List Command) → Becomes signer taken used (hand who post (node signer seen used journal commands))
  pub becomes : (journal : Past) (commands : List Command) → Becomes signer after used_after (after_tick stages real (signing_of signer) (node signer taken used journal commands))
  pub gives :
      (journal : Past) (commands : List Command)
      → tick_gives stages real (signing_of signer) (node signer taken used journal commands) ≡ record { sends = sends; calls = calls; spent = None }

-- ---- a round

-- histories in which nothing was challenged
abbrev pub StaysCalm : List Entry → List Entry → Type 0
StaysCalm h later = (eye : Lookout) → IsCalm h eye → IsCalm later eye

-- people without nodes
abbrev pub AreBare : List Person → Type 0
AreBare [] = Unit {0}
AreBare (p ∷ people) = (has_node p ≡ false) × AreBare people

abbrev pub RoundsAreMade : Type 0
RoundsAreMade =
    (first second : Person) (others : List Person) (key_a key_b : List ℕ) (h : List Entry) (post : List Letter) (s : Pairing) (w : WorldOf Numbered)
    → first.number ≡ 1 → second.number ≡ 2 → first.hand ≡ None → second.hand ≡ None → first.key ≡ key_a → second.key ≡ key_b → AreBare others
    → Is h s w
    → (mind_a mind_b : Mind) (used_a used_b : ℕ) (sends_a sends_b : List Letter) (calls_a calls_b : List Call)
    → Does s.signer_a (name_of_person key_a) h post s.mind_a s.used_a mind_a used_a sends_a calls_a
    → Does s.signer_b (name_of_person key_b) (enter_all 1 h calls_a) post s.mind_b s.used_b mind_b used_b sends_b calls_b
    → StaysCalm h (enter_all 2 (enter_all 1 h calls_a) calls_b)
    → (x : WorldOf Numbered)
    × (round ways (first ∷ second ∷ others) (record { world = w; post = post }) ≡ record { world = x; post = sends_a ++ sends_b })
    × Is (enter_all 2 (enter_all 1 h calls_a) calls_b) (record s { mind_a = mind_a; mind_b = mind_b; used_a = used_a; used_b = used_b }) x
