-- A direct payment channel of two people, and what one of them knows of it.
use Rattle.std.specs.Prelude.{◌≡◌, ℕ, ◌+◌, ◌&&◌, Bool, true, false, List, [], ◌∷◌, Option, Some}
use Rattle.channel_values.specs.Parts.{StateParts, state_with}
use Rattle.channel_values.specs.declared.chain.Chain.{Chain}
use Rattle.channel_values.specs.declared.chain.Mark.{Mark}
use Rattle.channel_values.specs.declared.value.AssetOutcome.{AssetOutcome}
use Rattle.channel_values.specs.declared.value.Dest.TheVariants.{Person}
use Rattle.channel_values.specs.declared.value.Item.{Item}
use Rattle.channel_values.specs.declared.value.Shape.TheVariants.{Allocation}
use Rattle.channel_values.specs.Digests.{name_of_person}
use Rattle.channel_values.specs.Rules.{Rules}
use Rattle.call_history.specs.declared.view.WorldView.{WorldView}
use Rattle.channel_store.specs.declared.kept.Kept.{Kept}
use Rattle.funding_plans.specs.declared.plan.Goal.{Goal}
use Rattle.funding_plans.specs.declared.plan.Part.TheVariants.{Root}
use Rattle.history_view.specs.Views.{unknown}
use Rattle.network.specs.declared.command.Command.{Command}
use Rattle.call_history.specs.declared.event.Deed.{Deed}
use Rattle.call_history.specs.declared.event.Deed.TheVariants as deeds
use Rattle.call_history.specs.declared.event.Event.{Event}
use Rattle.channel_node.specs.Nodes.{NodeOf}
use Rattle.channel_node.specs.Playing.{SignerOf}
use Rattle.channel_node.specs.Minds.{Mind}
use Rattle.script_run.specs.TwoPeople.{Pair, fixed, name}

abbrev pub item : List ℕ → ℕ → Item
item key amount = record { to = Person (name_of_person key); amount = amount }

-- so much for each
abbrev pub split : Pair → (x y : ℕ) → List AssetOutcome
split p x y = record { asset = p.asset; shape = Allocation (item p.key_a x ∷ item p.key_b y ∷ []) } ∷ []

abbrev pub state : Pair → ℕ → Bool → (x y : ℕ) → StateParts
state p turn is_final x y = state_with turn is_final (split p x y) []

-- ---- what each signed

abbrev pub mark : ℕ → List ℕ → Mark
mark place signature = record { place = place; signature = signature }

-- the first signed the later of two states, or the second did
abbrev pub marks_a : (a b : List ℕ) → List Mark
marks_a a b = mark 1 a ∷ mark 0 b ∷ []

abbrev pub marks_b : (a b : List ℕ) → List Mark
marks_b a b = mark 0 a ∷ mark 1 b ∷ []

abbrev pub chain : Pair → List StateParts → List Mark → Chain
chain p states marks = record { fixed = fixed p; states = states; marks = marks }

-- ---- what one of them knows

abbrev pub kept : Rules → Pair → ℕ → List StateParts → List Mark → Option StateParts → Kept
kept r p me states marks last = record { channel = name r p; me = me; chain = chain p states marks; last = last }

abbrev pub goal : Pair → Bool → Goal
goal p closing = record { part = 0; opening = split p p.a p.b; amounts = (0, 0); closing = closing; over = false }

-- the first or the second of the two, with this key
abbrev pub mind : Rules → Pair → ℕ → List ℕ → Bool → WorldView → List StateParts → List Mark → Option StateParts → Mind
mind r p me key closing view states marks last =
    record {
      key = key;
      parts = Root (name r p) ∷ [];
      goals = goal p closing ∷ [];
      view = view;
      kept = kept r p me states marks last ∷ [];
      left = false;
    }

-- no command was refused
abbrev pub is_taken : Deed → Bool
is_taken (deeds.Commanded step (Some refusal)) = false
is_taken _ = true

abbrev pub are_taken : List Event → Bool
are_taken [] = true
are_taken (x ∷ events) = is_taken x.deed && are_taken events

-- events in which no command was refused
pub record Past : Type 0 where
  pub events : List Event
  pub taken : are_taken events ≡ true

abbrev pub node : SignerOf → Mind → ℕ → Past → List Command → NodeOf
node signer m used journal commands = record { mind = m; signer = signer; used = used; journal = journal.events; commands = commands; has_exited = false; is_lost = false }

-- it is a node that knows this, signed so often and refused no command, whatever else its journal has
pub record Becomes (signer : SignerOf) (m : Mind) (used : ℕ) (n : NodeOf) : Type 0 where
  pub journal : Past
  pub commands : List Command
  pub is : n ≡ node signer m used journal commands

-- while nothing was concluded, of these deposits
abbrev pub seeing : Rules → Pair → (count held : ℕ) → WorldView
seeing r p count held = record { now = 0; count = count; channels = record (unknown (name r p)) { held = (p.asset, held) ∷ [] } ∷ []; paid = [] }

abbrev pub funded : Rules → Pair → WorldView
funded r p = seeing r p 2 (p.a + p.b)
