-- What a node let go of stays so for good, and at each tick the node calls for what is due to it there.
use Rattle.std.specs.Prelude.{◌≡◌, ℕ, true, false, List, Option, Some, None}
use Rattle.channel_values.specs.declared.value.AssetOutcome.{AssetOutcome}
use Rattle.call_history.specs.Mode.{is_final}
use Rattle.call_history.specs.declared.entry.Entry.{Entry}
use Rattle.call_history.specs.declared.event.Deed.{Deed}
use Rattle.channel_safety.specs.Journals.{In}
use Rattle.funding_plans.specs.declared.plan.Part.TheVariants.{Root}
use Rattle.ledger_channel.specs.Roots.{Direct, is_due_in}
use Rattle.network.specs.declared.command.Command.{Command}
use Rattle.network.specs.declared.command.Command.TheVariants as commands
use Rattle.network.specs.declared.command.Release.{Release}
use Rattle.channel_node.specs.Giving.{tick_gives}
use Rattle.channel_node.specs.Minds.{Mind, facts_of, saw, commanded, did}
use Rattle.channel_node.specs.Nodes.{NodeOf}
use Rattle.channel_node.specs.Playing.{Signing}
use Rattle.channel_node.specs.Refusing.{command_refusal}
use Rattle.further_laws.specs.LetGo.{IsLetGo, own_transfer}
use Rattle.stage_tables.specs.Stages.{stages}
use Rattle.support_rules.specs.Real.{real}

-- a root of the node's plan, of which it let go
pub record HasLetGo (name : List ℕ) (m : Mind) : Type 0 where
  pub there : In (Root name) m.parts
  pub root : Direct
  pub is : IsLetGo (facts_of m) name root

-- by Release, where that isn't refused
abbrev pub ReleasesLetGo : Type 0
ReleasesLetGo =
    (limit used : ℕ) (m : Mind) (how : Release) (channel : List ℕ)
    → command_refusal stages real limit used m (commands.Release how channel) ≡ None
    → HasLetGo channel (commanded real (commands.Release how channel) m)

-- whatever happens at the node later, an event or an entry, it stays so
pub record StaysLetGo (name : List ℕ) (m : Mind) : Type 0 where
  pub events : (deed : Deed) (command : Option Command) → HasLetGo name (did real deed command m)
  pub entries : (e : Entry) → HasLetGo name (saw real e m)

abbrev pub LetGoStays : Type 0
LetGoStays = (name : List ℕ) (m : Mind) → HasLetGo name m → StaysLetGo name m

-- Once the channel is final, a node that didn't leave gives its own transfers at each tick. They are of each asset of
-- which something is due to it there, by what it knows of the channel.
abbrev pub TicksCallForIt : Type 0
TicksCallForIt =
    (s : Signing) (n : NodeOf) (name : List ℕ) (h : HasLetGo name n.mind) (settled rest : List AssetOutcome)
    (o : AssetOutcome) → n.mind.left ≡ false → is_final h.root.standing ≡ true → h.root.settled ≡ Some settled
    → h.root.rest ≡ Some rest → In o rest → is_due_in h.root rest o ≡ true
    → In (own_transfer h.root settled rest o) (tick_gives stages real s n).calls
