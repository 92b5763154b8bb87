-- A node's journal can have events of each kind that its stages and its watcher lead to.
use Rattle.std.specs.Prelude.{◌≡◌, ℕ, false, List, [], ◌∷◌, Option, Some, None}
use Rattle.channel_values.specs.Parts.{FixedParts, IsFixed}
use Rattle.channel_values.specs.declared.chain.Chain.{Chain}
use Rattle.channel_values.specs.declared.chain.Signed.{Signed}
use Rattle.channel_values.specs.declared.value.AssetOutcome.{AssetOutcome}
use Rattle.channel_values.specs.Rules.{Rules}
use Rattle.call_history.specs.History.{Legal}
use Rattle.call_history.specs.declared.call.Call.TheVariants.{Checkpoint}
use Rattle.call_history.specs.declared.entry.Entry.{Entry}
use Rattle.call_history.specs.declared.event.Deed.{Deed}
use Rattle.call_history.specs.declared.event.Deed.TheVariants as deeds
use Rattle.network.specs.declared.command.Command.{Command}
use Rattle.network.specs.declared.command.Command.TheVariants.{Open}
use Rattle.channel_node.specs.Nodes.{NodeOf, told_of}
use Rattle.channel_node.specs.Standing.{Stands}
use Rattle.channel_node.specs.Places.{Told}
use Rattle.channel_node.specs.Playing.{Signing, SignsWell}
use Rattle.stage_tables.specs.Stages.{stages}

abbrev pub event : ℕ → Deed → Option Command → Told
event seen deed command = record { seen = seen; deed = deed; command = command }

abbrev pub signing_event : List ℕ → Signed → Told
signing_event channel s = event 0 (deeds.Signed channel s.state s.signature) None

-- Rules, a signer, a legal history, and a node of the real stages that stands for it and kept its memory. Its
-- journal, the newest event first: a look that had seen an entry and gives a checkpoint, a signed state, and a
-- message that was taken. Then a signed state, and a command to open that wasn't refused.
pub record StandsWithJournal : Type 0 where
  pub rules : Rules
  pub signing : Signing
  pub history : List Entry
  pub node : NodeOf
  pub signs_well : SignsWell rules signing
  pub legal : Legal rules history
  pub stands : Stands stages rules signing history node
  pub remembers : node.is_lost ≡ false
  pub fixed : FixedParts
  pub valid : IsFixed fixed
  pub outcome : List AssetOutcome
  pub first : Signed
  pub bytes : List ℕ
  pub second : Signed
  pub chain : Chain
  pub journal :
      told_of node
      ≡ event 1 (deeds.Watched 0 (Checkpoint chain ∷ [])) None
      ∷ signing_event (rules.named fixed) second
      ∷ event 0 (deeds.Handled bytes None) None
      ∷ signing_event (rules.named fixed) first
      ∷ event 0 (deeds.Commanded 0 None) (Some (Open fixed outcome)) ∷ []
