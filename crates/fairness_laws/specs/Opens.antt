-- What a node signs and takes in the first round of a root repeats the outcome with which it was opened.
use Rattle.std.specs.Prelude.{◌≡◌, true, List, Some}
use Rattle.channel_values.specs.Parts.{FixedParts}
use Rattle.channel_values.specs.declared.value.AssetOutcome.{AssetOutcome}
use Rattle.call_history.specs.History.{Legal}
use Rattle.call_history.specs.declared.entry.Entry.{Entry}
use Rattle.channel_safety.specs.Journals.{In, is_followed}
use Rattle.network.specs.declared.command.Command.{Command}
use Rattle.network.specs.declared.command.Command.TheVariants.{Open}
use Rattle.support_rules.specs.Real.{real}
use Rattle.channel_node.specs.Places.{Told, lines_of}
use Rattle.channel_node.specs.Playing.{Signing, Plays}
use Rattle.fairness_laws.specs.Table.{stages}
use Rattle.fairness_laws.specs.Carried.{OpensWith}

-- the command stands in the journal and wasn't refused
pub record Took (command : Command) (journal : List Told) : Type 0 where
  pub event : Told
  pub there : In event journal
  pub followed : is_followed event.deed ≡ true
  pub is : event.command ≡ Some command

abbrev pub RootsOpenWith : Type 0
RootsOpenWith =
    (s : Signing) (h : List Entry) (journal : List Told) → Legal real h → Plays stages real s h journal
    → (f : FixedParts) (outcome : List AssetOutcome) → Took (Open f outcome) journal → OpensWith f outcome (lines_of s.key journal)
