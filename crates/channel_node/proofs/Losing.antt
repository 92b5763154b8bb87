-- A node that lost its memory within a command stands.
use Rattle.std.proofs.Common.{◌≡◌, ℕ, true, false, List, inl, inr, sym, ◌∙◌, ap, subst, reverse}
use Rattle.channel_values.specs.Rules.{Rules}
use Rattle.call_history.specs.History.{Legal}
use Rattle.call_history.specs.declared.entry.Entry.{Entry}
use Rattle.call_history.specs.declared.event.Event.{Event}
use Rattle.channel_node.specs.Nodes.{NodeOf, asked}
use Rattle.channel_node.specs.Standing.{Stands}
use Rattle.channel_node.specs.Places.{told}
use Rattle.channel_node.specs.Playing.{Signing, Plays}
use Rattle.channel_node.specs.Tables.{Tables}
use Rattle.channel_node.specs.Refusing.{command_refusal}
use Rattle.network.specs.declared.command.Command.{Command}
use Rattle.channel_node.proofs.Keepers.{waiting, asks, loses}
use Rattle.channel_node.specs.Answers.{IsPartly}

pub loses-partly : (t : Tables) (r : Rules) (s : Signing) (h : List Entry) (n mid new : NodeOf) (step : ℕ) (command : Command) → Legal r h → new.is_lost ≡ true → new.journal ≡ mid.journal → new.commands ≡ mid.commands
    → IsPartly t r s step command n mid → n.is_lost ≡ false → Stands t r s h n → Stands t r s h new
loses-partly t r s h n mid new step command legal lost journal commands (inl same) kept st = loses t r s h n new lost (journal ∙ same.journal) (commands ∙ same.commands) st
loses-partly t r s h n mid new step command legal lost journal commands (inr same) kept st =
    record {
      plays = subst (Plays t r s h)
          (sym (ap (λ (j : List Event). told (reverse j) (reverse new.commands)) (journal ∙ same.journal)
          ∙ ap (λ (k : List Command). told (reverse (asked r s step command (command_refusal t r s.limit n.used n.mind command) n).journal) (reverse k)) (commands ∙ same.commands)))
          (asks t r s h legal n step command (waiting t r s h legal n kept st)).plays;
      knows = λ alive. absurd cc;
    }
