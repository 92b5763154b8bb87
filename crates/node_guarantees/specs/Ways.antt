-- The ways of a node with the network's own rules and tables, and what it keeps.
use Rattle.std.specs.Prelude.{ℕ, Bool, List, Option, None, if◌then◌else◌}
use Rattle.std.specs.List.{flat_map}
use Rattle.call_history.specs.Reading.{message_of}
use Rattle.channel_store.specs.Keeping.{held_chain}
use Rattle.network.specs.Ways.{Ways}
use Rattle.channel_node.specs.Giving.{after_tick, tick_gives, command_answers}
use Rattle.channel_node.specs.Nodes.{NodeOf, new_node, told_of, handled, told_to, saw_all, watched}
use Rattle.channel_node.specs.Refusing.{message_refusal}
use Rattle.channel_node.specs.Places.{lines_of}
use Rattle.channel_node.specs.Playing.{SignerOf, signing_of}
use Rattle.stage_tables.specs.Stages.{stages}
use Rattle.lms_signatures.specs.Made.{made_key}
use Rattle.lms_signatures.specs.Signing.{Signing}
use Rattle.support_rules.specs.Real.{real}
use Rattle.channel_node.specs.Exiting.{leaves}
use Rattle.node_guarantees.specs.Gains.{shares_known, or_now}

-- A node and its number; and, once it was commanded to exit, what its person could get just after that.
pub record Numbered : Type 0 where
  pub number : ℕ
  pub node : NodeOf
  pub exits : Option (List (ℕ × ℕ))

-- what a signer is made of, however often it has signed
abbrev pub made_of : Signing → SignerOf
made_of s = record { seed = s.seed; id = s.id; h = s.h }

abbrev pub key_of : SignerOf → List ℕ
key_of s = made_key s.seed s.id s.h

-- how many entries it has followed; where memory failed it, none
abbrev pub seen_of : NodeOf → ℕ
seen_of n = if n.is_lost then 0 else n.mind.view.count

-- where memory failed it, it does nothing
abbrev pub unless_lost : (NodeOf → NodeOf) → Numbered → Numbered
unless_lost change p = if p.node.is_lost then p else record p { node = change p.node }

-- what its person can get is noted after the first command to exit
abbrev pub noting_exit : Numbered → Numbered
noting_exit p = record p { exits = or_now p.exits (shares_known p.node.mind) }

abbrev pub noting_if : Bool → Numbered → Numbered
noting_if left p = if left then noting_exit p else p

abbrev pub ways : Ways Numbered
ways =
    record {
      fresh = λ number signer. record { number = number; node = new_node (made_of signer); exits = None };
      number = λ p. p.number;
      key = λ p. key_of p.node.signer;
      seen = λ p. seen_of p.node;
      journal = λ p. p.node.journal;
      lines = λ p. lines_of (key_of p.node.signer) (told_of p.node);
      chains = λ p. flat_map held_chain p.node.mind.kept;
      saw = λ entries. unless_lost (saw_all real entries);
      commanded = λ step command p. noting_if (leaves command) (unless_lost (λ n. told_to stages real (signing_of n.signer) step command n) p);
      answers = λ command p. command_answers stages real (signing_of p.node.signer) 0 command p.node;
      handled = λ bytes. unless_lost (handled stages real bytes);
      refuses = λ bytes p. message_refusal stages real p.node.mind (message_of bytes);
      ticked = unless_lost (λ n. after_tick stages real (signing_of n.signer) n);
      gives = λ p. tick_gives stages real (signing_of p.node.signer) p.node;
      watched = λ seen place calls. unless_lost (watched seen place calls);
    }
