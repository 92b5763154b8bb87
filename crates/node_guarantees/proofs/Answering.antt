-- What an accepted command answers.
use Rattle.std.proofs.Common.{◌≡◌, List, [], sym, ◌∙◌, ap, refl}
use Rattle.std.specs.Prelude.{ℕ, Option, Some, None, Ok}
use Rattle.channel_values.specs.Parts.{StateParts}
use Rattle.call_history.specs.declared.event.NodeRefusal.{NodeRefusal}
use Rattle.network.specs.declared.command.Command.{Command}
use Rattle.network.specs.declared.command.Command.TheVariants.{Open, OpenOn, OpenVirtual, Pay, Close, Release, Resend, Exit}
use Rattle.channel_node.proofs.Resending.{resent-asked}
use Rattle.channel_node.specs.Giving.{sent_if, command_sends, command_gives, command_answers}
use Rattle.channel_node.specs.Nodes.{NodeOf, asked}
use Rattle.channel_node.specs.Playing.{Signing}
use Rattle.channel_node.specs.Refusing.{command_refusal, signs_in}
use Rattle.channel_node.specs.Tables.{Tables}
use Rattle.channel_values.specs.Rules.{Rules}

-- the step stands in no answer
paid-so : (t : Tables) (r : Rules) (s : Signing) (step : ℕ) (command : Command) (n : NodeOf)
    → command_sends t r s command (asked r s step command None n) ≡ command_sends t r s command (asked r s 0 command None n)
paid-so t r s step (Open f outcome) n = refl
paid-so t r s step (OpenOn o) n = refl
paid-so t r s step (OpenVirtual v) n = refl
paid-so t r s step (Pay channel asset amount) n = go (signs_in t r (Some (Pay channel asset amount)) n.mind channel)
  where
    go : (o : Option StateParts) → sent_if r s channel o (asked r s step (Pay channel asset amount) None n) ≡ sent_if r s channel o (asked r s 0 (Pay channel asset amount) None n)
    go None = refl
    go (Some state) = refl
paid-so t r s step (Close channel) n = refl
paid-so t r s step (Release how channel) n = refl
paid-so t r s step (Resend channel) n = resent-asked r s step channel n ∙ sym (resent-asked r s 0 channel n)
paid-so t r s step Exit n = refl

pub answers-so : (t : Tables) (r : Rules) (s : Signing) (step : ℕ) (command : Command) (n : NodeOf) → command_answers t r s step command n ≡ command_answers t r s 0 command n
answers-so t r s step command n = go (command_refusal t r s.limit n.used n.mind command)
  where
    go : (refusal : Option NodeRefusal) → command_gives t r s step command n refusal ≡ command_gives t r s 0 command n refusal
    go (Some refusal) = refl
    go None = ap (λ (sends : List (List ℕ × List ℕ)). Ok (record { sends = sends; calls = []; spent = None })) (paid-so t r s step command n)
