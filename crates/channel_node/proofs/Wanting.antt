-- What the rules give is wanted.
use Rattle.std.proofs.Common.{◌≡◌, ℕ, List, sym}
use Rattle.std.specs.Prelude.{Option, Some, None, IfSome}
use Rattle.channel_values.specs.Parts.{StateParts}
use Rattle.channel_values.specs.Rules.{Rules}
use Rattle.network.specs.declared.command.Command.{Command}
use Rattle.channel_node.specs.Tables.{Tables}
use Rattle.channel_node.specs.Leaving.{OwnChallenge, challenge_in}
use Rattle.channel_node.specs.Minds.{Mind}
use Rattle.channel_node.specs.Refusing.{signs_in}
use Rattle.channel_node.specs.Answers.{IsWanted}

pub wanted_so : (t : Tables) (r : Rules) (waits : Option Command) (m : Mind) (channel : List ℕ) (state : Option StateParts) → state ≡ signs_in t r waits m channel
    → IfSome state (λ s. IsWanted t r m channel s)
wanted_so t r waits m channel None e = tt
wanted_so t r waits m channel (Some s) e = record { waits = waits; is = sym e }

pub own_so : (m : Mind) (channel : List ℕ) (own : Option OwnChallenge) → own ≡ challenge_in m channel → IfSome own (λ c. challenge_in m channel ≡ Some c)
own_so m channel None e = tt
own_so m channel (Some c) e = sym e
