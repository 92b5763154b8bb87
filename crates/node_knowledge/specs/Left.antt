-- What is challenged with in a channel, by what the rules read.
use Rattle.std.specs.Prelude.{ℕ, ◌&&◌, List, Option, Some, None, if◌then◌else◌}
use Rattle.channel_values.specs.Rules.{newest}
use Rattle.channel_store.specs.Keeping.{is_held}
use Rattle.channel_store.specs.declared.kept.Kept.{Kept}
use Rattle.funding_plans.specs.Known.{FactsOf}
use Rattle.channel_node.specs.Leaving.{OwnChallenge, challenge_with}
use Rattle.channel_node.specs.Refusing.{is_open, stands_in}

abbrev pub challenge_on : FactsOf → List ℕ → Option Kept → Option OwnChallenge
challenge_on f channel None = None
challenge_on f channel (Some k) = if is_held k && is_open (stands_in f channel) then challenge_with k (newest k.chain.states) else None
