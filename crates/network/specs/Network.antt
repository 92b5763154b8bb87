-- What the laws say of a history and a journal under the network's own rules.
use Rattle.std.specs.Prelude.{ℕ, List}
use Rattle.channel_values.specs.Collisions.{NoneCollide}
use Rattle.call_history.specs.History.{Legal}
use Rattle.call_history.specs.declared.entry.Entry.{Entry}
use Rattle.support_rules.specs.Real.{real}
use Rattle.channel_safety.specs.Journals.{Line}
use Rattle.channel_safety.specs.Hashed.{hashed}
use Rattle.channel_safety.specs.Premises.{Unforged, InTime}
use Rattle.channel_safety.specs.Honest.{Honest}
use Rattle.channel_safety.specs.Safety.{IsSafe}
use Rattle.channel_safety.specs.Steps.{HasStepsAfterLast, FewAreCleared}

-- no outcome becomes final for an honest participant with watchers in time that is older than what it noted or was
-- shown
abbrev pub NetworkOutcomesAreNotOlder : List Entry → List Line → Type 0
NetworkOutcomesAreNotOlder h journal =
    (key : List ℕ) → Legal real h → Honest real key h journal
    → Unforged real key h journal → NoneCollide (hashed h journal) → InTime real h journal → IsSafe real key h journal

-- each step after the last state that an honest participant signed is in each chain that is shown at its turn or later
abbrev pub NetworkChainsHaveTheSteps : List Entry → List Line → Type 0
NetworkChainsHaveTheSteps h journal =
    (key : List ℕ) → Legal real h → Honest real key h journal
    → Unforged real key h journal → NoneCollide (hashed h journal) → HasStepsAfterLast real key h journal

-- of an honest participant's challenges of a channel of n, at most n - 1 are cleared by another entry than a conclude
abbrev pub FewNetworkChallengesAreCleared : List Entry → List Line → Type 0
FewNetworkChallengesAreCleared h journal =
    (key : List ℕ) → Legal real h → Honest real key h journal → Unforged real key h journal
    → NoneCollide (hashed h journal) → FewAreCleared real key h journal
