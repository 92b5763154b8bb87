-- What the laws say of a history and a journal under any rules that keep final states.
use Rattle.std.specs.Prelude.{ℕ, List}
use Rattle.channel_values.specs.Rules.{Rules, KeepsFinal}
use Rattle.call_history.specs.History.{Legal}
use Rattle.call_history.specs.declared.entry.Entry.{Entry}
use Rattle.channel_safety.specs.Journals.{Line}
use Rattle.channel_safety.specs.Premises.{Unforged, InTime}
use Rattle.channel_safety.specs.Occurring.{NoCollision}
use Rattle.channel_safety.specs.Honest.{Honest}
use Rattle.channel_safety.specs.Safety.{IsSafe}
use Rattle.channel_safety.specs.Steps.{HasStepsAfterLast, FewAreCleared}

abbrev pub AnyOutcomesAreNotOlder : List Entry → List Line → Type 0
AnyOutcomesAreNotOlder h journal =
    (r : Rules) (key : List ℕ) → KeepsFinal r → Legal r h → Honest r key h journal → Unforged r key h journal
    → NoCollision r h journal → InTime r h journal → IsSafe r key h journal

abbrev pub AnyChainsHaveTheSteps : List Entry → List Line → Type 0
AnyChainsHaveTheSteps h journal =
    (r : Rules) (key : List ℕ) → KeepsFinal r → Legal r h → Honest r key h journal → Unforged r key h journal
    → NoCollision r h journal → HasStepsAfterLast r key h journal

abbrev pub FewOfAnyChallengesAreCleared : List Entry → List Line → Type 0
FewOfAnyChallengesAreCleared h journal =
    (r : Rules) (key : List ℕ) → KeepsFinal r → Legal r h → Honest r key h journal → Unforged r key h journal
    → NoCollision r h journal → FewAreCleared r key h journal
