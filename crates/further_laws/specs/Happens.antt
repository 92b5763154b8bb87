-- Each step of a script that was read happens. None is passed over for a name that stands for nothing, a state that
-- isn't valid or a key that is spent. A state that a step was to catch of a node may be missing, where the node
-- didn't sign it.
use Rattle.std.specs.Prelude.{false, true, Bool, ℕ, List, ◌∷◌, ◌++◌, IsSome, ⊤, ◌≡◌}
use Rattle.std.specs.List.{list_any}
use Rattle.std.specs.Str.{bytes_eq}
use Rattle.channel_values.specs.Outcomes.{AreBytes, IsOutcome}
use Rattle.channel_values.specs.Spelling.{outcome}
use Rattle.network.specs.Ways.{Ways}
use Rattle.script_reader.specs.step.Step.{Step}
use Rattle.script_reader.specs.step.Step.TheVariants as steps
use Rattle.step_meanings.specs.Chains.{state_by}
use Rattle.step_meanings.specs.Meanings.{meant, message_by}
use Rattle.script_play.specs.Play.{play}
use Rattle.step_meanings.specs.declared.names.Names.{Names}

-- the step catches a state of a node, for this name
abbrev pub catches : List ℕ → Step → Bool
catches name (steps.Catch k) = bytes_eq k.name name
catches name step = false

-- the name stands for a state, if one of the steps before was to catch it
abbrev pub IsCaught : Names → List Step → List ℕ → Type 0
IsCaught n before name = list_any (catches name) before ≡ true → IsSome (state_by n.states name)

-- what the step names of the states that steps before it were to catch was caught, and is short enough for a message
-- that it sends
abbrev pub HasCaught : Names → List Step → Step → Type 0
HasCaught n before (steps.Send to state) = list_any (catches state) before ≡ true → IsSome (message_by n.states state)
HasCaught n before (steps.Respond k) = IsCaught n before k.from × IsCaught n before k.state
HasCaught n before (steps.Refute channel next) = IsCaught n before next
HasCaught n before (steps.Transfer k) = IsCaught n before k.state
HasCaught n before (steps.Claim k) = IsCaught n before k.state × IsCaught n before k.target_state
HasCaught n before step = ⊤

-- each of the steps means something, by what names stand for in the play of the steps before it
abbrev pub EachHappens : {P : Type 0} → Ways P → List Step → Type 0
EachHappens ways ss =
    (before later : List Step) (step : Step) → ss ≡ before ++ step ∷ later → HasCaught (play ways before).names before step
    → IsSome (meant (play ways before).names step)

-- a step's outcomes are outcomes, and what is voted on is spelled in bytes, as the types of its fields promise
abbrev pub HasOutcomes : Step → Type 0
HasOutcomes (steps.Sign k) = IsOutcome k.outcome × IsOutcome k.proposal × AreBytes (outcome k.proposal)
HasOutcomes step = ⊤
