-- What the limits give of all steps that were read, whatever stood before each, and the signers that they declare.
use Rattle.std.specs.Prelude.{◌≡◌, ℕ, true, ◌<◌, ◌≤◌, ◌^◌, ◌==◌, ◌||◌, IsTrue, List, length, sum_by}
use Rattle.std.specs.List.{filter_map}
use Rattle.lms_signatures.specs.Signing.{Signing}
use Rattle.script_steps.specs.Conditions.{signer_of}
use Rattle.script_steps.specs.declared.step.Step.{Step}
use Rattle.script_steps.specs.declared.step.Step.TheVariants as steps

-- each value is within its limit
abbrev pub Fits : Step → Type 0
Fits (steps.Deposit k) = k.asset < 2 ^ 32
Fits (steps.Person k) = IsTrue (k.h == 5 || k.h == 10) × (k.watchers ≤ 4) × (k.node ≡ true → 1 ≤ k.watchers)
Fits (steps.Channel k) = k.duration < 2 ^ 32
Fits (steps.Sign k) = k.votes ≤ 3
Fits (steps.Challenge k) = length k.chain ≤ 4
Fits (steps.Checkpoint channel chain) = length chain ≤ 4
Fits (steps.Conclude channel chain) = length chain ≤ 4
Fits (steps.Transfer k) = (k.asset < 2 ^ 32) × (k.index < 2 ^ 8)
Fits (steps.Claim k) = (k.asset < 2 ^ 32) × (k.position < 2 ^ 8)
Fits (steps.OpenOn k) = k.asset < 2 ^ 32
Fits (steps.OpenVirtual k) = k.asset < 2 ^ 32
Fits (steps.Pay k) = k.asset < 2 ^ 32
Fits step = Unit {0}

abbrev pub persons : Step → ℕ
persons (steps.Person k) = 1
persons step = 0

-- how many people are declared
abbrev pub persons_of : List Step → ℕ
persons_of steps = sum_by persons steps

abbrev pub rounds : Step → ℕ
rounds (steps.Rounds count) = count
rounds step = 0

-- how many rounds are asked for in all
abbrev pub rounds_of : List Step → ℕ
rounds_of steps = sum_by rounds steps

-- the signers of the people, in the order of their steps
abbrev pub signers_of : List Step → List Signing
signers_of steps = filter_map signer_of steps
