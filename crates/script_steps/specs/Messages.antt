-- The words in which broken rules are told.
use Rattle.std.specs.Prelude.{ℕ, List, codes}
use Rattle.script_steps.specs.declared.step.Rule.{Rule}
use Rattle.script_steps.specs.declared.step.Rule.TheVariants as rules

-- a rule that is broken
abbrev pub rule_words : Rule → List ℕ
rule_words rules.NotJson = codes "not a JSON text"
rule_words rules.Shape = codes "an unknown word, or keys or values of another kind"
rule_words rules.Name = codes "a name that is taken, or isn't declared as what its key needs"
rule_words rules.Limit = codes "a value beyond its limit"
rule_words rules.NotInRace = codes "a step that a race doesn't have"
