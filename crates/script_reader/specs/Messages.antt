-- The words in which faults are told.
use Rattle.std.specs.Prelude.{ℕ, zero, suc, List, ◌++◌, codes}
use Rattle.std.specs.Fmt.{decimal}
use Rattle.script_reader.specs.declared.script.ScriptFault.{ScriptFault}
use Rattle.script_reader.specs.declared.script.ScriptFault.TheVariants as faults
use Rattle.script_steps.specs.Messages.{rule_words}

-- why a script is refused
abbrev pub fault_words : ScriptFault → List ℕ
fault_words faults.NoMemory = codes "out of memory"
fault_words (faults.Broken zero rule) = codes "the script: " ++ rule_words rule
fault_words (faults.Broken (suc step) rule) = codes "step " ++ decimal (suc step) ++ codes ": " ++ rule_words rule
