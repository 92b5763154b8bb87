-- The words in which faults are printed.
use Rattle.std.specs.Prelude.{ℕ, List, codes}
use Rattle.script_run.specs.declared.fault.LoadFault.{LoadFault}
use Rattle.script_run.specs.declared.fault.LoadFault.TheVariants as faults

-- why a load has no script
abbrev pub fault_words : LoadFault → List ℕ
fault_words faults.NoMemory = codes "out of memory"
fault_words faults.OneName = codes "both people have one name"
