-- The words in which faults are told.
use Rattle.std.specs.Prelude.{ℕ, List, codes}
use Rattle.hop_script.specs.declared.fault.HopFault.{HopFault}
use Rattle.hop_script.specs.declared.fault.HopFault.TheVariants as faults

-- why a hop has no script
abbrev pub fault_words : HopFault → List ℕ
fault_words faults.NoMemory = codes "out of memory"
fault_words faults.OneName = codes "two people or two channels have one name"
