-- The numbers of statuses.
use Rattle.std.specs.Prelude.{ℕ}
use Rattle.lasting_node.specs.declared.status.Status.{Status}
use Rattle.lasting_node.specs.declared.status.Status.TheVariants.{InputEnded, OutOfMemory, Usage, InputFailed, OutputFailed, InUse, Damaged, Foreign, Behind, Entries}

abbrev pub code_of : Status → ℕ
code_of InputEnded = 0
code_of OutOfMemory = 1
code_of Usage = 2
code_of InputFailed = 4
code_of OutputFailed = 5
code_of InUse = 8
code_of Damaged = 9
code_of Foreign = 10
code_of Behind = 11
code_of Entries = 12
