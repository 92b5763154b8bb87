-- Why a file isn't served.
use Rattle.std.proofs.Common.{◌≢◌, ℕ, List, refl}
use Rattle.lasting_lines.specs.Endings.{FailsBy, FullIn, ForeignIn}
use Rattle.lasting_lines.specs.declared.outside.Fault.{Fault}
use Rattle.lasting_lines.specs.declared.outside.Fault.TheVariants as faults
use Rattle.lasting_ledger.specs.Ledgers.{line_ways, unplayed, Foreign}

-- no line is foreign to a ledger
pub full : (file : List ℕ) (fault : Fault) → FailsBy (ForeignIn line_ways Foreign unplayed file) (FullIn line_ways unplayed file) fault
    → fault ≢ faults.NoMemory → FullIn line_ways unplayed file
full file faults.NoMemory why other = absurd (other refl)
full file faults.Foreign why other = absurd why.3.foreign
full file faults.Full why other = why
full file faults.Input why other = absurd why
full file faults.Failed why other = absurd why
