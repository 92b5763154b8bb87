-- What a store answers.
use Rattle.std.specs.Prelude.{◌≡◌, ℕ, Bool, true, false, List, Option, Some, None, Result, Ok, Err}
use Rattle.channel_values.specs.declared.chain.Signed.{Signed}
use Rattle.channel_values.specs.declared.fault.NoMemory.{NoMemory}
use Rattle.channel_values.specs.Rules.{Rules}
use Rattle.call_history.specs.Marked.{Marked, marked_of, is_newer}
use Rattle.channel_store.specs.Good.{note_fault}
use Rattle.channel_store.specs.declared.fault.NoteFault.{NoteFault}
use Rattle.channel_store.specs.declared.fault.NoteFault.TheVariants as faults
use Rattle.channel_store.specs.declared.kept.Kept.{Kept}
use Rattle.channel_store.specs.Storing.{kept_of}

abbrev pub refusal_at : Rules → Signed → Option Kept → Option NoteFault
refusal_at r next None = Some faults.Unknown
refusal_at r next (Some k) = note_fault r k next

-- why a state of a channel isn't noted
abbrev pub refusal_of : Rules → List ℕ → Signed → List Kept → Option NoteFault
refusal_of r channel next kept = refusal_at r next (kept_of channel kept)

-- the fault of a call: why it does nothing, or that memory ran out for what it would do
abbrev pub fault_of : Option NoteFault → NoteFault
fault_of None = faults.NoMemory
fault_of (Some fault) = fault

-- the call did what was wanted, or answered that fault and changed nothing
abbrev pub Notes : {A : Type 0} → Result A NoteFault → Option NoteFault → List Kept → List Kept → List Kept → Type 0
Notes (Ok done) refusal wanted old new = (refusal ≡ None) × (new ≡ wanted)
Notes (Err fault) refusal wanted old new = (fault ≡ fault_of refusal) × (new ≡ old)

abbrev pub is_newer_at : Rules → Marked → Option Kept → Bool
is_newer_at r shown None = false
is_newer_at r shown (Some k) = is_newer r k.chain.fixed shown (marked_of k.chain)

-- a chain that was shown of a channel is adopted
abbrev pub is_adopted : Rules → List ℕ → Marked → List Kept → Bool
is_adopted r channel shown kept = is_newer_at r shown (kept_of channel kept)

-- the call did what was wanted, and says whether the chain is adopted; memory is wanted only for a chain to be adopted
abbrev pub Adopts : Result Bool NoMemory → Bool → List Kept → List Kept → List Kept → Type 0
Adopts (Ok done) is_wanted wanted old new = (done ≡ is_wanted) × (new ≡ wanted)
Adopts (Err e) is_wanted wanted old new = (is_wanted ≡ true) × (new ≡ old)
