-- The lines of a message's table that are about its state are those of a store.
use Rattle.std.specs.Prelude.{◌≡◌, ◌==◌, not, Option, Some, None, is_some}
use Rattle.channel_values.specs.declared.chain.Signed.{Signed}
use Rattle.channel_values.specs.Words.{fault_if, ◌⊳◌}
use Rattle.channel_values.specs.Rules.{Rules, is_signed_well}
use Rattle.call_history.specs.declared.event.NodeRefusal.{NodeRefusal}
use Rattle.call_history.specs.declared.event.NodeRefusal.TheVariants.{UnknownChannel, NotNext, BadSignature, NotAStep}
use Rattle.channel_store.specs.Keeping.{is_ended, next_of, step_of}
use Rattle.channel_store.specs.Good.{note_fault}
use Rattle.channel_store.specs.declared.fault.NoteFault.{NoteFault}
use Rattle.channel_store.specs.declared.fault.NoteFault.TheVariants as faults
use Rattle.channel_store.specs.declared.kept.Kept.{Kept}

-- the node's refusal for a fault of a note; running out of memory is none
abbrev pub refusal_for : Option NoteFault → Option NodeRefusal
refusal_for None = None
refusal_for (Some faults.Unknown) = Some UnknownChannel
refusal_for (Some (faults.NotNext wanted)) = Some (NotNext wanted)
refusal_for (Some faults.BadSignature) = Some BadSignature
refusal_for (Some (faults.BadStep fault)) = Some NotAStep
refusal_for (Some faults.NoMemory) = None

-- the lines of a message's table that are a note's
abbrev pub note_lines : Rules → Kept → Signed → Option NodeRefusal
note_lines r k s =
    fault_if (is_ended k) (NotNext 0)
    ⊳ fault_if (not (s.state.turn == next_of k)) (NotNext (next_of k))
    ⊳ fault_if (not (is_signed_well r k.chain.fixed s)) BadSignature
    ⊳ fault_if (is_some (step_of r k s.state)) NotAStep

abbrev pub RefusedAsNoted : Type 0
RefusedAsNoted = (r : Rules) (k : Kept) (s : Signed) → note_lines r k s ≡ refusal_for (note_fault r k s)
