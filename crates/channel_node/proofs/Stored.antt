-- The lines of a message's table that are about its state, and the faults of a note.
use Rattle.std.proofs.Common.{◌≡◌, ◌==◌, Bool, true, false, not, Some, None, refl}
use Rattle.std.specs.Prelude.{Option, is_some}
use Rattle.std.specs.Option.{option_map}
use Rattle.channel_values.specs.declared.fault.StepFault.{StepFault}
use Rattle.channel_values.specs.Words.{fault_if, ◌⊳◌}
use Rattle.channel_values.specs.Rules.{is_signed_well}
use Rattle.call_history.specs.declared.event.NodeRefusal.TheVariants.{NotNext, BadSignature, NotAStep}
use Rattle.channel_store.specs.Keeping.{is_ended, next_of, step_of}
use Rattle.channel_store.specs.declared.fault.NoteFault.TheVariants as faults
use Rattle.channel_node.specs.Stored.{refusal_for, RefusedAsNoted}

pub refused_as_noted : RefusedAsNoted
refused_as_noted r k s = first (is_ended k)
  where
    step : (o : Option StepFault) → fault_if (is_some o) NotAStep ≡ refusal_for (option_map faults.BadStep o)
    step None = refl
    step (Some fault) = refl

    third : (b : Bool) → (fault_if b BadSignature ⊳ fault_if (is_some (step_of r k s.state)) NotAStep) ≡ refusal_for (fault_if b faults.BadSignature ⊳ option_map faults.BadStep (step_of r k s.state))
    third true = refl
    third false = step (step_of r k s.state)

    second : (b : Bool) → (fault_if b (NotNext (next_of k)) ⊳ fault_if (not (is_signed_well r k.chain.fixed s)) BadSignature ⊳ fault_if (is_some (step_of r k s.state)) NotAStep)
        ≡ refusal_for (fault_if b (faults.NotNext (next_of k)) ⊳ fault_if (not (is_signed_well r k.chain.fixed s)) faults.BadSignature ⊳ option_map faults.BadStep (step_of r k s.state))
    second true = refl
    second false = third (not (is_signed_well r k.chain.fixed s))

    first : (b : Bool)
        → (fault_if b (NotNext 0) ⊳ fault_if (not (s.state.turn == next_of k)) (NotNext (next_of k)) ⊳ fault_if (not (is_signed_well r k.chain.fixed s)) BadSignature ⊳ fault_if (is_some (step_of r k s.state)) NotAStep)
        ≡ refusal_for (fault_if b (faults.NotNext 0) ⊳ fault_if (not (s.state.turn == next_of k)) (faults.NotNext (next_of k)) ⊳ fault_if (not (is_signed_well r k.chain.fixed s)) faults.BadSignature ⊳ option_map faults.BadStep (step_of r k s.state))
    first true = refl
    first false = second (not (s.state.turn == next_of k))
