-- When a state follows from another.
use Rattle.std.specs.Prelude.{ℕ, ◌*◌, Bool, not, ◌&&◌, ◌||◌, List, length, map, Option, nat_lt, if◌then◌else◌}
use Rattle.std.specs.Str.{bytes_eq}
use Rattle.channel_values.specs.Parts.{FixedParts, StateParts}
use Rattle.channel_values.specs.Digests.{name_of_person}
use Rattle.channel_values.specs.Rows.{mover}
use Rattle.channel_values.specs.declared.fault.StepFault.{StepFault}
use Rattle.channel_values.specs.declared.fault.StepFault.TheVariants as faults
use Rattle.channel_values.specs.Words.{fault_if, ◌⊳◌}
use Rattle.support_rules.specs.Rules.{is_same_outcome, app_fault}

-- the persons of the keys
abbrev pub persons : FixedParts → List (List ℕ)
persons f = map name_of_person f.keys

-- the first 2n turns set the channel up
abbrev pub is_set_up : ℕ → ℕ → Bool
is_set_up n turn = nat_lt turn (2 * n)

-- a state of the set-up and a final state repeat the state before
abbrev pub repeat_fault : StateParts → StateParts → Option StepFault
repeat_fault s t =
    fault_if (not (bytes_eq s.app_bytes t.app_bytes)) faults.Data
    ⊳ fault_if (not (is_same_outcome s.outcome t.outcome)) faults.Outcome

-- the first broken rule of the step from s to t, if there is one
unfoldable pub step_fault : FixedParts → StateParts → StateParts → Option StepFault
step_fault f s t =
    fault_if (s.is_final && not t.is_final) faults.AfterFinal
    ⊳ fault_if (t.is_final && is_set_up (length f.keys) t.turn) faults.EarlyFinal
    ⊳ (if is_set_up (length f.keys) t.turn || t.is_final
    then repeat_fault s t
    else app_fault f.app (persons f) (mover (length f.keys) t.turn) s t)
