-- The chains of a one-time key at their start.
use Rattle.std.specs.Prelude.{ℕ}
use Rattle.lms_signatures.specs.declared.runs.Run.{Run}
use Rattle.lms_signatures.specs.Secret.{Secret, private_element}

-- chain i at its private element, which is to end at a step
abbrev pub private_run : Secret → ℕ → ℕ → ℕ → Run
private_run s q to i = record { string = private_element s q i; at = 0; to = to }
