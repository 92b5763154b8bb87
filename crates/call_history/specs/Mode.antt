-- How a channel stands: open without a deadline, challenged before it, final from it on.
use Rattle.std.specs.Prelude.{ℕ, Bool, true, false, nat_le, Option, Some, None, if◌then◌else◌}
use Rattle.call_history.specs.declared.standing.Standing.{Standing}
use Rattle.call_history.specs.declared.standing.Standing.TheVariants.{Open, Challenged, Final}

abbrev pub mode_at : Option ℕ → ℕ → Standing
mode_at None now = Open
mode_at (Some deadline) now = if nat_le deadline now then Final else Challenged

abbrev pub is_final : Standing → Bool
is_final Final = true
is_final _ = false

abbrev pub is_challenged : Standing → Bool
is_challenged Challenged = true
is_challenged _ = false
