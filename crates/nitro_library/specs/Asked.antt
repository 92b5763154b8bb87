-- Which responses are asked for.
use Rattle.std.specs.Prelude.{ℕ, ◌^◌, ◌-◌, Option, Some, None, unwrap_or, if◌then◌else◌}
use Rattle.nitro_library.specs.declared.opened.OpenedFile.{OpenedFile}

abbrev pub after_of : OpenedFile → Option ℕ
after_of file = if file.answered then Some file.after else None

-- the number up to which responses are left out
abbrev pub left_out : OpenedFile → ℕ
left_out file = unwrap_or (after_of file) (2 ^ 64 - 1)
