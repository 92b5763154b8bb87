-- The command that reads the words after `load`.
use Rattle.std.specs.Prelude.{true, codes, Some, List, ℕ}
use Rattle.clap.specs.Walk.{Rule}
use Rattle.clap.specs.Simple.{App, new_app, new_rule, on_top, with_rule}

-- a required option, as `--name`, with one value
abbrev pub option_rule : List ℕ → Rule
option_rule name = record (new_rule name) { long = Some name; required = true }

-- no options yet, no `--help`, and no program's name before the words
abbrev pub bare_app : App
bare_app = on_top (λ s. record s { no_binary_name = true; disable_help_flag = true }) (new_app (codes "load"))

-- `load` with its two options
abbrev pub load_app : App
load_app = with_rule (with_rule bare_app (option_rule (codes "seed"))) (option_rule (codes "count"))
