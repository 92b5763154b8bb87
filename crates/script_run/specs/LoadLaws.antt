-- Every load pays what it says.
use Rattle.std.specs.Prelude.{◌≡◌, ◌≤◌, true, Some}
use Rattle.script_run.specs.Paying.{Pays}
use Rattle.script_run.specs.Load.{are_two, load_steps}
use Rattle.node_guarantees.specs.Ways.{ways}
use Rattle.play_report.specs.Reported.{IsPlayed}
use Rattle.report_text.specs.declared.report.Load.{Load}
use Rattle.report_text.specs.declared.report.Report.{Report}

-- the report of a load's play, of at most 1,000 payments between two people of two digests
abbrev pub LoadsPay : Type 0
LoadsPay =
    (load : Load) (r : Report) → are_two load.seed ≡ true → load.count ≤ 1000 → IsPlayed ways (Some load) r (load_steps load.seed load.count)
    → Pays load r
