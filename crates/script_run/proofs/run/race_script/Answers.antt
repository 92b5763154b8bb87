-- A script of a race breaks a rule, or each of its steps may stand in one.
use Rattle.std.proofs.Common.{◌≡◌, true, refl, sym, subst, rules}
use Rattle.std.specs.Prelude.{All}
use Rattle.script_reader.proofs.Bounds.{all_may_race}
use Rattle.script_reader.specs.Script.{start}
use Rattle.script_reader.specs.Conditions.{runs_in_race}
use Rattle.script_reader.specs.step.Step.{Step}
use Rattle.script_run.proofs.Ends.{broken_race, full_race}
use Rattle.script_run.proofs.run.race_script.Goals as goal

pub returns-in-Err-Broken-clause-ends : goal.returns-in-Err-Broken-clause-ends
returns-in-Err-Broken-clause-ends g c given asks taken done short =
    broken_race g.P.Party.ways _ given c.args.bytes.now taken done short asks _ _ c.without_report.result c.without_report.ensures (search rules)

pub returns-in-Err-Full-clause-ends : goal.returns-in-Err-Full-clause-ends
returns-in-Err-Full-clause-ends g c given asks taken done short =
    full_race g.P.Party.ways _ given c.args.bytes.now taken done short asks c.in-Ok.script.steps c.without_report-in-Err-Full.result c.without_report-in-Err-Full.ensures (search rules)

pub report_race-requires-clause-may_race : goal.report_race-requires-clause-may_race
report_race-requires-clause-may_race g c κs within =
    subst (All (λ (step : Step). runs_in_race step ≡ true)) (sym c.as_slice-steps.ensures)
    (all_may_race (start true) c.in-Ok.script.steps refl c.in-Ok.ensures.kept)
