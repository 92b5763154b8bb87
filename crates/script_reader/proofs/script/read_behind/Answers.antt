use Rattle.std.proofs.Common.{◌≡◌, Ok, arith, rules}
use Rattle.std.proofs.lemmas.Grind.{common_steps}
use Rattle.serde_json.specs.View.{view}
use Rattle.script_reader.specs.Script.{script_of}
use Rattle.script_reader.proofs.Checked.{steps_checked}
use Rattle.script_reader.proofs.script.read_behind.Goals as goal

pub returns-clause-kept : goal.returns-clause-kept
returns-clause-kept c =
    let read : script_of c.args.context (view c.in-Ok.value) ≡ Ok c.in_ok-steps.steps = first_of (search rules, grind (arith, common_steps)) in
    steps_checked c.args.context (view c.in-Ok.value) c.in_ok-steps.steps read
