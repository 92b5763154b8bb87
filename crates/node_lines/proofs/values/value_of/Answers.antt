use Rattle.serde_json.specs.View.{view}
use Rattle.std.proofs.Common.{rules}
use Rattle.node_lines.proofs.Json.{value_found, no_value}
use Rattle.node_lines.proofs.values.value_of.Goals as goal

pub returns-in-Ok : goal.returns-in-Ok
returns-in-Ok c = value_found c.args.line.now (view c.in-Ok.value) c.in-Ok.ensures.ok.0 c.in-Ok.ensures.ok.1

pub returns-in-Err-2 : goal.returns-in-Err-2
returns-in-Err-2 c = no_value c.args.line.now (search rules)
