use Rattle.std.proofs.Common.{arith, rules}
use Rattle.channel_values.proofs.Format.{is_spelled}
use Rattle.channel_values.proofs.Formats.{outcome_format}
use Rattle.channel_values.proofs.outcome.is_outcome.Goals as goal

pub returns-clause-spelled : goal.returns-clause-spelled
returns-clause-spelled c = is_spelled outcome_format c.args.bytes.now c.is_ok.result (λ i. omega (arith, c.type_inv.bytes i)) (search rules)
