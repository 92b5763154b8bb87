use Rattle.std.proofs.Common.{arith}
use Rattle.channel_values.proofs.Format.{is_found, is_only}
use Rattle.channel_values.proofs.Formats.{outcome_format}
use Rattle.channel_values.proofs.outcome.read_outcome.Goals as goal

pub returns-clause-found : goal.returns-clause-found
returns-clause-found c = is_found outcome_format c.args.bytes.now c.outcome_from.result (λ i. omega (arith, c.type_inv.bytes i)) c.outcome_from.ensures

pub returns-clause-only : goal.returns-clause-only
returns-clause-only c = is_only outcome_format c.args.bytes.now c.outcome_from.result c.outcome_from.ensures
