use Rattle.std.proofs.Common.{arith}
use Rattle.channel_values.proofs.Format.{is_found, is_only}
use Rattle.channel_values.proofs.Formats.{fixed_format}
use Rattle.channel_values.proofs.fixed.read_fixed.Goals as goal

pub returns-clause-found : goal.returns-clause-found
returns-clause-found c = is_found fixed_format c.args.bytes.now c.fixed_from.result (λ i. omega (arith, c.type_inv.bytes i)) c.fixed_from.ensures

pub returns-clause-only : goal.returns-clause-only
returns-clause-only c = is_only fixed_format c.args.bytes.now c.fixed_from.result c.fixed_from.ensures
