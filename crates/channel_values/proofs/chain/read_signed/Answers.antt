use Rattle.std.proofs.Common.{arith}
use Rattle.channel_values.proofs.Format.{is_found, is_only}
use Rattle.channel_values.proofs.Formats.{signed_format}
use Rattle.channel_values.proofs.chain.read_signed.Goals as goal

pub returns-clause-found : goal.returns-clause-found
returns-clause-found c = is_found signed_format c.args.bytes.now c.signed_from.result (λ i. omega (arith, c.type_inv.bytes i)) c.signed_from.ensures

pub returns-clause-only : goal.returns-clause-only
returns-clause-only c = is_only signed_format c.args.bytes.now c.signed_from.result c.signed_from.ensures
