use Rattle.std.proofs.Common.{arith}
use Rattle.channel_values.proofs.Format.{is_found, is_only}
use Rattle.channel_values.proofs.Formats.{state_format}
use Rattle.channel_values.proofs.state.read_state.Goals as goal

pub returns-clause-found : goal.returns-clause-found
returns-clause-found c = is_found state_format c.args.bytes.now c.state_from.result (λ i. omega (arith, c.type_inv.bytes i)) c.state_from.ensures

pub returns-clause-only : goal.returns-clause-only
returns-clause-only c = is_only state_format c.args.bytes.now c.state_from.result c.state_from.ensures
