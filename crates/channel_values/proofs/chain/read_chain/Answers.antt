use Rattle.std.proofs.Common.{arith}
use Rattle.channel_values.proofs.Format.{is_found, is_only}
use Rattle.channel_values.proofs.Chains.{is_kept}
use Rattle.channel_values.proofs.Formats.{chain_format}
use Rattle.channel_values.proofs.chain.read_chain.Goals as goal

pub returns-clause-found : goal.returns-clause-found
returns-clause-found c = is_found chain_format c.args.bytes.now c.chain_from.result (λ i. omega (arith, c.type_inv.bytes i)) c.chain_from.ensures

pub returns-clause-only : goal.returns-clause-only
returns-clause-only c = is_only chain_format c.args.bytes.now c.chain_from.result c.chain_from.ensures

pub returns-clause-keeps : goal.returns-clause-keeps
returns-clause-keeps c = is_kept c.args.bytes.now c.chain_from.result (is_found chain_format c.args.bytes.now c.chain_from.result (λ i. omega (arith, c.type_inv.bytes i)) c.chain_from.ensures)
