use Rattle.std.proofs.Common.{arith}
use Rattle.channel_values.proofs.Format.{is_found, is_only}
use Rattle.call_history.proofs.Formats.{call_format, is_kept}
use Rattle.call_bytes.proofs.reading.read_call.Goals as goal

pub returns-clause-found : goal.returns-clause-found
returns-clause-found c = is_found call_format c.args.bytes.now c.call_from.result (λ i. omega (arith, c.type_inv.bytes i)) c.call_from.ensures

pub returns-clause-only : goal.returns-clause-only
returns-clause-only c = is_only call_format c.args.bytes.now c.call_from.result c.call_from.ensures

pub returns-clause-keeps : goal.returns-clause-keeps
returns-clause-keeps c = is_kept c.args.bytes.now c.call_from.result (is_found call_format c.args.bytes.now c.call_from.result (λ i. omega (arith, c.type_inv.bytes i)) c.call_from.ensures)
