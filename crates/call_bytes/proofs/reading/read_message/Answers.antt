use Rattle.std.proofs.Common.{arith}
use Rattle.channel_values.proofs.Format.{is_found, is_only}
use Rattle.call_history.proofs.Formats.{message_format}
use Rattle.call_bytes.proofs.reading.read_message.Goals as goal

pub returns-clause-found : goal.returns-clause-found
returns-clause-found c = is_found message_format c.args.bytes.now c.message_from.result (λ i. omega (arith, c.type_inv.bytes i)) c.message_from.ensures

pub returns-clause-only : goal.returns-clause-only
returns-clause-only c = is_only message_format c.args.bytes.now c.message_from.result c.message_from.ensures
