use Rattle.std.proofs.Common.{arith}
use Rattle.channel_values.proofs.Format.{is_found, is_only}
use Rattle.run_record.proofs.Whole.{record_format, is_kept}
use Rattle.record_reader.proofs.reading.read_record.Goals as goal

pub returns-clause-found : goal.returns-clause-found
returns-clause-found c = is_found record_format c.args.bytes.now c.record_from.result (λ i. omega (arith, c.type_inv.bytes i)) c.record_from.ensures

pub returns-clause-only : goal.returns-clause-only
returns-clause-only c = is_only record_format c.args.bytes.now c.record_from.result c.record_from.ensures

pub returns-clause-keeps : goal.returns-clause-keeps
returns-clause-keeps c = is_kept c.args.bytes.now c.record_from.result (is_found record_format c.args.bytes.now c.record_from.result (λ i. omega (arith, c.type_inv.bytes i)) c.record_from.ensures)
