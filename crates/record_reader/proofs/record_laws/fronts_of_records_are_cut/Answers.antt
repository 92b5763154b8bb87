use Rattle.channel_values.proofs.Fronts.{fronts_cut}
use Rattle.run_record.proofs.Whole.{record_format}
use Rattle.record_reader.proofs.Records.{record_on}
use Rattle.record_reader.proofs.record_laws.fronts_of_records_are_cut.Goals as goal

pub returns : goal.returns
returns c v n valid lt = fronts_cut record_format record_on v n valid lt
