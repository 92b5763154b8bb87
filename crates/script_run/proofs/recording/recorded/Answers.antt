-- What was played has its sums, and is sound under its premises, by the laws of records.
use Rattle.std.proofs.Common.{rules}
use Rattle.node_guarantees.specs.Ways.{ways}
use Rattle.script_run.proofs.RecordEnds.{recorded_end}
use Rattle.script_run.proofs.recording.recorded.Goals as goal

pub returns : goal.returns
returns c cast g e =
    recorded_end ways cast c.records_have_sums.ensures c.plays_have_sound_records.ensures (c.races_have_sound_records.ensures cast) g c.args.report c.requires e
    c.write_record.new.out.items (search rules)
