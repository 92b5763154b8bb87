-- A race is recorded as if nothing had been asked before it.
use Rattle.std.proofs.Common.{rules, ◌≡◌}
use Rattle.node_guarantees.specs.Ways.{ways}
use Rattle.script_run.proofs.Putting.{ends_from, recording_from}
use Rattle.script_run.proofs.recording.run_record.Goals as goal
use Rattle.script_run.specs.Recording.{AsksForRace}
use Rattle.script_run.specs.Run.{Given, given}

pub returns : goal.returns
returns g c =
    let handed : Given = given g.S.Source c.args.words.now c.args.source.now c.end_in_race-end.new.source in
    let race : AsksForRace c.args.words.now = search rules in
    let still : (c.record_in_one_thread.new.source ≡ c.args.source.now) × (c.record_in_one_thread.new.sink ≡ c.args.sink.now) = search rules in
    recording_from ways _ g.K.Sink handed c.put_end.result c.record_in_one_thread.new.sink c.args.sink.now c.put_end.new.sink still.1
    (c.put_end.ensures _ handed (c.end_of_run-end.ensures _ handed race.0 race.1
    (ends_from ways _ g.S.Source race.0 c.end_in_race-end.result c.record_in_one_thread.new.source c.args.source.now c.end_in_race-end.new.source still.0
    (c.end_in_race-end.ensures.ends race.0 race.2))))
