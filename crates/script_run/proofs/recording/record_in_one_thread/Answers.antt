-- What a run of the words after `record` comes to is recorded.
use Rattle.std.proofs.Common.{rules, ◌≡◌, Some}
use Rattle.script_run.proofs.recording.record_in_one_thread.Goals as goal
use Rattle.script_run.specs.Recording.{asked_of}
use Rattle.script_run.specs.Run.{Given, given}

pub returns-clause-ends : goal.returns-clause-ends
returns-clause-ends g c cast =
    let handed : Given = given g.S.Source c.args.words.now c.args.source.now c.end_in_one_thread.new.source in
    let asked : asked_of c.args.words.now ≡ Some c.in-Some.asked.now = search rules in
    c.put_end-2.ensures cast handed (c.end_of_run-end.ensures cast handed c.in-Some.asked.now asked (c.in_ok-end.ensures.ends cast))
