-- What comes of it is written, and a load pays.
use Rattle.script_run.proofs.Pays.{pays_at_end}
use Rattle.script_run.proofs.run.run_in_one_thread.Goals as goal
use Rattle.script_run.specs.Run.{Given, given}

pub returns-clause-ends : goal.returns-clause-ends
returns-clause-ends g c cast =
    let handed : Given = given g.S.Source c.args.words.now c.args.source.now c.end_in_one_thread.new.source in
    c.put_end.ensures cast handed (c.in_ok-end.ensures.ends cast) (pays_at_end cast handed c.in_ok-end.end (c.in_ok-end.ensures.ends cast))
