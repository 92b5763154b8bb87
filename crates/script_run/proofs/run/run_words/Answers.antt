-- A race runs as if nothing had been asked before it.
use Rattle.std.proofs.Common.{rules, ◌≡◌, Some, []}
use Rattle.command_words.specs.declared.asking.Asked.TheVariants.{Race}
use Rattle.node_guarantees.specs.Ways.{ways}
use Rattle.script_run.proofs.Pays.{pays_at_end}
use Rattle.script_run.proofs.Putting.{ends_from, run_from}
use Rattle.script_run.proofs.run.run_words.Goals as goal
use Rattle.script_run.specs.Run.{Given, given, wanted}

pub returns-in-Some-clause-run : goal.returns-in-Some-clause-run
returns-in-Some-clause-run g c = c.in-Some.ensures.ends _

pub returns-in-Some-clause-legal : goal.returns-in-Some-clause-legal
returns-in-Some-clause-legal g c = (c.in-Some.ensures.ends []).legal

pub returns-in-Some-clause-conserved : goal.returns-in-Some-clause-conserved
returns-in-Some-clause-conserved g c = (c.in-Some.ensures.ends []).conserved

pub returns-clause-run : goal.returns-clause-run
returns-clause-run g c =
    let handed : Given = given g.S.Source c.args.words.now c.args.source.now c.end_in_race-end.new.source in
    let race : wanted c.args.words.now ≡ Some Race = search rules in
    let still : (c.run_in_one_thread.new.source ≡ c.args.source.now) × (c.run_in_one_thread.new.sink ≡ c.args.sink.now) = search rules in
    let ends = ends_from ways _ g.S.Source c.args.words.now c.end_in_race-end.result c.run_in_one_thread.new.source c.args.source.now c.end_in_race-end.new.source still.0
    (c.end_in_race-end.ensures.ends c.args.words.now race) in
    run_from ways _ g.K.Sink handed c.put_end.result.status c.put_end.result.report c.run_in_one_thread.new.sink c.args.sink.now c.put_end.new.sink still.1
    (c.put_end.ensures _ handed ends (pays_at_end _ handed c.end_in_race-end.result ends))

pub returns-clause-legal : goal.returns-clause-legal
returns-clause-legal g c = (returns-clause-run g c).legal

pub returns-clause-conserved : goal.returns-clause-conserved
returns-clause-conserved g c = (returns-clause-run g c).conserved
