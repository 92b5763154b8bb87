use Rattle.std.proofs.lemmas.Result.{on_ok_weaker}
use Rattle.std.proofs.Common.{inr}
use Rattle.lasting_lines.proofs.Lines.{either}
use Rattle.lasting_lines.proofs.Moments.{as-aside, as-writing-aside}
use Rattle.lasting_node.specs.Machines.{node_ways}
use Rattle.lasting_node.proofs.serving.write_ready.Goals as goal

pub returns-in-Ok-clause-moments : goal.returns-in-Ok-clause-moments
returns-in-Ok-clause-moments g c = λ p before start r.
    let writing =
    as-writing-aside node_ways p before start (g.O.Outside.ops c.args.outside.now) c.args.played.now r c.deref.result.now (g.O.Outside.ops c.write_aside.new.self) in
    either c.write_aside.result c.write_aside.ensures.ok c.write_aside.ensures.err (λ e. writing (inr e)) writing

pub returns-in-Ok-clause-ready : goal.returns-in-Ok-clause-ready
returns-in-Ok-clause-ready g c =
    on_ok_weaker c.write_aside.result (λ e p before start r.
    as-aside node_ways p before start (g.O.Outside.ops c.args.outside.now) c.args.played.now r c.deref.result.now (g.O.Outside.ops c.write_aside.new.self) e)
    c.write_aside.ensures.ok
