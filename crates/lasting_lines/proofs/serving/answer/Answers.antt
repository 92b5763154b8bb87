use Rattle.std.proofs.lemmas.Result.{on_ok_weaker}
use Rattle.std.proofs.Common.{inr}
use Rattle.lasting_lines.specs.Batches.{batched}
use Rattle.lasting_lines.proofs.Lines.{either}
use Rattle.lasting_lines.proofs.Moments.{as-aside, as-writing-aside}
use Rattle.lasting_lines.proofs.serving.answer.Goals as goal

pub returns-in-Some-clause-moments : goal.returns-in-Some-clause-moments
returns-in-Some-clause-moments g c = λ p before start r.
    let writing =
    as-writing-aside (batched g.M.Machine.ways) p before start (g.O.Outside.ops c.args.outside.now) c.args.played.now r c.deref.result.now (g.O.Outside.ops c.write_aside.new.self) in
    either c.write_aside.result c.write_aside.ensures.ok c.write_aside.ensures.err (λ e. writing (inr e)) writing

pub returns-in-Some-clause-ready : goal.returns-in-Some-clause-ready
returns-in-Some-clause-ready g c =
    on_ok_weaker c.write_aside.result (λ e p before start r.
    as-aside (batched g.M.Machine.ways) p before start (g.O.Outside.ops c.args.outside.now) c.args.played.now r c.deref.result.now (g.O.Outside.ops c.write_aside.new.self) e)
    c.write_aside.ensures.ok

pub returns-in_err-keep-clause-moments : goal.returns-in_err-keep-clause-moments
returns-in_err-keep-clause-moments g c = c.keep.ensures.moments c.args.played.now c.in_ok-gathered.ensures.holds

pub returns-in-None-clause-moments : goal.returns-in-None-clause-moments
returns-in-None-clause-moments g c = c.keep.ensures.moments c.args.played.now c.in_ok-gathered.ensures.holds

-- the line after the batch isn't taken
pub returns-in-Some-refused-clause-moments : goal.returns-in-Some-refused-clause-moments
returns-in-Some-refused-clause-moments g c = λ p before start r.
    let writing =
    as-writing-aside (batched g.M.Machine.ways) p before start (g.O.Outside.ops c.keep.new.outside) c.keep.new.played
    (c.in_ok-keep.ensures.ready c.args.played.now c.in_ok-gathered.ensures.holds p before start r)
    c.deref-in-Some-refused.result.now (g.O.Outside.ops c.write_aside-in-Some-refused.new.self) in
    either c.write_aside-in-Some-refused.result c.write_aside-in-Some-refused.ensures.ok c.write_aside-in-Some-refused.ensures.err (λ e. writing (inr e)) writing

pub returns-in-Some-refused-clause-ready : goal.returns-in-Some-refused-clause-ready
returns-in-Some-refused-clause-ready g c =
    on_ok_weaker c.write_aside-in-Some-refused.result (λ e p before start r.
    as-aside (batched g.M.Machine.ways) p before start (g.O.Outside.ops c.keep.new.outside) c.keep.new.played
    (c.in_ok-keep.ensures.ready c.args.played.now c.in_ok-gathered.ensures.holds p before start r)
    c.deref-in-Some-refused.result.now (g.O.Outside.ops c.write_aside-in-Some-refused.new.self) e)
    c.write_aside-in-Some-refused.ensures.ok
