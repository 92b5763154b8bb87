use Rattle.std.proofs.lemmas.Result.{on_ok_weaker}
use Rattle.std.proofs.Common.{inr}
use Rattle.lasting_lines.specs.Batches.{batched}
use Rattle.lasting_lines.proofs.Lines.{either}
use Rattle.lasting_lines.proofs.Beginning.{begins_written, begins_writing}
use Rattle.lasting_lines.proofs.played.Played.resume.Goals as goal

pub returns-clause-moments : goal.returns-clause-moments
returns-clause-moments g c = λ p start n none played.
    let writing =
    begins_writing (batched g.M.Machine.ways) p start n c.args.self.now c.args.again.now played (g.O.Outside.ops c.args.outside.now) (g.O.Outside.ops c.write.new.self) none in
    either c.write.result c.write.ensures.ok c.write.ensures.err (λ e. writing (inr e)) writing

pub returns-clause-ready : goal.returns-clause-ready
returns-clause-ready g c =
    on_ok_weaker c.write.result (λ e p start n none played.
    begins_written (batched g.M.Machine.ways) p start n c.args.self.now c.args.again.now played (g.O.Outside.ops c.args.outside.now) (g.O.Outside.ops c.write.new.self) none e)
    c.write.ensures.ok
