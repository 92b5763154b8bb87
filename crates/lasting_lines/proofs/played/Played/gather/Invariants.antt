use Rattle.lasting_lines.specs.Batches.{Holds}
use Rattle.lasting_lines.specs.Lines.{IsLine}
use Rattle.lasting_lines.proofs.played.Played.gather.Given as goal

abbrev pub invariant-loop : goal.invariant-loop
invariant-loop g l = record {
  holds : Holds g.M.Machine.ways l.fn.self l.self l.batch.lines.items l.batch.answer.items;
  line : IsLine l.batch.lines.items;
}
