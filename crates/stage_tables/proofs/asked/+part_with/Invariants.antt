use Rattle.std.proofs.Common.{length}
use Rattle.stage_tables.proofs.asked.+part_with.Given as goal

abbrev pub decreases-part_with : goal.decreases-part_with
decreases-part_with l = length l.parts.now
