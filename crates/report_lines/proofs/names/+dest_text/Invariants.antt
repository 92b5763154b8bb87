use Rattle.std.proofs.Common.{length}
use Rattle.report_lines.proofs.names.+dest_text.Given as goal

abbrev pub decreases-dest_text : goal.decreases-dest_text
decreases-dest_text l = length l.labels.now
