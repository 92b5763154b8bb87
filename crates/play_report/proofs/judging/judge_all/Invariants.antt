use Rattle.std.proofs.Common.{take}
use Rattle.play_report.specs.Reported.{IsJudged}
use Rattle.node_guarantees.specs.Promised.{Pairwise}
use Rattle.play_report.proofs.judging.judge_all.Given as goal

abbrev pub invariant-loop-journal : goal.invariant-loop-journal
invariant-loop-journal l = Pairwise (IsJudged l.history l.journals) (take l.journal-index l.journals) l.all.items
