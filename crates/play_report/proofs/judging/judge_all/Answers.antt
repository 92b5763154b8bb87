use Rattle.std.proofs.Common.{subst}
use Rattle.play_report.specs.Reported.{IsJudged}
use Rattle.play_report.proofs.Pairs.{pairwise_more}
use Rattle.play_report.proofs.judging.judge_all.Goals as goal

pub loop-journal-preserved : goal.loop-journal-preserved
loop-journal-preserved c =
    let h = c.args.history.now in
    let journals = c.args.journals.now in
    pairwise_more (IsJudged h journals) journals c.loop-journal.journal-index _ _ _ c.in_ok-judged.judged c.loop-journal-test.true c.loop-journal.invariant
    (subst (λ j. IsJudged h journals j c.in_ok-judged.judged) c.journal-item.is (c.in_ok-judged.ensures journals c.in_ok-distinct.ensures)) c.in_ok-push.ensures.items
