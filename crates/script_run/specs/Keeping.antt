-- What a report promises of each person with a node: how its journal stands in the history, what is said of its
-- premises, and what it keeps where they hold. The rules of the node, scripts and what is printed are no part of it.
use Rattle.std.specs.Prelude.{ℕ, Option}
use Rattle.call_history.specs.History.{newest_first}
use Rattle.channel_safety.specs.Honest.{Honest}
use Rattle.channel_safety.specs.Journals.{In}
use Rattle.channel_node.specs.Places.{lines_of}
use Rattle.network.specs.declared.command.Command.{Command}
use Rattle.node_guarantees.specs.Challenges.{CallsOwnChallenges}
use Rattle.node_guarantees.specs.Once.{SignsOnce}
use Rattle.node_guarantees.specs.Promised.{Pairwise, KeepsShare, IsPaidOnExit}
use Rattle.play_report.specs.Reported.{AreJudged, IsSafeIf, ClearsFewIf, IsFairIf, EndsWellIf, Premised, events}
use Rattle.premises.specs.declared.journal.Journal.{Journal}
use Rattle.report_text.specs.declared.report.Report.{Report}
use Rattle.support_rules.specs.Real.{real}

-- `commands` says what each step commands.
module _ (commands : ℕ → Option Command) (r : Report) where
  pub record Keeps : Type 0 where
    -- each of the three premises is said to hold exactly where it does
    pub judged : AreJudged r.history r.journals r.premises
    -- the journal is honest over the whole history, in terms of channels alone
    pub honest : (j : Journal) → In j r.journals
        → Honest real j.key (newest_first r.history) (lines_of j.key (events commands j))
    -- it signs with no index of its key twice
    pub once : (j : Journal) → In j r.journals → SignsOnce real (events commands j)
    -- it called no challenge but one that it signed right before, as itself
    pub challenges : (j : Journal) → In j r.journals → CallsOwnChallenges j.key (events commands j)
    -- no channel of the person becomes final with an outcome older than its newest supported state
    pub safe : Pairwise (IsSafeIf commands r) r.journals r.premises
    -- few of its challenges are cleared
    pub few : Pairwise (ClearsFewIf commands r) r.journals r.premises
    -- its own signatures lower its share by no more than the payment that was commanded right before
    pub fair : Pairwise (IsFairIf commands r) r.journals r.premises
    -- a checker finds no fault in how it ended
    pub ends : Pairwise (EndsWellIf commands r) r.journals r.premises
    -- nobody lowers its share, and it can leave with it
    pub kept : Pairwise (Premised commands r KeepsShare) r.journals r.premises
    -- what it could get just after it was commanded to exit is paid to it
    pub paid : Pairwise (Premised commands r IsPaidOnExit) r.journals r.premises
