-- What the calls of this crate promise, each in one record: how it ended, what was written, and what its report says
-- and keeps.
use Rattle.std.specs.Prelude.{◌≡◌, ◌≢◌, ◌⊎◌, ℕ, List, Option, Some, None, IfSome, IsNone}
use Rattle.std.specs.Io.KnownBytes.{Keeps as Untouched, Appends}
use Rattle.byte_streams.specs.OutsideSink.{AppendsPart}
use Rattle.byte_streams.specs.OutsideSource.{Rose}
use Rattle.byte_streams.specs.declared.sink.Sink as sink
use Rattle.call_history.specs.Flows.{AreConserved}
use Rattle.call_history.specs.History.{Legal, newest_first, flows_of}
use Rattle.hop_script.specs.declared.ending.Ending.{Ending}
use Rattle.hop_script.specs.Hop.{hop_steps}
use Rattle.network.specs.Ways.{Ways}
use Rattle.network.specs.declared.command.Command.{Command}
use Rattle.network_rounds.specs.Players.{Player}
use Rattle.node_guarantees.specs.Ways.{ways as node_ways}
use Rattle.report_text.specs.declared.report.Report.{Report}
use Rattle.support_rules.specs.Real.{real}
use Rattle.script_run.specs.Keeping.{Keeps}
use Rattle.script_run.specs.Laws.{PaysItsLoad}
use Rattle.script_run.specs.Telling.{TellsOf, TellsPlay}
use Rattle.script_run.specs.Run.{Given, IsRunnable, IsFullRace, owed}
use Rattle.script_run.specs.Run as runs
use Rattle.script_run.specs.Recording as recordings
use Rattle.script_run.specs.Routes as routes
use Rattle.script_run.specs.declared.run.Status.{Status}
use Rattle.script_run.specs.declared.run.Status.TheVariants.{Done, NoMemory, WriteFault}
use Rattle.script_run.specs.declared.status.Status.{Status as Recorded}
use Rattle.script_run.specs.declared.status.Status.TheVariants.{Ran, PastLimits}

-- the sink that a call was handed: what it held and its count of faults, before and after
pub record Sunk : Type 0 where
  pub before : Option (List ℕ)
  pub after : Option (List ℕ)
  pub faults_before : ℕ
  pub faults_after : ℕ

abbrev pub sunk : {K : Type 0} → sink.Ghosts K → K → K → Sunk
sunk k old new =
    record { before = k.held old; after = k.held new; faults_before = k.faults old; faults_after = k.faults new }

-- Of these nodes.
module _ {P : Type 0} (ways : Ways P) where
  -- What `run_words` promises of how it ended, and of its report.
  pub record IsRun (cast : List Player) (g : Given) (k : Sunk) (status : Status) (report : Option Report) : Type 0 where
    -- Every status but out of memory and a fault of the sink has its cause, and its text was written whole.
    pub ended : status ≢ NoMemory → status ≢ WriteFault
        → runs.EndsAs ways cast g status report × Appends k.before k.after (owed status report)
    -- At a fault of the sink a part was written of what another end owes, and the report is that end's.
    pub write_fault : status ≡ WriteFault → Rose k.faults_before k.faults_after
        × ((other : Status) × runs.EndsAs ways cast g other report
        × AppendsPart k.before k.after (owed other report))
    -- Out of memory nothing was written.
    pub no_memory : status ≡ NoMemory → IsNone report × Untouched k.before k.after
    -- Each reply of the history is the sequential adjudicator's at its place.
    pub legal : IfSome report (λ r. Legal real (newest_first r.history))
    -- Of each asset, the printed numbers agree: what was deposited is what the channels hold and what the persons were
    -- paid.
    pub conserved : IfSome report (λ r. AreConserved (flows_of r.history))
    -- What each step commands, of which the next two speak.
    pub commands : ℕ → Option Command
    -- Each premise is said to hold exactly where it does. Each person with a node has an honest journal, which signs
    -- with no index twice. The rest holds where its premises are said to hold, and the strings of the fixed parts
    -- that its accepted commands name don't collide with others. No channel of it becomes final with an outcome older
    -- than its newest supported state. Nobody lowers its share, and it can leave with it. Its own signatures lower it
    -- by no more than the payment that was commanded right before, or, where none was and its plan is funded, not at
    -- all. For these its watchers needn't be in time. Once its channels are final and the calls of its exit stand
    -- after that, it is paid what it could get just after it was commanded to exit. That is so whatever others enter
    -- between.
    pub keeps : IfSome report (Keeps commands)
    -- The words ask for what the report describes: the play of the script, whose steps command this. Each printed
    -- share is what the person can get by the definition, over the whole history and its journal. Each exit is that
    -- just after its node's first accepted command to exit. Each journal is by the rules of the node. In a race the
    -- watchers were in time.
    pub tells : IfSome report (λ r. TellsOf ways commands r cast g)
    -- A load pays what it says. Its history is two deposits, a conclusion and two transfers. Both people were paid
    -- what they have after its payments, and no channel holds anything. No command was refused, and the shares that
    -- are reported are what was paid.
    pub pays : IfSome report PaysItsLoad
    -- A sound script runs to its end, and so does a load, unless memory runs out, or a race's history is full.
    pub complete : IsRunnable g → ¬ (Rose k.faults_before k.faults_after)
        → (status ≡ Done) ⊎ ((status ≡ NoMemory) ⊎ IsFullRace g status)

  -- What `run_record` promises of how it ended.
  pub record IsRecording (cast : List Player) (g : Given) (k : Sunk) (status : Recorded) : Type 0 where
    -- Every status but out of memory and a fault of the sink has its cause, and its bytes were written whole. They
    -- are the spelling of the record of what was played, whose history is legal and conserved. The record is sound
    -- where of each person with a node nothing is said to be forged and no strings collide.
    pub ended : status ≢ Ran NoMemory → status ≢ Ran WriteFault
        → (bytes : List ℕ) × recordings.EndsAs ways cast g status bytes × Appends k.before k.after bytes
    -- At a fault of the sink a part was written of what another end owes.
    pub write_fault : status ≡ Ran WriteFault → Rose k.faults_before k.faults_after
        × ((other : Recorded) × (bytes : List ℕ) × recordings.EndsAs ways cast g other bytes
        × AppendsPart k.before k.after bytes)
    -- Out of memory nothing was written.
    pub no_memory : status ≡ Ran NoMemory → Untouched k.before k.after
    -- Where neither source nor sink fails, a sound script is played and its record written. Exceptions are a record
    -- past the format's limits, running out of memory, and a full history of a race.
    pub complete : recordings.IsRecordable g → ¬ (Rose k.faults_before k.faults_after)
        → (status ≡ Ran Done) ⊎ (status ≡ PastLimits) ⊎ (status ≡ Ran NoMemory) ⊎ recordings.IsFullRace g status

  -- What `run_route` promises of how it ended, and of its report.
  pub record IsRoute (words : List (List ℕ)) (k : Sunk) (status : Status) (report : Option Report) : Type 0 where
    -- Every status but out of memory and a fault of the sink has its cause, and its text was written whole.
    pub ended : status ≢ NoMemory → status ≢ WriteFault → (text : List ℕ)
        × routes.EndsAs ways words status report text × Appends k.before k.after text
    -- At a fault of the sink a part was written of what another end owes, and the report is that end's.
    pub write_fault : status ≡ WriteFault → Rose k.faults_before k.faults_after
        × ((other : Status) × (text : List ℕ) × routes.EndsAs ways words other report text
        × AppendsPart k.before k.after text)
    -- Out of memory nothing was written.
    pub no_memory : status ≡ NoMemory → IsNone report × Untouched k.before k.after
    -- Each reply of the history is the sequential adjudicator's at its place.
    pub legal : IfSome report (λ r. Legal real (newest_first r.history))
    -- Of each asset, the printed numbers agree: what was deposited is what the channels hold and what the persons were
    -- paid.
    pub conserved : IfSome report (λ r. AreConserved (flows_of r.history))
    -- What each step commands, of which the next two speak.
    pub commands : ℕ → Option Command
    -- The report keeps the promises of a play: to both who pay each other, and to both intermediaries.
    pub keeps : IfSome report (Keeps commands)
    -- The words ask for the route of the report, which describes the play of its steps.
    pub tells : IfSome report (λ r. (asks : Ending × ℕ) × (routes.wanted words ≡ Some asks)
        × TellsPlay ways commands r None (hop_steps asks.0 asks.1))
    -- Words that ask for a route lead to it, and others to none, unless memory runs out or the sink fails.
    pub complete : ¬ (Rose k.faults_before k.faults_after)
        → (status ≡ routes.status_of (routes.wanted words)) ⊎ (status ≡ NoMemory)

-- ---- the same, of the network's own node

abbrev pub IsNodeRun : List Player → Given → Sunk → Status → Option Report → Type 0
IsNodeRun cast g k status report = IsRun node_ways cast g k status report

abbrev pub IsNodeRecording : List Player → Given → Sunk → Recorded → Type 0
IsNodeRecording cast g k status = IsRecording node_ways cast g k status

abbrev pub IsNodeRoute : List (List ℕ) → Sunk → Status → Option Report → Type 0
IsNodeRoute words k status report = IsRoute node_ways words k status report
