-- What the program promises of a task: which library call does it, and that the call's whole contract holds.
use Rattle.std.specs.Prelude.{◌≡◌, ℕ, List, [], ◌∷◌, map, Bool, true, false, Some}
use Rattle.std.specs.Io.KnownBytes.{Appends}
use Rattle.byte_streams.specs.OutsideSink.{AppendsPart}
use Rattle.byte_streams.specs.OutsideSource.{Rose}
use Rattle.json_lines.specs.Json.{json_of}
use Rattle.network_rounds.specs.Players.{Player}
use Rattle.record_checker.specs.Answering as answering
use Rattle.record_checker.specs.Running as checks
use Rattle.record_checker.specs.Check.{check_asked}
use Rattle.record_checker.specs.Showing.{IsShowing}
use Rattle.tower_replay.specs.Replaying.{tower_asked}
use Rattle.picture.specs.Drawing as drawings
use Rattle.picture.specs.Promise as pictures
use Rattle.script_lint.specs.Linting as linting
use Rattle.script_lint.specs.Promise as lints
use Rattle.script_run.specs.Promises.{IsNodeRun, IsNodeRecording, IsNodeRoute, Sunk}
use Rattle.script_run.specs.Recording as recordings
use Rattle.script_run.specs.Run.{Given}
use Rattle.script_run.specs.Run as runs
use Rattle.nitro.specs.declared.doing.Done.{Done}
use Rattle.nitro.specs.declared.doing.Done.TheVariants.{Played, Routed, Recorded, Drawn, Linted, Unwritten}
use Rattle.nitro.specs.declared.doing.Done.TheVariants as done
use Rattle.nitro.specs.declared.asking.Task.{Task}
use Rattle.nitro.specs.declared.asking.Task.TheVariants as tasks

-- the number of a status, of the task that was done
abbrev pub code_of : Done → ℕ
code_of (Played ended) = runs.code_of ended.status
code_of (Routed ended) = runs.code_of ended.status
code_of (Recorded status) = recordings.code_of status
code_of (done.Checked status) = answering.code_of status
code_of (Drawn status) = drawings.code_of status
code_of (Linted status) = linting.code_of status
code_of Unwritten = 5

-- ---- the words, the source and the sink of a task, as each library sees them

abbrev pub given_check : Given → answering.Given
given_check g =
    record {
      words = g.words;
      before = g.before;
      after = g.after;
      faults_before = g.faults_before;
      faults_after = g.faults_after;
    }

abbrev pub given_lint : Given → linting.Given
given_lint g =
    record {
      words = g.words;
      before = g.before;
      after = g.after;
      faults_before = g.faults_before;
      faults_after = g.faults_after;
    }

abbrev pub given_drawing : Given → drawings.SourceChange
given_drawing g =
    record {
      before = g.before;
      after = g.after;
      faults_before = g.faults_before;
      faults_after = g.faults_after;
    }

abbrev pub sunk_check : Sunk → checks.Sunk
sunk_check k =
    record {
      before = k.before;
      after = k.after;
      faults_before = k.faults_before;
      faults_after = k.faults_after;
    }

abbrev pub sunk_lint : Sunk → lints.Sunk
sunk_lint k =
    record {
      before = k.before;
      after = k.after;
      faults_before = k.faults_before;
      faults_after = k.faults_after;
    }

abbrev pub sunk_drawing : Sunk → pictures.Sunk
sunk_drawing k =
    record {
      before = k.before;
      after = k.after;
      faults_before = k.faults_before;
      faults_after = k.faults_after;
    }

-- ---- which call does each task, and what it promises

-- Three actors act beside the nodes of a race.
abbrev pub AreThree : List Player → Type 0
AreThree cast = map (λ x. x.number) cast ≡ 101 ∷ 102 ∷ 103 ∷ []

-- `run_words`
abbrev pub IsPlay : List Player → Given → Sunk → Done → Type 0
IsPlay cast g k (Played ended) = IsNodeRun cast g k ended.status ended.report
IsPlay cast g k _ = ⊥

-- `run_record`
abbrev pub IsRecord : List Player → Given → Sunk → Done → Type 0
IsRecord cast g k (Recorded status) = IsNodeRecording cast g k status
IsRecord cast g k _ = ⊥

-- `run_route`, which is handed no source
abbrev pub IsRouting : Given → Sunk → Done → Type 0
IsRouting g k (Routed ended) = IsNodeRoute g.words k ended.status ended.report
IsRouting g k _ = ⊥

-- `run_check`, `run_tower` and `run_show`
abbrev pub IsCheck : Given → Sunk → Done → Type 0
IsCheck g k (done.Checked status) = checks.IsRun check_asked (given_check g) (sunk_check k) status
IsCheck g k _ = ⊥

abbrev pub IsTower : Given → Sunk → Done → Type 0
IsTower g k (done.Checked status) = checks.IsRun tower_asked (given_check g) (sunk_check k) status
IsTower g k _ = ⊥

abbrev pub IsShow : Given → Sunk → Done → Type 0
IsShow g k (done.Checked status) = IsShowing (given_check g) (sunk_check k) status
IsShow g k _ = ⊥

-- `draw`
abbrev pub IsPicture : Given → Sunk → Done → Type 0
IsPicture g k (Drawn status) = pictures.IsDrawing g.words (given_drawing g) (sunk_drawing k) status
IsPicture g k _ = ⊥

-- `run_lint`
abbrev pub IsLint : Given → Sunk → Done → Type 0
IsLint g k (Linted status) = lints.IsLint (given_lint g) (sunk_lint k) status
IsLint g k _ = ⊥

-- What was done is the end of the task's own call, with all that this call promises.
abbrev pub IsDone : Task → Given → Sunk → Done → Type 0
IsDone tasks.Play g k done = (cast : List Player) × AreThree cast × IsPlay cast g k done
IsDone tasks.Record g k done = (cast : List Player) × AreThree cast × IsRecord cast g k done
IsDone tasks.Route g k done = IsRouting g k done
IsDone tasks.Check g k done = IsCheck g k done
IsDone tasks.Tower g k done = IsTower g k done
IsDone tasks.Show g k done = IsShow g k done
IsDone tasks.Picture g k done = IsPicture g k done
IsDone tasks.Lint g k done = IsLint g k done

-- ---- as JSON

-- a sink that kept this text and didn't fail
abbrev pub keeping : List ℕ → Sunk
keeping text = record { before = Some []; after = Some text; faults_before = 0; faults_after = 0 }

-- what the task's call wrote into memory, and how it ended, with all that the call promises
abbrev pub IsKept : Task → Given → List ℕ → Done → Type 0
IsKept task g text done = IsDone task g (keeping text) done

-- The JSON of the call's text was written whole.
abbrev pub IsWritten : Task → Given → Sunk → Done → Type 0
IsWritten task g k done = (text : List ℕ) × IsKept task g text done × Appends k.before k.after (json_of text)

-- The sink failed, and a part of that JSON was written.
abbrev pub IsCut : Task → Given → Sunk → Type 0
IsCut task g k =
    Rose k.faults_before k.faults_after
    × ((done : Done) × (text : List ℕ) × IsKept task g text done × AppendsPart k.before k.after (json_of text))

abbrev pub IsDoneAsJson : Task → Given → Sunk → Done → Type 0
IsDoneAsJson task g k Unwritten = IsCut task g k
IsDoneAsJson task g k done = IsWritten task g k done

-- ---- either way

abbrev pub IsAnswered : (as_json : Bool) → Task → Given → Sunk → Done → Type 0
IsAnswered false task g k done = IsDone task g k done
IsAnswered true task g k done = IsDoneAsJson task g k done

-- the number of a status is that of a task that was answered so
abbrev pub IsCodeOf : (as_json : Bool) → Task → Given → Sunk → ℕ → Type 0
IsCodeOf as_json task g k code = (done : Done) × IsAnswered as_json task g k done × (code ≡ code_of done)
