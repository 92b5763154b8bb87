-- What a report says of a play, and what it promises of each person with a node.
use Rattle.std.specs.Prelude.{◌≡◌, ℕ, true, List, [], map, flat_map, Option, Some, None, IsTrue, ◌↔◌}
use Rattle.channel_values.specs.Parts.{FixedParts}
use Rattle.channel_values.specs.Digests.{name_of_person}
use Rattle.call_history.specs.History.{flows_of, newest_first}
use Rattle.call_history.specs.declared.entry.Entry.{Entry}
use Rattle.asset_holder.specs.Receipts.{assets_of}
use Rattle.run_record.specs.Sums.{sums_of}
use Rattle.channel_safety.specs.Hashed.{of_fixed}
use Rattle.channel_safety.specs.Journals.{In}
use Rattle.network.specs.Ways.{Ways}
use Rattle.network.specs.declared.command.Command.{Command}
use Rattle.network.specs.Members.{MemberOf}
use Rattle.channel_node.specs.Named.{named_in}
use Rattle.channel_node.specs.Places.{Told, told_by, lines_of}
use Rattle.channel_node.specs.Exiting.{until_exit}
use Rattle.premises.specs.Collision.{Distinct, DistinctWith}
use Rattle.premises.specs.Telling.{strings_opened}
use Rattle.premises.specs.Persons.{IsUnforged, IsInTime}
use Rattle.premises.specs.declared.journal.Journal.{Journal}
use Rattle.report_text.specs.declared.report.Judged.{Judged}
use Rattle.report_text.specs.declared.report.Load.{Load}
use Rattle.report_text.specs.declared.report.Report.{Report}
use Rattle.report_text.specs.declared.report.Share.{Share}
use Rattle.step_meanings.specs.Commands.{command_of}
use Rattle.script_play.specs.Play.{SceneOf, play}
use Rattle.script_steps.specs.declared.step.Step.{Step}
use Rattle.node_guarantees.specs.Challenges.{CallsOwnChallenges}
use Rattle.node_guarantees.specs.Endings.{ending_of, EndsWell}
use Rattle.node_guarantees.specs.Promised.{Pairwise, share_at_end, share_after, IsHonest, StaysSafe, FewChallengesAreCleared, SignsFairly, KeepsShare, IsPaidOnExit}

-- ---- premises

-- What is said of the person with this journal: each premise holds exactly where its definition does, whatever the
-- commands of the journal add to the plan.
pub record IsJudged (h : List Entry) (journals : List Journal) (j : Journal) (p : Judged) : Type 0 where
  pub person : p.person ≡ name_of_person j.key
  pub unforged : (adds : ℕ → List FixedParts) → IsTrue p.unforged ↔ IsUnforged h adds j
  pub distinct : IsTrue p.distinct ↔ Distinct h journals
  pub in_time : (adds : ℕ → List FixedParts) → IsTrue p.in_time ↔ IsInTime h adds j

-- so of each
abbrev pub AreJudged : List Entry → List Journal → List Judged → Type 0
AreJudged h journals premises = Pairwise (IsJudged h journals) journals premises

-- ---- shares

-- a person's shares of these assets
abbrev pub shares_of : (key : List ℕ) → (ℕ → ℕ) → (assets : List ℕ) → List Share
shares_of key share assets = map (λ asset. record { person = name_of_person key; asset = asset; amount = share asset }) assets

-- after the events up to an exit, where there was one
abbrev pub exits_after : (List Told → ℕ → ℕ) → (key : List ℕ) → (assets : List ℕ) → Option (List Told) → List Share
exits_after share key assets None = []
exits_after share key assets (Some front) = shares_of key (share front) assets

-- the journal of a node
abbrev pub journal_of : {P : Type 0} → Ways P → MemberOf P → Journal
journal_of ways m = record { number = ways.number m.node; key = ways.key m.node; events = ways.journal m.node }

-- `commands` says what each step commands.
module _ (commands : ℕ → Option Command) where
  -- the events of a journal with their commands, the newest first
  abbrev pub events : Journal → List Told
  events j = told_by commands j.events

  -- ---- what is said

  -- The report is that of a scene, with a note of the load that its script was made of, if it was. It has each share
  -- of each person with a node, in each asset that was deposited, by the definition over the whole history and its
  -- journal. It has each exit, just after the first command to exit that was accepted. The endings say what each of
  -- them knew at the end, with these shares; and the sums are those of the history's flows.
  pub record Tells {P : Type 0} (ways : Ways P) (load : Option Load) (r : Report) (s : SceneOf P) : Type 0 where
    pub history : newest_first r.history ≡ s.world.history
    pub journals : r.journals ≡ map (journal_of ways) s.world.members
    pub rounds : r.rounds ≡ s.rounds
    pub labels : r.labels ≡ s.names.labels
    pub judged : AreJudged r.history r.journals r.premises
    pub shares :
        r.shares ≡ flat_map (λ j. shares_of j.key (share_at_end (newest_first r.history) j.key (events j)) (assets_of (flows_of r.history))) r.journals
    pub exits :
        r.exits ≡ flat_map (λ j. exits_after (share_after (newest_first r.history) j.key (events j)) j.key (assets_of (flows_of r.history)) (until_exit (events j))) r.journals
    pub ends : r.ends ≡ map (λ j. ending_of r.history j.key (events j)) r.journals
    pub sums : r.sums ≡ sums_of (flows_of r.history)
    pub noted : r.load ≡ load

  -- ---- what is promised

  module _ (r : Report) where
    -- no two of the strings that are hashed for the history and the journals collide, nor do those of the fixed parts
    -- that the accepted commands of this journal name
    abbrev pub NoCollision : Journal → Type 0
    NoCollision j = DistinctWith r.history r.journals (flat_map of_fixed (named_in (events j)))

    -- so of the fixed parts of the channels that this journal opens alone
    abbrev pub NoneOpenedCollide : Journal → Type 0
    NoneOpenedCollide j = DistinctWith r.history r.journals (strings_opened (lines_of j.key (events j)))

    -- Where nothing of the person is said to be forged, its watchers are said to have been in time, and none of these
    -- strings collide, it stays safe.
    abbrev pub IsSafeIf : Journal → Judged → Type 0
    IsSafeIf j p = p.unforged ≡ true → p.in_time ≡ true → NoneOpenedCollide j → StaysSafe (newest_first r.history) j.key (events j)

    -- Where nothing of the person is said to be forged, and none of these strings collide, few of its challenges are
    -- cleared.
    abbrev pub ClearsFewIf : Journal → Judged → Type 0
    ClearsFewIf j p = p.unforged ≡ true → NoneOpenedCollide j → FewChallengesAreCleared (newest_first r.history) j.key (events j)

    -- Where nothing of the person is said to be forged, and no strings collide, its own signatures are fair.
    abbrev pub IsFairIf : Journal → Judged → Type 0
    IsFairIf j p = p.unforged ≡ true → NoCollision j → SignsFairly (newest_first r.history) j.key (events j)

    -- There a checker finds no fault in how it ended.
    abbrev pub EndsWellIf : Journal → Judged → Type 0
    EndsWellIf j p = p.unforged ≡ true → NoCollision j → EndsWell r.history j.key (events j)

    -- Where no strings collide that its watchers distinguish, they are said to have been in time.
    abbrev pub IsInTimeIf : Journal → Judged → Type 0
    IsInTimeIf j p = NoneOpenedCollide j → p.in_time ≡ true

    -- Where moreover its watchers are said to have been in time, the person keeps this.
    abbrev pub Premised : (List Entry → List ℕ → List Told → Type 0) → Journal → Judged → Type 0
    Premised Promise j p = p.unforged ≡ true → p.in_time ≡ true → NoCollision j → Promise (newest_first r.history) j.key (events j)

    -- Each person with a node has an honest journal over the whole history, which signs with no index of its key
    -- twice. It called no challenge but one that it signed right before, as itself. Where its premises are said to
    -- hold it is safe, few of its challenges are cleared and its own signatures are fair. A checker finds no fault in
    -- how it ended. Nobody lowers its share and it can leave with it, and what is said of its exit is paid to it.
    pub record Promises : Type 0 where
      pub honest : (j : Journal) → In j r.journals → IsHonest (newest_first r.history) j.key (events j)
      pub challenges : (j : Journal) → In j r.journals → CallsOwnChallenges j.key (events j)
      pub safe : Pairwise IsSafeIf r.journals r.premises
      pub few : Pairwise ClearsFewIf r.journals r.premises
      pub fair : Pairwise IsFairIf r.journals r.premises
      pub ends : Pairwise EndsWellIf r.journals r.premises
      pub kept : Pairwise (Premised KeepsShare) r.journals r.premises
      pub paid : Pairwise (Premised IsPaidOnExit) r.journals r.premises

-- The report is that of the play of these steps, and keeps its promises.
pub record IsPlayed {P : Type 0} (ways : Ways P) (load : Option Load) (r : Report) (steps : List Step) : Type 0 where
  pub tells : Tells (command_of steps) ways load r (play ways steps)
  pub keeps : Promises (command_of steps) r
