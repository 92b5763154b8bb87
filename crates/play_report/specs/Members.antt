-- The report of a scene, by what its nodes say.
use Rattle.std.specs.Prelude.{◌≡◌, ℕ, Bool, List, map, flat_map, length, Option}
use Rattle.std.specs.List.{AllByRecursion}
use Rattle.call_history.specs.History.{flows_of, newest_first}
use Rattle.call_history.specs.declared.entry.Entry.{Entry}
use Rattle.asset_holder.specs.Receipts.{assets_of}
use Rattle.funding_plans.specs.Known.{FactsOf}
use Rattle.run_record.specs.Sums.{sums_of}
use Rattle.channel_safety.specs.Valid.{IsValidEntry, IsValidEvent}
use Rattle.network.specs.Ways.{Ways}
use Rattle.network.specs.Members.{MemberOf}
use Rattle.play_report.specs.Reported.{AreJudged, journal_of}
use Rattle.play_report.specs.Shares.{HasFollowed, known_shares, known_exits, known_ending}
use Rattle.report_text.specs.declared.report.Load.{Load}
use Rattle.report_text.specs.declared.report.Report.{Report}
use Rattle.step_meanings.specs.declared.names.Names.{Names}
use Rattle.script_play.specs.Play.{SceneOf}
use Rattle.node_guarantees.specs.Telling.{HaveFixed}

-- what the commands of the nodes add to their plans are fixed parts
abbrev pub AllFixed : {P : Type 0} → Ways P → List (MemberOf P) → Type 0
AllFixed ways members = AllByRecursion (λ m. HaveFixed (ways.lines m.node)) members

-- no node ran out of memory, and each followed so many entries
abbrev pub AllFollowed : {P : Type 0} → Ways P → (lost : P → Bool) → ℕ → List (MemberOf P) → Type 0
AllFollowed ways lost count members = AllByRecursion (λ m. HasFollowed ways lost count m.node) members

-- what names stand for, the counts of rounds, the entries in the order of time and the nodes are those of the scene
pub record ArePartsOf {P : Type 0} (names : Names) (rounds : List ℕ) (history : List Entry) (members : List (MemberOf P)) (s : SceneOf P) : Type 0 where
  pub names_are : names ≡ s.names
  pub rounds_are : rounds ≡ s.rounds
  pub history_is : newest_first history ≡ s.world.history
  pub members_are : members ≡ s.world.members

-- The report is made of what the nodes of the scene say, and its values are such as their types promise.
pub record IsMade {P : Type 0} (ways : Ways P) (lost : P → Bool) (can_get : P → ℕ → ℕ) (got : P → Option (List (ℕ × ℕ))) (facts : P → FactsOf) (load : Option Load)
    (r : Report) (s : SceneOf P) : Type 0 where
  pub history : newest_first r.history ≡ s.world.history
  pub journals : r.journals ≡ map (journal_of ways) s.world.members
  pub rounds : r.rounds ≡ s.rounds
  pub labels : r.labels ≡ s.names.labels
  pub judged : AreJudged r.history r.journals r.premises
  pub shares : r.shares ≡ flat_map (λ m. known_shares ways can_get (assets_of (flows_of r.history)) m.node) s.world.members
  pub exits : r.exits ≡ flat_map (λ m. known_exits ways got (assets_of (flows_of r.history)) m.node) s.world.members
  pub ends : r.ends ≡ map (λ m. known_ending ways facts can_get (assets_of (flows_of r.history)) m.node) s.world.members
  pub sums : r.sums ≡ sums_of (flows_of r.history)
  pub noted : r.load ≡ load
  pub entries : AllByRecursion IsValidEntry r.history
  pub events : AllByRecursion (λ j. AllByRecursion IsValidEvent j.events) r.journals
  pub fixed : AllFixed ways s.world.members
  pub followed : AllFollowed ways lost (length r.history) s.world.members
