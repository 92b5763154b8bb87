-- A report of the parts of a scene is made of what its nodes say.
use Rattle.std.proofs.Common.{◌≡◌, ℕ, Bool, List, length, ◌∙◌, ap, subst}
use Rattle.std.specs.Prelude.{Option, map, flat_map}
use Rattle.std.specs.List.{AllByRecursion}
use Rattle.call_history.specs.History.{flows_of, newest_first}
use Rattle.call_history.specs.declared.entry.Entry.{Entry}
use Rattle.asset_holder.specs.Receipts.{assets_of}
use Rattle.funding_plans.specs.Known.{FactsOf}
use Rattle.run_record.specs.Sums.{sums_of}
use Rattle.channel_safety.specs.Valid.{IsValidEntry, IsValidEvent}
use Rattle.network.specs.Ways.{Ways}
use Rattle.network.specs.Members.{MemberOf}
use Rattle.premises.specs.declared.journal.Journal.{Journal}
use Rattle.report_text.specs.declared.report.Load.{Load}
use Rattle.report_text.specs.declared.report.Report.{Report}
use Rattle.step_meanings.specs.declared.names.Names.{Names}
use Rattle.script_play.specs.Play.{SceneOf}
use Rattle.play_report.specs.Members.{AllFixed, AllFollowed, ArePartsOf, IsMade}
use Rattle.play_report.specs.Reported.{AreJudged, journal_of}
use Rattle.play_report.specs.Shares.{known_shares, known_exits, known_ending}

pub made_so : {P : Type 0} (ways : Ways P) (lost : P → Bool) (shares : P → ℕ → ℕ) (exits : P → Option (List (ℕ × ℕ))) (facts : P → FactsOf) (load : Option Load) (r : Report)
    (names : Names) (members : List (MemberOf P)) (s : SceneOf P) → ArePartsOf names r.rounds r.history members s
    → r.journals ≡ map (journal_of ways) members → r.labels ≡ names.labels → AreJudged r.history r.journals r.premises
    → r.shares ≡ flat_map (λ m. known_shares ways shares (assets_of (flows_of r.history)) m.node) members
    → r.exits ≡ flat_map (λ m. known_exits ways exits (assets_of (flows_of r.history)) m.node) members
    → r.ends ≡ map (λ m. known_ending ways facts shares (assets_of (flows_of r.history)) m.node) members → r.sums ≡ sums_of (flows_of r.history)
    → r.load ≡ load → AllByRecursion IsValidEntry r.history → AllByRecursion (λ (j : Journal). AllByRecursion IsValidEvent j.events) r.journals
    → AllFixed ways members → AllFollowed ways lost (length r.history) members
    → IsMade ways lost shares exits facts load r s
made_so ways lost shares exits facts load r names members s parts journals labels judged shared left ended summed noted entries events fixed followed = record {
  history = parts.history_is;
  journals = journals ∙ ap (map (journal_of ways)) parts.members_are;
  rounds = parts.rounds_are;
  labels = labels ∙ ap (λ (n : Names). n.labels) parts.names_are;
  judged = judged;
  shares = shared ∙ ap (flat_map (λ m. known_shares ways shares (assets_of (flows_of r.history)) m.node)) parts.members_are;
  exits = left ∙ ap (flat_map (λ m. known_exits ways exits (assets_of (flows_of r.history)) m.node)) parts.members_are;
  ends = ended ∙ ap (map (λ m. known_ending ways facts shares (assets_of (flows_of r.history)) m.node)) parts.members_are;
  sums = summed;
  noted = noted;
  entries = entries;
  events = events;
  fixed = subst (AllFixed ways) parts.members_are fixed;
  followed = subst (AllFollowed ways lost (length r.history)) parts.members_are followed;
}
