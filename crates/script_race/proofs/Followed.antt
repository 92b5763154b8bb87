-- In a race each node follows the commands of the steps.
use Rattle.std.proofs.Common.{ℕ, suc, Bool, true, false, cond, List, [], ◌∷◌, fold, sym, subst}
use Rattle.std.specs.Prelude.{All, Option, Some, None, slice_get}
use Rattle.std.specs.Str.{bytes_eq}
use Rattle.call_history.specs.declared.entry.Entry.{Entry}
use Rattle.network.specs.Ways.{Ways}
use Rattle.network.specs.declared.command.Command.{Command}
use Rattle.network.specs.declared.lookout.Lookout.{Lookout}
use Rattle.network.specs.Members.{MemberOf, sees, handed, looks, looks_with}
use Rattle.script_play.proofs.Played.{commands_kept}
use Rattle.script_race.specs.Races.{RaceOf, timed, RunsRound, IsRaceOf}
use Rattle.network_rounds.specs.Told.{NodeRan}
use Rattle.network_rounds.proofs.Kept.{match_of}
use Rattle.network_rounds.specs.Members.{Letter, heard, person, ready, acted, looked_all}
use Rattle.network_rounds.specs.Players.{Player}
use Rattle.network_rounds.specs.Working.{Given}
use Rattle.step_meanings.specs.Commands.{command_of}
use Rattle.script_steps.specs.Bounds.{Fits}
use Rattle.script_steps.specs.declared.step.Step.{Step}
use Rattle.network.specs.Commanded.{FollowCommands, AllFollow}
use Rattle.script_race.proofs.Walked.{races_keep}
use Rattle.network.specs.Entered.{oldest_first}

module _ {P : Type 0} (ways : Ways P) (commands : ℕ → Option Command) (follows : P → Type 0) (kept : FollowCommands ways commands follows) where
  heard_if : (bytes : List ℕ) (m : MemberOf P) (b : Bool) → follows m.node → follows (cond b (handed ways bytes m) m).node
  heard_if bytes m true f = kept.handled bytes m.node f
  heard_if bytes m false f = f

  heard_kept : (who : List ℕ) (post : List Letter) (m : MemberOf P) → follows m.node → follows (fold (heard ways who) m post).node
  heard_kept who [] m f = f
  heard_kept who (letter ∷ post) m f = heard_kept who post (heard ways who m letter) (heard_if letter.1 m (bytes_eq letter.0 who) f)

  look_kept : (seen : List Entry) (place : ℕ) (m : MemberOf P) (o : Option Lookout) → follows m.node → follows (looks_with ways seen place m o).node
  look_kept seen place m None f = f
  look_kept seen place m (Some l) f = kept.watched _ place _ m.node f

  looks_kept : (place : ℕ) (all : List (List Entry)) (m : MemberOf P) → follows m.node → follows (looked_all ways place all m).node
  looks_kept place [] m f = f
  looks_kept place (seen ∷ rest) m f = looks_kept (suc place) rest (looks ways seen place m) (look_kept seen place m (slice_get m.watchers place) f)

  ran_kept : (post : List Letter) (h later : List Entry) (m after : MemberOf P) (sent : List Letter) (gave : List Given) → NodeRan ways post h later m after sent gave
      → follows m.node → follows after.node
  ran_kept post h later m after sent gave ran f =
      subst (λ (x : MemberOf P). follows x.node) (sym ran.is)
      (looks_kept 0 ran.looks (acted ways post ran.seen m)
      (kept.ticked (ready ways post ran.seen m).node (heard_kept (person ways m) post (sees ways ran.seen m) (kept.saw _ m.node f))))

  pub round_kept : (s t : RaceOf P) → RunsRound ways s t → AllFollow follows s.scene.world → AllFollow follows t.scene.world
  round_kept s t ran all = subst (λ (x : RaceOf P). AllFollow follows x.scene.world) (sym ran.is) after
    where
      h : List Entry
      h = oldest_first s.scene.world.history

      after : AllFollow follows (timed ways s.scene ran.crew ran.later).world
      after m i =
          let f = match_of (NodeRan ways s.scene.post h ran.later) s.scene.world.members ran.crew.nodes ran.round.sent ran.round.gave m ran.round.nodes i in
          ran_kept s.scene.post h ran.later f.x m f.z f.w f.holds (all f.x f.there)

pub races_follow_commands : {P : Type 0} (ways : Ways P) (follows : (ℕ → Option Command) → P → Type 0)
    → ((commands : ℕ → Option Command) → FollowCommands ways commands (follows commands))
    → (steps : List Step) (cast : List Player) (t : RaceOf P) → All Fits steps → IsRaceOf ways steps cast t → AllFollow (follows (command_of steps)) t.scene.world
races_follow_commands ways follows kept steps cast t fit is =
    races_keep ways (AllFollow (follows (command_of steps))) steps cast t (commands_kept ways (command_of steps) (follows (command_of steps)) (kept (command_of steps)))
    (round_kept ways (command_of steps) (follows (command_of steps)) (kept (command_of steps))) fit is
