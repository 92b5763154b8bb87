-- The report of the parts of a race shows it and keeps its promises, and watchers were in time.
use Rattle.std.proofs.Common.{◌≡◌, ℕ, Bool, true, List, reverse, sym, ◌∙◌, ap, subst}
use Rattle.std.specs.Prelude.{All, Option, None}
use Rattle.std.proofs.lemmas.List.{reverse-reverse}
use Rattle.adjudicator.proofs.SharedSteps.{shared_legal}
use Rattle.channel_values.specs.Collisions.{NoneCollide}
use Rattle.call_history.specs.History.{Legal, newest_first}
use Rattle.call_history.specs.declared.entry.Entry.{Entry}
use Rattle.funding_plans.specs.Known.{FactsOf}
use Rattle.channel_safety.specs.Hashed.{hashed}
use Rattle.channel_safety.specs.Journals.{In, Line}
use Rattle.channel_safety.specs.Occurring.{AreValid}
use Rattle.channel_safety.specs.Premises.{InTime}
use Rattle.network.specs.Ways.{Ways}
use Rattle.network.specs.Entered.{oldest_first}
use Rattle.network.specs.Members.{MemberOf}
use Rattle.channel_node.specs.Places.{Told, lines_of}
use Rattle.play_report.proofs.Pairs.{in_all}
use Rattle.play_report.proofs.Promised.{tells_scene, promises, all_in_time}
use Rattle.play_report.specs.Members.{IsMade}
use Rattle.play_report.specs.Reported.{journal_of, events}
use Rattle.script_race.proofs.Opening.{commands_last}
use Rattle.channel_safety.specs.Races.{IsRaced}
use Rattle.script_race.specs.Races.{RaceOf, stage_of, IsRaceOf}
use Rattle.report_text.specs.declared.report.Report.{Report}
use Rattle.network_rounds.specs.Races.{IsRacing, Stage}
use Rattle.network_rounds.specs.Players.{Player}
use Rattle.step_meanings.specs.Commands.{command_of}
use Rattle.script_steps.specs.Bounds.{Fits}
use Rattle.script_steps.specs.Conditions.{runs_in_race}
use Rattle.script_steps.specs.declared.step.Step.{Step}
use Rattle.support_rules.specs.Real.{real}
use Rattle.node_guarantees.specs.Telling.{AreTold, HaveFixed, LinesAreTold, IsToldBy, TellsCommands, SharesAreReal, ExitsAreReal, FactsAreReal, ChallengesAreOwn, JournalsAreByRules, KeepsShares}
use Rattle.network.specs.Standing.{AreKept, Follows, IsWorld}
use Rattle.script_race.proofs.Followed.{races_follow_commands}
use Rattle.script_race.proofs.LastingChannels.{opens_lasting}
use Rattle.script_race.specs.Raced.{RacersAreInTime, IsOfRace}

module _ {P : Type 0} (ways : Ways P) (stands : List Entry → P → Type 0) (lost : P → Bool) where
  -- a history that was turned twice
  turned : (h : List Entry) → newest_first (oldest_first h) ≡ h
  turned h = reverse-reverse h

  pub world_of_race : (t : RaceOf P) → IsRacing ways stands lost (stage_of t) → IsWorld stands t.scene.world
  world_of_race t racing = record {
    legal = subst (Legal real) (turned h) (shared_legal real (oldest_first h) racing.crew.legal);
    nodes = λ m i. subst (λ (e : List Entry). stands e m.node) (turned h) ((racing.crew.nodes m i).node);
    watchers = λ m i l j. subst (λ (e : List Entry). Follows e l) (turned h) ((racing.crew.nodes m i).watchers l j);
  }
    where
      h : List Entry
      h = t.scene.world.history

-- a history that the seat of a race has seen is legal
pub race_is_legal : {P : Type 0} (ways : Ways P) (stands : List Entry → P → Type 0) (lost : P → Bool) (s : Stage P) (h past : List Entry)
    → IsRacing ways stands lost s → s.seen ≡ oldest_first past → newest_first h ≡ past → Legal real (newest_first h)
race_is_legal ways stands lost s h past racing seen is =
    subst (Legal real) (ap newest_first seen ∙ reverse-reverse past ∙ sym is) (shared_legal real s.seen racing.crew.legal)

pub is_of_race : {P : Type 0} (ways : Ways P) (stands : List Entry → P → Type 0) (lost : P → Bool) (shares : P → ℕ → ℕ) (exits : P → Option (List (ℕ × ℕ))) (facts : P → FactsOf) (told : P → List Told)
    → AreKept ways stands → ((p : P) → AreTold (ways.lines p) (reverse (ways.journal p))) → LinesAreTold ways told → TellsCommands ways told
    → SharesAreReal ways stands lost shares told → ExitsAreReal ways stands lost exits told → FactsAreReal ways stands lost facts told → JournalsAreByRules ways stands told → KeepsShares ways stands told
    → ChallengesAreOwn ways stands lost told
    → RacersAreInTime ways stands
    → (steps : List Step) → All Fits steps → All (λ (step : Step). runs_in_race step ≡ true) steps → (cast : List Player) (t : RaceOf P) (r : Report)
    → IsRaceOf ways steps cast t → IsRacing ways stands lost (stage_of t) → IsMade ways lost shares exits facts None r t.scene → IsOfRace ways cast r steps
is_of_race {P} ways stands lost shares exits facts told kept tells opens commands gets got knows rules holds owns timely steps fit may cast t r races racing made = record {
  race = t;
  races = races;
  tells = tells_scene ways stands lost shares exits facts told kept tells opens gets got knows rules holds (command_of steps) t.scene world by owns None r made;
  keeps = promises ways stands lost shares exits facts told kept tells opens gets got knows rules holds (command_of steps) t.scene world by owns None r made;
  in_time = all_in_time ways stands lost shares exits facts told kept tells opens gets got knows rules holds (command_of steps) t.scene world by owns None r made early;
}
  where
    world : IsWorld stands t.scene.world
    world = world_of_race ways stands lost t racing

    by : (m : MemberOf P) → In m t.scene.world.members → told m.node ≡ events (command_of steps) (journal_of ways m)
    by = races_follow_commands ways (IsToldBy ways told) commands steps cast t fit races

    past : List Entry
    past = newest_first r.history

    here : t.scene.world.history ≡ past
    here = sym made.history

    early : (m : MemberOf P) → In m t.scene.world.members → AreValid past (lines_of (ways.key m.node) (told m.node)) → NoneCollide (hashed past (lines_of (ways.key m.node) (told m.node)))
        → InTime real past (lines_of (ways.key m.node) (told m.node))
    early m i valid apart =
        let racer = racing.racers m i in
        let raced = subst (λ (h : List Entry). IsRaced h (ways.lines m.node) (stage_of t).ends) (reverse-reverse t.scene.world.history ∙ here) racer.raced in
        let lasting =
        opens_lasting (command_of steps) (commands_last steps fit may) (ways.key m.node) (ways.journal m.node) (ways.lines m.node)
        (opens m.node ∙ ap (lines_of (ways.key m.node)) (by m i))
        (in_all (λ (n : MemberOf P). HaveFixed (ways.lines n.node)) m t.scene.world.members made.fixed i) in
        subst (InTime real past) (opens m.node)
        (timely past m.node (stage_of t).ends (subst (Legal real) here world.legal) (subst (λ (h : List Entry). stands h m.node) here (world.nodes m i)) raced lasting
        (subst (AreValid past) (sym (opens m.node)) valid) (subst (λ (l : List Line). NoneCollide (hashed past l)) (sym (opens m.node)) apart))
