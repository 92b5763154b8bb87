use Rattle.std.proofs.Common.{◌≡◌, ℕ, ◌+◌, ◌<◌, true, List, length, map, drop, get_or, refl, sym, ◌∙◌, ap, subst, arith, rules}
use Rattle.std.specs.List.{cons_option}
use Rattle.std.specs.Prelude.{Option}
use Rattle.std.proofs.lemmas.List.Sums.{sum_by-drop_more}
use Rattle.network_rounds.specs.Views.{player_of}
use Rattle.script_race.proofs.Staying.{ends_stay}
use Rattle.script_race.specs.Races.{RaceOf, stage_of, DoesAs, Races}
use Rattle.network_rounds.specs.Races.{IsRacing}
use Rattle.step_meanings.specs.Meanings.{meaning}
use Rattle.script_play.proofs.Steps.{signers_go_on}
use Rattle.script_play.specs.Play.{numbered}
use Rattle.script_race.proofs.Lasting.{no_notes, starts_racing, plays_on, races_on, races_end}
use Rattle.script_race.specs.Driving.{race_of}
use Rattle.script_steps.specs.Bounds.{Fits, persons, signers_of}
use Rattle.script_steps.specs.Conditions.{signer_of, runs_in_race}
use Rattle.script_steps.specs.declared.step.Step.{Step}
use Rattle.lms_signatures.specs.Signing.{Signing}
use Rattle.script_race.proofs.replay.race.Goals as goal

-- the signer that is taken is the step's, and the later ones stay
taken : (step : Step) (steps : List Step) (i : ℕ) (old new : List Signing) (result : Option Signing) → i < length steps → step ≡ get_or steps i step
    → old ≡ signers_of (drop i steps)
    → ((later : List Signing) → old ≡ cons_option (signer_of step) later → (result ≡ signer_of step) × (new ≡ later))
    → (result ≡ signer_of step) × (new ≡ signers_of (drop (i + 1) steps))
taken step steps i old new result inside is before take =
    take (signers_of (drop (i + 1) steps)) (before ∙ signers_go_on steps i step inside ∙ ap (λ x. cons_option (signer_of x) (signers_of (drop (i + 1) steps))) (sym is))

pub loop-step-init : goal.loop-step-init
loop-step-init g c =
    let ways = g.P.Party.ways in
    let player = player_of (λ b. (goal.Actor-dyn g (b.vtable, b.value)).tells b.value) (λ b. (goal.Actor-dyn g (b.vtable, b.value)).told b.value) in
    let starts = c.in_ok-race.ensures.starts in
    let none = no_notes player c.args.cast.items c.requires.unseen in
    record {
      fresh = search rules;
      number = refl;
      raced = λ t r. r;
      seated = c.in_ok-race.ensures.seated;
      racing = subst (λ (r : RaceOf g.row.P.Denot). IsRacing ways g.P.Party.stands g.P.Party.lost (stage_of r)) (sym starts)
          (starts_racing ways g.P.Party.stands g.P.Party.lost (map player c.args.cast.items) none);
      few = omega (arith, ap (λ (r : RaceOf g.row.P.Denot). length r.scene.names.people) starts, c.requires.few);
    }

pub play_step-requires-clause-fresh : goal.play_step-requires-clause-fresh
play_step-requires-clause-fresh g c = λ κs out.
    (taken c.step-item.result c.args.steps.now c.loop-step.step-index c.loop-step.signers.items c.signer_for-signer.new.signers.items c.signer_for-signer.result c.loop-step-test.true c.step-item.is c.loop-step.invariant.fresh c.signer_for-signer.ensures).0

pub play_step-requires-clause-fits : goal.play_step-requires-clause-fits
play_step-requires-clause-fits g c = λ κs out.
    subst (λ (x : Step). Fits x) (sym c.step-item.is) (c.requires.fit c.loop-step.step-index c.step-item.result c.loop-step-test.true)

pub play_step-requires-clause-may_race : goal.play_step-requires-clause-may_race
play_step-requires-clause-may_race g c = λ κs out.
    subst (λ (x : Step). runs_in_race x ≡ true) (sym c.step-item.is) (c.requires.may_race c.loop-step.step-index c.step-item.result c.loop-step-test.true)

pub play_step-requires-clause-few : goal.play_step-requires-clause-few
play_step-requires-clause-few g c = λ κs out.
    omega (arith, c.loop-step.invariant.few, ap persons c.step-item.is, sum_by-drop_more persons c.args.steps.now c.loop-step.step-index c.step-item.result c.loop-step-test.true)

pub play_step-requires-clause-racing : goal.play_step-requires-clause-racing
play_step-requires-clause-racing g c = λ κs out. c.loop-step.invariant.racing

pub see_all-requires-clause-racing : goal.see_all-requires-clause-racing
see_all-requires-clause-racing g c = λ κs out. c.loop-step.invariant.racing

pub loop-step-preserved : goal.loop-step-preserved
loop-step-preserved g c =
    let ways = g.P.Party.ways in
    let steps = c.args.steps.now in
    let i = c.loop-step.step-index in
    let step = c.step-item.result in
    let n = c.loop-step.number in
    let before = race_of (λ b. (goal.Actor-dyn g b).tells b.1) (λ b. (goal.Actor-dyn g b).told b.1) c.loop-step.race in
    let after = race_of (λ b. (goal.Actor-dyn g b).tells b.1) (λ b. (goal.Actor-dyn g b).told b.1) c.play_step.new.self in
    let inside = c.loop-step-test.true in
    let fit = subst (λ (x : Step). Fits x) (sym c.step-item.is) (c.requires.fit i step inside) in
    let may = subst (λ (x : Step). runs_in_race x ≡ true) (sym c.step-item.is) (c.requires.may_race i step inside) in
    let does = subst (λ (x : Step). DoesAs ways (n + 1) (meaning c.loop-step.race.names x) before after) c.step-item.is c.in_ok-play_step.ensures.does in
    record {
      fresh = (taken step steps i c.loop-step.signers.items c.signer_for-signer.new.signers.items c.signer_for-signer.result inside c.step-item.is c.loop-step.invariant.fresh c.signer_for-signer.ensures).1;
      number = omega (arith, c.loop-step.invariant.number);
      raced = λ t r. c.loop-step.invariant.raced t (races_on ways (n + 1) steps i step before after t inside does r);
      seated = c.in_ok-play_step.ensures.seated;
      racing = plays_on ways g.P.Party.stands g.P.Party.lost c.requires.keep (n + 1) step before after fit may c.loop-step.invariant.racing c.in_ok-play_step.ensures.does;
      few = omega (arith, c.in_ok-play_step.ensures.people, c.loop-step.invariant.few, ap persons c.step-item.is, sum_by-drop_more persons steps i step inside);
    }

pub returns-clause-raced : goal.returns-clause-raced
returns-clause-raced g c =
    let ways = g.P.Party.ways in
    let last = race_of (λ b. (goal.Actor-dyn g b).tells b.1) (λ b. (goal.Actor-dyn g b).told b.1) c.loop-step.race in
    let steps = c.args.steps.now in
    let raced = c.loop-step.invariant.raced last (races_end ways (c.loop-step.number + 1) steps c.loop-step.step-index last (omega (arith, c.loop-step-test.false))) in
    record {
      last = last;
      races = subst (λ (r : RaceOf g.row.P.Denot). Races ways (numbered 1 steps) r last) c.in_ok-race.ensures.starts raced;
      is = c.in_ok-see_all.ensures.turns;
    }

pub returns-clause-racing : goal.returns-clause-racing
returns-clause-racing g c =
    let last = race_of (λ b. (goal.Actor-dyn g b).tells b.1) (λ b. (goal.Actor-dyn g b).told b.1) c.loop-step.race in
    subst (λ (r : RaceOf g.row.P.Denot). IsRacing g.P.Party.ways g.P.Party.stands g.P.Party.lost (stage_of r)) (sym c.in_ok-see_all.ensures.turns)
    (ends_stay g.P.Party.ways g.P.Party.stands g.P.Party.lost c.requires.keep.kept c.requires.keep.writes last c.loop-step.invariant.racing)
