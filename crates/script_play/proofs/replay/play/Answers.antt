use Rattle.std.proofs.Common.{◌≡◌, ℕ, ◌+◌, ◌<◌, List, length, get_or, refl, sym, ◌∙◌, ap, arith, rules, drop, fold}
use Rattle.std.specs.List.{cons_option}
use Rattle.std.specs.Prelude.{Option}
use Rattle.std.proofs.lemmas.List.Sums.{sum_by-drop_more}
use Rattle.lms_signatures.specs.Signing.{Signing}
use Rattle.script_steps.specs.Bounds.{persons, signers_of}
use Rattle.script_play.specs.Growth.{weight}
use Rattle.script_steps.specs.Conditions.{signer_of}
use Rattle.script_play.proofs.Weights.{has_room}
use Rattle.script_play.specs.Play.{SceneOf, numbered, played}
use Rattle.script_steps.specs.declared.step.Step.{Step}
use Rattle.script_play.proofs.Steps.{goes_on, signers_go_on}
use Rattle.script_play.proofs.replay.play.Goals as goal

-- the signer that is taken is the step's, and the later ones stay
taken : (step : Step) (steps : List Step) (i : ℕ) (old new : List Signing) (result : Option Signing) → i < length steps → step ≡ get_or steps i step
    → old ≡ signers_of (drop i steps)
    → ((later : List Signing) → old ≡ cons_option (signer_of step) later → (result ≡ signer_of step) × (new ≡ later))
    → (result ≡ signer_of step) × (new ≡ signers_of (drop (i + 1) steps))
taken step steps i old new result inside is before take =
    take (signers_of (drop (i + 1) steps)) (before ∙ signers_go_on steps i step inside ∙ ap (λ x. cons_option (signer_of x) (signers_of (drop (i + 1) steps))) (sym is))

pub loop-step-init : goal.loop-step-init
loop-step-init g c =
    let empty_scene = c.make-scene.ensures in
    record {
      fresh = search rules;
      number = refl;
      played = ap (λ (s : SceneOf g.row.P.Denot). fold (played g.P.Party.ways) s (numbered 1 c.args.steps.now)) empty_scene;
      room = omega (arith, ap (λ (s : SceneOf g.row.P.Denot). length s.world.history) empty_scene, has_room c.args.steps.now c.requires.short c.requires.rounds);
      few = omega (arith, ap (λ (s : SceneOf g.row.P.Denot). length s.names.people) empty_scene, c.requires.few);
    }

pub play_step-requires-clause-fresh : goal.play_step-requires-clause-fresh
play_step-requires-clause-fresh g c =
    (taken c.step-item.result c.args.steps.now c.loop-step.step-index c.loop-step.signers.items c.signer_for-signer.new.signers.items c.signer_for-signer.result c.loop-step-test.true c.step-item.is c.loop-step.invariant.fresh c.signer_for-signer.ensures).0

pub loop-step-preserved : goal.loop-step-preserved
loop-step-preserved g c =
    let ways = g.P.Party.ways in
    let steps = c.args.steps.now in
    let i = c.loop-step.step-index in
    let step = c.step-item.result in
    let n = c.loop-step.number in
    let stepped : c.play_step.new.self ≡ played ways c.loop-step.scene (n + 1, step) = c.in_ok-play_step.ensures.played in
    record {
      fresh = (taken step steps i c.loop-step.signers.items c.signer_for-signer.new.signers.items c.signer_for-signer.result c.loop-step-test.true c.step-item.is c.loop-step.invariant.fresh c.signer_for-signer.ensures).1;
      number = omega (arith, c.loop-step.invariant.number);
      played =
          ap (λ (s : SceneOf g.row.P.Denot). fold (played ways) s (numbered (n + 1 + 1) (drop (i + 1) steps))) stepped
          ∙ ap (λ (x : Step). fold (played ways) (played ways c.loop-step.scene (n + 1, x)) (numbered (n + 1 + 1) (drop (i + 1) steps))) c.step-item.is
          ∙ sym (goes_on ways c.loop-step.scene (n + 1) steps i step c.loop-step-test.true)
          ∙ c.loop-step.invariant.played;
      room = omega (arith, c.in_ok-play_step.ensures.grown, c.loop-step.invariant.room, ap weight c.step-item.is, sum_by-drop_more weight steps i step c.loop-step-test.true);
      few = omega (arith, c.in_ok-play_step.ensures.people, c.loop-step.invariant.few, ap persons c.step-item.is, sum_by-drop_more persons steps i step c.loop-step-test.true);
    }
