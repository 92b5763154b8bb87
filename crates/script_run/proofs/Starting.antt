-- The two are told to open, and then they finish.
pub use Rattle.script_run.specs.Finish.{told_both}
use Rattle.std.proofs.Common.{ℕ, ◌<◌, true, false, List, [], refl, ap}
use Rattle.std.specs.Prelude.{None}
use Rattle.history_view.specs.Views.{unseen}
use Rattle.network.specs.declared.command.Command.TheVariants.{Open}
use Rattle.channel_node.specs.Giving.{command_gives}
use Rattle.channel_node.specs.Minds.{fresh}
use Rattle.channel_node.specs.Playing.{SignerOf, signing_of}
use Rattle.stage_tables.specs.Stages.{stages}
use Rattle.node_guarantees.specs.Ways.{Numbered, ways}
use Rattle.script_play.specs.Play.{SceneOf, play_rounds, told}
use Rattle.step_meanings.specs.declared.names.Names.{Names}
use Rattle.support_rules.specs.Real.{real}
use Rattle.script_run.specs.Pair.{split, mind, node}
use Rattle.script_run.specs.TwoPeople.{Pair, fixed}
use Rattle.script_run.proofs.Nodes.{told_open}
use Rattle.script_run.proofs.Seeing.{opens_a, opens_b, opened_a, opened_b}
use Rattle.script_run.proofs.Finishing.{Finishes, Enough, asked_both, two_finish}
use Rattle.script_run.proofs.Opens.{both}
use Rattle.script_run.proofs.Paying.{all_covered, first_has, second_has, paying}
use Rattle.script_run.proofs.Phases.{Fits}
use Rattle.script_run.proofs.Scenes.{AreTwo, At, Obeys, scene_told_a, scene_told_b}

obeys_open_a : (p : Pair) (sa sb : SignerOf) (used : ℕ) → Fits p sa sb → Obeys sa [] (Open (fixed p) (split p p.a p.b)) (fresh p.key_a) used (mind real p 0 p.key_a false unseen [] [] None) used []
obeys_open_a p sa sb used w =
    record {
      stays = refl;
      seen = fresh p.key_a;
      sees = refl;
      becomes = λ step j c. told_open real p (signing_of sa) sa 0 p.key_a used step j c (split p p.a p.b) (opens_a real p (signing_of sa).limit used w.begins) (opened_a real p);
      answers = λ j c. ap (command_gives stages real (signing_of sa) 0 (Open (fixed p) (split p p.a p.b)) (node sa (fresh p.key_a) used j c)) (opens_a real p (signing_of sa).limit used w.begins);
    }

obeys_open_b : (p : Pair) (sa sb : SignerOf) (used : ℕ) → Fits p sa sb → Obeys sb [] (Open (fixed p) (split p p.a p.b)) (fresh p.key_b) used (mind real p 1 p.key_b false unseen [] [] None) used []
obeys_open_b p sa sb used w =
    record {
      stays = refl;
      seen = fresh p.key_b;
      sees = refl;
      becomes = λ step j c. told_open real p (signing_of sb) sb 1 p.key_b used step j c (split p p.a p.b) (opens_b real p (signing_of sb).limit used w.begins) (opened_b real p w.keys);
      answers = λ j c. ap (command_gives stages real (signing_of sb) 0 (Open (fixed p) (split p p.a p.b)) (node sb (fresh p.key_b) used j c)) (opens_b real p (signing_of sb).limit used w.begins);
    }

-- both were told to open
pub both_told : (p : Pair) (sa sb : SignerOf) (names : Names) (ua ub opening : ℕ) (s : SceneOf Numbered) → Fits p sa sb
    → At names [] (both p sa sb ua ub (fresh p.key_a) (fresh p.key_b)) [] s
    → At names [] (both p sa sb ua ub (mind real p 0 p.key_a false unseen [] [] None) (mind real p 1 p.key_b false unseen [] [] None)) [] (told_both p opening s)
both_told p sa sb names ua ub opening s w start =
    let t1 = scene_told_a names [] (both p sa sb ua ub (fresh p.key_a) (fresh p.key_b)) [] [] s opening (Open (fixed p) (split p p.a p.b)) (mind real p 0 p.key_a false unseen [] [] None) ua start (obeys_open_a p sa sb ua w) in
    scene_told_b names [] (both p sa sb ua ub (mind real p 0 p.key_a false unseen [] [] None) (fresh p.key_b)) [] [] (told ways opening (Open (fixed p) (split p p.a p.b)) s 1) opening (Open (fixed p) (split p p.a p.b))
    (mind real p 1 p.key_b false unseen [] [] None) ub t1 (obeys_open_b p sa sb ub w)

-- From two nodes that know nothing. They are told to open, eight rounds follow, then payments that are covered, each
-- followed by a round, and they are told to close. After six more rounds both are paid exactly.
pub honest_two_finish : (p : Pair) (sa sb : SignerOf) (names : Names) (opening step last : ℕ) (amounts : List ℕ) (s : SceneOf Numbered) → Fits p sa sb → AreTwo p names.people
    → Enough sa sb 0 0 amounts → all_covered true p.a p.b amounts → 0 < first_has true p.a p.b amounts → 0 < second_has true p.a p.b amounts
    → At names [] (both p sa sb 0 0 (fresh p.key_a) (fresh p.key_b)) [] s
    → Finishes p sa sb names (first_has true p.a p.b amounts) (second_has true p.a p.b amounts) (play_rounds ways 6 (asked_both p last (paying p true step amounts (play_rounds ways 8 (told_both p opening s)))))
honest_two_finish p sa sb names opening step last amounts s w two room covered some_x some_y start =
    two_finish p sa sb names 0 0 step last amounts (told_both p opening s) w two room covered some_x some_y (both_told p sa sb names 0 0 opening s w start)
