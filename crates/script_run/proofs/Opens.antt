-- The eight rounds in which a channel opens.
pub use Rattle.script_run.specs.Finish.{both}
pub use Rattle.script_run.specs.Standing.{a_runs, b_runs}
use Rattle.std.proofs.Common.{◌≡◌, ℕ, suc, ◌+◌, true, false, List, [], ◌∷◌, refl, ap}
use Rattle.std.specs.Prelude.{nat_lt, Option, Some, None}
use Rattle.channel_values.specs.Parts.{StateParts}
use Rattle.channel_values.specs.declared.chain.Mark.{Mark}
use Rattle.call_history.specs.Calls.{make_deposit}
use Rattle.call_history.specs.declared.call.Call.{Call}
use Rattle.call_history.specs.declared.call.Op.TheVariants as ops
use Rattle.call_history.specs.declared.entry.Entry.{Entry}
use Rattle.call_history.specs.declared.refusal.Reply.{Reply}
use Rattle.channel_values.specs.Digests.{name_of_person}
use Rattle.history_view.specs.Views.{unseen}
use Rattle.channel_node.specs.Minds.{Mind}
use Rattle.channel_node.specs.Playing.{SignerOf, signing_of}
use Rattle.node_guarantees.specs.Ways.{Numbered, ways}
use Rattle.script_play.specs.Play.{SceneOf, play_rounds}
use Rattle.step_meanings.specs.declared.names.Names.{Names}
use Rattle.support_rules.specs.Real.{real}
use Rattle.script_run.specs.Pair.{mind, mark, marks_b, state, funded}
use Rattle.script_run.specs.TwoPeople.{Pair, name}
use Rattle.script_run.proofs.Replies.{first_entry, second_entry, deposits, replies_first, replies_second}
use Rattle.script_run.proofs.Running.{Runs, rests, calls_nothing}
use Rattle.script_run.proofs.Nodes.{tick_waits}
use Rattle.script_run.proofs.Calming.{soothed, deposits_soothe}
use Rattle.script_run.proofs.Phases.{Fits, does, none_came, sig_2, sig_3, round_1_a, round_1_b, round_2_a, round_2_b, round_3_a, round_3_b, round_4_a, round_4_b, round_5_a, round_5_b, round_6_a, round_6_b}
use Rattle.script_run.proofs.Scenes.{AreTwo, At, scene_round}
use Rattle.script_run.specs.Rounds.{Does, StaysCalm}

-- nothing came, and nothing is done
pub idle_a : (p : Pair) (sa : SignerOf) (used before turn u v x y : ℕ) (m1 m2 : Mark) (last : Option StateParts) → Runs p turn x y
    → Does sa (name_of_person p.key_a) (deposits real p) [] (a_runs p false (state p before false u v) (state p turn false x y) (m1 ∷ m2 ∷ []) last) used
    (a_runs p false (state p before false u v) (state p turn false x y) (m1 ∷ m2 ∷ []) last) used [] []
idle_a p sa used before turn u v x y m1 m2 last runs =
    let m : Mind = a_runs p false (state p before false u v) (state p turn false x y) (m1 ∷ m2 ∷ []) last in
    does sa (name_of_person p.key_a) (deposits real p) [] m m m m used used [] [] refl (none_came sa (name_of_person p.key_a) m used)
    (λ j c. tick_waits real p (signing_of sa) sa 0 p.key_a false (funded real p) (state p before false u v ∷ state p turn false x y ∷ []) (m1 ∷ m2 ∷ []) last used j c []
    (rests real p 0 p.key_a last m1 m2 before turn u v x y runs) (calls_nothing real p 0 p.key_a last m1 m2 before turn u v x y runs))

pub idle_b : (p : Pair) (sb : SignerOf) (used before turn u v x y : ℕ) (m1 m2 : Mark) (last : Option StateParts) → Runs p turn x y
    → Does sb (name_of_person p.key_b) (deposits real p) [] (b_runs p false (state p before false u v) (state p turn false x y) (m1 ∷ m2 ∷ []) last) used
    (b_runs p false (state p before false u v) (state p turn false x y) (m1 ∷ m2 ∷ []) last) used [] []
idle_b p sb used before turn u v x y m1 m2 last runs =
    let m : Mind = b_runs p false (state p before false u v) (state p turn false x y) (m1 ∷ m2 ∷ []) last in
    does sb (name_of_person p.key_b) (deposits real p) [] m m m m used used [] [] refl (none_came sb (name_of_person p.key_b) m used)
    (λ j c. tick_waits real p (signing_of sb) sb 1 p.key_b false (funded real p) (state p before false u v ∷ state p turn false x y ∷ []) (m1 ∷ m2 ∷ []) last used j c []
    (rests real p 1 p.key_b last m1 m2 before turn u v x y runs) (calls_nothing real p 1 p.key_b last m1 m2 before turn u v x y runs))

pub same : (h : List Entry) → StaysCalm h h
same h eye c = c

-- after eight rounds the channel runs: both hold turns 2 and 3, and the history is the two deposits
pub opens : (p : Pair) (sa sb : SignerOf) (ua ub : ℕ) (names : Names) (s : SceneOf Numbered) (w : Fits p sa sb) → AreTwo p names.people
    → nat_lt ua (signing_of sa).limit ≡ true → nat_lt (suc ua) (signing_of sa).limit ≡ true → nat_lt ub (signing_of sb).limit ≡ true → nat_lt (suc ub) (signing_of sb).limit ≡ true
    → At names [] (both p sa sb ua ub (mind real p 0 p.key_a false unseen [] [] None) (mind real p 1 p.key_b false unseen [] [] None)) [] s
    → At names (deposits real p)
    (both p sa sb (suc (suc ua)) (suc (suc ub)) (a_runs p false (state p 2 false p.a p.b) (state p 3 false p.a p.b) (marks_b (sig_2 p sa sb ua ub w) (sig_3 p sa sb ua ub w)) (Some (state p 2 false p.a p.b)))
    (b_runs p false (state p 2 false p.a p.b) (state p 3 false p.a p.b) (marks_b (sig_2 p sa sb ua ub w) (sig_3 p sa sb ua ub w)) (Some (state p 3 false p.a p.b)))) [] (play_rounds ways 8 s)
opens p sa sb ua ub names s w two a0 a1 b0 b1 start =
    let runs : Runs p 3 p.a p.b = record { late = refl; set_up = refl } in
    let m1 : Mark = mark 0 (sig_2 p sa sb ua ub w) in
    let m2 : Mark = mark 1 (sig_3 p sa sb ua ub w) in
    let h1 : List Entry = first_entry real p 1 ∷ [] in
    let entered_1 = ap (λ (reply : Reply). record { number = 1; by = 1; op = ops.Call (make_deposit (name real p) p.asset 0 p.a); reply = reply } ∷ []) (replies_first real p w.begins w.small) in
    let entered_2 = ap (λ (reply : Reply). record { number = 2; by = 2; op = ops.Call (make_deposit (name real p) p.asset p.a p.b); reply = reply } ∷ h1) (replies_second real p 1 w.begins w.small) in
    let calm : StaysCalm [] (deposits real p) = λ eye c. soothed (second_entry real p 2) h1 (deposits_soothe 2 2 p.asset p.a p.b (p.a + p.b) (name real p)) eye
    (soothed (first_entry real p 1) [] (deposits_soothe 1 1 p.asset 0 p.a (0 + p.a) (name real p)) eye c) in
    let r1 = scene_round p names [] [] two start refl refl (round_1_a p sa sb ua ub w a0) (round_1_b p sa sb ua ub w) (same []) in
    let r2 = scene_round p names [] [] two r1 refl refl (round_2_a p sa sb ua ub w) (round_2_b p sa sb ua ub w a0 b0) (same []) in
    let r3 = scene_round p names h1 (deposits real p) two r2 entered_1 entered_2 (round_3_a p sa sb ua ub w b0) (round_3_b p sa sb ua ub w) calm in
    let r4 = scene_round p names (deposits real p) (deposits real p) two r3 refl refl (round_4_a p sa sb ua ub w a1) (round_4_b p sa sb ua ub w) (same (deposits real p)) in
    let r5 = scene_round p names (deposits real p) (deposits real p) two r4 refl refl (round_5_a p sa sb ua ub w) (round_5_b p sa sb ua ub w a1 b1) (same (deposits real p)) in
    let r6 = scene_round p names (deposits real p) (deposits real p) two r5 refl refl (round_6_a p sa sb ua ub w b1) (round_6_b p sa sb ua ub w) (same (deposits real p)) in
    let idle = idle_a p sa (suc (suc ua)) 2 3 p.a p.b p.a p.b m1 m2 (Some (state p 2 false p.a p.b)) runs in
    let rest = idle_b p sb (suc (suc ub)) 2 3 p.a p.b p.a p.b m1 m2 (Some (state p 3 false p.a p.b)) runs in
    let r7 = scene_round p names (deposits real p) (deposits real p) two r6 refl refl idle rest (same (deposits real p)) in
    scene_round p names (deposits real p) (deposits real p) two r7 refl refl idle rest (same (deposits real p))
