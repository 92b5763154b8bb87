-- Two honest nodes finish: they open, pay in turn and close, and are paid what they have then.
pub use Rattle.script_run.specs.Finish.{Enough, Finishes, asked_both}
use Rattle.std.proofs.Common.{◌≡◌, ℕ, suc, ◌+◌, ◌<◌, Bool, true, false, List, [], length, refl, arith}
use Rattle.std.specs.Prelude.{◌^◌, nat_lt, Some, None}
use Rattle.channel_values.specs.Parts.{StateParts}
use Rattle.history_view.specs.Views.{unseen}
use Rattle.channel_node.specs.Playing.{SignerOf, signing_of}
use Rattle.node_guarantees.specs.Ways.{Numbered, ways}
use Rattle.script_play.specs.Play.{SceneOf, play_rounds}
use Rattle.step_meanings.specs.declared.names.Names.{Names}
use Rattle.support_rules.specs.Real.{real}
use Rattle.script_run.proofs.PairNumbers.{is-below, one-less, later, odd-then, even-then}
use Rattle.script_run.specs.Pair.{mind, marks_a, marks_b, state}
use Rattle.script_run.specs.TwoPeople.{Pair}
use Rattle.script_run.proofs.Closing as closing
use Rattle.script_run.proofs.ClosingBySecond as second
use Rattle.script_run.proofs.Opens.{both, opens}
use Rattle.script_run.proofs.Paying.{Standing, all_covered, first_has, second_has, signs_first, signs_second, turns, paying, pays}
use Rattle.script_run.proofs.Phases.{Fits, signature, sig_2, sig_3}
use Rattle.script_run.proofs.Scenes.{AreTwo, At}
use Rattle.script_run.proofs.Steps.{can_pay, ends}
use Rattle.script_run.proofs.Supporting.{supported_a, supported_b, newer_than, not_newer}

pub closes : (p : Pair) (sa sb : SignerOf) (names : Names) (next_a : Bool) (turn x y ua ub step : ℕ) (s : SceneOf Numbered) → Fits p sa sb → AreTwo p names.people
    → turn + 3 < 2 ^ 48 → 0 < x → 0 < y → nat_lt ua (signing_of sa).limit ≡ true → nat_lt ub (signing_of sb).limit ≡ true
    → Standing p sa sb names next_a turn x y ua ub s → Finishes p sa sb names x y (play_rounds ways 6 (asked_both p step s))
closes p sa sb names true turn x y ua ub step s w two room some_x some_y key_a key_b st =
    let final_1 : StateParts = state p (turn + 1) true x y in
    let final_2 : StateParts = state p (turn + 1 + 1) true x y in
    let s1 : List ℕ = signature p sa ua final_1 in
    let s2 : List ℕ = signature p sb ub final_2 in
    let step_2 = ends p true (turn + 1) x y (later turn st.late) in
    let supported = supported_b p (turn + 1) x y s1 s2 (odd-then turn st.whose) step_2 (w.well_a ua final_1 key_a) (w.well_b ub final_2 key_b) in
    let e : closing.Ends p sa sb ua ub st.before turn st.u st.v x y st.ga st.gb st.last_a st.last_b w = record {
      runs = record { late = st.late; set_up = one-less turn st.late };
      room = room;
      whose = st.whose;
      sum = st.sum;
      some_x = some_x;
      some_y = some_y;
      key_a = key_a;
      key_b = key_b;
      step_1 = ends p false turn x y st.late;
      step_2 = step_2;
      supported = supported;
      newer = newer_than p (turn + 1) x y (marks_b s1 s2) (marks_a s1 st.gb) (state p turn false x y) supported;
      alike = not_newer p (turn + 1) x y (marks_b s1 s2) supported;
    } in
    record {
      history = closing.h5 p sa sb ua ub st.before turn st.u st.v x y st.ga st.gb st.last_a st.last_b w;
      knowing = _;
      at = closing.stays_paid p sa sb ua ub st.before turn st.u st.v x y st.ga st.gb st.last_a st.last_b w names step s e two st.at;
      whole = closing.whole p sa sb ua ub st.before turn st.u st.v x y st.ga st.gb st.last_a st.last_b w;
      few = closing.few p sa sb ua ub st.before turn st.u st.v x y st.ga st.gb st.last_a st.last_b w;
      assets = closing.one_asset p sa sb ua ub st.before turn st.u st.v x y st.ga st.gb st.last_a st.last_b w;
      signer_a = refl;
      signer_b = refl;
      seen_a = refl;
      seen_b = refl;
      known_a = closing.first_knows p sa sb ua ub st.before turn st.u st.v x y st.ga st.gb st.last_a st.last_b w;
      known_b = closing.second_knows p sa sb ua ub st.before turn st.u st.v x y st.ga st.gb st.last_a st.last_b w;
      first_paid = closing.first_is_paid p sa sb ua ub st.before turn st.u st.v x y st.ga st.gb st.last_a st.last_b w;
      second_paid = closing.second_is_paid p sa sb ua ub st.before turn st.u st.v x y st.ga st.gb st.last_a st.last_b w;
      none_held = closing.nothing_is_held p sa sb ua ub st.before turn st.u st.v x y st.ga st.gb st.last_a st.last_b w st.sum;
    }
closes p sa sb names false turn x y ua ub step s w two room some_x some_y key_a key_b st =
    let final_1 : StateParts = state p (turn + 1) true x y in
    let final_2 : StateParts = state p (turn + 1 + 1) true x y in
    let s1 : List ℕ = signature p sb ub final_1 in
    let s2 : List ℕ = signature p sa ua final_2 in
    let step_2 = ends p true (turn + 1) x y (later turn st.late) in
    let supported = supported_a p (turn + 1) x y s1 s2 (even-then turn st.whose) step_2 (w.well_b ub final_1 key_b) (w.well_a ua final_2 key_a) in
    let e : second.Ends p sa sb ua ub st.before turn st.u st.v x y st.ga st.gb st.last_a st.last_b w = record {
      runs = record { late = st.late; set_up = one-less turn st.late };
      room = room;
      whose = st.whose;
      sum = st.sum;
      some_x = some_x;
      some_y = some_y;
      key_a = key_a;
      key_b = key_b;
      step_1 = ends p false turn x y st.late;
      step_2 = step_2;
      supported = supported;
      newer = newer_than p (turn + 1) x y (marks_a s2 s1) (marks_b st.ga s1) (state p turn false x y) supported;
      alike = not_newer p (turn + 1) x y (marks_a s2 s1) supported;
    } in
    record {
      history = second.h5 p sa sb ua ub st.before turn st.u st.v x y st.ga st.gb st.last_a st.last_b w;
      knowing = _;
      at = second.stays_paid p sa sb ua ub st.before turn st.u st.v x y st.ga st.gb st.last_a st.last_b w names step s e two st.at;
      whole = second.whole p sa sb ua ub st.before turn st.u st.v x y st.ga st.gb st.last_a st.last_b w;
      few = second.few p sa sb ua ub st.before turn st.u st.v x y st.ga st.gb st.last_a st.last_b w;
      assets = second.one_asset p sa sb ua ub st.before turn st.u st.v x y st.ga st.gb st.last_a st.last_b w;
      signer_a = refl;
      signer_b = refl;
      seen_a = refl;
      seen_b = refl;
      known_a = second.first_knows p sa sb ua ub st.before turn st.u st.v x y st.ga st.gb st.last_a st.last_b w;
      known_b = second.second_knows p sa sb ua ub st.before turn st.u st.v x y st.ga st.gb st.last_a st.last_b w;
      first_paid = second.first_is_paid p sa sb ua ub st.before turn st.u st.v x y st.ga st.gb st.last_a st.last_b w;
      second_paid = second.second_is_paid p sa sb ua ub st.before turn st.u st.v x y st.ga st.gb st.last_a st.last_b w;
      none_held = second.nothing_is_held p sa sb ua ub st.before turn st.u st.v x y st.ga st.gb st.last_a st.last_b w st.sum;
    }

-- ---- the whole

below-first : (u n limit : ℕ) → suc (suc u) + n < limit → u < limit
below-first u n limit h = omega arith

below-second : (u n limit : ℕ) → suc (suc u) + n < limit → suc u < limit
below-second u n limit h = omega arith

enough-turns : (n limit : ℕ) → 6 + n < limit → 3 + n + 1 < limit
enough-turns n limit h = omega arith

last-turns : (n limit : ℕ) → 6 + n < limit → 3 + n + 3 < limit
last-turns n limit h = omega arith

-- Both have just been told to open: eight rounds, payments that are covered, each followed by a round, and Close with
-- three rounds pay both exactly.
pub two_finish : (p : Pair) (sa sb : SignerOf) (names : Names) (ua ub step last : ℕ) (amounts : List ℕ) (s : SceneOf Numbered) → Fits p sa sb → AreTwo p names.people
    → Enough sa sb ua ub amounts → all_covered true p.a p.b amounts → 0 < first_has true p.a p.b amounts → 0 < second_has true p.a p.b amounts
    → At names [] (both p sa sb ua ub (mind real p 0 p.key_a false unseen [] [] None) (mind real p 1 p.key_b false unseen [] [] None)) [] s
    → Finishes p sa sb names (first_has true p.a p.b amounts) (second_has true p.a p.b amounts) (play_rounds ways 6 (asked_both p last (paying p true step amounts (play_rounds ways 8 s))))
two_finish p sa sb names ua ub step last amounts s w two room covered some_x some_y start =
    let la : ℕ = (signing_of sa).limit in
    let lb : ℕ = (signing_of sb).limit in
    let opened = opens p sa sb ua ub names s w two (is-below ua la (below-first ua (signs_first true amounts) la room.first)) (is-below (suc ua) la (below-second ua (signs_first true amounts) la room.first))
    (is-below ub lb (below-first ub (signs_second true amounts) lb room.second)) (is-below (suc ub) lb (below-second ub (signs_second true amounts) lb room.second)) start in
    let stands : Standing p sa sb names true 3 p.a p.b (suc (suc ua)) (suc (suc ub)) (play_rounds ways 8 s) = record {
      before = 2;
      u = p.a;
      v = p.b;
      ga = sig_2 p sa sb ua ub w;
      gb = sig_3 p sa sb ua ub w;
      last_a = Some (state p 2 false p.a p.b);
      last_b = Some (state p 3 false p.a p.b);
      late = refl;
      whose = refl;
      sum = refl;
      at = opened;
    } in
    let paid = pays p sa sb names true 3 p.a p.b (suc (suc ua)) (suc (suc ub)) step amounts (play_rounds ways 8 s) w (can_pay p w.begins.apart) two covered
    (record { turns = enough-turns (length amounts) (2 ^ 48) room.turns; first = room.first; second = room.second }) stands in
    closes p sa sb names (turns true amounts) (3 + length amounts) (first_has true p.a p.b amounts) (second_has true p.a p.b amounts) (suc (suc ua) + signs_first true amounts) (suc (suc ub) + signs_second true amounts) last
    (paying p true step amounts (play_rounds ways 8 s)) w two (last-turns (length amounts) (2 ^ 48) room.turns) some_x some_y
    (is-below (suc (suc ua) + signs_first true amounts) la room.first) (is-below (suc (suc ub) + signs_second true amounts) lb room.second) paid
