-- The channel opens, payments are held, rounds rest, and it closes.
use Rattle.std.proofs.Common.{◌≡◌, ℕ, suc, ◌+◌, ◌-◌, ◌%◌, ◌<◌, ◌≤◌, Bool, true, false, not, refl, arith}
use Rattle.std.specs.Prelude.{nat_lt, nat_le, Some}
use Rattle.std.proofs.lemmas.Bool.Decides.{nat_tests}
use Rattle.channel_safety.proofs.Tests.{le-true}
use Rattle.network.specs.declared.command.Command.TheVariants.{Pay}
use Rattle.channel_node.specs.Playing.{SignerOf, signing_of}
use Rattle.node_guarantees.specs.Ways.{Numbered, ways}
use Rattle.script_play.specs.Play.{SceneOf, play_round, told}
use Rattle.step_meanings.specs.declared.names.Names.{Names}
use Rattle.support_rules.specs.Real.{real}
use Rattle.script_run.proofs.Allowed.{Allowed, allowed_a, allowed_b}
use Rattle.script_run.proofs.PairNumbers.{is-below, one-less, later, odd-then, even-then, sum-a, sum-b}
use Rattle.script_run.proofs.Running.{Runs, PaysA, PaysB}
use Rattle.script_run.specs.Entries.{deposits}
use Rattle.script_run.specs.Pair.{mark, state}
use Rattle.script_run.specs.TwoPeople.{Pair, name}
use Rattle.script_run.proofs.Finishing.{closes}
use Rattle.script_run.proofs.Fitting.{fits}
use Rattle.script_run.proofs.Opens.{idle_a, idle_b, opens, same}
use Rattle.script_run.proofs.PairPayments.{by_a, by_b, paid_by_a, paid_by_b}
use Rattle.script_run.proofs.Phases.{Fits, signature, sig_2, sig_3}
use Rattle.script_run.proofs.Scenes.{scene_round}
use Rattle.script_run.proofs.Starting.{both_told}
use Rattle.script_run.proofs.Steps.{can_pay}
use Rattle.script_run.specs.Finish.{AreMade, AreTwo, told_both}
use Rattle.script_run.specs.Phases.{TwoOpen, PaymentsAreHeld, RoundsRest, TwoClose}
use Rattle.script_run.specs.Standing.{Standing}

-- ---- the opening

less-one : (n limit : ℕ) → suc n < limit → n < limit
less-one n limit h = omega arith

pub two_open : TwoOpen
two_open p sa sb names ua ub opening s made two room_a room_b start =
    let w : Fits p sa sb = fits p sa sb made in
    let la : ℕ = (signing_of sa).limit in
    let lb : ℕ = (signing_of sb).limit in
    record {
      before = 2;
      u = p.a;
      v = p.b;
      ga = sig_2 p sa sb ua ub w;
      gb = sig_3 p sa sb ua ub w;
      last_a = Some (state p 2 false p.a p.b);
      last_b = Some (state p 3 false p.a p.b);
      late = refl;
      whose = refl;
      sum = refl;
      at = opens p sa sb ua ub names (told_both p opening s) w two (is-below ua la (less-one ua la room_a)) (is-below (suc ua) la room_a) (is-below ub lb (less-one ub lb room_b)) (is-below (suc ub) lb room_b)
          (both_told p sa sb names ua ub opening s w start);
    }

-- ---- a payment that isn't refused

left : (limit used : ℕ) → nat_le limit used ≡ false → nat_lt used limit ≡ true
left limit used e = grind (arith, nat_tests)

not-both : (n : ℕ) → n ≡ 0 → n ≡ 1 → ⊥
not-both n e f = omega arith

held_a : (p : Pair) (sa sb : SignerOf) (names : Names) (next_a : Bool) (turn x y ua ub step amount : ℕ) (s : SceneOf Numbered) → AreMade p sa sb → AreTwo p names.people
    → (st : Standing p sa sb names next_a turn x y ua ub s) → Allowed turn 0 x amount (signing_of sa).limit ua
    → Standing p sa sb names (not next_a) (turn + 1) (x - amount) (y + amount) (suc ua) ub (play_round ways (told ways step (Pay (name real p) p.asset amount) s 1))
held_a p sa sb names false turn x y ua ub step amount s made two st ok = absurd (not-both ((turn + 1) % 2) ok.turns st.whose)
held_a p sa sb names true turn x y ua ub step amount s made two st ok =
    let w : Fits p sa sb = fits p sa sb made in
    let enough : amount ≤ x = le-true amount x ok.covered in
    let pay : PaysA real p turn x y amount = record {
      runs = record { late = st.late; set_up = one-less turn st.late };
      early = ok.early;
      covered = ok.covered;
      turns = st.whose;
      step = (can_pay p w.begins.apart).by_first turn x y amount st.late enough st.whose;
    } in
    record {
      before = turn;
      u = x;
      v = y;
      ga = signature p sa ua (by_a p turn x y amount);
      gb = st.gb;
      last_a = Some (by_a p turn x y amount);
      last_b = st.last_b;
      late = later turn st.late;
      whose = odd-then turn st.whose;
      sum = sum-a x y amount (p.a + p.b) enough st.sum;
      at = paid_by_a p sa sb ua ub st.before turn st.u st.v x y amount step st.ga st.gb st.last_a st.last_b names s w two pay st.sum (left (signing_of sa).limit ua ok.unspent) st.at;
    }

held_b : (p : Pair) (sa sb : SignerOf) (names : Names) (next_a : Bool) (turn x y ua ub step amount : ℕ) (s : SceneOf Numbered) → AreMade p sa sb → AreTwo p names.people
    → (st : Standing p sa sb names next_a turn x y ua ub s) → Allowed turn 1 y amount (signing_of sb).limit ub
    → Standing p sa sb names (not next_a) (turn + 1) (x + amount) (y - amount) ua (suc ub) (play_round ways (told ways step (Pay (name real p) p.asset amount) s 2))
held_b p sa sb names true turn x y ua ub step amount s made two st ok = absurd (not-both ((turn + 1) % 2) st.whose ok.turns)
held_b p sa sb names false turn x y ua ub step amount s made two st ok =
    let w : Fits p sa sb = fits p sa sb made in
    let enough : amount ≤ y = le-true amount y ok.covered in
    let pay : PaysB real p turn x y amount = record {
      runs = record { late = st.late; set_up = one-less turn st.late };
      early = ok.early;
      covered = ok.covered;
      turns = st.whose;
      step = (can_pay p w.begins.apart).by_second turn x y amount st.late enough st.whose;
    } in
    record {
      before = turn;
      u = x;
      v = y;
      ga = st.ga;
      gb = signature p sb ub (by_b p turn x y amount);
      last_a = st.last_a;
      last_b = Some (by_b p turn x y amount);
      late = later turn st.late;
      whose = even-then turn st.whose;
      sum = sum-b x y amount (p.a + p.b) enough st.sum;
      at = paid_by_b p sa sb ua ub st.before turn st.u st.v x y amount step st.ga st.gb st.last_a st.last_b names s w two pay st.sum (left (signing_of sb).limit ub ok.unspent) st.at;
    }

pub payments_are_held : PaymentsAreHeld
payments_are_held p sa sb names true turn x y ua ub step amount s made two st = (
  λ e. held_a p sa sb names true turn x y ua ub step amount s made two st (allowed_a real p (signing_of sa).limit ua st.last_a (mark 0 st.ga) (mark 1 st.gb) st.before turn st.u st.v x y amount e),
  λ e. held_b p sa sb names true turn x y ua ub step amount s made two st (allowed_b real p (signing_of sb).limit ub st.last_b (mark 0 st.ga) (mark 1 st.gb) st.before turn st.u st.v x y amount (fits p sa sb made).begins.apart e),
)
payments_are_held p sa sb names false turn x y ua ub step amount s made two st = (
  λ e. held_a p sa sb names false turn x y ua ub step amount s made two st (allowed_a real p (signing_of sa).limit ua st.last_a (mark 1 st.ga) (mark 0 st.gb) st.before turn st.u st.v x y amount e),
  λ e. held_b p sa sb names false turn x y ua ub step amount s made two st (allowed_b real p (signing_of sb).limit ub st.last_b (mark 1 st.ga) (mark 0 st.gb) st.before turn st.u st.v x y amount (fits p sa sb made).begins.apart e),
)

-- ---- rounds in which nothing was told

pub rounds_rest : RoundsRest
rounds_rest p sa sb names true turn x y ua ub s made two st =
    let runs : Runs p turn x y = record { late = st.late; set_up = one-less turn st.late } in
    record {
      before = st.before;
      u = st.u;
      v = st.v;
      ga = st.ga;
      gb = st.gb;
      last_a = st.last_a;
      last_b = st.last_b;
      late = st.late;
      whose = st.whose;
      sum = st.sum;
      at = scene_round p names (deposits real p) (deposits real p) two st.at refl refl (idle_a p sa ua st.before turn st.u st.v x y (mark 0 st.ga) (mark 1 st.gb) st.last_a runs)
          (idle_b p sb ub st.before turn st.u st.v x y (mark 0 st.ga) (mark 1 st.gb) st.last_b runs) (same (deposits real p));
    }
rounds_rest p sa sb names false turn x y ua ub s made two st =
    let runs : Runs p turn x y = record { late = st.late; set_up = one-less turn st.late } in
    record {
      before = st.before;
      u = st.u;
      v = st.v;
      ga = st.ga;
      gb = st.gb;
      last_a = st.last_a;
      last_b = st.last_b;
      late = st.late;
      whose = st.whose;
      sum = st.sum;
      at = scene_round p names (deposits real p) (deposits real p) two st.at refl refl (idle_a p sa ua st.before turn st.u st.v x y (mark 1 st.ga) (mark 0 st.gb) st.last_a runs)
          (idle_b p sb ub st.before turn st.u st.v x y (mark 1 st.ga) (mark 0 st.gb) st.last_b runs) (same (deposits real p));
    }

-- ---- the end

pub two_close : TwoClose
two_close p sa sb names next_a turn x y ua ub step s made two room some_x some_y key_a key_b st =
    closes p sa sb names next_a turn x y ua ub step s (fits p sa sb made) two room some_x some_y (is-below ua (signing_of sa).limit key_a) (is-below ub (signing_of sb).limit key_b) st
