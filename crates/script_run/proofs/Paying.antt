-- Payments in turn, each followed by its round.
pub use Rattle.script_run.specs.Finish.{all_covered, first_has, second_has, signs_first, signs_second, paying}
pub use Rattle.script_run.specs.Standing.{Standing, marks_by, parity}
use Rattle.std.proofs.Common.{◌≡◌, ℕ, suc, ◌+◌, ◌-◌, ◌%◌, ◌<◌, ◌≤◌, Bool, true, false, not, List, [], ◌∷◌, length, refl, subst, arith}
use Rattle.std.specs.Prelude.{◌^◌, nat_lt, nat_le, Some, None}
use Rattle.std.proofs.lemmas.Bool.Decides.{nat_tests}
use Rattle.network.specs.declared.command.Command.TheVariants.{Pay}
use Rattle.channel_node.specs.Playing.{SignerOf, signing_of}
use Rattle.node_guarantees.specs.Ways.{Numbered, ways}
use Rattle.script_play.specs.Play.{SceneOf, play_round, told}
use Rattle.step_meanings.specs.declared.names.Names.{Names}
use Rattle.support_rules.specs.Real.{real}
use Rattle.script_run.proofs.PairNumbers.{is-below, one-less, later, odd-then, even-then, no-more, sum-a, sum-b}
use Rattle.script_run.specs.Pair.{state}
use Rattle.script_run.specs.TwoPeople.{Pair, fixed, name}
use Rattle.script_run.proofs.Running.{PaysA, PaysB}
use Rattle.script_run.proofs.PairPayments.{by_a, by_b, paid_by_a, paid_by_b}
use Rattle.script_run.proofs.Phases.{Fits, signature}
use Rattle.script_run.proofs.Scenes.{AreTwo}

-- whose turn it is then
abbrev pub turns : Bool → List ℕ → Bool
turns turn [] = turn
turns turn (amount ∷ rest) = turns (not turn) rest

-- payments are steps of the channel
pub record CanPay (p : Pair) : Type 0 where
  pub by_first : (turn x y amount : ℕ) → nat_le 3 turn ≡ true → amount ≤ x → (turn + 1) % 2 ≡ 0 → real.step (fixed p) (state p turn false x y) (state p (turn + 1) false (x - amount) (y + amount)) ≡ None
  pub by_second : (turn x y amount : ℕ) → nat_le 3 turn ≡ true → amount ≤ y → (turn + 1) % 2 ≡ 1 → real.step (fixed p) (state p turn false x y) (state p (turn + 1) false (x + amount) (y - amount)) ≡ None

is-covered : (a b : ℕ) → a ≤ b → nat_le a b ≡ true
is-covered a b h = grind (arith, nat_tests)

early : (turn n limit : ℕ) → turn + suc n + 1 < limit → turn + 1 < limit
early turn n limit h = omega arith

first-room : (used n limit : ℕ) → used + suc n < limit → used < limit
first-room used n limit h = omega arith

room-turns : (turn n limit : ℕ) → turn + suc n + 1 < limit → turn + 1 + n + 1 < limit
room-turns turn n limit h = omega arith

room-first : (used n limit : ℕ) → used + suc n < limit → suc used + n < limit
room-first used n limit h = omega arith

one-more : (turn n : ℕ) → turn + 1 + n ≡ turn + suc n
one-more turn n = omega arith

one-up : (used n : ℕ) → suc used + n ≡ used + suc n
one-up used n = omega arith

-- numbers that are equal
moved : (p : Pair) (sa sb : SignerOf) (names : Names) (next_a : Bool) (x y : ℕ) (s : SceneOf Numbered) (turn turn2 ua ua2 ub ub2 : ℕ) → turn ≡ turn2 → ua ≡ ua2 → ub ≡ ub2
    → Standing p sa sb names next_a turn x y ua ub s → Standing p sa sb names next_a turn2 x y ua2 ub2 s
moved p sa sb names next_a x y s turn turn2 ua ua2 ub ub2 t a b st =
    subst (λ (k : ℕ). Standing p sa sb names next_a turn2 x y ua2 k s) b (subst (λ (k : ℕ). Standing p sa sb names next_a turn2 x y k ub s) a (subst (λ (k : ℕ). Standing p sa sb names next_a k x y ua ub s) t st))

-- what is left of the keys and of the turns
pub record HasRoom (sa sb : SignerOf) (next_a : Bool) (turn ua ub : ℕ) (amounts : List ℕ) : Type 0 where
  pub turns : turn + length amounts + 1 < 2 ^ 48
  pub first : ua + signs_first next_a amounts < (signing_of sa).limit
  pub second : ub + signs_second next_a amounts < (signing_of sb).limit

-- after the payments both hold what the definition says
pub pays : (p : Pair) (sa sb : SignerOf) (names : Names) (next_a : Bool) (turn x y ua ub step : ℕ) (amounts : List ℕ) (s : SceneOf Numbered) → Fits p sa sb → CanPay p → AreTwo p names.people
    → all_covered next_a x y amounts → HasRoom sa sb next_a turn ua ub amounts → Standing p sa sb names next_a turn x y ua ub s
    → Standing p sa sb names (turns next_a amounts) (turn + length amounts) (first_has next_a x y amounts) (second_has next_a x y amounts) (ua + signs_first next_a amounts) (ub + signs_second next_a amounts) (paying p next_a step amounts s)
pays p sa sb names next_a turn x y ua ub step [] s w can two covered room st =
    moved p sa sb names next_a x y s turn (turn + 0) ua (ua + 0) ub (ub + 0) (no-more turn) (no-more ua) (no-more ub) st
pays p sa sb names true turn x y ua ub step (amount ∷ rest) s w can two (enough, covered) room st =
    let step_is = can.by_first turn x y amount st.late enough st.whose in
    let pay : PaysA real p turn x y amount = record {
      runs = record { late = st.late; set_up = one-less turn st.late };
      early = is-below (turn + 1) (2 ^ 48) (early turn (length rest) (2 ^ 48) room.turns);
      covered = is-covered amount x enough;
      turns = st.whose;
      step = step_is;
    } in
    let key : nat_lt ua (signing_of sa).limit ≡ true = is-below ua (signing_of sa).limit (first-room ua (signs_first false rest) (signing_of sa).limit room.first) in
    let next = paid_by_a p sa sb ua ub st.before turn st.u st.v x y amount step st.ga st.gb st.last_a st.last_b names s w two pay st.sum key st.at in
    let now : Standing p sa sb names false (turn + 1) (x - amount) (y + amount) (suc ua) ub (play_round ways (told ways step (Pay (name real p) p.asset amount) s 1)) = record {
      before = turn;
      u = x;
      v = y;
      ga = signature p sa ua (by_a p turn x y amount);
      gb = st.gb;
      last_a = Some (by_a p turn x y amount);
      last_b = st.last_b;
      late = later turn st.late;
      whose = odd-then turn st.whose;
      sum = sum-a x y amount (p.a + p.b) enough st.sum;
      at = next;
    } in
    moved p sa sb names (turns false rest) (first_has false (x - amount) (y + amount) rest) (second_has false (x - amount) (y + amount) rest) (paying p false (step + 2) rest (play_round ways (told ways step (Pay (name real p) p.asset amount) s 1)))
    (turn + 1 + length rest) (turn + suc (length rest)) (suc ua + signs_first false rest) (ua + suc (signs_first false rest)) (ub + signs_second false rest) (ub + signs_second false rest)
    (one-more turn (length rest)) (one-up ua (signs_first false rest)) refl
    (pays p sa sb names false (turn + 1) (x - amount) (y + amount) (suc ua) ub (step + 2) rest (play_round ways (told ways step (Pay (name real p) p.asset amount) s 1)) w can two covered
    (record { turns = room-turns turn (length rest) (2 ^ 48) room.turns; first = room-first ua (signs_first false rest) (signing_of sa).limit room.first; second = room.second }) now)
pays p sa sb names false turn x y ua ub step (amount ∷ rest) s w can two (enough, covered) room st =
    let step_is = can.by_second turn x y amount st.late enough st.whose in
    let pay : PaysB real p turn x y amount = record {
      runs = record { late = st.late; set_up = one-less turn st.late };
      early = is-below (turn + 1) (2 ^ 48) (early turn (length rest) (2 ^ 48) room.turns);
      covered = is-covered amount y enough;
      turns = st.whose;
      step = step_is;
    } in
    let key : nat_lt ub (signing_of sb).limit ≡ true = is-below ub (signing_of sb).limit (first-room ub (signs_second true rest) (signing_of sb).limit room.second) in
    let next = paid_by_b p sa sb ua ub st.before turn st.u st.v x y amount step st.ga st.gb st.last_a st.last_b names s w two pay st.sum key st.at in
    let now : Standing p sa sb names true (turn + 1) (x + amount) (y - amount) ua (suc ub) (play_round ways (told ways step (Pay (name real p) p.asset amount) s 2)) = record {
      before = turn;
      u = x;
      v = y;
      ga = st.ga;
      gb = signature p sb ub (by_b p turn x y amount);
      last_a = st.last_a;
      last_b = Some (by_b p turn x y amount);
      late = later turn st.late;
      whose = even-then turn st.whose;
      sum = sum-b x y amount (p.a + p.b) enough st.sum;
      at = next;
    } in
    moved p sa sb names (turns true rest) (first_has true (x + amount) (y - amount) rest) (second_has true (x + amount) (y - amount) rest) (paying p true (step + 2) rest (play_round ways (told ways step (Pay (name real p) p.asset amount) s 2)))
    (turn + 1 + length rest) (turn + suc (length rest)) (ua + signs_first true rest) (ua + signs_first true rest) (suc ub + signs_second true rest) (ub + suc (signs_second true rest))
    (one-more turn (length rest)) refl (one-up ub (signs_second true rest))
    (pays p sa sb names true (turn + 1) (x + amount) (y - amount) ua (suc ub) (step + 2) rest (play_round ways (told ways step (Pay (name real p) p.asset amount) s 2)) w can two covered
    (record { turns = room-turns turn (length rest) (2 ^ 48) room.turns; first = room.first; second = room-first ub (signs_second true rest) (signing_of sb).limit room.second }) now)
