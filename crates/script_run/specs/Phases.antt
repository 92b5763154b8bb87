-- Two people with nodes run a direct payment channel, of which no message is dropped. It opens in eight rounds, and
-- is closed in six. A payment that isn't refused is held by both after one round. Rounds in which nothing is
-- commanded change nothing.
use Rattle.std.specs.Prelude.{◌≡◌, ℕ, suc, ◌+◌, ◌-◌, ◌<◌, ◌^◌, Bool, true, false, not, [], None}
use Rattle.network.specs.declared.command.Command.TheVariants.{Pay}
use Rattle.channel_node.specs.Minds.{Mind, fresh}
use Rattle.channel_node.specs.Playing.{SignerOf, signing_of}
use Rattle.channel_node.specs.Refusing.{command_refusal}
use Rattle.stage_tables.specs.Stages.{stages}
use Rattle.node_guarantees.specs.Ways.{Numbered}
use Rattle.script_play.specs.Play.{SceneOf, play_round, play_rounds, told}
use Rattle.step_meanings.specs.declared.names.Names.{Names}
use Rattle.support_rules.specs.Real.{real}
use Rattle.script_run.specs.Pair.{state}
use Rattle.script_run.specs.TwoPeople.{Pair, name}
use Rattle.script_run.specs.Finish.{AreMade, AreTwo, At, Finishes, both, told_both, asked_both}
use Rattle.script_run.specs.Rounds.{ways}
use Rattle.script_run.specs.Standing.{Standing, a_runs, b_runs, marks_by}

-- From two nodes that know nothing, and may have signed before: both are told to open, and after eight rounds the
-- channel runs, with what each deposited. The keys sign twice more.
abbrev pub TwoOpen : Type 0
TwoOpen =
    (p : Pair) (sa sb : SignerOf) (names : Names) (ua ub opening : ℕ) (s : SceneOf Numbered) → AreMade p sa sb → AreTwo p names.people
    → suc ua < (signing_of sa).limit → suc ub < (signing_of sb).limit → At names [] (both p sa sb ua ub (fresh p.key_a) (fresh p.key_b)) [] s
    → Standing p sa sb names true 3 p.a p.b (suc (suc ua)) (suc (suc ub)) (play_rounds ways 8 (told_both p opening s))

-- ---- payments

module _ {p : Pair} {sa sb : SignerOf} {names : Names} {next_a : Bool} {turn x y ua ub : ℕ} {s : SceneOf Numbered} where
  -- what the two know
  abbrev pub first_mind : Standing p sa sb names next_a turn x y ua ub s → Mind
  first_mind st = a_runs p false (state p st.before false st.u st.v) (state p turn false x y) (marks_by next_a st.ga st.gb) st.last_a

  abbrev pub second_mind : Standing p sa sb names next_a turn x y ua ub s → Mind
  second_mind st = b_runs p false (state p st.before false st.u st.v) (state p turn false x y) (marks_by next_a st.ga st.gb) st.last_b

-- Whichever of the two is told to pay any amount of the channel's asset, at any step: if it isn't refused, both hold it
-- after one more round.
abbrev pub PaymentsAreHeld : Type 0
PaymentsAreHeld =
    (p : Pair) (sa sb : SignerOf) (names : Names) (next_a : Bool) (turn x y ua ub step amount : ℕ) (s : SceneOf Numbered) → AreMade p sa sb → AreTwo p names.people
    → (st : Standing p sa sb names next_a turn x y ua ub s)
    → (command_refusal stages real (signing_of sa).limit ua (first_mind st) (Pay (name real p) p.asset amount) ≡ None
    → Standing p sa sb names (not next_a) (turn + 1) (x - amount) (y + amount) (suc ua) ub (play_round ways (told ways step (Pay (name real p) p.asset amount) s 1)))
    × (command_refusal stages real (signing_of sb).limit ub (second_mind st) (Pay (name real p) p.asset amount) ≡ None
    → Standing p sa sb names (not next_a) (turn + 1) (x + amount) (y - amount) ua (suc ub) (play_round ways (told ways step (Pay (name real p) p.asset amount) s 2)))

-- a round in which nothing was commanded changes nothing
abbrev pub RoundsRest : Type 0
RoundsRest =
    (p : Pair) (sa sb : SignerOf) (names : Names) (next_a : Bool) (turn x y ua ub : ℕ) (s : SceneOf Numbered) → AreMade p sa sb → AreTwo p names.people
    → Standing p sa sb names next_a turn x y ua ub s → Standing p sa sb names next_a turn x y ua ub (play_round ways s)

-- ---- the end

-- Both are told to close, and after six rounds both were paid what they had, where each had something. Each key signs
-- once more.
abbrev pub TwoClose : Type 0
TwoClose =
    (p : Pair) (sa sb : SignerOf) (names : Names) (next_a : Bool) (turn x y ua ub step : ℕ) (s : SceneOf Numbered) → AreMade p sa sb → AreTwo p names.people
    → turn + 3 < 2 ^ 48 → 0 < x → 0 < y → ua < (signing_of sa).limit → ub < (signing_of sb).limit → Standing p sa sb names next_a turn x y ua ub s
    → Finishes p sa sb names x y (play_rounds ways 6 (asked_both p step s))
