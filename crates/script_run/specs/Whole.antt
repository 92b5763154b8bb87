-- The history of two people who finished: what was entered, and accepted.
use Rattle.std.specs.Prelude.{◌≡◌, ℕ, ◌+◌, List, [], ◌∷◌}
use Rattle.channel_values.specs.declared.chain.Chain.{Chain}
use Rattle.channel_values.specs.declared.value.AssetOutcome.{AssetOutcome}
use Rattle.call_history.specs.Calls.{make_deposit, make_transfer}
use Rattle.call_history.specs.declared.call.Call.TheVariants.{Conclude}
use Rattle.call_history.specs.declared.call.Op.TheVariants as ops
use Rattle.call_history.specs.declared.refusal.Reply.TheVariants.{Held, Concluded, Paid}
use Rattle.call_history.specs.declared.entry.Entry.{Entry}
use Rattle.support_rules.specs.Real.{real}
use Rattle.script_run.specs.TwoPeople.{Pair, fixed, name}

-- a person deposits this
pub record IsDeposit (p : Pair) (by expected amount : ℕ) (e : Entry) : Type 0 where
  pub caller : e.by ≡ by
  pub op : e.op ≡ ops.Call (make_deposit (name real p) p.asset expected amount)
  pub reply : e.reply ≡ Held (expected + amount)

-- the channel is concluded
pub record IsConclusion (p : Pair) (e : Entry) : Type 0 where
  pub chain : Chain
  pub turn : ℕ
  pub named : real.named chain.fixed ≡ name real p
  pub op : e.op ≡ ops.Call (Conclude chain)
  pub reply : e.reply ≡ Concluded turn

-- an item of its outcome is paid
pub record IsTransfer (p : Pair) (e : Entry) : Type 0 where
  pub outcome : List AssetOutcome
  pub index : ℕ
  pub amount : ℕ
  pub op : e.op ≡ ops.Call (make_transfer (name real p) outcome p.asset index)
  pub reply : e.reply ≡ Paid amount

-- two deposits, a conclusion and two transfers, in the order of time
abbrev pub IsWhole : Pair → List Entry → Type 0
IsWhole p (a ∷ b ∷ c ∷ d ∷ e ∷ []) =
    IsDeposit p 1 0 p.a a × IsDeposit p 2 p.a p.b b × IsConclusion p c × IsTransfer p d × IsTransfer p e
IsWhole p _ = ⊥
