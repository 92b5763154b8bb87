-- Which records keep the limits of the format.
use Rattle.std.specs.Prelude.{◌≡◌, ℕ, ◌^◌, ◌<◌, ◌≤◌, List, length}
use Rattle.std.specs.List.{All, AllByRecursion}
use Rattle.channel_values.specs.Outcomes.{IsName}
use Rattle.channel_values.specs.Parts.{IsState}
use Rattle.channel_values.specs.Chains.{IsChain, KeepsLimits}
use Rattle.call_history.specs.Limits.{IsCall, KeepsCall}
use Rattle.call_history.specs.declared.call.Op.{Op}
use Rattle.call_history.specs.declared.call.Op.TheVariants as ops
use Rattle.call_history.specs.declared.entry.Entry.{Entry}
use Rattle.call_history.specs.declared.held_chain.HeldChain.{HeldChain}
use Rattle.call_history.specs.declared.held_chain.Known.{Known}
use Rattle.funding_plans.specs.declared.plan.Part.{Part}
use Rattle.funding_plans.specs.declared.plan.Part.TheVariants.{Root, OnLedger, End, Middle}
use Rattle.funding_plans.specs.declared.plan.Virtual.{Virtual}
use Rattle.call_bytes.specs.Limits.{IsLong, IsReply}
use Rattle.run_record.specs.Spelling.{Amount, Pair}
use Rattle.run_record.specs.declared.run_record.Sum.{Sum}
use Rattle.run_record.specs.declared.run_record.Ending.{Ending}
use Rattle.run_record.specs.declared.run_record.Record.{Record}

abbrev pub IsOp : Op → Type 0
IsOp (ops.Call c) = IsCall c
IsOp (ops.Time t) = IsLong t

abbrev pub IsEntry : Entry → Type 0
IsEntry e = (e.number < 2 ^ 32) × (e.by < 2 ^ 32) × IsOp e.op × IsReply e.reply

abbrev pub IsSum : Sum → Type 0
IsSum s = IsName s.name × (s.asset < 2 ^ 32) × IsLong s.amount

abbrev pub IsPair : Pair → Type 0
IsPair p = IsName p.0 × IsName p.1

pub record IsVirtual (v : Virtual) : Type 0 where
  pub ledgers : IsPair (v.ledger_a, v.ledger_b)
  pub guarantors : IsPair (v.guarantor_a, v.guarantor_b)
  pub channels : IsPair (v.joint, v.channel)
  pub asset : v.asset < 2 ^ 32
  pub total : IsLong v.total

abbrev pub IsPart : Part → Type 0
IsPart (Root channel) = IsName channel
IsPart (OnLedger ledger channel) = IsName ledger × IsName channel
IsPart (End v) = IsVirtual v
IsPart (Middle v) = IsVirtual v

abbrev pub IsKnown : Known → Type 0
IsKnown k = IsName k.channel × IsState k.last

abbrev pub IsHeldChain : HeldChain → Type 0
IsHeldChain h = IsName h.channel × IsChain h.chain

abbrev pub IsShare : Amount → Type 0
IsShare s = (s.0 < 2 ^ 32) × (s.1 < 2 ^ 128)

-- each is so, and there are at most so many; or as many as four bytes count
abbrev pub AreFew : {X : Type 0} → (limit : ℕ) → (X → Type 0) → List X → Type 0
AreFew limit Is xs = (length xs ≤ limit) × AllByRecursion Is xs

abbrev pub AreMany : {X : Type 0} → (X → Type 0) → List X → Type 0
AreMany Is xs = (length xs < 2 ^ 32) × AllByRecursion Is xs

pub record IsEnding (e : Ending) : Type 0 where
  pub person : IsName e.person
  pub owner : e.plan.me ≡ e.person
  pub parts : AreFew 64 IsPart e.plan.parts
  pub known : AreFew 64 IsKnown e.known
  pub chains : AreFew 64 IsHeldChain e.chains
  pub shares : AreMany IsShare e.shares

pub record IsRecord (r : Record) : Type 0 where
  pub history : AreMany IsEntry r.history
  pub sums : AreMany IsSum r.sums
  pub ends : AreFew 16 IsEnding r.ends

-- ---- what the types don't say

abbrev pub KeepsOp : Op → Type 0
KeepsOp (ops.Call c) = KeepsCall c
KeepsOp (ops.Time t) = Unit {0}

abbrev pub KeepsEntry : Entry → Type 0
KeepsEntry e = KeepsOp e.op

abbrev pub KeepsHeldChain : HeldChain → Type 0
KeepsHeldChain h = KeepsLimits h.chain

pub record KeepsEnding (e : Ending) : Type 0 where
  pub owner : e.plan.me ≡ e.person
  pub parts : length e.plan.parts ≤ 64
  pub known : length e.known ≤ 64
  pub chains : length e.chains ≤ 64
  pub each : All KeepsHeldChain e.chains
  pub shares : length e.shares < 2 ^ 32

pub record KeepsRecord (r : Record) : Type 0 where
  pub history : length r.history < 2 ^ 32
  pub entries : All KeepsEntry r.history
  pub sums : length r.sums < 2 ^ 32
  pub ends : length r.ends ≤ 16
  pub endings : All KeepsEnding r.ends
