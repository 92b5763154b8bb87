-- What a legal history pays out was deposited before: of each asset that a flow carries something was deposited.
use Rattle.std.proofs.Common.{◌≡◌, ℕ, ◌+◌, ◌≤◌, ◌<◌, List, [], ◌∷◌, ◌++◌, Bool, true, false, cond, Option, Some, None, refl, sym, ap, subst, arith, rules}
use Rattle.std.proofs.lemmas.List.Sums.{sum_by-cons}
use Rattle.std.specs.Prelude.{◌-◌, ◌^◌, ◌==◌, ◌||◌, nat_lt, nat_le, length, slice_index_or, Result, Ok, Err}
use Rattle.std.specs.List.{list_any}
use Rattle.channel_values.specs.declared.value.AssetOutcome.{AssetOutcome}
use Rattle.channel_values.specs.declared.value.Dest.{Dest}
use Rattle.channel_values.specs.declared.value.Dest.TheVariants.{Channel}
use Rattle.channel_values.specs.declared.value.Shape.{Shape}
use Rattle.channel_values.specs.declared.value.Shape.TheVariants.{Allocation, Guarantee}
use Rattle.channel_values.specs.Amounts.{due}
use Rattle.channel_values.specs.Rules.{Rules}
use Rattle.call_history.specs.Dues.{no_item, shape_in, pay, rest_at, transfer_of, claim_of}
use Rattle.call_history.specs.Flows.{is_outside, carries, enters, deposited_in, held_in, AreCovered}
use Rattle.call_history.specs.History.{Legal, flow_of, flow_to, flows_of, held_of, deposited_of, row, now_of, paid_of, reply_to}
use Rattle.call_history.specs.Refusing.{told, refuse_if}
use Rattle.call_history.specs.Replies.{is_unfinished, ends_otherwise, deposit, transfer, claim}
use Rattle.call_history.specs.declared.call.Call.TheVariants.{Deposit, Challenge, Respond, Refute, Checkpoint, Conclude, Transfer, Claim}
use Rattle.call_history.specs.declared.call.DepositCall.{DepositCall}
use Rattle.call_history.specs.declared.call.Op.{Op}
use Rattle.call_history.specs.declared.call.Op.TheVariants as ops
use Rattle.call_history.specs.declared.entry.Entry.{Entry}
use Rattle.call_history.specs.declared.funds.Due.{Due}
use Rattle.call_history.specs.declared.funds.Flow.{Flow}
use Rattle.call_history.specs.declared.refusal.Refusal.{Refusal}
use Rattle.call_history.specs.declared.refusal.Refusal.TheVariants.{Zero, Underheld, AssetFull, NotFinal, WrongOutcome, NoItem, NothingDue}
use Rattle.call_history.specs.declared.refusal.Reply.{Reply}
use Rattle.call_history.specs.declared.refusal.Reply.TheVariants.{Held, Until, Opened, Concluded, Paid, Now}
use Rattle.call_history.specs.declared.row.Row.{Row}
use Rattle.call_history.proofs.Conservation.{held_le}
use Rattle.call_history.proofs.Legality.{covered, pays_what_is_held}

abbrev pub is_carried : ℕ → List Flow → Bool
is_carried asset flows = list_any (λ f. f.asset == asset) flows

-- ---- nothing is paid but an amount

abbrev IsAmount : Result Due Refusal → Type 0
IsAmount (Ok d) = 0 < d.amount
IsAmount (Err r) = Unit {0}

record IsSome (x : Result Due Refusal) : Type 0 where
  is : IsAmount x

err_or : (b : Bool) (r : Refusal) (x : Result Due Refusal) → IsSome x → IsSome (cond b (Err r) x)
err_or true r x h = record { is = tt }
err_or false r x h = h

above_zero : (n : ℕ) → (n == 0) ≡ false → 0 < n
above_zero n e = grind arith

pay_some : (to : Dest) (place held n : ℕ) → IsSome (pay to place held n)
pay_some to place held n = by (n == 0) refl
  where
    by : (b : Bool) → (n == 0) ≡ b → IsSome (cond b (Err (NothingDue held)) (Ok (record { to = to; place = place; amount = n })))
    by true e = record { is = tt }
    by false e = record { is = above_zero n e }

transfer_some : (paid : ℕ → ℕ) (held : ℕ) (shape : Option Shape) (index : ℕ) → IsSome (transfer_of paid held shape index)
transfer_some paid held None index = record { is = tt }
transfer_some paid held (Some (Guarantee t list)) index = record { is = tt }
transfer_some paid held (Some (Allocation items)) index = err_or (nat_le (length items) index) NoItem _ (pay_some (slice_index_or items index no_item).to index held (due (rest_at paid items) index held))

claim_some : (paid : ℕ → ℕ) (held : ℕ) (promise : Option Shape) (target : List ℕ) (of : Option Shape) (position : ℕ) → IsSome (claim_of paid held promise target of position)
claim_some paid held None target of position = record { is = tt }
claim_some paid held (Some (Allocation items)) target None position = record { is = tt }
claim_some paid held (Some (Guarantee named list)) target None position = record { is = tt }
claim_some paid held (Some (Allocation items)) target (Some shape) position = record { is = tt }
claim_some paid held (Some (Guarantee named list)) target (Some (Guarantee other dests)) position = record { is = tt }
claim_some paid held (Some (Guarantee named list)) target (Some (Allocation items)) position = search (rules, err_or, pay_some)

transfer_is_some : (r : Rules) (row : Row) (now : ℕ) (paid : ℕ → ℕ) (held : ℕ) (channel : List ℕ) (outcome : List AssetOutcome) (asset index : ℕ)
    → IsSome (transfer r row now paid held channel outcome asset index)
transfer_is_some r row now paid held channel outcome asset index =
    err_or (is_unfinished row now) (NotFinal channel) _ (
    err_or (ends_otherwise r row outcome) (WrongOutcome channel) _ (
    transfer_some paid held (shape_in outcome asset) index))

claim_is_some : (r : Rules) (row of : Row) (now : ℕ) (paid : ℕ → ℕ) (held : ℕ) (guarantor : List ℕ) (promise : List AssetOutcome) (target : List ℕ) (outcome : List AssetOutcome) (asset position : ℕ)
    → IsSome (claim r row of now paid held guarantor promise target outcome asset position)
claim_is_some r row of now paid held guarantor promise target outcome asset position =
    err_or (is_unfinished row now) (NotFinal guarantor) _ (
    err_or (is_unfinished of now) (NotFinal target) _ (
    err_or (ends_otherwise r row promise) (WrongOutcome guarantor) _ (
    err_or (ends_otherwise r of outcome) (WrongOutcome target) _ (
    claim_some paid held (shape_in promise asset) target (shape_in outcome asset) position))))

abbrev PaidSome : Reply → Type 0
PaidSome (Paid n) = 0 < n
PaidSome _ = Unit {0}

record PaysSome (x : Reply) : Type 0 where
  is : PaidSome x

told_some : {A : Type 0} (say : A → Reply) (x : Result A Refusal) → ((y : A) → PaysSome (say y)) → PaysSome (told say x)
told_some say (Ok y) h = h y
told_some say (Err refusal) h = record { is = tt }

due_told_some : (x : Result Due Refusal) → IsSome x → PaysSome (told (λ due. Paid due.amount) x)
due_told_some (Ok d) h = record { is = h.is }
due_told_some (Err refusal) h = record { is = tt }

reply_some : (r : Rules) (h : List Entry) (op : Op) → PaysSome (reply_to r h op)
unfolding reply_to
reply_some r h (ops.Call (Deposit d)) = told_some Held _ (λ n. record { is = tt })
reply_some r h (ops.Call (Challenge k)) = told_some (λ (new : Row). Until (now_of h + k.chain.fixed.duration)) _ (λ n. record { is = tt })
reply_some r h (ops.Call (Respond k)) = told_some (λ (new : Row). Opened new.turn) _ (λ n. record { is = tt })
reply_some r h (ops.Call (Refute fixed next)) = told_some (λ (new : Row). Opened new.turn) _ (λ n. record { is = tt })
reply_some r h (ops.Call (Checkpoint chain)) = told_some (λ (new : Row). Opened new.turn) _ (λ n. record { is = tt })
reply_some r h (ops.Call (Conclude chain)) = told_some (λ (new : Row). Concluded new.turn) _ (λ n. record { is = tt })
reply_some r h (ops.Call (Transfer k)) =
    due_told_some _ (transfer_is_some r (row r k.channel h) (now_of h) (paid_of h k.channel k.asset) (held_of h k.channel k.asset) k.channel k.outcome k.asset k.index)
reply_some r h (ops.Call (Claim k)) =
    due_told_some _ (claim_is_some r (row r k.guarantor h) (row r k.target h) (now_of h) (paid_of h k.target k.asset) (held_of h k.guarantor k.asset) k.guarantor k.guarantor_outcome k.target k.target_outcome k.asset k.position)
reply_some r h (ops.Time t) = told_some Now _ (λ n. record { is = tt })

paid_some : (r : Rules) (h : List Entry) (op : Op) (n : ℕ) → reply_to r h op ≡ Paid n → 0 < n
paid_some r h op n e = (subst PaysSome e (reply_some r h op)).is

-- ---- nor deposited

held_some : (held deposited expected amount n : ℕ) → told Held (deposit held deposited expected amount) ≡ Held n → 0 < amount
held_some held deposited expected amount n e = by (amount == 0) refl e
  where
    above : (n : ℕ) → (n == 0) ≡ false → 0 < n
    above n e = grind arith

    by : (b : Bool) → (amount == 0) ≡ b
        → told Held (refuse_if b Zero (
        refuse_if (nat_lt held expected) (Underheld held) (
        refuse_if (nat_lt (2 ^ 64 - 1) (deposited + amount)) (AssetFull deposited) (
        Ok (held + amount))))) ≡ Held n
        → 0 < amount
    by true t e = absurd (cc)
    by false t e = above amount t

deposit_some : (r : Rules) (h : List Entry) (d : DepositCall) (n : ℕ) → Held n ≡ reply_to r h (ops.Call (Deposit d)) → 0 < d.amount
unfolding reply_to
deposit_some r h d n e = held_some (held_of h d.channel d.asset) (deposited_of h d.asset) d.expected d.amount n (sym e)

-- ---- what is carried was deposited

abbrev pub Brought : List Flow → ℕ → Type 0
Brought flows asset = is_carried asset flows ≡ true → 0 < deposited_in flows asset

equal_nats : (a b : ℕ) → (a == b) ≡ true → a ≡ b
equal_nats a b e = grind arith

from_outside : (flows : List Flow) (f : Flow) (asset : ℕ) → f.from ≡ None → 0 < f.amount → Brought flows asset → Brought (f ∷ flows) asset
from_outside flows f asset none some before carried = by (f.asset == asset) refl carried
  where
    by : (b : Bool) → (f.asset == asset) ≡ b → (b || is_carried asset flows) ≡ true → 0 < deposited_in (f ∷ flows) asset
    by true e t =
        omega (
          arith,
          some,
          sum_by-cons (enters asset) f flows,
          ap (λ (o : Option (List ℕ)). cond (is_outside o) (carries asset f) 0) none,
          ap (λ b. cond b f.amount 0) e,
        )
    by false e t = omega (arith, before t, sum_by-cons (enters asset) f flows)

from_channel : (flows : List Flow) (f : Flow) (source : List ℕ) (asset : ℕ) → AreCovered flows → 0 < f.amount → f.amount ≤ held_in flows source f.asset
    → Brought flows asset → Brought (f ∷ flows) asset
from_channel flows f source asset c some most before carried = by (f.asset == asset) refl carried
  where
    by : (b : Bool) → (f.asset == asset) ≡ b → (b || is_carried asset flows) ≡ true → 0 < deposited_in (f ∷ flows) asset
    by true e t =
        omega (arith, some, most, held_le flows c source f.asset, ap (deposited_in flows) (equal_nats f.asset asset e), sum_by-cons (enters asset) f flows)
    by false e t = omega (arith, before t, sum_by-cons (enters asset) f flows)

paid_from : (flows : List Flow) (source : List ℕ) (to : Option Dest) (kind n asset : ℕ) → AreCovered flows → 0 < n → n ≤ held_in flows source kind
    → Brought flows asset → Brought (flow_to (Some source) to kind n ++ flows) asset
paid_from flows source None kind n asset c some most before = before
paid_from flows source (Some to) kind n asset c some most before =
    from_channel flows (record { from = Some source; to = to; asset = kind; amount = n }) source asset c some most before

entry_brings : (r : Rules) (h : List Entry) (op : Op) (reply : Reply) (asset : ℕ) → reply ≡ reply_to r h op → AreCovered (flows_of h)
    → Brought (flows_of h) asset → Brought (flow_of op reply ++ flows_of h) asset
entry_brings r h (ops.Call (Deposit d)) (Held n) asset is c before =
    from_outside (flows_of h) (record { from = None; to = Channel d.channel; asset = d.asset; amount = d.amount }) asset refl (deposit_some r h d n is) before
entry_brings r h (ops.Call (Transfer k)) (Paid n) asset is c before =
    paid_from (flows_of h) k.channel _ k.asset n asset c (paid_some r h (ops.Call (Transfer k)) n (sym is))
    (pays_what_is_held r h (ops.Call (Transfer k)) n (sym is)) before
entry_brings r h (ops.Call (Claim k)) (Paid n) asset is c before =
    paid_from (flows_of h) k.guarantor _ k.asset n asset c (paid_some r h (ops.Call (Claim k)) n (sym is))
    (pays_what_is_held r h (ops.Call (Claim k)) n (sym is)) before
entry_brings r h op reply asset is c before = before

pub brought : (r : Rules) (h : List Entry) → Legal r h → (asset : ℕ) → Brought (flows_of h) asset
brought r [] legal asset t = absurd (cc)
brought r (e ∷ past) legal asset t =
    entry_brings r past e.op e.reply asset legal.2 (covered r past legal.0) (brought r past legal.0 asset) t
