-- What every legal history keeps.
use Rattle.std.proofs.Common.{◌≡◌, ℕ, ◌≤◌, List, [], ◌∷◌, ◌++◌, Bool, true, false, cond, Option, Some, None, refl, sym, subst, arith, rules, ◌<◌, ◌^◌}
use Rattle.std.proofs.lemmas.Grind.{common_steps}
use Rattle.std.proofs.lemmas.List.Sums.{sum_by-cons, sum_by_push}
use Rattle.std.specs.Prelude.{◌+◌, ◌==◌, Result, Ok, Err}
use Rattle.std.specs.Str.{bytes_eq}
use Rattle.channel_values.specs.declared.value.Dest.{Dest}
use Rattle.channel_values.specs.declared.value.Dest.TheVariants.{Person, Channel}
use Rattle.channel_values.specs.declared.value.Shape.{Shape}
use Rattle.channel_values.specs.declared.value.Shape.TheVariants.{Allocation, Guarantee}
use Rattle.call_history.specs.Flows.{comes_from, brings, takes, held_in, enters, deposited_in, AreCovered, HasMoved}
use Rattle.channel_values.specs.Amounts.{due}
use Rattle.channel_values.specs.declared.value.AssetOutcome.{AssetOutcome}
use Rattle.call_history.specs.Refusing.{told}
use Rattle.call_history.specs.Replies.{is_unfinished, ends_otherwise, transfer, claim}
use Rattle.call_history.specs.declared.refusal.Refusal.TheVariants.{NotFinal, WrongOutcome}
use Rattle.call_history.specs.declared.row.Row.{Row}
use Rattle.call_history.specs.Dues.{shape_in, pay, rest_at, transfer_of, claim_of}
use Rattle.channel_values.specs.Rules.{Rules}
use Rattle.call_history.specs.History.{Legal, flow_of, flows_of, flow_to, held_of, deposited_of, row, now_of, paid_of, reply_to, IsHeldBy, payer_of, PaysWhatIsHeld}
use Rattle.call_history.specs.declared.funds.Due.{Due}
use Rattle.call_history.specs.declared.call.Call.TheVariants.{Deposit, Challenge, Respond, Refute, Checkpoint, Conclude, Transfer, Claim}
use Rattle.call_history.specs.declared.call.Op.{Op}
use Rattle.call_history.specs.declared.call.Op.TheVariants as ops
use Rattle.call_history.specs.declared.refusal.Refusal.{Refusal}
use Rattle.call_history.specs.declared.refusal.Reply.{Reply}
use Rattle.call_history.specs.declared.refusal.Reply.TheVariants.{Held, Until, Opened, Concluded, Paid, Now}
use Rattle.call_history.specs.declared.funds.Flow.{Flow}
use Rattle.call_history.specs.declared.entry.Entry.{Entry}
use Rattle.call_history.proofs.Names.{same_bytes}

abbrev AtMost : ℕ → Result Due Refusal → Type 0
AtMost held (Ok d) = d.amount ≤ held
AtMost held (Err r) = Unit {0}

-- a record, so that the check finds `x` from the fact
pub record IsAtMost (held : ℕ) (x : Result Due Refusal) : Type 0 where
  pub is : AtMost held x

err_or : {held : ℕ} (b : Bool) (r : Refusal) (x : Result Due Refusal) → IsAtMost held x → IsAtMost held (cond b (Err r) x)
err_or true r x h = record { is = tt }
err_or false r x h = h

pay_at_most : (to : Dest) (place held n : ℕ) → n ≤ held → IsAtMost held (pay to place held n)
pay_at_most to place held n h = err_or (n == 0) _ _ (record { is = h })

due_at_most : (rest : ℕ → ℕ) (i held : ℕ) → due rest i held ≤ held
due_at_most rest i held = omega arith

-- no amount due is above what the paying channel holds
pub transfer_at_most : (paid : ℕ → ℕ) (held : ℕ) (shape : Option Shape) (index : ℕ) → IsAtMost held (transfer_of paid held shape index)
transfer_at_most paid held None index = record { is = tt }
transfer_at_most paid held (Some (Guarantee t list)) index = record { is = tt }
transfer_at_most paid held (Some (Allocation items)) index =
    err_or _ _ _ (pay_at_most _ index held _ (due_at_most (rest_at paid items) index held))

pub claim_at_most : (paid : ℕ → ℕ) (held : ℕ) (promise : Option Shape) (target : List ℕ) (of : Option Shape) (position : ℕ) → IsAtMost held (claim_of paid held promise target of position)
claim_at_most paid held None target of position = record { is = tt }
claim_at_most paid held (Some (Allocation items)) target None position = record { is = tt }
claim_at_most paid held (Some (Guarantee named list)) target None position = record { is = tt }
claim_at_most paid held (Some (Allocation items)) target (Some shape) position = record { is = tt }
claim_at_most paid held (Some (Guarantee named list)) target (Some (Guarantee other dests)) position = record { is = tt }
claim_at_most paid held (Some (Guarantee named list)) target (Some (Allocation items)) position =
    search (rules, err_or, pay_at_most, due_at_most)

transfer_backed : (r : Rules) (row : Row) (now : ℕ) (paid : ℕ → ℕ) (held : ℕ) (channel : List ℕ) (outcome : List AssetOutcome) (asset index : ℕ)
    → IsAtMost held (transfer r row now paid held channel outcome asset index)
transfer_backed r row now paid held channel outcome asset index =
    err_or (is_unfinished row now) (NotFinal channel) _ (
    err_or (ends_otherwise r row outcome) (WrongOutcome channel) _ (
    transfer_at_most paid held (shape_in outcome asset) index))

claim_backed : (r : Rules) (row of : Row) (now : ℕ) (paid : ℕ → ℕ) (held : ℕ) (guarantor : List ℕ) (promise : List AssetOutcome) (target : List ℕ) (outcome : List AssetOutcome) (asset position : ℕ)
    → IsAtMost held (claim r row of now paid held guarantor promise target outcome asset position)
claim_backed r row of now paid held guarantor promise target outcome asset position =
    err_or (is_unfinished row now) (NotFinal guarantor) _ (
    err_or (is_unfinished of now) (NotFinal target) _ (
    err_or (ends_otherwise r row promise) (WrongOutcome guarantor) _ (
    err_or (ends_otherwise r of outcome) (WrongOutcome target) _ (
    claim_at_most paid held (shape_in promise asset) target (shape_in outcome asset) position))))

-- a reply pays at most that
abbrev PaidAtMost : ℕ → Reply → Type 0
PaidAtMost held (Paid n) = n ≤ held
PaidAtMost held _ = Unit {0}

pub record PaysAtMost (held : ℕ) (x : Reply) : Type 0 where
  pub is : PaidAtMost held x

-- where no value that is told is above it, none that is answered is
told_at_most : {held : ℕ} {A : Type 0} (say : A → Reply) (x : Result A Refusal) → ((y : A) → PaysAtMost held (say y)) → PaysAtMost held (told say x)
told_at_most say (Ok y) h = h y
told_at_most say (Err refusal) h = record { is = tt }

due_told_at_most : {held : ℕ} (x : Result Due Refusal) → IsAtMost held x → PaysAtMost held (told (λ due. Paid due.amount) x)
due_told_at_most (Ok d) h = record { is = h.is }
due_told_at_most (Err refusal) h = record { is = tt }

-- a reply to an op pays at most what its payer holds
abbrev IsBacked : List Entry → Op → Reply → Type 0
IsBacked h (ops.Call (Transfer k)) reply = PaysAtMost (held_of h k.channel k.asset) reply
IsBacked h (ops.Call (Claim k)) reply = PaysAtMost (held_of h k.guarantor k.asset) reply
IsBacked h _ reply = PaysAtMost 0 reply

pub reply_backed : (r : Rules) (h : List Entry) (op : Op) → IsBacked h op (reply_to r h op)
unfolding reply_to
reply_backed r h (ops.Call (Deposit d)) = told_at_most Held _ (λ n. record { is = tt })
reply_backed r h (ops.Call (Challenge k)) = told_at_most (λ (new : Row). Until (now_of h + k.chain.fixed.duration)) _ (λ n. record { is = tt })
reply_backed r h (ops.Call (Respond k)) = told_at_most (λ (new : Row). Opened new.turn) _ (λ n. record { is = tt })
reply_backed r h (ops.Call (Refute fixed next)) = told_at_most (λ (new : Row). Opened new.turn) _ (λ n. record { is = tt })
reply_backed r h (ops.Call (Checkpoint chain)) = told_at_most (λ (new : Row). Opened new.turn) _ (λ n. record { is = tt })
reply_backed r h (ops.Call (Conclude chain)) = told_at_most (λ (new : Row). Concluded new.turn) _ (λ n. record { is = tt })
reply_backed r h (ops.Call (Transfer k)) =
    let held = held_of h k.channel k.asset in
    due_told_at_most _ (transfer_backed r (row r k.channel h) (now_of h) (paid_of h k.channel k.asset) held k.channel k.outcome k.asset k.index)
reply_backed r h (ops.Call (Claim k)) =
    let held = held_of h k.guarantor k.asset in
    let paid = paid_of h k.target k.asset in
    due_told_at_most _ (claim_backed r (row r k.guarantor h) (row r k.target h) (now_of h) paid held k.guarantor k.guarantor_outcome k.target k.target_outcome k.asset k.position)
reply_backed r h (ops.Time t) = told_at_most Now _ (λ n. record { is = tt })

held_by : (h : List Entry) (op : Op) (amount : ℕ) → IsBacked h op (Paid amount) → IsHeldBy h amount (payer_of op)
held_by h (ops.Call (Transfer k)) n b = b.is
held_by h (ops.Call (Claim k)) n b = b.is
held_by h _ n b = tt

pub pays_what_is_held : (r : Rules) (h : List Entry) → PaysWhatIsHeld r h
pays_what_is_held r h op amount e = held_by h op amount (subst (λ (r : Reply). IsBacked h op r) e (reply_backed r h op))

-- a flow takes no more than its channel holds
abbrev pub HasSource : List Flow → Option (List ℕ) → ℕ → ℕ → Type 0
HasSource flows None asset n = Unit {0}
HasSource flows (Some channel) asset n = n ≤ held_in flows channel asset

equal_nats : (a b : ℕ) → (a == b) ≡ true → a ≡ b
equal_nats a b e = grind arith

source_le : (flows : List Flow) (from : Option (List ℕ)) (kind n : ℕ) → HasSource flows from kind n → (channel : List ℕ) (asset : ℕ) →
    cond (comes_from channel from) (cond (kind == asset) n 0) 0 ≤ held_in flows channel asset
source_le flows None kind n h channel asset = omega arith
source_le flows (Some source) kind n h channel asset = go (bytes_eq source channel) refl (kind == asset) refl
  where
    go : (s : Bool) → bytes_eq source channel ≡ s → (k : Bool) → (kind == asset) ≡ k → cond s (cond k n 0) 0 ≤ held_in flows channel asset
    go false s k e = omega arith
    go true s false e = omega arith
    go true s true e = rw (← same_bytes source channel s, ← equal_nats kind asset e) h

pub covered_more : (flows : List Flow) (f : Flow) → AreCovered flows → HasSource flows f.from f.asset f.amount → AreCovered (f ∷ flows)
covered_more flows f c h channel asset =
    omega (arith, sum_by-cons (takes channel asset) f flows, sum_by-cons (brings (Channel channel) asset) f flows, c channel asset, source_le flows f.from f.asset f.amount h channel asset)

-- a flow more, before or after the others, that takes no more than its channel holds
pub moved_cons : (flows : List Flow) (f : Flow) → AreCovered flows → HasSource flows f.from f.asset f.amount → HasMoved flows f (f ∷ flows)
moved_cons flows f c h = record {
  held = λ channel asset. omega (arith, sum_by-cons (takes channel asset) f flows, sum_by-cons (brings (Channel channel) asset) f flows, c channel asset, source_le flows f.from f.asset f.amount h channel asset);
  paid = λ person asset. omega (arith, sum_by-cons (brings (Person person) asset) f flows);
  deposited = λ asset. omega (arith, sum_by-cons (enters asset) f flows);
}

pub moved_push : (flows : List Flow) (f : Flow) → AreCovered flows → HasSource flows f.from f.asset f.amount → HasMoved flows f (flows ++ f ∷ [])
moved_push flows f c h = record {
  held = λ channel asset. omega (arith, sum_by_push (takes channel asset) flows f, sum_by_push (brings (Channel channel) asset) flows f, c channel asset, source_le flows f.from f.asset f.amount h channel asset);
  paid = λ person asset. omega (arith, sum_by_push (brings (Person person) asset) flows f);
  deposited = λ asset. omega (arith, sum_by_push (enters asset) flows f);
}

pub covered_push : (flows : List Flow) (f : Flow) → AreCovered flows → HasSource flows f.from f.asset f.amount → AreCovered (flows ++ f ∷ [])
covered_push flows f c h channel asset =
    omega (arith, sum_by_push (takes channel asset) flows f, sum_by_push (brings (Channel channel) asset) flows f, c channel asset, source_le flows f.from f.asset f.amount h channel asset)

covered_to : (flows : List Flow) (from : Option (List ℕ)) (to : Option Dest) (asset n : ℕ) → AreCovered flows → HasSource flows from asset n → AreCovered (flow_to from to asset n ++ flows)
covered_to flows from None asset n c h = c
covered_to flows from (Some to) asset n c h = covered_more flows _ c h

covered_entry : (h : List Entry) (op : Op) (reply : Reply) → AreCovered (flows_of h) → IsBacked h op reply → AreCovered (flow_of op reply ++ flows_of h)
covered_entry h (ops.Call (Deposit d)) (Held n) c b = covered_to (flows_of h) None (Some (Channel d.channel)) d.asset d.amount c tt
covered_entry h (ops.Call (Transfer k)) (Paid n) c b = covered_to (flows_of h) (Some k.channel) _ k.asset n c b.is
covered_entry h (ops.Call (Claim k)) (Paid n) c b = covered_to (flows_of h) (Some k.guarantor) _ k.asset n c b.is
covered_entry h op reply c b = c

-- in a legal history no channel pays out more than it received
pub covered : (r : Rules) (h : List Entry) → Legal r h → AreCovered (flows_of h)
covered r [] legal = λ channel asset. omega arith
covered r (e ∷ past) legal =
    covered_entry past e.op e.reply (covered r past legal.0) (subst (λ (x : Reply). IsBacked past e.op x) (sym legal.2) (reply_backed r past e.op))

-- what a channel pays was deposited before
inner_fits : (flows : List Flow) (source : List ℕ) (to : Option Dest) (kind n asset : ℕ) → deposited_in flows asset < 2 ^ 64 → deposited_in (flow_to (Some source) to kind n ++ flows) asset < 2 ^ 64
inner_fits flows source None kind n asset h = h
inner_fits flows source (Some to) kind n asset h = omega (arith, h, sum_by-cons (enters asset) (record { from = Some source; to = to; asset = kind; amount = n }) flows)

-- a reply leaves what was deposited of an asset within the largest amount
reply_fits : (r : Rules) (h : List Entry) (op : Op) (reply : Reply) (asset : ℕ) → reply ≡ reply_to r h op → deposited_of h asset < 2 ^ 64 → deposited_in (flow_of op reply ++ flows_of h) asset < 2 ^ 64
unfolding reply_to
reply_fits r h (ops.Call (Deposit d)) (Held n) asset is before = grind (arith, common_steps)
reply_fits r h (ops.Call (Transfer k)) (Paid n) asset is before = inner_fits (flows_of h) k.channel _ k.asset n asset before
reply_fits r h (ops.Call (Claim k)) (Paid n) asset is before = inner_fits (flows_of h) k.guarantor _ k.asset n asset before
reply_fits r h op reply asset is before = before

-- in a legal history what was deposited of each asset is at most the largest amount
pub deposits_fit : (r : Rules) (h : List Entry) → Legal r h → (asset : ℕ) → deposited_of h asset < 2 ^ 64
deposits_fit r [] legal asset = omega arith
deposits_fit r (e ∷ past) legal asset = reply_fits r past e.op e.reply asset legal.2 (deposits_fit r past legal.0 asset)
