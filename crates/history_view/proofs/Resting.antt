-- What is left of a channel's outcome after one more entry: nothing was paid of it before it settled, and a payment
-- lowers its item.
use Rattle.std.proofs.Common.{◌≡◌, ℕ, suc, ◌+◌, ◌-◌, List, [], ◌∷◌, Bool, true, false, cond, ◌&&◌, Some, None, Ok, Err, refl, sym, ◌∙◌, ap, subst, arith}
use Rattle.std.proofs.lemmas.List.Sums.{sum_by-cons, sum_by-append}
use Rattle.std.specs.Prelude.{◌==◌, Option, Result}
use Rattle.std.specs.Option.{option_map}
use Rattle.std.specs.Str.{bytes_eq}
use mathlib.Core.Path.{fun_ext}
use Rattle.channel_values.specs.declared.value.AssetOutcome.{AssetOutcome}
use Rattle.channel_values.specs.declared.value.Item.{Item}
use Rattle.channel_values.specs.declared.value.Shape.{Shape}
use Rattle.channel_values.specs.declared.value.Shape.TheVariants.{Allocation, Guarantee}
use Rattle.call_history.specs.Mode.{is_final}
use Rattle.channel_values.specs.Rules.{Rules, top_outcome}
use Rattle.call_history.specs.Refusing.{refuse_if, told}
use Rattle.call_history.specs.Dues.{shape_in, transfer_due, claim_due}
use Rattle.call_history.specs.Flows.{pays, paid_of_item}
use Rattle.call_history.specs.Rest.{less_paid, rest_shape, rest_outcome, lower_outcome}
use Rattle.call_history.specs.Replies as replies
use Rattle.call_history.specs.History.{listed_dest, place_in, payment_of, payments_of, paid_of, rest_of_channel, held_of, now_of, turning, row, mode, settles, settled, call_reply, reply_to, Legal}
use Rattle.call_history.specs.declared.call.Call.TheVariants.{Challenge, Conclude, Transfer, Claim}
use Rattle.call_history.specs.declared.call.ClaimCall.{ClaimCall}
use Rattle.call_history.specs.declared.call.TransferCall.{TransferCall}
use Rattle.call_history.specs.declared.call.Op.{Op}
use Rattle.call_history.specs.declared.call.Op.TheVariants as ops
use Rattle.call_history.specs.declared.entry.Entry.{Entry}
use Rattle.call_history.specs.declared.funds.Due.{Due}
use Rattle.call_history.specs.declared.funds.Payment.{Payment}
use Rattle.call_history.specs.declared.refusal.Refusal.{Refusal}
use Rattle.call_history.specs.declared.refusal.Refusal.TheVariants.{NotFinal, WrongOutcome}
use Rattle.call_history.specs.declared.refusal.Reply.{Reply}
use Rattle.call_history.specs.declared.refusal.Reply.TheVariants.{Paid}
use Rattle.call_history.specs.declared.row.Row.{Row}
use Rattle.call_history.specs.declared.view.ChannelView.{ChannelView}
use Rattle.call_history.proofs.Names.{same_bytes}
use Rattle.call_history.proofs.Payouts.{rest_more}
use Rattle.history_view.specs.Views.{view_of, views_with, channel_paid, views_paid}
use Rattle.history_view.proofs.Accepting.{not_false, not_both, passes, turned_still, turning_names, turning_tells, was_still}
use Rattle.history_view.proofs.Turns.{turned_view}
use Rattle.history_view.proofs.Viewing.{view_with}

-- ---- rests

rest_same : (p q : ℕ → ℕ → ℕ) (outcome : List AssetOutcome) → ((asset place : ℕ) → p asset place ≡ q asset place) → rest_outcome p outcome ≡ rest_outcome q outcome
rest_same p q outcome same = ap (λ (paid : ℕ → ℕ → ℕ). rest_outcome paid outcome) (fun_ext (λ asset. fun_ext (λ place. same asset place)))

rest_same_if_any : (p q : ℕ → ℕ → ℕ) (outcome : Option (List AssetOutcome)) → ((asset place : ℕ) → p asset place ≡ q asset place)
    → option_map (rest_outcome p) outcome ≡ option_map (rest_outcome q) outcome
rest_same_if_any p q None same = refl
rest_same_if_any p q (Some outcome) same = ap (λ (rest : List AssetOutcome). Some rest) (rest_same p q outcome same)

-- where nothing was paid, all is left
less_nothing : (place : ℕ) (items : List Item) → less_paid (λ n. 0) place items ≡ items
less_nothing place [] = refl
less_nothing place (x ∷ xs) =
    ap (λ (n : ℕ). record { to = x.to; amount = n } ∷ less_paid (λ n. 0) (suc place) xs) (minus_zero x.amount) ∙ ap (λ (items : List Item). x ∷ items) (less_nothing (suc place) xs)
  where
    minus_zero : (n : ℕ) → n - 0 ≡ n
    minus_zero n = omega arith

shape_nothing : (shape : Shape) → rest_shape (λ n. 0) shape ≡ shape
shape_nothing (Allocation items) = ap (λ (xs : List Item). Allocation xs) (less_nothing 0 items)
shape_nothing (Guarantee target list) = refl

rest_nothing : (outcome : List AssetOutcome) → rest_outcome (λ asset place. 0) outcome ≡ outcome
rest_nothing [] = refl
rest_nothing (o ∷ os) =
    ap (λ (shape : Shape). record { asset = o.asset; shape = shape } ∷ rest_outcome (λ asset place. 0) os) (shape_nothing o.shape) ∙ ap (λ (rest : List AssetOutcome). o ∷ rest) (rest_nothing os)

all_left : (outcome : List AssetOutcome) (paid : ℕ → ℕ → ℕ) → ((asset place : ℕ) → paid asset place ≡ 0) → Some outcome ≡ Some (rest_outcome paid outcome)
all_left outcome paid none = ap (λ (rest : List AssetOutcome). Some rest) (sym (rest_same paid (λ asset place. 0) outcome none ∙ rest_nothing outcome))

-- ---- payments need a final channel

told_paid : (x : Result Due Refusal) (n : ℕ) → told (λ due. Paid due.amount) x ≡ Paid n → (due : Due) × (x ≡ Ok due)
told_paid (Ok due) n e = (due, refl)
told_paid (Err refusal) n e = absurd cc

-- nothing is paid of the items of a channel that isn't final
none_of : (name channel : List ℕ) (asset place kind at n : ℕ) → (bytes_eq name channel ≡ true → ⊥) → paid_of_item (record { channel = name; asset = asset; place = place; amount = n } ∷ []) channel kind at ≡ 0
none_of name channel asset place kind at n other = go (bytes_eq name channel) refl
  where
    go : (b : Bool) → bytes_eq name channel ≡ b → paid_of_item (record { channel = name; asset = asset; place = place; amount = n } ∷ []) channel kind at ≡ 0
    go true e = absurd (other e)
    go false e =
        omega (
          arith,
          sum_by-cons (pays channel kind at) (record { channel = name; asset = asset; place = place; amount = n }) [],
          ap (λ (b : Bool). cond (b && ((asset == kind) && (place == at))) n 0) e,
        )

transfer_final : (r : Rules) (h : List Entry) (k : TransferCall) (n : ℕ) → call_reply r h (Transfer k) ≡ Paid n → is_final (mode r k.channel h) ≡ true
transfer_final r h k n e =
    let paid = paid_of h k.channel k.asset in
    let held = held_of h k.channel k.asset in
    let of : Row = row r k.channel h in
    let rest : Result Due Refusal = refuse_if (replies.ends_otherwise r of k.outcome) (WrongOutcome k.channel) (transfer_due paid held k.outcome k.asset k.index) in
    let v = told_paid (replies.transfer r of (now_of h) paid held k.channel k.outcome k.asset k.index) n e in
    not_false (is_final (mode r k.channel h)) (passes (replies.is_unfinished of (now_of h)) (NotFinal k.channel) rest v.0 v.1).0

claim_final : (r : Rules) (h : List Entry) (k : ClaimCall) (n : ℕ) → call_reply r h (Claim k) ≡ Paid n → is_final (mode r k.target h) ≡ true
claim_final r h k n e =
    let paid = paid_of h k.target k.asset in
    let held = held_of h k.guarantor k.asset in
    let of : Row = row r k.guarantor h in
    let to : Row = row r k.target h in
    let due : Result Due Refusal = claim_due paid held k.guarantor_outcome k.target k.target_outcome k.asset k.position in
    let fourth : Result Due Refusal = refuse_if (replies.ends_otherwise r to k.target_outcome) (WrongOutcome k.target) due in
    let third : Result Due Refusal = refuse_if (replies.ends_otherwise r of k.guarantor_outcome) (WrongOutcome k.guarantor) fourth in
    let second : Result Due Refusal = refuse_if (replies.is_unfinished to (now_of h)) (NotFinal k.target) third in
    let answer : Result Due Refusal = refuse_if (replies.is_unfinished of (now_of h)) (NotFinal k.guarantor) second in
    let v = told_paid answer n e in
    let a = passes (replies.is_unfinished of (now_of h)) (NotFinal k.guarantor) second v.0 v.1 in
    not_false (is_final (mode r k.target h)) (passes (replies.is_unfinished to (now_of h)) (NotFinal k.target) third v.0 a.1).0

-- whose item is paid, is final
apart : (r : Rules) (h : List Entry) (name channel : List ℕ) → is_final (mode r name h) ≡ true → is_final (mode r channel h) ≡ false → bytes_eq name channel ≡ true → ⊥
apart r h name channel ended still same =
    not_both (is_final (mode r channel h)) (subst (λ (c : List ℕ). is_final (mode r c h) ≡ true) (same_bytes name channel same) ended) still

op_pays : (r : Rules) (h : List Entry) (op : Op) (reply : Reply) (channel : List ℕ) (kind at : ℕ) → reply ≡ reply_to r h op → is_final (mode r channel h) ≡ false
    → paid_of_item (payment_of op reply) channel kind at ≡ 0
unfolding reply_to
op_pays r h (ops.Call (Transfer k)) (Paid n) channel kind at replied still =
    none_of k.channel channel k.asset k.index kind at n (apart r h k.channel channel (transfer_final r h k n (sym replied)) still)
op_pays r h (ops.Call (Claim k)) (Paid n) channel kind at replied still =
    none_of k.target channel k.asset (place_in (shape_in k.target_outcome k.asset) (listed_dest (shape_in k.guarantor_outcome k.asset) k.position)) kind at n
    (apart r h k.target channel (claim_final r h k n (sym replied)) still)
op_pays r h op reply channel kind at replied still = refl

-- so nothing was paid of the items of a channel that isn't final
pub nothing_paid : (r : Rules) (h : List Entry) (channel : List ℕ) → Legal r h → is_final (mode r channel h) ≡ false → (asset place : ℕ) → paid_of h channel asset place ≡ 0
nothing_paid r [] channel legal still asset place = refl
nothing_paid r (e ∷ h) channel legal still asset place =
    let before = was_still r channel h e legal still in
    omega (
      arith,
      sum_by-append (pays channel asset place) (payment_of e.op e.reply) (payments_of h),
      op_pays r h e.op e.reply channel asset place legal.2 before,
      nothing_paid r h channel legal.0 before asset place,
    )

-- ---- the rest of a view

-- a turning call settles on an outcome of which all is left, or leaves it
op_rests : (op : Op) (paid : ℕ → ℕ → ℕ) (outcome : Option (List AssetOutcome)) → ((asset place : ℕ) → paid asset place ≡ 0)
    → settles op (option_map (rest_outcome paid) outcome) ≡ option_map (rest_outcome paid) (settles op outcome)
op_rests (ops.Call (Challenge k)) paid outcome none = all_left (top_outcome k.chain.states) paid none
op_rests (ops.Call (Conclude chain)) paid outcome none = all_left (top_outcome chain.states) paid none
op_rests _ paid outcome none = refl

pub rest_turned : (r : Rules) (channel : List ℕ) (h : List Entry) (e : Entry) (v : ChannelView) → Legal r (e ∷ h) → v.rest ≡ rest_of_channel r channel h
    → (cond (turning r channel e) (turned_view r channel h e v) v).rest ≡ option_map (rest_outcome (paid_of h channel)) (settled r channel (e ∷ h))
rest_turned r channel h e v legal before = go (turning r channel e) refl
  where
    go : (b : Bool) → turning r channel e ≡ b → (cond b (turned_view r channel h e v) v).rest ≡ option_map (rest_outcome (paid_of h channel)) (cond b (settles e.op (settled r channel h)) (settled r channel h))
    go true turns =
        ap (settles e.op) before
        ∙ op_rests e.op (paid_of h channel) (settled r channel h)
        (nothing_paid r h channel legal.0 (turned_still r channel h e.op (turning_names r channel e turns) (turning_tells r channel h e legal turns)))
    go false quiet = before

-- a payment lowers its item
rest_paid_one : (payment : Payment) (channel : List ℕ) (paid : ℕ → ℕ → ℕ) (outcome : Option (List AssetOutcome)) (v : ChannelView) → v.rest ≡ option_map (rest_outcome paid) outcome
    → (cond (bytes_eq payment.channel channel) (channel_paid payment v) v).rest ≡ option_map (rest_outcome (λ asset place. pays channel asset place payment + paid asset place)) outcome
rest_paid_one payment channel paid outcome v before = go (bytes_eq payment.channel channel) refl
  where
    more : ℕ → ℕ → ℕ
    more asset place = pays channel asset place payment + paid asset place

    lower : List AssetOutcome → List AssetOutcome
    lower os = lower_outcome os payment.asset payment.place payment.amount

    at : (b : Bool) → bytes_eq payment.channel channel ≡ b → (asset place : ℕ) → pays channel asset place payment ≡ cond (b && ((payment.asset == asset) && (payment.place == place))) payment.amount 0
    at b e asset place = ap (λ (b : Bool). cond (b && ((payment.asset == asset) && (payment.place == place))) payment.amount 0) e

    lowered : bytes_eq payment.channel channel ≡ true → (o : Option (List AssetOutcome)) → option_map lower (option_map (rest_outcome paid) o) ≡ option_map (rest_outcome more) o
    lowered e None = refl
    lowered e (Some os) =
        ap (λ (rest : List AssetOutcome). Some rest)
        (sym (rest_more paid more os payment.asset payment.place payment.amount (λ asset place. omega (arith, at true e asset place))))

    go : (b : Bool) → bytes_eq payment.channel channel ≡ b → (cond b (channel_paid payment v) v).rest ≡ option_map (rest_outcome more) outcome
    go true e = ap (option_map lower) before ∙ lowered e outcome
    go false e = before ∙ rest_same_if_any paid more outcome (λ asset place. omega (arith, at false e asset place))

rest_paid : (payments : List Payment) (views : List ChannelView) (channel : List ℕ) (paid : ℕ → ℕ → ℕ) (outcome : Option (List AssetOutcome)) → (view_of views channel).rest ≡ option_map (rest_outcome paid) outcome
    → (view_of (views_paid payments views) channel).rest ≡ option_map (rest_outcome (λ asset place. paid_of_item payments channel asset place + paid asset place)) outcome
rest_paid [] views channel paid outcome before =
    before ∙ rest_same_if_any paid (λ asset place. paid_of_item [] channel asset place + paid asset place) outcome (λ asset place. omega arith)
rest_paid (payment ∷ payments) views channel paid outcome before =
    rest_paid payments (views_with (channel_paid payment) payment.channel views) channel more outcome
    (ap (λ (v : ChannelView). v.rest) (view_with (channel_paid payment) payment.channel channel views (λ v. refl)) ∙ rest_paid_one payment channel paid outcome (view_of views channel) before)
    ∙ rest_same_if_any (λ asset place. paid_of_item payments channel asset place + more asset place) (λ asset place. paid_of_item (payment ∷ payments) channel asset place + paid asset place) outcome
    (λ asset place. omega (arith, sum_by-cons (pays channel asset place) payment payments))
  where
    more : ℕ → ℕ → ℕ
    more asset place = pays channel asset place payment + paid asset place

-- so by the payment of an entry
pub rest_follows : (r : Rules) (channel : List ℕ) (h : List Entry) (e : Entry) (views : List ChannelView) (outcome : Option (List AssetOutcome)) → (view_of views channel).rest ≡ option_map (rest_outcome (paid_of h channel)) outcome
    → (view_of (views_paid (payment_of e.op e.reply) views) channel).rest ≡ option_map (rest_outcome (paid_of (e ∷ h) channel)) outcome
rest_follows r channel h e views outcome before =
    rest_paid (payment_of e.op e.reply) views channel (paid_of h channel) outcome before
    ∙ rest_same_if_any (λ asset place. paid_of_item (payment_of e.op e.reply) channel asset place + paid_of h channel asset place) (paid_of (e ∷ h) channel) outcome
    (λ asset place. sym (sum_by-append (pays channel asset place) (payment_of e.op e.reply) (payments_of h)))
