-- Nothing is paid of a channel's items before it is final.
use Rattle.std.proofs.Common.{◌≡◌, ℕ, suc, ◌-◌, Bool, true, false, cond, ◌&&◌, List, [], ◌∷◌, refl, ◌∙◌, ap, subst, arith}
use Rattle.std.specs.Prelude.{◌==◌, Result, Ok, Err}
use Rattle.std.specs.Str.{bytes_eq}
use Rattle.std.proofs.lemmas.List.Sums.{sum_by-cons, sum_by-append}
use mathlib.Core.Path.{fun_ext}
use Rattle.channel_values.specs.declared.value.AssetOutcome.{AssetOutcome}
use Rattle.channel_values.specs.declared.value.Item.{Item}
use Rattle.channel_values.specs.declared.value.Shape.{Shape}
use Rattle.channel_values.specs.declared.value.Shape.TheVariants.{Allocation, Guarantee}
use Rattle.call_history.specs.Mode.{is_final}
use Rattle.channel_values.specs.Rules.{Rules}
use Rattle.call_history.specs.Dues.{shape_in}
use Rattle.call_history.specs.Flows.{pays, paid_of_item}
use Rattle.call_history.specs.Refusing.{told}
use Rattle.call_history.specs.Rest.{less_paid, rest_shape, rest_outcome}
use Rattle.call_history.specs.Replies as replies
use Rattle.call_history.specs.History.{Legal, now_of, row, mode, held_of, paid_of, payment_of, payments_of, place_in, listed_dest, reply_to}
use Rattle.call_history.specs.declared.call.Call.TheVariants.{Transfer, Claim}
use Rattle.call_history.specs.declared.call.ClaimCall.{ClaimCall}
use Rattle.call_history.specs.declared.call.TransferCall.{TransferCall}
use Rattle.call_history.specs.declared.call.Op.{Op}
use Rattle.call_history.specs.declared.call.Op.TheVariants as ops
use Rattle.call_history.specs.declared.entry.Entry.{Entry}
use Rattle.call_history.specs.declared.funds.Due.{Due}
use Rattle.call_history.specs.declared.funds.Payment.{Payment}
use Rattle.call_history.specs.declared.refusal.Refusal.{Refusal}
use Rattle.call_history.specs.declared.refusal.Reply.{Reply}
use Rattle.call_history.specs.declared.refusal.Reply.TheVariants.{Paid}
use Rattle.call_history.proofs.Names.{same_bytes}
use Rattle.channel_safety.proofs.Tests.{clash}
use Rattle.share_laws.proofs.Final.{final-stays}
use Rattle.share_laws.proofs.Payouts.{transfer_ok, claim_ok}

module _ (r : Rules) (past : List Entry) (n : List ℕ) (open' : is_final (mode r n past) ≡ false) (a i : ℕ) where
  of_another : (channel : List ℕ) (asset place k : ℕ) → is_final (mode r channel past) ≡ true →
      paid_of_item (record { channel = channel; asset = asset; place = place; amount = k } ∷ []) n a i ≡ 0
  of_another channel asset place k final =
      let p : Payment = record { channel = channel; asset = asset; place = place; amount = k } in
      let s = sum_by-cons (pays n a i) p [] in
      let z : pays n a i p ≡ 0 = ap (λ (b : Bool). cond (b && ((asset == a) && (place == i))) k 0) (go (bytes_eq channel n) refl) in
      omega (arith, s, z)
    where
      go : (b : Bool) → bytes_eq channel n ≡ b → b ≡ false
      go true e = absurd (clash (is_final (mode r n past)) (subst (λ (m : List ℕ). is_final (mode r m past) ≡ true) (same_bytes channel n e) final) open')
      go false e = refl

  by_transfer : (t : TransferCall) (x : Result Due Refusal) →
      replies.transfer r (row r t.channel past) (now_of past) (paid_of past t.channel t.asset) (held_of past t.channel t.asset) t.channel t.outcome t.asset t.index ≡ x →
      paid_of_item (payment_of (ops.Call (Transfer t)) (told (λ due. Paid due.amount) x)) n a i ≡ 0
  by_transfer t (Ok d) e =
      of_another t.channel t.asset t.index d.amount (transfer_ok r (row r t.channel past) (now_of past) (paid_of past t.channel t.asset) (held_of past t.channel t.asset) t.channel t.outcome t.asset t.index d e).0.final
  by_transfer t (Err refusal) e = refl

  by_claim : (k : ClaimCall) (x : Result Due Refusal) →
      replies.claim r (row r k.guarantor past) (row r k.target past) (now_of past) (paid_of past k.target k.asset) (held_of past k.guarantor k.asset) k.guarantor k.guarantor_outcome k.target k.target_outcome k.asset k.position ≡ x →
      paid_of_item (payment_of (ops.Call (Claim k)) (told (λ due. Paid due.amount) x)) n a i ≡ 0
  by_claim k (Ok d) e =
      of_another k.target k.asset (place_in (shape_in k.target_outcome k.asset) (listed_dest (shape_in k.guarantor_outcome k.asset) k.position)) d.amount
      (claim_ok r (row r k.guarantor past) (row r k.target past) (now_of past) (paid_of past k.target k.asset) (held_of past k.guarantor k.asset) k.guarantor k.guarantor_outcome k.target k.target_outcome k.asset k.position d e).owner.final
  by_claim k (Err refusal) e = refl

  by_op : (op : Op) → paid_of_item (payment_of op (reply_to r past op)) n a i ≡ 0
  unfolding reply_to
  by_op (ops.Call (Transfer t)) = by_transfer t _ refl
  by_op (ops.Call (Claim k)) = by_claim k _ refl
  by_op op = refl

-- nor by the entry by which it becomes final
one_more : (r : Rules) (past : List Entry) (e : Entry) (n : List ℕ) → Legal r (e ∷ past) → is_final (mode r n past) ≡ false → (a i : ℕ) → paid_of past n a i ≡ 0 → paid_of (e ∷ past) n a i ≡ 0
one_more r past e n legal open' a i before =
    let s = sum_by-append (pays n a i) (payment_of e.op e.reply) (payments_of past) in
    let z : paid_of_item (payment_of e.op e.reply) n a i ≡ 0 = ap (λ (y : Reply). paid_of_item (payment_of e.op y) n a i) legal.2 ∙ by_op r past n open' a i e.op in
    omega (arith, s, z, before)

unpaid : (r : Rules) (past : List Entry) (n : List ℕ) → Legal r past → is_final (mode r n past) ≡ false → (a i : ℕ) → paid_of past n a i ≡ 0
unpaid r [] n legal open' a i = refl
unpaid r (e ∷ past) n legal open' a i = go (is_final (mode r n past)) refl (λ f. unpaid r past n legal.0 f a i)
  where
    go : (b : Bool) → is_final (mode r n past) ≡ b → (is_final (mode r n past) ≡ false → paid_of past n a i ≡ 0) → paid_of (e ∷ past) n a i ≡ 0
    go true f rec = absurd (clash (is_final (mode r n (e ∷ past))) (final-stays r n past e legal f) open')
    go false f rec = one_more r past e n legal f a i (rec f)

minus_zero : (x : ℕ) → x - 0 ≡ x
minus_zero x = omega arith

less_none : (n : ℕ) (items : List Item) → less_paid (λ i. 0) n items ≡ items
less_none n [] = refl
less_none n (x ∷ xs) =
    ap (λ (k : ℕ). record { to = x.to; amount = k } ∷ less_paid (λ i. 0) (suc n) xs) (minus_zero x.amount)
    ∙ ap (λ (ys : List Item). record { to = x.to; amount = x.amount } ∷ ys) (less_none (suc n) xs)

shape_none : (shape : Shape) → rest_shape (λ i. 0) shape ≡ shape
shape_none (Allocation items) = ap (λ (xs : List Item). Allocation xs) (less_none 0 items)
shape_none (Guarantee target list) = refl

rest_none : (os : List AssetOutcome) → rest_outcome (λ a i. 0) os ≡ os
rest_none [] = refl
rest_none (o ∷ os) =
    ap (λ (s : Shape). record { asset = o.asset; shape = s } ∷ rest_outcome (λ a i. 0) os) (shape_none o.shape)
    ∙ ap (λ (xs : List AssetOutcome). record { asset = o.asset; shape = o.shape } ∷ xs) (rest_none os)

-- what is left of an outcome right after its channel became final is all of it
pub rest-whole : (r : Rules) (past : List Entry) (e : Entry) (n : List ℕ) → Legal r (e ∷ past) → is_final (mode r n past) ≡ false → (o : List AssetOutcome) →
    rest_outcome (paid_of (e ∷ past) n) o ≡ o
rest-whole r past e n legal open' o =
    ap (λ (p : ℕ → ℕ → ℕ). rest_outcome p o) (fun_ext (λ a. fun_ext (λ i. one_more r past e n legal open' a i (unpaid r past n legal.0 open' a i))))
    ∙ rest_none o
