-- Entries and sums: what is read is spelled so and fits, and what is spelled is read.
use Rattle.std.proofs.Common.{◌≡◌, ℕ, ◌^◌, ◌<◌, ◌-◌, eqb, List, [], ◌∷◌, ◌++◌, length, Option, Some, None, Result, Ok, refl, sym, ap, subst, ◌∙◌, append_assoc, inl, inr}
use Rattle.std.specs.Int.{w32, w64, to_be_bytes}
use Rattle.channel_values.specs.declared.fault.ByteFault.{ByteFault}
use Rattle.channel_values.specs.Outcomes.{AreBytes}
use Rattle.channel_values.specs.Reading.{byte_at, number_at, name_at}
use Rattle.channel_values.proofs.Fields.{bind_ok, ok_is, Takes, Takes-then, byte_takes, name_takes, number_takes, wide32, wide64}
use Rattle.channel_values.proofs.Takes.{chosen}
use Rattle.channel_values.proofs.Again.{bind_again, number_again, name_again}
use Rattle.channel_values.proofs.Format.{IsFormat}
use Rattle.call_history.specs.Reading.{call_at}
use Rattle.call_history.specs.Spelling.{call}
use Rattle.call_history.proofs.Formats.{call_format}
use Rattle.call_history.specs.declared.call.Op.{Op}
use Rattle.call_history.specs.declared.call.Op.TheVariants as ops
use Rattle.call_history.specs.declared.entry.Entry.{Entry}
use Rattle.run_record.specs.Numbers.{sum_number, sum_of}
use Rattle.call_bytes.specs.Reading.{or_bad, reply_at}
use Rattle.call_bytes.specs.Spelling.{long, reply}
use Rattle.call_bytes.proofs.Fields.{tagged, behind, after_byte, or_bad_ok, none_is, pick}
use Rattle.call_bytes.proofs.Replies.{reply_format}
use Rattle.run_record.specs.Spelling.{op, entry, summed}
use Rattle.run_record.specs.Limits.{IsOp, IsEntry, IsSum}
use Rattle.run_record.specs.Reading.{called_at, time_at, op_at, entry_at, sum_at}
use Rattle.run_record.specs.declared.run_record.Sum.{Sum}
use Rattle.run_record.specs.declared.run_record.SumOf.{SumOf}
use Rattle.run_record.specs.declared.run_record.SumOf.TheVariants as sums

-- ---- ops

abbrev TakesOp : ℕ → List ℕ → Op × List ℕ → Type 0
TakesOp tag bytes x = Takes (tag ∷ bytes) (op x.0) x.1 × IsOp x.0

called_takes : (whole : ℕ) (bytes : List ℕ) (x : Op × List ℕ) → AreBytes bytes → called_at whole bytes ≡ Ok x → TakesOp 1 bytes x
unfolding called_at op
called_takes whole bytes x fits e =
    let a = bind_ok (call_at whole bytes) _ x e in
    let t = call_format.takes whole bytes a.0 fits a.1 in
    let made : Op = ops.Call a.0.0 in
    subst (TakesOp 1 bytes) (ok_is (made, a.0.1) x a.2) (tagged 1 bytes (call a.0.0) a.0.1 t.0, t.1)

time_takes : (whole : ℕ) (bytes : List ℕ) (x : Op × List ℕ) → AreBytes bytes → time_at whole bytes ≡ Ok x → TakesOp 2 bytes x
unfolding time_at op
time_takes whole bytes x fits e =
    let a = bind_ok (number_at whole w64 bytes) _ x e in
    let t = number_takes whole w64 (2 ^ 64) wide64 bytes a.0 fits a.1 in
    let made : Op = ops.Time a.0.0 in
    subst (TakesOp 2 bytes) (ok_is (made, a.0.1) x a.2) (tagged 2 bytes (long a.0.0) a.0.1 t.0, t.1)

op_takes : (whole : ℕ) (bytes : List ℕ) (x : Op × List ℕ) → AreBytes bytes → op_at whole bytes ≡ Ok x → Takes bytes (op x.0) x.1 × IsOp x.0
unfolding op_at
op_takes whole bytes x fits e =
    let a = bind_ok (byte_at whole bytes) _ x e in
    let t = byte_takes whole bytes a.0 fits a.1 in
    elim (chosen (eqb a.0.0 1) _ _ (Ok x) a.2) [
      | inl p ↦
          let k = behind op IsOp a.0.0 1 a.0.1 x p.0 (called_takes whole a.0.1 x t.0.rest_fits p.1) in
          (after_byte bytes (op x.0) a.0.1 x.1 a.0.0 t.0 k.0, k.1)
      | inr q ↦ elim (chosen (eqb a.0.0 2) _ _ (Ok x) q.1) [
        | inl p ↦
            let k = behind op IsOp a.0.0 2 a.0.1 x p.0 (time_takes whole a.0.1 x t.0.rest_fits p.1) in
            (after_byte bytes (op x.0) a.0.1 x.1 a.0.0 t.0 k.0, k.1)
        | inr q ↦ absurd (let never = q.1 in cc)
      ]
    ]

op_again : (whole : ℕ) (o : Op) (rest : List ℕ) → IsOp o → op_at whole (op o ++ rest) ≡ Ok (o, rest)
unfolding op_at op called_at time_at
op_again whole (ops.Call c) rest valid = bind_again _ _ (c, rest) _ (call_format.again whole c rest valid) refl
op_again whole (ops.Time t) rest valid = bind_again _ _ (t, rest) _ (number_again whole w64 (2 ^ 64) wide64 t rest valid) refl

op_format : IsFormat op_at op IsOp
op_format = record { takes = op_takes; again = op_again }

-- ---- entries

entry_takes : (whole : ℕ) (bytes : List ℕ) (x : Entry × List ℕ) → AreBytes bytes → entry_at whole bytes ≡ Ok x → Takes bytes (entry x.0) x.1 × IsEntry x.0
unfolding entry_at entry
entry_takes whole bytes x fits e =
    let a0 = bind_ok (number_at whole w32 bytes) _ x e in
    let a1 = bind_ok (number_at whole w32 a0.0.1) _ x a0.2 in
    let a2 = bind_ok (op_at whole a1.0.1) _ x a1.2 in
    let a3 = bind_ok (reply_at whole a2.0.1) _ x a2.2 in
    let t0 = number_takes whole w32 (2 ^ 32) wide32 bytes a0.0 fits a0.1 in
    let t1 = number_takes whole w32 (2 ^ 32) wide32 a0.0.1 a1.0 t0.0.rest_fits a1.1 in
    let t2 = op_format.takes whole a1.0.1 a2.0 t1.0.rest_fits a2.1 in
    let t3 = reply_format.takes whole a2.0.1 a3.0 t2.0.rest_fits a3.1 in
    let e2 = Takes-then a1.0.1 (op a2.0.0) a2.0.1 (reply a3.0.0) a3.0.1 t2.0 t3.0 in
    let e1 = Takes-then a0.0.1 (to_be_bytes w32 a1.0.0) a1.0.1 (op a2.0.0 ++ (reply a3.0.0)) a3.0.1 t1.0 e2 in
    let e0 = Takes-then bytes (to_be_bytes w32 a0.0.0) a0.0.1 (to_be_bytes w32 a1.0.0 ++ (op a2.0.0 ++ (reply a3.0.0))) a3.0.1 t0.0 e1 in
    let made : Entry = record { number = a0.0.0; by = a1.0.0; op = a2.0.0; reply = a3.0.0 } in
    subst (λ (y : Entry × List ℕ). Takes bytes (entry y.0) y.1 × IsEntry y.0) (ok_is (made, a3.0.1) x a3.2) (e0, (t0.1, t1.1, t2.1, t3.1))

entry_again : (whole : ℕ) (v : Entry) (rest : List ℕ) → IsEntry v → entry_at whole (entry v ++ rest) ≡ Ok (v, rest)
unfolding entry_at entry
entry_again whole v rest valid =
    let r2 : List ℕ = reply v.reply ++ rest in
    let r1 : List ℕ = op v.op ++ r2 in
    let r0 : List ℕ = to_be_bytes w32 v.by ++ r1 in
    let regrouped : entry v ++ rest ≡ to_be_bytes w32 v.number ++ r0 = append_assoc (to_be_bytes w32 v.number) (to_be_bytes w32 v.by ++ (op v.op ++ (reply v.reply))) rest ∙ ap (λ (w : List ℕ). (to_be_bytes w32 v.number) ++ w) (append_assoc (to_be_bytes w32 v.by) (op v.op ++ (reply v.reply)) rest ∙ ap (λ (w : List ℕ). (to_be_bytes w32 v.by) ++ w) (append_assoc (op v.op) (reply v.reply) rest)) in
    subst (λ (w : List ℕ). entry_at whole w ≡ Ok (v, rest)) (sym regrouped)
    (bind_again _ _ (v.number, r0) _ (number_again whole w32 (2 ^ 32) wide32 v.number r0 valid.0) (bind_again _ _ (v.by, r1) _ (number_again whole w32 (2 ^ 32) wide32 v.by r1 valid.1) (bind_again _ _ (v.op, r2) _ (op_format.again whole v.op r2 valid.2) (bind_again _ _ (v.reply, rest) _ (reply_format.again whole v.reply rest valid.3) refl))))

pub entry_format : IsFormat entry_at entry IsEntry
entry_format = record { takes = entry_takes; again = entry_again }

-- ---- sums

abbrev KindIs : ℕ → SumOf → Type 0
KindIs n k = sum_number k ≡ n

kind_is : (n : ℕ) (k : SumOf) → sum_of n ≡ Some k → KindIs n k
kind_is n k e =
    pick KindIs n 1 sums.Deposited _ k refl
    (pick KindIs n 2 sums.Held _ k refl
    (pick KindIs n 3 sums.Paid _ k refl
    (none_is (KindIs n k) k))) e

kind_again : (k : SumOf) → sum_of (sum_number k) ≡ Some k
kind_again sums.Deposited = refl
kind_again sums.Held = refl
kind_again sums.Paid = refl

sum_takes : (whole : ℕ) (bytes : List ℕ) (x : Sum × List ℕ) → AreBytes bytes → sum_at whole bytes ≡ Ok x → Takes bytes (summed x.0) x.1 × IsSum x.0
unfolding sum_at summed
sum_takes whole bytes x fits e =
    let g = bind_ok (byte_at whole bytes) _ x e in
    let k = bind_ok (or_bad (whole - length bytes) (sum_of g.0.0) g.0.1) _ x g.2 in
    let a = bind_ok (name_at whole k.0.1) _ x k.2 in
    let b = bind_ok (number_at whole w32 a.0.1) _ x a.2 in
    let c = bind_ok (number_at whole w64 b.0.1) _ x b.2 in
    let p = or_bad_ok (whole - length bytes) (sum_of g.0.0) g.0.1 k.0 k.1 in
    let t = byte_takes whole bytes g.0 fits g.1 in
    let number : sum_number k.0.0 ≡ g.0.0 = kind_is g.0.0 k.0.0 p.0 in
    let tagged_by : Takes bytes (sum_number k.0.0 ∷ []) k.0.1 = subst (λ (r : List ℕ). Takes bytes (sum_number k.0.0 ∷ []) r) p.1 (subst (λ (n : ℕ). Takes bytes (n ∷ []) g.0.1) (sym number) t.0) in
    let t0 = name_takes whole k.0.1 a.0 tagged_by.rest_fits a.1 in
    let t1 = number_takes whole w32 (2 ^ 32) wide32 a.0.1 b.0 t0.0.rest_fits b.1 in
    let t2 = number_takes whole w64 (2 ^ 64) wide64 b.0.1 c.0 t1.0.rest_fits c.1 in
    let e1 = Takes-then a.0.1 (to_be_bytes w32 b.0.0) b.0.1 (long c.0.0) c.0.1 t1.0 t2.0 in
    let e0 = Takes-then k.0.1 a.0.0 a.0.1 (to_be_bytes w32 b.0.0 ++ long c.0.0) c.0.1 t0.0 e1 in
    let all = Takes-then bytes (sum_number k.0.0 ∷ []) k.0.1 (a.0.0 ++ (to_be_bytes w32 b.0.0 ++ long c.0.0)) c.0.1 tagged_by e0 in
    let made : Sum = record { kind = k.0.0; name = a.0.0; asset = b.0.0; amount = c.0.0 } in
    subst (λ (y : Sum × List ℕ). Takes bytes (summed y.0) y.1 × IsSum y.0) (ok_is (made, c.0.1) x c.2) (all, (t0.1, t1.1, t2.1))

sum_again : (whole : ℕ) (s : Sum) (rest : List ℕ) → IsSum s → sum_at whole (summed s ++ rest) ≡ Ok (s, rest)
unfolding sum_at summed
sum_again whole s rest valid =
    let last : List ℕ = long s.amount ++ rest in
    let after : List ℕ = to_be_bytes w32 s.asset ++ last in
    let regrouped : (s.name ++ (to_be_bytes w32 s.asset ++ long s.amount)) ++ rest ≡ s.name ++ after =
    append_assoc s.name (to_be_bytes w32 s.asset ++ long s.amount) rest ∙ ap (λ (w : List ℕ). s.name ++ w) (append_assoc (to_be_bytes w32 s.asset) (long s.amount) rest) in
    subst (λ (w : List ℕ). sum_at whole (sum_number s.kind ∷ w) ≡ Ok (s, rest)) (sym regrouped)
    (bind_again _ _ (s.kind, s.name ++ after) _ (found (whole - length (sum_number s.kind ∷ (s.name ++ after))) s.kind (s.name ++ after))
    (bind_again _ _ (s.name, after) _ (name_again whole s.name after valid.0.0)
    (bind_again _ _ (s.asset, last) _ (number_again whole w32 (2 ^ 32) wide32 s.asset last valid.1)
    (bind_again _ _ (s.amount, rest) _ (number_again whole w64 (2 ^ 64) wide64 s.amount rest valid.2) refl))))
  where
    found : (place : ℕ) (k : SumOf) (w : List ℕ) → or_bad place (sum_of (sum_number k)) w ≡ Ok (k, w)
    found place k w = ap (λ (o : Option SumOf). or_bad place o w) (kind_again k)

pub sum_format : IsFormat sum_at summed IsSum
sum_format = record { takes = sum_takes; again = sum_again }
