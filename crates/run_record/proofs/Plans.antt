-- Endings: what is read is spelled so and fits, and what is spelled is read.
use Rattle.std.proofs.Common.{◌≡◌, ℕ, ◌^◌, ◌<◌, ◌-◌, ◌+◌, ◌*◌, ◌/◌, ◌%◌, eqb, List, [], ◌∷◌, ◌++◌, length, Result, Ok, refl, sym, ap, subst, ◌∙◌, append_assoc, arith, lit<, inl, inr}
use Rattle.std.specs.Int.{w32, w64, to_be_bytes}
use Rattle.channel_values.specs.declared.fault.ByteFault.{ByteFault}
use Rattle.channel_values.specs.Outcomes.{AreBytes}
use Rattle.channel_values.specs.Spelling.{flag, state, chain}
use Rattle.channel_values.specs.Reading.{byte_at, number_at, name_at, flag_at, state_at, chain_at}
use Rattle.channel_values.proofs.Fields.{bind_ok, ok_is, Takes, Takes-then, byte_takes, name_takes, number_takes, wide32, wide64}
use Rattle.channel_values.proofs.Takes.{chosen}
use Rattle.channel_values.proofs.Again.{bind_again, number_again, name_again}
use Rattle.channel_values.proofs.Format.{IsFormat}
use Rattle.channel_values.proofs.Formats.{state_format, chain_format}
use Rattle.call_history.specs.declared.held_chain.HeldChain.{HeldChain}
use Rattle.call_history.specs.declared.held_chain.Known.{Known}
use Rattle.funding_plans.specs.declared.plan.Part.{Part}
use Rattle.funding_plans.specs.declared.plan.Part.TheVariants.{Root, OnLedger, End, Middle}
use Rattle.funding_plans.specs.declared.plan.Plan.{Plan}
use Rattle.funding_plans.specs.declared.plan.Virtual.{Virtual}
use Rattle.call_bytes.specs.Spelling.{long}
use Rattle.call_bytes.proofs.Fields.{tagged, behind, after_byte}
use Rattle.run_record.specs.Spelling.{Amount, Pair, pair, virtual_part, part, known_state, held_chain, wide, share, few, many, ending}
use Rattle.run_record.specs.Limits.{IsPair, IsVirtual, IsPart, IsKnown, IsHeldChain, IsShare, IsEnding}
use Rattle.run_record.specs.Reading.{pair_at, virtual_at, root_at, on_ledger_at, end_at, middle_at, part_at, known_at, held_chain_at, wide_at, share_at, few_at, list_at, ending_at}
use Rattle.run_record.specs.declared.run_record.Ending.{Ending}
use Rattle.run_record.proofs.Fields.{flag_format}
use Rattle.run_record.proofs.Lists.{few_takes, few_again, list_takes, list_again}

-- ---- parts

pair_takes : (whole : ℕ) (bytes : List ℕ) (x : Pair × List ℕ) → AreBytes bytes → pair_at whole bytes ≡ Ok x → Takes bytes (pair x.0) x.1 × IsPair x.0
unfolding pair_at pair
pair_takes whole bytes x fits e =
    let a0 = bind_ok (name_at whole bytes) _ x e in
    let a1 = bind_ok (name_at whole a0.0.1) _ x a0.2 in
    let t0 = name_takes whole bytes a0.0 fits a0.1 in
    let t1 = name_takes whole a0.0.1 a1.0 t0.0.rest_fits a1.1 in
    let e0 = Takes-then bytes a0.0.0 a0.0.1 a1.0.0 a1.0.1 t0.0 t1.0 in
    let made : Pair = (a0.0.0, a1.0.0) in
    subst (λ (y : Pair × List ℕ). Takes bytes (pair y.0) y.1 × IsPair y.0) (ok_is (made, a1.0.1) x a1.2) (e0, (t0.1, t1.1))

pair_again : (whole : ℕ) (v : Pair) (rest : List ℕ) → IsPair v → pair_at whole (pair v ++ rest) ≡ Ok (v, rest)
unfolding pair_at pair
pair_again whole v rest valid =
    let r0 : List ℕ = v.1 ++ rest in
    let regrouped : pair v ++ rest ≡ v.0 ++ r0 = append_assoc v.0 v.1 rest in
    subst (λ (w : List ℕ). pair_at whole w ≡ Ok (v, rest)) (sym regrouped)
    (bind_again _ _ (v.0, r0) _ (name_again whole v.0 r0 valid.0.0) (bind_again _ _ (v.1, rest) _ (name_again whole v.1 rest valid.1.0) refl))

pair_format : IsFormat pair_at pair IsPair
pair_format = record { takes = pair_takes; again = pair_again }

virtual_takes : (whole : ℕ) (bytes : List ℕ) (x : Virtual × List ℕ) → AreBytes bytes → virtual_at whole bytes ≡ Ok x → Takes bytes (virtual_part x.0) x.1 × IsVirtual x.0
unfolding virtual_at virtual_part
virtual_takes whole bytes x fits e =
    let a0 = bind_ok (pair_at whole bytes) _ x e in
    let a1 = bind_ok (pair_at whole a0.0.1) _ x a0.2 in
    let a2 = bind_ok (pair_at whole a1.0.1) _ x a1.2 in
    let a3 = bind_ok (number_at whole w32 a2.0.1) _ x a2.2 in
    let a4 = bind_ok (number_at whole w64 a3.0.1) _ x a3.2 in
    let a5 = bind_ok (flag_at whole a4.0.1) _ x a4.2 in
    let t0 = pair_format.takes whole bytes a0.0 fits a0.1 in
    let t1 = pair_format.takes whole a0.0.1 a1.0 t0.0.rest_fits a1.1 in
    let t2 = pair_format.takes whole a1.0.1 a2.0 t1.0.rest_fits a2.1 in
    let t3 = number_takes whole w32 (2 ^ 32) wide32 a2.0.1 a3.0 t2.0.rest_fits a3.1 in
    let t4 = number_takes whole w64 (2 ^ 64) wide64 a3.0.1 a4.0 t3.0.rest_fits a4.1 in
    let t5 = flag_format.takes whole a4.0.1 a5.0 t4.0.rest_fits a5.1 in
    let e4 = Takes-then a3.0.1 (to_be_bytes w64 a4.0.0) a4.0.1 (flag a5.0.0) a5.0.1 t4.0 t5.0 in
    let e3 = Takes-then a2.0.1 (to_be_bytes w32 a3.0.0) a3.0.1 (to_be_bytes w64 a4.0.0 ++ (flag a5.0.0)) a5.0.1 t3.0 e4 in
    let e2 = Takes-then a1.0.1 (pair a2.0.0) a2.0.1 (to_be_bytes w32 a3.0.0 ++ (to_be_bytes w64 a4.0.0 ++ (flag a5.0.0))) a5.0.1 t2.0 e3 in
    let e1 = Takes-then a0.0.1 (pair a1.0.0) a1.0.1 (pair a2.0.0 ++ (to_be_bytes w32 a3.0.0 ++ (to_be_bytes w64 a4.0.0 ++ (flag a5.0.0)))) a5.0.1 t1.0 e2 in
    let e0 = Takes-then bytes (pair a0.0.0) a0.0.1 (pair a1.0.0 ++ (pair a2.0.0 ++ (to_be_bytes w32 a3.0.0 ++ (to_be_bytes w64 a4.0.0 ++ (flag a5.0.0))))) a5.0.1 t0.0 e1 in
    let made : Virtual = record { ledger_a = a0.0.0.0; ledger_b = a0.0.0.1; guarantor_a = a1.0.0.0; guarantor_b = a1.0.0.1; joint = a2.0.0.0; channel = a2.0.0.1; asset = a3.0.0; total = a4.0.0; side_b = a5.0.0 } in
    subst (λ (y : Virtual × List ℕ). Takes bytes (virtual_part y.0) y.1 × IsVirtual y.0) (ok_is (made, a5.0.1) x a5.2) (e0, record { ledgers = t0.1; guarantors = t1.1; channels = t2.1; asset = t3.1; total = t4.1 })

virtual_again : (whole : ℕ) (v : Virtual) (rest : List ℕ) → IsVirtual v → virtual_at whole (virtual_part v ++ rest) ≡ Ok (v, rest)
unfolding virtual_at virtual_part
virtual_again whole v rest valid =
    let r4 : List ℕ = flag v.side_b ++ rest in
    let r3 : List ℕ = to_be_bytes w64 v.total ++ r4 in
    let r2 : List ℕ = to_be_bytes w32 v.asset ++ r3 in
    let r1 : List ℕ = pair (v.joint, v.channel) ++ r2 in
    let r0 : List ℕ = pair (v.guarantor_a, v.guarantor_b) ++ r1 in
    let regrouped : virtual_part v ++ rest ≡ pair (v.ledger_a, v.ledger_b) ++ r0 = append_assoc (pair (v.ledger_a, v.ledger_b)) (pair (v.guarantor_a, v.guarantor_b) ++ (pair (v.joint, v.channel) ++ (to_be_bytes w32 v.asset ++ (to_be_bytes w64 v.total ++ (flag v.side_b))))) rest ∙ ap (λ (w : List ℕ). (pair (v.ledger_a, v.ledger_b)) ++ w) (append_assoc (pair (v.guarantor_a, v.guarantor_b)) (pair (v.joint, v.channel) ++ (to_be_bytes w32 v.asset ++ (to_be_bytes w64 v.total ++ (flag v.side_b)))) rest ∙ ap (λ (w : List ℕ). (pair (v.guarantor_a, v.guarantor_b)) ++ w) (append_assoc (pair (v.joint, v.channel)) (to_be_bytes w32 v.asset ++ (to_be_bytes w64 v.total ++ (flag v.side_b))) rest ∙ ap (λ (w : List ℕ). (pair (v.joint, v.channel)) ++ w) (append_assoc (to_be_bytes w32 v.asset) (to_be_bytes w64 v.total ++ (flag v.side_b)) rest ∙ ap (λ (w : List ℕ). (to_be_bytes w32 v.asset) ++ w) (append_assoc (to_be_bytes w64 v.total) (flag v.side_b) rest)))) in
    subst (λ (w : List ℕ). virtual_at whole w ≡ Ok (v, rest)) (sym regrouped)
    (bind_again _ _ ((v.ledger_a, v.ledger_b), r0) _ (pair_format.again whole (v.ledger_a, v.ledger_b) r0 valid.ledgers) (bind_again _ _ ((v.guarantor_a, v.guarantor_b), r1) _ (pair_format.again whole (v.guarantor_a, v.guarantor_b) r1 valid.guarantors) (bind_again _ _ ((v.joint, v.channel), r2) _ (pair_format.again whole (v.joint, v.channel) r2 valid.channels) (bind_again _ _ (v.asset, r3) _ (number_again whole w32 (2 ^ 32) wide32 v.asset r3 valid.asset) (bind_again _ _ (v.total, r4) _ (number_again whole w64 (2 ^ 64) wide64 v.total r4 valid.total) (bind_again _ _ (v.side_b, rest) _ (flag_format.again whole v.side_b rest tt) refl))))))

virtual_format : IsFormat virtual_at virtual_part IsVirtual
virtual_format = record { takes = virtual_takes; again = virtual_again }

abbrev TakesPart : ℕ → List ℕ → Part × List ℕ → Type 0
TakesPart tag bytes x = Takes (tag ∷ bytes) (part x.0) x.1 × IsPart x.0

root_takes : (whole : ℕ) (bytes : List ℕ) (x : Part × List ℕ) → AreBytes bytes → root_at whole bytes ≡ Ok x → TakesPart 1 bytes x
unfolding root_at part
root_takes whole bytes x fits e =
    let a = bind_ok (name_at whole bytes) _ x e in
    let t = name_takes whole bytes a.0 fits a.1 in
    let made : Part = Root a.0.0 in
    subst (TakesPart 1 bytes) (ok_is (made, a.0.1) x a.2) (tagged 1 bytes a.0.0 a.0.1 t.0, t.1)

on_ledger_takes : (whole : ℕ) (bytes : List ℕ) (x : Part × List ℕ) → AreBytes bytes → on_ledger_at whole bytes ≡ Ok x → TakesPart 2 bytes x
unfolding on_ledger_at part
on_ledger_takes whole bytes x fits e =
    let a = bind_ok (name_at whole bytes) _ x e in
    let b = bind_ok (name_at whole a.0.1) _ x a.2 in
    let t0 = name_takes whole bytes a.0 fits a.1 in
    let t1 = name_takes whole a.0.1 b.0 t0.0.rest_fits b.1 in
    let both = Takes-then bytes a.0.0 a.0.1 b.0.0 b.0.1 t0.0 t1.0 in
    let made : Part = OnLedger a.0.0 b.0.0 in
    subst (TakesPart 2 bytes) (ok_is (made, b.0.1) x b.2) (tagged 2 bytes (a.0.0 ++ b.0.0) b.0.1 both, (t0.1, t1.1))

end_takes : (whole : ℕ) (bytes : List ℕ) (x : Part × List ℕ) → AreBytes bytes → end_at whole bytes ≡ Ok x → TakesPart 3 bytes x
unfolding end_at part
end_takes whole bytes x fits e =
    let a = bind_ok (virtual_at whole bytes) _ x e in
    let t = virtual_takes whole bytes a.0 fits a.1 in
    let made : Part = End a.0.0 in
    subst (TakesPart 3 bytes) (ok_is (made, a.0.1) x a.2) (tagged 3 bytes (virtual_part a.0.0) a.0.1 t.0, t.1)

middle_takes : (whole : ℕ) (bytes : List ℕ) (x : Part × List ℕ) → AreBytes bytes → middle_at whole bytes ≡ Ok x → TakesPart 4 bytes x
unfolding middle_at part
middle_takes whole bytes x fits e =
    let a = bind_ok (virtual_at whole bytes) _ x e in
    let t = virtual_takes whole bytes a.0 fits a.1 in
    let made : Part = Middle a.0.0 in
    subst (TakesPart 4 bytes) (ok_is (made, a.0.1) x a.2) (tagged 4 bytes (virtual_part a.0.0) a.0.1 t.0, t.1)

part_takes : (whole : ℕ) (bytes : List ℕ) (x : Part × List ℕ) → AreBytes bytes → part_at whole bytes ≡ Ok x → Takes bytes (part x.0) x.1 × IsPart x.0
unfolding part_at
part_takes whole bytes x fits e =
    let a = bind_ok (byte_at whole bytes) _ x e in
    let t = byte_takes whole bytes a.0 fits a.1 in
    let k : TakesPart a.0.0 a.0.1 x = elim (chosen (eqb a.0.0 1) _ _ (Ok x) a.2) [
      | inl p ↦ behind part IsPart a.0.0 1 a.0.1 x p.0 (root_takes whole a.0.1 x t.0.rest_fits p.1)
      | inr q ↦ elim (chosen (eqb a.0.0 2) _ _ (Ok x) q.1) [
        | inl p ↦ behind part IsPart a.0.0 2 a.0.1 x p.0 (on_ledger_takes whole a.0.1 x t.0.rest_fits p.1)
        | inr q ↦ elim (chosen (eqb a.0.0 3) _ _ (Ok x) q.1) [
          | inl p ↦ behind part IsPart a.0.0 3 a.0.1 x p.0 (end_takes whole a.0.1 x t.0.rest_fits p.1)
          | inr q ↦ elim (chosen (eqb a.0.0 4) _ _ (Ok x) q.1) [
            | inl p ↦ behind part IsPart a.0.0 4 a.0.1 x p.0 (middle_takes whole a.0.1 x t.0.rest_fits p.1)
            | inr q ↦ absurd (let never = q.1 in cc)
          ]
        ]
      ]
    ] in
    (after_byte bytes (part x.0) a.0.1 x.1 a.0.0 t.0 k.0, k.1)

part_again : (whole : ℕ) (p : Part) (rest : List ℕ) → IsPart p → part_at whole (part p ++ rest) ≡ Ok (p, rest)
unfolding part_at part root_at on_ledger_at end_at middle_at
part_again whole (Root channel) rest valid = bind_again _ _ (channel, rest) _ (name_again whole channel rest valid.0) refl
part_again whole (OnLedger ledger channel) rest valid =
    subst (λ (w : List ℕ). part_at whole (2 ∷ w) ≡ Ok (OnLedger ledger channel, rest)) (sym (append_assoc ledger channel rest))
    (bind_again _ _ (ledger, channel ++ rest) _ (name_again whole ledger (channel ++ rest) valid.0.0)
    (bind_again _ _ (channel, rest) _ (name_again whole channel rest valid.1.0) refl))
part_again whole (End v) rest valid = bind_again _ _ (v, rest) _ (virtual_again whole v rest valid) refl
part_again whole (Middle v) rest valid = bind_again _ _ (v, rest) _ (virtual_again whole v rest valid) refl

part_format : IsFormat part_at part IsPart
part_format = record { takes = part_takes; again = part_again }

-- ---- states, chains and shares

known_takes : (whole : ℕ) (bytes : List ℕ) (x : Known × List ℕ) → AreBytes bytes → known_at whole bytes ≡ Ok x → Takes bytes (known_state x.0) x.1 × IsKnown x.0
unfolding known_at known_state
known_takes whole bytes x fits e =
    let a0 = bind_ok (name_at whole bytes) _ x e in
    let a1 = bind_ok (state_at whole a0.0.1) _ x a0.2 in
    let t0 = name_takes whole bytes a0.0 fits a0.1 in
    let t1 = state_format.takes whole a0.0.1 a1.0 t0.0.rest_fits a1.1 in
    let e0 = Takes-then bytes a0.0.0 a0.0.1 (state a1.0.0) a1.0.1 t0.0 t1.0 in
    let made : Known = record { channel = a0.0.0; last = a1.0.0 } in
    subst (λ (y : Known × List ℕ). Takes bytes (known_state y.0) y.1 × IsKnown y.0) (ok_is (made, a1.0.1) x a1.2) (e0, (t0.1, t1.1))

known_again : (whole : ℕ) (v : Known) (rest : List ℕ) → IsKnown v → known_at whole (known_state v ++ rest) ≡ Ok (v, rest)
unfolding known_at known_state
known_again whole v rest valid =
    let r0 : List ℕ = state v.last ++ rest in
    let regrouped : known_state v ++ rest ≡ v.channel ++ r0 = append_assoc v.channel (state v.last) rest in
    subst (λ (w : List ℕ). known_at whole w ≡ Ok (v, rest)) (sym regrouped)
    (bind_again _ _ (v.channel, r0) _ (name_again whole v.channel r0 valid.0.0) (bind_again _ _ (v.last, rest) _ (state_format.again whole v.last rest valid.1) refl))

known_format : IsFormat known_at known_state IsKnown
known_format = record { takes = known_takes; again = known_again }

held_chain_takes : (whole : ℕ) (bytes : List ℕ) (x : HeldChain × List ℕ) → AreBytes bytes → held_chain_at whole bytes ≡ Ok x → Takes bytes (held_chain x.0) x.1 × IsHeldChain x.0
unfolding held_chain_at held_chain
held_chain_takes whole bytes x fits e =
    let a0 = bind_ok (name_at whole bytes) _ x e in
    let a1 = bind_ok (chain_at whole a0.0.1) _ x a0.2 in
    let t0 = name_takes whole bytes a0.0 fits a0.1 in
    let t1 = chain_format.takes whole a0.0.1 a1.0 t0.0.rest_fits a1.1 in
    let e0 = Takes-then bytes a0.0.0 a0.0.1 (chain a1.0.0) a1.0.1 t0.0 t1.0 in
    let made : HeldChain = record { channel = a0.0.0; chain = a1.0.0 } in
    subst (λ (y : HeldChain × List ℕ). Takes bytes (held_chain y.0) y.1 × IsHeldChain y.0) (ok_is (made, a1.0.1) x a1.2) (e0, (t0.1, t1.1))

held_chain_again : (whole : ℕ) (v : HeldChain) (rest : List ℕ) → IsHeldChain v → held_chain_at whole (held_chain v ++ rest) ≡ Ok (v, rest)
unfolding held_chain_at held_chain
held_chain_again whole v rest valid =
    let r0 : List ℕ = chain v.chain ++ rest in
    let regrouped : held_chain v ++ rest ≡ v.channel ++ r0 = append_assoc v.channel (chain v.chain) rest in
    subst (λ (w : List ℕ). held_chain_at whole w ≡ Ok (v, rest)) (sym regrouped)
    (bind_again _ _ (v.channel, r0) _ (name_again whole v.channel r0 valid.0.0) (bind_again _ _ (v.chain, rest) _ (chain_format.again whole v.chain rest valid.1) refl))

held_chain_format : IsFormat held_chain_at held_chain IsHeldChain
held_chain_format = record { takes = held_chain_takes; again = held_chain_again }

-- the halves of a number, and the number of two halves
upper_is : (h l : ℕ) → l < 2 ^ 64 → (h * 2 ^ 64 + l) / 2 ^ 64 ≡ h
upper_is h l lt = omega arith

lower_is : (h l : ℕ) → l < 2 ^ 64 → (h * 2 ^ 64 + l) % 2 ^ 64 ≡ l
lower_is h l lt = omega arith

wide_takes : (whole : ℕ) (bytes : List ℕ) (x : ℕ × List ℕ) → AreBytes bytes → wide_at whole bytes ≡ Ok x → Takes bytes (wide x.0) x.1 × (x.0 < 2 ^ 128)
unfolding wide_at
wide_takes whole bytes x fits e =
    let a = bind_ok (number_at whole w64 bytes) _ x e in
    let b = bind_ok (number_at whole w64 a.0.1) _ x a.2 in
    let t0 = number_takes whole w64 (2 ^ 64) wide64 bytes a.0 fits a.1 in
    let t1 = number_takes whole w64 (2 ^ 64) wide64 a.0.1 b.0 t0.0.rest_fits b.1 in
    let both = Takes-then bytes (long a.0.0) a.0.1 (long b.0.0) b.0.1 t0.0 t1.0 in
    let made : ℕ = a.0.0 * 2 ^ 64 + b.0.0 in
    let upper : made / 2 ^ 64 ≡ a.0.0 = upper_is a.0.0 b.0.0 t1.1 in
    let lower : made % 2 ^ 64 ≡ b.0.0 = lower_is a.0.0 b.0.0 t1.1 in
    let text : long a.0.0 ++ long b.0.0 ≡ wide made = sym (ap (λ (n : ℕ). long n ++ long (made % 2 ^ 64)) upper ∙ ap (λ (n : ℕ). long a.0.0 ++ long n) lower) in
    let small : made < 2 ^ 128 = omega (arith, t0.1, t1.1) in
    subst (λ (y : ℕ × List ℕ). Takes bytes (wide y.0) y.1 × (y.0 < 2 ^ 128)) (ok_is (made, b.0.1) x b.2) (subst (λ (w : List ℕ). Takes bytes w b.0.1) text both, small)

wide_again : (whole n : ℕ) (rest : List ℕ) → n < 2 ^ 128 → wide_at whole (wide n ++ rest) ≡ Ok (n, rest)
unfolding wide_at
wide_again whole n rest lt =
    let after : List ℕ = long (n % 2 ^ 64) ++ rest in
    let upper : n / 2 ^ 64 < 2 ^ 64 = omega (arith, lt) in
    let lower : n % 2 ^ 64 < 2 ^ 64 = omega arith in
    let whole_number : n / 2 ^ 64 * 2 ^ 64 + n % 2 ^ 64 ≡ n = omega arith in
    subst (λ (w : List ℕ). wide_at whole w ≡ Ok (n, rest)) (sym (append_assoc (long (n / 2 ^ 64)) (long (n % 2 ^ 64)) rest))
    (bind_again _ _ (n / 2 ^ 64, after) _ (number_again whole w64 (2 ^ 64) wide64 (n / 2 ^ 64) after upper)
    (bind_again _ _ (n % 2 ^ 64, rest) _ (number_again whole w64 (2 ^ 64) wide64 (n % 2 ^ 64) rest lower)
    (ap (λ (k : ℕ). Ok (k, rest)) whole_number)))

wide_format : IsFormat wide_at wide (λ n. n < 2 ^ 128)
wide_format = record { takes = wide_takes; again = wide_again }

share_takes : (whole : ℕ) (bytes : List ℕ) (x : Amount × List ℕ) → AreBytes bytes → share_at whole bytes ≡ Ok x → Takes bytes (share x.0) x.1 × IsShare x.0
unfolding share_at share
share_takes whole bytes x fits e =
    let a0 = bind_ok (number_at whole w32 bytes) _ x e in
    let a1 = bind_ok (wide_at whole a0.0.1) _ x a0.2 in
    let t0 = number_takes whole w32 (2 ^ 32) wide32 bytes a0.0 fits a0.1 in
    let t1 = wide_format.takes whole a0.0.1 a1.0 t0.0.rest_fits a1.1 in
    let e0 = Takes-then bytes (to_be_bytes w32 a0.0.0) a0.0.1 (wide a1.0.0) a1.0.1 t0.0 t1.0 in
    let made : Amount = (a0.0.0, a1.0.0) in
    subst (λ (y : Amount × List ℕ). Takes bytes (share y.0) y.1 × IsShare y.0) (ok_is (made, a1.0.1) x a1.2) (e0, (t0.1, t1.1))

share_again : (whole : ℕ) (v : Amount) (rest : List ℕ) → IsShare v → share_at whole (share v ++ rest) ≡ Ok (v, rest)
unfolding share_at share
share_again whole v rest valid =
    let r0 : List ℕ = wide v.1 ++ rest in
    let regrouped : share v ++ rest ≡ to_be_bytes w32 v.0 ++ r0 = append_assoc (to_be_bytes w32 v.0) (wide v.1) rest in
    subst (λ (w : List ℕ). share_at whole w ≡ Ok (v, rest)) (sym regrouped)
    (bind_again _ _ (v.0, r0) _ (number_again whole w32 (2 ^ 32) wide32 v.0 r0 valid.0) (bind_again _ _ (v.1, rest) _ (wide_format.again whole v.1 rest valid.1) refl))

share_format : IsFormat share_at share IsShare
share_format = record { takes = share_takes; again = share_again }

-- ---- endings

ending_takes : (whole : ℕ) (bytes : List ℕ) (x : Ending × List ℕ) → AreBytes bytes → ending_at whole bytes ≡ Ok x → Takes bytes (ending x.0) x.1 × IsEnding x.0
unfolding ending_at ending
ending_takes whole bytes x fits e =
    let a0 = bind_ok (name_at whole bytes) _ x e in
    let a1 = bind_ok (few_at 64 part_at whole a0.0.1) _ x a0.2 in
    let a2 = bind_ok (few_at 64 known_at whole a1.0.1) _ x a1.2 in
    let a3 = bind_ok (few_at 64 held_chain_at whole a2.0.1) _ x a2.2 in
    let a4 = bind_ok (list_at share_at whole a3.0.1) _ x a3.2 in
    let t0 = name_takes whole bytes a0.0 fits a0.1 in
    let t1 = few_takes part_format 64 whole (lit< tt) a0.0.1 a1.0 t0.0.rest_fits a1.1 in
    let t2 = few_takes known_format 64 whole (lit< tt) a1.0.1 a2.0 t1.0.rest_fits a2.1 in
    let t3 = few_takes held_chain_format 64 whole (lit< tt) a2.0.1 a3.0 t2.0.rest_fits a3.1 in
    let t4 = list_takes share_format whole a3.0.1 a4.0 t3.0.rest_fits a4.1 in
    let e3 = Takes-then a2.0.1 (few held_chain a3.0.0) a3.0.1 (many share a4.0.0) a4.0.1 t3.0 t4.0 in
    let e2 = Takes-then a1.0.1 (few known_state a2.0.0) a2.0.1 (few held_chain a3.0.0 ++ (many share a4.0.0)) a4.0.1 t2.0 e3 in
    let e1 = Takes-then a0.0.1 (few part a1.0.0) a1.0.1 (few known_state a2.0.0 ++ (few held_chain a3.0.0 ++ (many share a4.0.0))) a4.0.1 t1.0 e2 in
    let e0 = Takes-then bytes a0.0.0 a0.0.1 (few part a1.0.0 ++ (few known_state a2.0.0 ++ (few held_chain a3.0.0 ++ (many share a4.0.0)))) a4.0.1 t0.0 e1 in
    let made : Ending = record { person = a0.0.0; plan = record { me = a0.0.0; parts = a1.0.0 }; known = a2.0.0; chains = a3.0.0; shares = a4.0.0 } in
    subst (λ (y : Ending × List ℕ). Takes bytes (ending y.0) y.1 × IsEnding y.0) (ok_is (made, a4.0.1) x a4.2) (e0, record { person = t0.1; owner = refl; parts = t1.1; known = t2.1; chains = t3.1; shares = t4.1 })

ending_again : (whole : ℕ) (v : Ending) (rest : List ℕ) → IsEnding v → ending_at whole (ending v ++ rest) ≡ Ok (v, rest)
unfolding ending_at ending
ending_again whole v rest valid =
    let r3 : List ℕ = many share v.shares ++ rest in
    let r2 : List ℕ = few held_chain v.chains ++ r3 in
    let r1 : List ℕ = few known_state v.known ++ r2 in
    let r0 : List ℕ = few part v.plan.parts ++ r1 in
    let regrouped : ending v ++ rest ≡ v.person ++ r0 = append_assoc v.person (few part v.plan.parts ++ (few known_state v.known ++ (few held_chain v.chains ++ (many share v.shares)))) rest ∙ ap (λ (w : List ℕ). v.person ++ w) (append_assoc (few part v.plan.parts) (few known_state v.known ++ (few held_chain v.chains ++ (many share v.shares))) rest ∙ ap (λ (w : List ℕ). (few part v.plan.parts) ++ w) (append_assoc (few known_state v.known) (few held_chain v.chains ++ (many share v.shares)) rest ∙ ap (λ (w : List ℕ). (few known_state v.known) ++ w) (append_assoc (few held_chain v.chains) (many share v.shares) rest))) in
    subst (λ (w : List ℕ). ending_at whole w ≡ Ok (v, rest)) (sym regrouped)
    (bind_again _ _ (v.person, r0) _ (name_again whole v.person r0 valid.person.0) (bind_again _ _ (v.plan.parts, r1) _ (few_again part_format 64 whole (lit< tt) v.plan.parts r1 valid.parts) (bind_again _ _ (v.known, r2) _ (few_again known_format 64 whole (lit< tt) v.known r2 valid.known) (bind_again _ _ (v.chains, r3) _ (few_again held_chain_format 64 whole (lit< tt) v.chains r3 valid.chains) (bind_again _ _ (v.shares, rest) _ (list_again share_format whole v.shares rest valid.shares) (ap (λ (m : List ℕ). Ok (record { person = v.person; plan = record { me = m; parts = v.plan.parts }; known = v.known; chains = v.chains; shares = v.shares }, rest)) (sym valid.owner)))))))

pub ending_format : IsFormat ending_at ending IsEnding
ending_format = record { takes = ending_takes; again = ending_again }
