-- The formats of calls and messages: what is read is spelled so and keeps the limits, and what is spelled is read.
use Rattle.std.proofs.Common.{◌≡◌, ℕ, ◌^◌, ◌≤◌, true, eqb, List, [], ◌∷◌, ◌++◌, length, Result, Ok, Err, refl, sym, ap, subst, ◌∙◌, append_assoc, lit<, inl, inr}
use Rattle.std.proofs.lemmas.Bool.{eqb-true}
use Rattle.std.specs.Int.{w32, w64, to_be_bytes}
use Rattle.std.specs.Prelude.{IfOk}
use Rattle.channel_values.specs.declared.fault.ByteFault.{ByteFault}
use Rattle.channel_values.specs.Outcomes.{AreBytes}
use Rattle.channel_values.specs.Spelling.{outcome, sized, state, fixed, signed, chain}
use Rattle.channel_values.specs.Reading.{byte_at, number_at, name_at, sized_at, outcome_at, state_at, fixed_at, signed_at, chain_at}
use Rattle.channel_values.proofs.Fields.{bind_ok, ok_is, Takes, Takes-then, byte_takes, name_takes, number_takes, wide32, wide64}
use Rattle.channel_values.proofs.Takes.{chosen, outcome_takes}
use Rattle.channel_values.proofs.Again.{bind_again, again_valid, number_again, name_again, outcome_valid_again}
use Rattle.channel_values.proofs.States.{sized_takes, sized_again, state_takes, state_valid_again}
use Rattle.channel_values.proofs.Fixeds.{fixed_takes, fixed_valid_again}
use Rattle.channel_values.proofs.Chains.{signed_takes, signed_valid_again, chain_takes, chain_valid_again, limits_kept}
use Rattle.channel_values.proofs.Format.{IsFormat}
use Rattle.call_history.specs.Calls.{make_deposit, make_challenge, make_respond, make_transfer, make_claim}
use Rattle.call_history.specs.Spelling.{Message, call, message}
use Rattle.call_history.specs.Limits.{IsCall, IsMessage, KeepsCall}
use Rattle.call_history.specs.Reading.{deposit_at, challenge_at, respond_at, refute_at, checkpoint_at, conclude_at, transfer_at, claim_at, fields_at, call_at, message_at}
use Rattle.call_history.specs.declared.call.Call.{Call}
use Rattle.call_history.specs.declared.call.Call.TheVariants.{Deposit, Challenge, Respond, Refute, Checkpoint, Conclude, Transfer, Claim}

-- ---- messages

message_takes : (whole : ℕ) (bytes : List ℕ) (x : Message × List ℕ) → AreBytes bytes → message_at whole bytes ≡ Ok x → Takes bytes (message x.0) x.1 × IsMessage x.0
unfolding message_at message
message_takes whole bytes x fits e =
    let a = bind_ok (name_at whole bytes) _ x e in
    let b = bind_ok (signed_at whole a.0.1) _ x a.2 in
    let t0 = name_takes whole bytes a.0 fits a.1 in
    let t1 = signed_takes whole a.0.1 b.0 t0.0.rest_fits b.1 in
    let both = Takes-then bytes a.0.0 a.0.1 (signed b.0.0) b.0.1 t0.0 t1.0 in
    let made : Message = (a.0.0, b.0.0) in
    subst (λ (y : Message × List ℕ). Takes bytes (message y.0) y.1 × IsMessage y.0) (ok_is (made, b.0.1) x b.2) (both, (t0.1, t1.1))

message_again : (whole : ℕ) (m : Message) (rest : List ℕ) → IsMessage m → message_at whole (message m ++ rest) ≡ Ok (m, rest)
unfolding message_at message
message_again whole m rest valid =
    let after : List ℕ = signed m.1 ++ rest in
    let regrouped : message m ++ rest ≡ m.0 ++ after = append_assoc m.0 (signed m.1) rest in
    subst (λ (w : List ℕ). message_at whole w ≡ Ok (m, rest)) (sym regrouped)
    (bind_again _ _ (m.0, after) _ (name_again whole m.0 after valid.0.0)
    (bind_again _ _ (m.1, rest) _ (signed_valid_again whole m.1 rest valid.1) refl))

pub message_format : IsFormat message_at message IsMessage
message_format = record { takes = message_takes; again = message_again }

-- ---- the fields of calls

-- a tag that was read, with what was read after it
tagged : (tag : ℕ) (bytes text rest : List ℕ) → Takes bytes text rest → Takes (tag ∷ bytes) (tag ∷ text) rest
tagged tag bytes text rest t = record { parts = ap (λ (w : List ℕ). tag ∷ w) t.parts; rest_fits = t.rest_fits }

-- what the fields after a tag are read as
abbrev FieldsTake : (ℕ → List ℕ → Result (Call × List ℕ) ByteFault) → ℕ → Type 0
FieldsTake at tag = (whole : ℕ) (bytes : List ℕ) (x : Call × List ℕ) → AreBytes bytes → at whole bytes ≡ Ok x → Takes (tag ∷ bytes) (call x.0) x.1 × IsCall x.0

deposit_takes : FieldsTake deposit_at 1
unfolding deposit_at call
deposit_takes whole bytes x fits e =
    let a = bind_ok (name_at whole bytes) _ x e in
    let b = bind_ok (number_at whole w32 a.0.1) _ x a.2 in
    let c = bind_ok (number_at whole w64 b.0.1) _ x b.2 in
    let d = bind_ok (number_at whole w64 c.0.1) _ x c.2 in
    let t0 = name_takes whole bytes a.0 fits a.1 in
    let t1 = number_takes whole w32 (2 ^ 32) wide32 a.0.1 b.0 t0.0.rest_fits b.1 in
    let t2 = number_takes whole w64 (2 ^ 64) wide64 b.0.1 c.0 t1.0.rest_fits c.1 in
    let t3 = number_takes whole w64 (2 ^ 64) wide64 c.0.1 d.0 t2.0.rest_fits d.1 in
    let e23 = Takes-then b.0.1 (to_be_bytes w64 c.0.0) c.0.1 (to_be_bytes w64 d.0.0) d.0.1 t2.0 t3.0 in
    let e13 = Takes-then a.0.1 (to_be_bytes w32 b.0.0) b.0.1 (to_be_bytes w64 c.0.0 ++ to_be_bytes w64 d.0.0) d.0.1 t1.0 e23 in
    let e03 = Takes-then bytes a.0.0 a.0.1 (to_be_bytes w32 b.0.0 ++ (to_be_bytes w64 c.0.0 ++ to_be_bytes w64 d.0.0)) d.0.1 t0.0 e13 in
    let made : Call = make_deposit a.0.0 b.0.0 c.0.0 d.0.0 in
    subst (λ (y : Call × List ℕ). Takes (1 ∷ bytes) (call y.0) y.1 × IsCall y.0) (ok_is (made, d.0.1) x d.2) (tagged 1 bytes _ d.0.1 e03, (t0.1, t1.1, t2.1, t3.1))

challenge_takes : FieldsTake challenge_at 2
unfolding challenge_at call
challenge_takes whole bytes x fits e =
    let a = bind_ok (chain_at whole bytes) _ x e in
    let b = bind_ok (byte_at whole a.0.1) _ x a.2 in
    let c = bind_ok (sized_at whole 9004 b.0.1) _ x b.2 in
    let t0 = chain_takes whole bytes a.0 fits a.1 in
    let t1 = byte_takes whole a.0.1 b.0 t0.0.rest_fits b.1 in
    let t2 = sized_takes whole 9004 b.0.1 c.0 t1.0.rest_fits (lit< tt) c.1 in
    let e12 = Takes-then a.0.1 (b.0.0 ∷ []) b.0.1 (sized c.0.0) c.0.1 t1.0 t2.0 in
    let e02 = Takes-then bytes (chain a.0.0) a.0.1 (b.0.0 ∷ sized c.0.0) c.0.1 t0.0 e12 in
    let made : Call = make_challenge a.0.0 b.0.0 c.0.0 in
    subst (λ (y : Call × List ℕ). Takes (2 ∷ bytes) (call y.0) y.1 × IsCall y.0) (ok_is (made, c.0.1) x c.2) (tagged 2 bytes _ c.0.1 e02, (t0.1, t1.1, (t2.1, t2.2)))

respond_takes : FieldsTake respond_at 3
unfolding respond_at call
respond_takes whole bytes x fits e =
    let a = bind_ok (fixed_at whole bytes) _ x e in
    let b = bind_ok (state_at whole a.0.1) _ x a.2 in
    let c = bind_ok (signed_at whole b.0.1) _ x b.2 in
    let t0 = fixed_takes whole bytes a.0 fits a.1 in
    let t1 = state_takes whole a.0.1 b.0 t0.0.rest_fits b.1 in
    let t2 = signed_takes whole b.0.1 c.0 t1.0.rest_fits c.1 in
    let e12 = Takes-then a.0.1 (state b.0.0) b.0.1 (signed c.0.0) c.0.1 t1.0 t2.0 in
    let e02 = Takes-then bytes (fixed a.0.0) a.0.1 (state b.0.0 ++ signed c.0.0) c.0.1 t0.0 e12 in
    let made : Call = make_respond a.0.0 b.0.0 c.0.0 in
    subst (λ (y : Call × List ℕ). Takes (3 ∷ bytes) (call y.0) y.1 × IsCall y.0) (ok_is (made, c.0.1) x c.2) (tagged 3 bytes _ c.0.1 e02, (t0.1, t1.1, t2.1))

refute_takes : FieldsTake refute_at 4
unfolding refute_at call
refute_takes whole bytes x fits e =
    let a = bind_ok (fixed_at whole bytes) _ x e in
    let b = bind_ok (signed_at whole a.0.1) _ x a.2 in
    let t0 = fixed_takes whole bytes a.0 fits a.1 in
    let t1 = signed_takes whole a.0.1 b.0 t0.0.rest_fits b.1 in
    let both = Takes-then bytes (fixed a.0.0) a.0.1 (signed b.0.0) b.0.1 t0.0 t1.0 in
    let made : Call = Refute a.0.0 b.0.0 in
    subst (λ (y : Call × List ℕ). Takes (4 ∷ bytes) (call y.0) y.1 × IsCall y.0) (ok_is (made, b.0.1) x b.2) (tagged 4 bytes _ b.0.1 both, (t0.1, t1.1))

checkpoint_takes : FieldsTake checkpoint_at 5
unfolding checkpoint_at call
checkpoint_takes whole bytes x fits e =
    let a = bind_ok (chain_at whole bytes) _ x e in
    let t0 = chain_takes whole bytes a.0 fits a.1 in
    let made : Call = Checkpoint a.0.0 in
    subst (λ (y : Call × List ℕ). Takes (5 ∷ bytes) (call y.0) y.1 × IsCall y.0) (ok_is (made, a.0.1) x a.2) (tagged 5 bytes _ a.0.1 t0.0, t0.1)

conclude_takes : FieldsTake conclude_at 6
unfolding conclude_at call
conclude_takes whole bytes x fits e =
    let a = bind_ok (chain_at whole bytes) _ x e in
    let t0 = chain_takes whole bytes a.0 fits a.1 in
    let made : Call = Conclude a.0.0 in
    subst (λ (y : Call × List ℕ). Takes (6 ∷ bytes) (call y.0) y.1 × IsCall y.0) (ok_is (made, a.0.1) x a.2) (tagged 6 bytes _ a.0.1 t0.0, t0.1)

transfer_takes : FieldsTake transfer_at 7
unfolding transfer_at call
transfer_takes whole bytes x fits e =
    let a = bind_ok (name_at whole bytes) _ x e in
    let b = bind_ok (outcome_at whole a.0.1) _ x a.2 in
    let c = bind_ok (number_at whole w32 b.0.1) _ x b.2 in
    let d = bind_ok (byte_at whole c.0.1) _ x c.2 in
    let t0 = name_takes whole bytes a.0 fits a.1 in
    let t1 = outcome_takes whole a.0.1 b.0 t0.0.rest_fits b.1 in
    let t2 = number_takes whole w32 (2 ^ 32) wide32 b.0.1 c.0 t1.0.rest_fits c.1 in
    let t3 = byte_takes whole c.0.1 d.0 t2.0.rest_fits d.1 in
    let e23 = Takes-then b.0.1 (to_be_bytes w32 c.0.0) c.0.1 (d.0.0 ∷ []) d.0.1 t2.0 t3.0 in
    let e13 = Takes-then a.0.1 (outcome b.0.0) b.0.1 (to_be_bytes w32 c.0.0 ++ (d.0.0 ∷ [])) d.0.1 t1.0 e23 in
    let e03 = Takes-then bytes a.0.0 a.0.1 (outcome b.0.0 ++ (to_be_bytes w32 c.0.0 ++ (d.0.0 ∷ []))) d.0.1 t0.0 e13 in
    let made : Call = make_transfer a.0.0 b.0.0 c.0.0 d.0.0 in
    subst (λ (y : Call × List ℕ). Takes (7 ∷ bytes) (call y.0) y.1 × IsCall y.0) (ok_is (made, d.0.1) x d.2) (tagged 7 bytes _ d.0.1 e03, (t0.1, t1.1, t2.1, t3.1))

claim_takes : FieldsTake claim_at 8
unfolding claim_at call
claim_takes whole bytes x fits e =
    let a = bind_ok (name_at whole bytes) _ x e in
    let b = bind_ok (outcome_at whole a.0.1) _ x a.2 in
    let c = bind_ok (name_at whole b.0.1) _ x b.2 in
    let d = bind_ok (outcome_at whole c.0.1) _ x c.2 in
    let f = bind_ok (number_at whole w32 d.0.1) _ x d.2 in
    let g = bind_ok (byte_at whole f.0.1) _ x f.2 in
    let t0 = name_takes whole bytes a.0 fits a.1 in
    let t1 = outcome_takes whole a.0.1 b.0 t0.0.rest_fits b.1 in
    let t2 = name_takes whole b.0.1 c.0 t1.0.rest_fits c.1 in
    let t3 = outcome_takes whole c.0.1 d.0 t2.0.rest_fits d.1 in
    let t4 = number_takes whole w32 (2 ^ 32) wide32 d.0.1 f.0 t3.0.rest_fits f.1 in
    let t5 = byte_takes whole f.0.1 g.0 t4.0.rest_fits g.1 in
    let e45 = Takes-then d.0.1 (to_be_bytes w32 f.0.0) f.0.1 (g.0.0 ∷ []) g.0.1 t4.0 t5.0 in
    let e35 = Takes-then c.0.1 (outcome d.0.0) d.0.1 (to_be_bytes w32 f.0.0 ++ (g.0.0 ∷ [])) g.0.1 t3.0 e45 in
    let e25 = Takes-then b.0.1 c.0.0 c.0.1 (outcome d.0.0 ++ (to_be_bytes w32 f.0.0 ++ (g.0.0 ∷ []))) g.0.1 t2.0 e35 in
    let e15 = Takes-then a.0.1 (outcome b.0.0) b.0.1 (c.0.0 ++ (outcome d.0.0 ++ (to_be_bytes w32 f.0.0 ++ (g.0.0 ∷ [])))) g.0.1 t1.0 e25 in
    let e05 = Takes-then bytes a.0.0 a.0.1 (outcome b.0.0 ++ (c.0.0 ++ (outcome d.0.0 ++ (to_be_bytes w32 f.0.0 ++ (g.0.0 ∷ []))))) g.0.1 t0.0 e15 in
    let made : Call = make_claim a.0.0 b.0.0 c.0.0 d.0.0 f.0.0 g.0.0 in
    subst (λ (y : Call × List ℕ). Takes (8 ∷ bytes) (call y.0) y.1 × IsCall y.0) (ok_is (made, g.0.1) x g.2) (tagged 8 bytes _ g.0.1 e05, (t0.1, t1.1, t2.1, t3.1, t4.1, t5.1))

-- ---- calls

-- the fields after this tag
abbrev TakesBehind : ℕ → List ℕ → Call × List ℕ → Type 0
TakesBehind tag bytes x = Takes (tag ∷ bytes) (call x.0) x.1 × IsCall x.0

behind : (tag known : ℕ) (bytes : List ℕ) (x : Call × List ℕ) → eqb tag known ≡ true → TakesBehind known bytes x → TakesBehind tag bytes x
behind tag known bytes x e t = subst (λ (k : ℕ). TakesBehind k bytes x) (sym (eqb-true tag known e)) t

fields_take : (whole place tag : ℕ) (bytes : List ℕ) (x : Call × List ℕ) → AreBytes bytes → fields_at whole place tag bytes ≡ Ok x → TakesBehind tag bytes x
fields_take whole place tag bytes x fits e =
    elim (chosen (eqb tag 1) _ _ (Ok x) e) [
      | inl p ↦ behind tag 1 bytes x p.0 (deposit_takes whole bytes x fits p.1)
      | inr q ↦ elim (chosen (eqb tag 2) _ _ (Ok x) q.1) [
        | inl p ↦ behind tag 2 bytes x p.0 (challenge_takes whole bytes x fits p.1)
        | inr q ↦ elim (chosen (eqb tag 3) _ _ (Ok x) q.1) [
          | inl p ↦ behind tag 3 bytes x p.0 (respond_takes whole bytes x fits p.1)
          | inr q ↦ elim (chosen (eqb tag 4) _ _ (Ok x) q.1) [
            | inl p ↦ behind tag 4 bytes x p.0 (refute_takes whole bytes x fits p.1)
            | inr q ↦ elim (chosen (eqb tag 5) _ _ (Ok x) q.1) [
              | inl p ↦ behind tag 5 bytes x p.0 (checkpoint_takes whole bytes x fits p.1)
              | inr q ↦ elim (chosen (eqb tag 6) _ _ (Ok x) q.1) [
                | inl p ↦ behind tag 6 bytes x p.0 (conclude_takes whole bytes x fits p.1)
                | inr q ↦ elim (chosen (eqb tag 7) _ _ (Ok x) q.1) [
                  | inl p ↦ behind tag 7 bytes x p.0 (transfer_takes whole bytes x fits p.1)
                  | inr q ↦ elim (chosen (eqb tag 8) _ _ (Ok x) q.1) [
                    | inl p ↦ behind tag 8 bytes x p.0 (claim_takes whole bytes x fits p.1)
                    | inr q ↦ absurd (let never = q.1 in cc)
                  ]
                ]
              ]
            ]
          ]
        ]
      ]
    ]

call_takes : (whole : ℕ) (bytes : List ℕ) (x : Call × List ℕ) → AreBytes bytes → call_at whole bytes ≡ Ok x → Takes bytes (call x.0) x.1 × IsCall x.0
unfolding call_at
call_takes whole bytes x fits e =
    let a = bind_ok (byte_at whole bytes) _ x e in
    let t = byte_takes whole bytes a.0 fits a.1 in
    let f = fields_take whole _ a.0.0 a.0.1 x t.0.rest_fits a.2 in
    (record { parts = t.0.parts ∙ f.0.parts; rest_fits = f.0.rest_fits }, f.1)

sized_valid : (whole : ℕ) (bytes rest : List ℕ) → length bytes ≤ 9004 → sized_at whole 9004 (sized bytes ++ rest) ≡ Ok (bytes, rest)
sized_valid whole bytes rest le = again_valid _ bytes rest (length bytes ≤ 9004) le (sized_again whole 9004 bytes rest (lit< tt))

call_again : (whole : ℕ) (c : Call) (rest : List ℕ) → IsCall c → call_at whole (call c ++ rest) ≡ Ok (c, rest)
unfolding call_at call deposit_at challenge_at respond_at refute_at checkpoint_at conclude_at transfer_at claim_at
call_again whole (Deposit d) rest valid =
    let numbers : List ℕ = to_be_bytes w64 d.expected ++ to_be_bytes w64 d.amount in
    let paid : List ℕ = to_be_bytes w64 d.amount ++ rest in
    let hoped : List ℕ = to_be_bytes w64 d.expected ++ paid in
    let after : List ℕ = to_be_bytes w32 d.asset ++ hoped in
    let regrouped : (d.channel ++ (to_be_bytes w32 d.asset ++ numbers)) ++ rest ≡ d.channel ++ after =
    append_assoc d.channel (to_be_bytes w32 d.asset ++ numbers) rest
    ∙ ap (λ (w : List ℕ). d.channel ++ w) (append_assoc (to_be_bytes w32 d.asset) numbers rest
    ∙ ap (λ (w : List ℕ). to_be_bytes w32 d.asset ++ w) (append_assoc (to_be_bytes w64 d.expected) (to_be_bytes w64 d.amount) rest)) in
    subst (λ (w : List ℕ). deposit_at whole w ≡ Ok (Deposit d, rest)) (sym regrouped)
    (bind_again _ _ (d.channel, after) _ (name_again whole d.channel after valid.0.0)
    (bind_again _ _ (d.asset, hoped) _ (number_again whole w32 (2 ^ 32) wide32 d.asset hoped valid.1)
    (bind_again _ _ (d.expected, paid) _ (number_again whole w64 (2 ^ 64) wide64 d.expected paid valid.2)
    (bind_again _ _ (d.amount, rest) _ (number_again whole w64 (2 ^ 64) wide64 d.amount rest valid.3) refl))))
call_again whole (Challenge k) rest valid =
    let own : List ℕ = sized k.signature ++ rest in
    let after : List ℕ = k.challenger ∷ own in
    let regrouped : (chain k.chain ++ (k.challenger ∷ sized k.signature)) ++ rest ≡ chain k.chain ++ after = append_assoc (chain k.chain) (k.challenger ∷ sized k.signature) rest in
    subst (λ (w : List ℕ). challenge_at whole w ≡ Ok (Challenge k, rest)) (sym regrouped)
    (bind_again _ _ (k.chain, after) _ (chain_valid_again whole k.chain after valid.0)
    (bind_again _ _ (k.signature, rest) _ (sized_valid whole k.signature rest valid.2.0) refl))
call_again whole (Respond k) rest valid =
    let last : List ℕ = signed k.next ++ rest in
    let after : List ℕ = state k.from ++ last in
    let regrouped : (fixed k.fixed ++ (state k.from ++ signed k.next)) ++ rest ≡ fixed k.fixed ++ after =
    append_assoc (fixed k.fixed) (state k.from ++ signed k.next) rest ∙ ap (λ (w : List ℕ). fixed k.fixed ++ w) (append_assoc (state k.from) (signed k.next) rest) in
    subst (λ (w : List ℕ). respond_at whole w ≡ Ok (Respond k, rest)) (sym regrouped)
    (bind_again _ _ (k.fixed, after) _ (fixed_valid_again whole k.fixed after valid.0)
    (bind_again _ _ (k.from, last) _ (state_valid_again whole k.from last valid.1)
    (bind_again _ _ (k.next, rest) _ (signed_valid_again whole k.next rest valid.2) refl)))
call_again whole (Refute f next) rest valid =
    let after : List ℕ = signed next ++ rest in
    subst (λ (w : List ℕ). refute_at whole w ≡ Ok (Refute f next, rest)) (sym (append_assoc (fixed f) (signed next) rest))
    (bind_again _ _ (f, after) _ (fixed_valid_again whole f after valid.0)
    (bind_again _ _ (next, rest) _ (signed_valid_again whole next rest valid.1) refl))
call_again whole (Checkpoint c) rest valid = bind_again _ _ (c, rest) _ (chain_valid_again whole c rest valid) refl
call_again whole (Conclude c) rest valid = bind_again _ _ (c, rest) _ (chain_valid_again whole c rest valid) refl
call_again whole (Transfer k) rest valid =
    let numbers : List ℕ = to_be_bytes w32 k.asset ++ (k.index ∷ []) in
    let last : List ℕ = k.index ∷ rest in
    let amounts : List ℕ = to_be_bytes w32 k.asset ++ last in
    let after : List ℕ = outcome k.outcome ++ amounts in
    let regrouped : (k.channel ++ (outcome k.outcome ++ numbers)) ++ rest ≡ k.channel ++ after =
    append_assoc k.channel (outcome k.outcome ++ numbers) rest
    ∙ ap (λ (w : List ℕ). k.channel ++ w) (append_assoc (outcome k.outcome) numbers rest
    ∙ ap (λ (w : List ℕ). outcome k.outcome ++ w) (append_assoc (to_be_bytes w32 k.asset) (k.index ∷ []) rest)) in
    subst (λ (w : List ℕ). transfer_at whole w ≡ Ok (Transfer k, rest)) (sym regrouped)
    (bind_again _ _ (k.channel, after) _ (name_again whole k.channel after valid.0.0)
    (bind_again _ _ (k.outcome, amounts) _ (outcome_valid_again whole k.outcome amounts valid.1)
    (bind_again _ _ (k.asset, last) _ (number_again whole w32 (2 ^ 32) wide32 k.asset last valid.2) refl)))
call_again whole (Claim k) rest valid =
    let numbers : List ℕ = to_be_bytes w32 k.asset ++ (k.position ∷ []) in
    let ended : List ℕ = outcome k.target_outcome ++ numbers in
    let last : List ℕ = k.position ∷ rest in
    let amounts : List ℕ = to_be_bytes w32 k.asset ++ last in
    let ends : List ℕ = outcome k.target_outcome ++ amounts in
    let names : List ℕ = k.target ++ ends in
    let after : List ℕ = outcome k.guarantor_outcome ++ names in
    let regrouped : (k.guarantor ++ (outcome k.guarantor_outcome ++ (k.target ++ ended))) ++ rest ≡ k.guarantor ++ after =
    append_assoc k.guarantor (outcome k.guarantor_outcome ++ (k.target ++ ended)) rest
    ∙ ap (λ (w : List ℕ). k.guarantor ++ w) (append_assoc (outcome k.guarantor_outcome) (k.target ++ ended) rest
    ∙ ap (λ (w : List ℕ). outcome k.guarantor_outcome ++ w) (append_assoc k.target ended rest
    ∙ ap (λ (w : List ℕ). k.target ++ w) (append_assoc (outcome k.target_outcome) numbers rest
    ∙ ap (λ (w : List ℕ). outcome k.target_outcome ++ w) (append_assoc (to_be_bytes w32 k.asset) (k.position ∷ []) rest)))) in
    subst (λ (w : List ℕ). claim_at whole w ≡ Ok (Claim k, rest)) (sym regrouped)
    (bind_again _ _ (k.guarantor, after) _ (name_again whole k.guarantor after valid.0.0)
    (bind_again _ _ (k.guarantor_outcome, names) _ (outcome_valid_again whole k.guarantor_outcome names valid.1)
    (bind_again _ _ (k.target, ends) _ (name_again whole k.target ends valid.2.0)
    (bind_again _ _ (k.target_outcome, amounts) _ (outcome_valid_again whole k.target_outcome amounts valid.3)
    (bind_again _ _ (k.asset, last) _ (number_again whole w32 (2 ^ 32) wide32 k.asset last valid.4) refl)))))

pub call_format : IsFormat call_at call IsCall
call_format = record { takes = call_takes; again = call_again }

-- a call that is read may be written
pub call_keeps : (c : Call) → IsCall c → KeepsCall c
call_keeps (Deposit d) valid = tt
call_keeps (Challenge k) valid = (limits_kept k.chain valid.0, valid.2.0)
call_keeps (Respond k) valid = valid.2.1.0
call_keeps (Refute f next) valid = valid.1.1.0
call_keeps (Checkpoint c) valid = limits_kept c valid
call_keeps (Conclude c) valid = limits_kept c valid
call_keeps (Transfer k) valid = tt
call_keeps (Claim k) valid = tt

pub is_kept : (bytes : List ℕ) (r : Result Call ByteFault) → IfOk r (λ c. IsCall c × (bytes ≡ call c)) → IfOk r KeepsCall
is_kept bytes (Ok c) found = call_keeps c found.0
is_kept bytes (Err e) found = tt
