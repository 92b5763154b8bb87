-- States: what is read is spelled so, and valid; and what is spelled is read.
use Rattle.std.proofs.Common.{◌≡◌, ℕ, ◌^◌, ◌<◌, ◌≤◌, Bool, true, false, eqb, leb, ltb, List, [], ◌∷◌, ◌++◌, length, min, Ok, refl, sym, ap, subst, ◌∙◌, append_assoc, arith, lit<, inl, inr}
use Rattle.std.specs.Int.{w16, w64, to_be_bytes}
use Rattle.std.proofs.lemmas.Bool.{eqb-true, leb-false, ltb-false, lt-ltb, le-ltb, lt-leb, cases_lt}
use Rattle.channel_values.specs.Outcomes.{AreBytes, IsOutcome}
use Rattle.channel_values.specs.Parts.{StateParts, IsState}
use Rattle.channel_values.specs.Spelling.{outcome, flag, sized, state}
use Rattle.channel_values.specs.Reading.{byte_at, number_at, outcome_at, flag_at, turn_at, sized_at, state_at}
use Rattle.channel_values.proofs.Fields.{bind_ok, ok_is, passed, Takes, Takes-then, wide16, wide64, byte_takes, number_takes, front_takes}
use Rattle.channel_values.proofs.Again.{Again, Again-then, Again-test, Again-failed, again_valid, number_again, front_again, outcome_valid_again}
use Rattle.channel_values.proofs.Takes.{chosen, outcome_takes}

flag_takes : (whole : ℕ) (bytes : List ℕ) (x : Bool × List ℕ) → AreBytes bytes → flag_at whole bytes ≡ Ok x → Takes bytes (flag x.0) x.1
unfolding flag_at
flag_takes whole bytes x fits e =
    let a = bind_ok (byte_at whole bytes) _ x e in
    let t = byte_takes whole bytes a.0 fits a.1 in
    elim (chosen (eqb a.0.0 0) _ _ (Ok x) a.2) [
      | inl p ↦ subst (λ (y : Bool × List ℕ). Takes bytes (flag y.0) y.1) (ok_is (false, a.0.1) x p.1) (subst (λ (k : ℕ). Takes bytes (k ∷ []) a.0.1) (eqb-true _ _ p.0) t.0)
      | inr q ↦
          elim (chosen (eqb a.0.0 1) _ _ (Ok x) q.1) [
            | inl p ↦ subst (λ (y : Bool × List ℕ). Takes bytes (flag y.0) y.1) (ok_is (true, a.0.1) x p.1) (subst (λ (k : ℕ). Takes bytes (k ∷ []) a.0.1) (eqb-true _ _ p.0) t.0)
            | inr r ↦ absurd (let never = r.1 in cc)
          ]
    ]

turn_takes : (whole : ℕ) (bytes : List ℕ) (x : ℕ × List ℕ) → AreBytes bytes → turn_at whole bytes ≡ Ok x → Takes bytes (to_be_bytes w64 x.0) x.1 × (x.0 < 2 ^ 48)
unfolding turn_at
turn_takes whole bytes x fits e =
    let a = bind_ok (number_at whole w64 bytes) _ x e in
    let t = number_takes whole w64 (2 ^ 64) wide64 bytes a.0 fits a.1 in
    let p = passed (leb (2 ^ 48) a.0.0) _ _ x a.2 in
    subst (λ (y : ℕ × List ℕ). Takes bytes (to_be_bytes w64 y.0) y.1 × (y.0 < 2 ^ 48)) (ok_is a.0 x p.1) (t.0, leb-false _ _ p.0)

pub sized_takes : (whole limit : ℕ) (bytes : List ℕ) (x : List ℕ × List ℕ) → AreBytes bytes → limit < 65535 → sized_at whole limit bytes ≡ Ok x → Takes bytes (sized x.0) x.1 × (length x.0 ≤ limit) × AreBytes x.0
unfolding sized_at
sized_takes whole limit bytes x fits small e =
    let a = bind_ok (number_at whole w16 bytes) _ x e in
    let t = number_takes whole w16 (2 ^ 16) wide16 bytes a.0 fits a.1 in
    let p = passed (ltb limit a.0.0) _ _ x a.2 in
    let le : a.0.0 ≤ limit = ltb-false _ _ p.0 in
    let f = front_takes whole a.0.0 a.0.1 x t.0.rest_fits p.1 in
    let size : a.0.0 ≡ min (length x.0) 65535 = omega (arith, f.1, le, small) in
    let both = Takes-then bytes (to_be_bytes w16 a.0.0) a.0.1 x.0 x.1 t.0 f.0 in
    let made : Takes bytes (sized x.0) x.1 = subst (λ (k : ℕ). Takes bytes (to_be_bytes w16 k ++ x.0) x.1) size both in
    (made, omega (arith, f.1, le), f.2)

pub state_takes : (whole : ℕ) (bytes : List ℕ) (x : StateParts × List ℕ) → AreBytes bytes → state_at whole bytes ≡ Ok x → Takes bytes (state x.0) x.1 × IsState x.0
unfolding state_at state
state_takes whole bytes x fits e =
    let a = bind_ok (turn_at whole bytes) _ x e in
    let b = bind_ok (flag_at whole a.0.1) _ x a.2 in
    let c = bind_ok (outcome_at whole b.0.1) _ x b.2 in
    let d = bind_ok (sized_at whole 4096 c.0.1) _ x c.2 in
    let t0 = turn_takes whole bytes a.0 fits a.1 in
    let t1 = flag_takes whole a.0.1 b.0 t0.0.rest_fits b.1 in
    let t2 = outcome_takes whole b.0.1 c.0 t1.rest_fits c.1 in
    let t3 = sized_takes whole 4096 c.0.1 d.0 t2.0.rest_fits (lit< tt) d.1 in
    let e23 = Takes-then b.0.1 (outcome c.0.0) c.0.1 (sized d.0.0) d.0.1 t2.0 t3.0 in
    let e13 = Takes-then a.0.1 (flag b.0.0) b.0.1 (outcome c.0.0 ++ sized d.0.0) d.0.1 t1 e23 in
    let e03 = Takes-then bytes (to_be_bytes w64 a.0.0) a.0.1 (flag b.0.0 ++ (outcome c.0.0 ++ sized d.0.0)) d.0.1 t0.0 e13 in
    let made : StateParts = record { turn = a.0.0; is_final = b.0.0; outcome = c.0.0; app_bytes = d.0.0 } in
    subst (λ (y : StateParts × List ℕ). Takes bytes (state y.0) y.1 × IsState y.0) (ok_is (made, d.0.1) x d.2) (e03, record { turn = t0.1; outcome = t2.1; few = t3.1; bytes = t3.2 })

flag_again : (whole : ℕ) (b : Bool) (rest : List ℕ) → flag_at whole (flag b ++ rest) ≡ Ok (b, rest)
unfolding flag_at
flag_again whole true rest = refl
flag_again whole false rest = refl

turn_again : (whole n : ℕ) (rest : List ℕ) → n < 2 ^ 64 → Again (turn_at whole (to_be_bytes w64 n ++ rest)) n rest (n < 2 ^ 48)
unfolding turn_at
turn_again whole n rest lt =
    let Valid : Type 0 = n < 2 ^ 48 in
    Again-then _ _ n rest n rest Valid Valid (inl (number_again whole w64 (2 ^ 64) wide64 n rest lt)) (λ v. v)
    (Again-test (leb (2 ^ 48) n) _ _ n rest Valid (λ v. lt-leb _ _ v) (inl refl))

pub sized_again : (whole limit : ℕ) (bytes rest : List ℕ) → limit < 65535 → Again (sized_at whole limit (sized bytes ++ rest)) bytes rest (length bytes ≤ limit)
unfolding sized_at
sized_again whole limit bytes rest small =
    let k : ℕ = min (length bytes) 65535 in
    let Valid : Type 0 = length bytes ≤ limit in
    let regrouped : sized bytes ++ rest ≡ to_be_bytes w16 k ++ (bytes ++ rest) = append_assoc (to_be_bytes w16 k) bytes rest in
    let over : limit < length bytes → ltb limit k ≡ true = λ lt. lt-ltb limit k (omega (arith, lt, small)) in
    let fits : length bytes ≤ limit → ltb limit k ≡ false = λ le. le-ltb limit k (omega (arith, le)) in
    let same : length bytes ≤ limit → length bytes ≡ k = λ le. omega (arith, le, small) in
    subst (λ (w : List ℕ). Again (sized_at whole limit w) bytes rest (length bytes ≤ limit)) (sym regrouped)
    (Again-then _ _ k (bytes ++ rest) bytes rest Valid Valid (inl (number_again whole w16 (2 ^ 16) wide16 k (bytes ++ rest) (omega arith))) (λ v. v)
    (elim (cases_lt limit (length bytes)) [
      | inl lt ↦ Again-failed (ltb limit k) _ _ bytes rest Valid (over lt) (λ le. absurd (omega (arith, le, lt)))
      | inr le ↦ Again-test (ltb limit k) _ _ bytes rest Valid fits (inl (front_again whole k bytes rest (same le)))
    ]))

-- the state is read, or there is a fault, and then it isn't valid
pub state_again : (whole : ℕ) (s : StateParts) (rest : List ℕ) → (s.turn < 2 ^ 64) × IsOutcome s.outcome × AreBytes s.app_bytes → Again (state_at whole (state s ++ rest)) s rest (IsState s)
unfolding state_at state
state_again whole s rest h =
    let Valid : Type 0 = IsState s in
    let body : List ℕ = sized s.app_bytes ++ rest in
    let ends : List ℕ = outcome s.outcome ++ body in
    let last : List ℕ = flag s.is_final ++ ends in
    let regrouped : state s ++ rest ≡ to_be_bytes w64 s.turn ++ last = append_assoc (to_be_bytes w64 s.turn) (flag s.is_final ++ (outcome s.outcome ++ sized s.app_bytes)) rest ∙ ap (λ (w : List ℕ). to_be_bytes w64 s.turn ++ w) (append_assoc (flag s.is_final) (outcome s.outcome ++ sized s.app_bytes) rest ∙ ap (λ (w : List ℕ). flag s.is_final ++ w) (append_assoc (outcome s.outcome) (sized s.app_bytes) rest)) in
    subst (λ (w : List ℕ). Again (state_at whole w) s rest (IsState s)) (sym regrouped)
    (Again-then _ _ s.turn last s rest (s.turn < 2 ^ 48) Valid (turn_again whole s.turn last h.0) (λ v. v.turn)
    (Again-then _ _ s.is_final ends s rest Valid Valid (inl (flag_again whole s.is_final ends)) (λ v. v)
    (Again-then _ _ s.outcome body s rest Valid Valid (inl (outcome_valid_again whole s.outcome body h.1)) (λ v. v)
    (Again-then _ _ s.app_bytes rest s rest (length s.app_bytes ≤ 4096) Valid (sized_again whole 4096 s.app_bytes rest (lit< tt)) (λ v. v.few)
    (inl refl)))))

-- a valid state is read again
pub state_valid_again : (whole : ℕ) (s : StateParts) (rest : List ℕ) → IsState s → state_at whole (state s ++ rest) ≡ Ok (s, rest)
state_valid_again whole s rest valid =
    let below : s.turn < 2 ^ 64 = omega (arith, valid.turn) in
    again_valid _ s rest (IsState s) valid (state_again whole s rest (below, valid.outcome, valid.bytes))
