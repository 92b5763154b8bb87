-- Signed states and chains: what is read is spelled so, and keeps the limits; and what is spelled is read.
use Rattle.std.proofs.Common.{◌≡◌, ℕ, ◌<◌, ◌≤◌, List, [], ◌∷◌, ◌++◌, length, Result, Ok, refl, sym, ap, subst, ◌∙◌, append_assoc, arith, lit<, inl}
use Rattle.std.specs.Prelude.{IfOk, Err}
use Rattle.std.specs.List.{AllByRecursion, flat_map}
use Rattle.channel_values.specs.declared.fault.ByteFault.{ByteFault}
use Rattle.channel_values.specs.declared.chain.Signed.{Signed}
use Rattle.channel_values.specs.declared.chain.Mark.{Mark}
use Rattle.channel_values.specs.declared.chain.Chain.{Chain}
use Rattle.channel_values.specs.Outcomes.{AreBytes}
use Rattle.channel_values.specs.Parts.{StateParts, IsState}
use Rattle.channel_values.specs.Chains.{IsSigned, IsMark, IsChain, KeepsMark, KeepsLimits}
use Rattle.channel_values.specs.Spelling.{count, sized, fixed, state, signed, mark, chain}
use Rattle.channel_values.specs.Reading.{◌>>=◌, byte_at, count_at, sized_at, many_at, fixed_at, state_at, next_state_at, mark_at, states_at, marks_at, signed_at, chain_at}
use Rattle.channel_values.proofs.Apart.{Each-push, Each-front}
use Rattle.channel_values.proofs.Fields.{bind_ok, ok_is, Takes, Takes-then, byte_takes, count_takes}
use Rattle.channel_values.proofs.Takes.{many_take, count_is}
use Rattle.channel_values.proofs.Again.{bind_again, again_valid, count_again, many_again}
use Rattle.channel_values.proofs.States.{sized_takes, sized_again, state_takes, state_valid_again}
use Rattle.channel_values.proofs.Fixeds.{fixed_takes, fixed_valid_again}

pub signed_takes : (whole : ℕ) (bytes : List ℕ) (x : Signed × List ℕ) → AreBytes bytes → signed_at whole bytes ≡ Ok x → Takes bytes (signed x.0) x.1 × IsSigned x.0
unfolding signed_at signed
signed_takes whole bytes x fits e =
    let a = bind_ok (state_at whole bytes) _ x e in
    let b = bind_ok (sized_at whole 9004 a.0.1) _ x a.2 in
    let t0 = state_takes whole bytes a.0 fits a.1 in
    let t1 = sized_takes whole 9004 a.0.1 b.0 t0.0.rest_fits (lit< tt) b.1 in
    let both = Takes-then bytes (state a.0.0) a.0.1 (sized b.0.0) b.0.1 t0.0 t1.0 in
    let made : Signed = record { state = a.0.0; signature = b.0.0 } in
    subst (λ (y : Signed × List ℕ). Takes bytes (signed y.0) y.1 × IsSigned y.0) (ok_is (made, b.0.1) x b.2) (both, (t0.1, (t1.1, t1.2)))

sized_valid_again : (whole limit : ℕ) (bytes rest : List ℕ) → limit < 65535 → length bytes ≤ limit → sized_at whole limit (sized bytes ++ rest) ≡ Ok (bytes, rest)
sized_valid_again whole limit bytes rest small le = again_valid _ bytes rest (length bytes ≤ limit) le (sized_again whole limit bytes rest small)

-- a signed state within the limits is read again
pub signed_valid_again : (whole : ℕ) (s : Signed) (rest : List ℕ) → IsSigned s → signed_at whole (signed s ++ rest) ≡ Ok (s, rest)
unfolding signed_at signed
signed_valid_again whole s rest valid =
    let after : List ℕ = sized s.signature ++ rest in
    let regrouped : signed s ++ rest ≡ state s.state ++ after = append_assoc (state s.state) (sized s.signature) rest in
    subst (λ (w : List ℕ). signed_at whole w ≡ Ok (s, rest)) (sym regrouped)
    (bind_again _ _ (s.state, after) _ (state_valid_again whole s.state after valid.0)
    (bind_again _ _ (s.signature, rest) _ (sized_valid_again whole 9004 s.signature rest (lit< tt) valid.1.0) refl))

-- ---- lists after their count

counted_takes : {X : Type 0} (one : List X → List ℕ → Result (X × List ℕ) ByteFault) (spell : X → List ℕ) (Good : List X → Type 0) (whole limit : ℕ) → limit < 256 → Good []
    → ((seen : List X) (bytes : List ℕ) (x : X × List ℕ) → Good seen → AreBytes bytes → one seen bytes ≡ Ok x → Takes bytes (spell x.0) x.1 × Good (seen ++ x.0 ∷ []))
    → (bytes : List ℕ) (y : List X × List ℕ) → AreBytes bytes → (count_at whole limit bytes >>= λ n. many_at one [] n.0 n.1) ≡ Ok y
    → Takes bytes (count (length y.0) ∷ flat_map spell y.0) y.1 × (length y.0 ≤ limit) × Good y.0
counted_takes {X} one spell Good whole limit small none step bytes y fits e =
    let a = bind_ok (count_at whole limit bytes) (λ n. many_at one [] n.0 n.1) y e in
    let t0 = count_takes whole limit bytes a.0 fits a.1 in
    let t1 = many_take one spell Good step a.0.0 [] a.0.1 y none t0.0.rest_fits a.2 in
    let xs : List X = t1.0 in
    let counted : Takes bytes (count (length xs) ∷ []) a.0.1 = subst (λ (k : ℕ). Takes bytes (k ∷ []) a.0.1) (count_is (length xs) a.0.0 limit t1.2 t0.1 small) t0.0 in
    let both = Takes-then bytes (count (length xs) ∷ []) a.0.1 (flat_map spell xs) y.1 counted t1.3 in
    let few : length xs ≤ limit = omega (arith, t1.2, t0.1) in
    let good : Good xs = subst Good t1.1 t1.4 in
    subst (λ (v : List X). Takes bytes (count (length v) ∷ flat_map spell v) y.1 × (length v ≤ limit) × Good v) (sym t1.1) (both, few, good)

counted_again : {X : Type 0} (one : List X → List ℕ → Result (X × List ℕ) ByteFault) (spell : X → List ℕ) (Is : X → Type 0) (whole limit : ℕ) → limit < 255
    → ((seen : List X) (x : X) (rest : List ℕ) → Is x → one seen (spell x ++ rest) ≡ Ok (x, rest))
    → (xs : List X) (rest : List ℕ) → length xs ≤ limit → AllByRecursion Is xs → (count_at whole limit (count (length xs) ∷ (flat_map spell xs ++ rest)) >>= λ n. many_at one [] n.0 n.1) ≡ Ok (xs, rest)
counted_again {X} one spell Is whole limit small step xs rest few good =
    let Good : List X → Type 0 = AllByRecursion Is in
    bind_again _ _ (length xs, flat_map spell xs ++ rest) _ (again_valid _ (length xs) (flat_map spell xs ++ rest) (length xs ≤ limit) few (count_again whole limit (length xs) (flat_map spell xs ++ rest) small))
    (again_valid _ xs rest (AllByRecursion Is xs) good (many_again one spell Good Is (Each-front Is) (λ seen x after is. inl (step seen x after is)) xs [] rest good))

next_state_takes : (whole : ℕ) (seen : List StateParts) (bytes : List ℕ) (x : StateParts × List ℕ) → AllByRecursion IsState seen → AreBytes bytes → next_state_at whole seen bytes ≡ Ok x → Takes bytes (state x.0) x.1 × AllByRecursion IsState (seen ++ x.0 ∷ [])
next_state_takes whole seen bytes x good fits e =
    let t = state_takes whole bytes x fits e in
    (t.0, Each-push IsState seen x.0 good t.1)

mark_takes : (whole : ℕ) (seen : List Mark) (bytes : List ℕ) (x : Mark × List ℕ) → AllByRecursion IsMark seen → AreBytes bytes → mark_at whole seen bytes ≡ Ok x → Takes bytes (mark x.0) x.1 × AllByRecursion IsMark (seen ++ x.0 ∷ [])
unfolding mark_at
mark_takes whole seen bytes x good fits e =
    let a = bind_ok (byte_at whole bytes) _ x e in
    let b = bind_ok (sized_at whole 9004 a.0.1) _ x a.2 in
    let t0 = byte_takes whole bytes a.0 fits a.1 in
    let t1 = sized_takes whole 9004 a.0.1 b.0 t0.0.rest_fits (lit< tt) b.1 in
    let both = Takes-then bytes (a.0.0 ∷ []) a.0.1 (sized b.0.0) b.0.1 t0.0 t1.0 in
    let made : Mark = record { place = a.0.0; signature = b.0.0 } in
    let is : IsMark made = (t0.1, (t1.1, t1.2)) in
    subst (λ (y : Mark × List ℕ). Takes bytes (mark y.0) y.1 × AllByRecursion IsMark (seen ++ y.0 ∷ [])) (ok_is (made, b.0.1) x b.2) (both, Each-push IsMark seen made good is)

mark_again : (whole : ℕ) (seen : List Mark) (x : Mark) (rest : List ℕ) → IsMark x → mark_at whole seen (mark x ++ rest) ≡ Ok (x, rest)
unfolding mark_at
mark_again whole seen x rest is = bind_again _ _ (x.signature, rest) _ (sized_valid_again whole 9004 x.signature rest (lit< tt) is.1.0) refl

states_takes : (whole : ℕ) (bytes : List ℕ) (y : List StateParts × List ℕ) → AreBytes bytes → states_at whole bytes ≡ Ok y → Takes bytes (count (length y.0) ∷ flat_map state y.0) y.1 × (length y.0 ≤ 4) × AllByRecursion IsState y.0
unfolding states_at
states_takes whole bytes y fits e = counted_takes (next_state_at whole) state (AllByRecursion IsState) whole 4 (lit< tt) tt (next_state_takes whole) bytes y fits e

marks_takes : (whole : ℕ) (bytes : List ℕ) (y : List Mark × List ℕ) → AreBytes bytes → marks_at whole bytes ≡ Ok y → Takes bytes (count (length y.0) ∷ flat_map mark y.0) y.1 × (length y.0 ≤ 4) × AllByRecursion IsMark y.0
unfolding marks_at
marks_takes whole bytes y fits e = counted_takes (mark_at whole) mark (AllByRecursion IsMark) whole 4 (lit< tt) tt (mark_takes whole) bytes y fits e

states_again : (whole : ℕ) (xs : List StateParts) (rest : List ℕ) → length xs ≤ 4 → AllByRecursion IsState xs → states_at whole (count (length xs) ∷ (flat_map state xs ++ rest)) ≡ Ok (xs, rest)
unfolding states_at
states_again whole xs rest few good = counted_again (next_state_at whole) state IsState whole 4 (lit< tt) (λ seen x after is. state_valid_again whole x after is) xs rest few good

marks_again : (whole : ℕ) (xs : List Mark) (rest : List ℕ) → length xs ≤ 4 → AllByRecursion IsMark xs → marks_at whole (count (length xs) ∷ (flat_map mark xs ++ rest)) ≡ Ok (xs, rest)
unfolding marks_at
marks_again whole xs rest few good = counted_again (mark_at whole) mark IsMark whole 4 (lit< tt) (mark_again whole) xs rest few good

pub chain_takes : (whole : ℕ) (bytes : List ℕ) (x : Chain × List ℕ) → AreBytes bytes → chain_at whole bytes ≡ Ok x → Takes bytes (chain x.0) x.1 × IsChain x.0
unfolding chain_at chain
chain_takes whole bytes x fits e =
    let a = bind_ok (fixed_at whole bytes) _ x e in
    let b = bind_ok (states_at whole a.0.1) _ x a.2 in
    let m = bind_ok (marks_at whole b.0.1) _ x b.2 in
    let t0 = fixed_takes whole bytes a.0 fits a.1 in
    let t1 = states_takes whole a.0.1 b.0 t0.0.rest_fits b.1 in
    let t2 = marks_takes whole b.0.1 m.0 t1.0.rest_fits m.1 in
    let states : List ℕ = count (length b.0.0) ∷ flat_map state b.0.0 in
    let marks : List ℕ = count (length m.0.0) ∷ flat_map mark m.0.0 in
    let e12 = Takes-then a.0.1 states b.0.1 marks m.0.1 t1.0 t2.0 in
    let e02 = Takes-then bytes (fixed a.0.0) a.0.1 (states ++ marks) m.0.1 t0.0 e12 in
    let made : Chain = record { fixed = a.0.0; states = b.0.0; marks = m.0.0 } in
    let valid : IsChain made = record { fixed = t0.1; few_states = t1.1; states = t1.2; few_marks = t2.1; marks = t2.2 } in
    subst (λ (y : Chain × List ℕ). Takes bytes (chain y.0) y.1 × IsChain y.0) (ok_is (made, m.0.1) x m.2) (e02, valid)

-- a chain within the limits is read again
pub chain_valid_again : (whole : ℕ) (c : Chain) (rest : List ℕ) → IsChain c → chain_at whole (chain c ++ rest) ≡ Ok (c, rest)
unfolding chain_at chain
chain_valid_again whole c rest valid =
    let states : List ℕ = flat_map state c.states in
    let marks : List ℕ = flat_map mark c.marks in
    let after_states : List ℕ = count (length c.marks) ∷ (marks ++ rest) in
    let after_fixed : List ℕ = count (length c.states) ∷ (states ++ after_states) in
    let regrouped : chain c ++ rest ≡ fixed c.fixed ++ after_fixed = append_assoc (fixed c.fixed) (count (length c.states) ∷ (states ++ (count (length c.marks) ∷ marks))) rest ∙ ap (λ (w : List ℕ). fixed c.fixed ++ (count (length c.states) ∷ w)) (append_assoc states (count (length c.marks) ∷ marks) rest) in
    subst (λ (w : List ℕ). chain_at whole w ≡ Ok (c, rest)) (sym regrouped)
    (bind_again _ _ (c.fixed, after_fixed) _ (fixed_valid_again whole c.fixed after_fixed valid.fixed)
    (bind_again _ _ (c.states, after_states) _ (states_again whole c.states after_states valid.few_states valid.states)
    (bind_again _ _ (c.marks, rest) _ (marks_again whole c.marks rest valid.few_marks valid.marks) refl)))

-- ---- what the types leave open

marks_kept : (ms : List Mark) → AllByRecursion IsMark ms → AllByRecursion KeepsMark ms
marks_kept [] h = tt
marks_kept (m ∷ ms) h = (h.0.1.0, marks_kept ms h.1)

pub limits_kept : (c : Chain) → IsChain c → KeepsLimits c
limits_kept c h = record { states = h.few_states; marks = h.few_marks; signatures = marks_kept c.marks h.marks }

pub is_kept : (bytes : List ℕ) (r : Result Chain ByteFault) → IfOk r (λ c. IsChain c × (bytes ≡ chain c)) → IfOk r KeepsLimits
is_kept bytes (Ok c) found = limits_kept c found.0
is_kept bytes (Err e) found = tt
