-- What a root wants follows from what is kept.
use Rattle.std.proofs.Common.{◌≡◌, ℕ, ◌+◌, ◌*◌, ◌<◌, ◌≤◌, Bool, true, false, cond, ◌&&◌, ◌||◌, not, List, [], ◌∷◌, inl, inr, length, refl, sym, ◌∙◌, ap, subst, arith}
use Rattle.std.proofs.lemmas.Bool.Decides.{nat_tests}
use Rattle.std.specs.Prelude.{◌==◌, nat_lt, Option, Some, None, is_none}
use Rattle.std.specs.List.{list_all}
use Rattle.std.specs.Str.{bytes_eq}
use Rattle.channel_values.specs.Parts.{FixedParts, StateParts, state_with}
use Rattle.channel_values.specs.Spelling.{outcome}
use Rattle.channel_values.specs.declared.fault.StepFault.{StepFault}
use Rattle.channel_values.specs.declared.fault.StepFault.TheVariants as faults
use Rattle.channel_values.specs.declared.value.AssetOutcome.{AssetOutcome}
use Rattle.support_rules.specs.Rules.{is_same_outcome, app_fault}
use Rattle.channel_values.specs.Rows.{mover, last_of}
use Rattle.channel_values.specs.Rules.{people, newest}
use Rattle.channel_values.specs.Words.{fault_if, ◌⊳◌}
use Rattle.call_history.specs.Marked.{marked_of, next_after}
use Rattle.call_history.proofs.Names.{bytes_eq_self}
use Rattle.support_rules.specs.Real.{real}
use Rattle.support_rules.specs.Steps.{persons, step_fault}
use Rattle.channel_store.specs.Keeping.{is_held, is_ended, next_of, step_after, step_of}
use Rattle.channel_store.specs.Good.{IsGoodKept}
use Rattle.channel_store.specs.declared.kept.Kept.{Kept}
use Rattle.funding_plans.specs.declared.plan.Goal.{Goal}
use Rattle.funding_plans.specs.Seats.{has_no_data}
use Rattle.channel_node.specs.Refusing.{follows}
use Rattle.channel_safety.proofs.Tests.{some-eq, none-eq, and-left, and-right, and-both, clash, false-le}
use Rattle.channel_safety.proofs.Chains.{parts}
use Rattle.fairness_laws.specs.Roots.{is_repeated, SetsUp}
use Rattle.fairness_laws.proofs.Finding.{not-true}
use Rattle.fairness_laws.proofs.Carrying.{low, newest-repeats}

-- ---- steps

repeat-lines : (final bytes same up : Bool) (rest : Option StepFault) → final ≡ false → bytes ≡ true → same ≡ true → up ≡ true
    → (fault_if (final && true) faults.AfterFinal ⊳ fault_if (false && up) faults.EarlyFinal ⊳ cond (up || false) (fault_if (not bytes) faults.Data ⊳ fault_if (not same) faults.Outcome) rest) ≡ None
repeat-lines true bytes same up rest a b c d = absurd (clash true refl a)
repeat-lines false false same up rest a b c d = absurd (clash false b refl)
repeat-lines false true false up rest a b c d = absurd (clash false c refl)
repeat-lines false true true false rest a b c d = absurd (clash false d refl)
repeat-lines false true true true rest a b c d = refl

final-lines : (final bytes same up : Bool) (rest : Option StepFault) → bytes ≡ true → same ≡ true → up ≡ false
    → (fault_if (final && false) faults.AfterFinal ⊳ fault_if (true && up) faults.EarlyFinal ⊳ cond (up || true) (fault_if (not bytes) faults.Data ⊳ fault_if (not same) faults.Outcome) rest) ≡ None
final-lines final false same up rest b c d = absurd (clash false b refl)
final-lines final true false up rest b c d = absurd (clash false c refl)
final-lines final true true true rest b c d = absurd (clash true refl d)
final-lines true true true false rest b c d = refl
final-lines false true true false rest b c d = refl

no-bytes : (bytes : List ℕ) → (length bytes == 0) ≡ true → bytes_eq bytes [] ≡ true
no-bytes [] e = refl
no-bytes (b ∷ bytes) e = absurd (some-bytes (length (b ∷ bytes)) (omega arith) e)
  where
    some-bytes : (n : ℕ) → 1 ≤ n → (n == 0) ≡ true → ⊥
    some-bytes n h t = grind (arith, nat_tests)

high : (a b : ℕ) → b ≤ a → nat_lt a b ≡ false
high a b h = grind (arith, nat_tests)

-- a repeated state of the set-up is repeated once more
repeat-step : (f : FixedParts) (t : StateParts) (opening : List AssetOutcome) (turn : ℕ) → is_repeated opening t ≡ true → turn < 2 * people f → step_fault f t (state_with turn false opening []) ≡ None
unfolding step_fault
repeat-step f t opening turn rep up =
    let both : (not t.is_final && is_same_outcome t.outcome opening) ≡ true = and-left (not t.is_final && is_same_outcome t.outcome opening) (has_no_data t) rep in
    repeat-lines t.is_final (bytes_eq t.app_bytes []) (is_same_outcome t.outcome opening) (nat_lt turn (2 * length f.keys))
    (app_fault f.app (persons f) (mover (length f.keys) turn) t (state_with turn false opening []))
    (not-true t.is_final (and-left (not t.is_final) (is_same_outcome t.outcome opening) both))
    (no-bytes t.app_bytes (and-right (not t.is_final && is_same_outcome t.outcome opening) (has_no_data t) rep))
    (and-right (not t.is_final) (is_same_outcome t.outcome opening) both)
    (low turn (2 * length f.keys) up)

-- after the set-up a state without data is followed by a final one
final-step : (f : FixedParts) (t : StateParts) (turn : ℕ) → has_no_data t ≡ true → 2 * people f ≤ turn → step_fault f t (state_with turn true t.outcome []) ≡ None
unfolding step_fault
final-step f t turn bare up =
    final-lines t.is_final (bytes_eq t.app_bytes []) (is_same_outcome t.outcome t.outcome) (nat_lt turn (2 * length f.keys))
    (app_fault f.app (persons f) (mover (length f.keys) turn) t (state_with turn true t.outcome []))
    (no-bytes t.app_bytes bare) (bytes_eq_self (outcome t.outcome)) (high turn (2 * length f.keys) up)

-- ---- chains that aren't ended

no-states : (states : List StateParts) → newest states ≡ None → length states ≡ 0
no-states [] e = refl
no-states (s ∷ rest) e = absurd (none-eq (last_of s rest) (sym e))

not-held : (k : Kept) → IsGoodKept real k → newest k.chain.states ≡ None → is_held k ≡ false
not-held k (inl young) e =
    let few : length k.chain.states < people k.chain.fixed = young.few in
    let marks : length k.chain.marks ≡ length k.chain.states = young.marks in
    false-le (people k.chain.fixed) (length k.chain.marks) (omega arith)
not-held k (inr held) e =
    let some : 1 ≤ length k.chain.states = (parts real k.chain.fixed (marked_of k.chain) held).some in
    let none : length k.chain.states ≡ 0 = no-states k.chain.states e in
    absurd (omega arith)

last-final : (s : StateParts) (rest : List StateParts) → list_all (λ x. x.is_final) (s ∷ rest) ≡ true → (last_of s rest).is_final ≡ true
last-final s [] all = and-left s.is_final true all
last-final s (t ∷ rest) all = last-final t rest (and-right s.is_final (list_all (λ x. x.is_final) (t ∷ rest)) all)

newest-final : (states : List StateParts) (t : StateParts) → newest states ≡ Some t → list_all (λ x. x.is_final) states ≡ true → t.is_final ≡ true
newest-final [] t e all = absurd (none-eq t e)
newest-final (s ∷ rest) t e all = subst (λ (x : StateParts). x.is_final ≡ true) (some-eq (last_of s rest) t e) (last-final s rest all)

going-on : (k : Kept) (t : StateParts) → newest k.chain.states ≡ Some t → t.is_final ≡ false → is_ended k ≡ false
going-on k t e open-state = go (is_ended k) refl
  where
    go : (b : Bool) → is_ended k ≡ b → b ≡ false
    go true h = absurd (clash t.is_final (newest-final k.chain.states t e (and-right (is_held k) (list_all (λ x. x.is_final) k.chain.states) h)) open-state)
    go false h = refl

-- ---- what is wanted follows

both-hold : (k : Kept) (s : StateParts) → is_ended k ≡ false → step_of real k s ≡ None → follows real k s ≡ true
both-hold k s e st = and-both (not (is_ended k)) (is_none (step_of real k s)) (ap not e) (ap is_none st)

pub opening-follows : (g : Goal) (k : Kept) → SetsUp g k → next_of k < 2 * people k.chain.fixed → follows real k (state_with (next_of k) false g.opening []) ≡ true
opening-follows g k su small = go (newest k.chain.states) refl
  where
    go : (o : Option StateParts) → newest k.chain.states ≡ o → follows real k (state_with (next_of k) false g.opening []) ≡ true
    go None e =
        both-hold k (state_with (next_of k) false g.opening [])
        (ap (λ (b : Bool). b && list_all (λ x. x.is_final) k.chain.states) (not-held k su.good e))
        (ap (step_after real k (state_with (next_of k) false g.opening [])) e)
    go (Some t) e =
        let next : next_of k ≡ t.turn + 1 = ap next_after e in
        let rep = newest-repeats g k su t e (subst (λ (n : ℕ). n < 2 * people k.chain.fixed) next small) in
        let open-state = not-true t.is_final (and-left (not t.is_final) (is_same_outcome t.outcome g.opening) (and-left (not t.is_final && is_same_outcome t.outcome g.opening) (has_no_data t) rep)) in
        both-hold k (state_with (next_of k) false g.opening []) (going-on k t e open-state)
        (ap (step_after real k (state_with (next_of k) false g.opening [])) e ∙ repeat-step k.chain.fixed t g.opening (next_of k) rep small)

pub final-follows : (g : Goal) (k : Kept) (t : StateParts) → SetsUp g k → g.closing ≡ true → g.over ≡ false → newest k.chain.states ≡ Some t → is_ended k ≡ false → has_no_data t ≡ true
    → follows real k (state_with (next_of k) true t.outcome []) ≡ true
final-follows g k t su closing held-on e going bare =
    both-hold k (state_with (next_of k) true t.outcome []) going
    (ap (step_after real k (state_with (next_of k) true t.outcome [])) e ∙ final-step k.chain.fixed t (next_of k) bare (su.closes closing held-on))
