-- First faults: found by one way of telling, they are first by another; and a record has one verdict.
use Rattle.std.proofs.Common.{◌≡◌, ℕ, ◌+◌, ◌-◌, ◌<◌, ◌≤◌, List, [], ◌∷◌, ◌++◌, length, take, drop, get_or, min, refl, sym, ◌∙◌, ap, subst, arith, inl, inr, ◌↔◌}
use Rattle.std.specs.Prelude.{Option, Some, None, All, reverse}
use Rattle.std.proofs.lemmas.Bool.{cases_order}
use Rattle.std.proofs.lemmas.List.{length-take, get_or-take, take-append-drop, take-take, take_all, reverse-append}
use Rattle.std.proofs.lemmas.List.Elements.{All-more, at_read}
use Rattle.call_history.specs.History.{Legal}
use Rattle.call_history.specs.declared.entry.Entry.{Entry}
use Rattle.support_rules.specs.Real.{real}
use Rattle.run_record.specs.declared.run_record.Record.{Record}
use Rattle.record_checker.specs.Laws.{VerdictsAreOne}
use Rattle.record_checker.specs.declared.checking.Verdict.{Verdict}
use Rattle.record_checker.specs.declared.checking.Verdict.TheVariants.{Sound, Reply, Sums, Plan, Share}
use Rattle.run_record.specs.Sound.{IsLegal, HasPlan, HasShares, sums_wanted}
use Rattle.record_checker.specs.Faults.{IsFirstWrong, IsFirstDifference, IsFirstWithout, Lacks, Says}

all_so : {X : Type 0} (P Q : X → Type 0) (xs : List X) → ((x : X) → P x → Q x) → All P xs → All Q xs
all_so P Q xs so all k d lt = so (get_or xs k d) (all k d lt)

-- what lacks one of two equal properties lacks the other
pub lacks_so : {X : Type 0} (P Q : X → Type 0) (xs : List X) (o : Option ℕ) → ((x : X) → P x → Q x) → ((x : X) → Q x → P x) → Lacks P xs o → Lacks Q xs o
lacks_so P Q xs None so back all = all_so P Q xs so all
lacks_so P Q xs (Some i) so back first = record {
  inside = first.inside;
  before = all_so P Q (take i xs) so first.before;
  fails = λ d q. first.fails d (back (get_or xs i d) q);
}

-- ---- found by a loop

pub all_more : {X : Type 0} (P : X → Type 0) (xs : List X) (i : ℕ) (x : X) → i < length xs → x ≡ get_or xs i x → All P (take i xs) → P x → All P (take (i + 1) xs)
all_more P xs i x inside is all holds = All-more P xs i x inside all (subst P is holds)

pub first_without : {X : Type 0} (P : X → Type 0) (xs : List X) (i n : ℕ) (x : X) → n ≡ i → i < length xs → x ≡ get_or xs i x → All P (take i xs) → (P x → ⊥) → IsFirstWithout P xs n
first_without P xs i n x same inside is all fails =
    subst (IsFirstWithout P xs) (sym same)
    (record { inside = inside; before = all; fails = at_read xs (λ y. P y → ⊥) i x inside is fails })

pub all_of_them : {X : Type 0} (P : X → Type 0) (xs : List X) (i : ℕ) → length xs ≤ i → All P (take i xs) → All P xs
all_of_them P xs i le all = subst (All P) (take_all i xs le) all

pub differs_at : {X : Type 0} (xs ys : List X) (i : ℕ) (d : X) → take i xs ≡ take i ys → (get_or xs i d ≡ get_or ys i d → ⊥) → IsFirstDifference xs ys i
differs_at xs ys i d same apart = record {
  before = same;
  other = λ e. apart (sym (get_or-take (i + 1) xs i d (omega arith)) ∙ ap (λ (zs : List _). get_or zs i d) e ∙ get_or-take (i + 1) ys i d (omega arith));
}

pub differs_in_length : {X : Type 0} (xs ys : List X) (c : ℕ) → take c xs ≡ take c ys → c ≡ min (length xs) (length ys) → (length xs ≡ length ys → ⊥) → IsFirstDifference xs ys c
differs_in_length xs ys c same least apart = record {
  before = same;
  other = λ e. apart (omega (arith, least, ap length e, length-take (c + 1) xs, length-take (c + 1) ys));
}

pub same_lists : {X : Type 0} (xs ys : List X) (c : ℕ) → take c xs ≡ take c ys → c ≡ min (length xs) (length ys) → length xs ≡ length ys → xs ≡ ys
same_lists xs ys c same least long = sym (take_all c xs (omega (arith, least, long))) ∙ same ∙ take_all c ys (omega (arith, least, long))

-- ---- one verdict

inhabited : {X : Type 0} (xs : List X) (i : ℕ) → i < length xs → X
inhabited [] i lt = absurd (omega (arith, lt))
inhabited (x ∷ xs) i lt = x

lacks_not : {X : Type 0} (P : X → Type 0) (xs : List X) (i : ℕ) → IsFirstWithout P xs i → All P xs → ⊥
lacks_not P xs i first all =
    let d = inhabited xs i first.inside in
    first.fails d (all i d first.inside)

-- the first of two places isn't first
lacks_before : {X : Type 0} (P : X → Type 0) (xs : List X) (i j : ℕ) → i < j → IsFirstWithout P xs i → IsFirstWithout P xs j → ⊥
lacks_before P xs i j lt one two =
    let d = inhabited xs i one.inside in
    one.fails d (subst P (get_or-take j xs i d lt) (two.before i d (omega (arith, lt, one.inside, two.inside, length-take j xs))))

lacks_once : {X : Type 0} (P : X → Type 0) (xs : List X) (i j : ℕ) → IsFirstWithout P xs i → IsFirstWithout P xs j → i ≡ j
lacks_once P xs i j one two =
    elim (cases_order i j) [
      | inl same ↦ same
      | inr apart ↦ elim apart [
        | inl lt ↦ absurd (lacks_before P xs i j lt one two)
        | inr lt ↦ absurd (lacks_before P xs j i lt two one)
      ]
    ]

pub differs_not : {X : Type 0} (xs ys : List X) (i : ℕ) → IsFirstDifference xs ys i → xs ≡ ys → ⊥
differs_not xs ys i first e = first.other (ap (take (i + 1)) e)

differs_before : {X : Type 0} (xs ys : List X) (i j : ℕ) → i < j → IsFirstDifference xs ys i → IsFirstDifference xs ys j → ⊥
differs_before xs ys i j lt one two =
    let within : i + 1 ≤ j = omega (arith, lt) in
    one.other (sym (take-take (i + 1) j xs within) ∙ ap (take (i + 1)) two.before ∙ take-take (i + 1) j ys within)

differs_once : {X : Type 0} (xs ys : List X) (i j : ℕ) → IsFirstDifference xs ys i → IsFirstDifference xs ys j → i ≡ j
differs_once xs ys i j one two =
    elim (cases_order i j) [
      | inl same ↦ same
      | inr apart ↦ elim apart [
        | inl lt ↦ absurd (differs_before xs ys i j lt one two)
        | inr lt ↦ absurd (differs_before xs ys j i lt two one)
      ]
    ]

-- a front of a legal history is legal
legal_past : (later past : List Entry) → Legal real (later ++ past) → Legal real past
legal_past [] past legal = legal
legal_past (e ∷ later) past legal = legal_past later past legal.0

legal_front : (h : List Entry) (n : ℕ) → IsLegal h → IsLegal (take n h)
legal_front h n legal =
    let parts : reverse h ≡ reverse (drop n h) ++ reverse (take n h) = ap reverse (sym (take-append-drop n h)) ∙ reverse-append (take n h) (drop n h) in
    legal_past (reverse (drop n h)) (reverse (take n h)) (subst (Legal real) parts legal)

wrong_not : (h : List Entry) (k : ℕ) → IsFirstWrong h k → IsLegal h → ⊥
wrong_not h k first legal = first.wrong (legal_front h k legal)

wrong_before : (h : List Entry) (k l : ℕ) → k < l → IsFirstWrong h k → IsFirstWrong h l → ⊥
wrong_before h k l lt one two =
    one.wrong (subst IsLegal (take-take k (l - 1) h (omega (arith, lt))) (legal_front (take (l - 1) h) k two.before))

wrong_once : (h : List Entry) (k l : ℕ) → IsFirstWrong h k → IsFirstWrong h l → k ≡ l
wrong_once h k l one two =
    elim (cases_order k l) [
      | inl same ↦ same
      | inr apart ↦ elim apart [
        | inl lt ↦ absurd (wrong_before h k l lt one two)
        | inr lt ↦ absurd (wrong_before h l k lt two one)
      ]
    ]

pub one_of_each : VerdictsAreOne
one_of_each r Sound Sound p q = refl
one_of_each r Sound (Reply k) p q = absurd (wrong_not r.history k q p.legal)
one_of_each r Sound (Sums i) p q = absurd (differs_not r.sums (sums_wanted r.history) i q.1 p.sums)
one_of_each r Sound (Plan i) p q = absurd (lacks_not (HasPlan r.history) r.ends i q.1 p.plans)
one_of_each r Sound (Share i) p q = absurd (lacks_not (HasShares r.history) r.ends i q.1 p.shares)
one_of_each r (Reply k) Sound p q = absurd (wrong_not r.history k p q.legal)
one_of_each r (Reply k) (Reply l) p q = ap (λ (n : ℕ). Reply n) (wrong_once r.history k l p q)
one_of_each r (Reply k) (Sums i) p q = absurd (wrong_not r.history k p q.0)
one_of_each r (Reply k) (Plan i) p q = absurd (wrong_not r.history k p q.0.legal)
one_of_each r (Reply k) (Share i) p q = absurd (wrong_not r.history k p q.0.summed.legal)
one_of_each r (Sums i) Sound p q = absurd (differs_not r.sums (sums_wanted r.history) i p.1 q.sums)
one_of_each r (Sums i) (Reply k) p q = absurd (wrong_not r.history k q p.0)
one_of_each r (Sums i) (Sums j) p q = ap (λ (n : ℕ). Sums n) (differs_once r.sums (sums_wanted r.history) i j p.1 q.1)
one_of_each r (Sums i) (Plan j) p q = absurd (differs_not r.sums (sums_wanted r.history) i p.1 q.0.sums)
one_of_each r (Sums i) (Share j) p q = absurd (differs_not r.sums (sums_wanted r.history) i p.1 q.0.summed.sums)
one_of_each r (Plan i) Sound p q = absurd (lacks_not (HasPlan r.history) r.ends i p.1 q.plans)
one_of_each r (Plan i) (Reply k) p q = absurd (wrong_not r.history k q p.0.legal)
one_of_each r (Plan i) (Sums j) p q = absurd (differs_not r.sums (sums_wanted r.history) j q.1 p.0.sums)
one_of_each r (Plan i) (Plan j) p q = ap (λ (n : ℕ). Plan n) (lacks_once (HasPlan r.history) r.ends i j p.1 q.1)
one_of_each r (Plan i) (Share j) p q = absurd (lacks_not (HasPlan r.history) r.ends i p.1 q.0.plans)
one_of_each r (Share i) Sound p q = absurd (lacks_not (HasShares r.history) r.ends i p.1 q.shares)
one_of_each r (Share i) (Reply k) p q = absurd (wrong_not r.history k q p.0.summed.legal)
one_of_each r (Share i) (Sums j) p q = absurd (differs_not r.sums (sums_wanted r.history) j q.1 p.0.summed.sums)
one_of_each r (Share i) (Plan j) p q = absurd (lacks_not (HasPlan r.history) r.ends j q.1 p.0.plans)
one_of_each r (Share i) (Share j) p q = ap (λ (n : ℕ). Share n) (lacks_once (HasShares r.history) r.ends i j p.1 q.1)

-- a verdict that holds is the one
pub one_verdict : (r : Record) (a : Verdict) → Says a r → (v : Verdict) → (a ≡ v) ↔ Says v r
one_verdict r a holds v = (λ e. subst (λ (w : Verdict). Says w r) e holds, λ other. one_of_each r a v holds other)
