-- The script of a load as commands and rounds.
use Rattle.std.proofs.Common.{◌≡◌, ℕ, zero, suc, ◌+◌, ◌*◌, ◌%◌, Bool, true, false, cond, not, List, [], ◌∷◌, ◌++◌, length, length-append, inl, inr, refl, sym, ◌∙◌, ap, arith, codes}
use Rattle.std.proofs.lemmas.Bool.{cases_lt}
use Rattle.channel_safety.proofs.Tests.{eqb-true, clash}
use Rattle.std.specs.Prelude.{◌==◌, fold, Option, Some, None, unwrap_or, if◌then◌else◌}
use Rattle.channel_values.specs.Parts.{FixedParts}
use Rattle.channel_values.specs.declared.value.Dest.TheVariants as dests
use Rattle.script_run.specs.Load.{key_seed, digest_of, are_two, person, people, stakes, amount, payment, payments, beginning, ending, load_steps}
use Rattle.network.specs.Ways.{unlooking}
use Rattle.network.specs.declared.command.Command.TheVariants.{Pay, Close}
use Rattle.channel_node.specs.Nodes.{new_node}
use Rattle.node_guarantees.specs.Ways.{Numbered, ways}
use Rattle.script_run.proofs.PairNumbers.{no-more}
use Rattle.script_run.specs.TwoPeople.{fixed, name}
use Rattle.script_run.specs.Finish.{paying, told_both, asked_both}
use Rattle.script_run.specs.Rounds.{world}
use Rattle.script_run.proofs.Paying.{turns}
use Rattle.step_meanings.specs.Meanings.{meaning, with_channel, learning}
use Rattle.step_meanings.specs.Names.{name_of}
use Rattle.step_meanings.specs.declared.names.Names.{Names}
use Rattle.step_meanings.specs.People.{◌>>=◌}
use Rattle.step_meanings.specs.declared.people.Person.{Person}
use Rattle.script_play.specs.Play.{SceneOf, empty, numbered, played, done_as, play_steps, play_round, play_rounds, told}
use Rattle.script_steps.specs.Digests.{key_of}
use Rattle.script_steps.specs.declared.step.Step.{Step}
use Rattle.script_steps.specs.declared.step.Step.TheVariants as steps
use Rattle.support_rules.specs.Real.{real}
use Rattle.script_run.specs.Paying.{pair_of}
use Rattle.script_run.proofs.Making.{signer_of, is_valid}

-- ---- steps, from one number on

abbrev pub run : ℕ → List Step → SceneOf Numbered → SceneOf Numbered
run number steps s = fold (played ways) s (numbered number steps)

one-on : (n k : ℕ) → n + 1 + k ≡ n + suc k
one-on n k = omega arith

run-append : (number : ℕ) (xs ys : List Step) (s : SceneOf Numbered) → run number (xs ++ ys) s ≡ run (number + length xs) ys (run number xs s)
run-append number [] ys s = ap (λ (n : ℕ). run n ys s) (no-more number)
run-append number (x ∷ xs) ys s =
    run-append (number + 1) xs ys (played ways s (number, x))
    ∙ ap (λ (n : ℕ). run n ys (run number (x ∷ xs) s)) (one-on number (length xs))

-- ---- the beginning

abbrev pub person_of : (letter number seed : ℕ) → Person
person_of letter number seed = record { number = number; name = letter ∷ []; key = key_of (key_seed letter seed) 10; hand = None }

-- what names stand for once the channel is declared
abbrev pub names_of : ℕ → Names
names_of seed =
    record {
      people = person_of 65 1 seed ∷ person_of 66 2 seed ∷ [];
      channels = record { name = codes "C"; fixed = fixed (pair_of seed) } ∷ [];
      states = [];
      labels = (dests.Person (digest_of 65 seed), 65 ∷ []) ∷ (dests.Person (digest_of 66 seed), 66 ∷ []) ∷ (dests.Channel (name_of (fixed (pair_of seed))), codes "C") ∷ [];
    }

-- both joined, and nothing happened
abbrev pub joined_both : ℕ → SceneOf Numbered
joined_both seed =
    record {
      names = names_of seed;
      world = world [] (new_node (signer_of 65 seed)) (unlooking ∷ []) (new_node (signer_of 66 seed)) (unlooking ∷ []);
      post = [];
      rounds = [];
    }

-- before the channel is declared
abbrev both-there : ℕ → SceneOf Numbered
both-there seed = run 1 (person 65 seed ∷ person 66 seed ∷ []) empty

-- the steps from the channel on, by its fixed part
abbrev from-channel : ℕ → Option FixedParts → SceneOf Numbered
from-channel seed o =
    run 4 (steps.Open (record { who = people; channel = codes "C"; outcome = stakes (digest_of 65 seed) (digest_of 66 seed) }) ∷ steps.Rounds 8 ∷ [])
    (done_as ways 3 (both-there seed) (unwrap_or (o >>= λ f. Some (learning (with_channel (both-there seed).names (codes "C") f))) (learning (both-there seed).names)))

pub begins : (seed : ℕ) → are_two seed ≡ true → run 1 (beginning seed) empty ≡ play_rounds ways 8 (told_both (pair_of seed) 4 (joined_both seed))
begins seed two = ap (from-channel seed) (is_valid seed two)

-- ---- payments

-- a payment by the first if the test says so, else by the second
abbrev pays-by : Names → Bool → (number amount : ℕ) → SceneOf Numbered → SceneOf Numbered
pays-by n t number amount s = play_round ways (done_as ways number s (meaning n (steps.Pay (record { who = if t then codes "A" else codes "B"; channel = codes "C"; asset = 0; amount = amount }))))

abbrev one-paid : ℕ → Bool → (number amount : ℕ) → SceneOf Numbered → SceneOf Numbered
one-paid seed t number amount s = play_round ways (told ways number (Pay (name real (pair_of seed)) 0 amount) s (cond t 1 2))

-- with these names, which are its own
abbrev called : Names → SceneOf Numbered → SceneOf Numbered
called n s = record s { names = n }

one-payment : (seed place number : ℕ) (s : SceneOf Numbered) (t : Bool) → s.names ≡ names_of seed → (place % 2 == 1) ≡ t
    → run number (payment seed place) s ≡ one-paid seed t number (amount seed place) s
one-payment seed place number s t named whose =
    ap (λ (n : Names). pays-by n (place % 2 == 1) number (amount seed place) s) named
    ∙ ap (λ (b : Bool). pays-by (names_of seed) b number (amount seed place) s) whose
    ∙ go t
    ∙ ap (λ (n : Names). one-paid seed t number (amount seed place) (called n s)) (sym named)
  where
    go : (b : Bool) → pays-by (names_of seed) b number (amount seed place) s ≡ one-paid seed b number (amount seed place) (called (names_of seed) s)
    go true = refl
    go false = refl

-- the amounts of the payments at the places from 1 to this one
abbrev pub amounts : (seed count : ℕ) → List ℕ
amounts seed zero = []
amounts seed (suc count) = amounts seed count ++ amount seed (suc count) ∷ []

pub length-amounts : (seed count : ℕ) → length (amounts seed count) ≡ count
length-amounts seed zero = refl
length-amounts seed (suc count) =
    let a : length (amounts seed (suc count)) ≡ length (amounts seed count) + 1 = length-append (amounts seed count) (amount seed (suc count) ∷ []) in
    let b : length (amounts seed count) ≡ count = length-amounts seed count in
    omega (arith, a, b)

two-each : (seed count : ℕ) → length (payments seed count) ≡ 2 * length (amounts seed count)
two-each seed zero = refl
two-each seed (suc count) =
    let a : length (payments seed (suc count)) ≡ length (payments seed count) + 2 = length-append (payments seed count) (payment seed (suc count)) in
    let b : length (amounts seed (suc count)) ≡ length (amounts seed count) + 1 = length-append (amounts seed count) (amount seed (suc count) ∷ []) in
    let c : length (payments seed count) ≡ 2 * length (amounts seed count) = two-each seed count in
    omega (arith, a, b, c)

pub turns-more : (t : Bool) (xs : List ℕ) (x : ℕ) → turns t (xs ++ x ∷ []) ≡ not (turns t xs)
turns-more t [] x = refl
turns-more t (y ∷ xs) x = turns-more (not t) xs x

flips-one : (n : ℕ) (b : Bool) → (n % 2 == 1) ≡ b → (suc n % 2 == 1) ≡ not b
flips-one n true e = let odd : n % 2 ≡ 1 = eqb-true (n % 2) 1 e in let even : suc n % 2 ≡ 0 = omega arith in ap (λ (k : ℕ). k == 1) even
flips-one n false e =
    let other : n % 2 ≡ 1 → ⊥ = λ o. clash (n % 2 == 1) (ap (λ (k : ℕ). k == 1) o) e in
    let even : n % 2 ≡ 0 = elim (cases_lt (n % 2) 1) [ inl low ↦ omega arith | inr high ↦ absurd (other (omega arith)) ] in
    let odd : suc n % 2 ≡ 1 = omega arith in ap (λ (k : ℕ). k == 1) odd

-- whose turn the next payment is
pub whose-turn : (seed count : ℕ) → (suc count % 2 == 1) ≡ turns true (amounts seed count)
whose-turn seed zero = refl
whose-turn seed (suc count) =
    flips-one (suc count) (turns true (amounts seed count)) (whose-turn seed count) ∙ sym (turns-more true (amounts seed count) (amount seed (suc count)))

-- two numbers a payment
two-on : (n k : ℕ) → n + 2 + 2 * k ≡ n + 2 * suc k
two-on n k = omega arith

-- one more payment after others
paying-more : (seed : ℕ) (t : Bool) (number : ℕ) (xs : List ℕ) (x : ℕ) (s : SceneOf Numbered)
    → paying (pair_of seed) t number (xs ++ x ∷ []) s ≡ one-paid seed (turns t xs) (number + 2 * length xs) x (paying (pair_of seed) t number xs s)
paying-more seed t number [] x s = ap (λ (n : ℕ). one-paid seed t n x s) (no-more number)
paying-more seed t number (y ∷ xs) x s =
    paying-more seed (not t) (number + 2) xs x (one-paid seed t number y s)
    ∙ ap (λ (n : ℕ). one-paid seed (turns (not t) xs) n x (paying (pair_of seed) t number (y ∷ xs) s)) (two-on number (length xs))

-- names stay
paying-names : (seed : ℕ) (t : Bool) (number : ℕ) (xs : List ℕ) (s : SceneOf Numbered) → (paying (pair_of seed) t number xs s).names ≡ s.names
paying-names seed t number [] s = refl
paying-names seed t number (x ∷ xs) s = paying-names seed (not t) (number + 2) xs (one-paid seed t number x s)

all-payments : (seed count : ℕ) (s : SceneOf Numbered) → s.names ≡ names_of seed → run 6 (payments seed count) s ≡ paying (pair_of seed) true 6 (amounts seed count) s
all-payments seed zero s named = refl
all-payments seed (suc count) s named =
    let before : SceneOf Numbered = paying (pair_of seed) true 6 (amounts seed count) s in
    run-append 6 (payments seed count) (payment seed (suc count)) s
    ∙ ap (λ (x : SceneOf Numbered). run (6 + length (payments seed count)) (payment seed (suc count)) x) (all-payments seed count s named)
    ∙ one-payment seed (suc count) (6 + length (payments seed count)) before (turns true (amounts seed count)) (paying-names seed true 6 (amounts seed count) s ∙ named) (whose-turn seed count)
    ∙ ap (λ (n : ℕ). one-paid seed (turns true (amounts seed count)) (6 + n) (amount seed (suc count)) before) (two-each seed count)
    ∙ sym (paying-more seed true 6 (amounts seed count) (amount seed (suc count)) s)

-- ---- the ending

abbrev closes-by : Names → ℕ → SceneOf Numbered → SceneOf Numbered
closes-by n number s = play_rounds ways 6 (done_as ways number s (meaning n (steps.Close people (codes "C"))))

ends : (seed number : ℕ) (s : SceneOf Numbered) → s.names ≡ names_of seed → run number ending s ≡ play_rounds ways 6 (asked_both (pair_of seed) number s)
ends seed number s named =
    ap (λ (n : Names). closes-by n number s) named
    ∙ ap (λ (n : Names). play_rounds ways 6 (asked_both (pair_of seed) number (called n s))) (sym named)

-- ---- the whole

-- the number of the step that closes
abbrev pub last_step : (seed count : ℕ) → ℕ
last_step seed count = 6 + length (payments seed count)

pub is_chain : (seed count : ℕ) → are_two seed ≡ true
    → play_steps ways (load_steps seed count)
    ≡ play_rounds ways 6 (asked_both (pair_of seed) (last_step seed count) (paying (pair_of seed) true 6 (amounts seed count) (play_rounds ways 8 (told_both (pair_of seed) 4 (joined_both seed)))))
is_chain seed count two =
    let opened : SceneOf Numbered = play_rounds ways 8 (told_both (pair_of seed) 4 (joined_both seed)) in
    run-append 1 (beginning seed) (payments seed count ++ ending) empty
    ∙ ap (λ (x : SceneOf Numbered). run 6 (payments seed count ++ ending) x) (begins seed two)
    ∙ run-append 6 (payments seed count) ending opened
    ∙ ap (λ (x : SceneOf Numbered). run (6 + length (payments seed count)) ending x) (all-payments seed count opened refl)
    ∙ ends seed (last_step seed count) (paying (pair_of seed) true 6 (amounts seed count) opened) (paying-names seed true 6 (amounts seed count) opened)
