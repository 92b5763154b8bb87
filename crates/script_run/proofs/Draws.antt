-- The numbers of a load, and how many steps it has.
use Rattle.std.proofs.Common.{◌≡◌, ◌≤◌, ◌+◌, ◌*◌, ◌/◌, ◌%◌, ◌^◌, ℕ, zero, suc, List, [], ◌∷◌, ◌++◌, length, ap, sym, ◌∙◌, refl, arith, length-append, append_assoc, codes}
use Rattle.std.proofs.Math.Nat.{mod-add-mod}
use Rattle.std.proofs.lemmas.List.Elements.{filter_map-append}
use Rattle.lms_signatures.specs.Signing.{Signing}
use Rattle.script_reader.specs.Bounds.{signers_of}
use Rattle.script_reader.specs.Conditions.{signer_of}
use Rattle.script_reader.specs.step.Step.{Step}
use Rattle.script_reader.specs.step.Step.TheVariants as steps
use Rattle.script_run.specs.Load.{next, drawn, amount, payer, payment, payments, load_steps, load_signers, ending}

-- the product and the sum, each cut to 64 bits
pub next_cut : (n : ℕ) → ((n * 6364136223846793005) % 2 ^ 64 + 1442695040888963407) % 2 ^ 64 ≡ next n
next_cut n = mod-add-mod (n * 6364136223846793005) (2 ^ 64) 1442695040888963407

length_payments : (seed count : ℕ) → length (payments seed count) ≡ 2 * count
length_payments seed zero = refl
length_payments seed (suc count) =
    omega (arith, length-append (payments seed count) (payment seed (suc count)), length_payments seed count)

pub few_steps : (seed count : ℕ) → count ≤ 1000 → length (load_steps seed count) ≤ 4096
few_steps seed count few =
    omega (arith, length-append (payments seed count) ending, length_payments seed count, few)

no_signers : (seed count : ℕ) → signers_of (payments seed count) ≡ []
no_signers seed zero = refl
no_signers seed (suc count) =
    filter_map-append signer_of (payments seed count) (payment seed (suc count)) ∙ ap (λ (l : List Signing). l ++ []) (no_signers seed count)

pub two_signers : (seed count : ℕ) → signers_of (load_steps seed count) ≡ load_signers seed
two_signers seed count =
    let none : signers_of (payments seed count ++ ending) ≡ [] =
    filter_map-append signer_of (payments seed count) ending ∙ ap (λ (l : List Signing). l ++ []) (no_signers seed count) in
    ap (λ (l : List Signing). load_signers seed ++ l) none

plus_one : (n : ℕ) → n + 1 ≡ suc n
plus_one n = omega arith

pub next_drawn : (seed place number : ℕ) → number ≡ drawn seed place → next number ≡ drawn seed (place + 1)
next_drawn seed place number is = ap next is ∙ ap (drawn seed) (sym (plus_one place))

one_more : (seed place : ℕ) (old before : List Step) → before ≡ old ++ payments seed place
    → (before ++ steps.Pay (record { who = payer (place + 1); channel = codes "C"; asset = 0; amount = amount seed (place + 1) }) ∷ []) ++ steps.Rounds 1 ∷ [] ≡ old ++ payments seed (place + 1)
one_more seed place old before is =
    append_assoc before (steps.Pay (record { who = payer (place + 1); channel = codes "C"; asset = 0; amount = amount seed (place + 1) }) ∷ []) (steps.Rounds 1 ∷ [])
    ∙ ap (λ (xs : List Step). xs ++ payment seed (place + 1)) is
    ∙ append_assoc old (payments seed place) (payment seed (place + 1))
    ∙ ap (λ (n : ℕ). old ++ (payments seed place ++ payment seed n)) (plus_one place)
    ∙ ap (λ (n : ℕ). old ++ payments seed n) (sym (plus_one place))

-- one payment more, pushed as two steps
pub pushed : (seed place number : ℕ) (old before between after : List Step) (who name : List ℕ) → before ≡ old ++ payments seed place
    → number ≡ drawn seed (place + 1) → who ≡ payer (place + 1) → name ≡ codes "C"
    → between ≡ before ++ steps.Pay (record { who = who; channel = name; asset = 0; amount = number / 2 ^ 48 % 1000 }) ∷ [] → after ≡ between ++ steps.Rounds 1 ∷ []
    → after ≡ old ++ payments seed (place + 1)
pushed seed place number old before between after who name is drew paid named first second =
    second
    ∙ ap (λ (xs : List Step). xs ++ steps.Rounds 1 ∷ []) first
    ∙ (λ i. (before ++ steps.Pay (record { who = paid i; channel = named i; asset = 0; amount = drew i / 2 ^ 48 % 1000 }) ∷ []) ++ steps.Rounds 1 ∷ [])
    ∙ one_more seed place old before is
