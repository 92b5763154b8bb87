-- What a play asks of its steps doesn't hang on their routes.
use Rattle.std.proofs.Common.{◌≡◌, ℕ, zero, suc, ◌+◌, ◌<◌, ◌≤◌, List, [], ◌∷◌, All, length, get_or, set, ap, sym, ◌∙◌, refl, subst, arith}
use Rattle.std.specs.Prelude.{sum_by}
use Rattle.std.specs.List.{cons_option}
use Rattle.std.proofs.lemmas.List.Elements.{All-nil, All-cons, All-head, All-tail}
use Rattle.std.proofs.lemmas.List.Sums.{sum_by-cons}
use Rattle.script_steps.specs.Bounds.{Fits, persons, rounds, persons_of, rounds_of, signers_of}
use Rattle.script_steps.specs.Conditions.{signer_of}
use Rattle.script_steps.specs.declared.step.Step.{Step}
use Rattle.script_steps.specs.declared.step.Step.TheVariants as steps
use Rattle.hostile_hop.specs.Routes.{plain, plainly}

-- ---- a step

same_persons : (s : Step) → persons (plain s) ≡ persons s
same_persons (steps.OpenVirtual k) = refl
same_persons s = refl

same_rounds : (s : Step) → rounds (plain s) ≡ rounds s
same_rounds (steps.OpenVirtual k) = refl
same_rounds s = refl

same_signer : (s : Step) → signer_of (plain s) ≡ signer_of s
same_signer (steps.OpenVirtual k) = refl
same_signer s = refl

fits_plainly : (s : Step) → Fits s → Fits (plain s)
fits_plainly (steps.OpenVirtual k) h = h
fits_plainly s h = h

fits_anyhow : (s : Step) → Fits (plain s) → Fits s
fits_anyhow (steps.OpenVirtual k) h = h
fits_anyhow s h = h

-- ---- all steps

sums : (f : Step → ℕ) → ((s : Step) → f (plain s) ≡ f s) → (xs : List Step) → sum_by f (plainly xs) ≡ sum_by f xs
sums f same [] = refl
sums f same (s ∷ xs) =
    sum_by-cons f (plain s) (plainly xs)
    ∙ (ap (λ (n : ℕ). n + sum_by f (plainly xs)) (same s)
    ∙ (ap (λ (n : ℕ). f s + n) (sums f same xs)
    ∙ sym (sum_by-cons f s xs)))

signers : (xs : List Step) → signers_of (plainly xs) ≡ signers_of xs
signers [] = refl
signers (s ∷ xs) = ap (λ o. cons_option o (signers_of (plainly xs))) (same_signer s) ∙ ap (cons_option (signer_of s)) (signers xs)

lengths : (xs : List Step) → length (plainly xs) ≡ length xs
lengths [] = refl
lengths (s ∷ xs) = ap suc (lengths xs)

all_plainly : (xs : List Step) → All Fits xs → All Fits (plainly xs)
all_plainly [] h = All-nil Fits
all_plainly (s ∷ xs) h = All-cons Fits (plain s) (plainly xs) (fits_plainly s (All-head Fits s xs h)) (all_plainly xs (All-tail Fits s xs h))

all_anyhow : (xs : List Step) → All Fits (plainly xs) → All Fits xs
all_anyhow [] h = All-nil Fits
all_anyhow (s ∷ xs) h = All-cons Fits s xs (fits_anyhow s (All-head Fits (plain s) (plainly xs) h)) (all_anyhow xs (All-tail Fits (plain s) (plainly xs) h))

-- ---- of steps that differ in routes alone

pub fits_alike : (xs ys : List Step) → plainly xs ≡ plainly ys → All Fits ys → All Fits xs
fits_alike xs ys e h = all_anyhow xs (subst (All Fits) (sym e) (all_plainly ys h))

same_sums : (f : Step → ℕ) → ((s : Step) → f (plain s) ≡ f s) → (xs ys : List Step) → plainly xs ≡ plainly ys → sum_by f xs ≡ sum_by f ys
same_sums f same xs ys e = sym (sums f same xs) ∙ (ap (sum_by f) e ∙ sums f same ys)

pub few_alike : (xs ys : List Step) → plainly xs ≡ plainly ys → persons_of ys ≤ 16 → persons_of xs ≤ 16
few_alike xs ys e h = omega (arith, same_sums persons same_persons xs ys e, h)

pub rounds_alike : (xs ys : List Step) → plainly xs ≡ plainly ys → rounds_of ys ≤ 4096 → rounds_of xs ≤ 4096
rounds_alike xs ys e h = omega (arith, same_sums rounds same_rounds xs ys e, h)

pub short_alike : (xs ys : List Step) → plainly xs ≡ plainly ys → length ys ≤ 4096 → length xs ≤ 4096
short_alike xs ys e h = omega (arith, lengths xs, ap length e, lengths ys, h)

pub signers_alike : (xs ys : List Step) → plainly xs ≡ plainly ys → signers_of xs ≡ signers_of ys
signers_alike xs ys e = sym (signers xs) ∙ (ap signers_of e ∙ signers ys)

-- ---- a step of a list

pub set_alike : (xs : List Step) (i : ℕ) (y d : Step) → i < length xs → plain y ≡ plain (get_or xs i d) → plainly (set xs i y) ≡ plainly xs
set_alike [] i y d lt e = absurd (omega arith)
set_alike (x ∷ xs) zero y d lt e = ap (λ (s : Step). s ∷ plainly xs) e
set_alike (x ∷ xs) (suc i) y d lt e = ap (λ (l : List Step). plain x ∷ l) (set_alike xs i y d (omega arith) e)
