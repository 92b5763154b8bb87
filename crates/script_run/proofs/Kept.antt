-- The steps of a load keep the rules of a script.
use Rattle.std.proofs.Common.{◌≡◌, ◌≤◌, ◌+◌, ◌%◌, ℕ, zero, suc, List, [], ◌∷◌, ◌++◌, ap, sym, ◌∙◌, refl, arith, subst, true, false, not, codes}
use Rattle.std.specs.Prelude.{Bool, ◌==◌, ◌&&◌, ◌||◌, Result, Ok, is_ok, nat_le, if◌then◌else◌}
use Rattle.std.specs.List.{fold}
use Rattle.std.specs.Str.{bytes_eq}
use Rattle.std.proofs.lemmas.Bool.{le-leb}
use Rattle.std.proofs.lemmas.List.Sums.{fold-append}
use Rattle.channel_values.specs.Parts.{FixedParts, IsKey, IsFixed, fixed_with}
use Rattle.channel_values.specs.declared.fault.ByteFault.{ByteFault}
use Rattle.channel_values.specs.Reading.{fixed_of}
use Rattle.channel_values.specs.Spelling.{fixed}
use Rattle.channel_values.proofs.Format.{valid_again}
use Rattle.channel_values.proofs.Formats.{fixed_format}
use Rattle.script_reader.proofs.Kept.{IsKept, checked_append, two_keys}
use Rattle.script_reader.proofs.Bounds as bounds
use Rattle.script_reader.proofs.Bounds.{all_fit, few_people}
use Rattle.script_reader.specs.Conditions.{after, within}
use Rattle.script_reader.specs.Digests.{key_of}
use Rattle.script_reader.specs.Reading.{Keeps}
use Rattle.script_reader.specs.Rules.{◌>>=◌, holds}
use Rattle.script_reader.specs.Script.{start, AreChecked}
use Rattle.script_reader.specs.context.Context.{Context}
use Rattle.script_reader.specs.step.Rule.{Rule}
use Rattle.script_reader.specs.step.Rule.TheVariants as rules
use Rattle.script_reader.specs.step.Step.{Step}
use Rattle.script_reader.specs.step.Step.TheVariants as steps
use Rattle.script_run.specs.Load.{key_seed, digest_of, are_two, person, channel, payer, amount, payment, payments, beginning, ending, load_steps}
use Rattle.script_run.proofs.Draws.{few_steps}

-- ---- what is declared

abbrev with_a : ℕ → Context
with_a seed = after (start false) (person 65 seed)

abbrev with_both : ℕ → Context
with_both seed = after (with_a seed) (person 66 seed)

-- with the channel, and after so many rounds
abbrev after_rounds : (seed rounds : ℕ) → Context
after_rounds seed rounds = record (after (with_both seed) channel) { rounds = rounds }

-- ---- the beginning

keeps_a : (seed : ℕ) → Keeps (start false) (person 65 seed)
keeps_a seed = record { named = refl; fit = refl; apart = refl; raced = refl }

two_people : (b : Bool) → b ≡ false → holds rules.Name (not (b || false)) ≡ Ok 0
two_people true e = absurd (cc)
two_people false e = refl

keeps_b : (seed : ℕ) → bytes_eq (digest_of 65 seed) (digest_of 66 seed) ≡ false → Keeps (with_a seed) (person 66 seed)
keeps_b seed apart = record { named = refl; fit = refl; apart = two_people (bytes_eq (digest_of 65 seed) (digest_of 66 seed)) apart; raced = refl }

-- their fixed part
pub is_fixed : (a b : List ℕ) → IsKey a → IsKey b → bytes_eq a b ≡ false → IsFixed (fixed_with (a ∷ b ∷ []) 1 1 10)
is_fixed a b fits_a fits_b apart = record {
  at_least_two = omega arith;
  at_most_four = omega arith;
  keys = record { each = (fits_a, (fits_b, tt)); apart = (two, (refl, tt)) };
  nonce = omega arith;
  app = omega arith;
  payment = λ e. refl;
  started = omega arith;
  duration = omega arith;
}
  where
    two : bytes_eq a b || false ≡ false
    two = ap (λ (t : Bool). t || false) apart

is_read : (a b : List ℕ) → IsKey a → IsKey b → bytes_eq a b ≡ false → is_ok (fixed_of (fixed (fixed_with (a ∷ b ∷ []) 1 1 10))) ≡ true
is_read a b fits_a fits_b apart =
    ap (λ (r : Result FixedParts ByteFault). is_ok r) (valid_again fixed_format (fixed_with (a ∷ b ∷ []) 1 1 10) (is_fixed a b fits_a fits_b apart))

abbrev done : Result ℕ Rule
done = Ok 0

within_limits : (t : Bool) → t ≡ true → (holds rules.Limit t >>= λ part. done) ≡ done
within_limits true e = refl
within_limits false e = absurd (cc)

abbrev key_a : ℕ → List ℕ
key_a seed = key_of (key_seed 65 seed) 10

abbrev key_b : ℕ → List ℕ
key_b seed = key_of (key_seed 66 seed) 10

module _ (seed : ℕ) (fits_a : IsKey (key_a seed)) (fits_b : IsKey (key_b seed)) (apart : bytes_eq (digest_of 65 seed) (digest_of 66 seed) ≡ false) where
  keeps_channel : Keeps (with_both seed) channel
  keeps_channel = record {
    named = refl;
    fit = refl;
    apart = within_limits (is_ok (fixed_of (fixed (fixed_with (key_a seed ∷ key_b seed ∷ []) 1 1 10)))) (is_read (key_a seed) (key_b seed) fits_a fits_b (two_keys (key_a seed) (key_b seed) apart));
    raced = refl;
  }

  keeps_beginning : AreChecked (start false) (beginning seed)
  keeps_beginning = (
    keeps_a seed,
    (
      keeps_b seed apart,
      (
        keeps_channel,
        (
          record { named = refl; fit = refl; apart = refl; raced = refl },
          (record { named = refl; fit = refl; apart = refl; raced = refl }, tt),
        ),
      ),
    ),
  )

-- ---- payments

is_paid : (seed rounds place pays : ℕ) → Keeps (after_rounds seed rounds) (steps.Pay (record { who = payer place; channel = codes "C"; asset = 0; amount = pays }))
is_paid seed rounds place pays = by (place % 2 == 1)
  where
    by : (t : Bool) → Keeps (after_rounds seed rounds) (steps.Pay (record { who = if t then codes "A" else codes "B"; channel = codes "C"; asset = 0; amount = pays }))
    by true = record { named = refl; fit = refl; apart = refl; raced = refl }
    by false = record { named = refl; fit = refl; apart = refl; raced = refl }

few_rounds : (seed rounds more : ℕ) → within more 1 64 ≡ true → rounds + more ≤ 4096 → Keeps (after_rounds seed rounds) (steps.Rounds more)
few_rounds seed rounds more fits few = record { named = refl; fit = both (within more 1 64) (nat_le (rounds + more) 4096) fits (le-leb (rounds + more) 4096 few); apart = refl; raced = refl }
  where
    both : (a b : Bool) → a ≡ true → b ≡ true → a && b ≡ true
    both true b e f = f
    both false b e f = absurd (cc)

one_payment : (seed rounds place : ℕ) → rounds + 1 ≤ 4096 → AreChecked (after_rounds seed rounds) (payment seed place)
one_payment seed rounds place few = (is_paid seed rounds place (amount seed place), (few_rounds seed rounds 1 refl few, tt))

after_payments : (seed rounds count : ℕ) → fold after (after_rounds seed rounds) (payments seed count) ≡ after_rounds seed (rounds + count)
after_payments seed rounds zero = ap (after_rounds seed) (omega arith)
after_payments seed rounds (suc count) =
    fold-append after (after_rounds seed rounds) (payments seed count) (payment seed (suc count))
    ∙ ap (λ (c : Context). fold after c (payment seed (suc count))) (after_payments seed rounds count)
    ∙ ap (after_rounds seed) (omega arith)

all_payments : (seed rounds count : ℕ) → rounds + count ≤ 4096 → AreChecked (after_rounds seed rounds) (payments seed count)
all_payments seed rounds zero few = tt
all_payments seed rounds (suc count) few =
    checked_append (after_rounds seed rounds) (payments seed count) (payment seed (suc count)) (all_payments seed rounds count (omega (arith, few)))
    (subst (λ (c : Context). AreChecked c (payment seed (suc count))) (sym (after_payments seed rounds count)) (one_payment seed (rounds + count) (suc count) (omega (arith, few))))

-- ---- the whole

keeps_ending : (seed rounds : ℕ) → rounds + 6 ≤ 4096 → AreChecked (after_rounds seed rounds) ending
keeps_ending seed rounds few = (record { named = refl; fit = refl; apart = refl; raced = refl }, (few_rounds seed rounds 6 refl few, tt))

keeps : (seed count : ℕ) → count ≤ 1000 → IsKey (key_a seed) → IsKey (key_b seed) → bytes_eq (digest_of 65 seed) (digest_of 66 seed) ≡ false → AreChecked (start false) (load_steps seed count)
keeps seed count few fits_a fits_b apart =
    checked_append (start false) (beginning seed) (payments seed count ++ ending) (keeps_beginning seed fits_a fits_b apart)
    (checked_append (after_rounds seed 8) (payments seed count) ending (all_payments seed 8 count (omega (arith, few)))
    (subst (λ (c : Context). AreChecked c ending) (sym (after_payments seed 8 count)) (keeps_ending seed (8 + count) (omega (arith, few)))))

pub load_is_kept : (seed count : ℕ) (ss : List Step) → ss ≡ load_steps seed count → count ≤ 1000 → IsKey (key_a seed) → IsKey (key_b seed) → are_two seed ≡ true → IsKept ss
load_is_kept seed count ss is few fits_a fits_b two = subst IsKept (sym is) (record {
  kept = checked;
  fit = all_fit (start false) (load_steps seed count) checked;
  few = few_steps seed count few;
  people = few_people false (load_steps seed count) checked;
  rounds = bounds.few_rounds false (load_steps seed count) checked;
})
  where
    is_false : (t : Bool) → not t ≡ true → t ≡ false
    is_false true e = absurd (cc)
    is_false false e = refl

    checked : AreChecked (start false) (load_steps seed count)
    checked = keeps seed count few fits_a fits_b (is_false (bytes_eq (digest_of 65 seed) (digest_of 66 seed)) two)
