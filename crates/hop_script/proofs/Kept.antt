-- The steps of a hop keep the rules of a script.
use Rattle.std.proofs.Common.{◌≡◌, ◌≤◌, ◌+◌, ◌*◌, ℕ, zero, suc, List, [], ◌∷◌, ◌++◌, length, length-append, ap, sym, ◌∙◌, refl, arith, subst, true, false}
use Rattle.std.specs.Prelude.{Bool, ◌&&◌, nat_le}
use Rattle.std.specs.List.{fold}
use Rattle.std.proofs.lemmas.Bool.{le-leb}
use Rattle.std.proofs.lemmas.List.Elements.{filter_map-append}
use Rattle.std.proofs.lemmas.List.Sums.{fold-append}
use Rattle.script_reader.proofs.Kept.{IsKept, checked_append}
use Rattle.script_reader.proofs.Bounds as bounds
use Rattle.script_reader.proofs.Bounds.{all_fit, few_people}
use Rattle.script_reader.specs.Bounds.{signers_of}
use Rattle.script_reader.specs.Conditions.{after, is_named, signer_of, within}
use Rattle.script_reader.specs.Reading.{Keeps, may_race}
use Rattle.script_reader.specs.Script.{start, AreChecked}
use Rattle.script_reader.specs.context.Context.{Context}
use Rattle.script_reader.specs.step.Step.{Step}
use Rattle.script_reader.specs.step.Step.TheVariants as steps
use Rattle.lms_signatures.specs.Signing.{Signing}
use Rattle.hop_script.specs.Hop.{AreApart, AreFit, channels, declared, ending_steps, exchange, hop_steps, known, known_people, openings, payments, people}
use Rattle.hop_script.specs.declared.ending.Ending.{Ending}
use Rattle.hop_script.specs.declared.ending.Ending.TheVariants.{Close, Exit}

-- ---- what is declared

pub people_fit : AreFit (start false) people
people_fit = (refl, (refl, (refl, (refl, tt))))

pub channels_fit : AreFit known_people channels
channels_fit = (refl, (refl, (refl, (refl, (refl, (refl, (refl, (refl, (refl, (refl, (refl, tt)))))))))))

-- each name is what it must be, and no race is asked for
abbrev AreNamed : Context → List Step → Type 0
AreNamed c [] = Unit {0}
AreNamed c (s ∷ ss) = ((is_named c s ≡ true) × (may_race c s ≡ true)) × AreNamed (after c s) ss

checked : (c : Context) (ss : List Step) → AreNamed c ss → AreFit c ss → AreApart c ss → AreChecked c ss
checked c [] n f a = tt
checked c (s ∷ ss) n f a = (record { named = n.0.0; fit = f.0; apart = a.0; raced = n.0.1 }, checked (after c s) ss n.1 f.1 a.1)

abbrev so : (true ≡ true) × (true ≡ true)
so = (refl, refl)

all-named : AreNamed (start false) declared
all-named = (so, (so, (so, (so, (so, (so, (so, (so, (so, (so, (so, (so, (so, (so, (so, tt)))))))))))))))

all-fit : AreFit (start false) declared
all-fit = (refl, (refl, (refl, (refl, channels_fit))))

-- ---- the rest

-- after so many rounds
abbrev after_rounds : ℕ → Context
after_rounds rounds = record known { rounds = rounds }

few_rounds : (rounds more : ℕ) → within more 1 64 ≡ true → rounds + more ≤ 4096 → Keeps (after_rounds rounds) (steps.Rounds more)
few_rounds rounds more fits few = record { named = refl; fit = both (within more 1 64) (nat_le (rounds + more) 4096) fits (le-leb (rounds + more) 4096 few); apart = refl; raced = refl }
  where
    both : (a b : Bool) → a ≡ true → b ≡ true → a && b ≡ true
    both true b e f = f
    both false b e f = absurd cc

keeps-openings : AreChecked (after_rounds 0) openings
keeps-openings = (
  record { named = refl; fit = refl; apart = refl; raced = refl },
  (
    few_rounds 0 64 refl (omega arith),
    (
      record { named = refl; fit = refl; apart = refl; raced = refl },
      (
        few_rounds 64 64 refl (omega arith),
        (
          record { named = refl; fit = refl; apart = refl; raced = refl },
          (
            few_rounds 128 64 refl (omega arith),
            (record { named = refl; fit = refl; apart = refl; raced = refl }, (few_rounds 192 64 refl (omega arith), (record { named = refl; fit = refl; apart = refl; raced = refl }, (few_rounds 256 64 refl (omega arith), tt)))),
          ),
        ),
      ),
    ),
  ),
)

one-exchange : (rounds : ℕ) → rounds + 2 ≤ 4096 → AreChecked (after_rounds rounds) exchange
one-exchange rounds few = (
  record { named = refl; fit = refl; apart = refl; raced = refl },
  (few_rounds rounds 1 refl (omega (arith, few)), (record { named = refl; fit = refl; apart = refl; raced = refl }, (few_rounds (rounds + 1) 1 refl (omega (arith, few)), tt))),
)

after-payments : (rounds count : ℕ) → fold after (after_rounds rounds) (payments count) ≡ after_rounds (rounds + 2 * count)
after-payments rounds zero = ap after_rounds (omega arith)
after-payments rounds (suc count) =
    fold-append after (after_rounds rounds) (payments count) exchange
    ∙ ap (λ (c : Context). fold after c exchange) (after-payments rounds count)
    ∙ ap after_rounds (omega arith)

keeps-payments : (rounds count : ℕ) → rounds + 2 * count ≤ 4096 → AreChecked (after_rounds rounds) (payments count)
keeps-payments rounds zero few = tt
keeps-payments rounds (suc count) few =
    checked_append (after_rounds rounds) (payments count) exchange (keeps-payments rounds count (omega (arith, few)))
    (subst (λ (c : Context). AreChecked c exchange) (sym (after-payments rounds count)) (one-exchange (rounds + 2 * count) (omega (arith, few))))

keeps-ending : (rounds : ℕ) (ending : Ending) → rounds + 320 ≤ 4096 → AreChecked (after_rounds rounds) (ending_steps ending)
keeps-ending rounds Close few = (
  record { named = refl; fit = refl; apart = refl; raced = refl },
  (
    few_rounds rounds 64 refl (omega (arith, few)),
    (
      record { named = refl; fit = refl; apart = refl; raced = refl },
      (
        few_rounds (rounds + 64) 64 refl (omega (arith, few)),
        (
          record { named = refl; fit = refl; apart = refl; raced = refl },
          (
            few_rounds (rounds + 64 + 64) 64 refl (omega (arith, few)),
            (
              record { named = refl; fit = refl; apart = refl; raced = refl },
              (
                few_rounds (rounds + 64 + 64 + 64) 64 refl (omega (arith, few)),
                (
                  record { named = refl; fit = refl; apart = refl; raced = refl },
                  (few_rounds (rounds + 64 + 64 + 64 + 64) 64 refl (omega (arith, few)), tt),
                ),
              ),
            ),
          ),
        ),
      ),
    ),
  ),
)
keeps-ending rounds Exit few = (
  record { named = refl; fit = refl; apart = refl; raced = refl },
  (
    few_rounds rounds 8 refl (omega (arith, few)),
    (
      record { named = refl; fit = refl; apart = refl; raced = refl },
      (few_rounds (rounds + 8) 12 refl (omega (arith, few)), tt),
    ),
  ),
)

-- ---- the whole

keeps-all : (ending : Ending) (count : ℕ) → count ≤ 40 → AreApart (start false) declared → AreChecked (start false) (hop_steps ending count)
keeps-all ending count few a =
    checked_append (start false) declared (openings ++ (payments count ++ ending_steps ending)) (checked (start false) declared all-named all-fit a)
    (checked_append (after_rounds 0) openings (payments count ++ ending_steps ending) keeps-openings
    (checked_append (after_rounds 320) (payments count) (ending_steps ending) (keeps-payments 320 count (omega (arith, few)))
    (subst (λ (c : Context). AreChecked c (ending_steps ending)) (sym (after-payments 320 count)) (keeps-ending (320 + 2 * count) ending (omega (arith, few))))))

length-payments : (count : ℕ) → length (payments count) ≡ 4 * count
length-payments zero = refl
length-payments (suc count) = omega (arith, length-append (payments count) exchange, length-payments count)

few-ends : (ending : Ending) → length (ending_steps ending) ≤ 10
few-ends Close = omega arith
few-ends Exit = omega arith

few-steps : (ending : Ending) (count : ℕ) → count ≤ 40 → length (hop_steps ending count) ≤ 4096
few-steps ending count few =
    omega (arith, length-append (payments count) (ending_steps ending), length-payments count, few-ends ending, few)

none-paying : (count : ℕ) → signers_of (payments count) ≡ []
none-paying zero = refl
none-paying (suc count) =
    filter_map-append signer_of (payments count) exchange ∙ ap (λ (l : List Signing). l ++ []) (none-paying count)

none-ends : (ending : Ending) → signers_of (ending_steps ending) ≡ []
none-ends Close = refl
none-ends Exit = refl

-- those of its people
pub four-signers : (ending : Ending) (count : ℕ) → signers_of people ≡ signers_of (hop_steps ending count)
four-signers ending count =
    let none : signers_of (payments count ++ ending_steps ending) ≡ [] =
    filter_map-append signer_of (payments count) (ending_steps ending) ∙ (λ i. none-paying count i ++ none-ends ending i) in
    ap (λ (l : List Signing). signers_of people ++ l) (sym none)

pub hop-is-kept : (ending : Ending) (count : ℕ) (ss : List Step) → ss ≡ hop_steps ending count → count ≤ 40 → AreApart (start false) declared → IsKept ss
hop-is-kept ending count ss is few a = subst IsKept (sym is) (record {
  kept = checked-all;
  fit = all_fit (start false) (hop_steps ending count) checked-all;
  few = few-steps ending count few;
  people = few_people false (hop_steps ending count) checked-all;
  rounds = bounds.few_rounds false (hop_steps ending count) checked-all;
})
  where
    checked-all : AreChecked (start false) (hop_steps ending count)
    checked-all = keeps-all ending count few a
