-- No two people of a hop have one name, and no two of its channels, exactly where all of them are new as they are entered.
use Rattle.std.proofs.Common.{◌≡◌, ◌≤◌, ℕ, List, [], ◌∷◌, Bool, true, false, not, ap, sym, refl, ◌∙◌, arith, codes, subst}
use Rattle.std.specs.Prelude.{◌&&◌, ◌||◌, is_ok, replicate, Result}
use Rattle.std.specs.Str.{bytes_eq}
use Rattle.channel_values.specs.Digests.{name_of_person}
use Rattle.script_reader.proofs.Kept.{two_keys}
use Rattle.channel_values.proofs.Format.{valid_again}
use Rattle.channel_values.proofs.Formats.{fixed_format}
use Rattle.channel_values.specs.Parts.{FixedParts, IsKey, fixed_with}
use Rattle.channel_values.specs.Reading.{fixed_of}
use Rattle.channel_values.specs.Spelling.{fixed}
use Rattle.channel_values.specs.declared.fault.ByteFault.{ByteFault}
use Rattle.script_reader.specs.Context.{repeats}
use Rattle.script_reader.specs.Digests.{key_of}
use Rattle.script_reader.specs.Script.{start}
use Rattle.script_reader.specs.context.Context.{Context}
use Rattle.script_reader.specs.step.Step.{Step}
use Rattle.hop_script.specs.Hop.{AreApart, AreOpened, HaveKeys, are_apart, channels, declared, declared_people, known, known_people, people, three, two}
use Rattle.hop_script.proofs.Apart.{AreFixed, Clean, Declaration, of-person, of-channel, apart, clean, left_false, right_false, was_clean}

-- ---- what the definition says

both-clean : (a b : Bool) → (not a && not b) ≡ true → (a ≡ false) × (b ≡ false)
both-clean false false e = (refl, refl)
both-clean true b e = absurd cc
both-clean false true e = absurd cc

clean-both : (a b : Bool) → a ≡ false → b ≡ false → (not a && not b) ≡ true
clean-both false false e f = refl
clean-both true b e f = absurd cc
clean-both false true e f = absurd cc

from-apart : are_apart ≡ true → Clean known
from-apart e = let b = both-clean _ _ e in record { people = b.0; channels = b.1 }

to-apart : Clean known → are_apart ≡ true
to-apart k = clean-both _ _ k.people k.channels

not-true : (b : Bool) → ¬ (b ≡ true) → b ≡ false
not-true false never = refl
not-true true never = absurd (never refl)

-- ---- entered one after the other

abbrev person : List ℕ → ℕ → Declaration
person name letter = of-person (record { name = name; seed = replicate 32 letter; h = 10; node = true; watchers = 1 })

abbrev the-people : List Declaration
the-people = person (codes "A") 0x41 ∷ person (codes "I1") 0x31 ∷ person (codes "I2") 0x32 ∷ person (codes "B") 0x42 ∷ []

abbrev channel : List ℕ → List (List ℕ) → (nonce app : ℕ) → Declaration
channel name who nonce app = of-channel (record { name = name; people = who; nonce = nonce; app = app; duration = 5 })

abbrev the-channels : List Declaration
the-channels =
    channel (codes "LA") (two (codes "A") (codes "I1")) 1 0
    ∷ channel (codes "LI") (two (codes "I1") (codes "I2")) 2 0
    ∷ channel (codes "LB") (two (codes "I2") (codes "B")) 3 0
    ∷ channel (codes "GA1") (two (codes "A") (codes "I1")) 4 2
    ∷ channel (codes "GB1") (two (codes "I1") (codes "I2")) 5 2
    ∷ channel (codes "J1") (three (codes "A") (codes "I1") (codes "I2")) 6 0
    ∷ channel (codes "VL") (two (codes "A") (codes "I2")) 7 0
    ∷ channel (codes "GA2") (two (codes "A") (codes "I2")) 8 2
    ∷ channel (codes "GB2") (two (codes "I2") (codes "B")) 9 2
    ∷ channel (codes "J2") (three (codes "A") (codes "I2") (codes "B")) 10 0
    ∷ channel (codes "X2") (two (codes "A") (codes "B")) 11 1 ∷ []

start-clean : Clean (start false)
start-clean = record { people = refl; channels = refl }

pub entered_apart : AreApart (start false) people → AreApart known_people channels → are_apart ≡ true
entered_apart a b = to-apart (clean known_people the-channels (clean (start false) the-people start-clean a) b)

pub all_apart : AreApart (start false) people → AreApart known_people channels → AreApart (start false) declared
all_apart a b = (a.0, (a.1.0, (a.1.1.0, (a.1.1.1.0, b))))

people-clean : are_apart ≡ true → Clean known_people
people-clean e = was_clean known_people the-channels (from-apart e)

pub people_repeat : ¬ (AreApart (start false) people) → are_apart ≡ false
people_repeat not_apart = not-true are_apart (λ e. not_apart (apart (start false) the-people tt (people-clean e)))

-- ---- four that differ

record Differ (a b c d : List ℕ) : Type 0 where
  ab : bytes_eq a b ≡ false
  ac : bytes_eq a c ≡ false
  ad : bytes_eq a d ≡ false
  bc : bytes_eq b c ≡ false
  cd : bytes_eq c d ≡ false

differ : (a b c d : List ℕ) → repeats (a ∷ b ∷ c ∷ d ∷ []) ≡ false → Differ a b c d
differ a b c d e =
    let of_a = left_false _ _ e in
    let of_others = right_false _ _ e in
    let of_b = left_false _ _ of_others in
    let of_c = left_false _ _ (right_false _ _ of_others) in
    record {
      ab = left_false _ _ of_a;
      ac = left_false _ _ (right_false _ _ of_a);
      ad = left_false _ _ (right_false _ _ (right_false _ _ of_a));
      bc = left_false _ _ of_b;
      cd = left_false _ _ of_c;
    }

abbrev key : ℕ → List ℕ
key letter = key_of (replicate 32 letter) 10

named-apart : are_apart ≡ true → Differ (name_of_person (key 0x41)) (name_of_person (key 0x31)) (name_of_person (key 0x32)) (name_of_person (key 0x42))
named-apart e = differ (name_of_person (key 0x41)) (name_of_person (key 0x31)) (name_of_person (key 0x32)) (name_of_person (key 0x42)) (people-clean e).people

pub are_opened : are_apart ≡ true → AreOpened declared_people
are_opened e = let d = named-apart e in (d.ab, d.bc, d.cd)

-- ---- fixed parts keep their limits

two-fixed : (a b : List ℕ) (nonce app : ℕ) → nonce ≤ 11 → app ≤ 2 → IsKey a → IsKey b → bytes_eq a b ≡ false
    → is_ok (fixed_of (fixed (fixed_with (a ∷ b ∷ []) nonce app 5))) ≡ true
two-fixed a b nonce app few fit fits_a fits_b ab =
    ap (λ (r : Result FixedParts ByteFault). is_ok r) (valid_again fixed_format (fixed_with (a ∷ b ∷ []) nonce app 5) (record {
      at_least_two = omega arith;
      at_most_four = omega arith;
      keys = record { each = (fits_a, (fits_b, tt)); apart = (pair, (refl, tt)) };
      nonce = omega (arith, few);
      app = fit;
      payment = λ e. refl;
      started = omega arith;
      duration = omega arith;
    }))
  where
    pair : bytes_eq a b || false ≡ false
    pair = ap (λ (t : Bool). t || false) ab

three-fixed : (a b c : List ℕ) (nonce : ℕ) → nonce ≤ 11 → IsKey a → IsKey b → IsKey c → bytes_eq a b ≡ false → bytes_eq a c ≡ false → bytes_eq b c ≡ false
    → is_ok (fixed_of (fixed (fixed_with (a ∷ b ∷ c ∷ []) nonce 0 5))) ≡ true
three-fixed a b c nonce few fits_a fits_b fits_c ab ac bc =
    ap (λ (r : Result FixedParts ByteFault). is_ok r) (valid_again fixed_format (fixed_with (a ∷ b ∷ c ∷ []) nonce 0 5) (record {
      at_least_two = omega arith;
      at_most_four = omega arith;
      keys = record { each = (fits_a, (fits_b, (fits_c, tt))); apart = (of-a, (of-b, (refl, tt))) };
      nonce = omega (arith, few);
      app = omega arith;
      payment = λ e. absurd (omega (arith, e));
      started = omega arith;
      duration = omega arith;
    }))
  where
    of-a : bytes_eq a b || (bytes_eq a c || false) ≡ false
    of-a = ap (λ (t : Bool). t || (bytes_eq a c || false)) ab ∙ ap (λ (t : Bool). t || false) ac

    of-b : bytes_eq b c || false ≡ false
    of-b = ap (λ (t : Bool). t || false) bc

module _ (keys : HaveKeys) where
  all-fixed : are_apart ≡ true → AreFixed known_people the-channels
  all-fixed e =
      let d = named-apart e in
      let ab = two_keys (key 0x41) (key 0x31) d.ab in
      let ac = two_keys (key 0x41) (key 0x32) d.ac in
      let ad = two_keys (key 0x41) (key 0x42) d.ad in
      let bc = two_keys (key 0x31) (key 0x32) d.bc in
      let cd = two_keys (key 0x32) (key 0x42) d.cd in (
        two-fixed (key 0x41) (key 0x31) 1 0 (omega arith) (omega arith) keys.a keys.near ab,
        (
          two-fixed (key 0x31) (key 0x32) 2 0 (omega arith) (omega arith) keys.near keys.far bc,
          (
            two-fixed (key 0x32) (key 0x42) 3 0 (omega arith) (omega arith) keys.far keys.b cd,
            (
              two-fixed (key 0x41) (key 0x31) 4 2 (omega arith) (omega arith) keys.a keys.near ab,
              (
                two-fixed (key 0x31) (key 0x32) 5 2 (omega arith) (omega arith) keys.near keys.far bc,
                (
                  three-fixed (key 0x41) (key 0x31) (key 0x32) 6 (omega arith) keys.a keys.near keys.far ab ac bc,
                  (
                    two-fixed (key 0x41) (key 0x32) 7 0 (omega arith) (omega arith) keys.a keys.far ac,
                    (
                      two-fixed (key 0x41) (key 0x32) 8 2 (omega arith) (omega arith) keys.a keys.far ac,
                      (
                        two-fixed (key 0x32) (key 0x42) 9 2 (omega arith) (omega arith) keys.far keys.b cd,
                        (
                          three-fixed (key 0x41) (key 0x32) (key 0x42) 10 (omega arith) keys.a keys.far keys.b ac ad cd,
                          (two-fixed (key 0x41) (key 0x42) 11 1 (omega arith) (omega arith) keys.a keys.b ad, tt),
                        ),
                      ),
                    ),
                  ),
                ),
              ),
            ),
          ),
        ),
      )

  pub channels_repeat : ¬ (AreApart known_people channels) → are_apart ≡ false
  channels_repeat not_apart = not-true are_apart (λ e. not_apart (apart known_people the-channels (all-fixed e) (from-apart e)))

-- so as the channels are entered after the people
pub channels_told : HaveKeys → (c : Context) (ss : List Step) → c ≡ known_people → ss ≡ channels → ¬ (AreApart c ss) → are_apart ≡ false
channels_told keys c ss people_in all not_apart =
    channels_repeat keys (λ a. not_apart (subst (AreApart c) (sym all) (subst (λ (k : Context). AreApart k channels) (sym people_in) a)))
