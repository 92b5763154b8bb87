-- What a text is as a number.
use Rattle.std.proofs.Common.{◌≡◌, ◌∙◌, ◌<◌, ◌≤◌, ◌^◌, refl, sym, ap, ap₂, ℕ, Bool, true, false, ◌&&◌, List, [], ◌∷◌, Option, Some, None, Result, Ok, Err, cond, length, arith, true≢false}
use Rattle.std.proofs.lemmas.Bool.{le-leb, lt-ltb, ltb-true}
use Rattle.std.specs.Prelude.{nat_le, nat_lt}
use Rattle.std.specs.Char.{is_ascii_digit}
use Rattle.std.specs.List.{list_all}
use Rattle.std.specs.Result.{OkIff, result_ok}
use Rattle.std.specs.Str.{all_ascii_digits}
use Rattle.std.specs.Str.Parse.{ParsesUnsigned, digits_value}
use Rattle.std.proofs.lemmas.Bool.Decides.{nat_tests}
use Rattle.std.proofs.lemmas.Str.Parse.{numerals_by_value, parse_digits, tells_all_ascii_digits}
use Rattle.command_words.specs.Words.{number_of}

pub all_ascii_digits-list_all : (bytes : List ℕ) → list_all is_ascii_digit bytes ≡ all_ascii_digits bytes
all_ascii_digits-list_all [] = refl
all_ascii_digits-list_all (c ∷ cs) = ap (λ b. is_ascii_digit c && b) (all_ascii_digits-list_all cs)

-- the definition by its tests
abbrev by_tests : List ℕ → Bool → Bool → Bool → Bool → Option ℕ
by_tests text some short digits fits = cond (some && (short && (digits && fits))) (Some (digits_value 10 text)) None

failed : (text : List ℕ) (some short digits fits : Bool) → (short && digits) ≡ false → by_tests text some short digits fits ≡ None
failed text false short digits fits e = refl
failed text true false digits fits e = refl
failed text true true digits fits e = ap (λ d. cond (d && fits) (Some (digits_value 10 text)) None) e

pub too_long : (text : List ℕ) → 20 < length text → number_of text ≡ None
too_long text lt = let long : nat_le (length text) 20 ≡ false = grind (arith, nat_tests) in
    failed text (nat_lt 0 (length text)) (nat_le (length text) 20) (all_ascii_digits text) (nat_lt (digits_value 10 text) (2 ^ 64)) (ap (λ b. b && all_ascii_digits text) long)

pub no_digits : (text : List ℕ) → all_ascii_digits text ≡ false → number_of text ≡ None
no_digits text e = failed text (nat_lt 0 (length text)) (nat_le (length text) 20) (all_ascii_digits text) (nat_lt (digits_value 10 text) (2 ^ 64)) (ap (λ b. nat_le (length text) 20 && b) e ∙ never (nat_le (length text) 20))
  where
    never : (b : Bool) → (b && false) ≡ false
    never true = refl
    never false = refl

abbrev value : List ℕ → ℕ
value text = digits_value 10 text

module _ {E : Type 0} (text : List ℕ) where
  read : (r : Result ℕ E) → OkIff r ((0 < length text) × (value text < 2 ^ 64)) (value text) → (some fits : Bool) → nat_lt 0 (length text) ≡ some → nat_lt (value text) (2 ^ 64) ≡ fits
      → result_ok r ≡ cond (some && fits) (Some (value text)) None
  read (Ok x) h true true s f = ap (λ n. Some n) h.1
  read (Ok x) h false fits s f = let some : nat_lt 0 (length text) ≡ true = lt-ltb 0 (length text) h.0.0 in absurd (true≢false (sym some ∙ s))
  read (Ok x) h true false s f = let fits : nat_lt (value text) (2 ^ 64) ≡ true = lt-ltb (value text) (2 ^ 64) h.0.1 in absurd (true≢false (sym fits ∙ f))
  read (Err e) h true true s f = absurd (h (ltb-true 0 (length text) s, ltb-true (value text) (2 ^ 64) f))
  read (Err e) h true false s f = refl
  read (Err e) h false fits s f = refl

  pub reads : (r : Result ℕ E) → length text ≤ 20 → all_ascii_digits text ≡ true → ParsesUnsigned 64 10 text r → result_ok r ≡ number_of text
  reads r le digits h =
      let short : nat_le (length text) 20 ≡ true = le-leb (length text) 20 le in
      read r (parse_digits (numerals_by_value (λ ds. all_ascii_digits ds ≡ true) tells_all_ascii_digits) 64 text r h digits) (nat_lt 0 (length text)) (nat_lt (value text) (2 ^ 64)) refl refl
      ∙ sym (ap₂ (λ b c. by_tests text (nat_lt 0 (length text)) b c (nat_lt (value text) (2 ^ 64))) short digits)
