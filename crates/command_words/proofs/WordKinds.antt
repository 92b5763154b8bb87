-- The kinds of words after `load`, and what clap makes of each.
use Rattle.std.proofs.Common.{◌≡◌, ◌≢◌, ◌∙◌, refl, sym, ap, ap₂, subst, ℕ, suc, ◌+◌, ◌==◌, Bool, true, false, not, ◌&&◌, ◌||◌, List, [], ◌∷◌, ◌++◌, Option, Some, None, option_and_then, codes, ⊎_elim, arith, cond, take, drop, length, true≢false}
use Rattle.std.specs.Prelude.{nat_eq, slice_get}
use Rattle.std.specs.List.{list_any, before_first, after_first, position_or_len, starts_with}
use Rattle.std.specs.Option.{option_map_or}
use Rattle.std.specs.Str.{bytes_eq, chars}
use Rattle.std.proofs.lemmas.Bool.{ne_eqb}
use Rattle.std.proofs.lemmas.Bool.Decides.{eqb_tells}
use Rattle.std.proofs.lemmas.Slice.Eq.{bytes_eq-Decides}
use Rattle.clap.specs.Kinds.{Kinds, or_else}
use Rattle.clap.specs.Lexer.{long_of, long_of_rest, short_of, short_of_rest, strip_byte}
use Rattle.clap.specs.Walk.{Held, Outcome, Row, Step, Text, Waiting, Walk, idle, option, positional, trailing, walked, arg_by_long, after_flag, after_step, bundle_met, bundle_step, long_or_other, plain_word, reacted, settled, short_or_plain, plain as no_flag}
use Rattle.clap.specs.Faults.{bundle_fault, bundle_step_fault, flags_fault, flag_word_fault, long_fault, option_fault, step_fault, turn_fault}
use Rattle.clap.specs.declared.error.kind.ErrorKind.TheVariants.{UnknownArgument}
use Rattle.command_words.specs.Words.{is_end, is_equals, parts_of}
use Rattle.command_words.proofs.Turns.{at, held, name, rule, rules, shape}

pub data Kind : Type 0 where
  -- `--`
  ends : Kind
  -- one of the options, `seed` at true, with the value that stands in its word
  named : Bool → Option Text → Kind
  -- another flag
  refused : Kind
  -- no flag
  plain : Kind

abbrev pub values : Option Text → List Text
values None = []
values (Some v) = v ∷ []

-- the word is one of the options
pub record IsNamed (x : Bool) (v : Option Text) (word : Text) : Type 0 where
  pub no_end : bytes_eq word (codes "--") ≡ false
  pub long : long_of word ≡ Some (name x, v)
  pub parts : parts_of word ≡ (45 ∷ 45 ∷ name x) ∷ values v

-- the word stands for words of which the first is no option, and they are not the end
pub record IsOther (word : Text) (first : Text) (others : List Text) : Type 0 where
  pub parts : parts_of word ≡ first ∷ others
  pub no_seed : bytes_eq first (codes "--seed") ≡ false
  pub no_count : bytes_eq first (codes "--count") ≡ false
  pub no_end : (rest : List Text) → is_end (first ∷ (others ++ rest)) ≡ false

pub record IsRefused (word : Text) : Type 0 where
  pub first : Text
  pub others : List Text
  pub other : IsOther word (45 ∷ first) others
  pub turn : (waiting : Waiting) (rows : List Row) (pending : Option (Text × List Text)) → turn_fault shape [] (at (held rows pending) waiting) word ≡ UnknownArgument ∷ []

-- clap passes the word on, as none of its flags
pub record IsPlain (word : Text) : Type 0 where
  pub other : IsOther word word []
  pub turn : (waiting : Waiting) (rows : List Row) (pending : Option (Text × List Text))
      → turn_fault shape [] (at (held rows pending) waiting) word
      ≡ step_fault shape 1 (plain_word rules waiting word (held rows pending)).0 (plain_word rules waiting word (held rows pending)).1
  pub walk : (waiting : Waiting) (rows : List Row) (pending : Option (Text × List Text))
      → walked rules [] (at (held rows pending) waiting) word
      ≡ after_step rules word (at (held rows pending) waiting) (plain_word rules waiting word (held rows pending)).0 (plain_word rules waiting word (held rows pending)).1

abbrev pub IsKind : Kind → Text → Type 0
IsKind ends word = word ≡ codes "--"
IsKind (named x v) word = IsNamed x v word
IsKind refused word = IsRefused word
IsKind plain word = IsPlain word

-- ---- a turn and a step, by what the word looks like

abbrev long_step : Waiting → Held → Text → Bool → Option (Text × Option Text) → Held × Step
long_step waiting h word e l = cond e (h, trailing 1) (long_or_other rules waiting word l h)

abbrev by_long : Waiting → Held → Text → Bool → Option (Text × Option Text) → Kinds
by_long waiting h word e l =
    or_else (cond e [] (flag_word_fault rules false l word h)) (step_fault shape 1 (long_step waiting h word e l).0 (long_step waiting h word e l).1)

abbrev walk_by_long : Waiting → Held → Text → Bool → Option (Text × Option Text) → Walk
walk_by_long waiting h word e l = after_step rules word (at h waiting) (long_step waiting h word e l).0 (long_step waiting h word e l).1

module _ (h : Held) (word : Text) (e : bytes_eq word (codes "--") ≡ false) (l : Option (Text × Option Text)) (long : long_of word ≡ l) where
  turn-by_long : (waiting : Waiting) → turn_fault shape [] (at h waiting) word ≡ by_long waiting h word false l
  turn-by_long idle = ap₂ (by_long idle h word) e long
  turn-by_long (option id) = ap₂ (by_long (option id) h word) e long
  turn-by_long positional = ap₂ (by_long positional h word) e long

  walked-by_long : (waiting : Waiting) → walked rules [] (at h waiting) word ≡ walk_by_long waiting h word false l
  unfolding walked
  walked-by_long idle = ap₂ (walk_by_long idle h word) e long
  walked-by_long (option id) = ap₂ (walk_by_long (option id) h word) e long
  walked-by_long positional = ap₂ (walk_by_long positional h word) e long

pub named-turn : (x : Bool) (v : Option Text) (word : Text) → IsNamed x v word → (waiting : Waiting) (h : Held)
    → turn_fault shape [] (at h waiting) word ≡ or_else (option_fault rules false (rule x) v h) []
named-turn true None word is waiting h = turn-by_long h word is.no_end _ is.long waiting
named-turn true (Some v) word is waiting h = turn-by_long h word is.no_end _ is.long waiting
named-turn false None word is waiting h = turn-by_long h word is.no_end _ is.long waiting
named-turn false (Some v) word is waiting h = turn-by_long h word is.no_end _ is.long waiting

abbrev pub named_walk : Bool → Option Text → Held → Walk
named_walk x None h = at (record (settled rules h) { pending = Some (name x, []) }) (option (name x))
named_walk x (Some v) h = at (reacted rules (rule x) (v ∷ []) h) idle

pub named-walk : (x : Bool) (v : Option Text) (word : Text) → IsNamed x v word → (waiting : Waiting) (h : Held) → walked rules [] (at h waiting) word ≡ named_walk x v h
named-walk true None word is waiting h = walked-by_long h word is.no_end _ is.long waiting
named-walk true (Some v) word is waiting h = walked-by_long h word is.no_end _ is.long waiting
named-walk false None word is waiting h = walked-by_long h word is.no_end _ is.long waiting
named-walk false (Some v) word is waiting h = walked-by_long h word is.no_end _ is.long waiting

-- ---- words that are no long flag

abbrev by_short : Waiting → Held → Text → Option Text → Kinds
by_short waiting h word s =
    or_else (option_map_or (λ flags. bundle_fault rules false flags h) s []) (step_fault shape 1 (short_or_plain rules waiting word s h).0 (short_or_plain rules waiting word s h).1)

abbrev walk_by_short : Waiting → Held → Text → Option Text → Walk
walk_by_short waiting h word s = after_step rules word (at h waiting) (short_or_plain rules waiting word s h).0 (short_or_plain rules waiting word s h).1

-- by the first character of the bundle y ∷ ys
abbrev bundle_by : Held → ℕ → Text → Option ℕ → Held × Outcome
bundle_by h y ys o = bundle_step rules o (y ∷ ys) 0 no_flag h (bundle_met rules (length ys))

abbrev char_step : Waiting → Held → Text → ℕ → Text → Option ℕ → Held × Step
char_step waiting h word y ys o = after_flag rules waiting word (bundle_by h y ys o).0 (bundle_by h y ys o).1

abbrev by_char : Waiting → Held → Text → ℕ → Text → Option ℕ → Kinds
by_char waiting h word y ys o =
    or_else (bundle_step_fault rules false o (y ∷ ys) 0 h (flags_fault rules false (length ys))) (step_fault shape 1 (char_step waiting h word y ys o).0 (char_step waiting h word y ys o).1)

abbrev walk_by_char : Waiting → Held → Text → ℕ → Text → Option ℕ → Walk
walk_by_char waiting h word y ys o = after_step rules word (at h waiting) (char_step waiting h word y ys o).0 (char_step waiting h word y ys o).1

plain_of : (word : Text) → bytes_eq word (codes "--") ≡ false → long_of word ≡ None → short_of word ≡ None → IsOther word word [] → IsPlain word
plain_of word e l s other = record {
  other = other;
  turn = λ waiting rows pending. turn-by_long (held rows pending) word e None l waiting ∙ ap (by_short waiting (held rows pending) word) s;
  walk = λ waiting rows pending. walked-by_long (held rows pending) word e None l waiting ∙ ap (walk_by_short waiting (held rows pending) word) s;
}

module _ (word : Text) (y : ℕ) (ys : Text) (e : bytes_eq word (codes "--") ≡ false) (l : long_of word ≡ None) (s : short_of word ≡ Some (y ∷ ys)) where
  turn-by_char : (o : Option ℕ) → slice_get (chars (y ∷ ys)) 0 ≡ o → (waiting : Waiting) (rows : List Row) (pending : Option (Text × List Text))
      → turn_fault shape [] (at (held rows pending) waiting) word ≡ by_char waiting (held rows pending) word y ys o
  unfolding flags_fault bundle_met
  turn-by_char o is waiting rows pending =
      turn-by_long (held rows pending) word e None l waiting ∙ ap (by_short waiting (held rows pending) word) s ∙ ap (by_char waiting (held rows pending) word y ys) is

  walked-by_char : (o : Option ℕ) → slice_get (chars (y ∷ ys)) 0 ≡ o → (waiting : Waiting) (rows : List Row) (pending : Option (Text × List Text))
      → walked rules [] (at (held rows pending) waiting) word ≡ walk_by_char waiting (held rows pending) word y ys o
  unfolding bundle_met
  walked-by_char o is waiting rows pending =
      walked-by_long (held rows pending) word e None l waiting ∙ ap (walk_by_short waiting (held rows pending) word) s ∙ ap (walk_by_char waiting (held rows pending) word y ys) is

abbrev pub Sorted : Text → Type 0
Sorted word = (k : Kind) × IsKind k word

no_parts : (word : Text) → starts_with nat_eq word (codes "--") ≡ false → parts_of word ≡ word ∷ []
no_parts word e = ap (λ b. cond (b && list_any is_equals word) (before_first is_equals word ∷ after_first is_equals word ∷ []) (word ∷ [])) e

other_of : (word : Text) → starts_with nat_eq word (codes "--") ≡ false → bytes_eq word (codes "--seed") ≡ false → bytes_eq word (codes "--count") ≡ false
    → bytes_eq word (codes "--") ≡ false → IsOther word word []
other_of word s seed count e = record { parts = no_parts word s; no_seed = seed; no_count = count; no_end = go }
  where
    go : (rest : List Text) → is_end (word ∷ ([] ++ rest)) ≡ false
    go [] = e
    go (x ∷ xs) = refl

-- what the lexer reads, by the test of the first byte, and of the second after a hyphen
abbrev long_of_head : Text → Bool → Option (Text × Option Text)
long_of_head xs b = option_and_then long_of_rest (option_and_then (strip_byte 45) (cond b (Some xs) None))

abbrev short_of_head : Text → Bool → Option Text
short_of_head xs b = option_and_then short_of_rest (cond b (Some xs) None)

-- a word that begins with no hyphen
no_hyphen : (x : ℕ) (xs : Text) → x ≢ 45 → Sorted (x ∷ xs)
no_hyphen x xs ne =
    let t = ne_eqb x 45 ne in
    let u = ne_eqb 45 x (λ e. ne (sym e)) in (
      plain,
      plain_of (x ∷ xs) (ap (λ b. b && bytes_eq xs (codes "-")) t) (ap (λ b. long_of_head xs b) t) (ap (λ b. short_of_head xs b) t)
          (other_of (x ∷ xs) (ap (λ b. b && bytes_eq (codes "-") (take 1 xs)) u) (ap (λ b. b && bytes_eq xs (codes "-seed")) t) (ap (λ b. b && bytes_eq xs (codes "-count")) t)
          (ap (λ b. b && bytes_eq xs (codes "-")) t)),
    )

-- a word of a hyphen and another byte: a bundle of short flags, of which the command has none
one_hyphen : (y : ℕ) (ys : Text) → y ≢ 45 → Sorted (45 ∷ y ∷ ys)
one_hyphen y ys ne = go (slice_get (chars (y ∷ ys)) 0) refl
  where
    word : Text
    word = 45 ∷ y ∷ ys

    t : (y == 45) ≡ false
    t = ne_eqb y 45 ne

    u : (45 == y) ≡ false
    u = ne_eqb 45 y (λ e. ne (sym e))

    end : bytes_eq word (codes "--") ≡ false
    end = ap (λ b. b && bytes_eq ys []) t

    long : long_of word ≡ None
    long = ap (λ b. option_and_then long_of_rest (cond b (Some ys) None)) t

    short : short_of word ≡ Some (y ∷ ys)
    short = ap (λ b. cond b None (Some (y ∷ ys))) t

    other : IsOther word word []
    other = other_of word (ap (λ b. b && bytes_eq [] (take 0 ys)) u) (ap (λ b. b && bytes_eq ys (codes "seed")) t) (ap (λ b. b && bytes_eq ys (codes "count")) t) end

    go : (o : Option ℕ) → slice_get (chars (y ∷ ys)) 0 ≡ o → Sorted word
    go None is = (
      plain,
      record {
        other = other;
        turn = turn-by_char word y ys end long short None is;
        walk = walked-by_char word y ys end long short None is;
      },
    )
    go (Some c) is = (
      refused,
      record {
        first = y ∷ ys;
        others = [];
        other = other;
        turn = turn-by_char word y ys end long short (Some c) is;
      },
    )

-- ---- long flags

before_first-uncut : (text : Text) → list_any is_equals text ≡ false → before_first is_equals text ≡ text
before_first-uncut [] e = refl
before_first-uncut (x ∷ xs) e = go (before_first-uncut xs) (is_equals x) refl e
  where
    more : 1 + position_or_len is_equals xs ≡ suc (position_or_len is_equals xs)
    more = omega arith

    go : (list_any is_equals xs ≡ false → before_first is_equals xs ≡ xs) → (b : Bool) → is_equals x ≡ b → (b || list_any is_equals xs) ≡ false → before_first is_equals (x ∷ xs) ≡ x ∷ xs
    go rest true is e = absurd (true≢false e)
    go rest false is e = ap (λ b. take (cond (not b) (1 + position_or_len is_equals xs) 0) (x ∷ xs)) is ∙ ap (λ n. take n (x ∷ xs)) more ∙ ap (λ t. x ∷ t) (rest e)

module _ (text : Text) where
  abbrev place : ℕ
  place = position_or_len is_equals text

  before_first-past : before_first is_equals (45 ∷ 45 ∷ text) ≡ 45 ∷ 45 ∷ before_first is_equals text
  before_first-past = let more : 1 + (1 + place) ≡ suc (suc place) = omega arith in ap (λ n. take n (45 ∷ 45 ∷ text)) more

  after_first-past : after_first is_equals (45 ∷ 45 ∷ text) ≡ after_first is_equals text
  after_first-past = let more : 1 + (1 + place) + 1 ≡ suc (suc (place + 1)) = omega arith in ap (λ n. drop n (45 ∷ 45 ∷ text)) more

-- a long flag, with its value if it has one
record IsLong (z : ℕ) (zs : Text) : Type 0 where
  value : Option Text
  long : long_of (45 ∷ 45 ∷ z ∷ zs) ≡ Some (before_first is_equals (z ∷ zs), value)
  parts : parts_of (45 ∷ 45 ∷ z ∷ zs) ≡ (45 ∷ 45 ∷ before_first is_equals (z ∷ zs)) ∷ values value
  no_end : (rest : List Text) → is_end ((45 ∷ 45 ∷ before_first is_equals (z ∷ zs)) ∷ (values value ++ rest)) ≡ false

is_long : (z : ℕ) (zs : Text) → IsLong z zs
is_long z zs = go (list_any is_equals text) refl
  where
    text : Text
    text = z ∷ zs

    word : Text
    word = 45 ∷ 45 ∷ text

    cut : List Text
    cut = before_first is_equals word ∷ after_first is_equals word ∷ []

    go : (b : Bool) → list_any is_equals text ≡ b → IsLong z zs
    go true is = record {
      value = Some (after_first is_equals text);
      long = ap (λ b. Some (before_first is_equals text, cond b (Some (after_first is_equals text)) None)) is;
      parts = ap (λ b. cond b cut (word ∷ [])) is ∙ ap₂ (λ p q. p ∷ q ∷ []) (before_first-past text) (after_first-past text);
      no_end = λ rest. refl;
    }
    go false is =
        let whole = before_first-uncut text is in
        record {
          value = None;
          long = ap (λ b. Some (before_first is_equals text, cond b (Some (after_first is_equals text)) None)) is;
          parts = ap (λ b. cond b cut (word ∷ [])) is ∙ ap (λ t. (45 ∷ 45 ∷ t) ∷ []) (sym whole);
          no_end = λ rest. ap (λ t. is_end ((45 ∷ 45 ∷ t) ∷ rest)) whole ∙ uncut rest;
        }
      where
        uncut : (rest : List Text) → is_end (word ∷ rest) ≡ false
        uncut [] = refl
        uncut (x ∷ xs) = refl

bytes_eq-swap : (a b : Text) → bytes_eq a b ≡ false → bytes_eq b a ≡ false
bytes_eq-swap a b e = go (bytes_eq b a) refl
  where
    go : (t : Bool) → bytes_eq b a ≡ t → bytes_eq b a ≡ false
    go false is = is
    go true is = absurd (true≢false (sym ((bytes_eq-Decides a b).1 (sym ((bytes_eq-Decides b a).0 is))) ∙ e))

-- the command has no option of another name
unknown : (text : Text) → bytes_eq (codes "seed") text ≡ false → bytes_eq (codes "count") text ≡ false → arg_by_long rules text ≡ None
unknown text seed count = ap₂ (λ s c. cond (true && (s || false)) (Some (rule true)) (cond (true && (c || false)) (Some (rule false)) None)) seed count

two_hyphens : (z : ℕ) (zs : Text) → Sorted (45 ∷ 45 ∷ z ∷ zs)
two_hyphens z zs = seeds (bytes_eq (codes "seed") flag) refl
  where
    word : Text
    word = 45 ∷ 45 ∷ z ∷ zs

    flag : Text
    flag = before_first is_equals (z ∷ zs)

    is : IsLong z zs
    is = is_long z zs

    known : (x : Bool) → name x ≡ flag → IsNamed x is.value word
    known x e = record {
      no_end = refl;
      long = is.long ∙ ap (λ t. Some (t, is.value)) (sym e);
      parts = is.parts ∙ ap (λ t. (45 ∷ 45 ∷ t) ∷ values is.value) (sym e);
    }

    counts : bytes_eq (codes "seed") flag ≡ false → (b : Bool) → bytes_eq (codes "count") flag ≡ b → Sorted word
    counts seed true e = (named false is.value, known false ((bytes_eq-Decides (codes "count") flag).0 e))
    counts seed false e = (
      refused,
      record {
        first = 45 ∷ flag;
        others = values is.value;
        other = record { parts = is.parts; no_seed = bytes_eq-swap (codes "seed") flag seed; no_count = bytes_eq-swap (codes "count") flag e; no_end = is.no_end };
        turn = λ waiting rows pending.
            let h = held rows pending in
            let step = long_step waiting h word false (Some (flag, is.value)) in
            turn-by_long h word refl (Some (flag, is.value)) is.long waiting
            ∙ ap (λ o. or_else (long_fault rules false o is.value h) (step_fault shape 1 step.0 step.1)) (unknown flag seed e);
      },
    )

    seeds : (b : Bool) → bytes_eq (codes "seed") flag ≡ b → Sorted word
    seeds true e = (named true is.value, known true ((bytes_eq-Decides (codes "seed") flag).0 e))
    seeds false e = counts e (bytes_eq (codes "count") flag) refl

-- ---- any word

after_hyphens : (ys : Text) → Sorted (45 ∷ 45 ∷ ys)
after_hyphens [] = (ends, refl)
after_hyphens (z ∷ zs) = two_hyphens z zs

after_hyphen : (xs : Text) → Sorted (45 ∷ xs)
after_hyphen [] = (plain, plain_of (codes "-") refl refl refl (other_of (codes "-") refl refl refl refl))
after_hyphen (y ∷ ys) = ⊎_elim (λ h. subst (λ n. Sorted (45 ∷ n ∷ ys)) (sym h.1) (after_hyphens ys)) (λ h. one_hyphen y ys h.1) (eqb_tells y 45)

pub kind : (word : Text) → Sorted word
kind [] = (plain, plain_of [] refl refl refl (other_of [] refl refl refl refl))
kind (x ∷ xs) = ⊎_elim (λ h. subst (λ n. Sorted (n ∷ xs)) (sym h.1) (after_hyphen xs)) (λ h. no_hyphen x xs h.1) (eqb_tells x 45)
