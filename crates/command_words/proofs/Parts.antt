-- What the definition makes of the words after `load`.
use Rattle.std.proofs.Common.{◌≡◌, ◌∙◌, refl, ap, ap₂, ℕ, Bool, true, false, not, ◌&&◌, List, [], ◌∷◌, ◌++◌, Option, Some, None, codes, cond, length}
use Rattle.std.specs.Prelude.{nat_le, nat_lt}
use Rattle.std.specs.Str.{bytes_eq}
use Rattle.clap.specs.Walk.{Text}
use Rattle.command_words.specs.Words.{is_end, load_in, load_of, number_of, parts_of}
use Rattle.command_words.specs.declared.asking.Asked.{Asked}
use Rattle.command_words.proofs.Turns.{name}
use Rattle.command_words.proofs.WordKinds.{values}

-- `--seed` at true, and else `--count`
abbrev pub flag : Bool → Text
flag x = 45 ∷ 45 ∷ name x

neither : (t : Bool) (a b : Option Asked) → cond (t && false) a (cond (t && false) b None) ≡ None
neither true a b = refl
neither false a b = refl

all_none : (s t : Bool) (a b : Option Asked) → a ≡ None → b ≡ None → cond s a (cond t b None) ≡ None
all_none true t a b e f = e
all_none false true a b e f = f
all_none false false a b e f = refl

load_of-none : (seed : Option ℕ) → load_of seed None ≡ None
load_of-none None = refl
load_of-none (Some n) = refl

-- the first part is no option
pub none_first : (p : Text) (q : List Text) → bytes_eq p (codes "--seed") ≡ false → bytes_eq p (codes "--count") ≡ false → load_in (p ∷ q) ≡ None
none_first p [] s c = refl
none_first p (v ∷ []) s c = refl
none_first p (v ∷ b ∷ []) s c = refl
none_first p (v ∷ b ∷ w ∷ rest) s c =
    ap₂ (λ x y. cond (is_end rest && (x && bytes_eq b (codes "--count"))) (load_of (number_of v) (number_of w))
    (cond (is_end rest && (y && bytes_eq b (codes "--seed"))) (load_of (number_of w) (number_of v)) None)) s c
    ∙ neither (is_end rest) _ _

-- nor is the third
pub none_third : (x : Bool) (v p : Text) (q : List Text) → bytes_eq p (codes "--seed") ≡ false → bytes_eq p (codes "--count") ≡ false → load_in (flag x ∷ v ∷ p ∷ q) ≡ None
none_third x v p [] s c = refl
none_third true v p (w ∷ rest) s c =
    ap (λ y. cond (is_end rest && y) (load_of (number_of v) (number_of w)) (cond (is_end rest && false) (load_of (number_of w) (number_of v)) None)) c ∙ neither (is_end rest) _ _
none_third false v p (w ∷ rest) s c =
    ap (λ y. cond (is_end rest && false) (load_of (number_of v) (number_of w)) (cond (is_end rest && y) (load_of (number_of w) (number_of v)) None)) s ∙ neither (is_end rest) _ _

-- one option twice
pub none_twice : (x : Bool) (v : Text) (q : List Text) → load_in (flag x ∷ v ∷ flag x ∷ q) ≡ None
none_twice x v [] = refl
none_twice true v (w ∷ rest) = neither (is_end rest) _ _
none_twice false v (w ∷ rest) = neither (is_end rest) _ _

-- a value that is no number
pub none_second : (f v : Text) (q : List Text) → number_of v ≡ None → load_in (f ∷ v ∷ q) ≡ None
none_second f v [] e = refl
none_second f v (b ∷ []) e = refl
none_second f v (b ∷ w ∷ rest) e = all_none _ _ _ _ (ap (λ n. load_of n (number_of w)) e) (ap (load_of (number_of w)) e ∙ load_of-none (number_of w))

pub none_fourth : (f v g w : Text) (rest : List Text) → number_of w ≡ None → load_in (f ∷ v ∷ g ∷ w ∷ rest) ≡ None
none_fourth f v g w rest e = all_none _ _ _ _ (ap (load_of (number_of v)) e ∙ load_of-none (number_of v)) (ap (λ n. load_of n (number_of v)) e)

pub number_of-hyphen : (text : Text) → number_of (45 ∷ text) ≡ None
number_of-hyphen text = go (nat_lt 0 (length (45 ∷ text))) (nat_le (length (45 ∷ text)) 20) _
  where
    go : (a b : Bool) (n : Option ℕ) → cond (a && (b && false)) n None ≡ None
    go true true n = refl
    go true false n = refl
    go false b n = refl

-- both options, and what follows them
pub none_more : (x : Bool) (v w : Text) (rest : List Text) → is_end rest ≡ false → load_in (flag x ∷ v ∷ flag (not x) ∷ w ∷ rest) ≡ None
none_more true v w rest e = ap (λ t. cond (t && true) (load_of (number_of v) (number_of w)) (cond (t && false) (load_of (number_of w) (number_of v)) None)) e
none_more false v w rest e = ap (λ t. cond (t && false) (load_of (number_of v) (number_of w)) (cond (t && true) (load_of (number_of w) (number_of v)) None)) e

pub more_after_end : (word : Text) (rest : List Text) → is_end (codes "--" ∷ (parts_of word ++ rest)) ≡ false
more_after_end word rest = go _ _ _
  where
    go : (t : Bool) (p q : Text) → is_end (codes "--" ∷ (cond t (p ∷ q ∷ []) (word ∷ []) ++ rest)) ≡ false
    go true p q = refl
    go false p q = refl

pub named_is_no_end : (x : Bool) (v : Option Text) (rest : List Text) → is_end (flag x ∷ (values v ++ rest)) ≡ false
named_is_no_end x (Some v) rest = refl
named_is_no_end true None [] = refl
named_is_no_end false None [] = refl
named_is_no_end x None (y ∷ ys) = refl
