-- The states that the reader knows are the player's, but for those that were to be caught of nodes.
use Rattle.std.proofs.Common.{◌≡◌, ℕ, ◌≤◌, List, [], ◌∷◌, ◌++◌, length, Bool, true, false, cond, Option, Some, None, refl, ◌∙◌, ap, arith}
use Rattle.std.proofs.lemmas.Bool.Decides.{nat_tests}
use Rattle.std.specs.Prelude.{nat_le, IsSome, is_some}
use Rattle.std.specs.List.{find, list_any}
use Rattle.std.specs.Str.{bytes_eq}
use Rattle.call_history.specs.Spelling.{message}
use Rattle.script_reader.specs.step.Step.{Step}
use Rattle.script_reader.specs.step.Step.TheVariants as steps
use Rattle.step_meanings.specs.Chains.{state_by}
use Rattle.step_meanings.specs.Meanings.{message_by}
use Rattle.step_meanings.specs.People.{◌>>=◌}
use Rattle.step_meanings.specs.declared.chains.NamedState.{NamedState}
use Rattle.further_laws.specs.Happens.{catches}
use Rattle.further_laws.proofs.Finding.{same_bytes, bytes_themselves, none_more, any_before, find_push, find_last}

-- a state that no step caught has a signature that is short enough for a message
abbrev pub IsShort : List Step → NamedState → Type 0
IsShort before x = list_any (catches x.name) before ≡ false → length x.signed.signature ≤ 9004

abbrev pub AreShort : List Step → List NamedState → Type 0
AreShort before [] = Unit {0}
AreShort before (x ∷ xs) = IsShort before x × AreShort before xs

-- each name of a state stands for one, unless a step was to catch it
pub record AreNamed (names : List (List ℕ)) (before : List Step) (states : List NamedState) : Type 0 where
  pub there : (name : List ℕ) → list_any (λ s. bytes_eq s name) names ≡ true → list_any (catches name) before ≡ false → IsSome (state_by states name)
  pub short : AreShort before states

short_later : (before : List Step) (s : Step) (xs : List NamedState) → AreShort before xs → AreShort (before ++ s ∷ []) xs
short_later before s [] h = tt
short_later before s (x ∷ xs) h = (λ e. h.0 (none_more (catches x.name) before s e).0, short_later before s xs h.1)

short_push : (before : List Step) (xs : List NamedState) (x : NamedState) → AreShort before xs → IsShort before x → AreShort before (xs ++ x ∷ [])
short_push before [] x h s = (s, tt)
short_push before (y ∷ xs) x h s = (h.0, short_push before xs x h.1 s)

-- ---- one step more

pub named_later : (names : List (List ℕ)) (before : List Step) (s : Step) (states : List NamedState) → AreNamed names before states → AreNamed names (before ++ s ∷ []) states
named_later names before s states h =
    record {
      there = λ name e f. h.there name e (none_more (catches name) before s f).0;
      short = short_later before s states h.short;
    }

-- a state is declared
pub named_push : (names : List (List ℕ)) (before : List Step) (s : Step) (states : List NamedState) (x : NamedState) → length x.signed.signature ≤ 9004
    → AreNamed names before states → AreNamed (names ++ x.name ∷ []) (before ++ s ∷ []) (states ++ x ∷ [])
named_push names before s states x fits h =
    record {
      there = λ name e f. by name e (none_more (catches name) before s f).0 (bytes_eq x.name name) refl;
      short = short_push (before ++ s ∷ []) states x (short_later before s states h.short) (λ e. fits);
    }
  where
    by : (name : List ℕ) → list_any (λ t. bytes_eq t name) (names ++ x.name ∷ []) ≡ true → list_any (catches name) before ≡ false
        → (b : Bool) → bytes_eq x.name name ≡ b → IsSome (state_by (states ++ x ∷ []) name)
    by name e f true t = find_last (λ (y : NamedState). bytes_eq y.name name) states x t
    by name e f false t =
        find_push (λ (y : NamedState). bytes_eq y.name name) states x (h.there name (any_before (λ u. bytes_eq u name) names x.name e t) f)

-- the step that is to catch a state
abbrev pub caught_by : (name from channel : List ℕ) → ℕ → Step
caught_by name from channel turn = steps.Catch (record { name = name; from = from; channel = channel; turn = turn })

-- a state is to be caught, and isn't
missed_there : (names : List (List ℕ)) (before : List Step) (caught from channel : List ℕ) (turn : ℕ) (states : List NamedState) → AreNamed names before states
    → (name : List ℕ) → list_any (λ s. bytes_eq s name) (names ++ caught ∷ []) ≡ true → list_any (catches name) (before ++ caught_by caught from channel turn ∷ []) ≡ false
    → IsSome (state_by states name)
missed_there names before caught from channel turn states h name e f =
    let none = none_more (catches name) before (caught_by caught from channel turn) f in
    h.there name (any_before (λ s. bytes_eq s name) names caught e none.1) none.0

pub named_missed : (names : List (List ℕ)) (before : List Step) (caught from channel : List ℕ) (turn : ℕ) (states : List NamedState) → AreNamed names before states
    → AreNamed (names ++ caught ∷ []) (before ++ caught_by caught from channel turn ∷ []) states
named_missed names before caught from channel turn states h =
    record {
      there = missed_there names before caught from channel turn states h;
      short = short_later before (caught_by caught from channel turn) states h.short;
    }

-- or is
pub named_caught : (names : List (List ℕ)) (before : List Step) (from channel : List ℕ) (turn : ℕ) (states : List NamedState) (x : NamedState) → AreNamed names before states
    → AreNamed (names ++ x.name ∷ []) (before ++ caught_by x.name from channel turn ∷ []) (states ++ x ∷ [])
named_caught names before from channel turn states x h =
    let s = caught_by x.name from channel turn in
    record {
      there = λ name e f. find_push (λ (y : NamedState). bytes_eq y.name name) states x (missed_there names before x.name from channel turn states h name e f);
      short = short_push (before ++ s ∷ []) states x (short_later before s states h.short)
          (λ e. absurd (meet (bytes_eq x.name x.name) (bytes_themselves x.name) (none_more (catches x.name) before s e).1));
    }
  where
    meet : (b : Bool) → b ≡ true → b ≡ false → ⊥
    meet b t f = cc

-- ---- messages

some_if : {X : Type 0} (n : ℕ) (m : X) → n ≤ 9004 → IsSome (cond (nat_le n 9004) (Some m) None)
some_if n m fits = let e : nat_le n 9004 ≡ true = grind (arith, nat_tests) in ap (λ b. is_some (cond b (Some m) None)) e

-- a state that no step was to catch has a message
pub message_there : (before : List Step) (states : List NamedState) (name : List ℕ) → AreShort before states → list_any (catches name) before ≡ false
    → IsSome (state_by states name) → IsSome (message_by states name)
message_there before [] name h none some = absurd (cc)
message_there before (x ∷ states) name h none some =
    by (bytes_eq x.name name) refl some (λ later. message_there before states name h.1 none later)
  where
    rest : Option NamedState
    rest = find (λ (y : NamedState). bytes_eq y.name name) states

    fits : bytes_eq x.name name ≡ true → length x.signed.signature ≤ 9004
    fits t = h.0 (ap (λ n. list_any (catches n) before) (same_bytes x.name name t) ∙ none)

    by : (b : Bool) → bytes_eq x.name name ≡ b → IsSome (cond b (Some x) rest) → (IsSome rest → IsSome (message_by states name))
        → IsSome (cond b (Some x) rest >>= λ (y : NamedState). cond (nat_le (length y.signed.signature) 9004) (Some (message (y.channel, y.signed))) None)
    by true t some later = some_if (length x.signed.signature) (message (x.channel, x.signed)) (fits t)
    by false t some later = later some
