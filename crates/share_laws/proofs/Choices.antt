-- Choices as tests of names: each test gives a choice, and each choice is one.
use Rattle.std.proofs.Common.{◌≡◌, ℕ, Bool, true, false, ◌||◌, ◌&&◌, List, [], ◌∷◌, Option, Some, None, is_some, refl, sym, ◌∙◌, ap, cond}
use Rattle.std.proofs.lemmas.Bool.{false≢true}
use Rattle.std.specs.Str.{bytes_eq}
use Rattle.call_history.specs.Flows.{is_among}
use Rattle.call_history.proofs.Names.{same_bytes, bytes_eq_self}
use Rattle.share_laws.specs.Books.{Counting, one_of, outcome_in, varying}
use Rattle.channel_values.specs.declared.value.AssetOutcome.{AssetOutcome}
use Rattle.share_laws.proofs.Least.{Takes, skips, takes}

-- the choice that takes those of cs that pass the test, before t
abbrev pub choose : (List ℕ → Bool) → (cs t : List (List ℕ)) → List (List ℕ)
choose p [] t = t
choose p (c ∷ cs) t = cond (p c) (choose p cs (c ∷ t)) (choose p cs t)

pub choose-takes : (p : List ℕ → Bool) (cs t : List (List ℕ)) → Takes t cs (choose p cs t)
choose-takes p [] t = Takes.ends
choose-takes p (c ∷ cs) t = by_test (p c) (choose-takes p cs (c ∷ t)) (choose-takes p cs t)
  where
    by_test : (b : Bool) → Takes (c ∷ t) cs (choose p cs (c ∷ t)) → Takes t cs (choose p cs t) →
        Takes t (c ∷ cs) (cond b (choose p cs (c ∷ t)) (choose p cs t))
    by_test true q r = takes q
    by_test false q r = skips r

taken-case : (a e m q : Bool) → (e ≡ true → q ≡ true) → ((e || a) || (m && q)) ≡ (a || ((e || m) && q))
taken-case true true m true h = refl
taken-case false true m true h = refl
taken-case a true m false h = absurd (false≢true (h refl))
taken-case a false m q h = refl

skipped-case : (a e m q : Bool) → (e ≡ true → q ≡ false) → (a || (m && q)) ≡ (a || ((e || m) && q))
skipped-case a true m true h = absurd (false≢true (sym (h refl)))
skipped-case a true true false h = refl
skipped-case a true false false h = refl
skipped-case a false m q h = refl

among-choose : (p : List ℕ → Bool) (cs t : List (List ℕ)) (n : List ℕ) →
    is_among n (choose p cs t) ≡ (is_among n t || (is_among n cs && p n))
among-choose p [] t n = none (is_among n t)
  where
    none : (a : Bool) → a ≡ (a || false)
    none true = refl
    none false = refl
among-choose p (c ∷ cs) t n =
    by_test (p c) (λ e. ap p (same_bytes n c e)) (among-choose p cs (c ∷ t) n) (among-choose p cs t n)
  where
    by_test : (b : Bool) → (bytes_eq n c ≡ true → p n ≡ b) →
        is_among n (choose p cs (c ∷ t)) ≡ (is_among n (c ∷ t) || (is_among n cs && p n)) →
        is_among n (choose p cs t) ≡ (is_among n t || (is_among n cs && p n)) →
        is_among n (cond b (choose p cs (c ∷ t)) (choose p cs t)) ≡ (is_among n t || (is_among n (c ∷ cs) && p n))
    by_test true same q r = q ∙ taken-case (is_among n t) (bytes_eq n c) (is_among n cs) (p n) same
    by_test false same q r = r ∙ skipped-case (is_among n t) (bytes_eq n c) (is_among n cs) (p n) same

-- a listed name is taken where it passes the test
pub chosen-is : (p : List ℕ → Bool) (cs : List (List ℕ)) (n : List ℕ) → is_among n cs ≡ true → is_among n (choose p cs []) ≡ p n
chosen-is p cs n h = among-choose p cs [] n ∙ ap (λ (b : Bool). b && p n) h

-- the outcome of n where its own test is t
abbrev pub outcome_by : List Counting → Bool → List ℕ → List AssetOutcome
outcome_by [] t n = []
outcome_by (k ∷ ks) t n = cond (bytes_eq k.channel n) (one_of k.proposal t k.outcome) (outcome_by ks t n)

-- under a choice a channel has the outcome of its own test: where it has no two outcomes the test doesn't count
pub outcome_in-by : (ks : List Counting) (taken : List (List ℕ)) (t : Bool) (n : List ℕ) →
    (is_among n (varying ks) ≡ true → is_among n taken ≡ t) → outcome_in ks taken n ≡ outcome_by ks t n
outcome_in-by [] taken t n h = refl
outcome_in-by (k ∷ ks) taken t n h =
    by_test (bytes_eq k.channel n) (same_bytes k.channel n) (outcome_in-by ks taken t n (λ e. h (later k.proposal e)))
  where
    later : (o : Option (List AssetOutcome)) → is_among n (varying ks) ≡ true → is_among n (cond (is_some o) (k.channel ∷ varying ks) (varying ks)) ≡ true
    later None e = e
    later (Some o) e = right (bytes_eq n k.channel) (is_among n (varying ks)) e
      where
        right : (x y : Bool) → y ≡ true → (x || y) ≡ true
        right true y e = refl
        right false y e = e

    here : (o : Option (List AssetOutcome)) → k.channel ≡ n → (is_among n (cond (is_some o) (k.channel ∷ varying ks) (varying ks)) ≡ true → is_among n taken ≡ t) →
        one_of o (is_among k.channel taken) k.outcome ≡ one_of o t k.outcome
    here None is g = refl
    here (Some o) is g =
        ap (λ (m : List ℕ). cond (is_among m taken) o k.outcome) is
        ∙ ap (λ (b : Bool). cond b o k.outcome) (g (ap (λ (b : Bool). b || is_among n (varying ks)) (ap (λ (m : List ℕ). bytes_eq n m) is ∙ bytes_eq_self n)))

    by_test : (b : Bool) → (b ≡ true → k.channel ≡ n) → outcome_in ks taken n ≡ outcome_by ks t n →
        cond b (one_of k.proposal (is_among k.channel taken) k.outcome) (outcome_in ks taken n)
        ≡ cond b (one_of k.proposal t k.outcome) (outcome_by ks t n)
    by_test true is e = here k.proposal (is refl) h
    by_test false is e = e

pub differ-flip : (a b : List ℕ) → bytes_eq a b ≡ false → bytes_eq b a ≡ false
differ-flip a b h = by_test (bytes_eq b a) (same_bytes b a)
  where
    by_test : (t : Bool) → (t ≡ true → b ≡ a) → t ≡ false
    by_test true e = sym (ap (bytes_eq a) (e refl) ∙ bytes_eq_self a) ∙ h
    by_test false e = refl
