-- For each choice after an entry there was a choice before that is no better for its person.
use Rattle.std.proofs.Common.{◌≡◌, ℕ, ◌≤◌, Bool, true, false, List, [], ◌∷◌, refl, sym, ap, subst, arith, cond, inl, inr, ◌⊎◌}
use Rattle.std.proofs.lemmas.Bool.{false≢true}
use Rattle.channel_values.specs.declared.value.Dest.TheVariants.{Person}
use Rattle.std.specs.Str.{bytes_eq}
use Rattle.channel_values.specs.Amounts.{aff}
use Rattle.call_history.specs.Flows.{is_among}
use Rattle.call_history.proofs.Names.{same_bytes}
use Rattle.funding_plans.specs.Shapes.{items_in, list_in}
use Rattle.share_laws.specs.Books.{Counting, one_of, outcome_in, counts_in, varying, books_under}
use Rattle.channel_values.specs.declared.value.AssetOutcome.{AssetOutcome}
use Rattle.share_laws.specs.Bases.{NoWorse}
use Rattle.share_laws.proofs.Follow.{Follows, ends, starts, stays, settles, Better}
use Rattle.share_laws.proofs.Choices.{choose, chosen-is, outcome_by, outcome_in-by}

-- whether the choice before takes the proposal of n, where the one after does by u: what became final says it, else u
abbrev pub was : {asset : ℕ} {me : List ℕ} {on : List (List ℕ)} {ks ls : List Counting} → Follows asset me on ks ls → Bool → List ℕ → Bool
was ends u n = false
was (starts k new f) u n = was f u n
was (stays k f) u n = cond (bytes_eq k.channel n) u (was f u n)
was (settles k t p w f) u n = cond (bytes_eq k.channel n) t (was f u n)

-- what holds of n: o and i say its outcome and whether it counts before, p and j after
pub record Grows (asset : ℕ) (me : List ℕ) (on : List (List ℕ)) (n : List ℕ) (o p : List AssetOutcome) (i j : Bool) : Type 0 where
  pub own : (r : ℕ) → aff (items_in asset o) r (Person me) ≤ aff (items_in asset p) r (Person me)
  pub bases : is_among n on ≡ true → (items_in asset o ≡ []) ⊎ (items_in asset p ≡ items_in asset o)
  pub counts : (i ≡ false) ⊎ (j ≡ true)
  pub lists : ((i ≡ false) × (list_in asset o ≡ [])) ⊎ (list_in asset p ≡ list_in asset o)

Grows-new : (asset : ℕ) (me : List ℕ) (on : List (List ℕ)) (n : List ℕ) (o p : List AssetOutcome) (i j : Bool) → o ≡ [] → i ≡ false → Grows asset me on n o p i j
Grows-new asset me on n o p i j none out = record {
  own = λ r. let e : aff (items_in asset o) r (Person me) ≡ 0 = ap (λ (x : List AssetOutcome). aff (items_in asset x) r (Person me)) none in omega arith;
  bases = λ h. inl (ap (λ (x : List AssetOutcome). items_in asset x) none);
  counts = inl out;
  lists = inl (out, ap (λ (x : List AssetOutcome). list_in asset x) none);
}

Grows-same : (asset : ℕ) (me : List ℕ) (on : List (List ℕ)) (n : List ℕ) (o : List AssetOutcome) (i : Bool) → Grows asset me on n o o i i
Grows-same asset me on n o true = record { own = λ r. omega arith; bases = λ h. inr refl; counts = inr refl; lists = inr refl }
Grows-same asset me on n o false = record { own = λ r. omega arith; bases = λ h. inr refl; counts = inl refl; lists = inr refl }

Grows-final : (asset : ℕ) (me : List ℕ) (on : List (List ℕ)) (n : List ℕ) (o p : List AssetOutcome) → NoWorse asset me on n o p → Grows asset me on n o p true true
Grows-final asset me on n o p w = record { own = w.affords; bases = λ h. inr (w.same h); counts = inr refl; lists = inr w.list }

-- a channel that doesn't count has no outcome
pub absent : (ks : List Counting) (t : Bool) (n : List ℕ) → counts_in ks n ≡ false → outcome_by ks t n ≡ []
absent [] t n h = refl
absent (k ∷ ks) t n h = by_test (bytes_eq k.channel n) (absent ks t n) h
  where
    by_test : (b : Bool) → (counts_in ks n ≡ false → outcome_by ks t n ≡ []) → cond b true (counts_in ks n) ≡ false →
        cond b (one_of k.proposal t k.outcome) (outcome_by ks t n) ≡ []
    by_test true rest e = absurd (false≢true (sym e))
    by_test false rest e = rest e

pub grows : (asset : ℕ) (me : List ℕ) (on : List (List ℕ)) (ks ls : List Counting) (f : Follows asset me on ks ls) (u : Bool) (n : List ℕ) →
    Grows asset me on n (outcome_by ks (was f u n) n) (outcome_by ls u n) (counts_in ks n) (counts_in ls n)
grows asset me on [] [] ends u n = Grows-same asset me on n [] false
grows asset me on (a ∷ ks) [] f u n = elim f [ ]
grows asset me on ks (b ∷ ls) (starts k new f) u n =
    by_test (bytes_eq k.channel n) (same_bytes k.channel n) (grows asset me on ks ls f u n)
  where
    by_test : (b : Bool) → (b ≡ true → k.channel ≡ n) → Grows asset me on n (outcome_by ks (was f u n) n) (outcome_by ls u n) (counts_in ks n) (counts_in ls n) →
        Grows asset me on n (outcome_by ks (was f u n) n) (cond b (one_of k.proposal u k.outcome) (outcome_by ls u n)) (counts_in ks n) (cond b true (counts_in ls n))
    by_test true is g =
        let out : counts_in ks n ≡ false = subst (λ (m : List ℕ). counts_in ks m ≡ false) (is refl) new in
        Grows-new asset me on n _ _ _ _ (absent ks (was f u n) n out) out
    by_test false is g = g
grows asset me on (a ∷ ks) (b ∷ ls) (stays k f) u n = by_test (bytes_eq k.channel n) (grows asset me on ks ls f u n)
  where
    by_test : (b : Bool) → Grows asset me on n (outcome_by ks (was f u n) n) (outcome_by ls u n) (counts_in ks n) (counts_in ls n) →
        Grows asset me on n (cond b (one_of k.proposal (cond b u (was f u n)) k.outcome) (outcome_by ks (cond b u (was f u n)) n))
        (cond b (one_of k.proposal u k.outcome) (outcome_by ls u n)) (cond b true (counts_in ks n)) (cond b true (counts_in ls n))
    by_test true g = Grows-same asset me on n _ true
    by_test false g = g
grows asset me on (a ∷ ks) (b ∷ ls) (settles k t p w f) u n =
    by_test (bytes_eq k.channel n) (same_bytes k.channel n) (grows asset me on ks ls f u n)
  where
    by_test : (b : Bool) → (b ≡ true → k.channel ≡ n) → Grows asset me on n (outcome_by ks (was f u n) n) (outcome_by ls u n) (counts_in ks n) (counts_in ls n) →
        Grows asset me on n (cond b (one_of k.proposal (cond b t (was f u n)) k.outcome) (outcome_by ks (cond b t (was f u n)) n))
        (cond b p (outcome_by ls u n)) (cond b true (counts_in ks n)) (cond b true (counts_in ls n))
    by_test true is g = Grows-final asset me on n _ _ (subst (λ (m : List ℕ). NoWorse asset me on m (one_of k.proposal t k.outcome) p) (is refl) w)
    by_test false is g = g

-- the choice before that belongs to the choice s after
abbrev pub former : {asset : ℕ} {me : List ℕ} {on : List (List ℕ)} {ks ls : List Counting} → Follows asset me on ks ls → List (List ℕ) → List (List ℕ)
former {ks = ks} f s = choose (λ n. was f (is_among n s) n) (varying ks) []

module _ (asset : ℕ) (me : List ℕ) (on : List (List ℕ)) (ks ls : List Counting) (f : Follows asset me on ks ls) (s : List (List ℕ)) where
  before : (n : List ℕ) → outcome_in ks (former f s) n ≡ outcome_by ks (was f (is_among n s) n) n
  before n = outcome_in-by ks (former f s) (was f (is_among n s) n) n (chosen-is (λ m. was f (is_among m s) m) (varying ks) n)

  after : (n : List ℕ) → outcome_in ls s n ≡ outcome_by ls (is_among n s) n
  after n = outcome_in-by ls s (is_among n s) n (λ e. refl)

  each : (n : List ℕ) → Grows asset me on n (outcome_in ks (former f s) n) (outcome_in ls s n) (counts_in ks n) (counts_in ls n)
  each n =
      subst (λ (o : List AssetOutcome). Grows asset me on n o (outcome_in ls s n) (counts_in ks n) (counts_in ls n)) (sym (before n))
      (subst (λ (p : List AssetOutcome). Grows asset me on n (outcome_by ks (was f (is_among n s) n) n) p (counts_in ks n) (counts_in ls n)) (sym (after n))
      (grows asset me on ks ls f (is_among n s) n))

  pub better : (held now : List ℕ → ℕ) → ((n : List ℕ) → held n ≤ now n) → Better me on (books_under held ks asset (former f s)) (books_under now ls asset s)
  better held now more = record {
    held = more;
    opens = λ n d. refl;
    own = λ n r. (each n).own r;
    bases = λ n h. (each n).bases h;
    counts = λ n. (each n).counts;
    lists = λ n. (each n).lists;
  }

pub Follows-same : (asset : ℕ) (me : List ℕ) (on : List (List ℕ)) (ks : List Counting) → Follows asset me on ks ks
Follows-same asset me on [] = ends
Follows-same asset me on (k ∷ ks) = stays k (Follows-same asset me on ks)
