-- From what each channel can end with to the list of the channels that count.
use Rattle.std.proofs.Common.{◌≡◌, ℕ, ◌≤◌, Bool, true, false, ◌||◌, List, [], ◌∷◌, ◌++◌, length, refl, sym, ◌∙◌, ap, subst, arith, cond, inl, inr}
use Rattle.std.specs.Str.{bytes_eq}
use Rattle.channel_values.specs.Parts.{FixedParts}
use Rattle.channel_values.specs.declared.value.AssetOutcome.{AssetOutcome}
use Rattle.channel_values.specs.Rules.{Rules}
use Rattle.call_history.specs.Flows.{is_among}
use Rattle.call_history.specs.declared.entry.Entry.{Entry}
use Rattle.channel_safety.specs.Journals.{In, Line}
use Rattle.share_laws.specs.Books.{Counting, counts_in}
use Rattle.share_laws.specs.Places.{possible, counting_of, counting_among}
use Rattle.channel_values.specs.Outcomes.{AreApart}
use Rattle.share_laws.specs.Bases.{NoWorse}
use Rattle.support_rules.specs.May.{OneOf}
use Rattle.share_laws.specs.Turns.{Turns, names}
use Rattle.share_laws.proofs.Apart.{or-none}
use Rattle.share_laws.proofs.Choices.{differ-flip}
use Rattle.share_laws.proofs.Follow.{Follows, ends, starts, stays, settles}

module _ (r : Rules) (past : List Entry) (front : List Line) where
  -- a name that isn't listed doesn't count
  not-in : (fs : List FixedParts) (n : List ℕ) → is_among n (names r fs) ≡ false → counts_in (counting_among r past front fs) n ≡ false
  not-in [] n h = refl
  not-in (f ∷ fs) n h =
      let both = or-none (bytes_eq n (r.named f)) (is_among n (names r fs)) h in
      by_may (possible r past front f) (differ-flip n (r.named f) both.0) (not-in fs n both.1)
    where
      by_may : (os : List (List AssetOutcome)) → bytes_eq (r.named f) n ≡ false → counts_in (counting_among r past front fs) n ≡ false →
          counts_in (counting_of (r.named f) os ++ counting_among r past front fs) n ≡ false
      by_may [] e k = k
      by_may (o ∷ []) e k = ap (λ (t : Bool). cond t true (counts_in (counting_among r past front fs) n)) e ∙ k
      by_may (o ∷ p ∷ ps) e k = ap (λ (t : Bool). cond t true (counts_in (counting_among r past front fs) n)) e ∙ k

module _ (asset : ℕ) (me : List ℕ) (on : List (List ℕ)) where
  -- one channel more
  one : (c : List ℕ) (before now : List (List AssetOutcome)) → Turns asset me on c before now → (ks ls : List Counting) → counts_in ks c ≡ false →
      Follows asset me on ks ls → Follows asset me on (counting_of c before ++ ks) (counting_of c now ++ ls)
  one c before now (inl e) ks ls new f = subst (λ (os : List (List AssetOutcome)). Follows asset me on (counting_of c os ++ ks) (counting_of c now ++ ls)) (sym e) (begins now)
    where
      begins : (os : List (List AssetOutcome)) → Follows asset me on ks (counting_of c os ++ ls)
      begins [] = f
      begins (o ∷ []) = starts _ new f
      begins (o ∷ p ∷ ps) = starts _ new f
  one c before now (inr (inl e)) ks ls new f = subst (λ (os : List (List AssetOutcome)). Follows asset me on (counting_of c before ++ ks) (counting_of c os ++ ls)) (sym e) (stay before)
    where
      stay : (os : List (List AssetOutcome)) → Follows asset me on (counting_of c os ++ ks) (counting_of c os ++ ls)
      stay [] = f
      stay (o ∷ []) = stays _ f
      stay (o ∷ p ∷ ps) = stays _ f
  one c before now (inr (inr e)) ks ls new f =
      subst (λ (os : List (List AssetOutcome)). Follows asset me on (counting_of c before ++ ks) (counting_of c os ++ ls)) (sym e.1) (final before e.2 e.3)
    where
      final : (os : List (List AssetOutcome)) → OneOf (λ o. NoWorse asset me on c o e.0) os → length os ≤ 2 →
          Follows asset me on (counting_of c os ++ ks) (counting_of c (e.0 ∷ []) ++ ls)
      final [] h few = absurd h
      final (o ∷ []) (inl h) few = settles _ false e.0 h f
      final (o ∷ []) (inr h) few = absurd h
      final (o ∷ p ∷ ps) (inl h) few = settles _ false e.0 h f
      final (o ∷ p ∷ ps) (inr (inl h)) few = settles _ true e.0 h f
      final (o ∷ p ∷ []) (inr (inr h)) few = absurd h
      final (o ∷ p ∷ q ∷ ps) (inr (inr h)) few = absurd (omega arith)

  pub follows : (r : Rules) (past now : List Entry) (front newer : List Line) →
      (fs gs : List FixedParts) → ((f : FixedParts) → In f fs → Turns asset me on (r.named f) (possible r past front f) (possible r now newer f)) →
      AreApart bytes_eq (names r (fs ++ gs)) → Follows asset me on (counting_among r past front fs) (counting_among r now newer (fs ++ gs))
  follows r past now front newer [] [] h d = ends
  follows r past now front newer [] (g ∷ gs) h d = begins (possible r now newer g) (follows r past now front newer [] gs (λ f i. absurd i) d.1)
    where
      begins : (os : List (List AssetOutcome)) → Follows asset me on [] (counting_among r now newer gs) → Follows asset me on [] (counting_of (r.named g) os ++ counting_among r now newer gs)
      begins [] f = f
      begins (o ∷ []) f = starts _ refl f
      begins (o ∷ p ∷ ps) f = starts _ refl f
  follows r past now front newer (f ∷ fs) gs h d =
      one (r.named f) (possible r past front f) (possible r now newer f) (h f (inl refl)) (counting_among r past front fs) (counting_among r now newer (fs ++ gs))
      (not-in r past front fs (r.named f) (left fs d.0)) (follows r past now front newer fs gs (λ x i. h x (inr i)) d.1)
    where
      left : (xs : List FixedParts) → is_among (r.named f) (names r (xs ++ gs)) ≡ false → is_among (r.named f) (names r xs) ≡ false
      left [] e = refl
      left (x ∷ xs) e =
          let both = or-none (bytes_eq (r.named f) (r.named x)) (is_among (r.named f) (names r (xs ++ gs))) e in
          ap (λ (t : Bool). t || is_among (r.named f) (names r xs)) both.0 ∙ left xs both.1
