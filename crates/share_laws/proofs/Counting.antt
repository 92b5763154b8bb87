-- The counting channels before and after a signature.
use Rattle.std.proofs.Common.{◌≡◌, ℕ, ◌≤◌, Bool, true, false, List, [], ◌∷◌, ◌++◌, length, Option, Some, None, refl, sym, ◌∙◌, ap, subst, arith, cond, inl, inr}
use Rattle.std.specs.List.{list_any}
use Rattle.std.specs.Str.{bytes_eq}
use Rattle.channel_values.specs.Parts.{FixedParts, StateParts}
use Rattle.channel_values.specs.Outcomes.{AreApart}
use Rattle.channel_values.specs.declared.chain.Signed.{Signed}
use Rattle.channel_values.specs.declared.value.AssetOutcome.{AssetOutcome}
use Rattle.channel_values.specs.Rules.{Rules}
use Rattle.call_history.specs.History.{mode, rest_of_channel}
use Rattle.call_history.specs.declared.entry.Entry.{Entry}
use Rattle.call_history.specs.Mode.{is_final}
use Rattle.channel_safety.specs.Held.{held}
use Rattle.channel_safety.specs.Journals.{In, Line}
use Rattle.share_laws.specs.Books.{Counting, counts_in}
use Rattle.share_laws.specs.Places.{proposed, listed, last_made, possible, possible_if, possible_after, is_held, counting_of, counting_among}
use Rattle.share_laws.specs.Signing.{Becomes, here, later, Starts, first, after, CanEnd}
use Rattle.share_laws.specs.Signatures.{signing}
use Rattle.share_laws.proofs.Choices.{differ-flip}
use Rattle.share_laws.proofs.Apart.{or-none}
use Rattle.share_laws.proofs.Lines.{possible-other}

abbrev pub proposal_of : List (List AssetOutcome) → Option (List AssetOutcome)
proposal_of [] = None
proposal_of (p ∷ ps) = Some p

abbrev pub counted : List ℕ → List AssetOutcome → List (List AssetOutcome) → Counting
counted channel o os = record { channel = channel; outcome = o; proposal = proposal_of os }

counting_of-some : (channel : List ℕ) (o : List AssetOutcome) (os : List (List AssetOutcome)) → counting_of channel (o ∷ os) ≡ counted channel o os ∷ []
counting_of-some channel o [] = refl
counting_of-some channel o (p ∷ ps) = refl

-- ---- outcomes with which a channel can end, by its list

pub can-in : (channel : List ℕ) (o : List AssetOutcome) (os : List (List AssetOutcome)) (p : List AssetOutcome) → CanEnd (counted channel o os) p → In p (o ∷ os)
can-in channel o os p (inl e) = inl e
can-in channel o [] p (inr e) = absurd (none-some e)
  where
    is_there : Option (List AssetOutcome) → Type 0
    is_there None = Unit {0}
    is_there (Some x) = ⊥

    none-some : None ≡ Some p → ⊥
    none-some e = subst is_there e tt
can-in channel o (q ∷ qs) p (inr e) = inr (inl (sym (ap (λ (x : Option (List AssetOutcome)). or_nothing x) e)))
  where
    or_nothing : Option (List AssetOutcome) → List AssetOutcome
    or_nothing None = []
    or_nothing (Some x) = x

-- at most two
abbrev pub Few : List (List AssetOutcome) → Type 0
Few os = length os ≤ 2

pub in-can : (channel : List ℕ) (o : List AssetOutcome) (os : List (List AssetOutcome)) (p : List AssetOutcome) → length (o ∷ os) ≤ 2 → In p (o ∷ os) → CanEnd (counted channel o os) p
in-can channel o os p few (inl e) = inl e
in-can channel o [] p few (inr i) = absurd i
in-can channel o (q ∷ qs) p few (inr (inl e)) = inr (ap (λ (x : List AssetOutcome). Some x) (sym e))
in-can channel o (q ∷ []) p few (inr (inr i)) = absurd i
in-can channel o (q ∷ s ∷ ss) p few (inr (inr i)) = absurd (grind (arith))

pub possible-few : (r : Rules) (past : List Entry) (front : List Line) (f : FixedParts) → length (possible r past front f) ≤ 2
possible-few r past front f = by_held (is_held r f (held r f past front)) (last_made (r.named f) front)
  where
    listed-few : (o : Option (List AssetOutcome)) → length (listed o) ≤ 1
    listed-few None = omega arith
    listed-few (Some o) = omega arith

    by_mode : (t : Bool) (s : Signed) → length (possible_if t (rest_of_channel r (r.named f) past) s.state) ≤ 2
    by_mode true s = let e = listed-few (rest_of_channel r (r.named f) past) in omega (arith, e)
    by_mode false s = let e = listed-few (proposed s.state.app_bytes) in grind (arith)

    by_held : (t : Bool) (last : Option Signed) →
        length (cond t (possible_after (is_final (mode r (r.named f) past)) (rest_of_channel r (r.named f) past) last) []) ≤ 2
    by_held false last = omega arith
    by_held true None = omega arith
    by_held true (Some s) = by_mode (is_final (mode r (r.named f) past)) s

-- ---- the lists

-- of other channels nothing changes
becomes-more : (was now : Counting) (n : List ℕ) → bytes_eq n was.channel ≡ false → (os : List (List AssetOutcome)) (ks ls : List Counting) →
    Becomes was now ks ls → Becomes was now (counting_of n os ++ ks) (counting_of n os ++ ls)
becomes-more was now n ne [] ks ls b = b
becomes-more was now n ne (o ∷ []) ks ls b = later _ ne b
becomes-more was now n ne (o ∷ p ∷ ps) ks ls b = later _ ne b

starts-more : (now : Counting) (n : List ℕ) → bytes_eq n now.channel ≡ false → (os : List (List AssetOutcome)) (ks ls : List Counting) →
    Starts now ks ls → Starts now (counting_of n os ++ ks) (counting_of n os ++ ls)
starts-more now n ne [] ks ls b = b
starts-more now n ne (o ∷ []) ks ls b = after _ ne b
starts-more now n ne (o ∷ p ∷ ps) ks ls b = after _ ne b

counts-more : (c n : List ℕ) → bytes_eq n c ≡ false → (os : List (List AssetOutcome)) (ks : List Counting) → counts_in (counting_of n os ++ ks) c ≡ counts_in ks c
counts-more c n ne [] ks = refl
counts-more c n ne (o ∷ []) ks = ap (λ (t : Bool). cond t true (counts_in ks c)) ne
counts-more c n ne (o ∷ p ∷ ps) ks = ap (λ (t : Bool). cond t true (counts_in ks c)) ne

-- none of these channels has the name
abbrev pub NoneNamed : Rules → List ℕ → List FixedParts → Type 0
NoneNamed r c fs = list_any (λ h. bytes_eq c (r.named h)) fs ≡ false

pub named-in : (r : Rules) (c : List ℕ) (f : FixedParts) (fs : List FixedParts) → NoneNamed r c fs → In f fs → bytes_eq c (r.named f) ≡ false
named-in r c f [] h i = absurd i
named-in r c f (g ∷ gs) h (inl e) = subst (λ (z : FixedParts). bytes_eq c (r.named z) ≡ false) (sym e) (or-none (bytes_eq c (r.named g)) _ h).0
named-in r c f (g ∷ gs) h (inr i) = named-in r c f gs (or-none (bytes_eq c (r.named g)) _ h).1 i

module _ (r : Rules) (past : List Entry) (f : FixedParts) (state : StateParts) (signature : List ℕ) (adds : List FixedParts) (front : List Line) where
  abbrev x : Line
  x = signing r past f state signature adds

  others-same : (gs : List FixedParts) → NoneNamed r (r.named f) gs → counting_among r past (x ∷ front) gs ≡ counting_among r past front gs
  others-same [] h = refl
  others-same (g ∷ gs) h =
      let o : (bytes_eq (r.named f) (r.named g) ≡ false) × NoneNamed r (r.named f) gs = or-none _ _ h in
      ap (λ (os : List (List AssetOutcome)). counting_of (r.named g) os ++ counting_among r past (x ∷ front) gs)
      (possible-other r past f state signature adds g front o.0)
      ∙ ap (λ (ks : List Counting). counting_of (r.named g) (possible r past front g) ++ ks) (others-same gs o.1)

  not-counted : (gs : List FixedParts) → NoneNamed r (r.named f) gs → counts_in (counting_among r past front gs) (r.named f) ≡ false
  not-counted [] h = refl
  not-counted (g ∷ gs) h =
      let o : (bytes_eq (r.named f) (r.named g) ≡ false) × NoneNamed r (r.named f) gs = or-none _ _ h in
      counts-more (r.named f) (r.named g) (differ-flip (r.named f) (r.named g) o.0) (possible r past front g) (counting_among r past front gs) ∙ not-counted gs o.1

  -- a channel that counts goes on to count
  pub becomes : (o : List AssetOutcome) (os : List (List AssetOutcome)) (p : List AssetOutcome) (ps : List (List AssetOutcome)) →
      possible r past front f ≡ o ∷ os → possible r past (x ∷ front) f ≡ p ∷ ps →
      (fs : List FixedParts) → In f fs → AreApart (λ g h. bytes_eq (r.named g) (r.named h)) fs →
      Becomes (counted (r.named f) o os) (counted (r.named f) p ps) (counting_among r past front fs) (counting_among r past (x ∷ front) fs)
  becomes o os p ps old new [] i a = absurd i
  becomes o os p ps old new (g ∷ gs) (inl e) a =
      subst (λ (z : FixedParts). Becomes (counted (r.named f) o os) (counted (r.named f) p ps)
      (counting_of (r.named z) (possible r past front z) ++ counting_among r past front gs)
      (counting_of (r.named z) (possible r past (x ∷ front) z) ++ counting_among r past (x ∷ front) gs)) e
      (subst (λ (ys : List Counting). Becomes (counted (r.named f) o os) (counted (r.named f) p ps) (ys ++ counting_among r past front gs)
      (counting_of (r.named f) (possible r past (x ∷ front) f) ++ counting_among r past (x ∷ front) gs))
      (sym (ap (λ (zs : List (List AssetOutcome)). counting_of (r.named f) zs) old ∙ counting_of-some (r.named f) o os))
      (subst (λ (ys : List Counting). Becomes (counted (r.named f) o os) (counted (r.named f) p ps) (counted (r.named f) o os ∷ counting_among r past front gs)
      (ys ++ counting_among r past (x ∷ front) gs))
      (sym (ap (λ (zs : List (List AssetOutcome)). counting_of (r.named f) zs) new ∙ counting_of-some (r.named f) p ps))
      (subst (λ (ks : List Counting). Becomes (counted (r.named f) o os) (counted (r.named f) p ps) (counted (r.named f) o os ∷ counting_among r past front gs)
      (counted (r.named f) p ps ∷ ks)) (sym (others-same gs (subst (λ (z : FixedParts). NoneNamed r (r.named z) gs) (sym e) a.0))) here)))
  becomes o os p ps old new (g ∷ gs) (inr i) a =
      let ne : bytes_eq (r.named g) (r.named f) ≡ false = named-in r (r.named g) f gs a.0 i in
      subst (λ (zs : List (List AssetOutcome)). Becomes (counted (r.named f) o os) (counted (r.named f) p ps)
      (counting_of (r.named g) (possible r past front g) ++ counting_among r past front gs) (counting_of (r.named g) zs ++ counting_among r past (x ∷ front) gs))
      (sym (possible-other r past f state signature adds g front (differ-flip (r.named g) (r.named f) ne)))
      (becomes-more (counted (r.named f) o os) (counted (r.named f) p ps) (r.named g) ne (possible r past front g) _ _ (becomes o os p ps old new gs i a.1))

  -- one that didn't starts to
  pub starts : (p : List AssetOutcome) (ps : List (List AssetOutcome)) → possible r past front f ≡ [] → possible r past (x ∷ front) f ≡ p ∷ ps →
      (fs : List FixedParts) → In f fs → AreApart (λ g h. bytes_eq (r.named g) (r.named h)) fs →
      Starts (counted (r.named f) p ps) (counting_among r past front fs) (counting_among r past (x ∷ front) fs)
      × (counts_in (counting_among r past front fs) (r.named f) ≡ false)
  starts p ps old new [] i a = absurd i
  starts p ps old new (g ∷ gs) (inl e) a =
      let none : NoneNamed r (r.named f) gs = subst (λ (z : FixedParts). NoneNamed r (r.named z) gs) (sym e) a.0 in
      subst (λ (z : FixedParts). Starts (counted (r.named f) p ps)
      (counting_of (r.named z) (possible r past front z) ++ counting_among r past front gs)
      (counting_of (r.named z) (possible r past (x ∷ front) z) ++ counting_among r past (x ∷ front) gs)
      × (counts_in (counting_of (r.named z) (possible r past front z) ++ counting_among r past front gs) (r.named f) ≡ false)) e
      (subst (λ (zs : List (List AssetOutcome)). Starts (counted (r.named f) p ps) (counting_of (r.named f) zs ++ counting_among r past front gs)
      (counting_of (r.named f) (possible r past (x ∷ front) f) ++ counting_among r past (x ∷ front) gs)
      × (counts_in (counting_of (r.named f) zs ++ counting_among r past front gs) (r.named f) ≡ false)) (sym old) (
        subst (λ (ys : List Counting). Starts (counted (r.named f) p ps) (counting_among r past front gs) (ys ++ counting_among r past (x ∷ front) gs))
            (sym (ap (λ (zs : List (List AssetOutcome)). counting_of (r.named f) zs) new ∙ counting_of-some (r.named f) p ps))
            (subst (λ (ks : List Counting). Starts (counted (r.named f) p ps) (counting_among r past front gs) (counted (r.named f) p ps ∷ ks)) (sym (others-same gs none)) first),
        not-counted gs none,
      ))
  starts p ps old new (g ∷ gs) (inr i) a =
      let ne : bytes_eq (r.named g) (r.named f) ≡ false = named-in r (r.named g) f gs a.0 i in
      let rest : Starts (counted (r.named f) p ps) (counting_among r past front gs) (counting_among r past (x ∷ front) gs)
      × (counts_in (counting_among r past front gs) (r.named f) ≡ false) = starts p ps old new gs i a.1 in (
        subst (λ (zs : List (List AssetOutcome)). Starts (counted (r.named f) p ps)
            (counting_of (r.named g) (possible r past front g) ++ counting_among r past front gs) (counting_of (r.named g) zs ++ counting_among r past (x ∷ front) gs))
            (sym (possible-other r past f state signature adds g front (differ-flip (r.named g) (r.named f) ne)))
            (starts-more (counted (r.named f) p ps) (r.named g) ne (possible r past front g) _ _ rest.0),
        counts-more (r.named f) (r.named g) ne (possible r past front g) (counting_among r past front gs) ∙ rest.1,
      )

  -- and one that doesn't count either way changes nothing
  pub neither : possible r past front f ≡ [] → possible r past (x ∷ front) f ≡ [] →
      (fs : List FixedParts) → In f fs → AreApart (λ g h. bytes_eq (r.named g) (r.named h)) fs →
      counting_among r past (x ∷ front) fs ≡ counting_among r past front fs
  neither old new [] i a = absurd i
  neither old new (g ∷ gs) (inl e) a =
      ap (λ (ks : List Counting). counting_of (r.named g) (possible r past (x ∷ front) g) ++ ks)
      (others-same gs (subst (λ (z : FixedParts). NoneNamed r (r.named z) gs) (sym e) a.0))
      ∙ ap (λ (zs : List (List AssetOutcome)). counting_of (r.named g) zs ++ counting_among r past front gs)
      (subst (λ (z : FixedParts). possible r past (x ∷ front) z ≡ []) e new ∙ sym (subst (λ (z : FixedParts). possible r past front z ≡ []) e old))
  neither old new (g ∷ gs) (inr i) a =
      let ne : bytes_eq (r.named g) (r.named f) ≡ false = named-in r (r.named g) f gs a.0 i in
      ap (λ (zs : List (List AssetOutcome)). counting_of (r.named g) zs ++ counting_among r past (x ∷ front) gs)
      (possible-other r past f state signature adds g front (differ-flip (r.named g) (r.named f) ne))
      ∙ ap (λ (ks : List Counting). counting_of (r.named g) (possible r past front g) ++ ks) (neither old new gs i a.1)
