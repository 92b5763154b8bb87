-- The laws at a place.
use Rattle.std.proofs.Common.{◌≡◌, ℕ, ◌+◌, ◌≤◌, false, List, [], ◌∷◌, ◌++◌, length, refl, sym, ◌∙◌, ap, subst, arith, inl, inr, ◌⊎◌}
use Rattle.std.proofs.lemmas.List.{append-nil}
use Rattle.channel_values.specs.Parts.{FixedParts, StateParts}
use Rattle.channel_values.specs.declared.value.AssetOutcome.{AssetOutcome}
use Rattle.channel_values.specs.Rules.{Rules}
use Rattle.call_history.specs.Flows.{is_among}
use Rattle.call_history.specs.History.{paid_to}
use Rattle.call_history.specs.declared.entry.Entry.{Entry}
use Rattle.channel_safety.specs.Journals.{In, Line}
use Rattle.funding_plans.specs.declared.plan.Part.{Part}
use Rattle.share_laws.specs.Books.{Counting}
use Rattle.share_laws.specs.Share.{share_of}
use Rattle.share_laws.specs.Places.{Order, plan, channels, possible, counting, counting_among, balances, share, Funded}
use Rattle.share_laws.specs.Plans.{IsPlan}
use Rattle.share_laws.specs.Bases.{all_bases}
use Rattle.share_laws.specs.Signing.{ComesFairly, ComesByPaying}
use Rattle.share_laws.specs.Signatures.{signing, IsOwn, IsFairAt, IsPaidAt, SignaturesKeepShares, PaymentsLowerSharesBy}
use Rattle.share_laws.proofs.Counting.{counted, can-in, in-can, possible-few, becomes, starts, neither}
use Rattle.share_laws.proofs.Becoming.{signings_keep, payments_lower_shares}
use Rattle.share_laws.proofs.Starting.{starts_keep}

module _ (r : Rules) (me : List ℕ) (orders : ℕ → Order) (past : List Entry) (front : List Line)
    (f : FixedParts) (state : StateParts) (signature : List ℕ) (adds : List FixedParts) (own : IsOwn r front f) (asset : ℕ) where
  abbrev pub x : Line
  x = signing r past f state signature adds

  -- the share after, over the same plan
  share-after : share r me orders past (x ∷ front) asset
      ≡ share_of me (paid_to past me asset) (plan orders front) (balances past asset) (counting_among r past (x ∷ front) (channels front)) asset
  share-after =
      ap (λ (ps : List Part). share_of me (paid_to past me asset) ps (balances past asset) (counting_among r past (x ∷ front) (channels front ++ [])) asset) (append-nil (plan orders front))
      ∙ ap (λ (fs : List FixedParts). share_of me (paid_to past me asset) (plan orders front) (balances past asset) (counting_among r past (x ∷ front) fs) asset) (append-nil (channels front))

  pub same-share : possible r past front f ≡ [] → possible r past (x ∷ front) f ≡ [] → share r me orders past front asset ≡ share r me orders past (x ∷ front) asset
  same-share old new =
      ap (λ (ks : List Counting). share_of me (paid_to past me asset) (plan orders front) (balances past asset) ks asset)
      (sym (neither r past f state signature adds front old new (channels front) own.there own.apart))
      ∙ sym share-after

  pub started : IsPlan (plan orders front) → (p : List AssetOutcome) (ps : List (List AssetOutcome)) → possible r past front f ≡ [] →
      possible r past (x ∷ front) f ≡ p ∷ ps → share r me orders past front asset ≤ share r me orders past (x ∷ front) asset
  started ok p ps old new =
      let s = starts r past f state signature adds front p ps old new (channels front) own.there own.apart in
      let le : share r me orders past front asset
      ≤ share_of me (paid_to past me asset) (plan orders front) (balances past asset) (counting_among r past (x ∷ front) (channels front)) asset =
      starts_keep me (plan orders front) (balances past asset) asset (paid_to past me asset) (counting r past front) (counting_among r past (x ∷ front) (channels front))
      (counted (r.named f) p ps) s.0 s.1 in
      subst (λ (z : ℕ). share r me orders past front asset ≤ z) (sym share-after) le

  kept : IsPlan (plan orders front) → Funded r me orders past front →
      ((o : List AssetOutcome) → In o (possible r past (x ∷ front) f) → (possible r past front f ≡ []) ⊎ IsFairAt r me orders past front f asset o) →
      (o : List AssetOutcome) (os : List (List AssetOutcome)) (p : List AssetOutcome) (ps : List (List AssetOutcome)) →
      possible r past front f ≡ o ∷ os → possible r past (x ∷ front) f ≡ p ∷ ps → share r me orders past front asset ≤ share r me orders past (x ∷ front) asset
  kept ok funded fair o os p ps old new =
      subst (λ (z : ℕ). share r me orders past front asset ≤ z) (sym share-after)
      (signings_keep me (plan orders front) ok (balances past asset) asset (paid_to past me asset) (counting r past front) (counting_among r past (x ∷ front) (channels front))
      (counted (r.named f) o os) (counted (r.named f) p ps) refl (becomes r past f state signature adds front o os p ps old new (channels front) own.there own.apart)
      (funded asset) (λ q can. comes q (fair q (subst (λ (zs : List (List AssetOutcome)). In q zs) (sym new) (can-in (r.named f) p ps q can)))))
    where
      filled : possible r past front f ≡ [] → ⊥
      filled e = empty-not (sym e ∙ old)
        where
          is_empty : List (List AssetOutcome) → Type 0
          is_empty [] = Unit {0}
          is_empty (y ∷ ys) = ⊥

          empty-not : [] ≡ o ∷ os → ⊥
          empty-not h = subst is_empty h tt

      comes : (q : List AssetOutcome) → (possible r past front f ≡ []) ⊎ IsFairAt r me orders past front f asset q →
          ComesFairly me (plan orders front) (balances past asset) (counting r past front) (counted (r.named f) o os) asset q
      comes q (inl e) = absurd (filled e)
      comes q (inr k) = record {
        from = k.from;
        could = in-can (r.named f) o os k.from (subst (λ (zs : List (List AssetOutcome)). length zs ≤ 2) old (possible-few r past front f))
            (subst (λ (zs : List (List AssetOutcome)). In k.from zs) old k.could);
        list = k.list;
        fair = k.fair;
      }

  paid : IsPlan (plan orders front) → is_among (r.named f) (all_bases (plan orders front)) ≡ false → (k : ℕ) →
      ((o : List AssetOutcome) → In o (possible r past (x ∷ front) f) → (possible r past front f ≡ []) ⊎ IsPaidAt r me past front f asset k o) →
      (o : List AssetOutcome) (os : List (List AssetOutcome)) (p : List AssetOutcome) (ps : List (List AssetOutcome)) →
      possible r past front f ≡ o ∷ os → possible r past (x ∷ front) f ≡ p ∷ ps → share r me orders past front asset ≤ share r me orders past (x ∷ front) asset + k
  paid ok out k pays o os p ps old new =
      subst (λ (z : ℕ). share r me orders past front asset ≤ z + k) (sym share-after)
      (payments_lower_shares me (plan orders front) ok (balances past asset) asset (paid_to past me asset) (counting r past front) (counting_among r past (x ∷ front) (channels front))
      (counted (r.named f) o os) (counted (r.named f) p ps) refl (becomes r past f state signature adds front o os p ps old new (channels front) own.there own.apart)
      out k (λ q can. comes q (pays q (subst (λ (zs : List (List AssetOutcome)). In q zs) (sym new) (can-in (r.named f) p ps q can)))))
    where
      filled : possible r past front f ≡ [] → ⊥
      filled e = empty-not (sym e ∙ old)
        where
          is_empty : List (List AssetOutcome) → Type 0
          is_empty [] = Unit {0}
          is_empty (y ∷ ys) = ⊥

          empty-not : [] ≡ o ∷ os → ⊥
          empty-not h = subst is_empty h tt

      comes : (q : List AssetOutcome) → (possible r past front f ≡ []) ⊎ IsPaidAt r me past front f asset k q → ComesByPaying me k (counted (r.named f) o os) asset q
      comes q (inl e) = absurd (filled e)
      comes q (inr w) = record {
        from = w.from;
        could = in-can (r.named f) o os w.from (subst (λ (zs : List (List AssetOutcome)). length zs ≤ 2) old (possible-few r past front f))
            (subst (λ (zs : List (List AssetOutcome)). In w.from zs) old w.could);
        list = w.list;
        affords = w.affords;
      }

pub signatures_keep : SignaturesKeepShares
signatures_keep r me orders past front f state signature adds own ok funded stays fair asset =
    by_lists (possible r past front f) (possible r past (signing r past f state signature adds ∷ front) f) refl refl
  where
    by_lists : (os ps : List (List AssetOutcome)) → possible r past front f ≡ os → possible r past (signing r past f state signature adds ∷ front) f ≡ ps →
        share r me orders past front asset ≤ share r me orders past (signing r past f state signature adds ∷ front) asset
    by_lists [] [] old new = let e = same-share r me orders past front f state signature adds own asset old new in omega (arith, e)
    by_lists [] (p ∷ ps) old new = started r me orders past front f state signature adds own asset ok p ps old new
    by_lists (o ∷ os) [] old new = let e = same-share r me orders past front f state signature adds own asset (stays new) new in omega (arith, e)
    by_lists (o ∷ os) (p ∷ ps) old new = kept r me orders past front f state signature adds own asset ok funded (λ q i. at_asset (fair q i)) o os p ps old new
      where
        at_asset : {q : List AssetOutcome} → (possible r past front f ≡ []) ⊎ ((a : ℕ) → IsFairAt r me orders past front f a q) →
            (possible r past front f ≡ []) ⊎ IsFairAt r me orders past front f asset q
        at_asset (inl e) = inl e
        at_asset (inr k) = inr (k asset)

pub payments_lower_by : PaymentsLowerSharesBy
payments_lower_by r me orders past front f state signature adds own ok out stays asset k pays =
    by_lists (possible r past front f) (possible r past (signing r past f state signature adds ∷ front) f) refl refl
  where
    by_lists : (os ps : List (List AssetOutcome)) → possible r past front f ≡ os → possible r past (signing r past f state signature adds ∷ front) f ≡ ps →
        share r me orders past front asset ≤ share r me orders past (signing r past f state signature adds ∷ front) asset + k
    by_lists [] [] old new = let e = same-share r me orders past front f state signature adds own asset old new in omega (arith, e)
    by_lists [] (p ∷ ps) old new = let e = started r me orders past front f state signature adds own asset ok p ps old new in omega (arith, e)
    by_lists (o ∷ os) [] old new = let e = same-share r me orders past front f state signature adds own asset (stays new) new in omega (arith, e)
    by_lists (o ∷ os) (p ∷ ps) old new = paid r me orders past front f state signature adds own asset ok out k pays o os p ps old new
