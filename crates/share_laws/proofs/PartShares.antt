-- Each part of a sound plan keeps its worth where a payment is what its guarantor's list allows.
use Rattle.std.proofs.Common.{◌≡◌, ℕ, zero, suc, ◌+◌, ◌-◌, ◌≤◌, Bool, true, false, cond, ◌||◌, List, [], ◌∷◌, refl, sym, ◌∙◌, ap, subst, arith, inl, inr, ◌⊎◌}
use Rattle.std.specs.Prelude.{slice_get, Some}
use Rattle.std.specs.List.{AllByRecursion}
use Rattle.std.specs.Str.{bytes_eq}
use Rattle.channel_values.specs.Outcomes.{is_same, AreApart}
use Rattle.channel_values.specs.declared.value.Dest.{Dest}
use Rattle.channel_values.specs.declared.value.Dest.TheVariants.{Person, Channel}
use Rattle.channel_values.specs.declared.value.Item.{Item}
use Rattle.channel_values.specs.Amounts.{amt, before}
use Rattle.call_history.specs.Dues.{dest_in}
use Rattle.call_history.specs.Flows.{is_among}
use Rattle.call_history.proofs.Names.{same_bytes, bytes_eq_self}
use Rattle.funding_plans.specs.declared.plan.Part.{Part}
use Rattle.funding_plans.specs.declared.plan.Part.TheVariants.{Root, OnLedger, End, Middle}
use Rattle.funding_plans.specs.declared.plan.Virtual.{Virtual}
use Rattle.share_laws.specs.Books.{Books, Counting}
use Rattle.share_laws.specs.Worth.{Table, worth, no_reach}
use Rattle.funding_plans.specs.Parts.{own_ledger, own_guarantor}
use Rattle.share_laws.specs.Moved.{gain, lost, Moved, all_payers}
use Rattle.share_laws.specs.Sound.{Guarantees, IsGuaranteed, IsApart, IsSound}
use Rattle.share_laws.proofs.Items.{is_same_self}
use Rattle.share_laws.proofs.Kept.{Kept, Root-kept, OnLedger-kept, AllKept, paid-worth}
use Rattle.share_laws.proofs.EndKept.{EndFacts, EndFacts-other, EndFacts-none, EndFacts-own, End-kept}
use Rattle.share_laws.proofs.MiddleKept.{second_gain, MiddlePays, other, empty, from_a, from_b, Middle-kept}
use Rattle.channel_safety.proofs.Tests.{some-eq}
use Rattle.share_laws.proofs.Apart.{apart-rest}

-- How k is paid from f to `to` where f guarantees the joint channel with this list. Nothing is paid, or f doesn't
-- count, or the joint channel doesn't. Or a claim pays the destination at a position of the list, after those before
-- it.
pub data PaysBy (b c : Books) (f s : List ℕ) (to : Dest) (k : ℕ) (joint : List ℕ) (list : List Dest) : Type 0 where
  still : k ≡ 0 → PaysBy b c f s to k joint list
  silent : b.counts f ≡ false → PaysBy b c f s to k joint list
  bare : b.items joint ≡ [] → PaysBy b c f s to k joint list
  listed : (position : ℕ) → s ≡ joint → b.list f ≡ list → slice_get list position ≡ Some to →
      ((d : Dest) → amt (c.items joint) d + gain to d k ≤ amt (b.items joint) d) →
      k ≤ b.held f - before (λ i. amt (b.items joint) (dest_in list i)) position → PaysBy b c f s to k joint list

module _ (b c : Books) (f s : List ℕ) (to : Dest) (k : ℕ) (me : List ℕ) (m : Moved b c f s to k) where
  lost-still : (n : List ℕ) → k ≡ 0 → lost f n k ≡ 0
  lost-still n e = go (bytes_eq f n)
    where
      go : (t : Bool) → cond t k 0 ≡ 0
      go true = e
      go false = refl

  lost-other : (n : List ℕ) → bytes_eq f n ≡ false → lost f n k ≡ 0
  lost-other n e = ap (λ (t : Bool). cond t k 0) e

  abbrev Below : List Item → ℕ → List ℕ → Type 0
  Below items held x =
      (is_same to (Channel x) ≡ true)
      ⊎ ((is_same to (Channel x) ≡ false) × (is_same to (Person me) ≡ true) × (k ≤ held - amt items (Channel x)))
      ⊎ ((is_same to (Channel x) ≡ false) × (is_same to (Person me) ≡ false) × (k ≤ held - (amt items (Channel x) + amt items (Person me))))

  by_third : (items : List Item) (held : ℕ) (x : List ℕ) → k ≤ held - (amt items (Channel x) + amt items (Person me)) → Below items held x
  by_third items held x h = go (is_same to (Channel x)) refl (is_same to (Person me)) refl
    where
      go : (t : Bool) → is_same to (Channel x) ≡ t → (u : Bool) → is_same to (Person me) ≡ u → Below items held x
      go true e u g = inl e
      go false e true g = inr (inl (e, g, omega arith))
      go false e false g = inr (inr (e, g, h))

  by_position : (items : List Item) (held : ℕ) (x : List ℕ) (third : Dest) (position : ℕ) →
      slice_get (Channel x ∷ Person me ∷ third ∷ []) position ≡ Some to →
      k ≤ held - before (λ i. amt items (dest_in (Channel x ∷ Person me ∷ third ∷ []) i)) position → Below items held x
  by_position items held x third zero e h = inl (subst (λ (d : Dest). is_same d (Channel x) ≡ true) (some-eq (Channel x) to e) (bytes_eq_self x))
  by_position items held x third (suc zero) e h =
      let is : Person me ≡ to = some-eq (Person me) to e in
      inr (inl (ap (λ (d : Dest). is_same d (Channel x)) (sym is), ap (λ (d : Dest). is_same d (Person me)) (sym is) ∙ bytes_eq_self me, omega arith))
  by_position items held x third (suc (suc zero)) e h = by_third items held x (omega arith)
  by_position items held x third (suc (suc (suc n))) e h = cc

  end_facts : (v : Virtual) (third : Dest) → bytes_eq v.joint (own_ledger v) ≡ false →
      (f ≡ own_guarantor v → PaysBy b c f s to k v.joint (Channel v.channel ∷ Person me ∷ third ∷ [])) →
      (reach after : Table) → Kept b c s to k reach after → EndFacts b c f s to k me m v reach after
  end_facts v third apart pays reach after kept = go (bytes_eq f (own_guarantor v)) refl
    where
      own : f ≡ own_guarantor v → PaysBy b c f s to k v.joint (Channel v.channel ∷ Person me ∷ third ∷ []) → EndFacts b c f s to k me m v reach after
      own is (still e) = EndFacts-other b c f s to k me m v (inl (lost-still (own_guarantor v) e)) reach after kept
      own is (silent e) = EndFacts-other b c f s to k me m v (inr (subst (λ (n : List ℕ). b.counts n ≡ false) is e)) reach after kept
      own is (bare e) = EndFacts-none b c f s to k me m v e reach after kept
      own is (listed position target list there exact due) =
          EndFacts-own b c f s to k me m v is apart
          (record {
            target = target;
            exact = exact;
            below = subst (λ (n : List ℕ). Below (b.items v.joint) (b.held n) v.channel) is (by_position (b.items v.joint) (b.held f) v.channel third position there due);
          }) reach after kept

      go : (t : Bool) → bytes_eq f (own_guarantor v) ≡ t → EndFacts b c f s to k me m v reach after
      go true e = let is : f ≡ own_guarantor v = same_bytes f (own_guarantor v) e in own is (pays is)
      go false e = EndFacts-other b c f s to k me m v (inl (lost-other (own_guarantor v) e)) reach after kept

  gain-all : (d : Dest) → d ≡ to → gain to d k ≡ k
  gain-all d e = ap (λ (x : Dest). cond (is_same to x) k 0) e ∙ ap (λ (t : Bool). cond t k 0) (is_same_self to)

  all_listed : (x : List ℕ) (second : Dest) (position : ℕ) → slice_get (Channel x ∷ second ∷ Person me ∷ []) position ≡ Some to →
      k ≤ gain to (Channel x) k + second_gain to (Channel x ∷ second ∷ Person me ∷ []) k + gain to (Person me) k
  all_listed x second zero e = let g = gain-all (Channel x) (some-eq (Channel x) to e) in omega (arith, g)
  all_listed x second (suc zero) e = let g = gain-all second (some-eq second to e) in omega (arith, g)
  all_listed x second (suc (suc zero)) e = let g = gain-all (Person me) (some-eq (Person me) to e) in omega (arith, g)
  all_listed x second (suc (suc (suc n))) e = cc

  middle_pays : (v : Virtual) (second third : Dest) → bytes_eq v.guarantor_a v.guarantor_b ≡ false →
      (f ≡ v.guarantor_a → PaysBy b c f s to k v.joint (Channel v.channel ∷ second ∷ Person me ∷ [])) →
      (f ≡ v.guarantor_b → PaysBy b c f s to k v.joint (Channel v.channel ∷ third ∷ Person me ∷ [])) → MiddlePays b c f s to k me v
  middle_pays v second third apart pays_a pays_b = go (bytes_eq f v.guarantor_a) refl (bytes_eq f v.guarantor_b) refl
    where
      list_at : (g : List ℕ) (list : List Dest) → f ≡ g → b.list f ≡ list → list ≡ b.list g
      list_at g list is e = sym e ∙ ap (λ (n : List ℕ). b.list n) is

      own_a : f ≡ v.guarantor_a → lost f v.guarantor_b k ≡ 0 → PaysBy b c f s to k v.joint (Channel v.channel ∷ second ∷ Person me ∷ []) → MiddlePays b c f s to k me v
      own_a is none (still e) = other (inl (lost-still v.guarantor_a e)) (inl none)
      own_a is none (silent e) = other (inr (subst (λ (n : List ℕ). b.counts n ≡ false) is e)) (inl none)
      own_a is none (bare e) = empty e
      own_a is none (listed position target list there exact due) =
          from_a target none exact
          (subst (λ (ds : List Dest). k ≤ gain to (Channel v.channel) k + second_gain to ds k + gain to (Person me) k) (list_at v.guarantor_a _ is list) (all_listed v.channel second position there))

      own_b : f ≡ v.guarantor_b → lost f v.guarantor_a k ≡ 0 → PaysBy b c f s to k v.joint (Channel v.channel ∷ third ∷ Person me ∷ []) → MiddlePays b c f s to k me v
      own_b is none (still e) = other (inl none) (inl (lost-still v.guarantor_b e))
      own_b is none (silent e) = other (inl none) (inr (subst (λ (n : List ℕ). b.counts n ≡ false) is e))
      own_b is none (bare e) = empty e
      own_b is none (listed position target list there exact due) =
          from_b target none exact
          (subst (λ (ds : List Dest). k ≤ gain to (Channel v.channel) k + second_gain to ds k + gain to (Person me) k) (list_at v.guarantor_b _ is list) (all_listed v.channel third position there))

      go : (t : Bool) → bytes_eq f v.guarantor_a ≡ t → (u : Bool) → bytes_eq f v.guarantor_b ≡ u → MiddlePays b c f s to k me v
      go true e true g =
          let same : v.guarantor_a ≡ v.guarantor_b = sym (same_bytes f v.guarantor_a e) ∙ same_bytes f v.guarantor_b g in
          let yes : bytes_eq v.guarantor_a v.guarantor_b ≡ true = ap (bytes_eq v.guarantor_a) (sym same) ∙ bytes_eq_self v.guarantor_a in cc
      go true e false g = let is : f ≡ v.guarantor_a = same_bytes f v.guarantor_a e in own_a is (lost-other v.guarantor_b g) (pays_a is)
      go false e true g = let is : f ≡ v.guarantor_b = same_bytes f v.guarantor_b g in own_b is (lost-other v.guarantor_a e) (pays_b is)
      go false e false g = other (inl (lost-other v.guarantor_a e)) (inl (lost-other v.guarantor_b g))

  first-apart : (j x : List ℕ) (ns : List (List ℕ)) → is_among j (x ∷ ns) ≡ false → bytes_eq j x ≡ false
  first-apart j x ns h = go (bytes_eq j x) h
    where
      go : (t : Bool) → (t || is_among j ns) ≡ false → t ≡ false
      go true h = cc
      go false h = refl

  all_kept : (counting : List Counting) → ((joint : List ℕ) (list : List Dest) → Guarantees counting f joint list → PaysBy b c f s to k joint list) →
      (ps : List Part) → AreApart bytes_eq (all_payers ps) → AllByRecursion IsApart ps → AllByRecursion (IsGuaranteed me counting) ps → AllKept b c f s to k me m ps
  all_kept counting pays [] d a g = tt
  all_kept counting pays (Root x ∷ ps) d a g = (Root-kept b c f s to k me m x, all_kept counting pays ps (apart-rest (x ∷ []) (all_payers ps) d) a.1 g.1)
  all_kept counting pays (OnLedger l x ∷ ps) d a g = (OnLedger-kept b c f s to k me m l x, all_kept counting pays ps (apart-rest (x ∷ []) (all_payers ps) d) a.1 g.1)
  all_kept counting pays (End v ∷ ps) d a g = (
    End-kept b c f s to k me m v (first-apart v.joint v.channel (all_payers ps) d.0)
        (end_facts v g.0.0 a.0 (λ is. pays v.joint _ (subst (λ (n : List ℕ). Guarantees counting n v.joint (Channel v.channel ∷ Person me ∷ g.0.0 ∷ [])) (sym is) g.0.1))),
    all_kept counting pays ps (apart-rest (v.joint ∷ v.channel ∷ []) (all_payers ps) d) a.1 g.1,
  )
  all_kept counting pays (Middle v ∷ ps) d a g = (
    Middle-kept b c f s to k me m v
        (middle_pays v g.0.0.0 g.0.1.0 a.0
        (λ is. pays v.joint _ (subst (λ (n : List ℕ). Guarantees counting n v.joint (Channel v.channel ∷ g.0.0.0 ∷ Person me ∷ [])) (sym is) g.0.0.1))
        (λ is. pays v.joint _ (subst (λ (n : List ℕ). Guarantees counting n v.joint (Channel v.channel ∷ g.0.1.0 ∷ Person me ∷ [])) (sym is) g.0.1.1))),
    all_kept counting pays ps (apart-rest (v.joint ∷ []) (all_payers ps) d) a.1 g.1,
  )

-- What an entry is to a sound plan, in one asset and under one choice: a payment, or none.
pub record Pays (b c : Books) (counting : List Counting) (me : List ℕ) (paid now : ℕ) : Type 0 where
  pub payer : List ℕ
  pub owner : List ℕ
  pub to : Dest
  pub amount : ℕ
  pub moved : Moved b c payer owner to amount
  pub received : paid + gain to (Person me) amount ≤ now
  pub guarantors : (joint : List ℕ) (list : List Dest) → Guarantees counting payer joint list → PaysBy b c payer owner to amount joint list

-- it lowers no share
pub pays-kept : (b c : Books) (counting : List Counting) (me : List ℕ) (paid now : ℕ) → Pays b c counting me paid now → (ps : List Part) → IsSound me ps counting →
    paid + worth b me ps no_reach ≤ now + worth c me ps no_reach
pays-kept b c counting me paid now x ps sound =
    let all = all_kept b c x.payer x.owner x.to x.amount me x.moved counting x.guarantors ps sound.payers sound.apart sound.guarantors in
    let p = paid-worth b c x.payer x.owner x.to x.amount me x.moved ps paid (paid + gain x.to (Person me) x.amount) all sound.payers refl in
    let r = x.received in
    omega (arith, p, r)
