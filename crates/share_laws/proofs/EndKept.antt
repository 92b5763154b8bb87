use Rattle.std.proofs.Common.{◌≡◌, ℕ, ◌+◌, ◌-◌, ◌≤◌, min, Bool, true, false, ◌||◌, List, [], ◌∷◌, refl, sym, ◌∙◌, ap, subst, arith, cond, inl, inr, ◌⊎◌}
use Rattle.std.proofs.lemmas.Bool.{false≢true}
use Rattle.std.proofs.lemmas.Slice.Eq.{bytes_eq-Decides}
use Rattle.channel_values.specs.declared.value.Dest.{Dest}
use Rattle.channel_values.specs.declared.value.Dest.TheVariants.{Person, Channel}
use Rattle.channel_values.specs.declared.value.Item.{Item}
use Rattle.funding_plans.specs.declared.plan.Part.TheVariants.{End}
use Rattle.funding_plans.specs.declared.plan.Virtual.{Virtual}
use Rattle.std.specs.Str.{bytes_eq}
use Rattle.channel_values.specs.Outcomes.{is_same}
use Rattle.channel_values.specs.Amounts.{amt, has}
use Rattle.share_laws.specs.Books.{Books}
use Rattle.share_laws.specs.Worth.{Table, affords, claim, own_claim, child, guarantor, virtual, end_reach}
use Rattle.funding_plans.specs.Parts.{own_ledger, own_guarantor}
use Rattle.share_laws.specs.Moved.{gain, lost, spent, Moved, EndPays}
use Rattle.share_laws.proofs.Numbers.{end_other-own}
use Rattle.share_laws.proofs.Kept.{Kept, Kept-with, PartKept, loss, child-le, affords-from}
use Rattle.call_history.proofs.Names.{same_bytes}

cond-below : (t : Bool) (x : ℕ) → cond t x 0 ≤ x
cond-below true x = omega arith
cond-below false x = omega arith

-- an end whose own guarantor pays, in numbers: t and n say whether it counts and is named, w whether its channel is
-- named, o whether its call is still to come
own_channel_pays : (t n w o : Bool) (h h' a a' total x x' y y' k e : ℕ) → h ≤ h' + k → a ≤ a' → x ≤ x' + k → y + k ≤ y' + e →
    cond w (y + cond o (min x (cond t (min (cond n (h + a) 0) total) 0)) 0) 0 ≤ cond w (y' + cond o (min x' (cond t (min (cond n (h' + a') 0) total) 0)) 0) 0 + e
own_channel_pays t n false o h h' a a' total x x' y y' k e i q u v = omega arith
own_channel_pays t n true false h h' a a' total x x' y y' k e i q u v = omega arith
own_channel_pays true true true true h h' a a' total x x' y y' k e i q u v = omega arith
own_channel_pays true false true true h h' a a' total x x' y y' k e i q u v = omega arith
own_channel_pays false n true true h h' a a' total x x' y y' k e i q u v = omega arith

own_channel_stays : (t n w o : Bool) (h h' a a' total x x' y y' k e : ℕ) → h ≤ h' + k → a ≤ a' → x ≤ x' → y ≤ y' + e → k ≤ h - x →
    cond w (y + cond o (min x (cond t (min (cond n (h + a) 0) total) 0)) 0) 0 ≤ cond w (y' + cond o (min x' (cond t (min (cond n (h' + a') 0) total) 0)) 0) 0 + e
own_channel_stays t n false o h h' a a' total x x' y y' k e i q u v r = omega arith
own_channel_stays t n true false h h' a a' total x x' y y' k e i q u v r = omega arith
own_channel_stays true true true true h h' a a' total x x' y y' k e i q u v r = omega arith
own_channel_stays true false true true h h' a a' total x x' y y' k e i q u v r = omega arith
own_channel_stays false n true true h h' a a' total x x' y y' k e i q u v r = omega arith

own_amount_pays : (t n o : Bool) (h h' a a' total x x' p p' k e : ℕ) → h ≤ h' + k → a ≤ a' → x' + k ≤ x → p ≤ p' + e →
    cond o (min p (cond t (min (cond n (h + a) 0) total) 0 - x)) 0 ≤ cond o (min p' (cond t (min (cond n (h' + a') 0) total) 0 - x')) 0 + e
own_amount_pays t n false h h' a a' total x x' p p' k e i q u v = omega arith
own_amount_pays true true true h h' a a' total x x' p p' k e i q u v = omega arith
own_amount_pays true false true h h' a a' total x x' p p' k e i q u v = omega arith
own_amount_pays false n true h h' a a' total x x' p p' k e i q u v = omega arith

own_amount_falls : (t n o : Bool) (h h' a a' total x x' p p' k e : ℕ) → h ≤ h' + k → a ≤ a' → x' ≤ x → p ≤ p' + e → k ≤ e →
    cond o (min p (cond t (min (cond n (h + a) 0) total) 0 - x)) 0 ≤ cond o (min p' (cond t (min (cond n (h' + a') 0) total) 0 - x')) 0 + e
own_amount_falls t n false h h' a a' total x x' p p' k e i q u v r = omega arith
own_amount_falls true true true h h' a a' total x x' p p' k e i q u v r = omega arith
own_amount_falls true false true h h' a a' total x x' p p' k e i q u v r = omega arith
own_amount_falls false n true h h' a a' total x x' p p' k e i q u v r = omega arith

own_amount_stays : (t n o : Bool) (h h' a a' total x x' p p' k e : ℕ) → h ≤ h' + k → a ≤ a' → x' ≤ x → p ≤ p' + e → k ≤ h - (x + p) →
    cond o (min p (cond t (min (cond n (h + a) 0) total) 0 - x)) 0 ≤ cond o (min p' (cond t (min (cond n (h' + a') 0) total) 0 - x')) 0 + e
own_amount_stays t n false h h' a a' total x x' p p' k e i q u v r = omega arith
own_amount_stays true true true h h' a a' total x x' p p' k e i q u v r = omega arith
own_amount_stays true false true h h' a a' total x x' p p' k e i q u v r = omega arith
own_amount_stays false n true h h' a a' total x x' p p' k e i q u v r = omega arith

module _ (b c : Books) (f s : List ℕ) (to : Dest) (k : ℕ) (me : List ℕ) (m : Moved b c f s to k) where
  -- the two facts on an end from which its part is kept
  pub record EndFacts (v : Virtual) (reach after : Table) : Type 0 where
    pub channel : virtual b (own_guarantor v) v.joint v.channel (end_reach b reach v)
        ≤ virtual c (own_guarantor v) v.joint v.channel (end_reach c after v) + lost f v.channel k
    pub own : own_claim b me (own_guarantor v) v.joint v.channel (end_reach b reach v)
        ≤ own_claim c me (own_guarantor v) v.joint v.channel (end_reach c after v) + spent s to v.joint (Person me) k

  virtual-held : (g j x : List ℕ) (r : ℕ) → (b.held x ≤ virtual b g j x r) ⊎ (virtual b g j x r ≡ 0)
  virtual-held g j x r = by_test (has (b.items j) (Channel x))
    where
      by_test : (t : Bool) → (b.held x ≤ cond t (b.held x + claim b g j x r) 0) ⊎ (cond t (b.held x + claim b g j x r) 0 ≡ 0)
      by_test true = inl (omega arith)
      by_test false = inr refl

  two : (j x : List ℕ) → bytes_eq j x ≡ false → spent s to x (Person me) k + spent s to j (Person me) k ≤ loss s to k me (j ∷ x ∷ [])
  two j x ne = by_test (bytes_eq s j) (bytes_eq s x) (same_bytes s j) (same_bytes s x)
    where
      by_test : (t u : Bool) → (t ≡ true → s ≡ j) → (u ≡ true → s ≡ x) →
          cond u (gain to (Person me) k) 0 + cond t (gain to (Person me) k) 0 ≤ cond (t || (u || false)) (gain to (Person me) k) 0
      by_test true true e h =
          let same : j ≡ x = sym (e refl) ∙ h refl in
          absurd (false≢true (sym ne ∙ (bytes_eq-Decides j x).1 same))
      by_test true false e h = omega arith
      by_test false true e h = omega arith
      by_test false false e h = omega arith

  pub End-kept : (v : Virtual) → bytes_eq v.joint v.channel ≡ false →
      ((reach after : Table) → Kept b c s to k reach after → EndFacts v reach after) → PartKept b c f s to k me m (End v)
  End-kept v ne facts = record {
    worths = λ reach after kept.
        let fs = facts reach after kept in
        let p = affords-from b c f s to k me m v.channel _ _ (virtual-held (own_guarantor v) v.joint v.channel (end_reach b reach v)) fs.channel (Person me) in
        let q = two v.joint v.channel ne in
        let o = fs.own in
        omega (arith, p, q, o);
    tables = λ reach after kept.
        Kept-with b c f s to k me m reach after kept v.channel _ _
        (affords-from b c f s to k me m v.channel _ _ (virtual-held (own_guarantor v) v.joint v.channel (end_reach b reach v)) (facts reach after kept).channel);
  }

  spent-gain : (n : List ℕ) (d : Dest) → spent s to n d k ≤ gain to d k
  spent-gain n d = cond-below (bytes_eq s n) _

  -- another channel pays: the guarantor's reach doesn't fall
  guarantor-le : (reach after : Table) → Kept b c s to k reach after → (l g : List ℕ) (total : ℕ) → (lost f g k ≡ 0) ⊎ (b.counts g ≡ false) →
      guarantor b reach l g total ≤ guarantor c after l g total
  guarantor-le reach after kept l g total (inr silent) =
      let e : guarantor b reach l g total ≡ 0 = ap (λ (t : Bool). cond t (min (child b reach l g) total) 0) silent in omega (arith, e)
  guarantor-le reach after kept l g total (inl none) =
      let le : child b reach l g ≤ child c after l g + lost f g k = child-le b c f s to k me m reach after kept l g in
      by_test (b.counts g) (c.counts g) (m.counts g) (omega arith)
    where
      by_test : (t u : Bool) → u ≡ t → child b reach l g ≤ child c after l g →
          cond t (min (child b reach l g) total) 0 ≤ cond u (min (child c after l g) total) 0
      by_test true true e le = omega arith
      by_test true false e le = absurd (false≢true e)
      by_test false u e le = omega arith

  virtual-le : (g j x : List ℕ) (r q : ℕ) → r ≤ q → virtual b g j x r ≤ virtual c g j x q + lost f x k
  virtual-le g j x r q le =
      by_test (has (b.items j) (Channel x)) (has (c.items j) (Channel x)) (m.names j (Channel x)) (b.owed g (Channel x)) (c.owed g (Channel x)) (m.opens g (Channel x))
    where
      by_test : (t u : Bool) → u ≡ t → (w z : Bool) → z ≡ w →
          cond t (b.held x + cond w (min (amt (b.items j) (Channel x)) r) 0) 0
          ≤ cond u (c.held x + cond z (min (amt (c.items j) (Channel x)) q) 0) 0 + lost f x k
      by_test true true e true true o =
          let p : b.held x + gain to (Channel x) k ≤ c.held x + lost f x k = m.held x in
          let a : amt (b.items j) (Channel x) ≤ amt (c.items j) (Channel x) + spent s to j (Channel x) k = m.amounts j (Channel x) in
          let w : spent s to j (Channel x) k ≤ gain to (Channel x) k = spent-gain j (Channel x) in
          omega arith
      by_test true true e true false o = absurd (false≢true o)
      by_test true true e false z o = let p : b.held x + gain to (Channel x) k ≤ c.held x + lost f x k = m.held x in omega arith
      by_test true false e w z o = absurd (false≢true e)
      by_test false u e w z o = omega arith

  own_claim-le : (g j x : List ℕ) (r q : ℕ) → r ≤ q → own_claim b me g j x r ≤ own_claim c me g j x q + spent s to j (Person me) k
  own_claim-le g j x r q le = by_test (b.owed g (Person me)) (c.owed g (Person me)) (m.opens g (Person me))
    where
      by_test : (w z : Bool) → z ≡ w →
          cond w (min (amt (b.items j) (Person me)) (r - amt (b.items j) (Channel x))) 0
          ≤ cond z (min (amt (c.items j) (Person me)) (q - amt (c.items j) (Channel x))) 0 + spent s to j (Person me) k
      by_test true true o = end_other-own _ _ _ _ _ _ _ le (m.falls j (Channel x)) (m.amounts j (Person me))
      by_test true false o = absurd (false≢true o)
      by_test false z o = omega arith

  pub EndFacts-other : (v : Virtual) → (lost f (own_guarantor v) k ≡ 0) ⊎ (b.counts (own_guarantor v) ≡ false) →
      (reach after : Table) → Kept b c s to k reach after → EndFacts v reach after
  EndFacts-other v ne reach after kept =
      let g : end_reach b reach v ≤ end_reach c after v = guarantor-le reach after kept (own_ledger v) (own_guarantor v) v.total ne in
      record {
        channel = virtual-le (own_guarantor v) v.joint v.channel _ _ g;
        own = own_claim-le (own_guarantor v) v.joint v.channel _ _ g;
      }

  -- the joint channel doesn't count: it gives nothing
  pub EndFacts-none : (v : Virtual) → b.items v.joint ≡ [] → (reach after : Table) → Kept b c s to k reach after → EndFacts v reach after
  EndFacts-none v e reach after kept =
      let z : virtual b (own_guarantor v) v.joint v.channel (end_reach b reach v) ≡ 0 =
      ap (λ (xs : List Item). cond (has xs (Channel v.channel)) (b.held v.channel + claim b (own_guarantor v) v.joint v.channel (end_reach b reach v)) 0) e in
      let o : own_claim b me (own_guarantor v) v.joint v.channel (end_reach b reach v) ≤ 0 = below (b.owed (own_guarantor v) (Person me)) _ _
      (ap (λ (xs : List Item). amt xs (Person me)) e) in
      record { channel = omega (arith, z); own = omega (arith, o) }
    where
      below : (t : Bool) (x y : ℕ) → x ≡ 0 → cond t (min x y) 0 ≤ 0
      below true x y h = omega (arith, h)
      below false x y h = omega arith

  -- the guarantor itself pays
  gains : (d : Dest) (t : Bool) → is_same to d ≡ t → gain to d k ≡ cond t k 0
  gains d t e = ap (λ (u : Bool). cond u k 0) e

  pub EndFacts-own : (v : Virtual) → f ≡ own_guarantor v → bytes_eq v.joint (own_ledger v) ≡ false →
      EndPays b c (own_guarantor v) v.joint v.channel me s to k →
      (reach after : Table) → Kept b c s to k reach after → EndFacts v reach after
  EndFacts-own v is apart pays reach after kept =
      let held : b.held g + gain to (Channel g) k ≤ c.held g + lost f g k = m.held g in
      let pay : lost f g k ≤ k = cond-below (bytes_eq f g) k in
      let h : b.held g ≤ c.held g + k = omega arith in
      let aw : affords b l (reach l) (Channel g) ≤ affords c l (after l) (Channel g) + spent s to l (Channel g) k = kept.affords l (Channel g) in
      let sp : spent s to l (Channel g) k ≡ 0 = ap (λ (n : List ℕ). cond (bytes_eq n l) (gain to (Channel g) k) 0) pays.target ∙ ap (λ (t : Bool). cond t (gain to (Channel g) k) 0) apart in
      let a : affords b l (reach l) (Channel g) ≤ affords c l (after l) (Channel g) = omega arith in
      let y : b.held x + gain to (Channel x) k ≤ c.held x + lost f x k = m.held x in
      let xs : amt (b.items j) (Channel x) ≤ amt (c.items j) (Channel x) + spent s to j (Channel x) k = m.amounts j (Channel x) in
      let xg : spent s to j (Channel x) k ≤ gain to (Channel x) k = spent-gain j (Channel x) in
      let xf : amt (c.items j) (Channel x) + gain to (Channel x) k ≤ amt (b.items j) (Channel x) = pays.exact (Channel x) in
      let ps : amt (b.items j) (Person me) ≤ amt (c.items j) (Person me) + spent s to j (Person me) k = m.amounts j (Person me) in
      let here : spent s to j (Person me) k ≡ gain to (Person me) k =
      ap (λ (n : List ℕ). cond (bytes_eq n j) (gain to (Person me) k) 0) pays.target
      ∙ ap (λ (t : Bool). cond t (gain to (Person me) k) 0) ((bytes_eq-Decides j j).1 refl) in
      elim pays.below [
        | inl first ↦
            let gx : gain to (Channel x) k ≡ k = ap (λ (t : Bool). cond t k 0) first in
            record {
              channel = by_has (lost f x k) (own_channel_pays (b.counts g) (has (b.items l) (Channel g)) (has (b.items j) (Channel x)) (b.owed g (Channel x)) _ _ _ _ _ _ _ _ _ k _ h a (omega arith) (omega arith));
              own = by_counts (spent s to j (Person me) k) (own_amount_pays (b.counts g) (has (b.items l) (Channel g)) (b.owed g (Person me)) _ _ _ _ _ _ _ _ _ k _ h a (omega arith) ps);
            }
        | inr later ↦ elim later [
          | inl second ↦
              let gx : gain to (Channel x) k ≡ 0 = ap (λ (t : Bool). cond t k 0) second.0 in
              let gp : gain to (Person me) k ≡ k = ap (λ (t : Bool). cond t k 0) second.1 in
              let room : k ≤ b.held g - amt (b.items j) (Channel x) = second.2 in
              record {
                channel = by_has (lost f x k) (own_channel_stays (b.counts g) (has (b.items l) (Channel g)) (has (b.items j) (Channel x)) (b.owed g (Channel x)) _ _ _ _ _ _ _ _ _ k _ h a (omega arith) (omega arith) (omega arith));
                own = by_counts (spent s to j (Person me) k) (own_amount_falls (b.counts g) (has (b.items l) (Channel g)) (b.owed g (Person me)) _ _ _ _ _ _ _ _ _ k _ h a (omega arith) ps (omega arith));
              }
          | inr third ↦
              let gx : gain to (Channel x) k ≡ 0 = ap (λ (t : Bool). cond t k 0) third.0 in
              let room : k ≤ b.held g - (amt (b.items j) (Channel x) + amt (b.items j) (Person me)) = third.2 in
              record {
                channel = by_has (lost f x k) (own_channel_stays (b.counts g) (has (b.items l) (Channel g)) (has (b.items j) (Channel x)) (b.owed g (Channel x)) _ _ _ _ _ _ _ _ _ k _ h a (omega arith) (omega arith) (omega arith));
                own = by_counts (spent s to j (Person me) k) (own_amount_stays (b.counts g) (has (b.items l) (Channel g)) (b.owed g (Person me)) _ _ _ _ _ _ _ _ _ k _ h a (omega arith) ps (omega arith));
              }
        ]
      ]
    where
      g : List ℕ
      g = own_guarantor v

      l : List ℕ
      l = own_ledger v

      j : List ℕ
      j = v.joint

      x : List ℕ
      x = v.channel

      guarantor_c : guarantor c after l g v.total ≡
          cond (b.counts g) (min (cond (has (b.items l) (Channel g)) (c.held g + affords c l (after l) (Channel g)) 0) v.total) 0
      guarantor_c =
          ap (λ (t : Bool). cond t (min (child c after l g) v.total) 0) (m.counts g)
          ∙ ap (λ (n : Bool). cond (b.counts g) (min (cond n (c.held g + affords c l (after l) (Channel g)) 0) v.total) 0) (m.names l (Channel g))

      by_counts : (e : ℕ) → own_claim b me g j x (guarantor b reach l g v.total)
          ≤ cond (b.owed g (Person me)) (min (amt (c.items j) (Person me)) ((cond (b.counts g) (min (cond (has (b.items l) (Channel g)) (c.held g + affords c l (after l) (Channel g)) 0) v.total) 0) - amt (c.items j) (Channel x))) 0 + e →
          own_claim b me g j x (guarantor b reach l g v.total) ≤ own_claim c me g j x (guarantor c after l g v.total) + e
      by_counts e h = subst (λ (y : ℕ). own_claim b me g j x (guarantor b reach l g v.total) ≤ own_claim c me g j x y + e) (sym guarantor_c)
          (subst (λ (t : Bool). own_claim b me g j x (guarantor b reach l g v.total)
          ≤ cond t (min (amt (c.items j) (Person me)) ((cond (b.counts g) (min (cond (has (b.items l) (Channel g)) (c.held g + affords c l (after l) (Channel g)) 0) v.total) 0) - amt (c.items j) (Channel x))) 0 + e) (sym (m.opens g (Person me))) h)

      by_has : (e : ℕ) → virtual b g j x (guarantor b reach l g v.total)
          ≤ cond (has (b.items j) (Channel x)) (c.held x + cond (b.owed g (Channel x)) (min (amt (c.items j) (Channel x)) (cond (b.counts g) (min (cond (has (b.items l) (Channel g)) (c.held g + affords c l (after l) (Channel g)) 0) v.total) 0)) 0) 0 + e →
          virtual b g j x (guarantor b reach l g v.total) ≤ virtual c g j x (guarantor c after l g v.total) + e
      by_has e h = subst (λ (y : ℕ). virtual b g j x (guarantor b reach l g v.total) ≤ virtual c g j x y + e) (sym guarantor_c)
          (subst (λ (t : Bool). virtual b g j x (guarantor b reach l g v.total)
          ≤ cond t (c.held x + claim c g j x (cond (b.counts g) (min (cond (has (b.items l) (Channel g)) (c.held g + affords c l (after l) (Channel g)) 0) v.total) 0)) 0 + e) (sym (m.names j (Channel x)))
          (subst (λ (o : Bool). virtual b g j x (guarantor b reach l g v.total)
          ≤ cond (has (b.items j) (Channel x)) (c.held x + cond o (min (amt (c.items j) (Channel x)) (cond (b.counts g) (min (cond (has (b.items l) (Channel g)) (c.held g + affords c l (after l) (Channel g)) 0) v.total) 0)) 0) 0 + e) (sym (m.opens g (Channel x))) h))
