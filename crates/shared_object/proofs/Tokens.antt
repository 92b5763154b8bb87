-- What a seat has in hand.
use Rattle.std.proofs.Common.{◌≡◌, ℕ, ◌<◌, ◌≤◌, List, [], ◌∷◌, length, Option, Some, None, sym, ap, ◌∙◌, subst}
use Rattle.atomic_table.specs.Table.{Me, rest}
use Rattle.shared_object.specs.declared.desk.Desk.{Desk}
use Rattle.shared_object.specs.declared.rule.View.{View}
use Rattle.shared_object.specs.History.{StartsWith, times}
use Rattle.shared_object.specs.Turns.{idle, noted, in_hand, KeepsSeat, Took}

module _ {S : Type 0} where
  pub carried : (l : List (ℕ × S)) (x : ℕ × S) → l ≡ x ∷ [] → l ≡ x ∷ rest l
  carried l x e = e ∙ ap (λ (r : List (ℕ × S)). x ∷ rest r) (sym e)

  pub swapped : (l m : List (ℕ × S)) (x y : ℕ × S) → l ≡ x ∷ [] → m ≡ y ∷ rest l → m ≡ y ∷ []
  swapped l m x y e f = f ∙ ap (λ (r : List (ℕ × S)). y ∷ rest r) e

  pub in_it : (l : List (ℕ × S)) (k : ℕ) (x y : S) → l ≡ (k, x) ∷ [] → l ≡ (k, y) ∷ rest l → y ≡ x
  in_it l k x y e f = ap (λ (r : List (ℕ × S)). value r) (sym f ∙ e)
    where
      value : List (ℕ × S) → S
      value [] = x
      value (z ∷ zs) = z.1

module _ {O E C : Type 0} (stands : O → List E → Type 0) (gives : List E → ℕ → ℕ → C → E) where
  -- what was taken, told from the seat as it was before it waited
  pub took_from : (v : View E) (m m' : Me (Option (Desk O E)) (View E)) → KeepsSeat v m.0 → m.1 ≡ [] → Took stands gives m m' → Took stands gives (v, []) m'
  took_from v m m' k e t = record {
    desk = t.desk;
    slot = t.slot ∙ ap (λ r. (0, Some t.desk) ∷ r) e;
    hand = t.hand;
    stands_for = t.stands_for;
    legal = t.legal;
    few = t.few;
    sees = subst (StartsWith t.desk.history.items) k.0 t.sees;
    within = λ j p. subst (λ (l : List E). j ≤ length l) k.0 (t.within j (subst (λ (l : List ℕ). 0 < times j l) (sym k.1) p));
    all = λ p. let a = t.all (k.2 ∙ p) in (sym k.0 ∙ a.0, λ j. ap (times j) (sym k.1) ∙ a.1 j);
    keeps = (t.keeps.0 ∙ k.0, t.keeps.1 ∙ k.1, t.keeps.2 ∙ k.2, t.keeps.3 ∙ k.3);
    holds = t.holds;
  }

abbrev Hand : Type 0 → Type 0 → Type 0
Hand O E = Me (Option (Desk O E)) (View E)

module _ {O E : Type 0} where
  pub with_desk : (m m' : Hand O E) (d : Desk O E) → m.1 ≡ (0, None) ∷ [] → m' ≡ (m.0, (0, Some d) ∷ rest m.1) → m' ≡ (m.0, (0, Some d) ∷ [])
  with_desk m m' d e f = f ∙ ap (λ (r : List (ℕ × Option (Desk O E))). (m.0, (0, Some d) ∷ rest r)) e

  -- after a note
  pub noted_at : (m m' : Hand O E) (v : View E) (d : Desk O E) (made : List ℕ → List ℕ) → m ≡ (v, (0, Some d) ∷ []) → (m'.1 ≡ m.1) × (m'.0 ≡ noted (in_hand m.1) (made m.0.made) m.0) → m' ≡ (noted d.history.items (made v.made) v, (0, Some d) ∷ [])
  noted_at m m' v d made e n = λ i. ((n.1 ∙ ap (λ (x : Hand O E). noted (in_hand x.1) (made x.0.made) x.0) e) i, (n.0 ∙ ap (λ (x : Hand O E). x.1) e) i)

  pub passed_at : (m m' : Hand O E) (v : View E) (d : Desk O E) (h : List E) (made : List ℕ) → m ≡ (noted h made v, (0, Some d) ∷ []) → (m'.0 ≡ idle m.0.seen m.0.made m.0.part) × (m'.1 ≡ rest m.1) → m' ≡ (idle h made v.part, [])
  passed_at m m' v d h made e n = λ i. ((n.0 ∙ ap (λ (x : Hand O E). idle x.0.seen x.0.made x.0.part) e) i, (n.1 ∙ ap (λ (x : Hand O E). rest x.1) e) i)

  pub left_at : (m m' : Hand O E) (v : View E) (d : Desk O E) → m ≡ (v, (0, Some d) ∷ []) → (m'.0 ≡ idle m.0.seen m.0.made m.0.part) × (m'.1 ≡ rest m.1) → m' ≡ (idle v.seen v.made v.part, [])
  left_at m m' v d e n = λ i. ((n.0 ∙ ap (λ (x : Hand O E). idle x.0.seen x.0.made x.0.part) e) i, (n.1 ∙ ap (λ (x : Hand O E). rest x.1) e) i)
