-- What a caller learns of a turn.
use Rattle.std.proofs.Common.{◌≡◌, ℕ, suc, ◌+◌, false, List, [], ◌∷◌, ◌++◌, length, Option, refl, sym, ap, ◌∙◌, subst, arith, length-append}
use mathlib.Core.Logic.{dite}
use native.Mathlib.Decide.{ℕ_discrete}
use Rattle.atomic_table.specs.Table.{Me}
use Rattle.atomic_table.specs.Seated.{TableId}
use Rattle.atomic_table.specs.declared.shared.Seat.{Seat}
use Rattle.shared_object.specs.declared.desk.Desk.{Desk}
use Rattle.shared_object.specs.declared.rule.View.{View}
use Rattle.shared_object.specs.History.{same, times, once, IsLegal}
use Rattle.shared_object.specs.Caller.{Caller, IsCaller, Enters, Looks}
use Rattle.shared_object.specs.Turn.{caller_of, IsAtRest, HasTurn}
use Rattle.shared_object.specs.Desk.{Adds}
use Rattle.shared_object.specs.Turns.{idle}
use Rattle.shared_object.proofs.Sums.{total-append, same_pos, legal_more, starts_length}

module _ {A : Type 0} where
  no_rest : (xs ys rest : List A) → xs ≡ ys ++ rest → ys ≡ xs → rest ≡ []
  no_rest xs ys [] e f = refl
  no_rest xs ys (x ∷ r) e f = absurd (omega (arith, ap length e, ap length f, length-append ys (x ∷ r)))

module _ {S E : Type 0} where
  -- a token that is between two calls
  pub rest_at : (z : TableId) (part : ℕ) (s : Seat S (View E)) (h : List E) (made : List ℕ) → s.table_id ≡ z → s.me ≡ (idle h made part, []) → IsCaller (record { book = z; seen = h; made = made; part = part })
      → IsAtRest part s × (caller_of part s ≡ record { book = z; seen = h; made = made; part = part })
  rest_at z part s h made t e sound =
      let seen_is : s.me.0.seen ≡ h = ap (λ (m : Me S (View E)). m.0.seen) e in
      let made_is : s.me.0.made ≡ made = ap (λ (m : Me S (View E)). m.0.made) e in
      let is : caller_of part s ≡ record { book = z; seen = h; made = made; part = part } = (λ i. record { book = t i; seen = seen_is i; made = made_is i; part = part }) in (
        record {
          view = ap (λ (m : Me S (View E)). m.0) e ∙ (λ i. idle (sym seen_is i) (sym made_is i) part);
          empty = ap (λ (m : Me S (View E)). m.1) e;
          sound = subst (λ (c : Caller E). IsCaller c) (sym is) sound;
        },
        is,
      )

  pub rests : (part : ℕ) (s : Seat S (View E)) → IsAtRest part s → (s.me.0.tickets ≡ 0) × (s.me.0.holds ≡ false) × (s.me.0.part ≡ part) × (s.me.0.told ≡ [])
  rests part s i = (ap (λ (v : View E). v.tickets) i.view, ap (λ (v : View E). v.holds) i.view, ap (λ (v : View E). v.part) i.view, ap (λ (v : View E). v.told) i.view)

module _ {O E C R : Type 0} (stands : O → List E → Type 0) (gives : List E → ℕ → ℕ → C → E) (reply_of : E → R) where
  abbrev Tok : Type 0
  Tok = Seat (Option (Desk O E)) (View E)

  -- a call was entered
  pub entered : (c : Caller E) (z : TableId) (part by : ℕ) (call : C) (number : ℕ) (reply : R) (old turn new : Tok) (d d' : Desk O E)
      → IsAtRest part old → caller_of part old ≡ c → old.table_id ≡ z → HasTurn stands gives z d old.me.0 turn → Adds stands gives reply_of by call number reply d d'
      → new.table_id ≡ z → new.me ≡ (idle d'.history.items (turn.me.0.made ++ length d'.history.items ∷ []) turn.me.0.part, [])
      → IsAtRest part new × Enters gives reply_of by call number reply c (caller_of part new)
  entered c z part by call number reply old turn new d d' i is tab_old t a tab me =
      let v = old.me.0 in
      let h = d.history.items in
      let h' = d'.history.items in
      let n' = length h' in
      let made = v.made ++ n' ∷ [] in
      let part_is : v.part ≡ part = (rests part old i).2 in
      let me' : new.me ≡ (idle h' made part, []) = me ∙ (λ j. (idle h' (t.keeps.1 j ++ n' ∷ []) ((t.keeps.2 ∙ part_is) j), [])) in
      let long : n' ≡ suc (length h) = omega (arith, ap length a.history, length-append h (a.entry ∷ [])) in
      let seen_le = starts_length h v.seen t.sees in
      let legal : IsLegal gives h' = subst (IsLegal gives) (sym a.history) (legal_more gives h a.entry by call t.legal a.gave) in
      let number_is : number ≡ n' = omega (arith, a.number_is) in
      let once_is : (k : ℕ) → once k n' ≡ same k n' + once k (length h) = λ k. ap (once k) long ∙ ap (λ (m : ℕ). same k m + once k (length h)) (sym long) in
      let r = rest_at old.table_id part new h' made (tab ∙ sym tab_old) me' (record {
        some_part = i.sound.some_part;
        at_most = i.sound.at_most;
        within = λ k p. (let s = total-append (same k) v.made (n' ∷ []) in
            dite (ℕ_discrete (times k v.made) 0)
            (λ none. let e = same_pos k n' (omega arith) in omega arith)
            (λ some_. let le = i.sound.within k (omega arith) in omega arith));
        few = omega (arith, a.few, number_is);
        all = λ w k. (let s = total-append (same k) v.made (n' ∷ []) in let b = (t.all (part_is ∙ w)).1 k in let o = once_is k in omega arith);
      }) in (
        r.0,
        subst (λ (x : Caller E). Enters gives reply_of by call number reply x (caller_of part new)) is (subst (λ (x : Caller E). Enters gives reply_of by call number reply (caller_of part old) x) (sym r.1) (record {
          between = t.sees.0;
          entry = a.entry;
          seen = a.history ∙ ap (λ (l : List E). l ++ a.entry ∷ []) t.sees.1;
          legal = legal;
          gave = a.gave ∙ (λ j. gives (t.sees.1 j) (sym a.number_is j) by call);
          number_is = number_is;
          reply_is = a.reply_is;
          made = ap (λ (m : ℕ). v.made ++ m ∷ []) (sym number_is);
          others = λ k lt. dite (ℕ_discrete (times k v.made) 0) (λ z. z) (λ n. let le = i.sound.within k (omega arith) in absurd (omega arith));
          alone = λ w. no_rest h v.seen t.sees.0 t.sees.1 (t.all (part_is ∙ w)).0;
          part = refl;
          book = refl;
        })),
      )

  -- the history was seen
  pub looked : (c : Caller E) (z : TableId) (part : ℕ) (old turn new : Tok) (d : Desk O E) → IsAtRest part old → caller_of part old ≡ c → old.table_id ≡ z → HasTurn stands gives z d old.me.0 turn
      → new.table_id ≡ z → new.me ≡ (idle d.history.items turn.me.0.made turn.me.0.part, [])
      → IsAtRest part new × Looks gives c (caller_of part new) × (new.me.0.seen ≡ d.history.items)
  looked c z part old turn new d i is tab_old t tab me =
      let v = old.me.0 in
      let h = d.history.items in
      let part_is : v.part ≡ part = (rests part old i).2 in
      let me' : new.me ≡ (idle h v.made part, []) = me ∙ (λ j. (idle h (t.keeps.1 j) ((t.keeps.2 ∙ part_is) j), [])) in
      let seen_le = starts_length h v.seen t.sees in
      let r = rest_at old.table_id part new h v.made (tab ∙ sym tab_old) me' (record {
        some_part = i.sound.some_part;
        at_most = i.sound.at_most;
        within = λ k p. (let le = i.sound.within k p in omega arith);
        few = t.few;
        all = λ w. (t.all (part_is ∙ w)).1;
      }) in (
        r.0,
        subst (λ (x : Caller E). Looks gives x (caller_of part new)) is (subst (λ (x : Caller E). Looks gives (caller_of part old) x) (sym r.1) (record {
          later = record { book = refl; seen = t.sees; made = refl; part = refl };
          legal = t.legal;
          alone = λ w. sym (t.all (part_is ∙ w)).0;
        })),
        ap (λ (m : Me (Option (Desk O E)) (View E)). m.0.seen) me',
      )
