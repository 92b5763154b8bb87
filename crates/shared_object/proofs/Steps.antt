-- Each step keeps the rule of a book's table.
use Rattle.std.proofs.Math.Decide.{dec_lt}
use Rattle.std.proofs.Common.{◌≡◌, ◌≢◌, inl, inr, ⊎_elim, ℕ, zero, suc, ◌+◌, ◌%◌, ◌^◌, ◌<◌, ◌≤◌, Bool, true, false, List, [], ◌∷◌, ◌++◌, length, set, get_or, Some, Option, refl, sym, ap, ◌∙◌, subst, arith, length-append, true≢false}
use mathlib.Core.Logic.{dite}
use native.Mathlib.Decide.{ℕ_discrete}
use mathlib.Core.Option.{none, some, some-injective, some-ne-none}
use mathlib.Core.Option as maybe
use lib.ListN.{get_elem?}
use Rattle.atomic_table.specs.Table.{State, Me, Act, Valid, carried_after, step, stepped, keeps, takes, gives, put_back, Allows, Splits, Joins, opening, Final, Seen}
use Rattle.atomic_table.proofs.Lists.{at_set, at_snoc, set_here, set_else, set_again, at_longer, one_turn}
use Rattle.shared_object.specs.declared.desk.Desk.{Desk}
use Rattle.shared_object.specs.declared.rule.View.{View}
use Rattle.shared_object.specs.History.{StartsWith, total, same, times, once, IsLegal}
use Rattle.shared_object.specs.Turns.{learned, given_of, kept_part, given_part, both, spent, idle, newcomer, noted, Fits, AreApart, IsHome, IsOut, IsKept, Draws, Passes, Sees, in_hand, NotesMore, NotesSame}
use Rattle.shared_object.specs.Caller.{BookId, longer, whole, most_entries, Ends}
use Rattle.shared_object.specs.Desk.{IsMore}
use Rattle.shared_object.proofs.Sums.{total_set, total_same, total-append, total_le, total_at, total_other, total_alone, starts_refl, starts_trans, starts_whole, longer_of, longer_is, longer_starts, longer_hears, legal_more, append_none, once_pos, once_top}

off : false ≡ true → ⊥
off e = true≢false (sym e)

module _ {E : Type 0} where
  each_set : (P : View E → Type 0) (views : List (View E)) (id : ℕ) (w : View E) → ((j : ℕ) (u : View E) → j ≢ id → get_elem? views j ≡ some u → P u) → P w → (j : ℕ) (u : View E) → get_elem? (set views id w) j ≡ some u → P u
  each_set P views id w others mine j u e =
      ⊎_elim (λ (x : (j ≡ id) × (w ≡ u)). subst P x.1 mine) (λ (x : (j ≢ id) × (get_elem? views j ≡ some u)). others j u x.0 x.1) (at_set views id j w u e)

  -- one ticket that no other seat has
  apart_set : (views : List (View E)) (id : ℕ) (w : View E) → AreApart views → ((j : ℕ) (u : View E) → j ≢ id → get_elem? views j ≡ some u → u.tickets ≡ 1 → w.tickets ≡ 1 → w.ticket ≡ u.ticket → ⊥) → AreApart (set views id w)
  apart_set views id w apart new i j a b ei ej ti tj same_ticket =
      ⊎_elim
      (λ (x : (i ≡ id) × (w ≡ a)). ⊎_elim
      (λ (y : (j ≡ id) × (w ≡ b)). x.0 ∙ sym y.0)
      (λ (y : (j ≢ id) × (get_elem? views j ≡ some b)). absurd (new j b y.0 y.1 tj (ap (λ (v : View E). v.tickets) x.1 ∙ ti) (ap (λ (v : View E). v.ticket) x.1 ∙ same_ticket)))
      (at_set views id j w b ej))
      (λ (x : (i ≢ id) × (get_elem? views i ≡ some a)). ⊎_elim
      (λ (y : (j ≡ id) × (w ≡ b)). absurd (new i a x.0 x.1 ti (ap (λ (v : View E). v.tickets) y.1 ∙ tj) (ap (λ (v : View E). v.ticket) y.1 ∙ sym same_ticket)))
      (λ (y : (j ≢ id) × (get_elem? views j ≡ some b)). apart i j a b x.1 y.1 ti tj same_ticket)
      (at_set views id j w b ej))
      (at_set views id i w a ei)

  same_at : (views : List (View E)) (i j : ℕ) (v u : View E) → get_elem? views i ≡ some v → get_elem? views j ≡ some u → j ≡ i → u ≡ v
  same_at views i j v u a b e = some-injective u v (sym b ∙ ap (get_elem? views) e ∙ a)

  inside : (views : List (View E)) (i : ℕ) (v : View E) → get_elem? views i ≡ some v → i < length views
  inside [] i v e = absurd (some-ne-none v (sym e))
  inside (x ∷ xs) zero v e = omega arith
  inside (x ∷ xs) (suc i) v e = let r = inside xs i v e in omega arith

  few : (drawn served : ℕ) (log : List E) (v : View E) → Fits drawn served log v → v.tickets ≤ v.part
  few drawn served log v f = dite (ℕ_discrete v.part 0) (λ z. let t = (f.gone z).0 in omega arith) (λ n. let t = f.one in omega arith)

  all_made : List (View E) → List ℕ
  all_made [] = []
  all_made (x ∷ xs) = x.made ++ all_made xs

  -- the numbers that the other seats made
  others_of : List (View E) → ℕ → List ℕ
  others_of [] id = []
  others_of (x ∷ xs) zero = all_made xs
  others_of (x ∷ xs) (suc id) = x.made ++ others_of xs id

  times-all_made : (k : ℕ) (views : List (View E)) → times k (all_made views) ≡ total (λ (u : View E). times k u.made) views
  unfolding all_made
  times-all_made k [] = refl
  times-all_made k (x ∷ xs) = let t = total-append (same k) x.made (all_made xs) in let r = times-all_made k xs in omega arith

  times-others : (k : ℕ) (views : List (View E)) (id : ℕ) (v : View E) → get_elem? views id ≡ some v → times k v.made + times k (others_of views id) ≡ total (λ (u : View E). times k u.made) views
  unfolding others_of
  times-others k [] id v e = absurd (some-ne-none v (sym e))
  times-others k (x ∷ xs) zero v e = let r = times-all_made k xs in let i : times k x.made ≡ times k v.made = ap (λ (u : View E). times k u.made) (some-injective x v e) in omega arith
  times-others k (x ∷ xs) (suc id) v e = let t = total-append (same k) x.made (others_of xs id) in let r = times-others k xs id v e in omega arith

  all_none : (views : List (View E)) → ((j : ℕ) (u : View E) → get_elem? views j ≡ some u → u.made ≡ []) → all_made views ≡ []
  unfolding all_made
  all_none [] h = refl
  all_none (x ∷ xs) h = λ i. h 0 x refl i ++ all_none xs (λ j u e. h (suc j) u e) i

  others_none : (views : List (View E)) (id : ℕ) → ((j : ℕ) (u : View E) → j ≢ id → get_elem? views j ≡ some u → u.made ≡ []) → others_of views id ≡ []
  unfolding others_of
  others_none [] id h = refl
  others_none (x ∷ xs) zero h = all_none xs (λ j u e. h (suc j) u (λ z. omega arith) e)
  others_none (x ∷ xs) (suc id) h = λ i. h 0 x (λ z. omega arith) refl i ++ others_none xs id (λ j u n e. h (suc j) u (λ z. n (omega arith)) e) i

module _ {O E C : Type 0} (stands : O → List E → Type 0) (gives_of : List E → ℕ → ℕ → C → E) where
  abbrev St : Type 0
  St = State (Option (Desk O E)) (View E)

  abbrev M : Type 0
  M = Me (Option (Desk O E)) (View E)

  abbrev Kept : St → Type 0
  Kept = IsKept stands gives_of

  -- the words after one of them was set
  words_0 : (s : St) (a b c n : ℕ) → s.words ≡ a ∷ b ∷ c ∷ [] → set s.words 0 n ≡ n ∷ b ∷ c ∷ []
  words_0 s a b c n e = ap (λ (ws : List ℕ). set ws 0 n) e

  words_1 : (s : St) (a b c n : ℕ) → s.words ≡ a ∷ b ∷ c ∷ [] → set s.words 1 n ≡ a ∷ n ∷ c ∷ []
  words_1 s a b c n e = ap (λ (ws : List ℕ). set ws 1 n) e

  words_2 : (s : St) (a b c n : ℕ) → s.words ≡ a ∷ b ∷ c ∷ [] → set s.words 2 n ≡ a ∷ b ∷ n ∷ []
  words_2 s a b c n e = ap (λ (ws : List ℕ). set ws 2 n) e

  -- who has the slot is the only one
  sole : (s : St) (r : Kept s) (id j : ℕ) (v u : View E) → get_elem? s.views id ≡ some v → v.tickets ≡ 1 → v.ticket ≡ r.served → j ≢ id → get_elem? s.views j ≡ some u → u.holds ≡ true → ⊥
  sole s r id j v u at one served n e h = let t = (r.each j u e).has h in n (r.apart j id u v e at t.0 one (t.1 ∙ sym served))

  out_of : (s : St) (r : Kept s) (id : ℕ) (v : View E) → get_elem? s.views id ≡ some v → v.holds ≡ true → s.homes ≡ none ∷ []
  out_of s r id v at h = ⊎_elim (λ (x : IsHome stands r.log s.views s.homes). absurd (true≢false (sym h ∙ x.4 id v at))) (λ (x : IsOut s.views s.homes). x.4) r.slot

  pub draws : (slots id : ℕ) (me : M) → me.0.tickets ≡ 0 → me.0.holds ≡ false → 0 < me.0.part
      → Allows Kept slots id me 0 (λ n. (n + 1) % 2 ^ 64) (Draws (step slots 0 1 0 none) me)
  draws slots id me no_ticket free some_part s r _ at _ =
      let v = me.0 in
      let w : View E = record { seen = v.seen; told = v.told; made = v.made; part = v.part; tickets = 1; ticket = r.drawn; holds = false; hand = [] } in
      let mine = r.each id v at in
      let sum = total_set (λ (u : View E). u.tickets) s.views id v w at in
      let now = r.tickets in
      let found : get_or s.words 0 0 ≡ r.drawn % 18446744073709551616 = ap (λ (ws : List ℕ). get_or ws 0 0) r.words in
      let next : (get_or s.words 0 0 + 1) % 18446744073709551616 ≡ (r.drawn + 1) % 18446744073709551616 = omega arith in
      let kept : Kept (stepped s 0 ((get_or s.words 0 0 + 1) % 18446744073709551616) id me.1 w keeps) = record {
        drawn = r.drawn + 1;
        served = r.served;
        log = r.log;
        words = words_0 s _ _ _ _ r.words ∙ ap (λ (n : ℕ). n ∷ r.served % 18446744073709551616 ∷ length r.log ∷ []) next;
        tickets = omega arith;
        parts = total_same (λ (u : View E). u.part) s.views id v w at refl ∙ r.parts;
        numbers = λ k. total_same (λ (u : View E). times k u.made) s.views id v w at refl ∙ r.numbers k;
        legal = r.legal;
        few = r.few;
        each = each_set (Fits (r.drawn + 1) r.served r.log) s.views id w
            (λ j u n e. let f = r.each j u e in record { sees = f.sees; hears = f.hears; within = f.within; one = f.one; waits = λ o. let t = f.waits o in (t.0, omega arith); gone = f.gone; has = f.has })
            (record { sees = mine.sees; hears = mine.hears; within = mine.within; one = omega arith; waits = λ _. (omega arith, omega arith); gone = λ z. absurd (omega arith); has = λ h. absurd (off h) });
        apart = apart_set s.views id w r.apart (λ j u n e one _ is. let t = (r.each j u e).waits one in omega arith);
        slot = ⊎_elim
            (λ (x : IsHome stands r.log s.views s.homes). inl (x.0, x.1, x.2, x.3, each_set (λ u. u.holds ≡ false) s.views id w (λ j u _ e. x.4 j u e) refl))
            (λ (x : IsOut s.views s.homes). inr (x.0, x.1, set_else s.views id x.0 w (λ e. off (sym free ∙ ap (λ (u : View E). u.holds) (sym (same_at s.views id x.0 v x.1 at x.2 e)) ∙ x.3)) ∙ x.2, x.3, x.4))
            r.slot;
      } in
      (w, keeps, tt, kept, ((refl, refl, refl, refl), refl, refl, refl, sym found))

  pub few_out : (s : St) (r : Kept s) → total (λ (u : View E). u.tickets) s.views ≤ whole
  few_out s r = let le = total_le (λ (u : View E). u.tickets) (λ (u : View E). u.part) s.views (λ j u e. few r.drawn r.served r.log u (r.each j u e)) in omega (arith, r.parts)

  -- a seat that has all of one has made every entry
  pub alone : (s : St) (r : Kept s) (id : ℕ) (v : View E) → get_elem? s.views id ≡ some v → v.told ≡ [] → v.part ≡ whole → (v.seen ≡ r.log) × ((k : ℕ) → times k v.made ≡ once k (length r.log))
  alone s r id v at told all = (starts_whole r.log v.seen mine.sees (le (length r.log) refl), counts)
    where
      mine : Fits r.drawn r.served r.log v
      mine = r.each id v at

      counts : (k : ℕ) → times k v.made ≡ once k (length r.log)
      counts k = sym (total_alone (λ (u : View E). times k u.made) s.views id v at
          (λ j u e n. ap (times k) ((r.each j u e).gone (total_other (λ (x : View E). x.part) s.views id j v u at e n (all ∙ sym r.parts))).1)) ∙ r.numbers k

      le : (n : ℕ) → length r.log ≡ n → n ≤ length v.seen
      le zero e = omega arith
      le (suc n) e = dite (dec_lt (length v.seen) (suc n)) (λ lt. let w = mine.within (suc n) (subst (λ (m : ℕ). 0 < m) (sym (counts (suc n) ∙ ap (once (suc n)) e)) (once_top n)) lt in absurd (omega (arith, ap length told))) (λ ge. omega arith)

  pub sees : (slots id : ℕ) (me : M) → me.0.tickets ≡ 1 → me.0.holds ≡ false → me.0.told ≡ []
      → Allows Kept slots id me 1 (λ n. n) (Sees stands gives_of (step slots 1 0 0 none) me)
  sees slots id me one free none_told s r _ at _ = dite (ℕ_discrete (get_or s.words 1 0) (me.0.ticket % 18446744073709551616)) yes_ no_
    where
      v : View E
      v = me.0

      mine : Fits r.drawn r.served r.log v
      mine = r.each id v at

      same_words : set s.words 1 (get_or s.words 1 0) ≡ s.words
      same_words = subst (λ (ws : List ℕ). set ws 1 (get_or ws 1 0) ≡ ws) (sym r.words) refl

      Goal : Type 0
      Goal = (w : View E) × (a : Act (Option (Desk O E))) × Valid s.homes me.1 a × Kept (stepped s 1 (get_or s.words 1 0) id me.1 w a)
          × Sees stands gives_of (step slots 1 0 0 none) me (get_or s.words 1 0) (w, carried_after me.1 a)

      no_ : get_or s.words 1 0 ≢ v.ticket % 18446744073709551616 → Goal
      no_ n = (
        v,
        keeps,
        tt,
        subst Kept (λ i. record { words = sym same_words i; homes = s.homes; views = sym (set_again s.views id v at) i }) r,
        ((λ e. absurd (n e)), λ _. refl),
      )

      yes_ : get_or s.words 1 0 ≡ v.ticket % 18446744073709551616 → Goal
      yes_ e =
          let span = mine.waits one in
          let few = few_out s r in
          let now = r.tickets in
          let found : get_or s.words 1 0 ≡ r.served % 18446744073709551616 = ap (λ (ws : List ℕ). get_or ws 1 0) r.words in
          let mine_now : r.served ≡ v.ticket = one_turn r.served v.ticket 18446744073709551616 span.0 (omega arith) (sym found ∙ e) in
          ⊎_elim
          (λ (x : IsHome stands r.log s.views s.homes).
          let d = x.0 in
          let w : View E = record { seen = v.seen; told = v.told; made = v.made; part = v.part; tickets = v.tickets; ticket = v.ticket; holds = true; hand = r.log } in
          let kept : Kept (stepped s 1 (get_or s.words 1 0) id me.1 w (takes 0 (Some d))) = record {
            drawn = r.drawn;
            served = r.served;
            log = r.log;
            words = same_words ∙ r.words;
            tickets = ap (λ (n : ℕ). r.served + n) (total_same (λ (u : View E). u.tickets) s.views id v w at refl) ∙ r.tickets;
            parts = total_same (λ (u : View E). u.part) s.views id v w at refl ∙ r.parts;
            numbers = λ k. total_same (λ (u : View E). times k u.made) s.views id v w at refl ∙ r.numbers k;
            legal = r.legal;
            few = r.few;
            each = each_set (Fits r.drawn r.served r.log) s.views id w (λ j u n e. r.each j u e)
                (record { sees = mine.sees; hears = mine.hears; within = mine.within; one = mine.one; waits = mine.waits; gone = mine.gone; has = λ _. (one, sym mine_now, refl) });
            apart = apart_set s.views id w r.apart (λ j u n e one' _ is. n (r.apart j id u v e at one' one (sym is)));
            slot = inr (id, w, set_here s.views id w (inside s.views id v at), refl, ap (λ (hs : List (maybe.Option (Option (Desk O E)))). set hs 0 none) x.1);
          } in
          let all = alone s r id v at none_told in (
            w,
            takes 0 (Some d),
            ap (λ (hs : List (maybe.Option (Option (Desk O E)))). get_elem? hs 0) x.1,
            kept,
            (
              (λ _. record {
                desk = d;
                slot = refl;
                hand = sym x.2;
                stands_for = subst (stands d.object) (sym x.2) x.3;
                legal = subst (IsLegal gives_of) (sym x.2) r.legal;
                few = subst (λ (h : List E). length h ≤ most_entries) (sym x.2) r.few;
                sees = subst (λ (h : List E). StartsWith h v.seen) (sym x.2) mine.sees;
                within = λ k p. dite (dec_lt (length v.seen) k) (λ lt. let w = mine.within k p lt in absurd (omega (arith, ap length none_told))) (λ ge. omega arith);
                all = λ p. let both = all p in (both.0 ∙ sym x.2, λ k. both.1 k ∙ ap (λ (h : List E). once k (length h)) (sym x.2));
                keeps = (refl, refl, refl, refl);
                holds = refl;
              }),
              λ n. absurd (n e),
            ),
          ))
          (λ (x : IsOut s.views s.homes). absurd (dite (ℕ_discrete x.0 id)
          (λ is. off (sym free ∙ ap (λ (u : View E). u.holds) (sym (same_at s.views id x.0 v x.1 at x.2 is)) ∙ x.3))
          (λ n. sole s r id x.0 v x.1 at one (sym mine_now) n x.2 x.3)))
          r.slot

  notes : (s : St) (r : Kept s) (id : ℕ) (me : M) (h : List E) (made : List ℕ) (n : ℕ) → get_elem? s.views id ≡ some me.0 → me.0.holds ≡ true → n ≡ length h
      → StartsWith h r.log → IsLegal gives_of h → length h ≤ most_entries → ((k : ℕ) → times k made + once k (length r.log) ≡ times k me.0.made + once k (length h))
      → Kept (stepped s 2 n id me.1 (noted h made me.0) keeps)
  notes s r id me h made n at holds long longer_ legal few_ counts =
      let v = me.0 in
      let w = noted h made v in
      let mine = r.each id v at in
      let have = mine.has holds in
      let numbers_ : (k : ℕ) → total (λ (u : View E). times k u.made) (set s.views id w) ≡ once k (length h) = λ k. (let t = total_set (λ (u : View E). times k u.made) s.views id v w at in let c = counts k in let was = r.numbers k in omega arith) in
      let here : get_elem? (set s.views id w) id ≡ some w = set_here s.views id w (inside s.views id v at) in
      record {
        drawn = r.drawn;
        served = r.served;
        log = h;
        words = words_2 s _ _ _ _ r.words ∙ ap (λ (m : ℕ). r.drawn % 18446744073709551616 ∷ r.served % 18446744073709551616 ∷ m ∷ []) long;
        tickets = ap (λ (m : ℕ). r.served + m) (total_same (λ (u : View E). u.tickets) s.views id v w at refl) ∙ r.tickets;
        parts = total_same (λ (u : View E). u.part) s.views id v w at refl ∙ r.parts;
        numbers = numbers_;
        legal = legal;
        few = few_;
        each = each_set (Fits r.drawn r.served h) s.views id w
            (λ j u n e. let f = r.each j u e in record {
              sees = starts_trans h r.log u.seen longer_ f.sees;
              hears = starts_trans h r.log u.told longer_ f.hears;
              within = f.within;
              one = f.one;
              waits = f.waits;
              gone = f.gone;
              has = λ t. absurd (sole s r id j v u at have.0 have.1 n e t);
            })
            (record {
              sees = starts_refl h;
              hears = starts_trans h r.log v.told longer_ mine.hears;
              within = λ k p lt. (let le = total_at (λ (u : View E). times k u.made) (set s.views id w) id w here in let q = numbers_ k in let most = once_pos k (length h) (omega arith) in absurd (omega arith));
              one = mine.one;
              waits = mine.waits;
              gone = λ z. (let t = (mine.gone z).0 in let o = have.0 in absurd (omega arith));
              has = λ _. (have.0, have.1, refl);
            });
        apart = apart_set s.views id w r.apart (λ j u n e one' _ is. n (r.apart j id u v e at one' have.0 (sym is)));
        slot = inr (id, w, here, holds, out_of s r id v at holds);
      }

  pub notes_more : (slots id : ℕ) (me : M) (x : E) (by : ℕ) (call : C) (n : ℕ) → me.0.holds ≡ true → in_hand me.1 ≡ me.0.hand ++ x ∷ [] → x ≡ gives_of me.0.hand (length me.0.hand + 1) by call → n ≡ length me.0.hand + 1 → n ≤ most_entries
      → Allows Kept slots id me 2 (λ _. n) (λ _. NotesMore (step slots 2 n 0 none) me n)
  notes_more slots id me x by call n holds is gave long few_ s r _ at _ =
      let h = in_hand me.1 in
      let made = me.0.made ++ n ∷ [] in
      let log_is : me.0.hand ≡ r.log = ((r.each id me.0 at).has holds).2 in
      let h_is : h ≡ r.log ++ x ∷ [] = is ∙ ap (λ (l : List E). l ++ x ∷ []) log_is in
      let new : length h ≡ suc (length r.log) = omega (arith, ap length h_is, length-append r.log (x ∷ [])) in
      let n_is : n ≡ length h = omega (arith, ap length log_is) in
      let legal : IsLegal gives_of h = subst (IsLegal gives_of) (sym h_is) (legal_more gives_of r.log x by call r.legal (gave ∙ ap (λ (l : List E). gives_of l (length l + 1) by call) log_is)) in
      let counts : (k : ℕ) → times k made + once k (length r.log) ≡ times k me.0.made + once k (length h)
      = λ k. (let t = total-append (same k) me.0.made (n ∷ []) in let o : once k (length h) ≡ same k n + once k (length r.log) = ap (once k) new ∙ ap (λ (m : ℕ). same k m + once k (length r.log)) (sym new ∙ sym n_is) in omega arith) in
      (noted h made me.0, keeps, tt, notes s r id me h made n at holds n_is (x ∷ [], h_is) legal (omega arith) counts, (refl, refl))

  pub notes_same : (slots id : ℕ) (me : M) (n : ℕ) → me.0.holds ≡ true → in_hand me.1 ≡ me.0.hand → n ≡ length me.0.hand
      → Allows Kept slots id me 2 (λ _. n) (λ _. NotesSame (step slots 2 n 0 none) me n)
  notes_same slots id me n holds is long s r _ at _ =
      let h = in_hand me.1 in
      let h_is : h ≡ r.log = is ∙ ((r.each id me.0 at).has holds).2 in (
        noted h me.0.made me.0,
        keeps,
        tt,
        notes s r id me h me.0.made n at holds (omega (arith, ap length is)) ([], h_is ∙ sym (append_none r.log)) (subst (IsLegal gives_of) (sym h_is) r.legal) (subst (λ (l : List E). length l ≤ most_entries) (sym h_is) r.few) (λ k. ap (λ (l : List E). times k me.0.made + once k (length l)) (sym h_is)),
        (refl, refl),
      )

  pub passes : (slots id : ℕ) (me : M) (d : Desk O E) → me.0.holds ≡ true → me.0.told ≡ [] → me.1 ≡ (0, Some d) ∷ [] → d.history.items ≡ me.0.hand → stands d.object me.0.hand
      → Allows Kept slots id me 1 (λ n. (n + 1) % 2 ^ 64) (Passes (step slots 1 1 0 none) me)
  passes slots id me d holds none_told carried history stand s r _ at _ =
      let v = me.0 in
      let w : View E = idle v.seen v.made v.part in
      let mine = r.each id v at in
      let have = mine.has holds in
      let sum = total_set (λ (u : View E). u.tickets) s.views id v w at in
      let one = have.0 in
      let now = r.tickets in
      let found : get_or s.words 1 0 ≡ r.served % 18446744073709551616 = ap (λ (ws : List ℕ). get_or ws 1 0) r.words in
      let next : (get_or s.words 1 0 + 1) % 18446744073709551616 ≡ (r.served + 1) % 18446744073709551616 = omega arith in
      let log_is : r.log ≡ v.hand = sym have.2 in
      let home : put_back s.homes me.1 ≡ some (Some d) ∷ [] = λ i. put_back (out_of s r id v at holds i) (carried i) in
      let kept : Kept (stepped s 1 ((get_or s.words 1 0 + 1) % 18446744073709551616) id me.1 w gives) = record {
        drawn = r.drawn;
        served = r.served + 1;
        log = r.log;
        words = words_1 s _ _ _ _ r.words ∙ ap (λ (n : ℕ). r.drawn % 18446744073709551616 ∷ n ∷ length r.log ∷ []) next;
        tickets = omega arith;
        parts = total_same (λ (u : View E). u.part) s.views id v w at refl ∙ r.parts;
        numbers = λ k. total_same (λ (u : View E). times k u.made) s.views id v w at refl ∙ r.numbers k;
        legal = r.legal;
        few = r.few;
        each = each_set (Fits r.drawn (r.served + 1) r.log) s.views id w
            (λ j u n e. let f = r.each j u e in record {
              sees = f.sees;
              hears = f.hears;
              within = f.within;
              one = f.one;
              waits = λ o. (let t = f.waits o in dite (ℕ_discrete u.ticket r.served) (λ is. absurd (n (r.apart j id u v e at o one (is ∙ sym have.1)))) (λ ne. (omega arith, t.1)));
              gone = f.gone;
              has = λ t. absurd (sole s r id j v u at have.0 have.1 n e t);
            })
            (record { sees = mine.sees; hears = (r.log, refl); within = λ k p lt. (let t = mine.within k p lt in absurd (omega (arith, ap length none_told))); one = omega arith; waits = λ z. absurd (omega arith); gone = λ z. (refl, (mine.gone z).1); has = λ z. absurd (off z) });
        apart = apart_set s.views id w r.apart (λ j u n e _ z _. omega arith);
        slot = inl (d, home, history ∙ sym log_is, subst (stands d.object) (sym log_is) stand, each_set (λ u. u.holds ≡ false) s.views id w (λ j u n e. free u.holds (λ t. sole s r id j v u at have.0 have.1 n e t)) refl);
      } in
      (w, gives, tt, kept, (refl, refl))
    where
      free : (b : Bool) → (b ≡ true → ⊥) → b ≡ false
      free true n = absurd (n refl)
      free false n = refl

  -- the table at the start
  pub opens : (d : Desk O E) → d.history.items ≡ [] → stands d.object [] → Kept (opening (0 ∷ 0 ∷ 0 ∷ []) (Some d ∷ []) newcomer)
  opens d empty stand = record {
    drawn = 0;
    served = 0;
    log = [];
    words = refl;
    tickets = refl;
    parts = refl;
    numbers = λ k. refl;
    legal = λ k e at. absurd (some-ne-none e (sym at));
    few = omega arith;
    each = only (Fits 0 0 []) (record { sees = ([], refl); hears = ([], refl); within = λ k p lt. absurd (omega arith); one = omega arith; waits = λ z. absurd (omega arith); gone = λ _. (refl, refl); has = λ z. absurd (off z) });
    apart = λ i j v w at _ one _ _. absurd (only (λ u. u.tickets ≡ 1 → ⊥) (λ z. omega arith) i v at one);
    slot = inl (d, refl, empty, stand, only (λ u. u.holds ≡ false) refl);
  }
    where
      only : (P : View E → Type 0) → P newcomer → (j : ℕ) (v : View E) → get_elem? (newcomer ∷ []) j ≡ some v → P v
      only P p zero v at = subst P (some-injective newcomer v at) p
      only P p (suc j) v at = absurd (some-ne-none v (sym at))

  -- a seat that has no ticket is cut in two
  pub splits : (id : ℕ) (v : View E) → v.tickets ≡ 0 → v.holds ≡ false → v.told ≡ [] → given_of v.part < v.part → Splits Kept id v (kept_part v) (given_part v)
  splits id v none_out free none_told less s r at =
      let w = kept_part v in
      let y = given_part v in
      let mine = r.each id v at in
      let views = set s.views id w in
      let sum_of : (f : View E → ℕ) → total f (views ++ y ∷ []) + f v ≡ total f s.views + f w + f y = λ f. (let a = total_set f s.views id v w at in let b = total-append f views (y ∷ []) in omega arith) in
      let whose : (P : View E → Type 0) → ((j : ℕ) (u : View E) → j ≢ id → get_elem? s.views j ≡ some u → P u) → P w → P y → (j : ℕ) (u : View E) → get_elem? (views ++ y ∷ []) j ≡ some u → P u
      = λ P o p q j u e. ⊎_elim (λ (t : get_elem? views j ≡ some u). each_set P s.views id w o p j u t) (λ (t : y ≡ u). subst P t q) (at_snoc views y u j e) in
      record {
        drawn = r.drawn;
        served = r.served;
        log = r.log;
        words = r.words;
        tickets = (let t = sum_of (λ u. u.tickets) in let b = r.tickets in omega arith);
        parts = (let t = sum_of (λ u. u.part) in let b = r.parts in omega arith);
        numbers = λ k. (let t = sum_of (λ u. times k u.made) in let b = r.numbers k in omega arith);
        legal = r.legal;
        few = r.few;
        each = whose (Fits r.drawn r.served r.log) (λ j u n e. r.each j u e)
            (record { sees = mine.sees; hears = (r.log, refl); within = λ k p lt. (let t = mine.within k p lt in absurd (omega (arith, ap length none_told))); one = omega arith; waits = λ z. absurd (omega arith); gone = λ z. absurd (omega arith); has = λ z. absurd (off z) })
            (record { sees = mine.sees; hears = (r.log, refl); within = λ k p lt. absurd (omega arith); one = omega arith; waits = λ z. absurd (omega arith); gone = λ z. (refl, refl); has = λ z. absurd (off z) });
        apart = λ i j a b ei ej ti tj is. ⊎_elim
            (λ (x : get_elem? views i ≡ some a). ⊎_elim
            (λ (z : get_elem? views j ≡ some b). apart_set s.views id w r.apart (λ j u n e _ q _. omega arith) i j a b x z ti tj is)
            (λ (z : y ≡ b). let q : y.tickets ≡ b.tickets = ap (λ (u : View E). u.tickets) z in absurd (omega arith))
            (at_snoc views y b j ej))
            (λ (z : y ≡ a). let q : y.tickets ≡ a.tickets = ap (λ (u : View E). u.tickets) z in absurd (omega arith))
            (at_snoc views y a i ei);
        slot = ⊎_elim
            (λ (x : IsHome stands r.log s.views s.homes). inl (x.0, x.1, x.2, x.3, whose (λ u. u.holds ≡ false) (λ j u _ e. x.4 j u e) refl refl))
            (λ (x : IsOut s.views s.homes). inr (x.0, x.1, at_longer views (y ∷ []) x.0 x.1 (set_else s.views id x.0 w (λ e. off (sym free ∙ ap (λ (u : View E). u.holds) (sym (same_at s.views id x.0 v x.1 at x.2 e)) ∙ x.3)) ∙ x.2), x.3, x.4))
            r.slot;
      }

  -- a seat takes in another
  pub joins : (id : ℕ) (v : View E) (other : ℕ) (o : View E) → v.tickets ≡ 0 → v.holds ≡ false → v.told ≡ [] → 0 < v.part → o.tickets ≡ 0 → o.holds ≡ false → o.told ≡ [] → Joins Kept id v other o (both v o) spent
  joins id v other o none_out free none_told some_part none_out' free' none_told' s r at apart_ at' =
      let w = both v o in
      let mine = r.each id v at in
      let views = set s.views id w in
      let at_other : get_elem? s.views other ≡ some o = sym (set_else s.views id other w apart_) ∙ at' in
      let theirs = r.each other o at_other in
      let sum_of : (f : View E → ℕ) → f spent ≡ 0 → f w ≡ f v + f o → total f (set views other spent) ≡ total f s.views
      = λ f z p. (let a = total_set f s.views id v w at in let b = total_set f views other o spent at' in omega arith) in
      let whose : (P : View E → Type 0) → ((j : ℕ) (u : View E) → j ≢ id → get_elem? s.views j ≡ some u → P u) → P w → P spent → (j : ℕ) (u : View E) → get_elem? (set views other spent) j ≡ some u → P u
      = λ P f p q. each_set P views other spent (λ j u n e. each_set P s.views id w f p j u e) q in
      record {
        drawn = r.drawn;
        served = r.served;
        log = r.log;
        words = r.words;
        tickets = ap (λ (n : ℕ). r.served + n) (sum_of (λ u. u.tickets) refl (omega arith)) ∙ r.tickets;
        parts = sum_of (λ u. u.part) refl refl ∙ r.parts;
        numbers = λ k. sum_of (λ u. times k u.made) refl (total-append (same k) v.made o.made) ∙ r.numbers k;
        legal = r.legal;
        few = r.few;
        each = whose (Fits r.drawn r.served r.log) (λ j u n e. r.each j u e)
            (record {
              sees = mine.sees;
              hears = theirs.sees;
              within = λ k p lt. (let t = total-append (same k) v.made o.made in
                  dite (ℕ_discrete (times k v.made) 0)
                  (λ z. dite (dec_lt (length o.seen) k) (λ lt'. let q = theirs.within k (omega arith) lt' in absurd (omega (arith, ap length none_told'))) (λ ge. omega arith))
                  (λ z. let q = mine.within k (omega arith) lt in absurd (omega (arith, ap length none_told))));
              one = omega arith;
              waits = λ z. absurd (omega arith);
              gone = λ z. absurd (omega arith);
              has = λ z. absurd (off z);
            })
            (record { sees = (r.log, refl); hears = (r.log, refl); within = λ k p lt. absurd (omega arith); one = omega arith; waits = λ z. absurd (omega arith); gone = λ _. (refl, refl); has = λ z. absurd (off z) });
        apart = apart_set views other spent (apart_set s.views id w r.apart (λ j u n e _ q _. omega arith)) (λ j u n e _ q _. omega arith);
        slot = ⊎_elim
            (λ (x : IsHome stands r.log s.views s.homes). inl (x.0, x.1, x.2, x.3, whose (λ u. u.holds ≡ false) (λ j u _ e. x.4 j u e) refl refl))
            (λ (x : IsOut s.views s.homes). inr (
              x.0,
              x.1,
              set_else views other x.0 spent (λ e. off (sym free' ∙ ap (λ (u : View E). u.holds) (sym (same_at s.views other x.0 o x.1 at_other x.2 e)) ∙ x.3))
                  ∙ set_else s.views id x.0 w (λ e. off (sym free ∙ ap (λ (u : View E). u.holds) (sym (same_at s.views id x.0 v x.1 at x.2 e)) ∙ x.3)) ∙ x.2,
              x.3,
              x.4,
            ))
            r.slot;
      }

  -- the same of a seat that has a desk in hand
  pub notes_more_at : (slots id : ℕ) (me : M) (v : View E) (d : Desk O E) (n : ℕ) → me ≡ (v, (0, Some d) ∷ []) → v.holds ≡ true → IsMore gives_of v.hand d.history.items → n ≡ length d.history.items → n ≤ most_entries
      → Allows Kept slots id me 2 (λ _. n) (λ _. NotesMore (step slots 2 n 0 none) me n)
  notes_more_at slots id me v d n e holds more long few_ =
      let P : M → Type 0 = λ m. Allows Kept slots id m 2 (λ _. n) (λ _. NotesMore (step slots 2 n 0 none) m n) in
      subst P (sym e) (notes_more slots id (v, (0, Some d) ∷ []) more.0 more.1 more.2 n holds more.3 more.4 (omega (arith, ap length more.3, length-append v.hand (more.0 ∷ []))) few_)

  pub notes_same_at : (slots id : ℕ) (me : M) (v : View E) (d : Desk O E) (n : ℕ) → me ≡ (v, (0, Some d) ∷ []) → v.holds ≡ true → d.history.items ≡ v.hand → n ≡ length d.history.items
      → Allows Kept slots id me 2 (λ _. n) (λ _. NotesSame (step slots 2 n 0 none) me n)
  notes_same_at slots id me v d n e holds is long =
      let P : M → Type 0 = λ m. Allows Kept slots id m 2 (λ _. n) (λ _. NotesSame (step slots 2 n 0 none) m n) in
      subst P (sym e) (notes_same slots id (v, (0, Some d) ∷ []) n holds is (long ∙ ap length is))

  pub passes_at : (slots id : ℕ) (me : M) (v : View E) (d : Desk O E) (made : List ℕ) → me ≡ (noted d.history.items made v, (0, Some d) ∷ []) → v.holds ≡ true → v.told ≡ [] → stands d.object d.history.items
      → Allows Kept slots id me 1 (λ n. (n + 1) % 2 ^ 64) (Passes (step slots 1 1 0 none) me)
  passes_at slots id me v d made e holds none_told stand =
      let P : M → Type 0 = λ m. Allows Kept slots id m 1 (λ n. (n + 1) % 2 ^ 64) (Passes (step slots 1 1 0 none) m) in
      subst P (sym e) (passes slots id (noted d.history.items made v, (0, Some d) ∷ []) d holds none_told refl refl stand)

  pub gives_back_at : (slots id : ℕ) (me : M) (v : View E) (d : Desk O E) → me ≡ (v, (0, Some d) ∷ []) → v.holds ≡ true → v.told ≡ [] → d.history.items ≡ v.hand → stands d.object d.history.items
      → Allows Kept slots id me 1 (λ n. (n + 1) % 2 ^ 64) (Passes (step slots 1 1 0 none) me)
  gives_back_at slots id me v d e holds none_told is stand =
      let P : M → Type 0 = λ m. Allows Kept slots id m 1 (λ n. (n + 1) % 2 ^ 64) (Passes (step slots 1 1 0 none) m) in
      subst P (sym e) (passes slots id (v, (0, Some d) ∷ []) d holds none_told refl is (subst (stands d.object) is stand))

  pub learns : (slots id : ℕ) (me : M) → me.0.tickets ≡ 0 → me.0.holds ≡ false → 0 < me.0.part → Allows Kept slots id me 0 (λ n. n) (learned (step slots 0 0 0 none) me)
  learns slots id me none_out free some_part s r _ at _ =
      let v = me.0 in
      let h = longer v.seen v.told in
      let w = idle h v.made v.part in
      let mine = r.each id v at in
      let same_words : set s.words 0 (get_or s.words 0 0) ≡ s.words = subst (λ (ws : List ℕ). set ws 0 (get_or ws 0 0) ≡ ws) (sym r.words) refl in
      let most = total_at (λ (u : View E). u.part) s.views id v at in
      let le = longer_of v.seen v.told in
      let within_ : (k : ℕ) → 0 < times k v.made → k ≤ length h = λ k p. dite (dec_lt (length v.seen) k) (λ lt. let t = mine.within k p lt in omega arith) (λ ge. omega arith) in
      let kept : Kept (stepped s 0 (get_or s.words 0 0) id me.1 w keeps) = record {
        drawn = r.drawn;
        served = r.served;
        log = r.log;
        words = same_words ∙ r.words;
        tickets = ap (λ (n : ℕ). r.served + n) (total_same (λ (u : View E). u.tickets) s.views id v w at (sym none_out)) ∙ r.tickets;
        parts = total_same (λ (u : View E). u.part) s.views id v w at refl ∙ r.parts;
        numbers = λ k. total_same (λ (u : View E). times k u.made) s.views id v w at refl ∙ r.numbers k;
        legal = r.legal;
        few = r.few;
        each = each_set (Fits r.drawn r.served r.log) s.views id w (λ j u n e. r.each j u e)
            (record { sees = longer_is (λ l. StartsWith r.log l) v.seen v.told mine.sees mine.hears; hears = (r.log, refl); within = λ k p lt. (let t = within_ k p in absurd (omega arith)); one = omega arith; waits = λ z. absurd (omega arith); gone = λ z. absurd (omega arith); has = λ z. absurd (off z) });
        apart = apart_set s.views id w r.apart (λ j u n e _ q _. omega arith);
        slot = ⊎_elim
            (λ (x : IsHome stands r.log s.views s.homes). inl (x.0, x.1, x.2, x.3, each_set (λ u. u.holds ≡ false) s.views id w (λ j u _ e. x.4 j u e) refl))
            (λ (x : IsOut s.views s.homes). inr (x.0, x.1, set_else s.views id x.0 w (λ e. off (sym free ∙ ap (λ (u : View E). u.holds) (sym (same_at s.views id x.0 v x.1 at x.2 e)) ∙ x.3)) ∙ x.2, x.3, x.4))
            r.slot;
      } in
      let at' : get_elem? (set s.views id w) id ≡ some w = set_here s.views id w (inside s.views id v at) in (
        w,
        keeps,
        tt,
        kept,
        record {
          is = refl;
          sees = longer_starts r.log v.seen v.told mine.sees mine.hears;
          hears = longer_hears r.log v.seen v.told mine.sees mine.hears;
          within = within_;
          at_most = omega (arith, r.parts);
          all = λ p. let a = alone (stepped s 0 (get_or s.words 0 0) id me.1 w keeps) kept id w at' refl p in λ k. a.1 k ∙ ap (λ (l : List E). once k (length l)) (sym a.0);
        },
      )

  no_tickets : (s : St) (r : Kept s) (t u : ℕ) → get_elem? s.words 0 ≡ some t → get_elem? s.words 1 ≡ some u → t ≡ u → total (λ (x : View E). x.tickets) s.views ≡ 0
  no_tickets s r t u at_t at_u e =
      let few = few_out s r in
      let now = r.tickets in
      let t_is : r.drawn % 18446744073709551616 ≡ t = some-injective _ _ (sym (ap (λ (ws : List ℕ). get_elem? ws 0) r.words) ∙ at_t) in
      let u_is : r.served % 18446744073709551616 ≡ u = some-injective _ _ (sym (ap (λ (ws : List ℕ). get_elem? ws 1) r.words) ∙ at_u) in
      let level : r.served ≡ r.drawn = one_turn r.served r.drawn 18446744073709551616 (omega arith) (omega arith) (u_is ∙ sym e ∙ sym t_is) in
      omega arith

  -- with no ticket out the object is at home, with the history
  pub closes : (b : BookId) (id : ℕ) (v : View E) (ws : List ℕ) (xs : List (Option (Desk O E))) (t u : ℕ) (x : Option (Desk O E)) → Final (Seen Kept id v) ws xs → v.told ≡ []
      → get_elem? ws 0 ≡ some t → get_elem? ws 1 ≡ some u → t ≡ u → get_elem? xs 0 ≡ some x → (d : Desk O E) × (x ≡ Some d) × Ends gives_of (record { book = b; seen = v.seen; made = v.made; part = v.part }) d.history.items
  closes b id v ws xs t u x f none_told at_t at_u e at_x =
      let s = f.0 in
      let r = f.1.0 in
      let at = f.1.1 in
      let none_out = no_tickets s r t u (ap (λ (l : List ℕ). get_elem? l 0) f.2 ∙ at_t) (ap (λ (l : List ℕ). get_elem? l 1) f.2 ∙ at_u) e in
      ⊎_elim
      (λ (h : IsHome stands r.log s.views s.homes).
      let d = h.0 in
      let here : get_elem? xs 0 ≡ some (Some d) = f.4 0 (Some d) (ap (λ (l : List (maybe.Option (Option (Desk O E)))). get_elem? l 0) h.1) in
      let log_is : r.log ≡ d.history.items = sym h.2 in
      let mine = r.each id v at in (
        d,
        some-injective x (Some d) (sym at_x ∙ here),
        record {
          legal = subst (IsLegal gives_of) log_is r.legal;
          sees = subst (λ (l : List E). StartsWith l v.seen) log_is mine.sees;
          others = others_of s.views id;
          numbers = λ k. times-others k s.views id v at ∙ r.numbers k ∙ ap (λ (l : List E). once k (length l)) log_is;
          all = λ p. (
            sym log_is ∙ sym (alone s r id v at none_told p).0,
            others_none s.views id (λ j u n e. ((r.each j u e).gone (total_other (λ (y : View E). y.part) s.views id j v u at e n (p ∙ sym r.parts))).1),
          );
        },
      ))
      (λ (o : IsOut s.views s.homes). let one = ((r.each o.0 o.1 o.2).has o.3).0 in let le = total_at (λ (y : View E). y.tickets) s.views o.0 o.1 o.2 in absurd (omega arith))
      r.slot

  -- a seat with all of one finds no ticket out
  pub level : (id : ℕ) (v : View E) (ws : List ℕ) (xs : List (Option (Desk O E))) (t u : ℕ) → Final (Seen Kept id v) ws xs → get_elem? ws 0 ≡ some t → get_elem? ws 1 ≡ some u → v.tickets ≡ 0 → v.part ≡ whole → t ≡ u
  level id v ws xs t u f at_t at_u free all =
      let s = f.0 in
      let r = f.1.0 in
      let at = f.1.1 in
      let none_out : total (λ (x : View E). x.tickets) s.views ≡ 0 = total_alone (λ (x : View E). x.tickets) s.views id v at
      (λ j y e n. ((r.each j y e).gone (total_other (λ (x : View E). x.part) s.views id j v y at e n (all ∙ sym r.parts))).0) ∙ free in
      let now = r.tickets in
      let same_number : r.drawn ≡ r.served = omega arith in
      let t_is : r.drawn % 18446744073709551616 ≡ t = some-injective _ _ (sym (ap (λ (l : List ℕ). get_elem? l 0) r.words) ∙ ap (λ (l : List ℕ). get_elem? l 0) f.2 ∙ at_t) in
      let u_is : r.served % 18446744073709551616 ≡ u = some-injective _ _ (sym (ap (λ (l : List ℕ). get_elem? l 1) r.words) ∙ ap (λ (l : List ℕ). get_elem? l 1) f.2 ∙ at_u) in
      sym t_is ∙ ap (λ (n : ℕ). n % 18446744073709551616) same_number ∙ u_is
