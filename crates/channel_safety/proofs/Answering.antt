-- A supported chain with a next state, which follows and is well signed, is supported again, and ends with that state.
use Rattle.std.proofs.Common.{◌≡◌, ℕ, zero, suc, ◌+◌, ◌-◌, ◌%◌, ◌<◌, ◌≤◌, Bool, true, false, List, [], ◌∷◌, ◌++◌, ◌⊎◌, inl, inr, length, drop, refl, sym, ◌∙◌, ap, subst, arith, length-append, length-drop}
use Rattle.std.specs.Prelude.{min, nat_lt, slice_set, Some, None}
use Rattle.std.specs.List.{slice_get}
use Rattle.std.proofs.lemmas.List.{length-map, length-set}
use Rattle.std.proofs.lemmas.Bool.Decides.{nat_tests}
use Rattle.channel_values.specs.Parts.{FixedParts, StateParts}
use Rattle.channel_values.specs.declared.chain.Signed.{Signed}
use Rattle.channel_values.specs.declared.chain.Mark.{Mark}
use Rattle.channel_values.specs.Rows.{last_of, last_turn}
use Rattle.channel_values.specs.Rules.{Rules, people, newest, turn_of, top_turn, signs_state, is_signed_well}
use Rattle.channel_values.specs.Supported.{Rises, AreSteps}
use Rattle.channel_values.proofs.Turns.{last_turn_at_most, last_turn_greatest, last_turn_mine}
use Rattle.call_history.specs.Marked.{Marked, is_supported, put, longer, lowest, lowered, answered}
use Rattle.channel_safety.specs.Journals.{In}
use Rattle.channel_safety.specs.Good.{InTurn, InSteps}
use Rattle.channel_safety.specs.Strings.{signed_marks}
use Rattle.channel_safety.proofs.Tests.{cond-false, cond-true, le_or_lt, some-eq, none-eq}
use Rattle.channel_safety.proofs.Lists.{In-append_cases, In-drop, get-within, get-append, get-end, get-drop, Mapped, get-map, get-set, get-push}
use Rattle.channel_safety.proofs.Chains.{last_turn-low, turn_at, top_at, Stood, Parts, parts, whole, to_mark, FromMark, from_mark}

-- a mark after another was added is that one or was there
pub get-put : (n j : ℕ) (m : Mark) (marks : List Mark) (i : ℕ) (x : Mark) → slice_get (put n j m marks) i ≡ Some x → (x ≡ m) ⊎ (slice_get marks i ≡ Some x)
get-put n j m marks i x e = go (nat_lt (length marks) n) refl
  where
    either : ((i ≡ j) × (x ≡ m)) ⊎ ((i ≡ j → ⊥) × (slice_get marks i ≡ Some x)) → (x ≡ m) ⊎ (slice_get marks i ≡ Some x)
    either (inl p) = inl p.1
    either (inr p) = inr p.1

    pushed : ((i ≡ length marks) × (x ≡ m)) ⊎ (slice_get marks i ≡ Some x) → (x ≡ m) ⊎ (slice_get marks i ≡ Some x)
    pushed (inl p) = inl p.1
    pushed (inr p) = inr p

    go : (b : Bool) → nat_lt (length marks) n ≡ b → (x ≡ m) ⊎ (slice_get marks i ≡ Some x)
    go true t = pushed (get-push marks i m x (subst (λ (ms : List Mark). slice_get ms i ≡ Some x) (cond-true (nat_lt (length marks) n) (marks ++ m ∷ []) (slice_set marks j m) t) e))
    go false t = either (get-set marks j i m x (subst (λ (ms : List Mark). slice_get ms i ≡ Some x) (cond-false (nat_lt (length marks) n) (marks ++ m ∷ []) (slice_set marks j m) t) e))

-- the first marked place
pub lowest-le : (p : ℕ) (marks : List Mark) → lowest p marks ≤ p
lowest-le p [] = omega arith
lowest-le p (m ∷ rest) = let a : lowest (min m.place p) rest ≤ min m.place p = lowest-le (min m.place p) rest in omega arith

pub lowest-at : (p : ℕ) (marks : List Mark) (i : ℕ) (m : Mark) → slice_get marks i ≡ Some m → lowest p marks ≤ m.place
lowest-at p [] i m e = absurd (none-eq m e)
lowest-at p (x ∷ rest) zero m e =
    let a : x.place ≡ m.place = ap (λ (y : Mark). y.place) (some-eq x m e) in
    let b : lowest (min x.place p) rest ≤ min x.place p = lowest-le (min x.place p) rest in
    omega arith
lowest-at p (x ∷ rest) (suc i) m e = lowest-at (min x.place p) rest i m e

lowest-above : (b p : ℕ) (marks : List Mark) → b ≤ p → ((i : ℕ) (m : Mark) → slice_get marks i ≡ Some m → b ≤ m.place) → b ≤ lowest p marks
lowest-above b p [] h each = h
lowest-above b p (x ∷ rest) h each = let c : b ≤ x.place = each 0 x refl in lowest-above b (min x.place p) rest (omega arith) (λ i m e. each (suc i) m e)

-- each mark stands on a state of the chain
abbrev pub PlacesIn : Marked → Type 0
PlacesIn w = (i : ℕ) (m : Mark) → slice_get w.marks i ≡ Some m → m.place < length w.states

pub supported-places : (r : Rules) (F : FixedParts) (w : Marked) → is_supported r F w ≡ true → PlacesIn w
supported-places r F w h i m e =
    let s = (parts r F w h).stand i m e in
    get-within w.states m.place s.state s.is

-- what an answer leaves signed: itself, and what was signed in the chain
pub answered-signed : (F : FixedParts) (s : Signed) (w : Marked) (x : Signed) → PlacesIn w → In x (signed_marks (answered F s w).states (answered F s w).marks) → (x ≡ s) ⊎ In x (signed_marks w.states w.marks)
answered-signed F s w x within i = by_mark (from_mark (answered F s w).states (answered F s w).marks x i)
  where
    L : List Mark
    L = (longer F s w).marks

    by_mark : FromMark (answered F s w).states (answered F s w).marks x → (x ≡ s) ⊎ In x (signed_marks w.states w.marks)
    by_mark f = by_map (get-map (lowered (lowest (length w.states) (longer F s w).marks)) (longer F s w).marks f.number f.mark f.at)
      where
        by_map : Mapped (lowered (lowest (length w.states) (longer F s w).marks)) (longer F s w).marks f.number f.mark → (x ≡ s) ⊎ In x (signed_marks w.states w.marks)
        by_map g = by_put (get-put (people F) (s.state.turn % people F) (record { place = length w.states; signature = s.signature }) w.marks f.number g.from g.at)
          where
            d : ℕ
            d = lowest (length w.states) (longer F s w).marks

            place : f.mark.place ≡ g.from.place - lowest (length w.states) (longer F s w).marks
            place = ap (λ (m : Mark). m.place) g.is

            signature : x.signature ≡ g.from.signature
            signature = f.same ∙ ap (λ (m : Mark). m.signature) g.is

            on : slice_get (w.states ++ s.state ∷ []) g.from.place ≡ Some x.state
            on =
                sym (get-drop (w.states ++ s.state ∷ []) (lowest (length w.states) (longer F s w).marks) g.from.place (lowest-at (length w.states) (longer F s w).marks f.number g.from g.at))
                ∙ (ap (slice_get (drop (lowest (length w.states) (longer F s w).marks) (w.states ++ s.state ∷ []))) (sym place) ∙ f.on)

            signed-eq : (a b : Signed) → a.state ≡ b.state → a.signature ≡ b.signature → a ≡ b
            signed-eq a b p q = ap (λ (y : StateParts). record { state = y; signature = a.signature }) p ∙ ap (λ (y : List ℕ). record { state = b.state; signature = y }) q

            by_put : (g.from ≡ record { place = length w.states; signature = s.signature }) ⊎ (slice_get w.marks f.number ≡ Some g.from) → (x ≡ s) ⊎ In x (signed_marks w.states w.marks)
            by_put (inl e) =
                let p : g.from.place ≡ length w.states = ap (λ (m : Mark). m.place) e in
                let here : Some s.state ≡ Some x.state = sym (get-end w.states s.state) ∙ (ap (slice_get (w.states ++ s.state ∷ [])) (sym p) ∙ on) in
                inl (signed-eq x s (sym (some-eq s.state x.state here)) (signature ∙ ap (λ (m : Mark). m.signature) e))
            by_put (inr e) =
                let b : g.from.place < length w.states = within f.number g.from e in
                let there : slice_get w.states g.from.place ≡ Some x.state = sym (get-append w.states (s.state ∷ []) g.from.place b) ∙ on in
                inr (subst (λ (y : Signed). In y (signed_marks w.states w.marks)) (signed-eq (record { state = x.state; signature = g.from.signature }) x refl (sym signature))
                (to_mark w.states w.marks f.number g.from x.state e there))

-- its states are those of the chain, and the new one
pub answered-states : (F : FixedParts) (s : Signed) (w : Marked) (x : StateParts) → In x (answered F s w).states → (x ≡ s.state) ⊎ In x w.states
answered-states F s w x i = cases (In-append_cases x w.states (s.state ∷ []) (In-drop x (lowest (length w.states) (longer F s w).marks) (w.states ++ s.state ∷ []) i))
  where
    cases : In x w.states ⊎ In x (s.state ∷ []) → (x ≡ s.state) ⊎ In x w.states
    cases (inl j) = inr j
    cases (inr (inl e)) = inl e
    cases (inr (inr j)) = absurd j

-- one more state at the end
pub turns-append : (a : StateParts) (rest : List StateParts) (s : StateParts) → Rises a rest → s.turn ≡ (last_of a rest).turn + 1 → Rises a (rest ++ s ∷ [])
turns-append a [] s h e = (e, tt)
turns-append a (t ∷ rest) s h e = (h.0, turns-append t rest s h.1 e)

pub steps-append : (r : Rules) (F : FixedParts) (a : StateParts) (rest : List StateParts) (s : StateParts) → AreSteps r F a rest → r.step F (last_of a rest) s ≡ None → AreSteps r F a (rest ++ s ∷ [])
steps-append r F a [] s h e = (e, tt)
steps-append r F a (t ∷ rest) s h e = (h.0, steps-append r F t rest s h.1 e)

-- from a later state on
turns-drop : (d : ℕ) (xs : List StateParts) → InTurn xs → InTurn (drop d xs)
turns-drop zero xs h = h
turns-drop (suc d) [] h = h
turns-drop (suc d) (x ∷ rest) h = turns-drop d rest (tail rest h)
  where
    tail : (rest : List StateParts) → Rises x rest → InTurn rest
    tail [] h = tt
    tail (t ∷ rest) h = h.1

steps-drop : (r : Rules) (F : FixedParts) (d : ℕ) (xs : List StateParts) → InSteps r F xs → InSteps r F (drop d xs)
steps-drop r F zero xs h = h
steps-drop r F (suc d) [] h = h
steps-drop r F (suc d) (x ∷ rest) h = steps-drop r F d rest (tail rest h)
  where
    tail : (rest : List StateParts) → AreSteps r F x rest → InSteps r F rest
    tail [] h = tt
    tail (t ∷ rest) h = h.1

pub last_of-end : (x : StateParts) (xs : List StateParts) (s : StateParts) → last_of x (xs ++ s ∷ []) ≡ s
last_of-end x [] s = refl
last_of-end x (y ∷ xs) s = last_of-end y xs s

pub newest-end : (d : ℕ) (xs : List StateParts) (s : StateParts) → d ≤ length xs → newest (drop d (xs ++ s ∷ [])) ≡ Some s
newest-end zero [] s h = refl
newest-end zero (x ∷ xs) s h = ap (λ (y : StateParts). Some y) (last_of-end x xs s)
newest-end (suc d) [] s h = absurd (omega arith)
newest-end (suc d) (x ∷ xs) s h = newest-end d xs s (omega arith)

-- one turn on, only the mover's last turn has risen
last_turn-next : (n t i : ℕ) → i < n → n ≤ t + 1 → (i ≡ (t + 1) % n → ⊥) → last_turn n i (t + 1) ≤ last_turn n i t
last_turn-next n t i small high other = go (le_or_lt (last_turn n i (t + 1)) t) (last_turn_mine n i (t + 1) small (omega arith)) (last_turn_at_most n i (t + 1))
  where
    go : (last_turn n i (t + 1) ≤ t) ⊎ (t < last_turn n i (t + 1)) → last_turn n i (t + 1) % n ≡ i → last_turn n i (t + 1) ≤ t + 1 → last_turn n i (t + 1) ≤ last_turn n i t
    go (inl l) mine most = last_turn_greatest n i t (last_turn n i (t + 1)) l mine
    go (inr l) mine most =
        let at : last_turn n i (t + 1) ≡ t + 1 = omega arith in
        absurd (other (sym mine ∙ ap (λ (x : ℕ). x % n) at))

pub record Answered (r : Rules) (F : FixedParts) (s : Signed) (w : Marked) : Type 0 where
  pub chain : is_supported r F (answered F s w) ≡ true
  pub ends : newest (answered F s w).states ≡ Some s.state

module _ (r : Rules) (F : FixedParts) (s : Signed) (a : StateParts) (rest : List StateParts) (marks : List Mark) (p : Parts r F (record { states = a ∷ rest; marks = marks }))
    (turn : s.state.turn ≡ (last_of a rest).turn + 1) (step : r.step F (last_of a rest) s.state ≡ None) (well : is_signed_well r F s ≡ true) where
  abbrev w : Marked
  w = record { states = a ∷ rest; marks = marks }

  abbrev new : Mark
  new = record { place = length (a ∷ rest); signature = s.signature }

  abbrev d : ℕ
  d = lowest (length (a ∷ rest)) (longer F s w).marks

  full : (longer F s w).marks ≡ slice_set marks (s.state.turn % people F) new
  full = cond-false (nat_lt (length marks) (people F)) (marks ++ new ∷ []) (slice_set marks (s.state.turn % people F) new) (not-less (length marks) (people F) p.marks)
    where
      not-less : (x y : ℕ) → x ≡ y → nat_lt x y ≡ false
      not-less x y h = grind (arith, nat_tests)

  -- a mark stands in the longer chain, at a place that is not too far back
  record Kept (i : ℕ) (m : Mark) : Type 0 where
    pub state : StateParts
    pub on : slice_get ((a ∷ rest) ++ s.state ∷ []) m.place ≡ Some state
    pub from : last_turn (people F) i s.state.turn ≤ state.turn
    pub verified : signs_state r F i state m.signature ≡ true
    pub near : length (a ∷ rest) + 1 ≤ m.place + people F

  kept : (i : ℕ) (m : Mark) → slice_get (longer F s w).marks i ≡ Some m → Kept i m
  kept i m e = cases (get-set marks (s.state.turn % people F) i new m (subst (λ (ms : List Mark). slice_get ms i ≡ Some m) full e))
    where
      cases : ((i ≡ s.state.turn % people F) × (m ≡ new)) ⊎ ((i ≡ s.state.turn % people F → ⊥) × (slice_get marks i ≡ Some m)) → Kept i m
      cases (inl q) =
          let at : m.place ≡ length (a ∷ rest) = ap (λ (y : Mark). y.place) q.1 in
          let some : 1 ≤ length (a ∷ rest) = p.some in
          let few : length (a ∷ rest) ≤ people F = p.few in
          record {
            state = s.state;
            on = ap (slice_get ((a ∷ rest) ++ s.state ∷ [])) at ∙ get-end (a ∷ rest) s.state;
            from = last_turn_at_most (people F) i s.state.turn;
            verified = subst (λ (k : ℕ). signs_state r F k s.state m.signature ≡ true) (sym q.0)
                (subst (λ (y : Mark). signs_state r F (s.state.turn % people F) s.state y.signature ≡ true) (sym q.1) well);
            near = omega arith;
          }
      cases (inr q) = old (p.stand i m q.1)
        where
          old : Stood r F (last_of a rest).turn i m (slice_get (a ∷ rest) m.place) → Kept i m
          old st =
              let small : i < people F = (let b : i < length marks = get-within marks i m q.1 in let c : length marks ≡ people F = p.marks in omega arith) in
              let high : people F ≤ (last_of a rest).turn + 1 = p.high in
              let b : last_turn (people F) i (last_of a rest).turn ≤ st.state.turn = st.from in
              let c : last_turn (people F) i ((last_of a rest).turn + 1) ≤ last_turn (people F) i (last_of a rest).turn =
              last_turn-next (people F) (last_of a rest).turn i small high (λ x. q.0 (x ∙ ap (λ (y : ℕ). y % people F) (sym turn))) in
              let low : (last_of a rest).turn + 1 < last_turn (people F) i ((last_of a rest).turn + 1) + people F = last_turn-low (people F) ((last_of a rest).turn + 1) i small (late-enough i (people F) (last_of a rest).turn small high) in
              let at : st.state.turn ≡ a.turn + m.place = turn_at a rest m.place st.state p.turns st.is in
              let top : (last_of a rest).turn ≡ a.turn + length rest = top_at a rest p.turns in
              record {
                state = st.state;
                on = get-append (a ∷ rest) (s.state ∷ []) m.place (get-within (a ∷ rest) m.place st.state st.is) ∙ st.is;
                from = subst (λ (x : ℕ). last_turn (people F) i x ≤ st.state.turn) (sym turn) (trans-le (last_turn (people F) i ((last_of a rest).turn + 1)) (last_turn (people F) i (last_of a rest).turn) st.state.turn c b);
                verified = st.well;
                near = near-enough (last_turn (people F) i ((last_of a rest).turn + 1)) (last_turn (people F) i (last_of a rest).turn) st.state.turn a.turn m.place (length rest) (last_of a rest).turn (people F) c b low at top;
              }
            where
              late-enough : (i n t : ℕ) → i < n → n ≤ t + 1 → i ≤ t + 1
              late-enough i n t p q = omega arith

              trans-le : (x y z : ℕ) → x ≤ y → y ≤ z → x ≤ z
              trans-le x y z p q = omega arith

              near-enough : (v u x f place k t n : ℕ) → v ≤ u → u ≤ x → t + 1 < v + n → x ≡ f + place → t ≡ f + k → suc k + 1 ≤ place + n
              near-enough v u x f place k t n c b low at top = omega arith

  below : d ≤ length (a ∷ rest)
  below = lowest-le (length (a ∷ rest)) (longer F s w).marks

  above : length (a ∷ rest) + 1 - people F ≤ d
  above =
      lowest-above (length (a ∷ rest) + 1 - people F) (length (a ∷ rest)) (longer F s w).marks
      (let some : 1 ≤ length (a ∷ rest) = p.some in let few : length (a ∷ rest) ≤ people F = p.few in omega arith)
      (λ i m e. (let near : length (a ∷ rest) + 1 ≤ m.place + people F = (kept i m e).near in omega arith))

  ends : newest (answered F s w).states ≡ Some s.state
  ends = newest-end d (a ∷ rest) s.state below

  len : length (answered F s w).states ≡ length (a ∷ rest) + 1 - d
  len = length-drop d ((a ∷ rest) ++ s.state ∷ []) ∙ ap (λ (x : ℕ). x - d) (length-append (a ∷ rest) (s.state ∷ []))

  stand-new : (i : ℕ) (m : Mark) → slice_get (answered F s w).marks i ≡ Some m → Stood r F s.state.turn i m (slice_get (answered F s w).states m.place)
  stand-new i m e = by (get-map (lowered d) (longer F s w).marks i m e)
    where
      by : Mapped (lowered d) (longer F s w).marks i m → Stood r F s.state.turn i m (slice_get (answered F s w).states m.place)
      by g =
          let k = kept i g.from g.at in
          let on : slice_get (answered F s w).states (g.from.place - d) ≡ Some k.state = get-drop ((a ∷ rest) ++ s.state ∷ []) d g.from.place (lowest-at (length (a ∷ rest)) (longer F s w).marks i g.from g.at) ∙ k.on in
          subst (λ (y : Mark). Stood r F s.state.turn i y (slice_get (answered F s w).states y.place)) (sym g.is)
          (record { state = k.state; is = on; from = k.from; well = k.verified })

  answered-parts : Answered r F s w
  answered-parts =
      record {
        chain =
            whole r F (answered F s w) (record {
              some = (let l = len in let b = below in omega arith);
              few = (let l = len in let b = above in omega arith);
              marks = length-map (longer F s w).marks (lowered d) ∙ (ap length full ∙ (length-set marks (s.state.turn % people F) new ∙ p.marks));
              turns = turns-drop d ((a ∷ rest) ++ s.state ∷ []) (turns-append a rest s.state p.turns turn);
              high = subst (λ (x : ℕ). people F ≤ x + 1) (sym top) (let h : people F ≤ (last_of a rest).turn + 1 = p.high in omega (arith, turn));
              steps = steps-drop r F d ((a ∷ rest) ++ s.state ∷ []) (steps-append r F a rest s.state p.steps step);
              stand = λ i m e. subst (λ (x : ℕ). Stood r F x i m (slice_get (answered F s w).states m.place)) (sym top) (stand-new i m e);
            });
        ends = ends;
      }
    where
      top : top_turn (answered F s w).states ≡ s.state.turn
      top = ap turn_of ends

pub answered-supported : (r : Rules) (F : FixedParts) (s : Signed) (t : StateParts) (w : Marked) → is_supported r F w ≡ true → newest w.states ≡ Some t → s.state.turn ≡ t.turn + 1 → r.step F t s.state ≡ None → is_signed_well r F s ≡ true
    → Answered r F s w
answered-supported r F s t w chain top turn step well = go w.states w.marks (parts r F w chain) top
  where
    go : (states : List StateParts) (marks : List Mark) → Parts r F (record { states = states; marks = marks }) → newest states ≡ Some t → Answered r F s (record { states = states; marks = marks })
    go [] marks p e = absurd (none-eq t e)
    go (a ∷ rest) marks p e =
        let same : last_of a rest ≡ t = some-eq (last_of a rest) t e in
        answered-parts r F s a rest marks p (turn ∙ ap (λ (x : StateParts). x.turn + 1) (sym same)) (subst (λ (x : StateParts). r.step F x s.state ≡ None) (sym same) step) well
