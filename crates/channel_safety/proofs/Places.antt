-- How what is held changes from one place of history and journal to a later one.
use Rattle.std.proofs.Common.{◌≡◌, ℕ, suc, ◌<◌, ◌≤◌, ◌==◌, Bool, true, false, cond, ◌&&◌, List, [], ◌∷◌, ◌++◌, ◌⊎◌, inl, inr, length, refl, sym, ◌∙◌, ap, subst, arith}
use Rattle.std.specs.Prelude.{Option, Some, None}
use Rattle.std.specs.List.{list_any}
use Rattle.std.specs.Str.{bytes_eq}
use Rattle.std.proofs.lemmas.Bool.{eq-eqb}
use Rattle.channel_values.specs.Parts.{FixedParts}
use Rattle.channel_values.specs.declared.chain.Signed.{Signed}
use Rattle.channel_values.specs.Rules.{Rules}
use Rattle.channel_values.specs.Support.{supports}
use Rattle.call_history.specs.History.{turning}
use Rattle.call_history.specs.Marked.{Marked, nothing, is_supported, extended, is_newer}
use Rattle.call_history.specs.Shown.{shown_by, shown}
use Rattle.call_history.specs.declared.entry.Entry.{Entry}
use Rattle.call_history.specs.declared.event.Deed.{Deed}
use Rattle.call_history.specs.declared.event.Deed.TheVariants as deeds
use Rattle.channel_safety.specs.Journals.{In, Line, is_watched, is_followed, opens, made_in, noted_in}
use Rattle.channel_safety.specs.Held.{note, show, slot, held}
use Rattle.channel_safety.proofs.Tests.{cond-false, cond-true, eqb-false}
use Rattle.channel_safety.proofs.Lists.{length-up}

-- ---- what a deed is not

-- a look neither opens nor notes
watched-not_followed : (d : Deed) → is_watched d ≡ true → is_followed d ≡ false
watched-not_followed (deeds.Watched place calls) h = refl
watched-not_followed _ h = cc

watched-notes_none : (c : List ℕ) (d : Deed) → is_watched d ≡ true → noted_in c d ≡ None
watched-notes_none c (deeds.Watched place calls) h = refl
watched-notes_none c _ h = cc

pub noted-not_watched : (c : List ℕ) (d : Deed) (s : Signed) → noted_in c d ≡ Some s → is_watched d ≡ false
noted-not_watched c (deeds.Watched place calls) s h = cc
noted-not_watched c _ s h = refl

pub made-not_watched : (c : List ℕ) (d : Deed) (s : Signed) → made_in c d ≡ Some s → is_watched d ≡ false
made-not_watched c (deeds.Watched place calls) s h = cc
made-not_watched c _ s h = refl

pub made-noted : (c : List ℕ) (d : Deed) (s : Signed) → made_in c d ≡ Some s → noted_in c d ≡ Some s
made-noted c (deeds.Signed channel state signature) s h = h
made-noted c _ s h = cc

opens-none : (r : Rules) (c : List ℕ) (x : Line) → is_followed x.deed ≡ false → opens r c x ≡ false
opens-none r c x h = ap (λ (b : Bool). list_any (λ (f : FixedParts). bytes_eq (r.named f) c) (cond b x.adds [])) h

-- a line that neither opens nor notes changes nothing
pub inert : (r : Rules) (F : FixedParts) (x : Line) → opens r (r.named F) x ≡ false → noted_in (r.named F) x.deed ≡ None → (st : Option Marked) → note r F x st ≡ st
inert r F x o n None = cond-false (opens r (r.named F) x) (Some nothing) None o
inert r F x o n (Some w) = ap (λ (y : Option Signed). Some (extended r F y w)) n

-- a look changes nothing
pub note-watched : (r : Rules) (F : FixedParts) (x : Line) (st : Option Marked) → is_watched x.deed ≡ true → note r F x st ≡ st
note-watched r F x st h = inert r F x (opens-none r (r.named F) x (watched-not_followed x.deed h)) (watched-notes_none (r.named F) x.deed h) st

-- ---- places

-- a line that had seen more is not there yet
pub held-later : (r : Rules) (F : FixedParts) (past : List Entry) (x : Line) (front : List Line) → length past < x.seen → held r F past (x ∷ front) ≡ held r F past front
held-later r F [] x front h =
    cond-false (x.seen == 0) (note r F x (slot r F 0 front None)) (slot r F 0 front None) (eqb-false x.seen 0 (λ e. omega arith))
held-later r F (e ∷ past) x front h =
    let k = suc (length past) in
    let a = held-later r F past x front (omega arith) in
    let st = show r F (shown r (r.named F) past e) (held r F past (x ∷ front)) in
    cond-false (x.seen == k) (note r F x (slot r F k front st)) (slot r F k front st) (eqb-false x.seen k (λ e. omega arith))
    ∙ ap (λ (y : Option Marked). slot r F k front (show r F (shown r (r.named F) past e) y)) a

-- a line at the end of the place is the last thing there
pub held-at : (r : Rules) (F : FixedParts) (past : List Entry) (x : Line) (front : List Line) → length past ≡ x.seen → held r F past (x ∷ front) ≡ note r F x (held r F past front)
held-at r F [] x front h =
    cond-true (x.seen == 0) (note r F x (slot r F 0 front None)) (slot r F 0 front None) (eq-eqb x.seen 0 (sym h))
held-at r F (e ∷ past) x front h =
    let k = suc (length past) in
    let a = held-later r F past x front (omega arith) in
    let st = show r F (shown r (r.named F) past e) (held r F past (x ∷ front)) in
    cond-true (x.seen == k) (note r F x (slot r F k front st)) (slot r F k front st) (eq-eqb x.seen k (sym h))
    ∙ ap (λ (y : Option Marked). note r F x (slot r F k front (show r F (shown r (r.named F) past e) y))) a

slot-inert : (r : Rules) (F : FixedParts) (k : ℕ) (x : Line) (front : List Line) (st : Option Marked) → ((st : Option Marked) → note r F x st ≡ st) → slot r F k (x ∷ front) st ≡ slot r F k front st
slot-inert r F k x front st h = go (x.seen == k) refl
  where
    go : (b : Bool) → (x.seen == k) ≡ b → slot r F k (x ∷ front) st ≡ slot r F k front st
    go true e = cond-true (x.seen == k) (note r F x (slot r F k front st)) (slot r F k front st) e ∙ h (slot r F k front st)
    go false e = cond-false (x.seen == k) (note r F x (slot r F k front st)) (slot r F k front st) e

-- a line that changes nothing
pub held-inert : (r : Rules) (F : FixedParts) (past : List Entry) (x : Line) (front : List Line) → ((st : Option Marked) → note r F x st ≡ st) → held r F past (x ∷ front) ≡ held r F past front
held-inert r F [] x front h = slot-inert r F 0 x front None h
held-inert r F (e ∷ past) x front h =
    slot-inert r F (suc (length past)) x front (show r F (shown r (r.named F) past e) (held r F past (x ∷ front))) h
    ∙ ap (λ (y : Option Marked). slot r F (suc (length past)) front (show r F (shown r (r.named F) past e) y)) (held-inert r F past x front h)

pub held-watched : (r : Rules) (F : FixedParts) (past : List Entry) (x : Line) (front : List Line) → is_watched x.deed ≡ true → held r F past (x ∷ front) ≡ held r F past front
held-watched r F past x front h = held-inert r F past x front (λ st. note-watched r F x st h)

-- lines that come too late or change nothing
pub held-drop : (r : Rules) (F : FixedParts) (past : List Entry) (newer front : List Line)
    → ((y : Line) → In y newer → (length past < y.seen) ⊎ ((st : Option Marked) → note r F y st ≡ st)) → held r F past (newer ++ front) ≡ held r F past front
held-drop r F past [] front h = refl
held-drop r F past (y ∷ newer) front h = go (h y (inl refl)) ∙ held-drop r F past newer front (λ x i. h x (inr i))
  where
    go : (length past < y.seen) ⊎ ((st : Option Marked) → note r F y st ≡ st) → held r F past (y ∷ (newer ++ front)) ≡ held r F past (newer ++ front)
    go (inl l) = held-later r F past y (newer ++ front) l
    go (inr n) = held-inert r F past y (newer ++ front) n

pub slot-none : (r : Rules) (F : FixedParts) (k : ℕ) (front : List Line) (st : Option Marked) → ((y : Line) → In y front → is_watched y.deed ≡ false → y.seen < k) → slot r F k front st ≡ st
slot-none r F k [] st h = refl
slot-none r F k (y ∷ front) st h = go (is_watched y.deed) refl ∙ slot-none r F k front st (λ x i. h x (inr i))
  where
    go : (b : Bool) → is_watched y.deed ≡ b → slot r F k (y ∷ front) st ≡ slot r F k front st
    go true w = slot-inert r F k y front st (λ z. note-watched r F y z w)
    go false w = let l : y.seen < k = h y (inl refl) w in cond-false (y.seen == k) (note r F y (slot r F k front st)) (slot r F k front st) (eqb-false y.seen k (λ e. omega arith))

nothing-unsupported : (r : Rules) (F : FixedParts) → is_supported r F nothing ≡ false
unfolding supports
nothing-unsupported r F = refl

-- entries that turn nothing, after all that the lines had seen
pub held-quiet : (r : Rules) (F : FixedParts) → (later past : List Entry) (front : List Line) → ((q : Entry) → In q later → turning r (r.named F) q ≡ false)
    → ((y : Line) → In y front → is_watched y.deed ≡ false → y.seen ≤ length past) → held r F (later ++ past) front ≡ held r F past front
held-quiet r F [] past front quiet seen = refl
held-quiet r F (e ∷ later) past front quiet seen =
    slot-none r F (suc (length (later ++ past))) front (show r F (shown r (r.named F) (later ++ past) e) (held r F (later ++ past) front))
    (λ y i w. let a : y.seen ≤ length past = seen y i w in let b : length past ≤ length (later ++ past) = length-up later past in omega arith)
    ∙ (ap (λ (x : Marked). show r F x (held r F (later ++ past) front)) (cond-false (turning r (r.named F) e) (shown_by r (r.named F) (later ++ past) e.op) nothing (quiet e (inl refl)))
    ∙ (show-nothing (held r F (later ++ past) front) ∙ held-quiet r F later past front (λ q i. quiet q (inr i)) seen))
  where
    none : is_supported r F nothing ≡ false
    none = nothing-unsupported r F

    show-nothing : (st : Option Marked) → show r F nothing st ≡ st
    show-nothing None = refl
    show-nothing (Some w) = ap (λ (y : Marked). Some y) (cond-false (is_newer r F nothing w) nothing w (first (is_supported r F nothing) _ none))
      where
        first : (a b : Bool) → a ≡ false → (a && b) ≡ false
        first true b h = cc
        first false b h = refl

-- what lasts at one place: the lines there
pub slot-lasts :
    (r : Rules) (F : FixedParts) (P : Option Marked → Type 0) (k : ℕ) (journal : List Line)
    → ((x : Line) → In x journal → (st : Option Marked) → P st → P (note r F x st)) → (st : Option Marked) → P st → P (slot r F k journal st)
slot-lasts r F P k [] keeps st p = p
slot-lasts r F P k (x ∷ front) keeps st p = go (x.seen == k) refl (slot-lasts r F P k front (λ y i. keeps y (inr i)) st p)
  where
    go : (b : Bool) → (x.seen == k) ≡ b → P (slot r F k front st) → P (slot r F k (x ∷ front) st)
    go true e q = subst P (sym (cond-true (x.seen == k) (note r F x (slot r F k front st)) (slot r F k front st) e)) (keeps x (inl refl) (slot r F k front st) q)
    go false e q = subst P (sym (cond-false (x.seen == k) (note r F x (slot r F k front st)) (slot r F k front st) e)) q

-- what lasts over entries
pub over-entries :
    (r : Rules) (F : FixedParts) (P : Option Marked → Type 0) (later past : List Entry) (journal : List Line)
    → ((x : Line) → In x journal → (st : Option Marked) → P st → P (note r F x st))
    → ((l1 l2 : List Entry) (k : Entry) (st : Option Marked) → later ≡ l1 ++ k ∷ l2 → P st → P (show r F (shown r (r.named F) (l2 ++ past) k) st))
    → P (held r F past journal) → P (held r F (later ++ past) journal)
over-entries r F P [] past journal keeps shows p = p
over-entries r F P (e ∷ later) past journal keeps shows p =
    slot-lasts r F P (suc (length (later ++ past))) journal keeps (show r F (shown r (r.named F) (later ++ past) e) (held r F (later ++ past) journal))
    (shows [] later e (held r F (later ++ past) journal) refl
    (over-entries r F P later past journal keeps (λ l1 l2 k st s q. shows (e ∷ l1) l2 k st (ap (λ (x : List Entry). e ∷ x) s) q) p))

-- what lasts over later lines of the journal, at one place of the history
pub over-lines :
    (r : Rules) (F : FixedParts) (P : Option Marked → Type 0) (newer : List Line) (past : List Entry) (front : List Line)
    → ((x : Line) → In x newer → (st : Option Marked) → P st → P (note r F x st))
    → ((y : Line) → In y newer → is_watched y.deed ≡ false → length past ≤ y.seen)
    → P (held r F past front) → P (held r F past (newer ++ front))
over-lines r F P [] past front keeps rising p = p
over-lines r F P (y ∷ newer) past front keeps rising p =
    go (is_watched y.deed) refl (over-lines r F P newer past front (λ x i. keeps x (inr i)) (λ x i. rising x (inr i)) p)
  where
    at : (length past ≡ y.seen) ⊎ (length past < y.seen) → P (held r F past (newer ++ front)) → P (held r F past (y ∷ (newer ++ front)))
    at (inl e) q = subst P (sym (held-at r F past y (newer ++ front) e)) (keeps y (inl refl) (held r F past (newer ++ front)) q)
    at (inr l) q = subst P (sym (held-later r F past y (newer ++ front) l)) q

    go : (b : Bool) → is_watched y.deed ≡ b → P (held r F past (newer ++ front)) → P (held r F past (y ∷ (newer ++ front)))
    go true w q = subst P (sym (held-watched r F past y (newer ++ front) w)) q
    go false w q = let b : length past ≤ y.seen = rising y (inl refl) w in at (grind arith) q
