-- Earlier places: the lines that had seen so many entries, and the entry by which a channel became final.
use Rattle.std.proofs.Common.{◌≡◌, ℕ, ◌<◌, ◌≤◌, Bool, true, false, cond, ◌||◌, List, [], ◌∷◌, ◌++◌, ◌⊎◌, inl, inr, refl, sym, ◌∙◌, ap, subst, arith}
use Rattle.std.specs.Prelude.{nat_lt, Option, Some, None}
use Rattle.std.specs.List.{list_any}
use Rattle.std.specs.Option.{option_or}
use Rattle.std.specs.Str.{bytes_eq}
use Rattle.channel_values.specs.Parts.{FixedParts}
use Rattle.channel_values.specs.declared.chain.Signed.{Signed}
use Rattle.call_history.specs.Mode.{is_final}
use Rattle.channel_values.specs.Rules.{Rules}
use Rattle.call_history.specs.History.{Legal, mode, settled}
use Rattle.call_history.specs.Marked.{Marked, nothing}
use Rattle.call_history.specs.Shown.{shown}
use Rattle.call_history.specs.declared.entry.Entry.{Entry}
use Rattle.call_history.proofs.Names.{same_bytes}
use Rattle.channel_safety.specs.Journals.{In, Line, opened, opens, made_in, is_watched}
use Rattle.channel_safety.specs.Held.{note, show, held}
use Rattle.channel_safety.specs.Honest.{HonestIn}
use Rattle.share_laws.specs.Places.{channels, last_made}
use Rattle.share_laws.proofs.Final.{final-settled}
use Rattle.std.proofs.lemmas.List.{append-nil}
use Rattle.channel_safety.proofs.Tests.{lt-false, lt-true}
use Rattle.channel_safety.proofs.Lists.{In-append_left, In-append_right}
use Rattle.channel_safety.proofs.Places.{over-entries, slot-lasts}

-- ---- the lines that had seen at most k entries

abbrev pub front_at : ℕ → List Line → List Line
front_at k [] = []
front_at k (x ∷ front) = cond (is_watched x.deed || nat_lt k x.seen) (front_at k front) (x ∷ front)

pub record FrontAt (k : ℕ) (journal front : List Line) : Type 0 where
  pub newer : List Line
  pub lines : journal ≡ newer ++ front
  pub before : (x : Line) → In x front → is_watched x.deed ≡ false → x.seen ≤ k
  pub after : (x : Line) → In x newer → is_watched x.deed ≡ false → k < x.seen

pub front-at : (r : Rules) (key : List ℕ) (F : FixedParts) (h : List Entry) (k : ℕ) (journal : List Line) → HonestIn r key F h journal → FrontAt k journal (front_at k journal)
front-at r key F h k [] hon = record { newer = []; lines = refl; before = λ x i. absurd i; after = λ x i. absurd i }
front-at r key F h k (x ∷ front) hon = go (is_watched x.deed) refl (nat_lt k x.seen) refl (front-at r key F h k front hon.1)
  where
    more : (is_watched x.deed ≡ false → k < x.seen) → FrontAt k front (front_at k front) → FrontAt k (x ∷ front) (front_at k front)
    more up p = record {
      newer = x ∷ p.newer;
      lines = ap (λ (ls : List Line). x ∷ ls) p.lines;
      before = p.before;
      after = λ y i. later y i;
    }
      where
        later : (y : Line) → In y (x ∷ p.newer) → is_watched y.deed ≡ false → k < y.seen
        later y (inl e) w = subst (λ (z : Line). k < z.seen) (sym e) (up (subst (λ (z : Line). is_watched z.deed ≡ false) e w))
        later y (inr i) w = p.after y i w

    go : (b : Bool) → is_watched x.deed ≡ b → (c : Bool) → nat_lt k x.seen ≡ c → FrontAt k front (front_at k front) → FrontAt k (x ∷ front) (cond (b || c) (front_at k front) (x ∷ front))
    go true w c e p = more (λ f. (let g : true ≡ false = sym w ∙ f in cc)) p
    go false w true e p = more (λ f. lt-true k x.seen e) p
    go false w false e p = record {
      newer = [];
      lines = refl;
      before = λ y i. early y i;
      after = λ y i. absurd i;
    }
      where
        low : x.seen ≤ k
        low = lt-false k x.seen e

        early : (y : Line) → In y (x ∷ front) → is_watched y.deed ≡ false → y.seen ≤ k
        early y (inl f) v = subst (λ (z : Line). z.seen ≤ k) (sym f) low
        early y (inr i) v = let a : y.seen ≤ x.seen = hon.0.rising y i v in omega (arith, a, low)

-- ---- the entry by which a channel became final

pub record Became (r : Rules) (n : List ℕ) (past : List Entry) : Type 0 where
  pub mid : List Entry
  pub entry : Entry
  pub older : List Entry
  pub split : past ≡ mid ++ entry ∷ older
  pub before : is_final (mode r n older) ≡ false
  pub now : is_final (mode r n (entry ∷ older)) ≡ true
  pub same : settled r n past ≡ settled r n (entry ∷ older)

pub became : (r : Rules) (n : List ℕ) (past : List Entry) → Legal r past → is_final (mode r n past) ≡ true → Became r n past
became r n [] legal final = cc
became r n (e ∷ past) legal final = go (is_final (mode r n past)) refl (became r n past legal.0)
  where
    go : (b : Bool) → is_final (mode r n past) ≡ b → (is_final (mode r n past) ≡ true → Became r n past) → Became r n (e ∷ past)
    go true f rec = more (rec f)
      where
        more : Became r n past → Became r n (e ∷ past)
        more x = record {
          mid = e ∷ x.mid;
          entry = x.entry;
          older = x.older;
          split = ap (λ (es : List Entry). e ∷ es) x.split;
          before = x.before;
          now = x.now;
          same = final-settled r n past e legal f ∙ x.same;
        }
    go false f rec = record { mid = []; entry = e; older = past; split = refl; before = f; now = final; same = refl }

-- ---- what was signed by then

pub last-made : (n : List ℕ) (front : List Line) (y : Line) (s : Signed) → In y front → made_in n y.deed ≡ Some s → (t : Signed) × (last_made n front ≡ Some t)
last-made n [] y s i made = absurd i
last-made n (x ∷ front) y s i made = go (made_in n x.deed) refl i (last-made n front y s)
  where
    go : (o : Option Signed) → made_in n x.deed ≡ o → In y (x ∷ front) → (In y front → made_in n y.deed ≡ Some s → (t : Signed) × (last_made n front ≡ Some t)) →
        (t : Signed) × (option_or o (last_made n front) ≡ Some t)
    go (Some t) e i rec = (t, refl)
    go None e (inl is) rec = let f : None ≡ Some s = sym e ∙ (ap (λ (z : Line). made_in n z.deed) (sym is) ∙ made) in cc
    go None e (inr j) rec = rec j made

pub last-line : (n : List ℕ) (front : List Line) (t : Signed) → last_made n front ≡ Some t → (y : Line) × (In y front) × (made_in n y.deed ≡ Some t)
last-line n [] t e = cc
last-line n (x ∷ front) t e = go (made_in n x.deed) refl e (last-line n front t)
  where
    go : (o : Option Signed) → made_in n x.deed ≡ o → option_or o (last_made n front) ≡ Some t → (last_made n front ≡ Some t → (y : Line) × (In y front) × (made_in n y.deed ≡ Some t)) →
        (y : Line) × (In y (x ∷ front)) × (made_in n y.deed ≡ Some t)
    go (Some s) m f rec = (x, inl refl, m ∙ f)
    go None m f rec = let p = rec f in (p.0, inr p.1, p.2)

-- ---- what is held was opened

opens-or_not : (r : Rules) (n : List ℕ) (front : List Line) → ((x : Line) × (In x front) × (opens r n x ≡ true)) ⊎ ((x : Line) → In x front → opens r n x ≡ false)
opens-or_not r n [] = inr (λ x i. absurd i)
opens-or_not r n (x ∷ front) = go (opens r n x) refl (opens-or_not r n front)
  where
    go : (b : Bool) → opens r n x ≡ b → ((y : Line) × (In y front) × (opens r n y ≡ true)) ⊎ ((y : Line) → In y front → opens r n y ≡ false) →
        ((y : Line) × (In y (x ∷ front)) × (opens r n y ≡ true)) ⊎ ((y : Line) → In y (x ∷ front) → opens r n y ≡ false)
    go true e rec = inl (x, inl refl, e)
    go false e (inl y) = inl (y.0, inr y.1, y.2)
    go false e (inr none) = inr (λ y i. each y i)
      where
        each : (y : Line) → In y (x ∷ front) → opens r n y ≡ false
        each y (inl is) = ap (opens r n) is ∙ e
        each y (inr i) = none y i

not-held : (r : Rules) (F : FixedParts) (past : List Entry) (front : List Line) → ((x : Line) → In x front → opens r (r.named F) x ≡ false) → held r F past front ≡ None
not-held r F past front none =
    subst (λ (es : List Entry). held r F es front ≡ None) (append-nil past)
    (over-entries r F (λ st. st ≡ None) past [] front keeps (λ l1 l2 k st s p. ap (show r F (shown r (r.named F) (l2 ++ []) k)) p)
    (slot-lasts r F (λ st. st ≡ None) 0 front keeps None refl))
  where
    keeps : (x : Line) → In x front → (st : Option Marked) → st ≡ None → note r F x st ≡ None
    keeps x i st p = ap (note r F x) p ∙ ap (λ (b : Bool). cond b (Some nothing) None) (none x i)

find-opened : (r : Rules) (n : List ℕ) (fs : List FixedParts) → list_any (λ f. bytes_eq (r.named f) n) fs ≡ true → (f : FixedParts) × (In f fs) × (r.named f ≡ n)
find-opened r n [] h = cc
find-opened r n (f ∷ fs) h = go (bytes_eq (r.named f) n) refl h (find-opened r n fs)
  where
    go : (b : Bool) → bytes_eq (r.named f) n ≡ b → (b || list_any (λ g. bytes_eq (r.named g) n) fs) ≡ true → (list_any (λ g. bytes_eq (r.named g) n) fs ≡ true → (g : FixedParts) × (In g fs) × (r.named g ≡ n)) →
        (g : FixedParts) × (In g (f ∷ fs)) × (r.named g ≡ n)
    go true e k rec = (f, inl refl, same_bytes (r.named f) n e)
    go false e k rec = let p = rec k in (p.0, inr p.1, p.2)

pub held-opened : (r : Rules) (F : FixedParts) (past : List Entry) (front : List Line) (w : Marked) → held r F past front ≡ Some w → (x : Line) × (f : FixedParts) × (In x front) × (In f (opened x)) × (r.named f ≡ r.named F)
held-opened r F past front w is = go (opens-or_not r (r.named F) front)
  where
    go : ((x : Line) × (In x front) × (opens r (r.named F) x ≡ true)) ⊎ ((x : Line) → In x front → opens r (r.named F) x ≡ false) →
        (x : Line) × (f : FixedParts) × (In x front) × (In f (opened x)) × (r.named f ≡ r.named F)
    go (inl x) = let f = find-opened r (r.named F) (opened x.0) x.2 in (x.0, f.0, x.1, f.1, f.2)
    go (inr none) = let n : None ≡ Some w = sym (not-held r F past front none) ∙ is in cc

pub channels-there : (front : List Line) (x : Line) (f : FixedParts) → In x front → In f (opened x) → In f (channels front)
channels-there [] x f i j = absurd i
channels-there (y ∷ front) x f (inl is) j = In-append_right f (channels front) (opened y) (subst (λ (z : Line). In f (opened z)) is j)
channels-there (y ∷ front) x f (inr i) j = In-append_left f (channels front) (opened y) (channels-there front x f i j)
