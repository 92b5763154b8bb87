-- What is kept of each channel, in the order in which they were opened, and what events and entries make of it.
use Rattle.std.proofs.Common.{◌≡◌, ℕ, ◌<◌, ◌≤◌, Bool, true, false, cond, List, [], ◌∷◌, ◌++◌, inl, inr, length, refl, sym, ◌∙◌, ap, subst, arith}
use Rattle.std.specs.Prelude.{Option, None, map}
use Rattle.std.specs.Option.{option_map, option_or}
use Rattle.std.specs.Str.{bytes_eq}
use Rattle.channel_values.specs.Parts.{FixedParts}
use Rattle.channel_values.specs.declared.chain.Signed.{Signed}
use Rattle.channel_values.specs.Rules.{Rules, people}
use Rattle.call_history.proofs.Names.{same_bytes, bytes_eq_self}
use Rattle.call_history.specs.Marked.{Marked}
use Rattle.channel_store.specs.Keeping.{noting, adopting}
use Rattle.channel_store.specs.Good.{IsGoodKept}
use Rattle.channel_store.specs.Storing.{is_of}
use Rattle.channel_store.specs.declared.kept.Kept.{Kept}
use Rattle.channel_store.proofs.Good.{noting_good, adopting_good}
use Rattle.channel_safety.proofs.ChainsGrow.{nothing-young}
use Rattle.channel_safety.proofs.Tests.{lt-true}
use Rattle.channel_safety.specs.Journals.{In, Line, some_if, made_in}
use Rattle.share_laws.specs.Places.{last_made}
use Rattle.channel_node.specs.Openings.{place_among, takes_part}
use Rattle.channel_node.specs.Openings as openings
use Rattle.node_guarantees.proofs.Apart.{names_of, changed_at, apart-back}

-- what is kept of the channel is good, under its name, of its fixed part, with the last state that was signed
pub record KeepsChannel (r : Rules) (front : List Line) (f : FixedParts) (k : Kept) : Type 0 where
  pub good : IsGoodKept r k
  pub name : k.channel ≡ r.named f
  pub fixed : k.chain.fixed ≡ f
  pub last : k.last ≡ option_map (λ s. s.state) (last_made (r.named f) front)

abbrev pub AllKeep : Rules → List Line → List FixedParts → List Kept → Type 0
AllKeep r front [] [] = Unit {0}
AllKeep r front (f ∷ fs) (k ∷ ks) = KeepsChannel r front f k × AllKeep r front fs ks
AllKeep r front _ _ = ⊥

pub all-names : (r : Rules) (front : List Line) (fs : List FixedParts) (ks : List Kept) → AllKeep r front fs ks → names_of ks ≡ map r.named fs
all-names r front [] [] all = refl
all-names r front [] (k ∷ ks) all = absurd all
all-names r front (f ∷ fs) [] all = absurd all
all-names r front (f ∷ fs) (k ∷ ks) all =
    ap (λ (n : List ℕ). n ∷ names_of ks) all.0.name ∙ ap (λ (ns : List (List ℕ)). r.named f ∷ ns) (all-names r front fs ks all.1)

pub all-append : (r : Rules) (front : List Line) (fs gs : List FixedParts) (ks js : List Kept) → AllKeep r front fs ks → AllKeep r front gs js → AllKeep r front (fs ++ gs) (ks ++ js)
all-append r front [] gs [] js a b = b
all-append r front [] gs (k ∷ ks) js a b = absurd a
all-append r front (f ∷ fs) gs [] js a b = absurd a
all-append r front (f ∷ fs) gs (k ∷ ks) js a b = (a.0, all-append r front fs gs ks js a.1 b)

-- a change of each, to a place with other lines
pub all-change : (r : Rules) (front after : List Line) (change : Kept → Kept) → ((f : FixedParts) (k : Kept) → KeepsChannel r front f k → KeepsChannel r after f (change k))
    → (fs : List FixedParts) (ks : List Kept) → AllKeep r front fs ks → AllKeep r after fs (map change ks)
all-change r front after change step [] [] all = tt
all-change r front after change step [] (k ∷ ks) all = absurd all
all-change r front after change step (f ∷ fs) [] all = absurd all
all-change r front after change step (f ∷ fs) (k ∷ ks) all = (step f k all.0, all-change r front after change step fs ks all.1)

pub all-lift : (r : Rules) (front after : List Line) → ((f : FixedParts) (k : Kept) → KeepsChannel r front f k → KeepsChannel r after f k)
    → (fs : List FixedParts) (ks : List Kept) → AllKeep r front fs ks → AllKeep r after fs ks
all-lift r front after step [] [] all = tt
all-lift r front after step [] (k ∷ ks) all = absurd all
all-lift r front after step (f ∷ fs) [] all = absurd all
all-lift r front after step (f ∷ fs) (k ∷ ks) all = (step f k all.0, all-lift r front after step fs ks all.1)

-- ---- one channel

-- a line that signs nothing
pub keeps-quiet : (r : Rules) (x : Line) (front : List Line) → ((c : List ℕ) → made_in c x.deed ≡ None) → (f : FixedParts) (k : Kept) → KeepsChannel r front f k → KeepsChannel r (x ∷ front) f k
keeps-quiet r x front none f k was = record {
  good = was.good;
  name = was.name;
  fixed = was.fixed;
  last = was.last ∙ ap (λ (o : Option Signed). option_map (λ (s : Signed). s.state) (option_or o (last_made (r.named f) front))) (sym (none (r.named f)));
}

pub keeps-noting : (r : Rules) (front : List Line) (s : Signed) (c : List ℕ) (f : FixedParts) (k : Kept) → KeepsChannel r front f k → KeepsChannel r front f (changed_at (noting r false s) c k)
keeps-noting r front s c f k was = go (is_of c k)
  where
    go : (b : Bool) → KeepsChannel r front f (cond b (noting r false s k) k)
    go true = record { good = noting_good r false s k was.good; name = was.name; fixed = was.fixed; last = was.last }
    go false = was

pub keeps-adopting : (r : Rules) (front : List Line) (w : Marked) (c : List ℕ) (f : FixedParts) (k : Kept) → KeepsChannel r front f k → KeepsChannel r front f (changed_at (adopting r w) c k)
keeps-adopting r front w c f k was = go (is_of c k)
  where
    go : (b : Bool) → KeepsChannel r front f (cond b (adopting r w k) k)
    go true = record { good = adopting_good r w k was.good; name = was.name; fixed = was.fixed; last = was.last }
    go false = was

-- a state that the participant signed
pub keeps-signing : (r : Rules) (x : Line) (front : List Line) (s : Signed) (c : List ℕ) → ((n : List ℕ) → made_in n x.deed ≡ some_if (bytes_eq c n) s)
    → (f : FixedParts) (k : Kept) → KeepsChannel r front f k → KeepsChannel r (x ∷ front) f (changed_at (noting r true s) c k)
keeps-signing r x front s c made f k was = go (is_of c k) refl
  where
    told : (b : Bool) → bytes_eq c (r.named f) ≡ b → option_map (λ (z : Signed). z.state) (last_made (r.named f) (x ∷ front)) ≡ option_map (λ (z : Signed). z.state) (option_or (some_if b s) (last_made (r.named f) front))
    told b e = ap (λ (o : Option Signed). option_map (λ (z : Signed). z.state) (option_or o (last_made (r.named f) front))) (made (r.named f) ∙ ap (λ (t : Bool). some_if t s) e)

    go : (b : Bool) → is_of c k ≡ b → KeepsChannel r (x ∷ front) f (cond b (noting r true s k) k)
    go true e = record {
      good = noting_good r true s k was.good;
      name = was.name;
      fixed = was.fixed;
      last = sym (told true (subst (λ (n : List ℕ). bytes_eq c n ≡ true) (sym (same_bytes k.channel c e) ∙ was.name) (bytes_eq_self c)));
    }
    go false e = record {
      good = was.good;
      name = was.name;
      fixed = was.fixed;
      last = was.last ∙ sym (told false (subst (λ (n : List ℕ). bytes_eq c n ≡ false) was.name (apart-back k.channel c e)));
    }

-- a channel that was opened, of which no state was signed before
pub keeps-opened : (r : Rules) (key : List ℕ) (front : List Line) (g : FixedParts) → takes_part key g ≡ true → last_made (r.named g) front ≡ None → KeepsChannel r front g (openings.opened r key g)
keeps-opened r key front g mine none = record {
  good = inl (nothing-young r g some);
  name = refl;
  fixed = refl;
  last = ap (λ (o : Option Signed). option_map (λ (s : Signed). s.state) o) (sym none);
}
  where
    some : 1 ≤ people g
    some = let l : place_among key g < length g.keys = lt-true (place_among key g) (length g.keys) mine in omega arith

pub all-opened : (r : Rules) (key : List ℕ) (front : List Line) (gs : List FixedParts) → ((g : FixedParts) → In g gs → takes_part key g ≡ true)
    → ((g : FixedParts) → In g gs → last_made (r.named g) front ≡ None) → AllKeep r front gs (map (openings.opened r key) gs)
all-opened r key front [] mine none = tt
all-opened r key front (g ∷ gs) mine none = (
  keeps-opened r key front g (mine g (inl refl)) (none g (inl refl)),
  all-opened r key front gs (λ x i. mine x (inr i)) (λ x i. none x (inr i)),
)
