-- The edges of the roots and of virtual ledgers, with those of items that aren't there, pay all that these lend the
-- parts of a plan.
use Rattle.std.proofs.Common.{◌≡◌, ℕ, Bool, true, false, cond, ◌||◌, ◌&&◌, List, [], ◌∷◌, ◌++◌, refl, sym, ◌∙◌, ap, subst, inl, inr, ◌⊎◌}
use Rattle.std.proofs.lemmas.Bool.{false≢true}
use Rattle.std.specs.Str.{bytes_eq}
use Rattle.channel_values.specs.Outcomes.{is_same, AreApart}
use Rattle.channel_values.specs.declared.value.Dest.{Dest}
use Rattle.channel_values.specs.declared.value.Dest.TheVariants.{Person, Channel}
use Rattle.channel_values.specs.declared.value.Item.{Item}
use Rattle.channel_values.specs.Amounts.{has}
use Rattle.call_history.specs.Flows.{is_among}
use Rattle.call_history.proofs.Names.{same_bytes, bytes_eq_self, is_among-later}
use Rattle.channel_safety.specs.Journals.{In}
use Rattle.funding_plans.specs.declared.plan.Part.{Part}
use Rattle.funding_plans.specs.declared.plan.Part.TheVariants.{Root, OnLedger, End, Middle}
use Rattle.funding_plans.specs.declared.plan.Virtual.{Virtual}
use Rattle.funding_plans.specs.Parts.{own_ledger, own_guarantor, channels_of, channels, ledgers_of}
use Rattle.channel_exits.specs.Calls.{exits, is_ledger, passed_to}
use Rattle.channel_exits.specs.ExitLaws.{IsApartFromGuarantors, AreOnLedgers}
use Rattle.channel_exits.proofs.Edges.{Edge, moving, claiming, payer, payee, is_shut}
use Rattle.channel_exits.proofs.Leaves.{is_same-true}
use Rattle.channel_exits.proofs.Listing.{edge_to, edges_to, out_edges, root_edges, all_root_edges, onward_edges}
use Rattle.share_laws.proofs.Apart.{among-first}
use Rattle.channel_exits.proofs.Order.{all_exits, FromRoots, Lends, Serves, AreFrom, ExitCalls, or-left, or-right, shut-here, unique, not-true}

from-append : (ps : List Part) (xs ys : List Edge) → FromRoots ps xs → FromRoots ps ys → FromRoots ps (xs ++ ys)
from-append ps [] ys h k = k
from-append ps (moving f d ∷ xs) ys h k = (h.0, from-append ps xs ys h.1 k)
from-append ps (claiming g j d ∷ xs) ys h k = absurd h

shut-left : (xs ys : List Edge) (n : List ℕ) (d : Dest) → is_shut xs n d ≡ true → is_shut (xs ++ ys) n d ≡ true
shut-left [] ys n d h = absurd (false≢true h)
shut-left (x ∷ xs) ys n d h = by_test (bytes_eq n (payer x) && is_same d (payee x)) (shut-left xs ys n d) h
  where
    by_test : (t : Bool) → (is_shut xs n d ≡ true → is_shut (xs ++ ys) n d ≡ true) → (t || is_shut xs n d) ≡ true → (t || is_shut (xs ++ ys) n d) ≡ true
    by_test true g h = refl
    by_test false g h = g h

shut-right : (xs ys : List Edge) (n : List ℕ) (d : Dest) → is_shut ys n d ≡ true → is_shut (xs ++ ys) n d ≡ true
shut-right [] ys n d h = h
shut-right (x ∷ xs) ys n d h = or-right (bytes_eq n (payer x) && is_same d (payee x)) _ (shut-right xs ys n d h)

-- ---- the transfers of a ledger

or-case : (t u : Bool) → (t || u) ≡ true → (t ≡ true) ⊎ (u ≡ true)
or-case true u h = inl refl
or-case false u h = inr h

to-shut : (f n : List ℕ) (ns : List (List ℕ)) → is_among n ns ≡ true → bytes_eq n f ≡ false → is_shut (edge_to f ns (Channel n)) f (Channel n) ≡ true
to-shut f n ns a ne = by_test (is_among n ns) (bytes_eq n f) a ne
  where
    by_test : (t u : Bool) → t ≡ true → u ≡ false → is_shut (cond t (cond u [] (moving f (Channel n) ∷ [])) []) f (Channel n) ≡ true
    by_test true false e w = shut-here (moving f (Channel n)) []
    by_test true true e w = absurd (false≢true (sym w))
    by_test false u e w = absurd (false≢true e)

named-shut : (f n : List ℕ) (ns : List (List ℕ)) (xs : List Item) → is_among n ns ≡ true → bytes_eq n f ≡ false → has xs (Channel n) ≡ true → is_shut (edges_to f ns xs) f (Channel n) ≡ true
named-shut f n ns [] a ne h = absurd (false≢true h)
named-shut f n ns (x ∷ xs) a ne h = by_case (or-case (is_same x.to (Channel n)) (has xs (Channel n)) h) (named-shut f n ns xs a ne)
  where
    by_case : (is_same x.to (Channel n) ≡ true) ⊎ (has xs (Channel n) ≡ true) → (has xs (Channel n) ≡ true → is_shut (edges_to f ns xs) f (Channel n) ≡ true) →
        is_shut (edge_to f ns x.to ++ edges_to f ns xs) f (Channel n) ≡ true
    by_case (inl e) rest = shut-left (edge_to f ns x.to) (edges_to f ns xs) f (Channel n)
        (subst (λ (d : Dest). is_shut (edge_to f ns d) f (Channel n) ≡ true) (sym (is_same-true x.to (Channel n) e)) (to-shut f n ns a ne))
    by_case (inr p) rest = shut-right (edge_to f ns x.to) (edges_to f ns xs) f (Channel n) (rest p)

among-channels : (n : List ℕ) (p : Part) (ps : List Part) → In p ps → is_among n (channels_of p) ≡ true → is_among n (channels ps) ≡ true
among-channels n p [] i h = absurd i
among-channels n p (q ∷ qs) (inl e) h =
    among-first n (channels_of q) (channels qs) (subst (λ (r : Part). is_among n (channels_of r) ≡ true) e h)
among-channels n p (q ∷ qs) (inr i) h = is_among-later n (channels_of q) (channels qs) (among-channels n p qs i h)

self : (n : List ℕ) (ns : List (List ℕ)) → is_among n (n ∷ ns) ≡ true
self n ns = or-left (bytes_eq n n) (is_among n ns) (bytes_eq_self n)

later : (m n : List ℕ) (ns : List (List ℕ)) → is_among n ns ≡ true → is_among n (m ∷ ns) ≡ true
later m n ns h = or-right (bytes_eq n m) (is_among n ns) h

-- an end's own guarantor is a channel of the plan
own-among : (v : Virtual) (ns : List (List ℕ)) → is_among (own_guarantor v) (v.guarantor_a ∷ v.guarantor_b ∷ ns) ≡ true
own-among v ns = go v.side_b
  where
    go : (t : Bool) → is_among (cond t v.guarantor_b v.guarantor_a) (v.guarantor_a ∷ v.guarantor_b ∷ ns) ≡ true
    go true = later v.guarantor_a v.guarantor_b (v.guarantor_b ∷ ns) (self v.guarantor_b ns)
    go false = self v.guarantor_a (v.guarantor_b ∷ ns)

-- transfers from a root of the plan are from roots
moved-roots : (ps : List Part) (f : List ℕ) (xs : List Edge) → In (Root f) ps → AreFrom f xs → FromRoots ps xs
moved-roots ps f [] i h = tt
moved-roots ps f (moving g d ∷ xs) i h = (subst (λ (n : List ℕ). In (Root n) ps) (sym h.0) i, moved-roots ps f xs i h.1)
moved-roots ps f (claiming g j d ∷ xs) i h = absurd h

are-from : (f : List ℕ) (xs ys : List Edge) → AreFrom f xs → AreFrom f ys → AreFrom f (xs ++ ys)
are-from f [] ys h k = k
are-from f (moving g d ∷ xs) ys h k = (h.0, are-from f xs ys h.1 k)
are-from f (claiming g j d ∷ xs) ys h k = absurd h

to-from : (f : List ℕ) (ns : List (List ℕ)) (d : Dest) → AreFrom f (edge_to f ns d)
to-from f ns (Person n) = tt
to-from f ns (Channel n) = by_test (is_among n ns) (bytes_eq n f)
  where
    by_test : (t u : Bool) → AreFrom f (cond t (cond u [] (moving f (Channel n) ∷ [])) [])
    by_test true true = tt
    by_test true false = (refl, tt)
    by_test false u = tt

named-from : (f : List ℕ) (ns : List (List ℕ)) (xs : List Item) → AreFrom f (edges_to f ns xs)
named-from f ns [] = tt
named-from f ns (x ∷ xs) = are-from f (edge_to f ns x.to) (edges_to f ns xs) (to-from f ns x.to) (named-from f ns xs)

-- ---- what is lent is a channel of the plan, and stands on a ledger of it

lent-channel : (p : Part) (l c : List ℕ) → Lends p l c → is_among c (channels_of p) ≡ true
lent-channel (Root x) l c w = absurd w
lent-channel (OnLedger m x) l c w = subst (λ (n : List ℕ). is_among n (x ∷ []) ≡ true) w.1 (self x [])
lent-channel (End v) l c w = subst (λ (n : List ℕ). is_among n (channels_of (End v)) ≡ true) w.1 (own-among v (v.joint ∷ v.channel ∷ []))
lent-channel (Middle v) l c (inl w) = subst (λ (n : List ℕ). is_among n (channels_of (Middle v)) ≡ true) w.1 (self v.guarantor_a (v.guarantor_b ∷ v.joint ∷ v.channel ∷ []))
lent-channel (Middle v) l c (inr w) =
    subst (λ (n : List ℕ). is_among n (channels_of (Middle v)) ≡ true) w.1 (later v.guarantor_a v.guarantor_b (v.guarantor_b ∷ v.joint ∷ v.channel ∷ []) (self v.guarantor_b (v.joint ∷ v.channel ∷ [])))

lent-exit : (p : Part) (l c : List ℕ) → Lends p l c → is_among c (exits p) ≡ true
lent-exit (Root x) l c w = absurd w
lent-exit (OnLedger m x) l c w = subst (λ (n : List ℕ). is_among n (x ∷ []) ≡ true) w.1 (self x [])
lent-exit (End v) l c w = subst (λ (n : List ℕ). is_among n (exits (End v)) ≡ true) w.1 (later v.channel (own_guarantor v) (own_guarantor v ∷ []) (self (own_guarantor v) []))
lent-exit (Middle v) l c (inl w) = subst (λ (n : List ℕ). is_among n (exits (Middle v)) ≡ true) w.1 (self v.guarantor_a (v.guarantor_b ∷ []))
lent-exit (Middle v) l c (inr w) = subst (λ (n : List ℕ). is_among n (exits (Middle v)) ≡ true) w.1 (later v.guarantor_a v.guarantor_b (v.guarantor_b ∷ []) (self v.guarantor_b []))

lent-ledger : (p : Part) (l c : List ℕ) → Lends p l c → is_among l (ledgers_of p) ≡ true
lent-ledger (Root x) l c w = absurd w
lent-ledger (OnLedger m x) l c w = subst (λ (n : List ℕ). is_among n (m ∷ []) ≡ true) w.0 (self m [])
lent-ledger (End v) l c w = subst (λ (n : List ℕ). is_among n (ledgers_of (End v)) ≡ true) w.0 (self (own_ledger v) [])
lent-ledger (Middle v) l c (inl w) = subst (λ (n : List ℕ). is_among n (ledgers_of (Middle v)) ≡ true) w.0 (self v.ledger_a (v.ledger_b ∷ []))
lent-ledger (Middle v) l c (inr w) = subst (λ (n : List ℕ). is_among n (ledgers_of (Middle v)) ≡ true) w.0 (later v.ledger_a v.ledger_b (v.ledger_b ∷ []) (self v.ledger_b []))

ledger-there : (l : List ℕ) (p : Part) (ps : List Part) → In p ps → is_among l (ledgers_of p) ≡ true → is_ledger ps l ≡ true
ledger-there l p [] i h = absurd i
ledger-there l p (q ∷ qs) (inl e) h = or-left (is_among l (ledgers_of q)) (is_ledger qs l) (subst (λ (r : Part). is_among l (ledgers_of r) ≡ true) e h)
ledger-there l p (q ∷ qs) (inr i) h = or-right (is_among l (ledgers_of q)) (is_ledger qs l) (ledger-there l p qs i h)

module _ (items : List ℕ → List Item) (me : List ℕ) (ps : List Part) (d : AreApart bytes_eq (all_exits ps)) where
  abbrev ns : List (List ℕ)
  ns = channels ps

  -- ---- the edges that a part would need of a ledger, where the outcome has no item for them

  abbrev pub missing_one : List ℕ → Dest → List Edge
  missing_one l e = cond (has (items l) e) [] (moving l e ∷ [])

  abbrev pub missing_on : (m l : List ℕ) → Dest → List Edge
  missing_on m l e = cond (bytes_eq m l) (missing_one l e) []

  abbrev pub missing : List ℕ → Part → List Edge
  missing l (Root x) = []
  missing l (OnLedger m x) = missing_on m l (Channel x)
  missing l (End v) = missing_on (own_ledger v) l (Channel (own_guarantor v))
  missing l (Middle v) = missing_on v.ledger_a l (Channel v.guarantor_a) ++ missing_on v.ledger_b l (Channel v.guarantor_b)

  abbrev pub all_missing : List Part → List ℕ → List Edge
  all_missing [] l = []
  all_missing (q ∷ qs) l = missing l q ++ all_missing qs l

  missing-from : (m l : List ℕ) (e : Dest) → AreFrom l (missing_on m l e)
  missing-from m l e = by_test (bytes_eq m l) (has (items l) e)
    where
      by_test : (t u : Bool) → AreFrom l (cond t (cond u [] (moving l e ∷ [])) [])
      by_test true true = tt
      by_test true false = (refl, tt)
      by_test false u = tt

  part-from : (l : List ℕ) (p : Part) → AreFrom l (missing l p)
  part-from l (Root x) = tt
  part-from l (OnLedger m x) = missing-from m l (Channel x)
  part-from l (End v) = missing-from (own_ledger v) l (Channel (own_guarantor v))
  part-from l (Middle v) = are-from l (missing_on v.ledger_a l (Channel v.guarantor_a)) (missing_on v.ledger_b l (Channel v.guarantor_b))
      (missing-from v.ledger_a l (Channel v.guarantor_a)) (missing-from v.ledger_b l (Channel v.guarantor_b))

  pub all-from : (qs : List Part) (l : List ℕ) → AreFrom l (all_missing qs l)
  all-from [] l = tt
  all-from (q ∷ qs) l = are-from l (missing l q) (all_missing qs l) (part-from l q) (all-from qs l)

  -- what is lent and has no item is there
  missing-there : (m l c : List ℕ) → m ≡ l → has (items l) (Channel c) ≡ false → is_shut (missing_on m l (Channel c)) l (Channel c) ≡ true
  missing-there m l c e h = by_test (bytes_eq m l) (has (items l) (Channel c)) (subst (λ (n : List ℕ). bytes_eq m n ≡ true) e (bytes_eq_self m)) h
    where
      by_test : (t u : Bool) → t ≡ true → u ≡ false → is_shut (cond t (cond u [] (moving l (Channel c) ∷ [])) []) l (Channel c) ≡ true
      by_test true false e w = shut-here (moving l (Channel c)) []
      by_test true true e w = absurd (false≢true (sym w))
      by_test false u e w = absurd (false≢true e)

  missing-part : (p : Part) (l c : List ℕ) → Lends p l c → has (items l) (Channel c) ≡ false → is_shut (missing l p) l (Channel c) ≡ true
  missing-part (Root x) l c w h = absurd w
  missing-part (OnLedger m x) l c w h =
      subst (λ (n : List ℕ). is_shut (missing_on m l (Channel n)) l (Channel c) ≡ true) (sym w.1) (missing-there m l c w.0 h)
  missing-part (End v) l c w h =
      subst (λ (n : List ℕ). is_shut (missing_on (own_ledger v) l (Channel n)) l (Channel c) ≡ true) (sym w.1) (missing-there (own_ledger v) l c w.0 h)
  missing-part (Middle v) l c (inl w) h =
      shut-left (missing_on v.ledger_a l (Channel v.guarantor_a)) (missing_on v.ledger_b l (Channel v.guarantor_b)) l (Channel c)
      (subst (λ (n : List ℕ). is_shut (missing_on v.ledger_a l (Channel n)) l (Channel c) ≡ true) (sym w.1) (missing-there v.ledger_a l c w.0 h))
  missing-part (Middle v) l c (inr w) h =
      shut-right (missing_on v.ledger_a l (Channel v.guarantor_a)) (missing_on v.ledger_b l (Channel v.guarantor_b)) l (Channel c)
      (subst (λ (n : List ℕ). is_shut (missing_on v.ledger_b l (Channel n)) l (Channel c) ≡ true) (sym w.1) (missing-there v.ledger_b l c w.0 h))

  missing-in : (qs : List Part) (p : Part) (l : List ℕ) (e : Dest) → In p qs → is_shut (missing l p) l e ≡ true → is_shut (all_missing qs l) l e ≡ true
  missing-in [] p l e i h = absurd i
  missing-in (q ∷ qs) p l e (inl is) h =
      shut-left (missing l q) (all_missing qs l) l e (subst (λ (y : Part). is_shut (missing l y) l e ≡ true) is h)
  missing-in (q ∷ qs) p l e (inr i) h = shut-right (missing l q) (all_missing qs l) l e (missing-in qs p l e i h)

  -- ---- a ledger's edges to the plan's channels pay all that it lends

  abbrev pub more : List ℕ → List Edge
  more = all_missing ps

  serves-by : (names : List (List ℕ)) (l : List ℕ) → ((p : Part) (c : List ℕ) → In p ps → Lends p l c → (is_among c names ≡ true) × (bytes_eq c l ≡ false)) →
      Serves ps (out_edges items more names l) l
  serves-by names l known p c i w = by_test (has (items l) (Channel c)) refl
    where
      by_test : (t : Bool) → has (items l) (Channel c) ≡ t → is_shut (out_edges items more names l) l (Channel c) ≡ true
      by_test true h = shut-left (edges_to l names (items l)) (more l) l (Channel c) (named-shut l c names (items l) (known p c i w).0 (known p c i w).1 h)
      by_test false h = shut-right (edges_to l names (items l)) (more l) l (Channel c) (missing-in ps p l (Channel c) i (missing-part p l c w h))

  out-from : (names : List (List ℕ)) (l : List ℕ) → AreFrom l (out_edges items more names l)
  out-from names l = are-from l (edges_to l names (items l)) (more l) (named-from l names (items l)) (all-from ps l)

  lent-among : (p : Part) (l c : List ℕ) → In p ps → Lends p l c → is_among c ns ≡ true
  lent-among p l c i w = among-channels c p ps i (lent-channel p l c w)

  -- what a root or an end's channel lends isn't itself
  apart-root : (l c : List ℕ) (p : Part) → In (Root l) ps → In p ps → Lends p l c → bytes_eq c l ≡ false
  apart-root l c p i j w = not-true (bytes_eq c l) (λ e. differ p w (unique l ps d (Root l) p i j (self l []) (subst (λ (n : List ℕ). is_among n (exits p) ≡ true) (same_bytes c l e) (lent-exit p l c w))))
    where
      differ : (q : Part) → Lends q l c → Root l ≡ q → ⊥
      differ (Root x) w e = absurd w
      differ (OnLedger m x) w e = cc
      differ (End v) w e = cc
      differ (Middle v) w e = cc

  apart-end : (v : Virtual) (c : List ℕ) (p : Part) → IsApartFromGuarantors (End v) → In (End v) ps → In p ps → Lends p v.channel c → bytes_eq c v.channel ≡ false
  apart-end v c p ne i j w = not-true (bytes_eq c v.channel) (λ e. differ p w e (unique v.channel ps d (End v) p i j (self v.channel (own_guarantor v ∷ []))
      (subst (λ (n : List ℕ). is_among n (exits p) ≡ true) (same_bytes c v.channel e) (lent-exit p v.channel c w))))
    where
      -- the end itself lends its own guarantor, which isn't its channel
      own : (q : Part) → Lends q v.channel c → End v ≡ q → c ≡ own_guarantor v
      own (Root x) w e = absurd w
      own (OnLedger m x) w e = cc
      own (End u) w e = sym w.1 ∙ ap (λ (r : Part). elim r as (λ y. List ℕ) [ Root y ↦ y | OnLedger y z ↦ z | End y ↦ own_guarantor y | Middle y ↦ y.channel ]) (sym e)
      own (Middle u) w e = cc

      differ : (q : Part) → Lends q v.channel c → bytes_eq c v.channel ≡ true → End v ≡ q → ⊥
      differ q w e same =
          let is : v.channel ≡ own_guarantor v = sym (same_bytes c v.channel e) ∙ own q w same in
          false≢true (sym ne ∙ subst (λ (n : List ℕ). bytes_eq v.channel n ≡ true) is (bytes_eq_self v.channel))

  -- ---- the roots, and the other parts

  abbrev pub roots : List Edge
  roots = all_root_edges items more me ns ps

  abbrev pub onward : List ℕ → List Edge
  onward = onward_edges items more ps

  roots-from : (qs : List Part) → ((p : Part) → In p qs → In p ps) → FromRoots ps (all_root_edges items more me ns qs)
  roots-from [] i = tt
  roots-from (Root x ∷ qs) i =
      from-append ps (out_edges items more ns x ++ moving x (Person me) ∷ []) (all_root_edges items more me ns qs)
      (from-append ps (out_edges items more ns x) (moving x (Person me) ∷ []) (moved-roots ps x (out_edges items more ns x) (i (Root x) (inl refl)) (out-from ns x)) (i (Root x) (inl refl), tt))
      (roots-from qs (λ p j. i p (inr j)))
  roots-from (OnLedger l x ∷ qs) i = roots-from qs (λ p j. i p (inr j))
  roots-from (End v ∷ qs) i = roots-from qs (λ p j. i p (inr j))
  roots-from (Middle v ∷ qs) i = roots-from qs (λ p j. i p (inr j))

  -- a root's edges are among all roots'
  roots-shut : (qs : List Part) (l : List ℕ) (e : Dest) → In (Root l) qs → is_shut (root_edges items more me ns (Root l)) l e ≡ true →
      is_shut (all_root_edges items more me ns qs) l e ≡ true
  roots-shut [] l e i h = absurd i
  roots-shut (q ∷ qs) l e (inl is) h =
      shut-left (root_edges items more me ns q) (all_root_edges items more me ns qs) l e (subst (λ (p : Part). is_shut (root_edges items more me ns p) l e ≡ true) is h)
  roots-shut (q ∷ qs) l e (inr i) h =
      shut-right (root_edges items more me ns q) (all_root_edges items more me ns qs) l e (roots-shut qs l e i h)

  root-serves : (l : List ℕ) → In (Root l) ps → Serves ps roots l
  root-serves l i p c j w =
      roots-shut ps l (Channel c) i (shut-left (out_edges items more ns l) (moving l (Person me) ∷ []) l (Channel c)
      (serves-by ns l (λ q n k u. (lent-among q l n k u, apart-root l n q i k u)) p c j w))

  end-serves : (v : Virtual) → IsApartFromGuarantors (End v) → In (End v) ps → Serves ps (onward v.channel) v.channel
  end-serves v ne i = serves-by (passed_to ps v.channel) v.channel (λ q n k u. (passes q n k u, apart-end v n q ne i k u))
    where
      passes : (q : Part) (n : List ℕ) → In q ps → Lends q v.channel n → is_among n (passed_to ps v.channel) ≡ true
      passes q n k u = by_test (is_ledger ps v.channel) (ledger-there v.channel q ps k (lent-ledger q v.channel n u))
        where
          by_test : (t : Bool) → t ≡ true → is_among n (cond t (channels ps) []) ≡ true
          by_test true e = lent-among q v.channel n k u
          by_test false e = absurd (false≢true e)

  pub supplies : ((v : Virtual) → In (End v) ps → IsApartFromGuarantors (End v)) → AreOnLedgers ps [] ps → ExitCalls me ps roots onward
  supplies apart stand = record {
    from = roots-from ps (λ p i. i);
    own = λ x i. roots-shut ps x (Person me) i (shut-right (out_edges items more ns x) (moving x (Person me) ∷ []) x (Person me) (shut-here (moving x (Person me)) []));
    serve = root-serves;
    moves = λ x. out-from (passed_to ps x) x;
    passes = λ v i. end-serves v (apart v i) i;
    stand = stand;
  }
