-- The list of an exit's calls is one in which each comes at its place: the roots' first, then the other parts'.
use Rattle.std.proofs.Common.{◌≡◌, ℕ, Bool, true, false, ◌||◌, ◌&&◌, List, [], ◌∷◌, ◌++◌, refl, sym, ◌∙◌, subst, inl, inr, ◌⊎◌}
use Rattle.std.proofs.lemmas.Bool.{false≢true}
use Rattle.std.proofs.lemmas.Slice.Eq.{bytes_eq-Decides}
use Rattle.std.specs.Prelude.{flat_map}
use Rattle.std.specs.Str.{bytes_eq}
use Rattle.channel_values.specs.Outcomes.{is_same, AreApart}
use Rattle.channel_values.specs.declared.value.Dest.{Dest}
use Rattle.channel_values.specs.declared.value.Dest.TheVariants.{Person, Channel}
use Rattle.call_history.specs.Flows.{is_among}
use Rattle.call_history.proofs.Names.{same_bytes, is_among-later}
use Rattle.share_laws.proofs.Apart.{among-first, apart-once, apart-rest}
use Rattle.channel_safety.specs.Journals.{In}
use Rattle.funding_plans.specs.declared.plan.Part.{Part}
use Rattle.funding_plans.specs.declared.plan.Part.TheVariants.{Root, OnLedger, End, Middle}
use Rattle.funding_plans.specs.declared.plan.Virtual.{Virtual}
use Rattle.funding_plans.specs.Parts.{own_ledger, own_guarantor}
use Rattle.channel_exits.specs.Calls.{exits}
use Rattle.channel_exits.specs.ExitLaws.{IsLedger, IsOnLedgers, AreOnLedgers}
use Rattle.channel_exits.proofs.Edges.{Edge, moving, claiming, payer, payee, is_shut, InPlace, AllInPlace, Complete, AllComplete, IsExit}

-- ---- the calls, as edges

abbrev pub all_exits : List Part → List (List ℕ)
all_exits ps = flat_map exits ps

-- the calls for a part other than a root, where an end's channel passes on by these what it is paid
abbrev pub part_edges : (onward : List ℕ → List Edge) → List ℕ → Part → List Edge
part_edges onward me (Root x) = []
part_edges onward me (OnLedger l x) = moving x (Person me) ∷ []
part_edges onward me (End v) =
    claiming (own_guarantor v) v.joint (Channel v.channel) ∷ claiming (own_guarantor v) v.joint (Person me)
    ∷ (onward v.channel ++ moving v.channel (Person me) ∷ [])
part_edges onward me (Middle v) =
    claiming v.guarantor_a v.joint (Channel v.channel) ∷ claiming v.guarantor_b v.joint (Channel v.channel)
    ∷ claiming v.guarantor_a v.joint (Person me) ∷ claiming v.guarantor_b v.joint (Person me) ∷ []

abbrev pub other_edges : (onward : List ℕ → List Edge) → List ℕ → List Part → List Edge
other_edges onward me [] = []
other_edges onward me (p ∷ ps) = part_edges onward me p ++ other_edges onward me ps

-- transfers from roots of the plan, in whatever order
abbrev pub FromRoots : List Part → List Edge → Type 0
FromRoots ps [] = Unit {0}
FromRoots ps (moving f d ∷ cs) = In (Root f) ps × FromRoots ps cs
FromRoots ps (claiming g j d ∷ cs) = ⊥

-- the calls pay what the part's ledgers owe: the person at a root, the channel on its ledger, the guarantors on theirs
abbrev pub Supplied : List ℕ → List Edge → Part → Type 0
Supplied me cs (Root x) = is_shut cs x (Person me) ≡ true
Supplied me cs (OnLedger l x) = is_shut cs l (Channel x) ≡ true
Supplied me cs (End v) = is_shut cs (own_ledger v) (Channel (own_guarantor v)) ≡ true
Supplied me cs (Middle v) =
    (is_shut cs v.ledger_a (Channel v.guarantor_a) ≡ true) × (is_shut cs v.ledger_b (Channel v.guarantor_b) ≡ true)

-- the ledger l lends the part what it sets aside for the channel c
abbrev pub Lends : Part → (l c : List ℕ) → Type 0
Lends (Root x) l c = ⊥
Lends (OnLedger m x) l c = (m ≡ l) × (x ≡ c)
Lends (End v) l c = (own_ledger v ≡ l) × (own_guarantor v ≡ c)
Lends (Middle v) l c = ((v.ledger_a ≡ l) × (v.guarantor_a ≡ c)) ⊎ ((v.ledger_b ≡ l) × (v.guarantor_b ≡ c))

-- the calls pay all that the ledger lends parts of the plan
abbrev pub Serves : List Part → List Edge → List ℕ → Type 0
Serves ps cs l = (p : Part) (c : List ℕ) → In p ps → Lends p l c → is_shut cs l (Channel c) ≡ true

-- transfers from one channel
abbrev pub AreFrom : List ℕ → List Edge → Type 0
AreFrom f [] = Unit {0}
AreFrom f (moving g d ∷ cs) = (g ≡ f) × AreFrom f cs
AreFrom f (claiming g j d ∷ cs) = ⊥

-- The roots' calls come first, which pay the person and all that roots lend. Then come each other part's in the
-- plan's order, where an end's channel passes on all that it lends.
pub record ExitCalls (me : List ℕ) (ps : List Part) (roots : List Edge) (onward : List ℕ → List Edge) : Type 0 where
  pub from : FromRoots ps roots
  pub own : (x : List ℕ) → In (Root x) ps → is_shut roots x (Person me) ≡ true
  pub serve : (l : List ℕ) → In (Root l) ps → Serves ps roots l
  pub moves : (x : List ℕ) → AreFrom x (onward x)
  pub passes : (v : Virtual) → In (End v) ps → Serves ps (onward v.channel) v.channel
  pub stand : AreOnLedgers ps [] ps

pub bytes_eq-refl : (n : List ℕ) → bytes_eq n n ≡ true
bytes_eq-refl n = (bytes_eq-Decides n n).1 refl

bytes_eq-sym-true : (m n : List ℕ) → bytes_eq m n ≡ true → bytes_eq n m ≡ true
bytes_eq-sym-true m n h = (bytes_eq-Decides n m).1 (sym (same_bytes m n h))

pub is_same-refl : (d : Dest) → is_same d d ≡ true
is_same-refl (Person n) = bytes_eq-refl n
is_same-refl (Channel n) = bytes_eq-refl n

pub not-true : (t : Bool) → (t ≡ true → ⊥) → t ≡ false
not-true true h = absurd (h refl)
not-true false h = refl

pub or-left : (t u : Bool) → t ≡ true → (t || u) ≡ true
or-left true u h = refl
or-left false u h = absurd (false≢true h)

pub or-right : (t u : Bool) → u ≡ true → (t || u) ≡ true
or-right true u h = refl
or-right false u h = h

or-both : (t u : Bool) → t ≡ false → u ≡ false → (t || u) ≡ false
or-both true u h k = h
or-both false u h k = k

or-first : (t u : Bool) → (t || u) ≡ false → t ≡ false
or-first true u h = absurd (false≢true (sym h))
or-first false u h = refl

or-rest : (t u : Bool) → (t || u) ≡ false → u ≡ false
or-rest true u h = absurd (false≢true (sym h))
or-rest false u h = h

and-first-false : (t u : Bool) → t ≡ false → (t && u) ≡ false
and-first-false true u h = absurd (false≢true (sym h))
and-first-false false u h = refl

both-true : (t u : Bool) → t ≡ true → u ≡ true → (t && u) ≡ true
both-true true u h k = k
both-true false u h k = absurd (false≢true h)

pub shut-here : (c : Edge) (cs : List Edge) → is_shut (c ∷ cs) (payer c) (payee c) ≡ true
shut-here c cs = or-left _ (is_shut cs (payer c) (payee c)) (both-true _ _ (bytes_eq-refl (payer c)) (is_same-refl (payee c)))

shut-later : (c : Edge) (cs : List Edge) (n : List ℕ) (d : Dest) → is_shut cs n d ≡ true → is_shut (c ∷ cs) n d ≡ true
shut-later c cs n d h = or-right (bytes_eq n (payer c) && is_same d (payee c)) (is_shut cs n d) h

open-later : (c : Edge) (cs : List Edge) (n : List ℕ) (d : Dest) → bytes_eq n (payer c) ≡ false → is_shut cs n d ≡ false → is_shut (c ∷ cs) n d ≡ false
open-later c cs n d ne h = or-both _ (is_shut cs n d) (and-first-false (bytes_eq n (payer c)) _ ne) h

is_among-all : (f : List ℕ) (p : Part) (ps : List Part) → In p ps → is_among f (exits p) ≡ true → is_among f (all_exits ps) ≡ true
is_among-all f p [] i h = absurd i
is_among-all f p (q ∷ qs) (inl e) h = among-first f (exits q) (all_exits qs) (subst (λ (r : Part). is_among f (exits r) ≡ true) e h)
is_among-all f p (q ∷ qs) (inr i) h = is_among-later f (exits q) (all_exits qs) (is_among-all f p qs i h)

-- a name of the exit is of one part
pub unique : (f : List ℕ) (ps : List Part) → AreApart bytes_eq (all_exits ps) → (p q : Part) → In p ps → In q ps →
    is_among f (exits p) ≡ true → is_among f (exits q) ≡ true → p ≡ q
unique f [] d p q i j h k = absurd i
unique f (r ∷ rs) d p q (inl e) (inl g) h k = e ∙ sym g
unique f (r ∷ rs) d p q (inl e) (inr j) h k =
    absurd (false≢true (sym (apart-once (exits r) (all_exits rs) d f (subst (λ (y : Part). is_among f (exits y) ≡ true) e h)) ∙ is_among-all f q rs j k))
unique f (r ∷ rs) d p q (inr i) (inl g) h k =
    absurd (false≢true (sym (apart-once (exits r) (all_exits rs) d f (subst (λ (y : Part). is_among f (exits y) ≡ true) g k)) ∙ is_among-all f p rs i h))
unique f (r ∷ rs) d p q (inr i) (inr j) h k = unique f rs (apart-rest (exits r) (all_exits rs) d) p q i j h k

-- a call that pays from none of a part's names is in place for it
elsewhere : (me : List ℕ) (done : List Edge) (c : Edge) (p : Part) → is_among (payer c) (exits p) ≡ false → InPlace me done c p
elsewhere me done c (Root x) h = λ e. absurd (false≢true (sym (or-first _ _ h) ∙ bytes_eq-sym-true x (payer c) e))
elsewhere me done c (OnLedger l x) h = λ e. absurd (false≢true (sym (or-first _ _ h) ∙ bytes_eq-sym-true x (payer c) e))
elsewhere me done c (End v) h = (
  (λ e. absurd (false≢true (sym (or-first _ _ h) ∙ bytes_eq-sym-true v.channel (payer c) e))),
  (λ e. absurd (false≢true (sym (or-first _ _ (or-rest (bytes_eq (payer c) v.channel) _ h)) ∙ bytes_eq-sym-true (own_guarantor v) (payer c) e))),
)
elsewhere me done c (Middle v) h = (
  (λ e. absurd (false≢true (sym (or-first _ _ h) ∙ bytes_eq-sym-true v.guarantor_a (payer c) e))),
  (λ e. absurd (false≢true (sym (or-first _ _ (or-rest (bytes_eq (payer c) v.guarantor_a) _ h)) ∙ bytes_eq-sym-true v.guarantor_b (payer c) e))),
)

all-in-place : (me : List ℕ) (done : List Edge) (c : Edge) (ps : List Part) → ((p : Part) → In p ps → InPlace me done c p) → AllInPlace me done c ps
all-in-place me done c [] h = tt
all-in-place me done c (p ∷ ps) h = (h p (inl refl), all-in-place me done c ps (λ q i. h q (inr i)))

all-complete : (me : List ℕ) (done : List Edge) (ps : List Part) → ((p : Part) → In p ps → Complete me done p) → AllComplete me done ps
all-complete me done [] h = tt
all-complete me done (p ∷ ps) h = (h p (inl refl), all-complete me done ps (λ q i. h q (inr i)))

complete-later : (me : List ℕ) (c : Edge) (done : List Edge) (p : Part) → Complete me done p → Complete me (c ∷ done) p
complete-later me c done (Root x) h = shut-later c done x (Person me) h
complete-later me c done (OnLedger l x) h = shut-later c done x (Person me) h
complete-later me c done (End v) h = (shut-later c done (own_guarantor v) (Person me) h.0, shut-later c done v.channel (Person me) h.1)
complete-later me c done (Middle v) h =
    (shut-later c done v.guarantor_a (Channel v.channel) h.0, shut-later c done v.guarantor_a (Person me) h.1, shut-later c done v.guarantor_b (Person me) h.2)

-- a part whose calls are still to come: its ledgers have paid, and an intermediary hasn't claimed for itself
abbrev Unclaimed : List ℕ → List Edge → Part → Type 0
Unclaimed me done (Root x) = Unit {0}
Unclaimed me done (OnLedger l x) = Unit {0}
Unclaimed me done (End v) = Unit {0}
Unclaimed me done (Middle v) = (is_shut done v.guarantor_a (Person me) ≡ false) × (is_shut done v.guarantor_b (Person me) ≡ false)

supplied-later : (me : List ℕ) (c : Edge) (done : List Edge) (p : Part) → Supplied me done p → Supplied me (c ∷ done) p
supplied-later me c done (Root x) h = shut-later c done x (Person me) h
supplied-later me c done (OnLedger l x) h = shut-later c done l (Channel x) h
supplied-later me c done (End v) h = shut-later c done (own_ledger v) (Channel (own_guarantor v)) h
supplied-later me c done (Middle v) h =
    (shut-later c done v.ledger_a (Channel v.guarantor_a) h.0, shut-later c done v.ledger_b (Channel v.guarantor_b) h.1)

sym-false : (m n : List ℕ) → bytes_eq m n ≡ false → bytes_eq n m ≡ false
sym-false m n h = not-true (bytes_eq n m) (λ e. false≢true (sym h ∙ bytes_eq-sym-true n m e))

unclaimed-later : (me : List ℕ) (c : Edge) (done : List Edge) (p : Part) → is_among (payer c) (exits p) ≡ false → Unclaimed me done p → Unclaimed me (c ∷ done) p
unclaimed-later me c done (Root x) n h = tt
unclaimed-later me c done (OnLedger l x) n h = tt
unclaimed-later me c done (End v) n h = tt
unclaimed-later me c done (Middle v) n h = (
  open-later c done v.guarantor_a (Person me) (sym-false (payer c) v.guarantor_a (or-first _ _ n)) h.0,
  open-later c done v.guarantor_b (Person me) (sym-false (payer c) v.guarantor_b (or-first _ _ (or-rest (bytes_eq (payer c) v.guarantor_a) _ n))) h.1,
)

-- calls added to those done, one by one
abbrev onto : List Edge → List Edge → List Edge
onto [] done = done
onto (c ∷ cs) done = onto cs (c ∷ done)

onto-shut : (cs done : List Edge) (n : List ℕ) (e : Dest) → is_shut done n e ≡ true → is_shut (onto cs done) n e ≡ true
onto-shut [] done n e h = h
onto-shut (c ∷ cs) done n e h = onto-shut cs (c ∷ done) n e (shut-later c done n e h)

or-case : (t u : Bool) → (t || u) ≡ true → (t ≡ true) ⊎ (u ≡ true)
or-case true u h = inl refl
or-case false u h = inr h

shut-onto : (cs done : List Edge) (n : List ℕ) (e : Dest) → is_shut cs n e ≡ true → is_shut (onto cs done) n e ≡ true
shut-onto [] done n e h = absurd (false≢true h)
shut-onto (c ∷ cs) done n e h =
    by_case (or-case (bytes_eq n (payer c) && is_same e (payee c)) (is_shut cs n e) h) (shut-onto cs (c ∷ done) n e)
  where
    by_case : ((bytes_eq n (payer c) && is_same e (payee c)) ≡ true) ⊎ (is_shut cs n e ≡ true) →
        (is_shut cs n e ≡ true → is_shut (onto cs (c ∷ done)) n e ≡ true) → is_shut (onto cs (c ∷ done)) n e ≡ true
    by_case (inl y) g = onto-shut cs (c ∷ done) n e (or-left _ (is_shut done n e) y)
    by_case (inr y) g = g y

serves-later : (ps : List Part) (c : Edge) (done : List Edge) (l : List ℕ) → Serves ps done l → Serves ps (c ∷ done) l
serves-later ps c done l h = λ p n i w. shut-later c done l (Channel n) (h p n i w)

-- an end's channel has passed on what it lends
abbrev PassedOn : List Part → List Edge → Part → Type 0
PassedOn ps done (Root x) = Unit {0}
PassedOn ps done (OnLedger l x) = Unit {0}
PassedOn ps done (End v) = Serves ps done v.channel
PassedOn ps done (Middle v) = Unit {0}

module _ (me : List ℕ) (ps : List Part) (d : AreApart bytes_eq (all_exits ps)) (onward : List ℕ → List Edge) where
  -- what holds of the parts qs, whose calls come after those of `done` for the parts before
  record State (done : List Edge) (before qs : List Part) : Type 0 where
    inside : (p : Part) → In p qs → In p ps
    distinct : AreApart bytes_eq (all_exits qs)
    own : (x : List ℕ) → In (Root x) ps → is_shut done x (Person me) ≡ true
    roots : (l : List ℕ) → In (Root l) ps → Serves ps done l
    ends : (v : Virtual) → In (End v) before → Serves ps done v.channel
    unclaimed : (p : Part) → In p qs → Unclaimed me done p
    complete : (p : Part) → In p ps → Complete me done p ⊎ In p qs

  -- a call of the part q is in place for every part, if it is for q
  in-place : (done : List Edge) (c : Edge) (q : Part) → In q ps → is_among (payer c) (exits q) ≡ true → InPlace me done c q → AllInPlace me done c ps
  in-place done c q i here h = all-in-place me done c ps (λ p j. by_test p j (is_among (payer c) (exits p)) refl)
    where
      by_test : (p : Part) → In p ps → (t : Bool) → is_among (payer c) (exits p) ≡ t → InPlace me done c p
      by_test p j true e = subst (λ (r : Part). InPlace me done c r) (unique (payer c) ps d q p i j here e) h
      by_test p j false e = elsewhere me done c p e

  -- calls of the part q, after which it is complete
  record Half (done : List Edge) (before : List Part) (q : Part) (qs : List Part) : Type 0 where
    inside : (p : Part) → In p (q ∷ qs) → In p ps
    distinct : AreApart bytes_eq (exits q ++ all_exits qs)
    supplied : Supplied me done q
    own : (x : List ℕ) → In (Root x) ps → is_shut done x (Person me) ≡ true
    roots : (l : List ℕ) → In (Root l) ps → Serves ps done l
    ends : (v : Virtual) → In (End v) before → Serves ps done v.channel
    unclaimed : (p : Part) → In p qs → Unclaimed me done p
    complete : (p : Part) → In p ps → Complete me done p ⊎ In p (q ∷ qs)

  start : (done : List Edge) (before : List Part) (q : Part) (qs : List Part) → IsOnLedgers ps before q → State done before (q ∷ qs) → Half done before q qs
  start done before q qs on s = record {
    inside = s.inside;
    distinct = s.distinct;
    supplied = by_kind q (s.inside q (inl refl)) on;
    own = s.own;
    roots = s.roots;
    ends = s.ends;
    unclaimed = λ p i. s.unclaimed p (inr i);
    complete = s.complete;
  }
    where
      served : (l : List ℕ) → IsLedger ps before l → Serves ps done l
      served l (inl i) = s.roots l i
      served l (inr w) = subst (λ (n : List ℕ). Serves ps done n) w.2 (s.ends w.0 w.1)

      by_kind : (p : Part) → In p ps → IsOnLedgers ps before p → Supplied me done p
      by_kind (Root x) i w = s.own x i
      by_kind (OnLedger l x) i w = served l w (OnLedger l x) x i (refl, refl)
      by_kind (End v) i w = served (own_ledger v) w (End v) (own_guarantor v) i (refl, refl)
      by_kind (Middle v) i w = (
        served v.ledger_a w.0 (Middle v) v.guarantor_a i (inl (refl, refl)),
        served v.ledger_b w.1 (Middle v) v.guarantor_b i (inr (refl, refl)),
      )

  step : (done : List Edge) (c : Edge) (before : List Part) (q : Part) (qs : List Part) → is_among (payer c) (exits q) ≡ true → Half done before q qs → Half (c ∷ done) before q qs
  step done c before q qs here s = record {
    inside = s.inside;
    distinct = s.distinct;
    supplied = supplied-later me c done q s.supplied;
    own = λ x i. shut-later c done x (Person me) (s.own x i);
    roots = λ l i. serves-later ps c done l (s.roots l i);
    ends = λ v i. serves-later ps c done v.channel (s.ends v i);
    unclaimed = λ p i. unclaimed-later me c done p
        (not-true (is_among (payer c) (exits p)) (λ e. false≢true (sym (apart-once (exits q) (all_exits qs) s.distinct (payer c) here) ∙ is_among-all (payer c) p qs i e)))
        (s.unclaimed p i);
    complete = λ p i. kept p (s.complete p i);
  }
    where
      kept : (p : Part) → Complete me done p ⊎ In p (q ∷ qs) → Complete me (c ∷ done) p ⊎ In p (q ∷ qs)
      kept p (inl h) = inl (complete-later me c done p h)
      kept p (inr h) = inr h

  finish : (done : List Edge) (before : List Part) (q : Part) (qs : List Part) → Complete me done q → PassedOn ps done q → Half done before q qs → State done (q ∷ before) qs
  finish done before q qs z o s = record {
    inside = λ p i. s.inside p (inr i);
    distinct = apart-rest (exits q) (all_exits qs) s.distinct;
    own = s.own;
    roots = s.roots;
    ends = λ v i. given v i;
    unclaimed = s.unclaimed;
    complete = λ p i. kept p (s.complete p i);
  }
    where
      given : (v : Virtual) → In (End v) (q ∷ before) → Serves ps done v.channel
      given v (inl e) = subst (λ (r : Part). PassedOn ps done r) (sym e) o
      given v (inr i) = s.ends v i

      kept : (p : Part) → Complete me done p ⊎ In p (q ∷ qs) → Complete me done p ⊎ In p qs
      kept p (inl h) = inl h
      kept p (inr (inl e)) = inl (subst (λ (r : Part). Complete me done r) (sym e) z)
      kept p (inr (inr h)) = inr h

  first-name : (n : List ℕ) (ns : List (List ℕ)) → is_among n (n ∷ ns) ≡ true
  first-name n ns = or-left _ (is_among n ns) (bytes_eq-refl n)

  second-name : (m n : List ℕ) (ns : List (List ℕ)) → is_among n (m ∷ n ∷ ns) ≡ true
  second-name m n ns = or-right (bytes_eq n m) _ (first-name n ns)

  -- an end's channel passes on what it is paid
  pass : (v : Virtual) (before qs : List Part) → In (End v) ps → bytes_eq v.channel (own_guarantor v) ≡ false → (cs done : List Edge) → AreFrom v.channel cs →
      is_shut done (own_guarantor v) (Channel v.channel) ≡ true → Half done before (End v) qs → (tail others : List Edge) →
      (Half (onto cs done) before (End v) qs → IsExit me ps (onto cs done) (tail ++ others)) → IsExit me ps done ((cs ++ tail) ++ others)
  pass v before qs i ne [] done from paid h tail others k = k h
  pass v before qs i ne (moving f e ∷ cs) done from paid h tail others k =
      let here : is_among f (exits (End v)) ≡ true =
      subst (λ (n : List ℕ). is_among n (exits (End v)) ≡ true) (sym from.0) (first-name v.channel (own_guarantor v ∷ [])) in (
        in-place done (moving f e) (End v) i here (
          (λ t. (tt, paid)),
          (λ t. absurd (false≢true (sym ne ∙ subst (λ (n : List ℕ). bytes_eq n (own_guarantor v) ≡ true) from.0 (bytes_eq-sym-true (own_guarantor v) f t)))),
        ),
        pass v before qs i ne cs (moving f e ∷ done) from.1 (shut-later (moving f e) done (own_guarantor v) (Channel v.channel) paid)
            (step done (moving f e) before (End v) qs here h) tail others k,
      )
  pass v before qs i ne (claiming g j e ∷ cs) done from paid h tail others k = absurd from

  module _ (moves : (x : List ℕ) → AreFrom x (onward x)) (passes : (v : Virtual) → In (End v) ps → Serves ps (onward v.channel) v.channel) where
    rest : (qs before : List Part) (done : List Edge) → AreOnLedgers ps before qs → State done before qs → IsExit me ps done (other_edges onward me qs)
    rest [] before done on s = all-complete me done ps (λ p i. only p (s.complete p i))
      where
        only : (p : Part) → Complete me done p ⊎ In p [] → Complete me done p
        only p (inl h) = h
        only p (inr h) = absurd h
    rest (Root x ∷ qs) before done on s =
        rest qs (Root x ∷ before) done on.1
        (finish done before (Root x) qs (s.own x (s.inside (Root x) (inl refl))) tt (start done before (Root x) qs on.0 s))
    rest (OnLedger l x ∷ qs) before done on s =
        let q : Part = OnLedger l x in
        let c : Edge = moving x (Person me) in
        let h0 = start done before q qs on.0 s in
        let h1 = step done c before q qs (first-name x []) h0 in (
          in-place done c q (s.inside q (inl refl)) (first-name x []) (λ e. (tt, h0.supplied)),
          rest qs (q ∷ before) (c ∷ done) on.1 (finish (c ∷ done) before q qs (shut-here c done) tt h1),
        )
    rest (End v ∷ qs) before done on s =
        let q : Part = End v in
        let g : List ℕ = own_guarantor v in
        let x : List ℕ = v.channel in
        let i : In q ps = s.inside q (inl refl) in
        let ne : bytes_eq x g ≡ false = or-first _ _ s.distinct.0 in
        let c1 : Edge = claiming g v.joint (Channel x) in
        let c2 : Edge = claiming g v.joint (Person me) in
        let c3 : Edge = moving x (Person me) in
        let d1 : List Edge = c1 ∷ done in
        let d2 : List Edge = c2 ∷ d1 in
        let d3 : List Edge = onto (onward x) d2 in
        let claimed : is_shut d2 g (Channel x) ≡ true = shut-later c2 d1 g (Channel x) (shut-here c1 done) in
        let h0 = start done before q qs on.0 s in
        let h1 = step done c1 before q qs (second-name x g []) h0 in
        let h2 = step d1 c2 before q qs (second-name x g []) h1 in (
          in-place done c1 q i (second-name x g []) ((λ e. absurd (false≢true (sym ne ∙ e))), (λ e. (refl, h0.supplied))),
          (
            in-place d1 c2 q i (second-name x g []) ((λ e. absurd (false≢true (sym ne ∙ e))), (λ e. (refl, h1.supplied))),
            pass v before qs i ne (onward x) d2 (moves x) claimed h2 (c3 ∷ []) (other_edges onward me qs) (λ h3. (
              in-place d3 c3 q i (first-name x (g ∷ [])) (
                (λ e. (tt, onto-shut (onward x) d2 g (Channel x) claimed)),
                (λ e. absurd (false≢true (sym ne ∙ bytes_eq-sym-true g x e))),
              ),
              rest qs (q ∷ before) (c3 ∷ d3) on.1 (finish (c3 ∷ d3) before q qs
                  (shut-later c3 d3 g (Person me) (onto-shut (onward x) d2 g (Person me) (shut-here c2 d1)), shut-here c3 d3)
                  (λ p n j w. shut-later c3 d3 x (Channel n) (shut-onto (onward x) d2 x (Channel n) (passes v i p n j w)))
                  (step d3 c3 before q qs (first-name x (g ∷ [])) h3)),
            )),
          ),
        )
    rest (Middle v ∷ qs) before done on s =
        let q : Part = Middle v in
        let ga : List ℕ = v.guarantor_a in
        let gb : List ℕ = v.guarantor_b in
        let x : List ℕ = v.channel in
        let i : In q ps = s.inside q (inl refl) in
        let ne : bytes_eq ga gb ≡ false = or-first _ _ s.distinct.0 in
        let un = s.unclaimed q (inl refl) in
        let c1 : Edge = claiming ga v.joint (Channel x) in
        let c2 : Edge = claiming gb v.joint (Channel x) in
        let c3 : Edge = claiming ga v.joint (Person me) in
        let c4 : Edge = claiming gb v.joint (Person me) in
        let d1 : List Edge = c1 ∷ done in
        let d2 : List Edge = c2 ∷ d1 in
        let d3 : List Edge = c3 ∷ d2 in
        let isa = first-name ga (gb ∷ []) in
        let isb = second-name ga gb [] in
        let h0 = start done before q qs on.0 s in
        let h1 = step done c1 before q qs isa h0 in
        let h2 = step d1 c2 before q qs isb h1 in
        let h3 = step d2 c3 before q qs isa h2 in
        let h4 = step d3 c4 before q qs isb h3 in (
          in-place done c1 q i isa ((λ e. (refl, h0.supplied.0, (λ y. un))), (λ e. (refl, h0.supplied.1))),
          (
            in-place d1 c2 q i isb ((λ e. absurd (false≢true (sym ne ∙ e))), (λ e. (refl, h1.supplied.1))),
            (
              in-place d2 c3 q i isa ((λ e. (refl, h2.supplied.0, (λ y. absurd (false≢true y)))), (λ e. (refl, h2.supplied.1))),
              (
                in-place d3 c4 q i isb ((λ e. absurd (false≢true (sym ne ∙ e))), (λ e. (refl, h3.supplied.1))),
                rest qs (q ∷ before) (c4 ∷ d3) on.1 (finish (c4 ∷ d3) before q qs (
                  shut-later c4 d3 ga (Channel x) (shut-later c3 d2 ga (Channel x) (shut-later c2 d1 ga (Channel x) (shut-here c1 done))),
                  shut-later c4 d3 ga (Person me) (shut-here c3 d2),
                  shut-here c4 d3,
                ) tt h4),
              ),
            ),
          ),
        )

  -- the roots' calls come first
  root-in-place : (done : List Edge) (f : List ℕ) (t : Dest) → In (Root f) ps → AllInPlace me done (moving f t) ps
  root-in-place done f t i = in-place done (moving f t) (Root f) i (first-name f []) (λ e. tt)

  root-apart : (f : List ℕ) → In (Root f) ps → (p : Part) → In p ps → (done : List Edge) (t : Dest) → Unclaimed me done p → Unclaimed me (moving f t ∷ done) p
  root-apart f i (Root x) j done t u = tt
  root-apart f i (OnLedger l x) j done t u = tt
  root-apart f i (End v) j done t u = tt
  root-apart f i (Middle v) j done t u =
      unclaimed-later me (moving f t) done (Middle v)
      (not-true (is_among f (exits (Middle v))) (λ e. is-root (unique f ps d (Middle v) (Root f) j i e (first-name f [])))) u
    where
      is-root : Middle v ≡ Root f → ⊥
      is-root e = subst (λ (p : Part). elim p as (λ y. Type 0) [ Root y ↦ ⊥ | OnLedger y z ↦ Unit {0} | End y ↦ Unit {0} | Middle y ↦ Unit {0} ]) e tt

  unclaimed-onto : (cs done : List Edge) → FromRoots ps cs → (p : Part) → In p ps → Unclaimed me done p → Unclaimed me (onto cs done) p
  unclaimed-onto [] done f p i u = u
  unclaimed-onto (moving n t ∷ cs) done f p i u = unclaimed-onto cs (moving n t ∷ done) f.1 p i (root-apart n f.0 p i done t u)
  unclaimed-onto (claiming g j t ∷ cs) done f p i u = absurd f

  none : (p : Part) → Unclaimed me [] p
  none (Root x) = tt
  none (OnLedger l x) = tt
  none (End v) = tt
  none (Middle v) = (refl, refl)

  roots-first : (cs done : List Edge) (others : List Edge) → FromRoots ps cs → IsExit me ps (onto cs done) others → IsExit me ps done (cs ++ others)
  roots-first [] done others f h = h
  roots-first (moving n t ∷ cs) done others f h = (root-in-place done n t f.0, roots-first cs (moving n t ∷ done) others f.1 h)
  roots-first (claiming g j t ∷ cs) done others f h = absurd f

  pub list-is-exit : (roots : List Edge) → ExitCalls me ps roots onward → IsExit me ps [] (roots ++ other_edges onward me ps)
  list-is-exit roots x = roots-first roots [] (other_edges onward me ps) x.from (rest x.moves x.passes ps [] (onto roots []) x.stand (record {
    inside = λ p i. i;
    distinct = d;
    own = λ n i. shut-onto roots [] n (Person me) (x.own n i);
    roots = λ l i p n j w. shut-onto roots [] l (Channel n) (x.serve l i p n j w);
    ends = λ v i. absurd i;
    unclaimed = λ p i. unclaimed-onto roots [] x.from p i (none p);
    complete = λ p i. inr i;
  }))
