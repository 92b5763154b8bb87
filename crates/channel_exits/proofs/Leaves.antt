-- A list of calls in which each comes at its place pays what the books are worth, over any stretch in which it stands.
use Rattle.std.proofs.Common.{◌≡◌, ℕ, ◌+◌, ◌-◌, ◌≤◌, min, Bool, true, false, ◌&&◌, List, [], ◌∷◌, refl, sym, ◌∙◌, ap, arith, cond, inl, inr, ◌⊎◌}
use Rattle.std.proofs.lemmas.Bool.{false≢true}
use Rattle.std.proofs.lemmas.Slice.Eq.{bytes_eq-Decides}
use Rattle.std.specs.Str.{bytes_eq}
use Rattle.channel_values.specs.Outcomes.{is_same}
use Rattle.channel_values.specs.declared.value.Dest.{Dest}
use Rattle.channel_values.specs.declared.value.Dest.TheVariants.{Person, Channel}
use Rattle.channel_values.specs.Amounts.{amt, aff}
use Rattle.call_history.proofs.Names.{same_bytes}
use Rattle.funding_plans.specs.declared.plan.Part.{Part}
use Rattle.funding_plans.specs.declared.plan.Part.TheVariants.{Root, OnLedger, End, Middle}
use Rattle.share_laws.specs.Books.{Books, Counting}
use Rattle.share_laws.specs.Worth.{Table, second_amt, middle_worth, child, guarantor, virtual, end_reach, reach_after, worth}
use Rattle.funding_plans.specs.Parts.{own_guarantor}
use Rattle.share_laws.specs.Moved.{Moved}
use Rattle.share_laws.proofs.PartShares.{PaysBy, still, silent, bare, listed, Pays, pays-kept}
use Rattle.channel_exits.proofs.Edges.{still as still_open, Edge, moving, claiming, payer, payee, by_list, left, is_shut, shut, IsTransfer, ClaimsOf, InPlace, AllInPlace, AllComplete, IsExit, IsBare, Listed, AllListed, Run, ends, moves, stands}
use Rattle.channel_exits.proofs.Close.{MayClose, AllMayClose, hit, close}

-- ---- others' entries, with what the exit closed

Pays-shut : (done : List Edge) (b c : Books) (counting : List Counting) (me : List ℕ) (paid now : ℕ) → Pays b c counting me paid now →
    Pays (shut done b) (shut done c) counting me paid now
Pays-shut done b c counting me paid now x = record {
  payer = x.payer;
  owner = x.owner;
  to = x.to;
  amount = x.amount;
  moved = record {
    held = x.moved.held;
    spends = x.moved.spends;
    amounts = x.moved.amounts;
    falls = x.moved.falls;
    names = x.moved.names;
    counts = x.moved.counts;
    lists = x.moved.lists;
    opens = λ n d. refl;
  };
  received = x.received;
  guarantors = λ joint list promised. by joint list (x.guarantors joint list promised);
}
  where
    by : (joint : List ℕ) (list : List Dest) → PaysBy b c x.payer x.owner x.to x.amount joint list → PaysBy (shut done b) (shut done c) x.payer x.owner x.to x.amount joint list
    by joint list (still e) = still e
    by joint list (silent e) = silent e
    by joint list (bare e) = bare e
    by joint list (listed position target is there exact due) = listed position target is there exact due

-- ---- the lists of the guarantors stay

bare-kept : (b c : Books) (f s : List ℕ) (to : Dest) (k : ℕ) → Moved b c f s to k → (j : List ℕ) → IsBare b j → IsBare c j
bare-kept b c f s to k m j none d = let p = m.falls j d in let q = none d in omega (arith, p, q)

Listed-kept : (b c : Books) (f s : List ℕ) (to : Dest) (k : ℕ) → Moved b c f s to k → (me : List ℕ) (ps : List Part) → AllListed b me ps → AllListed c me ps
Listed-kept b c f s to k m me [] h = tt
Listed-kept b c f s to k m me (Root x ∷ ps) h = (tt, Listed-kept b c f s to k m me ps h.1)
Listed-kept b c f s to k m me (OnLedger l x ∷ ps) h = (tt, Listed-kept b c f s to k m me ps h.1)
Listed-kept b c f s to k m me (End v ∷ ps) h =
    ((λ y. go (h.0 (sym (m.counts (own_guarantor v)) ∙ y))), Listed-kept b c f s to k m me ps h.1)
  where
    go : ((third : Dest) × (b.list (own_guarantor v) ≡ Channel v.channel ∷ Person me ∷ third ∷ [])) ⊎ IsBare b v.joint →
        ((third : Dest) × (c.list (own_guarantor v) ≡ Channel v.channel ∷ Person me ∷ third ∷ [])) ⊎ IsBare c v.joint
    go (inl o) = inl (o.0, m.lists (own_guarantor v) ∙ o.1)
    go (inr none) = inr (bare-kept b c f s to k m v.joint none)
Listed-kept b c f s to k m me (Middle v ∷ ps) h = (
  (
    (λ y. go v.guarantor_a (h.0.0 (sym (m.counts v.guarantor_a) ∙ y))),
    (λ y. go v.guarantor_b (h.0.1 (sym (m.counts v.guarantor_b) ∙ y))),
  ),
  Listed-kept b c f s to k m me ps h.1,
)
  where
    go : (g : List ℕ) →
        ((second : Dest) × (b.list g ≡ Channel v.channel ∷ second ∷ Person me ∷ [])) ⊎ IsBare b v.joint →
        ((second : Dest) × (c.list g ≡ Channel v.channel ∷ second ∷ Person me ∷ [])) ⊎ IsBare c v.joint
    go g (inl o) = inl (o.0, m.lists g ∙ o.1)
    go g (inr none) = inr (bare-kept b c f s to k m v.joint none)

-- ---- a call of the exit stands: the parts may close what it paid

and-true : (t u : Bool) → (t && u) ≡ true → (t ≡ true) × (u ≡ true)
and-true true true h = (refl, refl)
and-true true false h = absurd (false≢true h)
and-true false u h = absurd (false≢true h)

pub is_same-true : (d e : Dest) → is_same d e ≡ true → d ≡ e
is_same-true (Person m) (Person n) h = ap Person (same_bytes m n h)
is_same-true (Person m) (Channel n) h = absurd (false≢true h)
is_same-true (Channel m) (Person n) h = absurd (false≢true h)
is_same-true (Channel m) (Channel n) h = ap Channel (same_bytes m n h)

bytes_eq-refl : (n : List ℕ) → bytes_eq n n ≡ true
bytes_eq-refl n = (bytes_eq-Decides n n).1 refl

module _ (b : Books) (done : List Edge) (call : Edge) (me : List ℕ) (nothing : left b call ≡ 0) where
  transfer-left : (x : List ℕ) (e : Dest) → IsTransfer call → hit b done call me x e ≡ true → aff (b.items x) (b.held x) e ≡ 0
  transfer-left x e t h =
      let y = and-true (bytes_eq x (payer call)) _ h in
      by_call call t nothing (same_bytes x (payer call) y.0) (is_same-true e (payee call) y.1)
    where
      by_call : (c : Edge) → IsTransfer c → left b c ≡ 0 → x ≡ payer c → e ≡ payee c → aff (b.items x) (b.held x) e ≡ 0
      by_call (moving f d) t z p q = ap (λ (n : List ℕ). aff (b.items n) (b.held n) e) p ∙ ap (λ (y : Dest). aff (b.items f) (b.held f) y) q ∙ z
      by_call (claiming g j d) t z p q = absurd t

  claim-left : (g j : List ℕ) (e : Dest) → ClaimsOf call j → hit b done call me g e ≡ true → by_list (b.items j) (b.list g) (b.held g) e ≡ 0
  claim-left g j e t h =
      let y = and-true (bytes_eq g (payer call)) _ h in
      by_call call t nothing (same_bytes g (payer call) y.0) (is_same-true e (payee call) y.1)
    where
      by_call : (c : Edge) → ClaimsOf c j → left b c ≡ 0 → g ≡ payer c → e ≡ payee c → by_list (b.items j) (b.list g) (b.held g) e ≡ 0
      by_call (moving f d) t z p q = absurd t
      by_call (claiming n i d) t z p q =
          ap (λ (y : List ℕ). by_list (b.items j) (b.list y) (b.held y) e) p ∙ ap (λ (y : Dest). by_list (b.items j) (b.list n) (b.held n) y) q
          ∙ ap (λ (y : List ℕ). by_list (b.items y) (b.list n) (b.held n) d) (sym t) ∙ z

  -- what is left for the first of a list
  first-left : (g j x : List ℕ) (ds : List Dest) → b.list g ≡ Channel x ∷ ds → by_list (b.items j) (b.list g) (b.held g) (Channel x) ≡ 0 →
      min (amt (b.items j) (Channel x)) (b.held g) ≡ 0
  first-left g j x ds is z =
      sym (ap (λ (t : Bool). cond t (min (amt (b.items j) (Channel x)) (b.held g)) (by_list (b.items j) ds (b.held g - amt (b.items j) (Channel x)) (Channel x))) (bytes_eq-refl x))
      ∙ sym (ap (λ (ys : List Dest). by_list (b.items j) ys (b.held g) (Channel x)) is) ∙ z

  -- for the second
  second-left : (g j x : List ℕ) (ds : List Dest) → b.list g ≡ Channel x ∷ Person me ∷ ds → by_list (b.items j) (b.list g) (b.held g) (Person me) ≡ 0 →
      min (amt (b.items j) (Person me)) (b.held g - amt (b.items j) (Channel x)) ≡ 0
  second-left g j x ds is z =
      let r : ℕ = b.held g - amt (b.items j) (Channel x) in
      sym (ap (λ (t : Bool). cond t (min (amt (b.items j) (Person me)) r) (by_list (b.items j) ds (r - amt (b.items j) (Person me)) (Person me))) (bytes_eq-refl me))
      ∙ sym (ap (λ (ys : List Dest). by_list (b.items j) ys (b.held g) (Person me)) is) ∙ z

  -- and for the third
  third-left : (g j x : List ℕ) (second : Dest) → b.list g ≡ Channel x ∷ second ∷ Person me ∷ [] →
      by_list (b.items j) (b.list g) (b.held g) (Person me) ≡ 0 →
      min (amt (b.items j) (Person me)) (b.held g - (amt (b.items j) (Channel x) + second_amt (b.items j) (b.list g))) ≡ 0
  third-left g j x second is z =
      ap (λ (ds : List Dest). min (amt (b.items j) (Person me)) (b.held g - (amt (b.items j) (Channel x) + second_amt (b.items j) ds))) is
      ∙ go (is_same second (Person me)) (is_same-true second (Person me)) (is_same (Person me) (Person me)) (bytes_eq-refl me)
      (sym (ap (λ (ys : List Dest). by_list (b.items j) ys (b.held g) (Person me)) is) ∙ z)
    where
      go : (t : Bool) → (t ≡ true → second ≡ Person me) → (u : Bool) → u ≡ true →
          cond t (min (amt (b.items j) second) (b.held g - amt (b.items j) (Channel x)))
          (cond u (min (amt (b.items j) (Person me)) ((b.held g - amt (b.items j) (Channel x)) - amt (b.items j) second)) 0) ≡ 0 →
          min (amt (b.items j) (Person me)) (b.held g - (amt (b.items j) (Channel x) + amt (b.items j) second)) ≡ 0
      go true same u h k = let e : amt (b.items j) second ≡ amt (b.items j) (Person me) = ap (amt (b.items j)) (same refl) in omega (arith, k, e)
      go false same true h k = omega (arith, k)
      go false same false h k = cc

  payer-of : (n : List ℕ) (e : Dest) → hit b done call me n e ≡ true → bytes_eq n (payer call) ≡ true
  payer-of n e h = (and-true (bytes_eq n (payer call)) _ h).0

  payee-of : (n : List ℕ) (e : Dest) → hit b done call me n e ≡ true → is_same e (payee call) ≡ true
  payee-of n e h = (and-true (bytes_eq n (payer call)) _ h).1

  none-least : (j : List ℕ) (d : Dest) (n : ℕ) → IsBare b j → min (amt (b.items j) d) n ≡ 0
  none-least j d n none = let z = none d in omega (arith, z)

  may-close : (p : Part) → Listed b me p → InPlace me done call p → MayClose b done call me p
  may-close (Root x) l a = λ e h. transfer-left x e (a (payer-of x e h)) h
  may-close (OnLedger y x) l a = λ e h. ((a (payer-of x e h)).1, transfer-left x e (a (payer-of x e h)).0 h)
  may-close (End v) l a =
      record {
        own_item = λ e h. ((a.0 (payer-of v.channel e h)).1, transfer-left v.channel e (a.0 (payer-of v.channel e h)).0 h);
        for_channel = λ h. ((a.1 (payer-of g (Channel v.channel) h)).1, (λ c. first (l c) (claim-left g v.joint (Channel v.channel) (a.1 (payer-of g (Channel v.channel) h)).0 h)));
        for_me = λ h. ((a.1 (payer-of g (Person me) h)).1, (λ c. second (l c) (claim-left g v.joint (Person me) (a.1 (payer-of g (Person me) h)).0 h)));
      }
    where
      g : List ℕ
      g = own_guarantor v

      first : ((third : Dest) × (b.list g ≡ Channel v.channel ∷ Person me ∷ third ∷ [])) ⊎ IsBare b v.joint →
          by_list (b.items v.joint) (b.list g) (b.held g) (Channel v.channel) ≡ 0 → min (amt (b.items v.joint) (Channel v.channel)) (b.held g) ≡ 0
      first (inl o) z = first-left g v.joint v.channel _ o.1 z
      first (inr none) z = none-least v.joint (Channel v.channel) _ none

      second : ((third : Dest) × (b.list g ≡ Channel v.channel ∷ Person me ∷ third ∷ [])) ⊎ IsBare b v.joint →
          by_list (b.items v.joint) (b.list g) (b.held g) (Person me) ≡ 0 → min (amt (b.items v.joint) (Person me)) (b.held g - amt (b.items v.joint) (Channel v.channel)) ≡ 0
      second (inl o) z = second-left g v.joint v.channel _ o.1 z
      second (inr none) z = none-least v.joint (Person me) _ none
  may-close (Middle v) l a =
      record {
        for_channel = λ h. let o = a.0 (payer-of ga (Channel v.channel) h) in
            ((o.2 (payee-of ga (Channel v.channel) h)).0, (o.2 (payee-of ga (Channel v.channel) h)).1, o.1, (λ c. first ga (l.0 c) (claim-left ga v.joint (Channel v.channel) o.0 h)));
        from_a = λ h. let o = a.0 (payer-of ga (Person me) h) in
            (o.1, (λ c. third ga (l.0 c) (claim-left ga v.joint (Person me) o.0 h)));
        from_b = λ h. let o = a.1 (payer-of gb (Person me) h) in
            (o.1, (λ c. third gb (l.1 c) (claim-left gb v.joint (Person me) o.0 h)));
      }
    where
      ga : List ℕ
      ga = v.guarantor_a

      gb : List ℕ
      gb = v.guarantor_b

      first : (g : List ℕ) → ((second : Dest) × (b.list g ≡ Channel v.channel ∷ second ∷ Person me ∷ [])) ⊎ IsBare b v.joint → by_list (b.items v.joint) (b.list g) (b.held g) (Channel v.channel) ≡ 0 → min (amt (b.items v.joint) (Channel v.channel)) (b.held g) ≡ 0
      first g (inl o) z = first-left g v.joint v.channel _ o.1 z
      first g (inr none) z = none-least v.joint (Channel v.channel) _ none

      third : (g : List ℕ) → ((second : Dest) × (b.list g ≡ Channel v.channel ∷ second ∷ Person me ∷ [])) ⊎ IsBare b v.joint → by_list (b.items v.joint) (b.list g) (b.held g) (Person me) ≡ 0 →
          min (amt (b.items v.joint) (Person me)) (b.held g - (amt (b.items v.joint) (Channel v.channel) + second_amt (b.items v.joint) (b.list g))) ≡ 0
      third g (inl o) z = third-left g v.joint v.channel o.0 o.1 z
      third g (inr none) z = none-least v.joint (Person me) _ none

  all-may-close : (ps : List Part) → AllListed b me ps → AllInPlace me done call ps → AllMayClose b done call me ps
  all-may-close [] l a = tt
  all-may-close (p ∷ ps) l a = (may-close p l.0 a.0, all-may-close ps l.1 a.1)

-- ---- when all is closed nothing is left to come

closed : (u : Bool) (m : ℕ) → u ≡ true → cond (still_open u) m 0 ≡ 0
closed u m h = ap (λ (t : Bool). cond (still_open t) m 0) h

middle-zero : (s t u : Bool) (own x a b r q : ℕ) → s ≡ true → t ≡ true → u ≡ true → middle_worth (still_open s) (still_open t) (still_open u) own x a b r q ≡ 0
middle-zero true true true own x a b r q p h k = omega arith
middle-zero false t u own x a b r q p h k = absurd (false≢true p)
middle-zero s false u own x a b r q p h k = absurd (false≢true h)
middle-zero s t false own x a b r q p h k = absurd (false≢true k)

worth-zero : (b : Books) (done : List Edge) (me : List ℕ) (ps : List Part) (reach : Table) → AllComplete me done ps → worth (shut done b) me ps reach ≡ 0
worth-zero b done me [] reach h = refl
worth-zero b done me (Root x ∷ ps) reach h =
    let p = closed (is_shut done x (Person me)) (aff (b.items x) (b.held x) (Person me)) h.0 in
    let q = worth-zero b done me ps (reach_after (shut done b) reach (Root x)) h.1 in omega (arith, p, q)
worth-zero b done me (OnLedger l x ∷ ps) reach h =
    let p = closed (is_shut done x (Person me)) (aff (b.items x) (child (shut done b) reach l x) (Person me)) h.0 in
    let q = worth-zero b done me ps (reach_after (shut done b) reach (OnLedger l x)) h.1 in omega (arith, p, q)
worth-zero b done me (End v ∷ ps) reach h =
    let p = closed (is_shut done v.channel (Person me)) (aff (b.items v.channel)
    (virtual (shut done b) (own_guarantor v) v.joint v.channel (end_reach (shut done b) reach v)) (Person me)) h.0.1 in
    let o = closed (is_shut done (own_guarantor v) (Person me))
    (min (amt (b.items v.joint) (Person me)) (end_reach (shut done b) reach v - amt (b.items v.joint) (Channel v.channel))) h.0.0 in
    let q = worth-zero b done me ps (reach_after (shut done b) reach (End v)) h.1 in omega (arith, p, o, q)
worth-zero b done me (Middle v ∷ ps) reach h =
    let p = middle-zero (is_shut done v.guarantor_a (Channel v.channel)) (is_shut done v.guarantor_a (Person me)) (is_shut done v.guarantor_b (Person me))
    (amt (b.items v.joint) (Person me)) (amt (b.items v.joint) (Channel v.channel))
    (second_amt (b.items v.joint) (b.list v.guarantor_a)) (second_amt (b.items v.joint) (b.list v.guarantor_b))
    (guarantor (shut done b) reach v.ledger_a v.guarantor_a v.total) (guarantor (shut done b) reach v.ledger_b v.guarantor_b v.total) h.0.0 h.0.1 h.0.2 in
    let q = worth-zero b done me ps reach h.1 in omega (arith, p, q)

run_pays : (me : List ℕ) (ps : List Part) (calls : List Edge) (b : Books) (paid : ℕ) (e : Books) (last : ℕ) → Run me ps calls b paid e last →
    (done : List Edge) → IsExit me ps done calls → AllListed b me ps → paid + worth (shut done b) me ps (λ n. 0) ≤ last
run_pays me ps calls b paid e last ends done x h = let z = worth-zero b done me ps (λ n. 0) x in omega (arith, z)
run_pays me ps calls b paid e last (moves {c = c} {now = now} counting sound pays rest) done x h =
    let p = pays-kept (shut done b) (shut done c) counting me paid now (Pays-shut done b c counting me paid now pays) ps sound in
    let q = run_pays me ps calls c now e last rest done x (Listed-kept b c pays.payer pays.owner pays.to pays.amount pays.moved me ps h) in
    omega (arith, p, q)
run_pays me ps calls b paid e last (stands {calls = cs} call z rest) done x h =
    let p = close b done call me ps (all-may-close b done call me z ps h x.0) in
    let q = run_pays me ps cs b paid e last rest (call ∷ done) x.1 h in
    omega (arith, p, q)

pub exit_pays : (me : List ℕ) (ps : List Part) (calls : List Edge) → IsExit me ps [] calls → (b e : Books) (paid last : ℕ) → AllListed b me ps →
    Run me ps calls b paid e last → paid + worth (shut [] b) me ps (λ n. 0) ≤ last
exit_pays me ps calls x b e paid last h run = run_pays me ps calls b paid e last run [] x h
