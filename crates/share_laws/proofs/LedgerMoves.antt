-- A ledger that sets money aside for a part of the plan leaves what the plan is worth.
use Rattle.std.proofs.Common.{◌≡◌, ℕ, ◌+◌, ◌≤◌, Bool, true, false, ◌||◌, List, [], ◌∷◌, refl, sym, ◌∙◌, ap, subst, arith, cond, inl, inr, ◌⊎◌}
use Rattle.std.proofs.lemmas.Bool.{false≢true}
use Rattle.std.specs.Str.{bytes_eq}
use Rattle.channel_values.specs.Outcomes.{AreApart, total}
use Rattle.channel_values.specs.declared.value.Dest.{Dest}
use Rattle.channel_values.specs.declared.value.Item.{Item}
use Rattle.call_history.specs.Flows.{is_among}
use Rattle.channel_safety.specs.Journals.{In}
use Rattle.funding_plans.specs.declared.plan.Part.{Part}
use Rattle.funding_plans.specs.declared.plan.Part.TheVariants.{Root, OnLedger, End, Middle}
use Rattle.share_laws.specs.Books.{Books}
use Rattle.share_laws.specs.Worth.{Table, no_reach, with_reach, virtual, end_reach, reach_after, part_worth, worth}
use Rattle.funding_plans.specs.declared.plan.Virtual.{Virtual}
use Rattle.funding_plans.specs.Parts.{own_ledger, own_guarantor, channels_of, channels, ledgers_of}
use Rattle.share_laws.specs.Plans.{StandsOn, ledgers_after, AllStandOn, IsPlan, reaches}
use Rattle.share_laws.specs.Moves.{SetsAside, Backs, owing}
use Rattle.share_laws.specs.SigningLaws.{LedgerMovesKeepWorth}
use Rattle.call_history.proofs.Names.{same_bytes, bytes_eq_self}
use Rattle.share_laws.proofs.Choices.{differ-flip}
use Rattle.share_laws.proofs.Apart.{or-none, apart-rest}
use Rattle.share_laws.proofs.Counts.{or-left, or-right, part-apart, part-once, sum_of, sum_of-once}
use Rattle.share_laws.proofs.Tables.{Apart, Apart-after, out-of, end-out, child-out, reaches-off}
use Rattle.share_laws.proofs.Ledgers.{Covers, owns, stands_on, root-part, child-part, end-reaches, end-part, middle-part}

-- a part that stands on the channel x has it among its channels
pub stands_on-has : (x : List ℕ) (p : Part) → stands_on x p ≡ true → is_among x (channels_of p) ≡ true
unfolding stands_on
stands_on-has x (Root n) h = absurd (false≢true h)
stands_on-has x (OnLedger m n) h = ap (λ (t : Bool). t || false) (flip n h)
  where
    flip : (n : List ℕ) → bytes_eq n x ≡ true → bytes_eq x n ≡ true
    flip n h = subst (λ (z : List ℕ). bytes_eq x z ≡ true) (sym (same_bytes n x h)) (bytes_eq_self x)
stands_on-has x (End v) h = by_side v.side_b h
  where
    flip : (n : List ℕ) → bytes_eq n x ≡ true → bytes_eq x n ≡ true
    flip n h = subst (λ (z : List ℕ). bytes_eq x z ≡ true) (sym (same_bytes n x h)) (bytes_eq_self x)

    by_side : (t : Bool) → bytes_eq (cond t v.guarantor_b v.guarantor_a) x ≡ true →
        (bytes_eq x v.guarantor_a || (bytes_eq x v.guarantor_b || (bytes_eq x v.joint || (bytes_eq x v.channel || false)))) ≡ true
    by_side true h = or-right _ _ (or-left _ _ (flip v.guarantor_b h))
    by_side false h = or-left _ _ (flip v.guarantor_a h)
stands_on-has x (Middle v) h = by_test (bytes_eq v.guarantor_a x) refl h
  where
    flip : (n : List ℕ) → bytes_eq n x ≡ true → bytes_eq x n ≡ true
    flip n h = subst (λ (z : List ℕ). bytes_eq x z ≡ true) (sym (same_bytes n x h)) (bytes_eq_self x)

    by_test : (t : Bool) → bytes_eq v.guarantor_a x ≡ t → (t || bytes_eq v.guarantor_b x) ≡ true →
        (bytes_eq x v.guarantor_a || (bytes_eq x v.guarantor_b || (bytes_eq x v.joint || (bytes_eq x v.channel || false)))) ≡ true
    by_test true e h = or-left _ _ (flip v.guarantor_a e)
    by_test false e h = or-right _ _ (or-left _ _ (flip v.guarantor_b h))

-- and the part that is backed stands on it
pub Backs-stands : (b : Books) (me : List ℕ) (p : Part) (l x : List ℕ) (mine all : ℕ) → Backs b me p l x mine all → stands_on x p ≡ true
unfolding stands_on
Backs-stands b me (Root n) l x mine all k = absurd k
Backs-stands b me (OnLedger m n) l x mine all k = subst (λ (z : List ℕ). bytes_eq z x ≡ true) (sym k.1) (bytes_eq_self x)
Backs-stands b me (End v) l x mine all k = subst (λ (z : List ℕ). bytes_eq z x ≡ true) (sym k.1) (bytes_eq_self x)
Backs-stands b me (Middle v) l x mine all k = by_side k.side
  where
    by_side : ((v.ledger_a ≡ l) × (v.guarantor_a ≡ x) × (mine ≡ k.c)) ⊎ ((v.ledger_b ≡ l) × (v.guarantor_b ≡ x) × (mine ≡ k.a)) →
        (bytes_eq v.guarantor_a x || bytes_eq v.guarantor_b x) ≡ true
    by_side (inl w) = or-left _ _ (subst (λ (z : List ℕ). bytes_eq z x ≡ true) (sym w.1) (bytes_eq_self x))
    by_side (inr w) = or-right _ _ (subst (λ (z : List ℕ). bytes_eq z x ≡ true) (sym w.1) (bytes_eq_self x))

pub owns-has : (l : List ℕ) (p : Part) → owns l p ≡ true → is_among l (channels_of p) ≡ true
unfolding owns
owns-has l (Root n) h = ap (λ (t : Bool). t || false) (subst (λ (z : List ℕ). bytes_eq l z ≡ true) (sym (same_bytes n l h)) (bytes_eq_self l))
owns-has l (OnLedger m n) h = absurd (false≢true h)
owns-has l (End v) h =
    or-right (bytes_eq l v.guarantor_a) _ (or-right (bytes_eq l v.guarantor_b) _ (or-right (bytes_eq l v.joint) _
    (ap (λ (t : Bool). t || false) (subst (λ (z : List ℕ). bytes_eq l z ≡ true) (sym (same_bytes v.channel l h)) (bytes_eq_self l)))))
owns-has l (Middle v) h = absurd (false≢true h)

pub last-two : (g h j n : Bool) → (g || (h || (j || (n || false)))) ≡ false → (j ≡ false) × (n ≡ false)
last-two true h j n e = absurd (false≢true (sym e))
last-two false true j n e = absurd (false≢true (sym e))
last-two false false true n e = absurd (false≢true (sym e))
last-two false false false true e = absurd (false≢true (sym e))
last-two false false false false e = (refl, refl)

-- what the moved ledger and channel are to a part of the plan
record Fits (b : Books) (me l x : List ℕ) (mine all : ℕ) (p : Part) : Type 0 where
  off : owns l p ≡ false → is_among l (channels_of p) ≡ false
  backs : stands_on x p ≡ true → Backs b me p l x mine all
  apart : AreApart bytes_eq (channels_of p)

module _ (held : List ℕ → ℕ) (counts : List ℕ → Bool) (list : List ℕ → List Dest) (free bound : List ℕ → List Item) (l : List ℕ)
    (others : (m : List ℕ) → bytes_eq m l ≡ false → bound m ≡ free m)
    (me x : List ℕ) (mine all : ℕ) (s : SetsAside me x mine all (free l) (bound l)) where
  abbrev b : Books
  b = owing held counts list free

  abbrev c : Books
  c = owing held counts list bound

  abbrev Agrees : List (List ℕ) → (reach after : Table) → Type 0
  Agrees ledgers reach after = Covers (total (free l)) l ledgers reach after

  -- as much is reached in the end, in either table
  abbrev InTheEnd : Table → Table → List Part → Type 0
  InTheEnd reach after ps = (total (free l) ≤ reaches b reach ps l) ⊎ (total (free l) ≤ reaches c after ps l)

  at-once : (ps : List Part) (reach after : Table) → is_among l (channels ps) ≡ false → reach l ≡ after l → InTheEnd reach after ps → total (free l) ≤ reach l
  at-once ps reach after out e (inl h) = let f = reaches-off b ps reach l out in omega (arith, f, h)
  at-once ps reach after out e (inr h) = let f = reaches-off c ps after l out in omega (arith, f, e, h)

  -- the joint channel of a part isn't the ledger
  not-joint : (v : Virtual) → AreApart bytes_eq (channels_of (End v)) → (owns l (End v) ≡ false → is_among l (channels_of (End v)) ≡ false) → bytes_eq v.joint l ≡ false
  unfolding owns
  not-joint v apart off = by_test (bytes_eq v.channel l) (same_bytes v.channel l) off
    where
      by_test : (t : Bool) → (t ≡ true → v.channel ≡ l) → (t ≡ false → is_among l (channels_of (End v)) ≡ false) → bytes_eq v.joint l ≡ false
      by_test true is o = subst (λ (z : List ℕ). bytes_eq v.joint z ≡ false) (is refl) (or-none (bytes_eq v.joint v.channel) false apart.1.1.0).0
      by_test false is o = differ-flip l v.joint (last-two (bytes_eq l v.guarantor_a) (bytes_eq l v.guarantor_b) _ _ (o refl)).0

  part-moves : (ledgers : List (List ℕ)) (reach after : Table) → Agrees ledgers reach after → (p : Part) (ps : List Part) → StandsOn ledgers p → Apart ledgers (p ∷ ps) →
      AreApart bytes_eq (channels (p ∷ ps)) → InTheEnd (reach_after b reach p) (reach_after c after p) ps → Fits b me l x mine all p →
      part_worth b me reach p + cond (stands_on x p) mine 0 ≡ part_worth c me after p + cond (owns l p) mine 0
  unfolding stands_on owns
  part-moves ledgers reach after g (Root n) ps on a d cov f =
      let e = root-part held counts list free bound l others me x mine all s n reach after covered in omega (arith, e)
    where
      covered : n ≡ l → total (free l) ≤ held l
      covered is =
          let here : (t : Bool) → t ≡ true → (k j : ℕ) → cond t k j ≡ k = λ t h k j. ap (λ (u : Bool). cond u k j) h in
          let t : bytes_eq l n ≡ true = subst (λ (z : List ℕ). bytes_eq l z ≡ true) (sym is) (bytes_eq_self l) in
          let e : with_reach reach n (held n) l ≡ held n = here (bytes_eq l n) t (held n) (reach l) in
          let h : with_reach after n (held n) l ≡ held n = here (bytes_eq l n) t (held n) (after l) in
          let out : is_among l (channels ps) ≡ false = Apart-after ledgers (Root n) ps d a l (ap (λ (u : Bool). u || is_among l ledgers) t) in
          let w = at-once ps (with_reach reach n (held n)) (with_reach after n (held n)) out (e ∙ sym h) cov in
          let z : held n ≡ held l = ap held is in omega (arith, w, e, z)
  part-moves ledgers reach after g (OnLedger m n) ps on a d cov f =
      let ne : bytes_eq n l ≡ false = differ-flip l n (or-none _ _ (f.off refl)).0 in
      let e = child-part held counts list free bound l others me x mine all s ledgers reach after g m n on ne f.backs in
      omega (arith, e)
  part-moves ledgers reach after g (End v) ps on a d cov f =
      end-part held counts list free bound l others me x mine all s ledgers reach after g v on nj (end-out ledgers v ps a) f.backs covered
    where
      nj : bytes_eq v.joint l ≡ false
      nj = not-joint v f.apart f.off

      r : ℕ
      r = virtual b (own_guarantor v) v.joint v.channel (end_reach b reach v)

      q : ℕ
      q = virtual c (own_guarantor v) v.joint v.channel (end_reach c after v)

      covered : v.channel ≡ l → total (free l) ≤ r
      covered is =
          let t : bytes_eq l v.channel ≡ true = subst (λ (z : List ℕ). bytes_eq l z ≡ true) (sym is) (bytes_eq_self l) in
          let e : with_reach reach v.channel r l ≡ r = ap (λ (u : Bool). cond u r (reach l)) t in
          let h : with_reach after v.channel q l ≡ q = ap (λ (u : Bool). cond u q (after l)) t in
          let out : is_among l (channels ps) ≡ false = Apart-after ledgers (End v) ps d a l (ap (λ (u : Bool). u || is_among l ledgers) t) in
          let same : r ≡ q = end-reaches held counts list free bound l others me x mine all s ledgers reach after g v on nj f.backs in
          let w = at-once ps (with_reach reach v.channel r) (with_reach after v.channel q) out (e ∙ (same ∙ sym h)) cov in
          omega (arith, w, e)
  part-moves ledgers reach after g (Middle v) ps on a d cov f =
      let o : (bytes_eq l v.joint ≡ false) × (bytes_eq l v.channel ≡ false) = last-two (bytes_eq l v.guarantor_a) (bytes_eq l v.guarantor_b) _ _ (f.off refl) in
      let nj : bytes_eq v.joint l ≡ false = differ-flip l v.joint o.0 in
      let apart : bytes_eq v.guarantor_a v.guarantor_b ≡ false = (or-none _ _ f.apart.0).0 in
      let e = middle-part held counts list free bound l others me x mine all s ledgers reach after g v on.0 on.1 nj apart f.backs in
      omega (arith, e)

  -- the tables after a part
  agree-after : (ledgers : List (List ℕ)) (reach after : Table) → Agrees ledgers reach after → (p : Part) (ps : List Part) → StandsOn ledgers p → Apart ledgers (p ∷ ps) →
      AreApart bytes_eq (channels (p ∷ ps)) → InTheEnd (reach_after b reach p) (reach_after c after p) ps → Fits b me l x mine all p →
      Agrees (ledgers_after ledgers p) (reach_after b reach p) (reach_after c after p)
  unfolding stands_on owns
  agree-after ledgers reach after g p ps on a d cov f = record { same = same; covered = λ h. at-once ps _ _ (Apart-after ledgers p ps d a l h) (same l h) cov }
    where
      put : (n : List ℕ) (r q : ℕ) → r ≡ q → (m : List ℕ) → is_among m (n ∷ ledgers) ≡ true → with_reach reach n r m ≡ with_reach after n q m
      put n r q e m h = by_test (bytes_eq m n) h
        where
          by_test : (t : Bool) → (t || is_among m ledgers) ≡ true → cond t r (reach m) ≡ cond t q (after m)
          by_test true k = e
          by_test false k = g.same m k

      kept : (n : List ℕ) (r q : ℕ) → is_among n ledgers ≡ false → (m : List ℕ) → is_among m ledgers ≡ true → with_reach reach n r m ≡ with_reach after n q m
      kept n r q out m h = by_test (bytes_eq m n) (same_bytes m n)
        where
          by_test : (t : Bool) → (t ≡ true → m ≡ n) → cond t r (reach m) ≡ cond t q (after m)
          by_test true is = absurd (false≢true (sym out ∙ subst (λ (z : List ℕ). is_among z ledgers ≡ true) (is refl) h))
          by_test false is = g.same m h

      by_kind : (q : Part) → StandsOn ledgers q → Apart ledgers (q ∷ ps) → Fits b me l x mine all q → (m : List ℕ) → is_among m (ledgers_after ledgers q) ≡ true →
          reach_after b reach q m ≡ reach_after c after q m
      by_kind (Root n) on' a' f' m h = put n (held n) (held n) refl m h
      by_kind (OnLedger k n) on' a' f' m h = kept n _ _ (child-out ledgers k n ps a') m h
      by_kind (End v) on' a' f' m h =
          put v.channel _ _ (end-reaches held counts list free bound l others me x mine all s ledgers reach after g v on' (not-joint v f'.apart f'.off) f'.backs) m h
      by_kind (Middle v) on' a' f' m h = g.same m h

      same : (m : List ℕ) → is_among m (ledgers_after ledgers p) ≡ true → reach_after b reach p m ≡ reach_after c after p m
      same = by_kind p on a f

  worth-moves : (ps : List Part) (ledgers : List (List ℕ)) (reach after : Table) → Agrees ledgers reach after →
      Apart ledgers ps → AreApart bytes_eq (channels ps) → AllStandOn ledgers ps → InTheEnd reach after ps → ((p : Part) → In p ps → Fits b me l x mine all p) →
      worth b me ps reach + sum_of (λ p. cond (stands_on x p) mine 0) ps ≡ worth c me ps after + sum_of (λ p. cond (owns l p) mine 0) ps
  unfolding sum_of
  worth-moves [] ledgers reach after g a d on cov fits = refl
  worth-moves (p ∷ ps) ledgers reach after g a d on cov fits =
      let e : part_worth b me reach p + cond (stands_on x p) mine 0 ≡ part_worth c me after p + cond (owns l p) mine 0 =
      part-moves ledgers reach after g p ps on.0 a d cov (fits p (inl refl)) in
      let r : worth b me ps (reach_after b reach p) + sum_of (λ q. cond (stands_on x q) mine 0) ps
      ≡ worth c me ps (reach_after c after p) + sum_of (λ q. cond (owns l q) mine 0) ps =
      worth-moves ps (ledgers_after ledgers p) (reach_after b reach p) (reach_after c after p) (agree-after ledgers reach after g p ps on.0 a d cov (fits p (inl refl)))
      (Apart-after ledgers p ps d a) (apart-rest (channels_of p) (channels ps) d) on.1 cov (λ q i. fits q (inr i)) in
      omega (arith, e, r)

-- the part whose channel the ledger is
pub record Owner (ps : List Part) (l : List ℕ) : Type 0 where
  pub part : Part
  pub there : In part ps
  pub owns : owns l part ≡ true

-- each ledger of a plan is the channel of a root or of an end
pub owner-of : (ps : List Part) (ledgers : List (List ℕ)) → AllStandOn ledgers ps → (p : Part) → In p ps → (l : List ℕ) → is_among l (ledgers_of p) ≡ true →
    (is_among l ledgers ≡ true) ⊎ Owner ps l
unfolding owns
owner-of [] ledgers on p i l h = absurd i
owner-of (q ∷ qs) ledgers on p (inl e) l h = inl (here q on.0 (subst (λ (z : Part). is_among l (ledgers_of z) ≡ true) e h))
  where
    one : (m : List ℕ) (t : Bool) → (t ≡ true → l ≡ m) → (t || false) ≡ true → is_among m ledgers ≡ true → is_among l ledgers ≡ true
    one m true is k on = subst (λ (z : List ℕ). is_among z ledgers ≡ true) (sym (is refl)) on
    one m false is k on = absurd (false≢true k)

    here : (q : Part) → StandsOn ledgers q → is_among l (ledgers_of q) ≡ true → is_among l ledgers ≡ true
    here (Root n) on h = absurd (false≢true h)
    here (OnLedger m n) on h = one m (bytes_eq l m) (same_bytes l m) h on
    here (End v) on h = one (own_ledger v) (bytes_eq l (own_ledger v)) (same_bytes l (own_ledger v)) h on
    here (Middle v) on h = by_test (bytes_eq l v.ledger_a) (same_bytes l v.ledger_a) h
      where
        by_test : (t : Bool) → (t ≡ true → l ≡ v.ledger_a) → (t || (bytes_eq l v.ledger_b || false)) ≡ true → is_among l ledgers ≡ true
        by_test true is h = subst (λ (z : List ℕ). is_among z ledgers ≡ true) (sym (is refl)) on.0
        by_test false is h = one v.ledger_b (bytes_eq l v.ledger_b) (same_bytes l v.ledger_b) h on.1
owner-of (q ∷ qs) ledgers on p (inr i) l h = by_rest q (owner-of qs (ledgers_after ledgers q) on.1 p i l h)
  where
    flip : (n : List ℕ) → bytes_eq l n ≡ true → bytes_eq n l ≡ true
    flip n k = subst (λ (z : List ℕ). bytes_eq z l ≡ true) (same_bytes l n k) (bytes_eq_self l)

    by_rest : (q : Part) → (is_among l (ledgers_after ledgers q) ≡ true) ⊎ Owner qs l → (is_among l ledgers ≡ true) ⊎ Owner (q ∷ qs) l
    by_rest q (inr j) = inr (record { part = j.part; there = inr j.there; owns = j.owns })
    by_rest (Root n) (inl j) = by_test (bytes_eq l n) refl j
      where
        by_test : (t : Bool) → bytes_eq l n ≡ t → (t || is_among l ledgers) ≡ true → (is_among l ledgers ≡ true) ⊎ Owner (Root n ∷ qs) l
        by_test true e j = inr (record { part = Root n; there = inl refl; owns = flip n e })
        by_test false e j = inl j
    by_rest (OnLedger m n) (inl j) = inl j
    by_rest (End v) (inl j) = by_test (bytes_eq l v.channel) refl j
      where
        by_test : (t : Bool) → bytes_eq l v.channel ≡ t → (t || is_among l ledgers) ≡ true → (is_among l ledgers ≡ true) ⊎ Owner (End v ∷ qs) l
        by_test true e j = inr (record { part = End v; there = inl refl; owns = flip v.channel e })
        by_test false e j = inl j
    by_rest (Middle v) (inl j) = inl j

pub owner : (ps : List Part) → IsPlan ps → (p : Part) → In p ps → (l : List ℕ) → is_among l (ledgers_of p) ≡ true → Owner ps l
owner ps plan p i l h = by_case (owner-of ps [] plan.on_ledgers p i l h)
  where
    by_case : (is_among l [] ≡ true) ⊎ Owner ps l → Owner ps l
    by_case (inl j) = absurd (false≢true j)
    by_case (inr j) = j

-- the ledger that backs a part is one of its ledgers
pub Backs-ledger : (b : Books) (me : List ℕ) (p : Part) (l x : List ℕ) (mine all : ℕ) → Backs b me p l x mine all → is_among l (ledgers_of p) ≡ true
Backs-ledger b me (Root n) l x mine all k = absurd k
Backs-ledger b me (OnLedger m n) l x mine all k = or-left _ false (subst (λ (z : List ℕ). bytes_eq l z ≡ true) (sym k.0) (bytes_eq_self l))
Backs-ledger b me (End v) l x mine all k = or-left _ false (subst (λ (z : List ℕ). bytes_eq l z ≡ true) (sym k.0) (bytes_eq_self l))
Backs-ledger b me (Middle v) l x mine all k = by_side k.side
  where
    by_side : ((v.ledger_a ≡ l) × (v.guarantor_a ≡ x) × (mine ≡ k.c)) ⊎ ((v.ledger_b ≡ l) × (v.guarantor_b ≡ x) × (mine ≡ k.a)) →
        (bytes_eq l v.ledger_a || (bytes_eq l v.ledger_b || false)) ≡ true
    by_side (inl w) = or-left _ _ (subst (λ (z : List ℕ). bytes_eq l z ≡ true) (sym w.0) (bytes_eq_self l))
    by_side (inr w) = or-right _ _ (or-left _ false (subst (λ (z : List ℕ). bytes_eq l z ≡ true) (sym w.0) (bytes_eq_self l)))

pub ledger_moves : LedgerMovesKeepWorth
ledger_moves me ps plan held counts list free bound l others covered x mine all s p there backs =
    let stands : stands_on x p ≡ true = Backs-stands (owing held counts list free) me p l x mine all backs in
    let o : Owner ps l = owner ps plan p there l (Backs-ledger (owing held counts list free) me p l x mine all backs) in
    let e : worth (owing held counts list free) me ps no_reach + sum_of (λ q. cond (stands_on x q) mine 0) ps
    ≡ worth (owing held counts list bound) me ps no_reach + sum_of (λ q. cond (owns l q) mine 0) ps =
    worth-moves held counts list free bound l others me x mine all s ps [] no_reach no_reach
    (record { same = λ m h. refl; covered = λ h. absurd (false≢true h) }) (λ m h. absurd (false≢true h)) plan.apart plan.on_ledgers covered
    (fits stands o) in
    let one : sum_of (λ q. cond (stands_on x q) mine 0) ps ≡ mine = sum_of-once (stands_on x) mine x (stands_on-has x) ps plan.apart p there stands in
    let two : sum_of (λ q. cond (owns l q) mine 0) ps ≡ mine = sum_of-once (owns l) mine l (owns-has l) ps plan.apart o.part o.there o.owns in
    omega (arith, e, one, two)
  where
    fits : stands_on x p ≡ true → Owner ps l → (q : Part) → In q ps → Fits (owing held counts list free) me l x mine all q
    fits stands o q i = record {
      off = λ h. by_test h (is_among l (channels_of q)) refl;
      backs = λ h. subst (λ (z : Part). Backs (owing held counts list free) me z l x mine all)
          (part-once ps plan.apart p q there i x (stands_on-has x p stands) (stands_on-has x q h)) backs;
      apart = part-apart ps plan.apart q i;
    }
      where
        by_test : owns l q ≡ false → (t : Bool) → is_among l (channels_of q) ≡ t → t ≡ false
        by_test h true e =
            let same : q ≡ o.part = part-once ps plan.apart q o.part i o.there l e (owns-has l o.part o.owns) in
            absurd (false≢true (sym h ∙ subst (λ (z : Part). owns l z ≡ true) (sym same) o.owns))
        by_test h false e = refl
