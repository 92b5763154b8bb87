-- What each part is worth where the ledger l sets `all` aside for the channel x: before, with the items `free`, and
-- after, with the items `bound`.
use Rattle.std.proofs.Common.{◌≡◌, ℕ, ◌+◌, ◌-◌, ◌≤◌, min, Bool, true, false, ◌||◌, List, refl, sym, ◌∙◌, ap, subst, arith, cond, inl, inr, ◌⊎◌}
use Rattle.std.proofs.lemmas.Bool.{false≢true}
use Rattle.std.specs.Str.{bytes_eq}
use Rattle.channel_values.specs.Outcomes.{total}
use Rattle.channel_values.specs.declared.value.Dest.{Dest}
use Rattle.channel_values.specs.declared.value.Dest.TheVariants.{Person, Channel}
use Rattle.channel_values.specs.declared.value.Item.{Item}
use Rattle.channel_values.specs.Amounts.{amt, has, aff}
use Rattle.call_history.specs.Flows.{is_among}
use Rattle.funding_plans.specs.declared.plan.Part.{Part}
use Rattle.funding_plans.specs.declared.plan.Part.TheVariants.{Root, OnLedger, End, Middle}
use Rattle.funding_plans.specs.declared.plan.Virtual.{Virtual}
use Rattle.share_laws.specs.Books.{Books}
use Rattle.share_laws.specs.Worth.{Table, child, guarantor, virtual, end_reach, second_amt, part_worth}
use Rattle.funding_plans.specs.Parts.{own_ledger, own_guarantor}
use Rattle.share_laws.specs.Funded.{up_to}
use Rattle.share_laws.specs.Moves.{SetsAside, Backs, BacksSide, IsApart, IsApartBetween, owing}
use Rattle.call_history.proofs.Names.{same_bytes}
use Rattle.share_laws.proofs.Choices.{differ-flip}
use Rattle.share_laws.proofs.Amounts.{aff-zero, aff-full, aff-up_to, amt-unnamed}
use Rattle.share_laws.proofs.JointNumbers.{first-opens, second-opens, between, between-same}

-- both tables give the same of the ledgers, and of the ledger l as much as its items
pub record Covers (items : ℕ) (l : List ℕ) (ledgers : List (List ℕ)) (reach after : Table) : Type 0 where
  pub same : (m : List ℕ) → is_among m ledgers ≡ true → reach m ≡ after m
  pub covered : is_among l ledgers ≡ true → items ≤ reach l

-- the part whose channel is the ledger
unfoldable pub owns : List ℕ → Part → Bool
owns l (Root n) = bytes_eq n l
owns l (OnLedger m n) = false
owns l (End v) = bytes_eq v.channel l
owns l (Middle v) = false

unfoldable pub stands_on : List ℕ → Part → Bool
stands_on x (Root n) = false
stands_on x (OnLedger m n) = bytes_eq n x
stands_on x (End v) = bytes_eq (own_guarantor v) x
stands_on x (Middle v) = bytes_eq v.guarantor_a x || bytes_eq v.guarantor_b x

module _ (held : List ℕ → ℕ) (counts : List ℕ → Bool) (list : List ℕ → List Dest) (free bound : List ℕ → List Item) (l : List ℕ)
    (others : (m : List ℕ) → bytes_eq m l ≡ false → bound m ≡ free m)
    (me x : List ℕ) (mine all : ℕ) (s : SetsAside me x mine all (free l) (bound l)) where
  abbrev pub b : Books
  b = owing held counts list free

  abbrev pub c : Books
  c = owing held counts list bound

  abbrev pub Agrees : List (List ℕ) → (reach after : Table) → Type 0
  Agrees ledgers reach after = Covers (total (free l)) l ledgers reach after

  -- what the ledger affords
  free-affords : (r : ℕ) → total (free l) ≤ r → (d : Dest) → aff (free l) r d ≡ amt (free l) d
  free-affords r covered d = aff-full (free l) r d covered

  bound-affords : (r : ℕ) → total (free l) ≤ r → (d : Dest) → aff (bound l) r d ≡ amt (bound l) d
  bound-affords r covered d = aff-full (bound l) r d (let w = s.whole in omega (arith, w, covered))

  -- to the person it affords less by what was the person's
  own-affords : (r : ℕ) → total (free l) ≤ r → aff (free l) r (Person me) ≡ aff (bound l) r (Person me) + mine
  own-affords r covered =
      let e = free-affords r covered (Person me) in let f = bound-affords r covered (Person me) in let o = s.own in omega (arith, e, f, o)

  -- a root
  pub root-part : (n : List ℕ) (reach after : Table) → (n ≡ l → total (free l) ≤ held l) →
      part_worth b me reach (Root n) ≡ part_worth c me after (Root n) + cond (owns l (Root n)) mine 0
  unfolding owns
  root-part n reach after covered = by_test (bytes_eq n l) (same_bytes n l) (others n)
    where
      by_test : (t : Bool) → (t ≡ true → n ≡ l) → (t ≡ false → bound n ≡ free n) →
          aff (free n) (held n) (Person me) ≡ aff (bound n) (held n) (Person me) + cond t mine 0
      by_test true is rest =
          subst (λ (m : List ℕ). aff (free m) (held m) (Person me) ≡ aff (bound m) (held m) (Person me) + mine) (sym (is refl))
          (own-affords (held l) (covered (is refl)))
      by_test false is rest =
          let e : aff (bound n) (held n) (Person me) ≡ aff (free n) (held n) (Person me) =
          ap (λ (xs : List Item). aff xs (held n) (Person me)) (rest refl) in omega (arith, e)

  -- a channel on a ledger, other than x
  child-same : (ledgers : List (List ℕ)) (reach after : Table) → Agrees ledgers reach after → (m y : List ℕ) → is_among m ledgers ≡ true →
      bytes_eq y x ≡ false → child b reach m y ≡ child c after m y
  child-same ledgers reach after a m y there ne =
      by_test (bytes_eq m l) (same_bytes m l) (others m)
      ∙ ap (λ (z : ℕ). cond (has (bound m) (Channel y)) (held y + aff (bound m) z (Channel y)) 0) (a.same m there)
    where
      here : (r : ℕ) → total (free l) ≤ r → cond (has (free l) (Channel y)) (held y + aff (free l) r (Channel y)) 0
          ≡ cond (has (bound l) (Channel y)) (held y + aff (bound l) r (Channel y)) 0
      here r covered =
          ap (λ (t : Bool). cond t (held y + aff (free l) r (Channel y)) 0) (sym (s.others y ne).0)
          ∙ ap (λ (z : ℕ). cond (has (bound l) (Channel y)) (held y + z) 0)
          (free-affords r covered (Channel y) ∙ sym (s.others y ne).1 ∙ sym (bound-affords r covered (Channel y)))

      at_ledger : m ≡ l → total (free l) ≤ reach m
      at_ledger is = subst (λ (k : List ℕ). total (free l) ≤ reach k) (sym is) (a.covered (subst (λ (k : List ℕ). is_among k ledgers ≡ true) is there))

      by_test : (t : Bool) → (t ≡ true → m ≡ l) → (t ≡ false → bound m ≡ free m) →
          child b reach m y ≡ cond (has (bound m) (Channel y)) (held y + aff (bound m) (reach m) (Channel y)) 0
      by_test true is rest =
          subst (λ (k : List ℕ). total (free l) ≤ reach m → cond (has (free k) (Channel y)) (held y + aff (free k) (reach m) (Channel y)) 0
          ≡ cond (has (bound k) (Channel y)) (held y + aff (bound k) (reach m) (Channel y)) 0) (sym (is refl)) (here (reach m)) (at_ledger (is refl))
      by_test false is rest =
          ap (λ (xs : List Item). cond (has xs (Channel y)) (held y + aff xs (reach m) (Channel y)) 0) (sym (rest refl))

  guarantor-same : (ledgers : List (List ℕ)) (reach after : Table) → Agrees ledgers reach after → (m y : List ℕ) (t : ℕ) → is_among m ledgers ≡ true →
      bytes_eq y x ≡ false → guarantor b reach m y t ≡ guarantor c after m y t
  guarantor-same ledgers reach after a m y t there ne =
      ap (λ (z : ℕ). cond (counts y) (min z t) 0) (child-same ledgers reach after a m y there ne)

  -- x itself: nothing, and then what it holds and all that was set aside
  child-free : (reach : Table) → child b reach l x ≡ 0
  child-free reach = ap (λ (t : Bool). cond t (held x + aff (free l) (reach l) (Channel x)) 0) s.unnamed

  child-bound : (after : Table) → total (free l) ≤ after l → child c after l x ≡ held x + all
  child-bound after h =
      ap (λ (t : Bool). cond t (held x + aff (bound l) (after l) (Channel x)) 0) s.named
      ∙ ap (λ (z : ℕ). held x + z) (bound-affords (after l) h (Channel x) ∙ s.amount)

  guarantor-free : (reach : Table) (t : ℕ) → guarantor b reach l x t ≡ 0
  guarantor-free reach t = by_test (counts x) (child-free reach)
    where
      by_test : (u : Bool) → child b reach l x ≡ 0 → cond u (min (child b reach l x) t) 0 ≡ 0
      by_test true e = omega (arith, e)
      by_test false e = refl

  guarantor-bound : (after : Table) → total (free l) ≤ after l → (t : ℕ) → counts x ≡ true → t ≡ all → guarantor c after l x t ≡ t
  guarantor-bound after h t on is =
      ap (λ (u : Bool). cond u (min (child c after l x) t) 0) on
      ∙ (let e = child-bound after h in omega (arith, e, is))

  -- ---- a channel on a ledger
  module _ (ledgers : List (List ℕ)) (reach after : Table) (a : Agrees ledgers reach after) where
    at-ledger : (p : List ℕ) → is_among p ledgers ≡ true → p ≡ l → total (free l) ≤ after l
    at-ledger p there e =
        let here : is_among l ledgers ≡ true = subst (λ (z : List ℕ). is_among z ledgers ≡ true) e there in
        let k = a.covered here in let g = a.same l here in omega (arith, k, g)

    off : (n : List ℕ) → bytes_eq n l ≡ false → (r q : ℕ) → r ≡ q → aff (free n) r (Person me) ≡ aff (bound n) q (Person me)
    off n ne r q e =
        ap (λ (z : ℕ). aff (free n) z (Person me)) e ∙ ap (λ (xs : List Item). aff xs q (Person me)) (sym (others n ne))

    pub child-part : (m n : List ℕ) → is_among m ledgers ≡ true → bytes_eq n l ≡ false →
        (bytes_eq n x ≡ true → Backs b me (OnLedger m n) l x mine all) →
        part_worth b me reach (OnLedger m n) + cond (stands_on x (OnLedger m n)) mine 0 ≡ part_worth c me after (OnLedger m n)
    unfolding stands_on
    child-part m n there ne backs = by_test (bytes_eq n x) backs (child-same ledgers reach after a m n there)
      where
        opens : (p q : List ℕ) → is_among p ledgers ≡ true → p ≡ l → q ≡ x → amt (free q) (Person me) ≡ mine → up_to (free q) (Person me) ≤ all → bytes_eq q l ≡ false →
            aff (free q) (child b reach p q) (Person me) + mine ≡ aff (bound q) (child c after p q) (Person me)
        opens p q here ep eq own within ne' =
            let zero : child b reach p q ≡ 0 =
            subst (λ (z : List ℕ). child b reach z q ≡ 0) (sym ep) (subst (λ (z : List ℕ). child b reach l z ≡ 0) (sym eq) (child-free reach)) in
            let whole : child c after p q ≡ held q + all =
            subst (λ (z : List ℕ). child c after z q ≡ held q + all) (sym ep)
            (subst (λ (z : List ℕ). child c after l z ≡ held z + all) (sym eq) (child-bound after (at-ledger p here ep))) in
            let none : aff (free q) (child b reach p q) (Person me) ≡ 0 = ap (λ (z : ℕ). aff (free q) z (Person me)) zero ∙ aff-zero (free q) (Person me) in
            let mine' : aff (bound q) (child c after p q) (Person me) ≡ mine =
            ap (λ (xs : List Item). aff xs (child c after p q) (Person me)) (others q ne')
            ∙ aff-up_to (free q) (child c after p q) (Person me) (omega (arith, whole, within)) ∙ own in
            omega (arith, none, mine')

        by_test : (t : Bool) → (t ≡ true → Backs b me (OnLedger m n) l x mine all) → (t ≡ false → child b reach m n ≡ child c after m n) →
            aff (free n) (child b reach m n) (Person me) + cond t mine 0 ≡ aff (bound n) (child c after m n) (Person me)
        by_test true is rest = opens m n there (is refl).0 (is refl).1 (is refl).2 (is refl).3 ne
        by_test false is rest = let e = off n ne _ _ (rest refl) in omega (arith, e)

    -- ---- an end

    -- its reach alone says what an end has
    end_worth : (List ℕ → List Item) → Virtual → ℕ → ℕ
    end_worth items v r =
        aff (items v.channel) (cond (has (items v.joint) (Channel v.channel)) (held v.channel + min (amt (items v.joint) (Channel v.channel)) r) 0) (Person me)
        + min (amt (items v.joint) (Person me)) (r - amt (items v.joint) (Channel v.channel))

    end-off : (v : Virtual) → bytes_eq v.joint l ≡ false → bytes_eq v.channel l ≡ false → (r : ℕ) → end_worth bound v r ≡ end_worth free v r
    unfolding end_worth
    end-off v nj nx r =
        ap (λ (js : List Item). aff (bound v.channel) (cond (has js (Channel v.channel)) (held v.channel + min (amt js (Channel v.channel)) r) 0) (Person me)
        + min (amt js (Person me)) (r - amt js (Channel v.channel))) (others v.joint nj)
        ∙ ap (λ (xs : List Item). aff xs (cond (has (free v.joint) (Channel v.channel)) (held v.channel + min (amt (free v.joint) (Channel v.channel)) r) 0) (Person me)
        + min (amt (free v.joint) (Person me)) (r - amt (free v.joint) (Channel v.channel))) (others v.channel nx)

    -- with the payment channel unnamed it is what the guarantor reaches, up to mine
    end-apart : (v : Virtual) → IsApart me v.channel mine (free v.joint) → (r : ℕ) → end_worth free v r ≡ min mine r
    unfolding end_worth
    end-apart v i r =
        let zero : cond (has (free v.joint) (Channel v.channel)) (held v.channel + min (amt (free v.joint) (Channel v.channel)) r) 0 ≡ 0 =
        ap (λ (t : Bool). cond t (held v.channel + min (amt (free v.joint) (Channel v.channel)) r) 0) i.unnamed in
        let none : aff (free v.channel) (cond (has (free v.joint) (Channel v.channel)) (held v.channel + min (amt (free v.joint) (Channel v.channel)) r) 0) (Person me) ≡ 0 =
        ap (λ (z : ℕ). aff (free v.channel) z (Person me)) zero ∙ aff-zero (free v.channel) (Person me) in
        let nothing : amt (free v.joint) (Channel v.channel) ≡ 0 = amt-unnamed (free v.joint) (Channel v.channel) i.unnamed in
        let o : amt (free v.joint) (Person me) ≡ mine = i.own in
        omega (arith, none, nothing, o)

    off-part : (v : Virtual) → is_among (own_ledger v) ledgers ≡ true → bytes_eq v.joint l ≡ false → bytes_eq v.channel l ≡ false →
        (bytes_eq (own_guarantor v) x ≡ true → Backs b me (End v) l x mine all) →
        part_worth b me reach (End v) + cond (stands_on x (End v)) mine 0 ≡ part_worth c me after (End v)
    unfolding stands_on end_worth
    off-part v there nj nx backs = by_test (bytes_eq (own_guarantor v) x) backs (guarantor-same ledgers reach after a (own_ledger v) (own_guarantor v) v.total there)
      where
        opens : (p q : List ℕ) → is_among p ledgers ≡ true → p ≡ l → q ≡ x → counts x ≡ true → v.total ≡ all → mine ≤ all → IsApart me v.channel mine (free v.joint) →
            end_worth free v (guarantor b reach p q v.total) + mine ≡ end_worth bound v (guarantor c after p q v.total)
        opens p q here ep eq on whole le apart =
            let zero : guarantor b reach p q v.total ≡ 0 =
            subst (λ (z : List ℕ). guarantor b reach z q v.total ≡ 0) (sym ep) (subst (λ (z : List ℕ). guarantor b reach l z v.total ≡ 0) (sym eq) (guarantor-free reach v.total)) in
            let full : guarantor c after p q v.total ≡ v.total =
            subst (λ (z : List ℕ). guarantor c after z q v.total ≡ v.total) (sym ep)
            (subst (λ (z : List ℕ). guarantor c after l z v.total ≡ v.total) (sym eq) (guarantor-bound after (at-ledger p here ep) v.total on whole)) in
            let e : end_worth free v (guarantor b reach p q v.total) ≡ min mine (guarantor b reach p q v.total) = end-apart v apart _ in
            let f : end_worth bound v (guarantor c after p q v.total) ≡ min mine (guarantor c after p q v.total) = end-off v nj nx _ ∙ end-apart v apart _ in
            omega (arith, zero, full, e, f, whole, le)

        by_test : (t : Bool) → (t ≡ true → Backs b me (End v) l x mine all) → (t ≡ false → end_reach b reach v ≡ end_reach c after v) →
            end_worth free v (end_reach b reach v) + cond t mine 0 ≡ end_worth bound v (end_reach c after v)
        by_test true is rest = let k = is refl in opens (own_ledger v) (own_guarantor v) there k.0 k.1 k.2 k.3 k.4 k.5
        by_test false is rest =
            let e : end_worth bound v (end_reach c after v) ≡ end_worth free v (end_reach b reach v) =
            end-off v nj nx _ ∙ ap (λ (r : ℕ). end_worth free v r) (sym (rest refl)) in omega (arith, e)

    -- what the end's channel reaches is the same: where the ledger sets aside for its guarantor, its joint channel
    -- names it not
    pub end-reaches : (v : Virtual) → is_among (own_ledger v) ledgers ≡ true → bytes_eq v.joint l ≡ false →
        (bytes_eq (own_guarantor v) x ≡ true → Backs b me (End v) l x mine all) →
        virtual b (own_guarantor v) v.joint v.channel (end_reach b reach v) ≡ virtual c (own_guarantor v) v.joint v.channel (end_reach c after v)
    end-reaches v there nj backs =
        by_test (bytes_eq (own_guarantor v) x) backs (guarantor-same ledgers reach after a (own_ledger v) (own_guarantor v) v.total there)
        ∙ ap (λ (js : List Item). of js (end_reach c after v)) (sym (others v.joint nj))
      where
        of : List Item → ℕ → ℕ
        of js r = cond (has js (Channel v.channel)) (held v.channel + min (amt js (Channel v.channel)) r) 0

        by_test : (t : Bool) → (t ≡ true → Backs b me (End v) l x mine all) → (t ≡ false → end_reach b reach v ≡ end_reach c after v) →
            of (free v.joint) (end_reach b reach v) ≡ of (free v.joint) (end_reach c after v)
        by_test true is rest =
            let none : has (free v.joint) (Channel v.channel) ≡ false = (is refl).5.unnamed in
            ap (λ (t : Bool). cond t (held v.channel + min (amt (free v.joint) (Channel v.channel)) (end_reach b reach v)) 0) none
            ∙ sym (ap (λ (t : Bool). cond t (held v.channel + min (amt (free v.joint) (Channel v.channel)) (end_reach c after v)) 0) none)
        by_test false is rest = ap (λ (r : ℕ). of (free v.joint) r) (rest refl)

    -- the end whose channel the ledger is
    on-part : (v : Virtual) → is_among (own_ledger v) ledgers ≡ true → bytes_eq v.joint l ≡ false → v.channel ≡ l → bytes_eq (own_guarantor v) x ≡ false →
        total (free l) ≤ virtual b (own_guarantor v) v.joint v.channel (end_reach b reach v) →
        part_worth b me reach (End v) ≡ part_worth c me after (End v) + mine
    on-part v there nj is ne covered =
        let e : end_reach b reach v ≡ end_reach c after v = guarantor-same ledgers reach after a (own_ledger v) (own_guarantor v) v.total there ne in
        let f : virtual b (own_guarantor v) v.joint v.channel (end_reach b reach v) ≡ virtual c (own_guarantor v) v.joint v.channel (end_reach c after v) =
        end-reaches v there nj (λ h. absurd (false≢true (sym ne ∙ h))) in
        let g : min (amt (free v.joint) (Person me)) (end_reach b reach v - amt (free v.joint) (Channel v.channel))
        ≡ min (amt (bound v.joint) (Person me)) (end_reach c after v - amt (bound v.joint) (Channel v.channel)) =
        ap (λ (r : ℕ). min (amt (free v.joint) (Person me)) (r - amt (free v.joint) (Channel v.channel))) e
        ∙ ap (λ (js : List Item). min (amt js (Person me)) (end_reach c after v - amt js (Channel v.channel))) (sym (others v.joint nj)) in
        let h : aff (free v.channel) (virtual b (own_guarantor v) v.joint v.channel (end_reach b reach v)) (Person me)
        ≡ aff (bound v.channel) (virtual c (own_guarantor v) v.joint v.channel (end_reach c after v)) (Person me) + mine =
        subst (λ (k : List ℕ). aff (free k) (virtual b (own_guarantor v) v.joint v.channel (end_reach b reach v)) (Person me)
        ≡ aff (bound k) (virtual b (own_guarantor v) v.joint v.channel (end_reach b reach v)) (Person me) + mine) (sym is)
        (own-affords (virtual b (own_guarantor v) v.joint v.channel (end_reach b reach v)) covered)
        ∙ ap (λ (r : ℕ). aff (bound v.channel) r (Person me) + mine) f in
        omega (arith, g, h)

    -- an end, whose channel may be the ledger
    pub end-part : (v : Virtual) → is_among (own_ledger v) ledgers ≡ true → bytes_eq v.joint l ≡ false → is_among v.channel ledgers ≡ false →
        (bytes_eq (own_guarantor v) x ≡ true → Backs b me (End v) l x mine all) →
        (v.channel ≡ l → total (free l) ≤ virtual b (own_guarantor v) v.joint v.channel (end_reach b reach v)) →
        part_worth b me reach (End v) + cond (stands_on x (End v)) mine 0 ≡ part_worth c me after (End v) + cond (owns l (End v)) mine 0
    unfolding stands_on owns
    end-part v there nj new backs covered = by_test (bytes_eq v.channel l) (same_bytes v.channel l) refl
      where
        -- the guarantor of the end whose channel the ledger is isn't what it sets aside for
        apart : v.channel ≡ l → bytes_eq (own_guarantor v) x ≡ false
        apart is = by_case (bytes_eq (own_guarantor v) x) backs
          where
            by_case : (u : Bool) → (u ≡ true → Backs b me (End v) l x mine all) → u ≡ false
            by_case true k =
                let on : own_ledger v ≡ v.channel = (k refl).0 ∙ sym is in
                absurd (false≢true (sym new ∙ subst (λ (z : List ℕ). is_among z ledgers ≡ true) on there))
            by_case false k = refl

        by_test : (t : Bool) → (t ≡ true → v.channel ≡ l) → bytes_eq v.channel l ≡ t →
            part_worth b me reach (End v) + cond (bytes_eq (own_guarantor v) x) mine 0 ≡ part_worth c me after (End v) + cond t mine 0
        by_test true is e =
            let ne : bytes_eq (own_guarantor v) x ≡ false = apart (is refl) in
            let w : part_worth b me reach (End v) ≡ part_worth c me after (End v) + mine = on-part v there nj (is refl) ne (covered (is refl)) in
            ap (λ (u : Bool). part_worth b me reach (End v) + cond u mine 0) ne ∙ omega (arith, w)
        by_test false is e = let w = off-part v there nj e backs in omega (arith, w)

    -- ---- an intermediary

    guarantor-cap : (m y : List ℕ) (t : ℕ) → guarantor b reach m y t ≤ t
    guarantor-cap m y t = by_test (counts y)
      where
        by_test : (u : Bool) → cond u (min (child b reach m y) t) 0 ≤ t
        by_test true = omega arith
        by_test false = omega arith

    -- the part by the joint channel's items and both reaches
    middle_worth_of : List Item → Virtual → ℕ → ℕ → ℕ
    middle_worth_of js v r q =
        between (amt js (Person me)) (amt js (Channel v.channel)) (second_amt js (list v.guarantor_a)) (second_amt js (list v.guarantor_b)) r q

    middle-apart : (v : Virtual) (f g : ℕ) → IsApartBetween b me v f g (free v.joint) → (r q : ℕ) →
        middle_worth_of (free v.joint) v r q ≡ between v.total 0 f g r q
    unfolding middle_worth_of
    middle-apart v f g i r q = between-same _ _ _ _ _ _ _ _ _ _ _ _ i.own i.channel i.first i.second refl refl

    same-joint : (v : Virtual) → bytes_eq v.joint l ≡ false → (r q : ℕ) → middle_worth_of (bound v.joint) v r q ≡ middle_worth_of (free v.joint) v r q
    same-joint v nj r q = ap (λ (js : List Item). middle_worth_of js v r q) (others v.joint nj)

    first-side : (v : Virtual) → bytes_eq v.joint l ≡ false → (f g ra rb ra' rb' : ℕ) → IsApartBetween b me v f g (free v.joint) → rb ≤ v.total →
        ra ≡ 0 → ra' ≡ v.total → rb ≡ rb' → mine ≡ g →
        middle_worth_of (free v.joint) v ra rb + mine ≡ middle_worth_of (bound v.joint) v ra' rb'
    first-side v nj f g ra rb ra' rb' i le za fa eb m =
        let e : middle_worth_of (free v.joint) v ra rb ≡ between v.total 0 f g 0 rb = middle-apart v f g i ra rb ∙ ap (λ (z : ℕ). between v.total 0 f g z rb) za in
        let h : middle_worth_of (bound v.joint) v ra' rb' ≡ between v.total 0 f g v.total rb =
        same-joint v nj ra' rb' ∙ middle-apart v f g i ra' rb' ∙ ap (λ (z : ℕ). between v.total 0 f g z rb') fa ∙ ap (λ (z : ℕ). between v.total 0 f g v.total z) (sym eb) in
        (ap (λ (z : ℕ). z + mine) e ∙ ap (λ (z : ℕ). between v.total 0 f g 0 rb + z) m) ∙ first-opens v.total f g rb i.whole le ∙ sym h

    second-side : (v : Virtual) → bytes_eq v.joint l ≡ false → (f g ra rb ra' rb' : ℕ) → IsApartBetween b me v f g (free v.joint) → ra ≤ v.total →
        rb ≡ 0 → rb' ≡ v.total → ra ≡ ra' → mine ≡ f →
        middle_worth_of (free v.joint) v ra rb + mine ≡ middle_worth_of (bound v.joint) v ra' rb'
    second-side v nj f g ra rb ra' rb' i le zb fb ea m =
        let e : middle_worth_of (free v.joint) v ra rb ≡ between v.total 0 f g ra 0 = middle-apart v f g i ra rb ∙ ap (λ (z : ℕ). between v.total 0 f g ra z) zb in
        let h : middle_worth_of (bound v.joint) v ra' rb' ≡ between v.total 0 f g ra v.total =
        same-joint v nj ra' rb' ∙ middle-apart v f g i ra' rb' ∙ ap (λ (z : ℕ). between v.total 0 f g ra' z) fb ∙ ap (λ (z : ℕ). between v.total 0 f g z v.total) (sym ea) in
        (ap (λ (z : ℕ). z + mine) e ∙ ap (λ (z : ℕ). between v.total 0 f g ra 0 + z) m) ∙ second-opens v.total f g ra i.whole le ∙ sym h

    free-at : (t : ℕ) (p q : List ℕ) → p ≡ l → q ≡ x → guarantor b reach p q t ≡ 0
    free-at t p q ep eq =
        subst (λ (z : List ℕ). guarantor b reach z q t ≡ 0) (sym ep) (subst (λ (z : List ℕ). guarantor b reach l z t ≡ 0) (sym eq) (guarantor-free reach t))

    bound-at : (t : ℕ) (p q : List ℕ) → is_among p ledgers ≡ true → p ≡ l → q ≡ x → counts x ≡ true → t ≡ all → guarantor c after p q t ≡ t
    bound-at t p q here ep eq on whole =
        subst (λ (z : List ℕ). guarantor c after z q t ≡ t) (sym ep)
        (subst (λ (z : List ℕ). guarantor c after l z t ≡ t) (sym eq) (guarantor-bound after (at-ledger p here ep) t on whole))

    pub middle-part : (v : Virtual) → is_among v.ledger_a ledgers ≡ true → is_among v.ledger_b ledgers ≡ true → bytes_eq v.joint l ≡ false →
        bytes_eq v.guarantor_a v.guarantor_b ≡ false → (stands_on x (Middle v) ≡ true → Backs b me (Middle v) l x mine all) →
        part_worth b me reach (Middle v) + cond (stands_on x (Middle v)) mine 0 ≡ part_worth c me after (Middle v)
    unfolding stands_on middle_worth_of
    middle-part v at-a at-b nj apart backs =
        by_test (bytes_eq v.guarantor_a x) (bytes_eq v.guarantor_b x) refl refl backs
      where
        by_side : (k : BacksSide b me v l x mine all) →
            ((v.ledger_a ≡ l) × (v.guarantor_a ≡ x) × (mine ≡ k.c)) ⊎ ((v.ledger_b ≡ l) × (v.guarantor_b ≡ x) × (mine ≡ k.a)) →
            part_worth b me reach (Middle v) + mine ≡ part_worth c me after (Middle v)
        by_side k (inl w) = first-side v nj k.a k.c _ _ _ _ k.joint (guarantor-cap v.ledger_b v.guarantor_b v.total)
            (free-at v.total v.ledger_a v.guarantor_a w.0 w.1) (bound-at v.total v.ledger_a v.guarantor_a at-a w.0 w.1 k.counts k.whole)
            (guarantor-same ledgers reach after a v.ledger_b v.guarantor_b v.total at-b
            (subst (λ (z : List ℕ). bytes_eq v.guarantor_b z ≡ false) w.1 (differ-flip v.guarantor_a v.guarantor_b apart))) w.2
        by_side k (inr w) = second-side v nj k.a k.c _ _ _ _ k.joint (guarantor-cap v.ledger_a v.guarantor_a v.total)
            (free-at v.total v.ledger_b v.guarantor_b w.0 w.1) (bound-at v.total v.ledger_b v.guarantor_b at-b w.0 w.1 k.counts k.whole)
            (guarantor-same ledgers reach after a v.ledger_a v.guarantor_a v.total at-a
            (subst (λ (z : List ℕ). bytes_eq v.guarantor_a z ≡ false) w.1 apart)) w.2

        same : bytes_eq v.guarantor_a x ≡ false → bytes_eq v.guarantor_b x ≡ false →
            part_worth b me reach (Middle v) + 0 ≡ part_worth c me after (Middle v)
        same na nb =
            let e : part_worth c me after (Middle v) ≡ part_worth b me reach (Middle v) =
            same-joint v nj _ _
            ∙ ap (λ (z : ℕ). middle_worth_of (free v.joint) v z (guarantor c after v.ledger_b v.guarantor_b v.total)) (sym (guarantor-same ledgers reach after a v.ledger_a v.guarantor_a v.total at-a na))
            ∙ ap (λ (z : ℕ). middle_worth_of (free v.joint) v (guarantor b reach v.ledger_a v.guarantor_a v.total) z) (sym (guarantor-same ledgers reach after a v.ledger_b v.guarantor_b v.total at-b nb)) in
            omega (arith, e)

        by_test : (t u : Bool) → bytes_eq v.guarantor_a x ≡ t → bytes_eq v.guarantor_b x ≡ u → ((t || u) ≡ true → Backs b me (Middle v) l x mine all) →
            part_worth b me reach (Middle v) + cond (t || u) mine 0 ≡ part_worth c me after (Middle v)
        by_test true u et eu k = by_side (k refl) (k refl).side
        by_test false true et eu k = by_side (k refl) (k refl).side
        by_test false false et eu k = same et eu
