-- What each part is worth where the joint channel j pays the ends apart, and where it pays all to the payment channel.
use Rattle.std.proofs.Common.{◌≡◌, ℕ, ◌+◌, ◌-◌, ◌≤◌, min, Bool, true, false, List, refl, sym, ◌∙◌, ap, arith, cond, inl, inr, ◌⊎◌}
use Rattle.std.specs.Str.{bytes_eq}
use Rattle.channel_values.specs.Outcomes.{total}
use Rattle.channel_values.specs.declared.value.Dest.{Dest}
use Rattle.channel_values.specs.declared.value.Dest.TheVariants.{Person, Channel}
use Rattle.channel_values.specs.declared.value.Item.{Item}
use Rattle.channel_values.specs.Amounts.{amt, has, aff}
use Rattle.funding_plans.specs.declared.plan.Part.{Part}
use Rattle.funding_plans.specs.declared.plan.Part.TheVariants.{Root, OnLedger, End, Middle}
use Rattle.funding_plans.specs.declared.plan.Virtual.{Virtual}
use Rattle.share_laws.specs.Books.{Books}
use Rattle.share_laws.specs.Worth.{Table, child, guarantor, virtual, end_reach, second_amt, part_worth}
use Rattle.funding_plans.specs.Parts.{own_ledger, own_guarantor}
use Rattle.share_laws.specs.Moves.{IsInFull, JoinsEnd, JoinsBetween, owing}
use Rattle.share_laws.proofs.Amounts.{aff-zero, aff-full, aff-up_to, amt-up_to, amt-unnamed}
use Rattle.share_laws.proofs.JointNumbers.{joins-between, between, between-same}

-- the joint channel of the part
unfoldable pub has_joint : List ℕ → Part → Bool
has_joint j (Root n) = false
has_joint j (OnLedger m n) = false
has_joint j (End v) = bytes_eq v.joint j
has_joint j (Middle v) = bytes_eq v.joint j

module _ (held : List ℕ → ℕ) (counts : List ℕ → Bool) (list : List ℕ → List Dest) (apart together : List ℕ → List Item) (me j : List ℕ)
    (others : (m : List ℕ) → bytes_eq m j ≡ false → together m ≡ apart m) where
  abbrev pub b : Books
  b = owing held counts list apart

  abbrev pub c : Books
  c = owing held counts list together

  off : (n : List ℕ) → bytes_eq n j ≡ false → (r q : ℕ) → r ≡ q → aff (apart n) r (Person me) ≡ aff (together n) q (Person me)
  off n ne r q e =
      ap (λ (z : ℕ). aff (apart n) z (Person me)) e ∙ ap (λ (xs : List Item). aff xs q (Person me)) (sym (others n ne))

  pub root-part : (n : List ℕ) → bytes_eq n j ≡ false → (reach after : Table) → part_worth b me reach (Root n) ≡ part_worth c me after (Root n)
  root-part n ne reach after = off n ne (held n) (held n) refl

  -- a ledger at which the tables agree, or which has no item for the channel
  abbrev pub Same : (reach after : Table) → (m y : List ℕ) → Type 0
  Same reach after m y = (reach m ≡ after m) ⊎ (has (apart m) (Channel y) ≡ false)

  module _ (reach after : Table) where
    -- a channel on a ledger
    child-same : (m y : List ℕ) → Same reach after m y → bytes_eq m j ≡ false → child b reach m y ≡ child c after m y
    child-same m y (inl e) ne =
        ap (λ (z : ℕ). cond (has (apart m) (Channel y)) (held y + aff (apart m) z (Channel y)) 0) e
        ∙ ap (λ (xs : List Item). cond (has xs (Channel y)) (held y + aff xs (after m) (Channel y)) 0) (sym (others m ne))
    child-same m y (inr none) ne =
        ap (λ (t : Bool). cond t (held y + aff (apart m) (reach m) (Channel y)) 0) none
        ∙ sym (ap (λ (t : Bool). cond t (held y + aff (apart m) (after m) (Channel y)) 0) none)
        ∙ ap (λ (xs : List Item). cond (has xs (Channel y)) (held y + aff xs (after m) (Channel y)) 0) (sym (others m ne))

    guarantor-same : (m y : List ℕ) (t : ℕ) → Same reach after m y → bytes_eq m j ≡ false → guarantor b reach m y t ≡ guarantor c after m y t
    guarantor-same m y t there ne = ap (λ (z : ℕ). cond (counts y) (min z t) 0) (child-same m y there ne)

    pub child-part : (m n : List ℕ) → Same reach after m n → bytes_eq m j ≡ false → bytes_eq n j ≡ false →
        part_worth b me reach (OnLedger m n) ≡ part_worth c me after (OnLedger m n)
    child-part m n there nm nn = off n nn _ _ (child-same m n there nm)

    -- a guarantor that a covered ledger names with its total reaches it
    full-reach : (l y : List ℕ) (t : ℕ) → total (apart l) ≤ reach l → IsInFull b l y t → guarantor b reach l y t ≡ t
    full-reach l y t covered f =
        let e : child b reach l y ≡ held y + t =
        ap (λ (u : Bool). cond u (held y + aff (apart l) (reach l) (Channel y)) 0) f.named
        ∙ ap (λ (z : ℕ). held y + z) (aff-full (apart l) (reach l) (Channel y) covered ∙ f.amount) in
        ap (λ (u : Bool). cond u (min (child b reach l y) t) 0) f.counts ∙ omega (arith, e)

    -- ---- an end
    end_worth : (List ℕ → List Item) → Virtual → ℕ → ℕ
    end_worth items v r =
        aff (items v.channel) (cond (has (items v.joint) (Channel v.channel)) (held v.channel + min (amt (items v.joint) (Channel v.channel)) r) 0) (Person me)
        + min (amt (items v.joint) (Person me)) (r - amt (items v.joint) (Channel v.channel))

    pub end-off : (v : Virtual) → Same reach after (own_ledger v) (own_guarantor v) → bytes_eq (own_ledger v) j ≡ false → bytes_eq v.joint j ≡ false → bytes_eq v.channel j ≡ false →
        part_worth b me reach (End v) ≡ part_worth c me after (End v)
    unfolding end_worth
    end-off v there nl nj nx =
        ap (λ (r : ℕ). end_worth apart v r) (guarantor-same (own_ledger v) (own_guarantor v) v.total there nl)
        ∙ ap (λ (js : List Item). aff (apart v.channel) (cond (has js (Channel v.channel)) (held v.channel + min (amt js (Channel v.channel)) (end_reach c after v)) 0) (Person me)
        + min (amt js (Person me)) (end_reach c after v - amt js (Channel v.channel))) (sym (others v.joint nj))
        ∙ ap (λ (xs : List Item). aff xs (cond (has (together v.joint) (Channel v.channel)) (held v.channel + min (amt (together v.joint) (Channel v.channel)) (end_reach c after v)) 0) (Person me)
        + min (amt (together v.joint) (Person me)) (end_reach c after v - amt (together v.joint) (Channel v.channel))) (sym (others v.channel nx))

    -- its channel reaches the same
    pub end-reaches : (v : Virtual) → Same reach after (own_ledger v) (own_guarantor v) → bytes_eq (own_ledger v) j ≡ false → bytes_eq v.joint j ≡ false →
        virtual b (own_guarantor v) v.joint v.channel (end_reach b reach v) ≡ virtual c (own_guarantor v) v.joint v.channel (end_reach c after v)
    end-reaches v there nl nj =
        ap (λ (r : ℕ). cond (has (apart v.joint) (Channel v.channel)) (held v.channel + min (amt (apart v.joint) (Channel v.channel)) r) 0)
        (guarantor-same (own_ledger v) (own_guarantor v) v.total there nl)
        ∙ ap (λ (js : List Item). cond (has js (Channel v.channel)) (held v.channel + min (amt js (Channel v.channel)) (end_reach c after v)) 0) (sym (others v.joint nj))

    pub end-on : (v : Virtual) → Same reach after (own_ledger v) (own_guarantor v) → bytes_eq (own_ledger v) j ≡ false → v.joint ≡ j → bytes_eq v.channel j ≡ false →
        total (apart (own_ledger v)) ≤ reach (own_ledger v) → JoinsEnd b me v (apart v.joint) (together v.joint) →
        part_worth b me reach (End v) ≡ part_worth c me after (End v)
    unfolding end_worth
    end-on v there nl is nx covered k =
        let r : end_reach b reach v ≡ v.total = full-reach (own_ledger v) (own_guarantor v) v.total covered k.full in
        let q : end_reach c after v ≡ v.total = sym (guarantor-same (own_ledger v) (own_guarantor v) v.total there nl) ∙ r in
        let zero : cond (has (apart v.joint) (Channel v.channel)) (held v.channel + min (amt (apart v.joint) (Channel v.channel)) (end_reach b reach v)) 0 ≡ 0 =
        ap (λ (t : Bool). cond t (held v.channel + min (amt (apart v.joint) (Channel v.channel)) (end_reach b reach v)) 0) k.apart.unnamed in
        let none : aff (apart v.channel) (cond (has (apart v.joint) (Channel v.channel)) (held v.channel + min (amt (apart v.joint) (Channel v.channel)) (end_reach b reach v)) 0) (Person me) ≡ 0 =
        ap (λ (z : ℕ). aff (apart v.channel) z (Person me)) zero ∙ aff-zero (apart v.channel) (Person me) in
        let nothing : amt (apart v.joint) (Channel v.channel) ≡ 0 = amt-unnamed (apart v.joint) (Channel v.channel) k.apart.unnamed in
        let own : amt (apart v.joint) (Person me) ≡ k.mine = k.apart.own in
        let within : k.mine ≤ v.total = (let u = amt-up_to (apart v.channel) (Person me) in let w = k.own in let z = k.within in omega (arith, u, w, z)) in
        let e : end_worth apart v (end_reach b reach v) ≡ k.mine = omega (arith, none, nothing, own, within, r) in
        let all : amt (together v.joint) (Channel v.channel) ≡ v.total = k.together.amount in
        let mine' : amt (together v.joint) (Person me) ≡ 0 = k.together.own in
        let reaches : cond (has (together v.joint) (Channel v.channel)) (held v.channel + min (amt (together v.joint) (Channel v.channel)) (end_reach c after v)) 0
        ≡ held v.channel + min (amt (together v.joint) (Channel v.channel)) (end_reach c after v) =
        ap (λ (t : Bool). cond t (held v.channel + min (amt (together v.joint) (Channel v.channel)) (end_reach c after v)) 0) k.together.named in
        let whole : aff (together v.channel) (cond (has (together v.joint) (Channel v.channel)) (held v.channel + min (amt (together v.joint) (Channel v.channel)) (end_reach c after v)) 0) (Person me) ≡ k.mine =
        ap (λ (xs : List Item). aff xs (cond (has (together v.joint) (Channel v.channel)) (held v.channel + min (amt (together v.joint) (Channel v.channel)) (end_reach c after v)) 0) (Person me)) (others v.channel nx)
        ∙ aff-up_to (apart v.channel) _ (Person me) (let z = k.within in omega (arith, reaches, all, q, z)) ∙ k.own in
        let f : end_worth together v (end_reach c after v) ≡ k.mine = omega (arith, whole, mine') in
        e ∙ sym f

    -- ---- an intermediary
    middle_worth_of : List Item → Virtual → ℕ → ℕ → ℕ
    middle_worth_of js v r q =
        between (amt js (Person me)) (amt js (Channel v.channel)) (second_amt js (list v.guarantor_a)) (second_amt js (list v.guarantor_b)) r q

    pub middle-off : (v : Virtual) → Same reach after v.ledger_a v.guarantor_a → Same reach after v.ledger_b v.guarantor_b → bytes_eq v.ledger_a j ≡ false →
        bytes_eq v.ledger_b j ≡ false → bytes_eq v.joint j ≡ false → part_worth b me reach (Middle v) ≡ part_worth c me after (Middle v)
    unfolding middle_worth_of
    middle-off v at-a at-b na nb nj =
        ap (λ (z : ℕ). middle_worth_of (apart v.joint) v z (guarantor b reach v.ledger_b v.guarantor_b v.total)) (guarantor-same v.ledger_a v.guarantor_a v.total at-a na)
        ∙ ap (λ (z : ℕ). middle_worth_of (apart v.joint) v (guarantor c after v.ledger_a v.guarantor_a v.total) z) (guarantor-same v.ledger_b v.guarantor_b v.total at-b nb)
        ∙ ap (λ (js : List Item). middle_worth_of js v (guarantor c after v.ledger_a v.guarantor_a v.total) (guarantor c after v.ledger_b v.guarantor_b v.total)) (sym (others v.joint nj))

    pub middle-on : (v : Virtual) → Same reach after v.ledger_a v.guarantor_a → Same reach after v.ledger_b v.guarantor_b → bytes_eq v.ledger_a j ≡ false →
        bytes_eq v.ledger_b j ≡ false → total (apart v.ledger_a) ≤ reach v.ledger_a → total (apart v.ledger_b) ≤ reach v.ledger_b →
        JoinsBetween b me v (apart v.joint) (together v.joint) → part_worth b me reach (Middle v) ≡ part_worth c me after (Middle v)
    unfolding middle_worth_of
    middle-on v at-a at-b na nb cover-a cover-b k =
        let ra : guarantor b reach v.ledger_a v.guarantor_a v.total ≡ v.total = full-reach v.ledger_a v.guarantor_a v.total cover-a k.full_a in
        let rb : guarantor b reach v.ledger_b v.guarantor_b v.total ≡ v.total = full-reach v.ledger_b v.guarantor_b v.total cover-b k.full_b in
        let qa : guarantor c after v.ledger_a v.guarantor_a v.total ≡ v.total = sym (guarantor-same v.ledger_a v.guarantor_a v.total at-a na) ∙ ra in
        let qb : guarantor c after v.ledger_b v.guarantor_b v.total ≡ v.total = sym (guarantor-same v.ledger_b v.guarantor_b v.total at-b nb) ∙ rb in
        let e : middle_worth_of (apart v.joint) v (guarantor b reach v.ledger_a v.guarantor_a v.total) (guarantor b reach v.ledger_b v.guarantor_b v.total)
        ≡ between v.total 0 k.a k.c v.total v.total =
        between-same _ _ _ _ _ _ _ _ _ _ _ _ k.apart.own k.apart.channel k.apart.first k.apart.second ra rb in
        let f : middle_worth_of (together v.joint) v (guarantor c after v.ledger_a v.guarantor_a v.total) (guarantor c after v.ledger_b v.guarantor_b v.total)
        ≡ between v.total v.total 0 0 v.total v.total =
        between-same _ _ _ _ _ _ _ _ _ _ _ _ k.together.own k.together.channel k.together.first k.together.second qa qb in
        e ∙ joins-between v.total k.a k.c k.apart.whole ∙ sym f
