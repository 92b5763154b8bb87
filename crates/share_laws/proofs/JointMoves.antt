-- A joint channel that joins what its guarantors reach leaves what the plan is worth.
use Rattle.std.proofs.Common.{◌≡◌, ℕ, ◌≤◌, Bool, true, false, ◌||◌, List, [], ◌∷◌, refl, sym, ◌∙◌, ap, subst, arith, inl, inr, ◌⊎◌}
use Rattle.std.proofs.lemmas.Bool.{false≢true}
use Rattle.std.specs.Str.{bytes_eq}
use Rattle.channel_values.specs.Outcomes.{AreApart, total}
use Rattle.channel_values.specs.declared.value.Dest.{Dest}
use Rattle.channel_values.specs.declared.value.Dest.TheVariants.{Channel}
use Rattle.channel_values.specs.declared.value.Item.{Item}
use Rattle.channel_values.specs.Amounts.{has}
use Rattle.call_history.specs.Flows.{is_among}
use Rattle.channel_safety.specs.Journals.{In}
use Rattle.funding_plans.specs.declared.plan.Part.{Part}
use Rattle.funding_plans.specs.declared.plan.Part.TheVariants.{Root, OnLedger, End, Middle}
use Rattle.share_laws.specs.Books.{Books}
use Rattle.share_laws.specs.Worth.{Table, no_reach, virtual, end_reach, reach_after, part_worth, worth}
use Rattle.funding_plans.specs.Parts.{own_channel, own_ledger, own_guarantor, channels_of, channels, ledgers_of}
use Rattle.share_laws.specs.Plans.{StandsOn, ledgers_after, AllStandOn, Lends, reaches}
use Rattle.funding_plans.specs.declared.plan.Virtual.{Virtual}
use Rattle.share_laws.specs.Moves.{Joins, JoinsEnd, JoinsBetween, owing}
use Rattle.share_laws.specs.SigningLaws.{JointMovesKeepWorth}
use Rattle.call_history.proofs.Names.{same_bytes, bytes_eq_self}
use Rattle.share_laws.proofs.Choices.{differ-flip}
use Rattle.share_laws.proofs.Apart.{or-none, apart-rest}
use Rattle.share_laws.proofs.Counts.{or-left, or-right, part-apart, part-once}
use Rattle.share_laws.proofs.Tables.{Agree, Agree-with, Agree-other, Apart, Apart-after, end-out, middle-out, child-out, reaches-now}
use Rattle.share_laws.proofs.LedgerMoves.{last-two}
use Rattle.share_laws.proofs.Joints.{has_joint, root-part, child-part, end-reaches, end-off, end-on, middle-off, middle-on}

flip : (a b : List ℕ) → bytes_eq a b ≡ true → bytes_eq b a ≡ true
flip a b h = subst (λ (z : List ℕ). bytes_eq b z ≡ true) (sym (same_bytes a b h)) (bytes_eq_self b)

third : (g h j n : Bool) → j ≡ true → (g || (h || (j || (n || false)))) ≡ true
third true h j n e = refl
third false true j n e = refl
third false false j n e = or-left j (n || false) e

pub has_joint-has : (j : List ℕ) (p : Part) → has_joint j p ≡ true → is_among j (channels_of p) ≡ true
unfolding has_joint
has_joint-has j (Root n) h = absurd (false≢true h)
has_joint-has j (OnLedger m n) h = absurd (false≢true h)
has_joint-has j (End v) h = third (bytes_eq j v.guarantor_a) (bytes_eq j v.guarantor_b) _ _ (flip v.joint j h)
has_joint-has j (Middle v) h = third (bytes_eq j v.guarantor_a) (bytes_eq j v.guarantor_b) _ _ (flip v.joint j h)

-- what the moved joint channel j, of a part whose channel is x, is to a part of the plan
record Fits (b : Books) (me j x : List ℕ) (js ks : List Item) (p : Part) : Type 0 where
  off : has_joint j p ≡ false → is_among j (channels_of p) ≡ false
  joins : has_joint j p ≡ true → Joins b me p j js ks
  own : has_joint j p ≡ true → own_channel p ≡ x
  bare : (c : List ℕ) → Lends p x c → has (b.items x) (Channel c) ≡ false
  apart : AreApart bytes_eq (channels_of p)

module _ (held : List ℕ → ℕ) (counts : List ℕ → Bool) (list : List ℕ → List Dest) (apart together : List ℕ → List Item) (me j x : List ℕ)
    (others : (m : List ℕ) → bytes_eq m j ≡ false → together m ≡ apart m) where
  abbrev b : Books
  b = owing held counts list apart

  abbrev c : Books
  c = owing held counts list together

  -- as much as a ledger has items is reached of it in the end, in either table
  abbrev InTheEnd : Table → Table → List Part → List ℕ → Type 0
  InTheEnd reach after ps l = (total (apart l) ≤ reaches b reach ps l) ⊎ (total (apart l) ≤ reaches c after ps l)

  -- so it is of the ledgers of the part that moves
  abbrev Covered : Table → Table → List Part → Part → Type 0
  Covered reach after ps p = has_joint j p ≡ true → (l : List ℕ) → is_among l (ledgers_of p) ≡ true → InTheEnd reach after ps l

  -- a ledger isn't the joint channel
  not-ledger : (ledgers : List (List ℕ)) → is_among j ledgers ≡ false → (m : List ℕ) → is_among m ledgers ≡ true → bytes_eq m j ≡ false
  not-ledger ledgers out m there = by_test (bytes_eq m j) (same_bytes m j)
    where
      by_test : (t : Bool) → (t ≡ true → m ≡ j) → t ≡ false
      by_test true is = absurd (false≢true (sym out ∙ subst (λ (z : List ℕ). is_among z ledgers ≡ true) (is refl) there))
      by_test false is = refl

  -- the tables agree at a ledger, or it lends the part nothing
  lends-same : (ledgers : List (List ℕ)) (reach after : Table) → Agree x ledgers reach after → (p : Part) → ((n : List ℕ) → Lends p x n → has (apart x) (Channel n) ≡ false) →
      (m y : List ℕ) → Lends p m y → is_among m ledgers ≡ true → (reach m ≡ after m) ⊎ (has (apart m) (Channel y) ≡ false)
  lends-same ledgers reach after g p bare m y lends there = by_test (bytes_eq m x) (same_bytes m x) refl
    where
      by_test : (t : Bool) → (t ≡ true → m ≡ x) → bytes_eq m x ≡ t → (reach m ≡ after m) ⊎ (has (apart m) (Channel y) ≡ false)
      by_test true is e = inr (subst (λ (z : List ℕ). has (apart z) (Channel y) ≡ false) (sym (is refl)) (bare y (subst (λ (z : List ℕ). Lends p z y) (is refl) lends)))
      by_test false is e = inl (g.at m there e)

  -- the channel of the part that moves isn't a ledger yet
  new : (ledgers : List (List ℕ)) (ps : List Part) (v : Virtual) → Apart ledgers (End v ∷ ps) → v.channel ≡ x → (m : List ℕ) → is_among m ledgers ≡ true → bytes_eq m x ≡ false
  new ledgers ps v a is m there = by_test (bytes_eq m x) (same_bytes m x)
    where
      by_test : (t : Bool) → (t ≡ true → m ≡ x) → t ≡ false
      by_test true e = absurd (false≢true (sym (end-out ledgers v ps a) ∙ subst (λ (z : List ℕ). is_among z ledgers ≡ true) (e refl ∙ sym is) there))
      by_test false e = refl

  -- what a ledger of the part reaches now
  now : (ledgers : List (List ℕ)) (reach after : Table) → Agree x ledgers reach after → (ps : List Part) → Apart ledgers ps → (l : List ℕ) → is_among l ledgers ≡ true →
      bytes_eq l x ≡ false → InTheEnd reach after ps l → total (apart l) ≤ reach l
  now ledgers reach after g ps a l there ne k = reaches-now b c x ledgers ps reach after g a l there ne (total (apart l)) k

  end-part : (ledgers : List (List ℕ)) (reach after : Table) → Agree x ledgers reach after → (v : Virtual) (ps : List Part) → StandsOn ledgers (End v) →
      is_among j ledgers ≡ false → Apart ledgers (End v ∷ ps) → Covered reach after (End v ∷ ps) (End v) → Fits b me j x (apart j) (together j) (End v) →
      part_worth b me reach (End v) ≡ part_worth c me after (End v)
  unfolding has_joint
  end-part ledgers reach after g v ps on out a cov f = by_test (bytes_eq v.joint j) (f.off) f.joins f.own cov
    where
      same : (reach (own_ledger v) ≡ after (own_ledger v)) ⊎ (has (apart (own_ledger v)) (Channel (own_guarantor v)) ≡ false)
      same = lends-same ledgers reach after g (End v) f.bare (own_ledger v) (own_guarantor v) (refl, refl) on

      by_test : (t : Bool) → (t ≡ false → is_among j (channels_of (End v)) ≡ false) → (t ≡ true → Joins b me (End v) j (apart j) (together j)) → (t ≡ true → v.channel ≡ x) →
          (t ≡ true → (l : List ℕ) → is_among l (ledgers_of (End v)) ≡ true → InTheEnd reach after (End v ∷ ps) l) →
          part_worth b me reach (End v) ≡ part_worth c me after (End v)
      by_test true o k own cov' =
          let is : v.joint ≡ j = (k refl).0 in
          let ne : bytes_eq v.joint v.channel ≡ false = (or-none (bytes_eq v.joint v.channel) false f.apart.1.1.0).0 in
          let nx : bytes_eq v.channel j ≡ false = subst (λ (z : List ℕ). bytes_eq v.channel z ≡ false) is (differ-flip v.joint v.channel ne) in
          end-on held counts list apart together me j others reach after v same (not-ledger ledgers out (own_ledger v) on) is nx
          (now ledgers reach after g (End v ∷ ps) a (own_ledger v) on (new ledgers ps v a (own refl) (own_ledger v) on)
          (cov' refl (own_ledger v) (ap (λ (t : Bool). t || false) (bytes_eq_self (own_ledger v)))))
          (subst (λ (z : List ℕ). JoinsEnd b me v (apart z) (together z)) (sym is) (k refl).1)
      by_test false o k own cov' =
          let n : (bytes_eq j v.joint ≡ false) × (bytes_eq j v.channel ≡ false) = last-two (bytes_eq j v.guarantor_a) (bytes_eq j v.guarantor_b) _ _ (o refl) in
          end-off held counts list apart together me j others reach after v same (not-ledger ledgers out (own_ledger v) on)
          (differ-flip j v.joint n.0) (differ-flip j v.channel n.1)

  middle-part : (ledgers : List (List ℕ)) (reach after : Table) → Agree x ledgers reach after → (v : Virtual) (ps : List Part) → StandsOn ledgers (Middle v) →
      is_among j ledgers ≡ false → Apart ledgers (Middle v ∷ ps) → Covered reach after (Middle v ∷ ps) (Middle v) → Fits b me j x (apart j) (together j) (Middle v) →
      part_worth b me reach (Middle v) ≡ part_worth c me after (Middle v)
  unfolding has_joint
  middle-part ledgers reach after g v ps on out a cov f = by_test (bytes_eq v.joint j) (f.off) f.joins f.own cov
    where
      same_a : (reach v.ledger_a ≡ after v.ledger_a) ⊎ (has (apart v.ledger_a) (Channel v.guarantor_a) ≡ false)
      same_a = lends-same ledgers reach after g (Middle v) f.bare v.ledger_a v.guarantor_a (inl (refl, refl)) on.0

      same_b : (reach v.ledger_b ≡ after v.ledger_b) ⊎ (has (apart v.ledger_b) (Channel v.guarantor_b) ≡ false)
      same_b = lends-same ledgers reach after g (Middle v) f.bare v.ledger_b v.guarantor_b (inr (refl, refl)) on.1

      -- the channel of an intermediary's part is no ledger
      old : v.channel ≡ x → (m : List ℕ) → is_among m ledgers ≡ true → bytes_eq m x ≡ false
      old is m there = go (bytes_eq m x) (same_bytes m x)
        where
          go : (t : Bool) → (t ≡ true → m ≡ x) → t ≡ false
          go true e =
              let out' : is_among v.channel ledgers ≡ false = middle-out ledgers v ps a in
              absurd (false≢true (sym out' ∙ subst (λ (z : List ℕ). is_among z ledgers ≡ true) (e refl ∙ sym is) there))
          go false e = refl

      by_test : (t : Bool) → (t ≡ false → is_among j (channels_of (Middle v)) ≡ false) → (t ≡ true → Joins b me (Middle v) j (apart j) (together j)) → (t ≡ true → v.channel ≡ x) →
          (t ≡ true → (l : List ℕ) → is_among l (ledgers_of (Middle v)) ≡ true → InTheEnd reach after (Middle v ∷ ps) l) →
          part_worth b me reach (Middle v) ≡ part_worth c me after (Middle v)
      by_test true o k own cov' =
          middle-on held counts list apart together me j others reach after v same_a same_b (not-ledger ledgers out v.ledger_a on.0) (not-ledger ledgers out v.ledger_b on.1)
          (now ledgers reach after g (Middle v ∷ ps) a v.ledger_a on.0 (old (own refl) v.ledger_a on.0)
          (cov' refl v.ledger_a (ap (λ (t : Bool). t || (bytes_eq v.ledger_a v.ledger_b || false)) (bytes_eq_self v.ledger_a))))
          (now ledgers reach after g (Middle v ∷ ps) a v.ledger_b on.1 (old (own refl) v.ledger_b on.1)
          (cov' refl v.ledger_b (or-right (bytes_eq v.ledger_b v.ledger_a) _ (ap (λ (t : Bool). t || false) (bytes_eq_self v.ledger_b)))))
          (subst (λ (z : List ℕ). JoinsBetween b me v (apart z) (together z)) (sym (k refl).0) (k refl).1)
      by_test false o k own cov' =
          let n : (bytes_eq j v.joint ≡ false) × (bytes_eq j v.channel ≡ false) = last-two (bytes_eq j v.guarantor_a) (bytes_eq j v.guarantor_b) _ _ (o refl) in
          middle-off held counts list apart together me j others reach after v same_a same_b (not-ledger ledgers out v.ledger_a on.0) (not-ledger ledgers out v.ledger_b on.1)
          (differ-flip j v.joint n.0)

  part-moves : (ledgers : List (List ℕ)) (reach after : Table) → Agree x ledgers reach after → (p : Part) (ps : List Part) → StandsOn ledgers p →
      is_among j ledgers ≡ false → Apart ledgers (p ∷ ps) → Covered reach after (p ∷ ps) p → Fits b me j x (apart j) (together j) p → part_worth b me reach p ≡ part_worth c me after p
  unfolding has_joint
  part-moves ledgers reach after g (Root n) ps on out a cov f =
      root-part held counts list apart together me j others n (differ-flip j n (or-none _ false (f.off refl)).0) reach after
  part-moves ledgers reach after g (OnLedger m n) ps on out a cov f =
      child-part held counts list apart together me j others reach after m n (lends-same ledgers reach after g (OnLedger m n) f.bare m n (refl, refl) on)
      (not-ledger ledgers out m on) (differ-flip j n (or-none _ false (f.off refl)).0)
  part-moves ledgers reach after g (End v) ps on out a cov f = end-part ledgers reach after g v ps on out a cov f
  part-moves ledgers reach after g (Middle v) ps on out a cov f = middle-part ledgers reach after g v ps on out a cov f

  -- the joint channel isn't among the ledgers after a part
  out-after : (ledgers : List (List ℕ)) (p : Part) → is_among j ledgers ≡ false → Fits b me j x (apart j) (together j) p → is_among j (ledgers_after ledgers p) ≡ false
  unfolding has_joint
  out-after ledgers (Root n) out f = both (bytes_eq j n) (is_among j ledgers) (or-none _ false (f.off refl)).0 out
    where
      both : (s t : Bool) → s ≡ false → t ≡ false → (s || t) ≡ false
      both true t h k = absurd (false≢true (sym h))
      both false t h k = k
  out-after ledgers (OnLedger m n) out f = out
  out-after ledgers (End v) out f = both (bytes_eq j v.channel) (is_among j ledgers) (by_test (bytes_eq v.joint j) f.off f.joins) out
    where
      both : (s t : Bool) → s ≡ false → t ≡ false → (s || t) ≡ false
      both true t h k = absurd (false≢true (sym h))
      both false t h k = k

      by_test : (t : Bool) → (t ≡ false → is_among j (channels_of (End v)) ≡ false) → (t ≡ true → Joins b me (End v) j (apart j) (together j)) → bytes_eq j v.channel ≡ false
      by_test true o k =
          subst (λ (z : List ℕ). bytes_eq z v.channel ≡ false) (k refl).0 (or-none (bytes_eq v.joint v.channel) false f.apart.1.1.0).0
      by_test false o k = (last-two (bytes_eq j v.guarantor_a) (bytes_eq j v.guarantor_b) (bytes_eq j v.joint) (bytes_eq j v.channel) (o refl)).1
  out-after ledgers (Middle v) out f = out

  -- the tables agree but at the channel of the part that moves
  agree-after : (ledgers : List (List ℕ)) (reach after : Table) → Agree x ledgers reach after → (p : Part) (ps : List Part) → StandsOn ledgers p →
      is_among j ledgers ≡ false → Apart ledgers (p ∷ ps) → Fits b me j x (apart j) (together j) p → Agree x (ledgers_after ledgers p) (reach_after b reach p) (reach_after c after p)
  unfolding has_joint
  agree-after ledgers reach after g (Root n) ps on out a f = Agree-with x ledgers reach after g n (held n) (held n) (λ ne. refl)
  agree-after ledgers reach after g (OnLedger m n) ps on out a f = Agree-other x ledgers reach after g n _ _ (child-out ledgers m n ps a)
  agree-after ledgers reach after g (End v) ps on out a f =
      Agree-with x ledgers reach after g v.channel _ _ (λ ne. by_test ne (bytes_eq v.joint j) refl f.own)
    where
      by_test : bytes_eq v.channel x ≡ false → (t : Bool) → bytes_eq v.joint j ≡ t → (t ≡ true → v.channel ≡ x) →
          virtual b (own_guarantor v) v.joint v.channel (end_reach b reach v) ≡ virtual c (own_guarantor v) v.joint v.channel (end_reach c after v)
      by_test ne true e own =
          absurd (false≢true (sym ne ∙ subst (λ (z : List ℕ). bytes_eq v.channel z ≡ true) (own refl) (bytes_eq_self v.channel)))
      by_test ne false e own =
          end-reaches held counts list apart together me j others reach after v
          (lends-same ledgers reach after g (End v) f.bare (own_ledger v) (own_guarantor v) (refl, refl) on) (not-ledger ledgers out (own_ledger v) on) e
  agree-after ledgers reach after g (Middle v) ps on out a f = record { at = λ m h ne. g.at m h ne }

  worth-moves : (ps : List Part) (ledgers : List (List ℕ)) (reach after : Table) → Agree x ledgers reach after →
      Apart ledgers ps → AreApart bytes_eq (channels ps) → AllStandOn ledgers ps → is_among j ledgers ≡ false →
      ((p : Part) → In p ps → Fits b me j x (apart j) (together j) p) → ((p : Part) → In p ps → Covered reach after ps p) → worth b me ps reach ≡ worth c me ps after
  worth-moves [] ledgers reach after g a d on out fits cov = refl
  worth-moves (p ∷ ps) ledgers reach after g a d on out fits cov =
      let e : part_worth b me reach p ≡ part_worth c me after p = part-moves ledgers reach after g p ps on.0 out a (cov p (inl refl)) (fits p (inl refl)) in
      let r : worth b me ps (reach_after b reach p) ≡ worth c me ps (reach_after c after p) =
      worth-moves ps (ledgers_after ledgers p) (reach_after b reach p) (reach_after c after p) (agree-after ledgers reach after g p ps on.0 out a (fits p (inl refl)))
      (Apart-after ledgers p ps d a) (apart-rest (channels_of p) (channels ps) d) on.1
      (out-after ledgers p out (fits p (inl refl))) (λ q i. fits q (inr i)) (λ q i. cov q (inr i)) in
      omega (arith, e, r)

pub Joins-joint : (b : Books) (me : List ℕ) (p : Part) (j : List ℕ) (js ks : List Item) → Joins b me p j js ks → has_joint j p ≡ true
unfolding has_joint
Joins-joint b me (Root n) j js ks k = absurd k
Joins-joint b me (OnLedger m n) j js ks k = absurd k
Joins-joint b me (End v) j js ks k = subst (λ (z : List ℕ). bytes_eq z j ≡ true) (sym k.0) (bytes_eq_self j)
Joins-joint b me (Middle v) j js ks k = subst (λ (z : List ℕ). bytes_eq z j ≡ true) (sym k.0) (bytes_eq_self j)

pub joint_moves : JointMovesKeepWorth
joint_moves me ps plan held counts list apart together j others p there bare covered joins =
    worth-moves held counts list apart together me j (own_channel p) others ps [] no_reach no_reach
    (record { at = λ m h ne. refl }) (λ m h. absurd (false≢true h)) plan.apart plan.on_ledgers refl
    (fits mine) (λ q i h. subst (λ (z : Part). (l : List ℕ) → is_among l (ledgers_of z) ≡ true →
    (total (apart l) ≤ reaches (owing held counts list apart) no_reach ps l) ⊎ (total (apart l) ≤ reaches (owing held counts list together) no_reach ps l)) (same mine q i h) covered)
  where
    mine : has_joint j p ≡ true
    mine = Joins-joint (owing held counts list apart) me p j (apart j) (together j) joins

    same : has_joint j p ≡ true → (q : Part) → In q ps → has_joint j q ≡ true → p ≡ q
    same m q i h = part-once ps plan.apart p q there i j (has_joint-has j p m) (has_joint-has j q h)

    fits : has_joint j p ≡ true → (q : Part) → In q ps → Fits (owing held counts list apart) me j (own_channel p) (apart j) (together j) q
    fits m q i = record {
      off = λ h. by_test h (is_among j (channels_of q)) refl;
      joins = λ h. subst (λ (z : Part). Joins (owing held counts list apart) me z j (apart j) (together j)) (same m q i h) joins;
      own = λ h. sym (ap own_channel (same m q i h));
      bare = λ n w. bare q n i w;
      apart = part-apart ps plan.apart q i;
    }
      where
        by_test : has_joint j q ≡ false → (t : Bool) → is_among j (channels_of q) ≡ t → t ≡ false
        by_test h true e =
            let is : p ≡ q = part-once ps plan.apart p q there i j (has_joint-has j p m) e in
            absurd (false≢true (sym h ∙ subst (λ (z : Part). has_joint j z ≡ true) is m))
        by_test h false e = refl
