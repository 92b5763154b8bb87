-- What a participant wants to sign keeps its share.
use Rattle.std.proofs.Common.{◌≡◌, ◌≢◌, ℕ, ◌+◌, ◌-◌, ◌≤◌, min, Bool, true, false, List, [], ◌∷◌, eqb, refl, sym, ◌∙◌, ap, subst, arith, cond, inl, inr, ◌⊎◌}
use Rattle.std.proofs.lemmas.Bool.{false≢true}
use Rattle.std.proofs.lemmas.Bool.Decides.{eqb_tells}
use Rattle.channel_values.specs.Outcomes.{is_same}
use Rattle.channel_values.specs.Parts.{FixedParts}
use Rattle.channel_values.specs.declared.value.AssetOutcome.{AssetOutcome}
use Rattle.channel_values.specs.declared.value.Dest.{Dest}
use Rattle.channel_values.specs.declared.value.Dest.TheVariants.{Person, Channel}
use Rattle.channel_values.specs.declared.value.Item.{Item}
use Rattle.channel_values.specs.declared.value.Shape.{Shape}
use Rattle.std.specs.Prelude.{Option}
use Rattle.channel_values.specs.Amounts.{aff}
use Rattle.channel_values.specs.Rules.{Rules}
use Rattle.call_history.specs.Flows.{is_among}
use Rattle.call_history.specs.declared.entry.Entry.{Entry}
use Rattle.channel_safety.specs.Journals.{In, Line}
use Rattle.funding_plans.specs.Shapes.{items_of, list_of, items_in, list_in}
use Rattle.share_laws.specs.Books.{outcome_in, books_under}
use Rattle.share_laws.specs.Places.{Order, plan, possible, counting, balances, share}
use Rattle.share_laws.specs.Bases.{all_bases}
use Rattle.share_laws.specs.Moves.{SetsAside, Joins, IsFair, stays, improves, sets_aside, takes_back, joins, parts}
use Rattle.share_laws.specs.Items.{pays, lowered, raised}
use Rattle.share_laws.specs.Signatures.{signing, IsFairAt}
use Rattle.share_laws.specs.Wanted.{MovesFor, up, down, together, apart, IsTarget, WantedVotesKeepShares, FirstStatesKeepShares, WantedRepeatsKeepShares, PaymentsAfford}
use Rattle.call_history.proofs.Names.{same_bytes}
use Rattle.share_laws.proofs.Alone.{has_backs, may_joins}
use Rattle.share_laws.proofs.AtPlaces.{signatures_keep, same-share, started}
use Rattle.share_laws.proofs.Voting.{votes_keep, possible-signed}

module _ (r : Rules) (me : List ℕ) (orders : ℕ → Order) (past : List Entry) (front : List Line) (f : FixedParts) (from target : List AssetOutcome) where
  -- in the asset that moves
  moved-fair : (asset : ℕ) → MovesFor r me orders past front f asset (items_in asset from) (items_in asset target) → (taken : List (List ℕ)) →
      outcome_in (counting r past front) taken (r.named f) ≡ from →
      IsFair (books_under (balances past asset) (counting r past front) asset taken) me (plan orders front) (r.named f) (items_in asset target)
  moved-fair asset m taken is = elim m [
    | up p x mine all i k s ↦ sets_aside p x mine all i (has_backs r me past front p (r.named f) x asset mine all k taken)
        (subst (λ (xs : List Item). SetsAside me x mine all xs (items_in asset target)) here s)
    | down p x mine all i k s ↦ takes_back p x mine all i (has_backs r me past front p (r.named f) x asset mine all k taken)
        (subst (λ (xs : List Item). SetsAside me x mine all (items_in asset target) xs) here s)
    | together p i bare k ↦ joins p i (bare taken)
        (subst (λ (xs : List Item). Joins (books_under (balances past asset) (counting r past front) asset taken) me p (r.named f) xs (items_in asset target)) here
        (may_joins r me past front p (r.named f) asset (items_in asset from) (items_in asset target) k taken))
    | apart p i bare k ↦ parts p i (bare taken)
        (subst (λ (xs : List Item). Joins (books_under (balances past asset) (counting r past front) asset taken) me p (r.named f) (items_in asset target) xs) here
        (may_joins r me past front p (r.named f) asset (items_in asset target) (items_in asset from) k taken))
  ]
    where
      here : items_in asset from ≡ items_in asset (outcome_in (counting r past front) taken (r.named f))
      here = ap (λ (q : List AssetOutcome). items_in asset q) (sym is)

  pub target-fair : In from (possible r past front f) → IsTarget r me orders past front f from target → (asset : ℕ) → IsFairAt r me orders past front f asset target
  target-fair could t asset = by_test (eqb asset t.asset) (eqb_tells asset t.asset)
    where
      by_test : (b : Bool) → ((b ≡ true) × (asset ≡ t.asset)) ⊎ ((b ≡ false) × (asset ≢ t.asset)) → IsFairAt r me orders past front f asset target
      by_test b (inl e) = subst (λ (a : ℕ). IsFairAt r me orders past front f a target) (sym e.1)
          (record { from = from; could = could; list = t.list; fair = λ taken is. moved-fair t.asset t.moves taken is })
      by_test b (inr e) = record {
        from = from;
        could = could;
        list = ap (λ (s : Option Shape). list_of s) (t.others asset e.1);
        fair = λ taken is. stays (ap (λ (s : Option Shape). items_of s) (t.others asset e.1) ∙ ap (λ (q : List AssetOutcome). items_in asset q) (sym is));
      }

pub wanted_votes_keep : WantedVotesKeepShares
wanted_votes_keep r me orders past front f n target s own state signature adds mine ok funded going holds valid wanted could so =
    votes_keep r me orders past front f n target s own state signature adds mine ok funded going holds valid wanted could (λ asset. by_case asset so)
  where
    by_case : (asset : ℕ) → (target ≡ s.outcome) ⊎ IsTarget r me orders past front f s.outcome target → IsFairAt r me orders past front f asset target
    by_case asset (inl e) = record {
      from = s.outcome;
      could = could;
      list = ap (λ (q : List AssetOutcome). list_in asset q) e;
      fair = λ taken is. stays (ap (λ (q : List AssetOutcome). items_in asset q) (e ∙ sym is));
    }
    by_case asset (inr t) = target-fair r me orders past front f s.outcome target could t asset

pub first_states_keep : FirstStatesKeepShares
first_states_keep r me orders past front f state signature adds mine ok new asset =
    by_list (possible r past (signing r past f state signature adds ∷ front) f) refl
  where
    by_list : (ps : List (List AssetOutcome)) → possible r past (signing r past f state signature adds ∷ front) f ≡ ps →
        share r me orders past front asset ≤ share r me orders past (signing r past f state signature adds ∷ front) asset
    by_list [] e = let same = same-share r me orders past front f state signature adds mine asset new e in omega (arith, same)
    by_list (p ∷ ps) e = started r me orders past front f state signature adds mine asset ok p ps new e

pub wanted_repeats_keep : WantedRepeatsKeepShares
wanted_repeats_keep r me orders past front f state signature adds from mine ok funded going holds alone could so =
    signatures_keep r me orders past front f state signature adds mine ok funded holds
    (λ o i. inr (λ asset. one o asset (subst (λ (os : List (List AssetOutcome)). In o os) alone (possible-signed r past front f state signature adds going o i))))
  where
    repeats : (asset : ℕ) → (state.outcome ≡ from) ⊎ ((is_among (r.named f) (all_bases (plan orders front)) ≡ false)
        × ((a n : ℕ) → aff (items_in a from) n (Person me) ≤ aff (items_in a state.outcome) n (Person me))
        × ((a : ℕ) → list_in a state.outcome ≡ list_in a from)) → IsFairAt r me orders past front f asset state.outcome
    repeats asset (inl e) = record {
      from = from;
      could = could;
      list = ap (λ (q : List AssetOutcome). list_in asset q) e;
      fair = λ taken is. stays (ap (λ (q : List AssetOutcome). items_in asset q) (e ∙ sym is));
    }
    repeats asset (inr k) = record {
      from = from;
      could = could;
      list = k.2 asset;
      fair = λ taken is. improves k.0 (λ n. subst (λ (q : List AssetOutcome). aff (items_in asset q) n (Person me) ≤ aff (items_in asset state.outcome) n (Person me)) (sym is) (k.1 asset n));
    }

    one : (o : List AssetOutcome) (asset : ℕ) → In o (state.outcome ∷ []) → IsFairAt r me orders past front f asset o
    one o asset (inl e) = subst (λ (q : List AssetOutcome). IsFairAt r me orders past front f asset q) (sym e) (repeats asset so)
    one o asset (inr i) = absurd i

-- ---- payments

-- with mine lowered by k, at a reach that is lower by k at most
aff-less : (d : Dest) (k : ℕ) (xs : List Item) (n q : ℕ) → n ≤ q + k → aff xs n d ≤ aff (lowered d k xs) q d + k
aff-less d k [] n q le = omega arith
aff-less d k (x ∷ xs) n q le = by_test (is_same x.to d) refl (aff-less d k xs (n - x.amount) (q - x.amount) (omega (arith, le)))
  where
    by_test : (t : Bool) → is_same x.to d ≡ t → aff xs (n - x.amount) d ≤ aff (lowered d k xs) (q - x.amount) d + k →
        cond t (min x.amount n) (aff xs (n - x.amount) d) ≤ aff (cond t (pays x.to (x.amount - k) ∷ xs) (x ∷ lowered d k xs)) q d + k
    by_test true e h =
        let g : aff (pays x.to (x.amount - k) ∷ xs) q d ≡ min (x.amount - k) q = ap (λ (t : Bool). cond t (min (x.amount - k) q) (aff xs (q - (x.amount - k)) d)) e in
        omega (arith, g, le)
    by_test false e h =
        let g : aff (x ∷ lowered d k xs) q d ≡ aff (lowered d k xs) (q - x.amount) d = ap (λ (t : Bool). cond t (min x.amount q) (aff (lowered d k xs) (q - x.amount) d)) e in
        omega (arith, g, h)

is_same-other : (t d e : Dest) → is_same d e ≡ false → is_same t d ≡ true → is_same t e ≡ false
is_same-other (Person t) (Person d) e ne h = subst (λ (z : List ℕ). is_same (Person z) e ≡ false) (sym (same_bytes t d h)) ne
is_same-other (Person t) (Channel d) e ne h = absurd (false≢true h)
is_same-other (Channel t) (Person d) e ne h = absurd (false≢true h)
is_same-other (Channel t) (Channel d) e ne h = subst (λ (z : List ℕ). is_same (Channel z) e ≡ false) (sym (same_bytes t d h)) ne

aff-paid : (d e : Dest) → is_same d e ≡ false → (k : ℕ) (xs : List Item) (n : ℕ) → aff xs n d ≤ aff (raised e k (lowered d k xs)) n d + k
aff-paid d e ne k [] n = omega arith
aff-paid d e ne k (x ∷ xs) n = by_mine (is_same x.to d) refl (aff-paid d e ne k xs (n - x.amount))
  where
    by_mine : (t : Bool) → is_same x.to d ≡ t → aff xs (n - x.amount) d ≤ aff (raised e k (lowered d k xs)) (n - x.amount) d + k →
        cond t (min x.amount n) (aff xs (n - x.amount) d) ≤ aff (raised e k (cond t (pays x.to (x.amount - k) ∷ xs) (x ∷ lowered d k xs))) n d + k
    by_mine true i h =
        let other : is_same x.to e ≡ false = is_same-other x.to d e ne i in
        let g : raised e k (pays x.to (x.amount - k) ∷ xs) ≡ pays x.to (x.amount - k) ∷ raised e k xs =
        ap (λ (t : Bool). cond t (pays x.to ((x.amount - k) + k) ∷ xs) (pays x.to (x.amount - k) ∷ raised e k xs)) other in
        let w : aff (raised e k (pays x.to (x.amount - k) ∷ xs)) n d ≡ min (x.amount - k) n =
        ap (λ (ys : List Item). aff ys n d) g ∙ ap (λ (t : Bool). cond t (min (x.amount - k) n) (aff (raised e k xs) (n - (x.amount - k)) d)) i in
        omega (arith, w)
    by_mine false i h = by_other (is_same x.to e)
      where
        by_other : (t : Bool) → aff xs (n - x.amount) d ≤ aff (cond t (pays x.to (x.amount + k) ∷ lowered d k xs) (x ∷ raised e k (lowered d k xs))) n d + k
        by_other true =
            let w : aff (pays x.to (x.amount + k) ∷ lowered d k xs) n d ≡ aff (lowered d k xs) (n - (x.amount + k)) d =
            ap (λ (t : Bool). cond t (min (x.amount + k) n) (aff (lowered d k xs) (n - (x.amount + k)) d)) i in
            let l : aff xs (n - x.amount) d ≤ aff (lowered d k xs) (n - (x.amount + k)) d + k = aff-less d k xs (n - x.amount) (n - (x.amount + k)) (omega arith) in
            omega (arith, w, l)
        by_other false =
            let w : aff (x ∷ raised e k (lowered d k xs)) n d ≡ aff (raised e k (lowered d k xs)) (n - x.amount) d =
            ap (λ (t : Bool). cond t (min x.amount n) (aff (raised e k (lowered d k xs)) (n - x.amount) d)) i in
            omega (arith, w, h)

pub payments_afford : PaymentsAfford
payments_afford me other k items ne n = aff-paid (Person me) (Person other) ne k items n
