-- What a ledger can end with, when it goes up or down for a part: it keeps what it backs.
use Rattle.std.proofs.Common.{◌≡◌, ℕ, ◌+◌, ◌-◌, ◌^◌, ◌≤◌, true, false, ◌⊎◌, inl, inr, List, [], ◌∷◌, sym, ◌∙◌, ap, subst}
use Rattle.std.specs.Prelude.{Some}
use Rattle.std.specs.Str.{bytes_eq}
use Rattle.channel_values.specs.Outcomes.{IsOutcome}
use Rattle.channel_values.specs.Parts.{StateParts}
use Rattle.channel_values.specs.declared.value.AssetOutcome.{AssetOutcome}
use Rattle.channel_values.specs.declared.value.Dest.TheVariants.{Person, Channel}
use Rattle.channel_safety.proofs.Tests.{clash, cond-true, cond-false}
use Rattle.channel_values.specs.Amounts.{amt, has}
use Rattle.funding_plans.specs.Shapes.{items_in}
use Rattle.funding_plans.specs.declared.plan.Part.{Part}
use Rattle.channel_safety.specs.Journals.{In}
use Rattle.funding_plans.specs.Outcomes.{names, up, down, changed}
use Rattle.funding_plans.specs.declared.child.Child.{Child}
use Rattle.share_laws.specs.Places.{outcomes_of}
use Rattle.fairness_laws.proofs.Truths.{either}
use Rattle.fairness_laws.proofs.Outcomes.{only}
use Rattle.fairness_laws.specs.LedgerKeeping.{Lends, Backs, IsPending, IsVoted, LedgerKeeps, ChildrenApart, Follows, stays, settles, proposes}
use Rattle.fairness_laws.specs.LedgerLending.{Lent}
use Rattle.fairness_laws.specs.LedgerMoving.{Afford, IsUp}
use Rattle.fairness_laws.proofs.Ledger.Moving.{up_is_up, down_is_up_before}
use Rattle.fairness_laws.proofs.Ledger.Steps.{same-lent, people-stay, channels-stay, Leaves, repeats, goes, one-of, other-gone}

-- it keeps what it backs, and no part became pending
pub record Stepped (parts : List Part) (lends : Lends) (l : List ℕ) (last state : StateParts) : Type 0 where
  pub keeps : LedgerKeeps parts lends l state
  pub before : (q : Part) (j : Lent) → In q parts → lends l q ≡ Some j → IsPending j state → IsPending j last

module _ (parts : List Part) (lends : Lends) (l : List ℕ) (last state : StateParts) (now : List AssetOutcome) (keeps : LedgerKeeps parts lends l last)
    (could : In now (outcomes_of last)) where
  pending-before : ((q : Part) (j : Lent) → In q parts → lends l q ≡ Some j → j.closing ≡ true → names j.child last.outcome ≡ false → names j.child state.outcome ≡ false)
      → (q : Part) (j : Lent) → In q parts → lends l q ≡ Some j → IsPending j state → IsPending j last
  pending-before gone q j i is (inl early) = inl early
  pending-before gone q j i is (inr late) = go (either (names j.child last.outcome))
    where
      go : (names j.child last.outcome ≡ true) ⊎ (names j.child last.outcome ≡ false) → IsPending j last
      go (inl named) = inr (late.0, named)
      go (inr none) = absurd (clash (names j.child state.outcome) late.1 (gone q j i is late.0 none))

  pub step-repeats : state.outcome ≡ now → outcomes_of state ≡ state.outcome ∷ [] → Stepped parts lends l last state
  step-repeats same alone = record {
    keeps = repeats parts lends l last state now keeps could same alone;
    before = pending-before (λ q j i is closing none. ap (names j.child) same ∙ (keeps.backs q j now i is could).gone closing none);
  }

  -- a target that is the outcome itself
  pub step-idle : (target : List AssetOutcome) → target ≡ now → Follows now target state → Stepped parts lends l last state
  step-idle target same (stays is alone) = step-repeats is alone
  step-idle target same (settles is alone) = step-repeats (is ∙ same) alone
  step-idle target same (proposes is all differ) = absurd (differ same)

  module _ (apart : ChildrenApart parts lends l) (p : Part) (k : Lent) (there : In p parts) (is : lends l p ≡ Some k)
      (alone : IsVoted k last → (q : Part) (j : Lent) → In q parts → lends l q ≡ Some j → IsVoted j last → q ≡ p) where
    old : Backs k last now
    old = keeps.backs p k now there is could

    -- of every part, by what holds of this
    gone-all : (target : List AssetOutcome) → Follows now target state → Leaves k.child.name k.child.asset now target
        → (k.closing ≡ true → names k.child last.outcome ≡ false → names k.child state.outcome ≡ false)
        → (q : Part) (j : Lent) → In q parts → lends l q ≡ Some j → j.closing ≡ true → names j.child last.outcome ≡ false → names j.child state.outcome ≡ false
    gone-all target follows leaves mine q j i isj closing none = go (either (bytes_eq j.child.name k.child.name))
      where
        go : (bytes_eq j.child.name k.child.name ≡ true) ⊎ (bytes_eq j.child.name k.child.name ≡ false) → names j.child state.outcome ≡ false
        go (inl same) =
            let one : q ≡ p = apart q p j k i there isj is same in
            let e : k ≡ j = same-lent (lends l p) k j is (subst (λ (z : Part). lends l z ≡ Some j) one isj) in
            subst (λ (z : Lent). z.closing ≡ true → names z.child last.outcome ≡ false → names z.child state.outcome ≡ false) e mine closing none
        go (inr differ) = other-gone parts lends l last state now keeps could apart target follows p k there is leaves q j i isj differ closing none

    -- ---- up

    module _ (running : k.closing ≡ false) (early : k.is_up ≡ false) (valid : IsOutcome now) (people : bytes_eq k.child.first k.child.second ≡ false)
        (sum : k.child.a + k.child.b ≤ 2 ^ 64 - 1) (follows : Follows now (up k.child now) state) where
      rises : names k.child now ≡ false → IsUp k.child now (up k.child now)
      rises none = up_is_up k.child now valid people sum none (record { one = old.one; other = old.other }) (afford (old.room running early))
        where
          afford : (names k.child now ≡ true) ⊎ ((k.child.a ≤ amt (items_in k.child.asset now) (Person k.child.first)) × (k.child.b ≤ amt (items_in k.child.asset now) (Person k.child.second)))
              → Afford k.child now
          afford (inl named) = absurd (clash (names k.child now) named none)
          afford (inr room) = record { one = room.0; other = room.1 }

      not-closing : k.closing ≡ true → ⊥
      not-closing closing = clash k.closing closing running

      backs-up : IsUp k.child now (up k.child now) → (o : List AssetOutcome) → (o ≡ now) ⊎ (o ≡ up k.child now) → Backs k state o
      backs-up up-is o (inl e) = subst (Backs k state) (sym e) (record {
        amount = old.amount;
        one = old.one;
        other = old.other;
        room = old.room;
        up = old.up;
        gone = λ closing none. absurd (not-closing closing);
      })
      backs-up up-is o (inr e) = subst (Backs k state) (sym e) (record {
        amount = λ named. up-is.one.amount;
        one = up-is.people k.child.first ∙ old.one;
        other = up-is.people k.child.second ∙ old.other;
        room = λ closing early. inl up-is.one.named;
        up = λ up falls. up-is.one.named;
        gone = λ closing none. absurd (not-closing closing);
      })

      pub step-up : Stepped parts lends l last state
      step-up = go (either (names k.child now))
        where
          target : List AssetOutcome
          target = up k.child now

          go : (names k.child now ≡ true) ⊎ (names k.child now ≡ false) → Stepped parts lends l last state
          go (inl named) = step-idle target (cond-true (names k.child now) now (changed true k.child now) named) follows
          go (inr none) =
              let up-is = rises none in
              let leaves : Leaves k.child.name k.child.asset now target =
              record { people = people-stay k.child now target up-is; channels = channels-stay k.child now target up-is } in
              let voted : IsVoted k last = inl (running, early) in
              record {
                keeps = goes parts lends l last state now keeps could apart target follows p k there is leaves
                    (record { own = λ o m. backs-up up-is o (one-of parts lends l last state now keeps could apart target follows p k there is leaves o m); votes = λ differ same. inl (running, early) })
                    (alone voted);
                before = pending-before (gone-all target follows leaves (λ closing none. absurd (not-closing closing)));
              }

    -- ---- down

    module _ (a b : ℕ) (closing : k.closing ≡ true) (falls : k.falls ≡ true) (valid : IsOutcome now) (people : bytes_eq k.child.first k.child.second ≡ false)
        (sum : a + b ≡ k.child.a + k.child.b) (follows : Follows now (down (record k.child { a = a; b = b }) now) state) where
      abbrev paid : Child
      paid = record k.child { a = a; b = b }

      came : names k.child now ≡ true → IsUp paid (down paid now) now
      came named = down_is_up_before paid now valid people named (old.amount named ∙ sym sum) (record { one = old.one; other = old.other })

      -- not up at the end
      after-down : IsUp paid (down paid now) now → names k.child now ≡ true → names k.child state.outcome ≡ false → (o : List AssetOutcome) → In o (outcomes_of state) → names k.child o ≡ false
      after-down down-is named none o m = go follows
        where
          single : outcomes_of state ≡ state.outcome ∷ [] → o ≡ state.outcome
          single alone = only state state.outcome alone o m

          go : Follows now (down paid now) state → names k.child o ≡ false
          go (stays same alone) = ap (names k.child) (single alone) ∙ none
          go (settles same alone) = ap (names k.child) (single alone) ∙ none
          go (proposes same all differ) = absurd (clash (names k.child now) named (sym (ap (names k.child) same) ∙ none))

      is-running : k.closing ≡ false → ⊥
      is-running running = clash k.closing closing running

      backs-down : IsUp paid (down paid now) now → names k.child now ≡ true → (o : List AssetOutcome) → In o (outcomes_of state) → (o ≡ now) ⊎ (o ≡ down paid now) → Backs k state o
      backs-down down-is named o m (inl e) = record {
        amount = subst (λ (o : List AssetOutcome). names k.child o ≡ true → amt (items_in k.child.asset o) (Channel k.child.name) ≡ k.child.a + k.child.b) (sym e) old.amount;
        one = subst (λ (o : List AssetOutcome). has (items_in k.child.asset o) (Person k.child.first) ≡ true) (sym e) old.one;
        other = subst (λ (o : List AssetOutcome). has (items_in k.child.asset o) (Person k.child.second) ≡ true) (sym e) old.other;
        room = λ running early. absurd (is-running running);
        up = λ up low. absurd (clash k.falls falls low);
        gone = λ closing none. after-down down-is named none o m;
      }
      backs-down down-is named o m (inr e) = record {
        amount = λ has-it. absurd (clash (names k.child o) has-it (ap (names k.child) e ∙ down-is.one.unnamed));
        one = ap (λ (o : List AssetOutcome). has (items_in k.child.asset o) (Person k.child.first)) e ∙ sym (down-is.people k.child.first) ∙ old.one;
        other = ap (λ (o : List AssetOutcome). has (items_in k.child.asset o) (Person k.child.second)) e ∙ sym (down-is.people k.child.second) ∙ old.other;
        room = λ running early. absurd (is-running running);
        up = λ up low. absurd (clash k.falls falls low);
        gone = λ closing none. ap (names k.child) e ∙ down-is.one.unnamed;
      }

      pub step-down : Stepped parts lends l last state
      step-down = go (either (names k.child now))
        where
          target : List AssetOutcome
          target = down paid now

          go : (names k.child now ≡ true) ⊎ (names k.child now ≡ false) → Stepped parts lends l last state
          go (inr none) = step-idle target (cond-false (names k.child now) (changed false paid now) now none) follows
          go (inl named) =
              let down-is = came named in
              let leaves : Leaves k.child.name k.child.asset now target = record {
                people = λ asset x. sym (people-stay paid target now down-is asset x);
                channels = λ asset x other. let c = channels-stay paid target now down-is asset x other in (sym c.0, sym c.1);
              } in
              let voted : IsVoted k last = inr (closing, falls, still (either (names k.child last.outcome)) named) in
              record {
                keeps = goes parts lends l last state now keeps could apart target follows p k there is leaves
                    (record {
                      own = λ o m. backs-down down-is named o m (one-of parts lends l last state now keeps could apart target follows p k there is leaves o m);
                      votes = λ differ same. inr (closing, falls, ap (names k.child) same ∙ named);
                    })
                    (alone voted);
                before = pending-before (gone-all target follows leaves (λ c none. absurd (clash (names k.child now) named (old.gone c none))));
              }
            where
              still : (names k.child last.outcome ≡ true) ⊎ (names k.child last.outcome ≡ false) → names k.child now ≡ true → names k.child last.outcome ≡ true
              still (inl yes-named) named = yes-named
              still (inr none) named = absurd (clash (names k.child now) named (old.gone closing none))
