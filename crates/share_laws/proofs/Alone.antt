-- A channel that can end in one way ends in it under each choice.
use Rattle.std.proofs.Common.{◌≡◌, ℕ, ◌≤◌, Bool, true, false, List, [], ◌∷◌, ◌++◌, Some, refl, sym, ◌∙◌, ap, subst, cond, inl, inr, ◌⊎◌}
use Rattle.std.specs.Str.{bytes_eq}
use Rattle.channel_values.specs.Parts.{FixedParts}
use Rattle.channel_values.specs.Outcomes.{AreApart}
use Rattle.channel_values.specs.declared.value.AssetOutcome.{AssetOutcome}
use Rattle.channel_values.specs.declared.value.Dest.{Dest}
use Rattle.channel_values.specs.declared.value.Dest.TheVariants.{Person, Channel}
use Rattle.channel_values.specs.declared.value.Item.{Item}
use Rattle.channel_values.specs.Amounts.{amt, has}
use Rattle.channel_values.specs.Rules.{Rules}
use Rattle.call_history.specs.Flows.{is_among}
use Rattle.call_history.specs.declared.entry.Entry.{Entry}
use Rattle.channel_safety.specs.Journals.{In, Line}
use Rattle.funding_plans.specs.declared.plan.Part.{Part}
use Rattle.funding_plans.specs.declared.plan.Part.TheVariants.{Root, OnLedger, End, Middle}
use Rattle.funding_plans.specs.declared.plan.Virtual.{Virtual}
use Rattle.share_laws.specs.Books.{Books, Counting, one_of, outcome_in, counts_in, books_under}
use Rattle.funding_plans.specs.Shapes.{items_in, list_in}
use Rattle.funding_plans.specs.Parts.{own_ledger, own_guarantor}
use Rattle.share_laws.specs.Worth.{second_amt}
use Rattle.share_laws.specs.Funded.{up_to}
use Rattle.share_laws.specs.Places.{channels, possible, counting_of, counting_among, counting, balances}
use Rattle.share_laws.specs.Moves.{IsApart, IsApartBetween, IsTogetherBetween, PaysApart, PaysTogether, IsInFull, Backs, Joins}
use Rattle.share_laws.specs.Settled.{EndsWith, EndsAsItCan, ChildHas, Between, Has, HasBacks, InFull, MayJoin, MayJoins}
use Rattle.call_history.proofs.Names.{bytes_eq_self}
use Rattle.share_laws.proofs.Counting.{named-in}

outcome-more : (taken : List (List ℕ)) (c n : List ℕ) → bytes_eq n c ≡ false → (os : List (List AssetOutcome)) (ks : List Counting) →
    outcome_in (counting_of n os ++ ks) taken c ≡ outcome_in ks taken c
outcome-more taken c n ne [] ks = refl
outcome-more taken c n ne (o ∷ []) ks = ap (λ (t : Bool). cond t o (outcome_in ks taken c)) ne
outcome-more taken c n ne (o ∷ p ∷ ps) ks = ap (λ (t : Bool). cond t (one_of (Some p) (is_among n taken) o) (outcome_in ks taken c)) ne

counts-more : (c n : List ℕ) → bytes_eq n c ≡ false → (os : List (List AssetOutcome)) (ks : List Counting) → counts_in (counting_of n os ++ ks) c ≡ counts_in ks c
counts-more c n ne [] ks = refl
counts-more c n ne (o ∷ []) ks = ap (λ (t : Bool). cond t true (counts_in ks c)) ne
counts-more c n ne (o ∷ p ∷ ps) ks = ap (λ (t : Bool). cond t true (counts_in ks c)) ne

among-ends : (r : Rules) (past : List Entry) (front : List Line) (f : FixedParts) (o : List AssetOutcome) → possible r past front f ≡ o ∷ [] → (taken : List (List ℕ)) →
    (fs : List FixedParts) → In f fs → AreApart (λ g h. bytes_eq (r.named g) (r.named h)) fs →
    (outcome_in (counting_among r past front fs) taken (r.named f) ≡ o) × (counts_in (counting_among r past front fs) (r.named f) ≡ true)
among-ends r past front f o alone taken [] i a = absurd i
among-ends r past front f o alone taken (g ∷ gs) (inl e) a =
    subst (λ (z : FixedParts). (outcome_in (counting_of (r.named z) (possible r past front z) ++ counting_among r past front gs) taken (r.named f) ≡ o)
    × (counts_in (counting_of (r.named z) (possible r past front z) ++ counting_among r past front gs) (r.named f) ≡ true)) e
    (subst (λ (os : List (List AssetOutcome)). (outcome_in (counting_of (r.named f) os ++ counting_among r past front gs) taken (r.named f) ≡ o)
    × (counts_in (counting_of (r.named f) os ++ counting_among r past front gs) (r.named f) ≡ true)) (sym alone) (
      ap (λ (t : Bool). cond t o (outcome_in (counting_among r past front gs) taken (r.named f))) (bytes_eq_self (r.named f)),
      ap (λ (t : Bool). cond t true (counts_in (counting_among r past front gs) (r.named f))) (bytes_eq_self (r.named f)),
    ))
among-ends r past front f o alone taken (g ∷ gs) (inr i) a =
    let ne : bytes_eq (r.named g) (r.named f) ≡ false = named-in r (r.named g) f gs a.0 i in
    let rest : (outcome_in (counting_among r past front gs) taken (r.named f) ≡ o) × (counts_in (counting_among r past front gs) (r.named f) ≡ true) =
    among-ends r past front f o alone taken gs i a.1 in (
      outcome-more taken (r.named f) (r.named g) ne (possible r past front g) (counting_among r past front gs) ∙ rest.0,
      counts-more (r.named f) (r.named g) ne (possible r past front g) (counting_among r past front gs) ∙ rest.1,
    )

pub ends_as_it_can : EndsAsItCan
ends_as_it_can r past front name o e taken =
    subst (λ (n : List ℕ). (outcome_in (counting r past front) taken n ≡ o) × (counts_in (counting r past front) n ≡ true)) e.is
    (among-ends r past front e.fixed o e.alone taken (channels front) e.own.there e.own.apart)

module _ (r : Rules) (me : List ℕ) (past : List Entry) (front : List Line) (asset : ℕ) (taken : List (List ℕ)) where
  abbrev b : Books
  b = books_under (balances past asset) (counting r past front) asset taken

  items-are : (n : List ℕ) (o : List AssetOutcome) → EndsWith r past front n o → items_in asset o ≡ b.items n
  items-are n o e = ap (λ (q : List AssetOutcome). items_in asset q) (sym (ends_as_it_can r past front n o e taken).0)

  list-is : (n : List ℕ) (o : List AssetOutcome) → EndsWith r past front n o → list_in asset o ≡ b.list n
  list-is n o e = ap (λ (q : List AssetOutcome). list_in asset q) (sym (ends_as_it_can r past front n o e taken).0)

  counts-so : (n : List ℕ) (o : List AssetOutcome) → EndsWith r past front n o → b.counts n ≡ true
  counts-so n o e = (ends_as_it_can r past front n o e taken).1

  child-own : (c : List ℕ) (mine all : ℕ) (k : ChildHas r me past front c asset mine all) → amt (b.items c) (Person me) ≡ mine
  child-own c mine all k = subst (λ (xs : List Item). amt xs (Person me) ≡ mine) (items-are c k.outcome k.ends) k.own

  child-within : (c : List ℕ) (mine all : ℕ) (k : ChildHas r me past front c asset mine all) → up_to (b.items c) (Person me) ≤ all
  child-within c mine all k = subst (λ (xs : List Item). up_to xs (Person me) ≤ all) (items-are c k.outcome k.ends) k.within

  apart-between : (v : Virtual) (k : Between r past front v) (a c : ℕ) (items : List Item) →
      PaysApart me v a c (list_in asset k.promise_a) (list_in asset k.promise_b) items → IsApartBetween b me v a c items
  apart-between v k a c items p = record {
    channel = p.channel;
    first = subst (λ (ds : List Dest). second_amt items ds ≡ a) (list-is v.guarantor_a k.promise_a k.guarantor_a) p.first;
    second = subst (λ (ds : List Dest). second_amt items ds ≡ c) (list-is v.guarantor_b k.promise_b k.guarantor_b) p.second;
    own = p.own;
    whole = p.whole;
  }

  together-between : (v : Virtual) (k : Between r past front v) (items : List Item) →
      PaysTogether me v (list_in asset k.promise_a) (list_in asset k.promise_b) items → IsTogetherBetween b me v items
  together-between v k items p = record {
    channel = p.channel;
    first = subst (λ (ds : List Dest). second_amt items ds ≡ 0) (list-is v.guarantor_a k.promise_a k.guarantor_a) p.first;
    second = subst (λ (ds : List Dest). second_amt items ds ≡ 0) (list-is v.guarantor_b k.promise_b k.guarantor_b) p.second;
    own = p.own;
  }

  in-full : (l g : List ℕ) (all : ℕ) → InFull r past front l g asset all → IsInFull b l g all
  in-full l g all k = record {
    counts = counts-so g k.promise k.guarantor;
    named = subst (λ (xs : List Item). has xs (Channel g) ≡ true) (items-are l k.outcome k.ledger) k.named;
    amount = subst (λ (xs : List Item). amt xs (Channel g) ≡ all) (items-are l k.outcome k.ledger) k.amount;
  }

  backs : (p : Part) (l x : List ℕ) (mine all : ℕ) → Has r me past front p l x asset mine all → Backs b me p l x mine all
  backs (Root n) l x mine all k = absurd k
  backs (OnLedger m c) l x mine all k = (k.0, k.1, child-own c mine all k.2, child-within c mine all k.2)
  backs (End v) l x mine all k = (
    k.0,
    k.1,
    subst (λ (n : List ℕ). b.counts n ≡ true) k.1 (counts-so (own_guarantor v) k.3.promise k.3.guarantor),
    k.2,
    subst (λ (t : ℕ). mine ≤ t) k.2 k.3.within,
    subst (λ (xs : List Item). IsApart me v.channel mine xs) (items-are v.joint k.3.outcome k.3.joint) k.3.apart,
  )
  backs (Middle v) l x mine all k = record {
    a = k.1.a;
    c = k.1.c;
    joint = subst (λ (xs : List Item). IsApartBetween b me v k.1.a k.1.c xs) (items-are v.joint k.1.outcome k.1.joint)
        (apart-between v k.1.between k.1.a k.1.c (items_in asset k.1.outcome) k.1.apart);
    counts = by_side k.1.side;
    whole = k.0;
    side = k.1.side;
  }
    where
      by_side : ((v.ledger_a ≡ l) × (v.guarantor_a ≡ x) × (mine ≡ k.1.c)) ⊎ ((v.ledger_b ≡ l) × (v.guarantor_b ≡ x) × (mine ≡ k.1.a)) → b.counts x ≡ true
      by_side (inl w) = subst (λ (n : List ℕ). b.counts n ≡ true) w.1 (counts-so v.guarantor_a k.1.between.promise_a k.1.between.guarantor_a)
      by_side (inr w) = subst (λ (n : List ℕ). b.counts n ≡ true) w.1 (counts-so v.guarantor_b k.1.between.promise_b k.1.between.guarantor_b)

  joins : (p : Part) (j : List ℕ) (js ks : List Item) → MayJoin r me past front p j asset js ks → Joins b me p j js ks
  joins (Root n) j js ks k = absurd k
  joins (OnLedger m c) j js ks k = absurd k
  joins (End v) j js ks k = (
    k.0,
    record {
      mine = k.1.mine;
      apart = k.1.apart;
      together = k.1.together;
      own = child-own v.channel k.1.mine v.total k.1.channel;
      within = child-within v.channel k.1.mine v.total k.1.channel;
      full = in-full (own_ledger v) (own_guarantor v) v.total k.1.full;
    },
  )
  joins (Middle v) j js ks k = (
    k.0,
    record {
      a = k.1.a;
      c = k.1.c;
      apart = apart-between v k.1.between k.1.a k.1.c js k.1.apart;
      together = together-between v k.1.between ks k.1.together;
      full_a = in-full v.ledger_a v.guarantor_a v.total k.1.full_a;
      full_b = in-full v.ledger_b v.guarantor_b v.total k.1.full_b;
    },
  )

pub has_backs : HasBacks
has_backs r me past front p l x asset mine all k taken = backs r me past front asset taken p l x mine all k

pub may_joins : MayJoins
may_joins r me past front p j asset js ks k taken = joins r me past front asset taken p j js ks k
