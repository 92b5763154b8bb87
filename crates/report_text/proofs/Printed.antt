-- The printed assets are those deposited, and each printed balance comes once.
use Rattle.std.proofs.Common.{◌≡◌, ℕ, ◌<◌, List, [], ◌∷◌, ◌++◌, Bool, true, false, cond, refl, sym, ◌∙◌, ap, subst, arith, append_assoc, append-nil, fold, Ordering}
use Rattle.std.proofs.lemmas.List.{reverse-append}
use Rattle.std.proofs.lemmas.List.Sums.{sum_by-cons, sum_by-append}
use Rattle.std.specs.Prelude.{◌==◌, ◌||◌, ◌&&◌, sum_by, reverse}
use Rattle.std.specs.Cmp.{ranks}
use Rattle.std.specs.List.{list_any}
use Rattle.std.specs.Ordering.{MatchOrdering, match_ordering, nat_cmp}
use Rattle.std.specs.declared.cmp.Ordering.TheVariants.{Less, Equal, Greater}
use Rattle.std.specs.BTreeSet.{insert_key}
use Rattle.channel_values.specs.Outcomes.{AreApart, is_same}
use Rattle.channel_values.specs.declared.value.Dest.{Dest}
use Rattle.channel_values.specs.declared.value.Dest.TheVariants.{Person, Channel}
use Rattle.call_history.specs.Flows.{carries, is_outside, enters, deposited_in}
use Rattle.call_history.specs.History.{Legal, newest_first, flow_of, flows_of}
use Rattle.call_history.specs.declared.entry.Entry.{Entry}
use Rattle.call_history.specs.declared.funds.Flow.{Flow}
use Rattle.call_history.proofs.Names.{same_bytes}
use Rattle.call_history.proofs.Conservation.{flows_of-push}
use Rattle.support_rules.specs.Real.{real}
use Rattle.asset_holder.specs.Receipts.{Pair, is_pair, is_there, add_new, assets_of, receivers_of}
use Rattle.report_text.specs.Printed.{IsBelow, AreRising, is_listed, AssetsAreThoseDeposited, is_received, ReceiversComeOnce}
use Rattle.report_text.proofs.Backed.{is_carried, brought}

-- ---- assets, strictly rising

below_more : (n m : ℕ) (xs : List ℕ) → n < m → IsBelow m xs → IsBelow n xs
below_more n m [] l h = tt
below_more n m (x ∷ xs) l h = (omega (arith, l, h.0), below_more n m xs l h.1)

below_insert : (n k : ℕ) (xs : List ℕ) → n < k → IsBelow n xs → IsBelow n (insert_key nat_cmp xs k)
below_insert n k [] l h = (l, tt)
below_insert n k (x ∷ xs) l h = by (nat_cmp k x) (below_insert n k xs l h.1)
  where
    by : (r : Ordering) → IsBelow n (insert_key nat_cmp xs k) → IsBelow n (match_ordering r (k ∷ x ∷ xs) (x ∷ xs) (x ∷ insert_key nat_cmp xs k))
    by Less t = (l, h)
    by Equal t = h
    by Greater t = (h.0, t)

rising_insert : (k : ℕ) (xs : List ℕ) → AreRising xs → AreRising (insert_key nat_cmp xs k)
rising_insert k [] h = (tt, tt)
rising_insert k (x ∷ xs) h = by (nat_cmp k x) (ranks k x) (rising_insert k xs h.1)
  where
    by : (r : Ordering) → MatchOrdering r (k < x) (k ≡ x) (x < k) → AreRising (insert_key nat_cmp xs k)
        → AreRising (match_ordering r (k ∷ x ∷ xs) (x ∷ xs) (x ∷ insert_key nat_cmp xs k))
    by Less l t = ((l, below_more k x xs l h.0), h)
    by Equal l t = h
    by Greater l t = (below_insert x k xs l h.0, t)

rising_from : (seen : List ℕ) (flows : List Flow) → AreRising seen → AreRising (fold (λ (seen : List ℕ) (f : Flow). insert_key nat_cmp seen f.asset) seen flows)
rising_from seen [] h = h
rising_from seen (f ∷ flows) h = rising_from (insert_key nat_cmp seen f.asset) flows (rising_insert f.asset seen h)

-- ---- assets, those of the flows

or_swap : (a b c : Bool) → (a || (b || c)) ≡ (b || (a || c))
or_swap true true c = refl
or_swap true false c = refl
or_swap false b c = refl

or_twice : (a c : Bool) → (a || c) ≡ (a || (a || c))
or_twice true c = refl
or_twice false c = refl

listed_insert : (asset k : ℕ) (xs : List ℕ) → is_listed asset (insert_key nat_cmp xs k) ≡ ((k == asset) || is_listed asset xs)
listed_insert asset k [] = refl
listed_insert asset k (x ∷ xs) = by (nat_cmp k x) (ranks k x) (listed_insert asset k xs)
  where
    by : (r : Ordering) → MatchOrdering r (k < x) (k ≡ x) (x < k) → is_listed asset (insert_key nat_cmp xs k) ≡ ((k == asset) || is_listed asset xs)
        → is_listed asset (match_ordering r (k ∷ x ∷ xs) (x ∷ xs) (x ∷ insert_key nat_cmp xs k)) ≡ ((k == asset) || ((x == asset) || is_listed asset xs))
    by Less l t = refl
    by Equal l t = or_twice (x == asset) (is_listed asset xs) ∙ ap (λ n. (n == asset) || ((x == asset) || is_listed asset xs)) (sym l)
    by Greater l t = ap (λ b. (x == asset) || b) t ∙ or_swap (x == asset) (k == asset) (is_listed asset xs)

or_last : (a b c : Bool) → ((a || b) || c) ≡ (b || (a || c))
or_last true true c = refl
or_last true false c = refl
or_last false b c = refl

listed_from : (asset : ℕ) (seen : List ℕ) (flows : List Flow)
    → is_listed asset (fold (λ (seen : List ℕ) (f : Flow). insert_key nat_cmp seen f.asset) seen flows) ≡ (is_listed asset seen || is_carried asset flows)
listed_from asset seen [] = or_none (is_listed asset seen)
  where
    or_none : (b : Bool) → b ≡ (b || false)
    or_none true = refl
    or_none false = refl
listed_from asset seen (f ∷ flows) =
    listed_from asset (insert_key nat_cmp seen f.asset) flows
    ∙ ap (λ b. b || is_carried asset flows) (listed_insert asset f.asset seen)
    ∙ or_last (f.asset == asset) (is_listed asset seen) (is_carried asset flows)

listed_assets : (asset : ℕ) (flows : List Flow) → is_listed asset (assets_of flows) ≡ is_carried asset flows
listed_assets asset flows = listed_from asset [] flows

-- ---- assets, those deposited

-- what was deposited is carried
carried_if : (asset : ℕ) (flows : List Flow) → 0 < deposited_in flows asset → is_carried asset flows ≡ true
carried_if asset [] h = absurd (omega (arith, h))
carried_if asset (f ∷ flows) h = by (f.asset == asset) refl (is_outside f.from) refl (λ more. carried_if asset flows more)
  where
    by : (b : Bool) → (f.asset == asset) ≡ b → (o : Bool) → is_outside f.from ≡ o → (0 < deposited_in flows asset → is_carried asset flows ≡ true)
        → (b || is_carried asset flows) ≡ true
    by true e o p later = refl
    by false e true p later =
        later (omega (arith, h, sum_by-cons (enters asset) f flows, ap (λ b. cond b (carries asset f) 0) p, ap (λ b. cond b f.amount 0) e))
    by false e false p later = later (omega (arith, h, sum_by-cons (enters asset) f flows, ap (λ b. cond b (carries asset f) 0) p))

-- the order of the entries says neither
sum_turned : (f : Flow → ℕ) (h : List Entry) → sum_by f (flows_of (reverse h)) ≡ sum_by f (flows_of h)
sum_turned f [] = refl
sum_turned f (e ∷ later) =
    omega (
      arith,
      sum_turned f later,
      ap (λ es. sum_by f (flows_of es)) (reverse-append (e ∷ []) later),
      ap (sum_by f) (flows_of-push (reverse later) e),
      sum_by-append f (flows_of (reverse later)) (flow_of e.op e.reply),
      sum_by-append f (flow_of e.op e.reply) (flows_of later),
    )

any-append : {A : Type 0} (test : A → Bool) (xs ys : List A) → list_any test (xs ++ ys) ≡ (list_any test xs || list_any test ys)
any-append test [] ys = refl
any-append test (x ∷ xs) ys = ap (λ b. test x || b) (any-append test xs ys) ∙ or_assoc (test x) (list_any test xs) (list_any test ys)
  where
    or_assoc : (a b c : Bool) → (a || (b || c)) ≡ ((a || b) || c)
    or_assoc true b c = refl
    or_assoc false b c = refl

or_turned : (a b : Bool) → (a || b) ≡ (b || a)
or_turned true true = refl
or_turned true false = refl
or_turned false true = refl
or_turned false false = refl

carried_turned : (asset : ℕ) (h : List Entry) → is_carried asset (flows_of (reverse h)) ≡ is_carried asset (flows_of h)
carried_turned asset [] = refl
carried_turned asset (e ∷ later) =
    ap (λ es. is_carried asset (flows_of es)) (reverse-append (e ∷ []) later)
    ∙ ap (is_carried asset) (flows_of-push (reverse later) e)
    ∙ any-append (λ (f : Flow). f.asset == asset) (flows_of (reverse later)) (flow_of e.op e.reply)
    ∙ ap (λ b. b || is_carried asset (flow_of e.op e.reply)) (carried_turned asset later)
    ∙ or_turned (is_carried asset (flows_of later)) (is_carried asset (flow_of e.op e.reply))
    ∙ sym (any-append (λ (f : Flow). f.asset == asset) (flow_of e.op e.reply) (flows_of later))

pub assets_told : (h : List Entry) → Legal real (newest_first h) → AssetsAreThoseDeposited h
assets_told h legal = record {
  rising = rising_from [] (flows_of h) tt;
  listed = λ asset. (
    (λ t. subst (λ n. 0 < n) (sum_turned (enters asset) h)
        (brought real (newest_first h) legal asset (carried_turned asset h ∙ sym (listed_assets asset (flows_of h)) ∙ t))),
    (λ d. listed_assets asset (flows_of h) ∙ carried_if asset (flows_of h) d),
  );
}

-- ---- balances

there_push : (pair p : Pair) (pairs : List Pair) → is_there pair (pairs ++ p ∷ []) ≡ (is_there pair pairs || is_pair p pair)
there_push pair p [] = or_turned (is_pair p pair) false
there_push pair p (q ∷ pairs) = ap (λ b. is_pair q pair || b) (there_push pair p pairs) ∙ or_assoc (is_pair q pair) (is_there pair pairs) (is_pair p pair)
  where
    or_assoc : (a b c : Bool) → (a || (b || c)) ≡ ((a || b) || c)
    or_assoc true b c = refl
    or_assoc false b c = refl

or_false : (a b : Bool) → (a || b) ≡ false → (a ≡ false) × (b ≡ false)
or_false true b e = absurd (cc)
or_false false b e = (refl, e)

apart_push : (p : Pair) (pairs : List Pair) → AreApart is_pair pairs → is_there p pairs ≡ false → AreApart is_pair (pairs ++ p ∷ [])
apart_push p [] h new = (refl, tt)
apart_push p (q ∷ pairs) h new =
    let both = or_false (is_pair q p) (is_there p pairs) new in (
      any-append (is_pair q) pairs (p ∷ []) ∙ ap (λ b. b || (is_pair q p || false)) h.0 ∙ ap (λ b. b || false) both.0,
      apart_push p pairs h.1 both.1,
    )

apart_new : (p : Pair) (pairs : List Pair) → AreApart is_pair pairs → AreApart is_pair (add_new pairs p)
apart_new p pairs h = by (is_there p pairs) refl
  where
    by : (b : Bool) → is_there p pairs ≡ b → AreApart is_pair (cond b pairs (pairs ++ p ∷ []))
    by true e = h
    by false e = apart_push p pairs h e

abbrev receivers_from : List Pair → List Flow → List Pair
receivers_from seen flows = fold (λ (seen : List Pair) (f : Flow). add_new seen (f.to, f.asset)) seen flows

apart_from : (seen : List Pair) (flows : List Flow) → AreApart is_pair seen → AreApart is_pair (receivers_from seen flows)
apart_from seen [] h = h
apart_from seen (f ∷ flows) h = apart_from (add_new seen (f.to, f.asset)) flows (apart_new (f.to, f.asset) seen h)

-- after those seen
grows_new : (p : Pair) (pairs : List Pair) → (rest : List Pair) × (add_new pairs p ≡ pairs ++ rest)
grows_new p pairs = by (is_there p pairs)
  where
    by : (b : Bool) → (rest : List Pair) × (cond b pairs (pairs ++ p ∷ []) ≡ pairs ++ rest)
    by true = ([], sym (append-nil pairs))
    by false = (p ∷ [], refl)

grows_from : (seen : List Pair) (flows : List Flow) → (rest : List Pair) × (receivers_from seen flows ≡ seen ++ rest)
grows_from seen [] = ([], sym (append-nil seen))
grows_from seen (f ∷ flows) =
    let first = grows_new (f.to, f.asset) seen in
    let then = grows_from (add_new seen (f.to, f.asset)) flows in
    (first.0 ++ then.0, then.1 ∙ ap (λ xs. xs ++ then.0) first.1 ∙ append_assoc seen first.0 then.0)

fold-append : {A X : Type 0} (f : A → X → A) (a : A) (xs ys : List X) → fold f a (xs ++ ys) ≡ fold f (fold f a xs) ys
fold-append f a [] ys = refl
fold-append f a (x ∷ xs) ys = fold-append f (f a x) xs ys

in_order : (flows later : List Flow) → (rest : List Pair) × (receivers_of (flows ++ later) ≡ receivers_of flows ++ rest)
in_order flows later =
    let more = grows_from (receivers_of flows) later in
    (more.0, fold-append (λ (seen : List Pair) (f : Flow). add_new seen (f.to, f.asset)) [] flows later ∙ more.1)

same_dest : (a b : Dest) → is_same a b ≡ true → a ≡ b
same_dest (Person a) (Person b) e = ap Person (same_bytes a b e)
same_dest (Person a) (Channel b) e = absurd (cc)
same_dest (Channel a) (Person b) e = absurd (cc)
same_dest (Channel a) (Channel b) e = ap Channel (same_bytes a b e)

equal_nats : (a b : ℕ) → (a == b) ≡ true → a ≡ b
equal_nats a b e = grind arith

both_true : (a b : Bool) → (a && b) ≡ true → (a ≡ true) × (b ≡ true)
both_true true b e = (refl, e)
both_true false b e = absurd (cc)

same_pair : (a b : Pair) → is_pair a b ≡ true → a ≡ b
same_pair a b e =
    let parts = both_true (is_same a.0 b.0) (a.1 == b.1) e in
    λ i. (same_dest a.0 b.0 parts.0 i, equal_nats a.1 b.1 parts.1 i)

or_known : (a b : Bool) → (b ≡ true → a ≡ true) → a ≡ (a || b)
or_known true b h = refl
or_known false true h = h refl
or_known false false h = refl

there_new : (pair p : Pair) (pairs : List Pair) → is_there pair (add_new pairs p) ≡ (is_there pair pairs || is_pair p pair)
there_new pair p pairs = by (is_there p pairs) refl
  where
    by : (b : Bool) → is_there p pairs ≡ b → is_there pair (cond b pairs (pairs ++ p ∷ [])) ≡ (is_there pair pairs || is_pair p pair)
    by true e = or_known (is_there pair pairs) (is_pair p pair) (λ same. subst (λ q. is_there q pairs ≡ true) (same_pair p pair same) e)
    by false e = there_push pair p pairs

there_from : (pair : Pair) (seen : List Pair) (flows : List Flow) → is_there pair (receivers_from seen flows) ≡ (is_there pair seen || is_received pair flows)
there_from pair seen [] = or_turned false (is_there pair seen)
there_from pair seen (f ∷ flows) =
    there_from pair (add_new seen (f.to, f.asset)) flows
    ∙ ap (λ b. b || is_received pair flows) (there_new pair (f.to, f.asset) seen)
    ∙ or_assoc (is_there pair seen) (is_pair (f.to, f.asset) pair) (is_received pair flows)
  where
    or_assoc : (a b c : Bool) → ((a || b) || c) ≡ (a || (b || c))
    or_assoc true b c = refl
    or_assoc false b c = refl

pub receivers_told : (flows : List Flow) → ReceiversComeOnce flows
receivers_told flows = record {
  once = apart_from [] flows tt;
  listed = λ pair. there_from pair [] flows;
  in_order = in_order flows;
}
