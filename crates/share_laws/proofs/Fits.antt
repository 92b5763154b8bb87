-- The items that people vote for are what the laws on moves ask for.
use Rattle.std.proofs.Common.{◌≡◌, ℕ, ◌+◌, ◌-◌, ◌≤◌, Bool, true, false, ◌||◌, List, [], ◌∷◌, ◌++◌, refl, sym, ◌∙◌, ap, subst, arith, cond}
use Rattle.std.specs.List.{list_any}
use Rattle.std.proofs.lemmas.Bool.{false≢true}
use Rattle.std.specs.Str.{bytes_eq}
use Rattle.channel_values.specs.Outcomes.{AreApart, is_same, pays_same, total}
use Rattle.channel_values.specs.declared.value.Dest.{Dest}
use Rattle.channel_values.specs.declared.value.Dest.TheVariants.{Person, Channel}
use Rattle.channel_values.specs.declared.value.Item.{Item}
use Rattle.channel_values.specs.Amounts.{amt, has}
use Rattle.share_laws.specs.Worth.{second_amt}
use Rattle.share_laws.specs.Items.{pays, lowered, raised, without, set_aside, taken_back, apart, together}
use Rattle.share_laws.specs.Targets.{SetAsideFits, TakenBackFits, ApartFits, TogetherFits, JointFits}
use Rattle.call_history.proofs.Names.{same_bytes, bytes_eq_self}
use Rattle.share_laws.proofs.Choices.{differ-flip}
use Rattle.share_laws.proofs.Amounts.{total-cons}

is_same-true : (d e : Dest) → is_same d e ≡ true → d ≡ e
is_same-true (Person a) (Person b) h = ap (λ (z : List ℕ). Person z) (same_bytes a b h)
is_same-true (Person a) (Channel b) h = absurd (false≢true h)
is_same-true (Channel a) (Person b) h = absurd (false≢true h)
is_same-true (Channel a) (Channel b) h = ap (λ (z : List ℕ). Channel z) (same_bytes a b h)

-- an item of another destination
apart-test : (d e : Dest) → is_same d e ≡ false → (t : Dest) → is_same t d ≡ true → is_same t e ≡ false
apart-test d e ne t h = subst (λ (z : Dest). is_same z e ≡ false) (sym (is_same-true t d h)) ne

has-lowered : (d : Dest) (k : ℕ) (xs : List Item) (e : Dest) → has (lowered d k xs) e ≡ has xs e
has-lowered d k [] e = refl
has-lowered d k (x ∷ xs) e = by_test (is_same x.to d) (has-lowered d k xs e)
  where
    by_test : (t : Bool) → has (lowered d k xs) e ≡ has xs e →
        has (cond t (pays x.to (x.amount - k) ∷ xs) (x ∷ lowered d k xs)) e ≡ (is_same x.to e || has xs e)
    by_test true h = refl
    by_test false h = ap (λ (t : Bool). is_same x.to e || t) h

has-raised : (d : Dest) (k : ℕ) (xs : List Item) (e : Dest) → has (raised d k xs) e ≡ has xs e
has-raised d k [] e = refl
has-raised d k (x ∷ xs) e = by_test (is_same x.to d) (has-raised d k xs e)
  where
    by_test : (t : Bool) → has (raised d k xs) e ≡ has xs e →
        has (cond t (pays x.to (x.amount + k) ∷ xs) (x ∷ raised d k xs)) e ≡ (is_same x.to e || has xs e)
    by_test true h = refl
    by_test false h = ap (λ (t : Bool). is_same x.to e || t) h

amt-lowered : (d : Dest) (k : ℕ) (xs : List Item) → amt (lowered d k xs) d ≡ amt xs d - k
amt-lowered d k [] = omega arith
amt-lowered d k (x ∷ xs) = by_test (is_same x.to d) refl (amt-lowered d k xs)
  where
    by_test : (t : Bool) → is_same x.to d ≡ t → amt (lowered d k xs) d ≡ amt xs d - k →
        amt (cond t (pays x.to (x.amount - k) ∷ xs) (x ∷ lowered d k xs)) d ≡ cond t x.amount (amt xs d) - k
    by_test true e h = ap (λ (t : Bool). cond t (x.amount - k) (amt xs d)) e
    by_test false e h = ap (λ (t : Bool). cond t x.amount (amt (lowered d k xs) d)) e ∙ h

amt-lowered-other : (d : Dest) (k : ℕ) (xs : List Item) (e : Dest) → is_same d e ≡ false → amt (lowered d k xs) e ≡ amt xs e
amt-lowered-other d k [] e ne = refl
amt-lowered-other d k (x ∷ xs) e ne = by_test (is_same x.to d) refl (amt-lowered-other d k xs e ne)
  where
    by_test : (t : Bool) → is_same x.to d ≡ t → amt (lowered d k xs) e ≡ amt xs e →
        amt (cond t (pays x.to (x.amount - k) ∷ xs) (x ∷ lowered d k xs)) e ≡ cond (is_same x.to e) x.amount (amt xs e)
    by_test true i h =
        ap (λ (t : Bool). cond t (x.amount - k) (amt xs e)) (apart-test d e ne x.to i)
        ∙ ap (λ (t : Bool). cond t x.amount (amt xs e)) (sym (apart-test d e ne x.to i))
    by_test false i h = ap (λ (z : ℕ). cond (is_same x.to e) x.amount z) h

amt-raised : (d : Dest) (k : ℕ) (xs : List Item) → has xs d ≡ true → amt (raised d k xs) d ≡ amt xs d + k
amt-raised d k [] there = absurd (false≢true there)
amt-raised d k (x ∷ xs) there = by_test (is_same x.to d) refl there (amt-raised d k xs)
  where
    by_test : (t : Bool) → is_same x.to d ≡ t → (t || has xs d) ≡ true → (has xs d ≡ true → amt (raised d k xs) d ≡ amt xs d + k) →
        amt (cond t (pays x.to (x.amount + k) ∷ xs) (x ∷ raised d k xs)) d ≡ cond t x.amount (amt xs d) + k
    by_test true e there h = ap (λ (t : Bool). cond t (x.amount + k) (amt xs d)) e
    by_test false e there h = ap (λ (t : Bool). cond t x.amount (amt (raised d k xs) d)) e ∙ h there

amt-raised-other : (d : Dest) (k : ℕ) (xs : List Item) (e : Dest) → is_same d e ≡ false → amt (raised d k xs) e ≡ amt xs e
amt-raised-other d k [] e ne = refl
amt-raised-other d k (x ∷ xs) e ne = by_test (is_same x.to d) refl (amt-raised-other d k xs e ne)
  where
    by_test : (t : Bool) → is_same x.to d ≡ t → amt (raised d k xs) e ≡ amt xs e →
        amt (cond t (pays x.to (x.amount + k) ∷ xs) (x ∷ raised d k xs)) e ≡ cond (is_same x.to e) x.amount (amt xs e)
    by_test true i h =
        ap (λ (t : Bool). cond t (x.amount + k) (amt xs e)) (apart-test d e ne x.to i)
        ∙ ap (λ (t : Bool). cond t x.amount (amt xs e)) (sym (apart-test d e ne x.to i))
    by_test false i h = ap (λ (z : ℕ). cond (is_same x.to e) x.amount z) h

total-lowered : (d : Dest) (k : ℕ) (xs : List Item) → k ≤ amt xs d → total (lowered d k xs) + k ≡ total xs
total-lowered d k [] le = let e : k ≡ 0 = omega (arith, le) in ap (λ (z : ℕ). total [] + z) e ∙ omega arith
total-lowered d k (x ∷ xs) le = by_test (is_same x.to d) le (total-lowered d k xs)
  where
    by_test : (t : Bool) → k ≤ cond t x.amount (amt xs d) → (k ≤ amt xs d → total (lowered d k xs) + k ≡ total xs) →
        total (cond t (pays x.to (x.amount - k) ∷ xs) (x ∷ lowered d k xs)) + k ≡ total (x ∷ xs)
    by_test true le h =
        let e = total-cons x xs in let f : total (pays x.to (x.amount - k) ∷ xs) ≡ (x.amount - k) + total xs = total-cons (pays x.to (x.amount - k)) xs in
        omega (arith, e, f, le)
    by_test false le h =
        let e = total-cons x xs in let f = total-cons x (lowered d k xs) in let g : total (lowered d k xs) + k ≡ total xs = h le in omega (arith, e, f, g)

total-raised : (d : Dest) (k : ℕ) (xs : List Item) → has xs d ≡ true → total (raised d k xs) ≡ total xs + k
total-raised d k [] there = absurd (false≢true there)
total-raised d k (x ∷ xs) there = by_test (is_same x.to d) there (total-raised d k xs)
  where
    by_test : (t : Bool) → (t || has xs d) ≡ true → (has xs d ≡ true → total (raised d k xs) ≡ total xs + k) →
        total (cond t (pays x.to (x.amount + k) ∷ xs) (x ∷ raised d k xs)) ≡ total (x ∷ xs) + k
    by_test true there h =
        let e = total-cons x xs in let f : total (pays x.to (x.amount + k) ∷ xs) ≡ (x.amount + k) + total xs = total-cons (pays x.to (x.amount + k)) xs in
        omega (arith, e, f)
    by_test false there h =
        let e = total-cons x xs in let f = total-cons x (raised d k xs) in let g : total (raised d k xs) ≡ total xs + k = h there in omega (arith, e, f, g)

-- ---- an item at the end, and an item taken out

has-append : (xs : List Item) (y : Item) (e : Dest) → has (xs ++ y ∷ []) e ≡ (has xs e || is_same y.to e)
has-append [] y e = by_test (is_same y.to e)
  where
    by_test : (t : Bool) → (t || false) ≡ t
    by_test true = refl
    by_test false = refl
has-append (x ∷ xs) y e = by_test (is_same x.to e) (has-append xs y e)
  where
    by_test : (t : Bool) → has (xs ++ y ∷ []) e ≡ (has xs e || is_same y.to e) → (t || has (xs ++ y ∷ []) e) ≡ ((t || has xs e) || is_same y.to e)
    by_test true h = refl
    by_test false h = h

amt-append : (xs : List Item) (y : Item) (e : Dest) → has xs e ≡ false → amt (xs ++ y ∷ []) e ≡ cond (is_same y.to e) y.amount 0
amt-append [] y e none = refl
amt-append (x ∷ xs) y e none = by_test (is_same x.to e) none (amt-append xs y e)
  where
    by_test : (t : Bool) → (t || has xs e) ≡ false → (has xs e ≡ false → amt (xs ++ y ∷ []) e ≡ cond (is_same y.to e) y.amount 0) →
        cond t x.amount (amt (xs ++ y ∷ []) e) ≡ cond (is_same y.to e) y.amount 0
    by_test true none h = absurd (false≢true (sym none))
    by_test false none h = h none

amt-append-other : (xs : List Item) (y : Item) (e : Dest) → is_same y.to e ≡ false → amt (xs ++ y ∷ []) e ≡ amt xs e
amt-append-other [] y e ne = ap (λ (t : Bool). cond t y.amount 0) ne
amt-append-other (x ∷ xs) y e ne = ap (λ (z : ℕ). cond (is_same x.to e) x.amount z) (amt-append-other xs y e ne)

total-append : (xs : List Item) (y : Item) → total (xs ++ y ∷ []) ≡ total xs + y.amount
total-append [] y = let e = total-cons y [] in omega (arith, e)
total-append (x ∷ xs) y = let e = total-cons x xs in let f = total-cons x (xs ++ y ∷ []) in let g = total-append xs y in omega (arith, e, f, g)

-- where no item is d's but the first
none-after : (x : Item) (d : Dest) → is_same x.to d ≡ true → (xs : List Item) → list_any (pays_same x) xs ≡ false → has xs d ≡ false
none-after x d i [] h = refl
none-after x d i (y ∷ ys) h = by_test (is_same y.to d) refl h (none-after x d i ys)
  where
    by_test : (t : Bool) → is_same y.to d ≡ t → (is_same x.to y.to || list_any (pays_same x) ys) ≡ false →
        (list_any (pays_same x) ys ≡ false → has ys d ≡ false) → (t || has ys d) ≡ false
    by_test true e h rest =
        let same : is_same x.to y.to ≡ true = subst (λ (z : Dest). is_same x.to z ≡ true) (sym (is_same-true y.to d e)) i in
        absurd (false≢true (sym h ∙ ap (λ (t : Bool). t || list_any (pays_same x) ys) same))
    by_test false e h rest = rest (right (is_same x.to y.to) h)
      where
        right : (s : Bool) → (s || list_any (pays_same x) ys) ≡ false → list_any (pays_same x) ys ≡ false
        right true h = absurd (false≢true (sym h))
        right false h = h

has-without : (d : Dest) (xs : List Item) → AreApart pays_same xs → has (without d xs) d ≡ false
has-without d [] a = refl
has-without d (x ∷ xs) a = by_test (is_same x.to d) refl (has-without d xs a.1)
  where
    by_test : (t : Bool) → is_same x.to d ≡ t → has (without d xs) d ≡ false → has (cond t xs (x ∷ without d xs)) d ≡ false
    by_test true e h = none-after x d e xs a.0
    by_test false e h = ap (λ (t : Bool). t || has (without d xs) d) e ∙ h

has-without-other : (d : Dest) (xs : List Item) (e : Dest) → is_same d e ≡ false → has (without d xs) e ≡ has xs e
has-without-other d [] e ne = refl
has-without-other d (x ∷ xs) e ne = by_test (is_same x.to d) refl (has-without-other d xs e ne)
  where
    by_test : (t : Bool) → is_same x.to d ≡ t → has (without d xs) e ≡ has xs e → has (cond t xs (x ∷ without d xs)) e ≡ (is_same x.to e || has xs e)
    by_test true i h = ap (λ (t : Bool). t || has xs e) (sym (apart-test d e ne x.to i))
    by_test false i h = ap (λ (t : Bool). is_same x.to e || t) h

amt-without-other : (d : Dest) (xs : List Item) (e : Dest) → is_same d e ≡ false → amt (without d xs) e ≡ amt xs e
amt-without-other d [] e ne = refl
amt-without-other d (x ∷ xs) e ne = by_test (is_same x.to d) refl (amt-without-other d xs e ne)
  where
    by_test : (t : Bool) → is_same x.to d ≡ t → amt (without d xs) e ≡ amt xs e → amt (cond t xs (x ∷ without d xs)) e ≡ cond (is_same x.to e) x.amount (amt xs e)
    by_test true i h = ap (λ (t : Bool). cond t x.amount (amt xs e)) (sym (apart-test d e ne x.to i))
    by_test false i h = ap (λ (z : ℕ). cond (is_same x.to e) x.amount z) h

total-without : (d : Dest) (xs : List Item) → total (without d xs) + amt xs d ≡ total xs
total-without d [] = omega arith
total-without d (x ∷ xs) = by_test (is_same x.to d) (total-without d xs)
  where
    by_test : (t : Bool) → total (without d xs) + amt xs d ≡ total xs → total (cond t xs (x ∷ without d xs)) + cond t x.amount (amt xs d) ≡ total (x ∷ xs)
    by_test true h = let e = total-cons x xs in omega (arith, e)
    by_test false h = let e = total-cons x xs in let f = total-cons x (without d xs) in omega (arith, e, f, h)

-- ---- what the laws ask for

pub set_aside_fits : SetAsideFits
set_aside_fits first second x a c items ne unnamed la lc = (
  record {
    unnamed = unnamed;
    named = named;
    amount = amount;
    own = (let e = amt-first in omega (arith, e, la));
    others = others;
    whole = whole;
  },
  record {
    unnamed = unnamed;
    named = named;
    amount = amount;
    own = (let e = amt-second in omega (arith, e, lc));
    others = others;
    whole = whole;
  },
)
  where
    unnamed-inner : has (lowered (Person first) a (lowered (Person second) c items)) (Channel x) ≡ false
    unnamed-inner = has-lowered (Person first) a (lowered (Person second) c items) (Channel x) ∙ has-lowered (Person second) c items (Channel x) ∙ unnamed

    named : has (set_aside first second x a c items) (Channel x) ≡ true
    named =
        has-append (lowered (Person first) a (lowered (Person second) c items)) (pays (Channel x) (a + c)) (Channel x)
        ∙ ap (λ (t : Bool). t || bytes_eq x x) unnamed-inner ∙ bytes_eq_self x

    amount : amt (set_aside first second x a c items) (Channel x) ≡ a + c
    amount =
        amt-append (lowered (Person first) a (lowered (Person second) c items)) (pays (Channel x) (a + c)) (Channel x) unnamed-inner
        ∙ ap (λ (t : Bool). cond t (a + c) 0) (bytes_eq_self x)

    amt-first : amt (set_aside first second x a c items) (Person first) ≡ amt items (Person first) - a
    amt-first =
        amt-append-other (lowered (Person first) a (lowered (Person second) c items)) (pays (Channel x) (a + c)) (Person first) refl
        ∙ amt-lowered (Person first) a (lowered (Person second) c items)
        ∙ ap (λ (z : ℕ). z - a) (amt-lowered-other (Person second) c items (Person first) (differ-flip first second ne))

    amt-second : amt (set_aside first second x a c items) (Person second) ≡ amt items (Person second) - c
    amt-second =
        amt-append-other (lowered (Person first) a (lowered (Person second) c items)) (pays (Channel x) (a + c)) (Person second) refl
        ∙ amt-lowered-other (Person first) a (lowered (Person second) c items) (Person second) ne
        ∙ amt-lowered (Person second) c items

    others : (y : List ℕ) → bytes_eq y x ≡ false →
        (has (set_aside first second x a c items) (Channel y) ≡ has items (Channel y)) × (amt (set_aside first second x a c items) (Channel y) ≡ amt items (Channel y))
    others y other = (
      has-append (lowered (Person first) a (lowered (Person second) c items)) (pays (Channel x) (a + c)) (Channel y)
          ∙ ap (λ (t : Bool). has (lowered (Person first) a (lowered (Person second) c items)) (Channel y) || t) (differ-flip y x other)
          ∙ no-more _
          ∙ has-lowered (Person first) a (lowered (Person second) c items) (Channel y) ∙ has-lowered (Person second) c items (Channel y),
      amt-append-other (lowered (Person first) a (lowered (Person second) c items)) (pays (Channel x) (a + c)) (Channel y) (differ-flip y x other)
          ∙ amt-lowered-other (Person first) a (lowered (Person second) c items) (Channel y) refl ∙ amt-lowered-other (Person second) c items (Channel y) refl,
    )
      where
        no-more : (t : Bool) → (t || false) ≡ t
        no-more true = refl
        no-more false = refl

    whole : total (set_aside first second x a c items) ≡ total items
    whole =
        let e = total-append (lowered (Person first) a (lowered (Person second) c items)) (pays (Channel x) (a + c)) in
        let i : amt (lowered (Person second) c items) (Person first) ≡ amt items (Person first) = amt-lowered-other (Person second) c items (Person first) (differ-flip first second ne) in
        let f : total (lowered (Person first) a (lowered (Person second) c items)) + a ≡ total (lowered (Person second) c items) =
        total-lowered (Person first) a (lowered (Person second) c items) (omega (arith, i, la)) in
        let g : total (lowered (Person second) c items) + c ≡ total items = total-lowered (Person second) c items lc in
        omega (arith, e, f, g)

pub taken_back_fits : TakenBackFits
taken_back_fits first second x a c items ne once named amount at-first at-second = (
  record {
    unnamed = unnamed;
    named = named;
    amount = amount;
    own = amt-first;
    others = others;
    whole = whole;
  },
  record {
    unnamed = unnamed;
    named = named;
    amount = amount;
    own = amt-second;
    others = others;
    whole = whole;
  },
)
  where
    unnamed : has (taken_back first second x a c items) (Channel x) ≡ false
    unnamed =
        has-raised (Person first) a (raised (Person second) c (without (Channel x) items)) (Channel x)
        ∙ has-raised (Person second) c (without (Channel x) items) (Channel x) ∙ has-without (Channel x) items once

    first-there : has (raised (Person second) c (without (Channel x) items)) (Person first) ≡ true
    first-there =
        has-raised (Person second) c (without (Channel x) items) (Person first) ∙ has-without-other (Channel x) items (Person first) refl ∙ at-first

    second-there : has (without (Channel x) items) (Person second) ≡ true
    second-there = has-without-other (Channel x) items (Person second) refl ∙ at-second

    amt-first : amt (taken_back first second x a c items) (Person first) ≡ amt items (Person first) + a
    amt-first =
        amt-raised (Person first) a (raised (Person second) c (without (Channel x) items)) first-there
        ∙ ap (λ (z : ℕ). z + a) (amt-raised-other (Person second) c (without (Channel x) items) (Person first) (differ-flip first second ne)
        ∙ amt-without-other (Channel x) items (Person first) refl)

    amt-second : amt (taken_back first second x a c items) (Person second) ≡ amt items (Person second) + c
    amt-second =
        amt-raised-other (Person first) a (raised (Person second) c (without (Channel x) items)) (Person second) ne
        ∙ amt-raised (Person second) c (without (Channel x) items) second-there
        ∙ ap (λ (z : ℕ). z + c) (amt-without-other (Channel x) items (Person second) refl)

    others : (y : List ℕ) → bytes_eq y x ≡ false →
        (has items (Channel y) ≡ has (taken_back first second x a c items) (Channel y)) × (amt items (Channel y) ≡ amt (taken_back first second x a c items) (Channel y))
    others y other = (
      sym (has-raised (Person first) a (raised (Person second) c (without (Channel x) items)) (Channel y)
          ∙ has-raised (Person second) c (without (Channel x) items) (Channel y) ∙ has-without-other (Channel x) items (Channel y) (differ-flip y x other)),
      sym (amt-raised-other (Person first) a (raised (Person second) c (without (Channel x) items)) (Channel y) refl
          ∙ amt-raised-other (Person second) c (without (Channel x) items) (Channel y) refl ∙ amt-without-other (Channel x) items (Channel y) (differ-flip y x other)),
    )

    whole : total items ≡ total (taken_back first second x a c items)
    whole =
        let e : total (taken_back first second x a c items) ≡ total (raised (Person second) c (without (Channel x) items)) + a =
        total-raised (Person first) a (raised (Person second) c (without (Channel x) items)) first-there in
        let f : total (raised (Person second) c (without (Channel x) items)) ≡ total (without (Channel x) items) + c =
        total-raised (Person second) c (without (Channel x) items) second-there in
        let g : total (without (Channel x) items) + amt items (Channel x) ≡ total items = total-without (Channel x) items in
        omega (arith, e, f, g, amount)

pub apart_fits : ApartFits
apart_fits first second middle x a c ne = (
  record {
    unnamed = refl;
    own = ap (λ (t : Bool). cond t a (amt (pays (Person second) c ∷ pays (Person middle) (a + c) ∷ []) (Person first))) (bytes_eq_self first);
  },
  record {
    unnamed = refl;
    own = ap (λ (t : Bool). cond t a (amt (pays (Person second) c ∷ pays (Person middle) (a + c) ∷ []) (Person second))) ne
        ∙ ap (λ (t : Bool). cond t c (amt (pays (Person middle) (a + c) ∷ []) (Person second))) (bytes_eq_self second);
  },
)

pub together_fits : TogetherFits
together_fits me middle x all ne = record {
  named = ap (λ (t : Bool). t || false) (bytes_eq_self x);
  amount = ap (λ (t : Bool). cond t all 0) (bytes_eq_self x);
  own = ap (λ (t : Bool). cond t all 0) ne;
}

pub joint_fits : JointFits
joint_fits b first second middle a c v whole ne nf ns list-a list-b = (
  record {
    channel = refl;
    first = ap (λ (ds : List Dest). second_amt (apart first second middle a c) ds) list-a ∙ (apart_fits first second middle v.channel a c ne).0.own;
    second = ap (λ (ds : List Dest). second_amt (apart first second middle a c) ds) list-b ∙ (apart_fits first second middle v.channel a c ne).1.own;
    own = ap (λ (t : Bool). cond t a (amt (pays (Person second) c ∷ pays (Person middle) (a + c) ∷ []) (Person middle))) nf
        ∙ ap (λ (t : Bool). cond t c (amt (pays (Person middle) (a + c) ∷ []) (Person middle))) ns
        ∙ ap (λ (t : Bool). cond t (a + c) 0) (bytes_eq_self middle) ∙ sym whole;
    whole = sym whole;
  },
  record {
    channel = ap (λ (t : Bool). cond t (a + c) 0) (bytes_eq_self v.channel) ∙ sym whole;
    first = ap (λ (ds : List Dest). second_amt (together middle v.channel (a + c)) ds) list-a ∙ ap (λ (t : Bool). cond t (a + c) 0) (differ-flip first middle nf);
    second = ap (λ (ds : List Dest). second_amt (together middle v.channel (a + c)) ds) list-b ∙ ap (λ (t : Bool). cond t (a + c) 0) (differ-flip second middle ns);
    own = ap (λ (t : Bool). cond t (a + c) 0) (bytes_eq_self middle) ∙ sym whole;
  },
)
