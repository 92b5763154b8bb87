-- Raising every item of two people at once is raising one after the other, where each destination has one item.
use Rattle.std.proofs.Common.{◌≡◌, ◌<◌, ℕ, ◌+◌, ◌^◌, Bool, true, false, List, [], ◌∷◌, map, refl, sym, ap, ◌∙◌, subst, arith}
use Rattle.std.specs.Prelude.{◌||◌, if◌then◌else◌, filter, not}
use Rattle.std.specs.List.{AllByRecursion}
use Rattle.std.specs.Str.{bytes_eq}
use Rattle.std.proofs.lemmas.Bool.{true≢false}
use Rattle.std.proofs.Math.Nat.{min-eq_left}
use Rattle.channel_values.specs.declared.value.Dest.{Dest}
use Rattle.channel_values.specs.declared.value.Dest.TheVariants.{Person, Channel}
use Rattle.channel_values.specs.declared.value.Item.{Item}
use Rattle.channel_values.specs.Outcomes.{is_same, pays_same, AreApart}
use Rattle.channel_values.specs.Amounts.{has}
use Rattle.call_history.proofs.Payouts.{same_dest}
use Rattle.funding_plans.specs.declared.child.Child.{Child}
use Rattle.funding_plans.specs.Outcomes as outcomes
use Rattle.funding_plans.specs.Targets.{pays}
use Rattle.fairness_laws.proofs.OneByOne.{or_false, no_other}
use Rattle.share_laws.specs.Items.{raised, without, taken_back}
use Rattle.fairness_laws.specs.SetAside.{HasRoom}

unraised : (d : Dest) (k : ℕ) (xs : List Item) → has xs d ≡ false → raised d k xs ≡ xs
unraised d k [] h = refl
unraised d k (x ∷ xs) h =
    let e = or_false (is_same x.to d) (has xs d) h in
    rw e.0 (ap (λ (ys : List Item). x ∷ ys) (unraised d k xs e.1))

keeps : (b : Bool) (d e : Dest) (k : ℕ) (x : Item) (xs : List Item) → has (raised d k xs) e ≡ has xs e →
    has (if b then pays x.to (x.amount + k) ∷ xs else x ∷ raised d k xs) e ≡ (is_same x.to e || has xs e)
keeps true d e k x xs h = refl
keeps false d e k x xs h = ap (λ (t : Bool). is_same x.to e || t) h

kept : (d e : Dest) (k : ℕ) (xs : List Item) → has (raised d k xs) e ≡ has xs e
kept d e k [] = refl
kept d e k (x ∷ xs) = keeps (is_same x.to d) d e k x xs (kept d e k xs)

-- nothing comes into the list
less : (b : Bool) (d e : Dest) (x : Item) (xs : List Item) → is_same x.to e ≡ false → has xs e ≡ false → has (without d xs) e ≡ false →
    has (if b then xs else x ∷ without d xs) e ≡ false
less true d e x xs other none less_none = none
less false d e x xs other none less_none = rw other less_none

still_none : (d e : Dest) (xs : List Item) → has xs e ≡ false → has (without d xs) e ≡ false
still_none d e [] h = refl
still_none d e (x ∷ xs) h =
    let o = or_false (is_same x.to e) (has xs e) h in
    less (is_same x.to d) d e x xs o.0 o.1 (still_none d e xs o.1)

abbrev Both : Child → List Item → List Item
Both k ys = raised (Person k.first) k.a (raised (Person k.second) k.b ys)

room : (n part : ℕ) → n + part < 2 ^ 64 → outcomes.plus n part ≡ n + part
room n part h = min-eq_left (omega arith)

at : (to : Dest) (n m : ℕ) → n ≡ m → pays to n ≡ pays to m
at to n m e = ap (pays to) e

cases : (k : Child) (x : Item) (zs ys : List Item) → bytes_eq k.first k.second ≡ false → has ys x.to ≡ false → HasRoom k x → zs ≡ Both k ys →
    (f s : Bool) → is_same x.to (Person k.first) ≡ f → is_same x.to (Person k.second) ≡ s → outcomes.raised k x ∷ zs ≡ Both k (x ∷ ys)
cases k x zs ys differ alone fits same true true ef es =
    absurd (true≢false (sym (subst (λ (d : Dest). is_same d (Person k.second) ≡ true) (same_dest x.to (Person k.first) ef) es) ∙ differ))
cases k x zs ys differ alone fits same true false ef es =
    let none : has ys (Person k.first) ≡ false = subst (λ (d : Dest). has ys d ≡ false) (same_dest x.to (Person k.first) ef) alone in
    let rest : zs ≡ raised (Person k.second) k.b ys =
    same ∙ unraised (Person k.first) k.a (raised (Person k.second) k.b ys) (kept (Person k.second) (Person k.first) k.b ys ∙ none)
    in
    let sum : outcomes.plus x.amount k.a ≡ x.amount + k.a = room x.amount k.a (omega arith) in
    rw es (rw ef (ap (λ (y : Item). y ∷ zs) (at x.to (outcomes.plus x.amount k.a) (x.amount + k.a) sum) ∙ ap (λ (qs : List Item). pays x.to (x.amount + k.a) ∷ qs) rest))
cases k x zs ys differ alone fits same false true ef es =
    let none : has ys (Person k.second) ≡ false = subst (λ (d : Dest). has ys d ≡ false) (same_dest x.to (Person k.second) es) alone in
    let rest : zs ≡ raised (Person k.first) k.a ys = same ∙ ap (raised (Person k.first) k.a) (unraised (Person k.second) k.b ys none) in
    let sum : outcomes.plus x.amount k.b ≡ x.amount + k.b = room x.amount k.b (omega arith) in
    rw es (rw ef (ap (λ (y : Item). y ∷ zs) (at x.to (outcomes.plus x.amount k.b) (x.amount + k.b) sum) ∙ ap (λ (qs : List Item). pays x.to (x.amount + k.b) ∷ qs) rest))
cases k x zs ys differ alone fits same false false ef es =
    let sum : outcomes.plus x.amount 0 ≡ x.amount = room x.amount 0 (omega arith) ∙ omega arith in
    rw es (rw ef (ap (λ (y : Item). y ∷ zs) (at x.to (outcomes.plus x.amount 0) x.amount sum) ∙ ap (λ (qs : List Item). x ∷ qs) same))

all_raised : (k : Child) (xs : List Item) → AreApart pays_same xs → bytes_eq k.first k.second ≡ false → AllByRecursion (HasRoom k) xs → map (outcomes.raised k) xs ≡ Both k xs
all_raised k [] apart differ fits = refl
all_raised k (x ∷ xs) apart differ fits =
    cases k x (map (outcomes.raised k) xs) xs differ (no_other x xs apart.0) fits.0 (all_raised k xs apart.1 differ fits.1)
    (is_same x.to (Person k.first)) (is_same x.to (Person k.second)) refl refl

abbrev Others : Child → List Item → List Item
Others k xs = filter (λ (i : Item). not (outcomes.is_item_of k i)) xs

unfiltered : (k : Child) (xs : List Item) → has xs (Channel k.name) ≡ false → Others k xs ≡ xs
unfiltered k [] h = refl
unfiltered k (x ∷ xs) h =
    let e = or_false (is_same x.to (Channel k.name)) (has xs (Channel k.name)) h in
    rw e.0 (ap (λ (ys : List Item). x ∷ ys) (unfiltered k xs e.1))

split : (k : Child) (x : Item) (xs : List Item) → AreApart pays_same (x ∷ xs) → bytes_eq k.first k.second ≡ false → AllByRecursion (HasRoom k) (x ∷ xs) →
    outcomes.items_down k xs ≡ Both k (without (Channel k.name) xs) → (b : Bool) → is_same x.to (Channel k.name) ≡ b →
    outcomes.items_down k (x ∷ xs) ≡ Both k (without (Channel k.name) (x ∷ xs))
split k x xs apart differ fits down true e =
    let none : has xs (Channel k.name) ≡ false = subst (λ (d : Dest). has xs d ≡ false) (same_dest x.to (Channel k.name) e) (no_other x xs apart.0) in
    rw e (ap (map (outcomes.raised k)) (unfiltered k xs none) ∙ all_raised k xs apart.1 differ fits.1)
split k x xs apart differ fits down false e =
    rw e (cases k x (outcomes.items_down k xs) (without (Channel k.name) xs) differ (still_none (Channel k.name) x.to xs (no_other x xs apart.0)) fits.0 down
    (is_same x.to (Person k.first)) (is_same x.to (Person k.second)) refl refl)

pub down_is : (k : Child) (items : List Item) → AreApart pays_same items → bytes_eq k.first k.second ≡ false → AllByRecursion (HasRoom k) items →
    outcomes.items_down k items ≡ taken_back k.first k.second k.name k.a k.b items
down_is k [] apart differ fits = refl
down_is k (x ∷ xs) apart differ fits =
    split k x xs apart differ fits (down_is k xs apart.1 differ fits.1) (is_same x.to (Channel k.name)) refl
