-- Lowering every item of two people at once is lowering one after the other, where each destination has one item.
use Rattle.std.proofs.Common.{◌≡◌, ◌<◌, ℕ, ◌+◌, ◌-◌, ◌^◌, Bool, true, false, List, [], ◌∷◌, ◌++◌, map, refl, sym, ap, ◌∙◌, subst, arith}
use Rattle.std.specs.Prelude.{◌||◌, if◌then◌else◌}
use Rattle.std.specs.List.{list_any}
use Rattle.std.specs.Str.{bytes_eq}
use Rattle.std.proofs.lemmas.Bool.{true≢false}
use Rattle.std.proofs.Math.Nat.{min-eq_left}
use Rattle.channel_values.specs.declared.value.Dest.{Dest}
use Rattle.channel_values.specs.declared.value.Dest.TheVariants.{Person, Channel}
use Rattle.channel_values.specs.declared.value.Item.{Item}
use Rattle.channel_values.specs.Outcomes.{is_same, pays_same, AreApart}
use Rattle.channel_values.specs.Amounts.{has}
use Rattle.call_history.proofs.Names.{bytes_eq_self}
use Rattle.call_history.proofs.Payouts.{same_dest}
use Rattle.funding_plans.specs.declared.child.Child.{Child}
use Rattle.funding_plans.specs.Outcomes as outcomes
use Rattle.funding_plans.specs.Targets.{pays}
use Rattle.share_laws.specs.Items.{lowered, set_aside}

pub or_false : (a b : Bool) → (a || b) ≡ false → (a ≡ false) × (b ≡ false)
or_false true b h = absurd (true≢false h)
or_false false b h = (refl, h)

pub is_same_self : (a : Dest) → is_same a a ≡ true
is_same_self (Person n) = bytes_eq_self n
is_same_self (Channel n) = bytes_eq_self n

turned_at : (a b : Dest) (t : Bool) → is_same b a ≡ t → is_same a b ≡ false → is_same b a ≡ false
turned_at a b true e h = absurd (true≢false (sym (subst (λ (d : Dest). is_same a d ≡ true) (sym (same_dest b a e)) (is_same_self a)) ∙ h))
turned_at a b false e h = e

turned : (a b : Dest) → is_same a b ≡ false → is_same b a ≡ false
turned a b h = turned_at a b (is_same b a) refl h

pub no_other : (x : Item) (xs : List Item) → list_any (pays_same x) xs ≡ false → has xs x.to ≡ false
no_other x [] h = refl
no_other x (y ∷ ys) h =
    let e = or_false (is_same x.to y.to) (list_any (pays_same x) ys) h in
    rw (turned x.to y.to e.0) (no_other x ys e.1)

unlowered : (d : Dest) (k : ℕ) (xs : List Item) → has xs d ≡ false → lowered d k xs ≡ xs
unlowered d k [] h = refl
unlowered d k (x ∷ xs) h =
    let e = or_false (is_same x.to d) (has xs d) h in
    rw e.0 (ap (λ (ys : List Item). x ∷ ys) (unlowered d k xs e.1))

keeps : (b : Bool) (d e : Dest) (k : ℕ) (x : Item) (xs : List Item) → has (lowered d k xs) e ≡ has xs e →
    has (if b then pays x.to (x.amount - k) ∷ xs else x ∷ lowered d k xs) e ≡ (is_same x.to e || has xs e)
keeps true d e k x xs h = refl
keeps false d e k x xs h = ap (λ (t : Bool). is_same x.to e || t) h

kept : (d e : Dest) (k : ℕ) (xs : List Item) → has (lowered d k xs) e ≡ has xs e
kept d e k [] = refl
kept d e k (x ∷ xs) = keeps (is_same x.to d) d e k x xs (kept d e k xs)

abbrev Same : Child → List Item → Type 0
Same k items = map (outcomes.lowered k) items ≡ lowered (Person k.first) k.a (lowered (Person k.second) k.b items)

cases : (k : Child) (x : Item) (xs : List Item) → bytes_eq k.first k.second ≡ false → list_any (pays_same x) xs ≡ false → Same k xs →
    (f s : Bool) → is_same x.to (Person k.first) ≡ f → is_same x.to (Person k.second) ≡ s → Same k (x ∷ xs)
cases k x xs differ alone same true true ef es =
    absurd (true≢false (sym (subst (λ (d : Dest). is_same d (Person k.second) ≡ true) (same_dest x.to (Person k.first) ef) es) ∙ differ))
cases k x xs differ alone same true false ef es =
    let none : has xs (Person k.first) ≡ false = subst (λ (d : Dest). has xs d ≡ false) (same_dest x.to (Person k.first) ef) (no_other x xs alone) in
    let rest : map (outcomes.lowered k) xs ≡ lowered (Person k.second) k.b xs =
    same ∙ unlowered (Person k.first) k.a (lowered (Person k.second) k.b xs) (kept (Person k.second) (Person k.first) k.b xs ∙ none)
    in
    rw es (rw ef (ap (λ (ys : List Item). pays x.to (x.amount - k.a) ∷ ys) rest))
cases k x xs differ alone same false true ef es =
    let none : has xs (Person k.second) ≡ false = subst (λ (d : Dest). has xs d ≡ false) (same_dest x.to (Person k.second) es) (no_other x xs alone) in
    let rest : map (outcomes.lowered k) xs ≡ lowered (Person k.first) k.a xs =
    same ∙ ap (lowered (Person k.first) k.a) (unlowered (Person k.second) k.b xs none)
    in
    rw es (rw ef (ap (λ (ys : List Item). pays x.to (x.amount - k.b) ∷ ys) rest))
cases k x xs differ alone same false false ef es =
    let none : x.amount - 0 ≡ x.amount = omega arith in
    let item : record { to = x.to; amount = x.amount - 0 } ≡ x = ap (λ (n : ℕ). record { to = x.to; amount = n }) none in
    rw es (rw ef (ap (λ (y : Item). y ∷ map (outcomes.lowered k) xs) item ∙ ap (λ (ys : List Item). x ∷ ys) same))

up_map : (k : Child) (items : List Item) → AreApart pays_same items → bytes_eq k.first k.second ≡ false → Same k items
up_map k [] apart differ = refl
up_map k (x ∷ xs) apart differ =
    cases k x xs differ apart.0 (up_map k xs apart.1 differ) (is_same x.to (Person k.first)) (is_same x.to (Person k.second)) refl refl

pub up_is : (k : Child) (items : List Item) → AreApart pays_same items → bytes_eq k.first k.second ≡ false → k.a + k.b < 2 ^ 64 →
    outcomes.items_up k items ≡ set_aside k.first k.second k.name k.a k.b items
up_is k items apart differ fits =
    let sum : outcomes.plus k.a k.b ≡ k.a + k.b = min-eq_left (omega arith) in
    ap (λ (ys : List Item). ys ++ pays (Channel k.name) (outcomes.plus k.a k.b) ∷ []) (up_map k items apart differ)
    ∙ ap (λ (n : ℕ). lowered (Person k.first) k.a (lowered (Person k.second) k.b items) ++ pays (Channel k.name) n ∷ []) sum
