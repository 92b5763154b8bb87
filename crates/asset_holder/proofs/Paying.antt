-- What a payment makes of a table of payments.
use Rattle.std.proofs.Common.{◌≡◌, ℕ, ◌+◌, List, Bool, true, false, cond, refl, ◌∙◌, ap}
use Rattle.std.proofs.lemmas.Bool.{eqb-true}
use Rattle.std.proofs.lemmas.Slice.Eq.{bytes_eq-Decides}
use Rattle.std.specs.Prelude.{◌==◌, ◌&&◌}
use Rattle.std.specs.Str.{bytes_eq}
use Rattle.call_history.specs.Flows.{pays}
use Rattle.asset_holder.specs.Amounts.{amount_in}
use Rattle.asset_holder.proofs.Changes.{raised}
use Rattle.asset_holder.specs.Payments.{same_item}

and_left : (b d : Bool) → (b && d) ≡ true → b ≡ true
and_left true d h = refl
and_left false d h = h

and_right : (b d : Bool) → (b && d) ≡ true → d ≡ true
and_right true d h = h
and_right false d h = absurd cc

item_is : (j k : List ℕ × ℕ × ℕ) → same_item j k ≡ true → j ≡ k
item_is j k h =
    let front = and_left (bytes_eq j.0 k.0 && (j.1 == k.1)) (j.2 == k.2) h in
    let name : j.0 ≡ k.0 = (bytes_eq-Decides j.0 k.0).0 (and_left (bytes_eq j.0 k.0) (j.1 == k.1) front) in
    let asset : j.1 ≡ k.1 = eqb-true j.1 k.1 (and_right (bytes_eq j.0 k.0) (j.1 == k.1) front) in
    let place : j.2 ≡ k.2 = eqb-true j.2 k.2 (and_right (bytes_eq j.0 k.0 && (j.1 == k.1)) (j.2 == k.2) h) in
    λ i. (name i, asset i, place i)

regrouped : (a b c : Bool) (n : ℕ) → cond ((a && b) && c) n 0 ≡ cond (a && (b && c)) n 0
regrouped true b c n = refl
regrouped false b c n = refl

pub paid_more : (old new : List ((List ℕ × ℕ × ℕ) × ℕ)) (channel : List ℕ) (asset place n more : ℕ)
    → ((k : List ℕ × ℕ × ℕ) → amount_in same_item new k ≡ cond (same_item (channel, asset, place) k) n (amount_in same_item old k)) → n ≡ amount_in same_item old (channel, asset, place) + more
    → (c : List ℕ) (a p : ℕ)
    → amount_in same_item new (c, a, p) ≡ amount_in same_item old (c, a, p) + pays c a p (record { channel = channel; asset = asset; place = place; amount = more })
paid_more old new channel asset place n more set is c a p =
    raised same_item item_is (amount_in same_item old) (amount_in same_item new) (channel, asset, place) n more is set (c, a, p)
    ∙ ap (λ k. amount_in same_item old (c, a, p) + k) (regrouped (bytes_eq channel c) (asset == a) (place == p) more)
