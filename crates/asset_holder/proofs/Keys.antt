-- Keys of a name and an asset, and what a change at one of them makes of the others.
use Rattle.std.proofs.Common.{◌≡◌, ℕ, List, Bool, true, false, cond, refl, ap}
use Rattle.std.proofs.lemmas.Bool.{eqb-true}
use Rattle.std.proofs.lemmas.Slice.Eq.{bytes_eq-Decides}
use Rattle.std.specs.Prelude.{◌==◌, ◌&&◌}
use Rattle.std.specs.Str.{bytes_eq}
use Rattle.asset_holder.specs.Amounts.{Respects}
use Rattle.asset_holder.specs.Balances.{same_pair, is_of}

abbrev Key : Type 0
Key = List ℕ × ℕ

and_left : (b d : Bool) → (b && d) ≡ true → b ≡ true
and_left true d h = refl
and_left false d h = h

and_right : (b d : Bool) → (b && d) ≡ true → d ≡ true
and_right true d h = h
and_right false d h = absurd cc

pub pair_is : (j k : Key) → same_pair j k ≡ true → j ≡ k
pair_is j k h =
    let name : j.0 ≡ k.0 = (bytes_eq-Decides j.0 k.0).0 (and_left (bytes_eq j.0 k.0) (j.1 == k.1) h) in
    let asset : j.1 ≡ k.1 = eqb-true j.1 k.1 (and_right (bytes_eq j.0 k.0) (j.1 == k.1) h) in
    λ i. (name i, asset i)

pub respects_asset : (asset : ℕ) → Respects same_pair (is_of asset)
respects_asset asset j k h = ap (λ (x : Key). is_of asset x) (pair_is j k h)

pub cond_and : (b d : Bool) (n : ℕ) → cond (b && d) n 0 ≡ cond b (cond d n 0) 0
cond_and true d n = refl
cond_and false d n = refl
