-- The amounts that are found for the ends are those of the outcome.
use Rattle.std.proofs.Common.{◌≡◌, ℕ, ◌+◌, Bool, true, false, ◌&&◌, List, Option, Some, None, refl, sym, ap, ◌∙◌}
use Rattle.std.specs.Prelude.{◌==◌}
use Rattle.std.specs.Str.{bytes_eq}
use Rattle.std.proofs.lemmas.Bool.{true≢false, eq-eqb, eqb-true}
use Rattle.channel_values.specs.declared.value.AssetOutcome.{AssetOutcome}
use Rattle.channel_values.specs.declared.value.Item.{Item}
use Rattle.channel_values.specs.Items.{item_of}
use Rattle.channel_values.specs.Spelling.{outcome}
use Rattle.call_history.proofs.Names.{same_bytes, bytes_eq_self}
use Rattle.funding_plans.specs.declared.terms.Terms.{Terms}
use Rattle.funding_plans.specs.Targets.{apart, amounts_if, is_apart, apart_with, apart_in}

and_both : (a b : Bool) → (a && b) ≡ true → (a ≡ true) × (b ≡ true)
and_both true b h = (refl, h)
and_both false b h = absurd (true≢false (sym h))

amounts_are : (b : Bool) (ab cd : ℕ × ℕ) → amounts_if b ab ≡ Some cd → (b ≡ true) × (ab ≡ cd)
amounts_are true ab cd h = search
amounts_are false ab cd h = search

both : (v : Terms) (bytes : List ℕ) (ab : ℕ × ℕ) → is_apart v bytes ab ≡ true → (ab.0 + ab.1 ≡ v.total) × (bytes ≡ outcome (apart v ab))
both v bytes ab h =
    let e = and_both (ab.0 + ab.1 == v.total) (bytes_eq bytes (outcome (apart v ab))) h in
    (eqb-true (ab.0 + ab.1) v.total e.0, same_bytes bytes (outcome (apart v ab)) e.1)

found_with : (v : Terms) (bytes : List ℕ) (x y : Option Item) (ab : ℕ × ℕ) → apart_with v bytes x y ≡ Some ab →
    (ab.0 + ab.1 ≡ v.total) × (bytes ≡ outcome (apart v ab))
found_with v bytes None y ab h = search
found_with v bytes (Some i) None ab h = search
found_with v bytes (Some i) (Some j) ab h =
    let e = amounts_are (is_apart v bytes (i.amount, j.amount)) (i.amount, j.amount) ab h in
    both v bytes ab (ap (is_apart v bytes) (sym e.1) ∙ e.0)

pub means : (v : Terms) (os : List AssetOutcome) (ab : ℕ × ℕ) → apart_in v os ≡ Some ab → (ab.0 + ab.1 ≡ v.total) × (outcome os ≡ outcome (apart v ab))
means v os ab h = found_with v (outcome os) (item_of v.asset 0 os) (item_of v.asset 1 os) ab h

pub found : (v : Terms) (ab : ℕ × ℕ) → ab.0 + ab.1 ≡ v.total → apart_in v (apart v ab) ≡ Some ab
found v ab e =
    let same : (v.asset == v.asset) ≡ true = eq-eqb v.asset v.asset refl in
    let total : (ab.0 + ab.1 == v.total) ≡ true = eq-eqb (ab.0 + ab.1) v.total e in
    let bytes : bytes_eq (outcome (apart v ab)) (outcome (apart v ab)) ≡ true = bytes_eq_self (outcome (apart v ab)) in
    rw same (rw total (rw bytes refl))
