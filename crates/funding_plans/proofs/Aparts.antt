-- The amounts for the ends, found in bytes.
use Rattle.std.proofs.Common.{◌≡◌, ℕ, false, List, Option, None, Result, Ok, Err, refl, sym, ap, ◌∙◌}
use Rattle.std.proofs.lemmas.Bool.{true≢false}
use Rattle.std.specs.Prelude.{is_ok}
use Rattle.channel_values.specs.declared.fault.ByteFault.{ByteFault}
use Rattle.channel_values.specs.declared.value.AssetOutcome.{AssetOutcome}
use Rattle.channel_values.specs.declared.value.Item.{Item}
use Rattle.channel_values.specs.Items.{item_of}
use Rattle.channel_values.specs.Outcomes.{IsOutcome}
use Rattle.channel_values.specs.Reading.{outcome_of}
use Rattle.channel_values.specs.Spelling.{outcome}
use Rattle.channel_values.proofs.Format.{valid_again}
use Rattle.channel_values.proofs.Formats.{outcome_format}
use Rattle.funding_plans.specs.declared.terms.Terms.{Terms}
use Rattle.funding_plans.specs.Targets.{apart_with, apart_read, apart_spelled}

abbrev IsItemAt : ℕ → ℕ → List ℕ → Option Item → Type 0
IsItemAt asset place bytes i = (o : List AssetOutcome) → IsOutcome o → bytes ≡ outcome o → i ≡ item_of asset place o

by_value : (v : Terms) (bytes : List ℕ) (x y : Option Item) → IsItemAt v.asset 0 bytes x → IsItemAt v.asset 1 bytes y →
    (o : List AssetOutcome) → IsOutcome o → bytes ≡ outcome o → apart_with v bytes x y ≡ apart_spelled v bytes
by_value v bytes x y hx hy o valid e =
    ap (λ i. apart_with v bytes i y) (hx o valid e)
    ∙ ap (λ j. apart_with v bytes (item_of v.asset 0 o) j) (hy o valid e)
    ∙ ap (λ b. apart_with v b (item_of v.asset 0 o) (item_of v.asset 1 o)) e
    ∙ sym (ap (apart_read v) (ap outcome_of e ∙ valid_again outcome_format o valid))

pub apart_of_bytes : (v : Terms) (bytes : List ℕ) (x y : Option Item) → IsItemAt v.asset 0 bytes x → IsItemAt v.asset 1 bytes y →
    ((o : List AssetOutcome) × IsOutcome o × (bytes ≡ outcome o)) → apart_with v bytes x y ≡ apart_spelled v bytes
apart_of_bytes v bytes x y hx hy spelled = by_value v bytes x y hx hy spelled.0 spelled.1 spelled.2

none_read : (v : Terms) (read : Result (List AssetOutcome) ByteFault) → is_ok read ≡ false → None ≡ apart_read v read
none_read v (Ok os) h = absurd (true≢false h)
none_read v (Err fault) h = refl

pub no_outcome : (v : Terms) (bytes : List ℕ) → is_ok (outcome_of bytes) ≡ false → None ≡ apart_spelled v bytes
no_outcome v bytes h = none_read v (outcome_of bytes) h
