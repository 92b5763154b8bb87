-- What is held of an asset and what a person was paid of it, at their places and changed.
use Rattle.std.proofs.Common.{◌≡◌, ℕ, ◌<◌, ◌≤◌, List, [], ◌∷◌, ◌++◌, length, set, get_or, sym, ap}
use Rattle.std.specs.List.{position_or_len}
use Rattle.call_history.proofs.Tabled.{changed_at, added_at, found_at, none_at, changed_same}
use Rattle.history_view.specs.Views.{is_in, held_amount, held_with, is_paid, paid_amount, paid_with}

-- past the end of the balances
abbrev pub no_balance : ℕ × ℕ
no_balance = (0, 0)

-- ---- what is held

pub held_at : (held : List (ℕ × ℕ)) (asset i : ℕ) (d : ℕ × ℕ) → i ≡ position_or_len (is_in asset) held → i < length held → (get_or held i d).1 ≡ held_amount held asset
held_at held asset i d at lt = ap (λ (balance : ℕ × ℕ). balance.1) (found_at (is_in asset) (asset, 0) d held i at lt)

pub held_past : (held : List (ℕ × ℕ)) (asset i : ℕ) → i ≡ position_or_len (is_in asset) held → length held ≤ i → held_amount held asset ≡ 0
held_past held asset i at le = ap (λ (balance : ℕ × ℕ). balance.1) (sym (none_at (is_in asset) (asset, 0) held i at le))

pub held_set_at : (held : List (ℕ × ℕ)) (asset i amount : ℕ) → i ≡ position_or_len (is_in asset) held → i < length held
    → set held i (asset, amount) ≡ held_with (λ before. amount) asset held
held_set_at held asset i amount at lt = changed_at (is_in asset) (λ balance. (asset, amount)) (asset, 0) no_balance held i at lt

pub held_set_past : (held : List (ℕ × ℕ)) (asset i amount : ℕ) → i ≡ position_or_len (is_in asset) held → length held ≤ i
    → held ++ (asset, amount) ∷ [] ≡ held_with (λ before. amount) asset held
held_set_past held asset i amount at le = added_at (is_in asset) (λ balance. (asset, amount)) (asset, 0) held i at le

-- setting an amount that a change gives is that change
pub held_changed : (change : ℕ → ℕ) (held : List (ℕ × ℕ)) (asset amount : ℕ) → amount ≡ change (held_amount held asset)
    → held_with (λ before. amount) asset held ≡ held_with change asset held
held_changed change held asset amount e =
    changed_same (is_in asset) (λ balance. (asset, amount)) (λ balance. (asset, change balance.1)) (asset, 0) held (ap (λ (n : ℕ). (asset, n)) e)

-- ---- what was paid

pub paid_changed : (change : ℕ → ℕ) (paid : List (List ℕ × ℕ × ℕ)) (person : List ℕ) (asset amount : ℕ) → amount ≡ change (paid_amount paid person asset)
    → paid_with (λ before. amount) person asset paid ≡ paid_with change person asset paid
paid_changed change paid person asset amount e =
    changed_same (is_paid person asset) (λ balance. (person, asset, amount)) (λ balance. (person, asset, change balance.2)) (person, asset, 0) paid (ap (λ (n : ℕ). (person, asset, n)) e)
