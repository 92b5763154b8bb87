-- What the two can get once both were paid is what they were paid.
use Rattle.std.proofs.Common.{◌≡◌, ℕ, ◌+◌, ◌-◌, Bool, true, false, ◌&&◌, List, [], ◌∷◌, ◌∙◌, ap, arith}
use Rattle.std.specs.Prelude.{◌==◌, min, Some, if◌then◌else◌}
use Rattle.std.specs.Str.{bytes_eq}
use Rattle.channel_values.specs.Parts.{StateParts}
use Rattle.channel_values.specs.declared.chain.Chain.{Chain}
use Rattle.channel_values.specs.declared.chain.Mark.{Mark}
use Rattle.call_history.proofs.Names.{bytes_eq_self}
use Rattle.call_history.specs.Tables.{found}
use Rattle.channel_values.specs.Digests.{name_of_person}
use Rattle.history_view.specs.Views.{is_paid, paid_amount}
use Rattle.node_guarantees.specs.Gains.{share_known}
use Rattle.support_rules.specs.Real.{real}
use Rattle.script_run.proofs.PairNumbers.{same-number}
use Rattle.script_run.specs.Pair.{mind}
use Rattle.script_run.specs.TwoPeople.{Pair, name}
use Rattle.script_run.proofs.Seeing.{Balance, ended}

pub none-left : (n : ℕ) → n - n ≡ 0
none-left n = omega arith

left-none : (n held : ℕ) → n + (min 0 held + 0) ≡ n
left-none n held = omega arith

-- what is told of the one whose balance stands first, and of the one after it
pub paid_first : (key : List ℕ) (asset n : ℕ) (rest : List Balance) → paid_amount ((key, asset, n) ∷ rest) key asset ≡ n
paid_first key asset n rest =
    ap (λ (t : Bool). (if t then (key, asset, n) else found (is_paid key asset) (key, asset, 0) rest).2)
    (ap (λ (t : Bool). t && (asset == asset)) (bytes_eq_self key) ∙ same-number asset)

pub paid_behind : (key other : List ℕ) (asset n m : ℕ) (rest : List Balance) → bytes_eq other key ≡ false
    → paid_amount ((other, asset, m) ∷ (key, asset, n) ∷ rest) key asset ≡ n
paid_behind key other asset n m rest apart =
    ap (λ (t : Bool). (if t && (asset == asset) then (other, asset, m) else found (is_paid key asset) (key, asset, 0) ((key, asset, n) ∷ rest)).2) apart
    ∙ paid_first key asset n rest

pub share_first : (p : Pair) (count n held x y left_x left_y : ℕ) (c : Chain) (paid : List Balance) (s1 s2 : StateParts) (m1 m2 : Mark) (last : StateParts)
    → paid_amount paid (name_of_person p.key_a) p.asset ≡ x → left_x ≡ 0
    → share_known (mind real p 0 p.key_a true (ended real p count n held x y left_x left_y c paid) (s1 ∷ s2 ∷ []) (m1 ∷ m2 ∷ []) (Some last)) p.asset ≡ x
share_first p count n held x y left_x left_y c paid s1 s2 m1 m2 last got none =
    simp (bytes_eq_self (name real p), bytes_eq_self (name_of_person p.key_a), same-number p.asset, got, none) (left-none x held)

pub share_second : (p : Pair) (count n held x y left_x left_y : ℕ) (c : Chain) (paid : List Balance) (s1 s2 : StateParts) (m1 m2 : Mark) (last : StateParts)
    → bytes_eq (name_of_person p.key_a) (name_of_person p.key_b) ≡ false → paid_amount paid (name_of_person p.key_b) p.asset ≡ y → left_y ≡ 0
    → share_known (mind real p 1 p.key_b true (ended real p count n held x y left_x left_y c paid) (s1 ∷ s2 ∷ []) (m1 ∷ m2 ∷ []) (Some last)) p.asset ≡ y
share_second p count n held x y left_x left_y c paid s1 s2 m1 m2 last apart got none =
    simp (bytes_eq_self (name real p), bytes_eq_self (name_of_person p.key_b), apart, same-number p.asset, got, none) (left-none y (held - left_x))
