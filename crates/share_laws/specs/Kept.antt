-- Whose actions may lower a share: only its person's signature, and that by no more than a payment ordered.
use Rattle.std.specs.Prelude.{◌≡◌, ℕ, ◌+◌, ◌≤◌, ◌==◌, Bool, true, false, List, [], ◌∷◌, length, if◌then◌else◌}
use Rattle.channel_values.specs.Rules.{Rules}
use Rattle.call_history.specs.declared.entry.Entry.{Entry}
use Rattle.call_history.specs.declared.event.Deed.{Deed}
use Rattle.call_history.specs.declared.event.Deed.TheVariants as deeds
use Rattle.channel_safety.specs.Journals.{Line, is_followed}
use Rattle.share_laws.specs.Places.{Order, opening, paying, other, IsPlace, share, Funded}

abbrev pub is_signing : Deed → Bool
is_signing (deeds.Signed channel state signature) = true
is_signing _ = false

-- what an order pays of an asset
abbrev pub pays_of : ℕ → Order → ℕ
pays_of asset (opening part) = 0
pays_of asset (paying paid amount) = if paid == asset then amount else 0
pays_of asset other = 0

abbrev pub is_paying : Order → Bool
is_paying (opening part) = false
is_paying (paying asset amount) = true
is_paying other = false

-- the order of a command that wasn't refused and that comes last in these lines
abbrev pub last_order : (ℕ → Order) → List Line → Order
last_order orders [] = other
last_order orders (x ∷ front) = if is_followed x.deed then orders (length front) else other

-- What an honest participant keeps when it signs a state after these entries and lines. The share is lowered by the
-- payment that was ordered right before. Where none was ordered and the plan is funded, it isn't lowered.
pub record SignsFairly (r : Rules) (me : List ℕ) (orders : ℕ → Order) (past : List Entry) (x : Line)
    (front : List Line) : Type 0 where
  pub payments :
      is_paying (last_order orders front) ≡ true → (asset : ℕ)
      → share r me orders past front asset ≤ share r me orders past (x ∷ front) asset
      + pays_of asset (last_order orders front)
  pub others :
      is_paying (last_order orders front) ≡ false → Funded r me orders past front → (asset : ℕ)
      → share r me orders past front asset ≤ share r me orders past (x ∷ front) asset

-- No entry by anybody lowers the share of the person me, and no line of its journal but a signature, which lowers it no
-- more than it may.
pub record SharesAreKept (r : Rules) (me : List ℕ) (orders : ℕ → Order) (h : List Entry)
    (journal : List Line) : Type 0 where
  pub entries :
      (past : List Entry) (e : Entry) (front : List Line) → IsPlace h journal past front
      → IsPlace h journal (e ∷ past) front
      → (asset : ℕ) → share r me orders past front asset ≤ share r me orders (e ∷ past) front asset
  pub lines :
      (past : List Entry) (x : Line) (front : List Line) → IsPlace h journal past front
      → IsPlace h journal past (x ∷ front)
      → is_signing x.deed ≡ false → (asset : ℕ)
      → share r me orders past front asset ≤ share r me orders past (x ∷ front) asset
  pub signings :
      (past : List Entry) (x : Line) (front : List Line) → IsPlace h journal past front
      → IsPlace h journal past (x ∷ front)
      → is_signing x.deed ≡ true → SignsFairly r me orders past x front
