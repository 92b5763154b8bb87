-- What a transfer and a claim change: what is left of an item, and what a channel holds, both by one amount.
use Rattle.std.specs.Prelude.{◌≡◌, ◌≤◌, ◌+◌, ℕ, Bool, false, List, ◌∷◌, Option, Some, None, if◌then◌else◌}
use Rattle.channel_values.specs.Outcomes.{is_same}
use Rattle.channel_values.specs.declared.value.AssetOutcome.{AssetOutcome}
use Rattle.channel_values.specs.declared.value.Dest.{Dest}
use Rattle.channel_values.specs.declared.value.Dest.TheVariants.{Channel}
use Rattle.channel_values.specs.Rules.{Rules}
use Rattle.call_history.specs.Dues.{shape_in}
use Rattle.call_history.specs.Rest.{rest_outcome, lower_outcome, left_of}
use Rattle.call_history.specs.History.{item_dest, listed_dest, held_of, paid_of, reply_to}
use Rattle.call_history.specs.declared.call.TransferCall.{TransferCall}
use Rattle.call_history.specs.declared.call.ClaimCall.{ClaimCall}
use Rattle.call_history.specs.declared.call.Call.TheVariants.{Transfer, Claim}
use Rattle.call_history.specs.declared.call.Op.TheVariants as ops
use Rattle.call_history.specs.declared.entry.Entry.{Entry}
use Rattle.call_history.specs.declared.refusal.Reply.TheVariants.{Paid}

abbrev pub is_to : Option Dest → List ℕ → Bool
is_to None channel = false
is_to (Some to) channel = is_same to (Channel channel)

-- The entry after h pays an amount of an asset from one channel, and of an item of another's outcome, or of its own.
pub record LowersBoth (h : List Entry) (e : Entry) (payer owner : List ℕ) (outcome : List AssetOutcome) (asset : ℕ)
    (to : Option Dest) (amount : ℕ) : Type 0 where
  pub some : 1 ≤ amount
  -- the item belongs to the one that is paid; so much was left of it, and that item alone is lowered
  pub place : ℕ
  pub named : item_dest (shape_in outcome asset) place ≡ to
  pub left : amount ≤ left_of (rest_outcome (paid_of h owner) outcome) asset place
  pub rest : rest_outcome (paid_of (e ∷ h) owner) outcome
      ≡ lower_outcome (rest_outcome (paid_of h owner) outcome) asset place amount
  -- so much was held, and then it is held no more, unless the channel pays itself
  pub held : amount ≤ held_of h payer asset
  pub balance : held_of (e ∷ h) payer asset + amount ≡ held_of h payer asset + (if is_to to payer then amount else 0)

abbrev pub TransferLowersBoth : Rules → List Entry → Type 0
TransferLowersBoth r h =
    (number by : ℕ) (k : TransferCall) (amount : ℕ)
    → reply_to r h (ops.Call (Transfer k)) ≡ Paid amount
    → LowersBoth h (record { number = number; by = by; op = ops.Call (Transfer k); reply = Paid amount })
    k.channel k.channel k.outcome k.asset (item_dest (shape_in k.outcome k.asset) k.index) amount

abbrev pub ClaimLowersBoth : Rules → List Entry → Type 0
ClaimLowersBoth r h =
    (number by : ℕ) (k : ClaimCall) (amount : ℕ)
    → reply_to r h (ops.Call (Claim k)) ≡ Paid amount
    → LowersBoth h (record { number = number; by = by; op = ops.Call (Claim k); reply = Paid amount })
    k.guarantor k.target k.target_outcome k.asset (listed_dest (shape_in k.guarantor_outcome k.asset) k.position) amount
