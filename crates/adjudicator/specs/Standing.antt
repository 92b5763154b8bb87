-- What an adjudicator is to its callers, and which histories it stands for.
use Rattle.std.specs.Prelude.{◌≡◌, ◌≤◌, ◌<◌, ◌+◌, ◌^◌, ℕ, List, ◌∷◌, Option, Some, None, Result, Ok, Err, OnErr, if◌then◌else◌}
use Rattle.std.specs.Map.{lookup}
use Rattle.std.specs.Str.{bytes_eq}
use Rattle.channel_values.specs.Rules.{Rules}
use Rattle.call_history.specs.Rows.{row_or_blank}
use Rattle.call_history.specs.Flows.{pays, AreCovered}
use Rattle.call_history.specs.Mode.{is_final}
use Rattle.call_history.specs.Replies.{transfer, claim}
use Rattle.adjudicator.specs.Due.{deadline_in, AreOrdered}
use Rattle.call_history.specs.History.{now_of, row, mode, row_given, flows_of, held_of, paid_to, deposited_of, paid_of, reply_to}
use Rattle.call_history.specs.declared.call.TransferCall.{TransferCall}
use Rattle.call_history.specs.declared.call.ClaimCall.{ClaimCall}
use Rattle.call_history.specs.declared.call.Op.{Op}
use Rattle.call_history.specs.declared.entry.Entry.{Entry}
use Rattle.call_history.specs.declared.funds.Due.{Due}
use Rattle.call_history.specs.declared.refusal.Refusal.{Refusal}
use Rattle.call_history.specs.declared.refusal.Reply.{Reply}
use Rattle.call_history.specs.declared.refusal.Reply.TheVariants.{No}
use Rattle.call_history.specs.declared.row.Row.{Row}
use Rattle.asset_holder.specs.Balances.{Balances, amount_held, amount_paid, amount_deposited, HasMoved}
use Rattle.asset_holder.specs.Payments.{Payments, amount_of_item}

-- Clauses mention only which row a channel has, and the amounts of the balances and payments.
pub record Standing : Type 0 where
  pub now : ℕ
  pub rows : List (List ℕ × Row)
  -- how many more rows fit without more memory
  pub room : ℕ
  pub funds : Balances
  pub items : Payments

-- a channel's row, if it has one
abbrev pub row_in : List (List ℕ × Row) → List ℕ → Option Row
row_in rows channel = lookup (bytes_eq channel) rows

-- every recorded turn is one of a state
abbrev pub AreTurns : List (List ℕ × Row) → Type 0
AreTurns rows = (channel : List ℕ) → (row_or_blank (row_in rows channel)).turn < 2 ^ 48

-- the balances are those of the history
pub record AreBalancesOf (h : List Entry) (b : Balances) : Type 0 where
  pub held : (channel : List ℕ) (asset : ℕ) → amount_held b channel asset ≡ held_of h channel asset
  pub paid : (person : List ℕ) (asset : ℕ) → amount_paid b person asset ≡ paid_to h person asset
  pub deposited : (asset : ℕ) → amount_deposited b asset ≡ deposited_of h asset

-- its time, its rows, its balances and what it paid of items are those of the history, in which no channel paid out
-- more than it received
pub record StandsFor (r : Rules) (h : List Entry) (s : Standing) : Type 0 where
  pub covered : AreCovered (flows_of h)
  pub now : s.now ≡ now_of h
  pub rows : (channel : List ℕ) → row_in s.rows channel ≡ row_given r channel h
  pub funds : AreBalancesOf h s.funds
  pub items : (channel : List ℕ) (asset place : ℕ)
      → amount_of_item s.items channel asset place ≡ paid_of h channel asset place

-- what a transfer and a claim pay, or the first refusal
abbrev pub transfer_answer : Rules → Standing → TransferCall → Result Due Refusal
transfer_answer r s k =
    transfer r (row_or_blank (row_in s.rows k.channel)) s.now (amount_of_item s.items k.channel k.asset)
    (amount_held s.funds k.channel k.asset) k.channel k.outcome k.asset k.index

abbrev pub claim_answer : Rules → Standing → ClaimCall → Result Due Refusal
claim_answer r s k =
    claim r (row_or_blank (row_in s.rows k.guarantor)) (row_or_blank (row_in s.rows k.target)) s.now
    (amount_of_item s.items k.target k.asset) (amount_held s.funds k.guarantor k.asset) k.guarantor k.guarantor_outcome
    k.target k.target_outcome k.asset k.position

-- The op is served. Its answer is the reply that each history gives for which the adjudicator stood. It then stands
-- for that history with the op's entry, and a refused op changes nothing.
pub record Serves (r : Rules) (old : Standing) (op : Op) (answer : Reply) (new : Standing) : Type 0 where
  pub reply : (h : List Entry) → StandsFor r h old → answer ≡ reply_to r h op
  pub stands : (h : List Entry) (number by : ℕ) → StandsFor r h old
      → StandsFor r (record { number = number; by = by; op = op; reply = answer } ∷ h) new
  pub refused : (refusal : Refusal) → answer ≡ No refusal → new ≡ old

-- these are the channels that are final, with their deadlines, by deadline and then by name
pub record AreFinals (r : Rules) (h : List Entry) (rows : List (ℕ × List ℕ)) : Type 0 where
  pub ordered : AreOrdered rows
  pub deadlines : (channel : List ℕ) → deadline_in rows channel
      ≡ (if is_final (mode r channel h) then (row r channel h).deadline else None)

-- there is room for what one op adds
pub record HasRoom (s : Standing) : Type 0 where
  pub rows : 1 ≤ s.room
  pub funds : 1 ≤ s.funds.room
  pub items : 1 ≤ s.items.room

-- a channel's row after the answer to a turning call on the channel of this name
abbrev pub row_after : List ℕ → Result Row Refusal → List ℕ → Option Row → Option Row
row_after name (Ok row) channel before = if bytes_eq name channel then Some row else before
row_after name (Err refusal) channel before = before

-- the answer is recorded, and nothing else changes; a refusal changes nothing
pub record HasTurned (old : Standing) (name : List ℕ) (answer : Result Row Refusal) (new : Standing) : Type 0 where
  pub now : new.now ≡ old.now
  pub rows : (channel : List ℕ) → row_in new.rows channel ≡ row_after name answer channel (row_in old.rows channel)
  pub funds : new.funds ≡ old.funds
  pub items : new.items ≡ old.items
  pub refused : OnErr answer (new ≡ old)

-- What is due was paid by a channel, and noted of the owner's item; nothing else changes.
pub record HasPaid (old : Standing) (payer owner : List ℕ) (asset : ℕ) (due : Due) (new : Standing) : Type 0 where
  pub now : new.now ≡ old.now
  pub rows : new.rows ≡ old.rows
  pub moved : HasMoved old.funds
      (record { from = Some payer; to = due.to; asset = asset; amount = due.amount }) new.funds
  pub noted : (channel : List ℕ) (kind place : ℕ) → amount_of_item new.items channel kind place
      ≡ amount_of_item old.items channel kind place
      + pays channel kind place (record { channel = owner; asset = asset; place = due.place; amount = due.amount })
