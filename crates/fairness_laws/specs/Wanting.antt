-- What the parts of a node's plan want, and what it pays, keeps its person's share.
use Rattle.std.specs.Prelude.{◌≡◌, ℕ, true, false, List, Some, None}
use Rattle.channel_values.specs.Parts.{FixedParts, StateParts, IsState}
use Rattle.channel_values.specs.Digests.{name_of_person}
use Rattle.call_history.specs.History.{mode}
use Rattle.call_history.specs.declared.entry.Entry.{Entry}
use Rattle.channel_store.specs.Keeping.{is_held}
use Rattle.channel_store.specs.declared.kept.Kept.{Kept}
use Rattle.call_history.specs.Mode.{is_final}
use Rattle.funding_plans.specs.declared.plan.Part.{Part}
use Rattle.network.specs.declared.command.Command.TheVariants.{Pay}
use Rattle.channel_node.specs.Minds.{facts_of}
use Rattle.channel_node.specs.Places.{Told, lines_of, mind_at}
use Rattle.channel_node.specs.Playing.{Signing, pending}
use Rattle.channel_node.specs.Refusing.{not_open}
use Rattle.node_guarantees.specs.Orders.{orders_of}
use Rattle.stage_tables.specs.Stages.{stages}
use Rattle.fairness_laws.specs.PaymentLaws.{At}
use Rattle.stage_tables.specs.Asked.{asked_in, wanted_in}
use Rattle.share_laws.specs.Fairly.{Wants}
use Rattle.share_laws.specs.Signatures.{IsOwn}
use Rattle.support_rules.specs.Real.{real}
use Rattle.node_guarantees.specs.ViewLaws.{IsKeptAt}

-- each state that this part wants, where it is asked about a channel that isn't final, and all live channels are open
abbrev pub WantsFairly : Signing → List Entry → List Told → Part → Type 0
WantsFairly s h journal p =
    (past : List Entry) (front : List Told) → At s h journal past front
    → (f : FixedParts) (state : StateParts) → IsOwn real (lines_of s.key front) f → IsState state
    → is_final (mode real (real.named f) past) ≡ false
    → not_open stages (facts_of (mind_at real s.key past front)) ≡ None
    → asked_in (facts_of (mind_at real s.key past front)) (real.named f) ≡ Some p
    → wanted_in (facts_of (mind_at real s.key past front)) (real.named f) ≡ Some state
    → Wants real (name_of_person s.key) (orders_of real s.key journal) past (lines_of s.key front) f state

-- where a payment waits in a channel, a chain is held of it, and it is a payment channel
abbrev pub PaysInHeld : Signing → List Entry → List Told → Type 0
PaysInHeld s h journal =
    (past : List Entry) (front : List Told) → At s h journal past front
    → (f : FixedParts) (k : Kept) (asset amount : ℕ) → IsOwn real (lines_of s.key front) f → IsKeptAt real past (lines_of s.key front) f k
    → pending front ≡ Some (Pay (real.named f) asset amount) → (is_held k ≡ true) × (f.app ≡ 1)
