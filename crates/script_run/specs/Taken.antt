-- The table of a node's partner takes what the node wants in a channel, where both know the same of it. This is
-- stated for parts of all four kinds; `RootsTake`, for channels that hold their own funds, is proved.
use Rattle.std.specs.Prelude.{◌≡◌, ℕ, ◌+◌, ◌*◌, ◌<◌, ◌≤◌, Bool, true, false, ◌||◌, List, length, Some, ◌⊎◌}
use Rattle.std.specs.Str.{bytes_eq}
use Rattle.channel_values.specs.Parts.{StateParts}
use Rattle.support_rules.specs.Rules.{is_same_outcome}
use Rattle.funding_plans.specs.Known.{FactsOf}
use Rattle.funding_plans.specs.declared.plan.Part.TheVariants.{Root}
use Rattle.funding_plans.specs.Seats.{Seat, state_is}
use Rattle.funding_plans.specs.Rows.{wanted_in}
use Rattle.ledger_channel.specs.Roots.{Direct}
use Rattle.ledger_channel.specs.OnLedgers.{Funded, on_ledger_rows, on_ledger_stage, on_ledger_takes}
use Rattle.ledger_channel.specs.Stages.{direct_in}
use Rattle.funding_plans.specs.declared.child.Child.{Child}
use Rattle.virtual_channel.specs.Ends.{End, end_rows, end_stage, end_takes}
use Rattle.virtual_channel.specs.Middles.{Middle, middle_rows, middle_stage, middle_takes}
use Rattle.script_run.specs.Table.{stages}

-- Two of a channel's people know the same of it: its name and people, the outcome that it opens with, the next turn,
-- and the latest state that is held. That has the opening outcome while the second round lasts, and Close comes after
-- the first.
pub record OneChannel (c d : Seat) (closing : Bool) : Type 0 where
  pub named : d.name ≡ c.name
  pub people : d.people ≡ c.people
  pub opening : d.opening ≡ c.opening
  pub next : d.next ≡ c.next
  pub top : d.top ≡ c.top
  pub finals : d.all_final ≡ c.all_final
  pub opens : length c.people ≤ c.next → c.next < 2 * length c.people → state_is (λ s. is_same_outcome c.opening s.outcome) c.top ≡ true
  pub closes : closing ≡ true → length c.people ≤ c.next

-- ---- channels that hold their own funds

-- each asks its own part about the channel
abbrev pub RootsTake : Type 0
RootsTake =
    (f g : FactsOf) (channel : List ℕ) (d e : Direct) (s : StateParts) → stages.asked f channel ≡ Some (Root channel) → stages.asked g channel ≡ Some (Root channel)
    → direct_in f channel ≡ Some d → direct_in g channel ≡ Some e → e.over ≡ false → OneChannel d.channel e.channel d.closing
    → stages.wanted f channel ≡ Some s → stages.accepts g channel s ≡ true

-- ---- channels that others fund

-- one is at most a stage ahead of the other
pub record AreNear (m n : ℕ) : Type 0 where
  pub ahead : m ≤ n + 1
  pub behind : n ≤ m + 1

abbrev pub OnLedgersTake : Type 0
OnLedgersTake =
    (p q : Funded) (name : List ℕ) (s : StateParts) → q.child ≡ p.child → q.closing ≡ p.closing → OneChannel p.channel q.channel p.closing → OneChannel p.ledger q.ledger p.closing
    → AreNear (on_ledger_stage p) (on_ledger_stage q) → wanted_in name (on_ledger_rows p) ≡ Some s → on_ledger_takes q name s ≡ true

-- the ends have the payment channel together, and the joint channel with the intermediary
abbrev pub EndsTake : Type 0
EndsTake =
    (p q : End) (name : List ℕ) (s : StateParts) → q.terms ≡ p.terms → q.votes ≡ p.votes → q.closing ≡ p.closing → OneChannel p.channel q.channel p.closing → OneChannel p.joint q.joint p.closing
    → (bytes_eq p.channel.name name || bytes_eq p.joint.name name) ≡ true
    → AreNear (end_stage p) (end_stage q) → wanted_in name (end_rows p) ≡ Some s → end_takes q name s ≡ true

-- an end and the intermediary, which has this child, ledger and guarantor toward it
pub record AreLinked (p : End) (q : Middle) (child : Child) (ledger guarantor : Seat) : Type 0 where
  pub terms : q.terms ≡ p.terms
  pub closing : q.closing ≡ p.closing
  pub child_is : child ≡ p.child
  pub side : ((child ≡ q.child_a) × (ledger ≡ q.ledger_a) × (guarantor ≡ q.guarantor_a)) ⊎ ((child ≡ q.child_b) × (ledger ≡ q.ledger_b) × (guarantor ≡ q.guarantor_b))
  pub on_ledger : OneChannel p.ledger ledger p.closing
  pub on_guarantor : OneChannel p.guarantor guarantor p.closing
  pub on_joint : OneChannel p.joint q.joint p.closing
  pub near : AreNear (end_stage p) (middle_stage q)

abbrev pub is_shared : End → List ℕ → Bool
is_shared p name = bytes_eq p.ledger.name name || bytes_eq p.guarantor.name name || bytes_eq p.joint.name name

abbrev pub MiddlesTake : Type 0
MiddlesTake =
    (p : End) (q : Middle) (child : Child) (ledger guarantor : Seat) (name : List ℕ) (s : StateParts) → AreLinked p q child ledger guarantor → is_shared p name ≡ true
    → (wanted_in name (end_rows p) ≡ Some s → middle_takes q name s ≡ true) × (wanted_in name (middle_rows q) ≡ Some s → end_takes p name s ≡ true)
