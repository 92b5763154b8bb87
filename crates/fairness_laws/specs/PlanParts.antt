-- What a part of a plan is, by the command that opened it: the channels, their people and applications, and the goal.
use Rattle.std.specs.Prelude.{◌≡◌, ℕ, ◌+◌, ◌*◌, ◌-◌, ◌^◌, ◌≤◌, true, false, List, [], ◌∷◌, Some, if◌then◌else◌}
use Rattle.std.specs.Str.{bytes_eq}
use Rattle.channel_values.specs.Parts.{FixedParts}
use Rattle.channel_values.specs.Digests.{name_of_person}
use Rattle.call_history.specs.declared.entry.Entry.{Entry}
use Rattle.funding_plans.specs.Known.{FactsOf}
use Rattle.funding_plans.specs.Parts.{own_ledger, own_guarantor}
use Rattle.funding_plans.specs.declared.plan.Goal.{Goal}
use Rattle.funding_plans.specs.declared.plan.Part.{Part}
use Rattle.funding_plans.specs.declared.plan.Part.TheVariants as parts
use Rattle.funding_plans.specs.declared.plan.Virtual.{Virtual}
use Rattle.ledger_channel.specs.OnLedgers.{Funded}
use Rattle.ledger_channel.specs.Roots.{Direct}
use Rattle.ledger_channel.specs.Stages.{direct_in, funded_in}
use Rattle.channel_safety.specs.Journals.{Line}
use Rattle.channel_node.specs.Openings.{shared}
use Rattle.stage_tables.specs.Fitting.{are_shared}
use Rattle.funding_plans.specs.Targets.{apart, guarantee}
use Rattle.funding_plans.specs.declared.child.Child.{Child}
use Rattle.funding_plans.specs.declared.terms.Terms.{Terms}
use Rattle.funding_plans.specs.Seats.{Seat}
use Rattle.support_rules.specs.Real.{real}
use Rattle.support_rules.specs.Steps.{persons}
use Rattle.virtual_channel.specs.Ends.{End}
use Rattle.virtual_channel.specs.Middles.{Middle}
use Rattle.virtual_channel.specs.Stages.{end_in, middle_in}
use Rattle.fairness_laws.specs.PlanSeats.{SeatIs}

-- ---- a consensus channel of two people on which a part stands

pub record LedgerIs (key : List ℕ) (past : List Entry) (front : List Line) (first second name : List ℕ) (c : Seat) : Type 0 where
  pub fixed : FixedParts
  pub named : real.named fixed ≡ name
  pub app : fixed.app ≡ 0
  pub people : persons fixed ≡ first ∷ second ∷ []
  pub seat : SeatIs key past front fixed c.opening c

-- ---- parts: what they are, and what the tables of stages make of them at a place

pub record RootIs (key : List ℕ) (past : List Entry) (front : List Line) (f : FactsOf) (name : List ℕ) (g : Goal) : Type 0 where
  pub direct : Direct
  pub is : direct_in f name ≡ Some direct
  pub fixed : FixedParts
  pub named : real.named fixed ≡ name
  pub app : fixed.app ≤ 1
  pub outcome : are_shared (persons fixed) g.opening ≡ true
  pub seat : SeatIs key past front fixed g.opening direct.channel
  pub closing : direct.closing ≡ g.closing

pub record OnLedgerIs (key : List ℕ) (past : List Entry) (front : List Line) (f : FactsOf) (ledger name : List ℕ) (g : Goal) : Type 0 where
  pub funded : Funded
  pub is : funded_in f ledger name ≡ Some funded
  pub fixed : FixedParts
  pub named : real.named fixed ≡ name
  pub app : fixed.app ≡ 1
  pub people : persons fixed ≡ funded.child.first ∷ funded.child.second ∷ []
  pub differ : bytes_eq funded.child.first funded.child.second ≡ false
  pub amounts : g.amounts ≡ (funded.child.a, funded.child.b)
  pub sum : funded.child.a + funded.child.b ≤ 2 ^ 64 - 1
  pub child : funded.child.name ≡ name
  pub opening : g.opening ≡ shared fixed funded.child.asset g.amounts
  pub seat : SeatIs key past front fixed g.opening funded.channel
  pub on : LedgerIs key past front funded.child.first funded.child.second ledger funded.ledger
  pub closing : funded.closing ≡ g.closing

-- the terms and the joint channel of a virtual channel
pub record JointIs (key : List ℕ) (past : List Entry) (front : List Line) (v : Virtual) (g : Goal) (t : Terms) (joint : Seat) : Type 0 where
  pub fixed : FixedParts
  pub named : real.named fixed ≡ v.joint
  pub app : fixed.app ≡ 0
  pub people : persons fixed ≡ t.first ∷ t.middle ∷ t.second ∷ []
  pub ends : bytes_eq t.first t.second ≡ false
  pub first : bytes_eq t.first t.middle ≡ false
  pub second : bytes_eq t.second t.middle ≡ false
  pub asset : t.asset ≡ v.asset
  pub channel : t.channel ≡ v.channel
  pub total : t.total ≡ v.total
  pub sum : g.amounts.0 + g.amounts.1 ≡ v.total
  pub small : 2 * v.total ≤ 2 ^ 64 - 1
  pub seat : SeatIs key past front fixed (apart t g.amounts) joint

-- a guarantor of an end with the intermediary
pub record GuarantorIs (key : List ℕ) (past : List Entry) (front : List Line) (v : Virtual) (t : Terms) (end name : List ℕ) (c : Seat) : Type 0 where
  pub fixed : FixedParts
  pub named : real.named fixed ≡ name
  pub app : fixed.app ≡ 2
  pub seat : SeatIs key past front fixed (guarantee t v.joint end) c

-- what a ledger sets aside for a guarantor
pub record ChildIs (v : Virtual) (g : Goal) (first second name : List ℕ) (k : Child) : Type 0 where
  pub asset : k.asset ≡ v.asset
  pub named : k.name ≡ name
  pub one : k.first ≡ first
  pub other : k.second ≡ second
  pub amounts : g.amounts ≡ (k.a, k.b)

pub record EndIs (key : List ℕ) (past : List Entry) (front : List Line) (f : FactsOf) (v : Virtual) (g : Goal) : Type 0 where
  pub end : End
  pub is : end_in f v ≡ Some end
  pub joint : JointIs key past front v g end.terms end.joint
  pub me : (if v.side_b then end.terms.second else end.terms.first) ≡ name_of_person key
  pub guarantor : GuarantorIs key past front v end.terms (name_of_person key) (own_guarantor v) end.guarantor
  pub fixed : FixedParts
  pub named : real.named fixed ≡ v.channel
  pub app : fixed.app ≤ 1
  pub people : persons fixed ≡ end.terms.first ∷ end.terms.second ∷ []
  pub opening : g.opening ≡ shared fixed v.asset g.amounts
  pub seat : SeatIs key past front fixed g.opening end.channel
  pub child : ChildIs v g (if v.side_b then end.terms.middle else end.terms.first)
      (if v.side_b then end.terms.second else end.terms.middle) (own_guarantor v) end.child
  pub on : LedgerIs key past front end.child.first end.child.second (own_ledger v) end.ledger
  pub closing : end.closing ≡ g.closing

pub record MiddleIs (key : List ℕ) (past : List Entry) (front : List Line) (f : FactsOf) (v : Virtual) (g : Goal) : Type 0 where
  pub middle : Middle
  pub is : middle_in f v ≡ Some middle
  pub joint : JointIs key past front v g middle.terms middle.joint
  pub me : middle.terms.middle ≡ name_of_person key
  pub guarantor_a : GuarantorIs key past front v middle.terms middle.terms.first v.guarantor_a middle.guarantor_a
  pub guarantor_b : GuarantorIs key past front v middle.terms middle.terms.second v.guarantor_b middle.guarantor_b
  pub child_a : ChildIs v g middle.terms.first middle.terms.middle v.guarantor_a middle.child_a
  pub child_b : ChildIs v g middle.terms.middle middle.terms.second v.guarantor_b middle.child_b
  pub on_a : LedgerIs key past front middle.child_a.first middle.child_a.second v.ledger_a middle.ledger_a
  pub on_b : LedgerIs key past front middle.child_b.first middle.child_b.second v.ledger_b middle.ledger_b
  pub closing : middle.closing ≡ g.closing

-- a part of any kind
abbrev pub PartIs : (key : List ℕ) (past : List Entry) (front : List Line) (f : FactsOf) → Part → Goal → Type 0
PartIs key past front f (parts.Root name) g = RootIs key past front f name g
PartIs key past front f (parts.OnLedger ledger name) g = OnLedgerIs key past front f ledger name g
PartIs key past front f (parts.End v) g = EndIs key past front f v g
PartIs key past front f (parts.Middle v) g = MiddleIs key past front f v g
