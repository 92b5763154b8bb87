-- A node plans fairly, so nobody lowers its person's share.
use Rattle.std.specs.Prelude.{ℕ, List, ◌∷◌, ◌++◌, flat_map}
use Rattle.std.specs.List.{AllByRecursion}
use Rattle.channel_values.specs.Collisions.{NoneCollide}
use Rattle.channel_values.specs.Digests.{name_of_person, person_string}
use Rattle.call_history.specs.History.{Legal}
use Rattle.call_history.specs.declared.entry.Entry.{Entry}
use Rattle.channel_exits.specs.Fair.{LeavesFairly}
use Rattle.funding_plans.specs.declared.plan.Part.{Part}
use Rattle.funding_plans.specs.declared.plan.Part.TheVariants.{Root, OnLedger, End, Middle}
use Rattle.funding_plans.specs.declared.plan.Virtual.{Virtual}
use Rattle.channel_node.specs.Named.{named_in}
use Rattle.channel_safety.specs.Hashed.{of_fixed, hashed}
use Rattle.channel_safety.specs.Journals.{In}
use Rattle.channel_safety.specs.Premises.{Unforged, InTime}
use Rattle.channel_safety.specs.Occurring.{AreValid}
use Rattle.node_guarantees.specs.Keeping.{KeepsItsShare}
use Rattle.channel_node.specs.Places.{Told, lines_of}
use Rattle.channel_node.specs.Playing.{Signing, SignsWell, Plays}
use Rattle.node_guarantees.specs.Orders.{orders_of}
use Rattle.stage_tables.specs.Stages.{stages}
use Rattle.fairness_laws.specs.PlanSettings.{IsFair}
use Rattle.share_laws.specs.Lines.{SignaturesAreFair}
use Rattle.share_laws.specs.Signed.{HasSigned, PlansFairly}
use Rattle.share_laws.specs.Places.{plan}
use Rattle.support_rules.specs.Real.{real}
use Rattle.fairness_laws.specs.Wanting.{WantsFairly, PaysInHeld}

-- a node whose parts want fairly, and that signs guarantees alone in its guarantors, plans fairly
abbrev pub WantingPlansFairly : Type 0
WantingPlansFairly =
    (s : Signing) (h : List Entry) (journal : List Told) → IsFair s h journal
    → ((p : Part) → In p (plan (orders_of real s.key journal) (lines_of s.key journal)) → WantsFairly s h journal p)
    → AllByRecursion (HasSigned real (name_of_person s.key) (lines_of s.key journal)) (plan (orders_of real s.key journal) (lines_of s.key journal))
    → PlansFairly real (name_of_person s.key) (orders_of real s.key journal) h (lines_of s.key journal)

-- where a payment waits a chain is held of its channel, which is a payment channel
abbrev pub PaymentsAreHeld : Type 0
PaymentsAreHeld = (s : Signing) (h : List Entry) (journal : List Told) → IsFair s h journal → PaysInHeld s h journal

-- and can leave
abbrev pub WantingPlansLeave : Type 0
WantingPlansLeave =
    (s : Signing) (h : List Entry) (journal : List Told) → IsFair s h journal
    → ((p : Part) → In p (plan (orders_of real s.key journal) (lines_of s.key journal)) → WantsFairly s h journal p)
    → LeavesFairly real (name_of_person s.key) (orders_of real s.key journal) h (lines_of s.key journal)

-- a channel that holds its own funds does
abbrev pub RootsWantFairly : Type 0
RootsWantFairly =
    (s : Signing) (h : List Entry) (journal : List Told) (name : List ℕ) → IsFair s h journal
    → WantsFairly s h journal (Root name)

-- one that a ledger funds
abbrev pub ChildrenWantFairly : Type 0
ChildrenWantFairly =
    (s : Signing) (h : List Entry) (journal : List Told) (ledger name : List ℕ) → IsFair s h journal
    → WantsFairly s h journal (OnLedger ledger name)

-- an end of a virtual channel
abbrev pub EndsWantFairly : Type 0
EndsWantFairly =
    (s : Signing) (h : List Entry) (journal : List Told) (v : Virtual) → IsFair s h journal
    → WantsFairly s h journal (End v)

-- and the intermediary
abbrev pub MiddlesWantFairly : Type 0
MiddlesWantFairly =
    (s : Signing) (h : List Entry) (journal : List Told) (v : Virtual) → IsFair s h journal
    → WantsFairly s h journal (Middle v)

-- What holds of each journal that a node's rules give over a legal history, where nothing is forged and no hashed
-- strings collide. These are also those of its key and of all that its commands name.
abbrev pub OfEachNode : (Signing → List Entry → List Told → Type 0) → Type 0
OfEachNode P =
    (s : Signing) (h : List Entry) (journal : List Told) → SignsWell real s → Legal real h → Plays stages real s h journal
    → AreValid h (lines_of s.key journal) → Unforged real s.key h (lines_of s.key journal)
    → NoneCollide (hashed h (lines_of s.key journal) ++ (person_string s.key ∷ flat_map of_fixed (named_in journal)))
    → P s h journal

-- There a node plans fairly, whether its watchers are in time or not.
abbrev pub NodesPlanFairly : Type 0
NodesPlanFairly =
    OfEachNode (λ s h journal. PlansFairly real (name_of_person s.key) (orders_of real s.key journal) h (lines_of s.key journal))

-- So what it signs lowers its person's share by no more than the payment that was commanded right before. Where none
-- was and the plan is funded, it doesn't lower it at all.
abbrev pub NodesSignFairly : Type 0
NodesSignFairly =
    OfEachNode (λ s h journal. SignaturesAreFair real (name_of_person s.key) (orders_of real s.key journal) h (lines_of s.key journal))

-- So nobody lowers the share of a node's person, and it can leave with it. Nothing is forged, and no hashed strings
-- collide, those of its key and of all that its commands name among them. Its watchers are in time.
abbrev pub PlansKeepShares : Type 0
PlansKeepShares =
    (s : Signing) (h : List Entry) (journal : List Told) → SignsWell real s → Legal real h → Plays stages real s h journal
    → AreValid h (lines_of s.key journal) → Unforged real s.key h (lines_of s.key journal)
    → NoneCollide (hashed h (lines_of s.key journal) ++ (person_string s.key ∷ flat_map of_fixed (named_in journal)))
    → InTime real h (lines_of s.key journal)
    → KeepsItsShare (name_of_person s.key) (orders_of real s.key journal) h (lines_of s.key journal)
