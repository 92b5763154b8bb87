-- A node whose parts want fairly plans fairly and leaves fairly: it signs guarantees alone, and of one asset.
use Rattle.std.proofs.Common.{◌≡◌, ℕ, List, subst}
use Rattle.std.specs.List.{AllByRecursion}
use Rattle.call_history.specs.declared.entry.Entry.{Entry}
use Rattle.channel_values.specs.Digests.{name_of_person}
use Rattle.channel_exits.specs.Fair.{LeavesFairly, SignsInAsset}
use Rattle.funding_plans.specs.declared.plan.Part.{Part}
use Rattle.funding_plans.specs.declared.plan.Part.TheVariants.{Root, OnLedger, End, Middle}
use Rattle.channel_safety.specs.Journals.{In, Line}
use Rattle.fairness_laws.proofs.Joint.Splits.{ends_split, middles_split}
use Rattle.fairness_laws.proofs.Plan.Parts.{parts_are_known}
use Rattle.fairness_laws.proofs.Plans.{wanting_plans_fairly, whole-place}
use Rattle.fairness_laws.proofs.Promises.{end-has_signed, end-in_asset, middle-has_signed, middle-in_asset}
use Rattle.fairness_laws.specs.FairLaws.{WantingPlansLeave}
use Rattle.fairness_laws.specs.PaymentLaws.{At}
use Rattle.fairness_laws.specs.PlanLaws.{PartAt}
use Rattle.fairness_laws.specs.PlanSettings.{IsFair}
use Rattle.fairness_laws.specs.Wanting.{WantsFairly}
use Rattle.channel_node.specs.Minds.{Mind}
use Rattle.channel_node.specs.Places.{Told, lines_of, mind_at}
use Rattle.channel_node.specs.Playing.{Signing}
use Rattle.node_guarantees.proofs.Telling.{places_tell_shares}
use Rattle.node_guarantees.specs.Orders.{orders_of}
use Rattle.stage_tables.specs.Stages.{stages}
use Rattle.share_laws.proofs.Plans.{all-are}
use Rattle.share_laws.specs.Signed.{HasSigned, PlansFairly}
use Rattle.share_laws.specs.Places.{Order, plan}
use Rattle.support_rules.specs.Real.{real}

module _ (s : Signing) (h : List Entry) (journal : List Told) (fair : IsFair s h journal)
    (wants : (p : Part) → In p (plan (orders_of real s.key journal) (lines_of s.key journal)) → WantsFairly s h journal p) where
  abbrev orders : ℕ → Order
  orders = orders_of real s.key journal

  abbrev lines : List Line
  lines = lines_of s.key journal

  abbrev me : List ℕ
  me = name_of_person s.key

  abbrev m : Mind
  m = mind_at real s.key h journal

  abbrev at : At s h journal h journal
  at = whole-place s h journal fair

  same : m.parts ≡ plan orders lines
  same = (places_tell_shares stages real s h journal h journal fair.nodes.legal fair.nodes.plays at.front_is).parts

  known : (p : Part) → In p m.parts → PartAt s h journal p
  known p i = parts_are_known s h journal h journal fair.nodes at.front_is p i

  -- of each part of the plan
  of-each : (P : Part → Type 0) → ((p : Part) → In p m.parts → P p) → AllByRecursion P (plan orders lines)
  of-each P each = subst (AllByRecursion P) same (all-are P m.parts each)

  signed : (p : Part) → In p m.parts → HasSigned real me lines p
  signed (Root c) i = tt
  signed (OnLedger l c) i = tt
  signed (End v) i = let k = known (End v) i in end-has_signed s h journal fair h journal at v k.goal i k.found k.is
  signed (Middle v) i = let k = known (Middle v) i in middle-has_signed s h journal fair h journal at v k.goal i k.found k.is

  in-asset : (p : Part) → In p m.parts → SignsInAsset real lines p
  in-asset (Root c) i = tt
  in-asset (OnLedger l c) i = tt
  in-asset (End v) i = let k = known (End v) i in end-in_asset s h journal fair h journal at v k.goal i k.found k.is (ends_split s h journal fair v k.goal i k.is)
  in-asset (Middle v) i = let k = known (Middle v) i in middle-in_asset s h journal fair h journal at v k.goal i k.found k.is (middles_split s h journal fair v k.goal i k.is)

  pub plans-fairly : PlansFairly real me orders h lines
  plans-fairly = wanting_plans_fairly s h journal fair wants (of-each (HasSigned real me lines) signed)

  pub leaves-fairly : LeavesFairly real me orders h lines
  leaves-fairly = record {
    plans = plans-fairly;
    assets = of-each (SignsInAsset real lines) in-asset;
  }

pub wanting_plans_leave : WantingPlansLeave
wanting_plans_leave s h journal fair wants = leaves-fairly s h journal fair wants
