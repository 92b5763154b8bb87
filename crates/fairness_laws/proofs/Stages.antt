-- How far a part is, by its stage.
use Rattle.std.proofs.Common.{◌≡◌, ℕ, ◌<◌, true, false, arith}
use Rattle.channel_safety.proofs.Tests.{or-right}
use Rattle.ledger_channel.specs.OnLedgers.{Funded, on_ledger_rows}
use Rattle.ledger_channel.specs.Roots.{Direct, root_rows}
use Rattle.funding_plans.specs.Rows.{stage_in}
use Rattle.funding_plans.specs.Seats.{holds, settled_on, is_down}
use Rattle.virtual_channel.specs.Ends.{End, end_rows}
use Rattle.virtual_channel.specs.Ends as ends
use Rattle.virtual_channel.specs.Middles.{Middle, middle_rows}
use Rattle.virtual_channel.specs.Middles as middles
use Rattle.fairness_laws.proofs.Truths.{neither}
use Rattle.fairness_laws.proofs.Rows.{early, left-before, stays-at}

-- a root that runs isn't closing
pub root-runs : (d : Direct) → stage_in (root_rows d) ≡ 3 → d.closing ≡ false
root-runs d e = stays-at (root_rows d) 3 e

pub child-closed : (p : Funded) → stage_in (on_ledger_rows p) ≡ 6 → p.closing ≡ true
child-closed p e = left-before (on_ledger_rows p) 6 3 e (omega arith)

-- ---- an end

-- before it runs, where the payment channel isn't held past its set-up
pub end-opening : (p : End) → p.closing ≡ false → holds 3 p.channel ≡ false → stage_in (end_rows p) < 5
end-opening p running none = early (end_rows p) 4 (neither p.closing (holds 3 p.channel) running none)

-- before it is closed, where it isn't down
pub end-closing : (p : End) → is_down p.child p.ledger ≡ false → stage_in (end_rows p) < 9
end-closing p there = early (end_rows p) 8 there

-- where it runs
pub record EndRuns (p : End) : Type 0 where
  pub going : p.closing ≡ false
  pub set : ends.are_set_up p ≡ true
  pub five : holds 5 p.joint ≡ true
  pub joined : settled_on (ends.target_together p) p.joint ≡ true
  pub posted : holds 3 p.channel ≡ true

pub end-runs : (p : End) → stage_in (end_rows p) ≡ 5 → EndRuns p
end-runs p e = record {
  going = going;
  set = or-right p.closing (ends.are_set_up p) (left-before (end_rows p) 5 0 e (omega arith)) going;
  five = or-right p.closing (holds 5 p.joint) (left-before (end_rows p) 5 2 e (omega arith)) going;
  joined = or-right p.closing (settled_on (ends.target_together p) p.joint) (left-before (end_rows p) 5 3 e (omega arith)) going;
  posted = or-right p.closing (holds 3 p.channel) (left-before (end_rows p) 5 4 e (omega arith)) going;
}
  where
    going : p.closing ≡ false
    going = stays-at (end_rows p) 5 e

-- what is closed closes
pub end-closed : (p : End) → stage_in (end_rows p) ≡ 9 → p.closing ≡ true
end-closed p e = left-before (end_rows p) 9 5 e (omega arith)

-- ---- the intermediary

pub middle-opening : (p : Middle) → p.closing ≡ false → settled_on (middles.target_together p) p.joint ≡ false → stage_in (middle_rows p) < 5
middle-opening p running none = below-five (stage_in (middle_rows p)) (early (middle_rows p) 3 (neither p.closing (settled_on (middles.target_together p) p.joint) running none))
  where
    below-five : (n : ℕ) → n < 4 → n < 5
    below-five n h = omega arith

pub middle-closing : (p : Middle) → middles.are_down p ≡ false → stage_in (middle_rows p) < 9
middle-closing p there = early (middle_rows p) 8 there

pub record MiddleRuns (p : Middle) : Type 0 where
  pub going : p.closing ≡ false
  pub set : middles.are_set_up p ≡ true
  pub five : holds 5 p.joint ≡ true
  pub joined : settled_on (middles.target_together p) p.joint ≡ true

pub middle-runs : (p : Middle) → stage_in (middle_rows p) ≡ 5 → MiddleRuns p
middle-runs p e = record {
  going = going;
  set = or-right p.closing (middles.are_set_up p) (left-before (middle_rows p) 5 0 e (omega arith)) going;
  five = or-right p.closing (holds 5 p.joint) (left-before (middle_rows p) 5 2 e (omega arith)) going;
  joined = or-right p.closing (settled_on (middles.target_together p) p.joint) (left-before (middle_rows p) 5 3 e (omega arith)) going;
}
  where
    going : p.closing ≡ false
    going = stays-at (middle_rows p) 5 e

pub middle-closed : (p : Middle) → stage_in (middle_rows p) ≡ 9 → p.closing ≡ true
middle-closed p e = left-before (middle_rows p) 9 5 e (omega arith)
