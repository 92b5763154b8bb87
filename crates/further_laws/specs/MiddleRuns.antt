-- What an independent model of the network says of the intermediary of a virtual channel, through whole runs.
use Rattle.std.specs.Prelude.{◌≡◌, ℕ, true, false, Option, Some, None}
use Rattle.channel_values.specs.Parts.{StateParts}
use Rattle.funding_plans.specs.Rows.{stage_in, wanted_in}
use Rattle.virtual_channel.specs.Middles.{Middle, middle_rows, middle_takes}
use Rattle.further_laws.specs.Words.{ledger_a, ledger_b, guarantor_a, guarantor_b, joint, ledger_a_before, ledger_a_up, ledger_a_down, ledger_b_before, ledger_b_up, ledger_b_down, guarantee_a, guarantee_b, joint_before, joint_together, joint_after, plain_at, voting_at, in_ledger_a, in_ledger_b, in_guarantor_a, in_guarantor_b, in_joint, middle}

-- the stage, and what is wanted in each channel
pub record MiddleWants (p : Middle) (stage : ℕ) (of_ledger_a of_ledger_b of_guarantor_a of_guarantor_b of_joint : Option StateParts) : Type 0 where
  pub stage_is : stage_in (middle_rows p) ≡ stage
  pub ledger_a_is : wanted_in p.ledger_a.name (middle_rows p) ≡ of_ledger_a
  pub ledger_b_is : wanted_in p.ledger_b.name (middle_rows p) ≡ of_ledger_b
  pub guarantor_a_is : wanted_in p.guarantor_a.name (middle_rows p) ≡ of_guarantor_a
  pub guarantor_b_is : wanted_in p.guarantor_b.name (middle_rows p) ≡ of_guarantor_b
  pub joint_is : wanted_in p.joint.name (middle_rows p) ≡ of_joint

pub record MiddleRuns : Type 0 where
  pub stage_0 :
      MiddleWants
      (middle (in_ledger_a 1 4 (Some (plain_at 3 ledger_a_before)) (Some (plain_at 3 ledger_a_before)))
      (in_ledger_b 0 4 (Some (plain_at 3 ledger_b_before)) (Some (plain_at 2 ledger_b_before)))
      (in_guarantor_a 1 0 None None) (in_guarantor_b 0 0 None None) (in_joint 1 0 None None) false)
      0 None None None (Some (plain_at 0 guarantee_b)) None
  pub stage_1 :
      MiddleWants
      (middle (in_ledger_a 1 4 (Some (plain_at 3 ledger_a_before)) (Some (plain_at 3 ledger_a_before)))
      (in_ledger_b 0 4 (Some (plain_at 3 ledger_b_before)) (Some (plain_at 2 ledger_b_before)))
      (in_guarantor_a 1 1 None None) (in_guarantor_b 0 1 None None) (in_joint 1 1 None None) false)
      0 None None (Some (plain_at 1 guarantee_a)) None (Some (plain_at 1 joint_before))
  pub stage_2 :
      MiddleWants
      (middle (in_ledger_a 1 4 (Some (plain_at 3 ledger_a_before)) (Some (plain_at 3 ledger_a_before)))
      (in_ledger_b 0 4 (Some (plain_at 3 ledger_b_before)) (Some (plain_at 2 ledger_b_before)))
      (in_guarantor_a 1 2 (Some (plain_at 1 guarantee_a)) (Some (plain_at 1 guarantee_a)))
      (in_guarantor_b 0 2 (Some (plain_at 1 guarantee_b)) (Some (plain_at 0 guarantee_b)))
      (in_joint 1 3 (Some (plain_at 2 joint_before)) (Some (plain_at 1 joint_before))) false)
      1 None (Some (voting_at 4 ledger_b_before 1 ledger_b_up)) None None None
  pub stage_3 :
      MiddleWants
      (middle (in_ledger_a 1 5 (Some (voting_at 4 ledger_a_before 1 ledger_a_up)) (Some (plain_at 3 ledger_a_before)))
      (in_ledger_b 0 5 (Some (voting_at 4 ledger_b_before 1 ledger_b_up)) (Some (voting_at 4 ledger_b_before 1 ledger_b_up)))
      (in_guarantor_a 1 2 (Some (plain_at 1 guarantee_a)) (Some (plain_at 1 guarantee_a)))
      (in_guarantor_b 0 2 (Some (plain_at 1 guarantee_b)) (Some (plain_at 0 guarantee_b)))
      (in_joint 1 3 (Some (plain_at 2 joint_before)) (Some (plain_at 1 joint_before))) false)
      1 (Some (plain_at 5 ledger_a_up)) None None None None
  pub stage_4 :
      MiddleWants
      (middle (in_ledger_a 1 6 (Some (plain_at 5 ledger_a_up)) (Some (plain_at 5 ledger_a_up)))
      (in_ledger_b 0 6 (Some (plain_at 5 ledger_b_up)) (Some (voting_at 4 ledger_b_before 1 ledger_b_up)))
      (in_guarantor_a 1 2 (Some (plain_at 1 guarantee_a)) (Some (plain_at 1 guarantee_a)))
      (in_guarantor_b 0 2 (Some (plain_at 1 guarantee_b)) (Some (plain_at 0 guarantee_b)))
      (in_joint 1 3 (Some (plain_at 2 joint_before)) (Some (plain_at 1 joint_before))) false)
      1 None (Some (plain_at 6 ledger_b_up)) None None None
  pub stage_5 :
      MiddleWants
      (middle (in_ledger_a 1 7 (Some (plain_at 6 ledger_a_up)) (Some (plain_at 5 ledger_a_up)))
      (in_ledger_b 0 7 (Some (plain_at 6 ledger_b_up)) (Some (plain_at 6 ledger_b_up)))
      (in_guarantor_a 1 2 (Some (plain_at 1 guarantee_a)) (Some (plain_at 1 guarantee_a)))
      (in_guarantor_b 0 2 (Some (plain_at 1 guarantee_b)) (Some (plain_at 0 guarantee_b)))
      (in_joint 1 4 (Some (plain_at 3 joint_before)) (Some (plain_at 1 joint_before))) false)
      2 None None None None (Some (plain_at 4 joint_before))
  pub stage_6 :
      MiddleWants
      (middle (in_ledger_a 1 7 (Some (plain_at 6 ledger_a_up)) (Some (plain_at 5 ledger_a_up)))
      (in_ledger_b 0 7 (Some (plain_at 6 ledger_b_up)) (Some (plain_at 6 ledger_b_up)))
      (in_guarantor_a 1 2 (Some (plain_at 1 guarantee_a)) (Some (plain_at 1 guarantee_a)))
      (in_guarantor_b 0 2 (Some (plain_at 1 guarantee_b)) (Some (plain_at 0 guarantee_b)))
      (in_joint 1 6 (Some (plain_at 5 joint_before)) (Some (plain_at 4 joint_before))) false)
      3 None None None None None
  pub stage_7 :
      MiddleWants
      (middle (in_ledger_a 1 7 (Some (plain_at 6 ledger_a_up)) (Some (plain_at 5 ledger_a_up)))
      (in_ledger_b 0 7 (Some (plain_at 6 ledger_b_up)) (Some (plain_at 6 ledger_b_up)))
      (in_guarantor_a 1 2 (Some (plain_at 1 guarantee_a)) (Some (plain_at 1 guarantee_a)))
      (in_guarantor_b 0 2 (Some (plain_at 1 guarantee_b)) (Some (plain_at 0 guarantee_b)))
      (in_joint 1 7 (Some (voting_at 6 joint_before 2 joint_together)) (Some (plain_at 4 joint_before))) false)
      3 None None None None (Some (voting_at 7 joint_before 1 joint_together))
  pub stage_8 :
      MiddleWants
      (middle (in_ledger_a 1 7 (Some (plain_at 6 ledger_a_up)) (Some (plain_at 5 ledger_a_up)))
      (in_ledger_b 0 7 (Some (plain_at 6 ledger_b_up)) (Some (plain_at 6 ledger_b_up)))
      (in_guarantor_a 1 2 (Some (plain_at 1 guarantee_a)) (Some (plain_at 1 guarantee_a)))
      (in_guarantor_b 0 2 (Some (plain_at 1 guarantee_b)) (Some (plain_at 0 guarantee_b)))
      (in_joint 1 10 (Some (plain_at 9 joint_together)) (Some (voting_at 7 joint_before 1 joint_together))) false)
      3 None None None None (Some (plain_at 10 joint_together))
  pub stage_9 :
      MiddleWants
      (middle (in_ledger_a 1 7 (Some (plain_at 6 ledger_a_up)) (Some (plain_at 5 ledger_a_up)))
      (in_ledger_b 0 7 (Some (plain_at 6 ledger_b_up)) (Some (plain_at 6 ledger_b_up)))
      (in_guarantor_a 1 2 (Some (plain_at 1 guarantee_a)) (Some (plain_at 1 guarantee_a)))
      (in_guarantor_b 0 2 (Some (plain_at 1 guarantee_b)) (Some (plain_at 0 guarantee_b)))
      (in_joint 1 11 (Some (plain_at 10 joint_together)) (Some (plain_at 10 joint_together))) false)
      5 None None None None None
  pub stage_10 :
      MiddleWants
      (middle (in_ledger_a 1 7 (Some (plain_at 6 ledger_a_up)) (Some (plain_at 5 ledger_a_up)))
      (in_ledger_b 0 7 (Some (plain_at 6 ledger_b_up)) (Some (plain_at 6 ledger_b_up)))
      (in_guarantor_a 1 2 (Some (plain_at 1 guarantee_a)) (Some (plain_at 1 guarantee_a)))
      (in_guarantor_b 0 2 (Some (plain_at 1 guarantee_b)) (Some (plain_at 0 guarantee_b)))
      (in_joint 1 11 (Some (plain_at 10 joint_together)) (Some (plain_at 10 joint_together))) true)
      7 None None None None None
  pub stage_11 :
      MiddleWants
      (middle (in_ledger_a 1 7 (Some (plain_at 6 ledger_a_up)) (Some (plain_at 5 ledger_a_up)))
      (in_ledger_b 0 7 (Some (plain_at 6 ledger_b_up)) (Some (plain_at 6 ledger_b_up)))
      (in_guarantor_a 1 2 (Some (plain_at 1 guarantee_a)) (Some (plain_at 1 guarantee_a)))
      (in_guarantor_b 0 2 (Some (plain_at 1 guarantee_b)) (Some (plain_at 0 guarantee_b)))
      (in_joint 1 13 (Some (voting_at 12 joint_together 1 joint_after)) (Some (plain_at 10 joint_together))) true)
      7 None None None None (Some (plain_at 13 joint_after))
  pub stage_12 :
      MiddleWants
      (middle (in_ledger_a 1 7 (Some (plain_at 6 ledger_a_up)) (Some (plain_at 5 ledger_a_up)))
      (in_ledger_b 0 7 (Some (plain_at 6 ledger_b_up)) (Some (plain_at 6 ledger_b_up)))
      (in_guarantor_a 1 2 (Some (plain_at 1 guarantee_a)) (Some (plain_at 1 guarantee_a)))
      (in_guarantor_b 0 2 (Some (plain_at 1 guarantee_b)) (Some (plain_at 0 guarantee_b)))
      (in_joint 1 14 (Some (plain_at 13 joint_after)) (Some (plain_at 13 joint_after))) true)
      8 (Some (voting_at 7 ledger_a_up 1 ledger_a_down)) None None None None
  pub stage_13 :
      MiddleWants
      (middle
      (in_ledger_a 1 8 (Some (voting_at 7 ledger_a_up 1 ledger_a_down)) (Some (voting_at 7 ledger_a_up 1 ledger_a_down)))
      (in_ledger_b 0 8 (Some (voting_at 7 ledger_b_up 1 ledger_b_down)) (Some (plain_at 6 ledger_b_up)))
      (in_guarantor_a 1 2 (Some (plain_at 1 guarantee_a)) (Some (plain_at 1 guarantee_a)))
      (in_guarantor_b 0 2 (Some (plain_at 1 guarantee_b)) (Some (plain_at 0 guarantee_b)))
      (in_joint 1 16 (Some (plain_at 15 joint_after)) (Some (plain_at 13 joint_after))) true)
      8 None (Some (plain_at 8 ledger_b_down)) None None None
  pub stage_14 :
      MiddleWants
      (middle (in_ledger_a 1 9 (Some (plain_at 8 ledger_a_down)) (Some (voting_at 7 ledger_a_up 1 ledger_a_down)))
      (in_ledger_b 0 9 (Some (plain_at 8 ledger_b_down)) (Some (plain_at 8 ledger_b_down)))
      (in_guarantor_a 1 2 (Some (plain_at 1 guarantee_a)) (Some (plain_at 1 guarantee_a)))
      (in_guarantor_b 0 2 (Some (plain_at 1 guarantee_b)) (Some (plain_at 0 guarantee_b)))
      (in_joint 1 16 (Some (plain_at 15 joint_after)) (Some (plain_at 13 joint_after))) true)
      8 (Some (plain_at 9 ledger_a_down)) None None None None
  pub stage_15 :
      MiddleWants
      (middle (in_ledger_a 1 10 (Some (plain_at 9 ledger_a_down)) (Some (plain_at 9 ledger_a_down)))
      (in_ledger_b 0 10 (Some (plain_at 9 ledger_b_down)) (Some (plain_at 8 ledger_b_down)))
      (in_guarantor_a 1 2 (Some (plain_at 1 guarantee_a)) (Some (plain_at 1 guarantee_a)))
      (in_guarantor_b 0 2 (Some (plain_at 1 guarantee_b)) (Some (plain_at 0 guarantee_b)))
      (in_joint 1 16 (Some (plain_at 15 joint_after)) (Some (plain_at 13 joint_after))) true)
      9 None None None None None
  pub answer_0 :
      middle_takes
      (middle (in_ledger_a 1 4 (Some (plain_at 3 ledger_a_before)) (Some (plain_at 3 ledger_a_before)))
      (in_ledger_b 0 4 (Some (plain_at 3 ledger_b_before)) (Some (plain_at 2 ledger_b_before)))
      (in_guarantor_a 1 0 None None) (in_guarantor_b 0 1 None None) (in_joint 1 0 None None) false)
      guarantor_a (plain_at 0 guarantee_a) ≡ true
  pub answer_1 :
      middle_takes
      (middle (in_ledger_a 1 4 (Some (plain_at 3 ledger_a_before)) (Some (plain_at 3 ledger_a_before)))
      (in_ledger_b 0 4 (Some (plain_at 3 ledger_b_before)) (Some (plain_at 2 ledger_b_before)))
      (in_guarantor_a 1 1 None None) (in_guarantor_b 0 1 None None) (in_joint 1 0 None None) false)
      joint (plain_at 0 joint_before) ≡ true
  pub answer_2 :
      middle_takes
      (middle (in_ledger_a 1 4 (Some (plain_at 3 ledger_a_before)) (Some (plain_at 3 ledger_a_before)))
      (in_ledger_b 0 4 (Some (plain_at 3 ledger_b_before)) (Some (plain_at 2 ledger_b_before)))
      (in_guarantor_a 1 2 (Some (plain_at 1 guarantee_a)) (Some (plain_at 1 guarantee_a))) (in_guarantor_b 0 1 None None)
      (in_joint 1 2 None None) false)
      guarantor_b (plain_at 1 guarantee_b) ≡ true
  pub answer_3 :
      middle_takes
      (middle (in_ledger_a 1 4 (Some (plain_at 3 ledger_a_before)) (Some (plain_at 3 ledger_a_before)))
      (in_ledger_b 0 5 (Some (voting_at 4 ledger_b_before 1 ledger_b_up)) (Some (voting_at 4 ledger_b_before 1 ledger_b_up)))
      (in_guarantor_a 1 2 (Some (plain_at 1 guarantee_a)) (Some (plain_at 1 guarantee_a)))
      (in_guarantor_b 0 2 (Some (plain_at 1 guarantee_b)) (Some (plain_at 0 guarantee_b)))
      (in_joint 1 3 (Some (plain_at 2 joint_before)) (Some (plain_at 1 joint_before))) false)
      ledger_a (voting_at 4 ledger_a_before 1 ledger_a_up) ≡ true
  pub answer_4 :
      middle_takes
      (middle (in_ledger_a 1 6 (Some (plain_at 5 ledger_a_up)) (Some (plain_at 5 ledger_a_up)))
      (in_ledger_b 0 5 (Some (voting_at 4 ledger_b_before 1 ledger_b_up)) (Some (voting_at 4 ledger_b_before 1 ledger_b_up)))
      (in_guarantor_a 1 2 (Some (plain_at 1 guarantee_a)) (Some (plain_at 1 guarantee_a)))
      (in_guarantor_b 0 2 (Some (plain_at 1 guarantee_b)) (Some (plain_at 0 guarantee_b)))
      (in_joint 1 3 (Some (plain_at 2 joint_before)) (Some (plain_at 1 joint_before))) false)
      ledger_b (plain_at 5 ledger_b_up) ≡ true
  pub answer_5 :
      middle_takes
      (middle (in_ledger_a 1 6 (Some (plain_at 5 ledger_a_up)) (Some (plain_at 5 ledger_a_up)))
      (in_ledger_b 0 7 (Some (plain_at 6 ledger_b_up)) (Some (plain_at 6 ledger_b_up)))
      (in_guarantor_a 1 2 (Some (plain_at 1 guarantee_a)) (Some (plain_at 1 guarantee_a)))
      (in_guarantor_b 0 2 (Some (plain_at 1 guarantee_b)) (Some (plain_at 0 guarantee_b)))
      (in_joint 1 3 (Some (plain_at 2 joint_before)) (Some (plain_at 1 joint_before))) false)
      ledger_a (plain_at 6 ledger_a_up) ≡ true
  pub answer_6 :
      middle_takes
      (middle (in_ledger_a 1 7 (Some (plain_at 6 ledger_a_up)) (Some (plain_at 5 ledger_a_up)))
      (in_ledger_b 0 7 (Some (plain_at 6 ledger_b_up)) (Some (plain_at 6 ledger_b_up)))
      (in_guarantor_a 1 2 (Some (plain_at 1 guarantee_a)) (Some (plain_at 1 guarantee_a)))
      (in_guarantor_b 0 2 (Some (plain_at 1 guarantee_b)) (Some (plain_at 0 guarantee_b)))
      (in_joint 1 3 (Some (plain_at 2 joint_before)) (Some (plain_at 1 joint_before))) false)
      joint (plain_at 3 joint_before) ≡ true
  pub answer_7 :
      middle_takes
      (middle (in_ledger_a 1 7 (Some (plain_at 6 ledger_a_up)) (Some (plain_at 5 ledger_a_up)))
      (in_ledger_b 0 7 (Some (plain_at 6 ledger_b_up)) (Some (plain_at 6 ledger_b_up)))
      (in_guarantor_a 1 2 (Some (plain_at 1 guarantee_a)) (Some (plain_at 1 guarantee_a)))
      (in_guarantor_b 0 2 (Some (plain_at 1 guarantee_b)) (Some (plain_at 0 guarantee_b)))
      (in_joint 1 6 (Some (plain_at 5 joint_before)) (Some (plain_at 4 joint_before))) false)
      joint (voting_at 6 joint_before 2 joint_together) ≡ true
  pub answer_8 :
      middle_takes
      (middle (in_ledger_a 1 7 (Some (plain_at 6 ledger_a_up)) (Some (plain_at 5 ledger_a_up)))
      (in_ledger_b 0 7 (Some (plain_at 6 ledger_b_up)) (Some (plain_at 6 ledger_b_up)))
      (in_guarantor_a 1 2 (Some (plain_at 1 guarantee_a)) (Some (plain_at 1 guarantee_a)))
      (in_guarantor_b 0 2 (Some (plain_at 1 guarantee_b)) (Some (plain_at 0 guarantee_b)))
      (in_joint 1 8 (Some (voting_at 7 joint_before 1 joint_together)) (Some (voting_at 7 joint_before 1 joint_together)))
      false)
      joint (plain_at 8 joint_together) ≡ true
  pub answer_9 :
      middle_takes
      (middle (in_ledger_a 1 7 (Some (plain_at 6 ledger_a_up)) (Some (plain_at 5 ledger_a_up)))
      (in_ledger_b 0 7 (Some (plain_at 6 ledger_b_up)) (Some (plain_at 6 ledger_b_up)))
      (in_guarantor_a 1 2 (Some (plain_at 1 guarantee_a)) (Some (plain_at 1 guarantee_a)))
      (in_guarantor_b 0 2 (Some (plain_at 1 guarantee_b)) (Some (plain_at 0 guarantee_b)))
      (in_joint 1 11 (Some (plain_at 10 joint_together)) (Some (plain_at 10 joint_together))) true)
      joint (voting_at 11 joint_together 2 joint_after) ≡ true
  pub answer_10 :
      middle_takes
      (middle
      (in_ledger_a 1 8 (Some (voting_at 7 ledger_a_up 1 ledger_a_down)) (Some (voting_at 7 ledger_a_up 1 ledger_a_down)))
      (in_ledger_b 0 7 (Some (plain_at 6 ledger_b_up)) (Some (plain_at 6 ledger_b_up)))
      (in_guarantor_a 1 2 (Some (plain_at 1 guarantee_a)) (Some (plain_at 1 guarantee_a)))
      (in_guarantor_b 0 2 (Some (plain_at 1 guarantee_b)) (Some (plain_at 0 guarantee_b)))
      (in_joint 1 14 (Some (plain_at 13 joint_after)) (Some (plain_at 13 joint_after))) true)
      joint (plain_at 14 joint_after) ≡ true
  pub answer_11 :
      middle_takes
      (middle
      (in_ledger_a 1 8 (Some (voting_at 7 ledger_a_up 1 ledger_a_down)) (Some (voting_at 7 ledger_a_up 1 ledger_a_down)))
      (in_ledger_b 0 7 (Some (plain_at 6 ledger_b_up)) (Some (plain_at 6 ledger_b_up)))
      (in_guarantor_a 1 2 (Some (plain_at 1 guarantee_a)) (Some (plain_at 1 guarantee_a)))
      (in_guarantor_b 0 2 (Some (plain_at 1 guarantee_b)) (Some (plain_at 0 guarantee_b)))
      (in_joint 1 16 (Some (plain_at 15 joint_after)) (Some (plain_at 13 joint_after))) true)
      ledger_b (voting_at 7 ledger_b_up 1 ledger_b_down) ≡ true
  pub answer_12 :
      middle_takes
      (middle
      (in_ledger_a 1 8 (Some (voting_at 7 ledger_a_up 1 ledger_a_down)) (Some (voting_at 7 ledger_a_up 1 ledger_a_down)))
      (in_ledger_b 0 9 (Some (plain_at 8 ledger_b_down)) (Some (plain_at 8 ledger_b_down)))
      (in_guarantor_a 1 2 (Some (plain_at 1 guarantee_a)) (Some (plain_at 1 guarantee_a)))
      (in_guarantor_b 0 2 (Some (plain_at 1 guarantee_b)) (Some (plain_at 0 guarantee_b)))
      (in_joint 1 16 (Some (plain_at 15 joint_after)) (Some (plain_at 13 joint_after))) true)
      ledger_a (plain_at 8 ledger_a_down) ≡ true
