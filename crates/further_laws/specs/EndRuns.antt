-- What an independent model of the network says of the ends of a virtual channel, through whole runs.
use Rattle.std.specs.Prelude.{◌≡◌, ℕ, true, false, Option, Some, None}
use Rattle.channel_values.specs.Parts.{StateParts}
use Rattle.funding_plans.specs.Rows.{stage_in, wanted_in}
use Rattle.virtual_channel.specs.Ends.{End, end_rows, end_takes}
use Rattle.further_laws.specs.Words.{ledger_a, ledger_b, guarantor_a, guarantor_b, joint, channel, ledger_a_before, ledger_a_up, ledger_a_down, ledger_b_before, ledger_b_up, ledger_b_down, guarantee_a, guarantee_b, joint_before, joint_together, joint_after, opening, channel_after, plain_at, final_at, voting_at, in_ledger_a, in_ledger_b, in_guarantor_a, in_guarantor_b, in_joint, in_channel, end_a, end_b}

-- the stage, and what is wanted in each channel
pub record EndWants (p : End) (stage : ℕ) (of_ledger of_guarantor of_joint of_channel : Option StateParts) : Type 0 where
  pub stage_is : stage_in (end_rows p) ≡ stage
  pub ledger_is : wanted_in p.ledger.name (end_rows p) ≡ of_ledger
  pub guarantor_is : wanted_in p.guarantor.name (end_rows p) ≡ of_guarantor
  pub joint_is : wanted_in p.joint.name (end_rows p) ≡ of_joint
  pub channel_is : wanted_in p.channel.name (end_rows p) ≡ of_channel

pub record EndRuns : Type 0 where
  pub stage_0 :
      EndWants
      (end_a (in_ledger_a 0 4 (Some (plain_at 3 ledger_a_before)) (Some (plain_at 2 ledger_a_before)))
      (in_guarantor_a 0 0 None None) (in_joint 0 0 None None) (in_channel 0 0 None None false) false)
      0 None (Some (plain_at 0 guarantee_a)) (Some (plain_at 0 joint_before)) (Some (plain_at 0 opening))
  pub stage_1 :
      EndWants
      (end_b (in_ledger_b 1 4 (Some (plain_at 3 ledger_b_before)) (Some (plain_at 3 ledger_b_before)))
      (in_guarantor_b 1 1 None None) (in_joint 2 1 None None) (in_channel 1 1 None None false) false)
      0 None (Some (plain_at 1 guarantee_b)) None (Some (plain_at 1 opening))
  pub stage_2 :
      EndWants
      (end_b (in_ledger_b 1 4 (Some (plain_at 3 ledger_b_before)) (Some (plain_at 3 ledger_b_before)))
      (in_guarantor_b 1 2 (Some (plain_at 1 guarantee_b)) (Some (plain_at 1 guarantee_b))) (in_joint 2 2 None None)
      (in_channel 1 2 (Some (plain_at 1 opening)) (Some (plain_at 1 opening)) false) false)
      0 None None (Some (plain_at 2 joint_before)) None
  pub stage_3 :
      EndWants
      (end_a (in_ledger_a 0 4 (Some (plain_at 3 ledger_a_before)) (Some (plain_at 2 ledger_a_before)))
      (in_guarantor_a 0 2 (Some (plain_at 1 guarantee_a)) (Some (plain_at 0 guarantee_a)))
      (in_joint 0 3 (Some (plain_at 2 joint_before)) (Some (plain_at 0 joint_before)))
      (in_channel 0 2 (Some (plain_at 1 opening)) (Some (plain_at 0 opening)) false) false)
      1 (Some (voting_at 4 ledger_a_before 1 ledger_a_up)) None None None
  pub stage_4 :
      EndWants
      (end_b (in_ledger_b 1 5 (Some (voting_at 4 ledger_b_before 1 ledger_b_up)) (Some (plain_at 3 ledger_b_before)))
      (in_guarantor_b 1 2 (Some (plain_at 1 guarantee_b)) (Some (plain_at 1 guarantee_b)))
      (in_joint 2 3 (Some (plain_at 2 joint_before)) (Some (plain_at 2 joint_before)))
      (in_channel 1 2 (Some (plain_at 1 opening)) (Some (plain_at 1 opening)) false) false)
      1 (Some (plain_at 5 ledger_b_up)) None None None
  pub stage_5 :
      EndWants
      (end_a (in_ledger_a 0 6 (Some (plain_at 5 ledger_a_up)) (Some (voting_at 4 ledger_a_before 1 ledger_a_up)))
      (in_guarantor_a 0 2 (Some (plain_at 1 guarantee_a)) (Some (plain_at 0 guarantee_a)))
      (in_joint 0 3 (Some (plain_at 2 joint_before)) (Some (plain_at 0 joint_before)))
      (in_channel 0 2 (Some (plain_at 1 opening)) (Some (plain_at 0 opening)) false) false)
      1 (Some (plain_at 6 ledger_a_up)) None None None
  pub stage_6 :
      EndWants
      (end_b (in_ledger_b 1 6 (Some (plain_at 5 ledger_b_up)) (Some (plain_at 5 ledger_b_up)))
      (in_guarantor_b 1 2 (Some (plain_at 1 guarantee_b)) (Some (plain_at 1 guarantee_b)))
      (in_joint 2 3 (Some (plain_at 2 joint_before)) (Some (plain_at 2 joint_before)))
      (in_channel 1 2 (Some (plain_at 1 opening)) (Some (plain_at 1 opening)) false) false)
      2 None None None None
  pub stage_7 :
      EndWants
      (end_b (in_ledger_b 1 7 (Some (plain_at 6 ledger_b_up)) (Some (plain_at 5 ledger_b_up)))
      (in_guarantor_b 1 2 (Some (plain_at 1 guarantee_b)) (Some (plain_at 1 guarantee_b)))
      (in_joint 2 5 (Some (plain_at 4 joint_before)) (Some (plain_at 2 joint_before)))
      (in_channel 1 2 (Some (plain_at 1 opening)) (Some (plain_at 1 opening)) false) false)
      2 None None (Some (plain_at 5 joint_before)) None
  pub stage_8 :
      EndWants
      (end_a (in_ledger_a 0 7 (Some (plain_at 6 ledger_a_up)) (Some (plain_at 6 ledger_a_up)))
      (in_guarantor_a 0 2 (Some (plain_at 1 guarantee_a)) (Some (plain_at 0 guarantee_a)))
      (in_joint 0 6 (Some (plain_at 5 joint_before)) (Some (plain_at 3 joint_before)))
      (in_channel 0 2 (Some (plain_at 1 opening)) (Some (plain_at 0 opening)) false) false)
      3 None None (Some (voting_at 6 joint_before 2 joint_together)) None
  pub stage_9 :
      EndWants
      (end_b (in_ledger_b 1 7 (Some (plain_at 6 ledger_b_up)) (Some (plain_at 5 ledger_b_up)))
      (in_guarantor_b 1 2 (Some (plain_at 1 guarantee_b)) (Some (plain_at 1 guarantee_b)))
      (in_joint 2 8 (Some (voting_at 7 joint_before 1 joint_together)) (Some (plain_at 5 joint_before)))
      (in_channel 1 2 (Some (plain_at 1 opening)) (Some (plain_at 1 opening)) false) false)
      3 None None (Some (plain_at 8 joint_together)) None
  pub stage_10 :
      EndWants
      (end_a (in_ledger_a 0 7 (Some (plain_at 6 ledger_a_up)) (Some (plain_at 6 ledger_a_up)))
      (in_guarantor_a 0 2 (Some (plain_at 1 guarantee_a)) (Some (plain_at 0 guarantee_a)))
      (in_joint 0 9 (Some (plain_at 8 joint_together)) (Some (voting_at 6 joint_before 2 joint_together)))
      (in_channel 0 2 (Some (plain_at 1 opening)) (Some (plain_at 0 opening)) false) false)
      3 None None (Some (plain_at 9 joint_together)) None
  pub stage_11 :
      EndWants
      (end_b (in_ledger_b 1 7 (Some (plain_at 6 ledger_b_up)) (Some (plain_at 5 ledger_b_up)))
      (in_guarantor_b 1 2 (Some (plain_at 1 guarantee_b)) (Some (plain_at 1 guarantee_b)))
      (in_joint 2 9 (Some (plain_at 8 joint_together)) (Some (plain_at 8 joint_together)))
      (in_channel 1 2 (Some (plain_at 1 opening)) (Some (plain_at 1 opening)) false) false)
      4 None None None None
  pub stage_12 :
      EndWants
      (end_b (in_ledger_b 1 7 (Some (plain_at 6 ledger_b_up)) (Some (plain_at 5 ledger_b_up)))
      (in_guarantor_b 1 2 (Some (plain_at 1 guarantee_b)) (Some (plain_at 1 guarantee_b)))
      (in_joint 2 10 (Some (plain_at 9 joint_together)) (Some (plain_at 8 joint_together)))
      (in_channel 1 3 (Some (plain_at 2 opening)) (Some (plain_at 1 opening)) false) false)
      4 None None None (Some (plain_at 3 opening))
  pub stage_13 :
      EndWants
      (end_a (in_ledger_a 0 7 (Some (plain_at 6 ledger_a_up)) (Some (plain_at 6 ledger_a_up)))
      (in_guarantor_a 0 2 (Some (plain_at 1 guarantee_a)) (Some (plain_at 0 guarantee_a)))
      (in_joint 0 11 (Some (plain_at 10 joint_together)) (Some (plain_at 9 joint_together)))
      (in_channel 0 4 (Some (plain_at 3 opening)) (Some (plain_at 2 opening)) false) false)
      5 None None None None
  pub stage_14 :
      EndWants
      (end_a (in_ledger_a 0 7 (Some (plain_at 6 ledger_a_up)) (Some (plain_at 6 ledger_a_up)))
      (in_guarantor_a 0 2 (Some (plain_at 1 guarantee_a)) (Some (plain_at 0 guarantee_a)))
      (in_joint 0 11 (Some (plain_at 10 joint_together)) (Some (plain_at 9 joint_together)))
      (in_channel 0 5 (Some (plain_at 4 channel_after)) (Some (plain_at 4 channel_after)) false) true)
      6 None None None None
  pub stage_15 :
      EndWants
      (end_b (in_ledger_b 1 7 (Some (plain_at 6 ledger_b_up)) (Some (plain_at 5 ledger_b_up)))
      (in_guarantor_b 1 2 (Some (plain_at 1 guarantee_b)) (Some (plain_at 1 guarantee_b)))
      (in_joint 2 11 (Some (plain_at 10 joint_together)) (Some (plain_at 8 joint_together)))
      (in_channel 1 5 (Some (plain_at 4 channel_after)) (Some (plain_at 3 opening)) false) true)
      6 None None None (Some (final_at 5 channel_after))
  pub stage_16 :
      EndWants
      (end_a (in_ledger_a 0 7 (Some (plain_at 6 ledger_a_up)) (Some (plain_at 6 ledger_a_up)))
      (in_guarantor_a 0 2 (Some (plain_at 1 guarantee_a)) (Some (plain_at 0 guarantee_a)))
      (in_joint 0 11 (Some (plain_at 10 joint_together)) (Some (plain_at 9 joint_together)))
      (in_channel 0 6 (Some (final_at 5 channel_after)) (Some (plain_at 4 channel_after)) false) true)
      6 None None None (Some (final_at 6 channel_after))
  pub stage_17 :
      EndWants
      (end_a (in_ledger_a 0 7 (Some (plain_at 6 ledger_a_up)) (Some (plain_at 6 ledger_a_up)))
      (in_guarantor_a 0 2 (Some (plain_at 1 guarantee_a)) (Some (plain_at 0 guarantee_a)))
      (in_joint 0 11 (Some (plain_at 10 joint_together)) (Some (plain_at 9 joint_together)))
      (in_channel 0 7 (Some (final_at 6 channel_after)) (Some (final_at 6 channel_after)) true) true)
      7 None None None None
  pub stage_18 :
      EndWants
      (end_b (in_ledger_b 1 7 (Some (plain_at 6 ledger_b_up)) (Some (plain_at 5 ledger_b_up)))
      (in_guarantor_b 1 2 (Some (plain_at 1 guarantee_b)) (Some (plain_at 1 guarantee_b)))
      (in_joint 2 11 (Some (plain_at 10 joint_together)) (Some (plain_at 8 joint_together)))
      (in_channel 1 7 (Some (final_at 6 channel_after)) (Some (final_at 5 channel_after)) true) true)
      7 None None (Some (voting_at 11 joint_together 2 joint_after)) None
  pub stage_19 :
      EndWants
      (end_a (in_ledger_a 0 7 (Some (plain_at 6 ledger_a_up)) (Some (plain_at 6 ledger_a_up)))
      (in_guarantor_a 0 2 (Some (plain_at 1 guarantee_a)) (Some (plain_at 0 guarantee_a)))
      (in_joint 0 12 (Some (voting_at 11 joint_together 2 joint_after)) (Some (plain_at 9 joint_together)))
      (in_channel 0 7 (Some (final_at 6 channel_after)) (Some (final_at 6 channel_after)) true) true)
      7 None None (Some (voting_at 12 joint_together 1 joint_after)) None
  pub stage_20 :
      EndWants
      (end_b (in_ledger_b 1 7 (Some (plain_at 6 ledger_b_up)) (Some (plain_at 5 ledger_b_up)))
      (in_guarantor_b 1 2 (Some (plain_at 1 guarantee_b)) (Some (plain_at 1 guarantee_b)))
      (in_joint 2 14 (Some (plain_at 13 joint_after)) (Some (voting_at 11 joint_together 2 joint_after)))
      (in_channel 1 7 (Some (final_at 6 channel_after)) (Some (final_at 5 channel_after)) true) true)
      7 None None (Some (plain_at 14 joint_after)) None
  pub stage_21 :
      EndWants
      (end_a (in_ledger_a 0 8 (Some (voting_at 7 ledger_a_up 1 ledger_a_down)) (Some (plain_at 6 ledger_a_up)))
      (in_guarantor_a 0 2 (Some (plain_at 1 guarantee_a)) (Some (plain_at 0 guarantee_a)))
      (in_joint 0 15 (Some (plain_at 14 joint_after)) (Some (voting_at 12 joint_together 1 joint_after)))
      (in_channel 0 7 (Some (final_at 6 channel_after)) (Some (final_at 6 channel_after)) true) true)
      7 None None (Some (plain_at 15 joint_after)) None
  pub stage_22 :
      EndWants
      (end_b (in_ledger_b 1 7 (Some (plain_at 6 ledger_b_up)) (Some (plain_at 5 ledger_b_up)))
      (in_guarantor_b 1 2 (Some (plain_at 1 guarantee_b)) (Some (plain_at 1 guarantee_b)))
      (in_joint 2 15 (Some (plain_at 14 joint_after)) (Some (plain_at 14 joint_after)))
      (in_channel 1 7 (Some (final_at 6 channel_after)) (Some (final_at 5 channel_after)) true) true)
      8 (Some (voting_at 7 ledger_b_up 1 ledger_b_down)) None None None
  pub stage_23 :
      EndWants
      (end_a (in_ledger_a 0 8 (Some (voting_at 7 ledger_a_up 1 ledger_a_down)) (Some (plain_at 6 ledger_a_up)))
      (in_guarantor_a 0 2 (Some (plain_at 1 guarantee_a)) (Some (plain_at 0 guarantee_a)))
      (in_joint 0 16 (Some (plain_at 15 joint_after)) (Some (plain_at 15 joint_after)))
      (in_channel 0 7 (Some (final_at 6 channel_after)) (Some (final_at 6 channel_after)) true) true)
      8 (Some (plain_at 8 ledger_a_down)) None None None
  pub stage_24 :
      EndWants
      (end_a (in_ledger_a 0 9 (Some (plain_at 8 ledger_a_down)) (Some (plain_at 8 ledger_a_down)))
      (in_guarantor_a 0 2 (Some (plain_at 1 guarantee_a)) (Some (plain_at 0 guarantee_a)))
      (in_joint 0 16 (Some (plain_at 15 joint_after)) (Some (plain_at 15 joint_after)))
      (in_channel 0 7 (Some (final_at 6 channel_after)) (Some (final_at 6 channel_after)) true) true)
      9 None None None None
  pub stage_25 :
      EndWants
      (end_b (in_ledger_b 1 9 (Some (plain_at 8 ledger_b_down)) (Some (voting_at 7 ledger_b_up 1 ledger_b_down)))
      (in_guarantor_b 1 2 (Some (plain_at 1 guarantee_b)) (Some (plain_at 1 guarantee_b)))
      (in_joint 2 16 (Some (plain_at 15 joint_after)) (Some (plain_at 14 joint_after)))
      (in_channel 1 7 (Some (final_at 6 channel_after)) (Some (final_at 5 channel_after)) true) true)
      8 (Some (plain_at 9 ledger_b_down)) None None None
  pub answer_0 :
      end_takes
      (end_b (in_ledger_b 1 4 (Some (plain_at 3 ledger_b_before)) (Some (plain_at 3 ledger_b_before)))
      (in_guarantor_b 1 0 None None) (in_joint 2 0 None None) (in_channel 1 0 None None false) false)
      joint (plain_at 0 joint_before) ≡ true
  pub answer_1 :
      end_takes
      (end_b (in_ledger_b 1 4 (Some (plain_at 3 ledger_b_before)) (Some (plain_at 3 ledger_b_before)))
      (in_guarantor_b 1 0 None None) (in_joint 2 1 None None) (in_channel 1 0 None None false) false)
      channel (plain_at 0 opening) ≡ true
  pub answer_2 :
      end_takes
      (end_b (in_ledger_b 1 4 (Some (plain_at 3 ledger_b_before)) (Some (plain_at 3 ledger_b_before)))
      (in_guarantor_b 1 0 None None) (in_joint 2 1 None None) (in_channel 1 1 None None false) false)
      guarantor_b (plain_at 0 guarantee_b) ≡ true
  pub answer_3 :
      end_takes
      (end_a (in_ledger_a 0 4 (Some (plain_at 3 ledger_a_before)) (Some (plain_at 2 ledger_a_before)))
      (in_guarantor_a 0 1 None None) (in_joint 0 1 None None) (in_channel 0 1 None None false) false)
      guarantor_a (plain_at 1 guarantee_a) ≡ true
  pub answer_4 :
      end_takes
      (end_b (in_ledger_b 1 4 (Some (plain_at 3 ledger_b_before)) (Some (plain_at 3 ledger_b_before)))
      (in_guarantor_b 1 2 (Some (plain_at 1 guarantee_b)) (Some (plain_at 1 guarantee_b)))
      (in_joint 2 3 (Some (plain_at 2 joint_before)) (Some (plain_at 2 joint_before)))
      (in_channel 1 2 (Some (plain_at 1 opening)) (Some (plain_at 1 opening)) false) false)
      ledger_b (voting_at 4 ledger_b_before 1 ledger_b_up) ≡ true
  pub answer_5 :
      end_takes
      (end_a
      (in_ledger_a 0 5 (Some (voting_at 4 ledger_a_before 1 ledger_a_up)) (Some (voting_at 4 ledger_a_before 1 ledger_a_up)))
      (in_guarantor_a 0 2 (Some (plain_at 1 guarantee_a)) (Some (plain_at 0 guarantee_a)))
      (in_joint 0 3 (Some (plain_at 2 joint_before)) (Some (plain_at 0 joint_before)))
      (in_channel 0 2 (Some (plain_at 1 opening)) (Some (plain_at 0 opening)) false) false)
      ledger_a (plain_at 5 ledger_a_up) ≡ true
  pub answer_6 :
      end_takes
      (end_b (in_ledger_b 1 6 (Some (plain_at 5 ledger_b_up)) (Some (plain_at 5 ledger_b_up)))
      (in_guarantor_b 1 2 (Some (plain_at 1 guarantee_b)) (Some (plain_at 1 guarantee_b)))
      (in_joint 2 3 (Some (plain_at 2 joint_before)) (Some (plain_at 2 joint_before)))
      (in_channel 1 2 (Some (plain_at 1 opening)) (Some (plain_at 1 opening)) false) false)
      joint (plain_at 3 joint_before) ≡ true
  pub answer_7 :
      end_takes
      (end_b (in_ledger_b 1 6 (Some (plain_at 5 ledger_b_up)) (Some (plain_at 5 ledger_b_up)))
      (in_guarantor_b 1 2 (Some (plain_at 1 guarantee_b)) (Some (plain_at 1 guarantee_b)))
      (in_joint 2 4 (Some (plain_at 3 joint_before)) (Some (plain_at 2 joint_before)))
      (in_channel 1 2 (Some (plain_at 1 opening)) (Some (plain_at 1 opening)) false) false)
      ledger_b (plain_at 6 ledger_b_up) ≡ true
  pub answer_8 :
      end_takes
      (end_b (in_ledger_b 1 7 (Some (plain_at 6 ledger_b_up)) (Some (plain_at 5 ledger_b_up)))
      (in_guarantor_b 1 2 (Some (plain_at 1 guarantee_b)) (Some (plain_at 1 guarantee_b)))
      (in_joint 2 6 (Some (plain_at 5 joint_before)) (Some (plain_at 5 joint_before)))
      (in_channel 1 2 (Some (plain_at 1 opening)) (Some (plain_at 1 opening)) false) false)
      joint (voting_at 6 joint_before 2 joint_together) ≡ true
  pub answer_9 :
      end_takes
      (end_a (in_ledger_a 0 7 (Some (plain_at 6 ledger_a_up)) (Some (plain_at 6 ledger_a_up)))
      (in_guarantor_a 0 2 (Some (plain_at 1 guarantee_a)) (Some (plain_at 0 guarantee_a)))
      (in_joint 0 8 (Some (voting_at 7 joint_before 1 joint_together)) (Some (voting_at 6 joint_before 2 joint_together)))
      (in_channel 0 2 (Some (plain_at 1 opening)) (Some (plain_at 0 opening)) false) false)
      joint (plain_at 8 joint_together) ≡ true
  pub answer_10 :
      end_takes
      (end_b (in_ledger_b 1 7 (Some (plain_at 6 ledger_b_up)) (Some (plain_at 5 ledger_b_up)))
      (in_guarantor_b 1 2 (Some (plain_at 1 guarantee_b)) (Some (plain_at 1 guarantee_b)))
      (in_joint 2 9 (Some (plain_at 8 joint_together)) (Some (plain_at 8 joint_together)))
      (in_channel 1 2 (Some (plain_at 1 opening)) (Some (plain_at 1 opening)) false) false)
      joint (plain_at 9 joint_together) ≡ true
  pub answer_11 :
      end_takes
      (end_b (in_ledger_b 1 7 (Some (plain_at 6 ledger_b_up)) (Some (plain_at 5 ledger_b_up)))
      (in_guarantor_b 1 2 (Some (plain_at 1 guarantee_b)) (Some (plain_at 1 guarantee_b)))
      (in_joint 2 10 (Some (plain_at 9 joint_together)) (Some (plain_at 8 joint_together)))
      (in_channel 1 2 (Some (plain_at 1 opening)) (Some (plain_at 1 opening)) false) false)
      channel (plain_at 2 opening) ≡ true
  pub answer_12 :
      end_takes
      (end_b (in_ledger_b 1 7 (Some (plain_at 6 ledger_b_up)) (Some (plain_at 5 ledger_b_up)))
      (in_guarantor_b 1 2 (Some (plain_at 1 guarantee_b)) (Some (plain_at 1 guarantee_b)))
      (in_joint 2 10 (Some (plain_at 9 joint_together)) (Some (plain_at 8 joint_together)))
      (in_channel 1 4 (Some (plain_at 3 opening)) (Some (plain_at 3 opening)) false) false)
      joint (plain_at 10 joint_together) ≡ true
  pub answer_13 :
      end_takes
      (end_b (in_ledger_b 1 7 (Some (plain_at 6 ledger_b_up)) (Some (plain_at 5 ledger_b_up)))
      (in_guarantor_b 1 2 (Some (plain_at 1 guarantee_b)) (Some (plain_at 1 guarantee_b)))
      (in_joint 2 11 (Some (plain_at 10 joint_together)) (Some (plain_at 8 joint_together)))
      (in_channel 1 4 (Some (plain_at 3 opening)) (Some (plain_at 3 opening)) false) false)
      channel (plain_at 4 channel_after) ≡ true
  pub answer_14 :
      end_takes
      (end_a (in_ledger_a 0 7 (Some (plain_at 6 ledger_a_up)) (Some (plain_at 6 ledger_a_up)))
      (in_guarantor_a 0 2 (Some (plain_at 1 guarantee_a)) (Some (plain_at 0 guarantee_a)))
      (in_joint 0 11 (Some (plain_at 10 joint_together)) (Some (plain_at 9 joint_together)))
      (in_channel 0 5 (Some (plain_at 4 channel_after)) (Some (plain_at 4 channel_after)) false) true)
      channel (final_at 5 channel_after) ≡ true
  pub answer_15 :
      end_takes
      (end_a (in_ledger_a 0 7 (Some (plain_at 6 ledger_a_up)) (Some (plain_at 6 ledger_a_up)))
      (in_guarantor_a 0 2 (Some (plain_at 1 guarantee_a)) (Some (plain_at 0 guarantee_a)))
      (in_joint 0 11 (Some (plain_at 10 joint_together)) (Some (plain_at 9 joint_together)))
      (in_channel 0 7 (Some (final_at 6 channel_after)) (Some (final_at 6 channel_after)) true) true)
      joint (voting_at 11 joint_together 2 joint_after) ≡ true
  pub answer_16 :
      end_takes
      (end_a (in_ledger_a 0 7 (Some (plain_at 6 ledger_a_up)) (Some (plain_at 6 ledger_a_up)))
      (in_guarantor_a 0 2 (Some (plain_at 1 guarantee_a)) (Some (plain_at 0 guarantee_a)))
      (in_joint 0 13 (Some (voting_at 12 joint_together 1 joint_after)) (Some (voting_at 12 joint_together 1 joint_after)))
      (in_channel 0 7 (Some (final_at 6 channel_after)) (Some (final_at 6 channel_after)) true) true)
      joint (plain_at 13 joint_after) ≡ true
  pub answer_17 :
      end_takes
      (end_a (in_ledger_a 0 7 (Some (plain_at 6 ledger_a_up)) (Some (plain_at 6 ledger_a_up)))
      (in_guarantor_a 0 2 (Some (plain_at 1 guarantee_a)) (Some (plain_at 0 guarantee_a)))
      (in_joint 0 14 (Some (plain_at 13 joint_after)) (Some (voting_at 12 joint_together 1 joint_after)))
      (in_channel 0 7 (Some (final_at 6 channel_after)) (Some (final_at 6 channel_after)) true) true)
      ledger_a (voting_at 7 ledger_a_up 1 ledger_a_down) ≡ true
  pub answer_18 :
      end_takes
      (end_b
      (in_ledger_b 1 8 (Some (voting_at 7 ledger_b_up 1 ledger_b_down)) (Some (voting_at 7 ledger_b_up 1 ledger_b_down)))
      (in_guarantor_b 1 2 (Some (plain_at 1 guarantee_b)) (Some (plain_at 1 guarantee_b)))
      (in_joint 2 15 (Some (plain_at 14 joint_after)) (Some (plain_at 14 joint_after)))
      (in_channel 1 7 (Some (final_at 6 channel_after)) (Some (final_at 5 channel_after)) true) true)
      joint (plain_at 15 joint_after) ≡ true
  pub answer_19 :
      end_takes
      (end_b
      (in_ledger_b 1 8 (Some (voting_at 7 ledger_b_up 1 ledger_b_down)) (Some (voting_at 7 ledger_b_up 1 ledger_b_down)))
      (in_guarantor_b 1 2 (Some (plain_at 1 guarantee_b)) (Some (plain_at 1 guarantee_b)))
      (in_joint 2 16 (Some (plain_at 15 joint_after)) (Some (plain_at 14 joint_after)))
      (in_channel 1 7 (Some (final_at 6 channel_after)) (Some (final_at 5 channel_after)) true) true)
      ledger_b (plain_at 8 ledger_b_down) ≡ true
