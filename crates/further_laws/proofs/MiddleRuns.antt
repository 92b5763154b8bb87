-- What an independent model of the network says of the intermediary of a virtual channel, through whole runs, by
-- computation.
use Rattle.std.proofs.Common.{refl}
use Rattle.channel_values.specs.Reading.{dest_at, many_at, item_at, listed_at, count_at, allocation_at, guarantee_at, shape_at, asset_at, outcome_at, all_of}
use Rattle.channel_values.specs.Spelling.{outcome}
use Rattle.support_rules.specs.Toward.{wanted_toward}
use Rattle.further_laws.specs.MiddleRuns.{MiddleRuns}

pub runs : MiddleRuns
unfolding outcome wanted_toward dest_at many_at item_at listed_at count_at allocation_at guarantee_at shape_at asset_at outcome_at all_of
runs = record {
  stage_0 = record { stage_is = refl; ledger_a_is = refl; ledger_b_is = refl; guarantor_a_is = refl; guarantor_b_is = refl; joint_is = refl };
  stage_1 = record { stage_is = refl; ledger_a_is = refl; ledger_b_is = refl; guarantor_a_is = refl; guarantor_b_is = refl; joint_is = refl };
  stage_2 = record { stage_is = refl; ledger_a_is = refl; ledger_b_is = refl; guarantor_a_is = refl; guarantor_b_is = refl; joint_is = refl };
  stage_3 = record { stage_is = refl; ledger_a_is = refl; ledger_b_is = refl; guarantor_a_is = refl; guarantor_b_is = refl; joint_is = refl };
  stage_4 = record { stage_is = refl; ledger_a_is = refl; ledger_b_is = refl; guarantor_a_is = refl; guarantor_b_is = refl; joint_is = refl };
  stage_5 = record { stage_is = refl; ledger_a_is = refl; ledger_b_is = refl; guarantor_a_is = refl; guarantor_b_is = refl; joint_is = refl };
  stage_6 = record { stage_is = refl; ledger_a_is = refl; ledger_b_is = refl; guarantor_a_is = refl; guarantor_b_is = refl; joint_is = refl };
  stage_7 = record { stage_is = refl; ledger_a_is = refl; ledger_b_is = refl; guarantor_a_is = refl; guarantor_b_is = refl; joint_is = refl };
  stage_8 = record { stage_is = refl; ledger_a_is = refl; ledger_b_is = refl; guarantor_a_is = refl; guarantor_b_is = refl; joint_is = refl };
  stage_9 = record { stage_is = refl; ledger_a_is = refl; ledger_b_is = refl; guarantor_a_is = refl; guarantor_b_is = refl; joint_is = refl };
  stage_10 = record { stage_is = refl; ledger_a_is = refl; ledger_b_is = refl; guarantor_a_is = refl; guarantor_b_is = refl; joint_is = refl };
  stage_11 = record { stage_is = refl; ledger_a_is = refl; ledger_b_is = refl; guarantor_a_is = refl; guarantor_b_is = refl; joint_is = refl };
  stage_12 = record { stage_is = refl; ledger_a_is = refl; ledger_b_is = refl; guarantor_a_is = refl; guarantor_b_is = refl; joint_is = refl };
  stage_13 = record { stage_is = refl; ledger_a_is = refl; ledger_b_is = refl; guarantor_a_is = refl; guarantor_b_is = refl; joint_is = refl };
  stage_14 = record { stage_is = refl; ledger_a_is = refl; ledger_b_is = refl; guarantor_a_is = refl; guarantor_b_is = refl; joint_is = refl };
  stage_15 = record { stage_is = refl; ledger_a_is = refl; ledger_b_is = refl; guarantor_a_is = refl; guarantor_b_is = refl; joint_is = refl };
  answer_0 = refl;
  answer_1 = refl;
  answer_2 = refl;
  answer_3 = refl;
  answer_4 = refl;
  answer_5 = refl;
  answer_6 = refl;
  answer_7 = refl;
  answer_8 = refl;
  answer_9 = refl;
  answer_10 = refl;
  answer_11 = refl;
  answer_12 = refl;
}
