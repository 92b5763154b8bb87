-- What an independent model of the network says of the ends of a virtual channel, through whole runs, by computation.
use Rattle.std.proofs.Common.{refl}
use Rattle.channel_values.specs.Reading.{dest_at, many_at, item_at, listed_at, count_at, allocation_at, guarantee_at, shape_at, asset_at, outcome_at, all_of}
use Rattle.channel_values.specs.Spelling.{outcome}
use Rattle.support_rules.specs.Toward.{wanted_toward}
use Rattle.further_laws.specs.EndRuns.{EndRuns}

pub runs : EndRuns
unfolding outcome wanted_toward dest_at many_at item_at listed_at count_at allocation_at guarantee_at shape_at asset_at outcome_at all_of
runs = record {
  stage_0 = record { stage_is = refl; ledger_is = refl; guarantor_is = refl; joint_is = refl; channel_is = refl };
  stage_1 = record { stage_is = refl; ledger_is = refl; guarantor_is = refl; joint_is = refl; channel_is = refl };
  stage_2 = record { stage_is = refl; ledger_is = refl; guarantor_is = refl; joint_is = refl; channel_is = refl };
  stage_3 = record { stage_is = refl; ledger_is = refl; guarantor_is = refl; joint_is = refl; channel_is = refl };
  stage_4 = record { stage_is = refl; ledger_is = refl; guarantor_is = refl; joint_is = refl; channel_is = refl };
  stage_5 = record { stage_is = refl; ledger_is = refl; guarantor_is = refl; joint_is = refl; channel_is = refl };
  stage_6 = record { stage_is = refl; ledger_is = refl; guarantor_is = refl; joint_is = refl; channel_is = refl };
  stage_7 = record { stage_is = refl; ledger_is = refl; guarantor_is = refl; joint_is = refl; channel_is = refl };
  stage_8 = record { stage_is = refl; ledger_is = refl; guarantor_is = refl; joint_is = refl; channel_is = refl };
  stage_9 = record { stage_is = refl; ledger_is = refl; guarantor_is = refl; joint_is = refl; channel_is = refl };
  stage_10 = record { stage_is = refl; ledger_is = refl; guarantor_is = refl; joint_is = refl; channel_is = refl };
  stage_11 = record { stage_is = refl; ledger_is = refl; guarantor_is = refl; joint_is = refl; channel_is = refl };
  stage_12 = record { stage_is = refl; ledger_is = refl; guarantor_is = refl; joint_is = refl; channel_is = refl };
  stage_13 = record { stage_is = refl; ledger_is = refl; guarantor_is = refl; joint_is = refl; channel_is = refl };
  stage_14 = record { stage_is = refl; ledger_is = refl; guarantor_is = refl; joint_is = refl; channel_is = refl };
  stage_15 = record { stage_is = refl; ledger_is = refl; guarantor_is = refl; joint_is = refl; channel_is = refl };
  stage_16 = record { stage_is = refl; ledger_is = refl; guarantor_is = refl; joint_is = refl; channel_is = refl };
  stage_17 = record { stage_is = refl; ledger_is = refl; guarantor_is = refl; joint_is = refl; channel_is = refl };
  stage_18 = record { stage_is = refl; ledger_is = refl; guarantor_is = refl; joint_is = refl; channel_is = refl };
  stage_19 = record { stage_is = refl; ledger_is = refl; guarantor_is = refl; joint_is = refl; channel_is = refl };
  stage_20 = record { stage_is = refl; ledger_is = refl; guarantor_is = refl; joint_is = refl; channel_is = refl };
  stage_21 = record { stage_is = refl; ledger_is = refl; guarantor_is = refl; joint_is = refl; channel_is = refl };
  stage_22 = record { stage_is = refl; ledger_is = refl; guarantor_is = refl; joint_is = refl; channel_is = refl };
  stage_23 = record { stage_is = refl; ledger_is = refl; guarantor_is = refl; joint_is = refl; channel_is = refl };
  stage_24 = record { stage_is = refl; ledger_is = refl; guarantor_is = refl; joint_is = refl; channel_is = refl };
  stage_25 = record { stage_is = refl; ledger_is = refl; guarantor_is = refl; joint_is = refl; channel_is = refl };
  answer_0 = refl;
  answer_1 = refl;
  answer_2 = refl;
  answer_3 = refl;
  answer_4 = refl;
  answer_5 = refl;
  answer_6 = refl;
  answer_7 = refl;
  answer_8 = refl;
  answer_9 = refl;
  answer_10 = refl;
  answer_11 = refl;
  answer_12 = refl;
  answer_13 = refl;
  answer_14 = refl;
  answer_15 = refl;
  answer_16 = refl;
  answer_17 = refl;
  answer_18 = refl;
  answer_19 = refl;
}
