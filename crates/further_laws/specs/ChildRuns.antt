-- What an independent model of the network says of a channel on a ledger, through whole runs.
use Rattle.std.specs.Prelude.{◌≡◌, ℕ, true, false, Option, Some, None}
use Rattle.channel_values.specs.Parts.{StateParts}
use Rattle.funding_plans.specs.Rows.{stage_in, wanted_in}
use Rattle.ledger_channel.specs.OnLedgers.{Funded, on_ledger_rows, on_ledger_takes}
use Rattle.further_laws.specs.Words.{ledger, child, ledger_before, ledger_up, ledger_down, opening, child_after, plain_at, final_at, voting_at, in_ledger, in_child, funded}

-- the stage, and what is wanted in each channel
pub record ChildWants (p : Funded) (stage : ℕ) (of_ledger of_channel : Option StateParts) : Type 0 where
  pub stage_is : stage_in (on_ledger_rows p) ≡ stage
  pub ledger_is : wanted_in p.ledger.name (on_ledger_rows p) ≡ of_ledger
  pub channel_is : wanted_in p.channel.name (on_ledger_rows p) ≡ of_channel

pub record ChildRuns : Type 0 where
  pub stage_0 :
      ChildWants
      (funded (in_child 0 0 None None false) (in_ledger 0 4 (Some (plain_at 3 ledger_before)) (Some (plain_at 2 ledger_before))) false)
      0 None (Some (plain_at 0 opening))
  pub stage_1 :
      ChildWants
      (funded (in_child 1 1 None None false) (in_ledger 1 4 (Some (plain_at 3 ledger_before)) (Some (plain_at 3 ledger_before))) false)
      0 None (Some (plain_at 1 opening))
  pub stage_2 :
      ChildWants
      (funded (in_child 0 2 (Some (plain_at 1 opening)) (Some (plain_at 0 opening)) false)
      (in_ledger 0 4 (Some (plain_at 3 ledger_before)) (Some (plain_at 2 ledger_before))) false)
      1 (Some (voting_at 4 ledger_before 1 ledger_up)) None
  pub stage_3 :
      ChildWants
      (funded (in_child 1 2 (Some (plain_at 1 opening)) (Some (plain_at 1 opening)) false)
      (in_ledger 1 5 (Some (voting_at 4 ledger_before 1 ledger_up)) (Some (plain_at 3 ledger_before))) false)
      1 (Some (plain_at 5 ledger_up)) None
  pub stage_4 :
      ChildWants
      (funded (in_child 0 2 (Some (plain_at 1 opening)) (Some (plain_at 0 opening)) false)
      (in_ledger 0 6 (Some (plain_at 5 ledger_up)) (Some (voting_at 4 ledger_before 1 ledger_up))) false)
      1 (Some (plain_at 6 ledger_up)) None
  pub stage_5 :
      ChildWants
      (funded (in_child 1 2 (Some (plain_at 1 opening)) (Some (plain_at 1 opening)) false)
      (in_ledger 1 6 (Some (plain_at 5 ledger_up)) (Some (plain_at 5 ledger_up))) false)
      2 None None
  pub stage_6 :
      ChildWants
      (funded (in_child 1 3 (Some (plain_at 2 opening)) (Some (plain_at 1 opening)) false)
      (in_ledger 1 7 (Some (plain_at 6 ledger_up)) (Some (plain_at 5 ledger_up))) false)
      2 None (Some (plain_at 3 opening))
  pub stage_7 :
      ChildWants
      (funded (in_child 0 4 (Some (plain_at 3 opening)) (Some (plain_at 2 opening)) false)
      (in_ledger 0 7 (Some (plain_at 6 ledger_up)) (Some (plain_at 6 ledger_up))) false)
      3 None None
  pub stage_8 :
      ChildWants
      (funded (in_child 0 5 (Some (plain_at 4 child_after)) (Some (plain_at 4 child_after)) false)
      (in_ledger 0 7 (Some (plain_at 6 ledger_up)) (Some (plain_at 6 ledger_up))) true)
      4 None None
  pub stage_9 :
      ChildWants
      (funded (in_child 1 5 (Some (plain_at 4 child_after)) (Some (plain_at 3 opening)) false)
      (in_ledger 1 7 (Some (plain_at 6 ledger_up)) (Some (plain_at 5 ledger_up))) true)
      4 None (Some (final_at 5 child_after))
  pub stage_10 :
      ChildWants
      (funded (in_child 0 6 (Some (final_at 5 child_after)) (Some (plain_at 4 child_after)) false)
      (in_ledger 0 7 (Some (plain_at 6 ledger_up)) (Some (plain_at 6 ledger_up))) true)
      4 None (Some (final_at 6 child_after))
  pub stage_11 :
      ChildWants
      (funded (in_child 0 7 (Some (final_at 6 child_after)) (Some (final_at 6 child_after)) true)
      (in_ledger 0 7 (Some (plain_at 6 ledger_up)) (Some (plain_at 6 ledger_up))) true)
      5 None None
  pub stage_12 :
      ChildWants
      (funded (in_child 1 7 (Some (final_at 6 child_after)) (Some (final_at 5 child_after)) true)
      (in_ledger 1 7 (Some (plain_at 6 ledger_up)) (Some (plain_at 5 ledger_up))) true)
      5 (Some (voting_at 7 ledger_up 1 ledger_down)) None
  pub stage_13 :
      ChildWants
      (funded (in_child 0 7 (Some (final_at 6 child_after)) (Some (final_at 6 child_after)) true)
      (in_ledger 0 8 (Some (voting_at 7 ledger_up 1 ledger_down)) (Some (plain_at 6 ledger_up))) true)
      5 (Some (plain_at 8 ledger_down)) None
  pub stage_14 :
      ChildWants
      (funded (in_child 0 7 (Some (final_at 6 child_after)) (Some (final_at 6 child_after)) true)
      (in_ledger 0 9 (Some (plain_at 8 ledger_down)) (Some (plain_at 8 ledger_down))) true)
      6 None None
  pub stage_15 :
      ChildWants
      (funded (in_child 1 7 (Some (final_at 6 child_after)) (Some (final_at 5 child_after)) true)
      (in_ledger 1 9 (Some (plain_at 8 ledger_down)) (Some (voting_at 7 ledger_up 1 ledger_down))) true)
      5 (Some (plain_at 9 ledger_down)) None
  pub answer_0 :
      on_ledger_takes
      (funded (in_child 1 0 None None false) (in_ledger 1 4 (Some (plain_at 3 ledger_before)) (Some (plain_at 3 ledger_before))) false)
      child (plain_at 0 opening) ≡ true
  pub answer_1 :
      on_ledger_takes
      (funded (in_child 1 2 (Some (plain_at 1 opening)) (Some (plain_at 1 opening)) false)
      (in_ledger 1 4 (Some (plain_at 3 ledger_before)) (Some (plain_at 3 ledger_before))) false)
      ledger (voting_at 4 ledger_before 1 ledger_up) ≡ true
  pub answer_2 :
      on_ledger_takes
      (funded (in_child 0 2 (Some (plain_at 1 opening)) (Some (plain_at 0 opening)) false)
      (in_ledger 0 5 (Some (voting_at 4 ledger_before 1 ledger_up)) (Some (voting_at 4 ledger_before 1 ledger_up))) false)
      ledger (plain_at 5 ledger_up) ≡ true
  pub answer_3 :
      on_ledger_takes
      (funded (in_child 1 2 (Some (plain_at 1 opening)) (Some (plain_at 1 opening)) false)
      (in_ledger 1 6 (Some (plain_at 5 ledger_up)) (Some (plain_at 5 ledger_up))) false)
      ledger (plain_at 6 ledger_up) ≡ true
  pub answer_4 :
      on_ledger_takes
      (funded (in_child 1 2 (Some (plain_at 1 opening)) (Some (plain_at 1 opening)) false)
      (in_ledger 1 7 (Some (plain_at 6 ledger_up)) (Some (plain_at 5 ledger_up))) false)
      child (plain_at 2 opening) ≡ true
  pub answer_5 :
      on_ledger_takes
      (funded (in_child 1 4 (Some (plain_at 3 opening)) (Some (plain_at 3 opening)) false)
      (in_ledger 1 7 (Some (plain_at 6 ledger_up)) (Some (plain_at 5 ledger_up))) false)
      child (plain_at 4 child_after) ≡ true
  pub answer_6 :
      on_ledger_takes
      (funded (in_child 0 5 (Some (plain_at 4 child_after)) (Some (plain_at 4 child_after)) false)
      (in_ledger 0 7 (Some (plain_at 6 ledger_up)) (Some (plain_at 6 ledger_up))) true)
      child (final_at 5 child_after) ≡ true
  pub answer_7 :
      on_ledger_takes
      (funded (in_child 0 7 (Some (final_at 6 child_after)) (Some (final_at 6 child_after)) true)
      (in_ledger 0 7 (Some (plain_at 6 ledger_up)) (Some (plain_at 6 ledger_up))) true)
      ledger (voting_at 7 ledger_up 1 ledger_down) ≡ true
  pub answer_8 :
      on_ledger_takes
      (funded (in_child 1 7 (Some (final_at 6 child_after)) (Some (final_at 5 child_after)) true)
      (in_ledger 1 8 (Some (voting_at 7 ledger_up 1 ledger_down)) (Some (voting_at 7 ledger_up 1 ledger_down))) true)
      ledger (plain_at 8 ledger_down) ≡ true
