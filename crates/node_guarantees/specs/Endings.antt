-- How a person with a node ended, for somebody who checks a record of the run.
use Rattle.std.specs.Prelude.{ℕ, List, map}
use Rattle.call_history.specs.History.{newest_first, flows_of}
use Rattle.call_history.specs.declared.entry.Entry.{Entry}
use Rattle.channel_values.specs.Digests.{name_of_person}
use Rattle.asset_holder.specs.Receipts.{assets_of}
use Rattle.funding_plans.specs.Known.{FactsOf}
use Rattle.run_record.specs.Sound.{HasPlan, HasShares}
use Rattle.channel_node.specs.Minds.{facts_of}
use Rattle.channel_node.specs.Places.{Told, mind_at}
use Rattle.run_record.specs.declared.run_record.Ending.{Ending}
use Rattle.support_rules.specs.Real.{real}
use Rattle.node_guarantees.specs.Promised.{share_at_end}

-- The history is in the order of time, and the events of the journal with their commands stand newest first.
module _ (history : List Entry) (key : List ℕ) (events : List Told) where
  -- what the node knows at the end
  abbrev pub facts_at_end : FactsOf
  facts_at_end = facts_of (mind_at real key (newest_first history) events)

  -- what its person can get, of each asset that was deposited, rising
  abbrev pub shares_at_end : List (ℕ × ℕ)
  shares_at_end = map (λ asset. (asset, share_at_end (newest_first history) key events asset)) (assets_of (flows_of history))

  -- its plan, the states that it signed last and the chains that it holds, with these shares
  abbrev pub ending_of : Ending
  ending_of =
      record {
        person = name_of_person key;
        plan = facts_at_end.plan;
        known = facts_at_end.known;
        chains = facts_at_end.chains;
        shares = shares_at_end;
      }

  -- a checker finds no fault in it
  pub record EndsWell : Type 0 where
    pub plan : HasPlan history ending_of
    pub shares : HasShares history ending_of
