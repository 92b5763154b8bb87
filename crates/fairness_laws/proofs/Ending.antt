-- A checker finds no fault in how a person with a node ended.
use Rattle.std.proofs.Common.{◌≡◌, ℕ, ◌≤◌, List, [], map, refl, sym, ◌∙◌, ap, subst}
use Rattle.std.specs.Prelude.{count_by}
use Rattle.call_history.specs.History.{newest_first, flows_of}
use Rattle.call_history.specs.declared.entry.Entry.{Entry}
use Rattle.call_history.specs.declared.held_chain.Known.{Known}
use Rattle.fairness_laws.proofs.Few.{few-two}
use Rattle.fairness_laws.proofs.Firsts.{all-first}
use Rattle.fairness_laws.proofs.Grounded.{grounded}
use Rattle.fairness_laws.proofs.Lists.{distinct-of}
use Rattle.fairness_laws.proofs.Viewing.{shares_seen, HasSharesSeen, shares_told}
use Rattle.fairness_laws.specs.EndingLaws.{NodesEndWell}
use Rattle.fairness_laws.proofs.Kept.{is-fair}
use Rattle.fairness_laws.proofs.Plan.Places.{apart-there}
use Rattle.fairness_laws.proofs.Plan.Plans.{plans_are_whole}
use Rattle.fairness_laws.proofs.Plans.{whole-place}
use Rattle.fairness_laws.specs.PaymentLaws.{At}
use Rattle.fairness_laws.specs.PlanSettings.{IsFair}
use Rattle.asset_holder.specs.Receipts.{assets_of}
use Rattle.funding_plans.specs.Known.{FactsOf}
use Rattle.funding_plans.specs.Parts.{channels}
use Rattle.run_record.specs.Plans.{joined, firsts, has_two}
use Rattle.run_record.specs.Sound.{HasPlan}
use Rattle.channel_node.specs.Minds.{Mind, facts_of}
use Rattle.channel_node.specs.Places.{Told, mind_at}
use Rattle.channel_node.specs.Playing.{Signing}
use Rattle.node_guarantees.proofs.Telling.{places_tell_shares}
use Rattle.node_guarantees.specs.NodeShareLaws.{KnowsShare}
use Rattle.stage_tables.specs.Stages.{stages}
use Rattle.node_guarantees.specs.Endings.{ending_of, EndsWell}
use Rattle.share_laws.specs.Plans.{AllStandOn}
use Rattle.support_rules.specs.Real.{real}
use mathlib.Core.Path.{fun_ext}

module _ (s : Signing) (history : List Entry) (journal : List Told) (fair : IsFair s (newest_first history) journal) where
  abbrev h : List Entry
  h = newest_first history

  abbrev m : Mind
  m = mind_at real s.key h journal

  abbrev f : FactsOf
  f = facts_of m

  at : At s h journal h journal
  at = whole-place s h journal fair

  knows : KnowsShare real s.key journal h journal m
  knows = places_tell_shares stages real s h journal h journal fair.nodes.legal fair.nodes.plays at.front_is

  first-known : firsts (joined m.parts) f.known ≡ f.known
  first-known = all-first s h journal fair h journal at

  tellable : HasPlan history (ending_of history s.key journal)
  tellable = record {
    once = distinct-of (channels m.parts) (apart-there s h journal fair.nodes h journal at.front_is);
    grounded = grounded m.parts (subst (AllStandOn []) (sym knows.parts) (plans_are_whole s h journal h journal fair.nodes at.front_is).whole.on_ledgers);
    few = subst (λ (ks : List Known). count_by (has_two real h) ks ≤ 2) (sym first-known) (few-two s h journal fair);
  }

  abbrev assets : List ℕ
  assets = assets_of (flows_of history)

  seen : HasSharesSeen m.view assets (ending_of history s.key journal)
  seen =
      ap (λ (share : ℕ → ℕ × ℕ). map share assets) (fun_ext (λ asset. ap (λ (n : ℕ). (asset, n)) (sym (knows.shares asset))))
      ∙ ap (λ (ks : List Known). shares_seen m.view f.plan ks assets) (sym first-known)

  pub well : EndsWell history s.key journal
  well = record { plan = tellable; shares = shares_told history m.view assets (ending_of history s.key journal) knows.view refl seen }

pub nodes_end_well : NodesEndWell
nodes_end_well s h journal signs legal plays valid unforged none history is =
    well s history journal (subst (λ (past : List Entry). IsFair s past journal) (sym is) (is-fair s h journal signs legal plays valid unforged none))
