-- Nobody lowers the share of a node's person, and it can leave with it.
use Rattle.std.proofs.Common.{inl}
use Rattle.std.specs.Prelude.{List}
use Rattle.call_history.specs.declared.entry.Entry.{Entry}
use Rattle.channel_safety.specs.Occurring.{AreValid}
use Rattle.fairness_laws.proofs.Ending.{nodes_end_well}
use Rattle.fairness_laws.proofs.Kept.{plans_keep_shares, nodes_sign_fairly}
use Rattle.fairness_laws.proofs.Plans.{valid-few}
use Rattle.channel_node.proofs.Keys.{made_keys_sign_well}
use Rattle.channel_node.specs.Nodes.{told_of}
use Rattle.channel_node.specs.Playing.{signing_of, Plays}
use Rattle.stage_tables.specs.Stages.{stages}
use Rattle.node_guarantees.specs.Commanded.{told}
use Rattle.node_guarantees.specs.Ways.{Numbered, ways}
use Rattle.node_guarantees.specs.Placed.{IsPlaced}
use Rattle.support_rules.specs.Real.{real}
use Rattle.node_guarantees.specs.Telling.{KeepsShares}
use Rattle.network_node.specs.Leaving.{paid_on_exit}

plays-so : (h : List Entry) (p : Numbered) → IsPlaced h p → AreValid h (ways.lines p) → Plays stages real (signing_of p.node.signer) h (told_of p.node)
plays-so h p placed valid = (placed.stands (valid-few h (ways.lines p) (λ e f i is. valid.fixed f (inl (e, i, is))))).plays

pub nodes_hold : KeepsShares ways IsPlaced told
unfolding signing_of
nodes_hold h p legal placed =
    let signs = made_keys_sign_well p.node.signer placed.sound in
    record {
      fair = λ valid unforged apart. nodes_sign_fairly (signing_of p.node.signer) h (told_of p.node) signs legal (plays-so h p placed valid) valid unforged apart;
      ends = λ valid unforged apart. nodes_end_well (signing_of p.node.signer) h (told_of p.node) signs legal (plays-so h p placed valid) valid unforged apart;
      kept = λ valid unforged apart early. plans_keep_shares (signing_of p.node.signer) h (told_of p.node) signs legal (plays-so h p placed valid) valid unforged apart early;
      paid = λ valid unforged apart early.
          paid_on_exit (signing_of p.node.signer) h (told_of p.node) legal (plays-so h p placed valid)
          (plans_keep_shares (signing_of p.node.signer) h (told_of p.node) signs legal (plays-so h p placed valid) valid unforged apart early).paid;
    }
