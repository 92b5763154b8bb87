-- A node that lost nothing and followed the whole history knows what its journal says.
use Rattle.std.proofs.Common.{◌≡◌, ℕ, ◌≤◌, Bool, cond, List, [], ◌∷◌, ◌++◌, length, refl, sym, ◌∙◌, ap, subst, arith}
use Rattle.channel_safety.proofs.Lists.{length-up}
use Rattle.call_history.specs.History.{Legal, newest_first}
use Rattle.call_history.specs.declared.entry.Entry.{Entry}
use Rattle.channel_safety.proofs.Rowing.{legal-suffix}
use Rattle.channel_node.proofs.Standing.{known}
use Rattle.channel_node.specs.Minds.{Mind, facts_of}
use Rattle.channel_node.specs.Nodes.{told_of}
use Rattle.channel_node.specs.Places.{mind_at}
use Rattle.channel_node.specs.Playing.{signing_of}
use Rattle.channel_node.specs.Standing.{Knows}
use Rattle.stage_tables.specs.Stages.{stages}
use Rattle.node_guarantees.proofs.Kept.{few-values}
use Rattle.node_guarantees.specs.Commanded.{told}
use Rattle.node_guarantees.specs.Placed.{IsPlaced}
use Rattle.node_guarantees.specs.Ways.{Numbered, key_of, ways}
use Rattle.support_rules.specs.Real.{real}
use Rattle.node_guarantees.specs.Telling.{FactsAreReal}
use Rattle.network_node.specs.Shares.{is_lost, facts}

-- nothing comes after as many entries as there are
no-more : (later past : List Entry) → length past ≡ length (later ++ past) → past ≡ later ++ past
no-more [] past len = refl
no-more (e ∷ later) past len = let up : length past ≤ length (later ++ past) = length-up later past in absurd (omega (arith, len, up))

module _ (h : List Entry) (p : Numbered) (legal : Legal real h) (knows : Knows real (signing_of p.node.signer) h p.node) (count : p.node.mind.view.count ≡ length h) where
  abbrev key : List ℕ
  key = (signing_of p.node.signer).key

  past-few : Legal real knows.past
  past-few = legal-suffix real knows.later knows.past (subst (Legal real) knows.split legal)

  counts : (mind_at real key knows.past (told_of p.node)).view.count ≡ length knows.past
  counts = (known real key (record { keys = []; nonce = 0; app = 0; duration = 0 }) knows.past (told_of p.node) past-few knows.few).view.count

  whole : knows.past ≡ h
  whole =
      no-more knows.later knows.past
      (sym counts ∙ (ap (λ (m : Mind). m.view.count) (sym knows.mind) ∙ (count ∙ ap (λ (es : List Entry). length es) knows.split)))
      ∙ sym knows.split

  mind-is : p.node.mind ≡ mind_at real key h (told_of p.node)
  mind-is = knows.mind ∙ ap (λ (past : List Entry). mind_at real key past (told_of p.node)) whole

pub nodes_know : FactsAreReal ways IsPlaced is_lost facts told
unfolding signing_of
nodes_know history p legal valid placed kept seen =
    ap facts_of
    (mind-is (newest_first history) p legal ((placed.stands (few-values (newest_first history) valid)).knows kept)
    (sym (ap (λ (b : Bool). cond b 0 p.node.mind.view.count) kept) ∙ seen))
