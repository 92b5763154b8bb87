-- A race brings about that a node's watchers are in time, so what rests on that holds for the network's node.
use Rattle.std.proofs.Common.{ℕ, List, ◌++◌, inl}
use Rattle.channel_values.specs.Collisions.{NoneCollide}
use Rattle.call_history.specs.History.{Legal}
use Rattle.call_history.specs.declared.entry.Entry.{Entry}
use Rattle.support_rules.specs.Real.{real}
use Rattle.channel_safety.proofs.Members.{In-append_left, contains, contained}
use Rattle.channel_safety.specs.Occurring.{AreValid}
use Rattle.channel_safety.specs.Races.{IsRaced}
use Rattle.channel_node.specs.Nodes.{told_of}
use Rattle.channel_node.specs.Playing.{signing_of}
use Rattle.stage_tables.specs.Stages.{stages}
use Rattle.channel_node.proofs.Keys.{made_keys_sign_well}
use Rattle.fairness_laws.proofs.Kept.{plans_keep_shares}
use Rattle.fairness_laws.proofs.Plans.{valid-few}
use Rattle.node_guarantees.specs.Ways.{Numbered, ways}
use Rattle.node_guarantees.specs.Placed.{IsPlaced}
use Rattle.channel_node.specs.Races.{OpensLasting, PlaysRace}
use Rattle.channel_node.proofs.Raced.{racers-in_time, racers-safe}
use Rattle.network_node.specs.RaceFairnessLaws.{RacedPlansKeepShares, RacingNodesAreInTime, RacingNodesAreSafe, RacingNodesKeepShares}

-- of more strings none collide, so none of these
fewer-collide : (xs more : List (List ℕ)) → NoneCollide (xs ++ more) → NoneCollide xs
fewer-collide xs more none a b i j same =
    none a b (contains a (xs ++ more) (In-append_left a xs more (contained a xs i)))
    (contains b (xs ++ more) (In-append_left b xs more (contained b xs j))) same

pub plans-kept : RacedPlansKeepShares
plans-kept s h journal ends signs race valid unforged none =
    plans_keep_shares s h journal signs race.legal race.plays valid unforged none
    (racers-in_time stages s h journal ends race valid (fewer-collide _ _ none))

-- ---- a node of a world

plays-race : (h : List Entry) (p : Numbered) (ends : List ℕ) → Legal real h → IsPlaced h p
    → IsRaced h (ways.lines p) ends → OpensLasting (ways.lines p) → AreValid h (ways.lines p)
    → PlaysRace stages real (signing_of p.node.signer) h (told_of p.node) ends
unfolding signing_of
plays-race h p ends legal placed raced lasting valid = record {
  legal = legal;
  plays = (placed.stands (valid-few h (ways.lines p) (λ e f i is. valid.fixed f (inl (e, i, is))))).plays;
  raced = raced;
  lasting = lasting;
}

pub nodes-in_time : RacingNodesAreInTime
unfolding signing_of
nodes-in_time h p ends legal placed raced lasting valid none =
    racers-in_time stages (signing_of p.node.signer) h (told_of p.node) ends
    (plays-race h p ends legal placed raced lasting valid) valid none

pub nodes-safe : RacingNodesAreSafe
unfolding signing_of
nodes-safe h p ends legal placed raced lasting valid unforged none =
    racers-safe stages (signing_of p.node.signer) h (told_of p.node) ends (made_keys_sign_well p.node.signer placed.sound)
    (plays-race h p ends legal placed raced lasting valid) valid unforged none

pub nodes-keep : RacingNodesKeepShares
unfolding signing_of
nodes-keep h p ends legal placed raced lasting valid unforged none =
    plans-kept (signing_of p.node.signer) h (told_of p.node) ends (made_keys_sign_well p.node.signer placed.sound)
    (plays-race h p ends legal placed raced lasting valid) valid unforged none
