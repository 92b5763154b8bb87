-- The network's steps keep what is possible and what is final, and its names and digests are hashes.
use Rattle.channel_values.specs.Digests.{name_of_person}
use Rattle.support_rules.specs.Real.{real}
use Rattle.support_rules.proofs.Finals.{real_keeps_final}
use Rattle.node_guarantees.proofs.RealShares.{steps_possible, hashes}
use Rattle.share_laws.proofs.Ends.{hashed_end}
use Rattle.node_guarantees.specs.Held.{HeldStatesCanEnd}

pub states_end : HeldStatesCanEnd
states_end key h journal legal honest unforged none valid = hashed_end real key (name_of_person key) h journal real_keeps_final (steps_possible key) hashes legal honest unforged none valid
