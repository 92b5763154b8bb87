-- The network's rules are rules whose names and digests are hashes.
use Rattle.std.proofs.Common.{refl, List}
use Rattle.call_history.specs.declared.entry.Entry.{Entry}
use Rattle.support_rules.specs.Real.{real}
use Rattle.support_rules.proofs.Finals.{real_keeps_final}
use Rattle.channel_safety.specs.Journals.{Line}
use Rattle.channel_safety.specs.Occurring.{AreValid}
use Rattle.channel_safety.specs.Hashing.{Hashes}
use Rattle.channel_safety.proofs.Telling.{hashed-safe, hashed-steps, hashed-cleared}
use Rattle.network.specs.Network.{NetworkOutcomesAreNotOlder, NetworkChainsHaveTheSteps, FewNetworkChallengesAreCleared}

real_hashes : Hashes real
real_hashes = record { named = λ f. refl; digest = λ channel s. refl; outcome_digest = λ o. refl }

pub network-safe : (h : List Entry) (journal : List Line) → AreValid h journal → NetworkOutcomesAreNotOlder h journal
network-safe h journal valid key legal honest unforged none in_time = hashed-safe real key h journal real_keeps_final real_hashes legal honest unforged none valid in_time

pub network-steps : (h : List Entry) (journal : List Line) → AreValid h journal → NetworkChainsHaveTheSteps h journal
network-steps h journal valid key legal honest unforged none = hashed-steps real key h journal real_keeps_final real_hashes legal honest unforged none valid

pub network-cleared : (h : List Entry) (journal : List Line) → AreValid h journal → FewNetworkChallengesAreCleared h journal
network-cleared h journal valid key legal honest unforged none = hashed-cleared real key h journal real_keeps_final real_hashes legal honest unforged none valid
