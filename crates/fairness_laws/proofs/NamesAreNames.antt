-- Names of channels and of people are digests, and so names.
use Rattle.std.proofs.Common.{ℕ, zero, suc, List, [], ◌∷◌, map}
use Rattle.std.specs.Int.{w32, byte_len, to_be_bytes}
use Rattle.std.specs.List.{AllByRecursion, slice_index}
use Rattle.sha2.proofs.Facts256.{length-sha256}
use Rattle.sha2.specs.Sha256.{sha256, digest_bytes}
use Rattle.channel_values.specs.Outcomes.{AreBytes, IsName}
use Rattle.channel_values.specs.Digests.{name_of_channel, name_of_person}
use Rattle.fairness_laws.specs.LedgerEvents.{NamesAreNames}
use Rattle.fairness_laws.proofs.Ledger.Spelled.{none, append, number}

digests : (h : List ℕ) (n : ℕ) → AreBytes (digest_bytes h n)
unfolding digest_bytes
digests h zero = none
digests h (suc n) = append (digest_bytes h n) (to_be_bytes w32 (slice_index h n)) (digests h n) (number (byte_len w32) (slice_index h n))

pub sums : (m : List ℕ) → IsName (sha256 m)
unfolding sha256
sums m = (length-sha256 m, digests _ 8)

pub names_are_names : NamesAreNames
unfolding name_of_channel
names_are_names f = sums _

pub people_are_names : (keys : List (List ℕ)) → AllByRecursion IsName (map name_of_person keys)
unfolding name_of_person
people_are_names [] = tt
people_are_names (key ∷ keys) = (sums _, people_are_names keys)
