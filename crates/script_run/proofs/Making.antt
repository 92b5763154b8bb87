-- The two signers of a load, and what they and their channel are.
use Rattle.std.proofs.Common.{◌≡◌, ℕ, true, false, List, inl, inr, refl, ap, subst, arith}
use Rattle.std.specs.Prelude.{◌^◌, nat_lt, Some, Result}
use Rattle.std.specs.Result.{result_ok}
use Rattle.std.specs.Str.{bytes_eq}
use Rattle.channel_values.specs.Chains.{IsSignature}
use Rattle.channel_values.specs.Parts.{FixedParts}
use Rattle.channel_values.specs.declared.fault.ByteFault.{ByteFault}
use Rattle.channel_values.proofs.Format.{valid_again}
use Rattle.channel_values.proofs.Formats.{fixed_format}
use Rattle.channel_safety.proofs.Tests.{lt-true}
use Rattle.channel_values.specs.Digests.{name_of_person}
use Rattle.script_run.specs.Load.{key_seed, digest_of, are_two}
use Rattle.script_run.proofs.Kept.{is_fixed}
use Rattle.script_reader.proofs.Kept.{two_keys}
use Rattle.fairness_laws.proofs.NamesAreNames.{names_are_names, sums}
use Rattle.channel_node.specs.Keys.{FitsSigner}
use Rattle.channel_node.proofs.Keys.{made_keys_sign_well}
use Rattle.channel_node.specs.Playing.{SignerOf, signing_of}
use Rattle.node_guarantees.specs.Ways.{made_of, key_of as ways_key}
use Rattle.channel_values.specs.Outcomes.{IsName}
use Rattle.script_run.specs.TwoPeople.{fixed}
use Rattle.script_run.specs.Finish.{AreMade}
use Rattle.step_meanings.specs.Meanings.{valid_fixed}
use Rattle.script_play.proofs.Meant.{id_long}
use Rattle.script_steps.specs.Digests.{fresh, key_of}
use Rattle.support_rules.specs.Real.{real}
use Rattle.fairness_laws.proofs.Finding.{flips, not-true}
use Rattle.script_run.specs.Paying.{pair_of}
use Rattle.script_run.proofs.Bytes.{made_is_signature, key_is_key}

-- what the person's signer is made of
abbrev pub signer_of : (letter seed : ℕ) → SignerOf
signer_of letter seed = made_of (fresh (key_seed letter seed) 10)

pub key_is : (letter seed : ℕ) → (signing_of (signer_of letter seed)).key ≡ key_of (key_seed letter seed) 10
unfolding signing_of key_of
key_is letter seed = refl

-- as its node has it
pub own_key : (letter seed : ℕ) → ways_key (signer_of letter seed) ≡ key_of (key_seed letter seed) 10
unfolding key_of
own_key letter seed = refl

pub limit_is : (letter seed : ℕ) → (signing_of (signer_of letter seed)).limit ≡ 2 ^ 10
unfolding signing_of
limit_is letter seed = refl

signs : (letter seed used : ℕ) (message : List ℕ) → IsSignature ((signing_of (signer_of letter seed)).made used message)
unfolding signing_of
signs letter seed used message = made_is_signature _ _ 10 used message

sound : (letter seed : ℕ) → FitsSigner (signer_of letter seed)
sound letter seed = record { sixteen = id_long (key_seed letter seed); height = inr (inl refl) }

well : (letter seed used : ℕ) (message : List ℕ) → nat_lt used (signing_of (signer_of letter seed)).limit ≡ true
    → real.verifies (key_of (key_seed letter seed) 10) message ((signing_of (signer_of letter seed)).made used message) ≡ true
well letter seed used message below =
    subst (λ (key : List ℕ). real.verifies key message ((signing_of (signer_of letter seed)).made used message) ≡ true) (key_is letter seed)
    (made_keys_sign_well (signer_of letter seed) (sound letter seed) used message (lt-true used (signing_of (signer_of letter seed)).limit below))

person-name : (key : List ℕ) → IsName (name_of_person key)
unfolding name_of_person
person-name key = sums _

pub digests_differ : (seed : ℕ) → are_two seed ≡ true → bytes_eq (digest_of 65 seed) (digest_of 66 seed) ≡ false
digests_differ seed two = not-true (bytes_eq (digest_of 65 seed) (digest_of 66 seed)) two

keys-differ : (seed : ℕ) → are_two seed ≡ true → bytes_eq (pair_of seed).key_a (pair_of seed).key_b ≡ false
keys-differ seed two = two_keys (pair_of seed).key_a (pair_of seed).key_b (digests_differ seed two)

pub are_made : (seed : ℕ) → are_two seed ≡ true → AreMade (pair_of seed) (signer_of 65 seed) (signer_of 66 seed)
are_made seed two = record {
  channel = names_are_names (fixed (pair_of seed));
  person_a = person-name (pair_of seed).key_a;
  person_b = person-name (pair_of seed).key_b;
  apart = digests_differ seed two;
  keys = flips (pair_of seed).key_a (pair_of seed).key_b (keys-differ seed two);
  asset = omega arith;
  some_a = omega arith;
  some_b = omega arith;
  sum = omega arith;
  well_a = λ used s below. well 65 seed used _ below;
  well_b = λ used s below. well 66 seed used _ below;
  short_a = λ used message. signs 65 seed used message;
  short_b = λ used message. signs 66 seed used message;
}

-- the channel is declared as it stands
pub is_valid : (seed : ℕ) → are_two seed ≡ true → valid_fixed (fixed (pair_of seed)) ≡ Some (fixed (pair_of seed))
is_valid seed two =
    ap (λ (r : Result FixedParts ByteFault). result_ok r)
    (valid_again fixed_format (fixed (pair_of seed))
    (is_fixed (pair_of seed).key_a (pair_of seed).key_b (key_is_key (key_seed 65 seed) 10) (key_is_key (key_seed 66 seed) 10) (keys-differ seed two)))
