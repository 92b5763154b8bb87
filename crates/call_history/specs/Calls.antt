-- Calls from their fields, in the order of these.
use Rattle.std.specs.Prelude.{ℕ, List}
use Rattle.channel_values.specs.Parts.{FixedParts, StateParts}
use Rattle.channel_values.specs.declared.chain.Chain.{Chain}
use Rattle.channel_values.specs.declared.chain.Signed.{Signed}
use Rattle.channel_values.specs.declared.value.AssetOutcome.{AssetOutcome}
use Rattle.call_history.specs.declared.call.Call.{Call}
use Rattle.call_history.specs.declared.call.Call.TheVariants.{Deposit, Challenge, Respond, Transfer, Claim}

abbrev pub make_deposit : List ℕ → ℕ → ℕ → ℕ → Call
make_deposit channel asset expected amount =
    Deposit (record { channel = channel; asset = asset; expected = expected; amount = amount })

abbrev pub make_challenge : Chain → ℕ → List ℕ → Call
make_challenge chain challenger signature =
    Challenge (record { chain = chain; challenger = challenger; signature = signature })

abbrev pub make_respond : FixedParts → StateParts → Signed → Call
make_respond fixed from next = Respond (record { fixed = fixed; from = from; next = next })

abbrev pub make_transfer : List ℕ → List AssetOutcome → ℕ → ℕ → Call
make_transfer channel outcome asset index =
    Transfer (record { channel = channel; outcome = outcome; asset = asset; index = index })

abbrev pub make_claim : List ℕ → List AssetOutcome → List ℕ → List AssetOutcome → ℕ → ℕ → Call
make_claim guarantor promise target outcome asset position =
    Claim
    (record {
      guarantor = guarantor;
      guarantor_outcome = promise;
      target = target;
      target_outcome = outcome;
      asset = asset;
      position = position;
    })
