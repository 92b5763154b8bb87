-- The rules of the network: signatures of LMS, digests by SHA-256, and the steps of the three applications.
use Rattle.channel_values.specs.Spelling.{fixed, state, outcome}
use Rattle.channel_values.specs.Digests.{name_of_channel, digest_of_state, digest_of_outcome}
use Rattle.lms_signatures.specs.IsSigned.{is_signed}
use Rattle.channel_values.specs.Rules.{Rules}
use Rattle.support_rules.specs.Steps.{step_fault}

abbrev pub real : Rules
real =
    record {
      verifies = is_signed;
      named = λ f. name_of_channel (fixed f);
      digest = λ channel s. digest_of_state channel (state s);
      outcome_digest = λ o. digest_of_outcome (outcome o);
      step = step_fault;
    }
