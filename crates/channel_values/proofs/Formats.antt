-- The formats of outcomes, states, fixed parts, signed states and chains.
use Rattle.channel_values.specs.Outcomes.{IsOutcome}
use Rattle.channel_values.specs.Parts.{IsFixed, IsState}
use Rattle.channel_values.specs.Chains.{IsSigned, IsChain}
use Rattle.channel_values.specs.Spelling.{outcome, state, fixed, signed, chain}
use Rattle.channel_values.specs.Reading.{outcome_at, state_at, fixed_at, signed_at, chain_at}
use Rattle.channel_values.proofs.Takes.{outcome_takes}
use Rattle.channel_values.proofs.Again.{outcome_valid_again}
use Rattle.channel_values.proofs.States.{state_takes, state_valid_again}
use Rattle.channel_values.proofs.Fixeds.{fixed_takes, fixed_valid_again}
use Rattle.channel_values.proofs.Chains.{signed_takes, signed_valid_again, chain_takes, chain_valid_again}
use Rattle.channel_values.proofs.Format.{IsFormat}

pub outcome_format : IsFormat outcome_at outcome IsOutcome
outcome_format = record { takes = outcome_takes; again = outcome_valid_again }

pub state_format : IsFormat state_at state IsState
state_format = record { takes = state_takes; again = state_valid_again }

pub fixed_format : IsFormat fixed_at fixed IsFixed
fixed_format = record { takes = fixed_takes; again = fixed_valid_again }

pub signed_format : IsFormat signed_at signed IsSigned
signed_format = record { takes = signed_takes; again = signed_valid_again }

pub chain_format : IsFormat chain_at chain IsChain
chain_format = record { takes = chain_takes; again = chain_valid_again }
