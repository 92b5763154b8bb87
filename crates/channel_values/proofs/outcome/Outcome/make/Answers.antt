use Rattle.std.proofs.Common.{[], length, rules}
use Rattle.channel_values.specs.Outcomes.{IsOutcome}
use Rattle.channel_values.specs.Spelling.{outcome}
use Rattle.channel_values.specs.Reading.{outcome_at}
use Rattle.channel_values.proofs.Again.{outcome_again}
use Rattle.channel_values.proofs.Format.{is_made}
use Rattle.channel_values.proofs.outcome.Outcome.make.Goals as goal

pub returns-clause-made : goal.returns-clause-made
returns-clause-made c =
    let os = c.args.assets.items in
    is_made outcome_at (outcome os) os (IsOutcome os) c.read_outcome.result (outcome_again (length (outcome os)) os [] (rw (← c.deref.ensures.value) c.in_ok-put_assets.ensures.fits)) (search rules)
