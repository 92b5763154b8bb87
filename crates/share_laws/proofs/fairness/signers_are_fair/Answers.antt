use Rattle.share_laws.proofs.Signers as signers
use Rattle.share_laws.proofs.fairness.signers_are_fair.Goals as goal

pub returns : goal.returns
returns c = record { line = signers.signers_are_fair; places = signers.signers_are_fair_at_places }
