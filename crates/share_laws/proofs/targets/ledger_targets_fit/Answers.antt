use Rattle.share_laws.proofs.Fits.{set_aside_fits, taken_back_fits}
use Rattle.share_laws.proofs.targets.ledger_targets_fit.Goals as goal

pub returns : goal.returns
returns c = record { set_aside = set_aside_fits; taken_back = taken_back_fits }
