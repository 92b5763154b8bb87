use Rattle.share_laws.proofs.FairMoves.{fair_moves}
use Rattle.share_laws.proofs.JointMoves.{joint_moves}
use Rattle.share_laws.proofs.LedgerMoves.{ledger_moves}
use Rattle.share_laws.proofs.moves.moves_keep_worth.Goals as goal

pub returns : goal.returns
returns c = record { ledgers = ledger_moves; joints = joint_moves; fair = fair_moves }
