use Rattle.share_laws.proofs.Voting.{moves_end, votes_keep}
use Rattle.share_laws.proofs.signatures.votes_keep_shares.Goals as goal

pub returns : goal.returns
returns c = record { ends = moves_end; shares = votes_keep }
