use Rattle.share_laws.proofs.Wishes.{wanted_votes_keep, wanted_repeats_keep, first_states_keep}
use Rattle.share_laws.proofs.wants.wanted_states_keep_shares.Goals as goal

pub returns : goal.returns
returns c = record { votes = wanted_votes_keep; repeats = wanted_repeats_keep; first = first_states_keep }
