use Rattle.channel_values.proofs.Format.{spelled_once, all_takes, valid_again, fronts_fail, trailing_fails}
use Rattle.channel_values.proofs.Formats.{state_format}
use Rattle.channel_values.proofs.Fronts.{state_on, fronts_cut}
use Rattle.channel_values.proofs.byte_laws.laws_of_states.Goals as goal

pub returns-clause-once : goal.returns-clause-once
returns-clause-once c = spelled_once state_format

pub returns-clause-back : goal.returns-clause-back
returns-clause-back c bytes v fits read = (all_takes state_format bytes v fits read).1

pub returns-clause-again : goal.returns-clause-again
returns-clause-again c = valid_again state_format

pub returns-clause-fronts : goal.returns-clause-fronts
returns-clause-fronts c bytes v n fits read lt = fronts_fail state_format bytes v n fits read lt

pub returns-clause-cut : goal.returns-clause-cut
returns-clause-cut c v n valid lt = fronts_cut state_format state_on v n valid lt

pub returns-clause-trailing : goal.returns-clause-trailing
returns-clause-trailing c v b more valid = trailing_fails state_format v b more valid
