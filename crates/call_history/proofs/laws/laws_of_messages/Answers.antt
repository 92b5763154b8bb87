use Rattle.channel_values.proofs.Format.{spelled_once, all_takes, valid_again, fronts_fail, trailing_fails}
use Rattle.call_history.proofs.Formats.{message_format}
use Rattle.call_history.proofs.laws.laws_of_messages.Goals as goal

pub returns-clause-once : goal.returns-clause-once
returns-clause-once c = spelled_once message_format

pub returns-clause-back : goal.returns-clause-back
returns-clause-back c bytes v fits read = (all_takes message_format bytes v fits read).1

pub returns-clause-again : goal.returns-clause-again
returns-clause-again c = valid_again message_format

pub returns-clause-fronts : goal.returns-clause-fronts
returns-clause-fronts c bytes v n fits read lt = fronts_fail message_format bytes v n fits read lt

pub returns-clause-trailing : goal.returns-clause-trailing
returns-clause-trailing c v b more valid = trailing_fails message_format v b more valid
