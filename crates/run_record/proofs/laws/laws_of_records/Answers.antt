use Rattle.channel_values.proofs.Format.{spelled_once, all_takes, valid_again, fronts_fail, trailing_fails}
use Rattle.run_record.proofs.Whole.{record_format}
use Rattle.run_record.proofs.laws.laws_of_records.Goals as goal

pub returns-clause-once : goal.returns-clause-once
returns-clause-once c = spelled_once record_format

pub returns-clause-back : goal.returns-clause-back
returns-clause-back c bytes v fits read = (all_takes record_format bytes v fits read).1

pub returns-clause-again : goal.returns-clause-again
returns-clause-again c = valid_again record_format

pub returns-clause-fronts : goal.returns-clause-fronts
returns-clause-fronts c bytes v n fits read lt = fronts_fail record_format bytes v n fits read lt

pub returns-clause-trailing : goal.returns-clause-trailing
returns-clause-trailing c v b more valid = trailing_fails record_format v b more valid
