-- All channels are new, or two of them have one name.
use Rattle.std.proofs.Common.{rules}
use Rattle.hop_script.proofs.Names.{channels_told}
use Rattle.hop_script.proofs.entering.enter_channels.Goals as goal

pub returns-clause-one_name : goal.returns-clause-one_name
returns-clause-one_name c e = channels_told c.have_keys.ensures _ _ (search rules) (search rules) (c.enter_all.ensures.one_name e)
