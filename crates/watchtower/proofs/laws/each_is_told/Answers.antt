use Rattle.watchtower.proofs.Apart.{each_is_told}
use Rattle.watchtower.proofs.laws.each_is_told.Goals as goal

pub returns : goal.returns
returns c = each_is_told
