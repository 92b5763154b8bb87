use Rattle.watchtower.proofs.Finding.{pops}
use Rattle.watchtower.proofs.beside.work.Goals as goal

pub pop_as-requires-clause-rule : goal.pop_as-requires-clause-rule
pop_as-requires-clause-rule g c = (pops _ _ _, λ items views all at. tt)
