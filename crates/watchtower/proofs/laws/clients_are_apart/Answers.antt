use Rattle.watchtower.proofs.Apart.{clients_are_apart}
use Rattle.watchtower.proofs.laws.clients_are_apart.Goals as goal

pub returns : goal.returns
returns c = clients_are_apart
