use Rattle.std.proofs.Common.{length}
use Rattle.watchtower.proofs.beside.share.Given as goal

abbrev pub ghosts-share_counted : goal.ghosts-share_counted
ghosts-share_counted g a = record { count = length a.clients.now }
