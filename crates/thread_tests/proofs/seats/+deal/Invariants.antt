use Rattle.thread_tests.proofs.seats.+deal.Given as goal

abbrev pub decreases-deal : goal.decreases-deal
decreases-deal l = l.n
