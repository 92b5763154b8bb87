use Rattle.fairness_laws.proofs.Forged.{guard_bites}
use Rattle.fairness_laws.proofs.wish_laws.guards_bite_where_marks_are_forged.Goals as goal

pub returns : goal.returns
returns c = guard_bites
