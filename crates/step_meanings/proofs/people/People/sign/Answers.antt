use Rattle.step_meanings.proofs.Places.{signs_there}
use Rattle.step_meanings.proofs.people.People.sign.Goals as goal

-- src/people.rt:156:5
pub returns-clause-signed : goal.returns-clause-signed
returns-clause-signed c = signs_there _ _ _ c.in-Some.place _ c.in-Some.ensures.place c.in_ok-signature.ensures.signed
