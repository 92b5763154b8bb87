use Rattle.premises.specs.Persons.{IsInTime}
use Rattle.premises.proofs.Persons.{answered}
use Rattle.premises.proofs.answers.in_time.Goals as goal

pub returns-in-Some : goal.returns-in-Some
returns-in-Some c =
    answered c.args.journals.now c.args.person.now c.in-Some.journal.now (IsInTime c.args.history.now) c.is_in_time.result c.in-Some.ensures c.is_in_time.ensures
