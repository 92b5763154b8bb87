use Rattle.premises.specs.Persons.{IsUnforged}
use Rattle.premises.proofs.Persons.{answered}
use Rattle.premises.proofs.answers.unforged.Goals as goal

pub returns-in-Some : goal.returns-in-Some
returns-in-Some c =
    answered c.args.journals.now c.args.person.now c.in-Some.journal.now (IsUnforged c.args.history.now) c.is_unforged.result c.in-Some.ensures c.is_unforged.ensures
