use Rattle.script_race.proofs.Driving.{looks_on, looks_from}
use Rattle.script_race.proofs.driver.look.Goals as goal

pub returns-in-Ok-clause-looked : goal.returns-in-Ok-clause-looked
returns-in-Ok-clause-looked g c = looks_on _ _ c.requires.part c.look.ensures.sound c.in-Ok.ensures.ok.0

pub returns-in-Ok-clause-entries : goal.returns-in-Ok-clause-entries
returns-in-Ok-clause-entries g c = looks_from _ _ _ _ c.requires.part c.in-Ok.ensures.ok.0 c.in-Ok.ensures.ok.1
