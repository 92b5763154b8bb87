use Rattle.adjudicator.proofs.adjudicator.Adjudicator.serve.Goals as goal

pub returns-in-Call : goal.returns-in-Call
returns-in-Call c = rw c.in-Call.is c.call.ensures

pub returns-in-Time : goal.returns-in-Time
returns-in-Time c = rw c.in-Time.is c.set_time.ensures
