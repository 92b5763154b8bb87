use Rattle.std.proofs.Common.{◌≡◌, List, true, false, ap}
use Rattle.call_history.specs.History.{newest_first}
use Rattle.call_history.specs.declared.entry.Entry.{Entry}
use Rattle.script_race.proofs.racing.Race.into_parts.Goals as goal

never : false ≡ true → ⊥
never e = cc

pub returns-clause-history : goal.returns-clause-history
returns-clause-history g c = ap (λ (l : List Entry). newest_first l) (c.in-Ok.ensures.ok.all c.requires.seated.part).0

pub unreachable-requires : goal.unreachable-requires
unreachable-requires g c = never (c.in-Err.ensures.whole c.requires.seated.part)
