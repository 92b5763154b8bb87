use Rattle.std.proofs.Common.{◌∙◌, refl, ap}
use Rattle.call_history.specs.History.{newest_first}
use Rattle.script_race.proofs.Raced.{race_is_legal, is_of_race}
use Rattle.script_race.proofs.race_report.report_race.Goals as goal

pub race-requires-clause-keep : goal.race-requires-clause-keep
race-requires-clause-keep g c κs within =
    let told = g.met.P.ReportedNode g.world.𝓛 g.world.𝓜 g.world.𝓡 ((λ s x. x), (λ x. x), (λ x. x), λ x. x) in
    record { kept = told.keeps; writes = c.requires.writes }

pub returns-clause-raced : goal.returns-clause-raced
returns-clause-raced g c =
    let told = g.met.P.ReportedNode g.world.𝓛 g.world.𝓜 g.world.𝓡 ((λ s x. x), (λ x. x), (λ x. x), λ x. x) in
    is_of_race g.P.Party.ways g.P.Party.stands g.P.Party.lost g.P.ReportedNode.shares g.P.ReportedNode.exits g.P.ReportedNode.facts g.P.ReportedNode.reported
    told.keeps told.reports told.opens told.commands told.gets told.got told.knows told.plays told.holds
    told.calls
    c.requires.timely c.args.steps.now c.requires.fit c.requires.may_race _ _ c.in_ok-report.report
    c.in_ok-race.ensures.raced c.in_ok-race.ensures.racing
    (c.in_ok-report.ensures.made _ (record {
      names_are = c.into_parts-names.ensures.names;
      rounds_are = c.into_parts-names.ensures.rounds;
      history_is = c.into_parts-names.ensures.history;
      members_are = c.deref.ensures.value ∙ c.into_parts-names.ensures.members;
    }))

pub returns-clause-legal : goal.returns-clause-legal
returns-clause-legal g c =
    race_is_legal g.P.Party.ways g.P.Party.stands g.P.Party.lost _ c.in_ok-report.report.history _ c.in_ok-race.ensures.racing refl
    (ap newest_first c.in_ok-report.ensures.history ∙ c.into_parts-names.ensures.history)

pub report_of-requires : goal.report_of-requires
report_of-requires g c = record {
  legal =
      race_is_legal g.P.Party.ways g.P.Party.stands g.P.Party.lost _ c.into_parts-names.result.2.items _ c.in_ok-race.ensures.racing refl
      c.into_parts-names.ensures.history;
}
