use Rattle.std.proofs.Common.{rules, subst}
use Rattle.std.specs.Prelude.{IfOk, Result, Ok, Err}
use Rattle.report_text.specs.declared.report.Report.{Report}
use Rattle.play_report.proofs.Promised.{is_played}
use Rattle.play_report.specs.Members.{IsMade}
use Rattle.play_report.specs.Reported.{IsPlayed}
use Rattle.play_report.proofs.making.report_play.Goals as goal

pub returns-clause-played : goal.returns-clause-played
returns-clause-played g c =
    go c.report_of.result
    (c.report_of.ensures.made c.in_ok-scene.scene (record { names_are = search rules; rounds_are = search rules; history_is = search rules; members_are = search rules }))
  where
    go : {E : Type 0} (result : Result Report E) → IfOk result (λ r. IsMade g.P.Party.ways g.P.Party.lost g.P.ReportedNode.shares g.P.ReportedNode.exits g.P.ReportedNode.facts c.args.load r c.in_ok-scene.scene)
        → IfOk result (λ r. IsPlayed g.P.Party.ways c.args.load r c.args.steps.now)
    go (Ok r) made =
        is_played g.P.Party.ways g.P.Party.stands g.P.Party.lost g.P.ReportedNode.shares g.P.ReportedNode.exits g.P.ReportedNode.facts g.P.ReportedNode.reported
        g.met.P.ReportedNode.keeps g.met.P.ReportedNode.reports g.met.P.ReportedNode.opens g.met.P.ReportedNode.commands g.met.P.ReportedNode.gets g.met.P.ReportedNode.got g.met.P.ReportedNode.knows g.met.P.ReportedNode.plays g.met.P.ReportedNode.holds
        g.met.P.ReportedNode.calls
        c.args.steps.now c.requires.fit c.args.load r
        (subst (λ s. IsMade g.P.Party.ways g.P.Party.lost g.P.ReportedNode.shares g.P.ReportedNode.exits g.P.ReportedNode.facts c.args.load r s) c.in_ok-scene.ensures made)
    go (Err e) made = tt
