use Rattle.node_guarantees.proofs.Worlds.{shares_stay, honest_after, own_after}
use Rattle.node_guarantees.proofs.laws.nobody_lowers_a_share.Goals as goal

pub returns-clause-keeps : goal.returns-clause-keeps
returns-clause-keeps g c = shares_stay g.P.Party.ways g.P.Party.stands g.P.ReportedNode.reported g.met.P.ReportedNode.keeps g.met.P.ReportedNode.holds

pub returns-clause-honest : goal.returns-clause-honest
returns-clause-honest g c =
    honest_after g.P.Party.ways g.P.Party.stands g.P.ReportedNode.reported g.met.P.ReportedNode.keeps g.met.P.ReportedNode.opens g.met.P.ReportedNode.plays

pub returns-clause-challenges : goal.returns-clause-challenges
returns-clause-challenges g c =
    own_after g.P.Party.ways g.P.Party.stands g.P.Party.lost g.P.ReportedNode.reported g.met.P.ReportedNode.keeps g.met.P.ReportedNode.calls
