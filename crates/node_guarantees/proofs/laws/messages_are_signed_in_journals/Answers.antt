use Rattle.node_guarantees.proofs.Sent.{sent_signed, signed_stays}
use Rattle.node_guarantees.proofs.laws.messages_are_signed_in_journals.Goals as goal

pub returns-clause-sends : goal.returns-clause-sends
returns-clause-sends g c = sent_signed g.P.Party.ways g.P.ReportedNode.reported g.P.Party.lost g.met.P.ReportedNode.sends

pub returns-clause-stays : goal.returns-clause-stays
returns-clause-stays g c = signed_stays g.P.Party.ways g.P.ReportedNode.reported g.met.P.ReportedNode.stays
