use Rattle.report_text.proofs.Numbers.{within_made}
use Rattle.report_text.proofs.text.balances_of.Goals as goal

pub returns-clause-within : goal.returns-clause-within
returns-clause-within c = within_made c.of.result c.in_ok-flows.flows.items c.args.history.now c.of.ensures c.in_ok-flows.ensures c.requires
