use Rattle.report_text.proofs.Printed.{receivers_told}
use Rattle.report_text.proofs.laws.printed_balances_come_once.Goals as goal

pub returns : goal.returns
returns c = receivers_told
