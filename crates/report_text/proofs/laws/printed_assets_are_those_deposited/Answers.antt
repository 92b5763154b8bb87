use Rattle.report_text.proofs.Printed.{assets_told}
use Rattle.report_text.proofs.laws.printed_assets_are_those_deposited.Goals as goal

pub returns : goal.returns
returns c = assets_told
