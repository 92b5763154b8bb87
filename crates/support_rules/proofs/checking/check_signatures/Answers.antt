use Rattle.std.proofs.Common.{sym, ◌∙◌}
use Rattle.support_rules.specs.Real.{real}
use Rattle.support_rules.proofs.Checked.{verified_all}
use Rattle.support_rules.proofs.checking.check_signatures.Goals as goal

pub returns : goal.returns
returns g c =
    verified_all real c.args.chain.now c.as_slice.result.now c.in_ok-verified.verified.items c.as_slice.ensures
    (sym c.in_ok-verified.verified.ok.0 ∙ c.in_ok-verified.ensures.len) c.in_ok-verified.ensures.each
