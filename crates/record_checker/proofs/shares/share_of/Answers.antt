use Rattle.std.proofs.Common.{◌≡◌, false, sym, ◌∙◌, ap}
use Rattle.record_checker.specs.Seen.{named, is_named}
use Rattle.record_checker.proofs.Naming.{share_unnamed}
use Rattle.record_checker.proofs.shares.share_of.Goals as goal

pub returns-else-is_named : goal.returns-else-is_named
returns-else-is_named c =
    let none : is_named c.args.asset (named c.args.past.now c.args.known.now) ≡ false = ap (is_named c.args.asset) (sym c.requires.named) ∙ sym c.is_named.ensures ∙ c.if-is_named.false in
    c.paid.ensures ∙ sym (share_unnamed c.args.past.now c.args.plan.now c.args.known.now c.args.asset none)
