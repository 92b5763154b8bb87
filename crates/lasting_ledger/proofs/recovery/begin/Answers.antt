use Rattle.std.proofs.Common.{subst}
use Rattle.lasting_lines.specs.Endings.{FailsBy, FullIn, ForeignIn}
use Rattle.lasting_ledger.specs.Ledgers.{line_ways, Foreign}
use Rattle.lasting_ledger.proofs.Endings.{full as no_number}
use Rattle.lasting_ledger.proofs.recovery.begin.Goals as goal

pub returns-in_default : goal.returns-in_default
returns-in_default c =
    let fails = subst (λ p. FailsBy (ForeignIn line_ways Foreign p c.args.file.now) (FullIn line_ways p c.args.file.now) c.in-Err.fault) c.unplayed.ensures c.in-Err.ensures.fails in
    record {
      played = tt;
      enough = tt;
      torn = λ kept e. absurd cc;
      damaged = λ e. absurd cc;
      behind = λ e. absurd cc;
      full = λ e. no_number c.args.file.now c.in-Err.fault fails c.in_default.not-NoMemory;
    }
