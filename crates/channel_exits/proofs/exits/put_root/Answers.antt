use Rattle.channel_exits.specs.Exits.{ended_in}
use Rattle.channel_exits.proofs.Others.{none_on_ledger, none_at_end, none_at_middle, stays}
use Rattle.channel_exits.proofs.exits.put_root.Goals as goal

pub returns-in-OnLedger-clause-value : goal.returns-in-OnLedger-clause-value
returns-in-OnLedger-clause-value c =
    stays (ended_in c.args.world.now) c.args.me.now c.args.names.now c.args.calls.now.items c.args.part.now _ c.in-OnLedger.is
    (none_on_ledger (ended_in c.args.world.now) c.args.me.now c.args.names.now c.in-OnLedger.field-0 c.in-OnLedger.field-1)

pub returns-in-End-clause-value : goal.returns-in-End-clause-value
returns-in-End-clause-value c =
    stays (ended_in c.args.world.now) c.args.me.now c.args.names.now c.args.calls.now.items c.args.part.now _ c.in-End.is
    (none_at_end (ended_in c.args.world.now) c.args.me.now c.args.names.now c.in-End.field-0)

pub returns-in-Middle-clause-value : goal.returns-in-Middle-clause-value
returns-in-Middle-clause-value c =
    stays (ended_in c.args.world.now) c.args.me.now c.args.names.now c.args.calls.now.items c.args.part.now _ c.in-Middle.is
    (none_at_middle (ended_in c.args.world.now) c.args.me.now c.args.names.now c.in-Middle.field-0)
