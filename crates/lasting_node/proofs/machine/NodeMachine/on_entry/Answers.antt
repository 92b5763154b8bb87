use Rattle.std.proofs.Common.{rules}
use Rattle.lasting_node.proofs.Told.{entry_told}
use Rattle.lasting_node.proofs.machine.NodeMachine.on_entry.Goals as goal

pub returns-clause-effects : goal.returns-clause-effects
returns-clause-effects c =
    entry_told c.args.entry c.args.self.now c.enter.new.self c.see.new.self c.look.new.self c.time-before.result
    c.new-all.result.items c.tell_newest.new.effects.items c.look.new.effects.items c.add_time.new.effects.items
    c.time-before.ensures c.in_ok-enter.ensures.next c.in_ok-see.ensures c.in_ok-look.ensures.next c.new-all.ensures.items
    c.in_ok-tell_newest.ensures c.in_ok-look.ensures.effects c.in_ok-add_time.ensures
