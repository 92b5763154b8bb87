use Rattle.std.proofs.Common.{sym, subst, ◌<◌, ◌^◌}
use Rattle.call_history.specs.Naming.{name_of}
use Rattle.call_history.specs.declared.view.WorldView.{WorldView}
use Rattle.history_view.specs.Room.{CanFollow}
use Rattle.record_checker.specs.Past.{moved}
use Rattle.record_checker.proofs.Leaving.{can_follow}
use Rattle.record_checker.proofs.rests.rest_after.Goals as goal

pub follow-requires : goal.follow-requires
follow-requires c =
    let small : moved c.args.entry.now < 2 ^ 64 = subst (λ n. n < 2 ^ 64) c.moved-amount.ensures c.moved-amount.type_inv in
    subst (λ (w : WorldView). CanFollow name_of c.args.entry.now w) (sym c.in_ok-view.ensures)
    (can_follow c.args.entry.now c.args.now c.args.channel.now c.args.rest c.requires small)
