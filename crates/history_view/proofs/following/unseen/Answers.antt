use Rattle.std.proofs.Common.{◌≡◌, [], subst}
use Rattle.call_history.specs.declared.view.WorldView.{WorldView}
use Rattle.history_view.specs.Standing.{StandsFor}
use Rattle.history_view.specs.Views.{unseen}
use Rattle.history_view.proofs.Stands.{unseen_stands}
use Rattle.history_view.proofs.following.unseen.Goals as goal

pub returns-clause-stands : goal.returns-clause-stands
returns-clause-stands c r =
    let is : unseen ≡ record { now = 0; count = 0; channels = c.new.result; paid = c.new-2.result } = cc in
    subst (λ (w : WorldView). StandsFor r [] w) is (unseen_stands r)
