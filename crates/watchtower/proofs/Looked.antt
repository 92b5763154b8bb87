-- What a tower that stands for a history answers is the history's.
use Rattle.std.proofs.Common.{◌≡◌, ℕ, List, sym, ◌∙◌, subst}
use Rattle.channel_values.specs.Rules.{Rules}
use Rattle.call_history.specs.History.{Legal}
use Rattle.call_history.specs.Naming.{NamesChannels}
use Rattle.call_history.specs.declared.call.Call.{Call}
use Rattle.call_history.specs.declared.entry.Entry.{Entry}
use Rattle.network.specs.Watching.{StandsFor, history_after, looks}
use Rattle.network.proofs.Watching.{looks_are_kept, checkpoints_are}
use Rattle.watchtower.specs.declared.client.Client.{Client}
use Rattle.watchtower.specs.Towers.{Towering, answers, calls_of, watched}

pub stands_on : (r : Rules) (h entries : List Entry) (old new : Towering) → NamesChannels r → StandsFor r h old.watching → Legal r (history_after h entries)
    → new ≡ watched entries old → StandsFor r (history_after h entries) new.watching
stands_on r h entries old new names st legal seen =
    subst (λ (t : Towering). StandsFor r (history_after h entries) t.watching) (sym seen) (looks_are_kept r h entries old.watching names st legal)

pub told_well : (r : Rules) (h entries : List Entry) (old new : Towering) (clients : List Client) (told : List (List ℕ × List Call)) → NamesChannels r → StandsFor r h old.watching
    → Legal r (history_after h entries) → new ≡ watched entries old → told ≡ answers (calls_of new.watching) clients → told ≡ answers (looks r (history_after h entries)) clients
told_well r h entries old new clients told names st legal seen is =
    let now : StandsFor r (history_after h entries) new.watching = stands_on r h entries old new names st legal seen in
    is ∙ (λ i. answers (λ chains. checkpoints_are r (history_after h entries) new.watching chains now i) clients)
