-- Whatever a watcher stands for, it stands for with the entries that come next; and what it answers is the history's.
use Rattle.std.specs.Prelude.{◌≡◌, List, [], fold}
use Rattle.channel_values.specs.Rules.{Rules}
use Rattle.call_history.specs.History.{Legal}
use Rattle.call_history.specs.declared.entry.Entry.{Entry}
use Rattle.call_history.specs.declared.held_chain.HeldChain.{HeldChain}
use Rattle.call_history.specs.Naming.{NamesChannels}
use Rattle.network.specs.Watching.{Watching, unseeing, saw, is_stale, checkpoints, looks, history_after, StandsFor}

-- a watcher that has followed nothing stands for the empty history
abbrev pub UnseeingStands : Type 0
UnseeingStands = (r : Rules) → StandsFor r [] unseeing

-- after the entries that come next in a legal history it stands for the longer one
abbrev pub LooksAreKept : Type 0
LooksAreKept =
    (r : Rules) (h entries : List Entry) (w : Watching) → NamesChannels r → StandsFor r h w
    → Legal r (history_after h entries) → StandsFor r (history_after h entries) (fold saw w entries)

-- the checkpoints that it answers are those of the history that it stands for
abbrev pub LooksAreTheHistorys : Type 0
LooksAreTheHistorys =
    (r : Rules) (h : List Entry) (w : Watching) (chains : List HeldChain) → StandsFor r h w
    → checkpoints (is_stale w) chains ≡ looks r h chains
