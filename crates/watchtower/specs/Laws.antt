-- What a caller that goes on from a legal history may take for granted.
use Rattle.std.specs.Prelude.{◌≡◌, true, List}
use Rattle.channel_values.specs.Rules.{Rules}
use Rattle.call_history.specs.History.{Legal, now_of}
use Rattle.call_history.specs.declared.entry.Entry.{Entry}
use Rattle.network.specs.Watching.{history_after}
use Rattle.watchtower.specs.Towers.{is_rising}

-- no entry of a legal history sets a time before the one before it
abbrev pub LegalTimesRise : Type 0
LegalTimesRise =
    (r : Rules) (h entries : List Entry) → Legal r (history_after h entries) → is_rising (now_of h) entries ≡ true
