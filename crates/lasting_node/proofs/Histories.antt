-- How many entries there are, and which is the newest.
use Rattle.std.proofs.Common.{◌≡◌, List, ◌∷◌, [], ◌++◌, length, sym, ◌∙◌}
use Rattle.std.proofs.lemmas.List.{length-reverse}
use Rattle.call_history.specs.declared.entry.Entry.{Entry}
use Rattle.network.specs.Entered.{oldest_first}

pub entry_count : (h : List Entry) → length (oldest_first h) ≡ length h
entry_count h = length-reverse h
