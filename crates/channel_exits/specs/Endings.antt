-- What channels ended with, and calls that stand in a history.
use Rattle.std.specs.Prelude.{◌≡◌, ℕ, true, List, [], ◌∷◌, ◌⊎◌, None, if◌then◌else◌}
use Rattle.call_history.specs.Mode.{is_final}
use Rattle.channel_values.specs.Rules.{Rules}
use Rattle.call_history.specs.History.{mode, settled}
use Rattle.call_history.specs.declared.call.Call.{Call}
use Rattle.call_history.specs.declared.call.Op.TheVariants as ops
use Rattle.call_history.specs.declared.entry.Entry.{Entry}
use Rattle.channel_safety.specs.Journals.{Line}
use Rattle.share_laws.specs.Books.{counts_in}
use Rattle.share_laws.specs.Places.{counting}
use Rattle.channel_exits.specs.Calls.{Ended}

-- what a final channel ended with
abbrev pub ended : Rules → List Entry → Ended
ended r past channel = if is_final (mode r channel past) then settled r channel past else None

-- each channel that counts at a place is final
abbrev pub AreFinal : Rules → List Entry → List Line → Type 0
AreFinal r past front =
    (channel : List ℕ) → counts_in (counting r past front) channel ≡ true → is_final (mode r channel past) ≡ true

-- calls stand in entries, in their order, with any entries between; both lists have the newest first
abbrev pub Stand : List Call → List Entry → Type 0
Stand [] later = Unit {0}
Stand (call ∷ calls) [] = ⊥
Stand (call ∷ calls) (e ∷ later) = ((e.op ≡ ops.Call call) × Stand calls later) ⊎ Stand (call ∷ calls) later
