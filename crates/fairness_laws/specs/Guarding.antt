-- A node signs what a part of its plan wants, where nothing is forged.
use Rattle.std.specs.Prelude.{◌≡◌, List, Some, None}
use Rattle.channel_values.specs.Parts.{FixedParts, StateParts}
use Rattle.call_history.specs.declared.entry.Entry.{Entry}
use Rattle.channel_store.specs.Storing.{kept_of}
use Rattle.channel_store.specs.declared.kept.Kept.{Kept}
use Rattle.channel_safety.specs.Journals.{In}
use Rattle.channel_node.specs.Places.{Told, lines_of, mind_at}
use Rattle.channel_node.specs.Playing.{Signing}
use Rattle.channel_node.specs.Refusing.{wish, signs_in}
use Rattle.fairness_laws.specs.PaymentLaws.{At}
use Rattle.fairness_laws.specs.PlanSettings.{IsFair}
use Rattle.stage_tables.specs.Stages.{stages}
use Rattle.share_laws.specs.Places.{channels}
use Rattle.support_rules.specs.Real.{real}

-- At each place of its journal it signs in each own channel what it wishes there while no payment waits. That is what
-- the stage of the part that is asked wants, unless it left or a live channel isn't open.
abbrev pub PartsSignAtPlaces : Type 0
PartsSignAtPlaces =
    (s : Signing) (h : List Entry) (journal : List Told) (past : List Entry) (front : List Told) → IsFair s h journal
    → At s h journal past front → (f : FixedParts) (k : Kept) (state : StateParts) → In f (channels (lines_of s.key front))
    → kept_of (real.named f) (mind_at real s.key past front).kept ≡ Some k
    → wish stages None (mind_at real s.key past front) (real.named f) k ≡ Some state
    → signs_in stages real None (mind_at real s.key past front) (real.named f) ≡ Some state
