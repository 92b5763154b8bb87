-- While its person signs nothing a share lasts.
use Rattle.std.specs.Prelude.{ℕ, ◌≤◌, List, ◌++◌}
use Rattle.channel_values.specs.Parts.{FixedParts}
use Rattle.channel_values.specs.Rules.{Rules}
use Rattle.call_history.specs.declared.entry.Entry.{Entry}
use Rattle.channel_safety.specs.Journals.{In, Line, opened}
use Rattle.channel_safety.specs.Honest.{Honest}
use Rattle.share_laws.specs.Places.{Order, share, IsPlace}
use Rattle.share_laws.specs.Kept.{SharesAreKept}
use Rattle.share_laws.specs.Lines.{AreInOrder, SignNothing}

-- The journal of an honest participant is in order, once it opens a channel.
abbrev pub HonestJournalsAreInOrder : Type 0
HonestJournalsAreInOrder =
    (r : Rules) (key : List ℕ) (h : List Entry) (journal : List Line) → Honest r key h journal
    → (x : Line) (f : FixedParts) → In x journal → In f (opened x) → AreInOrder journal

-- From a place to a later one a share that is kept doesn't fall, where no line between them signs a state.
abbrev pub SharesLast : Type 0
SharesLast =
    (r : Rules) (me : List ℕ) (orders : ℕ → Order) (h : List Entry) (journal : List Line) → AreInOrder journal
    → SharesAreKept r me orders h journal
    → (later past : List Entry) (newer front : List Line) → IsPlace h journal past front
    → IsPlace h journal (later ++ past) (newer ++ front) → SignNothing newer
    → (asset : ℕ) → share r me orders past front asset ≤ share r me orders (later ++ past) (newer ++ front) asset
