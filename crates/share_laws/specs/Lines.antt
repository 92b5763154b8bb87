-- Lines of a person's journal: in order; that sign no state; that sign fairly.
use Rattle.std.specs.Prelude.{◌≡◌, ℕ, ◌≤◌, true, false, List, [], ◌∷◌}
use Rattle.channel_values.specs.Rules.{Rules}
use Rattle.call_history.specs.declared.entry.Entry.{Entry}
use Rattle.channel_safety.specs.Journals.{In, Line, is_watched}
use Rattle.share_laws.specs.Kept.{is_signing, SignsFairly}
use Rattle.share_laws.specs.Places.{Order, IsPlace}

-- lines, but for looks, stand in the order of what they had seen
abbrev pub AreInOrder : List Line → Type 0
AreInOrder [] = Unit {0}
AreInOrder (x ∷ front) =
    ((y : Line) → In y front → is_watched x.deed ≡ false → is_watched y.deed ≡ false → y.seen ≤ x.seen)
    × AreInOrder front

-- none of these lines signs a state
abbrev pub SignNothing : List Line → Type 0
SignNothing lines = (x : Line) → In x lines → is_signing x.deed ≡ false

-- at each place each state that the person me signs lowers its share by the payment that was ordered right before;
-- where none was and the plan is funded, by nothing
abbrev pub SignaturesAreFair : Rules → (me : List ℕ) → (ℕ → Order) → List Entry → List Line → Type 0
SignaturesAreFair r me orders h journal =
    (past : List Entry) (x : Line) (front : List Line) → IsPlace h journal past front
    → IsPlace h journal past (x ∷ front)
    → is_signing x.deed ≡ true → SignsFairly r me orders past x front
