-- Whose actions may lower a share, over a whole history and journal: from what is known at each place.
use Rattle.std.specs.Prelude.{◌≡◌, ℕ, ◌≤◌, true, false, List, ◌∷◌, length}
use Rattle.channel_values.specs.Parts.{FixedParts}
use Rattle.call_history.specs.Mode.{is_final}
use Rattle.channel_values.specs.Rules.{Rules}
use Rattle.call_history.specs.History.{Legal, mode}
use Rattle.call_history.specs.declared.entry.Entry.{Entry}
use Rattle.channel_safety.specs.Journals.{In, Line, is_watched}
use Rattle.share_laws.specs.Places.{Order, plan, channels, possible, counting, share, IsPlace}
use Rattle.share_laws.specs.Kept.{is_signing, SharesAreKept}
use Rattle.channel_safety.specs.Occurring.{NoCollision}
use Rattle.channel_values.specs.Outcomes.{AreApart}
use Rattle.share_laws.specs.ShareLaws.{moves_funds, AreSeen}
use Rattle.share_laws.specs.Lines.{SignaturesAreFair}
use Rattle.share_laws.specs.Sound.{IsSound}
use Rattle.share_laws.specs.Bases.{all_bases}
use Rattle.share_laws.specs.Turns.{names, Turns}
use Rattle.std.specs.Str.{bytes_eq}

-- A channel of the person that becomes final by the entry does so by an outcome that is no worse than one that was
-- possible.
abbrev pub EndsWell : Rules → List ℕ → (ℕ → Order) → List Entry → Entry → List Line → Type 0
EndsWell r me orders past e front =
    (asset : ℕ) (f : FixedParts) → In f (channels front) → is_final (mode r (r.named f) past) ≡ false
    → is_final (mode r (r.named f) (e ∷ past)) ≡ true
    → Turns asset me (all_bases (plan orders front)) (r.named f) (possible r past front f)
    (possible r (e ∷ past) front f)

-- Where that is so, no entry that moves no funds lowers the share: a channel starts to count or goes on as it was.
abbrev pub TurnsKeepShares : Type 0
TurnsKeepShares =
    (r : Rules) (me : List ℕ) (orders : ℕ → Order) (past : List Entry) (e : Entry) (front : List Line)
    → Legal r (e ∷ past) → AreSeen past front → AreApart bytes_eq (names r (channels front)) → moves_funds e.op ≡ false
    → EndsWell r me orders past e front
    → (asset : ℕ) → share r me orders past front asset ≤ share r me orders (e ∷ past) front asset

-- No line but one that signs a state lowers the share.
abbrev pub LinesKeepShares : Type 0
LinesKeepShares =
    (r : Rules) (me : List ℕ) (orders : ℕ → Order) (past : List Entry) (x : Line) (front : List Line)
    → (is_watched x.deed ≡ false → length past ≤ x.seen) → AreApart bytes_eq (names r (channels (x ∷ front)))
    → is_signing x.deed ≡ false
    → (asset : ℕ) → share r me orders past front asset ≤ share r me orders past (x ∷ front) asset

-- What is known at each place of a history and a journal: the plan is sound, channels end well, and the person signs
-- fairly.
pub record IsKnown (r : Rules) (me : List ℕ) (orders : ℕ → Order) (h : List Entry) (journal : List Line) : Type 0 where
  pub channels_differ : AreApart bytes_eq (names r (channels journal))
  pub sound :
      (past : List Entry) (front : List Line) → IsPlace h journal past front
      → IsSound me (plan orders front) (counting r past front)
  pub ends :
      (past : List Entry) (e : Entry) (front : List Line) → IsPlace h journal past front
      → IsPlace h journal (e ∷ past) front
      → EndsWell r me orders past e front
  pub signs : SignaturesAreFair r me orders h journal

-- Then nobody lowers the share, and a signature of the person lowers it no more than a payment ordered.
abbrev pub NobodyLowersShares : Type 0
NobodyLowersShares =
    (r : Rules) (me : List ℕ) (orders : ℕ → Order) (h : List Entry) (journal : List Line)
    → Legal r h → NoCollision r h journal → IsKnown r me orders h journal → SharesAreKept r me orders h journal
