-- What an honest participant is safe from: no outcome becomes final that is older than the newest supported state.
use Rattle.std.specs.Prelude.{◌≡◌, ℕ, ◌+◌, ◌≤◌, true, List, ◌∷◌, ◌++◌, length, Some, ◌⊎◌}
use Rattle.std.specs.List.{slice_get}
use Rattle.channel_values.specs.Parts.{FixedParts}
use Rattle.channel_values.specs.declared.chain.Signed.{Signed}
use Rattle.channel_values.specs.declared.value.AssetOutcome.{AssetOutcome}
use Rattle.call_history.specs.declared.standing.Standing.TheVariants.{Final}
use Rattle.channel_values.specs.Rules.{Rules, people, top_turn, top_outcome}
use Rattle.call_history.specs.History.{row, mode, settled}
use Rattle.call_history.specs.Marked.{Marked, is_supported}
use Rattle.call_history.specs.Shown.{shown}
use Rattle.call_history.specs.declared.entry.Entry.{Entry}
use Rattle.channel_safety.specs.Journals.{In, Line, opened, noted_in}
use Rattle.channel_safety.specs.Held.{held}

-- the channel was opened by a line that had seen at most so much, and the participant with this key is in it
pub record IsChannelOf (key : List ℕ) (f : FixedParts) (journal : List Line) (seen : ℕ) : Type 0 where
  pub line : Line
  pub there : In line journal
  pub early : line.seen ≤ seen
  pub opens : In f (opened line)
  pub me : ℕ
  pub mine : slice_get f.keys me ≡ Some key

-- A supported chain is held, as new as each state noted and each chain shown before. Each of these has a turn of at
-- most this one, or this outcome.
pub record IsNotOlder (r : Rules) (f : FixedParts) (past : List Entry) (journal : List Line) (turn : ℕ)
    (outcome : List AssetOutcome) : Type 0 where
  pub latest : Marked
  pub is : held r f past journal ≡ Some latest
  pub chain : is_supported r f latest ≡ true
  pub noted :
      (x : Line) (s : Signed) → In x journal → x.seen ≤ length past → noted_in (r.named f) x.deed ≡ Some s
      → people f ≤ s.state.turn + 1 → s.state.turn ≤ top_turn latest.states
  pub shown_before :
      (later older : List Entry) (k : Entry) → past ≡ later ++ k ∷ older
      → is_supported r f (shown r (r.named f) older k) ≡ true
      → top_turn (shown r (r.named f) older k).states ≤ top_turn latest.states
  pub held_settled : (top_turn latest.states ≤ turn) ⊎ (top_outcome latest.states ≡ outcome)
  pub noted_settled :
      (x : Line) (s : Signed) → In x journal → x.seen ≤ length past → noted_in (r.named f) x.deed ≡ Some s
      → people f ≤ s.state.turn + 1 → (s.state.turn ≤ turn) ⊎ (s.state.outcome ≡ outcome)
  pub shown_settled :
      (later older : List Entry) (k : Entry) → past ≡ later ++ k ∷ older
      → is_supported r f (shown r (r.named f) older k) ≡ true
      → (top_turn (shown r (r.named f) older k).states ≤ turn)
      ⊎ (top_outcome (shown r (r.named f) older k).states ≡ outcome)

-- the channel has settled on an outcome that isn't older, at the row's turn
pub record SettlesWell (r : Rules) (f : FixedParts) (e : Entry) (past : List Entry) (journal : List Line) : Type 0 where
  pub outcome : List AssetOutcome
  pub is : settled r (r.named f) (e ∷ past) ≡ Some outcome
  pub recorded : (row r (r.named f) (e ∷ past)).outcome_digest ≡ r.outcome_digest outcome
  pub not_older : IsNotOlder r f past journal (row r (r.named f) (e ∷ past)).turn outcome

-- at an entry by which a channel of the participant becomes final, its outcome isn't older
abbrev pub IsSafe : Rules → List ℕ → List Entry → List Line → Type 0
IsSafe r key h journal =
    (later past : List Entry) (e : Entry) (f : FixedParts)
    → h ≡ later ++ e ∷ past → IsChannelOf key f journal (length past)
    → (mode r (r.named f) past ≡ Final → ⊥) → mode r (r.named f) (e ∷ past) ≡ Final
    → SettlesWell r f e past journal

-- ---- the steps after a participant's last state

-- ---- challenges that are cleared
