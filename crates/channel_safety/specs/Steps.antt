-- The steps after what an honest participant signed last, and challenges that are cleared.
use Rattle.std.specs.Prelude.{◌≡◌, ℕ, ◌+◌, ◌<◌, ◌≤◌, true, List, ◌∷◌, ◌++◌, length, Some}
use Rattle.channel_values.specs.Parts.{FixedParts, StateParts}
use Rattle.channel_values.specs.declared.chain.Signed.{Signed}
use Rattle.channel_values.specs.Rows.{last_of}
use Rattle.channel_values.specs.Rules.{Rules, people, newest, top_turn}
use Rattle.channel_values.specs.Supported.{Rises, AreSteps}
use Rattle.call_history.specs.Marked.{is_supported}
use Rattle.call_history.specs.Shown.{shown}
use Rattle.call_history.specs.declared.entry.Entry.{Entry}
use Rattle.channel_safety.specs.Journals.{In, Line, made_in}
use Rattle.channel_safety.specs.Cleared.{cleared}
use Rattle.channel_safety.specs.Safety.{IsChannelOf}

-- the states end with this one and the steps after it, fewer than there are participants
pub record StepsAfter (r : Rules) (f : FixedParts) (states : List StateParts) (s : StateParts) : Type 0 where
  pub rest : List StateParts
  pub turns : Rises s rest
  pub steps : AreSteps r f s rest
  pub ends : newest states ≡ Some (last_of s rest)
  pub few : length rest < people f

-- this is the last state that the participant signed in the channel by a place
pub record IsLast (r : Rules) (f : FixedParts) (past : List Entry) (journal : List Line) (t : Signed) : Type 0 where
  pub line : Line
  pub there : In line journal
  pub early : line.seen ≤ length past
  pub made : made_in (r.named f) line.deed ≡ Some t
  pub greatest : (x : Line) (s : Signed) → In x journal → x.seen ≤ length past → made_in (r.named f) x.deed ≡ Some s
      → s.state.turn ≤ t.state.turn

-- A supported chain that an entry shows, and that isn't older than the last state which the participant signed, has
-- every step after that one.
abbrev pub HasStepsAfterLast : Rules → List ℕ → List Entry → List Line → Type 0
HasStepsAfterLast r key h journal =
    (later past : List Entry) (e : Entry) (f : FixedParts) (t : Signed)
    → h ≡ later ++ e ∷ past → IsChannelOf key f journal (length past)
    → is_supported r f (shown r (r.named f) past e) ≡ true
    → IsLast r f past journal t → t.state.turn ≤ top_turn (shown r (r.named f) past e).states
    → StepsAfter r f (shown r (r.named f) past e).states t.state

-- of a participant's challenges of a channel of n, at most n - 1 are cleared
abbrev pub FewAreCleared : Rules → List ℕ → List Entry → List Line → Type 0
FewAreCleared r key h journal =
    (f : FixedParts) (channel : IsChannelOf key f journal (length h))
    → cleared r (r.named f) channel.me h + 1 ≤ people f
