-- A race in which a watcher has something to answer, and in which a challenge runs out.
use Rattle.std.specs.Prelude.{◌≡◌, List, [], ◌∷◌, length}
use Rattle.channel_values.specs.Parts.{FixedParts}
use Rattle.channel_values.specs.declared.chain.Chain.{Chain}
use Rattle.call_history.specs.declared.standing.Standing.{Standing}
use Rattle.call_history.specs.declared.standing.Standing.TheVariants.{Open, Challenged, Final}
use Rattle.channel_values.specs.Rules.{Rules}
use Rattle.call_history.specs.History.{Legal, mode}
use Rattle.call_history.specs.declared.call.Call.TheVariants.{Checkpoint}
use Rattle.call_history.specs.declared.call.Op.TheVariants as ops
use Rattle.call_history.specs.declared.entry.Entry.{Entry}
use Rattle.call_history.specs.declared.event.Deed.TheVariants as deeds
use Rattle.channel_safety.specs.Journals.{Line}
use Rattle.channel_safety.specs.Races.{IsRaced, StandForTwo, NotesLasting}

-- A history of two rounds, and the journal of one of a channel's two people. Lists stand newest first.
pub record Story : Type 0 where
  pub rules : Rules
  pub fixed : FixedParts
  -- before the first round; the other's challenge with old states, the answer, and the other's next challenge; the
  -- times
  pub before : List Entry
  pub attack : Entry
  pub answer : Entry
  pub again : Entry
  pub first_time : Entry
  pub second_time : Entry
  -- what the person signed, and its look of each round
  pub signed : List Line
  pub first_look : Line
  pub second_look : Line

-- by the end of each round, and in the end
abbrev pub first_round : Story → List Entry
first_round s = s.again ∷ s.answer ∷ s.attack ∷ s.before

abbrev pub second_round : Story → List Entry
second_round s = s.first_time ∷ first_round s

abbrev pub history : Story → List Entry
history s = s.second_time ∷ second_round s

abbrev pub journal : Story → List Line
journal s = s.second_look ∷ s.first_look ∷ s.signed

abbrev pub mode_after : Story → List Entry → Standing
mode_after s h = mode s.rules (s.rules.named s.fixed) h

-- the first look had seen the attack, and its one call is the answer
pub record Answers (s : Story) : Type 0 where
  pub chain : Chain
  pub saw : s.first_look.seen ≡ length (s.attack ∷ s.before)
  pub looked : s.first_look.deed ≡ deeds.Watched 0 (Checkpoint chain ∷ [])
  pub entered : s.answer.op ≡ ops.Call (Checkpoint chain)

-- The other challenges and is answered, both in the first round. It challenges again, which the first look doesn't
-- see. The second look leaves that as it is, and it runs out at the second round's end.
pub record PassesRounds (s : Story) : Type 0 where
  pub legal : Legal s.rules (history s)
  pub raced : IsRaced (history s) (journal s) (length (second_round s) ∷ length (first_round s) ∷ [])
  pub lasting : NotesLasting s.rules (journal s)
  pub stands : StandForTwo s.rules (history s) (journal s)
  pub attacked : mode_after s (s.attack ∷ s.before) ≡ Challenged
  pub answers : Answers s
  pub answered : mode_after s (s.answer ∷ s.attack ∷ s.before) ≡ Open
  pub challenged : mode_after s (second_round s) ≡ Challenged
  pub looked_on : s.second_look.deed ≡ deeds.Watched 0 []
  pub ends : mode_after s (history s) ≡ Final

abbrev pub RacesCanPass : Type 0
RacesCanPass = (s : Story) × PassesRounds s
