-- The premises can hold together, where a challenge runs out.
use Rattle.std.specs.Prelude.{◌≡◌, ℕ, List, ◌∷◌, length}
use Rattle.channel_values.specs.Parts.{FixedParts}
use Rattle.call_history.specs.declared.standing.Standing.TheVariants.{Challenged, Final}
use Rattle.channel_values.specs.Rules.{Rules, KeepsFinal}
use Rattle.call_history.specs.History.{Legal, mode}
use Rattle.call_history.specs.declared.entry.Entry.{Entry}
use Rattle.channel_safety.specs.Journals.{Line}
use Rattle.channel_safety.specs.Premises.{Unforged, InTime}
use Rattle.channel_safety.specs.Occurring.{NoCollision, AreValid}
use Rattle.channel_safety.specs.Honest.{Honest}
use Rattle.channel_safety.specs.Safety.{IsChannelOf}

-- rules, a history that ends with the entry at which a challenge of the participant's channel runs out, and a journal
pub record RunsOutSafely : Type 0 where
  pub rules : Rules
  pub key : List ℕ
  pub fixed : FixedParts
  pub last : Entry
  pub past : List Entry
  pub journal : List Line
  pub keeps : KeepsFinal rules
  pub legal : Legal rules (last ∷ past)
  pub honest : Honest rules key (last ∷ past) journal
  pub unforged : Unforged rules key (last ∷ past) journal
  pub distinct : NoCollision rules (last ∷ past) journal
  pub valid : AreValid (last ∷ past) journal
  pub in_time : InTime rules (last ∷ past) journal
  pub channel : IsChannelOf key fixed journal (length past)
  pub was : mode rules (rules.named fixed) past ≡ Challenged
  pub ends : mode rules (rules.named fixed) (last ∷ past) ≡ Final
