-- A place at which the guard bites, since marks are forged.
use Rattle.std.specs.Prelude.{◌≡◌, ℕ, List, Some, None}
use Rattle.channel_values.specs.Parts.{StateParts}
use Rattle.channel_values.specs.Rules.{Rules}
use Rattle.call_history.specs.History.{Legal}
use Rattle.call_history.specs.declared.entry.Entry.{Entry}
use Rattle.support_rules.specs.Steps.{step_fault}
use Rattle.channel_store.specs.Storing.{kept_of}
use Rattle.channel_store.specs.declared.kept.Kept.{Kept}
use Rattle.channel_node.specs.Places.{Told, mind_at}
use Rattle.channel_node.specs.Playing.{Signing, SignsWell, signings, Plays}
use Rattle.channel_node.specs.Refusing.{wish, signs_in}
use Rattle.fairness_laws.specs.Table.{stages}

-- Rules with the network's steps, a legal history, and a journal that they give, in which the node signed nothing. At
-- its end a stage wants a state that the node doesn't sign.
pub record GuardBites : Type 0 where
  pub rules : Rules
  pub steps : rules.step ≡ step_fault
  pub signing : Signing
  pub signs_well : SignsWell rules signing
  pub history : List Entry
  pub journal : List Told
  pub legal : Legal rules history
  pub plays : Plays stages rules signing history journal
  pub unsigned : signings journal ≡ 0
  pub channel : List ℕ
  pub kept : Kept
  pub state : StateParts
  pub keeps : kept_of channel (mind_at rules signing.key history journal).kept ≡ Some kept
  pub wants : wish stages None (mind_at rules signing.key history journal) channel kept ≡ Some state
  pub bites : signs_in stages rules None (mind_at rules signing.key history journal) channel ≡ None
