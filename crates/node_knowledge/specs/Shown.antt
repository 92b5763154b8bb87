-- What an entry shows, and what is kept with it.
use Rattle.std.specs.Prelude.{◌≡◌, ℕ, ◌≤◌, true, List, length, Option, Some, None}
use Rattle.channel_values.specs.Parts.{FixedParts}
use Rattle.channel_values.specs.declared.chain.Chain.{Chain}
use Rattle.channel_values.specs.declared.chain.Signed.{Signed}
use Rattle.call_history.specs.History.{is_accepted}
use Rattle.call_history.specs.Marked.{Marked, nothing, marked_of, answered}
use Rattle.call_history.specs.Naming.{name_of}
use Rattle.call_history.specs.Rows.{fixed_of}
use Rattle.call_history.specs.declared.call.Call.TheVariants.{Respond}
use Rattle.call_history.specs.declared.call.Op.{Op}
use Rattle.call_history.specs.declared.call.Op.TheVariants as ops
use Rattle.call_history.specs.declared.entry.Entry.{Entry}
use Rattle.call_history.specs.declared.view.WorldView.{WorldView}
use Rattle.channel_store.specs.Keeping.{adopting}
use Rattle.channel_store.specs.Storing.{kept_with}
use Rattle.channel_store.specs.declared.kept.Kept.{Kept}
use Rattle.history_view.specs.Views.{view_of}
use Rattle.history_view.specs.Room.{CanFollow}
use Rattle.support_rules.specs.Real.{real}

abbrev pub answered_or : FixedParts → Signed → Option Chain → Marked
answered_or f next None = nothing
answered_or f next (Some chain) = answered f next (marked_of chain)

-- a chain is there, and has so few states that a mark has a place for each
abbrev pub HasFew : Option Chain → Type 0
HasFew None = Unit {0}
HasFew (Some chain) = length chain.states ≤ 255

-- the chain on which an op writes an answer
abbrev pub FewUnder : Op → Option Chain → Type 0
FewUnder (ops.Call (Respond k)) before = HasFew before
FewUnder _ before = Unit {0}

-- with a chain of the channel of this name
abbrev pub kept_shown : Option (List ℕ × Chain) → List Kept → List Kept
kept_shown None kept = kept
kept_shown (Some shown) kept = kept_with (adopting real (marked_of shown.1)) shown.0 kept

abbrev pub FewIn : WorldView → Op → Option FixedParts → Type 0
FewIn view op None = Unit {0}
FewIn view op (Some f) = FewUnder op (view_of view.channels (name_of f)).shown

-- a view can follow the entry, and has few states under an accepted answer
pub record CanSee (e : Entry) (view : WorldView) : Type 0 where
  pub follows : CanFollow name_of e view
  pub few : is_accepted e.reply ≡ true → FewIn view e.op (fixed_of e.op)
