-- Signers that are fresh, refusals, and which entries come next for a node and its watchers.
use Rattle.std.specs.Prelude.{◌≡◌, ◌≤◌, ◌+◌, ◌++◌, ℕ, List, length, Option, Some, None, Result, Ok, Err}
use Rattle.channel_values.specs.Rules.{Rules}
use Rattle.call_history.specs.declared.entry.Entry.{Entry}
use Rattle.call_history.specs.declared.event.NodeRefusal.{NodeRefusal}
use Rattle.network.specs.Watching.{StandsFor, history_after}
use Rattle.network.specs.declared.lookout.Lookout.{Lookout}
use Rattle.network.specs.declared.outs.NodeFault.{NodeFault}
use Rattle.network.specs.declared.outs.NodeFault.TheVariants.{Refused, NoMemory}
use Rattle.lms_signatures.specs.Signing.{Signing, IsHeight}

-- a signer that has not signed, with 2^5 or 2^10 indices
pub record IsFresh (s : Signing) : Type 0 where
  pub id : length s.id ≡ 16
  pub height : IsHeight s.h
  pub unused : s.used ≡ 0

-- it is answered whether it is refused, and why, unless memory fails
abbrev pub RefusesAs : {A : Type 0} → Option NodeRefusal → Result A NodeFault → Type 0
RefusesAs refusal (Ok done) = refusal ≡ None
RefusesAs refusal (Err (Refused why)) = refusal ≡ Some why
RefusesAs refusal (Err NoMemory) = Unit {0}

-- these entries, in the order of time, come in the history after the first so many
abbrev pub ComeNext : List Entry → List Entry → ℕ → Type 0
ComeNext h entries seen = (later past : List Entry) × (h ≡ later ++ history_after past entries) × (length past ≡ seen)

-- the watcher stands for a front of the history in which these entries come next, and it will have seen no less than
-- the node
pub record HasLooked (r : Rules) (h : List Entry) (seen : ℕ) (l : Lookout) (entries : List Entry) : Type 0 where
  pub later : List Entry
  pub past : List Entry
  pub is : h ≡ later ++ history_after past entries
  pub count : length past ≡ l.seen
  pub stands : StandsFor r past l.watcher
  pub after : seen ≤ l.seen + length entries
