-- What a node does with what comes to it, as functions of what it is; and what its watchers do.
use Rattle.std.specs.Prelude.{◌+◌, ℕ, List, [], length, fold, Option, None, Result}
use Rattle.call_history.specs.declared.call.Call.{Call}
use Rattle.call_history.specs.declared.entry.Entry.{Entry}
use Rattle.call_history.specs.declared.event.Event.{Event}
use Rattle.call_history.specs.declared.held_chain.HeldChain.{HeldChain}
use Rattle.call_history.specs.declared.event.NodeRefusal.{NodeRefusal}
use Rattle.network.specs.Watching.{unseeing, saw, is_stale, checkpoints}
use Rattle.channel_safety.specs.Journals.{Line}
use Rattle.network.specs.declared.command.Command.{Command}
use Rattle.network.specs.declared.lookout.Lookout.{Lookout}
use Rattle.network.specs.declared.outs.NodeFault.{NodeFault}
use Rattle.network.specs.declared.outs.Outs.{Outs}
use Rattle.lms_signatures.specs.Signing.{Signing}

-- The rules of a node P.
pub record Ways (P : Type 0) : Type 0 where
  -- with a number and a signer
  pub fresh : ℕ → Signing → P
  pub number : P → ℕ
  pub key : P → List ℕ
  -- how many entries it has followed
  pub seen : P → ℕ
  -- its events in the order of time; and with what commands open, the newest first
  pub journal : P → List Event
  pub lines : P → List Line
  pub chains : P → List HeldChain
  -- after these entries
  pub saw : List Entry → P → P
  -- after a command of a step, and what it answers
  pub commanded : ℕ → Command → P → P
  pub answers : Command → P → Result Outs NodeFault
  -- after a message, and why it refuses it, if it does
  pub handled : List ℕ → P → P
  pub refuses : List ℕ → P → Option NodeRefusal
  -- after a tick, and what it gives
  pub ticked : P → P
  pub gives : P → Outs
  -- after the look of a watcher that has seen so many entries, at its place, which gave these calls
  pub watched : ℕ → ℕ → List Call → P → P

-- nothing is given
abbrev pub quiet : Outs
quiet = record { sends = []; calls = []; spent = None }

-- ---- watchers

abbrev pub unlooking : Lookout
unlooking = record { watcher = unseeing; seen = 0 }

-- a watcher that has followed these entries
abbrev pub followed : List Entry → Lookout → Lookout
followed entries l = record { watcher = fold saw l.watcher entries; seen = l.seen + length entries }

-- the calls of its look
abbrev pub looked : List HeldChain → Lookout → List Call
looked chains l = checkpoints (is_stale l.watcher) chains

-- ---- histories, the newest entry first
