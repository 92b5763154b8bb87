-- What a node and its watchers do with a history, whose entries are in the order of time here.
use Rattle.std.specs.Prelude.{ℕ, List, [], drop, slice_get, slice_set, Option, Some, None, Result, Ok, Err}
use Rattle.call_history.specs.declared.call.Call.{Call}
use Rattle.call_history.specs.declared.entry.Entry.{Entry}
use Rattle.network.specs.Ways.{Ways, quiet, followed, looked}
use Rattle.network.specs.declared.command.Command.{Command}
use Rattle.network.specs.declared.lookout.Lookout.{Lookout}
use Rattle.network.specs.declared.outs.NodeFault.{NodeFault}
use Rattle.network.specs.declared.outs.Outs.{Outs}

-- a node with its watchers
pub record MemberOf (P : Type 0) : Type 0 where
  pub node : P
  pub watchers : List Lookout

module _ {P : Type 0} (ways : Ways P) where
  -- it follows what it hasn't followed
  abbrev pub sees : List Entry → MemberOf P → MemberOf P
  sees entries m = record m { node = ways.saw (drop (ways.seen m.node) entries) m.node }

  abbrev pub told : ℕ → Command → MemberOf P → MemberOf P
  told step command m = record m { node = ways.commanded step command m.node }

  abbrev pub handed : List ℕ → MemberOf P → MemberOf P
  handed bytes m = record m { node = ways.handled bytes m.node }

  abbrev pub acts : MemberOf P → MemberOf P
  acts m = record m { node = ways.ticked m.node }

  -- ---- looks

  -- a watcher that has followed all entries
  abbrev pub up_to_date : List Entry → Lookout → Lookout
  up_to_date entries l = followed (drop l.seen entries) l

  abbrev pub calls_of_look : List Entry → MemberOf P → Lookout → List Call
  calls_of_look entries m l = looked (ways.chains m.node) (up_to_date entries l)

  abbrev pub looks_with : List Entry → ℕ → MemberOf P → Option Lookout → MemberOf P
  looks_with entries place m None = m
  looks_with entries place m (Some l) =
      record {
        node = ways.watched (up_to_date entries l).seen place (calls_of_look entries m l) m.node;
        watchers = slice_set m.watchers place (up_to_date entries l);
      }

  -- the watcher at this place looks
  abbrev pub looks : List Entry → ℕ → MemberOf P → MemberOf P
  looks entries place m = looks_with entries place m (slice_get m.watchers place)

  -- the calls of its look
  abbrev pub calls_if : List Entry → MemberOf P → Option Lookout → List Call
  calls_if entries m None = []
  calls_if entries m (Some l) = calls_of_look entries m l

-- what is given by a command, which gives nothing where it is refused
abbrev pub accepted : Result Outs NodeFault → Outs
accepted (Ok outs) = outs
accepted (Err fault) = quiet
