-- Races: rounds with a time entry after each, and what is done between them. Histories are in the order of time here.
use Rattle.std.specs.Prelude.{◌≡◌, ℕ, suc, ◌+◌, ◌<◌, ◌^◌, Bool, false, replicate, List, [], ◌∷◌, ◌++◌, length}
use Rattle.call_history.specs.History.{newest_first, now_of, reply_to}
use Rattle.call_history.specs.declared.call.Call.{Call}
use Rattle.call_history.specs.declared.call.Op.{Op}
use Rattle.call_history.specs.declared.call.Op.TheVariants as ops
use Rattle.call_history.specs.declared.entry.Entry.{Entry}
use Rattle.shared_object.specs.History.{StartsWith}
use Rattle.channel_safety.specs.Journals.{In}
use Rattle.network.specs.Ways.{Ways, unlooking}
use Rattle.network.specs.Histories.{IsFresh}
use Rattle.network.specs.declared.command.Command.{Command}
use Rattle.network.specs.Members.{MemberOf, sees, told}
use Rattle.channel_safety.specs.Races.{IsRaced}
use Rattle.network_rounds.specs.Members.{Letter}
use Rattle.network_rounds.specs.Players.{Player}
use Rattle.network_rounds.specs.Rounds.{CrewOf}
use Rattle.lms_signatures.specs.Signing.{Signing}
use Rattle.support_rules.specs.Real.{real}
use Rattle.network_rounds.specs.Crews.{IsCrew}
use Rattle.network_rounds.specs.Told.{Round}

-- a race by now: its crew, what the driver has seen, and how long the history was after each round, the last one first
pub record Stage (P : Type 0) : Type 0 where
  pub crew : CrewOf P
  pub seen : List Entry
  pub ends : List ℕ

-- the history after the driver, caller 0, has entered an op
abbrev pub entered_on : List Entry → Op → List Entry
entered_on seen op = seen ++ record { number = suc (length seen); by = 0; op = op; reply = reply_to real (newest_first seen) op } ∷ []

abbrev pub next_time : List Entry → ℕ
next_time seen = now_of (newest_first seen) + 1

abbrev pub with_nodes : {P : Type 0} → Stage P → List (MemberOf P) → Stage P
with_nodes s nodes = record s { crew = record s.crew { nodes = nodes } }

abbrev pub with_rest : {P : Type 0} → Stage P → List Player → List Letter → Stage P
with_rest s cast post = record s { crew = record s.crew { cast = cast; post = post } }

module _ {P : Type 0} (ways : Ways P) where
  -- One step of a race. Its driver enters a call, or a node sees what the driver has seen, and may be given a command
  -- then. The messages on their way change, and actors come or go, whose notes begin what it has seen. A new node
  -- joins, with so many watchers. Or there is a round, and after it the next time is entered.
  pub data Goes (s t : Stage P) : Type 0 where
    enters : (call : Call) → t ≡ record s { seen = entered_on s.seen (ops.Call call) } → Goes s t
    tells : (front back : List (MemberOf P)) (m : MemberOf P) (step : ℕ) (command : Command) → s.crew.nodes ≡ front ++ m ∷ back
        → t ≡ with_nodes s (front ++ told ways step command (sees ways s.seen m) ∷ back) → Goes s t
    follows : (front back : List (MemberOf P)) (m : MemberOf P) → s.crew.nodes ≡ front ++ m ∷ back
        → t ≡ with_nodes s (front ++ sees ways s.seen m ∷ back) → Goes s t
    turns : (cast : List Player) (post : List Letter) → ((x : Player) → In x cast → StartsWith s.seen x.notes) → t ≡ with_rest s cast post → Goes s t
    joins : (number : ℕ) (signer : Signing) (watchers : ℕ) → IsFresh signer → 0 < watchers → watchers < 2 ^ 32
        → t ≡ with_nodes s (s.crew.nodes ++ record { node = ways.fresh number signer; watchers = replicate watchers unlooking } ∷ []) → Goes s t
    rounds : (later : List Entry) (after : CrewOf P) → Round ways s.crew after s.seen later → length later < 2 ^ 32
        → t ≡ record { crew = after; seen = entered_on later (ops.Time (next_time later)); ends = length later ∷ s.ends } → Goes s t

  -- a race of so many steps
  abbrev pub Race : List (Stage P) → Stage P → Stage P → Type 0
  Race [] s t = t ≡ s
  Race (mid ∷ more) s t = Goes s mid × Race more mid t

  -- A node of a race: memory hasn't failed it, it has a watcher, and its journal over the history is that of a race.
  pub record IsRacer (lost : P → Bool) (s : Stage P) (m : MemberOf P) : Type 0 where
    pub well : lost m.node ≡ false
    pub watched : 0 < length m.watchers
    pub raced : IsRaced (newest_first s.seen) (ways.lines m.node) s.ends

  -- A race whose nodes and watchers stand for its history, and race.
  pub record IsRacing (stands : List Entry → P → Type 0) (lost : P → Bool) (s : Stage P) : Type 0 where
    pub crew : IsCrew stands s.seen s.crew
    pub ticks : IsRaced (newest_first s.seen) [] s.ends
    pub racers : (m : MemberOf P) → In m s.crew.nodes → IsRacer lost s m
