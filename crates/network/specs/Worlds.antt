-- The world: one history, and the nodes with their watchers; and what each happening makes of it and gives.
use Rattle.std.specs.Prelude.{ℕ, ◌==◌, List, [], ◌∷◌, ◌++◌, Bool, false, replicate, slice_get, Option, Some, None}
use Rattle.std.specs.List.{find, before_first, after_first}
use Rattle.std.specs.Option.{option_map}
use Rattle.call_history.specs.declared.call.Call.{Call}
use Rattle.call_history.specs.declared.call.Op.TheVariants as ops
use Rattle.call_history.specs.declared.entry.Entry.{Entry}
use Rattle.call_history.specs.declared.event.Event.{Event}
use Rattle.network.specs.Ways.{Ways, quiet, unlooking}
use Rattle.network.specs.declared.outs.Outs.{Outs}
use Rattle.lms_signatures.specs.Signing.{Signing}
use Rattle.network.specs.Entered.{entered, oldest_first}
use Rattle.network.specs.Members.{MemberOf, sees, told, handed, acts, looks, accepted, calls_if}
use Rattle.network.specs.declared.happening.Happening.{Happening}
use Rattle.network.specs.declared.happening.Happening.TheVariants.{Enter, Time, See, Command, Deliver, Tick, Watch}

-- The history, the newest entry first; the nodes in the order in which they joined; whether memory ran out.
pub record WorldOf (P : Type 0) : Type 0 where
  pub history : List Entry
  pub members : List (MemberOf P)
  pub is_lost : Bool

-- nobody is there, and nothing happened
abbrev pub new_world : {P : Type 0} → WorldOf P
new_world = record { history = []; members = []; is_lost = false }

-- at most so many calls are given at a happening
abbrev pub most_calls : Happening → ℕ
most_calls (Watch number place) = 64
most_calls event = 32768

abbrev pub calling : List Call → Outs
calling calls = record quiet { calls = calls }

module _ {P : Type 0} (ways : Ways P) where
  -- ---- one node

  abbrev pub has_number : ℕ → MemberOf P → Bool
  has_number number m = ways.number m.node == number

  -- the node of this number with its watchers
  abbrev pub member : WorldOf P → ℕ → Option (MemberOf P)
  member w number = find (has_number number) w.members

  -- this node in place of the one of its number, if there is one
  abbrev pub replaced : WorldOf P → ℕ → Option (MemberOf P) → WorldOf P
  replaced w number None = w
  replaced w number (Some m) = record w { members = before_first (has_number number) w.members ++ m ∷ after_first (has_number number) w.members }

  -- with the node of this number changed
  abbrev pub changed : ℕ → (MemberOf P → MemberOf P) → WorldOf P → WorldOf P
  changed number change w = replaced w number (option_map change (member w number))

  abbrev pub given_by : (MemberOf P → Outs) → Option (MemberOf P) → Outs
  given_by give None = quiet
  given_by give (Some m) = give m

  -- the journal of the node of this number
  abbrev pub journal_if : Option (MemberOf P) → List Event
  journal_if None = []
  journal_if (Some m) = ways.journal m.node

  abbrev pub journal : WorldOf P → ℕ → List Event
  journal w number = journal_if (member w number)

  -- ---- happenings

  -- What happens to the world. A number that no node has, and a place without a watcher, change nothing.
  abbrev pub happened : Happening → WorldOf P → WorldOf P
  happened (Enter by call) w = record w { history = entered w.history by (ops.Call call) }
  happened (Time to) w = record w { history = entered w.history 0 (ops.Time to) }
  happened (See number) w = changed number (sees ways (oldest_first w.history)) w
  happened (Command number step command) w = changed number (told ways step command) w
  happened (Deliver number bytes) w = changed number (handed ways bytes) w
  happened (Tick number) w = changed number (acts ways) w
  happened (Watch number place) w = changed number (looks ways (oldest_first w.history) place) w

  -- What is given: by a command, a tick or a look, and nothing by anything else.
  abbrev pub given : Happening → WorldOf P → Outs
  given (Command number step command) w = given_by (λ m. accepted (ways.answers command m.node)) (member w number)
  given (Tick number) w = given_by (λ m. ways.gives m.node) (member w number)
  given (Watch number place) w = given_by (λ m. calling (calls_if ways (oldest_first w.history) m (slice_get m.watchers place))) (member w number)
  given _ w = quiet

  -- a new node joins, with its signer and so many watchers
  abbrev pub joined : ℕ → Signing → ℕ → WorldOf P → WorldOf P
  joined number signer watchers w = record w { members = w.members ++ record { node = ways.fresh number signer; watchers = replicate watchers unlooking } ∷ [] }
