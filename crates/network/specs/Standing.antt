-- Worlds whose history is legal, whose nodes stand for it, and whose watchers stand for fronts of it.
use Rattle.std.specs.Prelude.{◌≡◌, ◌≤◌, ℕ, List, ◌∷◌, ◌++◌, length}
use Rattle.call_history.specs.History.{Legal}
use Rattle.call_history.specs.declared.entry.Entry.{Entry}
use Rattle.network.specs.Watching.{StandsFor}
use Rattle.channel_safety.specs.Honest.{Honest}
use Rattle.channel_safety.specs.Journals.{In}
use Rattle.channel_safety.specs.Valid.{IsValidEntry}
use Rattle.std.specs.List.{AllByRecursion}
use Rattle.lms_signatures.specs.Signing.{Signing}
use Rattle.support_rules.specs.Real.{real}
use Rattle.network.specs.Ways.{Ways, followed, looked}
use Rattle.network.specs.Histories.{IsFresh, ComeNext, HasLooked}
use Rattle.network.specs.declared.command.Command.{Command}
use Rattle.network.specs.declared.lookout.Lookout.{Lookout}
use Rattle.network.specs.Members.{MemberOf}
use Rattle.network.specs.Worlds.{WorldOf}

-- What nodes of these rules keep: `stands h p` says that p has followed a front of h; over a history of values its
-- journal is honest.
pub record AreKept {P : Type 0} (ways : Ways P) (stands : List Entry → P → Type 0) : Type 0 where
  pub fresh : (h : List Entry) (number : ℕ) (signer : Signing) → IsFresh signer → stands h (ways.fresh number signer)
  pub saw : (h entries : List Entry) (p : P) → Legal real h → ComeNext h entries (ways.seen p) → stands h p → stands h (ways.saw entries p)
  pub commanded : (h : List Entry) (step : ℕ) (command : Command) (p : P) → Legal real h → stands h p → stands h (ways.commanded step command p)
  pub handled : (h : List Entry) (bytes : List ℕ) (p : P) → Legal real h → stands h p → stands h (ways.handled bytes p)
  pub ticked : (h : List Entry) (p : P) → Legal real h → stands h p → stands h (ways.ticked p)
  pub watched :
      (h entries : List Entry) (l : Lookout) (place : ℕ) (p : P) → Legal real h → HasLooked real h (ways.seen p) l entries → stands h p
      → stands h (ways.watched (followed entries l).seen place (looked (ways.chains p) (followed entries l)) p)
  pub grows : (h : List Entry) (e : Entry) (p : P) → Legal real (e ∷ h) → stands h p → stands (e ∷ h) p
  pub within : (h : List Entry) (p : P) → stands h p → ways.seen p ≤ length h
  pub honest : (h : List Entry) (p : P) → Legal real h → AllByRecursion IsValidEntry h → stands h p → Honest real (ways.key p) h (ways.lines p)

-- a watcher stands for a front of the history
pub record Follows (h : List Entry) (l : Lookout) : Type 0 where
  pub later : List Entry
  pub past : List Entry
  pub is : h ≡ later ++ past
  pub count : length past ≡ l.seen
  pub stands : StandsFor real past l.watcher

pub record IsWorld {P : Type 0} (stands : List Entry → P → Type 0) (w : WorldOf P) : Type 0 where
  pub legal : Legal real w.history
  pub nodes : (m : MemberOf P) → In m w.members → stands w.history m.node
  pub watchers : (m : MemberOf P) → In m w.members → (l : Lookout) → In l m.watchers → Follows w.history l

-- where the history is one of values, each journal is honest over the whole of it
abbrev pub AreHonest : {P : Type 0} → Ways P → WorldOf P → Type 0
AreHonest {P} ways w = AllByRecursion IsValidEntry w.history → (m : MemberOf P) → In m w.members → Honest real (ways.key m.node) w.history (ways.lines m.node)
