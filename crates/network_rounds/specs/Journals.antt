-- What nodes write into their journals.
use Rattle.std.specs.Prelude.{◌≡◌, ℕ, ◌+◌, Bool, false, List, [], ◌∷◌, ◌++◌, length, map, reverse}
use Rattle.call_history.specs.declared.call.Call.{Call}
use Rattle.call_history.specs.declared.entry.Entry.{Entry}
use Rattle.call_history.specs.declared.event.Deed.{Deed}
use Rattle.call_history.specs.declared.event.Deed.TheVariants as deeds
use Rattle.call_history.specs.declared.event.Event.{Event}
use Rattle.call_history.specs.History.{Legal}
use Rattle.channel_safety.specs.Journals.{In, Line}
use Rattle.network.specs.Ways.{Ways}
use Rattle.network.specs.Histories.{ComeNext}
use Rattle.network.specs.declared.command.Command.{Command}
use Rattle.lms_signatures.specs.Signing.{Signing}
use Rattle.support_rules.specs.Real.{real}

abbrev pub event_of : Line → Event
event_of x = record { seen = x.seen; deed = x.deed }

abbrev pub event : ℕ → Deed → Event
event seen deed = record { seen = seen; deed = deed }

-- the calls that events of a tick gave
abbrev pub called_by : Deed → List Call
called_by (deeds.Called call) = call ∷ []
called_by _ = []

abbrev pub called_in : List Event → List Call
called_in [] = []
called_in (x ∷ events) = called_by x.deed ++ called_in events

module _ {P : Type 0} (ways : Ways P) where
  -- The same node, whose journal gained these events. It has followed what it had, and memory hasn't failed it.
  pub record Wrote (lost : P → Bool) (events : List Event) (p q : P) : Type 0 where
    pub number : ways.number q ≡ ways.number p
    pub key : ways.key q ≡ ways.key p
    pub well : lost q ≡ false
    pub journal : ways.journal q ≡ ways.journal p ++ events
    pub gained : List Line
    pub lines : ways.lines q ≡ gained ++ ways.lines p
    pub are : map event_of gained ≡ reverse events

  -- where memory hasn't failed a node, each call writes what it did
  pub record WritesJournals (lost : P → Bool) : Type 0 where
    pub fresh : (number : ℕ) (signer : Signing) → (lost (ways.fresh number signer) ≡ false) × (ways.lines (ways.fresh number signer) ≡ []) × (ways.seen (ways.fresh number signer) ≡ 0)
    -- entries that come next in a legal history are followed one by one
    pub saw : (h entries : List Entry) (p : P) → Legal real h → ComeNext h entries (ways.seen p) → lost p ≡ false
        → Wrote lost [] p (ways.saw entries p) × (ways.seen (ways.saw entries p) ≡ ways.seen p + length entries)
    pub handled : (bytes : List ℕ) (p : P) → lost p ≡ false
        → Wrote lost (event (ways.seen p) (deeds.Handled bytes (ways.refuses bytes p)) ∷ []) p (ways.handled bytes p) × (ways.seen (ways.handled bytes p) ≡ ways.seen p)
    pub commanded : (step : ℕ) (command : Command) (p : P) → lost p ≡ false
        → (events : List Event) × Wrote lost events p (ways.commanded step command p) × (ways.seen (ways.commanded step command p) ≡ ways.seen p)
        × ((x : Event) → In x events → x.seen ≡ ways.seen p)
    pub ticked : (p : P) → lost p ≡ false
        → (events : List Event) × Wrote lost events p (ways.ticked p) × (ways.seen (ways.ticked p) ≡ ways.seen p)
        × ((x : Event) → In x events → x.seen ≡ ways.seen p) × (called_in events ≡ (ways.gives p).calls)
    pub watched : (seen place : ℕ) (calls : List Call) (p : P) → lost p ≡ false
        → Wrote lost (event seen (deeds.Watched place calls) ∷ []) p (ways.watched seen place calls p) × (ways.seen (ways.watched seen place calls p) ≡ ways.seen p)
