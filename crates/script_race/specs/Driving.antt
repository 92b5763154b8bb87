-- A driver of a race: what its parts stand for, and what is true of it between two calls.
use Rattle.std.specs.Prelude.{◌≡◌, Bool, false, List}
use Rattle.call_history.specs.History.{newest_first, now_of}
use Rattle.call_history.specs.declared.call.Op.{Op}
use Rattle.call_history.specs.declared.entry.Entry.{Entry}
use Rattle.shared_object.specs.Caller.{Caller, IsCaller, whole}
use Rattle.network_rounds.specs.Views.{players}
use Rattle.network.specs.Ways.{Ways}
use Rattle.network.specs.Members.{MemberOf}
use Rattle.network.specs.Worlds.{WorldOf}
use Rattle.network_rounds.specs.Journals.{WritesJournals}
use Rattle.network_rounds.specs.Races.{entered_on, IsRacing}
use Rattle.network_rounds.specs.Working.{IsHistory}
use Rattle.network_rounds.specs.declared.actor.Act.{Act}
use Rattle.script_play.specs.Play.{SceneOf}
use Rattle.script_race.specs.Races.{RaceOf, stage_of}
use Rattle.script_race.specs.declared.racing.Race.{Race}
use Rattle.network.specs.Standing.{AreKept}

-- nodes with what the driver has seen, in the order of time
abbrev pub world_of : {P : Type 0} → List Entry → List (MemberOf P) → WorldOf P
world_of seen members = record { history = newest_first seen; members = members; is_lost = false }

-- an op was entered: the caller has seen what it had, and its entry
pub record EntersOp (op : Op) (c d : Caller Entry) : Type 0 where
  pub book : d.book ≡ c.book
  pub part : d.part ≡ c.part
  pub sound : IsCaller d
  pub seen : d.seen ≡ entered_on c.seen op
  pub legal : IsHistory d.seen

-- a caller that all is of, which has looked, has seen nothing new
pub record HasLookedOn (c d : Caller Entry) : Type 0 where
  pub book : d.book ≡ c.book
  pub part : d.part ≡ c.part
  pub sound : IsCaller d
  pub seen : d.seen ≡ c.seen

-- nodes keep what they must, and write their journals
pub record KeepRaces {P : Type 0} (ways : Ways P) (stands : List Entry → P → Type 0) (lost : P → Bool) : Type 0 where
  pub kept : AreKept ways stands
  pub writes : WritesJournals ways lost

module _ {P D : Type 0} {V : D → Type 0} where
  -- what the parts of a race stand for, by whether an actor says what it has answered, and what it says
  abbrev pub race_of : (tells : (d : D) × V d → Bool) (told : (d : D) × V d → List Act) → Race P D V → RaceOf P
  race_of tells told r =
      record {
        scene = record { names = r.names; world = world_of r.seat.seen r.crew.nodes.items; post = r.crew.post.items; rounds = r.rounds };
        cast = players tells told r.crew.cast.items;
      }

  -- The driver has the whole of its book, and knows the time.
  pub record IsSeated (r : Race P D V) : Type 0 where
    pub book : r.seat.book ≡ r.book
    pub part : r.seat.part ≡ whole
    pub sound : IsCaller r.seat
    pub now : r.now ≡ now_of (newest_first r.seat.seen)

  module _ (tells : (d : D) × V d → Bool) (told : (d : D) × V d → List Act) where
    -- its crew races
    abbrev pub Racing : Ways P → (stands : List Entry → P → Type 0) → (lost : P → Bool) → Race P D V → Type 0
    Racing ways stands lost r = IsRacing ways stands lost (stage_of (race_of tells told r))

    -- the scene turned into this one, and nothing else
    abbrev pub Turns : (SceneOf P → SceneOf P) → Race P D V → Race P D V → Type 0
    Turns change r q = race_of tells told q ≡ record (race_of tells told r) { scene = change (race_of tells told r).scene }
