-- The workers of a phase: each is a node with its watchers, or an actor, and has a seat of its own.
use Rattle.std.specs.Prelude.{◌≡◌, ◌<◌, ◌^◌, List, [], ◌∷◌, ◌++◌, length, map}
use Rattle.call_history.specs.declared.entry.Entry.{Entry}
use Rattle.shared_object.specs.Caller.{Caller, BookId, IsCaller}
use Rattle.network.specs.Ways.{Ways}
use Rattle.network.specs.Members.{MemberOf}
use Rattle.network_rounds.specs.Members.{Letter, Saw, Rises, acted, outs, tick_gave, looked_all, looks_gave, HasFollowed, HaveFollowed}
use Rattle.network_rounds.specs.Players.{Player, AsksIf}
use Rattle.network_rounds.specs.Seats.{Gathers}
use Rattle.network_rounds.specs.Working.{Given, Works}

-- a worker, and what it has sent in the round so far
pub data WorkerOf (P : Type 0) : Type 0 where
  a_node : MemberOf P → List Letter → WorkerOf P
  an_actor : Player → List Letter → WorkerOf P

-- what a node needs of what its seat has seen, before its watchers look
abbrev pub CanWatch : {P : Type 0} → List Entry → WorkerOf P → Type 0
CanWatch seen (a_node m sent) = HaveFollowed seen m.watchers × (length m.watchers < 2 ^ 32)
CanWatch seen (an_actor x sent) = Unit {0}

module _ {P : Type 0} (ways : Ways P) where
  -- and before it acts
  abbrev pub CanAct : List Entry → WorkerOf P → Type 0
  CanAct seen (a_node m sent) = HasFollowed ways seen m
  CanAct seen (an_actor x sent) = Unit {0}

  -- ---- what one worker does, with which calls, between two states of its seat

  -- a node looks, handles what came for it, and acts
  pub record NodeActs (post : List Letter) (m m' : MemberOf P) (sent : List Letter) (gave : List Given) (c d : Caller Entry) : Type 0 where
    pub seen : List Entry
    pub saw : Saw seen c d
    pub is : m' ≡ acted ways post seen m
    pub sent_is : sent ≡ (outs ways post seen m).sends
    pub gave_is : gave ≡ tick_gave ways post seen m

  -- each of its watchers looks, in their order
  pub record NodeWatches (m m' : MemberOf P) (gave : List Given) (c d : Caller Entry) : Type 0 where
    pub looks : List (List Entry)
    pub many : length looks ≡ length m.watchers
    pub rise : Rises c.seen looks d.seen
    pub is : m' ≡ looked_all ways 0 looks m
    pub gave_is : gave ≡ looks_gave ways 0 looks m

  -- in the first phase
  abbrev pub Acts : List Letter → WorkerOf P → WorkerOf P → List Given → Caller Entry → Caller Entry → Type 0
  Acts post (a_node m sent) (a_node m' sent') gave c d =
      (more : List Letter) × (sent' ≡ sent ++ more) × NodeActs post m m' more gave c d
  Acts post (an_actor x sent) (an_actor x' sent') gave c d =
      (more : List Letter) × (sent' ≡ sent ++ more) × AsksIf x x' more gave c d
  Acts post _ _ gave c d = ⊥

  -- in the second
  abbrev pub Watches : WorkerOf P → WorkerOf P → List Given → Caller Entry → Caller Entry → Type 0
  Watches (a_node m sent) (a_node m' sent') gave c d = (sent' ≡ sent) × NodeWatches m m' gave c d
  Watches (an_actor x sent) (an_actor x' sent') gave c d =
      (more : List Letter) × (sent' ≡ sent ++ more) × AsksIf x x' more gave c d
  Watches _ _ gave c d = ⊥

-- a worker that can do so, with a seat of this book
abbrev pub IsReady : {P : Type 0} → (List Entry → WorkerOf P → Type 0) → BookId → Caller Entry → WorkerOf P → Type 0
IsReady Can b c w = (c.book ≡ b) × Can c.seen w

-- ---- all of them

-- what one worker did in a phase
pub record Turn (P : Type 0) : Type 0 where
  pub worker : WorkerOf P
  pub after : WorkerOf P
  pub gave : List Given
  pub seat : Caller Entry
  pub seat_after : Caller Entry

module _ {P : Type 0} (Does : WorkerOf P → WorkerOf P → List Given → Caller Entry → Caller Entry → Type 0) where
  -- it did what it does in this phase, with a seat that had seen what the driver had and made nothing
  pub record IsTurn (c : Caller Entry) (t : Turn P) : Type 0 where
    pub fresh : (t.seat.seen ≡ c.seen) × (t.seat.made ≡ [])
    pub does : Does t.worker t.after t.gave t.seat t.seat_after
    pub works : Works t.gave t.seat t.seat_after

  abbrev pub AreTurns : Caller Entry → List (Turn P) → Type 0
  AreTurns c [] = Unit {0}
  AreTurns c (t ∷ ts) = IsTurn c t × AreTurns c ts

  -- A phase: each worker has a turn, and the driver's seat takes in the seats of all.
  pub record Phase (workers after : List (WorkerOf P)) (c d : Caller Entry) : Type 0 where
    pub turns : List (Turn P)
    pub workers_are : map (λ t. t.worker) turns ≡ workers
    pub after_are : map (λ t. t.after) turns ≡ after
    pub each : AreTurns c turns
    pub part : d.part ≡ c.part
    pub sound : IsCaller c → IsCaller d
    pub kept : Caller Entry
    pub kept_is : (kept.book ≡ c.book) × (kept.seen ≡ c.seen) × (kept.made ≡ c.made)
    pub gathers : Gathers (map (λ t. t.seat_after) turns) kept d
