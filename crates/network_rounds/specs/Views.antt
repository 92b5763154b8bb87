-- What contracts see of actors, workers and crews.
use Rattle.std.specs.Prelude.{◌≡◌, Bool, List, [], ◌++◌, map}
use Rattle.std.specs.declared.alloc.Global.{Global}
use Rattle.std.specs.declared.dyn_box.DynBox.{DynBox}
use Rattle.network.specs.Members.{MemberOf}
use Rattle.network_rounds.specs.Members.{Letter}
use Rattle.network_rounds.specs.Players.{Player, awake}
use Rattle.network_rounds.specs.Rounds.{CrewOf, nodes_of, cast_of, sent_by}
use Rattle.network_rounds.specs.Workers.{WorkerOf, a_node, an_actor}
use Rattle.network_rounds.specs.declared.actor.Act.{Act}
use Rattle.network_rounds.specs.declared.cast.Cast.{Cast}
use Rattle.network_rounds.specs.declared.crew.Crew.{Crew}
use Rattle.network_rounds.specs.declared.worker.Worker.{Worker}
use Rattle.network_rounds.specs.declared.worker.Worker.TheVariants.{Node, Actor}

-- an actor in its box, as the contracts of this crate see it
abbrev pub Boxed : (D : Type 0) → (D → Type 0) → Type 0
Boxed D V = DynBox D Global V

-- by whether an actor says what it has answered, and what it says
module _ {D : Type 0} {V : D → Type 0} (tells : Boxed D V → Bool) (told : Boxed D V → List Act) where
  abbrev pub player_of : Cast D V → Player
  player_of c = record { number = c.number; tells = tells c.actor; told = told c.actor; notes = c.notes.entries.items; done = c.done }

  abbrev pub worker_of : {P : Type 0} → Worker P D V → WorkerOf P
  worker_of (Node m sent) = a_node m sent.items
  worker_of (Actor c sent) = an_actor (player_of c) sent.items

  abbrev pub crew_of : {P : Type 0} → Crew P D V → CrewOf P
  crew_of crew = record { nodes = crew.nodes.items; cast = map player_of crew.cast.items; post = crew.post.items }

-- a cast, as the contracts of other crates see it: there a boxed actor is a pair
module _ {D : Type 0} {V : D → Type 0} (tells : (d : D) × V d → Bool) (told : (d : D) × V d → List Act) where
  abbrev pub players : List (Cast D V) → List Player
  players cast = map (player_of (λ b. tells (b.vtable, b.value)) (λ b. told (b.vtable, b.value))) cast

-- ---- whatever its actors say

module _ {P D : Type 0} {V : D → Type 0} where
  -- the workers of a crew of these nodes and these actors
  abbrev pub Taking : List (MemberOf P) → List (Cast D V) → List (Worker P D V) → Type 0
  Taking nodes cast workers =
      (tells : Boxed D V → Bool) (told : Boxed D V → List Act)
      → map (worker_of tells told) workers ≡ map (λ m. a_node m []) nodes ++ map (λ x. an_actor x []) (awake (map (player_of tells told) cast))

  -- these nodes, actors and messages are those of these workers
  abbrev pub Giving : List (Worker P D V) → List (MemberOf P) → List (Cast D V) → List Letter → Type 0
  Giving workers nodes cast post =
      (tells : Boxed D V → Bool) (told : Boxed D V → List Act)
      → (nodes ≡ nodes_of (map (worker_of tells told) workers)) × (map (player_of tells told) cast ≡ cast_of (map (worker_of tells told) workers))
      × (post ≡ sent_by (map (worker_of tells told) workers))

  -- these workers, and after them the actors that aren't done
  abbrev pub Adding : List (Worker P D V) → List (Cast D V) → List (Worker P D V) → Type 0
  Adding first cast workers =
      (tells : Boxed D V → Bool) (told : Boxed D V → List Act)
      → map (worker_of tells told) workers ≡ map (worker_of tells told) first ++ map (λ x. an_actor x []) (awake (map (player_of tells told) cast))
