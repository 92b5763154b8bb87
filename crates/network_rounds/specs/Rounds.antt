-- A round, as it runs: two phases.
use Rattle.std.specs.Prelude.{◌≡◌, List, [], ◌∷◌, ◌++◌, map}
use Rattle.call_history.specs.declared.entry.Entry.{Entry}
use Rattle.shared_object.specs.Caller.{Caller}
use Rattle.network.specs.Ways.{Ways}
use Rattle.network.specs.Members.{MemberOf}
use Rattle.network_rounds.specs.Members.{Letter}
use Rattle.network_rounds.specs.Players.{Player, awake}
use Rattle.network_rounds.specs.Workers.{WorkerOf, a_node, an_actor, Acts, Watches, Phase}

-- the nodes with their watchers, the cast, and the messages on their way
pub record CrewOf (P : Type 0) : Type 0 where
  pub nodes : List (MemberOf P)
  pub cast : List Player
  pub post : List Letter

module _ {P : Type 0} where
  -- those who work: the nodes, and the actors that aren't done
  abbrev pub workers_in : CrewOf P → List (WorkerOf P)
  workers_in crew = map (λ m. a_node m []) crew.nodes ++ map (λ x. an_actor x []) (awake crew.cast)

  abbrev pub nodes_of : List (WorkerOf P) → List (MemberOf P)
  nodes_of [] = []
  nodes_of (a_node m sent ∷ ws) = m ∷ nodes_of ws
  nodes_of (an_actor x sent ∷ ws) = nodes_of ws

  abbrev pub cast_of : List (WorkerOf P) → List Player
  cast_of [] = []
  cast_of (a_node m sent ∷ ws) = cast_of ws
  cast_of (an_actor x sent ∷ ws) = x ∷ cast_of ws

  -- what they sent, one worker after another
  abbrev pub sent_by : List (WorkerOf P) → List Letter
  sent_by [] = []
  sent_by (a_node m sent ∷ ws) = sent ++ sent_by ws
  sent_by (an_actor x sent ∷ ws) = sent ++ sent_by ws

  abbrev pub crew_with : List (WorkerOf P) → CrewOf P
  crew_with ws = record { nodes = nodes_of ws; cast = cast_of ws; post = sent_by ws }

  pub record Runs (ways : Ways P) (crew after : CrewOf P) (c d : Caller Entry) : Type 0 where
    pub between : Caller Entry
    pub acted : List (WorkerOf P)
    pub looked : List (WorkerOf P)
    pub first : Phase (Acts ways crew.post) (workers_in crew) acted c between
    pub second : Phase (Watches ways) acted looked between d
    pub after_is : after ≡ crew_with looked
