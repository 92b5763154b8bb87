-- Crews whose nodes and watchers stand for a history, and rounds as what each node and each actor did. Histories are in
-- the order of time here.
use Rattle.std.specs.Prelude.{ℕ, ◌^◌, ◌<◌, List, [], ◌∷◌, length, map}
use Rattle.std.specs.Str.{bytes_eq}
use Rattle.call_history.specs.History.{newest_first}
use Rattle.call_history.specs.declared.entry.Entry.{Entry}
use Rattle.shared_object.specs.History.{StartsWith}
use Rattle.channel_safety.specs.Journals.{In}
use Rattle.channel_values.specs.Outcomes.{AreApart}
use Rattle.network.specs.Ways.{Ways}
use Rattle.network.specs.declared.lookout.Lookout.{Lookout}
use Rattle.network.specs.Members.{MemberOf}
use Rattle.network.specs.Standing.{Follows}
use Rattle.network_rounds.specs.Players.{Player}
use Rattle.network_rounds.specs.Rounds.{CrewOf}
use Rattle.network_rounds.specs.Working.{IsHistory}

-- a node and its watchers stand for fronts of a history, whose newest entry stands first
pub record IsMember {P : Type 0} (stands : List Entry → P → Type 0) (h : List Entry) (m : MemberOf P) : Type 0 where
  pub node : stands h m.node
  pub watchers : (l : Lookout) → In l m.watchers → Follows h l
  pub few : length m.watchers < 2 ^ 32

-- The crew of a race in which so much has been seen.
pub record IsCrew {P : Type 0} (stands : List Entry → P → Type 0) (seen : List Entry) (crew : CrewOf P) : Type 0 where
  pub legal : IsHistory seen
  pub nodes : (m : MemberOf P) → In m crew.nodes → IsMember stands (newest_first seen) m
  pub notes : (x : Player) → In x crew.cast → StartsWith seen x.notes

-- ---- what the driver of a race sees to as it makes the crew and as nodes join

-- each is below all that follow
abbrev pub Rise : List ℕ → Type 0
Rise [] = Unit {0}
Rise (n ∷ ns) = ((k : ℕ) → In k ns → n < k) × Rise ns

abbrev pub numbers_of : {P : Type 0} → Ways P → List (MemberOf P) → List ℕ
numbers_of ways nodes = map (λ m. ways.number m.node) nodes

abbrev pub keys_of : {P : Type 0} → Ways P → List (MemberOf P) → List (List ℕ)
keys_of ways nodes = map (λ m. ways.key m.node) nodes

abbrev pub cast_numbers : List Player → List ℕ
cast_numbers cast = map (λ x. x.number) cast

-- Nodes stand in the order of their numbers, and actors in that of theirs; nobody has the number of another, and no
-- node the key of another.
pub record IsOrdered {P : Type 0} (ways : Ways P) (crew : CrewOf P) : Type 0 where
  pub nodes : Rise (numbers_of ways crew.nodes)
  pub cast : Rise (cast_numbers crew.cast)
  pub apart : (k : ℕ) → In k (numbers_of ways crew.nodes) → In k (cast_numbers crew.cast) → ⊥
  pub keys : AreApart bytes_eq (keys_of ways crew.nodes)
