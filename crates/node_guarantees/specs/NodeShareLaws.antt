-- What a node knows determines the share of its person at its place.
use Rattle.std.specs.Prelude.{◌≡◌, ◌==◌, ℕ, ◌≤◌, false, List, ◌++◌, length}
use Rattle.std.specs.List.{AllByRecursion}
use Rattle.channel_values.specs.Digests.{name_of_person}
use Rattle.channel_values.specs.Rules.{Rules}
use Rattle.call_history.specs.History.{Legal}
use Rattle.call_history.specs.declared.entry.Entry.{Entry}
use Rattle.call_history.specs.declared.view.ChannelView.{ChannelView}
use Rattle.channel_safety.specs.Journals.{In, is_watched}
use Rattle.history_view.specs.Standing.{StandsFor}
use Rattle.share_laws.specs.Places.{plan, share}
use Rattle.plan_share.specs.Seen.{share_seen}
use Rattle.node_guarantees.specs.ViewLaws.{TellsShare}
use Rattle.channel_node.specs.Tables.{Tables}
use Rattle.channel_node.specs.Minds.{Mind, facts_of}
use Rattle.channel_node.specs.Places.{Told, lines_of, mind_at, AreFew}
use Rattle.channel_node.specs.Playing.{Signing, Plays}
use Rattle.channel_node.specs.Nodes.{NodeOf, told_of}
use Rattle.channel_node.specs.Standing.{Stands}
use Rattle.node_guarantees.specs.Orders.{orders_of}

-- It has this key, the parts that the journal's commands opened, and a view that stands for these entries. It says
-- which channels count after the entries and events, the share in each asset, and whether the plan is funded. The
-- orders are those of the whole journal.
pub record KnowsShare (r : Rules) (key : List ℕ) (journal : List Told) (past : List Entry) (front : List Told) (m : Mind) : Type 0 where
  pub own : m.key ≡ key
  pub parts : m.parts ≡ plan (orders_of r key journal) (lines_of key front)
  pub view : StandsFor r past m.view
  pub tells : TellsShare r (orders_of r key journal) past (lines_of key front) m.view (facts_of m).plan (facts_of m).known
  pub shares :
      (asset : ℕ) → share_seen m.view (facts_of m).plan (facts_of m).known asset
      ≡ share r (name_of_person key) (orders_of r key journal) past (lines_of key front) asset

-- The entries `past`, of few people each, and the events `front` come first, where no event but a look had seen more.
pub record IsFront (h : List Entry) (journal : List Told) (past : List Entry) (front : List Told) : Type 0 where
  pub later : List Entry
  pub newer : List Told
  pub entries : h ≡ later ++ past
  pub events : journal ≡ newer ++ front
  pub few : AreFew past
  pub before : (y : Told) → In y front → is_watched y.deed ≡ false → y.seen ≤ length past

-- at each place of a journal that the rules of a node give over a legal history
abbrev pub PlacesTellShares : Type 0
PlacesTellShares =
    (t : Tables) (r : Rules) (s : Signing) (h : List Entry) (journal : List Told) (past : List Entry) (front : List Told) → Legal r h
    → Plays t r s h journal → IsFront h journal past front → KnowsShare r s.key journal past front (mind_at r s.key past front)

-- a node that stands for a legal history, followed all of it and lost nothing
abbrev pub NodesTellShares : Type 0
NodesTellShares =
    (t : Tables) (r : Rules) (s : Signing) (h : List Entry) (n : NodeOf) → Legal r h → n.is_lost ≡ false → Stands t r s h n
    → n.mind.view.count ≡ length h → KnowsShare r s.key (told_of n) h (told_of n) n.mind

abbrev pub LacksAsset : ℕ → ℕ × ℕ → Type 0
LacksAsset asset balance = (balance.0 == asset) ≡ false

-- no channel of a view holds or held the asset
abbrev pub IsUnheld : ℕ → List ChannelView → Type 0
IsUnheld asset views = AllByRecursion (λ v. AllByRecursion (LacksAsset asset) v.held) views

-- of an asset that no channel of its view holds or held the share of its person at a place is 0
abbrev pub UnheldIsNothing : Type 0
UnheldIsNothing =
    (t : Tables) (r : Rules) (s : Signing) (h : List Entry) (journal : List Told) (past : List Entry) (front : List Told) → Legal r h
    → Plays t r s h journal → IsFront h journal past front → (asset : ℕ) → IsUnheld asset (mind_at r s.key past front).view.channels
    → share r (name_of_person s.key) (orders_of r s.key journal) past (lines_of s.key front) asset ≡ 0
