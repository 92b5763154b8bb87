-- A view that stands for a history, and a store that keeps what is held, determine the share at a place.
use Rattle.std.specs.Prelude.{◌≡◌, ℕ, List, [], ◌∷◌, Some}
use Rattle.std.specs.List.{flat_map}
use Rattle.std.specs.Option.{option_map}
use Rattle.channel_values.specs.Parts.{FixedParts}
use Rattle.channel_values.specs.Rules.{Rules}
use Rattle.call_history.specs.Marked.{marked_of}
use Rattle.call_history.specs.declared.entry.Entry.{Entry}
use Rattle.call_history.specs.declared.held_chain.Known.{Known}
use Rattle.call_history.specs.declared.view.WorldView.{WorldView}
use Rattle.channel_safety.specs.Journals.{Line}
use Rattle.channel_safety.specs.Held.{held}
use Rattle.history_view.specs.Standing.{StandsFor}
use Rattle.channel_store.specs.Keeping.{known_state}
use Rattle.channel_store.specs.Good.{IsGoodKept}
use Rattle.channel_store.specs.declared.kept.Kept.{Kept}
use Rattle.funding_plans.specs.declared.plan.Plan.{Plan}
use Rattle.share_laws.specs.Funded.{is_funded}
use Rattle.share_laws.specs.Places.{Order, plan, channels, last_made, counting, balances, share}
use Rattle.plan_share.specs.Seen.{counting_seen, share_seen, is_funded_seen}

-- what is kept of a channel at a place: what is held of it there, and the last state that the participant signed
pub record IsKeptAt (r : Rules) (past : List Entry) (front : List Line) (f : FixedParts) (k : Kept) : Type 0 where
  pub good : IsGoodKept r k
  pub name : k.channel ≡ r.named f
  pub fixed : k.chain.fixed ≡ f
  pub chain : held r f past front ≡ Some (marked_of k.chain)
  pub last : k.last ≡ option_map (λ s. s.state) (last_made (r.named f) front)

-- of these channels, each once and in their order
abbrev pub AreKeptAt : Rules → List Entry → List Line → List FixedParts → List Kept → Type 0
AreKeptAt r past front [] [] = Unit {0}
AreKeptAt r past front (f ∷ fs) (k ∷ ks) = IsKeptAt r past front f k × AreKeptAt r past front fs ks
AreKeptAt r past front _ _ = ⊥

-- the channels that count, the share in each asset, and whether the plan is funded in it
pub record TellsShare (r : Rules) (orders : ℕ → Order) (past : List Entry) (front : List Line) (w : WorldView)
    (own : Plan) (known : List Known) : Type 0 where
  pub counts : counting_seen w known ≡ counting r past front
  pub shares : (asset : ℕ) → share_seen w own known asset ≡ share r own.me orders past front asset
  pub funded :
      (asset : ℕ) → is_funded_seen w own known asset
      ≡ is_funded own.me (plan orders front) (balances past asset) (counting r past front) asset

-- The participant's plan is what its commands opened, its view stands for the entries, and each channel of the plan is
-- kept as it is held there.
abbrev pub ViewsTellShares : Type 0
ViewsTellShares =
    (r : Rules) (orders : ℕ → Order) (past : List Entry) (front : List Line) (w : WorldView) (own : Plan)
    (kept : List Kept) → own.parts ≡ plan orders front → StandsFor r past w
    → AreKeptAt r past front (channels front) kept
    → TellsShare r orders past front w own (flat_map known_state kept)
