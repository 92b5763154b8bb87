-- What the tables of stages know of a channel is what is held of it, and what its participant signed last.
use Rattle.std.specs.Prelude.{◌≡◌, ℕ, ◌&&◌, List, Some, None, if◌then◌else◌}
use Rattle.std.specs.List.{slice_get, list_all}
use Rattle.channel_values.specs.Parts.{FixedParts}
use Rattle.channel_values.specs.declared.value.AssetOutcome.{AssetOutcome}
use Rattle.call_history.specs.declared.entry.Entry.{Entry}
use Rattle.channel_values.specs.Rules.{newest}
use Rattle.channel_store.specs.Keeping.{is_held, next_of}
use Rattle.channel_store.specs.declared.kept.Kept.{Kept}
use Rattle.channel_safety.specs.Journals.{Line}
use Rattle.share_laws.specs.Signatures.{IsOwn}
use Rattle.funding_plans.specs.Seats.{Seat}
use Rattle.support_rules.specs.Real.{real}
use Rattle.support_rules.specs.Steps.{persons}
use Rattle.node_guarantees.specs.ViewLaws.{IsKeptAt}

-- the seat of a channel of which this is kept
abbrev pub seat_of : FixedParts → List AssetOutcome → Kept → Seat
seat_of f opening k =
    record {
      name = real.named f;
      people = persons f;
      me = k.me;
      next = next_of k;
      opening = opening;
      top = if is_held k then newest k.chain.states else None;
      all_final = is_held k && list_all (λ s. s.is_final) k.chain.states;
      own = if is_held k then k.last else None;
    }

-- a channel of the participant with this key, what is kept of it at a place, and its seat there
pub record SeatIs (key : List ℕ) (past : List Entry) (front : List Line) (f : FixedParts) (opening : List AssetOutcome) (c : Seat)
    : Type 0 where
  pub kept : Kept
  pub own : IsOwn real front f
  pub at : IsKeptAt real past front f kept
  pub mine : slice_get f.keys kept.me ≡ Some key
  pub is : c ≡ seat_of f opening kept
