-- The seat of a participant in a channel that isn't final: what is held of it ends in an outcome with which it could
-- end.
use Rattle.std.specs.Prelude.{◌≡◌, ◌≢◌, ℕ, true, false, List, Some}
use Rattle.channel_values.specs.Parts.{FixedParts}
use Rattle.channel_values.specs.declared.chain.Signed.{Signed}
use Rattle.channel_values.specs.declared.value.AssetOutcome.{AssetOutcome}
use Rattle.channel_values.specs.Digests.{name_of_person}
use Rattle.call_history.specs.Flows.{is_among}
use Rattle.call_history.specs.History.{mode}
use Rattle.call_history.specs.Marked.{Marked, marked_of}
use Rattle.call_history.specs.declared.entry.Entry.{Entry}
use Rattle.channel_store.specs.Keeping.{is_held}
use Rattle.call_history.specs.Mode.{is_final}
use Rattle.share_laws.specs.HeldLaws.{EndsPossibly}
use Rattle.channel_safety.specs.Journals.{Line}
use Rattle.fairness_laws.specs.PlanSeats.{SeatIs}
use Rattle.share_laws.specs.Bases.{all_bases}
use Rattle.share_laws.specs.Places.{Order, plan, last_made}
use Rattle.funding_plans.specs.Seats.{Seat}
use Rattle.support_rules.specs.Real.{real}

-- the state that the participant signed last, after which what is held ends
pub record HeldEnds (key : List ℕ) (front : List Line) (f : FixedParts) (w : Marked) : Type 0 where
  pub last : Signed
  pub is : last_made (real.named f) front ≡ Some last
  pub ends : EndsPossibly real key (name_of_person key) f last w

pub record Sits (key : List ℕ) (orders : ℕ → Order) (past : List Entry) (front : List Line) (f : FixedParts)
    (opening : List AssetOutcome) (c : Seat) : Type 0 where
  pub seat : SeatIs key past front f opening c
  pub going : is_final (mode real (real.named f) past) ≡ false
  pub held : is_held seat.kept ≡ true → HeldEnds key front f (marked_of seat.kept.chain)
  pub rests : is_among (real.named f) (all_bases (plan orders front)) ≡ true → f.app ≢ 1
