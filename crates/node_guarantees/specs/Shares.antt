-- The laws over shares, under the network's own rules.
use Rattle.std.specs.Prelude.{ℕ, List}
use Rattle.channel_values.specs.Collisions.{NoneCollide}
use Rattle.channel_values.specs.Digests.{name_of_person}
use Rattle.call_history.specs.History.{Legal}
use Rattle.call_history.specs.declared.entry.Entry.{Entry}
use Rattle.channel_safety.specs.Hashed.{hashed}
use Rattle.channel_safety.specs.Journals.{Line}
use Rattle.channel_safety.specs.Honest.{Honest}
use Rattle.channel_safety.specs.Premises.{Unforged, InTime}
use Rattle.share_laws.specs.Places.{Order}
use Rattle.share_laws.specs.Kept.{SharesAreKept}
use Rattle.share_laws.specs.Finality.{StepsKeepPossible}
use Rattle.share_laws.specs.Signed.{PlansFairly}
use Rattle.support_rules.specs.Real.{real}

abbrev pub NetworkStepsKeepPossible : Type 0
NetworkStepsKeepPossible = (key : List ℕ) → StepsKeepPossible real key (name_of_person key)

-- Nobody lowers the share of an honest participant that plans fairly and has watchers in time, where nothing is forged
-- and no hashed strings collide.
abbrev pub NetworkSharesAreKept : List Entry → List Line → Type 0
NetworkSharesAreKept h journal =
    (key : List ℕ) (orders : ℕ → Order) → Legal real h
    → Honest real key h journal → Unforged real key h journal → NoneCollide (hashed h journal)
    → InTime real h journal → PlansFairly real (name_of_person key) orders h journal
    → SharesAreKept real (name_of_person key) orders h journal
