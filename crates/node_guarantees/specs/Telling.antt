-- What nodes say of their journals and shares, and keep of what is promised to their people.
use Rattle.std.specs.Prelude.{◌≡◌, ◌==◌, ◌++◌, ℕ, Bool, false, List, [], ◌∷◌, length, flat_map, Option, Some, None, if◌then◌else◌}
use Rattle.std.specs.List.{AllByRecursion}
use Rattle.channel_values.specs.Parts.{IsFixed}
use Rattle.channel_values.specs.Collisions.{NoneCollide}
use Rattle.channel_values.specs.Digests.{person_string}
use Rattle.call_history.specs.History.{Legal, newest_first}
use Rattle.call_history.specs.declared.entry.Entry.{Entry}
use Rattle.call_history.specs.declared.event.Event.{Event}
use Rattle.funding_plans.specs.Known.{FactsOf}
use Rattle.channel_safety.specs.Hashed.{of_fixed, hashed}
use Rattle.channel_safety.specs.Journals.{Line}
use Rattle.channel_safety.specs.Premises.{Unforged, InTime}
use Rattle.channel_safety.specs.Occurring.{AreValid}
use Rattle.channel_safety.specs.Valid.{IsValidEntry}
use Rattle.network.specs.Ways.{Ways}
use Rattle.network.specs.declared.command.Command.{Command}
use Rattle.channel_node.specs.Named.{named_in}
use Rattle.channel_node.specs.Places.{Told, told_by, lines_of}
use Rattle.channel_node.specs.Exiting.{until_exit}
use Rattle.support_rules.specs.Real.{real}
use Rattle.network.specs.Commanded.{FollowCommands}
use Rattle.node_guarantees.specs.Challenges.{CallsOwnChallenges}
use Rattle.node_guarantees.specs.Endings.{facts_at_end, EndsWell}
use Rattle.node_guarantees.specs.Promised.{Pairwise, share_at_end, share_after, IsByRules, SignsFairly, KeepsShare, IsPaidOnExit}

-- ---- journals

abbrev pub IsTold : Line → Event → Type 0
IsTold x e = (x.seen ≡ e.seen) × (x.deed ≡ e.deed)

-- the lines are of these events
abbrev pub AreTold : List Line → List Event → Type 0
AreTold = Pairwise IsTold

-- what they add to the plan are fixed parts
abbrev pub HaveFixed : List Line → Type 0
HaveFixed = AllByRecursion (λ x. AllByRecursion IsFixed x.adds)

-- the lines are those of the events with their commands
abbrev pub LinesAreTold : {P : Type 0} → Ways P → (told : P → List Told) → Type 0
LinesAreTold {P} ways told = (p : P) → ways.lines p ≡ lines_of (ways.key p) (told p)

-- the events of the journal stand with the commands of these steps
abbrev pub IsToldBy : {P : Type 0} → Ways P → (told : P → List Told) → (ℕ → Option Command) → P → Type 0
IsToldBy ways told commands p = told p ≡ told_by commands (ways.journal p)

-- so of each node that is given the commands of the steps
abbrev pub TellsCommands : {P : Type 0} → Ways P → (told : P → List Told) → Type 0
TellsCommands {P} ways told = (commands : ℕ → Option Command) → FollowCommands ways commands (IsToldBy ways told commands)

-- ---- challenges

-- a node that memory didn't fail called no challenge but one that it signed right before, as itself
abbrev pub ChallengesAreOwn : {P : Type 0} → Ways P → (stands : List Entry → P → Type 0) → (lost : P → Bool)
    → (told : P → List Told) → Type 0
ChallengesAreOwn {P} ways stands lost told =
    (h : List Entry) (p : P) → stands h p → lost p ≡ false → CallsOwnChallenges (ways.key p) (told p)

-- ---- shares

-- The shares that a node reports, where memory didn't fail it and it followed the whole history, are those of the
-- definition over the history and its own journal.
abbrev pub SharesAreReal : {P : Type 0} → Ways P → (stands : List Entry → P → Type 0) → (lost : P → Bool) → (shares : P → ℕ → ℕ) → (told : P → List Told) → Type 0
SharesAreReal {P} ways stands lost shares told =
    (h : List Entry) (p : P) → Legal real h → AllByRecursion IsValidEntry h → stands h p → lost p ≡ false → ways.seen p ≡ length h
    → (asset : ℕ) → shares p asset ≡ share_at_end h (ways.key p) (told p) asset

-- the amount of an asset, 0 where there is none
abbrev pub amount_then : List (ℕ × ℕ) → ℕ → ℕ
amount_then [] asset = 0
amount_then (x ∷ xs) asset = if x.0 == asset then x.1 else amount_then xs asset

-- there are amounts where there are events, and there alone, and those of each asset are these after the events
abbrev pub AreThose : (List Told → ℕ → ℕ) → Option (List (ℕ × ℕ)) → Option (List Told) → Type 0
AreThose shares None None = Unit {0}
AreThose shares (Some amounts) (Some front) = (asset : ℕ) → amount_then amounts asset ≡ shares front asset
AreThose shares _ _ = ⊥

-- What a node says of its exit, where memory didn't fail it, are the shares of the definition at the place just after
-- its first accepted command to exit.
abbrev pub ExitsAreReal : {P : Type 0} → Ways P → (stands : List Entry → P → Type 0) → (lost : P → Bool) → (exits : P → Option (List (ℕ × ℕ)))
    → (told : P → List Told) → Type 0
ExitsAreReal {P} ways stands lost exits told =
    (h : List Entry) (p : P) → Legal real h → AllByRecursion IsValidEntry h → stands h p → lost p ≡ false
    → AreThose (share_after h (ways.key p) (told p)) (exits p) (until_exit (told p))

-- What a node knows, where memory didn't fail it and it followed the whole history, is what is known at the end by
-- the history and its own journal. The entries are in the order of time.
abbrev pub FactsAreReal : {P : Type 0} → Ways P → (stands : List Entry → P → Type 0) → (lost : P → Bool) → (facts : P → FactsOf) → (told : P → List Told) → Type 0
FactsAreReal {P} ways stands lost facts told =
    (history : List Entry) (p : P) → Legal real (newest_first history) → AllByRecursion IsValidEntry (newest_first history) → stands (newest_first history) p
    → lost p ≡ false → ways.seen p ≡ length (newest_first history) → facts p ≡ facts_at_end history (ways.key p) (told p)

-- ---- what people keep

-- each event is what the node's rules give
abbrev pub JournalsAreByRules : {P : Type 0} → Ways P → (stands : List Entry → P → Type 0) → (told : P → List Told) → Type 0
JournalsAreByRules {P} ways stands told =
    (h : List Entry) (p : P) → Legal real h → AllByRecursion IsValidEntry h → stands h p → IsByRules h (ways.key p) (told p)

-- What a person keeps, and how it ends, where nothing is forged and no hashed strings collide. Among these are those
-- of its key and of the fixed parts that its accepted commands name. Also what it keeps where its watchers are in
-- time as well.
pub record KeepsIf (h : List Entry) (key : List ℕ) (events : List Told) : Type 0 where
  pub fair :
      AreValid h (lines_of key events) → Unforged real key h (lines_of key events)
      → NoneCollide (hashed h (lines_of key events) ++ (person_string key ∷ flat_map of_fixed (named_in events)))
      → SignsFairly h key events
  pub ends :
      AreValid h (lines_of key events) → Unforged real key h (lines_of key events)
      → NoneCollide (hashed h (lines_of key events) ++ (person_string key ∷ flat_map of_fixed (named_in events)))
      → (history : List Entry) → newest_first history ≡ h → EndsWell history key events
  pub kept :
      AreValid h (lines_of key events) → Unforged real key h (lines_of key events)
      → NoneCollide (hashed h (lines_of key events) ++ (person_string key ∷ flat_map of_fixed (named_in events)))
      → InTime real h (lines_of key events) → KeepsShare h key events
  pub paid :
      AreValid h (lines_of key events) → Unforged real key h (lines_of key events)
      → NoneCollide (hashed h (lines_of key events) ++ (person_string key ∷ flat_map of_fixed (named_in events)))
      → InTime real h (lines_of key events) → IsPaidOnExit h key events

-- so over each legal history
abbrev pub KeepsShares : {P : Type 0} → Ways P → (stands : List Entry → P → Type 0) → (told : P → List Told) → Type 0
KeepsShares {P} ways stands told = (h : List Entry) (p : P) → Legal real h → stands h p → KeepsIf h (ways.key p) (told p)
