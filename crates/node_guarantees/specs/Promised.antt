-- What is promised of a person, by a history and the events of its node's journal with their commands; all stand newest
-- first.
use Rattle.std.specs.Prelude.{◌≡◌, ◌≤◌, ◌-◌, ℕ, true, List, [], ◌∷◌, ◌++◌, length, reverse, drop, Some, None}
use Rattle.channel_values.specs.Digests.{name_of_person}
use Rattle.call_history.specs.History.{paid_to}
use Rattle.call_history.specs.declared.entry.Entry.{Entry}
use Rattle.channel_exits.specs.Endings.{ended, AreFinal, Stand}
use Rattle.channel_exits.specs.Calls.{exit_calls}
use Rattle.channel_safety.specs.Journals.{Line}
use Rattle.channel_safety.specs.Honest.{Honest}
use Rattle.channel_safety.specs.Safety.{IsSafe}
use Rattle.channel_safety.specs.Steps.{FewAreCleared}
use Rattle.node_guarantees.specs.Keeping.{KeepsItsShare}
use Rattle.channel_node.specs.Exits.{LeavesForGood}
use Rattle.channel_node.specs.Keys.{FitsSigner}
use Rattle.channel_node.specs.Minds.{facts_of}
use Rattle.channel_node.specs.Places.{Told, lines_of, mind_at}
use Rattle.channel_node.specs.Playing.{SignerOf, signing_of, SignsWell, pending, Plays}
use Rattle.channel_node.specs.Refusing.{not_open}
use Rattle.node_guarantees.specs.Orders.{orders_of}
use Rattle.stage_tables.specs.Stages.{stages}
use Rattle.channel_node.specs.Exiting.{until_exit}
use Rattle.share_laws.specs.Lines.{SignaturesAreFair}
use Rattle.share_laws.specs.Kept.{is_signing}
use Rattle.share_laws.specs.Places.{Order, IsPlace, plan, share}
use Rattle.support_rules.specs.Real.{real}
use Rattle.node_guarantees.specs.Once.{SignsOnce}

-- each of the one list stands so to the one at its place in the other, which is as long
abbrev pub Pairwise : {A B : Type 0} → (A → B → Type 0) → List A → List B → Type 0
Pairwise R [] [] = Unit {0}
Pairwise R [] (y ∷ ys) = ⊥
Pairwise R (x ∷ xs) [] = ⊥
Pairwise R (x ∷ xs) (y ∷ ys) = R x y × Pairwise R xs ys

-- the entries that had been followed at the newest of these events
abbrev pub past_at : List Entry → List Told → List Entry
past_at h [] = []
past_at h (x ∷ front) = drop (length h - x.seen) h

module _ (h : List Entry) (key : List ℕ) (events : List Told) where
  -- the lines of the journal
  abbrev pub lines : List Line
  lines = lines_of key events

  -- what its commands ask for
  abbrev pub orders : ℕ → Order
  orders = orders_of real key events

  -- what the person can get of an asset at the end
  abbrev pub share_at_end : ℕ → ℕ
  share_at_end asset = share real (name_of_person key) orders h lines asset

  -- and what it could just after these first events
  abbrev pub share_after : List Told → ℕ → ℕ
  share_after front asset = share real (name_of_person key) orders (past_at h front) (lines_of key front) asset

  -- ---- honest

  -- The journal is one of the network's own node, event for event. Its key is the one of a seed, an identifier and a
  -- height. Its signatures are those of this seed, which verify and take one index after another. Each state,
  -- refusal, call and look is the one that the node's rules and tables give at its place. No state is signed after an
  -- exit that was accepted, and no challenge before one. A state that no payment made is signed only while every
  -- channel of each part that isn't closed is open.
  pub record IsByRules : Type 0 where
    pub signer : SignerOf
    pub fits : FitsSigner signer
    pub owns : (signing_of signer).key ≡ key
    pub signs : SignsWell real (signing_of signer)
    pub plays : Plays stages real (signing_of signer) h events
    pub leaves : (newer : List Told) (x : Told) (front : List Told) → events ≡ newer ++ x ∷ front → LeavesForGood x front
    pub live :
        (newer : List Told) (x : Told) (front : List Told) (later past : List Entry) → events ≡ newer ++ x ∷ front
        → is_signing x.deed ≡ true → pending front ≡ None → h ≡ later ++ past → length past ≡ x.seen
        → not_open stages (facts_of (mind_at real key past front)) ≡ None

  -- It is honest in terms of channels alone, by the rules of the node, and no index of the key signs twice in it.
  pub record IsHonest : Type 0 where
    pub lines_are : Honest real key h lines
    pub by_rules : IsByRules
    pub once : SignsOnce real events

  -- ---- safe

  -- no channel of the person becomes final with an outcome older than its newest supported state
  abbrev pub StaysSafe : Type 0
  StaysSafe = IsSafe real key h lines

  -- of its challenges of a channel of n people, at most n - 1 are cleared by another entry than a conclude
  abbrev pub FewChallengesAreCleared : Type 0
  FewChallengesAreCleared = FewAreCleared real key h lines

  -- ---- its share

  -- a state that the person signs lowers its share by no more than the payment that was commanded right before; where
  -- none was and its plan is funded, not at all
  abbrev pub SignsFairly : Type 0
  SignsFairly = SignaturesAreFair real (name_of_person key) orders h lines

  -- nobody lowers the share, and the person can leave with it
  abbrev pub KeepsShare : Type 0
  KeepsShare = KeepsItsShare (name_of_person key) orders h lines

  -- What it could get just after it was commanded to exit is paid to it, whatever others enter between. That is so
  -- once its channels that count are final and the calls of its exit stand after that.
  abbrev pub IsPaidOnExit : Type 0
  IsPaidOnExit =
      (front : List Told) → until_exit events ≡ Some front
      → (mid later : List Entry) (newer : List Line) → h ≡ later ++ (mid ++ past_at h front)
      → IsPlace h lines (mid ++ past_at h front) (newer ++ lines_of key front)
      → AreFinal real (mid ++ past_at h front) (newer ++ lines_of key front)
      → Stand (reverse (exit_calls (ended real (mid ++ past_at h front)) (name_of_person key) (plan orders (newer ++ lines_of key front)))) later
      → (asset : ℕ) → share_after front asset ≤ paid_to h (name_of_person key) asset
