-- Where a node signs what a channel that holds its own funds wants.
use Rattle.std.specs.Prelude.{◌≡◌, ◌⊎◌, ℕ, ◌+◌, ◌*◌, ◌<◌, ◌≤◌, Bool, true, false, not, ◌&&◌, List, map, Some, None}
use Rattle.channel_values.specs.Parts.{StateParts}
use Rattle.channel_values.specs.declared.value.AssetOutcome.{AssetOutcome}
use Rattle.support_rules.specs.Rules.{is_same_outcome}
use Rattle.channel_values.specs.Rules.{people, newest}
use Rattle.support_rules.specs.Real.{real}
use Rattle.channel_safety.specs.Journals.{In}
use Rattle.channel_store.specs.Keeping.{next_of}
use Rattle.channel_store.specs.Good.{IsGoodKept}
use Rattle.channel_store.specs.Storing.{kept_of}
use Rattle.channel_store.specs.declared.kept.Kept.{Kept}
use Rattle.funding_plans.specs.declared.plan.Goal.{Goal}
use Rattle.funding_plans.specs.declared.plan.Part.TheVariants.{Root}
use Rattle.funding_plans.specs.Gathered.{goal_in}
use Rattle.funding_plans.specs.Seats.{has_no_data}
use Rattle.channel_node.specs.Minds.{Mind, facts_of}
use Rattle.channel_node.specs.Openings.{are_apart}
use Rattle.channel_node.specs.Refusing.{wish, signs_in}
use Rattle.fairness_laws.specs.Table.{stages}

-- not final, with the outcome with which the channel opens and no data
abbrev pub is_repeated : List AssetOutcome → StateParts → Bool
is_repeated opening s = (not s.is_final && is_same_outcome s.outcome opening) && has_no_data s

-- one of these states does, as those that were signed or taken in the set-up
pub record HasRepeated (opening : List AssetOutcome) (states : List StateParts) : Type 0 where
  pub state : StateParts
  pub there : In state states
  pub repeated : is_repeated opening state ≡ true

-- What is kept of a channel sets up as was commanded. It is the first round so far or a supported chain. The set-up
-- has twice as many turns as people, and while it lasts one of its states repeats the opening outcome. Close wasn't
-- commanded before, where the participant didn't let go of it.
pub record SetsUp (g : Goal) (k : Kept) : Type 0 where
  pub good : IsGoodKept real k
  pub repeats : (s : StateParts) → newest k.chain.states ≡ Some s → s.turn + 1 < 2 * people k.chain.fixed
      → HasRepeated g.opening k.chain.states
  pub closes : g.closing ≡ true → g.over ≡ false → 2 * people k.chain.fixed ≤ next_of k

-- Of a channel that is kept once and about which its own part is asked, the guard lets all through that is wanted.
abbrev pub RootsSignWhatTheyWant : Type 0
RootsSignWhatTheyWant =
    (m : Mind) (channel : List ℕ) (g : Goal) (k : Kept) (s : StateParts) → are_apart (map (λ kept. kept.channel) m.kept) ≡ true
    → stages.asked (facts_of m) channel ≡ Some (Root channel) → goal_in (facts_of m) channel ≡ Some g
    → kept_of channel m.kept ≡ Some k → SetsUp g k → wish stages None m channel k ≡ Some s
    → signs_in stages real None m channel ≡ Some s

-- In the first round what the stage of a root takes, and what it wants while Close wasn't commanded, repeats the
-- opening outcome.
abbrev pub RootsOpenAsCommanded : Type 0
RootsOpenAsCommanded =
    (m : Mind) (channel : List ℕ) (g : Goal) (k : Kept) (s : StateParts) → stages.asked (facts_of m) channel ≡ Some (Root channel)
    → goal_in (facts_of m) channel ≡ Some g → kept_of channel m.kept ≡ Some k → s.turn < people k.chain.fixed
    → (stages.accepts (facts_of m) channel s ≡ true) ⊎ ((g.closing ≡ false) × (stages.wanted (facts_of m) channel ≡ Some s))
    → is_repeated g.opening s ≡ true
