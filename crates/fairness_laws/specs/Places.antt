-- A node signs what a root wants at each place of its journal, where nothing is forged.
use Rattle.std.specs.Prelude.{◌≡◌, ◌*◌, ◌≤◌, true, false, List, ◌++◌, length, Some, None}
use Rattle.channel_values.specs.Parts.{FixedParts, StateParts}
use Rattle.channel_values.specs.Rules.{people}
use Rattle.call_history.specs.History.{Legal}
use Rattle.call_history.specs.declared.entry.Entry.{Entry}
use Rattle.channel_safety.specs.Journals.{In, is_watched}
use Rattle.channel_safety.specs.Premises.{Unforged}
use Rattle.channel_safety.specs.Occurring.{NoCollision, AreValid}
use Rattle.channel_safety.specs.Safety.{IsChannelOf}
use Rattle.support_rules.specs.Real.{real}
use Rattle.channel_store.specs.Keeping.{next_of}
use Rattle.channel_store.specs.Storing.{kept_of}
use Rattle.channel_store.specs.declared.kept.Kept.{Kept}
use Rattle.funding_plans.specs.declared.plan.Goal.{Goal}
use Rattle.funding_plans.specs.declared.plan.Part.TheVariants.{Root}
use Rattle.funding_plans.specs.Gathered.{goal_in}
use Rattle.channel_node.specs.Minds.{facts_of}
use Rattle.channel_node.specs.Places.{Told, lines_of, mind_at, AreFew}
use Rattle.channel_node.specs.Playing.{Signing, SignsWell, Plays}
use Rattle.channel_node.specs.Refusing.{wish, signs_in}
use Rattle.fairness_laws.specs.Table.{stages}

-- A place of a history and a journal, and a root that the journal opened, with its goal and what is kept of it there.
-- No event but a look had seen more.
pub record RootPlace (s : Signing) (h : List Entry) (journal : List Told) (f : FixedParts) (g : Goal) (k : Kept)
    : Type 0 where
  pub later : List Entry
  pub past : List Entry
  pub newer : List Told
  pub front : List Told
  pub entries : h ≡ later ++ past
  pub events : journal ≡ newer ++ front
  pub few : AreFew past
  pub opened : IsChannelOf s.key f (lines_of s.key journal) (length past)
  pub before : (y : Told) → In y front → is_watched y.deed ≡ false → y.seen ≤ length past
  pub asked : stages.asked (facts_of (mind_at real s.key past front)) (real.named f) ≡ Some (Root (real.named f))
  pub goal : goal_in (facts_of (mind_at real s.key past front)) (real.named f) ≡ Some g
  pub keeps : kept_of (real.named f) (mind_at real s.key past front).kept ≡ Some k

-- where Close was commanded of the root, and the participant didn't let go of it, its set-up is over
abbrev pub RootsCloseAfterSetUp : Type 0
RootsCloseAfterSetUp =
    (s : Signing) (h : List Entry) (journal : List Told) → Legal real h → Plays stages real s h journal
    → NoCollision real h (lines_of s.key journal) → (f : FixedParts) (g : Goal) (k : Kept)
    → RootPlace s h journal f g k → g.closing ≡ true → g.over ≡ false → 2 * people k.chain.fixed ≤ next_of k

-- what the stage of a root wants is signed
abbrev pub RootsSignAtPlaces : Type 0
RootsSignAtPlaces =
    (s : Signing) (h : List Entry) (journal : List Told) → SignsWell real s → Legal real h
    → Plays stages real s h journal → Unforged real s.key h (lines_of s.key journal)
    → NoCollision real h (lines_of s.key journal) → AreValid h (lines_of s.key journal)
    → (f : FixedParts) (g : Goal) (k : Kept) (state : StateParts) (p : RootPlace s h journal f g k)
    → wish stages None (mind_at real s.key p.past p.front) (real.named f) k ≡ Some state
    → signs_in stages real None (mind_at real s.key p.past p.front) (real.named f) ≡ Some state
