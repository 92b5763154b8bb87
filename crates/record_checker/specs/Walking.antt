-- What a checker has after some entries, which are in the order of time.
use Rattle.std.specs.Prelude.{◌≡◌, ℕ, Bool, true, false, Option, Some, None, List, [], ◌∷◌, ◌++◌}
use Rattle.call_history.specs.History.{newest_first, flows_of}
use Rattle.call_history.specs.declared.entry.Entry.{Entry}
use Rattle.call_history.specs.declared.funds.Flow.{Flow}
use Rattle.adjudicator.specs.Standing.{Standing}
use Rattle.record_checker.specs.Past.{Rests, IsPast}
use Rattle.run_record.specs.Sound.{IsLegal}
use Rattle.record_checker.specs.Faults.{IsFirstWrong}
use Rattle.record_checker.specs.declared.walking.Walked.{Walked}
use Rattle.record_checker.specs.declared.walking.Walked.TheVariants.{Whole, Wrong}

-- they are legal, an adjudicator and a table stand for them, and these are their flows
pub record WalksTo (g : List Entry) (a : Standing) (rests : Rests) (flows : List Flow) : Type 0 where
  pub legal : IsLegal g
  pub past : IsPast (newest_first g) a rests
  pub flow : flows ≡ flows_of g

-- one more entry follows on them, or doesn't
abbrev pub Steps : Bool → List Entry → Entry → Standing → Rests → List Flow → Type 0
Steps true g e a rests flows = WalksTo (g ++ e ∷ []) a rests flows
Steps false g e a rests flows = IsLegal (g ++ e ∷ []) → ⊥

-- all entries of a history follow, or this is the first that doesn't
abbrev pub Walks : Option ℕ → List Entry → Standing → Rests → List Flow → Type 0
Walks None history a rests flows = WalksTo history a rests flows
Walks (Some k) history a rests flows = IsFirstWrong history k

-- what is said of the whole history
abbrev pub Ends : List Entry → Walked → Type 0
Ends history (Whole past flows) = IsLegal history × (past ≡ newest_first history) × (flows.items ≡ flows_of history)
Ends history (Wrong number) = IsFirstWrong history number
