-- Which records are sound.
use Rattle.std.specs.Prelude.{◌≡◌, List}
use Rattle.std.specs.List.{All}
use Rattle.call_history.specs.History.{Legal, newest_first, flows_of}
use Rattle.call_history.specs.declared.entry.Entry.{Entry}
use Rattle.asset_holder.specs.Receipts.{assets_of}
use Rattle.support_rules.specs.Real.{real}
use Rattle.run_record.specs.declared.run_record.Sum.{Sum}
use Rattle.run_record.specs.declared.run_record.Ending.{Ending}
use Rattle.run_record.specs.declared.run_record.Record.{Record}
use Rattle.run_record.specs.Sums.{sums_of}
use Rattle.run_record.specs.Plans.{IsTellable, shares_then}

-- the entries are in the order of time
abbrev pub IsLegal : List Entry → Type 0
IsLegal history = Legal real (newest_first history)

abbrev pub sums_wanted : List Entry → List Sum
sums_wanted history = sums_of (flows_of history)

-- the conditions of an ending's plan hold
abbrev pub HasPlan : List Entry → Ending → Type 0
HasPlan history e = IsTellable real (newest_first history) e.plan e.known

-- its shares are, for each asset that was deposited, rising, what its plan can get
abbrev pub HasShares : List Entry → Ending → Type 0
HasShares history e =
    e.shares ≡ shares_then real (newest_first history) e.plan e.known (assets_of (flows_of history))

pub record IsSound (r : Record) : Type 0 where
  pub legal : IsLegal r.history
  pub sums : r.sums ≡ sums_wanted r.history
  pub plans : All (HasPlan r.history) r.ends
  pub shares : All (HasShares r.history) r.ends

-- what is asked before the endings
pub record HasSums (r : Record) : Type 0 where
  pub legal : IsLegal r.history
  pub sums : r.sums ≡ sums_wanted r.history
