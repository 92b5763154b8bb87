-- The parts on whose own channel others may stand: roots, and ends of virtual channels.
use Rattle.std.specs.Prelude.{ℕ, Bool, false, List}
use Rattle.std.specs.Str.{bytes_eq}
use Rattle.funding_plans.specs.declared.plan.Part.{Part}
use Rattle.funding_plans.specs.declared.plan.Part.TheVariants.{Root, OnLedger, End, Middle}

-- the part's own channel is this one, and others may stand on it
abbrev pub bears : List ℕ → Part → Bool
bears name (Root channel) = bytes_eq channel name
bears name (OnLedger ledger channel) = false
bears name (End v) = bytes_eq v.channel name
bears name (Middle v) = false
