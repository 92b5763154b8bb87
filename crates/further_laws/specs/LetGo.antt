-- What a channel of which the participant let go costs it: a place among the plan's channels. No line of a refusal that
-- asks all parts holds because of it, and what is due to the participant there is called for.
use Rattle.std.specs.Prelude.{◌≡◌, ℕ, true, false, List, [], ◌∷◌, ◌++◌, flat_map, Contains, Some, None}
use Rattle.std.specs.Option.{option_or}
use Rattle.std.specs.Str.{bytes_eq}
use Rattle.channel_values.specs.Parts.{StateParts}
use Rattle.channel_values.specs.Places.{place_of}
use Rattle.channel_values.specs.declared.value.AssetOutcome.{AssetOutcome}
use Rattle.channel_values.specs.declared.value.Dest.TheVariants.{Person}
use Rattle.call_history.specs.Calls.{make_transfer}
use Rattle.call_history.specs.declared.call.Call.{Call}
use Rattle.call_history.specs.Mode.{is_final}
use Rattle.funding_plans.specs.Known.{FactsOf}
use Rattle.funding_plans.specs.Parts.{closed}
use Rattle.funding_plans.specs.Shapes.{items_in}
use Rattle.funding_plans.specs.declared.plan.Part.{Part}
use Rattle.funding_plans.specs.declared.plan.Part.TheVariants.{Root}
use Rattle.ledger_channel.specs.Roots.{Direct, is_due_in, is_any_due, transfers}
use Rattle.ledger_channel.specs.Stages.{direct_in, called_of}
use Rattle.channel_node.specs.Refusing.{first_fault, not_open_part, not_open, unfinished_part, unfinished, standing_part}
use Rattle.stage_tables.specs.Asked.{unfinished_on, part_with, wanted_of, takes_of}
use Rattle.stage_tables.specs.Stages.{stages}

-- a channel that holds its own funds, which is to close, and of which the participant let go
pub record IsLetGo (f : FactsOf) (name : List ℕ) (d : Direct) : Type 0 where
  pub known : direct_in f name ≡ Some d
  pub closes : d.closing ≡ true
  pub over : d.over ≡ true

-- ---- it keeps nothing from going on

-- It is closed: it need not be open, nothing is still to be done for it, and it keeps no ledger from closing. Nothing
-- is signed or taken in it.
pub record IsOut (f : FactsOf) (name : List ℕ) : Type 0 where
  pub is_closed : stages.stage f (Root name) ≡ closed (Root name)
  pub open_or_not : not_open_part stages f (Root name) ≡ None
  pub finished : stages.is_unfinished f (Root name) ≡ false
  pub done : unfinished_part stages f (Root name) ≡ None
  pub stands : (ledger : List ℕ) → standing_part stages f ledger (Root name) ≡ None
  pub wants : (channel : List ℕ) → wanted_of f channel (Some (Root name)) ≡ None
  pub takes : (channel : List ℕ) (s : StateParts) → takes_of f channel s (Some (Root name)) ≡ false

-- The plan has the part, after these and before those: all that is asked of the parts of the plan is asked of those
-- parts alone. About another channel one of them is asked.
pub record AsWithout (f : FactsOf) (name : List ℕ) (before after : List Part) : Type 0 where
  pub opens : not_open stages f ≡ first_fault (not_open_part stages f) (before ++ after)
  pub done : unfinished stages f ≡ first_fault (unfinished_part stages f) (before ++ after)
  pub stands :
      (ledger : List ℕ)
      → first_fault (standing_part stages f ledger) f.plan.parts ≡ first_fault (standing_part stages f ledger) (before ++ after)
  pub about :
      (channel : List ℕ) → bytes_eq channel name ≡ false
      → stages.asked f channel
      ≡ option_or (unfinished_on f channel (before ++ after)) (part_with channel (before ++ after))

-- ---- what is due is called for

-- the participant's own transfer of an asset of which something is due to it
abbrev pub own_transfer : Direct → (settled rest : List AssetOutcome) → AssetOutcome → Call
own_transfer d settled rest o =
    make_transfer d.channel.name settled o.asset (place_of (items_in o.asset rest) (Person d.who))

-- Once it is final the calls of the plan are those of the other parts and the transfers of what is due. So each of
-- these is called, and there is one where anything is due.
pub record IsCalledFor (f : FactsOf) (name : List ℕ) (d : Direct) (before after : List Part) : Type 0 where
  pub own : called_of f (Root name) ≡ transfers d
  pub among : stages.calls f ≡ flat_map (called_of f) before ++ (transfers d ++ flat_map (called_of f) after)
  pub each :
      (settled rest : List AssetOutcome) (o : AssetOutcome) → d.settled ≡ Some settled → d.rest ≡ Some rest
      → Contains rest o → is_due_in d rest o ≡ true → Contains (stages.calls f) (own_transfer d settled rest o)
  pub some : (settled : List AssetOutcome) → d.settled ≡ Some settled → is_any_due d ≡ true → stages.calls f ≡ [] → ⊥

abbrev pub LetGoIsOut : Type 0
LetGoIsOut = (f : FactsOf) (name : List ℕ) (d : Direct) → IsLetGo f name d → IsOut f name

abbrev pub LetGoIsAsWithout : Type 0
LetGoIsAsWithout =
    (f : FactsOf) (name : List ℕ) (d : Direct) (before after : List Part) → f.plan.parts ≡ before ++ Root name ∷ after
    → IsLetGo f name d → AsWithout f name before after

abbrev pub LetGoIsCalledFor : Type 0
LetGoIsCalledFor =
    (f : FactsOf) (name : List ℕ) (d : Direct) (before after : List Part) → f.plan.parts ≡ before ++ Root name ∷ after
    → IsLetGo f name d → is_final d.standing ≡ true → IsCalledFor f name d before after
