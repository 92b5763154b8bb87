-- When a participant leaves, by what its view says: what each channel ended with, and which isn't final.
use Rattle.std.specs.Prelude.{◌≡◌, ℕ, Bool, false, not, ◌&&◌, List, [], ◌∷◌, Option, Some, None, Result, Ok, Err, is_some, if◌then◌else◌}
use Rattle.std.specs.Option.{option_or}
use Rattle.channel_values.specs.declared.value.AssetOutcome.{AssetOutcome}
use Rattle.call_history.specs.Mode.{mode_at, is_final}
use Rattle.call_history.specs.declared.call.Call.{Call}
use Rattle.call_history.specs.declared.held_chain.HeldChain.{HeldChain}
use Rattle.call_history.specs.declared.view.ChannelView.{ChannelView}
use Rattle.call_history.specs.declared.view.WorldView.{WorldView}
use Rattle.funding_plans.specs.declared.plan.Part.{Part}
use Rattle.funding_plans.specs.declared.plan.Part.TheVariants.{Root, OnLedger, End, Middle}
use Rattle.funding_plans.specs.declared.plan.Plan.{Plan}
use Rattle.funding_plans.specs.declared.plan.Virtual.{Virtual}
use Rattle.funding_plans.specs.Gathered.{chain_in, view_in}
use Rattle.channel_exits.specs.Calls.{exit_calls}
use Rattle.channel_exits.specs.declared.fault.ExitFault.{ExitFault}
use Rattle.channel_exits.specs.declared.fault.ExitFault.TheVariants as faults

abbrev pub is_final_at : ℕ → Option ChannelView → Bool
is_final_at now None = false
is_final_at now (Some v) = is_final (mode_at v.deadline now)

abbrev pub is_final_in : WorldView → List ℕ → Bool
is_final_in w name = is_final_at w.now (view_in name w.channels)

abbrev pub settled_at : Option ChannelView → Option (List AssetOutcome)
settled_at None = None
settled_at (Some v) = v.settled

-- what a final channel ended with
abbrev pub ended_in : WorldView → List ℕ → Option (List AssetOutcome)
ended_in w name = if is_final_in w name then settled_at (view_in name w.channels) else None

-- ---- the fault

abbrev pub is_held : List ℕ → List HeldChain → Bool
is_held name chains = is_some (chain_in name chains)

-- a channel with a held chain that isn't final
abbrev pub not_final : WorldView → List HeldChain → List ℕ → Option (List ℕ)
not_final w chains name = if is_held name chains && not (is_final_in w name) then Some name else None

-- the first of a part's channels
abbrev pub not_final_of_virtual : WorldView → List HeldChain → Virtual → Option (List ℕ)
not_final_of_virtual w chains v =
    option_or (not_final w chains v.guarantor_a)
    (option_or (not_final w chains v.guarantor_b)
    (option_or (not_final w chains v.joint) (not_final w chains v.channel)))

abbrev pub not_final_of : WorldView → List HeldChain → Part → Option (List ℕ)
not_final_of w chains (Root name) = not_final w chains name
not_final_of w chains (OnLedger ledger name) = not_final w chains name
not_final_of w chains (End v) = not_final_of_virtual w chains v
not_final_of w chains (Middle v) = not_final_of_virtual w chains v

-- the first of the plan's
abbrev pub first_not_final : WorldView → List HeldChain → List Part → Option (List ℕ)
first_not_final w chains [] = None
first_not_final w chains (p ∷ ps) = option_or (not_final_of w chains p) (first_not_final w chains ps)

-- the calls, unless a channel isn't final
abbrev pub Exits : {A : Type 0} → (A → List Call) → Result A ExitFault → Plan → WorldView → List HeldChain → Type 0
Exits items (Ok v) plan w chains = (first_not_final w chains plan.parts ≡ None) × (items v ≡ exit_calls (ended_in w) plan.me plan.parts)
Exits items (Err (faults.NotFinal name)) plan w chains = first_not_final w chains plan.parts ≡ Some name
Exits items (Err faults.NoMemory) plan w chains = first_not_final w chains plan.parts ≡ None
