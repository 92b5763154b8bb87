-- The strings that are hashed for what a history and a journal name: fixed parts, keys, states and outcomes, those that
-- transfers and claims give among them.
use Rattle.std.specs.Prelude.{ℕ, List, [], ◌∷◌, ◌++◌, map, flat_map, Option, Some, None, Result, Ok, Err}
use Rattle.channel_values.specs.Parts.{FixedParts, StateParts}
use Rattle.channel_values.specs.Spelling.{fixed, state, outcome}
use Rattle.channel_values.specs.declared.fault.ByteFault.{ByteFault}
use Rattle.channel_values.specs.declared.value.AssetOutcome.{AssetOutcome}
use Rattle.channel_values.specs.Digests.{channel_string, person_string, state_string, outcome_string, name_of_channel}
use Rattle.call_history.specs.Rows.{fixed_of}
use Rattle.call_history.specs.Spelling.{Message}
use Rattle.call_history.specs.Reading.{message_of}
use Rattle.call_history.specs.declared.call.Call.{Call}
use Rattle.call_history.specs.declared.call.Op.{Op}
use Rattle.call_history.specs.declared.call.Op.TheVariants as ops
use Rattle.call_history.specs.declared.entry.Entry.{Entry}
use Rattle.call_history.specs.declared.event.Deed.{Deed}
use Rattle.call_history.specs.declared.event.Deed.TheVariants as deeds
use Rattle.channel_safety.specs.Journals.{Line, opened}
use Rattle.channel_safety.specs.Strings.{states_in, given_in}

abbrev pub of_fixed : FixedParts → List (List ℕ)
of_fixed f = channel_string (fixed f) ∷ map person_string f.keys

abbrev pub of_outcome : List AssetOutcome → List ℕ
of_outcome o = outcome_string (outcome o)

-- of a state of the channel with this name
abbrev pub of_state : List ℕ → StateParts → List (List ℕ)
of_state channel s = state_string channel (state s) ∷ of_outcome s.outcome ∷ []

abbrev pub of_states : Option FixedParts → List StateParts → List (List ℕ)
of_states None states = []
of_states (Some f) states = of_fixed f ++ flat_map (of_state (name_of_channel (fixed f))) states

abbrev pub of_op : Op → List (List ℕ)
of_op op = of_states (fixed_of op) (states_in op) ++ map of_outcome (given_in op)

abbrev pub of_call : Call → List (List ℕ)
of_call call = of_op (ops.Call call)

abbrev pub of_message : Result Message ByteFault → List (List ℕ)
of_message (Ok message) = of_state message.0 message.1.state
of_message (Err fault) = []

abbrev pub of_deed : Deed → List (List ℕ)
of_deed (deeds.Commanded step refusal) = []
of_deed (deeds.Handled bytes refusal) = of_message (message_of bytes)
of_deed (deeds.Signed channel s signature) = of_state channel s
of_deed (deeds.SignedChallenge channel s who signature) = of_state channel s
of_deed (deeds.Called call) = of_call call
of_deed (deeds.Watched watcher calls) = flat_map of_call calls

abbrev pub of_line : Line → List (List ℕ)
of_line x = flat_map of_fixed (opened x) ++ of_deed x.deed

abbrev pub of_entry : Entry → List (List ℕ)
of_entry e = of_op e.op

abbrev pub hashed : List Entry → List Line → List (List ℕ)
hashed h journal = flat_map of_entry h ++ flat_map of_line journal
