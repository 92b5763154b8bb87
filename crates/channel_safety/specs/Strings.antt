-- What ops and lines name: the states and outcomes of an op, those that are signed, and the string that a line signs.
use Rattle.std.specs.Prelude.{◌≡◌, ℕ, ◌≤◌, List, [], ◌∷◌, ◌++◌, map, Option, Some, None}
use Rattle.std.specs.List.{slice_get}
use Rattle.channel_values.specs.Parts.{StateParts}
use Rattle.channel_values.specs.declared.chain.Mark.{Mark}
use Rattle.channel_values.specs.declared.chain.Signed.{Signed}
use Rattle.channel_values.specs.declared.value.AssetOutcome.{AssetOutcome}
use Rattle.channel_values.specs.Messages.{message_of_state, message_of_challenge}
use Rattle.channel_values.specs.Rules.{Rules}
use Rattle.call_history.specs.declared.call.Call.TheVariants.{Challenge, Respond, Refute, Checkpoint, Conclude, Transfer, Claim}
use Rattle.call_history.specs.declared.call.Op.{Op}
use Rattle.call_history.specs.declared.call.Op.TheVariants as ops
use Rattle.call_history.specs.declared.event.Deed.{Deed}
use Rattle.call_history.specs.declared.event.Deed.TheVariants as deeds
use Rattle.channel_safety.specs.Journals.{In, Line}

abbrev pub with_mark : Mark → Option StateParts → List Signed → List Signed
with_mark mark None rest = rest
with_mark mark (Some s) rest = record { state = s; signature = mark.signature } ∷ rest

-- each mark whose place is a state, as that state with the mark's signature
abbrev pub signed_marks : List StateParts → List Mark → List Signed
signed_marks states [] = []
signed_marks states (mark ∷ rest) = with_mark mark (slice_get states mark.place) (signed_marks states rest)

-- the signed states of an op
abbrev pub signed_in : Op → List Signed
signed_in (ops.Call (Challenge k)) = signed_marks k.chain.states k.chain.marks
signed_in (ops.Call (Respond k)) = k.next ∷ []
signed_in (ops.Call (Refute fixed next)) = next ∷ []
signed_in (ops.Call (Checkpoint chain)) = signed_marks chain.states chain.marks
signed_in (ops.Call (Conclude chain)) = signed_marks chain.states chain.marks
signed_in _ = []

-- the states of an op, signed or not
abbrev pub states_in : Op → List StateParts
states_in (ops.Call (Challenge k)) = k.chain.states
states_in (ops.Call (Respond k)) = k.from ∷ k.next.state ∷ []
states_in (ops.Call (Refute fixed next)) = next.state ∷ []
states_in (ops.Call (Checkpoint chain)) = chain.states
states_in (ops.Call (Conclude chain)) = chain.states
states_in _ = []

-- the outcomes that a transfer and a claim give
abbrev pub given_in : Op → List (List AssetOutcome)
given_in (ops.Call (Transfer k)) = k.outcome ∷ []
given_in (ops.Call (Claim k)) = k.guarantor_outcome ∷ k.target_outcome ∷ []
given_in _ = []

-- the outcomes of an op: those, and those of its states
abbrev pub outcomes_in : Op → List (List AssetOutcome)
outcomes_in op = given_in op ++ map (λ s. s.outcome) (states_in op)

-- the channel and the state that the participant signed, the state itself or a challenge with it
abbrev pub signed_of : Deed → Option (List ℕ × StateParts)
signed_of (deeds.Signed channel state signature) = Some (channel, state)
signed_of (deeds.SignedChallenge channel state who signature) = Some (channel, state)
signed_of _ = None

-- the string that the participant signed
abbrev pub string_of : Rules → Deed → Option (List ℕ)
string_of r (deeds.Signed channel state signature) = Some (message_of_state (r.digest channel state))
string_of r (deeds.SignedChallenge channel state who signature) =
    Some (message_of_challenge (r.digest channel state) who)
string_of r _ = None

-- one of these lines signed the string
pub record WasSigned (r : Rules) (journal : List Line) (message : List ℕ) : Type 0 where
  pub line : Line
  pub there : In line journal
  pub is : string_of r line.deed ≡ Some message

-- one of these lines signed the string, and had seen at most so many entries
pub record WasSignedBy (r : Rules) (journal : List Line) (seen : ℕ) (message : List ℕ) : Type 0 where
  pub signed : WasSigned r journal message
  pub early : signed.line.seen ≤ seen
