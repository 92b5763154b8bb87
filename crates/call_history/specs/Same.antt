-- Whether two calls are one call, by the bytes of their parts; and what the types promise of these.
use Rattle.std.specs.Prelude.{◌≡◌, Bool, true, false, ◌&&◌, ◌==◌, List, ◌↔◌}
use Rattle.std.specs.Cmp.Lexicographic.{pointwise}
use Rattle.std.specs.List.{AllByRecursion}
use Rattle.std.specs.Str.{bytes_eq}
use Rattle.channel_values.specs.Outcomes.{IsOutcome}
use Rattle.channel_values.specs.Parts.{FixedParts, StateParts, IsFixed, IsState}
use Rattle.channel_values.specs.Spelling.{fixed, state, outcome}
use Rattle.channel_values.specs.declared.chain.Chain.{Chain}
use Rattle.channel_values.specs.declared.chain.Mark.{Mark}
use Rattle.channel_values.specs.declared.chain.Signed.{Signed}
use Rattle.channel_values.specs.declared.value.AssetOutcome.{AssetOutcome}
use Rattle.call_history.specs.declared.call.Call.{Call}
use Rattle.call_history.specs.declared.call.Call.TheVariants.{Deposit, Challenge, Respond, Refute, Checkpoint, Conclude, Transfer, Claim}
use Rattle.call_history.specs.declared.call.Op.{Op}
use Rattle.call_history.specs.declared.call.Op.TheVariants as ops

abbrev pub same_fixed : FixedParts → FixedParts → Bool
same_fixed a b = bytes_eq (fixed a) (fixed b)

abbrev pub same_state : StateParts → StateParts → Bool
same_state a b = bytes_eq (state a) (state b)

abbrev pub same_outcome : List AssetOutcome → List AssetOutcome → Bool
same_outcome a b = bytes_eq (outcome a) (outcome b)

abbrev pub same_signed : Signed → Signed → Bool
same_signed a b = same_state a.state b.state && bytes_eq a.signature b.signature

abbrev pub same_mark : Mark → Mark → Bool
same_mark a b = (a.place == b.place) && bytes_eq a.signature b.signature

abbrev pub same_chain : Chain → Chain → Bool
same_chain a b =
    same_fixed a.fixed b.fixed && (pointwise same_state a.states b.states && pointwise same_mark a.marks b.marks)

abbrev pub same_call : Call → Call → Bool
same_call (Deposit a) (Deposit b) =
    bytes_eq a.channel b.channel
    && ((a.asset == b.asset) && ((a.expected == b.expected) && (a.amount == b.amount)))
same_call (Challenge a) (Challenge b) =
    same_chain a.chain b.chain && ((a.challenger == b.challenger) && bytes_eq a.signature b.signature)
same_call (Respond a) (Respond b) =
    same_fixed a.fixed b.fixed && (same_state a.from b.from && same_signed a.next b.next)
same_call (Refute f x) (Refute g y) = same_fixed f g && same_signed x y
same_call (Checkpoint a) (Checkpoint b) = same_chain a b
same_call (Conclude a) (Conclude b) = same_chain a b
same_call (Transfer a) (Transfer b) =
    bytes_eq a.channel b.channel
    && (same_outcome a.outcome b.outcome && ((a.asset == b.asset) && (a.index == b.index)))
same_call (Claim a) (Claim b) =
    (bytes_eq a.guarantor b.guarantor && same_outcome a.guarantor_outcome b.guarantor_outcome)
    && ((bytes_eq a.target b.target && same_outcome a.target_outcome b.target_outcome)
    && ((a.asset == b.asset) && (a.position == b.position)))
same_call _ _ = false

-- the op is this call
abbrev pub is_op : Call → Op → Bool
is_op call (ops.Call own) = same_call own call
is_op call (ops.Time t) = false

-- ---- what the types promise

-- a call's fixed part, states and outcomes are such
abbrev pub HasValidParts : Call → Type 0
HasValidParts (Deposit d) = Unit {0}
HasValidParts (Challenge k) = IsFixed k.chain.fixed × AllByRecursion IsState k.chain.states
HasValidParts (Respond k) = IsFixed k.fixed × IsState k.from × IsState k.next.state
HasValidParts (Refute f next) = IsFixed f × IsState next.state
HasValidParts (Checkpoint chain) = IsFixed chain.fixed × AllByRecursion IsState chain.states
HasValidParts (Conclude chain) = IsFixed chain.fixed × AllByRecursion IsState chain.states
HasValidParts (Transfer k) = IsOutcome k.outcome
HasValidParts (Claim k) = IsOutcome k.guarantor_outcome × IsOutcome k.target_outcome

-- calls of valid parts are one exactly where the test says so
abbrev pub SameCallsAreOne : Type 0
SameCallsAreOne = (a b : Call) → HasValidParts a → HasValidParts b → (same_call a b ≡ true) ↔ (a ≡ b)
