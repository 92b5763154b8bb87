-- What an actor that answers in two ways enters keeps the limits.
use Rattle.std.proofs.Common.{◌≡◌, ◌∙◌, ap, subst, Bool, true, false}
use Rattle.std.specs.Prelude.{ℕ, List, Option, Some, None, cond, nat_le, find}
use Rattle.channel_values.specs.Parts.{FixedParts, StateParts}
use Rattle.channel_values.specs.Rules.{newest}
use Rattle.call_history.specs.declared.call.Call.TheVariants.{Deposit, Challenge, Respond, Refute, Checkpoint, Conclude, Transfer, Claim}
use Rattle.call_history.specs.declared.call.Op.{Op}
use Rattle.call_history.specs.declared.call.Op.TheVariants as ops
use Rattle.call_history.specs.declared.entry.Entry.{Entry}
use Rattle.network_rounds.specs.Acts.{IsWithinLimits}
use Rattle.network_rounds.specs.declared.actor.Act.{Act}
use Rattle.network_rounds.specs.declared.actor.Act.TheVariants as acts
use Rattle.lms_signatures.proofs.Lengths.{short_signature}
use Rattle.lms_signatures.specs.Signing.{Signing}
use Rattle.cast_actors.specs.Equivocates.{message_of, entering_if, responds, next_state, answer_to, answer_if, is_answerable, key_of, equivocated}

if_signed : (s : Signing) (f : FixedParts) (from : StateParts) (o : Option StateParts) → IsWithinLimits (entering_if s f from o)
if_signed s f from None = tt
if_signed s f from (Some next) = short_signature s.seed s.id s.h s.used (message_of f next)

responding : (s : Signing) (f : FixedParts) (o : Option StateParts) → IsWithinLimits (responds s f o)
responding s f None = tt
responding s f (Some from) = if_signed s f from (next_state s.used f from)

answering : (s : Signing) (op : Op) → IsWithinLimits (answer_to s op)
answering s (ops.Call (Challenge k)) = responding s k.chain.fixed (newest k.chain.states)
answering s (ops.Call (Deposit d)) = tt
answering s (ops.Call (Respond k)) = tt
answering s (ops.Call (Refute f next)) = tt
answering s (ops.Call (Checkpoint chain)) = tt
answering s (ops.Call (Conclude chain)) = tt
answering s (ops.Call (Transfer k)) = tt
answering s (ops.Call (Claim k)) = tt
answering s (ops.Time to) = tt

if_found : (s : Signing) (o : Option Entry) → IsWithinLimits (answer_if s o)
if_found s None = tt
if_found s (Some e) = answering s e.op

unless_spent : (b : Bool) (a : Act) → IsWithinLimits a → IsWithinLimits (cond b acts.Done a)
unless_spent true a is = tt
unless_spent false a is = is

pub equivocated_keeps : (s : Signing) (entries : List Entry) → IsWithinLimits (equivocated s entries)
equivocated_keeps s entries =
    unless_spent (nat_le 32 s.used) (answer_if s (find (λ e. is_answerable (key_of s) e.reply e.op) entries)) (if_found s (find (λ e. is_answerable (key_of s) e.reply e.op) entries))

-- the answer to the oldest challenge is what it does
pub answer_is : (s : Signing) (key : List ℕ) (entries : List Entry) (e : Entry) (a : Act) → nat_le 32 s.used ≡ false → key ≡ key_of s
    → Some e ≡ find (λ e. is_answerable key e.reply e.op) entries → a ≡ answer_to s e.op → a ≡ equivocated s entries
answer_is s key entries e a few own is same =
    let is : Some e ≡ find (λ e. is_answerable (key_of s) e.reply e.op) entries = subst (λ k. Some e ≡ find (λ e. is_answerable k e.reply e.op) entries) own is in
    rw few (same ∙ ap (answer_if s) is)
