-- What is noted is what the definition of held chains says.
use Rattle.std.proofs.Common.{◌≡◌, Bool, true, false, cond, Some, None, refl, sym, ◌∙◌, ap}
use Rattle.std.specs.Prelude.{Option, ◌&&◌, ◌==◌, not, is_none}
use Rattle.std.specs.Option.{option_map}
use Rattle.channel_values.specs.Parts.{StateParts}
use Rattle.channel_values.specs.declared.chain.Signed.{Signed}
use Rattle.channel_values.specs.declared.fault.StepFault.{StepFault}
use Rattle.channel_values.specs.Words.{fault_if, ◌⊳◌}
use Rattle.channel_values.specs.Rules.{Rules, newest, is_signed_well}
use Rattle.call_history.specs.Marked.{marked_of, chain_of, answered, is_step, extends}
use Rattle.channel_store.specs.Keeping.{is_ended, next_of, step_after, step_of, last_after, with_chain, noting}
use Rattle.channel_store.specs.Good.{note_fault}
use Rattle.channel_store.specs.declared.fault.NoteFault.{NoteFault}
use Rattle.channel_store.specs.declared.fault.NoteFault.TheVariants as faults
use Rattle.channel_store.specs.declared.kept.Kept.{Kept}

-- no line of a table is broken
first_holds : {E : Type 0} (b : Bool) (fault : E) (rest : Option E) → (fault_if b fault ⊳ rest) ≡ None → b ≡ false
first_holds true fault rest e = absurd cc
first_holds false fault rest e = refl

others_hold : {E : Type 0} (b : Bool) (fault : E) (rest : Option E) → (fault_if b fault ⊳ rest) ≡ None → rest ≡ None
others_hold true fault rest e = absurd cc
others_hold false fault rest e = e

holds : (b : Bool) → not b ≡ false → b ≡ true
holds true e = refl
holds false e = absurd cc

no_fault : (o : Option StepFault) → option_map faults.BadStep o ≡ None → o ≡ None
no_fault None e = refl
no_fault (Some fault) e = absurd cc

steps : (r : Rules) (k : Kept) (s : StateParts) (latest : Option StateParts) → step_after r k s latest ≡ None → is_step r k.chain.fixed s latest ≡ true
steps r k s None e = refl
steps r k s (Some before) e = ap is_none e

-- the tests of a note are those of the definition
abbrev step_line : Rules → Kept → Signed → Option NoteFault
step_line r k next = option_map faults.BadStep (step_of r k next.state)

abbrev signature_lines : Rules → Kept → Signed → Option NoteFault
signature_lines r k next = fault_if (not (is_signed_well r k.chain.fixed next)) faults.BadSignature ⊳ step_line r k next

abbrev turn_lines : Rules → Kept → Signed → Option NoteFault
turn_lines r k next = fault_if (not (next.state.turn == next_of k)) (faults.NotNext (next_of k)) ⊳ signature_lines r k next

pub passes : (r : Rules) (k : Kept) (next : Signed) → note_fault r k next ≡ None → extends r k.chain.fixed next (marked_of k.chain) ≡ true
passes r k next e =
    let after_end : turn_lines r k next ≡ None = others_hold (is_ended k) (faults.NotNext 0) (turn_lines r k next) e in
    let turn : (next.state.turn == next_of k) ≡ true = holds (next.state.turn == next_of k) (first_holds (not (next.state.turn == next_of k)) (faults.NotNext (next_of k)) (signature_lines r k next) after_end) in
    let after_turn : signature_lines r k next ≡ None = others_hold (not (next.state.turn == next_of k)) (faults.NotNext (next_of k)) (signature_lines r k next) after_end in
    let signed : is_signed_well r k.chain.fixed next ≡ true = holds (is_signed_well r k.chain.fixed next) (first_holds (not (is_signed_well r k.chain.fixed next)) faults.BadSignature (step_line r k next) after_turn) in
    let after_signature : step_line r k next ≡ None = others_hold (not (is_signed_well r k.chain.fixed next)) faults.BadSignature (step_line r k next) after_turn in
    let step : is_step r k.chain.fixed next.state (newest k.chain.states) ≡ true = steps r k next.state (newest k.chain.states) (no_fault (step_of r k next.state) after_signature) in
    ap (λ b. b && (is_signed_well r k.chain.fixed next && is_step r k.chain.fixed next.state (newest k.chain.states))) turn
    ∙ ap (λ b. b && is_step r k.chain.fixed next.state (newest k.chain.states)) signed ∙ step

-- so what is kept with a state that passes is what the definition makes of it
pub noted_is : (r : Rules) (own : Bool) (k : Kept) (next : Signed) → note_fault r k next ≡ None
    → record k { chain = chain_of k.chain.fixed (answered k.chain.fixed next (marked_of k.chain)); last = last_after own k next.state } ≡ noting r own next k
noted_is r own k next e =
    sym (ap (λ (b : Bool). record (with_chain (cond b (answered k.chain.fixed next (marked_of k.chain)) (marked_of k.chain)) k) { last = last_after own k next.state }) (passes r k next e))
