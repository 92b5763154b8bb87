-- A message is refused as noting its state is, and else by the part that is asked.
use Rattle.std.proofs.Common.{◌≡◌, ℕ, ◌==◌, Bool, true, false, not, List, Some, None, refl, sym, ◌∙◌, ap}
use Rattle.std.specs.Prelude.{Option, Result, Ok, is_some}
use Rattle.std.specs.Option.{option_map, option_or}
use Rattle.channel_values.specs.declared.chain.Signed.{Signed}
use Rattle.channel_values.specs.declared.fault.ByteFault.{ByteFault}
use Rattle.channel_values.specs.declared.fault.StepFault.{StepFault}
use Rattle.channel_values.specs.Rules.{Rules, is_signed_well}
use Rattle.channel_values.specs.Words.{fault_if, ◌⊳◌}
use Rattle.call_history.specs.Spelling.{Message}
use Rattle.call_history.specs.declared.event.NodeRefusal.{NodeRefusal}
use Rattle.call_history.specs.declared.event.NodeRefusal.TheVariants.{UnknownChannel, NotNext, BadSignature, NotAStep}
use Rattle.channel_store.specs.Keeping.{is_ended, next_of, step_of}
use Rattle.channel_store.specs.Good.{note_fault}
use Rattle.channel_store.specs.Storing.{kept_of}
use Rattle.channel_store.specs.Noting.{refusal_at, refusal_of}
use Rattle.channel_store.specs.declared.fault.NoteFault.{NoteFault}
use Rattle.channel_store.specs.declared.fault.NoteFault.TheVariants as faults
use Rattle.channel_store.specs.declared.kept.Kept.{Kept}
use Rattle.channel_node.specs.Minds.{Mind, facts_of}
use Rattle.channel_node.specs.Refusing.{not_open, state_refusal, message_refusal}
use Rattle.channel_node.specs.Tables.{Tables}
use Rattle.node_decisions.specs.Telling.{told, not_taken}

-- the lines of a state, after that on open channels
abbrev lines : (ended wrong_turn unsigned no_step : Bool) → ℕ → Option NodeRefusal → Option NodeRefusal
lines ended wrong_turn unsigned no_step next rest =
    fault_if ended (NotNext 0) ⊳ fault_if wrong_turn (NotNext next) ⊳ fault_if unsigned BadSignature ⊳ fault_if no_step NotAStep ⊳ rest

abbrev faults_of : (ended wrong_turn unsigned : Bool) → ℕ → Option StepFault → Option NoteFault
faults_of ended wrong_turn unsigned next step =
    fault_if ended (faults.NotNext 0) ⊳ fault_if wrong_turn (faults.NotNext next) ⊳ fault_if unsigned faults.BadSignature ⊳ option_map faults.BadStep step

same_lines : (ended wrong_turn unsigned : Bool) (next : ℕ) (step : Option StepFault) (rest : Option NodeRefusal)
    → option_or (option_map told (faults_of ended wrong_turn unsigned next step)) rest ≡ lines ended wrong_turn unsigned (is_some step) next rest
same_lines true wrong_turn unsigned next step rest = refl
same_lines false true unsigned next step rest = refl
same_lines false false true next step rest = refl
same_lines false false false next (Some fault) rest = refl
same_lines false false false next None rest = refl

-- where every live channel is open
state_is : (ts : Tables) (r : Rules) (m : Mind) (channel : List ℕ) (s : Signed) (k : Kept) → not_open ts (facts_of m) ≡ None
    → option_or (option_map told (note_fault r k s)) (not_taken ts m channel s.state) ≡ state_refusal ts r m channel s (Some k)
state_is ts r m channel s k all_open =
    same_lines (is_ended k) (not (s.state.turn == next_of k)) (not (is_signed_well r k.chain.fixed s)) (next_of k) (step_of r k s.state) rest
    ∙ ap (λ (o : Option NodeRefusal). option_or o (lines (is_ended k) (not (s.state.turn == next_of k)) (not (is_signed_well r k.chain.fixed s)) (is_some (step_of r k s.state)) (next_of k) rest)) (sym all_open)
  where
    rest : Option NodeRefusal
    rest = not_taken ts m channel s.state

pub unknown : (ts : Tables) (r : Rules) (m : Mind) (channel : List ℕ) (s : Signed) → None ≡ kept_of channel m.kept → Some UnknownChannel ≡ state_refusal ts r m channel s (kept_of channel m.kept)
unknown ts r m channel s e = ap (state_refusal ts r m channel s) e

pub closed : (ts : Tables) (r : Rules) (m : Mind) (channel : List ℕ) (s : Signed) (k : Kept) (refusal : NodeRefusal) → Some k ≡ kept_of channel m.kept → Some refusal ≡ not_open ts (facts_of m)
    → Some refusal ≡ state_refusal ts r m channel s (kept_of channel m.kept)
closed ts r m channel s k refusal found e =
    ap (λ (o : Option NodeRefusal). option_or o rest) e ∙ ap (state_refusal ts r m channel s) found
  where
    rest : Option NodeRefusal
    rest = lines (is_ended k) (not (s.state.turn == next_of k)) (not (is_signed_well r k.chain.fixed s)) (is_some (step_of r k s.state)) (next_of k) (not_taken ts m channel s.state)

tells : (ts : Tables) (r : Rules) (m : Mind) (channel : List ℕ) (s : Signed) (k : Kept) → Some k ≡ kept_of channel m.kept → None ≡ not_open ts (facts_of m)
    → option_or (option_map told (refusal_of r channel s m.kept)) (not_taken ts m channel s.state) ≡ state_refusal ts r m channel s (kept_of channel m.kept)
tells ts r m channel s k found e =
    ap (λ (o : Option Kept). option_or (option_map told (refusal_at r s o)) (not_taken ts m channel s.state)) (sym found)
    ∙ state_is ts r m channel s k (sym e)
    ∙ ap (state_refusal ts r m channel s) found

pub faulty : (ts : Tables) (r : Rules) (m : Mind) (channel : List ℕ) (s : Signed) (k : Kept) (refusal : NodeRefusal) → Some k ≡ kept_of channel m.kept → None ≡ not_open ts (facts_of m)
    → Some refusal ≡ option_map told (refusal_of r channel s m.kept) → Some refusal ≡ state_refusal ts r m channel s (kept_of channel m.kept)
faulty ts r m channel s k refusal found e is =
    ap (λ (o : Option NodeRefusal). option_or o (not_taken ts m channel s.state)) is ∙ tells ts r m channel s k found e

pub passes : (ts : Tables) (r : Rules) (m : Mind) (channel : List ℕ) (s : Signed) (k : Kept) (last : Option NodeRefusal) → Some k ≡ kept_of channel m.kept → None ≡ not_open ts (facts_of m)
    → None ≡ option_map told (refusal_of r channel s m.kept) → last ≡ not_taken ts m channel s.state → last ≡ state_refusal ts r m channel s (kept_of channel m.kept)
passes ts r m channel s k last found e is taken =
    taken ∙ ap (λ (o : Option NodeRefusal). option_or o (not_taken ts m channel s.state)) is ∙ tells ts r m channel s k found e

-- ---- what isn't refused can be noted

first_none : {A : Type 0} (o p : Option A) → option_or o p ≡ None → o ≡ None
first_none None p e = refl
first_none (Some x) p e = absurd cc

no_fault : (o : Option NoteFault) → option_map told o ≡ None → o ≡ None
no_fault None e = refl
no_fault (Some fault) e = absurd cc

notes : (ts : Tables) (r : Rules) (m : Mind) (channel : List ℕ) (s : Signed) (o : Option Kept) → state_refusal ts r m channel s o ≡ None → refusal_at r s o ≡ None
notes ts r m channel s None e = absurd cc
notes ts r m channel s (Some k) e =
    no_fault (note_fault r k s) (first_none (option_map told (note_fault r k s)) (not_taken ts m channel s.state)
    (state_is ts r m channel s k (first_none (not_open ts (facts_of m)) (lines (is_ended k) (not (s.state.turn == next_of k)) (not (is_signed_well r k.chain.fixed s)) (is_some (step_of r k s.state)) (next_of k) (not_taken ts m channel s.state)) e) ∙ e))

pub can_note : (ts : Tables) (r : Rules) (m : Mind) (read : Result Message ByteFault) (message : Message) → read ≡ Ok message → None ≡ message_refusal ts r m read → refusal_of r message.0 message.1 m.kept ≡ None
can_note ts r m read message e f = notes ts r m message.0 message.1 (kept_of message.0 m.kept) (sym (f ∙ ap (message_refusal ts r m) e))
