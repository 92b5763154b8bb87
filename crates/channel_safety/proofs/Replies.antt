-- What an accepted challenge, checkpoint or conclude says of its chain, and when a checkpoint is accepted.
use Rattle.std.proofs.Common.{◌≡◌, ℕ, ◌+◌, ◌<◌, ◌==◌, Bool, true, false, cond, not, List, [], ◌∷◌, ◌∙◌, refl, sym, ap, subst}
use Rattle.std.specs.Str.{bytes_eq}
use Rattle.std.specs.Prelude.{nat_le, Option, Some, None, Result, Ok, Err, is_ok}
use Rattle.std.specs.Result.{result_err}
use Rattle.channel_values.specs.Parts.{FixedParts, StateParts}
use Rattle.channel_values.specs.declared.chain.Signed.{Signed}
use Rattle.channel_values.specs.declared.chain.Chain.{Chain}
use Rattle.channel_values.specs.declared.fault.SupportFault.{SupportFault}
use Rattle.call_history.specs.Mode.{is_final, is_challenged}
use Rattle.channel_values.specs.Rows.{mover}
use Rattle.channel_values.specs.Rules.{Rules, people, top_turn, is_signed_well, signs_challenge}
use Rattle.channel_values.specs.Support.{support_of, verified_marks, supports}
use Rattle.call_history.specs.Refusing.{refuse_if, refuse_fault, told}
use Rattle.call_history.specs.Rows.{is_stale, after_challenge, after_turn, after_refute, after_conclude}
use Rattle.call_history.specs.Replies as replies
use Rattle.call_history.specs.Replies.{first_unfinished}
use Rattle.call_history.specs.History.{is_accepted, now_of, row, mode, call_reply, reply_to, Legal}
use Rattle.call_history.specs.Marked.{marked_of, is_supported}
use Rattle.call_history.specs.Calls.{make_challenge, make_respond}
use Rattle.call_history.specs.declared.call.Call.{Call}
use Rattle.call_history.specs.declared.call.Call.TheVariants.{Refute, Checkpoint, Conclude}
use Rattle.call_history.specs.declared.call.Op.{Op}
use Rattle.call_history.specs.declared.call.Op.TheVariants as ops
use Rattle.call_history.specs.declared.refusal.Refusal.{Refusal}
use Rattle.call_history.specs.declared.refusal.Refusal.TheVariants.{IsFinal, NotSupported, Stale, BadChallenger, NoChallenge, WrongState, WrongTurn, BadSignature, BadStep, NotNewer, NotChallengers, NotFinalState}
use Rattle.call_history.specs.declared.refusal.Reply.{Reply}
use Rattle.call_history.specs.declared.refusal.Reply.TheVariants.{Until, Opened, Concluded}
use Rattle.call_history.specs.declared.row.Row.{Row}
use Rattle.call_history.specs.declared.entry.Entry.{Entry}
use Rattle.call_history.proofs.Names.{same_bytes}
use Rattle.channel_safety.proofs.Tests.{not-false, le-false, eqb-true}
use Rattle.channel_safety.proofs.Chains.{AllFinal}
use Rattle.channel_safety.proofs.Rowing.{passes, passes-fault, refuse-false, told-ok}

pub all_final : (i : ℕ) (states : List StateParts) → first_unfinished i states ≡ None → AllFinal states
all_final i [] h = tt
all_final i (s ∷ rest) h = go s.is_final refl h (all_final (i + 1) rest)
  where
    go : (b : Bool) → s.is_final ≡ b → cond b (first_unfinished (i + 1) rest) (Some i) ≡ None → (first_unfinished (i + 1) rest ≡ None → AllFinal rest) → (s.is_final ≡ true) × AllFinal rest
    go true e k rec = (e, rec k)
    go false e k rec = cc

no-fault : (x : Result ℕ SupportFault) → result_err x ≡ None → is_ok x ≡ true
no-fault (Ok turn) h = refl
no-fault (Err fault) h = cc

fault-none : (x : Result ℕ SupportFault) → is_ok x ≡ true → result_err x ≡ None
fault-none (Ok turn) h = refl
fault-none (Err fault) h = cc

by-marks : (r : Rules) (chain : Chain) → result_err (support_of r chain (verified_marks r chain)) ≡ None → is_supported r chain.fixed (marked_of chain) ≡ true
unfolding supports
by-marks r chain h = no-fault (support_of r chain (verified_marks r chain)) h

to-marks : (r : Rules) (chain : Chain) → is_supported r chain.fixed (marked_of chain) ≡ true → result_err (support_of r chain (verified_marks r chain)) ≡ None
unfolding supports
to-marks r chain h = fault-none (support_of r chain (verified_marks r chain)) h

pub conclude_ok : (r : Rules) (past : List Entry) (chain : Chain) → is_accepted (call_reply r past (Conclude chain)) ≡ true
    → (is_supported r chain.fixed (marked_of chain) ≡ true) × AllFinal chain.states
conclude_ok r past chain h =
    let old : Row = row r (r.named chain.fixed) past in
    let done : Result Row Refusal = Ok (after_conclude r (now_of past) chain old) in
    let third : Result Row Refusal = refuse_fault (first_unfinished 0 chain.states) NotFinalState done in
    let second : Result Row Refusal = refuse_fault (result_err (support_of r chain (verified_marks r chain))) NotSupported third in
    let v = told-ok (λ (new : Row). Concluded new.turn) (replies.conclude r old (now_of past) chain) h in
    let a = passes (is_final (mode r (r.named chain.fixed) past)) IsFinal second v.0 v.1 in
    let b = passes-fault (result_err (support_of r chain (verified_marks r chain))) NotSupported third v.0 a.1 in
    let c = passes-fault (first_unfinished 0 chain.states) NotFinalState done v.0 b.1 in
    (by-marks r chain b.0, all_final 0 chain.states c.0)

-- what an accepted challenge says
pub record Challenges (r : Rules) (past : List Entry) (chain : Chain) (who : ℕ) (sig : List ℕ) : Type 0 where
  pub still : is_final (mode r (r.named chain.fixed) past) ≡ false
  pub supported : is_supported r chain.fixed (marked_of chain) ≡ true
  pub fresh : is_stale (mode r (r.named chain.fixed) past) (row r (r.named chain.fixed) past).turn (top_turn chain.states) ≡ false
  pub signed : signs_challenge r chain.fixed chain.states who sig ≡ true

pub challenge_ok : (r : Rules) (past : List Entry) (chain : Chain) (who : ℕ) (sig : List ℕ) → is_accepted (call_reply r past (make_challenge chain who sig)) ≡ true → Challenges r past chain who sig
challenge_ok r past chain who sig h =
    let old : Row = row r (r.named chain.fixed) past in
    let done : Result Row Refusal = Ok (after_challenge r (now_of past) chain who) in
    let fourth : Result Row Refusal = refuse_if (not (signs_challenge r chain.fixed chain.states who sig)) BadChallenger done in
    let third : Result Row Refusal = refuse_if (is_stale (mode r (r.named chain.fixed) past) old.turn (top_turn chain.states)) (Stale old.turn) fourth in
    let second : Result Row Refusal = refuse_fault (result_err (support_of r chain (verified_marks r chain))) NotSupported third in
    let v = told-ok (λ (new : Row). Until (now_of past + chain.fixed.duration)) (replies.challenge r old (now_of past) chain who sig) h in
    let a = passes (is_final (mode r (r.named chain.fixed) past)) IsFinal second v.0 v.1 in
    let b = passes-fault (result_err (support_of r chain (verified_marks r chain))) NotSupported third v.0 a.1 in
    let c = passes (is_stale (mode r (r.named chain.fixed) past) old.turn (top_turn chain.states)) (Stale old.turn) fourth v.0 b.1 in
    let d = passes (not (signs_challenge r chain.fixed chain.states who sig)) BadChallenger done v.0 c.1 in
    record { still = a.0; supported = by-marks r chain b.0; fresh = c.0; signed = not-false (signs_challenge r chain.fixed chain.states who sig) d.0 }

-- what an accepted checkpoint says
pub record Checkpoints (r : Rules) (past : List Entry) (chain : Chain) : Type 0 where
  pub still : is_final (mode r (r.named chain.fixed) past) ≡ false
  pub supported : is_supported r chain.fixed (marked_of chain) ≡ true
  pub newer : (row r (r.named chain.fixed) past).turn < top_turn chain.states

pub checkpoint_ok : (r : Rules) (past : List Entry) (chain : Chain) → is_accepted (call_reply r past (Checkpoint chain)) ≡ true → Checkpoints r past chain
checkpoint_ok r past chain h =
    let old : Row = row r (r.named chain.fixed) past in
    let done : Result Row Refusal = Ok (after_turn (top_turn chain.states) old) in
    let third : Result Row Refusal = refuse_if (nat_le (top_turn chain.states) old.turn) (NotNewer old.turn) done in
    let second : Result Row Refusal = refuse_fault (result_err (support_of r chain (verified_marks r chain))) NotSupported third in
    let v = told-ok (λ (new : Row). Opened new.turn) (replies.checkpoint r old (now_of past) chain) h in
    let a = passes (is_final (mode r (r.named chain.fixed) past)) IsFinal second v.0 v.1 in
    let b = passes-fault (result_err (support_of r chain (verified_marks r chain))) NotSupported third v.0 a.1 in
    let c = passes (nat_le (top_turn chain.states) old.turn) (NotNewer old.turn) done v.0 b.1 in
    record { still = a.0; supported = by-marks r chain b.0; newer = le-false (top_turn chain.states) old.turn c.0 }

-- what an accepted respond says
pub record Responds (r : Rules) (past : List Entry) (fixed : FixedParts) (before : StateParts) (next : Signed) : Type 0 where
  pub challenged : is_challenged (mode r (r.named fixed) past) ≡ true
  pub same : r.digest (r.named fixed) before ≡ (row r (r.named fixed) past).state_digest
  pub turn : next.state.turn ≡ (row r (r.named fixed) past).turn + 1
  pub well : is_signed_well r fixed next ≡ true
  pub step : r.step fixed before next.state ≡ None

pub respond_ok : (r : Rules) (past : List Entry) (fixed : FixedParts) (before : StateParts) (next : Signed) → is_accepted (call_reply r past (make_respond fixed before next)) ≡ true → Responds r past fixed before next
respond_ok r past fixed before next h =
    let old : Row = row r (r.named fixed) past in
    let done : Result Row Refusal = Ok (after_turn next.state.turn old) in
    let fifth : Result Row Refusal = refuse_fault (r.step fixed before next.state) BadStep done in
    let fourth : Result Row Refusal = refuse_if (not (is_signed_well r fixed next)) BadSignature fifth in
    let third : Result Row Refusal = refuse_if (not (next.state.turn == old.turn + 1)) (WrongTurn (old.turn + 1)) fourth in
    let second : Result Row Refusal = refuse_if (not (bytes_eq (r.digest (r.named fixed) before) old.state_digest)) WrongState third in
    let v = told-ok (λ (new : Row). Opened new.turn) (replies.respond r old (now_of past) fixed before next) h in
    let a = passes (not (is_challenged (mode r (r.named fixed) past))) NoChallenge second v.0 v.1 in
    let b = passes (not (bytes_eq (r.digest (r.named fixed) before) old.state_digest)) WrongState third v.0 a.1 in
    let c = passes (not (next.state.turn == old.turn + 1)) (WrongTurn (old.turn + 1)) fourth v.0 b.1 in
    let d = passes (not (is_signed_well r fixed next)) BadSignature fifth v.0 c.1 in
    let e = passes-fault (r.step fixed before next.state) BadStep done v.0 d.1 in
    record {
      challenged = not-false (is_challenged (mode r (r.named fixed) past)) a.0;
      same = same_bytes (r.digest (r.named fixed) before) old.state_digest (not-false (bytes_eq (r.digest (r.named fixed) before) old.state_digest) b.0);
      turn = eqb-true next.state.turn (old.turn + 1) (not-false (next.state.turn == old.turn + 1) c.0);
      well = not-false (is_signed_well r fixed next) d.0;
      step = e.0;
    }

-- what an accepted refute says
pub record Refutes (r : Rules) (past : List Entry) (fixed : FixedParts) (next : Signed) : Type 0 where
  pub challenged : is_challenged (mode r (r.named fixed) past) ≡ true
  pub newer : (row r (r.named fixed) past).turn < next.state.turn
  pub mover_is : mover (people fixed) next.state.turn ≡ (row r (r.named fixed) past).challenger
  pub well : is_signed_well r fixed next ≡ true

pub refute_ok : (r : Rules) (past : List Entry) (fixed : FixedParts) (next : Signed) → is_accepted (call_reply r past (Refute fixed next)) ≡ true → Refutes r past fixed next
refute_ok r past fixed next h =
    let old : Row = row r (r.named fixed) past in
    let done : Result Row Refusal = Ok (after_refute old) in
    let fourth : Result Row Refusal = refuse_if (not (is_signed_well r fixed next)) BadSignature done in
    let third : Result Row Refusal = refuse_if (not (mover (people fixed) next.state.turn == old.challenger)) NotChallengers fourth in
    let second : Result Row Refusal = refuse_if (nat_le next.state.turn old.turn) (NotNewer old.turn) third in
    let v = told-ok (λ (new : Row). Opened new.turn) (replies.refute r old (now_of past) fixed next) h in
    let a = passes (not (is_challenged (mode r (r.named fixed) past))) NoChallenge second v.0 v.1 in
    let b = passes (nat_le next.state.turn old.turn) (NotNewer old.turn) third v.0 a.1 in
    let c = passes (not (mover (people fixed) next.state.turn == old.challenger)) NotChallengers fourth v.0 b.1 in
    let d = passes (not (is_signed_well r fixed next)) BadSignature done v.0 c.1 in
    record {
      challenged = not-false (is_challenged (mode r (r.named fixed) past)) a.0;
      newer = le-false next.state.turn old.turn b.0;
      mover_is = eqb-true (mover (people fixed) next.state.turn) old.challenger (not-false (mover (people fixed) next.state.turn == old.challenger) c.0);
      well = not-false (is_signed_well r fixed next) d.0;
    }

pub checkpoint_taken : (r : Rules) (past : List Entry) (chain : Chain) → is_final (mode r (r.named chain.fixed) past) ≡ false → is_supported r chain.fixed (marked_of chain) ≡ true
    → nat_le (top_turn chain.states) (row r (r.named chain.fixed) past).turn ≡ false → is_accepted (call_reply r past (Checkpoint chain)) ≡ true
checkpoint_taken r past chain still supp newer =
    let old : Row = row r (r.named chain.fixed) past in
    let done : Result Row Refusal = Ok (after_turn (top_turn chain.states) old) in
    let third : Result Row Refusal = refuse_if (nat_le (top_turn chain.states) old.turn) (NotNewer old.turn) done in
    let second : Result Row Refusal = refuse_fault (result_err (support_of r chain (verified_marks r chain))) NotSupported third in
    let e1 = refuse-false (is_final (mode r (r.named chain.fixed) past)) IsFinal second still in
    let e2 = ap (λ (o : Option SupportFault). refuse_fault o NotSupported third) (to-marks r chain supp) in
    let e3 = refuse-false (nat_le (top_turn chain.states) old.turn) (NotNewer old.turn) done newer in
    ap (λ (x : Result Row Refusal). is_accepted (told (λ (new : Row). Opened new.turn) x)) (e1 ∙ (e2 ∙ e3))

-- an accepted reply to a turning call
pub taken : (r : Rules) (past : List Entry) (e : Entry) (call : Call) → Legal r (e ∷ past) → e.op ≡ ops.Call call → is_accepted e.reply ≡ true → is_accepted (call_reply r past call) ≡ true
unfolding reply_to
taken r past e call legal op acc = subst (λ (x : Op). is_accepted (reply_to r past x) ≡ true) op (subst (λ (x : Reply). is_accepted x ≡ true) legal.2 acc)

-- and such a call is accepted in a legal history
pub given : (r : Rules) (past : List Entry) (e : Entry) (call : Call) → Legal r (e ∷ past) → e.op ≡ ops.Call call → is_accepted (call_reply r past call) ≡ true → is_accepted e.reply ≡ true
unfolding reply_to
given r past e call legal op acc = subst (λ (x : Reply). is_accepted x ≡ true) (sym legal.2) (subst (λ (x : Op). is_accepted (reply_to r past x) ≡ true) (sym op) acc)
