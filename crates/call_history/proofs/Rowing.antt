-- What accepted calls make of a row.
use Rattle.std.proofs.Common.{◌≡◌, ℕ, List, Bool, true, false, cond, Option, Some, None, refl}
use Rattle.std.specs.Prelude.{Result, Ok, Err, IfOk, not, ◌==◌, nat_le, ◌+◌}
use Rattle.std.specs.Result.{result_err}
use Rattle.std.specs.Str.{bytes_eq}
use Rattle.channel_values.specs.Parts.{FixedParts, StateParts}
use Rattle.channel_values.specs.declared.chain.Chain.{Chain}
use Rattle.channel_values.specs.declared.chain.Signed.{Signed}
use Rattle.channel_values.specs.Rows.{mover}
use Rattle.channel_values.specs.Rules.{Rules, people, top_turn}
use Rattle.channel_values.specs.Support.{support_of}
use Rattle.call_history.specs.Refusing.{refuse_fault}
use Rattle.call_history.specs.Mode.{mode_at, is_final, is_challenged}
use Rattle.call_history.specs.Rows.{is_stale, after_challenge, after_turn, after_refute, after_conclude}
use Rattle.call_history.specs.Replies.{challenge_with, respond_with, refute_with, checkpoint_with, conclude_with, first_unfinished}
use Rattle.call_history.specs.declared.row.Row.{Row}
use Rattle.call_history.specs.declared.refusal.Refusal.{Refusal}
use Rattle.call_history.specs.declared.refusal.Refusal.TheVariants.{IsFinal, NotSupported, Stale, BadChallenger, NoChallenge, WrongState, WrongTurn, BadSignature, BadStep, NotNewer, NotChallengers, NotFinalState}

-- a row that is answered is this one
pub record Answers (new : Row) (x : Result Row Refusal) : Type 0 where
  pub is : IfOk x (λ row. row ≡ new)

here : (new : Row) → Answers new (Ok new)
here new = record { is = refl }

past_if : {new : Row} (b : Bool) (refusal : Refusal) (x : Result Row Refusal) → Answers new x → Answers new (cond b (Err refusal) x)
past_if true refusal x h = record { is = tt }
past_if false refusal x h = h

past_fault : {F : Type 0} {new : Row} (fault : Option F) (refusal : F → Refusal) (x : Result Row Refusal) → Answers new x → Answers new (refuse_fault fault refusal x)
past_fault None refusal x h = h
past_fault (Some fault) refusal x h = record { is = tt }

pub challenge_row : (r : Rules) (old : Row) (now : ℕ) (chain : Chain) (who : ℕ) (verified : List Bool) (signed : Bool)
    → Answers (after_challenge r now chain who) (challenge_with r old now chain who verified signed)
challenge_row r old now chain who verified signed =
    past_if (is_final (mode_at old.deadline now)) IsFinal _ (
    past_fault (result_err (support_of r chain verified)) NotSupported _ (
    past_if (is_stale (mode_at old.deadline now) old.turn (top_turn chain.states)) (Stale old.turn) _ (
    past_if (not signed) BadChallenger _ (here (after_challenge r now chain who)))))

pub checkpoint_row : (r : Rules) (old : Row) (now : ℕ) (chain : Chain) (verified : List Bool)
    → Answers (after_turn (top_turn chain.states) old) (checkpoint_with r old now chain verified)
checkpoint_row r old now chain verified =
    past_if (is_final (mode_at old.deadline now)) IsFinal _ (
    past_fault (result_err (support_of r chain verified)) NotSupported _ (
    past_if (nat_le (top_turn chain.states) old.turn) (NotNewer old.turn) _ (here (after_turn (top_turn chain.states) old))))

pub conclude_row : (r : Rules) (old : Row) (now : ℕ) (chain : Chain) (verified : List Bool)
    → Answers (after_conclude r now chain old) (conclude_with r old now chain verified)
conclude_row r old now chain verified =
    past_if (is_final (mode_at old.deadline now)) IsFinal _ (
    past_fault (result_err (support_of r chain verified)) NotSupported _ (
    past_fault (first_unfinished 0 chain.states) NotFinalState _ (here (after_conclude r now chain old))))

pub respond_row : (r : Rules) (old : Row) (now : ℕ) (fixed : FixedParts) (from : StateParts) (next : Signed) (signed : Bool)
    → Answers (after_turn next.state.turn old) (respond_with r old now fixed from next signed)
respond_row r old now fixed from next signed =
    past_if (not (is_challenged (mode_at old.deadline now))) NoChallenge _ (
    past_if (not (bytes_eq (r.digest (r.named fixed) from) old.state_digest)) WrongState _ (
    past_if (not (next.state.turn == old.turn + 1)) (WrongTurn (old.turn + 1)) _ (
    past_if (not signed) BadSignature _ (
    past_fault (r.step fixed from next.state) BadStep _ (here (after_turn next.state.turn old))))))

pub refute_row : (old : Row) (now : ℕ) (fixed : FixedParts) (next : Signed) (signed : Bool)
    → Answers (after_refute old) (refute_with old now fixed next signed)
refute_row old now fixed next signed =
    past_if (not (is_challenged (mode_at old.deadline now))) NoChallenge _ (
    past_if (nat_le next.state.turn old.turn) (NotNewer old.turn) _ (
    past_if (not (mover (people fixed) next.state.turn == old.challenger)) NotChallengers _ (
    past_if (not signed) BadSignature _ (here (after_refute old)))))
