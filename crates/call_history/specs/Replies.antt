-- What each op answers, from the row of its channel, the time and the balances: the first refusal that holds, else the
-- value.
use Rattle.std.specs.Prelude.{ℕ, ◌+◌, ◌-◌, ◌^◌, ◌==◌, Bool, not, nat_le, nat_lt, List, [], ◌∷◌, Option, Some, None, Result, Ok, if◌then◌else◌}
use Rattle.std.specs.Result.{result_err}
use Rattle.std.specs.Str.{bytes_eq}
use Rattle.channel_values.specs.Parts.{FixedParts, StateParts}
use Rattle.channel_values.specs.declared.chain.Chain.{Chain}
use Rattle.channel_values.specs.declared.chain.Signed.{Signed}
use Rattle.channel_values.specs.declared.value.AssetOutcome.{AssetOutcome}
use Rattle.channel_values.specs.Rows.{mover}
use Rattle.channel_values.specs.Rules.{Rules, people, top_turn, is_signed_well, signs_challenge}
use Rattle.channel_values.specs.Support.{support_of, verified_marks}
use Rattle.call_history.specs.Refusing.{refuse_if, refuse_fault}
use Rattle.call_history.specs.Mode.{mode_at, is_final, is_challenged}
use Rattle.call_history.specs.Rows.{is_stale, after_challenge, after_turn, after_refute, after_conclude}
use Rattle.call_history.specs.Dues.{transfer_due, claim_due}
use Rattle.call_history.specs.declared.funds.Due.{Due}
use Rattle.call_history.specs.declared.row.Row.{Row}
use Rattle.call_history.specs.declared.refusal.Refusal.{Refusal}
use Rattle.call_history.specs.declared.refusal.Refusal.TheVariants.{IsFinal, NotSupported, Stale, BadChallenger, NoChallenge, WrongState, WrongTurn, BadSignature, BadStep, NotNewer, NotChallengers, NotFinalState, Zero, Underheld, AssetFull, NotFinal, WrongOutcome, Backwards, TooLate}

-- the place of the first state that isn't final, in a row that begins at place i
abbrev pub first_unfinished : ℕ → List StateParts → Option ℕ
first_unfinished i [] = None
first_unfinished i (s ∷ rest) = if s.is_final then first_unfinished (i + 1) rest else Some i

-- ---- the five rules of a row; the truth values of their signatures are given, and then found

abbrev pub challenge_with : Rules → Row → ℕ → Chain → ℕ → List Bool → Bool → Result Row Refusal
challenge_with r row now chain who verified signed =
    refuse_if (is_final (mode_at row.deadline now)) IsFinal (
    refuse_fault (result_err (support_of r chain verified)) NotSupported (
    refuse_if (is_stale (mode_at row.deadline now) row.turn (top_turn chain.states)) (Stale row.turn) (
    refuse_if (not signed) BadChallenger (
    Ok (after_challenge r now chain who)))))

abbrev pub respond_with : Rules → Row → ℕ → FixedParts → StateParts → Signed → Bool → Result Row Refusal
respond_with r row now fixed from next signed =
    refuse_if (not (is_challenged (mode_at row.deadline now))) NoChallenge (
    refuse_if (not (bytes_eq (r.digest (r.named fixed) from) row.state_digest)) WrongState (
    refuse_if (not (next.state.turn == row.turn + 1)) (WrongTurn (row.turn + 1)) (
    refuse_if (not signed) BadSignature (
    refuse_fault (r.step fixed from next.state) BadStep (
    Ok (after_turn next.state.turn row))))))

abbrev pub refute_with : Row → ℕ → FixedParts → Signed → Bool → Result Row Refusal
refute_with row now fixed next signed =
    refuse_if (not (is_challenged (mode_at row.deadline now))) NoChallenge (
    refuse_if (nat_le next.state.turn row.turn) (NotNewer row.turn) (
    refuse_if (not (mover (people fixed) next.state.turn == row.challenger)) NotChallengers (
    refuse_if (not signed) BadSignature (
    Ok (after_refute row)))))

abbrev pub checkpoint_with : Rules → Row → ℕ → Chain → List Bool → Result Row Refusal
checkpoint_with r row now chain verified =
    refuse_if (is_final (mode_at row.deadline now)) IsFinal (
    refuse_fault (result_err (support_of r chain verified)) NotSupported (
    refuse_if (nat_le (top_turn chain.states) row.turn) (NotNewer row.turn) (
    Ok (after_turn (top_turn chain.states) row))))

abbrev pub conclude_with : Rules → Row → ℕ → Chain → List Bool → Result Row Refusal
conclude_with r row now chain verified =
    refuse_if (is_final (mode_at row.deadline now)) IsFinal (
    refuse_fault (result_err (support_of r chain verified)) NotSupported (
    refuse_fault (first_unfinished 0 chain.states) NotFinalState (
    Ok (after_conclude r now chain row))))

abbrev pub challenge : Rules → Row → ℕ → Chain → ℕ → List ℕ → Result Row Refusal
challenge r row now chain who signature =
    challenge_with r row now chain who (verified_marks r chain)
    (signs_challenge r chain.fixed chain.states who signature)

abbrev pub respond : Rules → Row → ℕ → FixedParts → StateParts → Signed → Result Row Refusal
respond r row now fixed from next = respond_with r row now fixed from next (is_signed_well r fixed next)

abbrev pub refute : Rules → Row → ℕ → FixedParts → Signed → Result Row Refusal
refute r row now fixed next = refute_with row now fixed next (is_signed_well r fixed next)

abbrev pub checkpoint : Rules → Row → ℕ → Chain → Result Row Refusal
checkpoint r row now chain = checkpoint_with r row now chain (verified_marks r chain)

abbrev pub conclude : Rules → Row → ℕ → Chain → Result Row Refusal
conclude r row now chain = conclude_with r row now chain (verified_marks r chain)

-- ---- funds and time

-- what the channel then holds
abbrev pub deposit : ℕ → ℕ → ℕ → ℕ → Result ℕ Refusal
deposit held deposited expected amount =
    refuse_if (amount == 0) Zero (
    refuse_if (nat_lt held expected) (Underheld held) (
    refuse_if (nat_lt (2 ^ 64 - 1) (deposited + amount)) (AssetFull deposited) (
    Ok (held + amount))))

-- the channel of this row isn't final, or ended with another outcome
abbrev pub is_unfinished : Row → ℕ → Bool
is_unfinished row now = not (is_final (mode_at row.deadline now))

abbrev pub ends_otherwise : Rules → Row → List AssetOutcome → Bool
ends_otherwise r row outcome = not (bytes_eq (r.outcome_digest outcome) row.outcome_digest)

-- `paid` is what was paid of each place of the outcome for the asset, and `held` what the channel holds of it
abbrev pub transfer : Rules → Row → ℕ → (ℕ → ℕ) → ℕ → List ℕ → List AssetOutcome → ℕ → ℕ → Result Due Refusal
transfer r row now paid held channel outcome asset index =
    refuse_if (is_unfinished row now) (NotFinal channel) (
    refuse_if (ends_otherwise r row outcome) (WrongOutcome channel) (
    transfer_due paid held outcome asset index))

-- `paid` is what was paid of each place of the target's outcome for the asset, and `held` what the guarantor holds of
-- it
abbrev pub claim : Rules → Row → Row → ℕ → (ℕ → ℕ) → ℕ → List ℕ → List AssetOutcome → List ℕ → List AssetOutcome → ℕ
    → ℕ → Result Due Refusal
claim r row target_row now paid held guarantor promise target outcome asset position =
    refuse_if (is_unfinished row now) (NotFinal guarantor) (
    refuse_if (is_unfinished target_row now) (NotFinal target) (
    refuse_if (ends_otherwise r row promise) (WrongOutcome guarantor) (
    refuse_if (ends_otherwise r target_row outcome) (WrongOutcome target) (
    claim_due paid held promise target outcome asset position))))

-- the time then
abbrev pub time : ℕ → ℕ → Result ℕ Refusal
time now t =
    refuse_if (nat_lt t now) (Backwards now) (
    refuse_if (nat_lt (2 ^ 62) t) TooLate (
    Ok t))
