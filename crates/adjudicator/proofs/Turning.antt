-- What an accepted call on a row does to what an adjudicator stands for.
use Rattle.std.proofs.Common.{◌≡◌, ℕ, ◌+◌, List, [], ◌∷◌, true, Some, refl, sym, ◌∙◌, ap, subst}
use Rattle.std.specs.Prelude.{Option, Result, Ok, Err, unwrap_or}
use Rattle.channel_values.specs.Parts.{FixedParts}
use Rattle.channel_values.specs.declared.chain.Chain.{Chain}
use Rattle.channel_values.specs.declared.chain.Signed.{Signed}
use Rattle.channel_values.specs.Rules.{Rules, is_signed_well, signs_challenge}
use Rattle.channel_values.specs.Support.{verified_marks}
use Rattle.call_history.specs.Refusing.{told}
use Rattle.call_history.specs.Rows.{row_or_blank, fixed_of, turned}
use Rattle.call_history.specs.Replies.{challenge, respond, refute, checkpoint, conclude}
use Rattle.call_history.specs.History.{is_accepted, row, flow_of, payment_of, now_of, reply_to}
use Rattle.call_history.specs.declared.call.Call.TheVariants.{Challenge, Respond, Refute, Checkpoint, Conclude}
use Rattle.call_history.specs.declared.call.ChallengeCall.{ChallengeCall}
use Rattle.call_history.specs.declared.call.RespondCall.{RespondCall}
use Rattle.call_history.specs.declared.call.Op.{Op}
use Rattle.call_history.specs.declared.call.Op.TheVariants as ops
use Rattle.call_history.specs.declared.entry.Entry.{Entry}
use Rattle.call_history.specs.declared.refusal.Refusal.{Refusal}
use Rattle.call_history.specs.declared.refusal.Reply.{Reply}
use Rattle.call_history.specs.declared.refusal.Reply.TheVariants.{Until, Opened, Concluded}
use Rattle.call_history.specs.declared.row.Row.{Row}
use Rattle.call_history.proofs.Rowing.{Answers, challenge_row, respond_row, refute_row, checkpoint_row, conclude_row}
use Rattle.adjudicator.specs.Standing.{Standing, row_in, StandsFor, HasTurned, Serves}
use Rattle.adjudicator.proofs.Stands.{row_found, stands_refused, stands_turned, on_refused}

-- The op is a call on the row of a channel. `word` is what it answers for the row and the time, and `say` shows it.
pub record IsTurning (r : Rules) (op : Op) (fixed : FixedParts) (word : Row → ℕ → Result Row Refusal) (say : ℕ → Row → Reply) : Type 0 where
  pub names : fixed_of op ≡ Some fixed
  pub reply : (h : List Entry) → reply_to r h op ≡ told (say (now_of h)) (word (row r (r.named fixed) h) (now_of h))
  pub rows : (old : Row) (now : ℕ) → Answers (turned r now op old) (word old now)
  pub accepted : (now : ℕ) (new : Row) → is_accepted (say now new) ≡ true
  pub still : (now : ℕ) (new : Row) → flow_of op (say now new) ≡ []
  pub unpaid : (now : ℕ) (new : Row) → payment_of op (say now new) ≡ []
  pub time : (h : List Entry) (number by now : ℕ) (new : Row) → now_of (record { number = number; by = by; op = op; reply = say now new } ∷ h) ≡ now_of h

-- a challenge's reply describes the deadline of the row that it makes
tells_deadline : (r : Rules) (old : Row) (now : ℕ) (k : ChallengeCall) (answer : Result Row Refusal)
    → Answers (turned r now (ops.Call (Challenge k)) old) answer → told (λ new. Until (now + k.chain.fixed.duration)) answer ≡ told (λ (new : Row). Until (unwrap_or new.deadline 0)) answer
tells_deadline r old now k (Ok new) answers = sym (ap (λ (x : Row). Until (unwrap_or x.deadline 0)) answers.is)
tells_deadline r old now k (Err refusal) answers = refl

pub challenge_turns : (r : Rules) (k : ChallengeCall)
    → IsTurning r (ops.Call (Challenge k)) k.chain.fixed (λ row now. challenge r row now k.chain k.challenger k.signature) (λ now new. Until (unwrap_or new.deadline 0))
unfolding reply_to
challenge_turns r k = record {
  names = refl;
  reply = λ h. tells_deadline r (row r (r.named k.chain.fixed) h) (now_of h) k _ (rows (row r (r.named k.chain.fixed) h) (now_of h));
  rows = rows;
  accepted = λ now new. refl;
  still = λ now new. refl;
  unpaid = λ now new. refl;
  time = λ h number by now new. refl;
}
  where
    rows : (old : Row) (now : ℕ) → Answers (turned r now (ops.Call (Challenge k)) old) (challenge r old now k.chain k.challenger k.signature)
    rows old now = challenge_row r old now k.chain k.challenger (verified_marks r k.chain) (signs_challenge r k.chain.fixed k.chain.states k.challenger k.signature)

pub respond_turns : (r : Rules) (k : RespondCall)
    → IsTurning r (ops.Call (Respond k)) k.fixed (λ row now. respond r row now k.fixed k.from k.next) (λ now new. Opened new.turn)
unfolding reply_to
respond_turns r k = record {
  names = refl;
  reply = λ h. refl;
  rows = λ old now. respond_row r old now k.fixed k.from k.next (is_signed_well r k.fixed k.next);
  accepted = λ now new. refl;
  still = λ now new. refl;
  unpaid = λ now new. refl;
  time = λ h number by now new. refl;
}

pub refute_turns : (r : Rules) (fixed : FixedParts) (next : Signed)
    → IsTurning r (ops.Call (Refute fixed next)) fixed (λ row now. refute r row now fixed next) (λ now new. Opened new.turn)
unfolding reply_to
refute_turns r fixed next = record {
  names = refl;
  reply = λ h. refl;
  rows = λ old now. refute_row old now fixed next (is_signed_well r fixed next);
  accepted = λ now new. refl;
  still = λ now new. refl;
  unpaid = λ now new. refl;
  time = λ h number by now new. refl;
}

pub checkpoint_turns : (r : Rules) (chain : Chain)
    → IsTurning r (ops.Call (Checkpoint chain)) chain.fixed (λ row now. checkpoint r row now chain) (λ now new. Opened new.turn)
unfolding reply_to
checkpoint_turns r chain = record {
  names = refl;
  reply = λ h. refl;
  rows = λ old now. checkpoint_row r old now chain (verified_marks r chain);
  accepted = λ now new. refl;
  still = λ now new. refl;
  unpaid = λ now new. refl;
  time = λ h number by now new. refl;
}

pub conclude_turns : (r : Rules) (chain : Chain)
    → IsTurning r (ops.Call (Conclude chain)) chain.fixed (λ row now. conclude r row now chain) (λ now new. Concluded new.turn)
unfolding reply_to
conclude_turns r chain = record {
  names = refl;
  reply = λ h. refl;
  rows = λ old now. conclude_row r old now chain (verified_marks r chain);
  accepted = λ now new. refl;
  still = λ now new. refl;
  unpaid = λ now new. refl;
  time = λ h number by now new. refl;
}

-- what is answered for the row that is found is what is answered for the history's
pub at_history : (r : Rules) (h : List Entry) (s : Standing) (channel : List ℕ) (word : Row → ℕ → Result Row Refusal) (answer : Result Row Refusal)
    → StandsFor r h s → answer ≡ word (row_or_blank (row_in s.rows channel)) s.now → answer ≡ word (row r channel h) (now_of h)
at_history r h s channel word answer st e =
    e ∙ ap (λ old. word old s.now) (row_found r h s st channel) ∙ ap (λ now. word (row r channel h) now) st.now

reply_turned : (r : Rules) (h : List Entry) (s : Standing) (op : Op) (fixed : FixedParts) (word : Row → ℕ → Result Row Refusal) (say : ℕ → Row → Reply) (answer : Result Row Refusal) (reply : Reply)
    → IsTurning r op fixed word say → StandsFor r h s → answer ≡ word (row_or_blank (row_in s.rows (r.named fixed))) s.now
    → reply ≡ told (say s.now) answer → reply ≡ reply_to r h op
reply_turned r h s op fixed word say answer reply turning st e is =
    is ∙ ap (λ a. told (say s.now) a) (at_history r h s (r.named fixed) word answer st e)
    ∙ ap (λ now. told (say now) (word (row r (r.named fixed) h) (now_of h))) st.now ∙ sym (turning.reply h)

-- the answer is recorded
recorded : (r : Rules) (h : List Entry) (s t : Standing) (number by now : ℕ) (op : Op) (fixed : FixedParts) (word : Row → ℕ → Result Row Refusal) (say : ℕ → Row → Reply) (answer : Result Row Refusal)
    → IsTurning r op fixed word say → StandsFor r h s → Answers (turned r (now_of h) op (row r (r.named fixed) h)) answer → HasTurned s (r.named fixed) answer t
    → StandsFor r (record { number = number; by = by; op = op; reply = told (say now) answer } ∷ h) t
recorded r h s t number by now op fixed word say (Ok new) turning st new_is after =
    stands_turned r h s t (record { number = number; by = by; op = op; reply = say now new }) fixed new st
    (turning.still now new) (turning.unpaid now new) turning.names (turning.accepted now new) (turning.time h number by now new) new_is.is
    (record { funds = after.funds; items = after.items }) after.now after.rows
recorded r h s t number by now op fixed word say (Err refusal) turning st new_is after =
    stands_refused r h s t number by op refusal st (record { funds = after.funds; items = after.items }) after.now after.rows

call_recorded : (r : Rules) (h : List Entry) (s t : Standing) (number by : ℕ) (op : Op) (fixed : FixedParts) (word : Row → ℕ → Result Row Refusal) (say : ℕ → Row → Reply) (answer : Result Row Refusal) (reply : Reply)
    → IsTurning r op fixed word say → StandsFor r h s → answer ≡ word (row_or_blank (row_in s.rows (r.named fixed))) s.now
    → reply ≡ told (say s.now) answer → HasTurned s (r.named fixed) answer t
    → StandsFor r (record { number = number; by = by; op = op; reply = reply } ∷ h) t
call_recorded r h s t number by op fixed word say answer reply turning st e is after =
    let known = at_history r h s (r.named fixed) word answer st e in
    let new_is = subst (λ (a : Result Row Refusal). Answers (turned r (now_of h) op (row r (r.named fixed) h)) a) (sym known) (turning.rows (row r (r.named fixed) h) (now_of h)) in
    rw is (recorded r h s t number by s.now op fixed word say answer turning st new_is after)

-- what is answered for the row that was found under a channel's name
pub at_found : (s v : Standing) (found : Option Row) (channel name : List ℕ) (word : Row → ℕ → Result Row Refusal) (answer : Result Row Refusal)
    → v ≡ s → answer ≡ word (row_or_blank found) v.now → found ≡ row_in v.rows channel → channel ≡ name
    → answer ≡ word (row_or_blank (row_in s.rows name)) s.now
at_found s v found channel name word answer view e there named =
    e ∙ ap (λ o. word (row_or_blank o) v.now) (there ∙ ap (λ n. row_in v.rows n) named) ∙ ap (λ t. word (row_or_blank (row_in t.rows name)) t.now) view

pub under_name : (s t : Standing) (channel name : List ℕ) (answer : Result Row Refusal) → channel ≡ name → HasTurned s channel answer t → HasTurned s name answer t
under_name s t channel name answer named turned = subst (λ (n : List ℕ). HasTurned s n answer t) named turned

-- so the call is served
pub turn_serves : (r : Rules) (s t : Standing) (op : Op) (fixed : FixedParts) (word : Row → ℕ → Result Row Refusal) (say : ℕ → Row → Reply) (answer : Result Row Refusal) (reply : Reply)
    → IsTurning r op fixed word say → answer ≡ word (row_or_blank (row_in s.rows (r.named fixed))) s.now
    → reply ≡ told (say s.now) answer → HasTurned s (r.named fixed) answer t → Serves r s op reply t
turn_serves r s t op fixed word say answer reply turning e is after = record {
  reply = λ h st. reply_turned r h s op fixed word say answer reply turning st e is;
  stands = λ h number by st. call_recorded r h s t number by op fixed word say answer reply turning st e is after;
  refused = λ refusal said. on_refused (say s.now) (turning.accepted s.now) answer reply refusal is said after.refused;
}
