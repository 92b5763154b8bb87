-- What an accepted turning call says of the row that it turns and of its chain, and how a channel stands from entry to
-- entry.
use Rattle.std.proofs.Common.{◌≡◌, ℕ, suc, ◌+◌, ◌-◌, ◌^◌, ◌<◌, ◌≤◌, Bool, true, false, cond, not, ◌&&◌, ◌||◌, List, [], ◌∷◌, length, Some, None, Ok, Err, refl, ap, subst, arith}
use Rattle.std.proofs.lemmas.Bool.Decides.{nat_tests}
use Rattle.std.specs.Prelude.{nat_lt, nat_le, ◌==◌, Option, Result}
use Rattle.std.specs.Result.{result_err}
use Rattle.std.specs.Str.{bytes_eq}
use Rattle.channel_values.specs.Parts.{FixedParts, StateParts}
use Rattle.channel_values.specs.declared.chain.Chain.{Chain}
use Rattle.channel_values.specs.declared.chain.Mark.{Mark}
use Rattle.channel_values.specs.declared.chain.Signed.{Signed}
use Rattle.channel_values.specs.declared.fault.SupportFault.{SupportFault}
use Rattle.channel_values.specs.declared.fault.SupportFault.TheVariants as faults
use Rattle.call_history.specs.Mode.{mode_at, is_final, is_challenged}
use Rattle.call_history.specs.declared.standing.Standing.{Standing}
use Rattle.call_history.specs.declared.standing.Standing.TheVariants.{Challenged, Final}
use Rattle.channel_values.specs.Words.{fault_if, ◌⊳◌}
use Rattle.channel_values.specs.Rows.{first_between, last_of, turn_fault, turn_unless, marked_row, mover}
use Rattle.channel_values.specs.Rules.{Rules, people, top_turn, is_signed_well, signs_challenge}
use Rattle.channel_values.specs.Support.{link_fault, support_of, verified_marks}
use Rattle.call_history.specs.Refusing.{refuse_if, refuse_fault, told}
use Rattle.call_history.specs.Rows.{is_stale, fixed_of, turned, after_challenge, after_turn, after_refute, after_conclude}
use Rattle.call_history.specs.Replies as replies
use Rattle.call_history.specs.History.{is_accepted, is_named, time_set, or_before, now_of, turning, row, mode, call_reply, reply_to, Legal}
use Rattle.call_history.specs.declared.call.Call.TheVariants.{Challenge, Respond, Refute, Checkpoint, Conclude}
use Rattle.call_history.specs.declared.call.ChallengeCall.{ChallengeCall}
use Rattle.call_history.specs.declared.call.RespondCall.{RespondCall}
use Rattle.call_history.specs.declared.call.Op.{Op}
use Rattle.call_history.specs.declared.call.Op.TheVariants as ops
use Rattle.call_history.specs.declared.entry.Entry.{Entry}
use Rattle.call_history.specs.declared.refusal.Refusal.{Refusal}
use Rattle.call_history.specs.declared.refusal.Refusal.TheVariants.{IsFinal, NotSupported, Stale, BadChallenger, NoChallenge, WrongState, WrongTurn, BadSignature, BadStep, NotNewer, NotChallengers, NotFinalState, Backwards, TooLate}
use Rattle.call_history.specs.declared.refusal.Reply.{Reply}
use Rattle.call_history.specs.declared.refusal.Reply.TheVariants.{Until, Opened, Concluded, Now, No}
use Rattle.call_history.specs.declared.row.Row.{Row}
use Rattle.call_history.proofs.Names.{same_bytes}

-- ---- tests

pub and_both : (a b : Bool) → (a && b) ≡ true → (a ≡ true) × (b ≡ true)
and_both true b h = (refl, h)
and_both false b h = absurd cc

pub and_false : (b : Bool) → (b && false) ≡ false
and_false true = refl
and_false false = refl

pub not_false : (b : Bool) → not b ≡ false → b ≡ true
not_false true h = refl
not_false false h = absurd cc

pub not_both : (b : Bool) → b ≡ true → b ≡ false → ⊥
not_both b t f = cc

above : (a b : ℕ) → nat_le a b ≡ false → b < a
above a b h = grind (arith, nat_tests)

at_most : (a b : ℕ) → nat_lt b a ≡ false → a ≤ b
at_most a b h = grind (arith, nat_tests)

pub not_below : (a b : ℕ) → b ≤ a → nat_lt a b ≡ false
not_below a b h = grind (arith, nat_tests)

equal : (a b : ℕ) → (a == b) ≡ true → a ≡ b
equal a b h = grind (arith, nat_tests)

reached : (n : ℕ) → nat_le n n ≡ true
reached n = grind (arith, nat_tests)

earlier : (d now later : ℕ) → now ≤ later → nat_le d later ≡ false → nat_le d now ≡ false
earlier d now later le h = grind (arith, nat_tests)

pub some_of : (n : ℕ) → nat_lt 0 (suc n) ≡ true
some_of n = grind (arith, nat_tests)

-- ---- replies

told_ok : {A : Type 0} (say : A → Reply) (x : Result A Refusal) → is_accepted (told say x) ≡ true → (v : A) × (x ≡ Ok v)
told_ok say (Ok v) h = (v, refl)
told_ok say (Err refusal) h = absurd cc

pub passes : {A : Type 0} (b : Bool) (refusal : Refusal) (rest : Result A Refusal) (v : A) → refuse_if b refusal rest ≡ Ok v → (b ≡ false) × (rest ≡ Ok v)
passes true refusal rest v h = absurd cc
passes false refusal rest v h = (refl, h)

passes_fault : {A F : Type 0} (o : Option F) (refusal : F → Refusal) (rest : Result A Refusal) (v : A) → refuse_fault o refusal rest ≡ Ok v → (o ≡ None) × (rest ≡ Ok v)
passes_fault None refusal rest v h = (refl, h)
passes_fault (Some fault) refusal rest v h = absurd cc

-- a supported chain has a state
has_state : (r : Rules) (f : FixedParts) (states : List StateParts) (marks : List Mark) (verified : List Bool)
    → result_err (support_of r (record { fixed = f; states = states; marks = marks }) verified) ≡ None → nat_lt 0 (length states) ≡ true
has_state r f [] marks verified h = absurd cc
has_state r f (s ∷ states) marks verified h = some_of (length states)

-- and no more of them than people
few_states : (r : Rules) (f : FixedParts) (states : List StateParts) (marks : List Mark) (verified : List Bool)
    → result_err (support_of r (record { fixed = f; states = states; marks = marks }) verified) ≡ None → length states ≤ people f
few_states r f [] marks verified h = omega arith
few_states r f (s ∷ ss) marks verified h = go (nat_lt (people f) (length (s ∷ ss))) refl h
  where
    rest : Option SupportFault
    rest = first_between turn_fault 1 s ss ⊳ fault_if (nat_lt (last_of s ss).turn (people f - 1)) faults.Length ⊳ first_between (link_fault r f) 1 s ss

    go : (b : Bool) → nat_lt (people f) (length (s ∷ ss)) ≡ b
        → result_err (marked_row f (s ∷ ss) marks verified (turn_unless (last_of s ss).turn (fault_if (b || not (length marks == people f)) faults.Length ⊳ rest))) ≡ None
        → length (s ∷ ss) ≤ people f
    go true e k = absurd cc
    go false e k = at_most (length (s ∷ ss)) (people f) e

-- ---- how a channel stands

pub is_challenged_is : (m : Standing) → is_challenged m ≡ true → m ≡ Challenged
is_challenged_is Challenged h = refl
is_challenged_is _ h = absurd cc

pub challenged_is_still : (m : Standing) → is_challenged m ≡ true → is_final m ≡ false
challenged_is_still Challenged h = refl
challenged_is_still _ h = absurd cc

fresh_turn : (m : Standing) (recorded turn : ℕ) → is_stale m recorded turn ≡ false → recorded ≤ turn
fresh_turn Challenged recorded turn h = let k = above turn recorded h in omega arith
fresh_turn _ recorded turn h = at_most recorded turn h

-- an earlier time
pub still_before : (d : Option ℕ) (now later : ℕ) → now ≤ later → is_final (mode_at d later) ≡ false → is_final (mode_at d now) ≡ false
still_before None now later le h = refl
still_before (Some d) now later le h = go (nat_le d later) refl h
  where
    go : (b : Bool) → nat_le d later ≡ b → is_final (cond b Final Challenged) ≡ false → is_final (mode_at (Some d) now) ≡ false
    go true e k = absurd cc
    go false e k = ap (λ (b : Bool). is_final (cond b Final Challenged)) (earlier d now later le e)

pub challenged_before : (d : Option ℕ) (now later : ℕ) → now ≤ later → is_challenged (mode_at d later) ≡ true → is_challenged (mode_at d now) ≡ true
challenged_before None now later le h = h
challenged_before (Some d) now later le h = go (nat_le d later) refl h
  where
    go : (b : Bool) → nat_le d later ≡ b → is_challenged (cond b Final Challenged) ≡ true → is_challenged (mode_at (Some d) now) ≡ true
    go true e k = absurd cc
    go false e k = ap (λ (b : Bool). is_challenged (cond b Final Challenged)) (earlier d now later le e)

-- a deadline of now has passed
pub ended_now : (now : ℕ) → mode_at (Some now) now ≡ Final
ended_now now = ap (λ (b : Bool). cond b Final Challenged) (reached now)

-- ---- what accepted calls say

-- the channel isn't final, and the chain has a state, and no more than there are people
pub record Shows (r : Rules) (channel : List ℕ) (h : List Entry) (chain : Chain) : Type 0 where
  pub still : is_final (mode r channel h) ≡ false
  pub some : nat_lt 0 (length chain.states) ≡ true
  pub few : length chain.states ≤ people chain.fixed

-- and its turn is at least the recorded one
pub record ShowsNewer (r : Rules) (channel : List ℕ) (h : List Entry) (chain : Chain) : Type 0 where
  pub shows : Shows r channel h chain
  pub turn : (row r channel h).turn ≤ top_turn chain.states

-- the channel is challenged, and the answer has the next turn
pub record Answers (r : Rules) (channel : List ℕ) (h : List Entry) (next : Signed) : Type 0 where
  pub challenged : is_challenged (mode r channel h) ≡ true
  pub turn : next.state.turn ≡ (row r channel h).turn + 1

abbrev pub Tells : Rules → List ℕ → List Entry → Op → Type 0
Tells r channel h (ops.Call (Challenge k)) = ShowsNewer r channel h k.chain
Tells r channel h (ops.Call (Respond k)) = Answers r channel h k.next
Tells r channel h (ops.Call (Refute fixed next)) = is_challenged (mode r channel h) ≡ true
Tells r channel h (ops.Call (Checkpoint chain)) = ShowsNewer r channel h chain
Tells r channel h (ops.Call (Conclude chain)) = Shows r channel h chain
Tells r channel h _ = Unit {0}

challenge_tells : (r : Rules) (h : List Entry) (k : ChallengeCall) → is_accepted (call_reply r h (Challenge k)) ≡ true → ShowsNewer r (r.named k.chain.fixed) h k.chain
challenge_tells r h k accepted =
    let chain : Chain = k.chain in
    let old : Row = row r (r.named chain.fixed) h in
    let done : Result Row Refusal = Ok (after_challenge r (now_of h) chain k.challenger) in
    let fourth : Result Row Refusal = refuse_if (not (signs_challenge r chain.fixed chain.states k.challenger k.signature)) BadChallenger done in
    let third : Result Row Refusal = refuse_if (is_stale (mode r (r.named chain.fixed) h) old.turn (top_turn chain.states)) (Stale old.turn) fourth in
    let second : Result Row Refusal = refuse_fault (result_err (support_of r chain (verified_marks r chain))) NotSupported third in
    let v = told_ok (λ (new : Row). Until (now_of h + chain.fixed.duration)) (replies.challenge r old (now_of h) chain k.challenger k.signature) accepted in
    let a = passes (is_final (mode r (r.named chain.fixed) h)) IsFinal second v.0 v.1 in
    let b = passes_fault (result_err (support_of r chain (verified_marks r chain))) NotSupported third v.0 a.1 in
    let c = passes (is_stale (mode r (r.named chain.fixed) h) old.turn (top_turn chain.states)) (Stale old.turn) fourth v.0 b.1 in
    record {
      shows = record { still = a.0; some = has_state r chain.fixed chain.states chain.marks (verified_marks r chain) b.0; few = few_states r chain.fixed chain.states chain.marks (verified_marks r chain) b.0 };
      turn = fresh_turn (mode r (r.named chain.fixed) h) old.turn (top_turn chain.states) c.0;
    }

checkpoint_tells : (r : Rules) (h : List Entry) (chain : Chain) → is_accepted (call_reply r h (Checkpoint chain)) ≡ true → ShowsNewer r (r.named chain.fixed) h chain
checkpoint_tells r h chain accepted =
    let old : Row = row r (r.named chain.fixed) h in
    let done : Result Row Refusal = Ok (after_turn (top_turn chain.states) old) in
    let third : Result Row Refusal = refuse_if (nat_le (top_turn chain.states) old.turn) (NotNewer old.turn) done in
    let second : Result Row Refusal = refuse_fault (result_err (support_of r chain (verified_marks r chain))) NotSupported third in
    let v = told_ok (λ (new : Row). Opened new.turn) (replies.checkpoint r old (now_of h) chain) accepted in
    let a = passes (is_final (mode r (r.named chain.fixed) h)) IsFinal second v.0 v.1 in
    let b = passes_fault (result_err (support_of r chain (verified_marks r chain))) NotSupported third v.0 a.1 in
    let c = passes (nat_le (top_turn chain.states) old.turn) (NotNewer old.turn) done v.0 b.1 in
    record {
      shows = record { still = a.0; some = has_state r chain.fixed chain.states chain.marks (verified_marks r chain) b.0; few = few_states r chain.fixed chain.states chain.marks (verified_marks r chain) b.0 };
      turn = (let k = above (top_turn chain.states) old.turn c.0 in omega arith);
    }

conclude_tells : (r : Rules) (h : List Entry) (chain : Chain) → is_accepted (call_reply r h (Conclude chain)) ≡ true → Shows r (r.named chain.fixed) h chain
conclude_tells r h chain accepted =
    let old : Row = row r (r.named chain.fixed) h in
    let done : Result Row Refusal = Ok (after_conclude r (now_of h) chain old) in
    let third : Result Row Refusal = refuse_fault (replies.first_unfinished 0 chain.states) NotFinalState done in
    let second : Result Row Refusal = refuse_fault (result_err (support_of r chain (verified_marks r chain))) NotSupported third in
    let v = told_ok (λ (new : Row). Concluded new.turn) (replies.conclude r old (now_of h) chain) accepted in
    let a = passes (is_final (mode r (r.named chain.fixed) h)) IsFinal second v.0 v.1 in
    let b = passes_fault (result_err (support_of r chain (verified_marks r chain))) NotSupported third v.0 a.1 in
    record { still = a.0; some = has_state r chain.fixed chain.states chain.marks (verified_marks r chain) b.0; few = few_states r chain.fixed chain.states chain.marks (verified_marks r chain) b.0 }

respond_tells : (r : Rules) (h : List Entry) (k : RespondCall) → is_accepted (call_reply r h (Respond k)) ≡ true → Answers r (r.named k.fixed) h k.next
respond_tells r h k accepted =
    let fixed : FixedParts = k.fixed in
    let next : Signed = k.next in
    let old : Row = row r (r.named fixed) h in
    let done : Result Row Refusal = Ok (after_turn next.state.turn old) in
    let fourth : Result Row Refusal = refuse_if (not (is_signed_well r fixed next)) BadSignature (refuse_fault (r.step fixed k.from next.state) BadStep done) in
    let third : Result Row Refusal = refuse_if (not (next.state.turn == old.turn + 1)) (WrongTurn (old.turn + 1)) fourth in
    let second : Result Row Refusal = refuse_if (not (bytes_eq (r.digest (r.named fixed) k.from) old.state_digest)) WrongState third in
    let v = told_ok (λ (new : Row). Opened new.turn) (replies.respond r old (now_of h) fixed k.from next) accepted in
    let a = passes (not (is_challenged (mode r (r.named fixed) h))) NoChallenge second v.0 v.1 in
    let b = passes (not (bytes_eq (r.digest (r.named fixed) k.from) old.state_digest)) WrongState third v.0 a.1 in
    let c = passes (not (next.state.turn == old.turn + 1)) (WrongTurn (old.turn + 1)) fourth v.0 b.1 in
    record {
      challenged = not_false (is_challenged (mode r (r.named fixed) h)) a.0;
      turn = equal next.state.turn (old.turn + 1) (not_false (next.state.turn == old.turn + 1) c.0);
    }

refute_tells : (r : Rules) (h : List Entry) (fixed : FixedParts) (next : Signed) → is_accepted (call_reply r h (Refute fixed next)) ≡ true → is_challenged (mode r (r.named fixed) h) ≡ true
refute_tells r h fixed next accepted =
    let old : Row = row r (r.named fixed) h in
    let done : Result Row Refusal = Ok (after_refute old) in
    let fourth : Result Row Refusal = refuse_if (not (is_signed_well r fixed next)) BadSignature done in
    let third : Result Row Refusal = refuse_if (not (mover (people fixed) next.state.turn == old.challenger)) NotChallengers fourth in
    let second : Result Row Refusal = refuse_if (nat_le next.state.turn old.turn) (NotNewer old.turn) third in
    let v = told_ok (λ (new : Row). Opened new.turn) (replies.refute r old (now_of h) fixed next) accepted in
    not_false (is_challenged (mode r (r.named fixed) h)) (passes (not (is_challenged (mode r (r.named fixed) h))) NoChallenge second v.0 v.1).0

-- an accepted turning call of a channel
tells : (r : Rules) (channel : List ℕ) (h : List Entry) (op : Op) → is_named r channel (fixed_of op) ≡ true → is_accepted (reply_to r h op) ≡ true → Tells r channel h op
unfolding reply_to
tells r channel h (ops.Call (Challenge k)) named accepted =
    subst (λ (name : List ℕ). ShowsNewer r name h k.chain) (same_bytes (r.named k.chain.fixed) channel named) (challenge_tells r h k accepted)
tells r channel h (ops.Call (Respond k)) named accepted =
    subst (λ (name : List ℕ). Answers r name h k.next) (same_bytes (r.named k.fixed) channel named) (respond_tells r h k accepted)
tells r channel h (ops.Call (Refute fixed next)) named accepted =
    subst (λ (name : List ℕ). is_challenged (mode r name h) ≡ true) (same_bytes (r.named fixed) channel named) (refute_tells r h fixed next accepted)
tells r channel h (ops.Call (Checkpoint chain)) named accepted =
    subst (λ (name : List ℕ). ShowsNewer r name h chain) (same_bytes (r.named chain.fixed) channel named) (checkpoint_tells r h chain accepted)
tells r channel h (ops.Call (Conclude chain)) named accepted =
    subst (λ (name : List ℕ). Shows r name h chain) (same_bytes (r.named chain.fixed) channel named) (conclude_tells r h chain accepted)
tells r channel h _ named accepted = tt

-- a final channel is never turned
pub turned_still : (r : Rules) (channel : List ℕ) (h : List Entry) (op : Op) → is_named r channel (fixed_of op) ≡ true → Tells r channel h op → is_final (mode r channel h) ≡ false
turned_still r channel h (ops.Call (Challenge k)) named t = t.shows.still
turned_still r channel h (ops.Call (Respond k)) named t = challenged_is_still (mode r channel h) t.challenged
turned_still r channel h (ops.Call (Refute fixed next)) named t = challenged_is_still (mode r channel h) t
turned_still r channel h (ops.Call (Checkpoint chain)) named t = t.shows.still
turned_still r channel h (ops.Call (Conclude chain)) named t = t.still
turned_still r channel h _ named t = absurd cc

-- of an entry that turns the channel's row
pub turning_names : (r : Rules) (channel : List ℕ) (e : Entry) → turning r channel e ≡ true → is_named r channel (fixed_of e.op) ≡ true
turning_names r channel e turns = (and_both (is_accepted e.reply) (is_named r channel (fixed_of e.op)) turns).1

pub turning_tells : (r : Rules) (channel : List ℕ) (h : List Entry) (e : Entry) → Legal r (e ∷ h) → turning r channel e ≡ true → Tells r channel h e.op
turning_tells r channel h e legal turns =
    tells r channel h e.op (turning_names r channel e turns) (subst (λ (reply : Reply). is_accepted reply ≡ true) legal.2 (and_both (is_accepted e.reply) (is_named r channel (fixed_of e.op)) turns).0)

-- ---- time

time_on : (now t : ℕ) → is_accepted (told Now (replies.time now t)) ≡ true → now ≤ t
time_on now t h =
    let v = told_ok Now (replies.time now t) h in
    at_most now t (passes (nat_lt t now) (Backwards now) (refuse_if (nat_lt (2 ^ 62) t) TooLate (Ok t)) v.0 v.1).0

-- the time never falls
pub time_up : (r : Rules) (h : List Entry) (op : Op) (reply : Reply) → reply ≡ reply_to r h op → now_of h ≤ or_before (time_set op reply) (now_of h)
unfolding reply_to
time_up r h (ops.Call call) reply is = omega arith
time_up r h (ops.Time t) (No refusal) is = omega arith
time_up r h (ops.Time t) reply is = time_on (now_of h) t (subst (λ (x : Reply). is_accepted x ≡ true) is refl)

-- so a channel that isn't final after an entry wasn't before
pub was_still : (r : Rules) (channel : List ℕ) (h : List Entry) (e : Entry) → Legal r (e ∷ h) → is_final (mode r channel (e ∷ h)) ≡ false → is_final (mode r channel h) ≡ false
was_still r channel h e legal still = go (turning r channel e) refl still
  where
    go : (b : Bool) → turning r channel e ≡ b → is_final (mode_at (cond b (turned r (now_of h) e.op (row r channel h)) (row r channel h)).deadline (now_of (e ∷ h))) ≡ false
        → is_final (mode r channel h) ≡ false
    go true turns k = turned_still r channel h e.op (turning_names r channel e turns) (turning_tells r channel h e legal turns)
    go false quiet k = still_before (row r channel h).deadline (now_of h) (now_of (e ∷ h)) (time_up r h e.op e.reply legal.2) k
