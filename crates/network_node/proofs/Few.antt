-- What a node does keeps its channels few.
use Rattle.std.proofs.Common.{◌≡◌, ℕ, ◌+◌, ◌≤◌, Bool, true, false, cond, List, [], ◌∷◌, ◌++◌, length, map, filter, length-append, length-set, refl, sym, ◌∙◌, ap, subst, arith}
use Rattle.std.specs.Prelude.{Option, Some, None, Result, Ok, Err, OnOk, OnErr, nat_lt}
use Rattle.std.specs.List.{flat_map}
use Rattle.std.proofs.lemmas.List.{length-map}
use Rattle.std.proofs.lemmas.Grind.{flat_map-append}
use Rattle.channel_values.specs.Parts.{FixedParts, StateParts}
use Rattle.channel_values.specs.declared.fault.ByteFault.{ByteFault}
use Rattle.channel_values.specs.Messages.{message_of_state}
use Rattle.channel_safety.proofs.Tests.{lt-false, clash}
use Rattle.call_history.specs.History.{is_accepted}
use Rattle.call_history.specs.Reading.{message_of}
use Rattle.call_history.specs.Rows.{fixed_of}
use Rattle.call_history.specs.Spelling.{Message}
use Rattle.call_history.specs.declared.call.Call.{Call}
use Rattle.call_history.specs.declared.entry.Entry.{Entry}
use Rattle.call_history.specs.declared.event.Deed.TheVariants as deeds
use Rattle.call_history.specs.declared.event.NodeRefusal.{NodeRefusal}
use Rattle.call_history.specs.declared.held_chain.HeldChain.{HeldChain}
use Rattle.channel_store.specs.Keeping.{held_chain, is_held, noting, adopting}
use Rattle.channel_store.specs.Storing.{place_of, kept_of, kept_at, kept_with}
use Rattle.channel_store.specs.declared.kept.Kept.{Kept}
use Rattle.network.specs.Watching.{is_stale}
use Rattle.funding_plans.specs.Parts.{channels_of, channels}
use Rattle.funding_plans.specs.declared.plan.Part.{Part}
use Rattle.funding_plans.specs.declared.plan.Part.TheVariants.{End, Middle}
use Rattle.funding_plans.specs.declared.plan.Virtual.{Virtual}
use Rattle.network.specs.Ways.{looked}
use Rattle.network.specs.declared.command.Command.{Command}
use Rattle.network.specs.declared.command.Command.TheVariants.{Open, OpenOn, OpenVirtual, Pay, Close, Release, Resend, Exit}
use Rattle.network.specs.declared.lookout.Lookout.{Lookout}
use Rattle.network.specs.declared.outs.NodeFault.{NodeFault}
use Rattle.network.specs.declared.outs.NodeFault.TheVariants.{Refused, NoMemory}
use Rattle.channel_node.specs.Giving.{in_order, after_signing, after_challenging, tick_calls, after_tick}
use Rattle.channel_node.specs.Leaving.{OwnChallenge, challenge_in}
use Rattle.channel_node.specs.Minds.{Mind, shown_by, kept_seeing, saw, noted, noted_message, with_opened, commanded, did}
use Rattle.channel_node.specs.Nodes.{NodeOf, new_node, handled, signed, signed_if, ticked, challenged, challenged_if, challenged_all, gave, gave_one, asked, paid_if, told_to, saw_one, saw_all, watched}
use Rattle.channel_node.specs.Openings.{opened_by, takes_part, adds, opened, virtual, parts_of}
use Rattle.channel_node.specs.Playing.{Signing, SignerOf}
use Rattle.channel_node.specs.Refusing.{message_refusal, command_refusal, open_refusal, signs_in}
use Rattle.channel_node.specs.Answers.{SameJournal, HandleAnswers, CommandAnswers}
use Rattle.node_decisions.proofs.Taken.{has_room}
use Rattle.stage_tables.specs.Stages.{stages}
use Rattle.support_rules.specs.Real.{real}
use Rattle.history_view.specs.Views.{view_of}
use Rattle.node_guarantees.specs.Ways.{key_of}
use Rattle.network_node.specs.Few.{KeepsFew, IsSmall, IsNode}

-- ---- what is known

-- with the same parts and as many channels kept
few-same : (m new : Mind) → new.parts ≡ m.parts → length new.kept ≡ length m.kept → KeepsFew m → KeepsFew new
few-same m new parts kept few =
    let same : length (channels new.parts) ≡ length (channels m.parts) = ap (λ (ps : List Part). length (channels ps)) parts in
    record {
      kept = (let a : length m.kept ≤ length (channels m.parts) = few.kept in omega (arith, kept, same));
      planned = (let a : length (channels m.parts) ≤ 64 = few.planned in omega (arith, same));
    }

as-many : (change : Kept → Kept) (channel : List ℕ) (kept : List Kept) → length (kept_with change channel kept) ≡ length kept
as-many change channel kept = go (kept_of channel kept)
  where
    go : (o : Option Kept) → length (kept_at change kept (place_of channel kept) o) ≡ length kept
    go None = refl
    go (Some k) = length-set kept (place_of channel kept) (change k)

few-noted : (own : Bool) (channel : List ℕ) (state : StateParts) (signature : List ℕ) (m : Mind) → KeepsFew m
    → KeepsFew (noted real own channel (record { state = state; signature = signature }) m)
few-noted own channel state signature m few =
    few-same m (noted real own channel (record { state = state; signature = signature }) m) refl (as-many (noting real own (record { state = state; signature = signature })) channel m.kept) few

few-message : (read : Result Message ByteFault) (m : Mind) → KeepsFew m → KeepsFew (noted_message real read m)
few-message (Ok message) m few = few-same m (noted_message real (Ok message) m) refl (as-many (noting real false message.1) message.0 m.kept) few
few-message (Err fault) m few = few

few-saw : (e : Entry) (m : Mind) → KeepsFew m → KeepsFew (saw real e m)
few-saw e m few = few-same m (saw real e m) refl (go (is_accepted e.reply) (fixed_of e.op)) few
  where
    go : (b : Bool) (o : Option FixedParts) → length (cond b (kept_seeing real m.view e.op o m.kept) m.kept) ≡ length m.kept
    go false o = refl
    go true None = refl
    go true (Some f) = as-many (adopting real (shown_by e.op (view_of m.view.channels (real.named f)).shown)) (real.named f) m.kept

-- ---- commands

fewer : {A : Type 0} (test : A → Bool) (xs : List A) → length (filter test xs) ≤ length xs
fewer test [] = omega arith
fewer test (x ∷ xs) = go (test x) (fewer test xs)
  where
    go : (b : Bool) → length (filter test xs) ≤ length xs → length (cond b (x ∷ filter test xs) (filter test xs)) ≤ length (x ∷ xs)
    go true rest = omega arith
    go false rest = omega arith

-- a part has as many channels as its command opens
as-opened : (key : List ℕ) (command : Command) → length (channels (parts_of real key command)) ≡ length (opened_by command)
as-opened key (Open f outcome) = refl
as-opened key (OpenOn o) = refl
as-opened key (OpenVirtual funding) = go (takes_part key funding.channel)
  where
    v : Virtual
    v = virtual real key funding.ledgers funding.guarantors funding.joint funding.channel funding.asset funding.amounts

    go : (b : Bool) → length (channels (cond b (End v ∷ []) (Middle v ∷ []))) ≡ 4
    go true = refl
    go false = refl
as-opened key (Pay channel asset amount) = refl
as-opened key (Close channel) = refl
as-opened key (Release how channel) = refl
as-opened key (Resend channel) = refl
as-opened key Exit = refl

few-opened : (m : Mind) (command : Command) → open_refusal stages real m command ≡ None → KeepsFew m → KeepsFew (with_opened real command m)
few-opened m command e few =
    let room : length (channels m.parts) + length (opened_by command) ≤ 64 = lt-false 64 (length (channels m.parts) + length (opened_by command)) (has_room stages m command e) in
    let parts : length (channels (m.parts ++ parts_of real m.key command)) ≡ length (channels m.parts) + length (opened_by command) =
    ap length (flat_map-append channels_of m.parts (parts_of real m.key command)) ∙ length-append (channels m.parts) (channels (parts_of real m.key command))
    ∙ ap (λ (n : ℕ). length (channels m.parts) + n) (as-opened m.key command) in
    let kept : length (m.kept ++ map (opened real m.key) (adds m.key (Some command))) ≡ length m.kept + length (adds m.key (Some command)) =
    length-append m.kept (map (opened real m.key) (adds m.key (Some command))) ∙ ap (λ (n : ℕ). length m.kept + n) (length-map (adds m.key (Some command)) (opened real m.key)) in
    let added : length (adds m.key (Some command)) ≤ length (opened_by command) = fewer (takes_part m.key) (opened_by command) in
    let before : length m.kept ≤ length (channels m.parts) = few.kept in
    record { kept = omega arith; planned = omega arith }

few-commanded : (limit used : ℕ) (m : Mind) (command : Command) → command_refusal stages real limit used m command ≡ None → KeepsFew m → KeepsFew (commanded real command m)
few-commanded limit used m (Open f outcome) e few = few-opened m (Open f outcome) e few
few-commanded limit used m (OpenOn o) e few = few-opened m (OpenOn o) e few
few-commanded limit used m (OpenVirtual v) e few = few-opened m (OpenVirtual v) e few
few-commanded limit used m (Pay channel asset amount) e few = few
few-commanded limit used m (Close channel) e few = few-same m (commanded real (Close channel) m) refl refl few
few-commanded limit used m (Release how channel) e few = few-same m (commanded real (Release how channel) m) refl refl few
few-commanded limit used m (Resend channel) e few = few
few-commanded limit used m Exit e few = few-same m (commanded real Exit m) refl refl few

-- ---- nodes

small-saw : (entries : List Entry) (n : NodeOf) → IsSmall n → IsSmall (saw_all real entries n)
small-saw [] n small = small
small-saw (e ∷ entries) n small = small-saw entries (saw_one real n e) (λ kept. few-saw e n.mind (small kept))

small-handled : (bytes : List ℕ) (n : NodeOf) → IsSmall n → IsSmall (handled stages real bytes n)
small-handled bytes n small = λ kept. go (message_refusal stages real n.mind (message_of bytes)) (small kept)
  where
    go : (refusal : Option NodeRefusal) → KeepsFew n.mind → KeepsFew (did real (deeds.Handled bytes refusal) None n.mind)
    go None few = few-message (message_of bytes) n.mind few
    go (Some refusal) few = few

small-signed : (s : Signing) (channel : List ℕ) (o : Option StateParts) (n : NodeOf) → IsSmall n → IsSmall (signed_if real s channel o n)
small-signed s channel None n small = small
small-signed s channel (Some state) n small = go (nat_lt n.used s.limit)
  where
    go : (b : Bool) → IsSmall (cond b (signed real s channel state n) n)
    go true = λ kept. few-noted true channel state (s.made n.used (message_of_state (real.digest channel state))) n.mind (small kept)
    go false = small

small-ticked : (s : Signing) (names : List (List ℕ)) (n : NodeOf) → IsSmall n → IsSmall (ticked stages real s names n)
small-ticked s [] n small = small
small-ticked s (channel ∷ names) n small =
    small-ticked s names (signed_if real s channel (signs_in stages real None n.mind channel) n) (small-signed s channel (signs_in stages real None n.mind channel) n small)

small-challenged : (s : Signing) (channel : List ℕ) (o : Option OwnChallenge) (n : NodeOf) → IsSmall n → IsSmall (challenged_if real s channel o n)
small-challenged s channel None n small = small
small-challenged s channel (Some c) n small = go (nat_lt n.used s.limit)
  where
    go : (b : Bool) → IsSmall (cond b (challenged real s channel c n) n)
    go true = small
    go false = small

all-challenged-small : (s : Signing) (names : List (List ℕ)) (n : NodeOf) → IsSmall n → IsSmall (challenged_all real s names n)
all-challenged-small s [] n small = small
all-challenged-small s (channel ∷ names) n small =
    all-challenged-small s names (challenged_if real s channel (challenge_in n.mind channel) n) (small-challenged s channel (challenge_in n.mind channel) n small)

small-gave : (calls : List Call) (n : NodeOf) → IsSmall n → IsSmall (gave calls n)
small-gave [] n small = small
small-gave (call ∷ calls) n small = small-gave calls (gave_one n call) small

small-tick : (s : Signing) (n : NodeOf) → IsSmall n → IsSmall (after_tick stages real s n)
small-tick s n small =
    small-gave (tick_calls stages real s n) (after_challenging stages real s n)
    (all-challenged-small s (in_order n.mind.parts) (after_signing stages real s n) (small-ticked s (in_order n.mind.parts) n small))

small-told : (s : Signing) (step : ℕ) (command : Command) (n : NodeOf) → IsSmall n → IsSmall (told_to stages real s step command n)
small-told s step command n small = go (command_refusal stages real s.limit n.used n.mind command) refl
  where
    paid : (other : Command) (m : NodeOf) → IsSmall m → IsSmall (paid_if stages real s None other m)
    paid (Open f outcome) m fine = fine
    paid (OpenOn o) m fine = fine
    paid (OpenVirtual v) m fine = fine
    paid (Pay channel asset amount) m fine = small-signed s channel (signs_in stages real (Some (Pay channel asset amount)) m.mind channel) m fine
    paid (Close channel) m fine = fine
    paid (Release how channel) m fine = fine
    paid (Resend channel) m fine = fine
    paid Exit m fine = fine

    go : (refusal : Option NodeRefusal) → command_refusal stages real s.limit n.used n.mind command ≡ refusal
        → IsSmall (paid_if stages real s refusal command (asked real s step command refusal n))
    go None e = paid command (asked real s step command None n) (λ kept. few-commanded s.limit n.used n.mind command e (small kept))
    go (Some refusal) e = small

-- ---- what calls answer

pub lost_small : (n : NodeOf) → n.is_lost ≡ true → IsSmall n
lost_small n lost = λ kept. absurd (clash n.is_lost lost kept)

made-so : (old new change : NodeOf) → new ≡ change → IsSmall change → IsSmall new
made-so old new change is small = subst IsSmall (sym is) small

pub seen_small : {A E : Type 0} (entries : List Entry) (old new : NodeOf) (result : Result A E) → OnOk result (new ≡ saw_all real entries old) → OnErr result (new.is_lost ≡ true)
    → IsSmall old → IsSmall new
seen_small entries old new (Ok done) is lost small = made-so old new (saw_all real entries old) is (small-saw entries old small)
seen_small entries old new (Err fault) is lost small = lost_small new lost

pub commanded_small : (s : Signing) (step : ℕ) (command : Command) (old new : NodeOf) → new ≡ told_to stages real s step command old → IsSmall old → IsSmall new
commanded_small s step command old new is small = made-so old new (told_to stages real s step command old) is (small-told s step command old small)

pub handled_small : {A : Type 0} (bytes : List ℕ) (old new : NodeOf) (result : Result A NodeFault) → HandleAnswers stages real bytes old new result → IsSmall old → IsSmall new
handled_small bytes old new (Ok done) is small = made-so old new (handled stages real bytes old) is.2 (small-handled bytes old small)
handled_small bytes old new (Err (Refused refusal)) is small = made-so old new (handled stages real bytes old) is.2 (small-handled bytes old small)
handled_small bytes old new (Err NoMemory) is small = lost_small new is.0

pub ticked_small : {A E : Type 0} (s : Signing) (old new : NodeOf) (result : Result A E) → OnOk result ((old.is_lost ≡ false) × (new ≡ after_tick stages real s old))
    → OnErr result (new.is_lost ≡ true) → IsSmall old → IsSmall new
ticked_small s old new (Ok outs) is lost small = made-so old new (after_tick stages real s old) is.1 (small-tick s old small)
ticked_small s old new (Err fault) is lost small = lost_small new lost

pub watched_small : {A E : Type 0} (seen place : ℕ) (calls : List Call) (old new : NodeOf) (result : Result A E) → OnOk result ((old.is_lost ≡ false) × (new ≡ watched seen place calls old))
    → OnErr result ((new.is_lost ≡ true) × SameJournal old new) → IsSmall old → IsSmall new
watched_small seen place calls old new (Ok done) is lost small = made-so old new (watched seen place calls old) is.1 small
watched_small seen place calls old new (Err fault) is lost small = lost_small new lost.0

-- ---- looks

few-held : (kept : List Kept) → length (flat_map held_chain kept) ≤ length kept
few-held [] = omega arith
few-held (k ∷ kept) =
    let one : length (held_chain k) ≤ 1 = go (is_held k) in
    let others : length (flat_map held_chain kept) ≤ length kept = few-held kept in
    let long : length (flat_map held_chain (k ∷ kept)) ≡ length (held_chain k) + length (flat_map held_chain kept) = length-append (held_chain k) (flat_map held_chain kept) in
    omega arith
  where
    go : (b : Bool) → length {A = HeldChain} (cond b (record { channel = k.channel; chain = k.chain } ∷ []) []) ≤ 1
    go true = omega arith
    go false = omega arith

-- a look gives no more calls than the node keeps channels
pub few_looked : (m : Mind) (chains : List HeldChain) (l : Lookout) (calls : List Call) → KeepsFew m → chains ≡ flat_map held_chain m.kept → calls ≡ looked chains l → length calls ≤ 64
few_looked m chains l calls few are is =
    let given : length calls ≡ length (filter (is_stale l.watcher) chains) = ap length is ∙ length-map (filter (is_stale l.watcher) chains) _ in
    let stale : length (filter (is_stale l.watcher) chains) ≤ length chains = fewer (is_stale l.watcher) chains in
    let held : length chains ≡ length (flat_map held_chain m.kept) = ap length are in
    let all : length (flat_map held_chain m.kept) ≤ length m.kept = few-held m.kept in
    let kept : length m.kept ≤ length (channels m.parts) = few.kept in
    let planned : length (channels m.parts) ≤ 64 = few.planned in
    omega arith

-- a new node keeps none
pub new_small : (signer : SignerOf) → IsSmall (new_node signer)
new_small signer = λ kept. record { kept = omega arith; planned = omega arith }

-- ---- the node with its key

pub is_node : (key : List ℕ) (old new : NodeOf) → IsNode key old → new.signer ≡ old.signer → IsSmall new → IsNode key new
is_node key old new was signer small = record { own = was.own ∙ ap key_of (sym signer); small = small }

-- a command that failed, or was refused
pub failed_node : (key : List ℕ) (s : Signing) (step : ℕ) (command : Command) (old new : NodeOf) (fault : NodeFault) → CommandAnswers stages real s step command old new (Err fault)
    → IsNode key old → new.signer ≡ old.signer → IsNode key new
failed_node key s step command old new (Refused refusal) answer was signer =
    is_node key old new was signer (commanded_small s step command old new answer.2 was.small)
failed_node key s step command old new NoMemory answer was signer = is_node key old new was signer (lost_small new answer)

pub lost_node : (key : List ℕ) (old new : NodeOf) → IsNode key old → new ≡ record old { is_lost = true } → IsNode key new
lost_node key old new was is =
    is_node key old new was (ap (λ (n : NodeOf). n.signer) is) (lost_small new (ap (λ (n : NodeOf). n.is_lost) is))

pub made_node : (key : List ℕ) (signer : SignerOf) (n : NodeOf) → n ≡ new_node signer → key ≡ key_of signer → IsNode key n
made_node key signer n is own = record {
  own = own ∙ ap key_of (sym (ap (λ (k : NodeOf). k.signer) is));
  small = subst IsSmall (sym is) (new_small signer);
}
