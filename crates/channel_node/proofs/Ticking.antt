-- What a node calls in a tick is what it may call.
use Rattle.std.proofs.Common.{◌≡◌, ℕ, Bool, true, false, cond, ◌||◌, not, List, [], ◌∷◌, inl, inr, refl, sym, ◌∙◌, subst}
use Rattle.std.specs.Prelude.{Option, Some, None, ◌⊎◌, nat_lt}
use Rattle.std.specs.List.{All}
use Rattle.std.proofs.lemmas.List.Elements.{All-head, All-tail}
use Rattle.channel_values.specs.Messages.{message_of_challenge}
use Rattle.channel_values.specs.Rules.{Rules}
use Rattle.call_history.specs.History.{Legal}
use Rattle.call_history.specs.declared.call.Call.{Call}
use Rattle.call_history.specs.Calls.{make_challenge}
use Rattle.call_history.specs.declared.entry.Entry.{Entry}
use Rattle.channel_safety.proofs.Lists.{In-append_cases}
use Rattle.channel_safety.specs.Journals.{In}
use Rattle.channel_node.specs.Giving.{in_order, challenge_call, challenge_calls, after_signing, after_challenging, tick_calls, after_tick}
use Rattle.channel_node.specs.Leaving.{OwnChallenge, challenge_in, exits_given, calls_of, may_give, IsOwnChallenge, MayCall}
use Rattle.channel_node.specs.Minds.{Mind, facts_of}
use Rattle.channel_node.specs.Nodes.{NodeOf, challenged, challenged_if, challenged_all, gave}
use Rattle.channel_node.specs.Playing.{Signing}
use Rattle.channel_node.specs.Tables.{Tables}
use Rattle.channel_node.proofs.Bridging.{held-in-chains}
use Rattle.channel_node.proofs.Keepers.{Waits, ticks, challenges, gives-all, exits}
use Rattle.channel_node.proofs.Leaving.{challenges-left, from-held}

pub each-in : {A : Type 0} (P : A → Type 0) (xs : List A) → All P xs → (x : A) → In x xs → P x
each-in P [] all x i = absurd i
each-in P (y ∷ ys) all x (inl e) = subst P (sym e) (All-head P y ys all)
each-in P (y ∷ ys) all x (inr i) = each-in P ys (All-tail P y ys all) x i

-- a challenge is with a chain that it holds
own-challenge : (m : Mind) (channel : List ℕ) (c : OwnChallenge) (signature : List ℕ) → challenge_in m channel ≡ Some c → IsOwnChallenge m (make_challenge c.chain c.who signature)
own-challenge m channel c signature e =
    let from = from-held m channel c e in
    (challenges-left m channel c e, record { channel = from.k.channel; chain = from.k.chain }, held-in-chains channel m.kept from.k from.is from.full, sym from.chain)

module _ (ts : Tables) (r : Rules) (s : Signing) where
  if-mind : (channel : List ℕ) (o : Option OwnChallenge) (n : NodeOf) → (challenged_if r s channel o n).mind ≡ n.mind
  if-mind channel None n = refl
  if-mind channel (Some c) n = go (nat_lt n.used s.limit)
    where
      go : (b : Bool) → (cond b (challenged r s channel c n) n).mind ≡ n.mind
      go true = refl
      go false = refl

  all-mind : (channels : List (List ℕ)) (n : NodeOf) → (challenged_all r s channels n).mind ≡ n.mind
  all-mind [] n = refl
  all-mind (channel ∷ channels) n = all-mind channels (challenged_if r s channel (challenge_in n.mind channel) n) ∙ if-mind channel (challenge_in n.mind channel) n

  own-call : (channel : List ℕ) (n : NodeOf) (o : Option OwnChallenge) → challenge_in n.mind channel ≡ o → (call : Call) → In call (challenge_call r s channel o n) → IsOwnChallenge n.mind call
  own-call channel n None is call i = absurd i
  own-call channel n (Some c) is call i = go (nat_lt n.used s.limit) i
    where
      signature : List ℕ
      signature = s.made n.used (message_of_challenge (r.digest channel c.state) c.who)

      go : (b : Bool) → In call (cond b (make_challenge c.chain c.who signature ∷ []) []) → IsOwnChallenge n.mind call
      go true (inl e) = subst (IsOwnChallenge n.mind) (sym e) (own-challenge n.mind channel c signature is)
      go true (inr j) = absurd j
      go false j = absurd j

  own-calls : (channels : List (List ℕ)) (n : NodeOf) (call : Call) → In call (challenge_calls r s channels n) → IsOwnChallenge n.mind call
  own-calls [] n call i = absurd i
  own-calls (channel ∷ channels) n call i =
      which (In-append_cases call (challenge_call r s channel (challenge_in n.mind channel) n) (challenge_calls r s channels next) i) (own-calls channels next call)
    where
      next : NodeOf
      next = challenged_if r s channel (challenge_in n.mind channel) n

      which : (In call (challenge_call r s channel (challenge_in n.mind channel) n) ⊎ In call (challenge_calls r s channels next))
          → (In call (challenge_calls r s channels next) → IsOwnChallenge next.mind call) → IsOwnChallenge n.mind call
      which (inl j) rest = own-call channel n (challenge_in n.mind channel) refl call j
      which (inr j) rest = subst (λ (m : Mind). IsOwnChallenge m call) (if-mind channel (challenge_in n.mind channel) n) (rest j)

  -- what it gives is what it may give
  calls-may : (has_exited : Bool) (m : Mind) (call : Call) → In call (calls_of ts has_exited m) → In call (may_give ts m)
  calls-may has_exited m call i = go m.left i
    where
      exits-may : (b : Bool) → In call (cond b (ts.exits (facts_of m)) []) → In call (ts.exits (facts_of m))
      exits-may true j = j
      exits-may false j = absurd j

      go : (b : Bool) → In call (cond b (exits_given ts has_exited (facts_of m)) (ts.calls (facts_of m))) → In call (cond b (ts.exits (facts_of m)) (ts.calls (facts_of m)))
      go true j = exits-may (not has_exited || ts.is_owed (facts_of m)) j
      go false j = j

  pub tick-may : (n : NodeOf) (call : Call) → In call (tick_calls ts r s n) → MayCall ts (after_challenging ts r s n).mind call
  tick-may n call i = which (In-append_cases call (challenge_calls r s channels (after_signing ts r s n)) (calls_of ts (after_challenging ts r s n).has_exited (after_challenging ts r s n).mind) i)
    where
      channels : List (List ℕ)
      channels = in_order n.mind.parts

      which : (In call (challenge_calls r s channels (after_signing ts r s n)) ⊎ In call (calls_of ts (after_challenging ts r s n).has_exited (after_challenging ts r s n).mind)) → MayCall ts (after_challenging ts r s n).mind call
      which (inl j) = inl (subst (λ (m : Mind). IsOwnChallenge m call) (sym (all-mind channels (after_signing ts r s n))) (own-calls channels (after_signing ts r s n) call j))
      which (inr j) = inr (calls-may (after_challenging ts r s n).has_exited (after_challenging ts r s n).mind call j)

-- a tick with its states, challenges and calls
pub ticks-all : (ts : Tables) (r : Rules) (s : Signing) (h : List Entry) (legal : Legal r h) (n : NodeOf) → Waits ts r s h legal n None → Waits ts r s h legal (after_tick ts r s n) None
ticks-all ts r s h legal n w =
    exits ts r s h legal (gave (tick_calls ts r s n) (after_challenging ts r s n))
    (gives-all ts r s h legal (tick_calls ts r s n) (after_challenging ts r s n) (tick-may ts r s n)
    (challenges ts r s h legal (in_order n.mind.parts) (after_signing ts r s n) (ticks ts r s h legal (in_order n.mind.parts) n w)))
