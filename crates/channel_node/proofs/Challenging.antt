-- How far the challenges of a tick have come.
use Rattle.std.proofs.Common.{◌≡◌, ℕ, ◌+◌, ◌<◌, ◌≤◌, arith, Bool, true, false, cond, List, [], ◌∷◌, ◌++◌, length, length-append, refl, sym, ◌∙◌, ap, subst, drop, get_or, add-one, drop-cons}
use Rattle.std.specs.Prelude.{Option, Some, None, nat_lt}
use Rattle.std.specs.Option.{option_or}
use Rattle.channel_values.specs.Rules.{Rules}
use Rattle.call_history.specs.History.{Legal}
use Rattle.call_history.specs.declared.entry.Entry.{Entry}
use Rattle.call_history.specs.declared.call.Call.{Call}
use Rattle.call_history.specs.Calls.{make_challenge}
use Rattle.channel_values.specs.Messages.{message_of_challenge}
use Rattle.channel_node.specs.Giving.{spent_if, challenge_call, challenge_calls, spent_challenging}
use Rattle.channel_node.specs.Leaving.{OwnChallenge, challenge_in}
use Rattle.channel_node.specs.Nodes.{NodeOf, challenged, challenged_if, challenged_all}
use Rattle.channel_node.specs.Standing.{Stands}
use Rattle.channel_node.specs.Playing.{Signing, signing_of}
use Rattle.channel_node.specs.Tables.{Tables}
use Rattle.channel_node.proofs.Calling.{calls_keep_standing}
use Rattle.channel_node.proofs.TickPlaces.{kept-if, signer-if, append-assoc, or-assoc, dropped, append-nil, or-none}

pub record Challenging (t : Tables) (r : Rules) (s : Signing) (channels : List (List ℕ)) (start : NodeOf) (i : ℕ) (n : NodeOf) : Type 0 where
  pub rest : challenged_all r s channels start ≡ challenged_all r s (drop i channels) n
  pub kept : n.is_lost ≡ false
  pub signer : n.signer ≡ start.signer
  pub stands : (h : List Entry) → Legal r h → Stands t r s h start → Stands t r s h n

challenged-kept : (r : Rules) (s : Signing) (n : NodeOf) (channel : List ℕ) (o : Option OwnChallenge) → n.is_lost ≡ false → (challenged_if r s channel o n).is_lost ≡ false
challenged-kept r s n channel None kept = kept
challenged-kept r s n channel (Some c) kept = kept-if n (challenged r s channel c n) (nat_lt n.used s.limit) kept kept

challenged-signer : (r : Rules) (s : Signing) (n : NodeOf) (channel : List ℕ) (o : Option OwnChallenge) → (challenged_if r s channel o n).signer ≡ n.signer
challenged-signer r s n channel None = refl
challenged-signer r s n channel (Some c) = signer-if n (challenged r s channel c n) (nat_lt n.used s.limit) refl

challenging-with : (t : Tables) (r : Rules) (s : Signing) (channels : List (List ℕ)) (start : NodeOf) (i : ℕ) (n new : NodeOf) (c : List ℕ) → i < length channels → c ≡ get_or channels i []
    → Challenging t r s channels start i n → new ≡ challenged_if r s c (challenge_in n.mind c) n → Challenging t r s channels start (i + 1) new
challenging-with t r s channels start i n new c below is before new-is =
    let split : drop i channels ≡ c ∷ drop (i + 1) channels = rw (is, add-one) (drop-cons channels i [] below) in
    record {
      rest = before.rest ∙ ap (λ (xs : List (List ℕ)). challenged_all r s xs n) split ∙ ap (challenged_all r s (drop (i + 1) channels)) (sym new-is);
      kept = ap (λ (k : NodeOf). k.is_lost) new-is ∙ challenged-kept r s n c (challenge_in n.mind c) before.kept;
      signer = ap (λ (k : NodeOf). k.signer) new-is ∙ challenged-signer r s n c (challenge_in n.mind c) ∙ before.signer;
      stands = λ h legal st. subst (Stands t r s h) (sym new-is) ((calls_keep_standing t r s h n legal before.kept (before.stands h legal st)).challenges (c ∷ []));
    }

-- with the signer that it has then
pub challenging-steps : (t : Tables) (r : Rules) (channels : List (List ℕ)) (start : NodeOf) (i : ℕ) (n new : NodeOf) (c : List ℕ) → i < length channels → c ≡ get_or channels i []
    → Challenging t r (signing_of start.signer) channels start i n → new ≡ challenged_if r (signing_of n.signer) c (challenge_in n.mind c) n
    → Challenging t r (signing_of start.signer) channels start (i + 1) new
challenging-steps t r channels start i n new c below is before new-is =
    challenging-with t r (signing_of start.signer) channels start i n new c below is before
    (subst (λ (s : Signing). new ≡ challenged_if r s c (challenge_in n.mind c) n) (ap signing_of before.signer) new-is)

-- the challenges that it gave and where the key was spent, so far
pub record Calling (t : Tables) (r : Rules) (s : Signing) (channels : List (List ℕ)) (start : NodeOf) (first now : List Call) (lost still : Option ℕ) (i : ℕ) (n : NodeOf) : Type 0 where
  pub challenging : Challenging t r s channels start i n
  pub calls : first ++ challenge_calls r s channels start ≡ now ++ challenge_calls r s (drop i channels) n
  pub spends : option_or lost (spent_challenging r s channels start) ≡ option_or still (spent_challenging r s (drop i channels) n)

calling-with : (t : Tables) (r : Rules) (s : Signing) (channels : List (List ℕ)) (start : NodeOf) (first now next more : List Call) (lost still after extra : Option ℕ) (i : ℕ) (n new : NodeOf) (c : List ℕ)
    → i < length channels → c ≡ get_or channels i [] → Calling t r s channels start first now lost still i n
    → new ≡ challenged_if r s c (challenge_in n.mind c) n → more ≡ challenge_call r s c (challenge_in n.mind c) n → extra ≡ spent_if s (challenge_in n.mind c) n
    → next ≡ now ++ more → after ≡ option_or still extra
    → Calling t r s channels start first next lost after (i + 1) new
calling-with t r s channels start first now next more lost still after extra i n new c below is before new-is more-is extra-is next-is after-is =
    let split : drop i channels ≡ c ∷ drop (i + 1) channels = rw (is, add-one) (drop-cons channels i [] below) in
    let o : Option OwnChallenge = challenge_in n.mind c in
    record {
      challenging = challenging-with t r s channels start i n new c below is before.challenging new-is;
      calls =
          before.calls ∙ ap (λ (xs : List (List ℕ)). now ++ challenge_calls r s xs n) split
          ∙ sym (append-assoc now (challenge_call r s c o n) (challenge_calls r s (drop (i + 1) channels) (challenged_if r s c o n)))
          ∙ ap (λ (cs : List Call). (now ++ cs) ++ challenge_calls r s (drop (i + 1) channels) (challenged_if r s c o n)) (sym more-is)
          ∙ ap (λ (cs : List Call). cs ++ challenge_calls r s (drop (i + 1) channels) (challenged_if r s c o n)) (sym next-is)
          ∙ ap (λ (k : NodeOf). next ++ challenge_calls r s (drop (i + 1) channels) k) (sym new-is);
      spends =
          before.spends ∙ ap (λ (xs : List (List ℕ)). option_or still (spent_challenging r s xs n)) split
          ∙ sym (or-assoc still (spent_if s o n) (spent_challenging r s (drop (i + 1) channels) (challenged_if r s c o n)))
          ∙ ap (λ (e : Option ℕ). option_or (option_or still e) (spent_challenging r s (drop (i + 1) channels) (challenged_if r s c o n))) (sym extra-is)
          ∙ ap (λ (e : Option ℕ). option_or e (spent_challenging r s (drop (i + 1) channels) (challenged_if r s c o n))) (sym after-is)
          ∙ ap (λ (k : NodeOf). option_or after (spent_challenging r s (drop (i + 1) channels) k)) (sym new-is);
    }

-- with the signer that it has then
pub calling-steps : (t : Tables) (r : Rules) (channels : List (List ℕ)) (start : NodeOf) (first now next more : List Call) (lost still after extra : Option ℕ) (i : ℕ) (n new : NodeOf) (c : List ℕ)
    → i < length channels → c ≡ get_or channels i [] → Calling t r (signing_of start.signer) channels start first now lost still i n
    → new ≡ challenged_if r (signing_of n.signer) c (challenge_in n.mind c) n → more ≡ challenge_call r (signing_of n.signer) c (challenge_in n.mind c) n → extra ≡ spent_if (signing_of n.signer) (challenge_in n.mind c) n
    → next ≡ now ++ more → after ≡ option_or still extra
    → Calling t r (signing_of start.signer) channels start first next lost after (i + 1) new
calling-steps t r channels start first now next more lost still after extra i n new c below is before new-is more-is extra-is next-is after-is =
    let o : Option OwnChallenge = challenge_in n.mind c in
    let same : signing_of n.signer ≡ signing_of start.signer = ap signing_of before.challenging.signer in
    calling-with t r (signing_of start.signer) channels start first now next more lost still after extra i n new c below is before
    (subst (λ (s : Signing). new ≡ challenged_if r s c o n) same new-is) (subst (λ (s : Signing). more ≡ challenge_call r s c o n) same more-is) (subst (λ (s : Signing). extra ≡ spent_if s o n) same extra-is) next-is after-is

-- at the end
pub called-whole : (t : Tables) (r : Rules) (s : Signing) (channels : List (List ℕ)) (start : NodeOf) (first now : List Call) (lost still : Option ℕ) (i : ℕ) (n : NodeOf)
    → Calling t r s channels start first now lost still i n → length channels ≤ i → now ≡ first ++ challenge_calls r s channels start
called-whole t r s channels start first now lost still i n before past =
    sym (before.calls ∙ ap (λ (xs : List (List ℕ)). now ++ challenge_calls r s xs n) (dropped channels i past) ∙ append-nil now)

pub called-spent : (t : Tables) (r : Rules) (s : Signing) (channels : List (List ℕ)) (start : NodeOf) (first now : List Call) (lost still : Option ℕ) (i : ℕ) (n : NodeOf)
    → Calling t r s channels start first now lost still i n → length channels ≤ i → still ≡ option_or lost (spent_challenging r s channels start)
called-spent t r s channels start first now lost still i n before past =
    sym (before.spends ∙ ap (λ (xs : List (List ℕ)). option_or still (spent_challenging r s xs n)) (dropped channels i past) ∙ or-none still)

-- at most one in each channel
at-most-one : (r : Rules) (s : Signing) (channel : List ℕ) (o : Option OwnChallenge) (n : NodeOf) → length (challenge_call r s channel o n) ≤ 1
at-most-one r s channel None n = omega arith
at-most-one r s channel (Some c) n = go (nat_lt n.used s.limit)
  where
    call : Call
    call = make_challenge c.chain c.who (s.made n.used (message_of_challenge (r.digest channel c.state) c.who))

    go : (b : Bool) → length (cond b (call ∷ []) []) ≤ 1
    go true = omega arith
    go false = omega arith

pub few-challenges : (r : Rules) (s : Signing) (channels : List (List ℕ)) (n : NodeOf) → length (challenge_calls r s channels n) ≤ length channels
few-challenges r s [] n = omega arith
few-challenges r s (c ∷ channels) n =
    let next : NodeOf = challenged_if r s c (challenge_in n.mind c) n in
    let one : length (challenge_call r s c (challenge_in n.mind c) n) ≤ 1 = at-most-one r s c (challenge_in n.mind c) n in
    let others : length (challenge_calls r s channels next) ≤ length channels = few-challenges r s channels next in
    let long : length (challenge_calls r s (c ∷ channels) n) ≡ length (challenge_call r s c (challenge_in n.mind c) n) + length (challenge_calls r s channels next) =
    length-append (challenge_call r s c (challenge_in n.mind c) n) (challenge_calls r s channels next) in
    omega arith

-- what a tick gives is no more than 16384 calls
pub few-calls : (r : Rules) (s : Signing) (channels : List (List ℕ)) (n : NodeOf) (more all : List Call) → length channels ≤ 192 → length more ≤ 16000
    → all ≡ challenge_calls r s channels n ++ more → length all ≤ 16384
few-calls r s channels n more all few few-more is =
    let own : length (challenge_calls r s channels n) ≤ length channels = few-challenges r s channels n in
    let long : length all ≡ length (challenge_calls r s channels n) + length more = ap length is ∙ length-append (challenge_calls r s channels n) more in
    omega arith
