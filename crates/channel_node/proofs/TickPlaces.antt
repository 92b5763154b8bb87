-- How far a tick has come.
use Rattle.std.proofs.Common.{◌≡◌, ℕ, zero, suc, ◌+◌, ◌<◌, ◌≤◌, arith, Bool, true, false, cond, List, [], ◌∷◌, ◌++◌, length, refl, sym, ◌∙◌, ap, subst, drop, get_or, add-one, drop-cons}
use Rattle.std.specs.Prelude.{Option, Some, None, nat_lt}
use Rattle.std.specs.Option.{option_or}
use Rattle.channel_values.specs.Parts.{StateParts}
use Rattle.channel_values.specs.Rules.{Rules}
use Rattle.call_history.specs.History.{Legal}
use Rattle.call_history.specs.declared.entry.Entry.{Entry}
use Rattle.channel_node.specs.Nodes.{NodeOf, signed, signed_if, ticked}
use Rattle.channel_node.specs.Standing.{Stands}
use Rattle.channel_node.specs.Tables.{Tables}
use Rattle.channel_node.specs.Playing.{Signing, signing_of}
use Rattle.channel_node.specs.Giving.{sent_if, spent_if, sent, spent}
use Rattle.channel_node.specs.Refusing.{signs_in}
use Rattle.channel_node.proofs.Calling.{calls_keep_standing}

pub record Ticking (t : Tables) (r : Rules) (s : Signing) (channels : List (List ℕ)) (start : NodeOf) (i : ℕ) (n : NodeOf) : Type 0 where
  pub rest : ticked t r s channels start ≡ ticked t r s (drop i channels) n
  pub kept : n.is_lost ≡ false
  pub signer : n.signer ≡ start.signer
  pub stands : (h : List Entry) → Legal r h → Stands t r s h start → Stands t r s h n

pub kept-if : (n new : NodeOf) (b : Bool) → n.is_lost ≡ false → new.is_lost ≡ false → (cond b new n).is_lost ≡ false
kept-if n new true k l = l
kept-if n new false k l = k

signed-kept : (r : Rules) (s : Signing) (n : NodeOf) (channel : List ℕ) (o : Option StateParts) → n.is_lost ≡ false → (signed_if r s channel o n).is_lost ≡ false
signed-kept r s n channel None kept = kept
signed-kept r s n channel (Some state) kept = kept-if n (signed r s channel state n) (nat_lt n.used s.limit) kept kept

pub signer-if : (n new : NodeOf) (b : Bool) → new.signer ≡ n.signer → (cond b new n).signer ≡ n.signer
signer-if n new true e = e
signer-if n new false e = refl

signed-signer : (r : Rules) (s : Signing) (n : NodeOf) (channel : List ℕ) (o : Option StateParts) → (signed_if r s channel o n).signer ≡ n.signer
signed-signer r s n channel None = refl
signed-signer r s n channel (Some state) = signer-if n (signed r s channel state n) (nat_lt n.used s.limit) refl

pub ticking-with : (t : Tables) (r : Rules) (s : Signing) (channels : List (List ℕ)) (start : NodeOf) (i : ℕ) (n new : NodeOf) (c : List ℕ) → i < length channels → c ≡ get_or channels i []
    → Ticking t r s channels start i n → new ≡ signed_if r s c (signs_in t r None n.mind c) n → Ticking t r s channels start (i + 1) new
ticking-with t r s channels start i n new c below is before new-is =
    let split : drop i channels ≡ c ∷ drop (i + 1) channels = rw (is, add-one) (drop-cons channels i [] below) in
    record {
      rest = before.rest ∙ ap (λ (xs : List (List ℕ)). ticked t r s xs n) split ∙ ap (ticked t r s (drop (i + 1) channels)) (sym new-is);
      kept = ap (λ (k : NodeOf). k.is_lost) new-is ∙ signed-kept r s n c (signs_in t r None n.mind c) before.kept;
      signer = ap (λ (k : NodeOf). k.signer) new-is ∙ signed-signer r s n c (signs_in t r None n.mind c) ∙ before.signer;
      stands = λ h legal st. subst (Stands t r s h) (sym new-is) ((calls_keep_standing t r s h n legal before.kept (before.stands h legal st)).ticks (c ∷ []));
    }

-- with the signer that it has then
pub ticking-steps : (t : Tables) (r : Rules) (channels : List (List ℕ)) (start : NodeOf) (i : ℕ) (n new : NodeOf) (c : List ℕ) → i < length channels → c ≡ get_or channels i []
    → Ticking t r (signing_of start.signer) channels start i n → new ≡ signed_if r (signing_of n.signer) c (signs_in t r None n.mind c) n → Ticking t r (signing_of start.signer) channels start (i + 1) new
ticking-steps t r channels start i n new c below is before new-is =
    ticking-with t r (signing_of start.signer) channels start i n new c below is before
    (subst (λ (s : Signing). new ≡ signed_if r s c (signs_in t r None n.mind c) n) (ap signing_of before.signer) new-is)

-- what it sent and where the key was spent, so far
pub record Sending (t : Tables) (r : Rules) (s : Signing) (channels : List (List ℕ)) (start : NodeOf) (first now : List (List ℕ × List ℕ)) (lost still : Option ℕ) (i : ℕ) (n : NodeOf) : Type 0 where
  pub ticking : Ticking t r s channels start i n
  pub sends : first ++ sent t r s channels start ≡ now ++ sent t r s (drop i channels) n
  pub spends : option_or lost (spent t r s channels start) ≡ option_or still (spent t r s (drop i channels) n)

pub append-assoc : {A : Type 0} (xs ys zs : List A) → (xs ++ ys) ++ zs ≡ xs ++ (ys ++ zs)
append-assoc [] ys zs = refl
append-assoc (x ∷ xs) ys zs = ap (λ (rest : List _). x ∷ rest) (append-assoc xs ys zs)

pub or-assoc : {A : Type 0} (a b c : Option A) → option_or (option_or a b) c ≡ option_or a (option_or b c)
or-assoc None b c = refl
or-assoc (Some x) b c = refl

sending-with : (t : Tables) (r : Rules) (s : Signing) (channels : List (List ℕ)) (start : NodeOf) (first now next more : List (List ℕ × List ℕ)) (lost still after extra : Option ℕ) (i : ℕ) (n new : NodeOf) (c : List ℕ)
    → i < length channels → c ≡ get_or channels i [] → Sending t r s channels start first now lost still i n
    → new ≡ signed_if r s c (signs_in t r None n.mind c) n → more ≡ sent_if r s c (signs_in t r None n.mind c) n → extra ≡ spent_if s (signs_in t r None n.mind c) n
    → next ≡ now ++ more → after ≡ option_or still extra
    → Sending t r s channels start first next lost after (i + 1) new
sending-with t r s channels start first now next more lost still after extra i n new c below is before new-is more-is extra-is next-is after-is =
    let split : drop i channels ≡ c ∷ drop (i + 1) channels = rw (is, add-one) (drop-cons channels i [] below) in
    let o : Option StateParts = signs_in t r None n.mind c in
    record {
      ticking = ticking-with t r s channels start i n new c below is before.ticking new-is;
      sends =
          before.sends ∙ ap (λ (xs : List (List ℕ)). now ++ sent t r s xs n) split
          ∙ sym (append-assoc now (sent_if r s c o n) (sent t r s (drop (i + 1) channels) (signed_if r s c o n)))
          ∙ ap (λ (ms : List (List ℕ × List ℕ)). (now ++ ms) ++ sent t r s (drop (i + 1) channels) (signed_if r s c o n)) (sym more-is)
          ∙ ap (λ (ms : List (List ℕ × List ℕ)). ms ++ sent t r s (drop (i + 1) channels) (signed_if r s c o n)) (sym next-is)
          ∙ ap (λ (k : NodeOf). next ++ sent t r s (drop (i + 1) channels) k) (sym new-is);
      spends =
          before.spends ∙ ap (λ (xs : List (List ℕ)). option_or still (spent t r s xs n)) split
          ∙ sym (or-assoc still (spent_if s o n) (spent t r s (drop (i + 1) channels) (signed_if r s c o n)))
          ∙ ap (λ (e : Option ℕ). option_or (option_or still e) (spent t r s (drop (i + 1) channels) (signed_if r s c o n))) (sym extra-is)
          ∙ ap (λ (e : Option ℕ). option_or e (spent t r s (drop (i + 1) channels) (signed_if r s c o n))) (sym after-is)
          ∙ ap (λ (k : NodeOf). option_or after (spent t r s (drop (i + 1) channels) k)) (sym new-is);
    }

-- with the signer that it has then
pub sending-steps : (t : Tables) (r : Rules) (channels : List (List ℕ)) (start : NodeOf) (first now next more : List (List ℕ × List ℕ)) (lost still after extra : Option ℕ) (i : ℕ) (n new : NodeOf) (c : List ℕ)
    → i < length channels → c ≡ get_or channels i [] → Sending t r (signing_of start.signer) channels start first now lost still i n
    → new ≡ signed_if r (signing_of n.signer) c (signs_in t r None n.mind c) n → more ≡ sent_if r (signing_of n.signer) c (signs_in t r None n.mind c) n → extra ≡ spent_if (signing_of n.signer) (signs_in t r None n.mind c) n
    → next ≡ now ++ more → after ≡ option_or still extra
    → Sending t r (signing_of start.signer) channels start first next lost after (i + 1) new
sending-steps t r channels start first now next more lost still after extra i n new c below is before new-is more-is extra-is next-is after-is =
    let o : Option StateParts = signs_in t r None n.mind c in
    let same : signing_of n.signer ≡ signing_of start.signer = ap signing_of before.ticking.signer in
    sending-with t r (signing_of start.signer) channels start first now next more lost still after extra i n new c below is before
    (subst (λ (s : Signing). new ≡ signed_if r s c o n) same new-is) (subst (λ (s : Signing). more ≡ sent_if r s c o n) same more-is) (subst (λ (s : Signing). extra ≡ spent_if s o n) same extra-is) next-is after-is

pub dropped : {A : Type 0} (xs : List A) (i : ℕ) → length xs ≤ i → drop i xs ≡ []
dropped [] zero h = refl
dropped [] (suc i) h = refl
dropped (x ∷ xs) zero h = absurd (omega arith)
dropped (x ∷ xs) (suc i) h = dropped xs i (omega arith)

pub append-nil : {A : Type 0} (xs : List A) → xs ++ [] ≡ xs
append-nil [] = refl
append-nil (x ∷ xs) = ap (λ (rest : List _). x ∷ rest) (append-nil xs)

pub or-none : {A : Type 0} (o : Option A) → option_or o None ≡ o
or-none None = refl
or-none (Some x) = refl

-- at the end
pub sent-whole : (t : Tables) (r : Rules) (s : Signing) (channels : List (List ℕ)) (start : NodeOf) (first now : List (List ℕ × List ℕ)) (lost still : Option ℕ) (i : ℕ) (n : NodeOf)
    → Sending t r s channels start first now lost still i n → length channels ≤ i → now ≡ first ++ sent t r s channels start
sent-whole t r s channels start first now lost still i n before past =
    sym (before.sends ∙ ap (λ (xs : List (List ℕ)). now ++ sent t r s xs n) (dropped channels i past) ∙ append-nil now)

pub spent-whole : (t : Tables) (r : Rules) (s : Signing) (channels : List (List ℕ)) (start : NodeOf) (first now : List (List ℕ × List ℕ)) (lost still : Option ℕ) (i : ℕ) (n : NodeOf)
    → Sending t r s channels start first now lost still i n → length channels ≤ i → still ≡ option_or lost (spent t r s channels start)
spent-whole t r s channels start first now lost still i n before past =
    sym (before.spends ∙ ap (λ (xs : List (List ℕ)). option_or still (spent t r s xs n)) (dropped channels i past) ∙ or-none still)
