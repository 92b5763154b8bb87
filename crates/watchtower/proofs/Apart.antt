-- What a client is answered depends on its own calls alone, and the list of a look shows it.
use Rattle.std.proofs.Common.{◌≡◌, ℕ, List, [], ◌∷◌, ◌++◌, Bool, true, false, not, ◌||◌, cond, Option, Some, None, refl, sym, ◌∙◌, ap, subst, true≢false}
use Rattle.std.specs.Prelude.{is_some}
use Rattle.std.specs.Option.{option_map}
use Rattle.std.specs.Str.{bytes_eq}
use Rattle.channel_values.specs.Rules.{Rules}
use Rattle.call_history.specs.declared.call.Call.{Call}
use Rattle.call_history.specs.declared.entry.Entry.{Entry}
use Rattle.call_history.specs.declared.held_chain.HeldChain.{HeldChain}
use Rattle.network.specs.Watching.{Watching}
use Rattle.watchtower.specs.declared.client.Client.{Client}
use Rattle.watchtower.specs.declared.fault.HandFault.{HandFault}
use Rattle.watchtower.specs.Towers.{Towering, unmanned, chains_of, is_admitted, with_chains, newcomer, admitted, named, handed, hand_fault, fault_among, entitled, answers, calls_of, watched}
use Rattle.watchtower.specs.Isolation.{Act, admits, hands, looks, Told, is_new, refused, given, taken, after, calls_with, told, all_told, is_own, own, ClientsAreApart, calls_in, after_all, EachIsTold}
use Rattle.watchtower.proofs.Opening.{same_name, is_self}

-- ---- one client's chains

known : (q : List ℕ) (clients : List Client) → is_admitted q clients ≡ is_some (chains_of q clients)
known q [] = refl
known q (c ∷ cs) = go (bytes_eq q c.name) (known q cs)
  where
    go : (b : Bool) → is_admitted q cs ≡ is_some (chains_of q cs) → (b || is_admitted q cs) ≡ is_some (cond b (Some c.chains) (chains_of q cs))
    go true rest = refl
    go false rest = rest

-- what an admission of its own makes of a client's chains
own_start : Option (List HeldChain) → Option (List HeldChain)
own_start None = Some []
own_start (Some chains) = Some chains

behind : (q name : List ℕ) (clients : List Client) → chains_of q (clients ++ newcomer name ∷ []) ≡ cond (is_admitted q clients) (chains_of q clients) (cond (bytes_eq q name) (Some []) None)
behind q name [] = refl
behind q name (c ∷ cs) = go (bytes_eq q c.name) (behind q name cs)
  where
    go : (b : Bool) → chains_of q (cs ++ newcomer name ∷ []) ≡ cond (is_admitted q cs) (chains_of q cs) (cond (bytes_eq q name) (Some []) None)
        → cond b (Some c.chains) (chains_of q (cs ++ newcomer name ∷ [])) ≡ cond (b || is_admitted q cs) (cond b (Some c.chains) (chains_of q cs)) (cond (bytes_eq q name) (Some []) None)
    go true rest = refl
    go false rest = rest

absent : (q : List ℕ) (clients : List Client) → is_admitted q clients ≡ false → chains_of q clients ≡ None
absent q clients e = go (chains_of q clients) (sym (known q clients) ∙ e)
  where
    go : (o : Option (List HeldChain)) → is_some o ≡ false → o ≡ None
    go None e = refl
    go (Some x) e = absurd (true≢false e)

admitted_own : (q : List ℕ) (clients : List Client) → chains_of q (admitted q clients) ≡ own_start (chains_of q clients)
unfolding own_start
admitted_own q clients = go (is_admitted q clients) refl (chains_of q clients) refl
  where
    go : (b : Bool) → is_admitted q clients ≡ b → (o : Option (List HeldChain)) → chains_of q clients ≡ o
        → chains_of q (cond b clients (clients ++ newcomer q ∷ [])) ≡ own_start o
    go true e None at = absurd (true≢false (sym e ∙ known q clients ∙ ap is_some at))
    go true e (Some chains) at = at
    go false e None at =
        behind q q clients ∙ ap (λ b. cond b (chains_of q clients) (cond (bytes_eq q q) (Some []) None)) e ∙ ap (λ b. cond b (Some []) None) (is_self q)
    go false e (Some chains) at = absurd (true≢false (sym (ap is_some at) ∙ sym (known q clients) ∙ e))

admitted_other : (q name : List ℕ) (clients : List Client) → bytes_eq q name ≡ false → chains_of q (admitted name clients) ≡ chains_of q clients
admitted_other q name clients apart = go (is_admitted name clients) (is_admitted q clients) refl
  where
    last : (b : Bool) → is_admitted q clients ≡ b → cond b (chains_of q clients) (cond (bytes_eq q name) (Some []) None) ≡ chains_of q clients
    last true e = refl
    last false e = ap (λ b. cond b (Some []) None) apart ∙ sym (absent q clients e)

    go : (b c : Bool) → is_admitted q clients ≡ c → chains_of q (cond b clients (clients ++ newcomer name ∷ [])) ≡ chains_of q clients
    go true c e = refl
    go false c e = behind q name clients ∙ ap (λ b. cond b (chains_of q clients) (cond (bytes_eq q name) (Some []) None)) e ∙ last c e

changed_own : (q : List ℕ) (change : List HeldChain → List HeldChain) (clients : List Client) → chains_of q (with_chains q change clients) ≡ option_map change (chains_of q clients)
changed_own q change [] = refl
changed_own q change (c ∷ cs) = go (bytes_eq q c.name) refl (changed_own q change cs)
  where
    go : (b : Bool) → bytes_eq q c.name ≡ b → chains_of q (with_chains q change cs) ≡ option_map change (chains_of q cs)
        → chains_of q (cond b (record c { chains = change c.chains } ∷ cs) (c ∷ with_chains q change cs)) ≡ option_map change (cond b (Some c.chains) (chains_of q cs))
    go true e rest = ap (λ b. cond b (Some (change c.chains)) (chains_of q cs)) e
    go false e rest = ap (λ b. cond b (Some c.chains) (chains_of q (with_chains q change cs))) e ∙ rest

changed_other : (q name : List ℕ) (change : List HeldChain → List HeldChain) (clients : List Client) → bytes_eq q name ≡ false → chains_of q (with_chains name change clients) ≡ chains_of q clients
changed_other q name change [] apart = refl
changed_other q name change (c ∷ cs) apart = go (bytes_eq name c.name) refl (changed_other q name change cs apart)
  where
    go : (b : Bool) → bytes_eq name c.name ≡ b → chains_of q (with_chains name change cs) ≡ chains_of q cs
        → chains_of q (cond b (record c { chains = change c.chains } ∷ cs) (c ∷ with_chains name change cs)) ≡ cond (bytes_eq q c.name) (Some c.chains) (chains_of q cs)
    go true e rest =
        let other : bytes_eq q c.name ≡ false = ap (bytes_eq q) (sym (same_name name c.name e)) ∙ apart in
        ap (λ b. cond b (Some (change c.chains)) (chains_of q cs)) other ∙ sym (ap (λ b. cond b (Some c.chains) (chains_of q cs)) other)
    go false e rest = ap (cond (bytes_eq q c.name) (Some c.chains)) rest

-- ---- two towers that are alike for one client

record Alike (q : List ℕ) (t u : Towering) : Type 0 where
  chains : chains_of q t.clients ≡ chains_of q u.clients
  watching : t.watching ≡ u.watching

taken_own : Option HandFault → HeldChain → Option (List HeldChain) → Option (List HeldChain)
taken_own None new o = option_map (handed new) o
taken_own (Some fault) new o = o

hand_own : (r : Rules) (q : List ℕ) (new : HeldChain) (clients : List Client)
    → chains_of q (taken q new clients (hand_fault r q new clients)) ≡ taken_own (hand_fault r q new clients) new (chains_of q clients)
unfolding taken_own
hand_own r q new clients = go (hand_fault r q new clients)
  where
    go : (o : Option HandFault) → chains_of q (taken q new clients o) ≡ taken_own o new (chains_of q clients)
    go None = changed_own q (handed new) clients
    go (Some fault) = refl

hand_other : (r : Rules) (q name : List ℕ) (new : HeldChain) (clients : List Client) → bytes_eq q name ≡ false
    → chains_of q (taken name new clients (hand_fault r name new clients)) ≡ chains_of q clients
hand_other r q name new clients apart = go (hand_fault r name new clients)
  where
    go : (o : Option HandFault) → chains_of q (taken name new clients o) ≡ chains_of q clients
    go None = changed_other q name (handed new) clients apart
    go (Some fault) = refl

-- a call of another client changes nothing for this one
others : (r : Rules) (q : List ℕ) (t u : Towering) (act : Act) → is_own q act ≡ false → Alike q t u → Alike q (after r t act) u
others r q t u (admits name) apart same = record { chains = admitted_other q name t.clients apart ∙ same.chains; watching = same.watching }
others r q t u (hands name chain) apart same = record { chains = hand_other r q name (named chain) t.clients apart ∙ same.chains; watching = same.watching }
others r q t u (looks entries) apart same = absurd (true≢false apart)

nothing_told : (r : Rules) (q : List ℕ) (t : Towering) (act : Act) → is_own q act ≡ false → told r q t act ≡ []
nothing_told r q t (admits name) apart = ap (λ b. cond b (is_new (not (is_admitted q t.clients)) ∷ []) []) apart
nothing_told r q t (hands name chain) apart = ap (λ b. cond b (refused (hand_fault r q (named chain) t.clients) ∷ []) []) apart
nothing_told r q t (looks entries) apart = absurd (true≢false apart)

-- a call of its own does the same for it
owns : (r : Rules) (q : List ℕ) (t u : Towering) (act : Act) → is_own q act ≡ true → Alike q t u → Alike q (after r t act) (after r u act)
owns r q t u (admits name) mine same =
    subst (λ n. Alike q (record t { clients = admitted n t.clients }) (record u { clients = admitted n u.clients })) (same_name q name mine)
    (record { chains = admitted_own q t.clients ∙ ap own_start same.chains ∙ sym (admitted_own q u.clients); watching = same.watching })
owns r q t u (hands name chain) mine same =
    subst
    (λ n. Alike q (record t { clients = taken n (named chain) t.clients (hand_fault r n (named chain) t.clients) }) (record u { clients = taken n (named chain) u.clients (hand_fault r n (named chain) u.clients) }))
    (same_name q name mine)
    (record {
      chains =
          hand_own r q (named chain) t.clients
          ∙ ap (λ o. taken_own (fault_among r (named chain) o) (named chain) o) same.chains
          ∙ sym (hand_own r q (named chain) u.clients);
      watching = same.watching;
    })
owns r q t u (looks entries) mine same = record { chains = same.chains; watching = ap (λ w. fold_all w entries) same.watching }
  where
    fold_all : Watching → List Entry → Watching
    fold_all w entries = (watched entries (record unmanned { watching = w })).watching

told_alike : (r : Rules) (q : List ℕ) (t u : Towering) (act : Act) → Alike q t u → told r q t act ≡ told r q u act
told_alike r q t u (admits name) same =
    ap (λ b. cond (bytes_eq q name) (is_new (not b) ∷ []) []) (known q t.clients ∙ ap is_some same.chains ∙ sym (known q u.clients))
told_alike r q t u (hands name chain) same = ap (λ o. cond (bytes_eq q name) (refused (fault_among r (named chain) o) ∷ []) []) same.chains
told_alike r q t u (looks entries) same =
    ap (λ w. given (calls_with (watched entries (record unmanned { watching = w })).watching (chains_of q t.clients)) ∷ []) same.watching
    ∙ ap (λ o. given (calls_with (watched entries u).watching o) ∷ []) same.chains

all_alike : (r : Rules) (q : List ℕ) (acts : List Act) (t u : Towering) → Alike q t u → all_told r q t acts ≡ all_told r q u (own q acts)
all_alike r q [] t u same = refl
all_alike r q (act ∷ acts) t u same =
    go (is_own q act) refl (λ t' u' same'. all_alike r q acts t' u' same')
  where
    go : (b : Bool) → is_own q act ≡ b → ((t' u' : Towering) → Alike q t' u' → all_told r q t' acts ≡ all_told r q u' (own q acts))
        → told r q t act ++ all_told r q (after r t act) acts ≡ all_told r q u (cond b (act ∷ own q acts) (own q acts))
    go true mine rest =
        ap (λ (l : List Told). l ++ all_told r q (after r t act) acts) (told_alike r q t u act same)
        ∙ ap (λ (l : List Told). told r q u act ++ l) (rest (after r t act) (after r u act) (owns r q t u act mine same))
    go false apart rest =
        ap (λ (l : List Told). l ++ all_told r q (after r t act) acts) (nothing_told r q t act apart)
        ∙ rest (after r t act) u (others r q t u act apart same)

pub clients_are_apart : ClientsAreApart
clients_are_apart r q a b same =
    all_alike r q a unmanned unmanned (record { chains = refl; watching = refl })
    ∙ ap (all_told r q unmanned) same
    ∙ sym (all_alike r q b unmanned unmanned (record { chains = refl; watching = refl }))

-- ---- the list of a look

-- no client comes twice
AreApart : List Client → Type 0
AreApart [] = Unit {0}
AreApart (c ∷ cs) = (is_admitted c.name cs ≡ false) × AreApart cs

flip_bytes : (a b : List ℕ) → bytes_eq a b ≡ false → bytes_eq b a ≡ false
flip_bytes a b apart = go (bytes_eq b a) refl
  where
    go : (x : Bool) → bytes_eq b a ≡ x → x ≡ false
    go false e = refl
    go true e = absurd (true≢false (sym (is_self a) ∙ ap (bytes_eq a) (sym (same_name b a e)) ∙ apart))

neither : (a b : Bool) → (a || b) ≡ false → (a ≡ false) × (b ≡ false)
neither true b e = absurd (true≢false e)
neither false b e = (refl, e)

not_behind : (name : List ℕ) (new : Client) (clients : List Client) → is_admitted name clients ≡ false → bytes_eq name new.name ≡ false → is_admitted name (clients ++ new ∷ []) ≡ false
not_behind name new [] absent apart = ap (λ b. b || false) apart
not_behind name new (c ∷ cs) absent apart =
    let parts = neither (bytes_eq name c.name) (is_admitted name cs) absent in
    ap (λ b. b || is_admitted name (cs ++ new ∷ [])) parts.0 ∙ not_behind name new cs parts.1 apart

apart_behind : (name : List ℕ) (clients : List Client) → is_admitted name clients ≡ false → AreApart clients → AreApart (clients ++ newcomer name ∷ [])
unfolding AreApart
apart_behind name [] absent all = (refl, tt)
apart_behind name (c ∷ cs) absent all =
    let parts = neither (bytes_eq name c.name) (is_admitted name cs) absent in
    (not_behind c.name (newcomer name) cs all.0 (flip_bytes name c.name parts.0), apart_behind name cs parts.1 all.1)

admitted_apart : (name : List ℕ) (clients : List Client) → AreApart clients → AreApart (admitted name clients)
admitted_apart name clients all = go (is_admitted name clients) refl
  where
    go : (b : Bool) → is_admitted name clients ≡ b → AreApart (cond b clients (clients ++ newcomer name ∷ []))
    go true e = all
    go false e = apart_behind name clients e all

same_admitted : (x name : List ℕ) (change : List HeldChain → List HeldChain) (clients : List Client) → is_admitted x (with_chains name change clients) ≡ is_admitted x clients
same_admitted x name change [] = refl
same_admitted x name change (c ∷ cs) = go (bytes_eq name c.name) (same_admitted x name change cs)
  where
    go : (b : Bool) → is_admitted x (with_chains name change cs) ≡ is_admitted x cs
        → is_admitted x (cond b (record c { chains = change c.chains } ∷ cs) (c ∷ with_chains name change cs)) ≡ (bytes_eq x c.name || is_admitted x cs)
    go true rest = refl
    go false rest = ap (λ b. bytes_eq x c.name || b) rest

changed_apart : (name : List ℕ) (change : List HeldChain → List HeldChain) (clients : List Client) → AreApart clients → AreApart (with_chains name change clients)
unfolding AreApart
changed_apart name change [] all = tt
changed_apart name change (c ∷ cs) all = go (bytes_eq name c.name) (changed_apart name change cs all.1)
  where
    go : (b : Bool) → AreApart (with_chains name change cs) → AreApart (cond b (record c { chains = change c.chains } ∷ cs) (c ∷ with_chains name change cs))
    go true rest = all
    go false rest = (same_admitted c.name name change cs ∙ all.0, rest)

act_apart : (r : Rules) (t : Towering) (act : Act) → AreApart t.clients → AreApart (after r t act).clients
act_apart r t (admits name) all = admitted_apart name t.clients all
act_apart r t (hands name chain) all = go (hand_fault r name (named chain) t.clients)
  where
    go : (o : Option HandFault) → AreApart (taken name (named chain) t.clients o)
    go None = changed_apart name (handed (named chain)) t.clients all
    go (Some fault) = all
act_apart r t (looks entries) all = all

all_apart : (r : Rules) (acts : List Act) (t : Towering) → AreApart t.clients → AreApart (after_all r t acts).clients
all_apart r [] t all = all
all_apart r (act ∷ acts) t all = all_apart r acts (after r t act) (act_apart r t act all)

nobody : (q : List ℕ) (f : List HeldChain → List Call) (clients : List Client) → is_admitted q clients ≡ false → calls_in q (answers f clients) ≡ []
nobody q f [] absent = refl
nobody q f (c ∷ cs) absent =
    let parts = neither (bytes_eq q c.name) (is_admitted q cs) absent in go (f c.chains) parts.0 (nobody q f cs parts.1)
  where
    go : (l : List Call) → bytes_eq q c.name ≡ false → calls_in q (answers f cs) ≡ [] → calls_in q (entitled c.name l ++ answers f cs) ≡ []
    go [] apart rest = rest
    go (call ∷ calls) apart rest = ap (λ b. cond b (call ∷ calls) (calls_in q (answers f cs))) apart ∙ rest

with_calls : (List HeldChain → List Call) → Option (List HeldChain) → List Call
with_calls f None = []
with_calls f (Some chains) = f chains

tells : (q : List ℕ) (f : List HeldChain → List Call) (clients : List Client) → AreApart clients → calls_in q (answers f clients) ≡ with_calls f (chains_of q clients)
unfolding AreApart with_calls
tells q f [] all = refl
tells q f (c ∷ cs) all = go (bytes_eq q c.name) refl (f c.chains) refl (tells q f cs all.1)
  where
    gone : bytes_eq q c.name ≡ true → calls_in q (answers f cs) ≡ []
    gone e = nobody q f cs (ap (λ n. is_admitted n cs) (same_name q c.name e) ∙ all.0)

    go : (b : Bool) → bytes_eq q c.name ≡ b → (l : List Call) → f c.chains ≡ l → calls_in q (answers f cs) ≡ with_calls f (chains_of q cs)
        → calls_in q (entitled c.name l ++ answers f cs) ≡ with_calls f (cond b (Some c.chains) (chains_of q cs))
    go true e [] is rest = gone e ∙ sym is
    go true e (call ∷ calls) is rest = ap (λ b. cond b (call ∷ calls) (calls_in q (answers f cs))) e ∙ sym is
    go false e [] is rest = rest
    go false e (call ∷ calls) is rest = ap (λ b. cond b (call ∷ calls) (calls_in q (answers f cs))) e ∙ rest

same_calls : (w : Watching) (o : Option (List HeldChain)) → with_calls (calls_of w) o ≡ calls_with w o
unfolding with_calls
same_calls w None = refl
same_calls w (Some chains) = refl

no_clients : AreApart []
unfolding AreApart
no_clients = tt

pub each_is_told : EachIsTold
each_is_told r q acts =
    tells q (calls_of (after_all r unmanned acts).watching) (after_all r unmanned acts).clients (all_apart r acts unmanned no_clients)
    ∙ same_calls (after_all r unmanned acts).watching (chains_of q (after_all r unmanned acts).clients)
