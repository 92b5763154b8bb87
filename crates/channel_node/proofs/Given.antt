-- How far the calls of a tick were given.
use Rattle.std.proofs.Common.{◌≡◌, ℕ, ◌+◌, ◌<◌, ◌≤◌, false, List, [], ◌∷◌, ◌++◌, length, take, get_or, inl, inr, refl, sym, ◌∙◌, ap, subst}
use Rattle.std.proofs.lemmas.List.{take_all, take_more}
use Rattle.std.proofs.lemmas.List.Elements.{All-nil, All-cons, All-take}
use Rattle.std.specs.List.{All}
use Rattle.channel_values.specs.Rules.{Rules}
use Rattle.call_history.specs.History.{Legal}
use Rattle.call_history.specs.declared.entry.Entry.{Entry}
use Rattle.call_history.specs.declared.call.Call.{Call}
use Rattle.channel_safety.specs.Journals.{In}
use Rattle.network.specs.declared.outs.Outs.{Outs}
use Rattle.channel_node.specs.Giving.{after_challenging, tick_calls, tick_gives}
use Rattle.channel_node.specs.Leaving.{MayCall}
use Rattle.channel_node.specs.Nodes.{NodeOf, gave_one, gave}
use Rattle.channel_node.specs.Standing.{Stands}
use Rattle.channel_node.specs.Playing.{Signing, SignerOf, signing_of}
use Rattle.channel_node.specs.Tables.{Tables}
use Rattle.channel_node.proofs.Calling.{calls_keep_standing}
use Rattle.channel_node.proofs.Ticking.{tick-may}

gave-append : (xs ys : List Call) (n : NodeOf) → gave (xs ++ ys) n ≡ gave ys (gave xs n)
gave-append [] ys n = refl
gave-append (x ∷ xs) ys n = gave-append xs ys (gave_one n x)

pub gave-signer : (xs : List Call) (n : NodeOf) → (gave xs n).signer ≡ n.signer
gave-signer [] n = refl
gave-signer (x ∷ xs) n = gave-signer xs (gave_one n x)

pub giving-steps : (given : List Call) (start : NodeOf) (i : ℕ) (n new : NodeOf) (d c : Call) → i < length given → c ≡ get_or given i d
    → n ≡ gave (take i given) start → new ≡ gave_one n c → new ≡ gave (take (i + 1) given) start
giving-steps given start i n new d c below is before new-is =
    new-is ∙ ap (λ (x : Call). gave_one n x) is ∙ ap (λ (k : NodeOf). gave_one k (get_or given i d)) before
    ∙ sym (ap (λ (xs : List Call). gave xs start) (take_more given i d below) ∙ gave-append (take i given) (get_or given i d ∷ []) start)

pub gave-whole : (given : List Call) (start : NodeOf) (i : ℕ) (n : NodeOf) → length given ≤ i → n ≡ gave (take i given) start → n ≡ gave given start
gave-whole given start i n past is = is ∙ ap (λ (xs : List Call). gave xs start) (take_all i given past)

pub gave-stands : (t : Tables) (r : Rules) (s : Signing) (h : List Entry) (given : List Call) (start : NodeOf) (i : ℕ) (n : NodeOf) → Legal r h → start.is_lost ≡ false → All (MayCall t start.mind) given
    → n ≡ gave (take i given) start → Stands t r s h start → Stands t r s h n
gave-stands t r s h given start i n legal kept may is st =
    subst (Stands t r s h) (sym is) ((calls_keep_standing t r s h start legal kept st).gives_all (take i given) (All-take (MayCall t start.mind) i given may))

all-in : {A : Type 0} (P : A → Type 0) (xs : List A) → ((x : A) → In x xs → P x) → All P xs
all-in P [] each = All-nil P
all-in P (x ∷ xs) each = All-cons P x xs (each x (inl refl)) (all-in P xs (λ y i. each y (inr i)))

-- what a tick calls
pub tick_calls_may : (t : Tables) (r : Rules) (s : Signing) (n new : NodeOf) (outs : Outs) (calls : List Call) → new ≡ after_challenging t r s n → outs ≡ tick_gives t r s n → calls ≡ outs.calls
    → All (MayCall t new.mind) calls
tick_calls_may t r s n new outs calls is gives are =
    let same : calls ≡ tick_calls t r s n = are ∙ ap (λ (o : Outs). o.calls) gives in
    subst (λ (k : NodeOf). All (MayCall t k.mind) calls) (sym is)
    (subst (All (MayCall t (after_challenging t r s n).mind)) (sym same) (all-in (MayCall t (after_challenging t r s n).mind) (tick_calls t r s n) (tick-may t r s n)))

-- one after the other
pub then-stands : (t : Tables) (r : Rules) (start mid new : NodeOf) → mid.signer ≡ start.signer
    → ((h : List Entry) → Legal r h → Stands t r (signing_of start.signer) h start → Stands t r (signing_of start.signer) h mid)
    → ((h : List Entry) → Legal r h → Stands t r (signing_of mid.signer) h mid → Stands t r (signing_of mid.signer) h new)
    → (h : List Entry) → Legal r h → Stands t r (signing_of start.signer) h start → Stands t r (signing_of start.signer) h new
then-stands t r start mid new same first second h legal st =
    subst (λ (k : SignerOf). Stands t r (signing_of k) h new) same (second h legal (subst (λ (k : SignerOf). Stands t r (signing_of k) h mid) (sym same) (first h legal st)))
