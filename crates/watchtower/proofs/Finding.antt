-- What workers find is right, and a place that leaves the queue is below the number of clients.
use Rattle.std.proofs.Common.{◌≡◌, ◌<◌, ℕ, zero, suc, List, [], ◌∷◌, ◌++◌, length, take, get_or, Some, slice_get, refl, sym, ◌∙◌, ap, subst, arith}
use Rattle.std.specs.List.{All}
use Rattle.std.proofs.lemmas.List.Elements.{All-nil, All-cons, All-tail, All-push}
use Rattle.call_history.specs.declared.call.Call.{Call}
use Rattle.network.specs.Watching.{Watching}
use mathlib.Core.Option.{some}
use lib.ListN.{get_elem?}
use Rattle.watchtower.specs.declared.client.Client.{Client}
use Rattle.watchtower.specs.declared.found.Found.{Found}
use Rattle.watchtower.specs.Towers.{calls_of}
use Rattle.watchtower.specs.Sharing.{IsFor, AreFor, AreBelow}

pub pops : (n pass : ℕ) (v : Unit {0}) (x : ℕ) (items : List ℕ) (views : List (Unit {0})) → AreBelow n (x ∷ items) → get_elem? views pass ≡ some v
    → Unit {0} × AreBelow n items × (x < n)
pops n pass v x items views all at = (tt, All-tail (λ p. p < n) x items all, all 0 x (omega arith))

got : (cs : List Client) (i : ℕ) (d : Client) → i < length cs → slice_get cs i ≡ Some (get_or cs i d)
got [] i d lt = absurd (omega (arith, lt))
got (c ∷ cs) zero d lt = refl
got (c ∷ cs) (suc i) d lt = got cs i d (omega (arith, lt))

pub added : (w : Watching) (clients : List Client) (place : ℕ) (client : Client) (calls : List Call) (found : List Found) → place < length clients
    → client ≡ get_or clients place client → calls ≡ calls_of w client.chains → AreFor w clients found
    → AreFor w clients (found ++ record { place = place; calls = calls } ∷ [])
added w clients place client calls found lt at is all =
    All-push (IsFor w clients) found (record { place = place; calls = calls }) all
    (λ c there. let same : client ≡ c = inside (get_or clients place client) c (sym (got clients place client lt) ∙ there) at in is ∙ ap (λ (x : Client). calls_of w x.chains) same)
  where
    inside : (x c : Client) → Some x ≡ Some c → client ≡ x → client ≡ c
    inside x c e f = cc

pub taken_for : (w : Watching) (clients : List Client) (n : ℕ) (found : List Found) → AreFor w clients found → AreFor w clients (take n found)
taken_for w clients n found all = go n found all
  where
    go : (n : ℕ) (found : List Found) → AreFor w clients found → AreFor w clients (take n found)
    go zero found all = λ k d lt. absurd (omega (arith, lt))
    go (suc n) [] all = λ k d lt. absurd (omega (arith, lt))
    go (suc n) (f ∷ fs) all = All-cons (IsFor w clients) f (take n fs) (all 0 f (omega arith)) (go n fs (All-tail (IsFor w clients) f fs all))

pub split_last : {X : Type 0} (P : X → Type 0) (xs : List X) (x : X) → All P (xs ++ x ∷ []) → All P xs × P x
split_last P [] x all = (All-nil P, all 0 x (omega arith))
split_last P (y ∷ ys) x all =
    let rest = split_last P ys x (All-tail P y (ys ++ x ∷ []) all) in
    (All-cons P y ys (all 0 y (omega arith)) rest.0, rest.1)

pub none_found : (w : Watching) (clients : List Client) (found : List Found) → found ≡ [] → AreFor w clients found
none_found w clients found none = subst (λ fs. AreFor w clients fs) (sym none) (λ k d lt. absurd (omega (arith, lt)))
