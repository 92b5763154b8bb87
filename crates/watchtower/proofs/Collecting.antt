-- What is answered place by place is what is answered client by client.
use Rattle.std.proofs.Common.{◌≡◌, ◌-◌, ◌+◌, ◌==◌, ℕ, List, [], ◌∷◌, ◌++◌, length, map, true, false, Option, Some, None, refl, sym, ◌∙◌, ap, arith, slice_get, Contains, true≢false, eq-eqb, eqb-true}
use Rattle.std.specs.List.{flat_map}
use Rattle.std.proofs.lemmas.List.{append-nil}
use Rattle.std.specs.List.Sorted.{IsStrictlyIncreasing}
use Rattle.call_history.specs.declared.call.Call.{Call}
use Rattle.network.specs.Watching.{Watching}
use Rattle.watchtower.specs.declared.client.Client.{Client}
use Rattle.watchtower.specs.Towers.{entitled, answers, calls_of}
use Rattle.watchtower.specs.Looking.{Concerned, answer_at}
use Rattle.watchtower.proofs.Rising.{at_or_none, among, collected}
use Rattle.watchtower.proofs.Places.{rises, is_among}

entitle : Watching → Client → List (List ℕ × List Call)
entitle w c = entitled c.name (calls_of w c.chains)

same_answers : (w : Watching) (clients : List Client) (ps : List ℕ) → flat_map (λ p. answer_at w (slice_get clients p)) ps ≡ flat_map (λ p. at_or_none (entitle w) (slice_get clients (p - 0))) ps
unfolding entitle
same_answers w clients [] = refl
same_answers w clients (p ∷ ps) =
    let whole : p - 0 ≡ p = omega arith in
    let here : answer_at w (slice_get clients p) ≡ at_or_none (entitle w) (slice_get clients (p - 0)) = same (slice_get clients p) ∙ ap (λ k. at_or_none (entitle w) (slice_get clients k)) (sym whole) in
    let rest = same_answers w clients ps in
    λ i. here i ++ rest i
  where
    same : (o : Option Client) → answer_at w o ≡ at_or_none (entitle w) o
    same None = refl
    same (Some c) = refl

pub all_answered : (w : Watching) (clients : List Client) (places : List ℕ) → IsStrictlyIncreasing places → Concerned w clients places
    → flat_map (λ p. answer_at w (slice_get clients p)) places ≡ answers (calls_of w) clients
unfolding entitle
all_answered w clients places rising all =
    same_answers w clients places
    ∙ collected (entitle w) 0 clients places (rises places rising)
    (λ i c y ys at some. let n : 0 + i ≡ i = omega arith in ap (λ k. among k places) n ∙ is_among i places (found i c y ys at some))
  where
    found : (i : ℕ) (c : Client) (y : List ℕ × List Call) (ys : List (List ℕ × List Call)) → slice_get clients i ≡ Some c → entitled c.name (calls_of w c.chains) ≡ y ∷ ys → Contains places i
    found i c y ys at some = go (calls_of w c.chains) refl some
      where
        go : (l : List Call) → calls_of w c.chains ≡ l → entitled c.name l ≡ y ∷ ys → Contains places i
        go [] q some = absurd (clash some)
          where
            clash : [] ≡ y ∷ ys → ⊥
            clash e = cc
        go (call ∷ calls) q some = all i c call calls at q

-- one client's answer
pub entitled_some : (name : List ℕ) (calls : List Call) → (length calls == 0) ≡ false → (name, calls) ∷ [] ≡ entitled name calls
entitled_some name [] some = absurd (true≢false (sym (eq-eqb 0 0 refl) ∙ some))
entitled_some name (call ∷ calls) some = refl

pub entitled_none : (name : List ℕ) (calls : List Call) → (length calls == 0) ≡ true → entitled name calls ≡ []
entitled_none name [] none = refl
entitled_none name (call ∷ calls) none = let n : length (call ∷ calls) ≡ 0 = eqb-true (length (call ∷ calls)) 0 none in absurd (omega (arith, n))

pub told_more : {A B : Type 0} (f : A → B) (xs : List A) (x : A) → map f (xs ++ x ∷ []) ≡ map f xs ++ f x ∷ []
told_more f [] x = refl
told_more f (y ∷ ys) x = ap (λ l. f y ∷ l) (told_more f ys x)

-- ---- at a place

pub nobody_told : (w : Watching) (l : List (List ℕ × List Call)) (o : Option Client) → o ≡ None → l ≡ l ++ answer_at w o
nobody_told w l o none = sym (append-nil l) ∙ ap (λ x. l ++ answer_at w x) (sym none)

pub none_told : (w : Watching) (l : List (List ℕ × List Call)) (o : Option Client) (client : Client) (calls : List Call) → o ≡ Some client → calls ≡ calls_of w client.chains
    → (length calls == 0) ≡ true → l ≡ l ++ answer_at w o
none_told w l o client calls at is none =
    sym (append-nil l)
    ∙ ap (λ x. l ++ x) (sym (entitled_none client.name calls none) ∙ ap (entitled client.name) is)
    ∙ ap (λ x. l ++ answer_at w x) (sym at)

pub one_told : (w : Watching) (o : Option Client) (client : Client) (calls : List Call) → o ≡ Some client → calls ≡ calls_of w client.chains
    → (length calls == 0) ≡ false → (client.name, calls) ∷ [] ≡ answer_at w o
one_told w o client calls at is some = entitled_some client.name calls some ∙ ap (entitled client.name) is ∙ ap (answer_at w) (sym at)
