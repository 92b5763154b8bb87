-- One more call, as at a step of a loop that numbers calls.
use Rattle.std.proofs.Common.{◌≡◌, ℕ, suc, ◌+◌, ◌<◌, ◌≤◌, List, [], ◌∷◌, ◌++◌, take, get_or, length, refl, sym, ◌∙◌, ap, add-one, take-suc, arith}
use Rattle.std.proofs.lemmas.List.{append_assoc, length-take-le}
use Rattle.call_history.specs.declared.call.Call.{Call}
use Rattle.node_lines.specs.declared.effects.Effect.{Effect}
use Rattle.node_lines.specs.declared.effects.Effect.TheVariants as effects
use Rattle.lasting_node.specs.Effects.{calls}
use Rattle.lasting_node.specs.InFlight.{numbered}
use Rattle.lasting_node.specs.declared.in_flight.InFlight.{InFlight}

-- items that have places, which count from that of the first
abbrev placed : {A : Type 0} → (ℕ → Call → A) → ℕ → List Call → List A
placed make place [] = []
placed make place (call ∷ more) = make place call ∷ placed make (suc place) more

placed-append : {A : Type 0} (make : ℕ → Call → A) (place : ℕ) (xs ys : List Call)
    → placed make place (xs ++ ys) ≡ placed make place xs ++ placed make (place + length xs) ys
placed-append make place [] ys =
    let e : place ≡ place + 0 = omega arith in
    ap (λ (n : ℕ). placed make n ys) e
placed-append make place (x ∷ xs) ys =
    let e : suc place + length xs ≡ place + suc (length xs) = omega arith in
    ap (λ z. make place x ∷ z) (placed-append make (suc place) xs ys ∙ ap (λ (n : ℕ). placed make (suc place) xs ++ placed make n ys) e)

placed-step : {A : Type 0} (make : ℕ → Call → A) (old : List A) (place : ℕ) (xs : List Call) (i : ℕ) (d : Call) → i < length xs
    → old ++ placed make place (take (i + 1) xs) ≡ (old ++ placed make place (take i xs)) ++ make (place + i) (get_or xs i d) ∷ []
placed-step make old place xs i d l =
    let one : take (i + 1) xs ≡ take i xs ++ get_or xs i d ∷ [] = rw add-one (take-suc xs i d l) in
    let le : i ≤ length xs = omega (arith, l) in
    let many : length (take i xs) ≡ i = length-take-le i xs le in
    ap (λ z. old ++ placed make place z) one
    ∙ ap (λ z. old ++ z) (placed-append make place (take i xs) (get_or xs i d ∷ []))
    ∙ ap (λ (n : ℕ). old ++ (placed make place (take i xs) ++ make (place + n) (get_or xs i d) ∷ [])) many
    ∙ sym (append_assoc old (placed make place (take i xs)) (make (place + i) (get_or xs i d) ∷ []))

numbered-placed : (event place : ℕ) (xs : List Call) → numbered event place xs ≡ placed (λ n call. record { event = event; place = n; call = call }) place xs
numbered-placed event place [] = refl
numbered-placed event place (x ∷ xs) =
    ap (λ (z : List InFlight). record { event = event; place = place; call = x } ∷ z) (numbered-placed event (suc place) xs)

calls-placed : (place : ℕ) (xs : List Call) → calls place xs ≡ placed effects.Call place xs
calls-placed place [] = refl
calls-placed place (x ∷ xs) = ap (λ (z : List Effect). effects.Call place x ∷ z) (calls-placed (suc place) xs)

pub numbered_step : (event place : ℕ) (old : List InFlight) (xs : List Call) (i : ℕ) (d : Call) → i < length xs
    → old ++ numbered event place (take (i + 1) xs)
    ≡ (old ++ numbered event place (take i xs)) ++ record { event = event; place = place + i; call = get_or xs i d } ∷ []
numbered_step event place old xs i d l =
    let make : ℕ → Call → InFlight = λ n call. record { event = event; place = n; call = call } in
    ap (λ (z : List InFlight). old ++ z) (numbered-placed event place (take (i + 1) xs))
    ∙ placed-step make old place xs i d l
    ∙ ap (λ (z : List InFlight). (old ++ z) ++ make (place + i) (get_or xs i d) ∷ []) (sym (numbered-placed event place (take i xs)))

pub calls_step : (place : ℕ) (old : List Effect) (xs : List Call) (i : ℕ) (d : Call) → i < length xs
    → old ++ calls place (take (i + 1) xs) ≡ (old ++ calls place (take i xs)) ++ effects.Call (place + i) (get_or xs i d) ∷ []
calls_step place old xs i d l =
    ap (λ (z : List Effect). old ++ z) (calls-placed place (take (i + 1) xs))
    ∙ placed-step effects.Call old place xs i d l
    ∙ ap (λ (z : List Effect). (old ++ z) ++ effects.Call (place + i) (get_or xs i d) ∷ []) (sym (calls-placed place (take i xs)))
