-- What is wanted on a ledger of two people moves it.
use Rattle.std.proofs.Common.{◌≡◌, ℕ, Bool, true, false, cond, ◌&&◌, List, length, refl, subst}
use Rattle.std.specs.Prelude.{Option, Some, None}
use Rattle.channel_values.specs.Outcomes.{IsOutcome}
use Rattle.channel_values.specs.Parts.{StateParts}
use Rattle.channel_values.specs.declared.value.AssetOutcome.{AssetOutcome}
use Rattle.support_rules.specs.Toward.{wanted_toward}
use Rattle.channel_safety.proofs.Tests.{none-eq, and-right}
use Rattle.funding_plans.specs.Limits.{is_valid}
use Rattle.funding_plans.specs.Outcomes as outcomes
use Rattle.funding_plans.specs.Seats.{Seat, is_turn, toward, toward_after, up_in, up_after, down_in, down_after}
use Rattle.fairness_laws.specs.LedgerKeeping.{Moves, up, down, Follows}
use Rattle.fairness_laws.specs.LedgerLending.{Lent}
use Rattle.fairness_laws.specs.LedgerWanting.{WantsOn, WantsMove}
use Rattle.fairness_laws.specs.LedgerWanting as wanting
use Rattle.fairness_laws.proofs.Ledger.Following.{follows-toward}
use Rattle.fairness_laws.proofs.Ledger.Moving.{up_is_outcome, down_is_outcome}

-- what a seat wants toward a target
pub record Aims (c : Seat) (top : StateParts) (t : List AssetOutcome) (s : StateParts) : Type 0 where
  pub valid : is_valid t ≡ true
  pub wanted : wanted_toward (length c.people) t top c.own ≡ Some s

pub aims : (c : Seat) (top : StateParts) (t : List AssetOutcome) (s : StateParts) → toward_after c (Some top) (Some t) ≡ Some s → Aims c top t s
aims c top t s e = go (is_turn c && is_valid t) refl e
  where
    go : (b : Bool) → (is_turn c && is_valid t) ≡ b → cond b (wanted_toward (length c.people) t top c.own) None ≡ Some s → Aims c top t s
    go true z h = record { valid = and-right (is_turn c) (is_valid t) z; wanted = h }
    go false z h = absurd (none-eq s h)

follows-aim : (c : Seat) (top : StateParts) (t : List AssetOutcome) (s : StateParts) → length c.people ≡ 2 → IsOutcome t → Aims c top t s → Follows top.outcome t s
follows-aim c top t s two valid a = follows-toward t valid top c.own s (subst (λ (n : ℕ). wanted_toward n t top c.own ≡ Some s) two a.wanted)

pub aims-up : (k : Lent) (top s : StateParts) → k.ledger.top ≡ Some top → toward (up_in k.child k.ledger) k.ledger ≡ Some s → Aims k.ledger top (outcomes.up k.child top.outcome) s
aims-up k top s is e = aims k.ledger top (outcomes.up k.child top.outcome) s (subst (λ (o : Option StateParts). toward_after k.ledger o (up_after k.child o) ≡ Some s) is e)

pub aims-down : (k : Lent) (ab : ℕ × ℕ) (top s : StateParts) → k.ledger.top ≡ Some top → toward (down_in k.child k.ledger (Some ab)) k.ledger ≡ Some s
    → Aims k.ledger top (outcomes.down (record k.child { a = ab.0; b = ab.1 }) top.outcome) s
aims-down k ab top s is e =
    aims k.ledger top (outcomes.down (record k.child { a = ab.0; b = ab.1 }) top.outcome) s (subst (λ (o : Option StateParts). toward_after k.ledger o (down_after k.child o (Some ab)) ≡ Some s) is e)

-- there is something to go down by
some-amounts : (k : Lent) (top s : StateParts) → k.ledger.top ≡ Some top → (ab : Option (ℕ × ℕ)) → toward (down_in k.child k.ledger ab) k.ledger ≡ Some s
    → (xy : ℕ × ℕ) × (ab ≡ Some xy)
some-amounts k top s is None e = absurd (none-eq s (subst (λ (o : Option StateParts). toward_after k.ledger o (down_after k.child o None) ≡ Some s) is e))
some-amounts k top s is (Some xy) e = (xy, refl)

pub wants_move : WantsMove
wants_move parts lends l p k s top there is top-is two valid child gives wants = go wants
  where
    go-down : (ab : ℕ × ℕ) → k.back ≡ Some ab → k.closing ≡ true → k.falls ≡ true → toward (down_in k.child k.ledger (Some ab)) k.ledger ≡ Some s → Moves parts lends l top.outcome s
    go-down ab back closing falls e =
        let a = aims-down k ab top s top-is e in
        down p k ab.0 ab.1 there is closing falls child.people (gives ab back e falls)
        (follows-aim k.ledger top (outcomes.down (record k.child { a = ab.0; b = ab.1 }) top.outcome) s two
        (down_is_outcome (record k.child { a = ab.0; b = ab.1 }) top.outcome valid a.valid) a)

    go : WantsOn k s → Moves parts lends l top.outcome s
    go (wanting.up closing early e) =
        let a = aims-up k top s top-is e in
        up p k there is closing early child.people child.sum (follows-aim k.ledger top (outcomes.up k.child top.outcome) s two (up_is_outcome k.child top.outcome valid child.named a.valid) a)
    go (wanting.down closing falls e) =
        let x = some-amounts k top s top-is k.back e in
        go-down x.0 x.1 closing falls (subst (λ (z : Option (ℕ × ℕ)). toward (down_in k.child k.ledger z) k.ledger ≡ Some s) x.1 e)
