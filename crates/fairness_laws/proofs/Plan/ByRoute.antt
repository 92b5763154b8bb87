-- What fits of a channel of two people through an intermediary fits by its route, and each ledger of the node lends.
use Rattle.std.proofs.Common.{◌≡◌, ℕ, ◌≤◌, Bool, true, false, cond, not, ◌&&◌, ◌||◌, List, [], ◌∷◌, refl, sym, ◌∙◌, subst, arith}
use Rattle.std.proofs.lemmas.Bool.{false≢true}
use Rattle.std.specs.Str.{bytes_eq}
use Rattle.channel_values.specs.Parts.{FixedParts}
use Rattle.call_history.proofs.Names.{same_bytes}
use Rattle.call_history.specs.Flows.{is_among}
use Rattle.funding_plans.specs.Known.{FactsOf}
use Rattle.fairness_laws.specs.Openings.{open_virtual}
use Rattle.network.specs.declared.command.Route.{Route}
use Rattle.network.specs.declared.command.Route.TheVariants.{Plain, Ledger, Onward}
use Rattle.stage_tables.specs.Fitting.{fits, stake, lends_if_own, both_lend, app_of, lends_virtual, one_lends, either_lends, onward_lends, route_lends, fits_route}
use Rattle.stage_tables.specs.Ledgers.{lends}
use Rattle.stage_tables.specs.declared.stake.Stake.{Stake}

-- ---- by the route

pub fits-by-route : (f : FactsOf) (route : Route) (ledgers : List ℕ × List ℕ) (guarantors : FixedParts × FixedParts) (joint channel : FixedParts) (asset : ℕ) (ab : ℕ × ℕ)
    → fits f (open_virtual route ledgers guarantors joint channel asset ab) ≡ true → fits_route f route ledgers guarantors joint channel asset ab ≡ true
unfolding fits
fits-by-route f route ledgers guarantors joint channel asset ab e = e

pub app-small : (route : Route) → app_of route ≤ 1
app-small Plain = omega arith
app-small Ledger = omega arith
app-small Onward = omega arith

-- ---- the ledgers

pub true-left : (a b : Bool) → a ≡ true → (a || b) ≡ true
true-left true b e = refl
true-left false b e = absurd (false≢true e)

both-true : (a b : Bool) → (a && b) ≡ true → (a ≡ true) × (b ≡ true)
both-true true b e = (refl, e)
both-true false b e = absurd (false≢true e)

-- each ledger of two people one of whom the node is
pub record BothLend (f : FactsOf) (ledgers : List ℕ × List ℕ) (asset : ℕ) (ab : ℕ × ℕ) (first middle second : List ℕ) : Type 0 where
  pub a : is_among f.me (first ∷ middle ∷ []) ≡ true → either_lends f ledgers.0 (stake asset first middle ab) ≡ true
  pub b : is_among f.me (middle ∷ second ∷ []) ≡ true → either_lends f ledgers.1 (stake asset middle second ab) ≡ true

one-both : (va lb la vb : Bool) → ((va && lb) || (la && vb)) ≡ true → ((la || va) ≡ true) × ((lb || vb) ≡ true)
one-both true true true vb e = (refl, refl)
one-both true true false vb e = (refl, refl)
one-both true false true true e = (refl, refl)
one-both true false true false e = absurd (false≢true e)
one-both true false false vb e = absurd (false≢true e)
one-both false true true true e = (refl, refl)
one-both false false true true e = (refl, refl)
one-both false lb true false e = absurd (false≢true e)
one-both false lb false vb e = absurd (false≢true e)

-- one of two that isn't the first is the second
other-one : (a b : Bool) → (a || (b || false)) ≡ true → a ≡ false → b ≡ true
other-one true b e none = absurd (false≢true (sym none))
other-one false true e none = refl
other-one false false e none = absurd (false≢true e)

module _ (f : FactsOf) (ledgers : List ℕ × List ℕ) (asset : ℕ) (ab : ℕ × ℕ) (first middle second : List ℕ) where
  abbrev near : Stake
  near = stake asset first middle ab

  abbrev far : Stake
  far = stake asset middle second ab

  on-roots : both_lend f ledgers asset ab first middle second ≡ true → BothLend f ledgers asset ab first middle second
  on-roots e = record {
    a = λ own. true-left (lends f ledgers.0 near) (lends_virtual f ledgers.0 near) (if-own (is_among f.me (first ∷ middle ∷ [])) (lends f ledgers.0 near) own (both-true (lends_if_own f ledgers.0 near) (lends_if_own f ledgers.1 far) e).0);
    b = λ own. true-left (lends f ledgers.1 far) (lends_virtual f ledgers.1 far) (if-own (is_among f.me (middle ∷ second ∷ [])) (lends f ledgers.1 far) own (both-true (lends_if_own f ledgers.0 near) (lends_if_own f ledgers.1 far) e).1);
  }
    where
      if-own : (own l : Bool) → own ≡ true → (not own || l) ≡ true → l ≡ true
      if-own true l o h = h
      if-own false l o h = absurd (false≢true o)

  onward : bytes_eq first second ≡ false → onward_lends f ledgers asset ab first middle second ≡ true → BothLend f ledgers asset ab first middle second
  onward differ e = by (bytes_eq f.me middle) refl (bytes_eq f.me first) refl e
    where
      by : (m : Bool) → bytes_eq f.me middle ≡ m → (o : Bool) → bytes_eq f.me first ≡ o
          → cond m (one_lends f ledgers near far) (cond o (either_lends f ledgers.0 near) (either_lends f ledgers.1 far)) ≡ true → BothLend f ledgers asset ab first middle second
      by true is o at e =
          let both = one-both (lends_virtual f ledgers.0 near) (lends f ledgers.1 far) (lends f ledgers.0 near) (lends_virtual f ledgers.1 far) e in
          record { a = λ own. both.0; b = λ own. both.1 }
      by false is true at e = record {
        a = λ own. e;
        b = λ own. absurd (false≢true (sym differ ∙ as-second (other-one (bytes_eq f.me middle) (bytes_eq f.me second) own is)));
      }
        where
          as-second : bytes_eq f.me second ≡ true → bytes_eq first second ≡ true
          as-second h = subst (λ (n : List ℕ). bytes_eq n second ≡ true) (same_bytes f.me first at) h
      by false is false at e = record {
        a = λ own. absurd (false≢true (sym is ∙ other-one (bytes_eq f.me first) (bytes_eq f.me middle) own at));
        b = λ own. e;
      }

  pub route-lends : (route : Route) → bytes_eq first second ≡ false → route_lends f route ledgers asset ab first middle second ≡ true → BothLend f ledgers asset ab first middle second
  route-lends Plain differ e = on-roots e
  route-lends Ledger differ e = on-roots e
  route-lends Onward differ e = onward differ e
