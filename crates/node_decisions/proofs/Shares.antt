-- What fits a command that opens: two people that differ share an amount.
use Rattle.std.proofs.Common.{◌≡◌, ℕ, ◌+◌, ◌-◌, ◌<◌, Bool, true, false, List, [], ◌∷◌, ◌∙◌, ap, arith}
use Rattle.std.specs.Prelude.{◌&&◌, ◌^◌, ◌==◌, not, nat_le, slice_index_or}
use Rattle.std.specs.Str.{bytes_eq}
use Rattle.std.proofs.lemmas.Bool.Decides.{nat_tests}
use Rattle.channel_values.specs.Parts.{FixedParts}
use Rattle.call_history.specs.Flows.{is_among}
use Rattle.call_history.proofs.Names.{same_bytes}
use Rattle.funding_plans.specs.Known.{FactsOf}
use Rattle.network.specs.declared.command.Route.{Route}
use Rattle.node_knowledge.specs.Taking.{CanShare}
use Rattle.stage_tables.specs.Fitting.{stake, can_share, fits_between, fits_on_ledger, is_channel_of, is_double_small, app_of, route_lends, are_route_channels, fits_route_among, fits_route}
use Rattle.stage_tables.specs.Ledgers.{are_same, lends}
use Rattle.support_rules.specs.Steps.{persons}
use Rattle.node_decisions.proofs.Tests.{left_true, right_true, not_true}

-- the first two of these people differ, and both amounts together are one
record Share (people : List (List ℕ)) (ab : ℕ × ℕ) : Type 0 where
  pub apart : bytes_eq (slice_index_or people 0 []) (slice_index_or people 1 []) ≡ false
  pub within : ab.0 + ab.1 < 2 ^ 64

small : (n : ℕ) → nat_le n (2 ^ 64 - 1) ≡ true → n < 2 ^ 64
small n e = grind (arith, nat_tests)

shares_if : (first second : List ℕ) (ab : ℕ × ℕ) → can_share first second ab ≡ true → Share (first ∷ second ∷ []) ab
shares_if first second ab e =
    record {
      apart = not_true (bytes_eq first second) (left_true (not (bytes_eq first second)) (nat_le (ab.0 + ab.1) (2 ^ 64 - 1)) e);
      within = small (ab.0 + ab.1) (right_true (not (bytes_eq first second)) (nat_le (ab.0 + ab.1) (2 ^ 64 - 1)) e);
    }

shares_between : (f : FactsOf) (ledger : List ℕ) (asset : ℕ) (ab : ℕ × ℕ) (people : List (List ℕ)) → fits_between f ledger asset ab people ≡ true → Share people ab
shares_between f ledger asset ab [] e = absurd cc
shares_between f ledger asset ab (first ∷ []) e = absurd cc
shares_between f ledger asset ab (first ∷ second ∷ []) e = shares_if first second ab (left_true (can_share first second ab) (lends f ledger (stake asset first second ab)) e)
shares_between f ledger asset ab (first ∷ second ∷ third ∷ others) e = absurd cc

pub shares_on_ledger : (f : FactsOf) (ledger : List ℕ) (fixed : FixedParts) (asset : ℕ) (ab : ℕ × ℕ) → fits_on_ledger f ledger fixed asset ab ≡ true → CanShare fixed ab
shares_on_ledger f ledger fixed asset ab e =
    let share : Share (persons fixed) ab = shares_between f ledger asset ab (persons fixed) (right_true (fixed.app == 1) (fits_between f ledger asset ab (persons fixed)) e) in
    record { apart = share.apart; within = share.within }

-- ---- virtual channels

share_alike : (people : List (List ℕ)) (first second : List ℕ) (ab : ℕ × ℕ) → are_same people (first ∷ second ∷ []) ≡ true → Share (first ∷ second ∷ []) ab → Share people ab
share_alike [] first second ab e share = absurd cc
share_alike (a ∷ []) first second ab e share = absurd (no (bytes_eq a first) e)
  where
    no : (b : Bool) → (b && false) ≡ true → ⊥
    no true n = absurd cc
    no false n = absurd cc
share_alike (a ∷ b ∷ others) first second ab e share =
    let one : a ≡ first = same_bytes a first (left_true (bytes_eq a first) (are_same (b ∷ others) (second ∷ [])) e) in
    let two : b ≡ second = same_bytes b second (left_true (bytes_eq b second) (are_same others []) (right_true (bytes_eq a first) (are_same (b ∷ others) (second ∷ [])) e)) in
    record {
      apart = ap (λ (x : List ℕ). bytes_eq x b) one ∙ (ap (λ (x : List ℕ). bytes_eq first x) two ∙ share.apart);
      within = share.within;
    }

shares_among : (f : FactsOf) (route : Route) (ledgers : List ℕ × List ℕ) (guarantors : FixedParts × FixedParts) (joint channel : FixedParts) (asset : ℕ) (ab : ℕ × ℕ) (people : List (List ℕ))
    → fits_route_among f route ledgers guarantors joint channel asset ab people ≡ true → Share (persons channel) ab
shares_among f route ledgers guarantors joint channel asset ab [] e = absurd cc
shares_among f route ledgers guarantors joint channel asset ab (first ∷ []) e = absurd cc
shares_among f route ledgers guarantors joint channel asset ab (first ∷ middle ∷ []) e = absurd cc
shares_among f route ledgers guarantors joint channel asset ab (first ∷ middle ∷ second ∷ []) e =
    let people : Bool = is_among f.me (first ∷ middle ∷ second ∷ []) in
    let sizes : Bool = can_share first second ab && is_double_small ab in
    let kinds : Bool = are_route_channels (app_of route) guarantors joint channel first middle second in
    let lent : Bool = route_lends f route ledgers asset ab first middle second in
    let guarantees : Bool = is_channel_of 2 (first ∷ middle ∷ []) guarantors.0 && is_channel_of 2 (middle ∷ second ∷ []) guarantors.1 in
    let share : Share (first ∷ second ∷ []) ab = shares_if first second ab (left_true (can_share first second ab) (is_double_small ab) (right_true people sizes (left_true (people && sizes) (kinds && lent) e))) in
    let pays : is_channel_of (app_of route) (first ∷ second ∷ []) channel ≡ true =
    right_true (joint.app == 0) (is_channel_of (app_of route) (first ∷ second ∷ []) channel)
    (right_true guarantees ((joint.app == 0) && is_channel_of (app_of route) (first ∷ second ∷ []) channel) (left_true kinds lent (right_true (people && sizes) (kinds && lent) e))) in
    share_alike (persons channel) first second ab (right_true (channel.app == app_of route) (are_same (persons channel) (first ∷ second ∷ [])) pays) share
shares_among f route ledgers guarantors joint channel asset ab (first ∷ middle ∷ second ∷ fourth ∷ others) e = absurd cc

pub shares_in_virtual : (f : FactsOf) (route : Route) (ledgers : List ℕ × List ℕ) (guarantors : FixedParts × FixedParts) (joint channel : FixedParts) (asset : ℕ) (ab : ℕ × ℕ)
    → fits_route f route ledgers guarantors joint channel asset ab ≡ true → CanShare channel ab
shares_in_virtual f route ledgers guarantors joint channel asset ab e =
    let share : Share (persons channel) ab = shares_among f route ledgers guarantors joint channel asset ab (persons joint) e in
    record { apart = share.apart; within = share.within }
