-- What a root's stage takes and wants in the first round repeats the opening outcome.
use Rattle.std.proofs.Common.{◌≡◌, ℕ, ◌<◌, Bool, true, false, cond, ◌&&◌, ◌||◌, List, [], inl, inr, length, sym, ◌∙◌, ap, subst}
use Rattle.std.specs.Prelude.{nat_le, nat_lt, Some, None}
use Rattle.std.specs.Str.{bytes_eq}
use Rattle.channel_values.specs.Parts.{StateParts, state_with}
use Rattle.channel_values.specs.Spelling.{outcome}
use Rattle.support_rules.specs.Ballots.{ballot_of}
use Rattle.call_history.proofs.Names.{bytes_eq_self}
use Rattle.channel_store.specs.declared.kept.Kept.{Kept}
use Rattle.funding_plans.specs.declared.plan.Goal.{Goal}
use Rattle.funding_plans.specs.Limits.{is_valid}
use Rattle.funding_plans.specs.Gathered as gathered
use Rattle.funding_plans.specs.Seats.{Seat, is_opening, is_turn, is_now, is_spelled, takes_ballot}
use Rattle.ledger_channel.specs.Roots.{Direct, root_takes}
use Rattle.ledger_channel.specs.Stages.{direct_with, direct_of, taken_of_root, wanted_of_root}
use Rattle.stage_tables.specs.Asked.{wanted_of, takes_of}
use Rattle.channel_node.specs.Minds.{Mind, facts_of}
use Rattle.support_rules.specs.Steps.{persons}
use Rattle.channel_safety.proofs.Tests.{none-eq, and-right, clash}
use Rattle.fairness_laws.specs.Roots.{is_repeated, RootsOpenAsCommanded}
use Rattle.fairness_laws.proofs.Carrying.{low}
use Rattle.fairness_laws.proofs.Picking.{IsWanted, opens, closes, wants}
use Rattle.fairness_laws.proofs.RootWishes.{seat, as-many, direct-found, when-some}

-- a state of the first round is taken by the first line of either table
first-line : (pays early opening other vote : Bool) → cond pays (cond early opening other) (cond early opening vote) ≡ true → early ≡ true → opening ≡ true
first-line true true opening other vote e is = e
first-line false true opening other vote e is = e
first-line true false opening other vote e is = absurd cc
first-line false false opening other vote e is = absurd cc

takes-opening : (d : Direct) (s : StateParts) → root_takes d s ≡ true → nat_lt s.turn (length d.channel.people) ≡ true → is_opening d.channel s ≡ true
takes-opening d s e early = held-on d.over e
  where
    vote : Bool
    vote = s.is_final || ((is_now d.channel.top s || is_spelled None (outcome s.outcome)) && takes_ballot (is_spelled None) (ballot_of (length d.channel.people) s.app_bytes))

    go : (pays first : Bool) → first ≡ true → cond pays (cond first (is_opening d.channel s) true) (cond first (is_opening d.channel s) vote) ≡ true → is_opening d.channel s ≡ true
    go pays first is e = first-line pays first (is_opening d.channel s) true vote e is

    held-on : (over : Bool) → cond over false (cond d.pays (cond (nat_lt s.turn (length d.channel.people)) (is_opening d.channel s) true) (cond (nat_lt s.turn (length d.channel.people)) (is_opening d.channel s) vote)) ≡ true
        → is_opening d.channel s ≡ true
    held-on true e = absurd cc
    held-on false e = go d.pays (nat_lt s.turn (length d.channel.people)) early e

wants-opening : (d : Direct) (s : StateParts) → d.closing ≡ false → IsWanted d s → is_repeated d.channel.opening s ≡ true
wants-opening d s stays (closes closing held-on going e) = absurd (clash d.closing closing stays)
wants-opening d s stays (opens from until which e) =
    let w = when-some (nat_le from d.channel.next && nat_lt d.channel.next until && is_turn d.channel && is_valid d.channel.opening) (state_with d.channel.next false d.channel.opening []) s e in
    subst (λ (x : StateParts). is_repeated d.channel.opening x ≡ true) w.is
    (ap (λ (b : Bool). b && true) (bytes_eq_self (outcome d.channel.opening)))

module _ (m : Mind) (channel : List ℕ) (g : Goal) (k : Kept) (s : StateParts) where
  abbrev own : Seat
  own = seat k g channel (gathered.chain_in channel (facts_of m).chains) (gathered.last_of (gathered.known_in channel (facts_of m).known))

  abbrev root : Direct
  root = direct_with (facts_of m) own g (gathered.chain_in channel (facts_of m).chains) (gathered.view_in channel (facts_of m).view.channels)

  takes : (few : Bool) → nat_lt s.turn (length (persons k.chain.fixed)) ≡ true
      → taken_of_root channel s (direct_of (facts_of m) channel (gathered.seat_if few own) (Some g)) ≡ true → is_repeated g.opening s ≡ true
  takes false early e = absurd cc
  takes true early e = takes-opening root s (and-right (bytes_eq channel channel) (root_takes root s) e) early

  wanting : (few : Bool) → g.closing ≡ false → wanted_of_root channel (direct_of (facts_of m) channel (gathered.seat_if few own) (Some g)) ≡ Some s → is_repeated g.opening s ≡ true
  wanting false stays e = absurd (none-eq s e)
  wanting true stays e = wants-opening root s stays (wants root channel s e).1

pub open_as_commanded : RootsOpenAsCommanded
open_as_commanded m channel g k s asked goal keeps early (inl e) =
    takes m channel g k s (gathered.are_few (persons k.chain.fixed)) (low s.turn (length (persons k.chain.fixed)) (subst (λ (n : ℕ). s.turn < n) (sym (as-many k)) early))
    (sym (ap (taken_of_root channel s) (direct-found m channel g k goal keeps)) ∙ (sym (ap (takes_of (facts_of m) channel s) asked) ∙ e))
open_as_commanded m channel g k s asked goal keeps early (inr e) =
    wanting m channel g k s (gathered.are_few (persons k.chain.fixed)) e.0
    (sym (ap (wanted_of_root channel) (direct-found m channel g k goal keeps)) ∙ (sym (ap (wanted_of (facts_of m) channel) asked) ∙ e.1))
