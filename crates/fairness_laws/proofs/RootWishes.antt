-- A root's wishes pass the guard.
use Rattle.std.proofs.Common.{◌≡◌, ℕ, ◌*◌, ◌%◌, ◌<◌, ◌≤◌, Bool, true, false, cond, ◌&&◌, not, List, [], ◌∷◌, ◌⊎◌, inl, inr, length, refl, sym, ◌∙◌, ap, subst, arith}
use Rattle.std.proofs.lemmas.Bool.Decides.{nat_tests}
use Rattle.std.proofs.lemmas.List.{length-map}
use Rattle.std.specs.Prelude.{◌==◌, ◌^◌, nat_lt, nat_le, Option, Some, None, is_none}
use Rattle.std.specs.List.{list_all}
use Rattle.channel_values.specs.Parts.{StateParts, state_with}
use Rattle.channel_values.specs.Digests.{name_of_person}
use Rattle.channel_values.specs.Rows.{mover}
use Rattle.channel_values.specs.Rules.{people, newest}
use Rattle.call_history.specs.declared.event.NodeRefusal.{NodeRefusal}
use Rattle.call_history.specs.declared.event.NodeRefusal.TheVariants.{NotOpen}
use Rattle.call_history.specs.declared.held_chain.HeldChain.{HeldChain}
use Rattle.call_history.specs.declared.held_chain.Place.{Place}
use Rattle.call_history.specs.declared.view.ChannelView.{ChannelView}
use Rattle.support_rules.specs.Real.{real}
use Rattle.support_rules.specs.Steps.{persons}
use Rattle.channel_safety.specs.Journals.{In}
use Rattle.channel_store.specs.Keeping.{is_held, is_ended, next_of}
use Rattle.channel_store.specs.Storing.{kept_of}
use Rattle.channel_store.specs.declared.kept.Kept.{Kept}
use Rattle.funding_plans.specs.Known.{FactsOf}
use Rattle.funding_plans.specs.declared.plan.Goal.{Goal}
use Rattle.funding_plans.specs.declared.plan.Part.{Part}
use Rattle.funding_plans.specs.declared.plan.Part.TheVariants.{Root}
use Rattle.funding_plans.specs.Limits.{is_valid}
use Rattle.funding_plans.specs.Gathered as gathered
use Rattle.funding_plans.specs.Seats.{Seat, has_no_data, when, final_after}
use Rattle.ledger_channel.specs.Roots.{Direct}
use Rattle.ledger_channel.specs.Stages.{direct_with, direct_of, direct_in, stage_of_root, wanted_of_root}
use Rattle.stage_tables.specs.Asked.{wanted_of}
use Rattle.channel_node.specs.Minds.{Mind, facts_of}
use Rattle.channel_node.specs.Refusing.{is_open, stands_in, first_fault, not_open_in, not_open_part, not_open, wish_staying, follows, can_sign, if_signable, signs_of}
use Rattle.fairness_laws.specs.Table.{stages}
use Rattle.channel_node.proofs.Allowing.{first_none, rest_none, holds_not}
use Rattle.channel_safety.proofs.Tests.{some-eq, none-eq, and-left, and-right, and-both, cond-true, cond-false, not-false, lt-true, le-true}
use Rattle.fairness_laws.specs.Roots.{SetsUp, RootsSignWhatTheyWant}
use Rattle.fairness_laws.proofs.Finding.{held_of, place-found, chain-found, asked-there}
use Rattle.fairness_laws.proofs.Picking.{IsWanted, opens, closes, wants}
use Rattle.fairness_laws.proofs.Guarding.{opening-follows, final-follows}

-- ---- tests

pub record Whens (b : Bool) (t s : StateParts) : Type 0 where
  pub holds : b ≡ true
  pub is : t ≡ s

pub when-some : (b : Bool) (t s : StateParts) → when b t ≡ Some s → Whens b t s
when-some true t s e = record { holds = refl; is = some-eq t s e }
when-some false t s e = absurd (none-eq s e)

record Clear (o : Option NodeRefusal) (w : Option StateParts) (s : StateParts) : Type 0 where
  clear : o ≡ None
  wanted : w ≡ Some s

-- it didn't leave
staying : (left : Bool) (w : Option StateParts) (s : StateParts) → cond left None w ≡ Some s → w ≡ Some s
staying true w s e = absurd (none-eq s e)
staying false w s e = e

clear-of : (o : Option NodeRefusal) (w : Option StateParts) (s : StateParts) → cond (is_none o) w None ≡ Some s → Clear o w s
clear-of None w s e = record { clear = refl; wanted = e }
clear-of (Some fault) w s e = absurd (none-eq s e)

clear-part : (fault : Part → Option NodeRefusal) (parts : List Part) (p : Part) → In p parts → first_fault fault parts ≡ None → fault p ≡ None
clear-part fault [] p i e = absurd i
clear-part fault (q ∷ qs) p (inl is) e = ap fault is ∙ first_none (fault q) (first_fault fault qs) e
clear-part fault (q ∷ qs) p (inr i) e = clear-part fault qs p i (rest_none (fault q) (first_fault fault qs) e)

same-number : (a : ℕ) → (a == a) ≡ true
same-number a = grind (arith, nat_tests)

-- ---- the seat

abbrev pub seat : Kept → Goal → List ℕ → Option HeldChain → Option StateParts → Seat
seat k g channel h own =
    record { name = channel; people = persons k.chain.fixed; me = k.me; next = next_of k; opening = g.opening; top = gathered.top_of h; all_final = gathered.are_final h; own = own }

pub as-many : (k : Kept) → length (persons k.chain.fixed) ≡ people k.chain.fixed
as-many k = length-map k.chain.fixed.keys name_of_person

-- what a wish says of the state
record Signable (k : Kept) (s : StateParts) : Type 0 where
  turn : s.turn ≡ next_of k
  mine : (mover (people k.chain.fixed) (next_of k) == k.me) ≡ true
  comes : follows real k s ≡ true

own-turn : (k : Kept) → (next_of k % length (persons k.chain.fixed) == k.me) ≡ true → (mover (people k.chain.fixed) (next_of k) == k.me) ≡ true
own-turn k e = subst (λ (n : ℕ). (next_of k % n == k.me) ≡ true) (as-many k) e

opening-signable : (g : Goal) (k : Kept) (s : StateParts) (from until : ℕ) → SetsUp g k → until ≤ 2 * people k.chain.fixed
    → when (nat_le from (next_of k) && nat_lt (next_of k) until && (next_of k % length (persons k.chain.fixed) == k.me) && is_valid g.opening) (state_with (next_of k) false g.opening []) ≡ Some s → Signable k s
opening-signable g k s from until su few e =
    let w = when-some (nat_le from (next_of k) && nat_lt (next_of k) until && (next_of k % length (persons k.chain.fixed) == k.me) && is_valid g.opening) (state_with (next_of k) false g.opening []) s e in
    let turns = and-left (nat_le from (next_of k) && nat_lt (next_of k) until && (next_of k % length (persons k.chain.fixed) == k.me)) (is_valid g.opening) w.holds in
    let between = and-left (nat_le from (next_of k) && nat_lt (next_of k) until) (next_of k % length (persons k.chain.fixed) == k.me) turns in
    let small : next_of k < until = lt-true (next_of k) until (and-right (nat_le from (next_of k)) (nat_lt (next_of k) until) between) in
    record {
      turn = sym (ap (λ (x : StateParts). x.turn) w.is);
      mine = own-turn k (and-right (nat_le from (next_of k) && nat_lt (next_of k) until) (next_of k % length (persons k.chain.fixed) == k.me) turns);
      comes = subst (λ (x : StateParts). follows real k x ≡ true) w.is (opening-follows g k su (below (next_of k) until (2 * people k.chain.fixed) small few));
    }
  where
    below : (a b c : ℕ) → a < b → b ≤ c → a < c
    below a b c p q = omega arith

final-signable : (g : Goal) (k : Kept) (s t : StateParts) → SetsUp g k → g.closing ≡ true → g.over ≡ false → newest k.chain.states ≡ Some t → is_ended k ≡ false
    → when (has_no_data t && nat_lt (next_of k) (2 ^ 48) && (next_of k % length (persons k.chain.fixed) == k.me)) (state_with (next_of k) true t.outcome []) ≡ Some s → Signable k s
final-signable g k s t su closing held-on newest-is going e =
    let w = when-some (has_no_data t && nat_lt (next_of k) (2 ^ 48) && (next_of k % length (persons k.chain.fixed) == k.me)) (state_with (next_of k) true t.outcome []) s e in
    let bare = and-left (has_no_data t) (nat_lt (next_of k) (2 ^ 48)) (and-left (has_no_data t && nat_lt (next_of k) (2 ^ 48)) (next_of k % length (persons k.chain.fixed) == k.me) w.holds) in
    record {
      turn = sym (ap (λ (x : StateParts). x.turn) w.is);
      mine = own-turn k (and-right (has_no_data t && nat_lt (next_of k) (2 ^ 48)) (next_of k % length (persons k.chain.fixed) == k.me) w.holds);
      comes = subst (λ (x : StateParts). follows real k x ≡ true) w.is (final-follows g k t su closing held-on newest-is going bare);
    }

-- the top of the held chain, where the row of closing wants something
after-top : (g : Goal) (k : Kept) (s : StateParts) → SetsUp g k → g.closing ≡ true → g.over ≡ false → (held : Bool) → is_held k ≡ held
    → gathered.are_final (cond held (Some (record { channel = k.channel; chain = k.chain })) None) ≡ false → (top : Option StateParts)
    → gathered.top_of (cond held (Some (record { channel = k.channel; chain = k.chain })) None) ≡ top
    → (own : Option StateParts) (channel : List ℕ) (h : Option HeldChain) → final_after (seat k g channel h own) top ≡ Some s → Signable k s
after-top g k s su closing held-on held is going None t own channel h e = absurd (none-eq s e)
after-top g k s su closing held-on false is going (Some top) t own channel h e = absurd (none-eq top t)
after-top g k s su closing held-on true is going (Some top) t own channel h e =
    final-signable g k s top su closing held-on t (ap (λ (b : Bool). b && all-final) is ∙ going) e
  where
    all-final : Bool
    all-final = list_all (λ x. x.is_final) k.chain.states

signable : (f : FactsOf) (g : Goal) (k : Kept) (s : StateParts) (channel : List ℕ) (h : Option HeldChain) (own : Option StateParts) (hc : Option HeldChain) (v : Option ChannelView)
    → 2 ≤ people k.chain.fixed → SetsUp g k → h ≡ held_of k → IsWanted (direct_with f (seat k g channel h own) g hc v) s → Signable k s
signable f g k s channel h own hc v several su is (opens from until which e) = opening-signable g k s from until su (few which) e
  where
    few : (until ≡ length (persons k.chain.fixed)) ⊎ (until ≡ 2 * length (persons k.chain.fixed)) → until ≤ 2 * people k.chain.fixed
    few (inl u) = let n : length (persons k.chain.fixed) ≡ people k.chain.fixed = as-many k in omega arith
    few (inr u) = let n : length (persons k.chain.fixed) ≡ people k.chain.fixed = as-many k in omega arith
signable f g k s channel h own hc v several su is (closes closing held-on going e) =
    after-top g k s su closing held-on (is_held k) refl (sym (ap gathered.are_final is) ∙ going) (gathered.top_of h) (sym (ap gathered.top_of is)) own channel h e

-- what the facts say of a root that is kept
pub direct-found : (m : Mind) (channel : List ℕ) (g : Goal) (k : Kept) → gathered.goal_in (facts_of m) channel ≡ Some g → kept_of channel m.kept ≡ Some k
    → direct_in (facts_of m) channel ≡ direct_of (facts_of m) channel (gathered.seat_if (gathered.are_few (persons k.chain.fixed))
    (seat k g channel (gathered.chain_in channel (facts_of m).chains) (gathered.last_of (gathered.known_in channel (facts_of m).known)))) (Some g)
direct-found m channel g k goal kept =
    ap (λ (o : Option Goal). direct_of (facts_of m) channel (gathered.seat_for (facts_of m) channel o) o) goal
    ∙ ap (λ (p : Option Place). direct_of (facts_of m) channel (gathered.seat_at (facts_of m) channel g.opening p) (Some g)) (place-found channel m.kept k kept)

-- ---- the law

module _ (m : Mind) (channel : List ℕ) (g : Goal) (k : Kept) (s : StateParts) where
  abbrev f : FactsOf
  f = facts_of m

  abbrev h : Option HeldChain
  h = gathered.chain_in channel f.chains

  abbrev own : Option StateParts
  own = gathered.last_of (gathered.known_in channel f.known)

  abbrev view : Option ChannelView
  view = gathered.view_in channel f.view.channels

  -- the stage isn't the last, and what is wanted can be signed
  record Passes : Type 0 where
    early : (stage_of_root (direct_in f channel) == 6) ≡ false
    signs : Signable k s

  passes : (few : Bool) → gathered.are_few (persons k.chain.fixed) ≡ few → SetsUp g k → h ≡ held_of k
      → direct_in f channel ≡ direct_of f channel (gathered.seat_if few (seat k g channel h own)) (Some g)
      → wanted_of_root channel (direct_in f channel) ≡ Some s → Passes
  passes false few su is d e = absurd (none-eq s (sym (ap (wanted_of_root channel) d) ∙ e))
  passes true few su is d e =
      let found = wants (direct_with f (seat k g channel h own) g h view) channel s (sym (ap (wanted_of_root channel) d) ∙ e) in
      let many : length (persons k.chain.fixed) ≡ people k.chain.fixed = as-many k in
      let several = le-true 2 (length (persons k.chain.fixed)) (and-left (nat_le 2 (length (persons k.chain.fixed))) (nat_le (length (persons k.chain.fixed)) 4) few) in
      record {
        early = ap (λ (o : Option Direct). stage_of_root o == 6) d ∙ found.0;
        signs = signable f g k s channel h own h view (subst (λ (n : ℕ). 2 ≤ n) many several) su is found.1;
      }

  stands-open : (stage_of_root (direct_in f channel) == 6) ≡ false → In (Root channel) m.parts → not_open stages f ≡ None → is_open (stands_in f channel) ≡ true
  stands-open early there clear =
      let part = clear-part (not_open_part stages f) m.parts (Root channel) there clear in
      let joined = sym (cond-false (stage_of_root (direct_in f channel) == 6) None (first_fault (not_open_in f) (channel ∷ [])) early) ∙ part in
      not-false (is_open (stands_in f channel)) (holds_not (not (is_open (stands_in f channel))) (NotOpen channel (stands_in f channel)) (first_none (not_open_in f channel) None joined))

pub roots_sign : RootsSignWhatTheyWant
roots_sign m channel g k s apart asked goal kept su wanted =
    let w = clear-of (not_open stages (facts_of m)) (stages.wanted (facts_of m) channel) s (staying m.left (wish_staying stages None m channel k) s wanted) in
    let d = direct-found m channel g k goal kept in
    let by-root = sym (ap (wanted_of (facts_of m) channel) asked) ∙ w.wanted in
    let p = passes m channel g k s (gathered.are_few (persons k.chain.fixed)) refl su (chain-found channel m.kept k apart kept) d by-root in
    let can : can_sign real (facts_of m) channel k s ≡ true =
    and-both (follows real k s) (((s.turn == next_of k) && (mover (people k.chain.fixed) s.turn == k.me)) && is_open (stands_in (facts_of m) channel)) p.signs.comes
    (and-both ((s.turn == next_of k) && (mover (people k.chain.fixed) s.turn == k.me)) (is_open (stands_in (facts_of m) channel))
    (subst (λ (n : ℕ). ((n == next_of k) && (mover (people k.chain.fixed) n == k.me)) ≡ true) (sym p.signs.turn)
    (and-both (next_of k == next_of k) (mover (people k.chain.fixed) (next_of k) == k.me) (same-number (next_of k)) p.signs.mine))
    (stands-open m channel g k s p.early (asked-there (facts_of m) channel (Root channel) asked) w.clear)) in
    ap (signs_of stages real None m channel) kept
    ∙ (ap (if_signable real (facts_of m) channel k) wanted ∙ cond-true (can_sign real (facts_of m) channel k s) (Some s) None can)
