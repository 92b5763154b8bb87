-- What a root wants, its partner's table takes.
use Rattle.std.proofs.Common.{◌≡◌, ℕ, ◌*◌, ◌<◌, ◌≤◌, Bool, true, false, ◌&&◌, List, [], ◌⊎◌, inl, inr, length, refl, sym, ◌∙◌, ap, subst, arith}
use Rattle.std.proofs.lemmas.Bool.Decides.{nat_tests}
use Rattle.std.specs.Prelude.{◌^◌, nat_lt, nat_le, Option, Some, None}
use Rattle.std.specs.Str.{bytes_eq}
use Rattle.channel_values.specs.Parts.{StateParts, state_with}
use Rattle.channel_values.specs.Spelling.{outcome}
use Rattle.channel_values.specs.declared.value.AssetOutcome.{AssetOutcome}
use Rattle.support_rules.specs.Rules.{is_same_outcome}
use Rattle.call_history.proofs.Names.{bytes_eq_self}
use Rattle.call_history.specs.declared.held_chain.Place.{Place}
use Rattle.channel_safety.proofs.Tests.{some-eq, none-eq, and-left, and-right, and-both, lt-true}
use Rattle.funding_plans.specs.Known.{FactsOf}
use Rattle.funding_plans.specs.declared.plan.Goal.{Goal}
use Rattle.ledger_channel.specs.Roots.{Direct, people, root_rows, root_takes}
use Rattle.ledger_channel.specs.Stages.{direct_with, direct_of, wanted_of_root, taken_of_root}
use Rattle.funding_plans.specs.Limits.{is_valid}
use Rattle.stage_tables.specs.Asked.{wanted_of, takes_of}
use Rattle.funding_plans.specs.Gathered.{are_few, are_final, chain_in, known_in, last_of, place_in, seat_at, seat_for, seat_if, top_of, view_in, goal_in}
use Rattle.funding_plans.specs.Rows.{wanted_in}
use Rattle.funding_plans.specs.Seats.{Seat, state_is, is_turn, repeats, final_after, has_no_data, is_now}
use Rattle.fairness_laws.proofs.Picking.{IsWanted, opens, closes, wants}
use Rattle.fairness_laws.proofs.RootWishes.{when-some}
use Rattle.script_run.specs.Taken.{OneChannel, RootsTake}

-- ---- what is taken in the three cases

-- a repeated state, in the first round or the second
repeated-taken : (e : Direct) (kept : e.over ≡ false) (next : ℕ) (before : nat_lt next (length e.channel.people) ≡ false → is_now e.channel.top (state_with next false e.channel.opening []) ≡ true)
    → root_takes e (state_with next false e.channel.opening []) ≡ true
repeated-taken e kept next before = go (nat_lt next (length e.channel.people)) refl e.pays refl
  where
    go : (b : Bool) → nat_lt next (length e.channel.people) ≡ b → (pays : Bool) → e.pays ≡ pays → root_takes e (state_with next false e.channel.opening []) ≡ true
    go true is true pays = simp (kept, is, pays, bytes_eq_self (outcome e.channel.opening))
    go true is false pays = simp (kept, is, pays, bytes_eq_self (outcome e.channel.opening))
    go false is true pays = simp (kept, is, pays)
    go false is false pays = simp (kept, is, pays, before is)

-- a final state
final-taken : (e : Direct) (kept : e.over ≡ false) (next : ℕ) (o : List AssetOutcome) → nat_lt next (length e.channel.people) ≡ false → root_takes e (state_with next true o []) ≡ true
final-taken e kept next o late = go e.pays refl
  where
    go : (pays : Bool) → e.pays ≡ pays → root_takes e (state_with next true o []) ≡ true
    go true pays = simp (kept, late, pays)
    go false pays = simp (kept, late, pays)

-- ---- and so what is wanted

same-now : (o : List AssetOutcome) (n : ℕ) (top : Option StateParts) → state_is (λ s. is_same_outcome o s.outcome) top ≡ true → is_now top (state_with n false o []) ≡ true
same-now o n None e = absurd cc
same-now o n (Some t) e = e

within : (from next until n : ℕ) → nat_lt next until ≡ true → (until ≡ n) ⊎ (until ≡ 2 * n) → next < 2 * n
within from next until n e (inl is) = let h : next < until = lt-true next until e in omega arith
within from next until n e (inr is) = let h : next < until = lt-true next until e in omega arith

late : (next n : ℕ) → nat_lt next n ≡ false → n ≤ next
late next n e = grind (arith, nat_tests)

not-early : (next n : ℕ) → n ≤ next → nat_lt next n ≡ false
not-early next n h = grind (arith, nat_tests)

module _ (d e : Direct) (s : StateParts) (kept : e.over ≡ false) (one : OneChannel d.channel e.channel d.closing) where
  repeats-taken : (from until : ℕ) → (until ≡ people d) ⊎ (until ≡ 2 * people d) → repeats from until d.channel ≡ Some s → root_takes e s ≡ true
  repeats-taken from until which r =
      let c : Seat = d.channel in
      let w = when-some (nat_le from c.next && nat_lt c.next until && is_turn c && is_valid c.opening) (state_with c.next false c.opening []) s r in
      let between = and-left (nat_le from c.next && nat_lt c.next until) (is_turn c) (and-left (nat_le from c.next && nat_lt c.next until && is_turn c) (is_valid c.opening) w.holds) in
      let few : c.next < 2 * length c.people = within from c.next until (length c.people) (and-right (nat_le from c.next) (nat_lt c.next until) between) which in
      let there : nat_lt c.next (length e.channel.people) ≡ false → is_now e.channel.top (state_with c.next false e.channel.opening []) ≡ true =
      λ past. same-now e.channel.opening c.next e.channel.top
      (subst (λ (o : List AssetOutcome). state_is (λ x. is_same_outcome o x.outcome) e.channel.top ≡ true) (sym one.opening)
      (subst (λ (t : Option StateParts). state_is (λ x. is_same_outcome c.opening x.outcome) t ≡ true) (sym one.top)
      (one.opens (late c.next (length c.people) (subst (λ (p : List (List ℕ)). nat_lt c.next (length p) ≡ false) one.people past)) few))) in
      subst (λ (x : StateParts). root_takes e x ≡ true) (ap (λ (o : List AssetOutcome). state_with c.next false o []) one.opening ∙ w.is) (repeated-taken e kept c.next there)

  final-of : (top : Option StateParts) → d.closing ≡ true → final_after d.channel top ≡ Some s → root_takes e s ≡ true
  final-of None closing f = absurd (none-eq s f)
  final-of (Some t) closing f =
      let w = when-some (has_no_data t && nat_lt d.channel.next (2 ^ 48) && is_turn d.channel) (state_with d.channel.next true t.outcome []) s f in
      let past : nat_lt d.channel.next (length e.channel.people) ≡ false =
      subst (λ (p : List (List ℕ)). nat_lt d.channel.next (length p) ≡ false) (sym one.people) (not-early d.channel.next (length d.channel.people) (one.closes closing)) in
      subst (λ (x : StateParts). root_takes e x ≡ true) w.is (final-taken e kept d.channel.next t.outcome past)

  wanted-taken : IsWanted d s → root_takes e s ≡ true
  wanted-taken (opens from until which r) = repeats-taken from until which r
  wanted-taken (closes closing held-on going f) = final-of d.channel.top closing f

-- ---- over facts

-- it is of the channel that was asked about
seat-named : (g : FactsOf) (channel : List ℕ) (opening : List AssetOutcome) (place : Option Place) (goal : Option Goal) (e : Direct) → direct_of g channel (seat_at g channel opening place) goal ≡ Some e → e.channel.name ≡ channel
seat-named g channel opening None goal e got = absurd (none-eq e got)
seat-named g channel opening (Some p) goal e got = go (are_few p.people) goal got
  where
    seat : Seat
    seat = record { name = channel; people = p.people; me = p.me; next = p.next; opening = opening; top = top_of (chain_in channel g.chains); all_final = are_final (chain_in channel g.chains); own = last_of (known_in channel g.known) }

    go : (few : Bool) (goal : Option Goal) → direct_of g channel (seat_if few seat) goal ≡ Some e → e.channel.name ≡ channel
    go false goal got = absurd (none-eq e got)
    go true None got = absurd (none-eq e got)
    go true (Some x) got = ap (λ (y : Direct). y.channel.name) (sym (some-eq (direct_with g seat x (chain_in channel g.chains) (view_in channel g.view.channels)) e got))

root-named : (g : FactsOf) (channel : List ℕ) (goal : Option Goal) (e : Direct) → direct_of g channel (seat_for g channel goal) goal ≡ Some e → e.channel.name ≡ channel
root-named g channel None e got = absurd (none-eq e got)
root-named g channel (Some goal) e got = seat-named g channel goal.opening (place_in channel g.places) (Some goal) e got

pub roots_take : RootsTake
roots_take f g channel d e s asked answered is_d is_e kept one wanted =
    let wants_it : wanted_in channel (root_rows d) ≡ Some s =
    sym (ap (wanted_of_root channel) is_d) ∙ sym (ap (wanted_of f channel) asked) ∙ wanted in
    let named : bytes_eq e.channel.name channel ≡ true = subst (λ (n : List ℕ). bytes_eq n channel ≡ true) (sym (root-named g channel (goal_in g channel) e is_e)) (bytes_eq_self channel) in
    ap (takes_of g channel s) answered ∙ ap (taken_of_root channel s) is_e ∙ and-both (bytes_eq e.channel.name channel) (root_takes e s) named (wanted-taken d e s kept one (wants d channel s wants_it).1)
