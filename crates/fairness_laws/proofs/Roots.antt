-- What a channel that holds its own funds wants keeps the share.
use Rattle.std.proofs.Common.{◌≡◌, ℕ, ◌*◌, ◌≤◌, Bool, true, false, cond, ◌&&◌, ◌||◌, List, [], ◌∷◌, ◌⊎◌, inl, inr, length, refl, sym, ◌∙◌, ap, subst, arith}
use Rattle.std.specs.Prelude.{Option, Some, None}
use Rattle.std.specs.Option.{option_or}
use Rattle.std.specs.Str.{bytes_eq}
use Rattle.channel_values.specs.Parts.{FixedParts, StateParts, IsState}
use Rattle.channel_values.specs.Digests.{name_of_person}
use Rattle.channel_safety.proofs.Tests.{some-eq, none-eq, and-left}
use Rattle.call_history.proofs.Names.{same_bytes}
use Rattle.call_history.specs.Flows.{is_among}
use Rattle.call_history.specs.History.{mode}
use Rattle.call_history.specs.declared.entry.Entry.{Entry}
use Rattle.channel_values.specs.Rules.{people}
use Rattle.call_history.specs.Mode.{is_final}
use Rattle.funding_plans.specs.Known.{FactsOf}
use Rattle.funding_plans.specs.Parts.{joined_of, ledgers_of}
use Rattle.funding_plans.specs.declared.plan.Part.{Part}
use Rattle.funding_plans.specs.declared.plan.Part.TheVariants.{Root}
use Rattle.ledger_channel.specs.Roots.{Direct, root_rows}
use Rattle.ledger_channel.specs.Roots as roots
use Rattle.ledger_channel.specs.Stages.{wanted_of_root}
use Rattle.channel_safety.specs.Held.{held}
use Rattle.channel_node.specs.Minds.{facts_of}
use Rattle.channel_node.specs.Places.{Told, lines_of, mind_at}
use Rattle.channel_node.specs.Playing.{Signing}
use Rattle.node_guarantees.specs.Orders.{orders_of}
use Rattle.fairness_laws.proofs.Seat.Past.{people-are}
use Rattle.fairness_laws.specs.PaymentLaws.{At}
use Rattle.fairness_laws.proofs.Plan.Parts.{parts_are_known}
use Rattle.fairness_laws.specs.PlanLaws.{PartAt}
use Rattle.fairness_laws.specs.PlanParts.{RootIs}
use Rattle.fairness_laws.specs.PlanSeats.{SeatIs}
use Rattle.fairness_laws.specs.PlanSettings.{IsFair}
use Rattle.stage_tables.specs.Asked.{is_unfinished, unfinished_on, part_with, wanted_of, asked_in, wanted_in}
use Rattle.fairness_laws.proofs.Seat.Sitting.{repeats_are_fair, finals_are_fair}
use Rattle.fairness_laws.specs.SeatSitting.{Sits}
use Rattle.share_laws.specs.Fairly.{Wants}
use Rattle.share_laws.specs.Signatures.{IsOwn}
use Rattle.funding_plans.specs.Gathered.{goal_in}
use Rattle.funding_plans.specs.Rows as rows
use Rattle.support_rules.specs.Real.{real}
use Rattle.fairness_laws.proofs.Finding.{asked-there}
use Rattle.fairness_laws.proofs.RootOpening.{root-opens}
use Rattle.fairness_laws.proofs.Picking.{IsWanted, opens, closes, wants}
use Rattle.fairness_laws.specs.Carried.{IsRepeatedIfAny}
use Rattle.fairness_laws.specs.FairLaws.{RootsWantFairly}
use Rattle.fairness_laws.proofs.Channels.{one-named, channel-of, carried}
use Rattle.fairness_laws.proofs.Plan.Holding.{Holds}
use Rattle.fairness_laws.proofs.Signing.{sits, kept-of}

-- a root is asked about its own channel alone
pub asked-own : (f : FactsOf) (c name : List ℕ) → asked_in f c ≡ Some (Root name) → c ≡ name
asked-own f c name e = by (unfinished_on f c f.plan.parts) refl e
  where
    never : (ps : List Part) → unfinished_on f c ps ≡ Some (Root name) → ⊥
    never [] e = none-eq (Root name) e
    never (p ∷ ps) e = go (is_among c (ledgers_of p) && is_unfinished f p) refl (never ps) e
      where
        stands : Part → Bool
        stands q = is_among c (ledgers_of q)

        go : (b : Bool) → (is_among c (ledgers_of p) && is_unfinished f p) ≡ b → (unfinished_on f c ps ≡ Some (Root name) → ⊥) → cond b (Some p) (unfinished_on f c ps) ≡ Some (Root name) → ⊥
        go true on ih h = absurd (false-true (sym (ap (λ (q : Part). is_among c (ledgers_of q)) (some-eq p (Root name) h)) ∙ and-left (is_among c (ledgers_of p)) (is_unfinished f p) on))
          where
            false-true : false ≡ true → ⊥
            false-true e = cc
        go false on ih h = ih h

    with : (ps : List Part) → part_with c ps ≡ Some (Root name) → c ≡ name
    with [] e = absurd (none-eq (Root name) e)
    with (p ∷ ps) e = go (is_among c (joined_of p)) refl (with ps) e
      where
        go : (b : Bool) → is_among c (joined_of p) ≡ b → (part_with c ps ≡ Some (Root name) → c ≡ name) → cond b (Some p) (part_with c ps) ≡ Some (Root name) → c ≡ name
        go true on ih h = here (bytes_eq c name) refl (sym (ap (λ (q : Part). is_among c (joined_of q)) (some-eq p (Root name) h)) ∙ on)
          where
            here : (b : Bool) → bytes_eq c name ≡ b → (bytes_eq c name || false) ≡ true → c ≡ name
            here true is k = same_bytes c name is
            here false is k = absurd (no (sym (ap (λ (t : Bool). t || false) is) ∙ k))
              where
                no : false ≡ true → ⊥
                no e = cc
        go false on ih h = ih h

    by : (o : Option Part) → unfinished_on f c f.plan.parts ≡ o → option_or o (part_with c f.plan.parts) ≡ Some (Root name) → c ≡ name
    by None is e = with f.plan.parts e
    by (Some p) is e = absurd (never f.plan.parts (is ∙ e))

module _ (s : Signing) (h : List Entry) (journal : List Told) (fair : IsFair s h journal) (past : List Entry) (front : List Told) (at : At s h journal past front)
    (f : FixedParts) (state : StateParts) (own : IsOwn real (lines_of s.key front) f) (valid : IsState state) (going : is_final (mode real (real.named f) past) ≡ false) where
  abbrev facts : FactsOf
  facts = facts_of (mind_at real s.key past front)

  wants-fairly : (name : List ℕ) → real.named f ≡ name → asked_in facts (real.named f) ≡ Some (Root name) → wanted_in facts (real.named f) ≡ Some state → PartAt s past front (Root name)
      → Wants real (name_of_person s.key) (orders_of real s.key journal) past (lines_of s.key front) f state
  wants-fairly name named asked wanted p = by-row (wants r.direct (real.named f) state by-root).1
    where
      r : RootIs s.key past (lines_of s.key front) facts name p.goal
      r = p.is

      by-root : rows.wanted_in (real.named f) (root_rows r.direct) ≡ Some state
      by-root = sym (ap (wanted_of_root (real.named f)) r.is) ∙ (sym (ap (wanted_of facts (real.named f)) asked) ∙ wanted)

      same : r.fixed ≡ f
      same = one-named (lines_of s.key front) r.fixed f r.seat.own own (r.named ∙ sym named)

      seat : SeatIs s.key past (lines_of s.key front) f p.goal.opening r.direct.channel
      seat = subst (λ (g : FixedParts). SeatIs s.key past (lines_of s.key front) g p.goal.opening r.direct.channel) same r.seat

      sit : Sits s.key (orders_of real s.key journal) past (lines_of s.key front) f p.goal.opening r.direct.channel
      sit = sits s h journal fair past front at f p.goal.opening r.direct.channel seat going

      many : length r.direct.channel.people ≡ people f
      many = people-are s.key past (lines_of s.key front) f p.goal.opening r.direct.channel seat

      o : Holds s.key past (lines_of s.key front) (mind_at real s.key past front) f
      o = kept-of s h journal fair past front at f own.there

      repeated : IsRepeatedIfAny f p.goal.opening (held real f past (lines_of s.key front))
      repeated =
          carried s h journal fair past front at f p.goal.opening (channel-of s h journal past front at f own.there seat.kept.me seat.mine)
          (root-opens s h journal fair.nodes.legal fair.nodes.plays f p.goal o.kept (record {
            later = at.front_is.later;
            past = past;
            newer = at.front_is.newer;
            front = front;
            entries = at.front_is.entries;
            events = at.front_is.events;
            few = at.front_is.few;
            opened = channel-of s h journal past front at f own.there seat.kept.me seat.mine;
            before = at.front_is.before;
            asked = asked ∙ ap (λ (n : List ℕ). Some (Root n)) (sym named);
            goal = subst (λ (n : List ℕ). goal_in facts n ≡ Some p.goal) (sym named) p.found;
            keeps = o.found;
          }))

      by-row : IsWanted r.direct state → Wants real (name_of_person s.key) (orders_of real s.key journal) past (lines_of s.key front) f state
      by-row (opens from until which e) =
          repeats_are_fair s.key (orders_of real s.key journal) past (lines_of s.key front) f p.goal.opening r.direct.channel sit repeated from until (few which) state valid e
        where
          few : (until ≡ roots.people r.direct) ⊎ (until ≡ 2 * roots.people r.direct) → until ≤ 2 * people f
          few (inl u) = let n : length r.direct.channel.people ≡ people f = many in omega arith
          few (inr u) = let n : length r.direct.channel.people ≡ people f = many in omega arith
      by-row (closes closing held-on ended e) = finals_are_fair s.key (orders_of real s.key journal) past (lines_of s.key front) f p.goal.opening r.direct.channel sit state e

pub roots_want_fairly : RootsWantFairly
roots_want_fairly s h journal name fair past front at f state own valid going live asked wanted =
    wants-fairly s h journal fair past front at f state own valid going name (asked-own (facts_of (mind_at real s.key past front)) (real.named f) name asked) asked wanted
    (parts_are_known s h journal past front fair.nodes at.front_is (Root name) (asked-there (facts_of (mind_at real s.key past front)) (real.named f) (Root name) asked))
