-- A node that wants fairly signs well.
use Rattle.std.proofs.Common.{◌≡◌, ℕ, zero, suc, ◌-◌, Bool, true, false, cond, ◌&&◌, ◌||◌, List, [], ◌∷◌, ◌++◌, map, length, refl, sym, ◌∙◌, ap, subst, arith}
use Rattle.std.specs.Prelude.{◌==◌, Option, Some, None, is_none, slice_index_or}
use Rattle.std.specs.List.{slice_get, list_any}
use Rattle.std.specs.Option.{option_or}
use Rattle.std.specs.Str.{bytes_eq}
use Rattle.channel_values.specs.Outcomes.{AreApart}
use Rattle.channel_values.specs.Parts.{FixedParts, StateParts, IsState, state_with}
use Rattle.channel_values.specs.declared.value.AssetOutcome.{AssetOutcome}
use Rattle.channel_values.specs.declared.value.Dest.{Dest}
use Rattle.channel_values.specs.declared.value.Dest.TheVariants.{Person}
use Rattle.channel_values.specs.Digests.{name_of_person}
use Rattle.channel_safety.proofs.Tests.{some-eq, none-eq, and-right, cond-true, cond-false, clash}
use Rattle.call_history.proofs.Names.{same_bytes, bytes_eq_self}
use Rattle.call_history.specs.Flows.{is_among}
use Rattle.call_history.specs.History.{Legal, row, mode, rest_of_channel}
use Rattle.call_history.specs.Marked.{Marked, marked_of}
use Rattle.call_history.specs.declared.entry.Entry.{Entry}
use Rattle.call_history.specs.declared.event.Deed.{Deed}
use Rattle.call_history.specs.declared.event.Deed.TheVariants as deeds
use Rattle.call_history.specs.declared.event.NodeRefusal.{NodeRefusal}
use Rattle.channel_values.specs.Rows.{mover, last_of}
use Rattle.channel_values.specs.Rules.{people, newest}
use Rattle.channel_store.specs.Keeping.{is_held, next_of}
use Rattle.channel_store.specs.Storing.{kept_of}
use Rattle.channel_store.specs.declared.kept.Kept.{Kept}
use Rattle.call_history.specs.Mode.{is_final, mode_at}
use Rattle.call_history.specs.declared.standing.Standing.{Standing}
use Rattle.call_history.specs.declared.standing.Standing.TheVariants.{Open, Challenged, Final}
use Rattle.funding_plans.specs.declared.plan.Part.{Part}
use Rattle.channel_safety.proofs.Rowing.{legal-suffix}
use Rattle.channel_safety.specs.Held.{held}
use Rattle.channel_safety.specs.Journals.{In, Line, is_followed, some_if}
use Rattle.network.specs.declared.command.Command.{Command}
use Rattle.network.specs.declared.command.Command.TheVariants as commands
use Rattle.channel_node.proofs.Agreeing.{Agree}
use Rattle.channel_node.proofs.Standing.{known}
use Rattle.channel_node.specs.Minds.{Mind, facts_of}
use Rattle.channel_node.specs.Openings.{parts_of}
use Rattle.channel_node.specs.Places.{Told, line_of, lines_of, mind_at}
use Rattle.channel_node.specs.Playing as playing
use Rattle.channel_node.specs.Playing.{Signing, pending, Allowed}
use Rattle.channel_node.specs.Refusing.{is_open, stands_in, not_open, own, other, latest_outcome, outcome_or, opening_of, goal_of, paying, moved, wish_staying, wish, follows, can_sign, if_signable, signs_of}
use Rattle.channel_node.specs.Refusing as refusing
use Rattle.node_guarantees.proofs.Growing.{Grows}
use Rattle.node_guarantees.proofs.Ordering.{Fits, lines-length}
use Rattle.node_guarantees.proofs.Placing.{grows-at}
use Rattle.node_guarantees.proofs.Telling.{all-kept, places_tell_shares}
use Rattle.node_guarantees.specs.NodeShareLaws.{KnowsShare}
use Rattle.node_guarantees.specs.Orders.{order_of, orders_of}
use Rattle.node_guarantees.specs.Orders as asks
use Rattle.stage_tables.specs.Stages.{stages}
use Rattle.fairness_laws.proofs.Plan.Plans.{plans_are_whole}
use Rattle.fairness_laws.proofs.Payment.Made.{held-ends}
use Rattle.fairness_laws.proofs.Plan.Holding.{Holds, holds}
use Rattle.fairness_laws.specs.PlanLaws.{PlanIs}
use Rattle.fairness_laws.specs.PlanSeats.{SeatIs, seat_of}
use Rattle.fairness_laws.specs.PlanSettings.{IsFair}
use Rattle.stage_tables.specs.Asked.{wanted_of, asked_in, wanted_in}
use Rattle.fairness_laws.proofs.Seat.Paying.{payments_are_fair}
use Rattle.fairness_laws.specs.SeatSitting.{HeldEnds, Sits}
use Rattle.share_laws.proofs.FairPlaces.{whole-plan}
use Rattle.share_laws.proofs.Keeping.{held-over_line}
use Rattle.share_laws.specs.Turns.{names}
use Rattle.share_laws.specs.Bases.{all_bases}
use Rattle.share_laws.specs.Kept.{is_paying, last_order, SignsFairly}
use Rattle.share_laws.specs.Places as places
use Rattle.share_laws.specs.Places.{Order, paying as pays, opening, plan, channels, last_made, possible, possible_after, outcomes_of, IsPlace}
use Rattle.share_laws.proofs.Signers.{signers_are_fair}
use Rattle.share_laws.specs.Fairly.{Wants, Pays, SignsWell}
use Rattle.share_laws.specs.Signatures.{signing, IsOwn}
use Rattle.funding_plans.specs.Seats.{Seat}
use Rattle.support_rules.specs.Real.{real}
use Rattle.support_rules.specs.Steps.{persons}
use Rattle.node_guarantees.specs.ViewLaws.{IsKeptAt, AreKeptAt}
use Rattle.fairness_laws.proofs.Finding.{asked-there}
use Rattle.channel_safety.proofs.Members.{In-append_left}
use Rattle.fairness_laws.specs.PaymentLaws.{At}
use Rattle.fairness_laws.proofs.Payment.Kept.{KeptAs, kept-as, SignsOf, signs-of}
use Rattle.fairness_laws.specs.Wanting.{WantsFairly, PaysInHeld}
use Rattle.fairness_laws.proofs.Fronts.{Acts}

-- ---- orders

no-payment : (parts : List Part) → is_paying (asks.opening_of parts) ≡ false
no-payment [] = refl
no-payment (p ∷ parts) = refl

-- where no payment waits, none was ordered last
pub none-waits : (key : List ℕ) (orders : ℕ → Order) (front : List Told) → Fits real key orders front → pending front ≡ None → is_paying (last_order orders (lines_of key front)) ≡ false
none-waits key orders [] fits e = refl
none-waits key orders (y ∷ front) fits e = by y.deed y.command refl e
  where
    by : (d : Deed) (c : Option Command) → y.command ≡ c → playing.payment_in d c ≡ None → is_paying (cond (is_followed d) (orders (length (lines_of key front))) places.other) ≡ false
    by (deeds.Commanded step (Some refusal)) c is e = refl
    by (deeds.Handled bytes refusal) c is e = refl
    by (deeds.Signed channel state signature) c is e = refl
    by (deeds.SignedChallenge channel state who signature) c is e = refl
    by (deeds.Called call) c is e = refl
    by (deeds.Watched watcher calls) c is e = refl
    by (deeds.Commanded step None) c is e = ap is_paying (ap orders (lines-length key front) ∙ (fits.0 ∙ ap (order_of real key) is)) ∙ of c e
      where
        of : (c : Option Command) → playing.payment_in (deeds.Commanded step None) c ≡ None → is_paying (order_of real key c) ≡ false
        of None e = refl
        of (Some (commands.Open f outcome)) e = refl
        of (Some (commands.OpenOn o)) e = refl
        of (Some (commands.OpenVirtual v)) e = no-payment (parts_of real key (commands.OpenVirtual v))
        of (Some (commands.Pay channel asset amount)) e = absurd (none-eq (commands.Pay channel asset amount) (sym e))
        of (Some (commands.Close channel)) e = refl
        of (Some (commands.Release how channel)) e = refl
        of (Some (commands.Resend channel)) e = refl
        of (Some commands.Exit) e = refl

-- where one waits, it was
pub record Waits (key : List ℕ) (orders : ℕ → Order) (front : List Told) (command : Command) : Type 0 where
  pub channel : List ℕ
  pub asset : ℕ
  pub amount : ℕ
  pub is : command ≡ commands.Pay channel asset amount
  pub ordered : last_order orders (lines_of key front) ≡ pays asset amount

pub waits : (key : List ℕ) (orders : ℕ → Order) (front : List Told) (command : Command) → Fits real key orders front → pending front ≡ Some command → Waits key orders front command
waits key orders [] command fits e = absurd (none-eq command e)
waits key orders (y ∷ front) command fits e = by y.deed y.command refl refl e
  where
    by : (d : Deed) (c : Option Command) → y.deed ≡ d → y.command ≡ c → playing.payment_in d c ≡ Some command → Waits key orders (y ∷ front) command
    by (deeds.Commanded step (Some refusal)) c at is e = absurd (none-eq command e)
    by (deeds.Handled bytes refusal) c at is e = absurd (none-eq command e)
    by (deeds.Signed channel state signature) c at is e = absurd (none-eq command e)
    by (deeds.SignedChallenge channel state who signature) c at is e = absurd (none-eq command e)
    by (deeds.Called call) c at is e = absurd (none-eq command e)
    by (deeds.Watched watcher calls) c at is e = absurd (none-eq command e)
    by (deeds.Commanded step None) None at is e = absurd (none-eq command e)
    by (deeds.Commanded step None) (Some (commands.Open f outcome)) at is e = absurd (none-eq command e)
    by (deeds.Commanded step None) (Some (commands.OpenOn o)) at is e = absurd (none-eq command e)
    by (deeds.Commanded step None) (Some (commands.OpenVirtual v)) at is e = absurd (none-eq command e)
    by (deeds.Commanded step None) (Some (commands.Close channel)) at is e = absurd (none-eq command e)
    by (deeds.Commanded step None) (Some (commands.Release how channel)) at is e = absurd (none-eq command e)
    by (deeds.Commanded step None) (Some (commands.Resend channel)) at is e = absurd (none-eq command e)
    by (deeds.Commanded step None) (Some commands.Exit) at is e = absurd (none-eq command e)
    by (deeds.Commanded step None) (Some (commands.Pay channel asset amount)) at is e = record {
      channel = channel;
      asset = asset;
      amount = amount;
      is = sym (some-eq (commands.Pay channel asset amount) command e);
      ordered =
          ap (λ (d : Deed). cond (is_followed d) (orders (length (lines_of key front))) places.other) at
          ∙ (ap orders (lines-length key front) ∙ (fits.0 ∙ ap (order_of real key) is));
    }

-- ---- small things

open-not_final : (x : Standing) → is_open x ≡ true → is_final x ≡ false
open-not_final Open e = refl
open-not_final Challenged e = refl
open-not_final Final e = absurd cc

person-at : (keys : List (List ℕ)) (i : ℕ) (key : List ℕ) → slice_get keys i ≡ Some key → slice_index_or (map name_of_person keys) i [] ≡ name_of_person key
person-at [] i key e = absurd (none-eq key e)
person-at (k ∷ ks) zero key e = ap name_of_person (some-eq k key e)
person-at (k ∷ ks) (suc i) key e = person-at ks i key e

any-named : (c : List ℕ) (fs : List FixedParts) → list_any (bytes_eq c) (names real fs) ≡ list_any (λ g. bytes_eq c (real.named g)) fs
any-named c [] = refl
any-named c (f ∷ fs) = ap (λ (t : Bool). bytes_eq c (real.named f) || t) (any-named c fs)

named-apart : (fs : List FixedParts) → AreApart bytes_eq (names real fs) → AreApart (λ g h. bytes_eq (real.named g) (real.named h)) fs
named-apart [] a = tt
named-apart (f ∷ fs) a = (sym (any-named (real.named f) fs) ∙ a.0, named-apart fs a.1)

-- ---- what is signed

staying : (left : Bool) (w : Option StateParts) (s : StateParts) → cond left None w ≡ Some s → w ≡ Some s
staying true w s e = absurd (none-eq s e)
staying false w s e = e

-- ---- a place

module _ (s : Signing) (h : List Entry) (journal : List Told) (fair : IsFair s h journal) (past : List Entry) (front : List Told) (at : At s h journal past front) where
  plan-is : PlanIs s (orders_of real s.key journal) front
  plan-is = plans_are_whole s h journal past front fair.nodes at.front_is

  abbrev m : Mind
  m = mind_at real s.key past front

  abbrev lines : List Line
  lines = lines_of s.key front

  abbrev orders : ℕ → Order
  orders = orders_of real s.key journal

  abbrev me : List ℕ
  me = name_of_person s.key

  knows : KnowsShare real s.key journal past front m
  knows = places_tell_shares stages real s h journal past front fair.nodes.legal fair.nodes.plays at.front_is

  legal : Legal real past
  legal = legal-suffix real at.front_is.later past (subst (Legal real) at.front_is.entries fair.nodes.legal)

  plays-front : (newer : List Told) → playing.Plays stages real s h (newer ++ front) → playing.Plays stages real s h front
  plays-front [] p = p
  plays-front (x ∷ newer) p = plays-front newer p.1

  grown : Grows real s.key front m
  grown = grows-at stages real s h front (plays-front at.front_is.newer (subst (playing.Plays stages real s h) at.front_is.events fair.nodes.plays)) past at.front_is.later at.front_is.entries at.front_is.before

  kept-all : AreKeptAt real past lines (channels lines) m.kept
  kept-all = all-kept real s.key past front legal at.front_is.few grown

  -- what is kept of a channel
  pub kept-of : (f : FixedParts) → In f (channels lines) → Holds s.key past lines m f
  kept-of f i = holds s.key past front legal at.front_is.few grown f i

  pub owns : (f : FixedParts) → In f (channels lines) → IsOwn real lines f
  owns f i = record { there = i; apart = named-apart (channels lines) plan-is.channels_differ }

  -- a part that the node has there is one of the plan
  pub planned-there : (p : Part) → In p m.parts → In p (plan orders lines)
  planned-there p i = subst (In p) knows.parts i

  -- and so one of the whole plan
  pub planned : (p : Part) → In p m.parts → In p (plan orders (lines_of s.key journal))
  planned p i =
      let w = whole-plan orders h (lines_of s.key journal) past lines at.place in
      subst (In p) (sym w.1) (In-append_left p (plan orders lines) w.0 (planned-there p i))

  -- the seat of a channel that isn't final
  pub sits : (f : FixedParts) (o : List AssetOutcome) (c : Seat) → SeatIs s.key past lines f o c → is_final (mode real (real.named f) past) ≡ false → Sits s.key orders past lines f o c
  sits f o c seat going = record { seat = seat; going = going; held = held-ends s h journal fair f past lines at.place seat.own.there seat.kept seat.at; rests = plan-is.rests f seat.own.there }

  mine : (f : FixedParts) (k : Kept) → kept_of (real.named f) m.kept ≡ Some k → k.chain.fixed ≡ f → slice_get f.keys k.me ≡ Some s.key
  mine f k found fixed = go (kept_of (real.named f) m.kept) (held real f past lines) found (known real s.key f past front legal at.front_is.few).agree
    where
      go : (o : Option Kept) (w : Option Marked) → o ≡ Some k → Agree real s.key f lines o w → slice_get f.keys k.me ≡ Some s.key
      go None w e a = absurd (none-eq k e)
      go (Some z) None e a = absurd a
      go (Some z) (Some w) e a =
          subst (λ (g : FixedParts). slice_get g.keys k.me ≡ Some s.key) fixed (subst (λ (y : Kept). slice_get y.chain.fixed.keys y.me ≡ Some s.key) (some-eq z k e) a.0.mine)

  pub opens-not_final : (c : List ℕ) → is_open (stands_in (facts_of m) c) ≡ true → is_final (mode real c past) ≡ false
  opens-not_final c e = open-not_final (mode real c past) (sym same ∙ e)
    where
      same : is_open (stands_in (facts_of m) c) ≡ is_open (mode real c past)
      same =
          ap (λ (d : Option ℕ). is_open (mode_at d m.view.now)) (knows.view.channels c).deadline
          ∙ ap (λ (n : ℕ). is_open (mode_at (row real c past).deadline n)) knows.view.now

  -- ---- a state that is signed there

  module _ (wants : (p : Part) → In p (plan orders (lines_of s.key journal)) → WantsFairly s h journal p) (held-pays : PaysInHeld s h journal)
      (f : FixedParts) (there : In f (channels lines)) (k : Kept) (kept : IsKeptAt real past lines f k) (found : kept_of (real.named f) m.kept ≡ Some k)
      (state : StateParts) (valid : IsState state) (wished : wish stages (pending front) m (real.named f) k ≡ Some state) (can : can_sign real (facts_of m) (real.named f) k state ≡ true) where
    going : is_final (mode real (real.named f) past) ≡ false
    going =
        opens-not_final (real.named f)
        (and-right ((state.turn == next_of k) && (mover (people k.chain.fixed) state.turn == k.me)) (is_open (stands_in (facts_of m) (real.named f)))
        (and-right (follows real k state) (((state.turn == next_of k) && (mover (people k.chain.fixed) state.turn == k.me)) && is_open (stands_in (facts_of m) (real.named f))) can))

    wants-well : pending front ≡ None → Wants real me orders past lines f state
    wants-well none = clear (not_open stages (facts_of m)) refl (staying m.left (wish_staying stages None m (real.named f) k) state (subst (λ (o : Option Command). wish stages o m (real.named f) k ≡ Some state) none wished))
      where
        asked : not_open stages (facts_of m) ≡ None → (o : Option Part) → asked_in (facts_of m) (real.named f) ≡ o → wanted_in (facts_of m) (real.named f) ≡ Some state → Wants real me orders past lines f state
        asked live None is e = absurd (none-eq state (sym (ap (wanted_of (facts_of m) (real.named f)) is) ∙ e))
        asked live (Some p) is e = wants p (planned p (asked-there (facts_of m) (real.named f) p is)) past front at f state (owns f there) valid going live is e

        clear : (o : Option NodeRefusal) → not_open stages (facts_of m) ≡ o → cond (is_none o) (wanted_in (facts_of m) (real.named f)) None ≡ Some state → Wants real me orders past lines f state
        clear None live e = asked live (asked_in (facts_of m) (real.named f)) refl e
        clear (Some refusal) live e = absurd (none-eq state e)

    pays-well : (asset amount : ℕ) (command : Command) → pending front ≡ Some command → last_order orders lines ≡ pays asset amount → Fits real s.key orders front → Pays real me orders past lines f state asset amount
    pays-well asset amount command waiting ordered fits = by (waits s.key orders front command fits waiting)
      where
        same-amounts : (w : Waits s.key orders front command) → (asset ≡ w.asset) × (amount ≡ w.amount)
        same-amounts w = two (sym ordered ∙ w.ordered)
          where
            two : {a b c d : ℕ} → pays a b ≡ pays c d → (a ≡ c) × (b ≡ d)
            two e = (ap (λ (o : Order). asset-of o) e, ap (λ (o : Order). amount-of o) e)
              where
                asset-of : Order → ℕ
                asset-of (opening p) = 0
                asset-of (pays x y) = x
                asset-of places.other = 0

                amount-of : Order → ℕ
                amount-of (opening p) = 0
                amount-of (pays x y) = y
                amount-of places.other = 0

        by : Waits s.key orders front command → Pays real me orders past lines f state asset amount
        by w = subst (λ (a : ℕ). Pays real me orders past lines f state a amount) (sym (same-amounts w).0) (subst (λ (n : ℕ). Pays real me orders past lines f state w.asset n) (sym (same-amounts w).1) (in-channel (bytes_eq w.channel (real.named f)) refl this))
          where
            this : cond (bytes_eq w.channel (real.named f)) (Some (paying m (real.named f) w.asset w.amount k)) None ≡ Some state
            this =
                staying m.left (wish_staying stages (Some (commands.Pay w.channel w.asset w.amount)) m (real.named f) k) state
                (subst (λ (o : Option Command). wish stages o m (real.named f) k ≡ Some state) (waiting ∙ ap (λ (c : Command). Some c) w.is) wished)

            in-channel : (b : Bool) → bytes_eq w.channel (real.named f) ≡ b → cond b (Some (paying m (real.named f) w.asset w.amount k)) None ≡ Some state → Pays real me orders past lines f state w.asset w.amount
            in-channel false z e = absurd (none-eq state e)
            in-channel true z e = payment (held-pays past front at f k w.asset w.amount (owns f there) kept (waiting ∙ ap (λ (c : Command). Some c) (w.is ∙ ap (λ (n : List ℕ). commands.Pay n w.asset w.amount) (same_bytes w.channel (real.named f) z))))
              where
                c : Seat
                c = seat_of f [] k

                seat : SeatIs s.key past lines f [] c
                seat = record { kept = k; own = owns f there; at = kept; mine = mine f k found kept.fixed; is = refl }

                own-is : own k ≡ Person me
                own-is =
                    ap (λ (g : FixedParts). Person (slice_index_or (persons g) k.me [])) kept.fixed
                    ∙ ap (λ (n : List ℕ). Person n) (person-at f.keys k.me s.key (mine f k found kept.fixed))

                payment : (is_held k ≡ true) × (f.app ≡ 1) → Pays real me orders past lines f state w.asset w.amount
                payment p = bases (is_among (real.named f) (all_bases (plan orders lines))) refl
                  where
                    ends : HeldEnds s.key lines f (marked_of k.chain)
                    ends = held-ends s h journal fair f past lines at.place there k kept p.0

                    top : StateParts
                    top = last_of ends.last.state ends.ends.rest

                    newest-is : newest k.chain.states ≡ Some top
                    newest-is = ends.ends.ends

                    made : state ≡ state_with (next_of k) false (moved (Person me) (Person (slice_index_or (persons k.chain.fixed) (1 - k.me) [])) w.asset w.amount top.outcome) []
                    made =
                        sym (some-eq (paying m (real.named f) w.asset w.amount k) state e)
                        ∙ (ap (λ (o : Option StateParts). state_with (next_of k) false (moved (own k) (other k) w.asset w.amount (outcome_or o (refusing.opening_of (goal_of m (real.named f))))) []) newest-is
                        ∙ ap (λ (d : Dest). state_with (next_of k) false (moved d (other k) w.asset w.amount top.outcome) []) own-is)

                    bases : (b : Bool) → is_among (real.named f) (all_bases (plan orders lines)) ≡ b → Pays real me orders past lines f state w.asset w.amount
                    bases true on = absurd (plan-is.rests f there on p.1)
                    bases false off =
                        payments_are_fair s.key orders past lines f [] c (sits f [] c seat going) off (slice_index_or (persons k.chain.fixed) (1 - k.me) []) w.asset w.amount (next_of k) top state
                        (cond-true (is_held k) (newest k.chain.states) None p.0 ∙ newest-is) made

    counts : (signature : List ℕ) (adds : List FixedParts) → possible real past (signing real past f state signature adds ∷ lines) f ≡ [] → possible real past lines f ≡ []
    counts signature adds none = go (places.is_held real f (held real f past lines)) refl
      where
        line : Line
        line = signing real past f state signature adds

        made : last_made (real.named f) (line ∷ lines) ≡ Some (record { state = state; signature = signature })
        made = ap (λ (t : Bool). option_or (some_if t (record { state = state; signature = signature })) (last_made (real.named f) lines)) (bytes_eq_self (real.named f))

        now : List (List AssetOutcome)
        now = possible_after (is_final (mode real (real.named f) past)) (rest_of_channel real (real.named f) past) (last_made (real.named f) (line ∷ lines))

        some : now ≡ outcomes_of state
        some = ap (λ (b : Bool). possible_after b (rest_of_channel real (real.named f) past) (last_made (real.named f) (line ∷ lines))) going ∙ ap (possible_after false (rest_of_channel real (real.named f) past)) made

        go : (b : Bool) → places.is_held real f (held real f past lines) ≡ b → possible real past lines f ≡ []
        go false e = cond-false (places.is_held real f (held real f past lines)) (possible_after (is_final (mode real (real.named f) past)) (rest_of_channel real (real.named f) past) (last_made (real.named f) lines)) [] e
        go true e =
            let after : places.is_held real f (held real f past (line ∷ lines)) ≡ true = held-over_line real f past line lines (λ w. omega arith) e in
            absurd (not-empty (sym some ∙ (sym (cond-true (places.is_held real f (held real f past (line ∷ lines))) now [] after) ∙ none)))
          where
            not-empty : {X : Type 0} {x : X} {xs : List X} → (x ∷ xs) ≡ [] → ⊥
            not-empty e = cc

    pub signs-well : (signature : List ℕ) (adds : List FixedParts) → Fits real s.key orders front → SignsWell real me orders past lines f state signature adds
    signs-well signature adds fits = record {
      own = owns f there;
      plan_whole = plan-is.whole;
      going = going;
      counts = counts signature adds;
      wants = λ unpaid. none-or (pending front) refl unpaid;
      pays = λ asset amount ordered. some-or asset amount ordered (pending front) refl;
    }
      where
        none-or : (o : Option Command) → pending front ≡ o → is_paying (last_order orders lines) ≡ false → Wants real me orders past lines f state
        none-or None e unpaid = wants-well e
        none-or (Some command) e unpaid = absurd (clash (is_paying (last_order orders lines)) (ap is_paying (waits s.key orders front command fits e).ordered) unpaid)

        some-or : (asset amount : ℕ) → last_order orders lines ≡ pays asset amount → (o : Option Command) → pending front ≡ o → Pays real me orders past lines f state asset amount
        some-or asset amount ordered None e = absurd (clash (is_paying (last_order orders lines)) (ap is_paying ordered) (none-waits s.key orders front fits e))
        some-or asset amount ordered (Some command) e = pays-well asset amount command e ordered fits

  -- ---- the line of an event

  pub signs-fairly : (wants : (p : Part) → In p (plan orders (lines_of s.key journal)) → WantsFairly s h journal p) → PaysInHeld s h journal
      → (x : Told) → Acts stages s h journal past x front → (channel : List ℕ) (state : StateParts) (signature : List ℕ) → x.deed ≡ deeds.Signed channel state signature → IsState state
      → Fits real s.key orders front → SignsFairly real me orders past (line_of s.key x) lines
  signs-fairly wants held-pays x acts channel state signature deed valid fits =
      signers_are_fair real me orders past lines ka.fixed state signature (line_of s.key x) (sym acts.len) (deed ∙ ap (λ (c : List ℕ). deeds.Signed c state signature) (sym ka.named))
      (signs-well wants held-pays ka.fixed ka.there so.k ka.at
      (subst (λ (c : List ℕ). kept_of c m.kept ≡ Some so.k) (sym ka.named) so.found) state valid
      (subst (λ (c : List ℕ). wish stages (pending front) m c so.k ≡ Some state) (sym ka.named) so.wished)
      (subst (λ (c : List ℕ). can_sign real (facts_of m) c so.k state ≡ true) (sym ka.named) so.can) signature (line_of s.key x).adds fits)
    where
      allowed : Allowed stages real s past m (playing.signings front) (pending front) (deeds.Signed channel state signature) x.command
      allowed =
          subst (λ (d : Deed). Allowed stages real s past m (playing.signings front) (pending front) d x.command) deed
          (acts.event.place at.front_is.later past at.front_is.entries acts.len).1

      so : SignsOf (pending front) m channel state
      so = signs-of (pending front) m channel state allowed.0

      ka : KeptAs past lines channel so.k
      ka = kept-as past lines channel m.kept so.k kept-all so.found
