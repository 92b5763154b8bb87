-- What is noted in the first round of a channel that a command opened repeats the outcome with which its part opens it.
use Rattle.std.proofs.Common.{◌≡◌, ℕ, ◌+◌, ◌<◌, ◌≤◌, Bool, true, false, cond, ◌&&◌, ◌||◌, not, ◌⊎◌, List, [], ◌∷◌, ◌++◌, inl, inr, refl, sym, ◌∙◌, ap, subst, arith}
use Rattle.std.specs.Prelude.{◌==◌, ◌^◌, nat_lt, Option, Some, None, map}
use Rattle.std.specs.List.{list_all, position}
use Rattle.std.specs.Option.{option_or}
use Rattle.std.specs.Str.{bytes_eq}
use Rattle.channel_values.specs.Parts.{FixedParts, StateParts}
use Rattle.channel_values.specs.declared.chain.Signed.{Signed}
use Rattle.channel_values.specs.declared.value.AssetOutcome.{AssetOutcome}
use Rattle.channel_values.specs.Rules.{people, newest}
use Rattle.call_history.proofs.Names.{same_bytes}
use Rattle.call_history.specs.Flows.{is_among}
use Rattle.call_history.specs.History.{Legal}
use Rattle.call_history.specs.Marked.{Marked, next_after}
use Rattle.call_history.specs.declared.entry.Entry.{Entry}
use Rattle.call_history.specs.declared.event.Deed.{Deed}
use Rattle.call_history.specs.declared.event.Deed.TheVariants as deeds
use Rattle.call_history.specs.declared.event.NodeRefusal.TheVariants.{UnknownChannel, NotAStep, NotWanted}
use Rattle.channel_store.specs.Keeping.{next_of}
use Rattle.channel_store.specs.Storing.{kept_of}
use Rattle.channel_store.specs.declared.kept.Kept.{Kept}
use Rattle.funding_plans.specs.Known.{FactsOf}
use Rattle.funding_plans.specs.Parts.{own_channel, channels_of, channels, joined_of, ledgers_of, running, closed}
use Rattle.funding_plans.specs.Shapes.{items_in}
use Rattle.funding_plans.specs.declared.plan.Goal.{Goal}
use Rattle.funding_plans.specs.declared.plan.Part.{Part}
use Rattle.funding_plans.specs.declared.plan.Part.TheVariants.{Root, OnLedger, End, Middle}
use Rattle.funding_plans.specs.declared.plan.Virtual.{Virtual}
use Rattle.support_rules.specs.Real.{real}
use Rattle.channel_safety.specs.Held.{held}
use Rattle.channel_safety.specs.Journals.{In, Line, opened, is_watched, is_followed, made_in, noted_in}
use Rattle.channel_safety.proofs.Members.{In-append_cases}
use Rattle.network.specs.declared.command.Command.{Command}
use Rattle.network.specs.declared.command.Command.TheVariants as commands
use Rattle.funding_plans.specs.Gathered.{goal_in}
use Rattle.stage_tables.specs.Asked as asked
use Rattle.channel_node.specs.Minds as minds
use Rattle.channel_node.specs.Minds.{Mind, facts_of, did}
use Rattle.channel_node.specs.Openings.{opened_by, place_among, takes_part, adds, virtual, parts_of, ledgers_for, are_apart}
use Rattle.channel_node.specs.Places.{Told, lines_of, mind_at, AreFew}
use Rattle.channel_node.specs.Playing.{Signing, signings, payment_in, pending, Allowed, Plays}
use Rattle.channel_node.specs.Refusing as refusing
use Rattle.channel_node.specs.Refusing.{not_open, unfinished_part, unfinished, has_left, part_joined, not_running, pay_refusal, are_new, is_planned, goal_about, is_over, is_there, are_planned, open_refusal, command_refusal}
use Rattle.fairness_laws.specs.Table.{stages}
use Rattle.channel_store.proofs.Places.{found_passes}
use Rattle.channel_safety.proofs.Lists.{split_of, suffix_of, In-get, get-within, append_assoc'}
use Rattle.channel_safety.proofs.Tests.{some-eq, none-eq, and-left, and-right, eqb-true, not-false, clash, cond-false}
use Rattle.channel_safety.proofs.Rowing.{legal-suffix}
use Rattle.channel_node.proofs.Agreeing.{IsOwn, Agree}
use Rattle.channel_node.proofs.Allowing.{first_none, rest_none, holds_not, filter-in, apart-one}
use Rattle.channel_node.proofs.Bridging.{In-lines}
use Rattle.channel_node.proofs.Places.{mind-event, mind-watched, mind-entry}
use Rattle.channel_node.proofs.Reaching.{Reaches}
use Rattle.channel_node.proofs.Standing.{known}
use Rattle.fairness_laws.specs.Roots.{is_repeated}
use Rattle.fairness_laws.specs.Carried.{OpensWith}
use Rattle.fairness_laws.specs.Opens.{Took}
use Rattle.fairness_laws.proofs.Finding.{names, on-in, not-true}
use Rattle.fairness_laws.proofs.Apart.{accepted-new, kept-apart}
use Rattle.fairness_laws.proofs.Over.{Seen, AtEvent, over, looked}
use Rattle.fairness_laws.proofs.Planned.{Change, stays, opens, closes, event-changes, is-planned, opened-channels, channels-append, own-among, in-left, or-true, among-channels, one-part}
use Rattle.fairness_laws.proofs.Closing.{RunsTo, event-reaches, look-reaches, entry-reaches, find-in, goal-found, running-reaches, late, rest-plays, lets_go}
use Rattle.fairness_laws.proofs.Noting as noting
use Rattle.fairness_laws.proofs.Noting.{IsPaid, IsNoted, why-made, why-noted}
use Rattle.fairness_laws.proofs.Commanded.{all-at, fresh-name, name-in, took-later, IsGoalOf, stand, one-command, apart-names, goals-of}
use Rattle.ledger_channel.specs.Stages.{direct_with, direct_of, wanted_of_root}
use Rattle.funding_plans.specs.Seats.{Seat}
use Rattle.fairness_laws.proofs.Picking.{none-wanted}
use Rattle.funding_plans.specs.Gathered as gathered

-- ---- parts

-- the channels in which the person of a part is a participant are of the part
pub joined-among : (c : List ℕ) (p : Part) → is_among c (joined_of p) ≡ true → is_among c (channels_of p) ≡ true
joined-among c (Root channel) e = e
joined-among c (OnLedger ledger channel) e = e
joined-among c (End v) e = go v.side_b e
  where
    go : (b : Bool) → is_among c (cond b v.guarantor_b v.guarantor_a ∷ v.joint ∷ v.channel ∷ []) ≡ true → is_among c (v.guarantor_a ∷ v.guarantor_b ∷ v.joint ∷ v.channel ∷ []) ≡ true
    go true e = or-true (bytes_eq c v.guarantor_a) (is_among c (v.guarantor_b ∷ v.joint ∷ v.channel ∷ [])) e
    go false e = past-b (bytes_eq c v.guarantor_a) (bytes_eq c v.guarantor_b) (is_among c (v.joint ∷ v.channel ∷ [])) e
      where
        past-b : (a b rest : Bool) → (a || rest) ≡ true → (a || (b || rest)) ≡ true
        past-b true b rest e = refl
        past-b false true rest e = refl
        past-b false false rest e = e
joined-among c (Middle v) e =
    last (bytes_eq c v.guarantor_a) (bytes_eq c v.guarantor_b) (bytes_eq c v.joint) (bytes_eq c v.channel) e
  where
    last : (a b j k : Bool) → (a || (b || (j || false))) ≡ true → (a || (b || (j || (k || false)))) ≡ true
    last true b j k e = refl
    last false true j k e = refl
    last false false true k e = refl
    last false false false k e = absurd cc

-- the ledgers of a command's part
ledgers-are : (key : List ℕ) (command : Command) (q : Part) → In q (parts_of real key command) → ledgers_of q ≡ ledgers_for key command
ledgers-are key (commands.Open f outcome) q (inl e) = ap ledgers_of e
ledgers-are key (commands.Open f outcome) q (inr i) = absurd i
ledgers-are key (commands.OpenOn o) q (inl e) = ap ledgers_of e
ledgers-are key (commands.OpenOn o) q (inr i) = absurd i
ledgers-are key (commands.OpenVirtual funding) q i = go (takes_part key funding.channel) refl i
  where
    v : Virtual
    v = virtual real key funding.ledgers funding.guarantors funding.joint funding.channel funding.asset funding.amounts

    go : (b : Bool) → takes_part key funding.channel ≡ b → In q (cond b (End v ∷ []) (Middle v ∷ [])) → ledgers_of q ≡ cond b (cond (place_among key funding.channel == 1) funding.ledgers.1 funding.ledgers.0 ∷ []) (funding.ledgers.0 ∷ funding.ledgers.1 ∷ [])
    go true t (inl e) = ap ledgers_of e ∙ ap (λ (x : Bool). cond (x && (place_among key funding.channel == 1)) funding.ledgers.1 funding.ledgers.0 ∷ []) t
    go true t (inr i) = absurd i
    go false t (inl e) = ap ledgers_of e
    go false t (inr i) = absurd i
ledgers-are key (commands.Pay channel asset amount) q i = absurd i
ledgers-are key (commands.Close channel) q i = absurd i
ledgers-are key (commands.Release how channel) q i = absurd i
ledgers-are key (commands.Resend channel) q i = absurd i
ledgers-are key commands.Exit q i = absurd i

clear-at : (f : FactsOf) (parts : List Part) (p : Part) → In p parts → refusing.first_fault (unfinished_part stages f) parts ≡ None → stages.is_unfinished f p ≡ false
clear-at f [] p i e = absurd i
clear-at f (q ∷ qs) p (inl is) e =
    ap (stages.is_unfinished f) is ∙ holds_not (stages.is_unfinished f q) (NotWanted (stages.stage f q)) (first_none (unfinished_part stages f q) (refusing.first_fault (unfinished_part stages f) qs) e)
clear-at f (q ∷ qs) p (inr i) e = clear-at f qs p i (rest_none (unfinished_part stages f q) (refusing.first_fault (unfinished_part stages f) qs) e)

-- of a channel of which the node didn't let go
let-go-not : (m : Mind) (p : Part) (c : List ℕ) → is_among c (joined_of p) ≡ true → is_over (goal_about m c) ≡ false
    → (g : Goal) → goal_in (facts_of m) (own_channel p) ≡ Some g → lets_go p g ≡ false
let-go-not m (Root n) c own e g is = sym (ap is_over (sym (about (position (λ p. bytes_eq (own_channel p) n) m.parts)) ∙ is)) ∙ (ap (λ (x : List ℕ). is_over (goal_about m x)) (sym (one c n own)) ∙ e)
  where
    about : (o : Option ℕ) → refusing.goal_at o m.goals ≡ gathered.goal_at o m.goals
    about None = refl
    about (Some n) = refl

    one : (c n : List ℕ) → is_among c (n ∷ []) ≡ true → c ≡ n
    one c n e = go (bytes_eq c n) refl e
      where
        go : (b : Bool) → bytes_eq c n ≡ b → (b || false) ≡ true → c ≡ n
        go true is e = same_bytes c n is
        go false is e = absurd cc
let-go-not m (OnLedger l n) c own e g is = refl
let-go-not m (End v) c own e g is = refl
let-go-not m (Middle v) c own e g is = refl

-- a root of which the node let go wants nothing
over-wants : (f : FactsOf) (p : Part) (c : List ℕ) (g : Goal) (n : StateParts) → stages.asked f c ≡ Some p → goal_in f (own_channel p) ≡ Some g → g.closing ≡ true → lets_go p g ≡ true
    → stages.wanted f c ≡ Some n → ⊥
over-wants f (Root r) c g n asked-is is closing gone wanted =
    by (gathered.seat_with f r g.opening)
    (sym (ap (λ (o : Option Goal). wanted_of_root c (direct_of f r (gathered.seat_for f r o) o)) is) ∙ (sym (ap (asked.wanted_of f c) asked-is) ∙ wanted))
  where
    by : (o : Option Seat) → wanted_of_root c (direct_of f r o (Some g)) ≡ Some n → ⊥
    by None e = none-eq n e
    by (Some seat) e =
        none-eq n (sym (none-wanted (direct_with f seat g (gathered.chain_in r f.chains) (gathered.view_in r f.view.channels)) c closing gone) ∙ e)
over-wants f (OnLedger l r) c g n asked-is is closing gone wanted = clash false gone refl
over-wants f (End v) c g n asked-is is closing gone wanted = clash false gone refl
over-wants f (Middle v) c g n asked-is is closing gone wanted = clash false gone refl

-- the lines of an accepted opening
pub record Accepted (m : Mind) (command : Command) : Type 0 where
  pub ledgers : are_planned m (ledgers_for m.key command) ≡ true
  pub finished : unfinished stages (facts_of m) ≡ None

accepted : (m : Mind) (command : Command) → None ≡ open_refusal stages real m command → Accepted m command
accepted m command e =
    let after-ledgers = rest_none (cond (not (are_planned m (ledgers_for m.key command))) (Some UnknownChannel) None) _ (sym e) in
    let after-can = rest_none (cond (not (refusing.can_open stages real m command)) (Some NotAStep) None) _ (rest_none (not_open stages (facts_of m)) _ after-ledgers) in
    record {
      ledgers = not-false (are_planned m (ledgers_for m.key command))
          (holds_not (not (are_planned m (ledgers_for m.key command))) UnknownChannel (first_none (cond (not (are_planned m (ledgers_for m.key command))) (Some UnknownChannel) None) _ (sym e)));
      finished = first_none (unfinished stages (facts_of m)) _ (rest_none (has_left m) _ after-can);
    }

-- ---- payments

-- the part of an accepted payment runs
paid-runs : (m : Mind) (limit used : ℕ) (channel : List ℕ) (asset amount : ℕ) (o : Option Kept) → None ≡ pay_refusal stages real limit used m channel asset amount o
    → not_running stages (facts_of m) (part_joined channel m.parts) ≡ None
paid-runs m limit used channel asset amount None e = absurd (none-eq _ e)
paid-runs m limit used channel asset amount (Some k) e =
    let after-turn = rest_none _ _ (rest_none (not_open stages (facts_of m)) _ (sym e)) in
    let after-left = rest_none (has_left m) _ (rest_none _ _ after-turn) in
    first_none (not_running stages (facts_of m) (part_joined channel m.parts)) _ after-left

-- a payment that an event leaves waiting was accepted, and changes nothing
record Pays (m : Mind) (limit used : ℕ) (deed : Deed) (of : Option Command) (channel : List ℕ) (asset amount : ℕ) : Type 0 where
  accepts : None ≡ command_refusal stages real limit used m (commands.Pay channel asset amount)
  parts : (did real deed of m).parts ≡ m.parts

pays : (s : Signing) (past : List Entry) (m : Mind) (used : ℕ) (waits : Option Command) (deed : Deed) (of : Option Command) (channel : List ℕ) (asset amount : ℕ) → Allowed stages real s past m used waits deed of
    → payment_in deed of ≡ Some (commands.Pay channel asset amount) → Pays m s.limit used deed of channel asset amount
pays s past m used waits (deeds.Commanded step None) (Some (commands.Pay paid a n)) channel asset amount allowed e =
    record { accepts = subst (λ (x : Command). None ≡ command_refusal stages real s.limit used m x) (some-eq (commands.Pay paid a n) (commands.Pay channel asset amount) e) allowed.1; parts = refl }
pays s past m used waits (deeds.Commanded step None) (Some (commands.Open f outcome)) channel asset amount allowed e = absurd (none-eq _ e)
pays s past m used waits (deeds.Commanded step None) (Some (commands.OpenOn o)) channel asset amount allowed e = absurd (none-eq _ e)
pays s past m used waits (deeds.Commanded step None) (Some (commands.OpenVirtual v)) channel asset amount allowed e = absurd (none-eq _ e)
pays s past m used waits (deeds.Commanded step None) (Some (commands.Close c)) channel asset amount allowed e = absurd (none-eq _ e)
pays s past m used waits (deeds.Commanded step None) (Some (commands.Release how c)) channel asset amount allowed e = absurd (none-eq _ e)
pays s past m used waits (deeds.Commanded step None) (Some (commands.Resend c)) channel asset amount allowed e = absurd (none-eq _ e)
pays s past m used waits (deeds.Commanded step None) (Some commands.Exit) channel asset amount allowed e = absurd (none-eq _ e)
pays s past m used waits (deeds.Commanded step None) None channel asset amount allowed e = absurd (none-eq _ e)
pays s past m used waits (deeds.Commanded step (Some refusal)) of channel asset amount allowed e = absurd (none-eq _ e)
pays s past m used waits (deeds.Handled bytes refusal) of channel asset amount allowed e = absurd (none-eq _ e)
pays s past m used waits (deeds.Signed c state signature) of channel asset amount allowed e = absurd (none-eq _ e)
pays s past m used waits (deeds.SignedChallenge c state who signature) of channel asset amount allowed e = absurd (none-eq _ e)
pays s past m used waits (deeds.Called call) of channel asset amount allowed e = absurd (none-eq _ e)
pays s past m used waits (deeds.Watched watcher calls) of channel asset amount allowed e = absurd (none-eq _ e)

no-payment : (deed : Deed) (of : Option Command) (command : Command) → is_watched deed ≡ true → payment_in deed of ≡ Some command → ⊥
no-payment (deeds.Watched watcher calls) of command w e = none-eq command e
no-payment (deeds.Commanded step refusal) of command w e = absurd cc
no-payment (deeds.Handled bytes refusal) of command w e = absurd cc
no-payment (deeds.Signed c state signature) of command w e = absurd cc
no-payment (deeds.SignedChallenge c state who signature) of command w e = absurd cc
no-payment (deeds.Called call) of command w e = absurd cc

-- ---- what the tables say of a part and one of its channels

-- What is known at a place of the command that opened it. Its fixed parts are those that are kept, its goal is the
-- part's, and the channel is no ledger of the part. Each channel is kept once.
pub record IsPlace (m : Mind) (command : Command) (p : Part) (f : FixedParts) : Type 0 where
  pub fixed : (x : FixedParts) → In x (opened_by command) → (k : Kept) → kept_of (real.named x) m.kept ≡ Some k → k.chain.fixed ≡ x
  pub goal : (g : Goal) → goal_in (facts_of m) (own_channel p) ≡ Some g → IsGoalOf command g
  pub apart : is_among (real.named f) (ledgers_of p) ≡ true → ⊥
  pub once : are_apart (names m.kept) ≡ true

-- The node is in the channel, which is kept so far where the part runs. It runs where it isn't unfinished and Close
-- wasn't commanded. In the first round what is taken, and what is wanted while Close wasn't commanded, repeats an
-- outcome.
pub record Starts (command : Command) (p : Part) (f : FixedParts) (opening : List AssetOutcome) (turn : ℕ) : Type 0 where
  pub own : is_among (real.named f) (joined_of p) ≡ true
  pub enough : people f ≤ turn + 1
  pub runs : RunsTo p f turn
  pub done : (m : Mind) → asked.is_closing (goal_in (facts_of m) (own_channel p)) ≡ false → nat_lt (stages.stage (facts_of m) p) (running p) ≡ false → (stages.stage (facts_of m) p == running p) ≡ true
  pub starts : (m : Mind) (k : Kept) (s : StateParts) → IsPlace m command p f → stages.asked (facts_of m) (real.named f) ≡ Some p → kept_of (real.named f) m.kept ≡ Some k → s.turn ≡ next_of k → s.turn < people f
      → (stages.accepts (facts_of m) (real.named f) s ≡ true)
      ⊎ (((g : Goal) → goal_in (facts_of m) (own_channel p) ≡ Some g → g.closing ≡ false) × (stages.wanted (facts_of m) (real.named f) ≡ Some s))
      → is_repeated opening s ≡ true

in-adds : (b : Bool) (fs : List FixedParts) (f : FixedParts) → In f (cond b fs []) → (b ≡ true) × In f fs
in-adds true fs f i = (refl, i)
in-adds false fs f i = absurd i

-- the command of a line that opens a fixed part
pub record Opener (key : List ℕ) (front : List Told) (g : FixedParts) : Type 0 where
  pub command : Command
  pub took : Took command front
  pub inside : In g (opened_by command)

pub opener : (key : List ℕ) (front : List Told) (y : Line) (g : FixedParts) → In y (lines_of key front) → In g (opened y) → Opener key front g
opener key front y g i j =
    let told = In-lines key y front i in
    let at = in-adds (is_followed told.0.deed) (adds key told.0.command) g (subst (λ (v : Line). In g (opened v)) told.2 j) in
    by told.0 told.1 at.0 told.0.command refl at.1
  where
    by : (z : Told) → In z front → is_followed z.deed ≡ true → (o : Option Command) → z.command ≡ o → In g (adds key o) → Opener key front g
    by z there followed None is i = absurd i
    by z there followed (Some d) is i =
        record { command = d; took = record { event = z; there = there; followed = followed; is = is }; inside = filter-in (takes_part key) g (opened_by d) i }

module _ (s : Signing) (h : List Entry) (journal : List Told) (legal : Legal real h) (plays : Plays stages real s h journal) (command : Command) (p : Part) (f : FixedParts)
    (opening : List AssetOutcome) (turn : ℕ) (took : Took command journal) (inside : In f (opened_by command)) (of : In p (parts_of real s.key command)) (st : Starts command p f opening turn) where
  abbrev c : List ℕ
  c = real.named f

  -- the place of a state that was signed in the first round: its stage wanted it
  pub record FirstPlace (n : StateParts) : Type 0 where
    pub m : Mind
    pub known_there : IsPlace m command p f
    pub asked_is : stages.asked (facts_of m) c ≡ Some p
    pub going : (g : Goal) → goal_in (facts_of m) (own_channel p) ≡ Some g → g.closing ≡ false
    pub wants : stages.wanted (facts_of m) c ≡ Some n

  p-has : is_among c (channels_of p) ≡ true
  p-has = joined-among c p st.own

  -- what is kept of a channel that the command opens was opened by it
  record Owns (x : FixedParts) (front : List Told) (k : Kept) : Type 0 where
    fixed : k.chain.fixed ≡ x
    before : Took command front

  owns : (x : FixedParts) → In x (opened_by command) → (newer front : List Told) → journal ≡ newer ++ front → (k : Kept) → IsOwn real s.key (real.named x) (lines_of s.key front) k → Owns x front k
  owns x i newer front events k own =
      let o = opener s.key front own.line k.chain.fixed own.there own.opens in
      let one : command ≡ o.command =
      one-command stages real s h legal f journal plays command o.command x k.chain.fixed took (subst (Took o.command) (sym events) (took-later o.command newer front o.took)) i o.inside
      (same_bytes (real.named k.chain.fixed) (real.named x) own.named) in
      record {
        fixed = apart-one real (opened_by command) (apart-names stages real s h legal f journal plays command x took i) x k.chain.fixed i
            (subst (λ (d : Command). In k.chain.fixed (opened_by d)) (sym one) o.inside) own.named;
        before = subst (λ (d : Command). Took d front) (sym one) o.took;
      }

  module _ (several : 1 ≤ people f) where
    abbrev pub Full : List Entry → List Told → Type 0
    Full past front = Reaches real f turn (held real f past (lines_of s.key front))

    one-fixed : (newer front : List Told) → journal ≡ newer ++ front → (k : Kept) → IsOwn real s.key c (lines_of s.key front) k → k.chain.fixed ≡ f
    one-fixed newer front events k own = (owns f inside newer front events k own).fixed

    -- a part with the channel is that of the command
    part-is : (m : Mind) (q : Part) (x : List ℕ) → are_apart (channels m.parts) ≡ true → In p m.parts → In q m.parts → is_among x (channels_of p) ≡ true → is_among x (channels_of q) ≡ true → q ≡ p
    part-is m q x apart i j a b = one-part x m.parts q p apart j i b a

    found-is : (m : Mind) (q : Part) → are_apart (channels m.parts) ≡ true → In p m.parts → In q m.parts → bytes_eq (own_channel q) (own_channel p) ≡ true → q ≡ p
    found-is m q apart i j same =
        part-is m q (own_channel p) apart i j (own-among p) (subst (λ (z : List ℕ). is_among z (channels_of q) ≡ true) (same_bytes (own_channel q) (own_channel p) same) (own-among q))

    -- ---- at a place

    module _ (past : List Entry) (front newer : List Told) (events : journal ≡ newer ++ front) (front-plays : Plays stages real s h front) (later : List Entry) (entries : h ≡ later ++ past)
        (before : Seen past front) (few : AreFew past) where
      abbrev m : Mind
      m = mind_at real s.key past front

      apart : are_apart (channels m.parts) ≡ true
      apart = (is-planned stages real s h front front-plays later past entries before).apart

      runs-full : (stages.stage (facts_of m) p == running p) ≡ true → Full past front
      runs-full = running-reaches s h journal legal f several one-fixed p turn st.runs past front newer events front-plays later entries before few

      -- where a goal of it is closing
      closing-full : (g : Goal) → goal_in (facts_of m) (own_channel p) ≡ Some g → In p m.parts → g.closing ≡ true → lets_go p g ≡ false → Full past front
      closing-full g is i closing held-on =
          let found = goal-found m.parts m.goals (own_channel p) g is in
          late s h journal legal f several one-fixed p turn st.runs newer front events front-plays later past entries before g found.there closing held-on
          (found.at ∙ ap (λ (q : Part). Some q) (found-is m found.q apart i (In-get m.parts g.part found.q found.at) found.about))

      -- where nothing is unfinished
      finished-full : unfinished stages (facts_of m) ≡ None → ((g : Goal) → goal_in (facts_of m) (own_channel p) ≡ Some g → lets_go p g ≡ false) → In p m.parts → Full past front
      finished-full e held-on i = by (goal_in (facts_of m) (own_channel p)) refl
        where
          settled : asked.is_closing (goal_in (facts_of m) (own_channel p)) ≡ false → Full past front
          settled open-yet =
              runs-full (st.done m open-yet
              (sym (cond-false (asked.is_closing (goal_in (facts_of m) (own_channel p))) (not (stages.stage (facts_of m) p == closed p)) (nat_lt (stages.stage (facts_of m) p) (running p)) open-yet)
              ∙ clear-at (facts_of m) m.parts p i e))

          by : (o : Option Goal) → goal_in (facts_of m) (own_channel p) ≡ o → Full past front
          by None is = settled (ap asked.is_closing is)
          by (Some g) is = go g.closing refl
            where
              go : (b : Bool) → g.closing ≡ b → Full past front
              go true closing = closing-full g is i closing (held-on g is)
              go false open-yet = settled (ap asked.is_closing is ∙ open-yet)

    -- ---- parts that stand on the channel

    abbrev pub LentAt : Mind → Type 0 → Type 0
    LentAt m Reached = (q : Part) → In q m.parts → is_among c (ledgers_of q) ≡ true → (is_among c (channels m.parts) ≡ true) × (In p m.parts → Reached)

    abbrev pub Lent : List Entry → List Told → Type 0
    Lent past front = LentAt (mind_at real s.key past front) (Full past front)

    same-lent : (m new : Mind) (Before After : Type 0) → new.parts ≡ m.parts → (Before → After) → LentAt m Before → LentAt new After
    same-lent m new Before After parts up was q i l =
        let w = was q (subst (In q) parts i) l in
        (subst (λ (ps : List Part). is_among c (channels ps) ≡ true) (sym parts) w.0, λ j. up (w.1 (subst (In p) parts j)))

    change-lent : (deed : Deed) (o : Option Command) (m new : Mind) (Before After : Type 0) → (Before → After)
        → (unfinished stages (facts_of m) ≡ None → ((g : Goal) → goal_in (facts_of m) (own_channel p) ≡ Some g → lets_go p g ≡ false) → In p m.parts → Before) → Change stages real deed o m new
        → LentAt m Before → LentAt new After
    change-lent deed o m new Before After up done (stays parts goals) was q i l = same-lent m new Before After parts up was q i l
    change-lent deed o m new Before After up done (closes lets channel taken parts goals) was q i l = same-lent m new Before After parts up was q i l
    change-lent deed o m new Before After up done (opens d followed is taken parts goals) was q i l = (
      subst (λ (ps : List Part). is_among c (channels ps) ≡ true) (sym parts) (ap (is_among c) (channels-append m.parts news) ∙ in-left c (channels m.parts) (channels news) planned),
      λ j. up (full (In-append_cases p m.parts news (subst (In p) parts j))),
    )
      where
        news : List Part
        news = parts_of real m.key d

        a : Accepted m d
        a = accepted m d taken

        -- a ledger of what is opened is in the plan, and the node didn't let go of it
        there : In q news → is_there m c ≡ true
        there j = all-at (is_there m) (ledgers_for m.key d) c a.ledgers (ap (is_among c) (sym (ledgers-are m.key d q j)) ∙ l)

        held-on : In q news → (g : Goal) → goal_in (facts_of m) (own_channel p) ≡ Some g → lets_go p g ≡ false
        held-on j = let-go-not m p c st.own (not-true (is_over (goal_about m c)) (and-right (is_among c (channels m.parts)) (not (is_over (goal_about m c))) (there j)))

        planned : is_among c (channels m.parts) ≡ true
        planned = by (In-append_cases q m.parts news (subst (In q) parts i))
          where
            by : In q m.parts ⊎ In q news → is_among c (channels m.parts) ≡ true
            by (inl j) = (was q j l).0
            by (inr j) = and-left (is_among c (channels m.parts)) (not (is_over (goal_about m c))) (there j)

        full : In p m.parts ⊎ In p news → Before
        full (inl j) = by (In-append_cases q m.parts news (subst (In q) parts i))
          where
            by : In q m.parts ⊎ In q news → Before
            by (inl k) = (was q k l).1 j
            by (inr k) = done a.finished (held-on k) j
        full (inr j) =
            absurd (clash (is_among c (channels m.parts)) planned
            (fresh-name m (map real.named (opened_by d)) c
            (and-right (are_apart (map real.named (opened_by d))) (list_all (λ name. not (is_planned m name)) (map real.named (opened_by d))) (accepted-new stages real m d taken))
            (ap (is_among c) (sym (opened-channels real m.key d)) ∙ among-channels c news p j p-has)))

    pub lent : (newer front : List Told) → journal ≡ newer ++ front → Plays stages real s h front → (later past : List Entry) → h ≡ later ++ past → Seen past front → Lent past front
    lent = over stages real s h journal Lent (record { first = nothing; event = at-event; look = at-look; entry = at-entry })
      where
        nothing : (past : List Entry) → Lent past []
        nothing [] q i l = absurd i
        nothing (e ∷ past) q i l = absurd (none past i)
          where
            none : (past : List Entry) → In q (mind_at real s.key (e ∷ past) []).parts → ⊥
            none [] i = i
            none (x ∷ past) i = none past i

        at-event : (past : List Entry) (x : Told) (front : List Told) → AtEvent stages real s h journal past x front → Lent past front → Lent past (x ∷ front)
        at-event past x front at was =
            let place = at.event.place at.later past at.entries at.len in
            subst (λ (m : Mind). LentAt m (Full past (x ∷ front))) (sym (mind-event real s.key past x front at.len))
            (change-lent x.deed x.command (mind_at real s.key past front) (did real x.deed x.command (mind_at real s.key past front)) (Full past front) (Full past (x ∷ front))
            (event-reaches s f turn past front x at.len)
            (finished-full past front (at.newer ++ x ∷ []) (at.events ∙ append_assoc' at.newer (x ∷ []) front) at.plays at.later at.entries at.before place.0)
            (event-changes stages real s past (signings front) (pending front) x.deed x.command (mind_at real s.key past front) place.1) was)

        at-look : (past : List Entry) (x : Told) (front : List Told) → is_watched x.deed ≡ true → Lent past front → Lent past (x ∷ front)
        at-look past x front w was =
            subst (λ (m : Mind). LentAt m (Full past (x ∷ front))) (sym (mind-watched real s.key past x front (looked real x.deed x.command w)))
            (same-lent (mind_at real s.key past front) (mind_at real s.key past front) (Full past front) (Full past (x ∷ front)) refl (look-reaches s f turn past front x w) was)

        at-entry : (past : List Entry) (e : Entry) (front : List Told) → Seen past front → Lent past front → Lent (e ∷ past) front
        at-entry past e front seen was =
            subst (λ (m : Mind). LentAt m (Full (e ∷ past) front)) (sym (mind-entry real s.key past e front seen))
            (same-lent (mind_at real s.key past front) (minds.saw real e (mind_at real s.key past front)) (Full past front) (Full (e ∷ past) front) refl (entry-reaches s f turn past front e) was)

    -- ---- a payment that waits

    abbrev pub Waits : List Entry → List Told → Type 0
    Waits past front = (paid : List ℕ) (asset amount : ℕ) → pending front ≡ Some (commands.Pay paid asset amount) → bytes_eq paid c ≡ true → In p (mind_at real s.key past front).parts → Full past front

    -- the part of the channel in a payment runs
    joined-runs : (m : Mind) (paid : List ℕ) → are_apart (channels m.parts) ≡ true → bytes_eq paid c ≡ true → In p m.parts → not_running stages (facts_of m) (part_joined paid m.parts) ≡ None
        → (stages.stage (facts_of m) p == running p) ≡ true
    joined-runs m paid apart same i e = by (part_joined paid m.parts) refl e
      where
        by : (o : Option Part) → part_joined paid m.parts ≡ o → not_running stages (facts_of m) o ≡ None → (stages.stage (facts_of m) p == running p) ≡ true
        by None is e = absurd (none-eq _ (sym e))
        by (Some q) is e =
            let test = found_passes (λ (x : Part). is_among paid (joined_of x)) m.parts q is in
            let there = find-in (λ (x : Part). is_among paid (joined_of x)) m.parts q is in
            let q-is : q ≡ p = part-is m q c apart i there p-has (joined-among c q (subst (λ (x : List ℕ). is_among x (joined_of q) ≡ true) (same_bytes paid c same) test)) in
            subst (λ (x : Part). (stages.stage (facts_of m) x == running x) ≡ true) q-is
            (not-false (stages.stage (facts_of m) q == running q) (holds_not (not (stages.stage (facts_of m) q == running q)) (NotWanted (stages.stage (facts_of m) q)) e))

    pub waits : (newer front : List Told) → journal ≡ newer ++ front → Plays stages real s h front → (later past : List Entry) → h ≡ later ++ past → Seen past front → Waits past front
    waits = over stages real s h journal Waits (record { first = λ past paid asset amount e same i. absurd (none-eq _ e); event = at-event; look = at-look; entry = at-entry })
      where
        at-event : (past : List Entry) (x : Told) (front : List Told) → AtEvent stages real s h journal past x front → Waits past front → Waits past (x ∷ front)
        at-event past x front at was paid asset amount e same i =
            let m : Mind = mind_at real s.key past front in
            let place = at.event.place at.later past at.entries at.len in
            let a = pays s past m (signings front) (pending front) x.deed x.command paid asset amount place.1 e in
            let i-before : In p m.parts = subst (In p) a.parts (subst (λ (z : Mind). In p z.parts) (mind-event real s.key past x front at.len) i) in
            event-reaches s f turn past front x at.len
            (runs-full past front (at.newer ++ x ∷ []) (at.events ∙ append_assoc' at.newer (x ∷ []) front) at.plays at.later at.entries at.before place.0
            (joined-runs m paid (is-planned stages real s h front at.plays at.later past at.entries at.before).apart same i-before
            (paid-runs m s.limit (signings front) paid asset amount (kept_of paid m.kept) a.accepts)))

        at-look : (past : List Entry) (x : Told) (front : List Told) → is_watched x.deed ≡ true → Waits past front → Waits past (x ∷ front)
        at-look past x front w was paid asset amount e same i = absurd (no-payment x.deed x.command (commands.Pay paid asset amount) w e)

        at-entry : (past : List Entry) (e : Entry) (front : List Told) → Seen past front → Waits past front → Waits (e ∷ past) front
        at-entry past e front seen was paid asset amount is same i =
            entry-reaches s f turn past front e (was paid asset amount is same (subst (λ (m : Mind). In p m.parts) (mind-entry real s.key past e front seen) i))

    -- ---- a state that is noted

    module _ (past : List Entry) (front newer : List Told) (events : journal ≡ newer ++ front) (front-plays : Plays stages real s h front) (later : List Entry) (entries : h ≡ later ++ past)
        (before : Seen past front) (few : AreFew past) (took-before : Took command front) where
      abbrev here : Mind
      here = mind_at real s.key past front

      there : In p here.parts
      there = stand stages real s h legal f front front-plays later past entries before command p took-before of

      here-apart : are_apart (channels here.parts) ≡ true
      here-apart = (is-planned stages real s h front front-plays later past entries before).apart

      agrees : (x : FixedParts) (k : Kept) → kept_of (real.named x) here.kept ≡ Some k → Agree real s.key x (lines_of s.key front) (Some k) (held real x past (lines_of s.key front))
      agrees x k keeps =
          subst (λ (o : Option Kept). Agree real s.key x (lines_of s.key front) o (held real x past (lines_of s.key front))) keeps
          (known real s.key x past front (legal-suffix real later past (subst (Legal real) entries legal)) few).agree

      fixed-here : (x : FixedParts) → In x (opened_by command) → (k : Kept) → kept_of (real.named x) here.kept ≡ Some k → k.chain.fixed ≡ x
      fixed-here x i k keeps = by (held real x past (lines_of s.key front)) (agrees x k keeps)
        where
          by : (o : Option Marked) → Agree real s.key x (lines_of s.key front) (Some k) o → k.chain.fixed ≡ x
          by None a = absurd a
          by (Some w) a = (owns x i newer front events k a.0).fixed

      -- the goal of the part is that of the command
      goal-here : (g : Goal) → goal_in (facts_of here) (own_channel p) ≡ Some g → IsGoalOf command g
      goal-here g is =
          let found = goal-found here.parts here.goals (own_channel p) g is in
          let q-is : found.q ≡ p = found-is here found.q here-apart there (In-get here.parts g.part found.q found.at) found.about in
          let o = goals-of stages real s h legal f front front-plays later past entries before g found.there in
          let p-is : o.p ≡ p = some-eq o.p found.q (sym o.at ∙ found.at) ∙ q-is in
          let name = name-in real c (opened_by o.command)
          (ap (is_among c) (sym (opened-channels real s.key o.command)) ∙ among-channels c (parts_of real s.key o.command) p (subst (λ (x : Part). In x (parts_of real s.key o.command)) p-is o.of) p-has) in
          subst (λ (d : Command). IsGoalOf d g)
          (sym (one-command stages real s h legal f journal plays command o.command f name.g took (subst (Took o.command) (sym events) (took-later o.command newer front o.took)) inside name.there (sym name.named))) o.goal

      -- past the first round
      over-it : (k : Kept) (n : ℕ) → kept_of c here.kept ≡ Some k → n ≡ next_of k → n < people f → Full past front → ⊥
      over-it k n keeps next small full = absurd (less (people f) turn full.top.turn n st.enough full.up (next ∙ after) small)
        where
          a : Agree real s.key f (lines_of s.key front) (Some k) (Some full.w)
          a = subst (Agree real s.key f (lines_of s.key front) (Some k)) full.is (agrees f k keeps)

          after : next_of k ≡ full.top.turn + 1
          after = ap next_after (ap (λ (x : Marked). newest x.states) (a.1 (fixed-here f inside k keeps)) ∙ full.ends)

          less : (people turn top n : ℕ) → people ≤ turn + 1 → turn ≤ top → n ≡ top + 1 → n < people → ⊥
          less people turn top n a b e l = absurd (omega arith)

      -- its own part is asked
      asked-own : ((q : Part) → In q here.parts → is_among c (ledgers_of q) ≡ true → ⊥) → stages.asked (facts_of here) c ≡ Some p
      asked-own none = by (asked.unfinished_on (facts_of here) c here.parts) refl
        where
          own-found : (parts : List Part) → In p parts → ((q : Part) → In q parts → is_among c (joined_of q) ≡ true → q ≡ p) → asked.part_with c parts ≡ Some p
          own-found [] i only = absurd i
          own-found (q ∷ qs) i only = go (is_among c (joined_of q)) refl (λ j. own-found qs j (λ x n. only x (inr n))) i
            where
              go : (b : Bool) → is_among c (joined_of q) ≡ b → (In p qs → asked.part_with c qs ≡ Some p) → (p ≡ q) ⊎ In p qs → cond b (Some q) (asked.part_with c qs) ≡ Some p
              go true has rest i = ap (λ (x : Part). Some x) (only q (inl refl) has)
              go false has rest (inl e) = absurd (clash (is_among c (joined_of q)) (subst (λ (x : Part). is_among c (joined_of x) ≡ true) e st.own) has)
              go false has rest (inr j) = rest j

          by : (o : Option Part) → asked.unfinished_on (facts_of here) c here.parts ≡ o → option_or o (asked.part_with c here.parts) ≡ Some p
          by None is = own-found here.parts there (λ q j has. part-is here q c here-apart there j p-has (joined-among c q has))
          by (Some q) is = let found = on-in (facts_of here) c here.parts q is in absurd (none q found.0 found.1)

      on-none : (Full past front → ⊥) → (q : Part) → In q here.parts → is_among c (ledgers_of q) ≡ true → ⊥
      on-none not-full q j l = not-full ((lent newer front events front-plays later past entries before q j l).1 there)

      open-yet : (Full past front → ⊥) → (n : StateParts) → stages.wanted (facts_of here) c ≡ Some n → (g : Goal) → goal_in (facts_of here) (own_channel p) ≡ Some g → g.closing ≡ false
      open-yet not-full n wanted g is = go g.closing refl
        where
          go : (b : Bool) → g.closing ≡ b → b ≡ false
          go true closing = by (lets_go p g) refl
            where
              by : (o : Bool) → lets_go p g ≡ o → true ≡ false
              by false held-on = absurd (not-full (closing-full past front newer events front-plays later entries before few g is there closing held-on))
              by true gone = absurd (over-wants (facts_of here) p c g n (asked-own (on-none not-full)) is closing gone wanted)
          go false e = refl

      place-here : (Full past front → ⊥) → IsPlace here command p f
      place-here not-full = record { fixed = fixed-here; goal = goal-here; apart = on-none not-full p there; once = kept-apart stages real s h front front-plays later past entries before }

      not-paid : (Full past front → ⊥) → IsPaid (pending front) c → ⊥
      not-paid not-full paid = not-full (waits newer front events front-plays later past entries before paid.paid paid.asset paid.amount paid.is paid.here there)

      repeats-here : (n : StateParts) → IsNoted stages (pending front) here c n → n.turn < people f → is_repeated opening n ≡ true
      repeats-here n noted small = by noted.why
        where
          not-full : Full past front → ⊥
          not-full = over-it noted.k n.turn noted.keeps noted.next small

          first : (stages.accepts (facts_of here) c n ≡ true) ⊎ (((g : Goal) → goal_in (facts_of here) (own_channel p) ≡ Some g → g.closing ≡ false) × (stages.wanted (facts_of here) c ≡ Some n))
              → is_repeated opening n ≡ true
          first = st.starts here noted.k n (place-here not-full) (asked-own (on-none not-full)) noted.keeps noted.next small

          by : (stages.accepts (facts_of here) c n ≡ true) ⊎ noting.IsWished stages (pending front) here c n → is_repeated opening n ≡ true
          by (inl e) = first (inl e)
          by (inr (inl paid)) = absurd (not-paid not-full paid)
          by (inr (inr e)) = first (inr (open-yet not-full n e, e))

      first-here : (n : StateParts) → noting.IsMade stages (pending front) here c n → n.turn < people f → FirstPlace n
      first-here n made small = by made.why
        where
          not-full : Full past front → ⊥
          not-full = over-it made.k n.turn made.keeps made.next small

          by : noting.IsWished stages (pending front) here c n → FirstPlace n
          by (inl paid) = absurd (not-paid not-full paid)
          by (inr e) = record { m = here; known_there = place-here not-full; asked_is = asked-own (on-none not-full); going = open-yet not-full n e; wants = e }

  -- ---- over the journal

  -- the place of an event
  record LinePlace (z : Told) (front : List Told) : Type 0 where
    newer : List Told
    split : journal ≡ newer ++ front
    past : List Entry
    later : List Entry
    entries : h ≡ later ++ past
    plays-front : Plays stages real s h front
    before : Seen past front
    few : AreFew past
    allowed : Allowed stages real s past (mind_at real s.key past front) (signings front) (pending front) z.deed z.command

  line-place : (z : Told) (newer front : List Told) → journal ≡ newer ++ z ∷ front → LinePlace z front
  line-place z newer front events = by (rest-plays s h newer (z ∷ front) (subst (Plays stages real s h) events plays))
    where
      by : Plays stages real s h (z ∷ front) → LinePlace z front
      by pz =
          let su = suffix_of h z.seen pz.0.within in
          let place = pz.0.place su.later su.past su.is su.len in
          record {
            newer = newer ++ z ∷ [];
            split = events ∙ append_assoc' newer (z ∷ []) front;
            past = su.past;
            later = su.later;
            entries = su.is;
            plays-front = pz.1;
            before = λ y i w. subst (λ (k : ℕ). y.seen ≤ k) (sym su.len) (pz.0.rising y i w);
            few = place.0;
            allowed = place.1;
          }

  -- what is kept there of the channel
  record OwnHere (front : List Told) (k : Kept) : Type 0 where
    fixed : k.chain.fixed ≡ f
    before : Took command front
    several : 1 ≤ people f

  own-here : (z : Told) (front : List Told) (lp : LinePlace z front) (k : Kept) → kept_of c (mind_at real s.key lp.past front).kept ≡ Some k → OwnHere front k
  own-here z front lp k keeps =
      by (held real f lp.past (lines_of s.key front))
      (subst (λ (o : Option Kept). Agree real s.key f (lines_of s.key front) o (held real f lp.past (lines_of s.key front))) keeps
      (known real s.key f lp.past front (legal-suffix real lp.later lp.past (subst (Legal real) lp.entries legal)) lp.few).agree)
    where
      by : (o : Option Marked) → Agree real s.key f (lines_of s.key front) (Some k) o → OwnHere front k
      by None a = absurd a
      by (Some w) a =
          let o = owns f inside lp.newer front lp.split k a.0 in
          record {
            fixed = o.fixed;
            before = o.before;
            several = subst (λ (x : FixedParts). 1 ≤ people x) o.fixed (let inside-keys : k.me < people k.chain.fixed = get-within k.chain.fixed.keys k.me s.key a.0.mine in omega arith);
          }

  at-event : (z : Told) (newer front : List Told) → journal ≡ newer ++ z ∷ front → (n : Signed) → noted_in c z.deed ≡ Some n → n.state.turn < people f → is_repeated opening n.state ≡ true
  at-event z newer front events n e small =
      let lp = line-place z newer front events in
      let noted = why-noted stages real s lp.past (mind_at real s.key lp.past front) (signings front) (pending front) c z.deed z.command n lp.allowed e in
      let o = own-here z front lp noted.k noted.keeps in
      repeats-here o.several lp.past front lp.newer lp.split lp.plays-front lp.later lp.entries lp.before lp.few o.before n.state noted small

  pub opens-with : OpensWith f opening (lines_of s.key journal)
  opens-with x n i e small =
      let told = In-lines s.key x journal i in
      let sp = split_of told.0 journal told.1 in
      at-event told.0 sp.newer sp.front sp.is n (subst (λ (v : Line). noted_in c v.deed ≡ Some n) told.2 e) small

  first-at : (z : Told) (newer front : List Told) → journal ≡ newer ++ z ∷ front → (n : Signed) → made_in c z.deed ≡ Some n → n.state.turn < people f → FirstPlace n.state
  first-at z newer front events n e small =
      let lp = line-place z newer front events in
      let made = why-made stages real s lp.past (mind_at real s.key lp.past front) (signings front) (pending front) c z.deed z.command n lp.allowed e in
      let o = own-here z front lp made.k made.keeps in
      first-here o.several lp.past front lp.newer lp.split lp.plays-front lp.later lp.entries lp.before lp.few o.before n.state made small

  pub first-place : (x : Line) (n : Signed) → In x (lines_of s.key journal) → made_in c x.deed ≡ Some n → n.state.turn < people f → FirstPlace n.state
  first-place x n i e small =
      let told = In-lines s.key x journal i in
      let sp = split_of told.0 journal told.1 in
      first-at told.0 sp.newer sp.front sp.is n (subst (λ (v : Line). made_in c v.deed ≡ Some n) told.2 e) small

  -- ---- what was signed at any turn

  -- the place of a state that was signed: what is known there, and that its stage wanted it, or that a payment waited
  pub record MadePlace (n : StateParts) : Type 0 where
    pub m : Mind
    pub there : In p m.parts
    pub plan : are_apart (channels m.parts) ≡ true
    pub once : are_apart (names m.kept) ≡ true
    pub fixed : (x : FixedParts) → In x (opened_by command) → (k : Kept) → kept_of (real.named x) m.kept ≡ Some k → k.chain.fixed ≡ x
    pub goal : (g : Goal) → goal_in (facts_of m) (own_channel p) ≡ Some g → IsGoalOf command g
    pub why : (stages.wanted (facts_of m) c ≡ Some n) ⊎ (f.app ≡ 1)

  -- payments wait in payment channels
  pub paid-app : (front newer : List Told) → journal ≡ newer ++ front → IsPaid (pending front) c → f.app ≡ 1
  paid-app [] newer events paid = absurd (none-eq _ paid.is)
  paid-app (y ∷ front) newer events paid = by (kept_of paid.paid m.kept) refl a.accepts
    where
      lp : LinePlace y front
      lp = line-place y newer front events

      m : Mind
      m = mind_at real s.key lp.past front

      a : Pays m s.limit (signings front) y.deed y.command paid.paid paid.asset paid.amount
      a = pays s lp.past m (signings front) (pending front) y.deed y.command paid.paid paid.asset paid.amount lp.allowed paid.is

      by : (o : Option Kept) → kept_of paid.paid m.kept ≡ o → None ≡ pay_refusal stages real s.limit (signings front) m paid.paid paid.asset paid.amount o → f.app ≡ 1
      by None is e = absurd (none-eq _ e)
      by (Some k) is e =
          let o = own-here y front lp k (subst (λ (x : List ℕ). kept_of x m.kept ≡ Some k) (same_bytes paid.paid c paid.here) is) in
          let after-turn = rest_none _ _ (rest_none (not_open stages (facts_of m)) _ (sym e)) in
          let fits : refusing.is_payable real m paid.paid paid.asset paid.amount k (items_in paid.asset (refusing.latest_outcome m paid.paid k)) ≡ true =
          not-false (refusing.is_payable real m paid.paid paid.asset paid.amount k (items_in paid.asset (refusing.latest_outcome m paid.paid k)))
          (holds_not (not (refusing.is_payable real m paid.paid paid.asset paid.amount k (items_in paid.asset (refusing.latest_outcome m paid.paid k)))) NotAStep (first_none _ _ after-turn)) in
          ap (λ (x : FixedParts). x.app) (sym o.fixed) ∙ eqb-true k.chain.fixed.app 1 (and-left (k.chain.fixed.app == 1) (nat_lt (next_of k) (2 ^ 48)) (and-left ((k.chain.fixed.app == 1) && nat_lt (next_of k) (2 ^ 48)) _ fits))

  made-at : (z : Told) (newer front : List Told) → journal ≡ newer ++ z ∷ front → (n : Signed) → made_in c z.deed ≡ Some n → MadePlace n.state
  made-at z newer front events n e =
      let lp = line-place z newer front events in
      let made = why-made stages real s lp.past (mind_at real s.key lp.past front) (signings front) (pending front) c z.deed z.command n lp.allowed e in
      let o = own-here z front lp made.k made.keeps in
      record {
        m = mind_at real s.key lp.past front;
        there = there o.several lp.past front lp.newer lp.split lp.plays-front lp.later lp.entries lp.before lp.few o.before;
        plan = here-apart o.several lp.past front lp.newer lp.split lp.plays-front lp.later lp.entries lp.before lp.few o.before;
        once = kept-apart stages real s h front lp.plays-front lp.later lp.past lp.entries lp.before;
        fixed = fixed-here o.several lp.past front lp.newer lp.split lp.plays-front lp.later lp.entries lp.before lp.few o.before;
        goal = goal-here o.several lp.past front lp.newer lp.split lp.plays-front lp.later lp.entries lp.before lp.few o.before;
        why = by lp made.why;
      }
    where
      by : (lp : LinePlace z front) → noting.IsWished stages (pending front) (mind_at real s.key lp.past front) c n.state → (stages.wanted (facts_of (mind_at real s.key lp.past front)) c ≡ Some n.state) ⊎ (f.app ≡ 1)
      by lp (inl paid) = inr (paid-app front lp.newer lp.split paid)
      by lp (inr e) = inl e

  pub made-place : (x : Line) (n : Signed) → In x (lines_of s.key journal) → made_in c x.deed ≡ Some n → MadePlace n.state
  made-place x n i e =
      let told = In-lines s.key x journal i in
      let sp = split_of told.0 journal told.1 in
      made-at told.0 sp.newer sp.front sp.is n (subst (λ (v : Line). made_in c v.deed ≡ Some n) told.2 e)
