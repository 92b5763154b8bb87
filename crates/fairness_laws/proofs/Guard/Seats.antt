-- What a seat of a channel wants comes next and follows from what the node keeps of it.
use Rattle.std.proofs.Common.{◌≡◌, ℕ, ◌*◌, ◌≤◌, true, false, List, sym, ◌∙◌, ap, subst}
use Rattle.std.specs.Prelude.{Option, Some}
use Rattle.std.specs.List.{slice_get}
use Rattle.std.specs.Str.{bytes_eq}
use Rattle.channel_values.specs.Outcomes.{IsOutcome}
use Rattle.channel_values.specs.Parts.{FixedParts, StateParts, IsFixed}
use Rattle.channel_values.specs.declared.value.AssetOutcome.{AssetOutcome}
use Rattle.channel_safety.proofs.Lists.{one-place}
use Rattle.channel_safety.proofs.Tests.{some-eq}
use Rattle.call_history.proofs.Names.{same_bytes}
use Rattle.call_history.specs.History.{mode}
use Rattle.call_history.specs.Marked.{Marked, marked_of, chain_of}
use Rattle.call_history.specs.declared.entry.Entry.{Entry}
use Rattle.channel_values.specs.Rules.{people}
use Rattle.channel_store.specs.Keeping.{next_of}
use Rattle.channel_store.specs.Storing.{kept_of}
use Rattle.channel_store.specs.declared.kept.Kept.{Kept}
use Rattle.call_history.specs.Mode.{is_final}
use Rattle.funding_plans.specs.Known.{FactsOf}
use Rattle.channel_safety.specs.Journals.{In, Line}
use Rattle.channel_node.specs.Minds.{Mind, facts_of}
use Rattle.channel_node.specs.Places.{Told, lines_of, mind_at}
use Rattle.channel_node.specs.Playing.{Signing}
use Rattle.channel_node.specs.Refusing.{is_open, stands_in}
use Rattle.fairness_laws.proofs.Channels.{one-named, channel-of, carried}
use Rattle.fairness_laws.proofs.Guard.Steps.{Comes, repeat-comes, final-comes, pass-comes, move-comes}
use Rattle.fairness_laws.proofs.Seat.Past.{occurs}
use Rattle.fairness_laws.proofs.Plan.Holding.{Holds}
use Rattle.fairness_laws.proofs.Signing.{kept-of, owns}
use Rattle.fairness_laws.specs.PaymentLaws.{At}
use Rattle.fairness_laws.specs.PlanSeats.{seat_of, SeatIs}
use Rattle.fairness_laws.specs.PlanSettings.{IsFair}
use Rattle.funding_plans.specs.Limits.{is_valid}
use Rattle.share_laws.specs.Places.{channels}
use Rattle.share_laws.specs.Signatures.{IsOwn}
use Rattle.funding_plans.specs.Seats.{Seat, repeats, final_state, pass_on, toward}
use Rattle.support_rules.specs.Real.{real}
use Rattle.node_guarantees.specs.ViewLaws.{IsKeptAt}
use Rattle.fairness_laws.specs.Carried.{OpensWith, IsRepeatedIfAny}

-- the channel is open
abbrev pub Stands : FactsOf → List ℕ → Type 0
Stands facts n = is_open (stands_in facts n) ≡ true

abbrev keeping : List ℕ → FixedParts → Marked → ℕ → Option StateParts → Kept
keeping n g w i s = record { channel = n; me = i; chain = chain_of g w; last = s }

-- what is kept of a channel at a place is one
one-kept : (past : List Entry) (lines : List Line) (f : FixedParts) (k j : Kept) → IsKeptAt real past lines f k → IsKeptAt real past lines f j → k.me ≡ j.me → k ≡ j
one-kept past lines f k j a b me =
    ap (λ (n : List ℕ). keeping n k.chain.fixed (marked_of k.chain) k.me k.last) (a.name ∙ sym b.name)
    ∙ (ap (λ (g : FixedParts). keeping j.channel g (marked_of k.chain) k.me k.last) (a.fixed ∙ sym b.fixed)
    ∙ (ap (λ (w : Marked). keeping j.channel j.chain.fixed w k.me k.last) (some-eq (marked_of k.chain) (marked_of j.chain) (sym a.chain ∙ b.chain))
    ∙ (ap (λ (n : ℕ). keeping j.channel j.chain.fixed (marked_of j.chain) n k.last) me
    ∙ ap (λ (s : Option StateParts). keeping j.channel j.chain.fixed (marked_of j.chain) j.me s) (a.last ∙ sym b.last))))

-- the state is wanted of the channel f, of which k is kept
module _ (s : Signing) (h : List Entry) (journal : List Told) (fair : IsFair s h journal) (past : List Entry) (front : List Told) (at : At s h journal past front)
    (f : FixedParts) (there : In f (channels (lines_of s.key front))) (k : Kept) (found : kept_of (real.named f) (mind_at real s.key past front).kept ≡ Some k) (state : StateParts) where
  abbrev m : Mind
  m = mind_at real s.key past front

  abbrev lines : List Line
  lines = lines_of s.key front

  holds : Holds s.key past lines m f
  holds = kept-of s h journal fair past front at f there

  own : IsOwn real lines f
  own = owns s h journal fair past front at f there

  fixed : IsFixed f
  fixed = fair.nodes.valid.fixed f (occurs s h journal fair.nodes past front at.front_is f there)

  -- by the seat c of the channel x
  module _ (x : FixedParts) (opening : List AssetOutcome) (c : Seat) (seat : SeatIs s.key past lines x opening c) (named : bytes_eq c.name (real.named f) ≡ true) where
    same-name : real.named x ≡ real.named f
    same-name = sym (ap (λ (y : Seat). y.name) seat.is) ∙ same_bytes c.name (real.named f) named

    same : x ≡ f
    same = one-named lines x f seat.own own same-name

    pub several : 2 ≤ people x
    several = subst (λ (y : FixedParts). 2 ≤ people y) (sym same) fixed.at_least_two

    -- where that is open this is
    pub stands-as : (n : List ℕ) → real.named x ≡ n → Stands (facts_of m) n → Stands (facts_of m) (real.named f)
    stands-as n is = subst (Stands (facts_of m)) (sym is ∙ same-name)

    pub going-there : is_final (mode real (real.named f) past) ≡ false → is_final (mode real (real.named x) past) ≡ false
    going-there going = subst (λ (n : List ℕ). is_final (mode real n past) ≡ false) (sym same-name) going

    kept-is : seat.kept ≡ k
    kept-is =
        one-kept past lines f seat.kept holds.kept (subst (λ (y : FixedParts). IsKeptAt real past lines y seat.kept) same seat.at) holds.at
        (one-place f.keys s.key seat.kept.me holds.kept.me fixed.keys.apart (subst (λ (y : FixedParts). slice_get y.keys seat.kept.me ≡ Some s.key) same seat.mine) holds.mine)
        ∙ some-eq holds.kept k (sym holds.found ∙ found)

    to-kept : Comes seat.kept state → Comes k state
    to-kept e = subst (λ (j : Kept). Comes j state) kept-is e

    seat-is : c ≡ seat_of seat.kept.chain.fixed opening seat.kept
    seat-is = seat.is ∙ ap (λ (y : FixedParts). seat_of y opening seat.kept) (sym seat.at.fixed)

    fixed-is : (P : FixedParts → Type 0) → P x → P seat.kept.chain.fixed
    fixed-is P p = subst P (sym seat.at.fixed) p

    over : 2 * people x ≤ c.next → 2 * people seat.kept.chain.fixed ≤ next_of seat.kept
    over far = fixed-is (λ y. 2 * people y ≤ next_of seat.kept) (subst (λ (n : ℕ). 2 * people x ≤ n) (ap (λ (y : Seat). y.next) seat.is) far)

    pub repeated-comes : OpensWith x opening (lines_of s.key journal) → (from until : ℕ) → until ≤ 2 * people x → repeats from until c ≡ Some state → Comes k state
    repeated-comes opens from until few e =
        to-kept (repeat-comes seat.kept opening seat.at.good
        (fixed-is (λ y. IsRepeatedIfAny y opening (Some (marked_of seat.kept.chain)))
        (subst (IsRepeatedIfAny x opening) seat.at.chain
        (carried s h journal fair past front at x opening (channel-of s h journal past front at x seat.own.there seat.kept.me seat.mine) opens)))
        from until (fixed-is (λ y. until ≤ 2 * people y) few) state (subst (λ (y : Seat). repeats from until y ≡ Some state) seat-is e))

    pub final-state-comes : 2 * people x ≤ c.next → c.all_final ≡ false → final_state c ≡ Some state → Comes k state
    final-state-comes far going e =
        to-kept (final-comes seat.kept opening seat.at.good (over far) (sym (ap (λ (y : Seat). y.all_final) seat.is) ∙ going) state (subst (λ (y : Seat). final_state y ≡ Some state) seat-is e))

    pub passed-comes : x.app ≡ 0 → (on : List AssetOutcome) → pass_on on c ≡ Some state → Comes k state
    passed-comes app on e = to-kept (pass-comes seat.kept opening (fixed-is (λ y. y.app ≡ 0) app) on state (subst (λ (y : Seat). pass_on on y ≡ Some state) seat-is e))

    pub moved-comes : x.app ≡ 0 → 2 * people x ≤ c.next → (target : Option (List AssetOutcome)) → toward target c ≡ Some state
        → ((top : StateParts) (t : List AssetOutcome) → c.top ≡ Some top → target ≡ Some t → is_valid t ≡ true → IsOutcome t) → Comes k state
    moved-comes app far target e reads =
        to-kept (move-comes seat.kept opening (fixed-is (λ y. y.app ≡ 0) app) (fixed-is (λ y. 2 ≤ people y) several) (over far) target state
        (subst (λ (y : Seat). toward target y ≡ Some state) seat-is e) (λ top t is. reads top t (ap (λ (y : Seat). y.top) seat.is ∙ is)))
