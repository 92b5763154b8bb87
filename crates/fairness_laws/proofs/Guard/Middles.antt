-- What the intermediary of a virtual channel wants comes next and follows.
use Rattle.std.proofs.Common.{◌≡◌, ℕ, ◌≤◌, true, false, List, sym, ◌∙◌, refl, arith}
use Rattle.std.specs.Prelude.{Option, Some, None}
use Rattle.std.specs.Str.{bytes_eq}
use Rattle.channel_values.specs.Outcomes.{IsOutcome}
use Rattle.channel_values.specs.Parts.{FixedParts, StateParts}
use Rattle.channel_values.specs.declared.value.AssetOutcome.{AssetOutcome}
use Rattle.channel_safety.proofs.Tests.{clash, and-both}
use Rattle.call_history.specs.Flows.{is_among}
use Rattle.call_history.specs.History.{mode}
use Rattle.call_history.specs.declared.entry.Entry.{Entry}
use Rattle.channel_values.specs.Rules.{people}
use Rattle.channel_store.specs.Storing.{kept_of}
use Rattle.channel_store.specs.declared.kept.Kept.{Kept}
use Rattle.call_history.specs.Mode.{is_final}
use Rattle.funding_plans.specs.Parts.{joined_of, ledgers_of}
use Rattle.funding_plans.specs.declared.plan.Goal.{Goal}
use Rattle.funding_plans.specs.declared.plan.Part.TheVariants as parts
use Rattle.funding_plans.specs.declared.plan.Virtual.{Virtual}
use Rattle.channel_safety.specs.Journals.{In, Line}
use Rattle.channel_node.specs.Minds.{facts_of}
use Rattle.channel_node.specs.Places.{Told, lines_of, mind_at}
use Rattle.channel_node.specs.Playing.{Signing}
use Rattle.channel_node.specs.Refusing.{not_open}
use Rattle.stage_tables.specs.Stages.{stages}
use Rattle.funding_plans.specs.Limits.{is_valid}
use Rattle.funding_plans.specs.Targets.{apart, together, guarantee}
use Rattle.funding_plans.specs.declared.terms.Terms.{Terms}
use Rattle.fairness_laws.proofs.Guard.Late.{middle-joint-far, holds-over, closing-over, ledger-over}
use Rattle.fairness_laws.proofs.Guard.Open.{AllShut, ledger-stands, shut-down}
use Rattle.fairness_laws.proofs.Guard.Seats.{Stands, stands-as, several, repeated-comes, passed-comes, moved-comes, going-there}
use Rattle.fairness_laws.proofs.Guard.Steps.{Comes}
use Rattle.fairness_laws.proofs.Joint.Rows.{MiddleWants, guarantees_a, guarantees_b, splits, ups_a, ups_b, joins, parts as parts_back, downs_a, downs_b, middle-wants}
use Rattle.fairness_laws.proofs.MiddlePart.{stands-open, a-among, b-among, joint-among, three, on-a, on-b, lends-a, lends-b, child-a, child-b, side-a, side-b, up, down, join-fits, part-fits}
use Rattle.fairness_laws.proofs.Signing.{opens-not_final}
use Rattle.fairness_laws.proofs.OpenedVirtuals.{MiddleOpened, middle-opened}
use Rattle.fairness_laws.specs.JointKeeping.{MiddleKeeps}
use Rattle.fairness_laws.specs.LedgerLaws.{LedgersKeep, LedgersStand}
use Rattle.fairness_laws.specs.LedgerLending.{Lent, of_middle, lent}
use Rattle.fairness_laws.specs.PaymentLaws.{At}
use Rattle.fairness_laws.specs.PlanParts.{LedgerIs, GuarantorIs, MiddleIs}
use Rattle.fairness_laws.specs.PlanSeats.{SeatIs}
use Rattle.fairness_laws.specs.PlanSettings.{IsFair}
use Rattle.share_laws.specs.Places.{channels}
use Rattle.funding_plans.specs.Gathered.{goal_in}
use Rattle.funding_plans.specs.Rows.{wanted_in}
use Rattle.funding_plans.specs.Seats.{Seat, repeats, toward, up_in, down_in, is_down}
use Rattle.support_rules.specs.Real.{real}
use Rattle.virtual_channel.specs.Middles as middles
use Rattle.virtual_channel.specs.Middles.{Middle, middle_rows, back_to}
use Rattle.fairness_laws.specs.Carried.{OpensWith}

module _ (s : Signing) (h : List Entry) (journal : List Told) (fair : IsFair s h journal) (past : List Entry) (front : List Told) (at : At s h journal past front)
    (f : FixedParts) (own : In f (channels (lines_of s.key front))) (k : Kept) (kept : kept_of (real.named f) (mind_at real s.key past front).kept ≡ Some k) (state : StateParts)
    (live : not_open stages (facts_of (mind_at real s.key past front)) ≡ None) (ledgers : LedgersKeep (facts_of (mind_at real s.key past front)))
    (stands : LedgersStand (facts_of (mind_at real s.key past front)))
    (v : Virtual) (g : Goal) (found : goal_in (facts_of (mind_at real s.key past front)) v.channel ≡ Some g) (e : MiddleIs s.key past (lines_of s.key front) (facts_of (mind_at real s.key past front)) v g)
    (there : In (parts.Middle v) (mind_at real s.key past front).parts)
    (keeps : MiddleKeeps g e.middle) (row : wanted_in (real.named f) (middle_rows e.middle) ≡ Some state) where
  abbrev p : Middle
  p = e.middle

  abbrev t : Terms
  t = p.terms

  abbrev c : List ℕ
  c = real.named f

  abbrev lines : List Line
  lines = lines_of s.key front

  opened : MiddleOpened s h journal fair past front at v g e
  opened = middle-opened s h journal fair past front at v g there e

  six : people e.joint.fixed ≡ 3
  six = three s h journal fair past front at v g found e there keeps ledgers stands live

  -- ---- it is open

  abbrev in-a : Lent
  in-a = of_middle (λ q. q.child_a) (λ q. q.ledger_a) p

  abbrev in-b : Lent
  in-b = of_middle (λ q. q.child_b) (λ q. q.ledger_b) p

  a-there : lent (facts_of (mind_at real s.key past front)) v.ledger_a (parts.Middle v) ≡ Some in-a
  a-there = lends-a s h journal fair past front at v g found e there keeps ledgers stands live

  b-there : lent (facts_of (mind_at real s.key past front)) v.ledger_b (parts.Middle v) ≡ Some in-b
  b-there = lends-b s h journal fair past front at v g found e there keeps ledgers stands live

  abbrev Opened : Type 0
  Opened = Stands (facts_of (mind_at real s.key past front)) c

  own-open : (x : FixedParts) (opening : List AssetOutcome) (y : Seat) → SeatIs s.key past lines x opening y → (n : List ℕ) → real.named x ≡ n → is_among n (joined_of (parts.Middle v)) ≡ true → bytes_eq y.name c ≡ true → Opened
  own-open x opening y seat n is among same =
      stands-as s h journal fair past front at f own k kept state x opening y seat same n is
      (stands-open s h journal fair past front at v g found e there keeps ledgers stands live c state row n among)

  joint-open : bytes_eq p.joint.name c ≡ true → Opened
  joint-open = own-open e.joint.fixed (apart t g.amounts) p.joint e.joint.seat v.joint e.joint.named (joint-among s h journal fair past front at v g found e there keeps ledgers stands live)

  ledger-opens : (l first second : List ℕ) (x : Seat) → LedgerIs s.key past lines first second l x → is_among l (ledgers_of (parts.Middle v)) ≡ true → bytes_eq x.name c ≡ true
      → (AllShut s h journal fair past front at (parts.Middle v) there → ⊥) → Opened
  ledger-opens l first second x is on same waits =
      stands-as s h journal fair past front at f own k kept state is.fixed x.opening x is.seat same l is.named
      (ledger-stands s h journal fair past front at (parts.Middle v) there live l on waits)

  pub middle-open : Opened
  middle-open = by (middle-wants p c state row)
    where
      rising : p.closing ≡ false → AllShut s h journal fair past front at (parts.Middle v) there → ⊥
      rising stays shut = clash p.closing (shut v.ledger_a in-a a-there).closing stays

      falling : middles.are_down p ≡ false → AllShut s h journal fair past front at (parts.Middle v) there → ⊥
      falling not-down shut =
          clash (middles.are_down p)
          (and-both (is_down p.child_a p.ledger_a) (is_down p.child_b p.ledger_b)
          (shut-down s h journal fair past front at (parts.Middle v) there v.ledger_a (on-a s h journal fair past front at v g found e there keeps ledgers stands live) in-a a-there p.child_a.first p.child_a.second e.on_a (shut v.ledger_a in-a a-there))
          (shut-down s h journal fair past front at (parts.Middle v) there v.ledger_b (on-b s h journal fair past front at v g found e there keeps ledgers stands live) in-b b-there p.child_b.first p.child_b.second e.on_b (shut v.ledger_b in-b b-there))) not-down

      by : MiddleWants p c state → Opened
      by (guarantees_a running unset same is) = own-open e.guarantor_a.fixed (guarantee t v.joint t.first) p.guarantor_a e.guarantor_a.seat v.guarantor_a e.guarantor_a.named (a-among s h journal fair past front at v g found e there keeps ledgers stands live) same
      by (guarantees_b running unset same is) = own-open e.guarantor_b.fixed (guarantee t v.joint t.second) p.guarantor_b e.guarantor_b.seat v.guarantor_b e.guarantor_b.named (b-among s h journal fair past front at v g found e there keeps ledgers stands live) same
      by (splits from until few stays early risen same is) = joint-open same
      by (ups_a stays set unsettled same is) = ledger-opens v.ledger_a p.child_a.first p.child_a.second p.ledger_a e.on_a (on-a s h journal fair past front at v g found e there keeps ledgers stands live) same (rising stays)
      by (ups_b stays set unsettled same is) = ledger-opens v.ledger_b p.child_b.first p.child_b.second p.ledger_b e.on_b (on-b s h journal fair past front at v g found e there keeps ledgers stands live) same (rising stays)
      by (joins stays set settled five unsettled same is) = joint-open same
      by (parts_back closing unsettled same is) = joint-open same
      by (downs_a closing settled not-down same is) = ledger-opens v.ledger_a p.child_a.first p.child_a.second p.ledger_a e.on_a (on-a s h journal fair past front at v g found e there keeps ledgers stands live) same (falling not-down)
      by (downs_b closing settled not-down same is) = ledger-opens v.ledger_b p.child_b.first p.child_b.second p.ledger_b e.on_b (on-b s h journal fair past front at v g found e there keeps ledgers stands live) same (falling not-down)

  going : is_final (mode real c past) ≡ false
  going = opens-not_final s h journal fair past front at c middle-open

  -- ---- it comes next and follows

  -- in a guarantor
  guarantor-comes : (end n : List ℕ) (x : Seat) (is : GuarantorIs s.key past lines v t end n x) → OpensWith is.fixed (guarantee t v.joint end) (lines_of s.key journal) → bytes_eq x.name c ≡ true → repeats 0 2 x ≡ Some state → Comes k state
  guarantor-comes end n x is opens same w =
      repeated-comes s h journal fair past front at f own k kept state is.fixed (guarantee t v.joint end) x is.seat same opens 0 2
      (let n : 2 ≤ people is.fixed = several s h journal fair past front at f own k kept state is.fixed (guarantee t v.joint end) x is.seat same in omega arith) w

  -- on a ledger
  ledger-comes : (l first second : List ℕ) (x : Seat) (is : LedgerIs s.key past lines first second l x) → is_among l (ledgers_of (parts.Middle v)) ≡ true → bytes_eq x.name c ≡ true → (target : Option (List AssetOutcome))
      → toward target x ≡ Some state
      → (is_final (mode real (real.named is.fixed) past) ≡ false → (top : StateParts) (o : List AssetOutcome) → x.top ≡ Some top → target ≡ Some o → is_valid o ≡ true → IsOutcome o) → Comes k state
  ledger-comes l first second x is on same target w reads =
      moved-comes s h journal fair past front at f own k kept state is.fixed x.opening x is.seat same is.app (ledger-over s h journal fair past front at (parts.Middle v) there l on first second x is) target w
      (reads (going-there s h journal fair past front at f own k kept state is.fixed x.opening x is.seat same going))

  pub middle-comes : Comes k state
  middle-comes = by (middle-wants p c state row)
    where
      back : p.closing ≡ true → middles.is_settled_back p ≡ false → bytes_eq p.joint.name c ≡ true → (o : Option (ℕ × ℕ)) → middles.found p ≡ o → back_to p o ≡ Some state → Comes k state
      back closing unsettled same None now is =
          passed-comes s h journal fair past front at f own k kept state e.joint.fixed (apart t g.amounts) p.joint e.joint.seat same e.joint.app (together t) is
      back closing unsettled same (Some ab) now is =
          moved-comes s h journal fair past front at f own k kept state e.joint.fixed (apart t g.amounts) p.joint e.joint.seat same e.joint.app
          (closing-over s h journal fair past front at (parts.Middle v) there g found (sym e.closing ∙ closing) refl e.joint.fixed (apart t g.amounts) p.joint e.joint.seat 5
          (let n : people e.joint.fixed ≡ 3 = six in omega arith) (middle-joint-far v e.joint.fixed e.joint.named)) (Some (apart t ab)) is
          (λ top o at-top aim valid. (part-fits s h journal fair past front at v g found e there keeps ledgers stands live c state row closing unsettled ab now top o at-top aim valid).0)

      by : MiddleWants p c state → Comes k state
      by (guarantees_a running unset same is) = guarantor-comes t.first v.guarantor_a p.guarantor_a e.guarantor_a opened.guarantees_a same is
      by (guarantees_b running unset same is) = guarantor-comes t.second v.guarantor_b p.guarantor_b e.guarantor_b opened.guarantees_b same is
      by (splits from until few stays early risen same is) =
          repeated-comes s h journal fair past front at f own k kept state e.joint.fixed (apart t g.amounts) p.joint e.joint.seat same opened.splits from until
          (let n : people e.joint.fixed ≡ 3 = six in omega arith) is
      by (ups_a stays set unsettled same is) =
          ledger-comes v.ledger_a p.child_a.first p.child_a.second p.ledger_a e.on_a (on-a s h journal fair past front at v g found e there keeps ledgers stands live) same (up_in p.child_a p.ledger_a) is
          (λ going-l top o at-top aim valid.
          (up s h journal fair past front at v g found e there keeps ledgers stands live c state row (λ q. q.child_a) (λ q. q.ledger_a) v.ledger_a v.guarantor_a t.first t.middle
          (lends-a s h journal fair past front at v g found e there keeps ledgers stands live) (child-a s h journal fair past front at v g found e there keeps ledgers stands live) e.child_a e.on_a
          (side-a s h journal fair past front at v g found e there keeps ledgers stands live) going-l stays set unsettled top o at-top aim valid).0)
      by (ups_b stays set unsettled same is) =
          ledger-comes v.ledger_b p.child_b.first p.child_b.second p.ledger_b e.on_b (on-b s h journal fair past front at v g found e there keeps ledgers stands live) same (up_in p.child_b p.ledger_b) is
          (λ going-l top o at-top aim valid.
          (up s h journal fair past front at v g found e there keeps ledgers stands live c state row (λ q. q.child_b) (λ q. q.ledger_b) v.ledger_b v.guarantor_b t.middle t.second
          (lends-b s h journal fair past front at v g found e there keeps ledgers stands live) (child-b s h journal fair past front at v g found e there keeps ledgers stands live) e.child_b e.on_b
          (side-b s h journal fair past front at v g found e there keeps ledgers stands live) going-l stays set unsettled top o at-top aim valid).0)
      by (joins stays set settled five unsettled same is) =
          moved-comes s h journal fair past front at f own k kept state e.joint.fixed (apart t g.amounts) p.joint e.joint.seat same e.joint.app
          (holds-over s h journal fair past front at e.joint.fixed (apart t g.amounts) p.joint e.joint.seat 5 (let n : people e.joint.fixed ≡ 3 = six in omega arith) five) (middles.target_together p) is
          (λ top o at-top aim valid. (join-fits s h journal fair past front at v g found e there keeps ledgers stands live c state row stays set five unsettled top o at-top aim valid).0)
      by (parts_back closing unsettled same is) = back closing unsettled same (middles.found p) refl is
      by (downs_a closing settled not-down same is) =
          ledger-comes v.ledger_a p.child_a.first p.child_a.second p.ledger_a e.on_a (on-a s h journal fair past front at v g found e there keeps ledgers stands live) same
          (down_in p.child_a p.ledger_a (middles.found p)) is
          (λ going-l top o at-top aim valid.
          (down s h journal fair past front at v g found e there keeps ledgers stands live c state row (λ q. q.child_a) (λ q. q.ledger_a) v.ledger_a v.guarantor_a t.first t.middle
          (lends-a s h journal fair past front at v g found e there keeps ledgers stands live) (child-a s h journal fair past front at v g found e there keeps ledgers stands live) e.child_a e.on_a
          (side-a s h journal fair past front at v g found e there keeps ledgers stands live) going-l closing settled top o at-top aim valid).0)
      by (downs_b closing settled not-down same is) =
          ledger-comes v.ledger_b p.child_b.first p.child_b.second p.ledger_b e.on_b (on-b s h journal fair past front at v g found e there keeps ledgers stands live) same
          (down_in p.child_b p.ledger_b (middles.found p)) is
          (λ going-l top o at-top aim valid.
          (down s h journal fair past front at v g found e there keeps ledgers stands live c state row (λ q. q.child_b) (λ q. q.ledger_b) v.ledger_b v.guarantor_b t.middle t.second
          (lends-b s h journal fair past front at v g found e there keeps ledgers stands live) (child-b s h journal fair past front at v g found e there keeps ledgers stands live) e.child_b e.on_b
          (side-b s h journal fair past front at v g found e there keeps ledgers stands live) going-l closing settled top o at-top aim valid).0)
