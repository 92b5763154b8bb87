-- What the end of a virtual channel wants comes next and follows.
use Rattle.std.proofs.Common.{◌≡◌, ℕ, ◌*◌, ◌≤◌, true, false, List, refl, sym, ◌∙◌, arith}
use Rattle.std.specs.Prelude.{Some, None}
use Rattle.std.specs.Str.{bytes_eq}
use Rattle.channel_values.specs.Parts.{FixedParts, StateParts}
use Rattle.channel_values.specs.declared.value.AssetOutcome.{AssetOutcome}
use Rattle.channel_safety.proofs.Tests.{clash}
use Rattle.call_history.specs.Flows.{is_among}
use Rattle.call_history.specs.History.{mode}
use Rattle.call_history.specs.declared.entry.Entry.{Entry}
use Rattle.channel_values.specs.Rules.{people}
use Rattle.channel_values.specs.Digests.{name_of_person}
use Rattle.channel_store.specs.Storing.{kept_of}
use Rattle.channel_store.specs.declared.kept.Kept.{Kept}
use Rattle.call_history.specs.Mode.{is_final}
use Rattle.funding_plans.specs.Parts.{own_ledger, own_guarantor, joined_of, ledgers_of}
use Rattle.funding_plans.specs.declared.plan.Goal.{Goal}
use Rattle.funding_plans.specs.declared.plan.Part.TheVariants as parts
use Rattle.funding_plans.specs.declared.plan.Virtual.{Virtual}
use Rattle.channel_safety.specs.Journals.{In}
use Rattle.channel_node.specs.Minds.{facts_of}
use Rattle.channel_node.specs.Places.{Told, lines_of, mind_at}
use Rattle.channel_node.specs.Playing.{Signing}
use Rattle.channel_node.specs.Refusing.{not_open}
use Rattle.stage_tables.specs.Stages.{stages}
use Rattle.funding_plans.specs.Targets.{apart, guarantee}
use Rattle.funding_plans.specs.declared.terms.Terms.{Terms}
use Rattle.fairness_laws.proofs.EndPart.{stands-open, guarantor-among, joint-among, channel-among, ours, on-ledger, opened, three, many, up, down, join-fits, part-fits}
use Rattle.fairness_laws.proofs.Guard.Late.{end-joint-far, end-channel-far, holds-over, closing-over, ledger-over}
use Rattle.fairness_laws.proofs.Guard.Open.{AllShut, ledger-stands, shut-down}
use Rattle.fairness_laws.proofs.Guard.Seats.{Stands, stands-as, several, repeated-comes, final-state-comes, moved-comes, going-there}
use Rattle.fairness_laws.proofs.Guard.Steps.{Comes}
use Rattle.fairness_laws.proofs.Joint.Rows.{EndWants, guarantees, splits, opens, ups, joins, finals, parts as parts_back, downs, end-wants}
use Rattle.fairness_laws.proofs.Signing.{opens-not_final}
use Rattle.fairness_laws.specs.JointKeeping.{EndKeeps}
use Rattle.fairness_laws.specs.LedgerLaws.{LedgersKeep, LedgersStand}
use Rattle.fairness_laws.specs.LedgerLending.{Lent, of_end, lent}
use Rattle.fairness_laws.specs.PaymentLaws.{At}
use Rattle.fairness_laws.specs.PlanParts.{EndIs}
use Rattle.fairness_laws.specs.PlanSeats.{SeatIs}
use Rattle.fairness_laws.specs.PlanSettings.{IsFair}
use Rattle.share_laws.specs.Places.{channels}
use Rattle.funding_plans.specs.Gathered.{goal_in}
use Rattle.funding_plans.specs.Rows.{wanted_in}
use Rattle.funding_plans.specs.Seats.{Seat, is_down}
use Rattle.support_rules.specs.Real.{real}
use Rattle.virtual_channel.specs.Ends as ends
use Rattle.virtual_channel.specs.Ends.{End, end_rows}

module _ (s : Signing) (h : List Entry) (journal : List Told) (fair : IsFair s h journal) (past : List Entry) (front : List Told) (at : At s h journal past front)
    (f : FixedParts) (own : In f (channels (lines_of s.key front))) (k : Kept) (kept : kept_of (real.named f) (mind_at real s.key past front).kept ≡ Some k) (state : StateParts)
    (live : not_open stages (facts_of (mind_at real s.key past front)) ≡ None) (ledgers : LedgersKeep (facts_of (mind_at real s.key past front)))
    (stands : LedgersStand (facts_of (mind_at real s.key past front)))
    (v : Virtual) (g : Goal) (found : goal_in (facts_of (mind_at real s.key past front)) v.channel ≡ Some g) (e : EndIs s.key past (lines_of s.key front) (facts_of (mind_at real s.key past front)) v g) (there : In (parts.End v) (mind_at real s.key past front).parts)
    (keeps : EndKeeps g e.end) (row : wanted_in (real.named f) (end_rows e.end) ≡ Some state) where
  abbrev p : End
  p = e.end

  abbrev t : Terms
  t = p.terms

  abbrev c : List ℕ
  c = real.named f

  abbrev me : List ℕ
  me = name_of_person s.key

  six : people e.joint.fixed ≡ 3
  six = three s h journal fair past front at v g found e there keeps ledgers stands live

  two : people e.fixed ≡ 2
  two = many s h journal fair past front at v g found e there keeps ledgers stands live

  on : is_among (own_ledger v) (ledgers_of (parts.End v)) ≡ true
  on = on-ledger s h journal fair past front at v g found e there keeps ledgers stands live

  -- ---- it is open

  abbrev lends : Lent
  lends = of_end p

  lends-there : lent (facts_of (mind_at real s.key past front)) (own_ledger v) (parts.End v) ≡ Some lends
  lends-there = ours s h journal fair past front at v g found e there keeps ledgers stands live

  abbrev Opened : Type 0
  Opened = Stands (facts_of (mind_at real s.key past front)) c

  own-open : (x : FixedParts) (opening : List AssetOutcome) (y : Seat) → SeatIs s.key past (lines_of s.key front) x opening y → (n : List ℕ) → real.named x ≡ n → is_among n (joined_of (parts.End v)) ≡ true → bytes_eq y.name c ≡ true → Opened
  own-open x opening y seat n is among same =
      stands-as s h journal fair past front at f own k kept state x opening y seat same n is
      (stands-open s h journal fair past front at v g found e there keeps ledgers stands live c state row n among)

  joint-open : bytes_eq p.joint.name c ≡ true → Opened
  joint-open = own-open e.joint.fixed (apart t g.amounts) p.joint e.joint.seat v.joint e.joint.named (joint-among s h journal fair past front at v g found e there keeps ledgers stands live)

  channel-open : bytes_eq p.channel.name c ≡ true → Opened
  channel-open = own-open e.fixed g.opening p.channel e.seat v.channel e.named (channel-among s h journal fair past front at v g found e there keeps ledgers stands live)

  ledger-opens : bytes_eq p.ledger.name c ≡ true → (AllShut s h journal fair past front at (parts.End v) there → ⊥) → Opened
  ledger-opens same waits =
      stands-as s h journal fair past front at f own k kept state e.on.fixed p.ledger.opening p.ledger e.on.seat same (own_ledger v) e.on.named
      (ledger-stands s h journal fair past front at (parts.End v) there live (own_ledger v) on waits)

  pub end-open : Opened
  end-open = by (end-wants p c state row)
    where
      by : EndWants p c state → Opened
      by (guarantees running unset same is) =
          own-open e.guarantor.fixed (guarantee t v.joint me) p.guarantor e.guarantor.seat (own_guarantor v) e.guarantor.named
          (guarantor-among s h journal fair past front at v g found e there keeps ledgers stands live) same
      by (splits from until few stays early risen same is) = joint-open same
      by (opens from until few early same is) = channel-open same
      by (ups stays set unsettled same is) = ledger-opens same (λ shut. clash p.closing (shut (own_ledger v) lends lends-there).closing stays)
      by (joins stays set settled five unsettled same is) = joint-open same
      by (finals closing unended same is) = channel-open same
      by (parts_back closing ended unsettled same is) = joint-open same
      by (downs closing ended settled not-down same is) =
          ledger-opens same (λ shut. clash (is_down p.child p.ledger)
          (shut-down s h journal fair past front at (parts.End v) there (own_ledger v) on lends lends-there p.child.first p.child.second e.on (shut (own_ledger v) lends lends-there)) not-down)

  going : is_final (mode real c past) ≡ false
  going = opens-not_final s h journal fair past front at c end-open

  -- ---- it comes next and follows

  ledger-late : 2 * people e.on.fixed ≤ p.ledger.next
  ledger-late = ledger-over s h journal fair past front at (parts.End v) there (own_ledger v) on p.child.first p.child.second p.ledger e.on

  pub end-comes : Comes k state
  end-comes = by (end-wants p c state row)
    where
      by : EndWants p c state → Comes k state
      by (guarantees running unset same is) =
          repeated-comes s h journal fair past front at f own k kept state e.guarantor.fixed (guarantee t v.joint me) p.guarantor e.guarantor.seat same
          (opened s h journal fair past front at v g found e there keeps ledgers stands live).guarantees 0 2
          (let n : 2 ≤ people e.guarantor.fixed = several s h journal fair past front at f own k kept state e.guarantor.fixed (guarantee t v.joint me) p.guarantor e.guarantor.seat same in omega arith) is
      by (splits from until few stays early risen same is) =
          repeated-comes s h journal fair past front at f own k kept state e.joint.fixed (apart t g.amounts) p.joint e.joint.seat same
          (opened s h journal fair past front at v g found e there keeps ledgers stands live).splits from until (let n : people e.joint.fixed ≡ 3 = six in omega arith) is
      by (opens from until few early same is) =
          repeated-comes s h journal fair past front at f own k kept state e.fixed g.opening p.channel e.seat same
          (opened s h journal fair past front at v g found e there keeps ledgers stands live).opens from until (let n : people e.fixed ≡ 2 = two in omega arith) is
      by (finals closing unended same is) =
          final-state-comes s h journal fair past front at f own k kept state e.fixed g.opening p.channel e.seat same
          (closing-over s h journal fair past front at (parts.End v) there g found (sym e.closing ∙ closing) refl e.fixed g.opening p.channel e.seat 3 (let n : people e.fixed ≡ 2 = two in omega arith)
          (end-channel-far v e.fixed e.named)) unended is
      by (ups stays set unsettled same is) =
          moved-comes s h journal fair past front at f own k kept state e.on.fixed p.ledger.opening p.ledger e.on.seat same e.on.app ledger-late (ends.target_up p) is
          (λ top o at-top aim valid.
          (up s h journal fair past front at v g found e there keeps ledgers stands live c state row
          (going-there s h journal fair past front at f own k kept state e.on.fixed p.ledger.opening p.ledger e.on.seat same going) stays set unsettled top o at-top aim valid).0)
      by (joins stays set settled five unsettled same is) =
          moved-comes s h journal fair past front at f own k kept state e.joint.fixed (apart t g.amounts) p.joint e.joint.seat same e.joint.app
          (holds-over s h journal fair past front at e.joint.fixed (apart t g.amounts) p.joint e.joint.seat 5 (let n : people e.joint.fixed ≡ 3 = six in omega arith) five) (ends.target_together p) is
          (λ top o at-top aim valid. (join-fits s h journal fair past front at v g found e there keeps ledgers stands live c state row stays set five unsettled top o at-top aim valid).0)
      by (parts_back closing ended unsettled same is) =
          moved-comes s h journal fair past front at f own k kept state e.joint.fixed (apart t g.amounts) p.joint e.joint.seat same e.joint.app
          (closing-over s h journal fair past front at (parts.End v) there g found (sym e.closing ∙ closing) refl e.joint.fixed (apart t g.amounts) p.joint e.joint.seat 5 (let n : people e.joint.fixed ≡ 3 = six in omega arith)
          (end-joint-far v e.joint.fixed e.joint.named)) (ends.target_back p) is
          (λ top o at-top aim valid. (part-fits s h journal fair past front at v g found e there keeps ledgers stands live c state row closing ended unsettled top o at-top aim valid).0)
      by (downs closing ended settled not-down same is) =
          moved-comes s h journal fair past front at f own k kept state e.on.fixed p.ledger.opening p.ledger e.on.seat same e.on.app ledger-late (ends.target_down p) is
          (λ top o at-top aim valid.
          (down s h journal fair past front at v g found e there keeps ledgers stands live c state row
          (going-there s h journal fair past front at f own k kept state e.on.fixed p.ledger.opening p.ledger e.on.seat same going) closing settled top o at-top aim valid).0)
