-- What a channel that a ledger funds wants, in it and on the ledger, comes next and follows.
use Rattle.std.proofs.Common.{◌≡◌, ℕ, ◌*◌, ◌≤◌, Bool, true, false, ◌||◌, List, refl, sym, ◌∙◌, ap, arith}
use Rattle.std.specs.Prelude.{Some, None}
use Rattle.std.specs.Str.{bytes_eq}
use Rattle.channel_values.specs.Parts.{FixedParts, StateParts}
use Rattle.channel_safety.proofs.Tests.{clash}
use Rattle.call_history.proofs.Names.{bytes_eq_self}
use Rattle.call_history.specs.Flows.{is_among}
use Rattle.call_history.specs.History.{mode}
use Rattle.call_history.specs.declared.entry.Entry.{Entry}
use Rattle.channel_values.specs.Rules.{people}
use Rattle.channel_store.specs.Storing.{kept_of}
use Rattle.channel_store.specs.declared.kept.Kept.{Kept}
use Rattle.call_history.specs.Mode.{is_final}
use Rattle.funding_plans.specs.Parts.{ledgers_of}
use Rattle.funding_plans.specs.declared.plan.Goal.{Goal}
use Rattle.funding_plans.specs.declared.plan.Part.TheVariants.{OnLedger}
use Rattle.ledger_channel.specs.OnLedgers as children
use Rattle.ledger_channel.specs.OnLedgers.{Funded, on_ledger_rows}
use Rattle.channel_safety.specs.Journals.{In}
use Rattle.channel_node.specs.Minds.{facts_of}
use Rattle.channel_node.specs.Places.{Told, lines_of, mind_at}
use Rattle.channel_node.specs.Playing.{Signing}
use Rattle.channel_node.specs.Refusing.{not_open}
use Rattle.stage_tables.specs.Stages.{stages}
use Rattle.fairness_laws.proofs.Children.{first-states, stands-open, channel-open, many, up, down}
use Rattle.fairness_laws.proofs.Guard.Late.{child-far, closing-over, ledger-over}
use Rattle.fairness_laws.proofs.Guard.Open.{AllShut, ledger-stands, shut-down}
use Rattle.fairness_laws.proofs.Guard.Seats.{Stands, stands-as, repeated-comes, final-state-comes, moved-comes, going-there}
use Rattle.fairness_laws.proofs.Guard.Steps.{Comes}
use Rattle.fairness_laws.proofs.Ledger.Lent.{child-there}
use Rattle.fairness_laws.proofs.Signing.{opens-not_final}
use Rattle.fairness_laws.proofs.Rows.{ChildWants, opens, ups, posts, finals, downs, child-wants}
use Rattle.fairness_laws.specs.LedgerLaws.{LedgersKeep}
use Rattle.fairness_laws.specs.LedgerLending.{of_funded, lent}
use Rattle.fairness_laws.specs.PaymentLaws.{At}
use Rattle.fairness_laws.specs.PlanParts.{OnLedgerIs}
use Rattle.fairness_laws.specs.PlanSettings.{IsFair}
use Rattle.share_laws.specs.Places.{channels}
use Rattle.funding_plans.specs.Gathered.{goal_in}
use Rattle.funding_plans.specs.Rows.{wanted_in}
use Rattle.funding_plans.specs.Seats.{repeats, is_down}
use Rattle.support_rules.specs.Real.{real}

module _ (s : Signing) (h : List Entry) (journal : List Told) (fair : IsFair s h journal) (past : List Entry) (front : List Told) (at : At s h journal past front)
    (f : FixedParts) (own : In f (channels (lines_of s.key front))) (k : Kept) (kept : kept_of (real.named f) (mind_at real s.key past front).kept ≡ Some k) (state : StateParts)
    (live : not_open stages (facts_of (mind_at real s.key past front)) ≡ None) (ledgers : LedgersKeep (facts_of (mind_at real s.key past front)))
    (ledger name : List ℕ) (g : Goal) (found : goal_in (facts_of (mind_at real s.key past front)) name ≡ Some g)
    (o : OnLedgerIs s.key past (lines_of s.key front) (facts_of (mind_at real s.key past front)) ledger name g) (there : In (OnLedger ledger name) (mind_at real s.key past front).parts)
    (row : wanted_in (real.named f) (on_ledger_rows o.funded) ≡ Some state) where
  abbrev p : Funded
  p = o.funded

  -- ---- it is open

  ours : lent (facts_of (mind_at real s.key past front)) ledger (OnLedger ledger name) ≡ Some (of_funded p)
  ours = child-there s past front ledger name g o

  on : is_among ledger (ledgers_of (OnLedger ledger name)) ≡ true
  on = ap (λ (b : Bool). b || false) (bytes_eq_self ledger)

  abbrev Opened : Type 0
  Opened = Stands (facts_of (mind_at real s.key past front)) (real.named f)

  own-open : bytes_eq p.channel.name (real.named f) ≡ true → Opened
  own-open same =
      stands-as s h journal fair past front at f own k kept state o.fixed g.opening p.channel o.seat same (real.named o.fixed) refl
      (stands-open s h journal fair past front at ledger name g found o there ledgers live (real.named f) state row)

  ledger-opens : bytes_eq p.ledger.name (real.named f) ≡ true → (AllShut s h journal fair past front at (OnLedger ledger name) there → ⊥) → Opened
  ledger-opens same waits =
      stands-as s h journal fair past front at f own k kept state o.on.fixed p.ledger.opening p.ledger o.on.seat same ledger o.on.named
      (ledger-stands s h journal fair past front at (OnLedger ledger name) there live ledger on waits)

  pub child-open : Opened
  child-open = by (child-wants p (real.named f) state row)
    where
      by : ChildWants p (real.named f) state → Opened
      by (opens running same e) = own-open same
      by (posts running settled same e) = own-open same
      by (finals closing unended same e) = own-open same
      by (ups stays one unsettled same e) = ledger-opens same (λ shut. clash p.closing (shut ledger (of_funded p) ours).closing stays)
      by (downs closing ended not-down same e) =
          ledger-opens same (λ shut. clash (is_down p.child p.ledger)
          (shut-down s h journal fair past front at (OnLedger ledger name) there ledger on (of_funded p) ours p.child.first p.child.second o.on (shut ledger (of_funded p) ours)) not-down)

  going : is_final (mode real (real.named f) past) ≡ false
  going = opens-not_final s h journal fair past front at (real.named f) child-open

  -- ---- it comes next and follows

  going-c : is_final (mode real (real.named o.fixed) past) ≡ false
  going-c = channel-open s h journal fair past front at ledger name g found o there ledgers live (real.named f) state row

  two : people o.fixed ≡ 2
  two = many s h journal fair past front at ledger name g found o there ledgers live

  ledger-late : 2 * people o.on.fixed ≤ p.ledger.next
  ledger-late = ledger-over s h journal fair past front at (OnLedger ledger name) there ledger on p.child.first p.child.second p.ledger o.on

  repeats-so : (from until : ℕ) → until ≤ 2 * people o.fixed → bytes_eq p.channel.name (real.named f) ≡ true → repeats from until p.channel ≡ Some state → Comes k state
  repeats-so from until few same e =
      repeated-comes s h journal fair past front at f own k kept state o.fixed g.opening p.channel o.seat same (first-states s h journal fair past front at ledger name g found o there ledgers live) from until few e

  pub child-comes : Comes k state
  child-comes = by (child-wants p (real.named f) state row)
    where
      by : ChildWants p (real.named f) state → Comes k state
      by (opens running same e) = repeats-so 0 2 (let n : people o.fixed ≡ 2 = two in omega arith) same e
      by (posts running settled same e) = repeats-so 2 4 (let n : people o.fixed ≡ 2 = two in omega arith) same e
      by (finals closing unended same e) =
          final-state-comes s h journal fair past front at f own k kept state o.fixed g.opening p.channel o.seat same
          (closing-over s h journal fair past front at (OnLedger ledger name) there g found (sym o.closing ∙ closing) refl o.fixed g.opening p.channel o.seat 3 (let n : people o.fixed ≡ 2 = two in omega arith)
          (child-far ledger name o.fixed o.named)) unended e
      by (ups stays one unsettled same e) =
          moved-comes s h journal fair past front at f own k kept state o.on.fixed p.ledger.opening p.ledger o.on.seat same o.on.app ledger-late (children.target_up p) e
          (λ top t is aim valid.
          (up s h journal fair past front at ledger name g found o there ledgers live going-c
          (going-there s h journal fair past front at f own k kept state o.on.fixed p.ledger.opening p.ledger o.on.seat same going) stays one unsettled top t is aim valid).0)
      by (downs closing ended not-down same e) =
          moved-comes s h journal fair past front at f own k kept state o.on.fixed p.ledger.opening p.ledger o.on.seat same o.on.app ledger-late (children.target_down p) e
          (λ top t is aim valid.
          (down s h journal fair past front at ledger name g found o there ledgers live going-c
          (going-there s h journal fair past front at f own k kept state o.on.fixed p.ledger.opening p.ledger o.on.seat same going) ended top t is aim valid).0)
