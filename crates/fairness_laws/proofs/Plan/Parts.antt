-- Parts are known: what the tables of stages build of what is kept at a place.
use Rattle.std.proofs.Common.{◌≡◌, ℕ, cond, List, [], ◌∷◌, refl, ◌∙◌, ap, subst}
use Rattle.std.specs.Prelude.{Option, Some}
use Rattle.channel_values.specs.Parts.{FixedParts}
use Rattle.channel_values.specs.declared.value.AssetOutcome.{AssetOutcome}
use Rattle.channel_values.specs.Digests.{name_of_person}
use Rattle.call_history.specs.declared.entry.Entry.{Entry}
use Rattle.funding_plans.specs.Known.{FactsOf}
use Rattle.funding_plans.specs.Parts.{own_ledger, own_guarantor, own_channel}
use Rattle.funding_plans.specs.declared.plan.Goal.{Goal}
use Rattle.funding_plans.specs.declared.plan.Part.{Part}
use Rattle.funding_plans.specs.declared.plan.Part.TheVariants.{Root, OnLedger, End, Middle}
use Rattle.funding_plans.specs.declared.plan.Virtual.{Virtual}
use Rattle.ledger_channel.specs.Stages.{direct_with, direct_of, child_of, funded_with, funded_of}
use Rattle.channel_safety.specs.Journals.{In, Line}
use Rattle.channel_node.specs.Minds.{Mind, facts_of}
use Rattle.channel_node.specs.Places.{Told, lines_of, mind_at}
use Rattle.channel_node.specs.Playing.{Signing}
use Rattle.node_guarantees.proofs.Growing.{channels_told}
use Rattle.node_guarantees.specs.NodeShareLaws.{IsFront}
use Rattle.funding_plans.specs.Targets.{apart, guarantee}
use Rattle.funding_plans.specs.declared.child.Child.{Child}
use Rattle.funding_plans.specs.declared.terms.Terms.{Terms}
use Rattle.funding_plans.specs.Gathered.{chain_in, view_in, goal_in, seat_for, seat_with, seat_in, child_for}
use Rattle.funding_plans.specs.Seats.{Seat}
use Rattle.support_rules.specs.Real.{real}
use Rattle.support_rules.specs.Steps.{persons}
use Rattle.virtual_channel.specs.Ends.{End as EndSeats}
use Rattle.virtual_channel.specs.Middles.{Middle as MiddleSeats}
use Rattle.virtual_channel.specs.Stages.{◌>>=◌, terms_for, terms_at, terms_in, own_end, is_voting}
use Rattle.fairness_laws.specs.PlanLaws.{PartAt, PartsAreKnown}
use Rattle.fairness_laws.specs.PlanParts.{LedgerIs, RootIs, OnLedgerIs, JointIs, GuarantorIs, ChildIs, EndIs, MiddleIs, PartIs}
use Rattle.fairness_laws.specs.PlanSeats.{SeatIs, seat_of}
use Rattle.fairness_laws.specs.PlanSettings.{IsNodes}
use Rattle.fairness_laws.proofs.Plan.Bearers.{bears-own}
use Rattle.fairness_laws.proofs.Plan.Holding.{Holds, holds, place-holds, seat-holds, seat-is}
use Rattle.fairness_laws.proofs.Plan.Known.{OfRoot, OfLedger, OfOnLedger, OfJoint, OfGuarantor, OfEnd, OfMiddle, Of, goal-of, GoalOf}
use Rattle.fairness_laws.proofs.Plan.Places.{knows-there, legal-there, grown-there, apart-there, fixed-there}

module _ (s : Signing) (h : List Entry) (journal : List Told) (past : List Entry) (front : List Told) (nodes : IsNodes s h journal) (at : IsFront h journal past front) where
  abbrev m : Mind
  m = mind_at real s.key past front

  abbrev f : FactsOf
  f = facts_of m

  abbrev fs : List FixedParts
  fs = channels_told s.key front

  abbrev lines : List Line
  lines = lines_of s.key front

  goal : (p : Part) → In p m.parts → GoalOf s.key fs m.parts m.goals p
  goal p i = goal-of s.key fs m.parts m.goals p (knows-there s h journal nodes past front at).paired (apart-there s h journal nodes past front at) i

  held : (x : FixedParts) → In x fs → Holds s.key past lines m x
  held x i = holds s.key past front (legal-there s h journal nodes past front at) at.few (grown-there s h journal nodes past front at) x i

  -- ---- the seat of a channel that was opened

  abbrev seat : (x : FixedParts) → In x fs → List AssetOutcome → Seat
  seat x i opening = seat_of x opening (held x i).kept

  seat-found : (x : FixedParts) (i : In x fs) (name : List ℕ) → real.named x ≡ name → (opening : List AssetOutcome) → seat_with f name opening ≡ Some (seat x i opening)
  seat-found x i name e opening =
      seat-holds s.key past front (legal-there s h journal nodes past front at) at.few (grown-there s h journal nodes past front at) x (held x i) (fixed-there s h journal nodes past front at x i) name e opening

  own-seat : (x : FixedParts) (i : In x fs) (opening : List AssetOutcome) → SeatIs s.key past lines x opening (seat x i opening)
  own-seat x i opening = seat-is s.key past front (legal-there s h journal nodes past front at) at.few (grown-there s h journal nodes past front at) x i (held x i) opening

  -- by the goal of a part that is about it
  goal-seat : (x : FixedParts) (i : In x fs) (name : List ℕ) → real.named x ≡ name → (g : Goal) → goal_in f name ≡ Some g → seat_in f name ≡ Some (seat x i g.opening)
  goal-seat x i name e g found = ap (seat_for f name) found ∙ seat-found x i name e g.opening

  -- ---- a ledger

  record LedgerAt (first second name : List ℕ) : Type 0 where
    c : Seat
    found : seat_in f name ≡ Some c
    people : c.people ≡ first ∷ second ∷ []
    ledger : LedgerIs s.key past lines first second name c

  ledger-at : (first second name : List ℕ) → OfLedger fs m.parts first second name → LedgerAt first second name
  ledger-at first second name o = record {
    c = seat o.fixed o.there g.goal.opening;
    found = goal-seat o.fixed o.there name o.named g.goal found;
    people = o.people;
    ledger = record { fixed = o.fixed; named = o.named; app = o.app; people = o.people; seat = own-seat o.fixed o.there g.goal.opening };
  }
    where
      g : GoalOf s.key fs m.parts m.goals o.bearer.part
      g = goal o.bearer.part o.bearer.there

      found : goal_in f name ≡ Some g.goal
      found = subst (λ (n : List ℕ). goal_in f n ≡ Some g.goal) (bears-own name o.bearer.part o.bearer.is) g.is

  -- ---- a channel that holds its own funds

  root-is : (name : List ℕ) (g : Goal) → goal_in f name ≡ Some g → OfRoot fs name g.opening → RootIs s.key past lines f name g
  root-is name g found o = record {
    direct = direct_with f (seat o.fixed o.there g.opening) g (chain_in name f.chains) (view_in name f.view.channels);
    is =
        ap (λ (x : Option Goal). direct_of f name (seat_for f name x) x) found
        ∙ ap (λ (c : Option Seat). direct_of f name c (Some g)) (seat-found o.fixed o.there name o.named g.opening);
    fixed = o.fixed;
    named = o.named;
    app = o.app;
    outcome = o.outcome;
    seat = own-seat o.fixed o.there g.opening;
    closing = refl;
  }

  -- ---- a channel on a ledger

  on-ledger-is : (ledger name : List ℕ) (g : Goal) → goal_in f name ≡ Some g → OfOnLedger fs m.parts ledger name g.opening g.amounts → OnLedgerIs s.key past lines f ledger name g
  on-ledger-is ledger name g found o = record {
    funded = record { channel = c; ledger = l.c; child = child; closing = g.closing };
    is =
        ap (λ (x : Option Goal). funded_of name (seat_for f name x) (seat_in f ledger) x) found
        ∙ (ap (λ (x : Option Seat). funded_of name x (seat_in f ledger) (Some g)) (seat-found o.fixed o.there name o.named g.opening)
        ∙ (ap (λ (x : Option Seat). funded_of name (Some c) x (Some g)) l.found
        ∙ (ap (λ (x : List AssetOutcome). funded_with c l.c g (child_of name l.c.people g x)) o.opens
        ∙ ap (λ (x : List (List ℕ)). funded_with c l.c g (child_for o.asset name g.amounts x)) l.people)));
    fixed = o.fixed;
    named = o.named;
    app = o.app;
    people = o.people;
    differ = o.differ;
    amounts = refl;
    sum = o.sum;
    child = refl;
    opening = o.opens;
    seat = own-seat o.fixed o.there g.opening;
    on = l.ledger;
    closing = refl;
  }
    where
      c : Seat
      c = seat o.fixed o.there g.opening

      l : LedgerAt o.first o.second ledger
      l = ledger-at o.first o.second ledger o.on

      child : Child
      child = record { asset = o.asset; name = name; first = o.first; second = o.second; a = g.amounts.0; b = g.amounts.1 }

  -- ---- a virtual channel

  abbrev terms : Virtual → (first middle second : List ℕ) → Terms
  terms v first middle second = record { asset = v.asset; channel = v.channel; first = first; middle = middle; second = second; total = v.total }

  terms-found : (v : Virtual) (amounts : ℕ × ℕ) (first middle second : List ℕ) → OfJoint fs v amounts first middle second → terms_in f v ≡ Some (terms v first middle second)
  terms-found v amounts first middle second o =
      ap (terms_at v) (place-holds s.key past front (legal-there s h journal nodes past front at) at.few (grown-there s h journal nodes past front at) o.fixed x v.joint o.named)
      ∙ (ap (λ (y : FixedParts). terms_for v (persons y)) x.at.fixed ∙ ap (terms_for v) o.people)
    where
      x : Holds s.key past lines m o.fixed
      x = held o.fixed o.there

  joint-is : (v : Virtual) (g : Goal) (first middle second : List ℕ) (o : OfJoint fs v g.amounts first middle second)
      → JointIs s.key past lines v g (terms v first middle second) (seat o.fixed o.there (apart (terms v first middle second) g.amounts))
  joint-is v g first middle second o = record {
    fixed = o.fixed;
    named = o.named;
    app = o.app;
    people = o.people;
    ends = o.ends;
    first = o.apart_a;
    second = o.apart_b;
    asset = refl;
    channel = refl;
    total = refl;
    sum = o.sum;
    small = o.small;
    seat = own-seat o.fixed o.there (apart (terms v first middle second) g.amounts);
  }

  abbrev guarantor-seat : (v : Virtual) (t : Terms) (end name : List ℕ) → OfGuarantor fs name → Seat
  guarantor-seat v t end name o = seat o.fixed o.there (guarantee t v.joint end)

  guarantor-is : (v : Virtual) (t : Terms) (end name : List ℕ) (o : OfGuarantor fs name) → GuarantorIs s.key past lines v t end name (guarantor-seat v t end name o)
  guarantor-is v t end name o = record { fixed = o.fixed; named = o.named; app = o.app; seat = own-seat o.fixed o.there (guarantee t v.joint end) }

  abbrev child : Virtual → Goal → (first second name : List ℕ) → Child
  child v g first second name = record { asset = v.asset; name = name; first = first; second = second; a = g.amounts.0; b = g.amounts.1 }

  child-is : (v : Virtual) (g : Goal) (first second name : List ℕ) → ChildIs v g first second name (child v g first second name)
  child-is v g first second name = record { asset = refl; named = refl; one = refl; other = refl; amounts = refl }

  -- ---- an end

  end-is : (v : Virtual) (g : Goal) → goal_in f v.channel ≡ Some g → OfEnd s.key fs m.parts v g.opening g.amounts → EndIs s.key past lines f v g
  end-is v g found o = record {
    end = whole;
    is =
        ap (λ (x : Option Terms). x >>= with-terms) (terms-found v g.amounts o.first o.middle o.second o.joint)
        ∙ (ap (λ (x : Option Goal). x >>= with-goal) found
        ∙ (ap (λ (x : Option Seat). x >>= with-ledger) l.found
        ∙ (ap (λ (x : List (List ℕ)). child_for v.asset (own_guarantor v) g.amounts x >>= with-child l.c) l.people
        ∙ (ap (λ (x : Option Seat). x >>= with-guarantor)
        (seat-found o.guarantor.fixed o.guarantor.there (own_guarantor v) o.guarantor.named (guarantee t v.joint (own_end v t))
        ∙ ap (λ (x : List ℕ). Some (guarantor-seat v t x (own_guarantor v) o.guarantor)) o.me)
        ∙ (ap (λ (x : Option Seat). x >>= with-joint) (seat-found o.joint.fixed o.joint.there v.joint o.joint.named (apart t g.amounts))
        ∙ ap (λ (x : Option Seat). x >>= with-channel) (seat-found o.fixed o.there v.channel o.named g.opening))))));
    joint = joint-is v g o.first o.middle o.second o.joint;
    me = o.me;
    guarantor = guarantor-is v t (name_of_person s.key) (own_guarantor v) o.guarantor;
    fixed = o.fixed;
    named = o.named;
    app = o.app;
    people = o.people;
    opening = o.opens;
    seat = own-seat o.fixed o.there g.opening;
    child = child-is v g one other (own_guarantor v);
    on = l.ledger;
    closing = refl;
  }
    where
      t : Terms
      t = terms v o.first o.middle o.second

      one : List ℕ
      one = cond v.side_b o.middle o.first

      other : List ℕ
      other = cond v.side_b o.second o.middle

      l : LedgerAt one other (own_ledger v)
      l = ledger-at one other (own_ledger v) o.on

      k : Child
      k = child v g one other (own_guarantor v)

      guarantor : Seat
      guarantor = guarantor-seat v t (name_of_person s.key) (own_guarantor v) o.guarantor

      joint : Seat
      joint = seat o.joint.fixed o.joint.there (apart t g.amounts)

      c : Seat
      c = seat o.fixed o.there g.opening

      whole : EndSeats
      whole = record { terms = t; child = k; ledger = l.c; guarantor = guarantor; joint = joint; channel = c; votes = is_voting (chain_in v.channel f.chains); closing = g.closing }

      with-channel : Seat → Option EndSeats
      with-channel x = Some (record { terms = t; child = k; ledger = l.c; guarantor = guarantor; joint = joint; channel = x; votes = is_voting (chain_in v.channel f.chains); closing = g.closing })

      with-joint : Seat → Option EndSeats
      with-joint y = seat_with f v.channel g.opening >>= λ x. Some (record { terms = t; child = k; ledger = l.c; guarantor = guarantor; joint = y; channel = x; votes = is_voting (chain_in v.channel f.chains); closing = g.closing })

      with-guarantor : Seat → Option EndSeats
      with-guarantor z =
          seat_with f v.joint (apart t g.amounts) >>= λ y. seat_with f v.channel g.opening >>= λ x.
          Some (record { terms = t; child = k; ledger = l.c; guarantor = z; joint = y; channel = x; votes = is_voting (chain_in v.channel f.chains); closing = g.closing })

      with-child : Seat → Child → Option EndSeats
      with-child ledger q =
          seat_with f (own_guarantor v) (guarantee t v.joint (own_end v t)) >>= λ z. seat_with f v.joint (apart t g.amounts) >>= λ y. seat_with f v.channel g.opening >>= λ x.
          Some (record { terms = t; child = q; ledger = ledger; guarantor = z; joint = y; channel = x; votes = is_voting (chain_in v.channel f.chains); closing = g.closing })

      with-ledger : Seat → Option EndSeats
      with-ledger ledger = child_for v.asset (own_guarantor v) g.amounts ledger.people >>= with-child ledger

      with-goal : Goal → Option EndSeats
      with-goal d =
          seat_in f (own_ledger v) >>= λ ledger. child_for v.asset (own_guarantor v) d.amounts ledger.people >>= λ q.
          seat_with f (own_guarantor v) (guarantee t v.joint (own_end v t)) >>= λ z. seat_with f v.joint (apart t d.amounts) >>= λ y. seat_with f v.channel d.opening >>= λ x.
          Some (record { terms = t; child = q; ledger = ledger; guarantor = z; joint = y; channel = x; votes = is_voting (chain_in v.channel f.chains); closing = d.closing })

      with-terms : Terms → Option EndSeats
      with-terms u =
          goal_in f v.channel >>= λ d. seat_in f (own_ledger v) >>= λ ledger. child_for v.asset (own_guarantor v) d.amounts ledger.people >>= λ q.
          seat_with f (own_guarantor v) (guarantee u v.joint (own_end v u)) >>= λ z. seat_with f v.joint (apart u d.amounts) >>= λ y. seat_with f v.channel d.opening >>= λ x.
          Some (record { terms = u; child = q; ledger = ledger; guarantor = z; joint = y; channel = x; votes = is_voting (chain_in v.channel f.chains); closing = d.closing })

  -- ---- an intermediary

  middle-is : (v : Virtual) (g : Goal) → goal_in f v.channel ≡ Some g → OfMiddle s.key fs m.parts v g.amounts → MiddleIs s.key past lines f v g
  middle-is v g found o = record {
    middle = record { terms = t; child_a = ka; child_b = kb; ledger_a = la.c; ledger_b = lb.c; guarantor_a = ga; guarantor_b = gb; joint = joint; closing = g.closing };
    is =
        ap (λ (x : Option Terms). x >>= with-terms) (terms-found v g.amounts o.first o.middle o.second o.joint)
        ∙ (ap (λ (x : Option Goal). x >>= with-goal) found
        ∙ (ap (λ (x : Option Seat). x >>= with-ledger-a) la.found
        ∙ (ap (λ (x : Option Seat). x >>= with-ledger-b la.c) lb.found
        ∙ (ap (λ (x : List (List ℕ)). child_for v.asset v.guarantor_a g.amounts x >>= with-child-a la.c lb.c) la.people
        ∙ (ap (λ (x : List (List ℕ)). child_for v.asset v.guarantor_b g.amounts x >>= with-child-b la.c lb.c ka) lb.people
        ∙ (ap (λ (x : Option Seat). x >>= with-guarantor-a la.c lb.c ka kb) (seat-found o.guarantor_a.fixed o.guarantor_a.there v.guarantor_a o.guarantor_a.named (guarantee t v.joint o.first))
        ∙ (ap (λ (x : Option Seat). x >>= with-guarantor-b la.c lb.c ka kb ga) (seat-found o.guarantor_b.fixed o.guarantor_b.there v.guarantor_b o.guarantor_b.named (guarantee t v.joint o.second))
        ∙ ap (λ (x : Option Seat). x >>= with-joint t g la.c lb.c ka kb ga gb) (seat-found o.joint.fixed o.joint.there v.joint o.joint.named (apart t g.amounts)))))))));
    joint = joint-is v g o.first o.middle o.second o.joint;
    me = o.me;
    guarantor_a = guarantor-is v t o.first v.guarantor_a o.guarantor_a;
    guarantor_b = guarantor-is v t o.second v.guarantor_b o.guarantor_b;
    child_a = child-is v g o.first o.middle v.guarantor_a;
    child_b = child-is v g o.middle o.second v.guarantor_b;
    on_a = la.ledger;
    on_b = lb.ledger;
    closing = refl;
  }
    where
      t : Terms
      t = terms v o.first o.middle o.second

      la : LedgerAt o.first o.middle v.ledger_a
      la = ledger-at o.first o.middle v.ledger_a o.on_a

      lb : LedgerAt o.middle o.second v.ledger_b
      lb = ledger-at o.middle o.second v.ledger_b o.on_b

      ka : Child
      ka = child v g o.first o.middle v.guarantor_a

      kb : Child
      kb = child v g o.middle o.second v.guarantor_b

      ga : Seat
      ga = guarantor-seat v t o.first v.guarantor_a o.guarantor_a

      gb : Seat
      gb = guarantor-seat v t o.second v.guarantor_b o.guarantor_b

      joint : Seat
      joint = seat o.joint.fixed o.joint.there (apart t g.amounts)

      with-joint : Terms → Goal → Seat → Seat → Child → Child → Seat → Seat → Seat → Option MiddleSeats
      with-joint u d y z p q i j x = Some (record { terms = u; child_a = p; child_b = q; ledger_a = y; ledger_b = z; guarantor_a = i; guarantor_b = j; joint = x; closing = d.closing })

      with-guarantor-b : Seat → Seat → Child → Child → Seat → Seat → Option MiddleSeats
      with-guarantor-b y z p q i j = seat_with f v.joint (apart t g.amounts) >>= with-joint t g y z p q i j

      with-guarantor-a : Seat → Seat → Child → Child → Seat → Option MiddleSeats
      with-guarantor-a y z p q i = seat_with f v.guarantor_b (guarantee t v.joint t.second) >>= with-guarantor-b y z p q i

      with-child-b : Seat → Seat → Child → Child → Option MiddleSeats
      with-child-b y z p q = seat_with f v.guarantor_a (guarantee t v.joint t.first) >>= with-guarantor-a y z p q

      with-child-a : Seat → Seat → Child → Option MiddleSeats
      with-child-a y z p = child_for v.asset v.guarantor_b g.amounts z.people >>= with-child-b y z p

      with-ledger-b : Seat → Seat → Option MiddleSeats
      with-ledger-b y z = child_for v.asset v.guarantor_a g.amounts y.people >>= with-child-a y z

      with-ledger-a : Seat → Option MiddleSeats
      with-ledger-a y = seat_in f v.ledger_b >>= with-ledger-b y

      with-goal : Goal → Option MiddleSeats
      with-goal d =
          seat_in f v.ledger_a >>= λ y. seat_in f v.ledger_b >>= λ z. child_for v.asset v.guarantor_a d.amounts y.people >>= λ p. child_for v.asset v.guarantor_b d.amounts z.people >>= λ q.
          seat_with f v.guarantor_a (guarantee t v.joint t.first) >>= λ i. seat_with f v.guarantor_b (guarantee t v.joint t.second) >>= λ j.
          seat_with f v.joint (apart t d.amounts) >>= with-joint t d y z p q i j

      with-terms : Terms → Option MiddleSeats
      with-terms u =
          goal_in f v.channel >>= λ d. seat_in f v.ledger_a >>= λ y. seat_in f v.ledger_b >>= λ z. child_for v.asset v.guarantor_a d.amounts y.people >>= λ p.
          child_for v.asset v.guarantor_b d.amounts z.people >>= λ q. seat_with f v.guarantor_a (guarantee u v.joint u.first) >>= λ i.
          seat_with f v.guarantor_b (guarantee u v.joint u.second) >>= λ j. seat_with f v.joint (apart u d.amounts) >>= with-joint u d y z p q i j

  -- ---- a part of any kind

  part-is : (p : Part) (g : Goal) → goal_in f (own_channel p) ≡ Some g → Of s.key fs m.parts p g.opening g.amounts → PartIs s.key past lines f p g
  part-is (Root name) g found o = root-is name g found o
  part-is (OnLedger ledger name) g found o = on-ledger-is ledger name g found o
  part-is (End v) g found o = end-is v g found o
  part-is (Middle v) g found o = middle-is v g found o

  part-at : (p : Part) → In p m.parts → PartAt s past front p
  part-at p i = let g = goal p i in record { goal = g.goal; found = g.is; is = part-is p g.goal g.is g.known }

pub parts_are_known : PartsAreKnown
parts_are_known s h journal past front nodes at p i = part-at s h journal past front nodes at p i
