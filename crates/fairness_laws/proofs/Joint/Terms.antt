-- The terms of a virtual channel, and the people of its joint channel.
use Rattle.std.proofs.Common.{◌≡◌, ℕ, Bool, List, [], ◌∷◌, length, true, false, cond, refl, sym, ◌∙◌, ap, subst, inl, inr}
use Rattle.std.specs.Str.{bytes_eq}
use Rattle.call_history.proofs.Names.{same_bytes, bytes_eq_self}
use Rattle.call_history.specs.Flows.{is_among}
use Rattle.call_history.specs.declared.entry.Entry.{Entry}
use Rattle.channel_values.specs.Rules.{people}
use Rattle.funding_plans.specs.Parts.{channels_of_virtual, own_ledger}
use Rattle.funding_plans.specs.declared.plan.Goal.{Goal}
use Rattle.funding_plans.specs.declared.plan.Virtual.{Virtual}
use Rattle.channel_safety.specs.Journals.{Line}
use Rattle.channel_safety.proofs.Tests.{clash}
use Rattle.funding_plans.specs.Known.{FactsOf}
use Rattle.channel_node.specs.Places.{Told, lines_of}
use Rattle.channel_node.specs.Playing.{Signing}
use Rattle.node_guarantees.specs.NodeShareLaws.{IsFront}
use Rattle.fairness_laws.proofs.Plan.Names.{in-among}
use Rattle.fairness_laws.specs.PlanSettings.{IsFair}
use Rattle.fairness_laws.specs.PlanParts.{JointIs, EndIs, MiddleIs}
use Rattle.fairness_laws.proofs.Seat.Past.{as-many, one-fixed}
use Rattle.funding_plans.specs.declared.child.Child.{Child}
use Rattle.funding_plans.specs.declared.terms.Terms.{Terms}
use Rattle.funding_plans.specs.Seats.{Seat}
use Rattle.support_rules.specs.Steps.{persons}

-- ---- the channels of a virtual one

pub joint-among : (v : Virtual) → is_among v.joint (channels_of_virtual v) ≡ true
joint-among v = in-among v.joint (channels_of_virtual v) (inr (inr (inl refl)))

pub channel-among : (v : Virtual) → is_among v.channel (channels_of_virtual v) ≡ true
channel-among v = in-among v.channel (channels_of_virtual v) (inr (inr (inr (inl refl))))

-- ---- terms

terms-eq : (x y : Terms) → x.asset ≡ y.asset → x.channel ≡ y.channel → x.first ≡ y.first → x.middle ≡ y.middle → x.second ≡ y.second → x.total ≡ y.total → x ≡ y
terms-eq x y e1 e2 e3 e4 e5 e6 =
    ap (λ (z : ℕ). record { asset = z; channel = x.channel; first = x.first; middle = x.middle; second = x.second; total = x.total }) e1
    ∙ (ap (λ (z : List ℕ). record { asset = y.asset; channel = z; first = x.first; middle = x.middle; second = x.second; total = x.total }) e2
    ∙ (ap (λ (z : List ℕ). record { asset = y.asset; channel = y.channel; first = z; middle = x.middle; second = x.second; total = x.total }) e3
    ∙ (ap (λ (z : List ℕ). record { asset = y.asset; channel = y.channel; first = y.first; middle = z; second = x.second; total = x.total }) e4
    ∙ (ap (λ (z : List ℕ). record { asset = y.asset; channel = y.channel; first = y.first; middle = y.middle; second = z; total = x.total }) e5
    ∙ ap (λ (z : ℕ). record { asset = y.asset; channel = y.channel; first = y.first; middle = y.middle; second = y.second; total = z }) e6))))

abbrev pub head-of : List (List ℕ) → List ℕ
head-of [] = []
head-of (x ∷ xs) = x

abbrev pub rest-of : List (List ℕ) → List (List ℕ)
rest-of [] = []
rest-of (x ∷ xs) = xs

-- they are told by the joint channel's people
terms-told : (key : List ℕ) (past now : List Entry) (front longer : List Line) (v : Virtual) (g k : Goal) (t u : Terms) (c d : Seat) (a : JointIs key past front v g t c) (b : JointIs key now longer v k u d)
    → a.fixed ≡ b.fixed → t ≡ u
terms-told key past now front longer v g k t u c d a b same =
    terms-eq t u (a.asset ∙ sym b.asset) (a.channel ∙ sym b.channel) (ap head-of three) (ap (λ (xs : List (List ℕ)). head-of (rest-of xs)) three)
    (ap (λ (xs : List (List ℕ)). head-of (rest-of (rest-of xs))) three) (a.total ∙ sym b.total)
  where
    three : t.first ∷ t.middle ∷ t.second ∷ [] ≡ u.first ∷ u.middle ∷ u.second ∷ []
    three = sym a.people ∙ (ap persons same ∙ b.people)

pub three-people : (key : List ℕ) (past : List Entry) (front : List Line) (v : Virtual) (g : Goal) (t : Terms) (c : Seat) (a : JointIs key past front v g t c) → people a.fixed ≡ 3
three-people key past front v g t c a = sym (as-many a.fixed) ∙ ap (λ (xs : List (List ℕ)). length xs) a.people

-- at whatever places
pub terms-one : (s : Signing) (h : List Entry) (journal : List Told) (fair : IsFair s h journal) (past : List Entry) (front : List Told) (place : IsFront h journal past front)
    (after : List Entry) (longer : List Told) (then : IsFront h journal after longer) (v : Virtual) (g k : Goal) (t u : Terms) (c d : Seat)
    → JointIs s.key past (lines_of s.key front) v g t c → JointIs s.key after (lines_of s.key longer) v k u d → t ≡ u
terms-one s h journal fair past front place after longer then v g k t u c d a b =
    terms-told s.key past after (lines_of s.key front) (lines_of s.key longer) v g k t u c d a b
    (one-fixed s h journal fair past front place after longer then a.fixed b.fixed a.seat.own.there b.seat.own.there (a.named ∙ sym b.named))

-- the two ledgers of an intermediary have other people
pub ledgers-differ : (s : Signing) (h : List Entry) (journal : List Told) (fair : IsFair s h journal) (past : List Entry) (front : List Told) (place : IsFront h journal past front) (f : FactsOf) (v : Virtual) (g : Goal)
    → MiddleIs s.key past (lines_of s.key front) f v g → bytes_eq v.ledger_a v.ledger_b ≡ false
ledgers-differ s h journal fair past front place f v g y = go (bytes_eq v.ledger_a v.ledger_b) refl
  where
    go : (b : Bool) → bytes_eq v.ledger_a v.ledger_b ≡ b → b ≡ false
    go false e = refl
    go true e =
        let one : y.on_a.fixed ≡ y.on_b.fixed =
        one-fixed s h journal fair past front place past front place y.on_a.fixed y.on_b.fixed y.on_a.seat.own.there y.on_b.seat.own.there
        (y.on_a.named ∙ (same_bytes v.ledger_a v.ledger_b e ∙ sym y.on_b.named)) in
        let same : y.middle.terms.first ≡ y.middle.terms.middle =
        sym y.child_a.one ∙ (ap head-of (sym y.on_a.people ∙ (ap persons one ∙ y.on_b.people)) ∙ y.child_b.one) in
        absurd (clash (bytes_eq y.middle.terms.first y.middle.terms.middle) (subst (λ (n : List ℕ). bytes_eq y.middle.terms.first n ≡ true) same (bytes_eq_self y.middle.terms.first)) y.joint.first)

-- the intermediary is in an end's ledger, and not in its channel
pub channel-no_ledger : (s : Signing) (h : List Entry) (journal : List Told) (fair : IsFair s h journal) (past : List Entry) (front : List Told) (place : IsFront h journal past front) (f : FactsOf) (v : Virtual) (g : Goal)
    → EndIs s.key past (lines_of s.key front) f v g → bytes_eq v.channel (own_ledger v) ≡ false
channel-no_ledger s h journal fair past front place f v g y = go (bytes_eq v.channel (own_ledger v)) refl
  where
    t : Terms
    t = y.end.terms

    k : Child
    k = y.end.child

    same-people : bytes_eq v.channel (own_ledger v) ≡ true → t.first ∷ t.second ∷ [] ≡ k.first ∷ k.second ∷ []
    same-people e =
        let one : y.fixed ≡ y.on.fixed =
        one-fixed s h journal fair past front place past front place y.fixed y.on.fixed y.seat.own.there y.on.seat.own.there
        (y.named ∙ (same_bytes v.channel (own_ledger v) e ∙ sym y.on.named)) in
        sym y.people ∙ (ap persons one ∙ y.on.people)

    never : (b : Bool) → k.first ≡ cond b t.middle t.first → k.second ≡ cond b t.second t.middle → t.first ∷ t.second ∷ [] ≡ k.first ∷ k.second ∷ [] → ⊥
    never false p q same =
        clash (bytes_eq t.second t.middle) (subst (λ (n : List ℕ). bytes_eq t.second n ≡ true) (ap (λ (xs : List (List ℕ)). head-of (rest-of xs)) same ∙ q) (bytes_eq_self t.second)) y.joint.second
    never true p q same = clash (bytes_eq t.first t.middle) (subst (λ (n : List ℕ). bytes_eq t.first n ≡ true) (ap head-of same ∙ p) (bytes_eq_self t.first)) y.joint.first

    go : (b : Bool) → bytes_eq v.channel (own_ledger v) ≡ b → b ≡ false
    go false e = refl
    go true e = absurd (never v.side_b y.child.one y.child.other (same-people e))
