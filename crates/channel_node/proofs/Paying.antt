-- A payment that isn't refused is signed next.
use Rattle.std.proofs.Common.{◌≡◌, ℕ, ◌<◌, ◌==◌, ◌^◌, Bool, true, false, cond, ◌&&◌, ◌||◌, not, List, [], ◌∷◌, refl, sym, ◌∙◌, ap, subst, arith}
use Rattle.std.specs.Prelude.{Option, Some, None, nat_lt, nat_le}
use Rattle.std.specs.Str.{bytes_eq}
use Rattle.std.proofs.lemmas.Bool.{eq-eqb}
use Rattle.channel_values.specs.Parts.{StateParts}
use Rattle.channel_values.specs.declared.value.Item.{Item}
use Rattle.channel_values.specs.Amounts.{amt, has}
use Rattle.channel_values.specs.Rows.{mover}
use Rattle.channel_values.specs.Rules.{Rules, people}
use Rattle.channel_values.specs.Words.{fault_if, ◌⊳◌}
use Rattle.call_history.proofs.Names.{same_bytes, bytes_eq_self}
use Rattle.call_history.specs.Flows.{is_among}
use Rattle.call_history.specs.History.{Legal}
use Rattle.call_history.specs.declared.entry.Entry.{Entry}
use Rattle.call_history.specs.declared.event.Deed.TheVariants as deeds
use Rattle.call_history.specs.declared.event.NodeRefusal.{NodeRefusal}
use Rattle.call_history.specs.declared.event.NodeRefusal.TheVariants.{NotOpen, NotNext, NotAStep, NotWanted, KeySpent}
use Rattle.channel_store.specs.Keeping.{next_of}
use Rattle.channel_store.specs.Storing.{kept_of}
use Rattle.channel_store.specs.declared.kept.Kept.{Kept}
use Rattle.channel_safety.proofs.Tests.{none-eq, and-right, and-both, not-false, le-false, eqb-true, cond-false}
use Rattle.channel_node.specs.Minds.{Mind, facts_of}
use Rattle.channel_node.specs.Nodes.{NodeOf, signed, signed_if, asked, paid_if, told_to}
use Rattle.channel_node.specs.Playing.{Signing, payment_in}
use Rattle.channel_node.specs.Tables.{Tables}
use Rattle.channel_node.specs.Refusing.{is_open, stands_in, first_fault, not_open_in, not_open_part, not_open, latest_outcome, own, other, paying, follows, is_payable, part_joined, not_running, pay_refusal, has_left, command_refusal, can_sign, if_signable, signs_of, signs_in}
use Rattle.funding_plans.specs.Known.{FactsOf}
use Rattle.funding_plans.specs.Parts.{joined_of, running, closed}
use Rattle.funding_plans.specs.Shapes.{items_in}
use Rattle.funding_plans.specs.declared.plan.Part.{Part}
use Rattle.funding_plans.specs.declared.plan.Part.TheVariants.{Root, OnLedger, End, Middle}
use Rattle.network.specs.declared.command.Command.{Command}
use Rattle.network.specs.declared.command.Command.TheVariants.{Open, OpenOn, OpenVirtual, Pay, Close, Release, Resend, Exit}
use Rattle.channel_node.proofs.Allowing.{first_none, rest_none, holds_not}
use Rattle.channel_node.proofs.Keepers.{Waits, signs, asks}

-- ---- a channel of a running part is open, where no live channel isn't

apart : (n a b : ℕ) → (n == a) ≡ true → (a == b) ≡ false → (n == b) ≡ false
apart n a b e d = ap (λ (k : ℕ). k == b) (eqb-true n a e) ∙ d

running-is_live : (p : Part) (n : ℕ) → (n == running p) ≡ true → (n == closed p) ≡ false
running-is_live (Root c) n e = apart n 3 6 e refl
running-is_live (OnLedger l c) n e = apart n 3 6 e refl
running-is_live (End v) n e = apart n 5 9 e refl
running-is_live (Middle v) n e = apart n 5 9 e refl

open-in : (f : FactsOf) (channel : List ℕ) (names : List (List ℕ)) → first_fault (not_open_in f) names ≡ None → is_among channel names ≡ true → is_open (stands_in f channel) ≡ true
open-in f channel [] e i = absurd cc
open-in f channel (name ∷ names) e i = go (bytes_eq channel name) refl (open-in f channel names) i
  where
    here : is_open (stands_in f name) ≡ true
    here = not-false (is_open (stands_in f name)) (holds_not (not (is_open (stands_in f name))) (NotOpen name (stands_in f name)) (first_none (not_open_in f name) (first_fault (not_open_in f) names) e))

    go : (b : Bool) → bytes_eq channel name ≡ b → (first_fault (not_open_in f) names ≡ None → is_among channel names ≡ true → is_open (stands_in f channel) ≡ true)
        → (b || is_among channel names) ≡ true → is_open (stands_in f channel) ≡ true
    go true same rest i = subst (λ (n : List ℕ). is_open (stands_in f n) ≡ true) (sym (same_bytes channel name same)) here
    go false same rest i = rest (rest_none (not_open_in f name) (first_fault (not_open_in f) names) e) i

live-open : (ts : Tables) (f : FactsOf) (channel : List ℕ) (p : Part) → not_open_part ts f p ≡ None → is_among channel (joined_of p) ≡ true → not_running ts f (Some p) ≡ None → is_open (stands_in f channel) ≡ true
live-open ts f channel p e i run =
    open-in f channel (joined_of p) (sym (cond-false (ts.stage f p == closed p) None (first_fault (not_open_in f) (joined_of p)) live) ∙ e) i
  where
    live : (ts.stage f p == closed p) ≡ false
    live = running-is_live p (ts.stage f p) (not-false (ts.stage f p == running p) (holds_not (not (ts.stage f p == running p)) (NotWanted (ts.stage f p)) run))

stays-open : (ts : Tables) (f : FactsOf) (channel : List ℕ) (parts : List Part) → first_fault (not_open_part ts f) parts ≡ None → not_running ts f (part_joined channel parts) ≡ None
    → is_open (stands_in f channel) ≡ true
stays-open ts f channel [] e run = absurd cc
stays-open ts f channel (p ∷ parts) e run = go (is_among channel (joined_of p)) refl (stays-open ts f channel parts) run
  where
    go : (b : Bool) → is_among channel (joined_of p) ≡ b → (first_fault (not_open_part ts f) parts ≡ None → not_running ts f (part_joined channel parts) ≡ None → is_open (stands_in f channel) ≡ true)
        → not_running ts f (cond b (Some p) (part_joined channel parts)) ≡ None → is_open (stands_in f channel) ≡ true
    go true i rest run = live-open ts f channel p (first_none (not_open_part ts f p) (first_fault (not_open_part ts f) parts) e) i run
    go false i rest run = rest (rest_none (not_open_part ts f p) (first_fault (not_open_part ts f) parts) e) run

-- the state of a payment, which the node signs
pub record Payable (ts : Tables) (r : Rules) (limit used : ℕ) (m : Mind) (channel : List ℕ) (asset amount : ℕ) : Type 0 where
  pub k : Kept
  pub keeps : kept_of channel m.kept ≡ Some k
  pub can : can_sign r (facts_of m) channel k (paying m channel asset amount k) ≡ true
  pub state : StateParts
  pub is : state ≡ paying m channel asset amount k
  pub signs : signs_in ts r (Some (Pay channel asset amount)) m channel ≡ Some state
  pub below : used < limit

pub payable : (ts : Tables) (r : Rules) (limit used : ℕ) (m : Mind) (channel : List ℕ) (asset amount : ℕ) → command_refusal ts r limit used m (Pay channel asset amount) ≡ None → Payable ts r limit used m channel asset amount
payable ts r limit used m channel asset amount e = at (kept_of channel m.kept) refl e
  where
    at : (o : Option Kept) → kept_of channel m.kept ≡ o → pay_refusal ts r limit used m channel asset amount o ≡ None → Payable ts r limit used m channel asset amount
    at None is e = absurd (none-eq _ (sym e))
    at (Some k) is e = record {
      k = k;
      keeps = is;
      can = can;
      state = paying m channel asset amount k;
      is = refl;
      signs = ap (signs_of ts r (Some (Pay channel asset amount)) m channel) is ∙ wished ∙ ap (λ (b : Bool). cond b (Some (paying m channel asset amount k)) None) can;
      below = le-false limit used (holds_not (nat_le limit used) (KeySpent used) (rest_none line4 line5 after3));
    }
      where
        line5 : Option NodeRefusal
        line5 = fault_if (nat_le limit used) (KeySpent used)

        line4 : Option NodeRefusal
        line4 = not_running ts (facts_of m) (part_joined channel m.parts)

        line3 : Option NodeRefusal
        line3 = has_left m

        fits : Bool
        fits = is_payable r m channel asset amount k (items_in asset (latest_outcome m channel k))

        line2 : Option NodeRefusal
        line2 = fault_if (not fits) NotAStep

        line1 : Option NodeRefusal
        line1 = fault_if (not (mover (people k.chain.fixed) (next_of k) == k.me)) (NotNext (next_of k))

        after0 : (line1 ⊳ line2 ⊳ line3 ⊳ line4 ⊳ line5) ≡ None
        after0 = rest_none (not_open ts (facts_of m)) (line1 ⊳ line2 ⊳ line3 ⊳ line4 ⊳ line5) e

        after1 : (line2 ⊳ line3 ⊳ line4 ⊳ line5) ≡ None
        after1 = rest_none line1 (line2 ⊳ line3 ⊳ line4 ⊳ line5) after0

        after2 : (line3 ⊳ line4 ⊳ line5) ≡ None
        after2 = rest_none line2 (line3 ⊳ line4 ⊳ line5) after1

        after3 : (line4 ⊳ line5) ≡ None
        after3 = rest_none line3 (line4 ⊳ line5) after2

        stays : m.left ≡ false
        stays = holds_not m.left (NotWanted 99) (first_none line3 (line4 ⊳ line5) after2)

        mine : (mover (people k.chain.fixed) (next_of k) == k.me) ≡ true
        mine = not-false (mover (people k.chain.fixed) (next_of k) == k.me) (holds_not (not (mover (people k.chain.fixed) (next_of k) == k.me)) (NotNext (next_of k)) (first_none line1 (line2 ⊳ line3 ⊳ line4 ⊳ line5) after0))

        fit : fits ≡ true
        fit = not-false fits (holds_not (not fits) NotAStep (first_none line2 (line3 ⊳ line4 ⊳ line5) after1))

        items : List Item
        items = items_in asset (latest_outcome m channel k)

        follow : follows r k (paying m channel asset amount k) ≡ true
        follow = and-right (nat_le amount (amt items (own k)) && (amount == 0 || has items (other k))) (follows r k (paying m channel asset amount k))
            (and-right (k.chain.fixed.app == 1 && nat_lt (next_of k) (2 ^ 48)) ((nat_le amount (amt items (own k)) && (amount == 0 || has items (other k))) && follows r k (paying m channel asset amount k)) fit)

        can : can_sign r (facts_of m) channel k (paying m channel asset amount k) ≡ true
        can = and-both (follows r k (paying m channel asset amount k)) (((next_of k == next_of k) && (mover (people k.chain.fixed) (next_of k) == k.me)) && is_open (stands_in (facts_of m) channel)) follow
            (and-both ((next_of k == next_of k) && (mover (people k.chain.fixed) (next_of k) == k.me)) (is_open (stands_in (facts_of m) channel))
            (and-both (next_of k == next_of k) (mover (people k.chain.fixed) (next_of k) == k.me) (eq-eqb (next_of k) (next_of k) refl) mine)
            (stays-open ts (facts_of m) channel m.parts (first_none (not_open ts (facts_of m)) (line1 ⊳ line2 ⊳ line3 ⊳ line4 ⊳ line5) e) (first_none line4 line5 after3)))

        wished : signs_of ts r (Some (Pay channel asset amount)) m channel (Some k) ≡ cond (can_sign r (facts_of m) channel k (paying m channel asset amount k)) (Some (paying m channel asset amount k)) None
        wished = go m.left (bytes_eq channel channel) stays (bytes_eq_self channel)
          where
            go : (left b : Bool) → left ≡ false → b ≡ true
                → if_signable r (facts_of m) channel k (cond left None (cond b (Some (paying m channel asset amount k)) None)) ≡ cond (can_sign r (facts_of m) channel k (paying m channel asset amount k)) (Some (paying m channel asset amount k)) None
            go false true l t = refl
            go false false l t = absurd cc
            go true b l t = absurd cc

module _ (ts : Tables) (r : Rules) (s : Signing) (h : List Entry) (legal : Legal r h) where
  pays : (n : NodeOf) (step : ℕ) (channel : List ℕ) (asset amount : ℕ) → command_refusal ts r s.limit n.used n.mind (Pay channel asset amount) ≡ None
      → Waits ts r s h legal (asked r s step (Pay channel asset amount) None n) (Some (Pay channel asset amount))
      → Waits ts r s h legal (paid_if ts r s None (Pay channel asset amount) (asked r s step (Pay channel asset amount) None n)) None
  pays n step channel asset amount e w = go (signs_in ts r (Some (Pay channel asset amount)) n.mind channel) refl
    where
      p : Payable ts r s.limit n.used n.mind channel asset amount
      p = payable ts r s.limit n.used n.mind channel asset amount e

      n1 : NodeOf
      n1 = asked r s step (Pay channel asset amount) None n

      go : (o : Option StateParts) → signs_in ts r (Some (Pay channel asset amount)) n.mind channel ≡ o → Waits ts r s h legal (signed_if r s channel o n1) None
      go None is = absurd (none-eq p.state (sym is ∙ p.signs))
      go (Some state) is =
          subst (λ (b : Bool). Waits ts r s h legal (cond b (signed r s channel state n1) n1) None) (sym (lt-is n.used s.limit p.below))
          (signs ts r s h legal n1 (Some (Pay channel asset amount)) channel state is p.below w)
        where
          lt-is : (a b : ℕ) → a < b → nat_lt a b ≡ true
          lt-is a b l = grind arith

  -- a command, with the state of a payment
  pub tells : (n : NodeOf) (step : ℕ) (command : Command) → Waits ts r s h legal n None → Waits ts r s h legal (told_to ts r s step command n) None
  tells n step command w = go (command_refusal ts r s.limit n.used n.mind command) refl (asks ts r s h legal n step command w)
    where
      go : (o : Option NodeRefusal) → command_refusal ts r s.limit n.used n.mind command ≡ o → Waits ts r s h legal (asked r s step command o n) (payment_in (deeds.Commanded step o) (Some command))
          → Waits ts r s h legal (paid_if ts r s o command (asked r s step command o n)) None
      go (Some refusal) e a = a
      go None e a = by command e a
        where
          by : (c : Command) → command_refusal ts r s.limit n.used n.mind c ≡ None → Waits ts r s h legal (asked r s step c None n) (payment_in (deeds.Commanded step None) (Some c))
              → Waits ts r s h legal (paid_if ts r s None c (asked r s step c None n)) None
          by (Open f outcome) e a = a
          by (Close channel) e a = a
          by (Release how channel) e a = a
          by (Resend channel) e a = a
          by (OpenOn o) e a = a
          by (OpenVirtual v) e a = a
          by Exit e a = a
          by (Pay channel asset amount) e a = pays n step channel asset amount e a
