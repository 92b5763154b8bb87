-- What a payment that isn't refused says: it is the person's turn, and it has that much.
use Rattle.std.proofs.Common.{◌≡◌, ℕ, ◌+◌, ◌-◌, ◌%◌, Bool, true, false, ◌&&◌, ◌||◌, not, List, [], ◌∷◌, sym, ◌∙◌, ap, subst, arith}
use Rattle.std.specs.Prelude.{◌==◌, ◌^◌, nat_lt, nat_le, Option, Some, None}
use Rattle.std.proofs.lemmas.Bool.Decides.{nat_tests}
use Rattle.std.specs.Str.{bytes_eq}
use Rattle.channel_values.specs.Parts.{StateParts}
use Rattle.channel_values.specs.declared.chain.Mark.{Mark}
use Rattle.channel_values.specs.Digests.{name_of_person}
use Rattle.channel_values.specs.Amounts.{amt, has}
use Rattle.channel_values.specs.Rules.{Rules}
use Rattle.channel_values.specs.Words.{◌⊳◌, fault_if}
use Rattle.call_history.proofs.Names.{bytes_eq_self}
use Rattle.call_history.specs.declared.event.NodeRefusal.{NodeRefusal}
use Rattle.call_history.specs.declared.event.NodeRefusal.TheVariants.{NotNext, NotAStep, KeySpent}
use Rattle.channel_store.specs.Storing.{kept_of}
use Rattle.channel_store.specs.declared.kept.Kept.{Kept}
use Rattle.funding_plans.specs.Shapes.{items_in}
use Rattle.network.specs.declared.command.Command.TheVariants.{Pay}
use Rattle.channel_node.proofs.Allowing.{first_none, rest_none, holds_not}
use Rattle.channel_node.specs.Minds.{Mind, facts_of}
use Rattle.channel_node.specs.Refusing.{command_refusal, pay_refusal, not_open, is_payable, has_left, not_running, part_joined, follows, paying, own, other}
use Rattle.channel_safety.proofs.Tests.{and-left, and-right, not-false}
use Rattle.script_run.proofs.PairNumbers.{same-number}
use Rattle.script_run.specs.Pair.{kept, mind, state, split, funded}
use Rattle.script_run.specs.Table.{stages}
use Rattle.script_run.specs.TwoPeople.{Pair, name}

-- the person at a place pays an amount of what it has
pub record Allowed (turn me had amount limit used : ℕ) : Type 0 where
  pub turns : (turn + 1) % 2 ≡ me
  pub early : nat_lt (turn + 1) (2 ^ 48) ≡ true
  pub covered : nat_le amount had ≡ true
  pub unspent : nat_le limit used ≡ false

same : (a b : ℕ) → (a == b) ≡ true → a ≡ b
same a b e = grind (arith, nat_tests)

module _ (r : Rules) (p : Pair) (me limit used : ℕ) (key : List ℕ) (last : Option StateParts) (m1 m2 : Mark) (before turn u v x y amount : ℕ) where
  abbrev knows : Mind
  knows = mind r p me key false (funded r p) (state p before false u v ∷ state p turn false x y ∷ []) (m1 ∷ m2 ∷ []) last

  abbrev held : Kept
  held = kept r p me (state p before false u v ∷ state p turn false x y ∷ []) (m1 ∷ m2 ∷ []) last

  found : kept_of (name r p) (held ∷ []) ≡ Some held
  found = simp (bytes_eq_self (name r p))

  -- the lines of the table, and what is left of them from the second and the third on
  abbrev whose : Option NodeRefusal
  whose = fault_if (not ((turn + 1) % 2 == me)) (NotNext (turn + 1))

  abbrev payable : Bool
  payable = is_payable r knows (name r p) p.asset amount held (items_in p.asset (split p x y))

  abbrev rest_3 : Option NodeRefusal
  rest_3 = has_left knows ⊳ not_running stages (facts_of knows) (part_joined (name r p) knows.parts) ⊳ fault_if (nat_le limit used) (KeySpent used)

  pub allowed : (had : ℕ) → amt (items_in p.asset (split p x y)) (own held) ≡ had
      → command_refusal stages r limit used knows (Pay (name r p) p.asset amount) ≡ None → Allowed turn me had amount limit used
  allowed had has_it e =
      let e1 : (not_open stages (facts_of knows) ⊳ whose ⊳ fault_if (not payable) NotAStep ⊳ rest_3) ≡ None =
      sym (ap (λ (k : Option Kept). pay_refusal stages r limit used knows (name r p) p.asset amount k) found) ∙ e in
      let e2 = rest_none (not_open stages (facts_of knows)) (whose ⊳ fault_if (not payable) NotAStep ⊳ rest_3) e1 in
      let e3 = rest_none whose (fault_if (not payable) NotAStep ⊳ rest_3) e2 in
      let e4 = rest_none (fault_if (not payable) NotAStep) rest_3 e3 in
      let e5 = rest_none (has_left knows) (not_running stages (facts_of knows) (part_joined (name r p) knows.parts) ⊳ fault_if (nat_le limit used) (KeySpent used)) e4 in
      let e6 = rest_none (not_running stages (facts_of knows) (part_joined (name r p) knows.parts)) (fault_if (nat_le limit used) (KeySpent used)) e5 in
      let turn_is = not-false ((turn + 1) % 2 == me) (holds_not (not ((turn + 1) % 2 == me)) (NotNext (turn + 1)) (first_none whose (fault_if (not payable) NotAStep ⊳ rest_3) e2)) in
      let ok = not-false payable (holds_not (not payable) NotAStep (first_none (fault_if (not payable) NotAStep) rest_3 e3)) in
      let line = and-left (nat_lt (turn + 1) (2 ^ 48)) ((nat_le amount (amt (items_in p.asset (split p x y)) (own held)) && (amount == 0 || has (items_in p.asset (split p x y)) (other held))) && follows r held (paying knows (name r p) p.asset amount held)) ok in
      let much = and-right (nat_lt (turn + 1) (2 ^ 48)) ((nat_le amount (amt (items_in p.asset (split p x y)) (own held)) && (amount == 0 || has (items_in p.asset (split p x y)) (other held))) && follows r held (paying knows (name r p) p.asset amount held)) ok in
      let items = and-left (nat_le amount (amt (items_in p.asset (split p x y)) (own held)) && (amount == 0 || has (items_in p.asset (split p x y)) (other held))) (follows r held (paying knows (name r p) p.asset amount held)) much in
      record {
        turns = same ((turn + 1) % 2) me turn_is;
        early = line;
        covered = subst (λ (n : ℕ). nat_le amount n ≡ true) has_it (and-left (nat_le amount (amt (items_in p.asset (split p x y)) (own held))) (amount == 0 || has (items_in p.asset (split p x y)) (other held)) items);
        unspent = holds_not (nat_le limit used) (KeySpent used) e6;
      }

pub allowed_a : (r : Rules) (p : Pair) (limit used : ℕ) (last : Option StateParts) (m1 m2 : Mark) (before turn u v x y amount : ℕ)
    → command_refusal stages r limit used (mind r p 0 p.key_a false (funded r p) (state p before false u v ∷ state p turn false x y ∷ []) (m1 ∷ m2 ∷ []) last) (Pay (name r p) p.asset amount) ≡ None
    → Allowed turn 0 x amount limit used
allowed_a r p limit used last m1 m2 before turn u v x y amount =
    allowed r p 0 limit used p.key_a last m1 m2 before turn u v x y amount x (simp (bytes_eq_self (name_of_person p.key_a), same-number p.asset))

pub allowed_b : (r : Rules) (p : Pair) (limit used : ℕ) (last : Option StateParts) (m1 m2 : Mark) (before turn u v x y amount : ℕ) → bytes_eq (name_of_person p.key_a) (name_of_person p.key_b) ≡ false
    → command_refusal stages r limit used (mind r p 1 p.key_b false (funded r p) (state p before false u v ∷ state p turn false x y ∷ []) (m1 ∷ m2 ∷ []) last) (Pay (name r p) p.asset amount) ≡ None
    → Allowed turn 1 y amount limit used
allowed_b r p limit used last m1 m2 before turn u v x y amount apart =
    allowed r p 1 limit used p.key_b last m1 m2 before turn u v x y amount y (simp (apart, bytes_eq_self (name_of_person p.key_b), same-number p.asset))
