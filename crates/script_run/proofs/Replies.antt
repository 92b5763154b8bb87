-- What the adjudicator answers to the entries of the two.
pub use Rattle.script_run.specs.Entries.{first_entry, second_entry, deposits}
use Rattle.std.proofs.Common.{◌≡◌, ℕ, ◌+◌, ◌-◌, ◌<◌, true, false, List, [], ◌∷◌, arith}
use Rattle.std.specs.Prelude.{◌^◌, nat_lt, Ok, min}
use Rattle.std.proofs.lemmas.Bool.Decides.{nat_tests}
use Rattle.channel_values.specs.declared.chain.Mark.{Mark}
use Rattle.channel_values.specs.Rules.{Rules}
use Rattle.call_history.specs.Calls.{make_deposit, make_transfer}
use Rattle.call_history.specs.declared.call.Call.{Call}
use Rattle.call_history.specs.declared.call.Call.TheVariants.{Conclude}
use Rattle.call_history.proofs.Names.{bytes_eq_self}
use Rattle.script_run.proofs.PairNumbers.{same-number, not-less, zeroless}
use Rattle.script_run.specs.Pair.{state, split, chain}
use Rattle.script_run.specs.TwoPeople.{Pair, name}
use Rattle.channel_values.specs.declared.chain.Chain.{Chain}
use Rattle.call_history.specs.declared.call.Op.TheVariants as ops
use Rattle.call_history.specs.declared.entry.Entry.{Entry}
use Rattle.call_history.specs.declared.refusal.Reply.TheVariants.{Held, Concluded, Paid}
use Rattle.script_run.proofs.Opening.{Begins}
use Rattle.channel_values.specs.Support.{support_of, verified_marks}
use Rattle.call_history.specs.History.{reply_to}
use Rattle.script_run.proofs.Seeing.{entry}

-- no more than an amount is deposited
pub record Small (p : Pair) : Type 0 where
  pub sum : p.a + p.b < 2 ^ 64

fits-one : (a b : ℕ) → a + b < 2 ^ 64 → nat_lt (2 ^ 64 - 1) (0 + a) ≡ false
fits-one a b h = grind (arith, nat_tests)

fits-both : (a b : ℕ) → a + b < 2 ^ 64 → nat_lt (2 ^ 64 - 1) (0 + a + b) ≡ false
fits-both a b h = grind (arith, nat_tests)

held-one : (a : ℕ) → 0 + a - 0 ≡ a
held-one a = omega arith

held-both : (a b : ℕ) → 0 + b + a - 0 ≡ a + b
held-both a b = omega arith

pub replies_first : (r : Rules) (p : Pair) → Begins r p → Small p → reply_to r [] (ops.Call (make_deposit (name r p) p.asset 0 p.a)) ≡ Held (0 + p.a)
unfolding reply_to
replies_first r p b w = simp (zeroless p.a b.some_a, fits-one p.a p.b w.sum)

pub replies_second : (r : Rules) (p : Pair) (caller : ℕ) → Begins r p → Small p → reply_to r (first_entry r p caller ∷ []) (ops.Call (make_deposit (name r p) p.asset p.a p.b)) ≡ Held (p.a + p.b)
unfolding reply_to
replies_second r p caller b w = simp (bytes_eq_self (name r p), same-number p.asset, held-one p.a, zeroless p.b b.some_b, not-less p.a, fits-both p.a p.b w.sum)

abbrev pub last_chain : Pair → (turn x y : ℕ) → List Mark → Chain
last_chain p turn x y marks = chain p (state p turn true x y ∷ state p (turn + 1) true x y ∷ []) marks

pub replies_conclude : (r : Rules) (p : Pair) (turn x y : ℕ) (marks : List Mark) → support_of r (last_chain p turn x y marks) (verified_marks r (last_chain p turn x y marks)) ≡ Ok (turn + 1)
    → reply_to r (deposits r p) (ops.Call (Conclude (last_chain p turn x y marks))) ≡ Concluded (turn + 1)
unfolding reply_to
replies_conclude r p turn x y marks supported = simp (supported)

abbrev pub concluded : Rules → Pair → (turn x y caller : ℕ) → List Mark → List Entry
concluded r p turn x y caller marks = entry 3 caller (Conclude (last_chain p turn x y marks)) (Concluded (turn + 1)) ∷ deposits r p

-- what is held then
all-held : (a b x y : ℕ) → x + y ≡ a + b → min (x - 0) (a + b - 0) ≡ x
all-held a b x y e = omega arith

pub replies_transfer_a : (r : Rules) (p : Pair) (turn x y caller : ℕ) (marks : List Mark) → x + y ≡ p.a + p.b → 0 < x
    → reply_to r (concluded r p turn x y caller marks) (ops.Call (make_transfer (name r p) (split p x y) p.asset 0)) ≡ Paid x
unfolding reply_to
replies_transfer_a r p turn x y caller marks sum some = simp (bytes_eq_self, same-number p.asset, held-both p.a p.b, all-held p.a p.b x y sum, zeroless x some)

second-held : (a b x y : ℕ) → x + y ≡ a + b → min (y - 0) (a + b - (0 + (x - 0))) ≡ y
second-held a b x y e = omega arith

pub replies_transfer_b : (r : Rules) (p : Pair) (turn x y caller : ℕ) (marks : List Mark) → x + y ≡ p.a + p.b → 0 < y
    → reply_to r (concluded r p turn x y caller marks) (ops.Call (make_transfer (name r p) (split p x y) p.asset 1)) ≡ Paid y
unfolding reply_to
replies_transfer_b r p turn x y caller marks sum some = simp (bytes_eq_self, same-number p.asset, held-both p.a p.b, second-held p.a p.b x y sum, zeroless y some)

-- one of the two was paid already
abbrev pub paid_a : Rules → Pair → (turn x y caller : ℕ) → List Mark → List Entry
paid_a r p turn x y caller marks = entry 4 1 (make_transfer (name r p) (split p x y) p.asset 0) (Paid x) ∷ concluded r p turn x y caller marks

abbrev pub paid_b : Rules → Pair → (turn x y caller : ℕ) → List Mark → List Entry
paid_b r p turn x y caller marks = entry 4 2 (make_transfer (name r p) (split p x y) p.asset 1) (Paid y) ∷ concluded r p turn x y caller marks
