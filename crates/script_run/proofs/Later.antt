-- The second transfer.
use Rattle.std.proofs.Common.{◌≡◌, ℕ, ◌+◌, ◌-◌, ◌<◌, List, arith}
use Rattle.channel_values.specs.declared.chain.Mark.{Mark}
use Rattle.channel_values.specs.Rules.{Rules}
use Rattle.call_history.specs.Calls.{make_transfer}
use Rattle.call_history.specs.declared.call.Call.{Call}
use Rattle.call_history.proofs.Names.{bytes_eq_self}
use Rattle.script_run.proofs.PairNumbers.{same-number, zeroless}
use Rattle.script_run.specs.Pair.{split}
use Rattle.script_run.specs.TwoPeople.{Pair, name}
use Rattle.std.specs.Prelude.{min}
use Rattle.call_history.specs.declared.call.Op.TheVariants as ops
use Rattle.call_history.specs.declared.refusal.Reply.TheVariants.{Paid}
use Rattle.call_history.specs.History.{reply_to}
use Rattle.script_run.proofs.Replies.{paid_a, paid_b}

rest-b : (a b x y : ℕ) → x + y ≡ a + b → min (y - 0) (0 + b + a - (0 + x + 0 + 0) - (0 + (x - (0 + x)))) ≡ y
rest-b a b x y e = omega arith

rest-a : (a b x y : ℕ) → x + y ≡ a + b → min (x - 0) (0 + b + a - (0 + y + 0 + 0) - 0) ≡ x
rest-a a b x y e = omega arith

pub replies_then_b : (r : Rules) (p : Pair) (turn x y caller : ℕ) (marks : List Mark) → x + y ≡ p.a + p.b → 0 < y
    → reply_to r (paid_a r p turn x y caller marks) (ops.Call (make_transfer (name r p) (split p x y) p.asset 1)) ≡ Paid y
unfolding reply_to
replies_then_b r p turn x y caller marks sum some = simp (bytes_eq_self, same-number p.asset, rest-b p.a p.b x y sum, zeroless y some)

pub replies_then_a : (r : Rules) (p : Pair) (turn x y caller : ℕ) (marks : List Mark) → x + y ≡ p.a + p.b → 0 < x
    → reply_to r (paid_b r p turn x y caller marks) (ops.Call (make_transfer (name r p) (split p x y) p.asset 0)) ≡ Paid x
unfolding reply_to
replies_then_a r p turn x y caller marks sum some = simp (bytes_eq_self, same-number p.asset, rest-a p.a p.b x y sum, zeroless x some)
