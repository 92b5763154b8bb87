-- A payment that isn't refused has a turn and its amount, so that its state is one.
use Rattle.std.proofs.Common.{◌≡◌, ℕ, ◌<◌, ◌≤◌, ◌^◌, ◌&&◌, Bool, true, List, sym, subst}
use Rattle.std.specs.Prelude.{Some, nat_lt, nat_le, ◌==◌, ◌||◌}
use Rattle.channel_safety.proofs.Tests.{and-left, and-right, lt-true, le-true}
use Rattle.channel_values.specs.Amounts.{amt, has}
use Rattle.channel_store.specs.Keeping.{next_of}
use Rattle.channel_store.specs.Storing.{kept_of}
use Rattle.channel_store.specs.declared.kept.Kept.{Kept}
use Rattle.funding_plans.specs.Shapes.{items_in}
use Rattle.channel_node.specs.Minds.{Mind}
use Rattle.channel_node.specs.Refusing.{own, other, follows, paying, latest_outcome, is_payable}
use Rattle.support_rules.specs.Real.{real}
use Rattle.node_decisions.specs.Paying.{IsPayable}

module _ (m : Mind) (channel : List ℕ) (asset amount : ℕ) (k : Kept) (found : Some k ≡ kept_of channel m.kept) (payable : IsPayable m channel asset amount (kept_of channel m.kept)) where
  abbrev is : is_payable real m channel asset amount k (items_in asset (latest_outcome m channel k)) ≡ true
  is = subst (IsPayable m channel asset amount) (sym found) payable

  abbrev turn : Bool
  turn = nat_lt (next_of k) (2 ^ 48)

  abbrev there : Bool
  there = nat_le amount (amt (items_in asset (latest_outcome m channel k)) (own k))

  abbrev getter : Bool
  getter = amount == 0 || has (items_in asset (latest_outcome m channel k)) (other k)

  abbrev goes : Bool
  goes = follows real k (paying m channel asset amount k)

  pub has_turn : next_of k < 2 ^ 48
  has_turn = lt-true (next_of k) (2 ^ 48) (and-right (k.chain.fixed.app == 1) turn (and-left (k.chain.fixed.app == 1 && turn) ((there && getter) && goes) is))

  pub has_amount : amount ≤ amt (items_in asset (latest_outcome m channel k)) (own k)
  has_amount =
      le-true amount (amt (items_in asset (latest_outcome m channel k)) (own k))
      (and-left there getter (and-left (there && getter) goes (and-right (k.chain.fixed.app == 1 && turn) ((there && getter) && goes) is)))
