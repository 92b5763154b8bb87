-- What deposits and payments make of tables of balances.
use Rattle.std.proofs.Common.{◌≡◌, ℕ, ◌+◌, ◌≤◌, ◌<◌, ◌^◌, List, Bool, true, false, cond, Some, None, ◌∙◌, ap, subst, arith, refl, sym}
use Rattle.std.proofs.lemmas.Bool.{eqb-true}
use Rattle.std.specs.Prelude.{◌-◌, ◌==◌, nat_eq}
use Rattle.std.specs.Str.{bytes_eq}
use Rattle.channel_values.specs.declared.value.Dest.TheVariants.{Person, Channel}
use Rattle.asset_holder.specs.Amounts.{amount_in, total, Respects}
use Rattle.asset_holder.proofs.Totals.{amount_within}
use Rattle.asset_holder.proofs.Changes.{raised, lowered, counts_within, total_raised, total_lowered}
use Rattle.asset_holder.specs.Balances.{Balances, same_pair, is_of, amount_held, amount_paid, amount_deposited, HasMoved}
use Rattle.asset_holder.specs.Tables.{AreBalanced}
use Rattle.asset_holder.proofs.Keys.{pair_is, respects_asset, cond_and}

abbrev Rows : Type 0
Rows = List ((List ℕ × ℕ) × ℕ)

-- a name has more or less of an asset, and nothing else changes
pub record IsRaised (old : Rows) (name : List ℕ) (kind more : ℕ) (new : Rows) : Type 0 where
  pub amounts : (k : List ℕ × ℕ) → amount_in same_pair new k ≡ amount_in same_pair old k + cond (same_pair (name, kind) k) more 0
  pub totals : (asset : ℕ) → total (is_of asset) new ≡ total (is_of asset) old + cond (kind == asset) more 0

pub record IsLowered (old : Rows) (name : List ℕ) (kind less : ℕ) (new : Rows) : Type 0 where
  pub within : less ≤ amount_in same_pair old (name, kind)
  pub amounts : (k : List ℕ × ℕ) → amount_in same_pair new k ≡ amount_in same_pair old k - cond (same_pair (name, kind) k) less 0
  pub totals : (asset : ℕ) → total (is_of asset) new + cond (kind == asset) less 0 ≡ total (is_of asset) old

-- which a new amount for its key brings about
module _ (old new : Rows) (name : List ℕ) (kind n : ℕ)
    (amounts : (k : List ℕ × ℕ) → amount_in same_pair new k ≡ cond (same_pair (name, kind) k) n (amount_in same_pair old k))
    (totals : (test : List ℕ × ℕ → Bool) → Respects same_pair test
    → total test new + cond (test (name, kind)) (amount_in same_pair old (name, kind)) 0 ≡ total test old + cond (test (name, kind)) n 0) where
  pub raised_by : (more : ℕ) → n ≡ amount_in same_pair old (name, kind) + more → IsRaised old name kind more new
  raised_by more is = record {
    amounts = raised same_pair pair_is (amount_in same_pair old) (amount_in same_pair new) (name, kind) n more is amounts;
    totals = λ asset. total_raised (kind == asset) (total (is_of asset) old) (total (is_of asset) new) (amount_in same_pair old (name, kind)) n more (totals (is_of asset) (respects_asset asset)) is;
  }

  pub lowered_by : (less : ℕ) → less ≤ amount_in same_pair old (name, kind) → n ≡ amount_in same_pair old (name, kind) - less → IsLowered old name kind less new
  lowered_by less within is = record {
    within = within;
    amounts = lowered same_pair pair_is (amount_in same_pair old) (amount_in same_pair new) (name, kind) n less is amounts;
    totals = λ asset. total_lowered (kind == asset) (total (is_of asset) old) (total (is_of asset) new) (amount_in same_pair old (name, kind)) n less (totals (is_of asset) (respects_asset asset)) is within;
  }

pub entered_by : (old new : List (ℕ × ℕ)) (kind n more : ℕ) → n ≡ amount_in nat_eq old kind + more
    → ((k : ℕ) → amount_in nat_eq new k ≡ cond (nat_eq kind k) n (amount_in nat_eq old k))
    → (asset : ℕ) → amount_in nat_eq new asset ≡ amount_in nat_eq old asset + cond (kind == asset) more 0
entered_by old new kind n more is amounts = raised nat_eq (λ j k e. eqb-true j k e) (amount_in nat_eq old) (amount_in nat_eq new) kind n more is amounts

-- of balances that are seen as self
pub low_of : (b self : Balances) → b ≡ self → (new : Rows) (from : List ℕ) (kind less held : ℕ) → less ≤ amount_held self from kind → held ≡ amount_held self from kind
    → ((k : List ℕ × ℕ) → amount_in same_pair new k ≡ cond (same_pair (from, kind) k) (held - less) (amount_in same_pair b.held k))
    → ((test : List ℕ × ℕ → Bool) → Respects same_pair test
    → total test new + cond (test (from, kind)) (amount_in same_pair b.held (from, kind)) 0 ≡ total test b.held + cond (test (from, kind)) (held - less) 0)
    → IsLowered b.held from kind less new
low_of b self view new from kind less held within is amounts totals =
    let same : amount_held self from kind ≡ amount_held b from kind = ap (λ (x : Balances). amount_held x from kind) (sym view) in
    lowered_by b.held new from kind (held - less) amounts totals less (subst (λ (n : ℕ). less ≤ n) same within) (ap (λ n. n - less) (is ∙ same))

pub high_of : (b self : Balances) → b ≡ self → (new : Rows) (channel : List ℕ) (kind more held : ℕ) → held ≡ amount_held self channel kind
    → ((k : List ℕ × ℕ) → amount_in same_pair new k ≡ cond (same_pair (channel, kind) k) (held + more) (amount_in same_pair b.held k))
    → ((test : List ℕ × ℕ → Bool) → Respects same_pair test
    → total test new + cond (test (channel, kind)) (amount_in same_pair b.held (channel, kind)) 0 ≡ total test b.held + cond (test (channel, kind)) (held + more) 0)
    → IsRaised b.held channel kind more new
high_of b self view new channel kind more held is amounts totals =
    raised_by b.held new channel kind (held + more) amounts totals more (ap (λ n. n + more) (is ∙ ap (λ (x : Balances). amount_held x channel kind) (sym view)))

pub entered_of : (b self : Balances) → b ≡ self → (new : List (ℕ × ℕ)) (kind more was : ℕ) → was ≡ amount_deposited self kind
    → ((k : ℕ) → amount_in nat_eq new k ≡ cond (nat_eq kind k) (was + more) (amount_in nat_eq b.deposited k))
    → (asset : ℕ) → amount_in nat_eq new asset ≡ amount_deposited b asset + cond (kind == asset) more 0
entered_of b self view new kind more was is amounts =
    entered_by b.deposited new kind (was + more) more (ap (λ n. n + more) (is ∙ ap (λ (x : Balances). amount_deposited x kind) (sym view))) amounts

-- an amount is within what all have of its asset
within_all : (rows : Rows) (name : List ℕ) (kind : ℕ) → amount_in same_pair rows (name, kind) ≤ total (is_of kind) rows
within_all rows name kind = amount_within same_pair (is_of kind) (respects_asset kind) (name, kind) (itself kind) rows
  where
    itself : (n : ℕ) → (n == n) ≡ true
    itself n = grind arith

module _ (b : Balances) (balanced : AreBalanced b) where
  -- so nobody has more than fits
  pub held_fits : (channel : List ℕ) (kind : ℕ) → amount_held b channel kind ≤ amount_deposited b kind
  held_fits channel kind = omega (arith, balanced.sums kind, within_all b.held channel kind)

  pub paid_fits : (person : List ℕ) (kind : ℕ) → amount_paid b person kind ≤ amount_deposited b kind
  paid_fits person kind = omega (arith, balanced.sums kind, within_all b.paid person kind)

  -- nor once a channel paid
  pub held_on_fits : (lowered : Rows) (from to : List ℕ) (kind n : ℕ) → IsLowered b.held from kind n lowered → amount_in same_pair lowered (to, kind) + n < 2 ^ 64
  held_on_fits lowered from to kind n low = omega (arith, balanced.sums kind, balanced.fits kind, low.totals kind, ap (λ x. cond x n 0) (itself kind), within_all lowered to kind)
    where
      itself : (k : ℕ) → (k == k) ≡ true
      itself k = grind arith

  pub paid_out_fits : (lowered : Rows) (from to : List ℕ) (kind n : ℕ) → IsLowered b.held from kind n lowered → amount_paid b to kind + n < 2 ^ 64
  paid_out_fits lowered from to kind n low = omega (arith, balanced.sums kind, balanced.fits kind, low.within, within_all b.held from kind, within_all b.paid to kind)

-- funds from outside
module _ (b after : Balances) (channel : List ℕ) (kind more was : ℕ) (raised : IsRaised b.held channel kind more after.held) (others : after.paid ≡ b.paid)
    (entered : (asset : ℕ) → amount_deposited after asset ≡ amount_deposited b asset + cond (kind == asset) more 0) where
  pub brought_balanced : AreBalanced b → was ≡ amount_deposited b kind → was + more < 2 ^ 64 → AreBalanced after
  brought_balanced balanced is fits = record {
    sums = λ asset. omega (arith, balanced.sums asset, raised.totals asset, entered asset, ap (λ rows. total (is_of asset) rows) others);
    fits = λ asset. fit asset (kind == asset) refl;
  }
    where
      fit : (asset : ℕ) (x : Bool) → (kind == asset) ≡ x → amount_deposited after asset < 2 ^ 64
      fit asset true e = omega (arith, entered asset ∙ ap (λ x. amount_deposited b asset + cond x more 0) e, is ∙ ap (λ k. amount_deposited b k) (eqb-true kind asset e), fits)
      fit asset false e = omega (arith, entered asset ∙ ap (λ x. amount_deposited b asset + cond x more 0) e, balanced.fits asset)

  pub brought_moved : HasMoved b (record { from = None; to = Channel channel; asset = kind; amount = more }) after
  brought_moved = record {
    held = λ c a. omega (arith, raised.amounts (c, a), cond_and (bytes_eq channel c) (kind == a) more);
    paid = λ p a. omega (arith, ap (λ rows. amount_in same_pair rows (p, a)) others);
    deposited = entered;
  }

-- funds that their channel holds, to a channel
module _ (b after : Balances) (lowered : Rows) (from to : List ℕ) (kind n : ℕ) (low : IsLowered b.held from kind n lowered)
    (high : IsRaised lowered to kind n after.held) (others : after.paid ≡ b.paid) (entered : after.deposited ≡ b.deposited) where
  pub held_on_balanced : AreBalanced b → AreBalanced after
  held_on_balanced balanced = record {
    sums = λ asset. omega (arith, balanced.sums asset, low.totals asset, high.totals asset, ap (λ rows. total (is_of asset) rows) others, ap (λ rows. amount_in nat_eq rows asset) entered);
    fits = λ asset. omega (arith, balanced.fits asset, ap (λ rows. amount_in nat_eq rows asset) entered);
  }

  pub held_on_moved : HasMoved b (record { from = Some from; to = Channel to; asset = kind; amount = n }) after
  held_on_moved = record {
    held = λ c a.
        omega (
          arith,
          high.amounts (c, a),
          low.amounts (c, a),
          counts_within same_pair pair_is (amount_in same_pair b.held) (from, kind) n low.within (c, a),
          cond_and (bytes_eq to c) (kind == a) n,
          cond_and (bytes_eq from c) (kind == a) n,
        );
    paid = λ p a. omega (arith, ap (λ rows. amount_in same_pair rows (p, a)) others);
    deposited = λ a. omega (arith, ap (λ rows. amount_in nat_eq rows a) entered);
  }

-- and to a person
module _ (b after : Balances) (from to : List ℕ) (kind n : ℕ) (low : IsLowered b.held from kind n after.held) (high : IsRaised b.paid to kind n after.paid)
    (entered : after.deposited ≡ b.deposited) where
  pub paid_out_balanced : AreBalanced b → AreBalanced after
  paid_out_balanced balanced = record {
    sums = λ asset. omega (arith, balanced.sums asset, low.totals asset, high.totals asset, ap (λ rows. amount_in nat_eq rows asset) entered);
    fits = λ asset. omega (arith, balanced.fits asset, ap (λ rows. amount_in nat_eq rows asset) entered);
  }

  pub paid_out_moved : HasMoved b (record { from = Some from; to = Person to; asset = kind; amount = n }) after
  paid_out_moved = record {
    held = λ c a. omega (arith, low.amounts (c, a), cond_and (bytes_eq from c) (kind == a) n);
    paid = λ p a. omega (arith, high.amounts (p, a), cond_and (bytes_eq to p) (kind == a) n);
    deposited = λ a. omega (arith, ap (λ rows. amount_in nat_eq rows a) entered);
  }
