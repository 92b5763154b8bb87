-- What an accepted transfer or claim says: of which item it pays, how much is due, and that its outcomes are the
-- settled ones.
use Rattle.std.proofs.Common.{◌≡◌, ℕ, ◌≤◌, true, false, not, List, refl, ap, subst}
use Rattle.std.specs.Prelude.{◌==◌, nat_le, length, slice_get, slice_index_or, Option, Some, None, Ok}
use Rattle.std.specs.Str.{bytes_eq}
use Rattle.channel_values.specs.declared.value.AssetOutcome.{AssetOutcome}
use Rattle.channel_values.specs.declared.value.Dest.{Dest}
use Rattle.channel_values.specs.declared.value.Item.{Item}
use Rattle.channel_values.specs.declared.value.Shape.{Shape}
use Rattle.channel_values.specs.declared.value.Shape.TheVariants.{Allocation, Guarantee}
use Rattle.call_history.specs.Mode.{is_final, mode_at}
use Rattle.channel_values.specs.Rules.{Rules}
use Rattle.channel_values.specs.Amounts.{due}
use Rattle.call_history.specs.Dues.{no_item, dest_in, place_of, rest_at, rest_of, shape_in, pay, transfer_of, claim_of, claim_of_items}
use Rattle.call_history.specs.Refusing.{refuse_if}
use Rattle.call_history.specs.Replies as replies
use Rattle.call_history.specs.History.{item_dest, listed_dest, place_in}
use Rattle.call_history.specs.declared.funds.Due.{Due}
use Rattle.call_history.specs.declared.refusal.Refusal.TheVariants.{NotFinal, WrongOutcome, NoItem, NotListed, WrongTarget, NothingDue}
use Rattle.call_history.specs.declared.row.Row.{Row}
use Rattle.call_history.proofs.Names.{same_bytes}
use Rattle.call_history.proofs.Payouts.{IsDueOf, transfer_due_of, claim_due_of}
use Rattle.channel_safety.proofs.Tests.{not-false}
use Rattle.channel_safety.proofs.Rowing.{passes}

paid-amount : (to : Dest) (place held n : ℕ) (d : Due) → pay to place held n ≡ Ok d → d.amount ≡ n
paid-amount to place held n d e =
    let p = passes (n == 0) (NothingDue held) (Ok (record { to = to; place = place; amount = n })) d e in
    let same : d ≡ record { to = to; place = place; amount = n } = (let is = p.1 in cc) in
    ap (λ (x : Due). x.amount) same

-- so much is due of an item of a transfer
pub record TransferDue (paid : ℕ → ℕ) (held : ℕ) (shape : Option Shape) (index : ℕ) (d : Due) : Type 0 where
  pub items : List Item
  pub shape_is : shape ≡ Some (Allocation items)
  pub to_is : item_dest (Some (Allocation items)) index ≡ Some d.to
  pub amount : d.amount ≡ due (rest_at paid items) index held
  pub some : 1 ≤ d.amount
  pub left : d.amount ≤ rest_at paid items index
  pub within : d.amount ≤ held

pub transfer_due : (paid : ℕ → ℕ) (held : ℕ) (shape : Option Shape) (index : ℕ) (d : Due) → transfer_of paid held shape index ≡ Ok d → TransferDue paid held shape index d
transfer_due paid held None index d e = absurd cc
transfer_due paid held (Some (Guarantee target list)) index d e = absurd cc
transfer_due paid held (Some (Allocation items)) index d e =
    let to = (slice_index_or items index no_item).to in
    let n = due (rest_at paid items) index held in
    let a = passes (nat_le (length items) index) NoItem (pay to index held n) d e in
    let all : IsDueOf paid held (Some (Allocation items)) (item_dest (Some (Allocation items)) index) index d = transfer_due_of paid held (Some (Allocation items)) index d e in
    let same : all.items ≡ items = (let is = all.shape_is in cc) in
    record {
      items = items;
      shape_is = refl;
      to_is = all.to_is;
      amount = paid-amount to index held n d a.1;
      some = all.some;
      left = subst (λ (xs : List Item). d.amount ≤ rest_at paid xs index) same all.left;
      within = all.within;
    }

-- so much is due of a destination of a guarantee's list
pub record ClaimDue (paid : ℕ → ℕ) (held : ℕ) (promise : Option Shape) (target : List ℕ) (of : Option Shape) (position : ℕ) (d : Due) : Type 0 where
  pub list : List Dest
  pub items : List Item
  pub promise_is : promise ≡ Some (Guarantee target list)
  pub shape_is : of ≡ Some (Allocation items)
  pub listed : slice_get list position ≡ Some d.to
  pub item : item_dest (Some (Allocation items)) (place_of items d.to) ≡ Some d.to
  pub amount : d.amount ≡ due (rest_of paid items list) position held
  pub some : 1 ≤ d.amount
  pub left : d.amount ≤ rest_at paid items (place_of items d.to)
  pub within : d.amount ≤ held

pub claim_due : (paid : ℕ → ℕ) (held : ℕ) (promise : Option Shape) (target : List ℕ) (of : Option Shape) (position : ℕ) (d : Due) →
    claim_of paid held promise target of position ≡ Ok d → ClaimDue paid held promise target of position d
claim_due paid held None target of position d e = absurd cc
claim_due paid held (Some (Allocation items)) target None position d e = absurd cc
claim_due paid held (Some (Guarantee named list)) target None position d e = absurd cc
claim_due paid held (Some (Allocation items)) target (Some shape) position d e = absurd cc
claim_due paid held (Some (Guarantee named list)) target (Some (Guarantee other dests)) position d e = absurd cc
claim_due paid held (Some (Guarantee named list)) target (Some (Allocation items)) position d e =
    let to = dest_in list position in
    let place = place_of items to in
    let n = due (rest_of paid items list) position held in
    let a = passes (not (bytes_eq named target)) WrongTarget (claim_of_items paid held list items position) d e in
    let b = passes (nat_le (length list) position) NotListed (refuse_if (nat_le (length items) place) NoItem (pay to place held n)) d a.1 in
    let c = passes (nat_le (length items) place) NoItem (pay to place held n) d b.1 in
    let all : IsDueOf paid held (Some (Allocation items)) (listed_dest (Some (Guarantee named list)) position) _ d =
    claim_due_of paid held (Some (Guarantee named list)) target (Some (Allocation items)) position d e in
    let same : all.items ≡ items = (let is = all.shape_is in cc) in
    let listed : slice_get list position ≡ Some d.to = all.to_is in
    let there : item_dest (Some (Allocation items)) (place_in (Some (Allocation items)) (slice_get list position)) ≡ Some d.to =
    subst (λ (xs : List Item). item_dest (Some (Allocation xs)) (place_in (Some (Allocation items)) (slice_get list position)) ≡ Some d.to) same all.item_is in
    let left : d.amount ≤ rest_at paid items (place_in (Some (Allocation items)) (slice_get list position)) =
    subst (λ (xs : List Item). d.amount ≤ rest_at paid xs (place_in (Some (Allocation items)) (slice_get list position))) same all.left in
    record {
      list = list;
      items = items;
      promise_is = ap (λ (m : List ℕ). Some (Guarantee m list)) (same_bytes named target (not-false (bytes_eq named target) a.0));
      shape_is = refl;
      listed = listed;
      item = subst (λ (o : Option Dest). item_dest (Some (Allocation items)) (place_in (Some (Allocation items)) o) ≡ Some d.to) listed there;
      amount = paid-amount to place held n d c.1;
      some = all.some;
      left = subst (λ (o : Option Dest). d.amount ≤ rest_at paid items (place_in (Some (Allocation items)) o)) listed left;
      within = all.within;
    }

-- ---- what the adjudicator answers

-- the channel of this row is final, and its outcome is known by its digest
pub record Ends (r : Rules) (row : Row) (now : ℕ) (outcome : List AssetOutcome) : Type 0 where
  pub final : is_final (mode_at row.deadline now) ≡ true
  pub digest : r.outcome_digest outcome ≡ row.outcome_digest

ends : (r : Rules) (row : Row) (now : ℕ) (outcome : List AssetOutcome) → replies.is_unfinished row now ≡ false → replies.ends_otherwise r row outcome ≡ false →
    Ends r row now outcome
ends r row now outcome h k = record {
  final = not-false (is_final (mode_at row.deadline now)) h;
  digest = same_bytes (r.outcome_digest outcome) row.outcome_digest (not-false (bytes_eq (r.outcome_digest outcome) row.outcome_digest) k);
}

pub transfer_ok : (r : Rules) (row : Row) (now : ℕ) (paid : ℕ → ℕ) (held : ℕ) (channel : List ℕ) (outcome : List AssetOutcome) (asset index : ℕ) (d : Due)
    → replies.transfer r row now paid held channel outcome asset index ≡ Ok d → Ends r row now outcome × TransferDue paid held (shape_in outcome asset) index d
transfer_ok r row now paid held channel outcome asset index d e =
    let a = passes (replies.is_unfinished row now) (NotFinal channel) _ d e in
    let b = passes (replies.ends_otherwise r row outcome) (WrongOutcome channel) _ d a.1 in
    (ends r row now outcome a.0 b.0, transfer_due paid held (shape_in outcome asset) index d b.1)

pub record ClaimOk (r : Rules) (row of : Row) (now : ℕ) (paid : ℕ → ℕ) (held : ℕ) (promise : List AssetOutcome) (target : List ℕ) (outcome : List AssetOutcome) (asset position : ℕ) (d : Due) : Type 0 where
  pub guarantor : Ends r row now promise
  pub owner : Ends r of now outcome
  pub due : ClaimDue paid held (shape_in promise asset) target (shape_in outcome asset) position d

pub claim_ok : (r : Rules) (row of : Row) (now : ℕ) (paid : ℕ → ℕ) (held : ℕ) (guarantor : List ℕ) (promise : List AssetOutcome) (target : List ℕ) (outcome : List AssetOutcome) (asset position : ℕ) (d : Due)
    → replies.claim r row of now paid held guarantor promise target outcome asset position ≡ Ok d
    → ClaimOk r row of now paid held promise target outcome asset position d
claim_ok r row of now paid held guarantor promise target outcome asset position d e =
    let a = passes (replies.is_unfinished row now) (NotFinal guarantor) _ d e in
    let b = passes (replies.is_unfinished of now) (NotFinal target) _ d a.1 in
    let c = passes (replies.ends_otherwise r row promise) (WrongOutcome guarantor) _ d b.1 in
    let f = passes (replies.ends_otherwise r of outcome) (WrongOutcome target) _ d c.1 in
    record {
      guarantor = ends r row now promise a.0 c.0;
      owner = ends r of now outcome b.0 f.0;
      due = claim_due paid held (shape_in promise asset) target (shape_in outcome asset) position d f.1;
    }
