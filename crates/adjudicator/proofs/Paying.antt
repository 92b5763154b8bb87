-- What a deposit, a transfer and a claim do to what an adjudicator stands for.
use Rattle.std.proofs.Common.{◌≡◌, ℕ, ◌≤◌, List, [], ◌∷◌, Some, None, refl, sym, ◌∙◌, ap, subst, arith, Bool, true, false}
use mathlib.Core.Path.{fun_ext}
use Rattle.std.proofs.lemmas.List.Sums.{sum_by-cons}
use Rattle.std.specs.Prelude.{Option, Result, Ok, Err, OnOk, OnErr, IfOk}
use Rattle.channel_values.specs.declared.value.Dest.{Dest}
use Rattle.channel_values.specs.declared.value.Dest.TheVariants.{Channel}
use Rattle.channel_values.specs.declared.value.Shape.{Shape}
use Rattle.channel_values.specs.Rules.{Rules}
use Rattle.call_history.specs.Refusing.{refuse_if, told}
use Rattle.call_history.specs.Rows.{row_or_blank, fixed_of}
use Rattle.call_history.specs.Flows.{pays}
use Rattle.asset_holder.specs.Balances.{amount_held, amount_deposited, HasMoved}
use Rattle.asset_holder.specs.Payments.{amount_of_item}
use Rattle.call_history.specs.Dues.{shape_in, transfer_due, claim_due}
use Rattle.call_history.specs.Replies as replies
use Rattle.call_history.specs.History.{item_dest, listed_dest, place_in, flow_to, flow_of, payment_of, held_of, paid_of, row, now_of, reply_to}
use Rattle.call_history.specs.declared.call.Call.TheVariants.{Deposit, Transfer, Claim}
use Rattle.call_history.specs.declared.call.ClaimCall.{ClaimCall}
use Rattle.call_history.specs.declared.call.DepositCall.{DepositCall}
use Rattle.call_history.specs.declared.call.TransferCall.{TransferCall}
use Rattle.call_history.specs.declared.call.Op.{Op}
use Rattle.call_history.specs.declared.call.Op.TheVariants as ops
use Rattle.call_history.specs.declared.entry.Entry.{Entry}
use Rattle.call_history.specs.declared.funds.Due.{Due}
use Rattle.call_history.specs.declared.funds.Payment.{Payment}
use Rattle.call_history.specs.declared.refusal.Refusal.{Refusal}
use Rattle.call_history.specs.declared.refusal.Refusal.TheVariants.{NotFinal, WrongOutcome}
use Rattle.call_history.specs.declared.refusal.Reply.{Reply}
use Rattle.call_history.specs.declared.refusal.Reply.TheVariants.{Held, Paid}
use Rattle.call_history.specs.declared.row.Row.{Row}
use Rattle.call_history.proofs.Payouts.{IsDueOf, transfer_ok, claim_ok}
use Rattle.adjudicator.specs.Standing.{Standing, row_in, StandsFor, transfer_answer, claim_answer, HasPaid, Serves}
use Rattle.adjudicator.proofs.Stands.{row_found, stands_refused, stands_unchanged, stands_moved, on_refused}

-- ---- deposits

deposit_replied : (r : Rules) (h : List Entry) (s : Standing) (d : DepositCall) (answer : Result ℕ Refusal) (reply : Reply) → StandsFor r h s
    → answer ≡ replies.deposit (amount_held s.funds d.channel d.asset) (amount_deposited s.funds d.asset) d.expected d.amount
    → reply ≡ told Held answer → reply ≡ reply_to r h (ops.Call (Deposit d))
unfolding reply_to
deposit_replied r h s d answer reply st e is =
    is ∙ ap (λ (a : Result ℕ Refusal). told Held a) (e
    ∙ ap (λ (n : ℕ). replies.deposit n (amount_deposited s.funds d.asset) d.expected d.amount) (st.funds.held d.channel d.asset)
    ∙ ap (λ (n : ℕ). replies.deposit (held_of h d.channel d.asset) n d.expected d.amount) (st.funds.deposited d.asset))

deposit_stands : (r : Rules) (h : List Entry) (s t : Standing) (number by : ℕ) (d : DepositCall) (answer : Result ℕ Refusal) (reply : Reply) → StandsFor r h s
    → reply ≡ told Held answer
    → OnOk answer (HasMoved s.funds (record { from = None; to = Channel d.channel; asset = d.asset; amount = d.amount }) t.funds) → OnErr answer (t.funds ≡ s.funds)
    → t.now ≡ s.now → t.rows ≡ s.rows → t.items ≡ s.items
    → StandsFor r (record { number = number; by = by; op = ops.Call (Deposit d); reply = reply } ∷ h) t
deposit_stands r h s t number by d (Ok n) reply st is moved same now rows items =
    rw is (stands_moved r h s t (record { number = number; by = by; op = ops.Call (Deposit d); reply = Held n })
    (record { from = None; to = Channel d.channel; asset = d.asset; amount = d.amount }) [] st refl refl refl refl tt moved
    (λ c a i. let kept = ap (λ q. amount_of_item q c a i) items in omega (arith, kept)) now rows)
deposit_stands r h s t number by d (Err refusal) reply st is moved same now rows items =
    rw is (stands_refused r h s t number by (ops.Call (Deposit d)) refusal st (record { funds = same; items = items }) now
    (λ c. ap (λ xs. row_in xs c) rows))

pub deposit_serves : (r : Rules) (s t : Standing) (d : DepositCall) (answer : Result ℕ Refusal) (reply : Reply)
    → answer ≡ replies.deposit (amount_held s.funds d.channel d.asset) (amount_deposited s.funds d.asset) d.expected d.amount → reply ≡ told Held answer
    → OnOk answer (HasMoved s.funds (record { from = None; to = Channel d.channel; asset = d.asset; amount = d.amount }) t.funds) → OnErr answer (t.funds ≡ s.funds)
    → t.now ≡ s.now → t.rows ≡ s.rows → t.room ≡ s.room → t.items ≡ s.items
    → Serves r s (ops.Call (Deposit d)) reply t
deposit_serves r s t d answer reply e is moved same now rows room items = record {
  reply = λ h st. deposit_replied r h s d answer reply st e is;
  stands = λ h number by st. deposit_stands r h s t number by d answer reply st is moved same now rows items;
  refused = λ refusal said.
      let funds = on_refused Held (λ n. refl) answer reply refusal is said same in
      λ i. record { now = now i; rows = rows i; room = room i; funds = funds i; items = items i };
}

-- ---- transfers and claims

-- The op pays of an item of the owner's outcome, to a destination.
pub record IsPaying (op : Op) (payer owner : List ℕ) (asset : ℕ) (to : Option Dest) (place : ℕ) : Type 0 where
  pub flow : (n : ℕ) → flow_of op (Paid n) ≡ flow_to (Some payer) to asset n
  pub payment : (n : ℕ) → payment_of op (Paid n) ≡ record { channel = owner; asset = asset; place = place; amount = n } ∷ []
  pub none : fixed_of op ≡ None
  pub time : (h : List Entry) (number by n : ℕ) → now_of (record { number = number; by = by; op = op; reply = Paid n } ∷ h) ≡ now_of h

-- what they answer for the rows, the time, what was paid and what is held
abbrev transfer_of : Rules → TransferCall → Row → ℕ → (ℕ → ℕ) → ℕ → Result Due Refusal
transfer_of r k row now paid held = replies.transfer r row now paid held k.channel k.outcome k.asset k.index

abbrev claim_of : Rules → ClaimCall → Row → Row → ℕ → (ℕ → ℕ) → ℕ → Result Due Refusal
claim_of r k row of now paid held =
    replies.claim r row of now paid held k.guarantor k.guarantor_outcome k.target k.target_outcome k.asset k.position

pub transfer_pays : (k : TransferCall)
    → IsPaying (ops.Call (Transfer k)) k.channel k.channel k.asset (item_dest (shape_in k.outcome k.asset) k.index) k.index
transfer_pays k = record {
  flow = λ n. refl;
  payment = λ n. refl;
  none = refl;
  time = λ h number by n. refl;
}

pub claim_pays : (k : ClaimCall)
    → IsPaying (ops.Call (Claim k)) k.guarantor k.target k.asset (listed_dest (shape_in k.guarantor_outcome k.asset) k.position)
    (place_in (shape_in k.target_outcome k.asset) (listed_dest (shape_in k.guarantor_outcome k.asset) k.position))
claim_pays k = record {
  flow = λ n. refl;
  payment = λ n. refl;
  none = refl;
  time = λ h number by n. refl;
}

-- what is due is paid
due_stands : (r : Rules) (h : List Entry) (s t : Standing) (number by : ℕ) (op : Op) (payer owner : List ℕ) (asset : ℕ) (shape : Option Shape) (to : Option Dest) (place : ℕ) (answer : Result Due Refusal) (reply : Reply)
    → IsPaying op payer owner asset to place → StandsFor r h s
    → ((d : Due) → answer ≡ Ok d → IsDueOf (amount_of_item s.items owner asset) (amount_held s.funds payer asset) shape to place d)
    → reply ≡ told (λ due. Paid due.amount) answer
    → IfOk answer (λ due. HasPaid s payer owner asset due t) → OnErr answer (t ≡ s)
    → StandsFor r (record { number = number; by = by; op = op; reply = reply } ∷ h) t
due_stands r h s t number by op payer owner asset shape to place (Ok d) reply paying st known is paid same =
    let due = known d refl in
    let p : Payment = record { channel = owner; asset = asset; place = place; amount = d.amount } in
    rw is (stands_moved r h s t (record { number = number; by = by; op = op; reply = Paid d.amount })
    (record { from = Some payer; to = d.to; asset = asset; amount = d.amount }) (p ∷ []) st
    (paying.flow d.amount ∙ ap (λ (o : Option Dest). flow_to (Some payer) o asset d.amount) due.to_is)
    (paying.payment d.amount) (paying.time h number by d.amount) paying.none
    (subst (λ (n : ℕ). d.amount ≤ n) (st.funds.held payer asset) due.within) paid.moved
    (λ c a i. omega (
      arith,
      paid.noted c a i,
      sum_by-cons (pays c a i) p [],
      ap (λ (k : ℕ). pays c a i (record { channel = owner; asset = asset; place = k; amount = d.amount })) due.place_is,
    ))
    paid.now paid.rows)
due_stands r h s t number by op payer owner asset shape to place (Err refusal) reply paying st known is paid same =
    rw (is, same) (stands_unchanged r h s number by op refusal st)

-- what was paid of a channel's items, as a function of the place
same_paid : (r : Rules) (h : List Entry) (s : Standing) → StandsFor r h s → (channel : List ℕ) (asset : ℕ) → amount_of_item s.items channel asset ≡ paid_of h channel asset
same_paid r h s st channel asset = fun_ext (λ i. st.items channel asset i)

transfer_replied : (r : Rules) (h : List Entry) (s : Standing) (k : TransferCall) (answer : Result Due Refusal) (reply : Reply) → StandsFor r h s
    → answer ≡ transfer_answer r s k
    → reply ≡ told (λ due. Paid due.amount) answer → reply ≡ reply_to r h (ops.Call (Transfer k))
unfolding reply_to
transfer_replied r h s k answer reply st e is =
    let paid = amount_of_item s.items k.channel k.asset in
    let held = amount_held s.funds k.channel k.asset in
    is ∙ ap (λ (a : Result Due Refusal). told (λ due. Paid due.amount) a) (e
    ∙ ap (λ (old : Row). transfer_of r k old s.now paid held) (row_found r h s st k.channel)
    ∙ ap (λ (now : ℕ). transfer_of r k (row r k.channel h) now paid held) st.now
    ∙ ap (λ (q : ℕ → ℕ). transfer_of r k (row r k.channel h) (now_of h) q held) (same_paid r h s st k.channel k.asset)
    ∙ ap (λ (n : ℕ). transfer_of r k (row r k.channel h) (now_of h) (paid_of h k.channel k.asset) n) (st.funds.held k.channel k.asset))

transfer_stands : (r : Rules) (h : List Entry) (s t : Standing) (number by : ℕ) (k : TransferCall) (answer : Result Due Refusal) (reply : Reply) → StandsFor r h s
    → answer ≡ transfer_answer r s k
    → reply ≡ told (λ due. Paid due.amount) answer
    → IfOk answer (λ due. HasPaid s k.channel k.channel k.asset due t) → OnErr answer (t ≡ s)
    → StandsFor r (record { number = number; by = by; op = ops.Call (Transfer k); reply = reply } ∷ h) t
transfer_stands r h s t number by k answer reply st e is paid same =
    due_stands r h s t number by (ops.Call (Transfer k)) k.channel k.channel k.asset (shape_in k.outcome k.asset) (item_dest (shape_in k.outcome k.asset) k.index) k.index answer reply
    (transfer_pays k) st
    (λ d ok. transfer_ok r (row_or_blank (row_in s.rows k.channel)) s.now (amount_of_item s.items k.channel k.asset) (amount_held s.funds k.channel k.asset) k.channel k.outcome k.asset k.index d (sym e ∙ ok))
    is paid same

pub transfer_serves : (r : Rules) (s t : Standing) (k : TransferCall) (answer : Result Due Refusal) (reply : Reply)
    → answer ≡ transfer_answer r s k
    → reply ≡ told (λ due. Paid due.amount) answer
    → IfOk answer (λ due. HasPaid s k.channel k.channel k.asset due t) → OnErr answer (t ≡ s)
    → Serves r s (ops.Call (Transfer k)) reply t
transfer_serves r s t k answer reply e is paid same = record {
  reply = λ h st. transfer_replied r h s k answer reply st e is;
  stands = λ h number by st. transfer_stands r h s t number by k answer reply st e is paid same;
  refused = λ refusal said. on_refused (λ (due : Due). Paid due.amount) (λ due. refl) answer reply refusal is said same;
}

claim_replied : (r : Rules) (h : List Entry) (s : Standing) (k : ClaimCall) (answer : Result Due Refusal) (reply : Reply) → StandsFor r h s
    → answer ≡ claim_answer r s k
    → reply ≡ told (λ due. Paid due.amount) answer → reply ≡ reply_to r h (ops.Call (Claim k))
unfolding reply_to
claim_replied r h s k answer reply st e is =
    let of = row_or_blank (row_in s.rows k.target) in
    let paid = amount_of_item s.items k.target k.asset in
    let held = amount_held s.funds k.guarantor k.asset in
    is ∙ ap (λ (a : Result Due Refusal). told (λ due. Paid due.amount) a) (e
    ∙ ap (λ (old : Row). claim_of r k old of s.now paid held) (row_found r h s st k.guarantor)
    ∙ ap (λ (old : Row). claim_of r k (row r k.guarantor h) old s.now paid held) (row_found r h s st k.target)
    ∙ ap (λ (now : ℕ). claim_of r k (row r k.guarantor h) (row r k.target h) now paid held) st.now
    ∙ ap (λ (q : ℕ → ℕ). claim_of r k (row r k.guarantor h) (row r k.target h) (now_of h) q held) (same_paid r h s st k.target k.asset)
    ∙ ap (λ (n : ℕ). claim_of r k (row r k.guarantor h) (row r k.target h) (now_of h) (paid_of h k.target k.asset) n) (st.funds.held k.guarantor k.asset))

claim_stands : (r : Rules) (h : List Entry) (s t : Standing) (number by : ℕ) (k : ClaimCall) (answer : Result Due Refusal) (reply : Reply) → StandsFor r h s
    → answer ≡ claim_answer r s k
    → reply ≡ told (λ due. Paid due.amount) answer
    → IfOk answer (λ due. HasPaid s k.guarantor k.target k.asset due t) → OnErr answer (t ≡ s)
    → StandsFor r (record { number = number; by = by; op = ops.Call (Claim k); reply = reply } ∷ h) t
claim_stands r h s t number by k answer reply st e is paid same =
    due_stands r h s t number by (ops.Call (Claim k)) k.guarantor k.target k.asset (shape_in k.target_outcome k.asset) (listed_dest (shape_in k.guarantor_outcome k.asset) k.position)
    (place_in (shape_in k.target_outcome k.asset) (listed_dest (shape_in k.guarantor_outcome k.asset) k.position)) answer reply
    (claim_pays k) st
    (λ d ok. claim_ok r (row_or_blank (row_in s.rows k.guarantor)) (row_or_blank (row_in s.rows k.target)) s.now (amount_of_item s.items k.target k.asset) (amount_held s.funds k.guarantor k.asset) k.guarantor k.guarantor_outcome k.target k.target_outcome k.asset k.position d (sym e ∙ ok))
    is paid same

pub claim_serves : (r : Rules) (s t : Standing) (k : ClaimCall) (answer : Result Due Refusal) (reply : Reply)
    → answer ≡ claim_answer r s k
    → reply ≡ told (λ due. Paid due.amount) answer
    → IfOk answer (λ due. HasPaid s k.guarantor k.target k.asset due t) → OnErr answer (t ≡ s)
    → Serves r s (ops.Call (Claim k)) reply t
claim_serves r s t k answer reply e is paid same = record {
  reply = λ h st. claim_replied r h s k answer reply st e is;
  stands = λ h number by st. claim_stands r h s t number by k answer reply st e is paid same;
  refused = λ refusal said. on_refused (λ (due : Due). Paid due.amount) (λ due. refl) answer reply refusal is said same;
}

-- ---- what is due of channels that ended so

-- a test that fails refuses nothing
skipped : {A : Type 0} (test : Bool) (refusal : Refusal) (rest : Result A Refusal) → test ≡ false → refuse_if test refusal rest ≡ rest
skipped false refusal rest e = refl
skipped true refusal rest e = absurd (cc)

pub transfer_answered : (r : Rules) (s v : Standing) (found : Option Row) (k : TransferCall) (held : ℕ) (unfinished other : Bool) (answer : Result Due Refusal)
    → v ≡ s → found ≡ row_in v.rows k.channel
    → unfinished ≡ replies.is_unfinished (row_or_blank found) v.now → unfinished ≡ false
    → other ≡ replies.ends_otherwise r (row_or_blank found) k.outcome → other ≡ false
    → held ≡ amount_held v.funds k.channel k.asset
    → answer ≡ transfer_due (amount_of_item v.items k.channel k.asset) held k.outcome k.asset k.index
    → answer ≡ transfer_answer r s k
transfer_answered r s v found k held unfinished other answer view there u ended o same h e =
    let due = transfer_due (amount_of_item v.items k.channel k.asset) (amount_held v.funds k.channel k.asset) k.outcome k.asset k.index in
    e ∙ ap (λ (n : ℕ). transfer_due (amount_of_item v.items k.channel k.asset) n k.outcome k.asset k.index) h
    ∙ sym (skipped (replies.ends_otherwise r (row_or_blank found) k.outcome) (WrongOutcome k.channel) due (sym o ∙ same))
    ∙ sym (skipped (replies.is_unfinished (row_or_blank found) v.now) (NotFinal k.channel) (refuse_if (replies.ends_otherwise r (row_or_blank found) k.outcome) (WrongOutcome k.channel) due) (sym u ∙ ended))
    ∙ ap (λ (q : Option Row). transfer_of r k (row_or_blank q) v.now (amount_of_item v.items k.channel k.asset) (amount_held v.funds k.channel k.asset)) there
    ∙ ap (λ (t : Standing). transfer_answer r t k) view

pub claim_answered : (r : Rules) (s v : Standing) (found of : Option Row) (k : ClaimCall) (held : ℕ) (a b c d : Bool) (answer : Result Due Refusal)
    → v ≡ s → found ≡ row_in v.rows k.guarantor → of ≡ row_in v.rows k.target
    → a ≡ replies.is_unfinished (row_or_blank found) v.now → a ≡ false
    → b ≡ replies.is_unfinished (row_or_blank of) v.now → b ≡ false
    → c ≡ replies.ends_otherwise r (row_or_blank found) k.guarantor_outcome → c ≡ false
    → d ≡ replies.ends_otherwise r (row_or_blank of) k.target_outcome → d ≡ false
    → held ≡ amount_held v.funds k.guarantor k.asset
    → answer ≡ claim_due (amount_of_item v.items k.target k.asset) held k.guarantor_outcome k.target k.target_outcome k.asset k.position
    → answer ≡ claim_answer r s k
claim_answered r s v found of k held a b c d answer view there there_of ia fa ib fb ic fc id fd h e =
    let paid = amount_of_item v.items k.target k.asset in
    let funds = amount_held v.funds k.guarantor k.asset in
    let due = claim_due paid funds k.guarantor_outcome k.target k.target_outcome k.asset k.position in
    let last = refuse_if (replies.ends_otherwise r (row_or_blank of) k.target_outcome) (WrongOutcome k.target) due in
    let third = refuse_if (replies.ends_otherwise r (row_or_blank found) k.guarantor_outcome) (WrongOutcome k.guarantor) last in
    let second = refuse_if (replies.is_unfinished (row_or_blank of) v.now) (NotFinal k.target) third in
    e ∙ ap (λ (n : ℕ). claim_due paid n k.guarantor_outcome k.target k.target_outcome k.asset k.position) h
    ∙ sym (skipped (replies.ends_otherwise r (row_or_blank of) k.target_outcome) (WrongOutcome k.target) due (sym id ∙ fd))
    ∙ sym (skipped (replies.ends_otherwise r (row_or_blank found) k.guarantor_outcome) (WrongOutcome k.guarantor) last (sym ic ∙ fc))
    ∙ sym (skipped (replies.is_unfinished (row_or_blank of) v.now) (NotFinal k.target) third (sym ib ∙ fb))
    ∙ sym (skipped (replies.is_unfinished (row_or_blank found) v.now) (NotFinal k.guarantor) second (sym ia ∙ fa))
    ∙ ap (λ (q : Option Row). claim_of r k (row_or_blank q) (row_or_blank of) v.now paid funds) there
    ∙ ap (λ (q : Option Row). claim_of r k (row_or_blank (row_in v.rows k.guarantor)) (row_or_blank q) v.now paid funds) there_of
    ∙ ap (λ (t : Standing). claim_answer r t k) view
