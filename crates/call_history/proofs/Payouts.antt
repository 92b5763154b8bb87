-- What an accepted transfer and an accepted claim pay, and what that lowers.
use Rattle.std.proofs.Common.{◌≡◌, ℕ, zero, suc, ◌+◌, ◌≤◌, ◌<◌, List, [], ◌∷◌, ◌++◌, length, Bool, true, false, cond, Option, Some, None, Result, Ok, Err, refl, sym, subst, ap, ◌∙◌, arith}
use Rattle.std.proofs.lemmas.Bool.{eqb-true, eq-eqb}
use Rattle.std.proofs.lemmas.Bool.Decides.{nat_tests}
use Rattle.std.proofs.lemmas.List.Sums.{sum_by-cons, passes_at_first}
use Rattle.std.specs.Option.{option_map}
use Rattle.std.specs.Prelude.{◌==◌, ◌&&◌, not, nat_le, slice_index_or, slice_get}
use Rattle.std.specs.Str.{bytes_eq}
use Rattle.channel_values.specs.Outcomes.{is_same}
use Rattle.channel_values.specs.declared.value.AssetOutcome.{AssetOutcome}
use Rattle.channel_values.specs.declared.value.Dest.{Dest}
use Rattle.channel_values.specs.declared.value.Dest.TheVariants.{Person, Channel}
use Rattle.channel_values.specs.declared.value.Item.{Item}
use Rattle.channel_values.specs.declared.value.Shape.{Shape}
use Rattle.channel_values.specs.declared.value.Shape.TheVariants.{Allocation, Guarantee}
use Rattle.channel_values.specs.Amounts.{due}
use Rattle.channel_values.specs.Rules.{Rules}
use Rattle.call_history.specs.Refusing.{refuse_if, told}
use Rattle.call_history.specs.Flows.{brings, takes, held_in, pays, paid_of_item}
use Rattle.call_history.specs.Dues.{no_dest, no_item, dest_in, place_of, rest_at, rest_of, shape_in, pay, transfer_of, claim_of_items, claim_of}
use Rattle.call_history.specs.Rest.{rest_shape, rest_outcome, lower_shape, lower_outcome, amount_in, left_of}
use Rattle.call_history.specs.Replies as replies
use Rattle.call_history.specs.History.{item_dest, listed_dest, place_in, flow_to, flow_of, flows_of, payment_of, payments_of, held_of, paid_of, row, now_of, reply_to}
use Rattle.call_history.specs.Payouts.{is_to, LowersBoth, TransferLowersBoth, ClaimLowersBoth}
use Rattle.call_history.specs.declared.call.Call.TheVariants.{Transfer, Claim}
use Rattle.call_history.specs.declared.call.Op.TheVariants as ops
use Rattle.call_history.specs.declared.entry.Entry.{Entry}
use Rattle.call_history.specs.declared.funds.Due.{Due}
use Rattle.call_history.specs.declared.funds.Flow.{Flow}
use Rattle.call_history.specs.declared.funds.Payment.{Payment}
use Rattle.call_history.specs.declared.refusal.Refusal.{Refusal}
use Rattle.call_history.specs.declared.refusal.Refusal.TheVariants.{NotFinal, WrongOutcome, NoItem, WrongTarget, NotListed, NothingDue}
use Rattle.call_history.specs.declared.refusal.Reply.TheVariants.{Paid}
use Rattle.call_history.specs.declared.row.Row.{Row}
use Rattle.call_history.proofs.Names.{same_bytes, bytes_eq_self}
use Rattle.call_history.proofs.Rests.{rest_at_less_paid, less_paid_same, less_paid_more}

-- ---- what is due

pub same_dest : (a b : Dest) → is_same a b ≡ true → a ≡ b
same_dest (Person a) (Person b) e = ap (λ (name : List ℕ). Person name) (same_bytes a b e)
same_dest (Person a) (Channel b) e = absurd cc
same_dest (Channel a) (Person b) e = absurd cc
same_dest (Channel a) (Channel b) e = ap (λ (name : List ℕ). Channel name) (same_bytes a b e)

past_ok : {A : Type 0} (b : Bool) (refusal : Refusal) (x : Result A Refusal) (y : A) → refuse_if b refusal x ≡ Ok y → (b ≡ false) × (x ≡ Ok y)
past_ok true refusal x y e = absurd cc
past_ok false refusal x y e = (refl, e)

record IsPay (to : Dest) (place amount : ℕ) (d : Due) : Type 0 where
  pub to_is : d.to ≡ to
  pub place_is : d.place ≡ place
  pub amount_is : d.amount ≡ amount
  pub some : 1 ≤ amount

above_zero : (n : ℕ) → (n == 0) ≡ false → 1 ≤ n
above_zero zero e = absurd cc
above_zero (suc n) e = omega arith

pay_ok : (to : Dest) (place held n : ℕ) (d : Due) → pay to place held n ≡ Ok d → IsPay to place n d
pay_ok to place held n d e =
    let p = past_ok (n == 0) (NothingDue held) (Ok (record { to = to; place = place; amount = n })) d e in
    let same : d ≡ record { to = to; place = place; amount = n } = (let is = p.1 in cc) in
    record {
      to_is = ap (λ (x : Due). x.to) same;
      place_is = ap (λ (x : Due). x.place) same;
      amount_is = ap (λ (x : Due). x.amount) same;
      some = above_zero n p.0;
    }

-- What is due of the item at a place: it is paid to its destination, and is no more than its rest and than what is
-- held.
pub record IsDueOf (paid : ℕ → ℕ) (held : ℕ) (shape : Option Shape) (to : Option Dest) (place : ℕ) (d : Due) : Type 0 where
  pub items : List Item
  pub shape_is : shape ≡ Some (Allocation items)
  pub to_is : to ≡ Some d.to
  pub place_is : d.place ≡ place
  pub item_is : item_dest (Some (Allocation items)) place ≡ Some d.to
  pub some : 1 ≤ d.amount
  pub left : d.amount ≤ rest_at paid items place
  pub within : d.amount ≤ held

due_left : (rest : ℕ → ℕ) (i held : ℕ) → due rest i held ≤ rest i
due_left rest i held = omega arith

due_within : (rest : ℕ → ℕ) (i held : ℕ) → due rest i held ≤ held
due_within rest i held = omega arith

-- within a list there is an item
got : {A : Type 0} (xs : List A) (i : ℕ) (d : A) → i < length xs → slice_get xs i ≡ Some (slice_index_or xs i d)
got [] i d lt = absurd (omega (arith, lt))
got (x ∷ xs) zero d lt = refl
got (x ∷ xs) (suc i) d lt = got xs i d (omega (arith, lt))

item_there : (items : List Item) (i : ℕ) → i < length items → item_dest (Some (Allocation items)) i ≡ Some (slice_index_or items i no_item).to
item_there items i lt = ap (λ (o : Option Item). option_map (λ (x : Item). x.to) o) (got items i no_item lt)

below : (a b : ℕ) → nat_le b a ≡ false → a < b
below a b h = grind (arith, nat_tests)

pub transfer_due_of : (paid : ℕ → ℕ) (held : ℕ) (shape : Option Shape) (index : ℕ) (d : Due) → transfer_of paid held shape index ≡ Ok d → IsDueOf paid held shape (item_dest shape index) index d
transfer_due_of paid held None index d e = absurd cc
transfer_due_of paid held (Some (Guarantee target list)) index d e = absurd cc
transfer_due_of paid held (Some (Allocation items)) index d e =
    let to = (slice_index_or items index no_item).to in
    let n = due (rest_at paid items) index held in
    let a = past_ok (nat_le (length items) index) NoItem (pay to index held n) d e in
    let p = pay_ok to index held n d a.1 in
    let there : item_dest (Some (Allocation items)) index ≡ Some d.to = item_there items index (below index (length items) a.0) ∙ ap (λ (x : Dest). Some x) (sym p.to_is) in
    record {
      items = items;
      shape_is = refl;
      to_is = there;
      place_is = p.place_is;
      item_is = there;
      some = omega (arith, p.some, p.amount_is);
      left = omega (arith, p.amount_is, due_left (rest_at paid items) index held);
      within = omega (arith, p.amount_is, due_within (rest_at paid items) index held);
    }

pub claim_due_of : (paid : ℕ → ℕ) (held : ℕ) (promise : Option Shape) (target : List ℕ) (of : Option Shape) (position : ℕ) (d : Due) → claim_of paid held promise target of position ≡ Ok d
    → IsDueOf paid held of (listed_dest promise position) (place_in of (listed_dest promise position)) d
claim_due_of paid held None target of position d e = absurd cc
claim_due_of paid held (Some (Allocation items)) target None position d e = absurd cc
claim_due_of paid held (Some (Guarantee named list)) target None position d e = absurd cc
claim_due_of paid held (Some (Allocation items)) target (Some shape) position d e = absurd cc
claim_due_of paid held (Some (Guarantee named list)) target (Some (Guarantee other dests)) position d e = absurd cc
claim_due_of paid held (Some (Guarantee named list)) target (Some (Allocation items)) position d e =
    let to = dest_in list position in
    let place = place_of items to in
    let n = due (rest_of paid items list) position held in
    let a = past_ok (not (bytes_eq named target)) WrongTarget (claim_of_items paid held list items position) d e in
    let b = past_ok (nat_le (length list) position) NotListed (refuse_if (nat_le (length items) place) NoItem (pay to place held n)) d a.1 in
    let c = past_ok (nat_le (length items) place) NoItem (pay to place held n) d b.1 in
    let p = pay_ok to place held n d c.1 in
    let listed : slice_get list position ≡ Some to = got list position no_dest (below position (length list) b.0) in
    let within : place < length items = below place (length items) c.0 in
    let same : (slice_index_or items place no_item).to ≡ to = same_dest (slice_index_or items place no_item).to to (passes_at_first (λ (item : Item). is_same item.to to) items no_item within) in
    record {
      items = items;
      shape_is = refl;
      to_is = listed ∙ ap (λ (x : Dest). Some x) (sym p.to_is);
      place_is = p.place_is ∙ ap (λ (t : Option Dest). place_in (Some (Allocation items)) t) (sym listed);
      item_is = ap (λ (t : Option Dest). item_dest (Some (Allocation items)) (place_in (Some (Allocation items)) t)) listed ∙ item_there items place within ∙ ap (λ (x : Dest). Some x) (same ∙ sym p.to_is);
      some = omega (arith, p.some, p.amount_is);
      left = omega (arith, p.amount_is, due_left (rest_of paid items list) position held, ap (λ (t : Option Dest). rest_at paid items (place_in (Some (Allocation items)) t)) listed);
      within = omega (arith, p.amount_is, due_within (rest_of paid items list) position held);
    }

-- ---- what it lowers

pub turned_eq : (a b : ℕ) → (a == b) ≡ (b == a)
turned_eq a b = go (a == b) refl
  where
    other : (a == b) ≡ false → (y : Bool) → (b == a) ≡ y → false ≡ y
    other e false f = refl
    other e true f = let t : true ≡ false = sym (eq-eqb a b (sym (eqb-true b a f))) ∙ e in absurd cc

    go : (x : Bool) → (a == b) ≡ x → x ≡ (b == a)
    go true e = sym (eq-eqb b a (sym (eqb-true a b e)))
    go false e = other e (b == a) refl

shape_more : (p q : ℕ → ℕ) (b : Bool) (place n : ℕ) (s : Shape) → ((i : ℕ) → q i ≡ p i + cond (b && (place == i)) n 0)
    → rest_shape q s ≡ cond b (lower_shape (rest_shape p s) place n) (rest_shape p s)
shape_more p q true place n (Allocation items) h =
    ap (λ (xs : List Item). Allocation xs) (less_paid_more p q 0 place place n items (zero_plus place) (λ i. h i ∙ ap (λ (b : Bool). p i + cond b n 0) (turned_eq place i)))
  where
    zero_plus : (k : ℕ) → k ≡ 0 + k
    zero_plus k = omega arith
shape_more p q false place n (Allocation items) h =
    ap (λ (xs : List Item). Allocation xs) (less_paid_same q p 0 items (λ i l. h i ∙ plus_zero (p i)))
  where
    plus_zero : (k : ℕ) → k + 0 ≡ k
    plus_zero k = omega arith
shape_more p q true place n (Guarantee target list) h = refl
shape_more p q false place n (Guarantee target list) h = refl

-- one payment more lowers the rest of an outcome
pub rest_more : (p q : ℕ → ℕ → ℕ) (os : List AssetOutcome) (asset place n : ℕ) → ((a i : ℕ) → q a i ≡ p a i + cond ((asset == a) && (place == i)) n 0)
    → rest_outcome q os ≡ lower_outcome (rest_outcome p os) asset place n
rest_more p q [] asset place n h = refl
rest_more p q (o ∷ os) asset place n h =
    ap (λ (s : Shape). record { asset = o.asset; shape = s } ∷ rest_outcome q os)
    (shape_more (p o.asset) (q o.asset) (o.asset == asset) place n o.shape (λ i. h o.asset i ∙ ap (λ (b : Bool). p o.asset i + cond (b && (place == i)) n 0) (turned_eq asset o.asset)))
    ∙ ap (λ (rest : List AssetOutcome). record { asset = o.asset; shape = cond (o.asset == asset) (lower_shape (rest_shape (p o.asset) o.shape) place n) (rest_shape (p o.asset) o.shape) } ∷ rest)
    (rest_more p q os asset place n h)

pub shape_rest : (paid : ℕ → ℕ → ℕ) (os : List AssetOutcome) (asset : ℕ) → shape_in (rest_outcome paid os) asset ≡ option_map (rest_shape (paid asset)) (shape_in os asset)
shape_rest paid [] asset = refl
shape_rest paid (o ∷ os) asset = go (o.asset == asset) refl (shape_rest paid os asset)
  where
    go : (b : Bool) → (o.asset == asset) ≡ b → shape_in (rest_outcome paid os) asset ≡ option_map (rest_shape (paid asset)) (shape_in os asset)
        → cond b (Some (rest_shape (paid o.asset) o.shape)) (shape_in (rest_outcome paid os) asset) ≡ option_map (rest_shape (paid asset)) (cond b (Some o.shape) (shape_in os asset))
    go true e ih = ap (λ (a : ℕ). Some (rest_shape (paid a) o.shape)) (eqb-true o.asset asset e)
    go false e ih = ih

paid_more : (h : List Entry) (e : Entry) (owner : List ℕ) (asset place n : ℕ) → payment_of e.op e.reply ≡ record { channel = owner; asset = asset; place = place; amount = n } ∷ []
    → (a i : ℕ) → paid_of (e ∷ h) owner a i ≡ paid_of h owner a i + cond ((asset == a) && (place == i)) n 0
paid_more h e owner asset place n payment a i =
    let p : Payment = record { channel = owner; asset = asset; place = place; amount = n } in
    omega (
      arith,
      ap (λ (ps : List Payment). paid_of_item (ps ++ payments_of h) owner a i) payment,
      sum_by-cons (pays owner a i) p (payments_of h),
      ap (λ (b : Bool). cond (b && ((asset == a) && (place == i))) n 0) (bytes_eq_self owner),
    )

paid_out : (h : List Entry) (e : Entry) (payer : List ℕ) (asset : ℕ) (to : Option Dest) (dest : Dest) (n : ℕ) → flow_of e.op e.reply ≡ flow_to (Some payer) to asset n → to ≡ Some dest
    → 1 ≤ n → n ≤ held_of h payer asset → held_of (e ∷ h) payer asset + n ≡ held_of h payer asset + cond (is_to to payer) n 0
paid_out h e payer asset to dest n flow named some held =
    let f : Flow = record { from = Some payer; to = dest; asset = asset; amount = n } in
    let all : flows_of (e ∷ h) ≡ f ∷ flows_of h = ap (λ (fs : List Flow). fs ++ flows_of h) (flow ∙ ap (λ (t : Option Dest). flow_to (Some payer) t asset n) named) in
    let balance : held_of (e ∷ h) payer asset ≡ held_in (f ∷ flows_of h) payer asset = ap (λ (fs : List Flow). held_in fs payer asset) all in
    let sent : takes payer asset f ≡ n = ap (λ (b : Bool). cond b (cond (asset == asset) n 0) 0) (bytes_eq_self payer) ∙ ap (λ (b : Bool). cond b n 0) (eq-eqb asset asset refl) in
    let kept : brings (Channel payer) asset f ≡ cond (is_same dest (Channel payer)) n 0 = ap (λ (b : Bool). cond (is_same dest (Channel payer)) (cond b n 0) 0) (eq-eqb asset asset refl) in
    let itself : cond (is_to to payer) n 0 ≡ cond (is_same dest (Channel payer)) n 0 = ap (λ (t : Option Dest). cond (is_to t payer) n 0) named in
    omega (
      arith,
      some,
      held,
      balance,
      sum_by-cons (takes payer asset) f (flows_of h),
      sum_by-cons (brings (Channel payer) asset) f (flows_of h),
      sent,
      kept,
      itself,
    )

lowers : (h : List Entry) (e : Entry) (payer owner : List ℕ) (outcome : List AssetOutcome) (asset : ℕ) (to : Option Dest) (place : ℕ) (d : Due)
    → flow_of e.op e.reply ≡ flow_to (Some payer) to asset d.amount
    → payment_of e.op e.reply ≡ record { channel = owner; asset = asset; place = place; amount = d.amount } ∷ []
    → IsDueOf (paid_of h owner asset) (held_of h payer asset) (shape_in outcome asset) to place d
    → LowersBoth h e payer owner outcome asset to d.amount
lowers h e payer owner outcome asset to place d flow payment due =
    let same : left_of (rest_outcome (paid_of h owner) outcome) asset place ≡ rest_at (paid_of h owner asset) due.items place =
    ap (λ (s : Option Shape). amount_in s place) (shape_rest (paid_of h owner) outcome asset ∙ ap (λ (s : Option Shape). option_map (rest_shape (paid_of h owner asset)) s) due.shape_is)
    ∙ rest_at_less_paid (paid_of h owner asset) due.items place in
    record {
      some = due.some;
      place = place;
      named = ap (λ (s : Option Shape). item_dest s place) due.shape_is ∙ due.item_is ∙ sym due.to_is;
      left = subst (λ (k : ℕ). d.amount ≤ k) (sym same) due.left;
      rest = rest_more (paid_of h owner) (paid_of (e ∷ h) owner) outcome asset place d.amount (paid_more h e owner asset place d.amount payment);
      held = due.within;
      balance = paid_out h e payer asset to d.to d.amount flow due.to_is due.some due.within;
    }

-- ---- of replies

record IsTold (x : Result Due Refusal) (amount : ℕ) : Type 0 where
  pub due : Due
  pub is : x ≡ Ok due
  pub amount_is : due.amount ≡ amount

told_due : (x : Result Due Refusal) (amount : ℕ) → told (λ due. Paid due.amount) x ≡ Paid amount → IsTold x amount
told_due (Ok d) amount e = record { due = d; is = refl; amount_is = cc }
told_due (Err refusal) amount e = absurd cc

-- what an accepted transfer and an accepted claim answer is due
pub transfer_ok : (r : Rules) (row : Row) (now : ℕ) (paid : ℕ → ℕ) (held : ℕ) (channel : List ℕ) (outcome : List AssetOutcome) (asset index : ℕ) (d : Due)
    → replies.transfer r row now paid held channel outcome asset index ≡ Ok d → IsDueOf paid held (shape_in outcome asset) (item_dest (shape_in outcome asset) index) index d
transfer_ok r row now paid held channel outcome asset index d e =
    let a = past_ok (replies.is_unfinished row now) (NotFinal channel) _ d e in
    let b = past_ok (replies.ends_otherwise r row outcome) (WrongOutcome channel) _ d a.1 in
    transfer_due_of paid held (shape_in outcome asset) index d b.1

pub claim_ok : (r : Rules) (row of : Row) (now : ℕ) (paid : ℕ → ℕ) (held : ℕ) (guarantor : List ℕ) (promise : List AssetOutcome) (target : List ℕ) (outcome : List AssetOutcome) (asset position : ℕ) (d : Due)
    → replies.claim r row of now paid held guarantor promise target outcome asset position ≡ Ok d
    → IsDueOf paid held (shape_in outcome asset) (listed_dest (shape_in promise asset) position) (place_in (shape_in outcome asset) (listed_dest (shape_in promise asset) position)) d
claim_ok r row of now paid held guarantor promise target outcome asset position d e =
    let a = past_ok (replies.is_unfinished row now) (NotFinal guarantor) _ d e in
    let b = past_ok (replies.is_unfinished of now) (NotFinal target) _ d a.1 in
    let c = past_ok (replies.ends_otherwise r row promise) (WrongOutcome guarantor) _ d b.1 in
    let f = past_ok (replies.ends_otherwise r of outcome) (WrongOutcome target) _ d c.1 in
    claim_due_of paid held (shape_in promise asset) target (shape_in outcome asset) position d f.1

pub transfer_lowers : (r : Rules) (h : List Entry) → TransferLowersBoth r h
unfolding reply_to
transfer_lowers r h number by k amount e =
    let paid = paid_of h k.channel k.asset in
    let held = held_of h k.channel k.asset in
    let to = item_dest (shape_in k.outcome k.asset) k.index in
    let entry : Entry = record { number = number; by = by; op = ops.Call (Transfer k); reply = Paid amount } in
    let t = told_due (replies.transfer r (row r k.channel h) (now_of h) paid held k.channel k.outcome k.asset k.index) amount e in
    let due = transfer_ok r (row r k.channel h) (now_of h) paid held k.channel k.outcome k.asset k.index t.due t.is in
    subst (λ (n : ℕ). LowersBoth h entry k.channel k.channel k.outcome k.asset to n) t.amount_is
    (lowers h entry k.channel k.channel k.outcome k.asset to k.index t.due
    (ap (λ (n : ℕ). flow_to (Some k.channel) to k.asset n) (sym t.amount_is))
    (ap (λ (n : ℕ). record { channel = k.channel; asset = k.asset; place = k.index; amount = n } ∷ []) (sym t.amount_is)) due)

pub claim_lowers : (r : Rules) (h : List Entry) → ClaimLowersBoth r h
unfolding reply_to
claim_lowers r h number by k amount e =
    let paid = paid_of h k.target k.asset in
    let held = held_of h k.guarantor k.asset in
    let guarantor_row = row r k.guarantor h in
    let target_row = row r k.target h in
    let to = listed_dest (shape_in k.guarantor_outcome k.asset) k.position in
    let place = place_in (shape_in k.target_outcome k.asset) to in
    let entry : Entry = record { number = number; by = by; op = ops.Call (Claim k); reply = Paid amount } in
    let t = told_due (replies.claim r guarantor_row target_row (now_of h) paid held k.guarantor k.guarantor_outcome k.target k.target_outcome k.asset k.position) amount e in
    let due = claim_ok r guarantor_row target_row (now_of h) paid held k.guarantor k.guarantor_outcome k.target k.target_outcome k.asset k.position t.due t.is in
    subst (λ (n : ℕ). LowersBoth h entry k.guarantor k.target k.target_outcome k.asset to n) t.amount_is
    (lowers h entry k.guarantor k.target k.target_outcome k.asset to place t.due
    (ap (λ (n : ℕ). flow_to (Some k.guarantor) to k.asset n) (sym t.amount_is))
    (ap (λ (n : ℕ). record { channel = k.target; asset = k.asset; place = place; amount = n } ∷ []) (sym t.amount_is)) due)
