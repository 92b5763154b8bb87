-- Right after a call of an exit stands, whether it was paid or refused, nothing more is due of it.
use Rattle.std.proofs.Common.{◌≡◌, ℕ, suc, ◌+◌, ◌-◌, ◌<◌, ◌≤◌, Bool, true, false, cond, ◌||◌, not, List, [], ◌∷◌, ◌++◌, refl, sym, ◌∙◌, ap, subst, arith, inl, inr, ◌⊎◌}
use Rattle.std.specs.Prelude.{◌==◌, nat_le, length, slice_get, slice_index_or, map, Option, Some, None, Result, Ok, Err}
use Rattle.std.specs.Option.{option_map}
use Rattle.std.specs.Str.{bytes_eq}
use Rattle.std.proofs.lemmas.Bool.{eqb-true, eq-eqb}
use Rattle.channel_values.specs.Outcomes.{is_same}
use Rattle.channel_values.specs.Parts.{FixedParts}
use Rattle.channel_values.specs.declared.value.AssetOutcome.{AssetOutcome}
use Rattle.channel_values.specs.declared.value.Dest.{Dest}
use Rattle.channel_values.specs.declared.value.Dest.TheVariants.{Channel}
use Rattle.channel_values.specs.declared.value.Item.{Item}
use Rattle.channel_values.specs.declared.value.Shape.{Shape}
use Rattle.channel_values.specs.declared.value.Shape.TheVariants.{Allocation, Guarantee}
use Rattle.call_history.specs.Mode.{is_final, mode_at}
use Rattle.channel_values.specs.Rules.{Rules}
use Rattle.channel_values.specs.Amounts.{amt, has, aff, due}
use Rattle.call_history.specs.Dues.{place_of, dest_in, no_item, rest_at, rest_of, shape_in, pay, transfer_of, claim_of, claim_of_items}
use Rattle.call_history.specs.Flows.{held_in}
use Rattle.call_history.specs.Refusing.{told}
use Rattle.call_history.specs.Rest.{less_paid, lower_at, rest_outcome}
use Rattle.call_history.specs.Replies as replies
use Rattle.call_history.specs.History.{Legal, is_accepted, now_of, row, mode, settled, item_dest, listed_dest, place_in, flow_to, flow_of, flows_of, held_of, paid_of, payment_of, reply_to}
use Rattle.call_history.specs.Calls.{make_transfer, make_claim}
use Rattle.call_history.specs.declared.call.Op.{Op}
use Rattle.call_history.specs.declared.call.Op.TheVariants as ops
use Rattle.call_history.specs.declared.entry.Entry.{Entry}
use Rattle.call_history.specs.declared.funds.Due.{Due}
use Rattle.call_history.specs.declared.funds.Flow.{Flow}
use Rattle.call_history.specs.declared.refusal.Refusal.{Refusal}
use Rattle.call_history.specs.declared.refusal.Refusal.TheVariants.{NotFinal, WrongOutcome, NoItem, NotListed, WrongTarget, NothingDue}
use Rattle.call_history.specs.declared.refusal.Reply.{Reply}
use Rattle.call_history.specs.declared.refusal.Reply.TheVariants.{Paid}
use Rattle.call_history.specs.declared.row.Row.{Row}
use Rattle.call_history.proofs.Amounts.{due_same, transfer_affords, claim_affords}
use Rattle.call_history.proofs.Legality.{covered}
use Rattle.call_history.proofs.Names.{bytes_eq_self}
use Rattle.call_history.proofs.Rests.{place_less_paid}
use Rattle.channel_safety.proofs.Tests.{some-eq, false-le}
use Rattle.channel_safety.specs.Journals.{In, Line}
use Rattle.share_laws.specs.Books.{Books, Counting, outcome_in, counts_in}
use Rattle.funding_plans.specs.Shapes.{items_of, list_of, items_in, list_in, is_listed, position_of}
use Rattle.share_laws.specs.Places.{possible, counting_among}
use Rattle.channel_safety.specs.Occurring.{NoCollision}
use Rattle.share_laws.specs.ShareLaws.{moves_funds, AreSeen}
use Rattle.share_laws.specs.Moved.{gain, lost}
use Rattle.share_laws.proofs.Counted.{Outcome, silent, such}
use Rattle.share_laws.proofs.Law.{refused_moves_nothing}
use Rattle.share_laws.proofs.Moving.{of_asset, Balanced, balanced, books_at, items-after, list-after}
use Rattle.share_laws.proofs.Paying.{final_outcome, shape_left}
use Rattle.share_laws.proofs.Payouts.{TransferDue, ClaimDue, transfer_ok, claim_ok}
use Rattle.share_laws.proofs.Possible.{lowered, possible-lowered}
use Rattle.share_laws.proofs.Quiet.{is_quiet}
use Rattle.channel_safety.proofs.Settled.{final-told}
use Rattle.share_laws.proofs.Finals.{final-is}
use Rattle.channel_exits.proofs.Edges.{moving, claiming, by_list, left}
use Rattle.channel_exits.proofs.Frozen.{Lasts, counting-stays}
use Rattle.channel_exits.proofs.Leaves.{is_same-true}
use Rattle.channel_exits.proofs.Leaving.{by_list-le, transfer-leaves, claim-leaves, by_list-due}

-- ---- places and positions

one_more : (n : ℕ) → 1 + n ≡ suc n
one_more n = omega arith

place-lt : (xs : List Item) (d : Dest) → has xs d ≡ true → place_of xs d < length xs
place-lt [] d h = cc
place-lt (x ∷ xs) d h = go (is_same x.to d) h (place-lt xs d)
  where
    go : (t : Bool) → (t || has xs d) ≡ true → (has xs d ≡ true → place_of xs d < length xs) → cond (not t) (1 + place_of xs d) 0 < suc (length xs)
    go true k rec = omega arith
    go false k rec = let l = rec k in omega (arith, l)

place-dest : (xs : List Item) (d : Dest) → has xs d ≡ true → item_dest (Some (Allocation xs)) (place_of xs d) ≡ Some d
place-dest [] d h = cc
place-dest (x ∷ xs) d h = go (is_same x.to d) (is_same-true x.to d) h (place-dest xs d)
  where
    go : (t : Bool) → (t ≡ true → x.to ≡ d) → (t || has xs d) ≡ true → (has xs d ≡ true → item_dest (Some (Allocation xs)) (place_of xs d) ≡ Some d) →
        option_map (λ (y : Item). y.to) (slice_get (x ∷ xs) (cond (not t) (1 + place_of xs d) 0)) ≡ Some d
    go true e k rec = ap (λ (y : Dest). Some y) (e refl)
    go false e k rec = ap (λ (i : ℕ). option_map (λ (y : Item). y.to) (slice_get (x ∷ xs) i)) (one_more (place_of xs d)) ∙ rec k

position-lt : (ds : List Dest) (d : Dest) → is_listed ds d ≡ true → position_of ds d < length ds
position-lt [] d h = cc
position-lt (x ∷ xs) d h = go (is_same x d) h (position-lt xs d)
  where
    go : (t : Bool) → (t || is_listed xs d) ≡ true → (is_listed xs d ≡ true → position_of xs d < length xs) → cond (not t) (1 + position_of xs d) 0 < suc (length xs)
    go true k rec = omega arith
    go false k rec = let l = rec k in omega (arith, l)

position-dest : (ds : List Dest) (d : Dest) → is_listed ds d ≡ true → slice_get ds (position_of ds d) ≡ Some d
position-dest [] d h = cc
position-dest (x ∷ xs) d h = go (is_same x d) (is_same-true x d) h (position-dest xs d)
  where
    go : (t : Bool) → (t ≡ true → x ≡ d) → (t || is_listed xs d) ≡ true → (is_listed xs d ≡ true → slice_get xs (position_of xs d) ≡ Some d) →
        slice_get (x ∷ xs) (cond (not t) (1 + position_of xs d) 0) ≡ Some d
    go true e k rec = ap (λ (y : Dest). Some y) (e refl)
    go false e k rec = ap (λ (i : ℕ). slice_get (x ∷ xs) i) (one_more (position_of xs d)) ∙ rec k

position-at : (ds : List Dest) (d : Dest) → is_listed ds d ≡ true → dest_in ds (position_of ds d) ≡ d
position-at [] d h = cc
position-at (x ∷ xs) d h = go (is_same x d) (is_same-true x d) h (position-at xs d)
  where
    go : (t : Bool) → (t ≡ true → x ≡ d) → (t || is_listed xs d) ≡ true → (is_listed xs d ≡ true → dest_in xs (position_of xs d) ≡ d) →
        dest_in (x ∷ xs) (cond (not t) (1 + position_of xs d) 0) ≡ d
    go true e k rec = e refl
    go false e k rec = ap (λ (i : ℕ). dest_in (x ∷ xs) i) (one_more (position_of xs d)) ∙ rec k

pub has-less : (paid : ℕ → ℕ) (n : ℕ) (xs : List Item) (d : Dest) → has (less_paid paid n xs) d ≡ has xs d
has-less paid n [] d = refl
has-less paid n (x ∷ xs) d = ap (λ (t : Bool). is_same x.to d || t) (has-less paid (suc n) xs d)

-- ---- what is refused is nothing

pay-refused : (to : Dest) (place held n : ℕ) (refusal : Refusal) → pay to place held n ≡ Err refusal → n ≡ 0
pay-refused to place held n refusal h = go (n == 0) refl h
  where
    go : (t : Bool) → (n == 0) ≡ t → cond {A = Result Due Refusal} t (Err (NothingDue held)) (Ok (record { to = to; place = place; amount = n })) ≡ Err refusal → n ≡ 0
    go true e k = eqb-true n 0 e
    go false e k = cc

transfer-refused : (r : Rules) (row : Row) (now : ℕ) (paid : ℕ → ℕ) (held : ℕ) (f : List ℕ) (o : List AssetOutcome) (a index : ℕ) (xs : List Item) (refusal : Refusal) →
    is_final (mode_at row.deadline now) ≡ true → bytes_eq (r.outcome_digest o) row.outcome_digest ≡ true → shape_in o a ≡ Some (Allocation xs) → nat_le (length xs) index ≡ false →
    replies.transfer r row now paid held f o a index ≡ Err refusal → due (rest_at paid xs) index held ≡ 0
transfer-refused r row now paid held f o a index xs refusal final digest shape there h =
    pay-refused (slice_index_or xs index no_item).to index held (due (rest_at paid xs) index held) refusal
    (sym (ap (λ (t : Bool). cond (not t) (Err (NotFinal f)) (cond (not (bytes_eq (r.outcome_digest o) row.outcome_digest)) (Err (WrongOutcome f)) (transfer_of paid held (shape_in o a) index))) final
    ∙ (ap (λ (t : Bool). cond (not t) (Err (WrongOutcome f)) (transfer_of paid held (shape_in o a) index)) digest
    ∙ (ap (λ (s : Option Shape). transfer_of paid held s index) shape
    ∙ ap (λ (t : Bool). cond t (Err NoItem) (pay (slice_index_or xs index no_item).to index held (due (rest_at paid xs) index held))) there)))
    ∙ h)

claim-refused : (r : Rules) (row of : Row) (now : ℕ) (paid : ℕ → ℕ) (held : ℕ) (g : List ℕ) (p : List AssetOutcome) (j : List ℕ) (o : List AssetOutcome) (a position : ℕ) (list : List Dest) (xs : List Item) (refusal : Refusal) →
    is_final (mode_at row.deadline now) ≡ true → is_final (mode_at of.deadline now) ≡ true → bytes_eq (r.outcome_digest p) row.outcome_digest ≡ true → bytes_eq (r.outcome_digest o) of.outcome_digest ≡ true →
    shape_in p a ≡ Some (Guarantee j list) → shape_in o a ≡ Some (Allocation xs) → nat_le (length list) position ≡ false → nat_le (length xs) (place_of xs (dest_in list position)) ≡ false →
    replies.claim r row of now paid held g p j o a position ≡ Err refusal → due (rest_of paid xs list) position held ≡ 0
claim-refused r row of now paid held g p j o a position list xs refusal fg fj dg dj promise shape listed there h =
    pay-refused (dest_in list position) (place_of xs (dest_in list position)) held (due (rest_of paid xs list) position held) refusal
    (sym (ap (λ (t : Bool). cond (not t) (Err (NotFinal g)) (cond (not (is_final (mode_at of.deadline now))) (Err (NotFinal j)) (cond (not (bytes_eq (r.outcome_digest p) row.outcome_digest)) (Err (WrongOutcome g)) (cond (not (bytes_eq (r.outcome_digest o) of.outcome_digest)) (Err (WrongOutcome j)) (claim_of paid held (shape_in p a) j (shape_in o a) position))))) fg
    ∙ (ap (λ (t : Bool). cond (not t) (Err (NotFinal j)) (cond (not (bytes_eq (r.outcome_digest p) row.outcome_digest)) (Err (WrongOutcome g)) (cond (not (bytes_eq (r.outcome_digest o) of.outcome_digest)) (Err (WrongOutcome j)) (claim_of paid held (shape_in p a) j (shape_in o a) position)))) fj
    ∙ (ap (λ (t : Bool). cond (not t) (Err (WrongOutcome g)) (cond (not (bytes_eq (r.outcome_digest o) of.outcome_digest)) (Err (WrongOutcome j)) (claim_of paid held (shape_in p a) j (shape_in o a) position))) dg
    ∙ (ap (λ (t : Bool). cond (not t) (Err (WrongOutcome j)) (claim_of paid held (shape_in p a) j (shape_in o a) position)) dj
    ∙ (ap (λ (s : Option Shape). claim_of paid held s j (shape_in o a) position) promise
    ∙ (ap (λ (s : Option Shape). claim_of paid held (Some (Guarantee j list)) j s position) shape
    ∙ (ap (λ (t : Bool). cond (not t) (Err WrongTarget) (claim_of_items paid held list xs position)) (bytes_eq_self j)
    ∙ (ap (λ (t : Bool). cond t (Err NotListed) (cond (nat_le (length xs) (place_of xs (dest_in list position))) (Err NoItem) (pay (dest_in list position) (place_of xs (dest_in list position)) held (due (rest_of paid xs list) position held)))) listed
    ∙ ap (λ (t : Bool). cond t (Err NoItem) (pay (dest_in list position) (place_of xs (dest_in list position)) held (due (rest_of paid xs list) position held))) there))))))))
    ∙ h)

-- the recorded digest is that of the settled outcome
settled-digest : (r : Rules) (n : List ℕ) (h : List Entry) (o : List AssetOutcome) → Legal r h → is_final (mode r n h) ≡ true → settled r n h ≡ Some o →
    bytes_eq (r.outcome_digest o) (row r n h).outcome_digest ≡ true
settled-digest r n h o legal final is =
    let s = final-told.settles r n h legal (final-is (mode r n h) final) in
    let same : s.outcome ≡ o = some-eq s.outcome o (sym s.is ∙ is) in
    ap (bytes_eq (r.outcome_digest o)) (s.recorded ∙ ap r.outcome_digest same) ∙ bytes_eq_self (r.outcome_digest o)

self_asset : (a : ℕ) → (a == a) ≡ true
self_asset a = eq-eqb a a refl

module _ (r : Rules) (e : Entry) (h : List Entry) (front : List Line) (fs : List FixedParts) (me : List ℕ) (a : ℕ) (legal : Legal r (e ∷ h)) (tell : NoCollision r (e ∷ h) front)
    (seen : AreSeen h front) (on : (f : FixedParts) → In f fs → Lasts r h front f) where
  abbrev b : Books
  b = books_at r h front fs a []

  abbrev c : Books
  c = books_at r (e ∷ h) front fs a []

  -- what f holds after it paid k of the asset to another
  held-after : (f : List ℕ) (to : Dest) (k : ℕ) → Balanced h e me f to a (of_asset a a k) → is_same to (Channel f) ≡ false → held_of (e ∷ h) f a ≡ held_of h f a - k
  held-after f to k bal ne =
      let whole : of_asset a a k ≡ k = ap (λ (t : Bool). cond t k 0) (self_asset a) in
      let l : lost f f (of_asset a a k) ≡ of_asset a a k = ap (λ (t : Bool). cond t (of_asset a a k) 0) (bytes_eq_self f) in
      let g : gain to (Channel f) (of_asset a a k) ≡ 0 = ap (λ (t : Bool). cond t (of_asset a a k) 0) ne in
      let p = bal.held f in
      omega (arith, whole, l, g, p)

  -- an item of s is lowered
  items-lower : (s : List ℕ) (place k : ℕ) (changed : (f : FixedParts) → possible r (e ∷ h) front f ≡ map (lowered s a place k (r.named f)) (possible r h front f)) →
      c.items s ≡ lower_at (b.items s) place k
  items-lower s place k changed =
      items-after r e h front fs s a place k changed a [] s
      ∙ (ap (λ (t : Bool). cond t (cond (a == a) (lower_at (b.items s) place k) (b.items s)) (b.items s)) (bytes_eq_self s)
      ∙ ap (λ (t : Bool). cond t (lower_at (b.items s) place k) (b.items s)) (self_asset a))

  -- a refused entry leaves the books
  module _ (refused : is_accepted e.reply ≡ false) where
    counting-same : counting_among r (e ∷ h) front fs ≡ counting_among r h front fs
    counting-same = counting-stays r e h front me a legal tell seen fs on (refused_moves_nothing e.op e.reply refused).1

    held-same : (n : List ℕ) → held_of (e ∷ h) n a ≡ held_of h n a
    held-same n = ap (λ (xs : List Flow). held_in (xs ++ flows_of h) n a) (refused_moves_nothing e.op e.reply refused).0

  -- ---- a transfer

  transfer_reply : (f : List ℕ) (o : List AssetOutcome) (index : ℕ) → e.op ≡ ops.Call (make_transfer f o a index) →
      e.reply ≡ told (λ (d : Due). Paid d.amount) (replies.transfer r (row r f h) (now_of h) (paid_of h f a) (held_of h f a) f o a index)
  unfolding reply_to
  transfer_reply f o index is = subst (λ (op : Op). e.reply ≡ reply_to r h op) is legal.2

  module _ (f : List ℕ) (o : List AssetOutcome) (d : Dest) (final : is_final (mode r f h) ≡ true) (set : settled r f h ≡ Some o) (there : has (items_in a o) d ≡ true)
      (ne : is_same d (Channel f) ≡ false) (is : e.op ≡ ops.Call (make_transfer f o a (place_of (items_in a o) d))) where
    abbrev index : ℕ
    index = place_of (items_in a o) d

    transfer_moves : (moves_funds e.op || not (is_accepted e.reply)) ≡ true
    transfer_moves = ap (λ (op : Op). moves_funds op || not (is_accepted e.reply)) is

    -- the items of f in the books
    rest_items : (xs : List Item) → shape_in o a ≡ Some (Allocation xs) → (b.items f ≡ []) ⊎ (b.items f ≡ less_paid (paid_of h f a) 0 xs)
    rest_items xs shape = go (counts_in (counting_among r h front fs) f) (outcome_in (counting_among r h front fs) [] f) refl (final_outcome r h front fs f o final set [])
      where
        go : (t : Bool) (x : List AssetOutcome) → outcome_in (counting_among r h front fs) [] f ≡ x → Outcome (λ y. y ≡ rest_outcome (paid_of h f) o) t x →
            (b.items f ≡ []) ⊎ (b.items f ≡ less_paid (paid_of h f a) 0 xs)
        go false x q silent = inl (ap (λ (y : List AssetOutcome). items_of (shape_in y a)) q)
        go true x q (such w) = inr (ap items_of (shape_left (paid_of h f) o (outcome_in (counting_among r h front fs) [] f) a (Allocation xs) (q ∙ w) shape))

    paid_transfer : (dd : Due) → replies.transfer r (row r f h) (now_of h) (paid_of h f a) (held_of h f a) f o a index ≡ Ok dd → e.reply ≡ Paid dd.amount → left c (moving f d) ≡ 0
    paid_transfer dd answer reply = go (rest_items xs ok.shape_is)
      where
        ok : TransferDue (paid_of h f a) (held_of h f a) (shape_in o a) index dd
        ok = (transfer_ok r (row r f h) (now_of h) (paid_of h f a) (held_of h f a) f o a index dd answer).1

        xs : List Item
        xs = ok.items

        items_are : items_in a o ≡ xs
        items_are = ap items_of ok.shape_is

        has_xs : has xs d ≡ true
        has_xs = subst (λ (ys : List Item). has ys d ≡ true) items_are there

        at : index ≡ place_of xs d
        at = ap (λ (ys : List Item). place_of ys d) items_are

        to : dd.to ≡ d
        to = some-eq dd.to d (sym ok.to_is ∙ (ap (λ (i : ℕ). item_dest (Some (Allocation xs)) i) at ∙ place-dest xs d has_xs))

        call : Op
        call = ops.Call (make_transfer f o a index)

        flow : flow_of e.op e.reply ≡ record { from = Some f; to = dd.to; asset = a; amount = dd.amount } ∷ []
        flow =
            ap (λ (op : Op). flow_of op e.reply) is
            ∙ (ap (λ (y : Reply). flow_of (ops.Call (make_transfer f o a index)) y) reply
            ∙ (ap (λ (s : Option Shape). flow_to (Some f) (item_dest s index) a dd.amount) ok.shape_is
            ∙ ap (λ (t : Option Dest). flow_to (Some f) t a dd.amount) ok.to_is))

        payment : payment_of e.op e.reply ≡ record { channel = f; asset = a; place = index; amount = dd.amount } ∷ []
        payment = ap (λ (op : Op). payment_of op e.reply) is ∙ ap (λ (y : Reply). payment_of (ops.Call (make_transfer f o a index)) y) reply

        held : held_of (e ∷ h) f a ≡ held_of h f a - dd.amount
        held = held-after f dd.to dd.amount (balanced h e me f dd.to a dd.amount (covered r h legal.0) flow ok.within a) (ap (λ (y : Dest). is_same y (Channel f)) to ∙ ne)

        items : c.items f ≡ lower_at (b.items f) index dd.amount
        items = items-lower f index dd.amount (possible-lowered r e h (is_quiet r e transfer_moves) front seen f a index dd.amount payment final)

        go : (b.items f ≡ []) ⊎ (b.items f ≡ less_paid (paid_of h f a) 0 xs) → aff (c.items f) (held_of (e ∷ h) f a) d ≡ 0
        go (inl none) = ap (λ (ys : List Item). aff ys (held_of (e ∷ h) f a) d) (items ∙ ap (λ (ys : List Item). lower_at ys index dd.amount) none)
        go (inr mine) =
            ap (λ (ys : List Item). aff ys (held_of (e ∷ h) f a) d)
            (items ∙ (ap (λ (ys : List Item). lower_at ys index dd.amount) mine ∙ ap (λ (i : ℕ). lower_at (less_paid (paid_of h f a) 0 xs) i dd.amount) (at ∙ sym (place_less_paid (paid_of h f a) 0 xs d))))
            ∙ (ap (λ (n : ℕ). aff (lower_at (less_paid (paid_of h f a) 0 xs) (place_of (less_paid (paid_of h f a) 0 xs) d) dd.amount) n d) held
            ∙ transfer-leaves (less_paid (paid_of h f a) 0 xs) (held_of h f a) dd.amount d (has-less (paid_of h f a) 0 xs d ∙ has_xs)
            (ok.amount ∙ (ap (λ (i : ℕ). due (rest_at (paid_of h f a) xs) i (held_of h f a)) at ∙ transfer_affords (paid_of h f a) xs (held_of h f a) d)))

    refused_transfer : (refusal : Refusal) → replies.transfer r (row r f h) (now_of h) (paid_of h f a) (held_of h f a) f o a index ≡ Err refusal → is_accepted e.reply ≡ false → left c (moving f d) ≡ 0
    refused_transfer refusal answer refused = go (shape_in o a) refl
      where
        same : left c (moving f d) ≡ left b (moving f d)
        same =
            ap (λ (cs : List Counting). aff (items_of (shape_in (outcome_in cs [] f) a)) (held_of (e ∷ h) f a) d) (counting-same refused)
            ∙ ap (λ (n : ℕ). aff (b.items f) n d) (held-same refused f)

        nothing : (xs : List Item) → shape_in o a ≡ Some (Allocation xs) → (b.items f ≡ []) ⊎ (b.items f ≡ less_paid (paid_of h f a) 0 xs) → left b (moving f d) ≡ 0
        nothing xs shape (inl none) = ap (λ (ys : List Item). aff ys (held_of h f a) d) none
        nothing xs shape (inr mine) =
            let items_are : items_in a o ≡ xs = ap items_of shape in
            let has_xs : has xs d ≡ true = subst (λ (ys : List Item). has ys d ≡ true) items_are there in
            let at : index ≡ place_of xs d = ap (λ (ys : List Item). place_of ys d) items_are in
            ap (λ (ys : List Item). aff ys (held_of h f a) d) mine
            ∙ (sym (transfer_affords (paid_of h f a) xs (held_of h f a) d)
            ∙ (ap (λ (i : ℕ). due (rest_at (paid_of h f a) xs) i (held_of h f a)) (sym at)
            ∙ transfer-refused r (row r f h) (now_of h) (paid_of h f a) (held_of h f a) f o a index xs refusal final (settled-digest r f h o legal.0 final set) shape
            (ap (nat_le (length xs)) at ∙ false-le (length xs) (place_of xs d) (place-lt xs d has_xs)) answer))

        go : (s : Option Shape) → shape_in o a ≡ s → left c (moving f d) ≡ 0
        go None q = let z : has (items_of None) d ≡ true = subst (λ (t : Option Shape). has (items_of t) d ≡ true) q there in cc
        go (Some (Guarantee target list)) q = let z : has (items_of (Some (Guarantee target list))) d ≡ true = subst (λ (t : Option Shape). has (items_of t) d ≡ true) q there in cc
        go (Some (Allocation xs)) q = same ∙ nothing xs q (rest_items xs q)

    pub transfer-answered : left c (moving f d) ≡ 0
    transfer-answered = go (replies.transfer r (row r f h) (now_of h) (paid_of h f a) (held_of h f a) f o a index) refl (transfer_reply f o index is)
      where
        go : (x : Result Due Refusal) → replies.transfer r (row r f h) (now_of h) (paid_of h f a) (held_of h f a) f o a index ≡ x → e.reply ≡ told (λ (dd : Due). Paid dd.amount) x → left c (moving f d) ≡ 0
        go (Ok dd) answer reply = paid_transfer dd answer reply
        go (Err refusal) answer reply = refused_transfer refusal answer (ap is_accepted reply)

  -- ---- a claim

  claim_reply : (g : List ℕ) (p : List AssetOutcome) (j : List ℕ) (o : List AssetOutcome) (position : ℕ) → e.op ≡ ops.Call (make_claim g p j o a position) →
      e.reply ≡ told (λ (d : Due). Paid d.amount) (replies.claim r (row r g h) (row r j h) (now_of h) (paid_of h j a) (held_of h g a) g p j o a position)
  unfolding reply_to
  claim_reply g p j o position is = subst (λ (op : Op). e.reply ≡ reply_to r h op) is legal.2

  module _ (g j : List ℕ) (p o : List AssetOutcome) (d : Dest) (list : List Dest) (final_g : is_final (mode r g h) ≡ true) (set_g : settled r g h ≡ Some p)
      (final_j : is_final (mode r j h) ≡ true) (set_j : settled r j h ≡ Some o) (promise : shape_in p a ≡ Some (Guarantee j list)) (listed : is_listed (list_in a p) d ≡ true)
      (there : has (items_in a o) d ≡ true) (ne : is_same d (Channel g) ≡ false) (is : e.op ≡ ops.Call (make_claim g p j o a (position_of (list_in a p) d))) where
    abbrev position : ℕ
    position = position_of (list_in a p) d

    claim_moves : (moves_funds e.op || not (is_accepted e.reply)) ≡ true
    claim_moves = ap (λ (op : Op). moves_funds op || not (is_accepted e.reply)) is

    list_is : list_in a p ≡ list
    list_is = ap list_of promise

    in_list : is_listed list d ≡ true
    in_list = subst (λ (ds : List Dest). is_listed ds d ≡ true) list_is listed

    at_list : position ≡ position_of list d
    at_list = ap (λ (ds : List Dest). position_of ds d) list_is

    -- the list of g in the books
    rest_list : (b.list g ≡ []) ⊎ (b.list g ≡ list)
    rest_list = go (counts_in (counting_among r h front fs) g) (outcome_in (counting_among r h front fs) [] g) refl (final_outcome r h front fs g p final_g set_g [])
      where
        go : (t : Bool) (x : List AssetOutcome) → outcome_in (counting_among r h front fs) [] g ≡ x → Outcome (λ y. y ≡ rest_outcome (paid_of h g) p) t x →
            (b.list g ≡ []) ⊎ (b.list g ≡ list)
        go false x q silent = inl (ap (λ (y : List AssetOutcome). list_of (shape_in y a)) q)
        go true x q (such w) = inr (ap list_of (shape_left (paid_of h g) p (outcome_in (counting_among r h front fs) [] g) a (Guarantee j list) (q ∙ w) promise))

    -- and the items of j
    target_items : (xs : List Item) → shape_in o a ≡ Some (Allocation xs) → (b.items j ≡ []) ⊎ (b.items j ≡ less_paid (paid_of h j a) 0 xs)
    target_items xs shape = go (counts_in (counting_among r h front fs) j) (outcome_in (counting_among r h front fs) [] j) refl (final_outcome r h front fs j o final_j set_j [])
      where
        go : (t : Bool) (x : List AssetOutcome) → outcome_in (counting_among r h front fs) [] j ≡ x → Outcome (λ y. y ≡ rest_outcome (paid_of h j) o) t x →
            (b.items j ≡ []) ⊎ (b.items j ≡ less_paid (paid_of h j a) 0 xs)
        go false x q silent = inl (ap (λ (y : List AssetOutcome). items_of (shape_in y a)) q)
        go true x q (such w) = inr (ap items_of (shape_left (paid_of h j) o (outcome_in (counting_among r h front fs) [] j) a (Allocation xs) (q ∙ w) shape))

    no_items : (ys : List Item) (ds : List Dest) (n : ℕ) → ys ≡ [] → by_list ys ds n d ≡ 0
    no_items ys ds n e = let l : by_list ys ds n d ≤ amt ys d = by_list-le ys ds n d in let z : amt ys d ≡ 0 = ap (λ (zs : List Item). amt zs d) e in omega (arith, l, z)

    -- what the adjudicator finds due is what the books leave
    due_is : (xs : List Item) → due (rest_of (paid_of h j a) xs list) position (held_of h g a) ≡ by_list (less_paid (paid_of h j a) 0 xs) list (held_of h g a) d
    due_is xs =
        due_same (rest_of (paid_of h j a) xs list) (λ i. amt (less_paid (paid_of h j a) 0 xs) (dest_in list i)) (claim_affords (paid_of h j a) xs list) position (held_of h g a)
        ∙ (ap (λ (i : ℕ). due (λ k. amt (less_paid (paid_of h j a) 0 xs) (dest_in list k)) i (held_of h g a)) at_list
        ∙ sym (by_list-due (less_paid (paid_of h j a) 0 xs) list (held_of h g a) d in_list))

    paid_claim : (dd : Due) → replies.claim r (row r g h) (row r j h) (now_of h) (paid_of h j a) (held_of h g a) g p j o a position ≡ Ok dd → e.reply ≡ Paid dd.amount → left c (claiming g j d) ≡ 0
    paid_claim dd answer reply = go rest_list (target_items xs ok.shape_is)
      where
        ok : ClaimDue (paid_of h j a) (held_of h g a) (shape_in p a) j (shape_in o a) position dd
        ok = (claim_ok r (row r g h) (row r j h) (now_of h) (paid_of h j a) (held_of h g a) g p j o a position dd answer).due

        xs : List Item
        xs = ok.items

        same_list : ok.list ≡ list
        same_list = sym (ap list_of ok.promise_is) ∙ list_is

        has_xs : has xs d ≡ true
        has_xs = subst (λ (ys : List Item). has ys d ≡ true) (ap items_of ok.shape_is) there

        to : dd.to ≡ d
        to =
            some-eq dd.to d (sym ok.listed
            ∙ (ap (λ (ds : List Dest). slice_get ds position) same_list
            ∙ (ap (λ (i : ℕ). slice_get list i) at_list ∙ position-dest list d in_list)))

        place : ℕ
        place = place_of xs dd.to

        to_is : listed_dest (shape_in p a) position ≡ Some dd.to
        to_is = ap (λ (s : Option Shape). listed_dest s position) ok.promise_is ∙ ok.listed

        flow : flow_of e.op e.reply ≡ record { from = Some g; to = dd.to; asset = a; amount = dd.amount } ∷ []
        flow =
            ap (λ (op : Op). flow_of op e.reply) is
            ∙ (ap (λ (y : Reply). flow_of (ops.Call (make_claim g p j o a position)) y) reply
            ∙ ap (λ (t : Option Dest). flow_to (Some g) t a dd.amount) to_is)

        payment : payment_of e.op e.reply ≡ record { channel = j; asset = a; place = place; amount = dd.amount } ∷ []
        payment =
            ap (λ (op : Op). payment_of op e.reply) is
            ∙ (ap (λ (y : Reply). payment_of (ops.Call (make_claim g p j o a position)) y) reply
            ∙ (ap (λ (s : Option Shape). record { channel = j; asset = a; place = place_in s (listed_dest (shape_in p a) position); amount = dd.amount } ∷ []) ok.shape_is
            ∙ ap (λ (t : Option Dest). record { channel = j; asset = a; place = place_in (Some (Allocation xs)) t; amount = dd.amount } ∷ []) to_is))

        changed : (f : FixedParts) → possible r (e ∷ h) front f ≡ map (lowered j a place dd.amount (r.named f)) (possible r h front f)
        changed = possible-lowered r e h (is_quiet r e claim_moves) front seen j a place dd.amount payment final_j

        held : held_of (e ∷ h) g a ≡ held_of h g a - dd.amount
        held = held-after g dd.to dd.amount (balanced h e me g dd.to a dd.amount (covered r h legal.0) flow ok.within a) (ap (λ (y : Dest). is_same y (Channel g)) to ∙ ne)

        items : c.items j ≡ lower_at (b.items j) place dd.amount
        items = items-lower j place dd.amount changed

        lists : c.list g ≡ b.list g
        lists = list-after r e h front fs j a place dd.amount changed a [] g

        at : place ≡ place_of (less_paid (paid_of h j a) 0 xs) d
        at = ap (λ (y : Dest). place_of xs y) to ∙ sym (place_less_paid (paid_of h j a) 0 xs d)

        go : (b.list g ≡ []) ⊎ (b.list g ≡ list) → (b.items j ≡ []) ⊎ (b.items j ≡ less_paid (paid_of h j a) 0 xs) → by_list (c.items j) (c.list g) (held_of (e ∷ h) g a) d ≡ 0
        go (inl none) w = ap (λ (ds : List Dest). by_list (c.items j) ds (held_of (e ∷ h) g a) d) (lists ∙ none)
        go (inr own) (inl none) = no_items (c.items j) (c.list g) (held_of (e ∷ h) g a) (items ∙ ap (λ (ys : List Item). lower_at ys place dd.amount) none)
        go (inr own) (inr mine) =
            ap (λ (ds : List Dest). by_list (c.items j) ds (held_of (e ∷ h) g a) d) (lists ∙ own)
            ∙ (ap (λ (ys : List Item). by_list ys list (held_of (e ∷ h) g a) d)
            (items ∙ (ap (λ (ys : List Item). lower_at ys place dd.amount) mine ∙ ap (λ (i : ℕ). lower_at (less_paid (paid_of h j a) 0 xs) i dd.amount) at))
            ∙ (ap (λ (n : ℕ). by_list (lower_at (less_paid (paid_of h j a) 0 xs) (place_of (less_paid (paid_of h j a) 0 xs) d) dd.amount) list n d) held
            ∙ claim-leaves (less_paid (paid_of h j a) 0 xs) list (held_of h g a) dd.amount d (has-less (paid_of h j a) 0 xs d ∙ has_xs)
            (ok.amount ∙ (ap (λ (ds : List Dest). due (rest_of (paid_of h j a) xs ds) position (held_of h g a)) same_list ∙ due_is xs))))

    refused_claim : (refusal : Refusal) → replies.claim r (row r g h) (row r j h) (now_of h) (paid_of h j a) (held_of h g a) g p j o a position ≡ Err refusal → is_accepted e.reply ≡ false → left c (claiming g j d) ≡ 0
    refused_claim refusal answer refused = go (shape_in o a) refl
      where
        same : left c (claiming g j d) ≡ left b (claiming g j d)
        same =
            ap (λ (cs : List Counting). by_list (items_of (shape_in (outcome_in cs [] j) a)) (list_of (shape_in (outcome_in cs [] g) a)) (held_of (e ∷ h) g a) d) (counting-same refused)
            ∙ ap (λ (n : ℕ). by_list (b.items j) (b.list g) n d) (held-same refused g)

        nothing : (xs : List Item) → shape_in o a ≡ Some (Allocation xs) → (b.list g ≡ []) ⊎ (b.list g ≡ list) → (b.items j ≡ []) ⊎ (b.items j ≡ less_paid (paid_of h j a) 0 xs) → left b (claiming g j d) ≡ 0
        nothing xs shape (inl none) w = ap (λ (ds : List Dest). by_list (b.items j) ds (held_of h g a) d) none
        nothing xs shape (inr own) (inl none) = no_items (b.items j) (b.list g) (held_of h g a) none
        nothing xs shape (inr own) (inr mine) =
            let has_xs : has xs d ≡ true = subst (λ (ys : List Item). has ys d ≡ true) (ap items_of shape) there in
            let place : dest_in list position ≡ d = ap (dest_in list) at_list ∙ position-at list d in_list in
            ap (λ (ds : List Dest). by_list (b.items j) ds (held_of h g a) d) own
            ∙ (ap (λ (ys : List Item). by_list ys list (held_of h g a) d) mine
            ∙ (sym (due_is xs)
            ∙ claim-refused r (row r g h) (row r j h) (now_of h) (paid_of h j a) (held_of h g a) g p j o a position list xs refusal final_g final_j
            (settled-digest r g h p legal.0 final_g set_g) (settled-digest r j h o legal.0 final_j set_j) promise shape
            (ap (nat_le (length list)) at_list ∙ false-le (length list) (position_of list d) (position-lt list d in_list))
            (ap (λ (y : Dest). nat_le (length xs) (place_of xs y)) place ∙ false-le (length xs) (place_of xs d) (place-lt xs d has_xs)) answer))

        go : (s : Option Shape) → shape_in o a ≡ s → left c (claiming g j d) ≡ 0
        go None q = let z : has (items_of None) d ≡ true = subst (λ (t : Option Shape). has (items_of t) d ≡ true) q there in cc
        go (Some (Guarantee target ds)) q = let z : has (items_of (Some (Guarantee target ds))) d ≡ true = subst (λ (t : Option Shape). has (items_of t) d ≡ true) q there in cc
        go (Some (Allocation xs)) q = same ∙ nothing xs q rest_list (target_items xs q)

    pub claim-answered : left c (claiming g j d) ≡ 0
    claim-answered = go (replies.claim r (row r g h) (row r j h) (now_of h) (paid_of h j a) (held_of h g a) g p j o a position) refl (claim_reply g p j o position is)
      where
        go : (x : Result Due Refusal) → replies.claim r (row r g h) (row r j h) (now_of h) (paid_of h j a) (held_of h g a) g p j o a position ≡ x → e.reply ≡ told (λ (dd : Due). Paid dd.amount) x → left c (claiming g j d) ≡ 0
        go (Ok dd) answer reply = paid_claim dd answer reply
        go (Err refusal) answer reply = refused_claim refusal answer (ap is_accepted reply)
