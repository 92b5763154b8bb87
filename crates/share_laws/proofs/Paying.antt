-- An entry that moves funds, or is refused, is a payment or none to a sound plan.
use Rattle.std.proofs.Common.{◌≡◌, ℕ, ◌+◌, ◌-◌, ◌≤◌, Bool, true, false, cond, List, [], ◌∷◌, refl, sym, ◌∙◌, ap, subst, arith, inl, inr, ◌⊎◌}
use Rattle.std.specs.Prelude.{Option, Some}
use Rattle.std.specs.List.{AllByRecursion}
use Rattle.std.specs.Option.{option_map}
use Rattle.std.specs.Str.{bytes_eq}
use Rattle.channel_values.specs.Parts.{FixedParts}
use Rattle.channel_values.specs.Outcomes.{is_same}
use Rattle.channel_values.specs.declared.value.AssetOutcome.{AssetOutcome}
use Rattle.channel_values.specs.declared.value.Dest.{Dest}
use Rattle.channel_values.specs.declared.value.Dest.TheVariants.{Channel}
use Rattle.channel_values.specs.declared.value.Item.{Item}
use Rattle.channel_values.specs.declared.value.Shape.{Shape}
use Rattle.channel_values.specs.declared.value.Shape.TheVariants.{Allocation, Guarantee}
use Rattle.call_history.specs.Mode.{is_final}
use Rattle.channel_values.specs.Rules.{Rules}
use Rattle.channel_values.specs.Amounts.{amt, has, aff, before}
use Rattle.call_history.specs.Dues.{amount_at, dest_in, place_of, rest_at, shape_in}
use Rattle.call_history.specs.Rest.{less_paid, lower_at, rest_shape, rest_outcome}
use Rattle.call_history.specs.History.{mode, settled, held_of, paid_to, paid_of}
use Rattle.call_history.specs.declared.funds.Due.{Due}
use Rattle.call_history.specs.declared.entry.Entry.{Entry}
use Rattle.call_history.proofs.Amounts.{due_same}
use Rattle.call_history.proofs.Names.{same_bytes, bytes_eq_self}
use Rattle.call_history.proofs.Payouts.{shape_rest}
use Rattle.call_history.proofs.Rests.{rest_at_less_paid, place_less_paid}
use Rattle.channel_safety.specs.Journals.{Line}
use Rattle.share_laws.specs.Books.{Books, outcome_in, counts_in}
use Rattle.funding_plans.specs.Shapes.{items_of, list_of}
use Rattle.share_laws.specs.Places.{possible, counting_among}
use Rattle.share_laws.specs.Moved.{gain, lost, due_at, Moved, IsAt}
use Rattle.share_laws.specs.Sound.{IsPromise, Guarantees}
use Rattle.share_laws.proofs.Amounts.{aff-mono}
use Rattle.share_laws.proofs.Counted.{Outcome, silent, such, outcome-such}
use Rattle.share_laws.proofs.Items.{at_rest, due_at-is, lowered_first, claim_below}
use Rattle.share_laws.proofs.Moving.{Balanced, books_at}
use Rattle.share_laws.proofs.PartShares.{PaysBy, silent as unheard, still, bare, listed, Pays}
use Rattle.share_laws.proofs.Payouts.{TransferDue, ClaimDue}
use Rattle.share_laws.proofs.Possible.{possible-final}
use Rattle.share_laws.proofs.Steps.{Moved-transfer, Moved-claim, Moved-outside}

cond-zero : (t : Bool) (k : ℕ) → k ≡ 0 → cond t k 0 ≡ 0
cond-zero true k h = h
cond-zero false k h = refl

gain-none : (to d : Dest) → gain to d 0 ≡ 0
gain-none to d = cond-zero (is_same to d) 0 refl

lost-none : (f n : List ℕ) → lost f n 0 ≡ 0
lost-none f n = cond-zero (bytes_eq f n) 0 refl

-- nothing is paid, and balances don't fall
pub Moved-still : (b c : Books) (f s : List ℕ) (to : Dest) → ((n : List ℕ) → b.held n ≤ c.held n) → ((n : List ℕ) → c.items n ≡ b.items n) →
    ((n : List ℕ) → c.counts n ≡ b.counts n) → ((n : List ℕ) → c.list n ≡ b.list n) → ((n : List ℕ) (d : Dest) → c.owed n d ≡ b.owed n d) →
    Moved b c f s to 0
Moved-still b c f s to held items counts lists opens = record {
  held = λ n. let h = held n in let g = gain-none to (Channel n) in omega (arith, h, g);
  spends = λ n r q h le d.
      let l = lost-none f n in
      let up : aff (b.items n) r d ≤ aff (b.items n) q d = aff-mono (b.items n) r q d (omega (arith, le, l)) in
      let same : aff (c.items n) q d ≡ aff (b.items n) q d = ap (λ (xs : List Item). aff xs q d) (items n) in
      omega (arith, up, same);
  amounts = λ n d. let e : amt (c.items n) d ≡ amt (b.items n) d = ap (λ (xs : List Item). amt xs d) (items n) in omega (arith, e);
  falls = λ n d. let e : amt (c.items n) d ≡ amt (b.items n) d = ap (λ (xs : List Item). amt xs d) (items n) in omega (arith, e);
  names = λ n d. ap (λ (xs : List Item). has xs d) (items n);
  counts = counts;
  lists = lists;
  opens = opens;
}

-- a final channel doesn't count, or has what is left of its outcome under each choice
pub final_outcome : (r : Rules) (past : List Entry) (front : List Line) (fs : List FixedParts) (n : List ℕ) (o : List AssetOutcome) → is_final (mode r n past) ≡ true → settled r n past ≡ Some o →
    (taken : List (List ℕ)) → Outcome (λ x. x ≡ rest_outcome (paid_of past n) o) (counts_in (counting_among r past front fs) n) (outcome_in (counting_among r past front fs) taken n)
final_outcome r past front fs n o final is taken = outcome-such (λ x. x ≡ rest_outcome (paid_of past n) o) taken n r past front fs (λ f i e.
    subst (λ (m : List ℕ). AllByRecursion (λ x. x ≡ rest_outcome (paid_of past m) o) (possible r past front f)) e
    (possible-final r past front f o (subst (λ (m : List ℕ). is_final (mode r m past) ≡ true) (sym e) final) (subst (λ (m : List ℕ). settled r m past ≡ Some o) (sym e) is)))

-- what it has of an asset
pub shape_left : (p : ℕ → ℕ → ℕ) (o x : List AssetOutcome) (a : ℕ) (shape : Shape) → x ≡ rest_outcome p o → shape_in o a ≡ Some shape → shape_in x a ≡ Some (rest_shape (p a) shape)
shape_left p o x a shape e h = ap (λ (y : List AssetOutcome). shape_in y a) e ∙ (shape_rest p o a ∙ ap (option_map (rest_shape (p a))) h)

no_guarantee : (x : List AssetOutcome) (a : ℕ) (items : List Item) (joint : List ℕ) (list : List Dest) → shape_in x a ≡ Some (Allocation items) → IsPromise joint list (shape_in x a) → ⊥
no_guarantee x a items joint list e h = let p : Allocation items ≡ Guarantee joint list = subst (λ (o : Option Shape). IsPromise joint list o) e h in cc

same_guarantee : (x : List AssetOutcome) (a : ℕ) (target joint : List ℕ) (named list : List Dest) → shape_in x a ≡ Some (Guarantee target named) → IsPromise joint list (shape_in x a) →
    (target ≡ joint) × (named ≡ list)
same_guarantee x a target joint named list e h =
    let p : Guarantee target named ≡ Guarantee joint list = subst (λ (o : Option Shape). IsPromise joint list o) e h in
    ((let q = p in cc), (let q = p in cc))

-- items of s that are none stay so when one is lowered
none_lowered : (b : Books) (s : List ℕ) (place k : ℕ) → b.items s ≡ [] → (n : List ℕ) → cond (bytes_eq s n) (lower_at (b.items n) place k) (b.items n) ≡ b.items n
none_lowered b s place k e n = go (bytes_eq s n) (same_bytes s n)
  where
    go : (t : Bool) → (t ≡ true → s ≡ n) → cond t (lower_at (b.items n) place k) (b.items n) ≡ b.items n
    go true is =
        let none : b.items n ≡ [] = subst (λ (m : List ℕ). b.items m ≡ []) (is refl) e in
        ap (λ (xs : List Item). lower_at xs place k) none ∙ sym none
    go false is = refl

-- a guarantor doesn't count, or guarantees that
abbrev Promised : Bool → List AssetOutcome → ℕ → List ℕ → List Dest → Type 0
Promised counted o a target list = ((counted ≡ false) × (o ≡ [])) ⊎ (shape_in o a ≡ Some (Guarantee target list))

module _ (r : Rules) (e : Entry) (past : List Entry) (front : List Line) (fs : List FixedParts) (me : List ℕ) (a : ℕ) (taken : List (List ℕ)) where
  abbrev b : Books
  b = books_at r past front fs a taken

  abbrev c : Books
  c = books_at r (e ∷ past) front fs a taken

  -- an amount of another asset is paid
  pub elsewhere : (f s : List ℕ) (to : Dest) (place k : ℕ) → Balanced past e me f to a 0 → ((n : List ℕ) → c.items n ≡ cond (bytes_eq s n) (b.items n) (b.items n)) →
      ((n : List ℕ) → c.counts n ≡ b.counts n) → ((n : List ℕ) → c.list n ≡ b.list n) → Pays b c (counting_among r past front fs) me (paid_to past me a) (paid_to (e ∷ past) me a)
  elsewhere f s to place k bal items counts lists = record {
    payer = f;
    owner = s;
    to = to;
    amount = 0;
    moved = Moved-still b c f s to (λ n. let h = bal.held n in let l = lost-none f n in let g = gain-none to (Channel n) in omega (arith, h, l, g))
        (λ n. items n ∙ same n (bytes_eq s n)) counts lists (λ n d. refl);
    received = let p = bal.paid_is in omega (arith, p);
    guarantors = λ joint list promised. still refl;
  }
    where
      same : (n : List ℕ) (t : Bool) → cond t (b.items n) (b.items n) ≡ b.items n
      same n true = refl
      same n false = refl

  -- ---- a transfer

  pub transfers : (f : List ℕ) (outcome : List AssetOutcome) (index : ℕ) (d : Due) → is_final (mode r f past) ≡ true → settled r f past ≡ Some outcome →
      TransferDue (paid_of past f a) (held_of past f a) (shape_in outcome a) index d → Balanced past e me f d.to a d.amount →
      ((n : List ℕ) → c.items n ≡ cond (bytes_eq f n) (lower_at (b.items n) index d.amount) (b.items n)) → ((n : List ℕ) → c.counts n ≡ b.counts n) → ((n : List ℕ) → c.list n ≡ b.list n) →
      Pays b c (counting_among r past front fs) me (paid_to past me a) (paid_to (e ∷ past) me a)
  transfers f outcome index d final is due bal items counts lists =
      go (counts_in (counting_among r past front fs) f) (outcome_in (counting_among r past front fs) taken f) refl refl (final_outcome r past front fs f outcome final is taken)
    where
      go : (t : Bool) (o : List AssetOutcome) → counts_in (counting_among r past front fs) f ≡ t → outcome_in (counting_among r past front fs) taken f ≡ o →
          Outcome (λ x. x ≡ rest_outcome (paid_of past f) outcome) t o → Pays b c (counting_among r past front fs) me (paid_to past me a) (paid_to (e ∷ past) me a)
      go false o out none silent =
          let empty : b.items f ≡ [] = ap (λ (x : List AssetOutcome). items_of (shape_in x a)) none in
          record {
            payer = f;
            owner = f;
            to = d.to;
            amount = d.amount;
            moved = Moved-outside b c f d.to d.amount empty bal.held (λ n. items n ∙ none_lowered b f index d.amount empty n) counts lists (λ n x. refl);
            received = let p = bal.paid_is in omega (arith, p);
            guarantors = λ joint list promised. unheard out;
          }
      go true o counted rest (such left) =
          let shape : shape_in (outcome_in (counting_among r past front fs) taken f) a ≡ Some (Allocation (less_paid (paid_of past f a) 0 due.items)) =
          shape_left (paid_of past f) outcome _ a (Allocation due.items) (rest ∙ left) due.shape_is in
          let mine : b.items f ≡ less_paid (paid_of past f a) 0 due.items = ap items_of shape in
          let same : bytes_eq f f ≡ true = bytes_eq_self f in
          record {
            payer = f;
            owner = f;
            to = d.to;
            amount = d.amount;
            moved = Moved-transfer b c f index d.to d.amount (record {
              at = subst (λ (xs : List Item). IsAt xs index d.to) (sym mine) (at_rest (paid_of past f a) due.items index d.to due.to_is);
              amount =
                  due.amount
                  ∙ (due_same (rest_at (paid_of past f a) due.items) (amount_at (less_paid (paid_of past f a) 0 due.items)) (λ i. sym (rest_at_less_paid (paid_of past f a) due.items i)) index (held_of past f a)
                  ∙ (sym (due_at-is (less_paid (paid_of past f a) 0 due.items) index (held_of past f a))
                  ∙ ap (λ (xs : List Item). due_at xs index (held_of past f a)) (sym mine)));
              held = bal.held;
              paid_item = items f ∙ ap (λ (t : Bool). cond t (lower_at (b.items f) index d.amount) (b.items f)) same;
              others = λ n apart. items n ∙ ap (λ (t : Bool). cond t (lower_at (b.items n) index d.amount) (b.items n)) apart;
              counts = counts;
              lists = lists;
              opens = λ n x. refl;
            });
            received = let p = bal.paid_is in omega (arith, p);
            guarantors = λ joint list promised. absurd (no_guarantee (outcome_in (counting_among r past front fs) taken f) a _ joint list shape (promised taken a));
          }

  -- ---- a claim

  pub claims : (g t : List ℕ) (promise outcome : List AssetOutcome) (position : ℕ) (d : Due) → is_final (mode r g past) ≡ true → settled r g past ≡ Some promise →
      is_final (mode r t past) ≡ true → settled r t past ≡ Some outcome →
      (due : ClaimDue (paid_of past t a) (held_of past g a) (shape_in promise a) t (shape_in outcome a) position d) → Balanced past e me g d.to a d.amount →
      ((n : List ℕ) → c.items n ≡ cond (bytes_eq t n) (lower_at (b.items n) (place_of due.items d.to) d.amount) (b.items n)) → ((n : List ℕ) → c.counts n ≡ b.counts n) →
      ((n : List ℕ) → c.list n ≡ b.list n) → Pays b c (counting_among r past front fs) me (paid_to past me a) (paid_to (e ∷ past) me a)
  claims g t promise outcome position d final_g is_g final_t is_t due bal items counts lists =
      go (counts_in (counting_among r past front fs) t) (outcome_in (counting_among r past front fs) taken t) refl refl (final_outcome r past front fs t outcome final_t is_t taken)
    where
      of_guarantor : (u : Bool) (o : List AssetOutcome) → counts_in (counting_among r past front fs) g ≡ u → outcome_in (counting_among r past front fs) taken g ≡ o →
          Outcome (λ x. x ≡ rest_outcome (paid_of past g) promise) u o → Promised (counts_in (counting_among r past front fs) g) (outcome_in (counting_among r past front fs) taken g) a t due.list
      of_guarantor false o h none silent = inl (h, none)
      of_guarantor true o h rest (such left) = inr (shape_left (paid_of past g) promise _ a (Guarantee t due.list) (rest ∙ left) due.promise_is)

      promised : Promised (counts_in (counting_among r past front fs) g) (outcome_in (counting_among r past front fs) taken g) a t due.list
      promised = of_guarantor (counts_in (counting_among r past front fs) g) (outcome_in (counting_among r past front fs) taken g) refl refl (final_outcome r past front fs g promise final_g is_g taken)

      no_items : Promised (counts_in (counting_among r past front fs) g) (outcome_in (counting_among r past front fs) taken g) a t due.list → b.items g ≡ []
      no_items (inl (h, none)) = ap (λ (x : List AssetOutcome). items_of (shape_in x a)) none
      no_items (inr shape) = ap items_of shape

      to_none : b.items t ≡ [] → Promised (counts_in (counting_among r past front fs) g) (outcome_in (counting_among r past front fs) taken g) a t due.list → (joint : List ℕ) (list : List Dest) → Guarantees (counting_among r past front fs) g joint list → PaysBy b c g g d.to d.amount joint list
      to_none empty (inl (h, none)) joint list p = unheard h
      to_none empty (inr shape) joint list p =
          bare (subst (λ (n : List ℕ). b.items n ≡ []) (same_guarantee (outcome_in (counting_among r past front fs) taken g) a t joint due.list list shape (p taken a)).0 empty)

      to_listed : b.items t ≡ less_paid (paid_of past t a) 0 due.items → Promised (counts_in (counting_among r past front fs) g) (outcome_in (counting_among r past front fs) taken g) a t due.list → (joint : List ℕ) (list : List Dest) → Guarantees (counting_among r past front fs) g joint list →
          PaysBy b c g t d.to d.amount joint list
      to_listed mine (inl (h, none)) joint list p = unheard h
      to_listed mine (inr shape) joint list p = at_joint joint list (same_guarantee (outcome_in (counting_among r past front fs) taken g) a t joint due.list list shape (p taken a))
        where
          left : List Item
          left = less_paid (paid_of past t a) 0 due.items

          here : b.list g ≡ due.list
          here = ap list_of shape

          first : place_of left d.to ≡ place_of due.items d.to
          first = place_less_paid (paid_of past t a) 0 due.items d.to

          enough : d.amount ≤ amount_at left (place_of left d.to)
          enough = subst (λ (i : ℕ). d.amount ≤ amount_at left i) (sym first) (subst (λ (m : ℕ). d.amount ≤ m) (sym (rest_at_less_paid (paid_of past t a) due.items (place_of due.items d.to))) due.left)

          after : c.items t ≡ lower_at left (place_of left d.to) d.amount
          after =
              items t
              ∙ (ap (λ (u : Bool). cond u (lower_at (b.items t) (place_of due.items d.to) d.amount) (b.items t)) (bytes_eq_self t)
              ∙ (ap (λ (xs : List Item). lower_at xs (place_of due.items d.to) d.amount) mine
              ∙ ap (λ (i : ℕ). lower_at left i d.amount) (sym first)))

          exact : (x : Dest) → amt (c.items t) x + gain d.to x d.amount ≤ amt (b.items t) x
          exact x =
              subst (λ (xs : List Item). amt (c.items t) x + gain d.to x d.amount ≤ amt xs x) (sym mine)
              (subst (λ (xs : List Item). amt xs x + gain d.to x d.amount ≤ amt left x) (sym after) (lowered_first left d.to d.amount x enough))

          below : d.amount ≤ held_of past g a - before (λ i. amt (b.items t) (dest_in due.list i)) position
          below =
              subst (λ (xs : List Item). d.amount ≤ held_of past g a - before (λ i. amt xs (dest_in due.list i)) position) (sym mine)
              (claim_below (paid_of past t a) due.items due.list position (held_of past g a) d.amount due.amount)

          at_joint : (joint : List ℕ) (list : List Dest) → (t ≡ joint) × (due.list ≡ list) → PaysBy b c g t d.to d.amount joint list
          at_joint joint list is =
              subst (λ (n : List ℕ). PaysBy b c g t d.to d.amount n list) is.0
              (subst (λ (ds : List Dest). PaysBy b c g t d.to d.amount t ds) is.1
              (listed position refl here due.listed exact below))

      go : (u : Bool) (o : List AssetOutcome) → counts_in (counting_among r past front fs) t ≡ u → outcome_in (counting_among r past front fs) taken t ≡ o →
          Outcome (λ x. x ≡ rest_outcome (paid_of past t) outcome) u o → Pays b c (counting_among r past front fs) me (paid_to past me a) (paid_to (e ∷ past) me a)
      go false o h none silent =
          let empty : b.items t ≡ [] = ap (λ (x : List AssetOutcome). items_of (shape_in x a)) none in
          record {
            payer = g;
            owner = g;
            to = d.to;
            amount = d.amount;
            moved = Moved-outside b c g d.to d.amount (no_items promised) bal.held (λ n. items n ∙ none_lowered b t (place_of due.items d.to) d.amount empty n) counts lists (λ n x. refl);
            received = let p = bal.paid_is in omega (arith, p);
            guarantors = to_none empty promised;
          }
      go true o h rest (such left) =
          let shape : shape_in (outcome_in (counting_among r past front fs) taken t) a ≡ Some (Allocation (less_paid (paid_of past t a) 0 due.items)) =
          shape_left (paid_of past t) outcome _ a (Allocation due.items) (rest ∙ left) due.shape_is in
          let mine : b.items t ≡ less_paid (paid_of past t a) 0 due.items = ap items_of shape in
          record {
            payer = g;
            owner = t;
            to = d.to;
            amount = d.amount;
            moved = Moved-claim b c g t (place_of due.items d.to) d.to d.amount (record {
              at = subst (λ (xs : List Item). IsAt xs (place_of due.items d.to) d.to) (sym mine) (at_rest (paid_of past t a) due.items (place_of due.items d.to) d.to due.item);
              no_items = no_items promised;
              held = bal.held;
              paid_item = items t ∙ ap (λ (u : Bool). cond u (lower_at (b.items t) (place_of due.items d.to) d.amount) (b.items t)) (bytes_eq_self t);
              others = λ n apart. items n ∙ ap (λ (u : Bool). cond u (lower_at (b.items n) (place_of due.items d.to) d.amount) (b.items n)) apart;
              counts = counts;
              lists = lists;
              opens = λ n x. refl;
            });
            received = let p = bal.paid_is in omega (arith, p);
            guarantors = to_listed mine promised;
          }
