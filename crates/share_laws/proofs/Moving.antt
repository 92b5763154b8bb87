-- What a payment does to the balances, and to the books under each choice.
use Rattle.std.proofs.Common.{◌≡◌, ℕ, ◌+◌, ◌-◌, ◌≤◌, Bool, true, false, cond, List, [], ◌∷◌, ◌++◌, refl, sym, ◌∙◌, ap, subst, arith}
use Rattle.std.specs.Prelude.{◌==◌, map, Option, Some, None}
use Rattle.std.specs.Option.{option_map}
use Rattle.std.specs.Str.{bytes_eq}
use Rattle.std.proofs.lemmas.Bool.{eqb-true}
use Rattle.channel_values.specs.Parts.{FixedParts}
use Rattle.channel_values.specs.declared.value.AssetOutcome.{AssetOutcome}
use Rattle.channel_values.specs.declared.value.Dest.{Dest}
use Rattle.channel_values.specs.declared.value.Shape.{Shape}
use Rattle.channel_values.specs.declared.value.Shape.TheVariants.{Allocation, Guarantee}
use Rattle.channel_values.specs.declared.value.Dest.TheVariants.{Person, Channel}
use Rattle.channel_values.specs.Rules.{Rules}
use Rattle.call_history.specs.Dues.{shape_in}
use Rattle.call_history.specs.Flows.{AreCovered, HasMoved, held_in, paid_in}
use Rattle.call_history.specs.Rest.{lower_at, lower_shape, lower_outcome}
use Rattle.call_history.specs.History.{flow_of, flows_of, held_of, paid_to}
use Rattle.call_history.specs.declared.funds.Flow.{Flow}
use Rattle.call_history.specs.declared.entry.Entry.{Entry}
use Rattle.call_history.proofs.Legality.{moved_cons}
use Rattle.call_history.proofs.Names.{same_bytes}
use Rattle.channel_safety.specs.Journals.{Line}
use Rattle.share_laws.specs.Books.{Books, outcome_in, books_under}
use Rattle.funding_plans.specs.Shapes.{items_of, list_of}
use Rattle.share_laws.specs.Places.{possible, counting_among, balances}
use Rattle.share_laws.specs.Moved.{gain, lost}
use Rattle.share_laws.specs.Sound.{IsPromise}
use Rattle.share_laws.proofs.Counted.{outcome-changed, counts-changed}
use Rattle.share_laws.proofs.Items.{shape-lowered, items-lowered, list-lowered}
use Rattle.share_laws.proofs.Possible.{lowered}

-- what a payment of an asset is in the asset a
abbrev pub of_asset : (asset a k : ℕ) → ℕ
of_asset asset a k = cond (asset == a) k 0

-- the balances of an asset before and after a payment, and what the person me was paid
pub record Balanced (past : List Entry) (e : Entry) (me f : List ℕ) (to : Dest) (a k : ℕ) : Type 0 where
  pub held : (n : List ℕ) → held_of (e ∷ past) n a + lost f n k ≡ held_of past n a + gain to (Channel n) k
  pub paid_is : paid_to (e ∷ past) me a ≡ paid_to past me a + gain to (Person me) k

pub balanced : (past : List Entry) (e : Entry) (me f : List ℕ) (to : Dest) (asset k : ℕ) → AreCovered (flows_of past) →
    flow_of e.op e.reply ≡ record { from = Some f; to = to; asset = asset; amount = k } ∷ [] → k ≤ held_of past f asset → (a : ℕ) →
    Balanced past e me f to a (of_asset asset a k)
balanced past e me f to asset k covered flow within a =
    record {
      held = λ n.
          let now : held_of (e ∷ past) n a ≡ held_in (x ∷ flows_of past) n a = ap (λ (fs : List Flow). held_in fs n a) all in
          let m : held_in (x ∷ flows_of past) n a ≡ (held_of past n a + gain to (Channel n) (of_asset asset a k)) - lost f n (of_asset asset a k) = moved.held n a in
          let l : lost f n (of_asset asset a k) ≤ held_of past n a = there n (bytes_eq f n) (same_bytes f n) in
          omega (arith, now, m, l);
      paid_is = ap (λ (fs : List Flow). paid_in fs me a) all ∙ moved.paid me a;
    }
  where
    x : Flow
    x = record { from = Some f; to = to; asset = asset; amount = k }

    all : flows_of (e ∷ past) ≡ x ∷ flows_of past
    all = ap (λ (fs : List Flow). fs ++ flows_of past) flow

    moved : HasMoved (flows_of past) x (x ∷ flows_of past)
    moved = moved_cons (flows_of past) x covered within

    enough : (t : Bool) → (t ≡ true → asset ≡ a) → cond t k 0 ≤ held_of past f a
    enough true is = subst (λ (y : ℕ). k ≤ held_of past f y) (is refl) within
    enough false is = omega arith

    there : (n : List ℕ) (t : Bool) → (t ≡ true → f ≡ n) → cond t (of_asset asset a k) 0 ≤ held_of past n a
    there n true is = subst (λ (y : List ℕ). of_asset asset a k ≤ held_of past y a) (is refl) (enough (asset == a) (eqb-true asset a))
    there n false is = omega arith

-- ---- the books of the asset a under a choice, of the channels of these that count

abbrev pub books_at : Rules → List Entry → List Line → List FixedParts → (a : ℕ) → (taken : List (List ℕ)) → Books
books_at r past front fs a taken = books_under (balances past a) (counting_among r past front fs) a taken

-- what is guaranteed stays so when an item is lowered
promise-lowered : (joint : List ℕ) (list : List Dest) (t : Bool) (shape : Option Shape) (place k : ℕ) → IsPromise joint list shape →
    IsPromise joint list (option_map (λ x. cond t (lower_shape x place k) x) shape)
promise-lowered joint list t None place k p = tt
promise-lowered joint list true (Some (Allocation items)) place k p = cc
promise-lowered joint list true (Some (Guarantee target named)) place k p = p
promise-lowered joint list false (Some shape) place k p = p

pub lowered-none : (s : List ℕ) (asset place k : ℕ) (n : List ℕ) → lowered s asset place k n [] ≡ []
lowered-none s asset place k n = go (bytes_eq s n)
  where
    go : (t : Bool) → cond t (lower_outcome [] asset place k) [] ≡ []
    go true = refl
    go false = refl

module _ (r : Rules) (e : Entry) (past : List Entry) (front : List Line) (fs : List FixedParts) (s : List ℕ) (asset place k : ℕ)
    (changed : (f : FixedParts) → possible r (e ∷ past) front f ≡ map (lowered s asset place k (r.named f)) (possible r past front f))
    (a : ℕ) (taken : List (List ℕ)) where
  outcome-after : (n : List ℕ) → outcome_in (counting_among r (e ∷ past) front fs) taken n ≡ lowered s asset place k n (outcome_in (counting_among r past front fs) taken n)
  outcome-after n = outcome-changed (lowered s asset place k) (lowered-none s asset place k) r past (e ∷ past) front changed fs taken n

  pub items-after : (n : List ℕ) → (books_at r (e ∷ past) front fs a taken).items n
      ≡ cond (bytes_eq s n) (cond (asset == a) (lower_at ((books_at r past front fs a taken).items n) place k) ((books_at r past front fs a taken).items n)) ((books_at r past front fs a taken).items n)
  items-after n = ap (λ (o : List AssetOutcome). items_of (shape_in o a)) (outcome-after n) ∙ go (bytes_eq s n) (outcome_in (counting_among r past front fs) taken n)
    where
      go : (t : Bool) (o : List AssetOutcome) → items_of (shape_in (cond t (lower_outcome o asset place k) o) a)
          ≡ cond t (cond (asset == a) (lower_at (items_of (shape_in o a)) place k) (items_of (shape_in o a))) (items_of (shape_in o a))
      go true o = ap items_of (shape-lowered o asset place k a) ∙ items-lowered (asset == a) (shape_in o a) place k
      go false o = refl

  pub list-after : (n : List ℕ) → (books_at r (e ∷ past) front fs a taken).list n ≡ (books_at r past front fs a taken).list n
  list-after n = ap (λ (o : List AssetOutcome). list_of (shape_in o a)) (outcome-after n) ∙ go (bytes_eq s n) (outcome_in (counting_among r past front fs) taken n)
    where
      go : (t : Bool) (o : List AssetOutcome) → list_of (shape_in (cond t (lower_outcome o asset place k) o) a) ≡ list_of (shape_in o a)
      go true o = ap list_of (shape-lowered o asset place k a) ∙ list-lowered (asset == a) (shape_in o a) place k
      go false o = refl

  pub counts-after : (n : List ℕ) → (books_at r (e ∷ past) front fs a taken).counts n ≡ (books_at r past front fs a taken).counts n
  counts-after n = counts-changed (lowered s asset place k) (lowered-none s asset place k) r past (e ∷ past) front changed fs n

  pub promise-after : (joint : List ℕ) (list : List Dest) (n : List ℕ) → IsPromise joint list (shape_in (outcome_in (counting_among r past front fs) taken n) a) →
      IsPromise joint list (shape_in (outcome_in (counting_among r (e ∷ past) front fs) taken n) a)
  promise-after joint list n p = subst (λ (o : List AssetOutcome). IsPromise joint list (shape_in o a)) (sym (outcome-after n)) (go (bytes_eq s n) (outcome_in (counting_among r past front fs) taken n) p)
    where
      go : (t : Bool) (o : List AssetOutcome) → IsPromise joint list (shape_in o a) → IsPromise joint list (shape_in (cond t (lower_outcome o asset place k) o) a)
      go true o h = subst (λ (x : Option Shape). IsPromise joint list x) (sym (shape-lowered o asset place k a)) (promise-lowered joint list (asset == a) (shape_in o a) place k h)
      go false o h = h
