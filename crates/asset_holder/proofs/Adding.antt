-- What one more flow makes of the tables.
use Rattle.std.proofs.Common.{◌≡◌, ◌+◌, ◌<◌, ◌^◌, ℕ, List, [], ◌∷◌, ◌++◌, Bool, true, false, cond, Option, Some, None, refl, sym, ◌∙◌, ap, subst, arith}
use Rattle.std.proofs.lemmas.Slice.Eq.{bytes_eq-Decides}
use Rattle.std.specs.Prelude.{◌==◌, ◌&&◌, ◌||◌, nat_eq, is_some, unwrap_or}
use Rattle.std.specs.Map.{lookup}
use Rattle.std.specs.Str.{bytes_eq}
use Rattle.channel_values.specs.Outcomes.{is_same}
use Rattle.channel_values.specs.declared.value.Dest.{Dest}
use Rattle.channel_values.specs.declared.value.Dest.TheVariants.{Person, Channel}
use Rattle.call_history.specs.Flows.{is_person, is_outside, comes_from, carries, brings, takes, enters}
use Rattle.call_history.specs.declared.funds.Flow.{Flow}
use Rattle.asset_holder.specs.Amounts.{amount_in}
use Rattle.asset_holder.specs.Receipts.{Pair, is_pair, is_there, add_new, receivers_of}
use Rattle.asset_holder.specs.Sums.{Key, same_key, has, AddsTo, pays_person, AreReceipts, AreSources}
use Rattle.asset_holder.proofs.Pairs.{both_true, equal_nats, there_new}
use Rattle.asset_holder.proofs.Fronts.{receivers_push, sum_push, small_push}

-- ---- keys

pub key_is : (j k : Key) → same_key j k ≡ true → j ≡ k
key_is j k e =
    let parts = both_true (bytes_eq j.0 k.0) (j.1 == k.1) e in
    let name : j.0 ≡ k.0 = (bytes_eq-Decides j.0 k.0).0 parts.0 in
    let asset : j.1 ≡ k.1 = equal_nats j.1 k.1 parts.1 in
    λ i. (name i, asset i)

cond_and : (b d : Bool) (n : ℕ) → cond (b && d) n 0 ≡ cond b (cond d n 0) 0
cond_and true d n = refl
cond_and false d n = refl

or_true : (b : Bool) → true ≡ (b || true)
or_true true = refl
or_true false = refl

or_none : (b : Bool) → b ≡ (b || false)
or_none true = refl
or_none false = refl

-- ---- maps

sum_added : {K : Type 0} (eq : K → K → Bool) → ((j k : K) → eq j k ≡ true → j ≡ k) → (old new : List (K × ℕ)) (key : K) (more : ℕ) → AddsTo eq old key more new
    → (k : K) → amount_in eq new k ≡ amount_in eq old k + cond (eq key k) more 0
sum_added eq decided old new key more added k = ap (λ o. unwrap_or o 0) (added k) ∙ go (eq key k) refl
  where
    go : (b : Bool) → eq key k ≡ b → unwrap_or (cond b (Some (amount_in eq old key + more)) (lookup (eq k) old)) 0 ≡ amount_in eq old k + cond b more 0
    go true e = ap (λ x. amount_in eq old x + more) (decided key k e)
    go false e = omega arith

known_added : {K : Type 0} (eq : K → K → Bool) (old new : List (K × ℕ)) (key : K) (more : ℕ) → AddsTo eq old key more new
    → (k : K) → has eq new k ≡ (has eq old k || eq key k)
known_added eq old new key more added k = ap is_some (added k) ∙ go (eq key k)
  where
    go : (b : Bool) → is_some (cond b (Some (amount_in eq old key + more)) (lookup (eq k) old)) ≡ (has eq old k || b)
    go true = or_true (has eq old k)
    go false = or_none (has eq old k)

-- ---- what is received

module _ (flows : List Flow) (f : Flow) (amount : ℕ) (is_amount : amount ≡ f.amount) (fits : amount < 2 ^ 64)
    (pairs new_pairs : List Pair) (channels persons : List (Key × ℕ)) (paid : List (ℕ × ℕ)) (was : AreReceipts flows pairs channels persons paid) where
  seen : (known : Bool) → known ≡ is_there (f.to, f.asset) pairs → new_pairs ≡ cond known pairs (pairs ++ (f.to, f.asset) ∷ []) → new_pairs ≡ add_new pairs (f.to, f.asset)
  seen known is noted = noted ∙ ap (λ (b : Bool). cond b pairs (pairs ++ (f.to, f.asset) ∷ [])) is

  received : new_pairs ≡ add_new pairs (f.to, f.asset) → new_pairs ≡ receivers_of (flows ++ f ∷ [])
  received new = new ∙ ap (λ (ps : List Pair). add_new ps (f.to, f.asset)) was.pairs_are ∙ sym (receivers_push flows f)

  there : new_pairs ≡ add_new pairs (f.to, f.asset) → (pair : Pair) → is_there pair new_pairs ≡ (is_there pair pairs || is_pair (f.to, f.asset) pair)
  there new pair = ap (is_there pair) new ∙ there_new pair (f.to, f.asset) pairs

  pub by_channel : (channel : List ℕ) → f.to ≡ Channel channel → (new_channels : List (Key × ℕ))
      → (known : Bool) → known ≡ has same_key channels (channel, f.asset) → new_pairs ≡ cond known pairs (pairs ++ (f.to, f.asset) ∷ [])
      → AddsTo same_key channels (channel, f.asset) amount new_channels
      → AreReceipts (flows ++ f ∷ []) new_pairs new_channels persons paid
  by_channel channel to new_channels known is noted amount_added =
      let added : AddsTo same_key channels (channel, f.asset) f.amount new_channels = subst (λ n. AddsTo same_key channels (channel, f.asset) n new_channels) is_amount amount_added in
      let new : new_pairs ≡ add_new pairs (f.to, f.asset) =
      seen known (is ∙ was.known_channels (channel, f.asset) ∙ ap (λ (t : Dest). is_there (t, f.asset) pairs) (sym to)) noted in
      record {
        pairs_are = received new;
        to_channels = λ k.
            omega (
              arith,
              sum_added same_key key_is channels new_channels (channel, f.asset) f.amount added k,
              was.to_channels k,
              sum_push (brings (Channel k.0) k.1) flows f,
              ap (λ (t : Dest). cond (is_same t (Channel k.0)) (carries k.1 f) 0) to,
              cond_and (bytes_eq channel k.0) (f.asset == k.1) f.amount,
            );
        to_persons = λ k.
            omega (
              arith,
              was.to_persons k,
              sum_push (brings (Person k.0) k.1) flows f,
              ap (λ (t : Dest). cond (is_same t (Person k.0)) (carries k.1 f) 0) to,
            );
        to_all = λ asset.
            omega (arith, was.to_all asset, sum_push (pays_person asset) flows f, ap (λ (t : Dest). cond (is_person t) (carries asset f) 0) to);
        known_channels = λ k.
            known_added same_key channels new_channels (channel, f.asset) f.amount added k
            ∙ ap (λ (b : Bool). b || same_key (channel, f.asset) k) (was.known_channels k)
            ∙ sym (there new (Channel k.0, k.1) ∙ ap (λ (t : Dest). is_there (Channel k.0, k.1) pairs || is_pair (t, f.asset) (Channel k.0, k.1)) to);
        known_persons = λ k.
            was.known_persons k ∙ or_none (is_there (Person k.0, k.1) pairs)
            ∙ sym (there new (Person k.0, k.1) ∙ ap (λ (t : Dest). is_there (Person k.0, k.1) pairs || is_pair (t, f.asset) (Person k.0, k.1)) to);
        small = small_push flows f was.small (omega (arith, is_amount, fits));
      }

  pub by_person : (person : List ℕ) → f.to ≡ Person person → (new_persons : List (Key × ℕ)) (new_paid : List (ℕ × ℕ))
      → (known : Bool) → known ≡ has same_key persons (person, f.asset) → new_pairs ≡ cond known pairs (pairs ++ (f.to, f.asset) ∷ [])
      → AddsTo same_key persons (person, f.asset) amount new_persons → AddsTo nat_eq paid f.asset amount new_paid
      → AreReceipts (flows ++ f ∷ []) new_pairs channels new_persons new_paid
  by_person person to new_persons new_paid known is noted amount_added amount_paid =
      let added : AddsTo same_key persons (person, f.asset) f.amount new_persons = subst (λ n. AddsTo same_key persons (person, f.asset) n new_persons) is_amount amount_added in
      let paid_more : AddsTo nat_eq paid f.asset f.amount new_paid = subst (λ n. AddsTo nat_eq paid f.asset n new_paid) is_amount amount_paid in
      let new : new_pairs ≡ add_new pairs (f.to, f.asset) =
      seen known (is ∙ was.known_persons (person, f.asset) ∙ ap (λ (t : Dest). is_there (t, f.asset) pairs) (sym to)) noted in
      record {
        pairs_are = received new;
        to_channels = λ k.
            omega (
              arith,
              was.to_channels k,
              sum_push (brings (Channel k.0) k.1) flows f,
              ap (λ (t : Dest). cond (is_same t (Channel k.0)) (carries k.1 f) 0) to,
            );
        to_persons = λ k.
            omega (
              arith,
              sum_added same_key key_is persons new_persons (person, f.asset) f.amount added k,
              was.to_persons k,
              sum_push (brings (Person k.0) k.1) flows f,
              ap (λ (t : Dest). cond (is_same t (Person k.0)) (carries k.1 f) 0) to,
              cond_and (bytes_eq person k.0) (f.asset == k.1) f.amount,
            );
        to_all = λ asset.
            omega (
              arith,
              sum_added nat_eq equal_nats paid new_paid f.asset f.amount paid_more asset,
              was.to_all asset,
              sum_push (pays_person asset) flows f,
              ap (λ (t : Dest). cond (is_person t) (carries asset f) 0) to,
            );
        known_channels = λ k.
            was.known_channels k ∙ or_none (is_there (Channel k.0, k.1) pairs)
            ∙ sym (there new (Channel k.0, k.1) ∙ ap (λ (t : Dest). is_there (Channel k.0, k.1) pairs || is_pair (t, f.asset) (Channel k.0, k.1)) to);
        known_persons = λ k.
            known_added same_key persons new_persons (person, f.asset) f.amount added k
            ∙ ap (λ (b : Bool). b || same_key (person, f.asset) k) (was.known_persons k)
            ∙ sym (there new (Person k.0, k.1) ∙ ap (λ (t : Dest). is_there (Person k.0, k.1) pairs || is_pair (t, f.asset) (Person k.0, k.1)) to);
        small = small_push flows f was.small (omega (arith, is_amount, fits));
      }

-- ---- where it comes from

module _ (flows : List Flow) (f : Flow) (amount : ℕ) (is_amount : amount ≡ f.amount) (fits : amount < 2 ^ 64)
    (spent : List (Key × ℕ)) (deposited : List (ℕ × ℕ)) (was : AreSources flows spent deposited) where
  pub by_source : (source : List ℕ) → f.from ≡ Some source → (new : List (Key × ℕ)) → AddsTo same_key spent (source, f.asset) amount new
      → AreSources (flows ++ f ∷ []) new deposited
  by_source source from new amount_added =
      let added : AddsTo same_key spent (source, f.asset) f.amount new = subst (λ n. AddsTo same_key spent (source, f.asset) n new) is_amount amount_added in
      record {
        of_channels = λ k.
            omega (
              arith,
              sum_added same_key key_is spent new (source, f.asset) f.amount added k,
              was.of_channels k,
              sum_push (takes k.0 k.1) flows f,
              ap (λ (o : Option (List ℕ)). cond (comes_from k.0 o) (carries k.1 f) 0) from,
              cond_and (bytes_eq source k.0) (f.asset == k.1) f.amount,
            );
        of_outside = λ asset.
            omega (arith, was.of_outside asset, sum_push (enters asset) flows f, ap (λ (o : Option (List ℕ)). cond (is_outside o) (carries asset f) 0) from);
        small = small_push flows f was.small (omega (arith, is_amount, fits));
      }

  pub from_outside : f.from ≡ None → (new : List (ℕ × ℕ)) → AddsTo nat_eq deposited f.asset amount new → AreSources (flows ++ f ∷ []) spent new
  from_outside from new amount_added =
      let added : AddsTo nat_eq deposited f.asset f.amount new = subst (λ n. AddsTo nat_eq deposited f.asset n new) is_amount amount_added in
      record {
        of_channels = λ k.
            omega (arith, was.of_channels k, sum_push (takes k.0 k.1) flows f, ap (λ (o : Option (List ℕ)). cond (comes_from k.0 o) (carries k.1 f) 0) from);
        of_outside = λ asset.
            omega (
              arith,
              sum_added nat_eq equal_nats deposited new f.asset f.amount added asset,
              was.of_outside asset,
              sum_push (enters asset) flows f,
              ap (λ (o : Option (List ℕ)). cond (is_outside o) (carries asset f) 0) from,
            );
        small = small_push flows f was.small (omega (arith, is_amount, fits));
      }
