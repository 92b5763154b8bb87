use Rattle.std.proofs.Common.{◌≡◌, ℕ, zero, suc, ◌+◌, ◌-◌, ◌≤◌, Bool, true, false, ◌||◌, List, [], ◌∷◌, refl, sym, ◌∙◌, ap, subst, arith, cond, inl, inr, ◌⊎◌}
use Rattle.std.proofs.lemmas.Slice.Eq.{bytes_eq-Decides}
use Rattle.channel_values.specs.declared.value.Dest.{Dest}
use Rattle.channel_values.specs.declared.value.Dest.TheVariants.{Channel}
use Rattle.channel_values.specs.declared.value.Item.{Item}
use Rattle.std.specs.Str.{bytes_eq}
use Rattle.channel_values.specs.Outcomes.{is_same}
use Rattle.channel_values.specs.Amounts.{amt, has, aff}
use Rattle.call_history.specs.Rest.{lower_at}
use Rattle.share_laws.specs.Moved.{due_at, gain_at, gain, lost, spent, Moved, IsAt, Transfers, Claims}
use Rattle.share_laws.specs.Books.{Books}
use Rattle.share_laws.proofs.Amounts.{aff-mono}
use Rattle.share_laws.proofs.Lowering.{aff-transfer, aff-lower_at}
use Rattle.call_history.proofs.Names.{same_bytes}

gain_at-gain : (xs : List Item) (i : ℕ) (to d : Dest) (k : ℕ) → IsAt xs i to → gain_at xs i d k ≡ gain to d k
gain_at-gain [] i to d k h = absurd h
gain_at-gain (x ∷ xs) zero to d k h = ap (λ (y : Dest). cond (is_same y d) k 0) h
gain_at-gain (x ∷ xs) (suc i) to d k h = gain_at-gain xs i to d k h

pub has-lower_at : (xs : List Item) (i k : ℕ) (d : Dest) → has (lower_at xs i k) d ≡ has xs d
has-lower_at [] i k d = refl
has-lower_at (x ∷ xs) zero k d = refl
has-lower_at (x ∷ xs) (suc i) k d = ap (λ (t : Bool). is_same x.to d || t) (has-lower_at xs i k d)

pub amt-lower_at : (xs : List Item) (i k : ℕ) (d : Dest) → amt xs d ≤ amt (lower_at xs i k) d + gain_at xs i d k
amt-lower_at [] i k d = omega arith
amt-lower_at (x ∷ xs) zero k d = by_test (is_same x.to d)
  where
    by_test : (t : Bool) → cond t x.amount (amt xs d) ≤ cond t (x.amount - k) (amt xs d) + cond t k 0
    by_test true = omega arith
    by_test false = omega arith
amt-lower_at (x ∷ xs) (suc i) k d = by_test (is_same x.to d) (amt-lower_at xs i k d)
  where
    by_test : (t : Bool) → amt xs d ≤ amt (lower_at xs i k) d + gain_at xs i d k →
        cond t x.amount (amt xs d) ≤ cond t x.amount (amt (lower_at xs i k) d) + gain_at xs i d k
    by_test true h = omega arith
    by_test false h = h

pub lowered-falls : (xs : List Item) (i k : ℕ) (d : Dest) → amt (lower_at xs i k) d ≤ amt xs d
lowered-falls [] i k d = omega arith
lowered-falls (x ∷ xs) zero k d = by_test (is_same x.to d)
  where
    by_test : (t : Bool) → cond t (x.amount - k) (amt xs d) ≤ cond t x.amount (amt xs d)
    by_test true = omega arith
    by_test false = omega arith
lowered-falls (x ∷ xs) (suc i) k d = by_test (is_same x.to d) (lowered-falls xs i k d)
  where
    by_test : (t : Bool) → amt (lower_at xs i k) d ≤ amt xs d → cond t x.amount (amt (lower_at xs i k) d) ≤ cond t x.amount (amt xs d)
    by_test true h = omega arith
    by_test false h = h

-- where the items of s are lower_at at i and all others stay, what holds of both holds of each channel
module _ (b c : Books) (s : List ℕ) (i k : ℕ) (to : Dest) (at : IsAt (b.items s) i to)
    (paid_item : c.items s ≡ lower_at (b.items s) i k)
    (others : (n : List ℕ) → bytes_eq s n ≡ false → c.items n ≡ b.items n) where
  -- the channel of a clause is s, or has the items that it had
  each : (P : List ℕ → List Item → Type 0) → P s (lower_at (b.items s) i k) →
      ((n : List ℕ) → bytes_eq s n ≡ false → P n (b.items n)) → (n : List ℕ) → P n (c.items n)
  each P here elsewhere n = by_test (bytes_eq s n) (same_bytes s n) (others n) (elsewhere n)
    where
      by_test : (t : Bool) → (t ≡ true → s ≡ n) → (t ≡ false → c.items n ≡ b.items n) → (t ≡ false → P n (b.items n)) → P n (c.items n)
      by_test true e o w = subst (λ (y : List ℕ). P y (c.items y)) (e refl) (subst (λ (xs : List Item). P s xs) (sym paid_item) here)
      by_test false e o w = subst (λ (xs : List Item). P n xs) (sym (o refl)) (w refl)

  names : (n : List ℕ) (d : Dest) → has (c.items n) d ≡ has (b.items n) d
  names n d = each (λ m xs. has xs d ≡ has (b.items m) d) (has-lower_at (b.items s) i k d) (λ m e. refl) n

  falls : (n : List ℕ) (d : Dest) → amt (c.items n) d ≤ amt (b.items n) d
  falls n d = each (λ m xs. amt xs d ≤ amt (b.items m) d) (lowered-falls (b.items s) i k d) (λ m e. omega arith) n

  spent-here : (d : Dest) → gain_at (b.items s) i d k ≤ spent s to s d k
  spent-here d =
      let same : bytes_eq s s ≡ true = (bytes_eq-Decides s s).1 refl in
      let e : gain_at (b.items s) i d k ≡ gain to d k = gain_at-gain (b.items s) i to d k at in
      let f : spent s to s d k ≡ gain to d k = ap (λ (t : Bool). cond t (gain to d k) 0) same in
      omega arith

  amounts : (n : List ℕ) (d : Dest) → amt (b.items n) d ≤ amt (c.items n) d + spent s to n d k
  amounts n d = each (λ m xs. amt (b.items m) d ≤ amt xs d + spent s to m d k)
      (let p : amt (b.items s) d ≤ amt (lower_at (b.items s) i k) d + gain_at (b.items s) i d k = amt-lower_at (b.items s) i k d in
      let q : gain_at (b.items s) i d k ≤ spent s to s d k = spent-here d in omega arith)
      (λ m e. omega arith) n

-- a transfer moves its amount
pub Moved-transfer : (b c : Books) (f : List ℕ) (i : ℕ) (to : Dest) (k : ℕ) → Transfers b c f i to k → Moved b c f f to k
Moved-transfer b c f i to k t = record {
  held = λ n. let e : c.held n + lost f n k ≡ b.held n + gain to (Channel n) k = t.held n in omega arith;
  spends = λ n r q h le d. spends n d r q h le;
  amounts = amounts b c f i k to t.at t.paid_item t.others;
  falls = falls b c f i k to t.at t.paid_item t.others;
  names = names b c f i k to t.at t.paid_item t.others;
  counts = t.counts;
  lists = t.lists;
  opens = t.opens;
}
  where
    spends : (n : List ℕ) (d : Dest) (r q : ℕ) → b.held n ≤ r → r ≤ q + lost f n k →
        aff (b.items n) r d ≤ aff (c.items n) q d + spent f to n d k
    spends n d = each b c f i k to t.at t.paid_item t.others
        (λ m xs. (r q : ℕ) → b.held m ≤ r → r ≤ q + lost f m k → aff (b.items m) r d ≤ aff xs q d + spent f to m d k)
        (λ r q h le.
        let same : lost f f k ≡ k = ap (λ (u : Bool). cond u k 0) ((bytes_eq-Decides f f).1 refl) in
        let j : ℕ = due_at (b.items f) i (b.held f) in
        let e : k ≡ j = t.amount in
        let main : aff (b.items f) r d ≤ aff (lower_at (b.items f) i j) (r - j) d + gain_at (b.items f) i d j = aff-transfer (b.items f) i (b.held f) r d h in
        let main' : aff (b.items f) r d ≤ aff (lower_at (b.items f) i k) (r - k) d + gain_at (b.items f) i d k =
        subst (λ (y : ℕ). aff (b.items f) r d ≤ aff (lower_at (b.items f) i y) (r - y) d + gain_at (b.items f) i d y) (sym e) main in
        let up : aff (lower_at (b.items f) i k) (r - k) d ≤ aff (lower_at (b.items f) i k) q d = aff-mono (lower_at (b.items f) i k) (r - k) q d (omega arith) in
        let s : gain_at (b.items f) i d k ≤ spent f to f d k = spent-here b c f i k to t.at t.paid_item t.others d in
        omega arith)
        (λ m e r q h le.
        let none : lost f m k ≡ 0 = ap (λ (u : Bool). cond u k 0) e in
        let up : aff (b.items m) r d ≤ aff (b.items m) q d = aff-mono (b.items m) r q d (omega arith) in
        omega arith) n

-- and so does a claim
pub Moved-claim : (b c : Books) (g s : List ℕ) (i : ℕ) (to : Dest) (k : ℕ) → Claims b c g s i to k → Moved b c g s to k
Moved-claim b c g s i to k t = record {
  held = λ n. let e : c.held n + lost g n k ≡ b.held n + gain to (Channel n) k = t.held n in omega arith;
  spends = λ n r q h le d. spends n d r q h le;
  amounts = amounts b c s i k to t.at t.paid_item t.others;
  falls = falls b c s i k to t.at t.paid_item t.others;
  names = names b c s i k to t.at t.paid_item t.others;
  counts = t.counts;
  lists = t.lists;
  opens = t.opens;
}
  where
    payer : (n : List ℕ) (d : Dest) (r : ℕ) → lost g n k ≡ 0 ⊎ aff (b.items n) r d ≡ 0
    payer n d r = by_test (bytes_eq g n) (same_bytes g n)
      where
        by_test : (u : Bool) → (u ≡ true → g ≡ n) → (cond u k 0 ≡ 0) ⊎ (aff (b.items n) r d ≡ 0)
        by_test true e = inr (subst (λ (y : List ℕ). aff (b.items y) r d ≡ 0) (e refl) (ap (λ (xs : List Item). aff xs r d) t.no_items))
        by_test false e = inl refl

    spends : (n : List ℕ) (d : Dest) (r q : ℕ) → b.held n ≤ r → r ≤ q + lost g n k →
        aff (b.items n) r d ≤ aff (c.items n) q d + spent s to n d k
    spends n d = each b c s i k to t.at t.paid_item t.others
        (λ m xs. (r q : ℕ) → b.held m ≤ r → r ≤ q + lost g m k → aff (b.items m) r d ≤ aff xs q d + spent s to m d k)
        (λ r q h le. elim (payer s d r) [
          | inl none ↦
              let low : aff (b.items s) r d ≤ aff (lower_at (b.items s) i k) r d + gain_at (b.items s) i d k = aff-lower_at (b.items s) i k r d in
              let up : aff (lower_at (b.items s) i k) r d ≤ aff (lower_at (b.items s) i k) q d = aff-mono (lower_at (b.items s) i k) r q d (omega arith) in
              let w : gain_at (b.items s) i d k ≤ spent s to s d k = spent-here b c s i k to t.at t.paid_item t.others d in
              omega arith
          | inr nothing ↦ omega arith
        ])
        (λ m e r q h le. elim (payer m d r) [
          | inl none ↦ let up : aff (b.items m) r d ≤ aff (b.items m) q d = aff-mono (b.items m) r q d (omega arith) in omega arith
          | inr nothing ↦ omega arith
        ]) n

-- a deposit, or a call that pays from a channel that has no items in the books, for an item that isn't in them either
pub Moved-outside : (b c : Books) (f : List ℕ) (to : Dest) (k : ℕ) → b.items f ≡ [] →
    ((n : List ℕ) → c.held n + lost f n k ≡ b.held n + gain to (Channel n) k) → ((n : List ℕ) → c.items n ≡ b.items n) →
    ((n : List ℕ) → c.counts n ≡ b.counts n) → ((n : List ℕ) → c.list n ≡ b.list n) → ((n : List ℕ) (d : Dest) → c.owed n d ≡ b.owed n d) →
    Moved b c f f to k
Moved-outside b c f to k empty held items counts lists opens = record {
  held = λ n. let e : c.held n + lost f n k ≡ b.held n + gain to (Channel n) k = held n in omega arith;
  spends = λ n r q h le d.
      let same : aff (c.items n) q d ≡ aff (b.items n) q d = ap (λ (xs : List Item). aff xs q d) (items n) in
      by_payer n r q d (bytes_eq f n) (same_bytes f n) le same;
  amounts = λ n d. let e : amt (c.items n) d ≡ amt (b.items n) d = ap (λ (xs : List Item). amt xs d) (items n) in omega arith;
  falls = λ n d. let e : amt (c.items n) d ≡ amt (b.items n) d = ap (λ (xs : List Item). amt xs d) (items n) in omega arith;
  names = λ n d. ap (λ (xs : List Item). has xs d) (items n);
  counts = counts;
  lists = lists;
  opens = opens;
}
  where
    by_payer : (n : List ℕ) (r q : ℕ) (d : Dest) (t : Bool) → (t ≡ true → f ≡ n) → r ≤ q + cond t k 0 →
        aff (c.items n) q d ≡ aff (b.items n) q d → aff (b.items n) r d ≤ aff (c.items n) q d + cond t (gain to d k) 0
    by_payer n r q d true is le same =
        let z : aff (b.items n) r d ≡ 0 = ap (λ (m : List ℕ). aff (b.items m) r d) (sym (is refl)) ∙ ap (λ (xs : List Item). aff xs r d) empty in omega arith
    by_payer n r q d false is le same =
        let up : aff (b.items n) r d ≤ aff (b.items n) q d = aff-mono (b.items n) r q d (omega arith) in omega arith
