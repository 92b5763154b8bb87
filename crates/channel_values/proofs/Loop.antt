-- Reading values one after the other, as a loop does.
use Rattle.std.proofs.Common.{◌≡◌, ℕ, suc, ◌-◌, ◌+◌, ◌≤◌, ◌<◌, List, [], ◌∷◌, ◌++◌, Result, Ok, Err, refl, sym, ◌∙◌, arith}
use Rattle.channel_values.specs.declared.fault.ByteFault.{ByteFault}
use Rattle.channel_values.specs.declared.fault.ByteFault.TheVariants as faults
use Rattle.std.proofs.lemmas.List.Sums.{sum_by-append}
use Rattle.channel_values.specs.declared.value.Item.{Item}
use Rattle.channel_values.specs.Outcomes.{total}
use Rattle.channel_values.specs.Reading.{Fails, many_at}

pub goes_on : {X : Type 0} (one : List X → List ℕ → Result (X × List ℕ) ByteFault) (seen : List X) (count i : ℕ) (bytes : List ℕ) (x : X) (after : List ℕ) (shown : List X) (all : Result (List X × List ℕ) ByteFault) → shown ≡ seen → i < count → one shown bytes ≡ Ok (x, after)
    → many_at one seen (count - i) bytes ≡ all → many_at one (seen ++ x ∷ []) (count - (i + 1)) after ≡ all
unfolding many_at
goes_on one seen count i bytes x after shown all same lt shown_read so_far =
    let read : one seen bytes ≡ Ok (x, after) = rw (← same) shown_read in
    let k : count - i ≡ suc (count - (i + 1)) = omega arith in
    let next : many_at one seen (count - i) bytes ≡ many_at one (seen ++ x ∷ []) (count - (i + 1)) after = rw (k, read) refl in
    sym next ∙ so_far

pub ends : {X : Type 0} (one : List X → List ℕ → Result (X × List ℕ) ByteFault) (e : ByteFault) (seen : List X) (count i : ℕ) (bytes : List ℕ) (shown : List X) (all : Result (List X × List ℕ) ByteFault) → shown ≡ seen → i < count → Fails e (one shown bytes)
    → many_at one seen (count - i) bytes ≡ all → Fails e all
unfolding many_at
ends one faults.NoMemory seen count i bytes shown all same lt read so_far = tt
ends one f seen count i bytes shown all same lt shown_read so_far =
    let read : one seen bytes ≡ Err f = rw (← same) shown_read in
    let k : count - i ≡ suc (count - (i + 1)) = omega arith in
    let next : many_at one seen (count - i) bytes ≡ Err f = rw (k, read) refl in
    sym so_far ∙ next

pub is_done : {X : Type 0} (one : List X → List ℕ → Result (X × List ℕ) ByteFault) (seen : List X) (count i : ℕ) (bytes : List ℕ) (all : Result (List X × List ℕ) ByteFault) → count ≤ i → many_at one seen (count - i) bytes ≡ all → all ≡ Ok (seen, bytes)
unfolding many_at
is_done one seen count i bytes all le so_far =
    let k : count - i ≡ 0 = omega arith in
    let stop : many_at one seen (count - i) bytes ≡ Ok (seen, bytes) = rw k refl in
    sym so_far ∙ stop

pub stops : {X : Type 0} (one : List X → List ℕ → Result (X × List ℕ) ByteFault) (f : ByteFault) (seen : List X) (count i : ℕ) (bytes : List ℕ) (shown : List X) (all : Result (List X × List ℕ) ByteFault) → shown ≡ seen → i < count → one shown bytes ≡ Err f
    → many_at one seen (count - i) bytes ≡ all → all ≡ Err f
unfolding many_at
stops one f seen count i bytes shown all same lt shown_read so_far =
    let read : one seen bytes ≡ Err f = rw (← same) shown_read in
    let k : count - i ≡ suc (count - (i + 1)) = omega arith in
    let next : many_at one seen (count - i) bytes ≡ Err f = rw (k, read) refl in
    sym so_far ∙ next

-- the sum of the amounts, with one more
pub total-push : (seen : List Item) (x : Item) → total (seen ++ x ∷ []) ≡ total seen + x.amount
total-push seen x = omega (arith, sum_by-append (λ (i : Item). i.amount) seen (x ∷ []))

-- a fault that is no want of memory, told by a reader without memory
pub told : {Y : Type 0} (f : ByteFault) (read : Result Y ByteFault) → read ≡ Err f → Fails f read
told faults.NoMemory read e = tt
told f read e = e
