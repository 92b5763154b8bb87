-- One more turn of the loops, and what they leave at their end.
use Rattle.std.proofs.Common.{◌≡◌, ℕ, ◌+◌, ◌-◌, ◌*◌, ◌/◌, ◌%◌, ◌^◌, ◌≤◌, List, [], ◌∷◌, ◌++◌, length, take, drop, refl, sym, ap, ◌∙◌, arith, append_assoc, add-one}
use Rattle.std.proofs.lemmas.List.{append-nil, take_at, drop_at}
use Rattle.std.proofs.Math.Nat.{mod-eq_of_lt, div-div-eq-div-mul, pow-suc}
use borrow.Rule.Slice.PartMut.{put_mid}
use Rattle.lms_signatures.specs.declared.types.OtsType.{OtsType}
use Rattle.lms_signatures.specs.declared.types.OtsType.TheVariants.{W1, W2, W4, W8}
use Rattle.lms_signatures.specs.Types.{width, checksum_shift}
use Rattle.lms_signatures.specs.Tree.{climb, parent}
use Rattle.lms_signatures.specs.Ots.{string_at, joined, coef_gap, checksum}

-- no string is joined yet
pub joined_none : (m : List ℕ) (f : ℕ → List ℕ) → m ++ joined f 0 ≡ m
unfolding joined
joined_none m f = append-nil m

-- one string more is joined
pub joined_more : (m : List ℕ) (f : ℕ → List ℕ) (i : ℕ) → m ++ joined f (i + 1) ≡ m ++ joined f i ++ f i
unfolding joined
joined_more m f i = rw add-one (sym (append_assoc m (joined f i) (f i)))

-- one string more is written after the others
pub joined_written : (m : List ℕ) (f : ℕ → List ℕ) (i : ℕ) (x y z : List ℕ) → x ≡ m ++ joined f i → y ≡ f i → z ≡ x ++ y → z ≡ m ++ joined f (i + 1)
joined_written m f i x y z a b e = e ∙ rw (a, b) (sym (joined_more m f i))

-- the sum of the gaps, shifted, is the checksum: it fits 16 bits
pub checksum_fits : (ots : OtsType) (s : List ℕ) (sum : ℕ) → sum ≡ coef_gap s (width ots) (256 / width ots)
    → sum ≤ (2 ^ width ots - 1) * (256 / width ots) → sum * 2 ^ checksum_shift ots % 65536 ≡ checksum ots s
unfolding checksum
checksum_fits W1 s sum is le = mod-eq_of_lt (omega arith) ∙ ap (λ (x : ℕ). x * 128) is
checksum_fits W2 s sum is le = mod-eq_of_lt (omega arith) ∙ ap (λ (x : ℕ). x * 64) is
checksum_fits W4 s sum is le = mod-eq_of_lt (omega arith) ∙ ap (λ (x : ℕ). x * 16) is
checksum_fits W8 s sum is le = mod-eq_of_lt (omega arith) ∙ ap (λ (x : ℕ). x * 1) is

-- two bytes written after a front
pub put_behind : (front new : List ℕ) (n : ℕ) → n ≡ length front → put_mid n 2 (front ++ 0 ∷ 0 ∷ []) new ≡ front ++ new
put_behind front new n e =
    let a : take n (front ++ 0 ∷ 0 ∷ []) ≡ front = take_at front (0 ∷ 0 ∷ []) n (sym e) in
    let b : drop n (front ++ 0 ∷ 0 ∷ []) ≡ 0 ∷ 0 ∷ [] = drop_at front (0 ∷ 0 ∷ []) n (sym e) in
    rw (a, b, append-nil) refl

-- one level more is climbed
pub climb_none : (id : List ℕ) (r : ℕ) (path tmp : List ℕ) → climb id r path tmp 0 ≡ tmp
unfolding climb
climb_none id r path tmp = refl

pub climb_more : (id : List ℕ) (r : ℕ) (path tmp : List ℕ) (i : ℕ)
    → climb id r path tmp (i + 1) ≡ parent id (r / 2 ^ i) (climb id r path tmp i) (string_at path i)
unfolding climb
climb_more id r path tmp i = rw add-one refl

-- half of a node above is the node one more above
pub half_more : (r i : ℕ) → r / 2 ^ i / 2 ≡ r / 2 ^ (i + 1)
half_more r i = div-div-eq-div-mul r (2 ^ i) 2 ∙ ap (λ (x : ℕ). r / x) (sym (pow-suc 2 i) ∙ ap (λ (x : ℕ). 2 ^ x) (sym (add-one i)))
