-- What an intermediary has of two guarantors, where the joint channel pays the ends a and c of t.
use Rattle.std.proofs.Common.{◌≡◌, ℕ, ◌+◌, ◌≤◌, min, true, ◌∙◌, ap, arith}
use Rattle.share_laws.specs.Worth.{left_between}

-- the first guarantor comes to reach t, and what the second end is paid comes to the intermediary
pub first-opens : (t a c q : ℕ) → a + c ≡ t → q ≤ t →
    min t (left_between true true true 0 a c 0 q) + c ≡ min t (left_between true true true 0 a c t q)
first-opens t a c q h le = omega arith

pub second-opens : (t a c r : ℕ) → a + c ≡ t → r ≤ t →
    min t (left_between true true true 0 a c r 0) + a ≡ min t (left_between true true true 0 a c r t)
second-opens t a c r h le = omega arith

-- both reach t: joined and parted are worth the same
pub joins-between : (t a c : ℕ) → a + c ≡ t →
    min t (left_between true true true 0 a c t t) ≡ min t (left_between true true true t 0 0 t t)
joins-between t a c h = omega arith

-- what an intermediary's part is worth, where all is owed
abbrev pub between : (own x a c r q : ℕ) → ℕ
between own x a c r q = min own (left_between true true true x a c r q)

pub between-same : (own x a c r q own' x' a' c' r' q' : ℕ) → own ≡ own' → x ≡ x' → a ≡ a' → c ≡ c' → r ≡ r' → q ≡ q' →
    between own x a c r q ≡ between own' x' a' c' r' q'
between-same own x a c r q own' x' a' c' r' q' eo ex ea ec er eq =
    ap (λ (z : ℕ). between z x a c r q) eo ∙ ap (λ (z : ℕ). between own' z a c r q) ex ∙ ap (λ (z : ℕ). between own' x' z c r q) ea
    ∙ ap (λ (z : ℕ). between own' x' a' z r q) ec ∙ ap (λ (z : ℕ). between own' x' a' c' z q) er ∙ ap (λ (z : ℕ). between own' x' a' c' r' z) eq
