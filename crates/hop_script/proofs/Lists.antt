-- Lists that are appended one after the other, and the four of a list.
use Rattle.std.proofs.Common.{◌≡◌, List, [], ◌∷◌, ◌++◌, length, get_or, ◌∙◌, ap, append_assoc, arith}

module _ {X : Type 0} where
  pub two_on : (o p x y : List X) → p ≡ o ++ x → p ++ y ≡ o ++ (x ++ y)
  two_on o p x y e = ap (λ l. l ++ y) e ∙ append_assoc o x y

  pub three_on : (o p q x y z : List X) → p ≡ o ++ x → q ≡ p ++ y → q ++ z ≡ o ++ (x ++ (y ++ z))
  three_on o p q x y z e f = ap (λ l. l ++ z) f ∙ (append_assoc p y z ∙ two_on o p x (y ++ z) e)

  pub four_of : (ys : List X) (a b c d : X) → length ys ≡ 4 → a ≡ get_or ys 0 a → b ≡ get_or ys 1 b → c ≡ get_or ys 2 c → d ≡ get_or ys 3 d → a ∷ b ∷ c ∷ d ∷ [] ≡ ys
  four_of [] a b c d l p q r s = absurd (omega (arith, l))
  four_of (w ∷ []) a b c d l p q r s = absurd (omega (arith, l))
  four_of (w ∷ x ∷ []) a b c d l p q r s = absurd (omega (arith, l))
  four_of (w ∷ x ∷ y ∷ []) a b c d l p q r s = absurd (omega (arith, l))
  four_of (w ∷ x ∷ y ∷ z ∷ []) a b c d l p q r s =
      ap (λ v. v ∷ b ∷ c ∷ d ∷ []) p ∙ (ap (λ v. w ∷ v ∷ c ∷ d ∷ []) q ∙ (ap (λ v. w ∷ x ∷ v ∷ d ∷ []) r ∙ ap (λ v. w ∷ x ∷ y ∷ v ∷ []) s))
  four_of (w ∷ x ∷ y ∷ z ∷ v ∷ vs) a b c d l p q r s = absurd (omega (arith, l))
