-- Places in lists.
use Rattle.std.proofs.Common.{◌≡◌, ◌<◌, ◌≤◌, List, [], ◌∷◌, ◌++◌, ◌⊎◌, inl, inr, length, sym, ◌∙◌, ap, arith, length-append, append_assoc}
use Rattle.channel_safety.specs.Journals.{In}

pub tail-is : {A : Type 0} (x y : A) (xs ys : List A) → x ∷ xs ≡ y ∷ ys → xs ≡ ys
tail-is x y xs ys e = cc

pub head-is : {A : Type 0} (x y : A) (xs ys : List A) → x ∷ xs ≡ y ∷ ys → y ≡ x
head-is x y xs ys e = cc

-- ---- an item between two others

in-front : {A : Type 0} (l older : List A) (q : A) (after rest : List A) → l ++ q ∷ older ≡ after ++ rest → length rest ≤ length older → In q after
in-front l older q [] rest e low = absurd (omega (arith, length-append l (q ∷ older), ap length e))
in-front [] older q (a ∷ after) rest e low = inl (sym (head-is q a older (after ++ rest) e))
in-front (y ∷ l) older q (a ∷ after) rest e low = inr (in-front l older q after rest (tail-is y a (l ++ q ∷ older) (after ++ rest) e) low)

-- what has no fewer before it than there are in the rest, and fewer than in the middle and the rest, is in the middle
pub in-middle : {A : Type 0} (l older : List A) (q : A) (later after rest : List A) → l ++ q ∷ older ≡ later ++ (after ++ rest)
    → length rest ≤ length older → length older < length (after ++ rest) → In q after
in-middle l older q [] after rest e low high = in-front l older q after rest e low
in-middle [] older q (y ∷ later) after rest e low high = absurd (omega (arith, ap length (tail-is q y older (later ++ (after ++ rest)) e), length-append later (after ++ rest)))
in-middle (z ∷ l) older q (y ∷ later) after rest e low high = in-middle l older q later after rest (tail-is z y (l ++ q ∷ older) (later ++ (after ++ rest)) e) low high

-- ---- a longer list

-- a place of a shorter list
pub record Before {A : Type 0} (h : List A) (x : A) (past : List A) : Type 0 where
  pub later : List A
  pub split : h ≡ later ++ x ∷ past

-- a place is in what came later, or was a place before
pub place_in : {A : Type 0} (more h later : List A) (x : A) (past : List A) → more ++ h ≡ later ++ x ∷ past → In x more ⊎ Before h x past
place_in [] h later x past e = inr (record { later = later; split = e })
place_in (y ∷ more) h [] x past e = inl (inl (head-is y x (more ++ h) past e))
place_in {A} (y ∷ more) h (z ∷ later) x past e = go (place_in more h later x past (tail-is y z (more ++ h) (later ++ x ∷ past) e))
  where
    go : In x more ⊎ Before h x past → In x (y ∷ more) ⊎ Before h x past
    go (inl i) = inl (inr i)
    go (inr b) = inr b

-- two places in one list, the later one told first
pub regroup : {A : Type 0} (later : List A) (x : A) (after : List A) (y : A) (before rest : List A)
    → later ++ x ∷ ((after ++ y ∷ before) ++ rest) ≡ (later ++ x ∷ after) ++ y ∷ (before ++ rest)
regroup later x after y before rest = ap (λ l. later ++ x ∷ l) (append_assoc after (y ∷ before) rest) ∙ sym (append_assoc later (x ∷ after) (y ∷ (before ++ rest)))
