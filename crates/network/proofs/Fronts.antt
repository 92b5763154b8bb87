-- Fronts of histories, and elements of lists.
use Rattle.std.proofs.Common.{◌≡◌, ◌≤◌, ◌+◌, ℕ, zero, suc, List, [], ◌∷◌, ◌++◌, length, reverse, take, drop, refl, sym, ◌∙◌, ap, subst, arith, ◌⊎◌, inl, inr, set, length-append}
use Rattle.std.specs.Prelude.{Bool, slice_get, Some}
use Rattle.std.specs.List.{find, position_or_len, before_first, after_first}
use Rattle.std.proofs.lemmas.Grind.{common_steps}
use Rattle.std.proofs.lemmas.List.{reverse-append, reverse-reverse, length-reverse, length-take-le, take-append-drop}
use Rattle.channel_values.proofs.Found.{found_inside, put_found}
use Rattle.call_history.specs.declared.entry.Entry.{Entry}
use Rattle.network.specs.Watching.{history_after}
use Rattle.channel_safety.specs.Journals.{In}
use Rattle.network.specs.Histories.{ComeNext}

-- entries after a history, in the order of time
pub after_is : (past entries : List Entry) → history_after past entries ≡ reverse entries ++ past
after_is past [] = refl
after_is past (e ∷ es) =
    let back : reverse (e ∷ es) ++ past ≡ reverse es ++ (e ∷ past) = grind (arith, common_steps) in
    after_is (e ∷ past) es ∙ sym back

-- the front of a history of this length
abbrev pub front : List Entry → ℕ → List Entry
front h k = reverse (take k (reverse h))

pub front_length : (h : List Entry) (k : ℕ) → k ≤ length h → length (front h k) ≡ k
front_length h k fits = length-reverse (take k (reverse h)) ∙ length-take-le k (reverse h) (omega (arith, length-reverse h))

pub parts : (h : List Entry) (k : ℕ) → reverse (drop k (reverse h)) ++ front h k ≡ h
parts h k =
    sym (reverse-append (take k (reverse h)) (drop k (reverse h)))
    ∙ ap reverse (take-append-drop k (reverse h))
    ∙ reverse-reverse h

-- what comes after a front is the rest
pub rest_after : (h : List Entry) (k : ℕ) → history_after (front h k) (drop k (reverse h)) ≡ h
rest_after h k = after_is (front h k) (drop k (reverse h)) ∙ parts h k

-- two ends of one list that are equally long are equal
pub same_end : {A : Type 0} (us xs vs ys : List A) → us ++ xs ≡ vs ++ ys → length xs ≡ length ys → xs ≡ ys
same_end [] xs [] ys q l = q
same_end [] xs (b ∷ vs) ys q l = let a : length xs ≡ length (b ∷ (vs ++ ys)) = ap length q in let t : length (vs ++ ys) ≡ length vs + length ys = length-append vs ys in absurd (omega arith)
same_end (a ∷ us) xs [] ys q l = let b : length (a ∷ (us ++ xs)) ≡ length ys = ap length q in let t : length (us ++ xs) ≡ length us + length xs = length-append us xs in absurd (omega arith)
same_end (a ∷ us) xs (b ∷ vs) ys q l = same_end us xs vs ys (cc) l

pub rest_comes : (h : List Entry) (k : ℕ) → k ≤ length h → ComeNext h (drop k (reverse h)) k
rest_comes h k fits = ([], front h k, sym (rest_after h k), front_length h k fits)

-- an element of a list with one changed is the new one, or was there
pub in_set : {A : Type 0} (xs : List A) (i : ℕ) (y x : A) → In x (set xs i y) → (x ≡ y) ⊎ In x xs
in_set [] i y x h = inr h
in_set (a ∷ xs) zero y x (inl e) = inl e
in_set (a ∷ xs) zero y x (inr h) = inr (inr h)
in_set (a ∷ xs) (suc i) y x (inl e) = inr (inl e)
in_set (a ∷ xs) (suc i) y x (inr h) = later (in_set xs i y x h)
  where
    later : (x ≡ y) ⊎ In x xs → (x ≡ y) ⊎ In x (a ∷ xs)
    later (inl e) = inl e
    later (inr h) = inr (inr h)

-- what stands at a place is an element
pub in_get : {A : Type 0} (xs : List A) (i : ℕ) (x : A) → slice_get xs i ≡ Some x → In x xs
in_get [] i x e = absurd (cc)
in_get (a ∷ xs) zero x e = inl (cc)
in_get (a ∷ xs) (suc i) x e = inr (in_get xs i x e)

-- what is found is an element
pub in_found : {A : Type 0} (test : A → Bool) (xs : List A) (x : A) → find test xs ≡ Some x → In x xs
in_found test xs x e = in_get xs (position_or_len test xs) x (found_inside test xs x e).0

-- an element of a list with another in place of the one that is found is the new one, or was there
pub in_parts : {A : Type 0} (test : A → Bool) (xs : List A) (m y x : A) → find test xs ≡ Some m → In x (before_first test xs ++ y ∷ after_first test xs) → (x ≡ y) ⊎ In x xs
in_parts test xs m y x e i = in_set xs (position_or_len test xs) y x (subst (λ ys. In x ys) (sym (put_found test xs m y e)) i)
