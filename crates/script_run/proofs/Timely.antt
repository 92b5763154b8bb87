-- In a history of two who finished nothing is challenged.
use Rattle.std.proofs.Common.{◌≡◌, Bool, true, false, List, [], ◌∷◌, ◌++◌, inl, inr, refl, sym, ◌∙◌, ap, subst}
use Rattle.std.specs.Prelude.{reverse}
use Rattle.std.proofs.lemmas.List.{reverse-append}
use Rattle.call_history.specs.declared.call.Call.TheVariants.{Challenge}
use Rattle.call_history.specs.declared.call.Op.{Op}
use Rattle.call_history.specs.declared.call.Op.TheVariants as ops
use Rattle.call_history.specs.declared.entry.Entry.{Entry}
use Rattle.channel_safety.specs.Journals.{In}
use Rattle.script_run.specs.TwoPeople.{Pair}
use Rattle.script_run.specs.Timely.{WholesAreInTime}
use Rattle.script_run.specs.Whole.{IsWhole}

abbrev is_challenge : Op → Bool
is_challenge (ops.Call (Challenge k)) = true
is_challenge _ = false

-- none of the five entries challenges
none-challenges : (p : Pair) (es : List Entry) → IsWhole p es → (m : Entry) → In m es → is_challenge m.op ≡ false
none-challenges p [] w m i = absurd w
none-challenges p (a ∷ []) w m i = absurd w
none-challenges p (a ∷ b ∷ []) w m i = absurd w
none-challenges p (a ∷ b ∷ c ∷ []) w m i = absurd w
none-challenges p (a ∷ b ∷ c ∷ d ∷ []) w m i = absurd w
none-challenges p (a ∷ b ∷ c ∷ d ∷ e ∷ f ∷ rest) w m i = absurd w
none-challenges p (a ∷ b ∷ c ∷ d ∷ e ∷ []) (wa, wb, wc, wd, we) m i = go i
  where
    op-of : (x : Entry) → m ≡ x → is_challenge x.op ≡ false → is_challenge m.op ≡ false
    op-of x is none = ap (λ (y : Entry). is_challenge y.op) is ∙ none

    go : In m (a ∷ b ∷ c ∷ d ∷ e ∷ []) → is_challenge m.op ≡ false
    go (inl is) = op-of a is (ap is_challenge wa.op)
    go (inr (inl is)) = op-of b is (ap is_challenge wb.op)
    go (inr (inr (inl is))) = op-of c is (ap is_challenge wc.op)
    go (inr (inr (inr (inl is)))) = op-of d is (ap is_challenge wd.op)
    go (inr (inr (inr (inr (inl is))))) = op-of e is (ap is_challenge we.op)
    go (inr (inr (inr (inr (inr none))))) = absurd none

-- ---- places in lists

in-right : (x : Entry) (xs ys : List Entry) → In x ys → In x (xs ++ ys)
in-right x [] ys i = i
in-right x (y ∷ xs) ys i = inr (in-right x xs ys i)

in-left : (x : Entry) (xs ys : List Entry) → In x xs → In x (xs ++ ys)
in-left x [] ys i = absurd i
in-left x (y ∷ xs) ys (inl is) = inl is
in-left x (y ∷ xs) ys (inr i) = inr (in-left x xs ys i)

turned : (x y : Entry) (xs : List Entry) → (In x xs → In x (reverse xs)) → In x (y ∷ xs) → In x (reverse xs ++ y ∷ [])
turned x y xs rest (inl is) = in-right x (reverse xs) (y ∷ []) (inl is)
turned x y xs rest (inr i) = in-left x (reverse xs) (y ∷ []) (rest i)

in-turned : (x : Entry) (xs : List Entry) → In x xs → In x (reverse xs)
in-turned x [] i = absurd i
in-turned x (y ∷ xs) i = subst (In x) (sym (reverse-append (y ∷ []) xs)) (turned x y xs (in-turned x xs) i)

pub wholes_are_in_time : WholesAreInTime
wholes_are_in_time p h journal whole later mid past e m f x s split out seen noted within =
    let i : In m h = subst (In m) (sym split) (in-right m later (e ∷ (mid ++ m ∷ past)) (inr (in-right m mid (m ∷ past) (inl refl)))) in
    let none : is_challenge m.op ≡ false = none-challenges p (reverse h) whole m (in-turned m h i) in
    absurd (both (is_challenge m.op) (ap is_challenge out.challenge) none)
  where
    both : (b : Bool) → b ≡ true → b ≡ false → ⊥
    both b t n = cc
