-- The least over choices, and what holds at each.
use Rattle.std.proofs.Common.{◌≡◌, ℕ, ◌+◌, ◌≤◌, min, Bool, true, false, ◌&&◌, List, [], ◌∷◌, refl, ◌∙◌, arith, inl, inr, ◌⊎◌}
use Rattle.std.proofs.lemmas.Bool.{false≢true}
use Rattle.share_laws.specs.Share.{least_over}
use Rattle.share_laws.specs.Funded.{at_each}

-- s is t with some of cs taken before it, each once
pub data Takes : (t cs s : List (List ℕ)) → Type 0 where
  ends : {t : List (List ℕ)} → Takes t [] t
  skips : {t cs s : List (List ℕ)} {c : List ℕ} → Takes t cs s → Takes t (c ∷ cs) s
  takes : {t cs s : List (List ℕ)} {c : List ℕ} → Takes (c ∷ t) cs s → Takes t (c ∷ cs) s

-- the least is no more than the value at any choice
pub least_over-le : (t cs s : List (List ℕ)) (f : List (List ℕ) → ℕ) → Takes t cs s → least_over cs f t ≤ f s
least_over-le t [] s f ends = omega arith
least_over-le t (c ∷ cs) s f (skips p) = let q : least_over cs f t ≤ f s = least_over-le t cs s f p in omega arith
least_over-le t (c ∷ cs) s f (takes p) = let q : least_over cs f (c ∷ t) ≤ f s = least_over-le (c ∷ t) cs s f p in omega arith

min-is : (m n : ℕ) → (min m n ≡ m) ⊎ (min m n ≡ n)
min-is m n = grind arith

-- and it is the value at some choice
pub least_over-some : (t cs : List (List ℕ)) (f : List (List ℕ) → ℕ) → (s : List (List ℕ)) × Takes t cs s × (least_over cs f t ≡ f s)
least_over-some t [] f = (t, ends, refl)
least_over-some t (c ∷ cs) f = by_case (least_over-some t cs f) (least_over-some (c ∷ t) cs f) (min-is (least_over cs f t) (least_over cs f (c ∷ t)))
  where
    by_case : ((s : List (List ℕ)) × Takes t cs s × (least_over cs f t ≡ f s)) →
        ((s : List (List ℕ)) × Takes (c ∷ t) cs s × (least_over cs f (c ∷ t) ≡ f s)) →
        (min (least_over cs f t) (least_over cs f (c ∷ t)) ≡ least_over cs f t) ⊎ (min (least_over cs f t) (least_over cs f (c ∷ t)) ≡ least_over cs f (c ∷ t)) →
        (s : List (List ℕ)) × Takes t (c ∷ cs) s × (min (least_over cs f t) (least_over cs f (c ∷ t)) ≡ f s)
    by_case p q (inl e) = (p.0, skips p.1, e ∙ p.2)
    by_case p q (inr e) = (q.0, takes q.1, e ∙ q.2)

-- a share doesn't fall where for each choice now there was one that was worth no more
pub least_over-kept : (t u cs ds : List (List ℕ)) (f g : List (List ℕ) → ℕ) (paid now : ℕ) →
    ((s : List (List ℕ)) → Takes u ds s → (r : List (List ℕ)) × Takes t cs r × (paid + f r ≤ now + g s)) →
    paid + least_over cs f t ≤ now + least_over ds g u
least_over-kept t u cs ds f g paid now h = by_choice (least_over-some u ds g)
  where
    by_choice : ((s : List (List ℕ)) × Takes u ds s × (least_over ds g u ≡ g s)) → paid + least_over cs f t ≤ now + least_over ds g u
    by_choice some = by_former some.0 some.2 (h some.0 some.1)
      where
        by_former : (s : List (List ℕ)) → least_over ds g u ≡ g s → ((r : List (List ℕ)) × Takes t cs r × (paid + f r ≤ now + g s)) →
            paid + least_over cs f t ≤ now + least_over ds g u
        by_former s e r = let p : least_over cs f t ≤ f r.0 = least_over-le t cs r.0 f r.1 in let q : paid + f r.0 ≤ now + g s = r.2 in omega arith

-- what holds at each choice
both : (u v : Bool) → (u && v) ≡ true → (u ≡ true) × (v ≡ true)
both true true e = (refl, refl)
both true false e = absurd (false≢true e)
both false v e = absurd (false≢true e)

pub at_each-at : (t cs s : List (List ℕ)) (test : List (List ℕ) → Bool) → Takes t cs s → at_each cs test t ≡ true → test s ≡ true
at_each-at t [] s test ends h = h
at_each-at t (c ∷ cs) s test (skips p) h = at_each-at t cs s test p (both (at_each cs test t) (at_each cs test (c ∷ t)) h).0
at_each-at t (c ∷ cs) s test (takes p) h = at_each-at (c ∷ t) cs s test p (both (at_each cs test t) (at_each cs test (c ∷ t)) h).1
