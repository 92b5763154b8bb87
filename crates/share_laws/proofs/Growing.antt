-- Nothing that pays nothing lowers a share: channels that start to count or become final, deposits, and parts that
-- join.
use Rattle.std.proofs.Common.{◌≡◌, ℕ, ◌+◌, ◌≤◌, Bool, true, false, List, [], ◌∷◌, ◌++◌, refl, arith, cond}
use Rattle.channel_values.specs.declared.value.Dest.{Dest}
use Rattle.funding_plans.specs.declared.plan.Part.{Part}
use Rattle.funding_plans.specs.declared.plan.Part.TheVariants.{Root, OnLedger, End, Middle}
use Rattle.channel_values.specs.Amounts.{aff}
use Rattle.share_laws.specs.Books.{Books, Counting, varying, books_under}
use Rattle.share_laws.specs.Share.{share_of}
use Rattle.share_laws.specs.Worth.{Table, affords, reach_after, worth, no_reach}
use Rattle.share_laws.specs.Bases.{all_bases}
use Rattle.share_laws.proofs.Follow.{Follows, Better, InOrder}
use Rattle.share_laws.proofs.Amounts.{aff-zero}
use Rattle.share_laws.proofs.Least.{Takes, least_over-kept}
use Rattle.share_laws.proofs.Choices.{choose-takes}
use Rattle.share_laws.proofs.Settle.{was, former, better}
use Rattle.share_laws.proofs.Grown.{Within, within-bases, worth-grows}
use Rattle.call_history.specs.Flows.{is_among}

-- new parts at the end lower no worth
pub worth-more : (b : Books) (me : List ℕ) (ps qs : List Part) (reach : Table) → worth b me ps reach ≤ worth b me (ps ++ qs) reach
worth-more b me [] qs reach = omega arith
worth-more b me (p ∷ ps) qs reach = let h = worth-more b me ps qs (reach_after b reach p) in omega (arith, h)

-- under one choice
pub better-worth : (me : List ℕ) (on : List (List ℕ)) (b c : Books) → Better me on b c → (ps : List Part) → Within on ps → InOrder b me ps →
    worth b me ps no_reach ≤ worth c me ps no_reach
better-worth me on b c m ps w o =
    worth-grows me on b c m ps no_reach no_reach w o (record { affords = λ n h d. nothing n d (b.owed n d) (aff-zero (b.items n) d) })
  where
    nothing : (n : List ℕ) (d : Dest) (t : Bool) → aff (b.items n) 0 d ≡ 0 → cond t (aff (b.items n) 0 d) 0 ≤ affords c n 0 d
    nothing n d true e = omega arith
    nothing n d false e = omega arith

-- where no exit has begun, all is owed
all-owed : (held : List ℕ → ℕ) (ks : List Counting) (asset : ℕ) (s : List (List ℕ)) (me : List ℕ) (ps : List Part) → InOrder (books_under held ks asset s) me ps
all-owed held ks asset s me [] = tt
all-owed held ks asset s me (Root c ∷ ps) = all-owed held ks asset s me ps
all-owed held ks asset s me (OnLedger l c ∷ ps) = all-owed held ks asset s me ps
all-owed held ks asset s me (End v ∷ ps) = all-owed held ks asset s me ps
all-owed held ks asset s me (Middle v ∷ ps) = ((λ e. (refl, refl)), all-owed held ks asset s me ps)

pub share_grows : (asset : ℕ) (me : List ℕ) (ps qs : List Part) (held now : List ℕ → ℕ) → ((n : List ℕ) → held n ≤ now n) → (ks ls : List Counting) →
    Follows asset me (all_bases ps) ks ls → (paid more : ℕ) → paid ≤ more → share_of me paid ps held ks asset ≤ share_of me more (ps ++ qs) now ls asset
share_grows asset me ps qs held now up ks ls f paid more rise =
    least_over-kept [] [] (varying ks) (varying ls) (value held ks ps) (value now ls (ps ++ qs)) paid more (λ s t. one s)
  where
    value : (List ℕ → ℕ) → List Counting → List Part → List (List ℕ) → ℕ
    value h cs rs s = worth (books_under h cs asset s) me rs no_reach

    one : (s : List (List ℕ)) → (r : List (List ℕ)) × Takes [] (varying ks) r × (paid + value held ks ps r ≤ more + value now ls (ps ++ qs) s)
    one s =
        let r : List (List ℕ) = former f s in
        let p : value held ks ps r ≤ value now ls ps s =
        better-worth me (all_bases ps) (books_under held ks asset r) (books_under now ls asset s) (better asset me (all_bases ps) ks ls f s held now up) ps (within-bases ps) (all-owed held ks asset r me ps) in
        let q : value now ls ps s ≤ value now ls (ps ++ qs) s = worth-more (books_under now ls asset s) me ps qs no_reach in
        (r, choose-takes (λ n. was f (is_among n s) n) (varying ks) [], omega (arith, p, q, rise))
