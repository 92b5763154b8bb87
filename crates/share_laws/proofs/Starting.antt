-- A channel that starts to count lowers no share.
use Rattle.std.proofs.Common.{◌≡◌, ℕ, ◌≤◌, Bool, true, false, cond, List, [], ◌∷◌, ◌∙◌, sym, ap, subst, arith}
use Rattle.std.proofs.lemmas.List.{append-nil}
use Rattle.funding_plans.specs.declared.plan.Part.{Part}
use Rattle.share_laws.specs.Bases.{all_bases}
use Rattle.share_laws.specs.Books.{Counting, counts_in}
use Rattle.share_laws.specs.Share.{share_of}
use Rattle.share_laws.proofs.Follow.{Follows, starts, stays}
use Rattle.share_laws.proofs.Settle.{Follows-same}
use Rattle.share_laws.proofs.Growing.{share_grows}
use Rattle.share_laws.specs.Signing.{Starts, first, after}
use Rattle.share_laws.specs.SigningLaws.{StartsKeepShares}

follows : (asset : ℕ) (me : List ℕ) (on : List (List ℕ)) (now : Counting) (ks ls : List Counting) → Starts now ks ls → counts_in ks now.channel ≡ false → Follows asset me on ks ls
follows asset me on now ks [] f new = elim f [ ]
follows asset me on now ks (y ∷ ls) first new = starts now new (Follows-same asset me on ks)
follows asset me on now (x ∷ ks) (y ∷ ls) (after k apart f) new =
    stays k (follows asset me on now ks ls f (ap (λ (t : Bool). cond t true (counts_in ks now.channel)) (sym apart) ∙ new))

pub starts_keep : StartsKeepShares
starts_keep me ps held asset paid ks ls now f new =
    subst (λ (qs : List Part). share_of me paid ps held ks asset ≤ share_of me paid qs held ls asset) (append-nil ps)
    (share_grows asset me ps [] held held (λ n. omega arith) ks ls (follows asset me (all_bases ps) now ks ls f new) paid paid (omega arith))
