-- From a place to a later one there is a way of one entry or line at a time.
use Rattle.std.proofs.Common.{◌≡◌, ℕ, zero, suc, ◌+◌, ◌<◌, ◌≤◌, Bool, true, false, List, [], ◌∷◌, ◌++◌, ◌⊎◌, inl, inr, length, refl, sym, ◌∙◌, ap, subst, arith}
use Rattle.std.proofs.lemmas.List.{append_cancel_right}
use Rattle.channel_values.specs.Rules.{Rules}
use Rattle.call_history.specs.declared.entry.Entry.{Entry}
use Rattle.channel_safety.specs.Journals.{In, Line, is_watched}
use Rattle.channel_values.specs.Parts.{FixedParts}
use Rattle.channel_safety.specs.Honest.{HonestIn}
use Rattle.share_laws.specs.Places.{Order, share, IsPlace}
use Rattle.share_laws.specs.Kept.{SharesAreKept}
use Rattle.share_laws.specs.Lines.{AreInOrder, SignNothing}
use Rattle.share_laws.specs.Lasting.{HonestJournalsAreInOrder, SharesLast}
use Rattle.channel_safety.proofs.Tests.{le_or_lt, clash}
use Rattle.channel_safety.proofs.Lists.{In-append_right, In-append_cases, append_assoc', length-up}

order-front : (newer front : List Line) → AreInOrder (newer ++ front) → AreInOrder front
order-front [] front o = o
order-front (x ∷ newer) front o = order-front newer front o.1

module _ (r : Rules) (me : List ℕ) (orders : ℕ → Order) (h : List Entry) (journal : List Line) (ordered : AreInOrder journal) (kept : SharesAreKept r me orders h journal)
    (past : List Entry) (front : List Line) (start : IsPlace h journal past front) where
  -- without the newest entry, which no line had seen
  without-entry : (e : Entry) (later : List Entry) (newer : List Line) → IsPlace h journal (e ∷ later ++ past) (newer ++ front) →
      ((y : Line) → In y (newer ++ front) → is_watched y.deed ≡ false → y.seen ≤ length (later ++ past)) → IsPlace h journal (later ++ past) (newer ++ front)
  without-entry e later newer at low = record {
    later = at.later ++ e ∷ [];
    newer = at.newer;
    entries = at.entries ∙ append_assoc' at.later (e ∷ []) (later ++ past);
    lines = at.lines;
    before = low;
    after = λ y i w. (let l : length (e ∷ later ++ past) ≤ y.seen = at.after y i w in omega arith);
  }

  -- without the newest line, which is a look or had seen all these entries
  without-line : (x : Line) (later : List Entry) (newer : List Line) → IsPlace h journal (later ++ past) (x ∷ newer ++ front) →
      (is_watched x.deed ≡ false → length (later ++ past) ≤ x.seen) → IsPlace h journal (later ++ past) (newer ++ front)
  without-line x later newer at high = record {
    later = at.later;
    newer = at.newer ++ x ∷ [];
    entries = at.entries;
    lines = at.lines ∙ append_assoc' at.newer (x ∷ []) (newer ++ front);
    before = λ y i w. at.before y (inr i) w;
    after = λ y i w. last y (In-append_cases y at.newer (x ∷ []) i) w;
  }
    where
      last : (y : Line) → In y at.newer ⊎ In y (x ∷ []) → is_watched y.deed ≡ false → length (later ++ past) ≤ y.seen
      last y (inl j) w = at.after y j w
      last y (inr (inl e)) w = subst (λ (z : Line). length (later ++ past) ≤ z.seen) (sym e) (high (subst (λ (z : Line). is_watched z.deed ≡ false) e w))
      last y (inr (inr j)) w = absurd j

  -- these lines, but for looks, had seen the entries of the first place
  abbrev HaveSeen : List Line → Type 0
  HaveSeen newer = (y : Line) → In y newer → is_watched y.deed ≡ false → length past ≤ y.seen

  trans : (a b c : ℕ) → a ≤ b → b ≤ c → a ≤ c
  trans a b c p q = omega arith

  lasts : (k : ℕ) (later : List Entry) (newer : List Line) → length later + length newer ≡ k → IsPlace h journal (later ++ past) (newer ++ front) → SignNothing newer → HaveSeen newer →
      (asset : ℕ) → share r me orders past front asset ≤ share r me orders (later ++ past) (newer ++ front) asset
  lasts k [] [] size at quiet high asset = omega arith
  lasts zero (e ∷ later) newer size at quiet high asset = absurd (omega arith)
  lasts zero [] (x ∷ newer) size at quiet high asset = absurd (omega arith)
  lasts (suc k) (e ∷ later) [] size at quiet high asset =
      let before : IsPlace h journal (later ++ past) front =
      without-entry e later [] at (λ y i w. (let l : y.seen ≤ length past = start.before y i w in let m : length past ≤ length (later ++ past) = length-up later past in omega arith)) in
      trans (share r me orders past front asset) (share r me orders (later ++ past) front asset) (share r me orders (e ∷ later ++ past) front asset)
      (lasts k later [] (omega (arith, size)) before quiet high asset) (kept.entries (later ++ past) e front before at asset)
  lasts (suc k) [] (x ∷ newer) size at quiet high asset =
      let before : IsPlace h journal past (newer ++ front) = without-line x [] newer at (high x (inl refl)) in
      trans (share r me orders past front asset) (share r me orders past (newer ++ front) asset) (share r me orders past (x ∷ newer ++ front) asset)
      (lasts k [] newer (omega (arith, size)) before (λ y i. quiet y (inr i)) (λ y i. high y (inr i)) asset) (kept.lines past x (newer ++ front) before at (quiet x (inl refl)) asset)
  lasts (suc k) (e ∷ later) (x ∷ newer) size at quiet high asset =
      by_look (is_watched x.deed) refl (λ before. lasts k later (x ∷ newer) (omega (arith, size)) before quiet high asset)
      (λ before. lasts k (e ∷ later) newer (omega (arith, size)) before (λ y i. quiet y (inr i)) (λ y i. high y (inr i)) asset)
    where
      by_line : (is_watched x.deed ≡ false → length (e ∷ later ++ past) ≤ x.seen) →
          (IsPlace h journal (e ∷ later ++ past) (newer ++ front) → share r me orders past front asset ≤ share r me orders (e ∷ later ++ past) (newer ++ front) asset) →
          share r me orders past front asset ≤ share r me orders (e ∷ later ++ past) (x ∷ newer ++ front) asset
      by_line seen rec =
          let before : IsPlace h journal (e ∷ later ++ past) (newer ++ front) = without-line x (e ∷ later) newer at seen in
          trans (share r me orders past front asset) (share r me orders (e ∷ later ++ past) (newer ++ front) asset) (share r me orders (e ∷ later ++ past) (x ∷ newer ++ front) asset)
          (rec before) (kept.lines (e ∷ later ++ past) x (newer ++ front) before at (quiet x (inl refl)) asset)

      by_entry : is_watched x.deed ≡ false → x.seen < length (e ∷ later ++ past) →
          (IsPlace h journal (later ++ past) (x ∷ newer ++ front) → share r me orders past front asset ≤ share r me orders (later ++ past) (x ∷ newer ++ front) asset) →
          share r me orders past front asset ≤ share r me orders (e ∷ later ++ past) (x ∷ newer ++ front) asset
      by_entry w l rec =
          let before : IsPlace h journal (later ++ past) (x ∷ newer ++ front) = without-entry e later (x ∷ newer) at low in
          trans (share r me orders past front asset) (share r me orders (later ++ past) (x ∷ newer ++ front) asset) (share r me orders (e ∷ later ++ past) (x ∷ newer ++ front) asset)
          (rec before) (kept.entries (later ++ past) e (x ∷ newer ++ front) before at asset)
        where
          order : AreInOrder (x ∷ newer ++ front)
          order = order-front at.newer (x ∷ newer ++ front) (subst AreInOrder at.lines ordered)

          low : (y : Line) → In y (x ∷ newer ++ front) → is_watched y.deed ≡ false → y.seen ≤ length (later ++ past)
          low y (inl i) v = let s : y.seen ≡ x.seen = ap (λ (z : Line). z.seen) i in omega arith
          low y (inr i) v = let s : y.seen ≤ x.seen = order.0 y i w v in omega arith

      by_look : (b : Bool) → is_watched x.deed ≡ b →
          (IsPlace h journal (later ++ past) (x ∷ newer ++ front) → share r me orders past front asset ≤ share r me orders (later ++ past) (x ∷ newer ++ front) asset) →
          (IsPlace h journal (e ∷ later ++ past) (newer ++ front) → share r me orders past front asset ≤ share r me orders (e ∷ later ++ past) (newer ++ front) asset) →
          share r me orders past front asset ≤ share r me orders (e ∷ later ++ past) (x ∷ newer ++ front) asset
      by_look true w entry line = by_line (λ v. absurd (clash (is_watched x.deed) w v)) line
      by_look false w entry line = by_seen (le_or_lt (length (e ∷ later ++ past)) x.seen)
        where
          by_seen : (length (e ∷ later ++ past) ≤ x.seen) ⊎ (x.seen < length (e ∷ later ++ past)) → share r me orders past front asset ≤ share r me orders (e ∷ later ++ past) (x ∷ newer ++ front) asset
          by_seen (inl l) = by_line (λ v. l) line
          by_seen (inr l) = by_entry w l entry

pub shares_last : SharesLast
shares_last r me orders h journal ordered kept later past newer front start at quiet asset =
    lasts r me orders h journal ordered kept past front start (length later + length newer) later newer refl at quiet
    (λ y i w. start.after y (subst (In y) (sym same) (In-append_right y at.newer newer i)) w) asset
  where
    same : start.newer ≡ at.newer ++ newer
    same = append_cancel_right start.newer (at.newer ++ newer) front (sym start.lines ∙ (at.lines ∙ append_assoc' at.newer newer front))

-- ---- journals of honest participants

in-order : (r : Rules) (key : List ℕ) (f : FixedParts) (h : List Entry) (journal : List Line) → HonestIn r key f h journal → AreInOrder journal
in-order r key f h [] on = tt
in-order r key f h (x ∷ front) on = ((λ y i w v. on.0.rising y i v), in-order r key f h front on.1)

pub journals_in_order : HonestJournalsAreInOrder
journals_in_order r key h journal honest x f i j = in-order r key f h journal (honest f x i j)
