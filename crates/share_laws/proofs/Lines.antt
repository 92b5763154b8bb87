-- What a signed state leaves of what each channel can end with: of all channels but its own, everything.
use Rattle.std.proofs.Common.{◌≡◌, ℕ, suc, ◌<◌, ◌==◌, Bool, true, false, List, [], ◌∷◌, length, Option, Some, None, refl, sym, ◌∙◌, ap, subst, arith, cond}
use Rattle.std.specs.Option.{option_or}
use Rattle.std.specs.Str.{bytes_eq}
use Rattle.channel_values.specs.Parts.{FixedParts, StateParts}
use Rattle.channel_values.specs.declared.chain.Signed.{Signed}
use Rattle.call_history.specs.Mode.{is_final}
use Rattle.channel_values.specs.Rules.{Rules}
use Rattle.call_history.specs.History.{mode, rest_of_channel}
use Rattle.call_history.specs.Marked.{Marked, extended}
use Rattle.call_history.specs.Shown.{shown}
use Rattle.call_history.specs.declared.entry.Entry.{Entry}
use Rattle.channel_safety.specs.Journals.{Line, some_if}
use Rattle.channel_safety.specs.Held.{note, show, slot, held}
use Rattle.share_laws.specs.Places.{last_made, possible, possible_after, is_held}
use Rattle.share_laws.specs.Signatures.{signing}

-- a line that had seen more than k entries isn't in the slot of k
eq-later : (n k : ℕ) → k < n → (n == k) ≡ false
eq-later n k h = grind (arith)

slot-later : (r : Rules) (g : FixedParts) (k : ℕ) (x : Line) (front : List Line) (st : Option Marked) → k < x.seen → slot r g k (x ∷ front) st ≡ slot r g k front st
slot-later r g k x front st h = ap (λ (t : Bool). cond t (note r g x (slot r g k front st)) (slot r g k front st)) (eq-later x.seen k h)

held-later : (r : Rules) (g : FixedParts) (past : List Entry) (x : Line) (front : List Line) → length past < x.seen → held r g past (x ∷ front) ≡ held r g past front
held-later r g [] x front h = slot-later r g 0 x front None h
held-later r g (e ∷ past) x front h =
    slot-later r g (suc (length past)) x front _ h
    ∙ ap (λ (st : Option Marked). slot r g (suc (length past)) front (show r g (shown r (r.named g) past e) st)) (held-later r g past x front (omega (arith, h)))

eq-self : (n : ℕ) → (n == n) ≡ true
eq-self n = grind (arith)

module _ (r : Rules) (past : List Entry) (f : FixedParts) (state : StateParts) (signature : List ℕ) (adds : List FixedParts) where
  -- what the line is to another channel
  note-other : (g : FixedParts) → bytes_eq (r.named f) (r.named g) ≡ false → (st : Option Marked) → note r g (signing r past f state signature adds) st ≡ st
  note-other g ne None = refl
  note-other g ne (Some w) =
      ap (λ (t : Bool). Some (extended r g (some_if t (record { state = state; signature = signature })) w)) ne

  last_made-other : (g : FixedParts) (front : List Line) → bytes_eq (r.named f) (r.named g) ≡ false →
      last_made (r.named g) (signing r past f state signature adds ∷ front) ≡ last_made (r.named g) front
  last_made-other g front ne =
      ap (λ (t : Bool). option_or (some_if t (record { state = state; signature = signature })) (last_made (r.named g) front)) ne

  held-other : (g : FixedParts) (front : List Line) → bytes_eq (r.named f) (r.named g) ≡ false →
      held r g past (signing r past f state signature adds ∷ front) ≡ held r g past front
  held-other g front ne = by_past past refl
    where
      here : (k : ℕ) (st : Option Marked) → slot r g k (signing r past f state signature adds ∷ front) st ≡ slot r g k front st
      here k st = by_test (length past == k)
        where
          by_test : (t : Bool) → cond t (note r g (signing r past f state signature adds) (slot r g k front st)) (slot r g k front st) ≡ slot r g k front st
          by_test true = note-other g ne (slot r g k front st)
          by_test false = refl

      by_past : (es : List Entry) → past ≡ es → held r g es (signing r past f state signature adds ∷ front) ≡ held r g es front
      by_past [] is = here 0 None
      by_past (e ∷ es) is =
          here (suc (length es)) _
          ∙ ap (λ (st : Option Marked). slot r g (suc (length es)) front (show r g (shown r (r.named g) es e) st))
          (held-later r g es (signing r past f state signature adds) front
          (subst (λ (z : List Entry). length es < length z) (sym is) (grind (arith))))

  pub possible-other : (g : FixedParts) (front : List Line) → bytes_eq (r.named f) (r.named g) ≡ false →
      possible r past (signing r past f state signature adds ∷ front) g ≡ possible r past front g
  possible-other g front ne =
      ap (λ (st : Option Marked). cond (is_held r g st)
      (possible_after (is_final (mode r (r.named g) past)) (rest_of_channel r (r.named g) past) (last_made (r.named g) (signing r past f state signature adds ∷ front))) [])
      (held-other g front ne)
      ∙ ap (λ (s : Option Signed). cond (is_held r g (held r g past front)) (possible_after (is_final (mode r (r.named g) past)) (rest_of_channel r (r.named g) past) s) [])
      (last_made-other g front ne)
