-- What an entry that moves funds makes of the outcomes that a channel can end with: it lowers the item that it pays.
use Rattle.std.proofs.Common.{◌≡◌, ℕ, ◌+◌, Bool, true, false, cond, ◌&&◌, List, [], ◌∷◌, ◌++◌, refl, sym, ◌∙◌, ap, subst, arith}
use Rattle.std.specs.Prelude.{◌==◌, map, Option, Some, None}
use Rattle.std.specs.List.{AllByRecursion}
use Rattle.std.specs.Option.{option_map}
use Rattle.std.specs.Str.{bytes_eq}
use Rattle.std.proofs.lemmas.List.Sums.{sum_by-cons}
use mathlib.Core.Path.{fun_ext}
use Rattle.channel_values.specs.Parts.{FixedParts}
use Rattle.channel_values.specs.declared.chain.Signed.{Signed}
use Rattle.channel_values.specs.declared.value.AssetOutcome.{AssetOutcome}
use Rattle.call_history.specs.Mode.{is_final}
use Rattle.channel_values.specs.Rules.{Rules}
use Rattle.call_history.specs.Flows.{pays, paid_of_item}
use Rattle.call_history.specs.Rest.{rest_outcome, lower_outcome}
use Rattle.call_history.specs.History.{mode, settled, payment_of, payments_of, paid_of, rest_of_channel}
use Rattle.call_history.specs.Marked.{Marked}
use Rattle.call_history.specs.declared.funds.Payment.{Payment}
use Rattle.call_history.specs.declared.entry.Entry.{Entry}
use Rattle.call_history.proofs.Names.{same_bytes}
use Rattle.call_history.proofs.Payouts.{rest_more}
use Rattle.channel_safety.specs.Journals.{Line}
use Rattle.channel_safety.specs.Held.{held}
use Rattle.share_laws.specs.Places.{listed, outcomes_of, possible_after, is_held, last_made, possible}
use Rattle.share_laws.specs.ShareLaws.{AreSeen}
use Rattle.share_laws.proofs.Quiet.{IsQuiet, quiet-mode, quiet-settled, quiet-held}
use Rattle.channel_safety.proofs.Tests.{clash}

map-same : (g : List AssetOutcome → List AssetOutcome) → ((o : List AssetOutcome) → g o ≡ o) → (os : List (List AssetOutcome)) → os ≡ map g os
map-same g same [] = refl
map-same g same (o ∷ os) = ap (λ (x : List AssetOutcome). x ∷ os) (sym (same o)) ∙ ap (λ (xs : List (List AssetOutcome)). g o ∷ xs) (map-same g same os)

listed-map : (g : List AssetOutcome → List AssetOutcome) (o : Option (List AssetOutcome)) → listed (option_map g o) ≡ map g (listed o)
listed-map g None = refl
listed-map g (Some x) = refl

after-changed : (g : List AssetOutcome → List AssetOutcome) (held final : Bool) (now before : Option (List AssetOutcome)) (last : Option Signed) →
    (final ≡ false → (o : List AssetOutcome) → g o ≡ o) → (final ≡ true → now ≡ option_map g before) →
    cond held (possible_after final now last) [] ≡ map g (cond held (possible_after final before last) [])
after-changed g false final now before last same rest = refl
after-changed g true final now before None same rest = refl
after-changed g true false now before (Some s) same rest = map-same g (same refl) (outcomes_of s.state)
after-changed g true true now before (Some s) same rest = ap (λ (o : Option (List AssetOutcome)). listed o) (rest refl) ∙ listed-map g before

rest-changed : (g : List AssetOutcome → List AssetOutcome) (p q : ℕ → ℕ → ℕ) (o : Option (List AssetOutcome)) → ((x : List AssetOutcome) → rest_outcome q x ≡ g (rest_outcome p x)) →
    option_map (rest_outcome q) o ≡ option_map g (option_map (rest_outcome p) o)
rest-changed g p q None h = refl
rest-changed g p q (Some x) h = ap (λ (y : List AssetOutcome). Some y) (h x)

-- the outcome of n, where an item of s is lowered
abbrev pub lowered : (s : List ℕ) (asset place k : ℕ) → List ℕ → List AssetOutcome → List AssetOutcome
lowered s asset place k n o = cond (bytes_eq s n) (lower_outcome o asset place k) o

module _ (r : Rules) (e : Entry) (past : List Entry) (quiet : IsQuiet r e) (front : List Line) (seen : AreSeen past front) where
  -- where an entry changes what is left of a final channel's outcome by g, it changes what the channel can end with
  -- by g
  possible_changed : (g : List ℕ → List AssetOutcome → List AssetOutcome) →
      ((n : List ℕ) → is_final (mode r n past) ≡ false → (o : List AssetOutcome) → g n o ≡ o) →
      ((n : List ℕ) (o : List AssetOutcome) → rest_outcome (paid_of (e ∷ past) n) o ≡ g n (rest_outcome (paid_of past n) o)) →
      (f : FixedParts) → possible r (e ∷ past) front f ≡ map (g (r.named f)) (possible r past front f)
  possible_changed g same rest f =
      let n : List ℕ = r.named f in
      ap (λ (w : Option Marked). cond (is_held r f w) (possible_after (is_final (mode r n (e ∷ past))) (rest_of_channel r n (e ∷ past)) (last_made n front)) []) (quiet-held r e past quiet f front seen)
      ∙ (ap (λ (b : Bool). cond (is_held r f (held r f past front)) (possible_after b (rest_of_channel r n (e ∷ past)) (last_made n front)) []) (ap is_final (quiet-mode r e past quiet n))
      ∙ after-changed (g n) (is_held r f (held r f past front)) (is_final (mode r n past)) (rest_of_channel r n (e ∷ past)) (rest_of_channel r n past) (last_made n front)
      (same n) (λ final. ap (option_map (rest_outcome (paid_of (e ∷ past) n))) (quiet-settled r e past quiet n) ∙ rest-changed (g n) (paid_of past n) (paid_of (e ∷ past) n) (settled r n past) (rest n)))

  -- no item is paid
  pub possible-same : payment_of e.op e.reply ≡ [] → (f : FixedParts) → possible r (e ∷ past) front f ≡ map (λ o. o) (possible r past front f)
  possible-same none f = possible_changed (λ n o. o) (λ n final o. refl)
      (λ n o. ap (λ (ps : List Payment). rest_outcome (λ asset place. paid_of_item (ps ++ payments_of past) n asset place) o) none) f

  -- an item of the final channel s is
  pub possible-lowered : (s : List ℕ) (asset place k : ℕ) → payment_of e.op e.reply ≡ record { channel = s; asset = asset; place = place; amount = k } ∷ [] →
      is_final (mode r s past) ≡ true → (f : FixedParts) → possible r (e ∷ past) front f ≡ map (lowered s asset place k (r.named f)) (possible r past front f)
  possible-lowered s asset place k payment final f = possible_changed (lowered s asset place k) same rest f
    where
      p : Payment
      p = record { channel = s; asset = asset; place = place; amount = k }

      same : (n : List ℕ) → is_final (mode r n past) ≡ false → (o : List AssetOutcome) → cond (bytes_eq s n) (lower_outcome o asset place k) o ≡ o
      same n unfinished o = go (bytes_eq s n) (same_bytes s n)
        where
          go : (b : Bool) → (b ≡ true → s ≡ n) → cond b (lower_outcome o asset place k) o ≡ o
          go true is = absurd (clash (is_final (mode r n past)) (subst (λ (m : List ℕ). is_final (mode r m past) ≡ true) (is refl) final) unfinished)
          go false is = refl

      more : (n : List ℕ) (a i : ℕ) → paid_of (e ∷ past) n a i ≡ paid_of past n a i + cond (bytes_eq s n && ((asset == a) && (place == i))) k 0
      more n a i = omega (
        arith,
        ap (λ (ps : List Payment). paid_of_item (ps ++ payments_of past) n a i) payment,
        sum_by-cons (pays n a i) p (payments_of past),
      )

      rest : (n : List ℕ) (o : List AssetOutcome) → rest_outcome (paid_of (e ∷ past) n) o ≡ cond (bytes_eq s n) (lower_outcome (rest_outcome (paid_of past n) o) asset place k) (rest_outcome (paid_of past n) o)
      rest n o = go (bytes_eq s n) (more n)
        where
          plain : (x k : ℕ) → x + 0 ≡ x
          plain x k = omega arith

          go : (b : Bool) → ((a i : ℕ) → paid_of (e ∷ past) n a i ≡ paid_of past n a i + cond (b && ((asset == a) && (place == i))) k 0) →
              rest_outcome (paid_of (e ∷ past) n) o ≡ cond b (lower_outcome (rest_outcome (paid_of past n) o) asset place k) (rest_outcome (paid_of past n) o)
          go true h = rest_more (paid_of past n) (paid_of (e ∷ past) n) o asset place k h
          go false h = ap (λ (paid : ℕ → ℕ → ℕ). rest_outcome paid o) (fun_ext (λ a. fun_ext (λ i. h a i ∙ plain (paid_of past n a i) k)))

-- what a final channel can end with is what is left of its outcome
pub possible-final : (r : Rules) (past : List Entry) (front : List Line) (f : FixedParts) (o : List AssetOutcome) → is_final (mode r (r.named f) past) ≡ true →
    settled r (r.named f) past ≡ Some o → AllByRecursion (λ x. x ≡ rest_outcome (paid_of past (r.named f)) o) (possible r past front f)
possible-final r past front f o final is =
    go (is_held r f (held r f past front)) (is_final (mode r (r.named f) past)) final (rest_of_channel r (r.named f) past) (ap (option_map (rest_outcome (paid_of past (r.named f)))) is) (last_made (r.named f) front)
  where
    go : (held b : Bool) → b ≡ true → (rest : Option (List AssetOutcome)) → rest ≡ Some (rest_outcome (paid_of past (r.named f)) o) → (last : Option Signed) →
        AllByRecursion (λ x. x ≡ rest_outcome (paid_of past (r.named f)) o) (cond held (possible_after b rest last) [])
    go false b h rest k last = tt
    go true b h rest k None = tt
    go true false h rest k (Some s) = cc
    go true true h None k (Some s) = cc
    go true true h (Some x) k (Some s) = ((let same : x ≡ rest_outcome (paid_of past (r.named f)) o = cc in same), tt)
