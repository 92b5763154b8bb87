-- The whole law from what is known at each place.
use Rattle.std.proofs.Common.{◌≡◌, ℕ, ◌≤◌, Bool, true, false, ◌||◌, not, List, [], ◌∷◌, ◌++◌, refl, sym, ◌∙◌, ap, subst, inl}
use Rattle.std.proofs.lemmas.List.{append-nil, append_cancel_right, append_assoc}
use Rattle.std.specs.Str.{bytes_eq}
use Rattle.channel_values.specs.Parts.{FixedParts}
use Rattle.channel_values.specs.Rules.{Rules}
use Rattle.call_history.specs.History.{Legal, is_accepted}
use Rattle.call_history.specs.declared.entry.Entry.{Entry}
use Rattle.channel_safety.specs.Journals.{In, Line, opened}
use Rattle.share_laws.specs.Places.{Order, channels, share, IsPlace}
use Rattle.share_laws.specs.Kept.{is_signing}
use Rattle.channel_safety.specs.Occurring.{NoCollision}
use Rattle.channel_values.specs.Outcomes.{AreApart}
use Rattle.share_laws.specs.ShareLaws.{moves_funds}
use Rattle.share_laws.specs.Turns.{names}
use Rattle.share_laws.specs.Whole.{IsKnown, NobodyLowersShares}
use Rattle.share_laws.proofs.Fewer.{fewer}
use Rattle.share_laws.proofs.Law.{flows_keep}
use Rattle.share_laws.proofs.Keeping.{turns_keep, lines_keep}
use Rattle.channel_safety.proofs.Lists.{In-append_right}
use Rattle.channel_safety.proofs.Rowing.{legal-suffix}
use Rattle.share_laws.proofs.Apart.{apart-front}

-- channels of a journal's front come first
channels-later : (newer front : List Line) → (gs : List FixedParts) × (channels (newer ++ front) ≡ channels front ++ gs)
channels-later [] front = ([], sym (append-nil (channels front)))
channels-later (x ∷ newer) front =
    let p = channels-later newer front in
    (p.0 ++ opened x, ap (λ (fs : List FixedParts). fs ++ opened x) p.1 ∙ append_assoc (channels front) p.0 (opened x))

names-append : (r : Rules) (fs gs : List FixedParts) → names r (fs ++ gs) ≡ names r fs ++ names r gs
names-append r [] gs = refl
names-append r (f ∷ fs) gs = ap (λ (ns : List (List ℕ)). r.named f ∷ ns) (names-append r fs gs)

module _ (r : Rules) (me : List ℕ) (orders : ℕ → Order) (h : List Entry) (journal : List Line) (legal : Legal r h) (distinct : NoCollision r h journal) (known : IsKnown r me orders h journal) where
  apart : (newer front : List Line) → journal ≡ newer ++ front → AreApart bytes_eq (names r (channels front))
  apart newer front is =
      let p = channels-later newer front in
      apart-front (names r (channels front)) (names r p.0)
      (subst (λ (ns : List (List ℕ)). AreApart bytes_eq ns) (ap (λ (js : List Line). names r (channels js)) is ∙ (ap (names r) p.1 ∙ names-append r (channels front) p.0)) known.channels_differ)

  legal-there : (past : List Entry) (e : Entry) (front : List Line) → IsPlace h journal (e ∷ past) front → Legal r (e ∷ past)
  legal-there past e front at = legal-suffix r at.later (e ∷ past) (subst (Legal r) at.entries legal)

  entry : (past : List Entry) (e : Entry) (front : List Line) → IsPlace h journal past front → IsPlace h journal (e ∷ past) front → (asset : ℕ) →
      share r me orders past front asset ≤ share r me orders (e ∷ past) front asset
  entry past e front before after asset = go (moves_funds e.op) refl
    where
      go : (b : Bool) → moves_funds e.op ≡ b → share r me orders past front asset ≤ share r me orders (e ∷ past) front asset
      go true m =
          flows_keep r me orders past e front (legal-there past e front after)
          (fewer r after.later (e ∷ past) after.newer front (subst (λ (es : List Entry). NoCollision r es (after.newer ++ front)) after.entries (subst (NoCollision r h) after.lines distinct)))
          before.before (known.sound past front before) (ap (λ (b : Bool). b || not (is_accepted e.reply)) m) asset
      go false m =
          turns_keep r me orders past e front (legal-there past e front after) before.before (apart before.newer front before.lines) m (known.ends past e front before after) asset

  line : (past : List Entry) (x : Line) (front : List Line) → IsPlace h journal past front → IsPlace h journal past (x ∷ front) → is_signing x.deed ≡ false → (asset : ℕ) →
      share r me orders past front asset ≤ share r me orders past (x ∷ front) asset
  line past x front before after unsigned asset =
      lines_keep r me orders past x front (λ w. before.after x there w) (apart after.newer (x ∷ front) after.lines) unsigned asset
    where
      same : before.newer ≡ after.newer ++ x ∷ []
      same = append_cancel_right before.newer (after.newer ++ x ∷ []) front (sym before.lines ∙ (after.lines ∙ sym (append_assoc after.newer (x ∷ []) front)))

      there : In x before.newer
      there = subst (λ (xs : List Line). In x xs) (sym same) (In-append_right x after.newer (x ∷ []) (inl refl))

pub whole : NobodyLowersShares
whole r me orders h journal legal distinct known = record {
  entries = entry r me orders h journal legal distinct known;
  lines = line r me orders h journal legal distinct known;
  signings = known.signs;
}
