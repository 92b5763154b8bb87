-- Channels of a node's journal at a place: one of each name, and the set-up of what is held of it.
use Rattle.std.proofs.Common.{◌≡◌, ℕ, Bool, true, false, List, [], ◌∷◌, inl, inr, length, sym, ◌∙◌, ap, subst}
use Rattle.std.specs.Prelude.{Some}
use Rattle.std.specs.List.{slice_get, list_any}
use Rattle.std.specs.Str.{bytes_eq}
use Rattle.channel_values.specs.Outcomes.{AreApart}
use Rattle.channel_values.specs.Parts.{FixedParts}
use Rattle.channel_values.specs.declared.value.AssetOutcome.{AssetOutcome}
use Rattle.channel_safety.proofs.Tests.{clash}
use Rattle.call_history.proofs.Names.{bytes_eq_self}
use Rattle.call_history.specs.declared.entry.Entry.{Entry}
use Rattle.channel_safety.proofs.Members.{In-append_right}
use Rattle.channel_safety.specs.Held.{held}
use Rattle.channel_safety.specs.Journals.{In, Line}
use Rattle.channel_safety.specs.Safety.{IsChannelOf}
use Rattle.channel_node.proofs.Once.{played_journals_are_honest}
use Rattle.channel_node.specs.Places.{Told, lines_of}
use Rattle.channel_node.specs.Playing.{Signing}
use Rattle.stage_tables.specs.Stages.{stages}
use Rattle.fairness_laws.proofs.OneByOne.{or_false}
use Rattle.fairness_laws.specs.PaymentLaws.{At}
use Rattle.fairness_laws.specs.PlanSettings.{IsFair}
use Rattle.share_laws.proofs.Finality.{opened-there, opens-not_watched}
use Rattle.share_laws.specs.Places.{channels}
use Rattle.share_laws.specs.Signatures.{IsOwn}
use Rattle.support_rules.specs.Real.{real}
use Rattle.fairness_laws.proofs.Carried.{set_ups_are_carried}
use Rattle.fairness_laws.specs.Carried.{OpensWith, IsRepeatedIfAny}

abbrev Named : FixedParts → FixedParts → Bool
Named g h = bytes_eq (real.named g) (real.named h)

not-named : (f : FixedParts) (fs : List FixedParts) (g : FixedParts) → list_any (Named f) fs ≡ false → In g fs → real.named f ≡ real.named g → ⊥
not-named f [] g none i same = i
not-named f (x ∷ fs) g none (inl e) same =
    clash (Named f x) (subst (λ (n : List ℕ). bytes_eq (real.named f) n ≡ true) (same ∙ ap (λ (y : FixedParts). real.named y) e) (bytes_eq_self (real.named f))) (or_false (Named f x) (list_any (Named f) fs) none).0
not-named f (x ∷ fs) g none (inr i) same = not-named f fs g (or_false (Named f x) (list_any (Named f) fs) none).1 i same

one-among : (fs : List FixedParts) → AreApart Named fs → (f g : FixedParts) → In f fs → In g fs → real.named f ≡ real.named g → f ≡ g
one-among [] apart f g i j same = absurd i
one-among (x ∷ fs) apart f g (inl e) (inl k) same = e ∙ sym k
one-among (x ∷ fs) apart f g (inl e) (inr j) same = absurd (not-named x fs g apart.0 j (sym (ap (λ (y : FixedParts). real.named y) e) ∙ same))
one-among (x ∷ fs) apart f g (inr i) (inl k) same = absurd (not-named x fs f apart.0 i (sym (ap (λ (y : FixedParts). real.named y) k) ∙ sym same))
one-among (x ∷ fs) apart f g (inr i) (inr j) same = one-among fs apart.1 f g i j same

-- a name determines a channel
pub one-named : (front : List Line) (f g : FixedParts) → IsOwn real front f → IsOwn real front g → real.named f ≡ real.named g → f ≡ g
one-named front f g own other same = one-among (channels front) own.apart f g own.there other.there same

-- a channel of the front, as the laws on histories speak of it
pub channel-of : (s : Signing) (h : List Entry) (journal : List Told) (past : List Entry) (front : List Told) → At s h journal past front → (f : FixedParts) → In f (channels (lines_of s.key front)) → (me : ℕ)
    → slice_get f.keys me ≡ Some s.key → IsChannelOf s.key f (lines_of s.key journal) (length past)
channel-of s h journal past front at f i me mine =
    let o = opened-there (lines_of s.key front) f i in
    record {
      line = o.0;
      there = subst (In o.0) (sym at.place.lines) (In-append_right o.0 at.place.newer (lines_of s.key front) o.1);
      early = at.place.before o.0 o.1 (opens-not_watched o.0 f o.2);
      opens = o.2;
      me = me;
      mine = mine;
    }

-- what is held of it repeats its opening outcome while the set-up lasts
pub carried : (s : Signing) (h : List Entry) (journal : List Told) → IsFair s h journal → (past : List Entry) (front : List Told) → At s h journal past front → (f : FixedParts) (o : List AssetOutcome)
    → IsChannelOf s.key f (lines_of s.key journal) (length past) → OpensWith f o (lines_of s.key journal) → IsRepeatedIfAny f o (held real f past (lines_of s.key front))
carried s h journal fair past front at f o channel opens =
    set_ups_are_carried s.key h (lines_of s.key journal) fair.nodes.legal (played_journals_are_honest stages real s h journal fair.nodes.signs fair.nodes.legal fair.nodes.plays) fair.unforged fair.nodes.distinct
    fair.nodes.valid f o (length past) channel opens at.place.later past at.place.newer (lines_of s.key front) at.place.entries at.place.lines
