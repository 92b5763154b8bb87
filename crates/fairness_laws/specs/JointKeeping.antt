-- What the joint channels of a node's virtual channels can end with, at each place of its journal.
use Rattle.std.specs.Prelude.{◌≡◌, ℕ, ◌+◌, true, false, List, [], ◌∷◌, Some, ◌⊎◌}
use Rattle.channel_values.specs.Parts.{StateParts}
use Rattle.channel_values.specs.declared.chain.Signed.{Signed}
use Rattle.channel_values.specs.declared.value.AssetOutcome.{AssetOutcome}
use Rattle.call_history.specs.declared.entry.Entry.{Entry}
use Rattle.funding_plans.specs.declared.plan.Goal.{Goal}
use Rattle.funding_plans.specs.declared.plan.Part.TheVariants as parts
use Rattle.funding_plans.specs.declared.plan.Virtual.{Virtual}
use Rattle.channel_safety.specs.Journals.{In, Line, made_in}
use Rattle.channel_node.specs.Minds.{facts_of}
use Rattle.channel_node.specs.Places.{Told, lines_of, mind_at}
use Rattle.channel_node.specs.Playing.{Signing}
use Rattle.funding_plans.specs.Targets.{apart, together}
use Rattle.funding_plans.specs.declared.terms.Terms.{Terms}
use Rattle.share_laws.specs.Places.{outcomes_of}
use Rattle.funding_plans.specs.Seats.{state_is, holds, has_signed_past, settled_on}
use Rattle.support_rules.specs.Real.{real}
use Rattle.virtual_channel.specs.Ends as ends
use Rattle.virtual_channel.specs.Ends.{End}
use Rattle.virtual_channel.specs.Middles as middles
use Rattle.virtual_channel.specs.Middles.{Middle, is_without}
use Rattle.fairness_laws.specs.PaymentLaws.{At}
use Rattle.fairness_laws.specs.PlanParts.{EndIs, MiddleIs}
use Rattle.fairness_laws.specs.PlanSettings.{IsFair}

-- amounts for the ends that make up the total
pub record IsSplit (t : Terms) (o : List AssetOutcome) : Type 0 where
  pub amounts : ℕ × ℕ
  pub is : o ≡ apart t amounts
  pub sum : amounts.0 + amounts.1 ≡ t.total

-- the payment channel is over, with these amounts for the ends
pub record IsOver (p : End) (o : List AssetOutcome) : Type 0 where
  pub amounts : ℕ × ℕ
  pub now : ends.ends_now p ≡ Some amounts
  pub all_final : p.channel.all_final ≡ true
  pub is : o ≡ apart p.terms amounts

-- Of the joint channel at an end, by the state that the end signed last there.
pub record EndKeeps (g : Goal) (p : End) : Type 0 where
  -- a participant that signed past its set-up, or was told to close, holds the set-up of all three channels
  pub set_up : (p.closing ≡ true) ⊎ (has_signed_past p.joint ≡ true) → ends.are_set_up p ≡ true
  -- a participant that signed past the payment channel's set-up, or was told to close, signed past this one's
  pub past : (p.closing ≡ true) ⊎ (has_signed_past p.channel ≡ true) → has_signed_past p.joint ≡ true
  -- in the set-up it pays the ends what they bring
  pub opens : (last : StateParts) → p.joint.own ≡ Some last → has_signed_past p.joint ≡ false → outcomes_of last ≡ apart p.terms g.amounts ∷ []
  -- until Close it pays that, or all to the payment channel
  pub joins : p.closing ≡ false → (last : StateParts) (o : List AssetOutcome) → p.joint.own ≡ Some last → In o (outcomes_of last)
      → (o ≡ apart p.terms g.amounts) ⊎ (o ≡ together p.terms)
  -- settled on that it pays nothing else, and the post-fund round is held
  pub joined : p.closing ≡ false → settled_on (ends.target_together p) p.joint ≡ true → (last : StateParts) → p.joint.own ≡ Some last
      → (outcomes_of last ≡ together p.terms ∷ []) × (holds 5 p.joint ≡ true)
  -- it is settled so where the payment channel is past its set-up
  pub opened : p.closing ≡ false → has_signed_past p.channel ≡ true → settled_on (ends.target_together p) p.joint ≡ true
  -- from Close on it pays all to that, or the ends what it ended with
  pub parts : p.closing ≡ true → (last : StateParts) (o : List AssetOutcome) → p.joint.own ≡ Some last → In o (outcomes_of last)
      → (o ≡ together p.terms) ⊎ IsOver p o
  -- settled on these amounts it pays nothing else
  pub parted : p.closing ≡ true → settled_on (ends.target_back p) p.joint ≡ true → (last : StateParts) → p.joint.own ≡ Some last
      → (over : IsOver p last.outcome) × (outcomes_of last ≡ apart p.terms over.amounts ∷ [])
  -- that it has no votes and no item for the payment channel says so
  pub without : p.closing ≡ true → state_is (is_without p.terms) p.joint.own ≡ settled_on (ends.target_back p) p.joint

-- And at the intermediary.
pub record MiddleKeeps (g : Goal) (p : Middle) : Type 0 where
  pub set_up : (p.closing ≡ true) ⊎ (has_signed_past p.joint ≡ true) → middles.are_set_up p ≡ true
  pub past : (p.closing ≡ true) ⊎ (settled_on (middles.target_together p) p.joint ≡ true) → has_signed_past p.joint ≡ true
  pub opens : (last : StateParts) → p.joint.own ≡ Some last → has_signed_past p.joint ≡ false → outcomes_of last ≡ apart p.terms g.amounts ∷ []
  pub joins : p.closing ≡ false → (last : StateParts) (o : List AssetOutcome) → p.joint.own ≡ Some last → In o (outcomes_of last)
      → (o ≡ apart p.terms g.amounts) ⊎ (o ≡ together p.terms)
  pub joined : p.closing ≡ false → settled_on (middles.target_together p) p.joint ≡ true → (last : StateParts) → p.joint.own ≡ Some last
      → (outcomes_of last ≡ together p.terms ∷ []) × (holds 5 p.joint ≡ true)
  -- from Close on it pays all to the payment channel, or the ends amounts that make up the total
  pub parts : p.closing ≡ true → (last : StateParts) (o : List AssetOutcome) → p.joint.own ≡ Some last → In o (outcomes_of last)
      → (o ≡ together p.terms) ⊎ IsSplit p.terms o
  -- once it has no votes and no item for that it pays nothing else than what is found there
  pub parted : p.closing ≡ true → middles.is_settled_back p ≡ true → (last : StateParts) → p.joint.own ≡ Some last
      → (split : IsSplit p.terms last.outcome) × (outcomes_of last ≡ apart p.terms split.amounts ∷ []) × (middles.found p ≡ Some split.amounts)

-- each state that was signed in it pays all to the payment channel, or the ends amounts that make up the total
abbrev pub SignsSplits : Terms → (joint : List ℕ) → List Line → Type 0
SignsSplits t joint journal =
    (x : Line) (n : Signed) (o : List AssetOutcome) → In x journal → made_in joint x.deed ≡ Some n → In o (outcomes_of n.state)
    → (o ≡ together t) ⊎ IsSplit t o

-- So it is at each place of a node's journal.
abbrev pub EndsKeep : Type 0
EndsKeep =
    (s : Signing) (h : List Entry) (journal : List Told) (past : List Entry) (front : List Told) → IsFair s h journal
    → At s h journal past front → (v : Virtual) (g : Goal) → In (parts.End v) (mind_at real s.key past front).parts
    → (e : EndIs s.key past (lines_of s.key front) (facts_of (mind_at real s.key past front)) v g) → EndKeeps g e.end

abbrev pub MiddlesKeep : Type 0
MiddlesKeep =
    (s : Signing) (h : List Entry) (journal : List Told) (past : List Entry) (front : List Told) → IsFair s h journal
    → At s h journal past front → (v : Virtual) (g : Goal) → In (parts.Middle v) (mind_at real s.key past front).parts
    → (m : MiddleIs s.key past (lines_of s.key front) (facts_of (mind_at real s.key past front)) v g) → MiddleKeeps g m.middle

-- and of all that it signed there
abbrev pub EndsSplit : Type 0
EndsSplit =
    (s : Signing) (h : List Entry) (journal : List Told) → IsFair s h journal → (v : Virtual) (g : Goal)
    → In (parts.End v) (mind_at real s.key h journal).parts
    → (e : EndIs s.key h (lines_of s.key journal) (facts_of (mind_at real s.key h journal)) v g)
    → SignsSplits e.end.terms v.joint (lines_of s.key journal)

abbrev pub MiddlesSplit : Type 0
MiddlesSplit =
    (s : Signing) (h : List Entry) (journal : List Told) → IsFair s h journal → (v : Virtual) (g : Goal)
    → In (parts.Middle v) (mind_at real s.key h journal).parts
    → (m : MiddleIs s.key h (lines_of s.key journal) (facts_of (mind_at real s.key h journal)) v g)
    → SignsSplits m.middle.terms v.joint (lines_of s.key journal)
