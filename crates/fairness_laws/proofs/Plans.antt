-- Who signs what its parts want fairly plans fairly.
use Rattle.std.proofs.Common.{◌≡◌, ℕ, ◌≤◌, true, List, [], ◌∷◌, ◌++◌, inl, inr, length, refl, sym, ◌∙◌, ap, subst}
use Rattle.std.specs.Prelude.{Option, Some, None}
use Rattle.channel_values.specs.Parts.{FixedParts, IsFixed}
use Rattle.channel_values.specs.Digests.{name_of_person}
use Rattle.call_history.specs.Rows.{fixed_of}
use Rattle.call_history.specs.declared.entry.Entry.{Entry}
use Rattle.call_history.specs.declared.event.Deed.{Deed}
use Rattle.call_history.specs.declared.event.Deed.TheVariants as deeds
use Rattle.funding_plans.specs.declared.plan.Part.{Part}
use Rattle.history_view.specs.Few.{OfFew}
use Rattle.channel_safety.proofs.Members.{In-append_right}
use Rattle.channel_safety.specs.Journals.{In, Line, is_watched}
use Rattle.channel_safety.specs.Strings.{signed_of}
use Rattle.channel_node.specs.Places.{Told, line_of, lines_of, AreFew}
use Rattle.channel_node.specs.Playing.{Signing, Plays}
use Rattle.channel_node.proofs.Bridging.{In-lines, lines-append}
use Rattle.node_guarantees.proofs.Ordering.{Fits, fits-journal}
use Rattle.node_guarantees.specs.NodeShareLaws.{IsFront}
use Rattle.node_guarantees.specs.Orders.{orders_of}
use Rattle.stage_tables.specs.Stages.{stages}
use Rattle.fairness_laws.proofs.Plan.Plans.{plans_are_whole}
use Rattle.fairness_laws.specs.PlanLaws.{PlanIs}
use Rattle.fairness_laws.specs.PaymentLaws.{At}
use Rattle.fairness_laws.specs.PlanSettings.{IsFair}
use Rattle.share_laws.specs.Kept.{is_signing, SignsFairly}
use Rattle.share_laws.specs.Places.{Order, plan, IsPlace}
use Rattle.support_rules.specs.Real.{real}
use Rattle.fairness_laws.specs.FairLaws.{WantingPlansFairly}
use Rattle.fairness_laws.specs.Wanting.{WantsFairly}
use Rattle.fairness_laws.proofs.Fronts.{Split, split, Acts, acts}
use Rattle.fairness_laws.proofs.Paying.{pays_in_held}
use Rattle.fairness_laws.proofs.Signing.{signs-fairly}

module _ (s : Signing) (h : List Entry) (journal : List Told) (fair : IsFair s h journal)
    (wants : (p : Part) → In p (plan (orders_of real s.key journal) (lines_of s.key journal)) → WantsFairly s h journal p) where
  abbrev orders : ℕ → Order
  orders = orders_of real s.key journal

  at-event : (past : List Entry) (newer : List Told) (x : Told) (front : List Told) → journal ≡ newer ++ x ∷ front → IsPlace h (lines_of s.key journal) past (lines_of s.key front)
      → IsPlace h (lines_of s.key journal) past (line_of s.key x ∷ lines_of s.key front) → is_signing x.deed ≡ true
      → SignsFairly real (name_of_person s.key) orders past (line_of s.key x) (lines_of s.key front)
  at-event past newer x front events p q signing = by x.deed refl signing
    where
      by : (d : Deed) → x.deed ≡ d → is_signing d ≡ true → SignsFairly real (name_of_person s.key) orders past (line_of s.key x) (lines_of s.key front)
      by (deeds.Commanded step refusal) is e = absurd cc
      by (deeds.Handled bytes refusal) is e = absurd cc
      by (deeds.SignedChallenge channel state who signature) is e = absurd cc
      by (deeds.Called call) is e = absurd cc
      by (deeds.Watched watcher calls) is e = absurd cc
      by (deeds.Signed channel state signature) is e =
          signs-fairly s h journal fair past front a.at wants (pays_in_held s h journal fair) x a channel state signature is
          (fair.nodes.valid.signed (line_of s.key x) channel state there signed).1 fits
        where
          a : Acts stages s h journal past x front
          a = acts stages s h journal fair.nodes.plays past newer x front events (ap is_watched is) p q

          there : In (line_of s.key x) (lines_of s.key journal)
          there =
              subst (In (line_of s.key x)) (sym (ap (lines_of s.key) events ∙ lines-append s.key newer (x ∷ front)))
              (In-append_right (line_of s.key x) (lines_of s.key newer) (lines_of s.key (x ∷ front)) (inl refl))

          signed : signed_of x.deed ≡ Some (channel, state)
          signed = ap signed_of is

          fits : Fits real s.key orders front
          fits =
              (subst (λ (j : List Told). Fits real s.key (orders_of real s.key j) (x ∷ front)) (sym events) (fits-journal real s.key newer (x ∷ front))).1

  pub signs : (past : List Entry) (x : Line) (front : List Line) → IsPlace h (lines_of s.key journal) past front → IsPlace h (lines_of s.key journal) past (x ∷ front)
      → is_signing x.deed ≡ true → SignsFairly real (name_of_person s.key) orders past x front
  signs past x front p q e =
      subst (λ (fs : List Line). SignsFairly real (name_of_person s.key) orders past x fs) z.rest
      (subst (λ (y : Line). SignsFairly real (name_of_person s.key) orders past y (lines_of s.key z.front)) z.line
      (at-event past z.newer z.event z.front z.events
      (subst (IsPlace h (lines_of s.key journal) past) (sym z.rest) p)
      (subst (λ (y : Line). IsPlace h (lines_of s.key journal) past (y ∷ lines_of s.key z.front)) (sym z.line) (subst (λ (fs : List Line). IsPlace h (lines_of s.key journal) past (x ∷ fs)) (sym z.rest) q))
      (ap (λ (y : Line). is_signing y.deed) z.line ∙ e)))
    where
      z : Split s.key journal x front
      z = split s.key journal q.newer x front q.lines

-- ---- the law

-- valid fixed parts have few people
few-of : (f : FixedParts) (o : Option FixedParts) → o ≡ Some f → IsFixed f → OfFew o
few-of f o e fixed = subst OfFew (sym e) fixed.at_most_four

pub valid-few : (h : List Entry) (journal : List Line) → ((e : Entry) (f : FixedParts) → In e h → fixed_of e.op ≡ Some f → IsFixed f) → AreFew h
valid-few [] journal valid = tt
valid-few (e ∷ past) journal valid = (one (fixed_of e.op) refl, valid-few past journal (λ x f i. valid x f (inr i)))
  where
    one : (o : Option FixedParts) → fixed_of e.op ≡ o → OfFew o
    one None is = tt
    one (Some f) is = few-of f (Some f) refl (valid e f (inl refl) is)

all-within : (s : Signing) (h : List Entry) (journal : List Told) → Plays stages real s h journal → (y : Told) → In y journal → y.seen ≤ length h
all-within s h [] plays y i = absurd i
all-within s h (x ∷ front) plays y (inl e) = subst (λ (z : Told). z.seen ≤ length h) (sym e) plays.0.within
all-within s h (x ∷ front) plays y (inr i) = all-within s h front plays.1 y i

-- the whole journal over the whole history
pub all-front : (s : Signing) (h : List Entry) (journal : List Told) → IsFair s h journal → IsFront h journal h journal
all-front s h journal fair = record {
  later = [];
  newer = [];
  entries = refl;
  events = refl;
  few = valid-few h (lines_of s.key journal) (λ e f i is. fair.nodes.valid.fixed f (inl (e, i, is)));
  before = λ y i w. all-within s h journal fair.nodes.plays y i;
}

pub whole-place : (s : Signing) (h : List Entry) (journal : List Told) → IsFair s h journal → At s h journal h journal
whole-place s h journal fair = record {
  front_is = all-front s h journal fair;
  place = record {
    later = [];
    newer = [];
    entries = refl;
    lines = refl;
    before = λ x i w. (let told = In-lines s.key x journal i in subst (λ (z : Line). z.seen ≤ length h) (sym told.2)
        ((all-front s h journal fair).before told.0 told.1 (ap (λ (z : Line). is_watched z.deed) (sym told.2) ∙ w)));
    after = λ x i w. absurd i;
  };
}

pub wanting_plans_fairly : WantingPlansFairly
wanting_plans_fairly s h journal fair wants guarantors = record {
  whole = is.whole;
  channels_differ = is.channels_differ;
  rests = is.rests;
  guarantors = guarantors;
  signs = signs s h journal fair wants;
}
  where
    is : PlanIs s (orders_of real s.key journal) journal
    is = plans_are_whole s h journal h journal fair.nodes (all-front s h journal fair)
