-- The places of a node's journal before and after an event or an entry.
use Rattle.std.proofs.Common.{◌≡◌, ℕ, suc, ◌≤◌, true, false, List, [], ◌∷◌, ◌++◌, ◌⊎◌, inl, inr, length, refl, sym, ◌∙◌, ap, subst, arith}
use Rattle.std.specs.Prelude.{None}
use Rattle.channel_safety.proofs.Lists.{In-append_cases, append_assoc'}
use Rattle.channel_safety.proofs.Tests.{clash}
use Rattle.call_history.specs.declared.entry.Entry.{Entry}
use Rattle.call_history.specs.declared.event.Deed.{Deed}
use Rattle.call_history.specs.declared.event.Deed.TheVariants as deeds
use Rattle.channel_safety.specs.Journals.{In, Line, is_watched, made_in}
use Rattle.channel_node.proofs.Bridging.{lines-append, In-lines, plays-rises}
use Rattle.channel_node.specs.Places.{Told, line_of, lines_of}
use Rattle.channel_node.specs.Playing.{Signing, Plays}
use Rattle.stage_tables.specs.Stages.{stages}
use Rattle.fairness_laws.specs.PaymentLaws.{At, ActsNext}
use Rattle.fairness_laws.specs.PlanSettings.{IsFair}
use Rattle.support_rules.specs.Real.{real}
use Rattle.fairness_laws.proofs.Over.{Seen}
use Rattle.fairness_laws.proofs.Seat.Past.{early}

module _ (s : Signing) (h : List Entry) (journal : List Told) where
  pub before-event : (past : List Entry) (x : Told) (front : List Told) → (is_watched x.deed ≡ true) ⊎ (length past ≡ x.seen) → At s h journal past (x ∷ front) → At s h journal past front
  before-event past x front why at = record {
    front_is = record {
      later = at.front_is.later;
      newer = at.front_is.newer ++ x ∷ [];
      entries = at.front_is.entries;
      events = at.front_is.events ∙ append_assoc' at.front_is.newer (x ∷ []) front;
      few = at.front_is.few;
      before = λ y i w. at.front_is.before y (inr i) w;
    };
    place = record {
      later = at.place.later;
      newer = at.place.newer ++ line_of s.key x ∷ [];
      entries = at.place.entries;
      lines = at.place.lines ∙ append_assoc' at.place.newer (line_of s.key x ∷ []) (lines_of s.key front);
      before = λ y i w. at.place.before y (inr i) w;
      after = λ y i w. rising y (In-append_cases y at.place.newer (line_of s.key x ∷ []) i) w;
    };
  }
    where
      least : (n m : ℕ) → n ≡ m → n ≤ m
      least n m e = omega arith

      here : (is_watched x.deed ≡ true) ⊎ (length past ≡ x.seen) → is_watched x.deed ≡ false → length past ≤ x.seen
      here (inl watched) w = absurd (clash (is_watched x.deed) watched w)
      here (inr len) w = least (length past) x.seen len

      rising : (y : Line) → In y at.place.newer ⊎ In y (line_of s.key x ∷ []) → is_watched y.deed ≡ false → length past ≤ y.seen
      rising y (inl i) w = at.place.after y i w
      rising y (inr (inl e)) w = subst (λ (l : Line). length past ≤ l.seen) (sym e) (here why (subst (λ (l : Line). is_watched l.deed ≡ false) e w))
      rising y (inr (inr i)) w = absurd i

  pub before-entry : (past : List Entry) (e : Entry) (front : List Told) → Seen past front → At s h journal (e ∷ past) front → At s h journal past front
  before-entry past e front seen at = record {
    front_is = record {
      later = at.front_is.later ++ e ∷ [];
      newer = at.front_is.newer;
      entries = at.front_is.entries ∙ append_assoc' at.front_is.later (e ∷ []) past;
      events = at.front_is.events;
      few = at.front_is.few.1;
      before = seen;
    };
    place = record {
      later = at.place.later ++ e ∷ [];
      newer = at.place.newer;
      entries = at.place.entries ∙ append_assoc' at.place.later (e ∷ []) past;
      lines = at.place.lines;
      before = λ y i w. early y (In-lines s.key y front i) w;
      after = λ y i w. below (length past) y.seen (at.place.after y i w);
    };
  }
    where
      below : (n m : ℕ) → suc n ≤ m → n ≤ m
      below n m h = omega arith

      early : (y : Line) → (z : Told) × (In z front) × (y ≡ line_of s.key z) → is_watched y.deed ≡ false → y.seen ≤ length past
      early y z w = subst (λ (l : Line). l.seen ≤ length past) (sym z.2) (seen z.0 z.1 (subst (λ (l : Line). is_watched l.deed ≡ false) z.2 w))

-- a look signs nothing
pub watched-made : (d : Deed) → is_watched d ≡ true → (c : List ℕ) → made_in c d ≡ None
watched-made (deeds.Watched watcher calls) w c = refl
watched-made (deeds.Commanded step refusal) w c = absurd cc
watched-made (deeds.Handled bytes refusal) w c = absurd cc
watched-made (deeds.Signed channel state signature) w c = absurd cc
watched-made (deeds.SignedChallenge channel state who signature) w c = absurd cc
watched-made (deeds.Called call) w c = absurd cc

-- ---- where the node acts

module _ (s : Signing) (h : List Entry) (journal : List Told) (fair : IsFair s h journal) (past : List Entry) (x : Told) (front : List Told) (next : ActsNext s h journal past x front) where
  pub at-after : At s h journal past (x ∷ front)
  at-after = record {
    front_is = next.then;
    place = record {
      later = next.then.later;
      newer = lines_of s.key next.then.newer;
      entries = next.then.entries;
      lines = ap (lines_of s.key) next.then.events ∙ lines-append s.key next.then.newer (x ∷ front);
      before = early s h journal fair.nodes past (x ∷ front) next.then;
      after = λ y i w. come y (In-lines s.key y next.then.newer i);
    };
  }
    where
      seen : (z : Told) → In z next.then.newer → length past ≤ z.seen
      seen z i =
          subst (λ (n : ℕ). n ≤ z.seen) (sym next.len)
          (plays-rises stages real s h next.then.newer x front (subst (Plays stages real s h) next.then.events fair.nodes.plays) next.acts z i)

      come : (y : Line) → (z : Told) × (In z next.then.newer) × (y ≡ line_of s.key z) → length past ≤ y.seen
      come y z = subst (λ (l : Line). length past ≤ l.seen) (sym z.2) (seen z.0 z.1)

  pub at-before : At s h journal past front
  at-before = before-event s h journal past x front (inr next.len) at-after
