-- What a participant holds is as new as all that it noted and saw, and closed once it signed a final state.
use Rattle.std.proofs.Common.{◌≡◌, ℕ, suc, ◌+◌, ◌%◌, ◌<◌, ◌≤◌, Bool, true, false, List, [], ◌∷◌, ◌++◌, ◌⊎◌, inl, inr, length, refl, sym, ◌∙◌, ap, subst, arith}
use Rattle.std.specs.Prelude.{Option, Some}
use Rattle.std.specs.List.{slice_get}
use Rattle.std.specs.Str.{bytes_eq}
use Rattle.channel_values.specs.Parts.{FixedParts, StateParts, IsState}
use Rattle.channel_values.specs.declared.chain.Mark.{Mark}
use Rattle.channel_values.specs.declared.chain.Signed.{Signed}
use Rattle.channel_values.specs.declared.value.AssetOutcome.{AssetOutcome}
use Rattle.channel_values.specs.Messages.{message_of_state, message_of_challenge}
use Rattle.channel_values.specs.Rules.{Rules, people, newest, turn_of, top_turn, signs, KeepsFinal}
use Rattle.call_history.specs.Rows.{fixed_of}
use Rattle.call_history.specs.History.{is_accepted, is_named, turning, Legal}
use Rattle.call_history.specs.Marked.{Marked, nothing, marked_of, is_supported}
use Rattle.call_history.specs.Shown.{challenge_in, challenged, shown_by, shown}
use Rattle.call_history.specs.declared.call.Call.TheVariants.{Challenge, Respond, Refute, Checkpoint, Conclude}
use Rattle.call_history.specs.declared.call.Op.{Op}
use Rattle.call_history.specs.declared.call.Op.TheVariants as ops
use Rattle.call_history.specs.declared.entry.Entry.{Entry}
use Rattle.call_history.specs.declared.event.Deed.{Deed}
use Rattle.call_history.specs.declared.event.Deed.TheVariants as deeds
use Rattle.call_history.proofs.Names.{same_bytes, bytes_eq_self}
use Rattle.channel_safety.specs.Journals.{In, Line, some_if, made_in, noted_in, is_watched}
use Rattle.channel_safety.specs.Held.{note, show, held}
use Rattle.channel_safety.specs.Strings.{signed_marks, signed_in, states_in, signed_of, string_of, WasSignedBy}
use Rattle.channel_safety.specs.Premises.{Unforged}
use Rattle.channel_safety.specs.Occurring.{OccursFixed, NoCollision, AreValid, in_call, in_line}
use Rattle.channel_safety.specs.Honest.{key_at, HonestAt, HonestLine, HonestIn}
use Rattle.channel_safety.proofs.Tests.{cond-false, cond-true, and-left, and-right, some-eq, none-eq}
use Rattle.channel_safety.proofs.Lists.{Split, split_of, In-append_left, In-append_right, In-append_cases, In-get, Suffix, suffix_of, append_assoc', length-up}
use Rattle.channel_safety.proofs.Chains.{AreStates, IsClosed, from_mark, OwnState, own_state}
use Rattle.channel_safety.proofs.Rowing.{legal-suffix}
use Rattle.channel_safety.proofs.Replies.{taken, challenge_ok}
use Rattle.channel_safety.proofs.Answering.{PlacesIn, supported-places, answered-signed, answered-states}
use Rattle.channel_safety.proofs.Places.{noted-not_watched, made-not_watched, made-noted, slot-lasts, over-entries, over-lines, held-at}
use Rattle.channel_safety.proofs.Keeps.{HoldsNewer, HoldsClosed, note-newer, note-closed, show-newer, show-closed, adopted-at, ends-newer, ends-closed}

-- where a state of a shown chain stands in a call
pub record Source (r : Rules) (c : List ℕ) (h : List Entry) (s : Signed) : Type 0 where
  pub later : List Entry
  pub entry : Entry
  pub past : List Entry
  pub fixed : FixedParts
  pub is : h ≡ later ++ entry ∷ past
  pub has : fixed_of entry.op ≡ Some fixed
  pub named : r.named fixed ≡ c
  pub there : In s (signed_in entry.op)

further : (r : Rules) (c : List ℕ) (e : Entry) (h : List Entry) (s : Signed) → Source r c h s → Source r c (e ∷ h) s
further r c e h s x =
    record { later = e ∷ x.later; entry = x.entry; past = x.past; fixed = x.fixed; is = ap (λ (z : List Entry). e ∷ z) x.is; has = x.has; named = x.named; there = x.there }

here : (r : Rules) (c : List ℕ) (e : Entry) (past : List Entry) (F : FixedParts) (s : Signed) (op : Op) → e.op ≡ op → fixed_of op ≡ Some F → bytes_eq (r.named F) c ≡ true → In s (signed_in op)
    → Source r c (e ∷ past) s
here r c e past F s op is has named there =
    record {
      later = [];
      entry = e;
      past = past;
      fixed = F;
      is = refl;
      has = subst (λ (x : Op). fixed_of x ≡ Some F) (sym is) has;
      named = same_bytes (r.named F) c named;
      there = subst (λ (x : Op). In s (signed_in x)) (sym is) there;
    }

-- the challenged chain of a legal history has each mark on one of its states
pub challenged-places : (r : Rules) (c : List ℕ) (past : List Entry) → Legal r past → PlacesIn (challenged r c past)
challenged-places r c [] legal = λ i m e. absurd (none-eq m e)
challenged-places r c (e ∷ past) legal = go (turning r c e) refl (challenged-places r c past legal.0)
  where
    by : (op : Op) → e.op ≡ op → is_accepted e.reply ≡ true → PlacesIn (challenged r c past) → PlacesIn (challenge_in op (challenged r c past))
    by (ops.Call (Challenge k)) is acc before =
        supported-places r k.chain.fixed (marked_of k.chain) (challenge_ok r past k.chain k.challenger k.signature (taken r past e (Challenge k) legal is acc)).supported
    by _ is acc before = before

    go : (b : Bool) → turning r c e ≡ b → PlacesIn (challenged r c past) → PlacesIn (challenged r c (e ∷ past))
    go true t before =
        subst PlacesIn (sym (cond-true (turning r c e) (challenge_in e.op (challenged r c past)) (challenged r c past) t)) (by e.op refl (and-left (is_accepted e.reply) (is_named r c (fixed_of e.op)) t) before)
    go false t before = subst PlacesIn (sym (cond-false (turning r c e) (challenge_in e.op (challenged r c past)) (challenged r c past) t)) before

-- the signature is of the chain
abbrev pub InChain : Signed → Marked → Type 0
InChain s w = In s (signed_marks w.states w.marks)

pub from_challenge : (r : Rules) (c : List ℕ) (past : List Entry) (s : Signed) → InChain s (challenged r c past) → Source r c past s
from_challenge r c [] s i = absurd i
from_challenge r c (e ∷ past) s i = go (turning r c e) refl (from_challenge r c past s)
  where
    by : (op : Op) → e.op ≡ op → is_named r c (fixed_of op) ≡ true → (InChain s (challenged r c past) → Source r c past s) → InChain s (challenge_in op (challenged r c past)) → Source r c (e ∷ past) s
    by (ops.Call (Challenge k)) is named before j = here r c e past k.chain.fixed s (ops.Call (Challenge k)) is refl named j
    by _ is named before j = further r c e past s (before j)

    go : (b : Bool) → turning r c e ≡ b → (InChain s (challenged r c past) → Source r c past s) → Source r c (e ∷ past) s
    go true t before = by e.op refl (and-right (is_accepted e.reply) (is_named r c (fixed_of e.op)) t) before (subst (InChain s) (cond-true (turning r c e) (challenge_in e.op (challenged r c past)) (challenged r c past) t) i)
    go false t before = further r c e past s (before (subst (InChain s) (cond-false (turning r c e) (challenge_in e.op (challenged r c past)) (challenged r c past) t) i))

pub from_shown : (r : Rules) (c : List ℕ) (past : List Entry) (e : Entry) (s : Signed) → Legal r past → InChain s (shown r c past e) → Source r c (e ∷ past) s
from_shown r c past e s legal i = go (turning r c e) refl
  where
    by : (op : Op) → e.op ≡ op → is_named r c (fixed_of op) ≡ true → InChain s (shown_by r c past op) → Source r c (e ∷ past) s
    by (ops.Call (Challenge k)) is named j = here r c e past k.chain.fixed s (ops.Call (Challenge k)) is refl named j
    by (ops.Call (Respond k)) is named j = either (answered-signed k.fixed k.next (challenged r c past) s (challenged-places r c past legal) j)
      where
        either : (s ≡ k.next) ⊎ InChain s (challenged r c past) → Source r c (e ∷ past) s
        either (inl q) = here r c e past k.fixed s (ops.Call (Respond k)) is refl named (inl q)
        either (inr q) = further r c e past s (from_challenge r c past s q)
    by (ops.Call (Checkpoint chain)) is named j = here r c e past chain.fixed s (ops.Call (Checkpoint chain)) is refl named j
    by (ops.Call (Conclude chain)) is named j = here r c e past chain.fixed s (ops.Call (Conclude chain)) is refl named j
    by _ is named j = absurd j

    go : (b : Bool) → turning r c e ≡ b → Source r c (e ∷ past) s
    go true t = by e.op refl (and-right (is_accepted e.reply) (is_named r c (fixed_of e.op)) t) (subst (InChain s) (cond-true (turning r c e) (shown_by r c past e.op) nothing t) i)
    go false t = absurd (subst (InChain s) (cond-false (turning r c e) (shown_by r c past e.op) nothing t) i)

-- all states of these entries are states
abbrev pub HasStates : List Entry → Type 0
HasStates h = (e : Entry) (s : StateParts) → In e h → In s (states_in e.op) → IsState s

challenged-valid : (r : Rules) (c : List ℕ) (past : List Entry) → HasStates past → AreStates (challenged r c past).states
challenged-valid r c [] valid = λ x i. absurd i
challenged-valid r c (e ∷ past) valid = go (turning r c e) refl (challenged-valid r c past (λ k s i j. valid k s (inr i) j))
  where
    by : (op : Op) → e.op ≡ op → AreStates (challenged r c past).states → AreStates (challenge_in op (challenged r c past)).states
    by (ops.Call (Challenge k)) is before = λ x i. valid e x (inl refl) (subst (λ (o : Op). In x (states_in o)) (sym is) i)
    by _ is before = before

    go : (b : Bool) → turning r c e ≡ b → AreStates (challenged r c past).states → AreStates (challenged r c (e ∷ past)).states
    go true t before = subst (λ (w : Marked). AreStates w.states) (sym (cond-true (turning r c e) (challenge_in e.op (challenged r c past)) (challenged r c past) t)) (by e.op refl before)
    go false t before = subst (λ (w : Marked). AreStates w.states) (sym (cond-false (turning r c e) (challenge_in e.op (challenged r c past)) (challenged r c past) t)) before

shown-valid : (r : Rules) (c : List ℕ) (past : List Entry) (e : Entry) → HasStates (e ∷ past) → AreStates (shown r c past e).states
shown-valid r c past e valid = go (turning r c e) refl
  where
    in_entry : (op : Op) (x : StateParts) → e.op ≡ op → In x (states_in op) → IsState x
    in_entry op x is i = valid e x (inl refl) (subst (λ (o : Op). In x (states_in o)) (sym is) i)

    by : (op : Op) → e.op ≡ op → AreStates (shown_by r c past op).states
    by (ops.Call (Challenge k)) is = λ x i. in_entry (ops.Call (Challenge k)) x is i
    by (ops.Call (Respond k)) is = λ x i. either x (answered-states k.fixed k.next (challenged r c past) x i)
      where
        either : (x : StateParts) → (x ≡ k.next.state) ⊎ In x (challenged r c past).states → IsState x
        either x (inl q) = in_entry (ops.Call (Respond k)) x is (inr (inl q))
        either x (inr j) = challenged-valid r c past (λ y s a b. valid y s (inr a) b) x j
    by (ops.Call (Checkpoint chain)) is = λ x i. in_entry (ops.Call (Checkpoint chain)) x is i
    by (ops.Call (Conclude chain)) is = λ x i. in_entry (ops.Call (Conclude chain)) x is i
    by _ is = λ x i. absurd i

    go : (b : Bool) → turning r c e ≡ b → AreStates (shown r c past e).states
    go true t = subst (λ (w : Marked). AreStates w.states) (sym (cond-true (turning r c e) (shown_by r c past e.op) nothing t)) (by e.op refl)
    go false t = subst (λ (w : Marked). AreStates w.states) (sym (cond-false (turning r c e) (shown_by r c past e.op) nothing t)) (λ x i. absurd i)

-- the premises of one channel of one participant
pub record Setting (r : Rules) (key : List ℕ) (F : FixedParts) (h : List Entry) (journal : List Line) : Type 0 where
  pub keeps : KeepsFinal r
  pub legal : Legal r h
  pub honest : HonestIn r key F h journal
  pub unforged : Unforged r key h journal
  pub distinct : NoCollision r h journal
  pub valid : AreValid h journal
  pub occurs : OccursFixed h journal F
  pub me : ℕ
  pub small : me < people F
  pub mine : slice_get F.keys me ≡ Some key
  pub alone : (turn : ℕ) → key_at F turn ≡ Some key → turn % people F ≡ me

-- every state of the shown chain of an entry of the history is a state
pub valid-shown : (r : Rules) (c : List ℕ) (h : List Entry) (journal : List Line) → AreValid h journal → (later past : List Entry) (e : Entry) → h ≡ later ++ e ∷ past → AreStates (shown r c past e).states
valid-shown r c h journal valid later past e is =
    shown-valid r c past e (λ k s i j. valid.states k s (subst (In k) (sym is) (In-append_right k later (e ∷ past) i)) j)

-- a line in which the participant signed a state of the channel
pub record MadeLine (r : Rules) (F : FixedParts) (journal : List Line) (seen : ℕ) (state : StateParts) : Type 0 where
  pub line : Line
  pub signed : Signed
  pub there : In line journal
  pub early : line.seen ≤ seen
  pub made : made_in (r.named F) line.deed ≡ Some signed
  pub same : state ≡ signed.state

pub honest-at : (r : Rules) (key : List ℕ) (F : FixedParts) (h : List Entry) (newer : List Line) (x : Line) (front : List Line) → HonestIn r key F h (newer ++ x ∷ front) → HonestLine r key F h x front
honest-at r key F h [] x front hon = hon.0
honest-at r key F h (y ∷ newer) x front hon = honest-at r key F h newer x front hon.1

pub rises : (r : Rules) (key : List ℕ) (F : FixedParts) (h : List Entry) (newer : List Line) (x : Line) (front : List Line) → HonestIn r key F h (newer ++ x ∷ front) → is_watched x.deed ≡ false
    → (y : Line) → In y newer → x.seen ≤ y.seen
rises r key F h [] x front hon not_watched y i = absurd i
rises r key F h (z ∷ newer) x front hon not_watched y (inl e) =
    let a : x.seen ≤ z.seen = hon.0.rising x (In-append_right x newer (x ∷ front) (inl refl)) not_watched in
    subst (λ (w : Line). x.seen ≤ w.seen) (sym e) a
rises r key F h (z ∷ newer) x front hon not_watched y (inr i) = rises r key F h newer x front hon.1 not_watched y i

pub honest-suffix : (r : Rules) (key : List ℕ) (F : FixedParts) (h : List Entry) (newer front : List Line) → HonestIn r key F h (newer ++ front) → HonestIn r key F h front
honest-suffix r key F h [] front hon = hon
honest-suffix r key F h (y ∷ newer) front hon = honest-suffix r key F h newer front hon.1

-- every state of these lines from this turn on is final, with this outcome
abbrev pub AllClosed : Rules → FixedParts → ℕ → List AssetOutcome → List Line → Type 0
AllClosed r F turn outcome events =
    (y : Line) (t : Signed) → In y events → made_in (r.named F) y.deed ≡ Some t → turn ≤ t.state.turn → (t.state.is_final ≡ true) × (t.state.outcome ≡ outcome)

module _ (r : Rules) (key : List ℕ) (F : FixedParts) (h : List Entry) (journal : List Line) (honest : HonestIn r key F h journal) where
  -- a line with its place, below a place of the history
  pub record Placed (past : List Entry) (x : Line) : Type 0 where
    pub newer : List Line
    pub front : List Line
    pub is : journal ≡ newer ++ x ∷ front
    pub later : List Entry
    pub seen : List Entry
    pub split : past ≡ later ++ seen
    pub len : length seen ≡ x.seen
    pub hon : HonestAt r key F seen x front

  pub placed : (later past : List Entry) → h ≡ later ++ past → (x : Line) → In x journal → x.seen ≤ length past → Placed past x
  placed later past is x i early = go (split_of x journal i) (suffix_of past x.seen early)
    where
      go : Split x journal → Suffix past x.seen → Placed past x
      go s t =
          let he = honest-at r key F h s.newer x s.front (subst (HonestIn r key F h) s.is honest) in
          record {
            newer = s.newer;
            front = s.front;
            is = s.is;
            later = t.later;
            seen = t.past;
            split = t.is;
            len = t.len;
            hon = he.place (later ++ t.later) t.past (is ∙ (ap (λ (z : List Entry). later ++ z) t.is ∙ append_assoc' later t.later t.past)) t.len;
          }

  -- what lasts, holds at each later place
  pub lasts : (P : Option Marked → Type 0) → ((y : Line) → In y journal → (st : Option Marked) → P st → P (note r F y st)) → ((w : Marked) (st : Option Marked) → P st → P (show r F w st))
      → (past : List Entry) (x : Line) (p : Placed past x) → is_watched x.deed ≡ false → P (held r F p.seen (x ∷ p.front)) → P (held r F past journal)
  lasts P notes shows past x p not_watched q =
      subst (λ (z : List Entry). P (held r F z journal)) (sym p.split)
      (over-entries r F P p.later p.seen journal notes (λ l1 l2 k st e o. shows (shown r (r.named F) (l2 ++ p.seen) k) st o)
      (subst (λ (z : List Line). P (held r F p.seen z)) (sym p.is)
      (over-lines r F P p.newer p.seen (x ∷ p.front) (λ y i. notes y (subst (In y) (sym p.is) (In-append_left y p.newer (x ∷ p.front) i))) (λ y i w. up y i) q)))
    where
      up : (y : Line) → In y p.newer → length p.seen ≤ y.seen
      up y i =
          let a : x.seen ≤ y.seen = rises r key F h p.newer x p.front (subst (HonestIn r key F h) p.is honest) not_watched y i in
          let b : length p.seen ≡ x.seen = p.len in
          omega arith

  IsKnown : Option Marked → Type 0
  IsKnown st = (w : Marked) × (st ≡ Some w)

  -- once the participant signed in a channel, it is in the plan
  pub known : (later past : List Entry) → h ≡ later ++ past → (x : Line) (s : Signed) → In x journal → x.seen ≤ length past → made_in (r.named F) x.deed ≡ Some s
      → (w : Marked) × (held r F past journal ≡ Some w)
  unfolding IsKnown
  known later past is x s i early made = go (placed later past is x i early)
    where
      go : Placed past x → (w : Marked) × (held r F past journal ≡ Some w)
      go p =
          let k = p.hon.in_plan s made in
          lasts IsKnown
          (λ y i st q. subst (λ (z : Option Marked). IsKnown (note r F y z)) (sym q.1) (noted y q.0))
          (λ w st q. subst (λ (z : Option Marked). IsKnown (show r F w z)) (sym q.1) (shows w q.0))
          past x p (made-not_watched (r.named F) x.deed s made)
          (subst IsKnown (sym (held-at r F p.seen x p.front p.len)) (subst (λ (z : Option Marked). IsKnown (note r F x z)) (sym k.1) (noted x k.0)))
        where
          noted : (y : Line) (w : Marked) → IsKnown (note r F y (Some w))
          noted y w = (_, refl)

          shows : (chain w : Marked) → IsKnown (show r F chain (Some w))
          shows chain w = (_, refl)

  -- the chain held is at least as new as each state noted
  pub noted-held : (later past : List Entry) → h ≡ later ++ past → (x : Line) (s : Signed) → In x journal → x.seen ≤ length past → noted_in (r.named F) x.deed ≡ Some s
      → people F ≤ s.state.turn + 1 → HoldsNewer r F s.state.turn (held r F past journal)
  noted-held later past is x s i early noted high = go (placed later past is x i early)
    where
      go : Placed past x → HoldsNewer r F s.state.turn (held r F past journal)
      go p =
          lasts (HoldsNewer r F s.state.turn) (λ y i. note-newer r F s.state.turn y) (λ w st q. show-newer r F s.state.turn w st q)
          past x p (noted-not_watched (r.named F) x.deed s noted) (ends-newer r F (held r F p.seen (x ∷ p.front)) s.state (p.hon.holds s noted high))

-- a signed state of an op is a state of it
marked-state-in : (states : List StateParts) (marks : List Mark) (s : Signed) → In s (signed_marks states marks) → In s.state states
marked-state-in states marks s i = let f = from_mark states marks s i in In-get states f.mark.place s.state f.on

pub signed-state-in : (op : Op) (s : Signed) → In s (signed_in op) → In s.state (states_in op)
signed-state-in (ops.Call (Challenge k)) s i = marked-state-in k.chain.states k.chain.marks s i
signed-state-in (ops.Call (Respond k)) s (inl e) = inr (inl (ap (λ (x : Signed). x.state) e))
signed-state-in (ops.Call (Respond k)) s (inr i) = absurd i
signed-state-in (ops.Call (Refute fixed next)) s (inl e) = inl (ap (λ (x : Signed). x.state) e)
signed-state-in (ops.Call (Refute fixed next)) s (inr i) = absurd i
signed-state-in (ops.Call (Checkpoint chain)) s i = marked-state-in chain.states chain.marks s i
signed-state-in (ops.Call (Conclude chain)) s i = marked-state-in chain.states chain.marks s i
signed-state-in _ s i = absurd i

-- a deed by which the participant signed a state of this digest
pub record SignedState (r : Rules) (digest : List ℕ) (d : Deed) : Type 0 where
  pub channel : List ℕ
  pub state : StateParts
  pub signature : List ℕ
  pub deed : d ≡ deeds.Signed channel state signature
  pub same : r.digest channel state ≡ digest

pub signed-state : (r : Rules) (digest : List ℕ) (d : Deed) → string_of r d ≡ Some (message_of_state digest) → SignedState r digest d
unfolding message_of_state message_of_challenge
signed-state r digest (deeds.Signed channel state signature) h = record { channel = channel; state = state; signature = signature; deed = refl; same = cc }
signed-state r digest (deeds.SignedChallenge channel state who signature) h = absurd cc
signed-state r digest _ h = cc

module _ (r : Rules) (key : List ℕ) (F : FixedParts) (h : List Entry) (journal : List Line) (on : Setting r key F h journal) where
  -- what is held and closed stays so by each line
  closes : (turn : ℕ) (outcome : List AssetOutcome) (x : Line) → In x journal → (st : Option Marked) → HoldsClosed r F turn outcome st → HoldsClosed r F turn outcome (note r F x st)
  closes turn outcome x i st = note-closed r on.keeps F turn outcome x (λ s n. on.valid.noted x (r.named F) s i n) st

  -- what verifies under the participant's key in an entry was signed before it
  pub made-line : (later past : List Entry) (e : Entry) (G : FixedParts) (s : Signed) → h ≡ later ++ e ∷ past → fixed_of e.op ≡ Some G → G ≡ F → In s (signed_in e.op)
      → r.verifies key (message_of_state (r.digest (r.named F) s.state)) s.signature ≡ true → MadeLine r F journal (length past) s.state
  made-line later past e G s at has fixed_is there verified =
      made (on.unforged.states later past e G s at has there (subst (λ (H : FixedParts). r.verifies key (message_of_state (r.digest (r.named H) s.state)) s.signature ≡ true) (sym fixed_is) verified))
    where
      in_h : In e h
      in_h = subst (In e) (sym at) (In-append_right e later (e ∷ past) (inl refl))

      made : WasSignedBy r journal (length past) (message_of_state (r.digest (r.named G) s.state)) → MadeLine r F journal (length past) s.state
      made m = by_deed (signed-state r (r.digest (r.named G) s.state) m.signed.line.deed m.signed.is)
        where
          by_deed : SignedState r (r.digest (r.named G) s.state) m.signed.line.deed → MadeLine r F journal (length past) s.state
          by_deed g =
              let d =
              on.distinct.states (r.named G) g.channel s.state g.state
              (in_call e G in_h has refl (signed-state-in e.op s there)) (in_line m.signed.line m.signed.there (ap signed_of g.deed)) (sym g.same) in
              let n : r.named F ≡ g.channel = subst (λ (H : FixedParts). r.named H ≡ g.channel) fixed_is d.0 in
              record {
                line = m.signed.line;
                signed = record { state = g.state; signature = g.signature };
                there = m.signed.there;
                early = m.early;
                made =
                    ap (made_in (r.named F)) g.deed
                    ∙ ap (λ (b : Bool). some_if b (record { state = g.state; signature = g.signature })) (subst (λ (c : List ℕ). bytes_eq c (r.named F) ≡ true) n (bytes_eq_self (r.named F)));
                same = d.1;
              }

  -- the participant's key verifies
  pub by-key : (message signature : List ℕ) → signs r (slice_get F.keys on.me) message signature ≡ true → r.verifies key message signature ≡ true
  by-key message signature w = subst (λ (k : Option (List ℕ)). signs r k message signature ≡ true) on.mine w

  -- the participant signed its state of each supported chain that an entry shows, before that entry
  pub own_line : (later past : List Entry) (e : Entry) → h ≡ later ++ e ∷ past → (own : OwnState r F on.me (shown r (r.named F) past e))
      → MadeLine r F journal (length past) own.signed.state
  own_line later past e is own = from (from_shown r (r.named F) past e own.signed before own.there)
    where
      before : Legal r past
      before = (legal-suffix r later (e ∷ past) (subst (Legal r) is on.legal)).0

      from : Source r (r.named F) (e ∷ past) own.signed → MadeLine r F journal (length past) own.signed.state
      from x = earlier (made-line (later ++ x.later) x.past x.entry x.fixed own.signed at x.has fixed_is x.there (by-key (message_of_state (r.digest (r.named F) own.signed.state)) own.signed.signature own.well))
        where
          at : h ≡ (later ++ x.later) ++ x.entry ∷ x.past
          at = is ∙ (ap (λ (z : List Entry). later ++ z) x.is ∙ append_assoc' later x.later (x.entry ∷ x.past))

          in_h : In x.entry h
          in_h = subst (In x.entry) (sym at) (In-append_right x.entry (later ++ x.later) (x.entry ∷ x.past) (inl refl))

          fixed_is : x.fixed ≡ F
          fixed_is = on.distinct.names x.fixed F (inl (x.entry, in_h, x.has)) on.occurs x.named

          short : length x.past ≤ length past
          short = lengths x.later x.entry x.past past e x.is
            where
              lengths : (a : List Entry) (b : Entry) (c d : List Entry) (k : Entry) → k ∷ d ≡ a ++ b ∷ c → length c ≤ length d
              lengths a b c d k q =
                  let u : length (b ∷ c) ≤ length (a ++ b ∷ c) = length-up a (b ∷ c) in
                  let v : length (k ∷ d) ≡ length (a ++ b ∷ c) = ap length q in
                  omega arith

          earlier : MadeLine r F journal (length x.past) own.signed.state → MadeLine r F journal (length past) own.signed.state
          earlier m =
              let early : m.line.seen ≤ length x.past = m.early in
              record { line = m.line; signed = m.signed; there = m.there; early = omega (arith, short); made = m.made; same = m.same }

  -- a state that the participant signed is of its own turn
  pub made-mover : (later past : List Entry) → h ≡ later ++ past → (state : StateParts) → MadeLine r F journal (length past) state → state.turn % people F ≡ on.me
  made-mover later past is state m = go (placed r key F h journal on.honest later past is m.line m.there m.early)
    where
      go : Placed r key F h journal on.honest past m.line → state.turn % people F ≡ on.me
      go p = ap (λ (x : StateParts). x.turn % people F) m.same ∙ on.alone m.signed.state.turn (p.hon.own_turn m.signed m.made)

  -- and as each supported chain shown
  pub shown-held : (later past : List Entry) → h ≡ later ++ past → (l older : List Entry) (k : Entry) → past ≡ l ++ k ∷ older → is_supported r F (shown r (r.named F) older k) ≡ true
      → HoldsNewer r F (top_turn (shown r (r.named F) older k).states) (held r F past journal)
  shown-held later past is l older k split chain =
      let at : h ≡ (later ++ l) ++ k ∷ older = is ∙ (ap (λ (z : List Entry). later ++ z) split ∙ append_assoc' later l (k ∷ older)) in
      let own = own_state r on.keeps F on.me (shown r (r.named F) older k) on.small (valid-shown r (r.named F) h journal on.valid (later ++ l) older k at) chain in
      let m = own_line (later ++ l) older k at own in
      let at' : h ≡ ((later ++ l) ++ k ∷ []) ++ older = at ∙ append_assoc' (later ++ l) (k ∷ []) older in
      go (known r key F h journal on.honest ((later ++ l) ++ k ∷ []) older at' m.line m.signed m.there m.early m.made)
    where
      go : (w : Marked) × (held r F older journal ≡ Some w) → HoldsNewer r F (top_turn (shown r (r.named F) older k).states) (held r F past journal)
      go w =
          subst (λ (z : List Entry). HoldsNewer r F (top_turn (shown r (r.named F) older k).states) (held r F z journal)) (sym split)
          (over-entries r F (HoldsNewer r F (top_turn (shown r (r.named F) older k).states)) l (k ∷ older) journal (λ y i. note-newer r F (top_turn (shown r (r.named F) older k).states) y)
          (λ l1 l2 q st e o. show-newer r F (top_turn (shown r (r.named F) older k).states) (shown r (r.named F) (l2 ++ k ∷ older) q) st o)
          (slot-lasts r F (HoldsNewer r F (top_turn (shown r (r.named F) older k).states)) (suc (length older)) journal (λ y i. note-newer r F (top_turn (shown r (r.named F) older k).states) y) (show r F (shown r (r.named F) older k) (held r F older journal))
          (subst (λ (z : Option Marked). HoldsNewer r F (top_turn (shown r (r.named F) older k).states) (show r F (shown r (r.named F) older k) z)) (sym w.1) (adopted-at r F (shown r (r.named F) older k) w.0 chain))))

  -- where the participant signed nothing else from a final state on, no supported chain says anything else
  pub chain_closed : (turn : ℕ) (outcome : List AssetOutcome) (events : List Line) (later older : List Entry) (k : Entry) → h ≡ later ++ k ∷ older → turn % people F ≡ on.me
      → ((x : Line) → In x journal → is_watched x.deed ≡ false → x.seen ≤ length older → In x events) → AllClosed r F turn outcome events
      → is_supported r F (shown r (r.named F) older k) ≡ true → turn ≤ top_turn (shown r (r.named F) older k).states → IsClosed (shown r (r.named F) older k).states outcome
  chain_closed turn outcome events later older k is mover among closed chain up =
      go (own_state r on.keeps F on.me (shown r (r.named F) older k) on.small (valid-shown r (r.named F) h journal on.valid later older k is) chain)
    where
      go : OwnState r F on.me (shown r (r.named F) older k) → IsClosed (shown r (r.named F) older k).states outcome
      go own = with_line (own_line later older k is own)
        where
          above : turn ≤ own.signed.state.turn
          above = own.latest turn mover up

          with_line : MadeLine r F journal (length older) own.signed.state → IsClosed (shown r (r.named F) older k).states outcome
          with_line m =
              let b : turn ≤ m.signed.state.turn = subst (λ (x : StateParts). turn ≤ x.turn) m.same above in
              let q = closed m.line m.signed (among m.line m.there (made-not_watched (r.named F) m.line.deed m.signed m.made) m.early) m.made b in
              let f : own.signed.state.is_final ≡ true = ap (λ (x : StateParts). x.is_final) m.same ∙ q.0 in
              let o : own.signed.state.outcome ≡ outcome = ap (λ (x : StateParts). x.outcome) m.same ∙ q.1 in
              let c = own.carries f in
              record { top = c.top; is = c.is; final = c.final; same = c.same ∙ o; valid = c.valid }

  -- after a final state was signed, the next state noted says the same
  pub next_closed : (f : Line) (s : Signed) → made_in (r.named F) f.deed ≡ Some s → people F ≤ s.state.turn + 1 → s.state.is_final ≡ true
      → (newer outer front : List Line) (z : Line) (t : Signed) → journal ≡ outer ++ (z ∷ (newer ++ f ∷ front)) → noted_in (r.named F) z.deed ≡ Some t → s.state.turn ≤ t.state.turn
      → AllClosed r F s.state.turn s.state.outcome (newer ++ f ∷ front) → (t.state.is_final ≡ true) × (t.state.outcome ≡ s.state.outcome)
  next_closed f s made high final newer outer front z t is notedz up before0 = last before0 (suffix_of h z.seen honz.within)
    where
      inside : (x : Line) → In x (z ∷ (newer ++ f ∷ front)) → In x journal
      inside x i = subst (In x) (sym is) (In-append_right x outer (z ∷ (newer ++ f ∷ front)) i)

      among_journal : (x : Line) → In x (newer ++ f ∷ front) → In x journal
      among_journal x i = inside x (inr i)

      hon0 : HonestIn r key F h (outer ++ z ∷ (newer ++ f ∷ front))
      hon0 = subst (HonestIn r key F h) is on.honest

      honz : HonestLine r key F h z (newer ++ f ∷ front)
      honz = honest-at r key F h outer z (newer ++ f ∷ front) hon0

      honj : HonestIn r key F h (newer ++ f ∷ front)
      honj = (honest-suffix r key F h outer (z ∷ (newer ++ f ∷ front)) hon0).1

      honf : HonestLine r key F h f front
      honf = honest-at r key F h newer f front honj

      notf : is_watched f.deed ≡ false
      notf = made-not_watched (r.named F) f.deed s made

      notz : is_watched z.deed ≡ false
      notz = noted-not_watched (r.named F) z.deed t notedz

      f_first : f.seen ≤ z.seen
      f_first = honz.rising f (In-append_right f newer (f ∷ front) (inl refl)) notf

      last : AllClosed r F s.state.turn s.state.outcome (newer ++ f ∷ front) → Suffix h z.seen → (t.state.is_final ≡ true) × (t.state.outcome ≡ s.state.outcome)
      last before pz = at (suffix_of pz.past f.seen (subst (λ (n : ℕ). f.seen ≤ n) (sym pz.len) f_first))
        where
          at : Suffix pz.past f.seen → (t.state.is_final ≡ true) × (t.state.outcome ≡ s.state.outcome)
          at pf = answer (subst (HoldsClosed r F s.state.turn s.state.outcome) (sym (held-at r F pz.past z (newer ++ f ∷ front) pz.len)) (closes s.state.turn s.state.outcome z (inside z (inl refl)) (held r F pz.past (newer ++ f ∷ front)) held_before))
            where
              hatf : HonestAt r key F pf.past f front
              hatf = honf.place (pz.later ++ pf.later) pf.past (pz.is ∙ (ap (λ (x : List Entry). pz.later ++ x) pf.is ∙ append_assoc' pz.later pf.later pf.past)) pf.len

              mover : s.state.turn % people F ≡ on.me
              mover = on.alone s.state.turn (hatf.own_turn s made)

              among : (l1 l2 : List Entry) (k : Entry) → pf.later ≡ l1 ++ k ∷ l2 → (x : Line) → In x journal → is_watched x.deed ≡ false → x.seen ≤ length (l2 ++ pf.past) → In x (newer ++ f ∷ front)
              among l1 l2 k split x i notx early = cases (In-append_cases x outer (z ∷ (newer ++ f ∷ front)) (subst (In x) is i))
                where
                  shorter : length (l2 ++ pf.past) < z.seen
                  shorter =
                      let a : length pz.past ≡ length (l1 ++ (k ∷ (l2 ++ pf.past))) = ap length (pf.is ∙ (ap (λ (x : List Entry). x ++ pf.past) split ∙ sym (append_assoc' l1 (k ∷ l2) pf.past))) in
                      let b : length (k ∷ (l2 ++ pf.past)) ≤ length (l1 ++ (k ∷ (l2 ++ pf.past))) = length-up l1 (k ∷ (l2 ++ pf.past)) in
                      let c : length pz.past ≡ z.seen = pz.len in
                      omega arith

                  cases : In x outer ⊎ In x (z ∷ (newer ++ f ∷ front)) → In x (newer ++ f ∷ front)
                  cases (inl j) = let a : z.seen ≤ x.seen = rises r key F h outer z (newer ++ f ∷ front) hon0 notz x j in absurd (omega (arith, shorter))
                  cases (inr (inl q)) = let a : x.seen ≡ z.seen = ap (λ (w : Line). w.seen) q in absurd (omega (arith, shorter))
                  cases (inr (inr j)) = j

              held_before : HoldsClosed r F s.state.turn s.state.outcome (held r F pz.past (newer ++ f ∷ front))
              held_before =
                  subst (λ (x : List Entry). HoldsClosed r F s.state.turn s.state.outcome (held r F x (newer ++ f ∷ front))) (sym pf.is)
                  (over-entries r F (HoldsClosed r F s.state.turn s.state.outcome) pf.later pf.past (newer ++ f ∷ front) (λ x i. closes s.state.turn s.state.outcome x (among_journal x i))
                  (λ l1 l2 k st split q. show-closed r F s.state.turn s.state.outcome (shown r (r.named F) (l2 ++ pf.past) k) st
                  (λ sup up'. chain_closed s.state.turn s.state.outcome (newer ++ f ∷ front) (pz.later ++ l1) (l2 ++ pf.past) k (whole l1 l2 k split) mover (among l1 l2 k split) before sup up') q)
                  (over-lines r F (HoldsClosed r F s.state.turn s.state.outcome) newer pf.past (f ∷ front) (λ x i. closes s.state.turn s.state.outcome x (among_journal x (In-append_left x newer (f ∷ front) i)))
                  (λ x i w. let a : f.seen ≤ x.seen = rises r key F h newer f front honj notf x i in let b : length pf.past ≡ f.seen = pf.len in omega arith)
                  (ends-closed r F (held r F pf.past (f ∷ front)) s.state (on.valid.noted f (r.named F) s (among_journal f (In-append_right f newer (f ∷ front) (inl refl))) (made-noted (r.named F) f.deed s made)) (hatf.holds s (made-noted (r.named F) f.deed s made) high) final)))
                where
                  whole : (l1 l2 : List Entry) (k : Entry) → pf.later ≡ l1 ++ k ∷ l2 → h ≡ (pz.later ++ l1) ++ k ∷ (l2 ++ pf.past)
                  whole l1 l2 k split =
                      pz.is ∙ (ap (λ (x : List Entry). pz.later ++ x) (pf.is ∙ (ap (λ (x : List Entry). x ++ pf.past) split ∙ sym (append_assoc' l1 (k ∷ l2) pf.past))) ∙ append_assoc' pz.later l1 (k ∷ (l2 ++ pf.past)))

              answer : HoldsClosed r F s.state.turn s.state.outcome (held r F pz.past (z ∷ (newer ++ f ∷ front))) → (t.state.is_final ≡ true) × (t.state.outcome ≡ s.state.outcome)
              answer hc =
                  let high' : people F ≤ t.state.turn + 1 = omega arith in
                  let ends = (honz.place pz.later pz.past pz.is pz.len).holds t notedz high' in
                  let q : hc.holds.latest ≡ ends.chain = some-eq hc.holds.latest ends.chain (sym hc.holds.is ∙ ends.is) in
                  let p : t.state ≡ hc.closed.top = some-eq t.state hc.closed.top (sym ends.ends ∙ (ap (λ (x : Marked). newest x.states) (sym q) ∙ hc.closed.is)) in
                  (ap (λ (x : StateParts). x.is_final) p ∙ hc.closed.final, ap (λ (x : StateParts). x.outcome) p ∙ hc.closed.same)

  -- once the participant signed a final state, it signs nothing else
  pub all_closed : (f : Line) (s : Signed) → made_in (r.named F) f.deed ≡ Some s → people F ≤ s.state.turn + 1 → s.state.is_final ≡ true
      → (newer outer front : List Line) → journal ≡ outer ++ (newer ++ f ∷ front) → AllClosed r F s.state.turn s.state.outcome (newer ++ f ∷ front)
  all_closed f s made high final [] outer front is y t (inl e) made' up =
      let q : t ≡ s = some-eq t s (sym made' ∙ (ap (λ (z : Line). made_in (r.named F) z.deed) e ∙ made)) in
      (ap (λ (z : Signed). z.state.is_final) q ∙ final, ap (λ (z : Signed). z.state.outcome) q)
  all_closed f s made high final [] outer front is y t (inr i) made' up = go (suffix_of h f.seen hon.within)
    where
      hon : HonestLine r key F h f front
      hon = honest-at r key F h outer f front (subst (HonestIn r key F h) is on.honest)

      go : Suffix h f.seen → (t.state.is_final ≡ true) × (t.state.outcome ≡ s.state.outcome)
      go x = let a : t.state.turn < s.state.turn = (hon.place x.later x.past x.is x.len).above s made y t i made' in absurd (omega arith)
  all_closed f s made high final (z ∷ newer) outer front is y t (inr i) made' up =
      all_closed f s made high final newer (outer ++ z ∷ []) front (is ∙ append_assoc' outer (z ∷ []) (newer ++ f ∷ front)) y t i made' up
  all_closed f s made high final (z ∷ newer) outer front is y t (inl e) made' up =
      next_closed f s made high final newer outer front z t is (made-noted (r.named F) z.deed t (subst (λ (x : Line). made_in (r.named F) x.deed ≡ Some t) e made')) up
      (all_closed f s made high final newer (outer ++ z ∷ []) front (is ∙ append_assoc' outer (z ∷ []) (newer ++ f ∷ front)))

  -- and it notes nothing else
  pub noted_closed : (f : Line) (s : Signed) → made_in (r.named F) f.deed ≡ Some s → people F ≤ s.state.turn + 1 → s.state.is_final ≡ true
      → (newer outer front : List Line) → journal ≡ outer ++ (newer ++ f ∷ front) → (y : Line) (t : Signed) → In y (newer ++ f ∷ front) → noted_in (r.named F) y.deed ≡ Some t → s.state.turn < t.state.turn
      → (t.state.is_final ≡ true) × (t.state.outcome ≡ s.state.outcome)
  noted_closed f s made high final (z ∷ newer) outer front is y t (inr i) noted up =
      noted_closed f s made high final newer (outer ++ z ∷ []) front (is ∙ append_assoc' outer (z ∷ []) (newer ++ f ∷ front)) y t i noted up
  noted_closed f s made high final (z ∷ newer) outer front is y t (inl e) noted up =
      next_closed f s made high final newer outer front z t is (subst (λ (x : Line). noted_in (r.named F) x.deed ≡ Some t) e noted) (omega arith)
      (all_closed f s made high final newer (outer ++ z ∷ []) front (is ∙ append_assoc' outer (z ∷ []) (newer ++ f ∷ front)))
  noted_closed f s made high final [] outer front is y t i noted up = go (suffix_of h f.seen honf.within)
    where
      honj : HonestIn r key F h (f ∷ front)
      honj = honest-suffix r key F h outer (f ∷ front) (subst (HonestIn r key F h) is on.honest)

      honf : HonestLine r key F h f front
      honf = honj.0

      early : In y (f ∷ front) → y.seen ≤ f.seen
      early (inl e) = let a : y.seen ≡ f.seen = ap (λ (x : Line). x.seen) e in omega arith
      early (inr j) = honf.rising y j (noted-not_watched (r.named F) y.deed t noted)

      high' : people F ≤ t.state.turn + 1
      high' = omega arith

      go : Suffix h f.seen → (t.state.is_final ≡ true) × (t.state.outcome ≡ s.state.outcome)
      go p =
          let n = noted-held r key F h (f ∷ front) honj p.later p.past p.is y t i (subst (λ (k : ℕ). y.seen ≤ k) (sym p.len) (early i)) noted high' in
          let ends = (honf.place p.later p.past p.is p.len).holds s (made-noted (r.named F) f.deed s made) high in
          let same : n.latest ≡ ends.chain = some-eq n.latest ends.chain (sym n.is ∙ ends.is) in
          let top : top_turn ends.chain.states ≡ s.state.turn = ap turn_of ends.ends in
          let up' : t.state.turn ≤ top_turn ends.chain.states = subst (λ (w : Marked). t.state.turn ≤ top_turn w.states) same n.up in
          absurd (omega arith)

  -- so the chain held at a later place is final too, with the same outcome
  pub closed-held : (later past : List Entry) → h ≡ later ++ past → (f : Line) (s : Signed) → In f journal → f.seen ≤ length past → made_in (r.named F) f.deed ≡ Some s
      → people F ≤ s.state.turn + 1 → s.state.is_final ≡ true → HoldsClosed r F s.state.turn s.state.outcome (held r F past journal)
  closed-held later past is f s i early made high final = go (placed r key F h journal on.honest later past is f i early)
    where
      go : Placed r key F h journal on.honest past f → HoldsClosed r F s.state.turn s.state.outcome (held r F past journal)
      go p =
          subst (λ (x : List Entry). HoldsClosed r F s.state.turn s.state.outcome (held r F x journal)) (sym p.split)
          (over-entries r F (HoldsClosed r F s.state.turn s.state.outcome) p.later p.seen journal (λ x i. closes s.state.turn s.state.outcome x i)
          (λ l1 l2 k st split q. show-closed r F s.state.turn s.state.outcome (shown r (r.named F) (l2 ++ p.seen) k) st
          (λ sup up. chain_closed s.state.turn s.state.outcome journal (later ++ l1) (l2 ++ p.seen) k (whole l1 l2 k split) (on.alone s.state.turn (p.hon.own_turn s made)) (λ x i' w e. i') every sup up) q)
          (subst (λ (x : List Line). HoldsClosed r F s.state.turn s.state.outcome (held r F p.seen x)) (sym p.is)
          (over-lines r F (HoldsClosed r F s.state.turn s.state.outcome) p.newer p.seen (f ∷ p.front) (λ x i. closes s.state.turn s.state.outcome x (subst (In x) (sym p.is) (In-append_left x p.newer (f ∷ p.front) i)))
          (λ x i' w. let a : f.seen ≤ x.seen = rises r key F h p.newer f p.front (subst (HonestIn r key F h) p.is on.honest) (made-not_watched (r.named F) f.deed s made) x i' in let b : length p.seen ≡ f.seen = p.len in omega arith)
          (ends-closed r F (held r F p.seen (f ∷ p.front)) s.state (on.valid.noted f (r.named F) s i (made-noted (r.named F) f.deed s made)) (p.hon.holds s (made-noted (r.named F) f.deed s made) high) final))))
        where
          every : AllClosed r F s.state.turn s.state.outcome journal
          every = subst (AllClosed r F s.state.turn s.state.outcome) (sym p.is) (all_closed f s made high final p.newer [] p.front p.is)

          whole : (l1 l2 : List Entry) (k : Entry) → p.later ≡ l1 ++ k ∷ l2 → h ≡ (later ++ l1) ++ k ∷ (l2 ++ p.seen)
          whole l1 l2 k split =
              is ∙ (ap (λ (x : List Entry). later ++ x) (p.split ∙ (ap (λ (x : List Entry). x ++ p.seen) split ∙ sym (append_assoc' l1 (k ∷ l2) p.seen))) ∙ append_assoc' later l1 (k ∷ (l2 ++ p.seen)))
