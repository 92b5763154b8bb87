-- What stands in a held chain under the participant's own mark, it signed in a line of its journal before the place.
use Rattle.std.proofs.Common.{◌≡◌, ℕ, suc, ◌<◌, ◌≤◌, Bool, true, false, cond, List, [], ◌∷◌, ◌++◌, ◌⊎◌, inl, inr, length, refl, sym, ◌∙◌, ap, subst, arith}
use Rattle.std.specs.Prelude.{Option, Some, None, Result, Ok, Err}
use Rattle.std.specs.Str.{bytes_eq}
use Rattle.channel_values.specs.Parts.{FixedParts, StateParts, IsState}
use Rattle.channel_values.specs.declared.chain.Signed.{Signed}
use Rattle.channel_values.specs.declared.fault.ByteFault.{ByteFault}
use Rattle.channel_values.specs.Messages.{message_of_state}
use Rattle.channel_values.specs.Rules.{Rules, people, signs_state}
use Rattle.call_history.specs.History.{Legal}
use Rattle.call_history.specs.Marked.{Marked, nothing, is_supported, answered, extends, extended, is_newer}
use Rattle.call_history.specs.Reading.{message_of}
use Rattle.call_history.specs.Shown.{shown}
use Rattle.call_history.specs.Spelling.{Message}
use Rattle.call_history.specs.declared.entry.Entry.{Entry}
use Rattle.call_history.specs.declared.event.Deed.{Deed}
use Rattle.call_history.specs.declared.event.Deed.TheVariants as deeds
use Rattle.call_history.proofs.Names.{same_bytes, bytes_eq_self}
use Rattle.channel_safety.specs.Held.{note, show, held}
use Rattle.channel_safety.specs.Good.{IsGood}
use Rattle.channel_safety.specs.Journals.{In, Line, is_watched, opens, some_if, made_in, told_in, noted_in}
use Rattle.channel_safety.specs.Strings.{WasSigned}
use Rattle.share_laws.specs.Places.{IsPlace}
use Rattle.channel_safety.proofs.Answering.{PlacesIn, supported-places, answered-signed, answered-states}
use Rattle.channel_safety.proofs.Chains.{AreStates}
use Rattle.channel_safety.proofs.ChainsGrow.{noted-good, nothing-young}
use Rattle.channel_safety.proofs.Lists.{Split, split_of, In-append_right, In-append_cases, append_assoc', get-within, length-up}
use Rattle.channel_safety.proofs.Tests.{and-left, some-eq, none-eq}
use Rattle.channel_safety.proofs.Places.{made-not_watched, slot-lasts}
use Rattle.channel_safety.proofs.Rowing.{legal-suffix}
use Rattle.channel_safety.proofs.Safe.{Source, InChain, from_shown, Setting, valid-shown, MadeLine, SignedState, signed-state, made-line, by-key}
use Rattle.share_laws.specs.HeldLaws.{NotedTell}

-- what is held is good, its states are states, and what the participant's key verifies in it was signed by one of
-- these lines
pub record Own (r : Rules) (F : FixedParts) (me : ℕ) (front : List Line) (seen : ℕ) (w : Marked) : Type 0 where
  pub good : IsGood r F w
  pub states : AreStates w.states
  pub made : (x : Signed) → InChain x w → signs_state r F me x.state x.signature ≡ true → MadeLine r F front seen x.state

abbrev pub OwnIfAny : Rules → FixedParts → (me : ℕ) → List Line → (seen : ℕ) → Option Marked → Type 0
OwnIfAny r F me front seen None = Unit {0}
OwnIfAny r F me front seen (Some w) = Own r F me front seen w

good-places : (r : Rules) (F : FixedParts) (w : Marked) → IsGood r F w → PlacesIn w
good-places r F w (inr chain) i m e = supported-places r F w chain i m e
good-places r F w (inl y) i m e =
    let a : i < length w.marks = get-within w.marks i m e in
    let b : length w.marks ≡ length w.states = y.marks in
    let c : m.place ≡ i = y.at i m e in
    omega arith

module _ (r : Rules) (key : List ℕ) (F : FixedParts) (h : List Entry) (journal : List Line) (on : Setting r key F h journal) (tell : NotedTell r journal)
    (past : List Entry) (front : List Line) (place : IsPlace h journal past front) where
  pub in_journal : (y : Line) → In y front → In y journal
  in_journal y i = subst (λ (ls : List Line). In y ls) (sym place.lines) (In-append_right y place.newer front i)

  -- a line that had seen less is in the front
  in_front : (y : Line) → In y journal → is_watched y.deed ≡ false → y.seen < length past → In y front
  in_front y i plain early = go (In-append_cases y place.newer front (subst (λ (ls : List Line). In y ls) place.lines i))
    where
      go : In y place.newer ⊎ In y front → In y front
      go (inl j) = let l : length past ≤ y.seen = place.after y j plain in absurd (omega arith)
      go (inr j) = j

  made-of : (y : Line) (s : Signed) → In y front → made_in (r.named F) y.deed ≡ Some s → (x : StateParts) → x ≡ s.state → MadeLine r F front (length past) x
  made-of y s i made x same =
      record { line = y; signed = s; there = i; early = place.before y i (made-not_watched (r.named F) y.deed s made); made = made; same = same }

  -- ---- what was noted

  told-made : (x : Line) (s : Signed) (bytes channel : List ℕ) → In x front → x.deed ≡ deeds.Handled bytes None → noted_in (r.named F) x.deed ≡ Some s
      → message_of bytes ≡ Ok (channel, s) → channel ≡ r.named F → signs_state r F on.me s.state s.signature ≡ true → MadeLine r F front (length past) s.state
  told-made x s bytes channel i is noted reads named well = go (split_of x front i)
    where
      verified : r.verifies key (message_of_state (r.digest channel s.state)) s.signature ≡ true
      verified = subst (λ (c : List ℕ). r.verifies key (message_of_state (r.digest c s.state)) s.signature ≡ true) (sym named)
          (by-key r key F h journal on (message_of_state (r.digest (r.named F) s.state)) s.signature well)

      by_deed : (y : Line) → In y front → SignedState r (r.digest channel s.state) y.deed → MadeLine r F front (length past) s.state
      by_deed y j d = told (tell F d.channel x y s signed (in_journal x i) noted (in_journal y j) own (ap (λ (c : List ℕ). r.digest c s.state) (sym named) ∙ sym d.same))
        where
          signed : Signed
          signed = record { state = d.state; signature = d.signature }

          by_name : (c : List ℕ) → d.channel ≡ c → made_in c y.deed ≡ Some signed
          by_name c e =
              ap (made_in c) d.deed
              ∙ ap (λ (b : Bool). some_if b (record { state = d.state; signature = d.signature })) (subst (λ (n : List ℕ). bytes_eq n c ≡ true) (sym e) (bytes_eq_self c))

          own : made_in d.channel y.deed ≡ Some signed
          own = by_name d.channel refl

          told : (r.named F ≡ d.channel) × (s.state ≡ d.state) → MadeLine r F front (length past) s.state
          told t = made-of y signed j (by_name (r.named F) (sym t.0)) s.state t.1

      go : Split x front → MadeLine r F front (length past) s.state
      go sp = by_string (on.unforged.messages (place.newer ++ sp.newer) sp.front x bytes None channel s at is reads verified)
        where
          at : journal ≡ (place.newer ++ sp.newer) ++ x ∷ sp.front
          at = place.lines ∙ (ap (λ (z : List Line). place.newer ++ z) sp.is ∙ append_assoc' place.newer sp.newer (x ∷ sp.front))

          by_string : WasSigned r sp.front (message_of_state (r.digest channel s.state)) → MadeLine r F front (length past) s.state
          by_string g =
              by_deed g.line (subst (λ (ls : List Line). In g.line ls) (sym sp.is) (In-append_right g.line sp.newer (x ∷ sp.front) (inr g.there)))
              (signed-state r (r.digest channel s.state) g.line.deed g.is)

  -- a state that was noted, and which the participant's key verifies, it signed
  noted-made : (x : Line) (s : Signed) → In x front → noted_in (r.named F) x.deed ≡ Some s → signs_state r F on.me s.state s.signature ≡ true → MadeLine r F front (length past) s.state
  noted-made x s i noted well = go x.deed refl noted
    where
      go : (d : Deed) → x.deed ≡ d → noted_in (r.named F) d ≡ Some s → MadeLine r F front (length past) s.state
      go (deeds.Signed name state signature) is e = made-of x s i (ap (made_in (r.named F)) is ∙ e) s.state refl
      go (deeds.Handled bytes None) is e = by_message (message_of bytes) refl e
        where
          by_message : (m : Result Message ByteFault) → message_of bytes ≡ m → told_in (r.named F) m ≡ Some s → MadeLine r F front (length past) s.state
          by_message (Ok message) reads t = by_name (bytes_eq message.0 (r.named F)) refl t
            where
              by_name : (b : Bool) → bytes_eq message.0 (r.named F) ≡ b → some_if b message.1 ≡ Some s → MadeLine r F front (length past) s.state
              by_name true n q =
                  told-made x s bytes message.0 i is noted (subst (λ (z : Signed). message_of bytes ≡ Ok (message.0, z)) (some-eq message.1 s q) reads) (same_bytes message.0 (r.named F) n) well
              by_name false n q = absurd (none-eq s q)
          by_message (Err fault) reads t = absurd (none-eq s t)
      go _ is e = cc

  -- ---- what an entry shows

  at-entry : (l older : List Entry) (e : Entry) → past ≡ l ++ e ∷ older → h ≡ (place.later ++ l) ++ e ∷ older
  at-entry l older e split = place.entries ∙ (ap (λ (z : List Entry). place.later ++ z) split ∙ append_assoc' place.later l (e ∷ older))

  shown-made : (l older : List Entry) (e : Entry) → past ≡ l ++ e ∷ older → (x : Signed) → InChain x (shown r (r.named F) older e) → signs_state r F on.me x.state x.signature ≡ true
      → MadeLine r F front (length past) x.state
  shown-made l older e split x i well = from (from_shown r (r.named F) older e x legal i)
    where
      legal : Legal r older
      legal = (legal-suffix r (place.later ++ l) (e ∷ older) (subst (Legal r) (at-entry l older e split) on.legal)).0

      from : Source r (r.named F) (e ∷ older) x → MadeLine r F front (length past) x.state
      from s =
          moved (made-line r key F h journal on ((place.later ++ l) ++ s.later) s.past s.entry s.fixed x at s.has fixed_is s.there
          (by-key r key F h journal on (message_of_state (r.digest (r.named F) x.state)) x.signature well))
        where
          at : h ≡ ((place.later ++ l) ++ s.later) ++ s.entry ∷ s.past
          at = at-entry l older e split ∙ (ap (λ (z : List Entry). (place.later ++ l) ++ z) s.is ∙ append_assoc' (place.later ++ l) s.later (s.entry ∷ s.past))

          fixed_is : s.fixed ≡ F
          fixed_is =
              on.distinct.names s.fixed F
              (inl (s.entry, subst (λ (z : List Entry). In s.entry z) (sym at) (In-append_right s.entry ((place.later ++ l) ++ s.later) (s.entry ∷ s.past) (inl refl)), s.has)) on.occurs s.named

          short : length s.past < length past
          short =
              let a : length (s.entry ∷ s.past) ≤ length (s.later ++ s.entry ∷ s.past) = length-up s.later (s.entry ∷ s.past) in
              let b : length (e ∷ older) ≡ length (s.later ++ s.entry ∷ s.past) = ap length s.is in
              let c : length (e ∷ older) ≤ length (l ++ e ∷ older) = length-up l (e ∷ older) in
              let d : length past ≡ length (l ++ e ∷ older) = ap length split in
              omega arith

          moved : MadeLine r F journal (length s.past) x.state → MadeLine r F front (length past) x.state
          moved m =
              let early : m.line.seen ≤ length s.past = m.early in
              made-of m.line m.signed (in_front m.line m.there (made-not_watched (r.named F) m.line.deed m.signed m.made) (omega (arith, short))) m.made x.state m.same

  -- ---- over lines and entries

  one : 1 ≤ people F
  one = let small : on.me < people F = on.small in omega arith

  note-own : (x : Line) → In x front → (st : Option Marked) → OwnIfAny r F on.me front (length past) st → OwnIfAny r F on.me front (length past) (note r F x st)
  note-own x i None own = go (opens r (r.named F) x)
    where
      go : (b : Bool) → OwnIfAny r F on.me front (length past) (cond b (Some nothing) None)
      go true = record { good = inl (nothing-young r F one); states = λ y j. absurd j; made = λ y j well. absurd j }
      go false = tt
  note-own x i (Some w) own = go (noted_in (r.named F) x.deed) refl
    where
      go : (o : Option Signed) → noted_in (r.named F) x.deed ≡ o → Own r F on.me front (length past) (extended r F o w)
      go None e = own
      go (Some s) e = test (extends r F s w) refl
        where
          states : (y : StateParts) → (y ≡ s.state) ⊎ In y w.states → IsState y
          states y (inl q) = subst IsState (sym q) (on.valid.noted x (r.named F) s (in_journal x i) e)
          states y (inr j) = own.states y j

          made : (y : Signed) → (y ≡ s) ⊎ InChain y w → signs_state r F on.me y.state y.signature ≡ true → MadeLine r F front (length past) y.state
          made y (inl q) well =
              subst (λ (z : Signed). MadeLine r F front (length past) z.state) (sym q)
              (noted-made x s i e (subst (λ (z : Signed). signs_state r F on.me z.state z.signature ≡ true) q well))
          made y (inr j) well = own.made y j well

          test : (b : Bool) → extends r F s w ≡ b → Own r F on.me front (length past) (cond b (answered F s w) w)
          test true t =
              record {
                good = (noted-good r F s w own.good t).good;
                states = λ y j. states y (answered-states F s w y j);
                made = λ y j well. made y (answered-signed F s w y (good-places r F w own.good) j) well;
              }
          test false t = own

  show-own : (l older : List Entry) (e : Entry) → past ≡ l ++ e ∷ older → (st : Option Marked) → OwnIfAny r F on.me front (length past) st
      → OwnIfAny r F on.me front (length past) (show r F (shown r (r.named F) older e) st)
  show-own l older e split None own = tt
  show-own l older e split (Some w) own = go (is_newer r F (shown r (r.named F) older e) w) refl
    where
      go : (b : Bool) → is_newer r F (shown r (r.named F) older e) w ≡ b → Own r F on.me front (length past) (cond b (shown r (r.named F) older e) w)
      go true t =
          record {
            good = inr (and-left (is_supported r F (shown r (r.named F) older e)) _ t);
            states = valid-shown r (r.named F) h journal on.valid (place.later ++ l) older e (at-entry l older e split);
            made = λ x i well. shown-made l older e split x i well;
          }
      go false t = own

  held-from : (l older : List Entry) → past ≡ l ++ older → OwnIfAny r F on.me front (length past) (held r F older front)
  held-from l [] split = slot-lasts r F (OwnIfAny r F on.me front (length past)) 0 front (λ x i. note-own x i) None tt
  held-from l (e ∷ older) split =
      slot-lasts r F (OwnIfAny r F on.me front (length past)) (suc (length older)) front (λ x i. note-own x i) (show r F (shown r (r.named F) older e) (held r F older front))
      (show-own l older e split (held r F older front) (held-from (l ++ e ∷ []) older (split ∙ append_assoc' l (e ∷ []) older)))

  pub held-own : OwnIfAny r F on.me front (length past) (held r F past front)
  held-own = held-from [] past refl
