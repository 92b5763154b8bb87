-- What events make of what is kept and of what is held agrees.
use Rattle.std.proofs.Common.{◌≡◌, ℕ, Bool, true, false, cond, ◌||◌, List, [], ◌∷◌, ◌++◌, inl, inr, length, refl, sym, ◌∙◌, ap, subst}
use Rattle.std.specs.Prelude.{Option, Some, None, Result, Ok, Err, map, filter}
use Rattle.std.specs.List.{slice_get, find, list_any}
use Rattle.std.specs.Option.{option_map}
use Rattle.std.specs.Str.{bytes_eq}
use Rattle.channel_values.specs.Parts.{FixedParts}
use Rattle.channel_values.specs.declared.chain.Signed.{Signed}
use Rattle.channel_values.specs.declared.fault.ByteFault.{ByteFault}
use Rattle.channel_values.specs.Rules.{Rules}
use Rattle.call_history.proofs.Names.{same_bytes}
use Rattle.call_history.specs.Marked.{Marked, nothing, marked_of, extended}
use Rattle.call_history.specs.Reading.{message_of}
use Rattle.call_history.specs.Spelling.{Message}
use Rattle.call_history.specs.declared.event.Deed.{Deed}
use Rattle.call_history.specs.declared.event.Deed.TheVariants as deeds
use Rattle.channel_store.specs.Keeping.{noting}
use Rattle.channel_store.specs.Storing.{is_of, kept_of, kept_with}
use Rattle.channel_store.specs.declared.kept.Kept.{Kept}
use Rattle.channel_store.specs.Laws.{KeepsHeld}
use Rattle.channel_store.proofs.Places.{found_at_place, found_passes}
use Rattle.channel_store.proofs.Keeping.{or_last, kept_here, kept_other, kept_append}
use Rattle.channel_safety.proofs.Tests.{lt-true}
use Rattle.channel_safety.proofs.Lists.{get-some}
use Rattle.channel_safety.proofs.Places.{inert}
use Rattle.channel_safety.specs.Journals.{In, Line, is_followed, opened, some_if, told_in, noted_in}
use Rattle.channel_safety.specs.Held.{note}
use Rattle.network.specs.declared.command.Command.{Command}
use Rattle.network.specs.declared.command.Command.TheVariants.{Open, OpenOn, OpenVirtual, Pay, Close, Release, Resend, Exit}
use Rattle.channel_node.specs.Openings.{opened_by, place_among, takes_part, adds}
use Rattle.channel_node.specs.Openings as openings
use Rattle.channel_node.specs.Minds.{Mind, noted_message, with_opened, commanded_if, did}

-- what is kept has the participant's key at its place, and a line opened it, under this name
pub record IsOwn (r : Rules) (key c : List ℕ) (lines : List Line) (k : Kept) : Type 0 where
  pub mine : slice_get k.chain.fixed.keys k.me ≡ Some key
  pub line : Line
  pub there : In line lines
  pub opens : In k.chain.fixed (opened line)
  pub named : bytes_eq (r.named k.chain.fixed) c ≡ true

-- nothing is kept and nothing held, or both are, and of this fixed part the same
abbrev pub Agree : Rules → List ℕ → FixedParts → List Line → Option Kept → Option Marked → Type 0
Agree r key f lines None None = Unit {0}
Agree r key f lines (Some k) (Some w) = IsOwn r key (r.named f) lines k × KeepsHeld f (Some k) (Some w)
Agree r key f lines _ _ = ⊥

-- what a line that opens nothing makes of what is held
abbrev pub with_noted : Rules → FixedParts → Option Signed → Option Marked → Option Marked
with_noted r f o None = None
with_noted r f o (Some w) = Some (extended r f o w)

with_none : (r : Rules) (f : FixedParts) (st : Option Marked) → with_noted r f None st ≡ st
with_none r f None = refl
with_none r f (Some w) = refl

-- the key stands at its place among the keys
pub among : (key : List ℕ) (f : FixedParts) → takes_part key f ≡ true → slice_get f.keys (place_among key f) ≡ Some key
among key f h =
    let at = get-some f.keys (place_among key f) (lt-true (place_among key f) (length f.keys) h) in
    let passes : bytes_eq key at.0 ≡ true = found_passes (bytes_eq key) f.keys at.0 (sym (found_at_place (bytes_eq key) f.keys) ∙ at.1) in
    at.1 ∙ ap (λ (x : List ℕ). Some x) (sym (same_bytes key at.0 passes))

pub filtered : (key : List ℕ) (gs : List FixedParts) (g : FixedParts) → In g (filter (takes_part key) gs) → takes_part key g ≡ true
filtered key [] g i = absurd i
filtered key (x ∷ gs) g i = go (takes_part key x) refl (filtered key gs g) i
  where
    go : (b : Bool) → takes_part key x ≡ b → (In g (filter (takes_part key) gs) → takes_part key g ≡ true) → In g (cond b (x ∷ filter (takes_part key) gs) (filter (takes_part key) gs)) → takes_part key g ≡ true
    go true t rest (inl e) = ap (takes_part key) e ∙ t
    go true t rest (inr j) = rest j
    go false t rest j = rest j

module _ (r : Rules) (key : List ℕ) (f : FixedParts) (lines : List Line) where
  -- a noted state
  noting-agrees : (own : Bool) (s : Signed) (o : Option Kept) (st : Option Marked) → Agree r key f lines o st → Agree r key f lines (option_map (noting r own s) o) (with_noted r f (Some s) st)
  noting-agrees own s None None a = tt
  noting-agrees own s None (Some w) a = absurd a
  noting-agrees own s (Some k) None a = absurd a
  noting-agrees own s (Some k) (Some w) a = (
    record { mine = a.0.mine; line = a.0.line; there = a.0.there; opens = a.0.opens; named = a.0.named },
    λ same. ap (λ (g : FixedParts). extended r g (Some s) (marked_of k.chain)) same ∙ ap (extended r f (Some s)) (a.1 same),
  )

  state-agrees : (own : Bool) (channel : List ℕ) (s : Signed) (kept : List Kept) (st : Option Marked) (b : Bool) → bytes_eq channel (r.named f) ≡ b → Agree r key f lines (kept_of (r.named f) kept) st
      → Agree r key f lines (kept_of (r.named f) (kept_with (noting r own s) channel kept)) (with_noted r f (some_if b s) st)
  state-agrees own channel s kept st true e a =
      subst (λ (o : Option Kept). Agree r key f lines o (with_noted r f (Some s) st)) (sym (kept_here (noting r own s) (λ k. refl) channel kept (r.named f) e))
      (noting-agrees own s (kept_of (r.named f) kept) st a)
  state-agrees own channel s kept st false e a =
      subst (λ (o : Option Kept). Agree r key f lines o (with_noted r f None st)) (sym (kept_other (noting r own s) (λ k. refl) channel kept (r.named f) e))
      (subst (Agree r key f lines (kept_of (r.named f) kept)) (sym (with_none r f st)) a)

  message-agrees : (o : Result Message ByteFault) (m : Mind) (st : Option Marked) → Agree r key f lines (kept_of (r.named f) m.kept) st
      → Agree r key f lines (kept_of (r.named f) (noted_message r o m).kept) (with_noted r f (told_in (r.named f) o) st)
  message-agrees (Ok message) m st a = state-agrees false message.0 message.1 m.kept st (bytes_eq message.0 (r.named f)) refl a
  message-agrees (Err fault) m st a = subst (Agree r key f lines (kept_of (r.named f) m.kept)) (sym (with_none r f st)) a

  -- the channels that a command adds
  abbrev opening : ℕ → ℕ → List FixedParts → Line
  opening seen step gs = record { seen = seen; deed = deeds.Commanded step None; adds = gs }

  added-agrees : (line : Line) → In line lines → (gs : List FixedParts) → ((g : FixedParts) → In g gs → In g (opened line)) → ((g : FixedParts) → In g gs → takes_part key g ≡ true)
      → Agree r key f lines (find (is_of (r.named f)) (map (openings.opened r key) gs)) (cond (list_any (λ g. bytes_eq (r.named g) (r.named f)) gs) (Some nothing) None)
  added-agrees line there [] inside mine = tt
  added-agrees line there (g ∷ gs) inside mine = pick (bytes_eq (r.named g) (r.named f)) refl (added-agrees line there gs (λ x i. inside x (inr i)) (λ x i. mine x (inr i)))
    where
      rest : Bool
      rest = list_any (λ x. bytes_eq (r.named x) (r.named f)) gs

      pick : (c : Bool) → bytes_eq (r.named g) (r.named f) ≡ c → Agree r key f lines (find (is_of (r.named f)) (map (openings.opened r key) gs)) (cond rest (Some nothing) None)
          → Agree r key f lines (cond c (Some (openings.opened r key g)) (find (is_of (r.named f)) (map (openings.opened r key) gs))) (cond (c || rest) (Some nothing) None)
      pick true n later = (record { mine = among key g (mine g (inl refl)); line = line; there = there; opens = inside g (inl refl); named = n }, λ same. refl)
      pick false n later = later

  opening-agrees : (seen step : ℕ) (command : Command) (kept : List Kept) (st : Option Marked)
      → In (opening seen step (adds key (Some command))) lines
      → Agree r key f lines (kept_of (r.named f) kept) st
      → Agree r key f lines (kept_of (r.named f) (kept ++ map (openings.opened r key) (adds key (Some command)))) (note r f (opening seen step (adds key (Some command))) st)
  opening-agrees seen step command kept st there a =
      subst (λ (o : Option Kept). Agree r key f lines o (note r f line st)) (sym (kept_append (r.named f) kept (map (openings.opened r key) gs)))
      (go (kept_of (r.named f) kept) st a)
    where
      gs : List FixedParts
      gs = adds key (Some command)

      line : Line
      line = opening seen step gs

      go : (o : Option Kept) (st : Option Marked) → Agree r key f lines o st
          → Agree r key f lines (or_last o (find (is_of (r.named f)) (map (openings.opened r key) gs))) (note r f line st)
      go None None a = added-agrees line there gs (λ g i. i) (λ g i. filtered key (opened_by command) g i)
      go None (Some w) a = absurd a
      go (Some k) None a = absurd a
      go (Some k) (Some w) a = a

  -- a line that opens nothing
  plain : (seen : ℕ) (deed : Deed) (fs : List FixedParts) (st : Option Marked) → is_followed deed ≡ false
      → with_noted r f (noted_in (r.named f) deed) st ≡ note r f (record { seen = seen; deed = deed; adds = fs }) st
  plain seen deed fs None e = ap (λ (b : Bool). cond (list_any (λ (g : FixedParts). bytes_eq (r.named g) (r.named f)) (cond b fs [])) (Some nothing) None) (sym e)
  plain seen deed fs (Some w) e = refl

  opens-agrees : (seen step : ℕ) (command : Command) (m : Mind) (st : Option Marked) → m.key ≡ key
      → In (opening seen step (adds key (Some command))) lines
      → Agree r key f lines (kept_of (r.named f) m.kept) st
      → Agree r key f lines (kept_of (r.named f) (with_opened r command m).kept) (note r f (opening seen step (adds key (Some command))) st)
  opens-agrees seen step command m st own there a =
      subst (λ (k : List ℕ). Agree r key f lines (kept_of (r.named f) (m.kept ++ map (openings.opened r k) (adds k (Some command)))) (note r f (opening seen step (adds key (Some command))) st)) (sym own)
      (opening-agrees seen step command m.kept st there a)

  -- what an event makes of both
  pub did-agrees : (seen : ℕ) (deed : Deed) (command : Option Command) (m : Mind) (st : Option Marked) → m.key ≡ key
      → In (record { seen = seen; deed = deed; adds = adds key command }) lines
      → Agree r key f lines (kept_of (r.named f) m.kept) st
      → Agree r key f lines (kept_of (r.named f) (did r deed command m).kept) (note r f (record { seen = seen; deed = deed; adds = adds key command }) st)
  did-agrees seen (deeds.Commanded step None) (Some (Open g outcome)) m st own there a = opens-agrees seen step (Open g outcome) m st own there a
  did-agrees seen (deeds.Commanded step None) (Some (OpenOn o)) m st own there a = opens-agrees seen step (OpenOn o) m st own there a
  did-agrees seen (deeds.Commanded step None) (Some (OpenVirtual v)) m st own there a = opens-agrees seen step (OpenVirtual v) m st own there a
  did-agrees seen (deeds.Commanded step None) (Some (Pay channel asset amount)) m st own there a =
      subst (Agree r key f lines (kept_of (r.named f) m.kept)) (sym (inert r f (record { seen = seen; deed = deeds.Commanded step None; adds = [] }) refl refl st)) a
  did-agrees seen (deeds.Commanded step None) (Some (Close channel)) m st own there a =
      subst (Agree r key f lines (kept_of (r.named f) m.kept)) (sym (inert r f (record { seen = seen; deed = deeds.Commanded step None; adds = [] }) refl refl st)) a
  did-agrees seen (deeds.Commanded step None) (Some (Release how channel)) m st own there a =
      subst (Agree r key f lines (kept_of (r.named f) m.kept)) (sym (inert r f (record { seen = seen; deed = deeds.Commanded step None; adds = [] }) refl refl st)) a
  did-agrees seen (deeds.Commanded step None) (Some (Resend channel)) m st own there a =
      subst (Agree r key f lines (kept_of (r.named f) m.kept)) (sym (inert r f (record { seen = seen; deed = deeds.Commanded step None; adds = [] }) refl refl st)) a
  did-agrees seen (deeds.Commanded step None) (Some Exit) m st own there a =
      subst (Agree r key f lines (kept_of (r.named f) m.kept)) (sym (inert r f (record { seen = seen; deed = deeds.Commanded step None; adds = [] }) refl refl st)) a
  did-agrees seen (deeds.Commanded step None) None m st own there a =
      subst (Agree r key f lines (kept_of (r.named f) m.kept)) (sym (inert r f (record { seen = seen; deed = deeds.Commanded step None; adds = [] }) refl refl st)) a
  did-agrees seen (deeds.Commanded step (Some refusal)) command m st own there a =
      subst (λ (x : Mind). Agree r key f lines (kept_of (r.named f) x.kept) (note r f (record { seen = seen; deed = deeds.Commanded step (Some refusal); adds = adds key command }) st)) (sym (refused command))
      (subst (Agree r key f lines (kept_of (r.named f) m.kept)) (sym (inert r f (record { seen = seen; deed = deeds.Commanded step (Some refusal); adds = adds key command }) refl refl st)) a)
    where
      refused : (command : Option Command) → commanded_if r command (Some refusal) m ≡ m
      refused None = refl
      refused (Some c) = refl
  did-agrees seen (deeds.Handled bytes None) command m st own there a =
      subst (Agree r key f lines (kept_of (r.named f) (noted_message r (message_of bytes) m).kept)) (plain seen (deeds.Handled bytes None) (adds key command) st refl)
      (message-agrees (message_of bytes) m st a)
  did-agrees seen (deeds.Signed channel state signature) command m st own there a =
      subst (Agree r key f lines (kept_of (r.named f) (did r (deeds.Signed channel state signature) command m).kept)) (plain seen (deeds.Signed channel state signature) (adds key command) st refl)
      (state-agrees true channel (record { state = state; signature = signature }) m.kept st (bytes_eq channel (r.named f)) refl a)
  did-agrees seen (deeds.Handled bytes (Some refusal)) command m st own there a =
      subst (Agree r key f lines (kept_of (r.named f) m.kept)) (sym (inert r f (record { seen = seen; deed = deeds.Handled bytes (Some refusal); adds = adds key command }) refl refl st)) a
  did-agrees seen (deeds.SignedChallenge channel state who signature) command m st own there a =
      subst (Agree r key f lines (kept_of (r.named f) m.kept)) (sym (inert r f (record { seen = seen; deed = deeds.SignedChallenge channel state who signature; adds = adds key command }) refl refl st)) a
  did-agrees seen (deeds.Called call) command m st own there a =
      subst (Agree r key f lines (kept_of (r.named f) m.kept)) (sym (inert r f (record { seen = seen; deed = deeds.Called call; adds = adds key command }) refl refl st)) a
  did-agrees seen (deeds.Watched watcher calls) command m st own there a =
      subst (Agree r key f lines (kept_of (r.named f) m.kept)) (sym (inert r f (record { seen = seen; deed = deeds.Watched watcher calls; adds = adds key command }) refl refl st)) a
