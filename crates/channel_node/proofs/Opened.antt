-- What a node keeps at a place is of channels that lines before it opened, so each state that it notes is of such.
use Rattle.std.proofs.Common.{◌≡◌, ℕ, suc, ◌==◌, Bool, true, false, cond, List, [], ◌∷◌, ◌++◌, inl, inr, length, refl, sym, ◌∙◌, ap, subst}
use Rattle.std.specs.Prelude.{Option, Some, None, Result, Ok, Err, map}
use Rattle.std.specs.List.{find}
use Rattle.std.specs.Option.{option_map}
use Rattle.std.specs.Str.{bytes_eq}
use Rattle.channel_values.specs.Parts.{FixedParts, StateParts}
use Rattle.channel_values.specs.declared.chain.Signed.{Signed}
use Rattle.channel_values.specs.declared.fault.ByteFault.{ByteFault}
use Rattle.channel_values.specs.Rules.{Rules}
use Rattle.call_history.proofs.Names.{same_bytes}
use Rattle.call_history.specs.History.{is_accepted}
use Rattle.call_history.specs.Reading.{message_of}
use Rattle.call_history.specs.Rows.{fixed_of}
use Rattle.call_history.specs.Spelling.{Message}
use Rattle.call_history.specs.declared.entry.Entry.{Entry}
use Rattle.call_history.specs.declared.event.Deed.{Deed}
use Rattle.call_history.specs.declared.event.Deed.TheVariants as deeds
use Rattle.call_history.specs.declared.event.NodeRefusal.TheVariants.{UnknownChannel}
use Rattle.call_history.specs.declared.view.WorldView.{WorldView}
use Rattle.call_history.specs.declared.call.Op.{Op}
use Rattle.history_view.specs.Views.{view_of}
use Rattle.channel_safety.proofs.Lists.{Suffix, suffix_of}
use Rattle.channel_safety.proofs.Tests.{none-eq}
use Rattle.channel_store.specs.Keeping.{noting, adopting}
use Rattle.channel_store.specs.Storing.{is_of, kept_of, kept_with}
use Rattle.channel_store.specs.declared.kept.Kept.{Kept}
use Rattle.channel_store.proofs.Keeping.{KeepsName, or_last, kept_here, kept_other, kept_append}
use Rattle.channel_safety.specs.Journals.{In, Line, opened, some_if, told_in, noted_in}
use Rattle.network.specs.declared.command.Command.{Command}
use Rattle.network.specs.declared.command.Command.TheVariants.{Open, OpenOn, OpenVirtual, Pay, Close, Release, Resend, Exit}
use Rattle.channel_node.specs.Openings.{adds}
use Rattle.channel_node.specs.Openings as openings
use Rattle.channel_node.specs.Minds.{Mind, fresh, shown_by, kept_seeing, saw, noted_message, with_opened, did}
use Rattle.channel_node.specs.Places.{Told, line_of, lines_of, slot, mind_at}
use Rattle.channel_node.specs.Playing.{Signing, signings, pending, Allowed, PlaysEvent}
use Rattle.channel_node.specs.Refusing.{state_refusal, message_refusal, signs_of}
use Rattle.channel_node.specs.Tables.{Tables}
use Rattle.channel_safety.specs.Races.{WasOpened}
use Rattle.channel_node.specs.RaceNodeLaws.{StatesAreOfOpenedChannels}
use Rattle.channel_node.proofs.Bridging.{plays-at}

-- ---- what is kept

module _ (r : Rules) (key : List ℕ) (lines : List Line) where
  -- whatever is kept is of a channel that a line opened
  abbrev AllOpened : List Kept → Type 0
  AllOpened kept = (c : List ℕ) (k : Kept) → kept_of c kept ≡ Some k → WasOpened r lines c

  pub record KeepsOpened (m : Mind) : Type 0 where
    pub own : m.key ≡ key
    pub each : AllOpened m.kept

  -- a change of what is kept of a channel
  changed-opened : (change : Kept → Kept) → KeepsName change → (channel : List ℕ) (kept : List Kept)
      → AllOpened kept → AllOpened (kept_with change channel kept)
  changed-opened change keeps channel kept all c k e = go (bytes_eq channel c) refl
    where
      was : (o : Option Kept) → kept_of c kept ≡ o → option_map change o ≡ Some k → WasOpened r lines c
      was None is e = absurd (none-eq k e)
      was (Some before) is e = all c before is

      go : (b : Bool) → bytes_eq channel c ≡ b → WasOpened r lines c
      go true same = was (kept_of c kept) refl (sym (kept_here change keeps channel kept c same) ∙ e)
      go false apart = all c k (sym (kept_other change keeps channel kept c apart) ∙ e)

  -- the channels of a command
  found-opened : (line : Line) → In line lines → (gs : List FixedParts)
      → ((g : FixedParts) → In g gs → In g (opened line)) → (c : List ℕ) (k : Kept) → find (is_of c) (map (openings.opened r key) gs) ≡ Some k → WasOpened r lines c
  found-opened line there [] inside c k e = absurd (none-eq k e)
  found-opened line there (g ∷ gs) inside c k e =
      go (bytes_eq (r.named g) c) refl (found-opened line there gs (λ x i. inside x (inr i)) c k) e
    where
      rest : Option Kept
      rest = find (is_of c) (map (openings.opened r key) gs)

      go : (b : Bool) → bytes_eq (r.named g) c ≡ b → (rest ≡ Some k → WasOpened r lines c)
          → cond b (Some (openings.opened r key g)) rest ≡ Some k → WasOpened r lines c
      go true same later e =
          record {
            line = line;
            there = there;
            fixed = g;
            opens = inside g (inl refl);
            name = same_bytes (r.named g) c same;
          }
      go false apart later e = later e

  added-opened : (line : Line) → In line lines → (gs : List FixedParts)
      → ((g : FixedParts) → In g gs → In g (opened line)) → (kept : List Kept) → AllOpened kept → AllOpened (kept ++ map (openings.opened r key) gs)
  added-opened line there gs inside kept all c k e =
      go (kept_of c kept) refl (sym (kept_append c kept (map (openings.opened r key) gs)) ∙ e)
    where
      go : (o : Option Kept) → kept_of c kept ≡ o → or_last o (find (is_of c) (map (openings.opened r key) gs)) ≡ Some k
          → WasOpened r lines c
      go None is e = found-opened line there gs inside c k e
      go (Some before) is e = all c before is

  -- ---- entries

  seeing-opened : (view : WorldView) (op : Op) (o : Option FixedParts) (kept : List Kept)
      → AllOpened kept → AllOpened (kept_seeing r view op o kept)
  seeing-opened view op None kept all = all
  seeing-opened view op (Some f) kept all =
      changed-opened (adopting r (shown_by op (view_of view.channels (r.named f)).shown)) (λ k. refl) (r.named f) kept
      all

  saw-opened : (e : Entry) (m : Mind) → KeepsOpened m → KeepsOpened (saw r e m)
  saw-opened e m was = record { own = was.own; each = go (is_accepted e.reply) }
    where
      go : (b : Bool) → AllOpened (cond b (kept_seeing r m.view e.op (fixed_of e.op) m.kept) m.kept)
      go true = seeing-opened m.view e.op (fixed_of e.op) m.kept was.each
      go false = was.each

  -- ---- events

  noted-opened : (own : Bool) (channel : List ℕ) (s : Signed) (m : Mind)
      → KeepsOpened m → AllOpened (kept_with (noting r own s) channel m.kept)
  noted-opened own channel s m was = changed-opened (noting r own s) (λ k. refl) channel m.kept was.each

  message-opened : (o : Result Message ByteFault) (m : Mind) → KeepsOpened m → KeepsOpened (noted_message r o m)
  message-opened (Ok message) m was = record { own = was.own; each = noted-opened false message.0 message.1 m was }
  message-opened (Err fault) m was = was

  abbrev opening : ℕ → ℕ → List FixedParts → Line
  opening seen step gs = record { seen = seen; deed = deeds.Commanded step None; adds = gs }

  opens-opened : (seen step : ℕ) (command : Command) (m : Mind) → In (opening seen step (adds key (Some command))) lines
      → KeepsOpened m → KeepsOpened (with_opened r command m)
  opens-opened seen step command m there was = record {
    own = was.own;
    each =
        subst (λ (k : List ℕ). AllOpened (m.kept ++ map (openings.opened r k) (adds k (Some command)))) (sym was.own)
        (added-opened (opening seen step (adds key (Some command))) there (adds key (Some command)) (λ g i. i) m.kept
        was.each);
  }

  did-opened : (seen : ℕ) (deed : Deed) (command : Option Command) (m : Mind)
      → In (record { seen = seen; deed = deed; adds = adds key command }) lines
      → KeepsOpened m → KeepsOpened (did r deed command m)
  did-opened seen (deeds.Commanded step None) (Some (Open g outcome)) m there was =
      opens-opened seen step (Open g outcome) m there was
  did-opened seen (deeds.Commanded step None) (Some (OpenOn o)) m there was =
      opens-opened seen step (OpenOn o) m there was
  did-opened seen (deeds.Commanded step None) (Some (OpenVirtual v)) m there was =
      opens-opened seen step (OpenVirtual v) m there was
  did-opened seen (deeds.Commanded step None) (Some (Pay channel asset amount)) m there was = was
  did-opened seen (deeds.Commanded step None) (Some (Close channel)) m there was =
      record { own = was.own; each = was.each }
  did-opened seen (deeds.Commanded step None) (Some (Release how channel)) m there was =
      record { own = was.own; each = was.each }
  did-opened seen (deeds.Commanded step None) (Some (Resend channel)) m there was = was
  did-opened seen (deeds.Commanded step None) (Some Exit) m there was = record { own = was.own; each = was.each }
  did-opened seen (deeds.Commanded step None) None m there was = was
  did-opened seen (deeds.Commanded step (Some refusal)) None m there was = was
  did-opened seen (deeds.Commanded step (Some refusal)) (Some command) m there was = was
  did-opened seen (deeds.Handled bytes None) command m there was = message-opened (message_of bytes) m was
  did-opened seen (deeds.Handled bytes (Some refusal)) command m there was = was
  did-opened seen (deeds.Signed channel state signature) command m there was =
      record { own = was.own; each = noted-opened true channel (record { state = state; signature = signature }) m was }
  did-opened seen (deeds.SignedChallenge channel state who signature) command m there was = was
  did-opened seen (deeds.Called call) command m there was = was
  did-opened seen (deeds.Watched watcher calls) command m there was = was

  -- ---- places

  slot-opened : (n : ℕ) (front : List Told) (m : Mind) → ((x : Told) → In x front → In (line_of key x) lines)
      → KeepsOpened m → KeepsOpened (slot r n front m)
  slot-opened n [] m inside was = was
  slot-opened n (x ∷ front) m inside was = go (x.seen == n) (slot-opened n front m (λ y i. inside y (inr i)) was)
    where
      go : (b : Bool) → KeepsOpened (slot r n front m)
          → KeepsOpened (cond b (did r x.deed x.command (slot r n front m)) (slot r n front m))
      go false so = so
      go true so = did-opened x.seen x.deed x.command (slot r n front m) (inside x (inl refl)) so

  place-opened : (past : List Entry) (front : List Told) → ((x : Told) → In x front → In (line_of key x) lines)
      → KeepsOpened (mind_at r key past front)
  place-opened [] front inside =
      slot-opened 0 front (fresh key) inside (record { own = refl; each = λ c k e. absurd (none-eq k e) })
  place-opened (e ∷ past) front inside =
      slot-opened (suc (length past)) front (saw r e (mind_at r key past front)) inside
      (saw-opened e (mind_at r key past front) (place-opened past front inside))

-- ---- what is noted

module _ (t : Tables) (r : Rules) (s : Signing) (past : List Entry) (m : Mind) (used : ℕ) (waits : Option Command)
    (lines : List Line) (keeps : KeepsOpened r s.key lines m) (c : List ℕ) where
  signed-opened : (name : List ℕ) (state : StateParts) (o : Option Kept) → kept_of name m.kept ≡ o
      → signs_of t r waits m name o ≡ Some state → WasOpened r lines name
  signed-opened name state None is e = absurd (none-eq state e)
  signed-opened name state (Some k) is e = keeps.each name k is

  taken-opened : (message : Message) (o : Option Kept) → kept_of message.0 m.kept ≡ o
      → None ≡ state_refusal t r m message.0 message.1 o → WasOpened r lines message.0
  taken-opened message None is e = absurd (none-eq UnknownChannel e)
  taken-opened message (Some k) is e = keeps.each message.0 k is

  -- a state is of the channel of which it was signed or told
  of-channel : (name : List ℕ) (n state : Signed) → WasOpened r lines name → (b : Bool) → bytes_eq name c ≡ b
      → some_if b n ≡ Some state → WasOpened r lines c
  of-channel name n state was true same e = subst (WasOpened r lines) (same_bytes name c same) was
  of-channel name n state was false apart e = absurd (none-eq state e)

  told-opened : (o : Result Message ByteFault) (state : Signed) → None ≡ message_refusal t r m o
      → told_in c o ≡ Some state → WasOpened r lines c
  told-opened (Err fault) state accepted e = absurd (none-eq state e)
  told-opened (Ok message) state accepted e =
      of-channel message.0 message.1 state (taken-opened message (kept_of message.0 m.kept) refl accepted)
      (bytes_eq message.0 c) refl e

  event-opened : (deed : Deed) (command : Option Command) (state : Signed)
      → Allowed t r s past m used waits deed command → noted_in c deed ≡ Some state → WasOpened r lines c
  event-opened (deeds.Signed name made signature) command state allowed e =
      of-channel name (record { state = made; signature = signature }) state
      (signed-opened name made (kept_of name m.kept) refl allowed.0) (bytes_eq name c) refl e
  event-opened (deeds.Handled bytes None) command state allowed e = told-opened (message_of bytes) state allowed.1 e
  event-opened (deeds.Handled bytes (Some refusal)) command state allowed e = absurd (none-eq state e)
  event-opened (deeds.Commanded step refusal) command state allowed e = absurd (none-eq state e)
  event-opened (deeds.SignedChallenge channel made who signature) command state allowed e = absurd (none-eq state e)
  event-opened (deeds.Called call) command state allowed e = absurd (none-eq state e)
  event-opened (deeds.Watched watcher calls) command state allowed e = absurd (none-eq state e)

inside-lines : (key : List ℕ) (journal : List Told) (x : Told) → In x journal
    → In (line_of key x) (lines_of key journal)
inside-lines key [] x i = absurd i
inside-lines key (y ∷ journal) x (inl e) = inl (ap (line_of key) e)
inside-lines key (y ∷ journal) x (inr i) = inr (inside-lines key journal x i)

line-opened : (t : Tables) (r : Rules) (s : Signing) (h : List Entry) (x : Told) (front : List Told) (channel : List ℕ)
    (state : Signed) → PlaysEvent t r s h x front → noted_in channel x.deed ≡ Some state → WasOpened r (lines_of s.key front) channel
line-opened t r s h x front channel state ev e = at (suffix_of h x.seen ev.within)
  where
    at : Suffix h x.seen → WasOpened r (lines_of s.key front) channel
    at su =
        event-opened t r s su.past (mind_at r s.key su.past front) (signings front) (pending front) (lines_of s.key front)
        (place-opened r s.key (lines_of s.key front) su.past front (inside-lines s.key front)) channel x.deed x.command
        state (ev.place su.later su.past su.is su.len).1 e

pub states-opened : StatesAreOfOpenedChannels
states-opened t r s h newer x front channel state plays e =
    line-opened t r s h x front channel state (plays-at t r s h newer x front plays) e
