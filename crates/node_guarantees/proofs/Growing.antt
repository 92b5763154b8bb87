-- What a node knows of its plan at a place: its parts and what is kept of each channel, with one more event or entry.
use Rattle.std.proofs.Common.{◌≡◌, ℕ, Bool, true, false, cond, List, [], ◌∷◌, ◌++◌, refl, sym, ◌∙◌, ap, subst}
use Rattle.std.specs.Prelude.{Option, Some, None, Result, Ok, Err, map, filter}
use Rattle.std.specs.Option.{option_or}
use Rattle.std.specs.Str.{bytes_eq}
use Rattle.std.proofs.lemmas.List.{append-nil, map-append}
use Rattle.channel_values.specs.Parts.{FixedParts}
use Rattle.channel_values.specs.declared.chain.Signed.{Signed}
use Rattle.channel_values.specs.declared.fault.ByteFault.{ByteFault}
use Rattle.channel_values.specs.Rules.{Rules}
use Rattle.call_history.proofs.Names.{same_bytes, bytes_eq_self}
use Rattle.call_history.specs.History.{is_accepted}
use Rattle.call_history.specs.Marked.{Marked}
use Rattle.call_history.specs.Rows.{fixed_of}
use Rattle.call_history.specs.Spelling.{Message}
use Rattle.call_history.specs.declared.entry.Entry.{Entry}
use Rattle.call_history.specs.declared.event.Deed.TheVariants as deeds
use Rattle.channel_store.specs.Keeping.{noting, adopting}
use Rattle.channel_store.specs.Storing.{kept_of, kept_with}
use Rattle.channel_store.specs.declared.kept.Kept.{Kept}
use Rattle.channel_safety.proofs.Tests.{none-eq, clash}
use Rattle.funding_plans.specs.declared.plan.Part.{Part}
use Rattle.history_view.specs.Views.{view_of}
use Rattle.channel_safety.proofs.Members.{In-append_left, In-map, mapped}
use Rattle.channel_safety.specs.Journals.{In, opened, some_if, made_in}
use Rattle.share_laws.specs.Places.{last_made}
use Rattle.share_laws.specs.Places as places
use Rattle.network.specs.declared.command.Command.{Command}
use Rattle.channel_node.specs.Openings.{opened_by, ledgers_for, takes_part, adds, are_apart, parts_of}
use Rattle.channel_node.specs.Openings as openings
use Rattle.channel_node.specs.Minds.{Mind, fresh, shown_by, kept_seeing, saw, noted_message}
use Rattle.channel_node.specs.Places.{Told, line_of, lines_of}
use Rattle.channel_node.proofs.Agreeing.{filtered}
use Rattle.channel_node.proofs.Allowing.{filter-in}
use Rattle.node_guarantees.proofs.Ordering.{part_in, parts_told, order-opens}
use Rattle.node_guarantees.proofs.Apart.{Apart, apart-append, apart-filter, names_of, found-named, none-named, changed_at, changed-alone}
use Rattle.node_guarantees.proofs.Keeping.{KeepsChannel, AllKeep, all-names, all-append, all-change, all-lift, keeps-quiet, keeps-noting, keeps-adopting, keeps-signing, all-opened}

-- the channels that a journal opened, in their order
abbrev pub channels_told : List ℕ → List Told → List FixedParts
channels_told key front = places.channels (lines_of key front)

-- The parts are those that the commands opened; each channel is kept in the order of the openings, the names are
-- apart, and a state was signed only of these.
pub record Grown (r : Rules) (key : List ℕ) (front : List Told) (own : List ℕ) (parts : List Part) (kept : List Kept) : Type 0 where
  pub mine : own ≡ key
  pub opened : parts ≡ parts_told r key front
  pub all : AllKeep r (lines_of key front) (channels_told key front) kept
  pub apart : Apart (map r.named (channels_told key front))
  pub made : (c : List ℕ) (s : Signed) → last_made c (lines_of key front) ≡ Some s → In c (map r.named (channels_told key front))

abbrev pub Grows : Rules → List ℕ → List Told → Mind → Type 0
Grows r key front m = Grown r key front m.key m.parts m.kept

pub grows-fresh : (r : Rules) (key : List ℕ) → Grows r key [] (fresh key)
grows-fresh r key = record { mine = refl; opened = refl; all = tt; apart = tt; made = λ c s e. absurd (none-eq s e) }

module _ (r : Rules) (key : List ℕ) where
  -- ---- the same events

  kept-names : (front : List Told) (own : List ℕ) (parts : List Part) (kept : List Kept) → Grown r key front own parts kept → names_of kept ≡ map r.named (channels_told key front)
  kept-names front own parts kept was = all-names r (lines_of key front) (channels_told key front) kept was.all

  kept-apart : (front : List Told) (own : List ℕ) (parts : List Part) (kept : List Kept) → Grown r key front own parts kept → Apart (names_of kept)
  kept-apart front own parts kept was = subst Apart (sym (kept-names front own parts kept was)) was.apart

  -- a change of one channel
  changes : (front : List Told) (own : List ℕ) (parts : List Part) (kept : List Kept) (change : Kept → Kept) (c : List ℕ)
      → ((f : FixedParts) (k : Kept) → KeepsChannel r (lines_of key front) f k → KeepsChannel r (lines_of key front) f (changed_at change c k))
      → Grown r key front own parts kept → Grown r key front own parts (kept_with change c kept)
  changes front own parts kept change c step was = record {
    mine = was.mine;
    opened = was.opened;
    all =
        subst (AllKeep r (lines_of key front) (channels_told key front)) (sym (changed-alone change c kept (kept-apart front own parts kept was)))
        (all-change r (lines_of key front) (lines_of key front) (changed_at change c) step (channels_told key front) kept was.all);
    apart = was.apart;
    made = was.made;
  }

  pub grows-message : (front : List Told) (o : Result Message ByteFault) (m : Mind) → Grows r key front m → Grows r key front (noted_message r o m)
  grows-message front (Ok message) m was =
      changes front m.key m.parts m.kept (noting r false message.1) message.0 (λ f k. keeps-noting r (lines_of key front) message.1 message.0 f k) was
  grows-message front (Err fault) m was = was

  pub grows-entry : (front : List Told) (e : Entry) (m : Mind) → Grows r key front m → Grows r key front (saw r e m)
  grows-entry front e m was = go (is_accepted e.reply) (fixed_of e.op)
    where
      go : (b : Bool) (o : Option FixedParts) → Grown r key front m.key m.parts (cond b (kept_seeing r m.view e.op o m.kept) m.kept)
      go false o = was
      go true None = was
      go true (Some f) =
          let w : Marked = shown_by e.op (view_of m.view.channels (r.named f)).shown in
          changes front m.key m.parts m.kept (adopting r w) (r.named f) (λ g k. keeps-adopting r (lines_of key front) w (r.named f) g k) was

  -- ---- an event that opens nothing

  module _ (x : Told) (front : List Told) (no-part : part_in r key x ≡ []) (no-channel : opened (line_of key x) ≡ []) where
    same-channels : channels_told key (x ∷ front) ≡ channels_told key front
    same-channels = ap (λ (fs : List FixedParts). channels_told key front ++ fs) no-channel ∙ append-nil (channels_told key front)

    same-parts : (parts : List Part) → parts ≡ parts_told r key front → parts ≡ parts_told r key (x ∷ front)
    same-parts parts e = e ∙ sym (ap (λ (ps : List Part). parts_told r key front ++ ps) no-part ∙ append-nil (parts_told r key front))

    -- what is kept, and what was signed, of the channels so far
    quietly : (own : List ℕ) (parts : List Part) (kept after : List Kept) → Grown r key front own parts kept
        → AllKeep r (lines_of key (x ∷ front)) (channels_told key front) after
        → ((c : List ℕ) (s : Signed) → last_made c (lines_of key (x ∷ front)) ≡ Some s → In c (map r.named (channels_told key front)))
        → Grown r key (x ∷ front) own parts after
    quietly own parts kept after was all made = record {
      mine = was.mine;
      opened = same-parts parts was.opened;
      all = subst (λ (fs : List FixedParts). AllKeep r (lines_of key (x ∷ front)) fs after) (sym same-channels) all;
      apart = subst (λ (fs : List FixedParts). Apart (map r.named fs)) (sym same-channels) was.apart;
      made = λ c s e. subst (λ (fs : List FixedParts). In c (map r.named fs)) (sym same-channels) (made c s e);
    }

    -- nor signs anything
    pub quiet : (own : List ℕ) (parts : List Part) (kept : List Kept) → ((c : List ℕ) → made_in c x.deed ≡ None) → Grown r key front own parts kept → Grown r key (x ∷ front) own parts kept
    quiet own parts kept none was =
        quietly own parts kept kept was
        (all-lift r (lines_of key front) (lines_of key (x ∷ front)) (λ f k. keeps-quiet r (line_of key x) (lines_of key front) none f k) (channels_told key front) kept was.all)
        (λ c s e. was.made c s (sym (ap (λ (o : Option Signed). option_or o (last_made c (lines_of key front))) (none c)) ∙ e))

    -- and signs a state of a channel that is kept
    pub signs : (own : List ℕ) (parts : List Part) (kept : List Kept) (s : Signed) (c : List ℕ) → ((n : List ℕ) → made_in n x.deed ≡ some_if (bytes_eq c n) s)
        → (k : Kept) → kept_of c kept ≡ Some k → Grown r key front own parts kept → Grown r key (x ∷ front) own parts (kept_with (noting r true s) c kept)
    signs own parts kept s c is k found was = quietly own parts kept (kept_with (noting r true s) c kept) was all made
      where
        all : AllKeep r (lines_of key (x ∷ front)) (channels_told key front) (kept_with (noting r true s) c kept)
        all =
            subst (AllKeep r (lines_of key (x ∷ front)) (channels_told key front)) (sym (changed-alone (noting r true s) c kept (kept-apart front own parts kept was)))
            (all-change r (lines_of key front) (lines_of key (x ∷ front)) (changed_at (noting r true s) c)
            (λ f k. keeps-signing r (line_of key x) (lines_of key front) s c is f k) (channels_told key front) kept was.all)

        made : (n : List ℕ) (z : Signed) → last_made n (lines_of key (x ∷ front)) ≡ Some z → In n (map r.named (channels_told key front))
        made n z e = go (bytes_eq c n) refl (sym (ap (λ (o : Option Signed). option_or o (last_made n (lines_of key front))) (is n)) ∙ e)
          where
            go : (b : Bool) → bytes_eq c n ≡ b → option_or (some_if b s) (last_made n (lines_of key front)) ≡ Some z → In n (map r.named (channels_told key front))
            go true same e =
                subst (λ (ns : List (List ℕ)). In n ns) (kept-names front own parts kept was)
                (subst (λ (y : List ℕ). In y (names_of kept)) (same_bytes c n same) (found-named c kept k found))
            go false same e = was.made n z e

  -- ---- a command that opens

  module _ (seen step : ℕ) (command : Command) (front : List Told) (parts : List Part) (kept : List Kept)
      (free : (name : List ℕ) → In name (map r.named (opened_by command)) → kept_of name kept ≡ None)
      (new : Apart (map r.named (opened_by command))) (was : Grown r key front key parts kept) where
    abbrev x : Told
    x = record { seen = seen; deed = deeds.Commanded step None; command = Some command }

    abbrev gs : List FixedParts
    gs = filter (takes_part key) (opened_by command)

    free-of : (g : FixedParts) → In g gs → kept_of (r.named g) kept ≡ None
    free-of g i = free (r.named g) (In-map r.named g (opened_by command) (filter-in (takes_part key) g (opened_by command) i))

    -- a name of the channels so far is none of these
    before-apart : (n : List ℕ) (g : FixedParts) → In n (map r.named (channels_told key front)) → In g gs → bytes_eq n (r.named g) ≡ false
    before-apart n g i j = none-named (r.named g) kept (free-of g j) n (subst (λ (ns : List (List ℕ)). In n ns) (sym (kept-names front key parts kept was)) i)

    unsigned : (g : FixedParts) → In g gs → last_made (r.named g) (lines_of key (x ∷ front)) ≡ None
    unsigned g i = go (last_made (r.named g) (lines_of key front)) refl
      where
        go : (o : Option Signed) → last_made (r.named g) (lines_of key front) ≡ o → o ≡ None
        go None e = refl
        go (Some s) e = absurd (clash (bytes_eq (r.named g) (r.named g)) (bytes_eq_self (r.named g)) (before-apart (r.named g) g (was.made (r.named g) s e) i))

    names-grow : map r.named (channels_told key front ++ gs) ≡ map r.named (channels_told key front) ++ map r.named gs
    names-grow = map-append r.named (channels_told key front) gs

    pub opens : Grown r key (x ∷ front) key (parts ++ parts_of r key command) (kept ++ map (openings.opened r key) gs)
    opens = record {
      mine = refl;
      opened = ap (λ (ps : List Part). ps ++ parts_of r key command) was.opened ∙ ap (λ (ps : List Part). parts_told r key front ++ ps) (sym (order-opens r key command));
      all =
          all-append r (lines_of key (x ∷ front)) (channels_told key front) gs kept (map (openings.opened r key) gs)
          (all-lift r (lines_of key front) (lines_of key (x ∷ front)) (λ f k. keeps-quiet r (line_of key x) (lines_of key front) (λ c. refl) f k) (channels_told key front) kept was.all)
          (all-opened r key (lines_of key (x ∷ front)) gs (λ g i. filtered key (opened_by command) g i) unsigned);
      apart =
          subst Apart (sym names-grow)
          (apart-append (map r.named (channels_told key front)) (map r.named gs) was.apart (apart-filter r (takes_part key) (opened_by command) new)
          (λ n y i j. (let m = mapped r.named y gs j in ap (bytes_eq n) m.is ∙ before-apart n m.from i m.there)));
      made = λ c s e. subst (λ (ns : List (List ℕ)). In c ns) (sym names-grow) (In-append_left c (map r.named (channels_told key front)) (map r.named gs) (was.made c s e));
    }
