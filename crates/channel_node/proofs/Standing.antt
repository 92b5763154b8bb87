-- At each place of a legal history what is known stands for it, and what is kept is what is held.
use Rattle.std.proofs.Common.{◌≡◌, ℕ, suc, Bool, true, false, cond, ◌&&◌, ◌||◌, not, ◌==◌, List, [], ◌∷◌, ◌++◌, inl, inr, length, refl, sym, ◌∙◌, ap, subst}
use Rattle.std.specs.Prelude.{Option, Some, None, Result, Ok, Err, nat_lt}
use Rattle.std.specs.Option.{option_map}
use Rattle.std.specs.Str.{bytes_eq}
use Rattle.channel_values.specs.Parts.{FixedParts}
use Rattle.channel_values.specs.declared.fault.ByteFault.{ByteFault}
use Rattle.call_history.specs.Mode.{is_challenged}
use Rattle.call_history.specs.declared.standing.Standing.{Standing}
use Rattle.call_history.specs.declared.standing.Standing.TheVariants.{Open, Challenged, Final}
use Rattle.channel_values.specs.Rules.{Rules, top_turn}
use Rattle.channel_values.specs.Support.{supports}
use Rattle.call_history.proofs.Names.{same_bytes}
use Rattle.call_history.specs.Marked.{Marked, nothing, marked_of, is_supported, answered, adopted}
use Rattle.call_history.specs.Rows.{fixed_of}
use Rattle.call_history.specs.Shown.{challenged, shown}
use Rattle.call_history.specs.Shown as showing
use Rattle.call_history.specs.History.{Legal, is_accepted, is_named, mode}
use Rattle.call_history.specs.Reading.{message_of}
use Rattle.call_history.specs.Spelling.{Message}
use Rattle.call_history.specs.declared.call.Call.TheVariants.{Deposit, Challenge, Respond, Refute, Checkpoint, Conclude, Transfer, Claim}
use Rattle.call_history.specs.declared.call.Op.{Op}
use Rattle.call_history.specs.declared.call.Op.TheVariants as ops
use Rattle.call_history.specs.declared.entry.Entry.{Entry}
use Rattle.call_history.specs.declared.event.Deed.{Deed}
use Rattle.call_history.specs.declared.event.Deed.TheVariants as deeds
use Rattle.call_history.specs.declared.view.WorldView.{WorldView}
use Rattle.channel_store.specs.Storing.{kept_of, kept_with}
use Rattle.channel_store.specs.declared.kept.Kept.{Kept}
use Rattle.channel_safety.proofs.Tests.{some-eq}
use Rattle.channel_safety.proofs.Replies.{taken, Responds, respond_ok}
use Rattle.history_view.proofs.Stands.{following_keeps_standing, unseen_stands}
use Rattle.history_view.specs.Standing.{IsChainOf, StandsFor}
use Rattle.history_view.specs.Views.{view_of}
use Rattle.channel_safety.specs.Journals.{In, Line}
use Rattle.channel_safety.specs.Held.{note, show, held}
use Rattle.channel_safety.specs.Held as holding
use Rattle.channel_store.specs.Keeping.{adopting}
use Rattle.channel_node.specs.Minds.{Mind, fresh, shown_by, kept_seeing, saw, noted_message, did}
use Rattle.channel_node.specs.Places.{Told, line_of, lines_of, slot, mind_at, AreFew}
use Rattle.network.specs.declared.command.Command.{Command}
use Rattle.network.specs.declared.command.Command.TheVariants.{OpenOn, OpenVirtual, Pay, Close, Release, Resend, Exit}
use Rattle.network.specs.declared.command.Command.TheVariants as commands
use Rattle.channel_store.proofs.Keeping.{kept_here, kept_other}
use Rattle.channel_node.proofs.Agreeing.{Agree, did-agrees}

-- ---- what is shown

-- a chain of no state is adopted by nobody
unsupported : (r : Rules) (f : FixedParts) → is_supported r f nothing ≡ false
unfolding supports
unsupported r f = refl

adopts-nothing : (r : Rules) (f : FixedParts) (w : Marked) → adopted r f nothing w ≡ w
adopts-nothing r f w = go (is_supported r f nothing) (not (is_supported r f w) || nat_lt (top_turn w.states) (top_turn [])) (unsupported r f)
  where
    go : (b c : Bool) → b ≡ false → cond (b && c) nothing w ≡ w
    go true c e = absurd cc
    go false c e = refl

shows-nothing : (r : Rules) (f : FixedParts) (st : Option Marked) → show r f nothing st ≡ st
shows-nothing r f None = refl
shows-nothing r f (Some w) = ap (λ (x : Marked). Some x) (adopts-nothing r f w)

challenged-mode : (x : Standing) → is_challenged x ≡ true → x ≡ Challenged
challenged-mode Open e = cc
challenged-mode Challenged e = refl
challenged-mode Final e = cc

-- what a view says of an accepted call is the chain that the entry shows
pub told-shown : (r : Rules) (past : List Entry) (e : Entry) (view : WorldView) (op : Op) (g : FixedParts) → Legal r (e ∷ past) → StandsFor r past view → is_accepted e.reply ≡ true
    → e.op ≡ op → fixed_of op ≡ Some g
    → shown_by op (view_of view.channels (r.named g)).shown ≡ showing.shown_by r (r.named g) past op
told-shown r past e view (ops.Call (Respond k)) g legal st accepted is names =
    subst (λ (x : FixedParts). shown_by (ops.Call (Respond k)) (view_of view.channels (r.named x)).shown ≡ answered k.fixed k.next (challenged r (r.named x) past)) (some-eq k.fixed g names)
    (ap (shown_by (ops.Call (Respond k))) open_chain.1 ∙ ap (answered k.fixed k.next) open_chain.3)
  where
    answers : Responds r past k.fixed k.from k.next
    answers = respond_ok r past k.fixed k.from k.next (taken r past e (Respond k) legal is accepted)

    open_chain : IsChainOf r (r.named k.fixed) (challenged r (r.named k.fixed) past) (view_of view.channels (r.named k.fixed)).shown
    open_chain = (st.channels (r.named k.fixed)).challenged (challenged-mode (mode r (r.named k.fixed) past) answers.challenged)
told-shown r past e view (ops.Call (Challenge k)) g legal st accepted is names = refl
told-shown r past e view (ops.Call (Checkpoint chain)) g legal st accepted is names = refl
told-shown r past e view (ops.Call (Conclude chain)) g legal st accepted is names = refl
told-shown r past e view (ops.Call (Refute fixed next)) g legal st accepted is names = refl
told-shown r past e view (ops.Call (Deposit d)) g legal st accepted is names = refl
told-shown r past e view (ops.Call (Transfer t)) g legal st accepted is names = refl
told-shown r past e view (ops.Call (Claim k)) g legal st accepted is names = refl
told-shown r past e view (ops.Time t) g legal st accepted is names = refl

module _ (r : Rules) (key : List ℕ) (f : FixedParts) (lines : List Line) where
  adopting-agrees : (w : Marked) (o : Option Kept) (st : Option Marked) → Agree r key f lines o st → Agree r key f lines (option_map (adopting r w) o) (show r f w st)
  adopting-agrees w None None a = tt
  adopting-agrees w None (Some x) a = absurd a
  adopting-agrees w (Some k) None a = absurd a
  adopting-agrees w (Some k) (Some x) a = (
    record { mine = a.0.mine; line = a.0.line; there = a.0.there; opens = a.0.opens; named = a.0.named },
    λ same. ap (λ (g : FixedParts). adopted r g w (marked_of k.chain)) same ∙ ap (adopted r f w) (a.1 same),
  )

  -- an entry that shows nothing of the channel
  quiet-agrees : (kept : List Kept) (st : Option Marked) (w : Marked) → w ≡ nothing → Agree r key f lines (kept_of (r.named f) kept) st → Agree r key f lines (kept_of (r.named f) kept) (show r f w st)
  quiet-agrees kept st w none a = subst (Agree r key f lines (kept_of (r.named f) kept)) (sym (ap (λ (x : Marked). show r f x st) none ∙ shows-nothing r f st)) a

  -- what an entry makes of both
  saw-agrees : (past : List Entry) (e : Entry) (m : Mind) (st : Option Marked) → Legal r (e ∷ past) → StandsFor r past m.view
      → Agree r key f lines (kept_of (r.named f) m.kept) st → Agree r key f lines (kept_of (r.named f) (saw r e m).kept) (show r f (shown r (r.named f) past e) st)
  saw-agrees past e m st legal stands a = accepted (is_accepted e.reply) refl (fixed_of e.op) refl
    where
      c : List ℕ
      c = r.named f

      accepted : (b : Bool) → is_accepted e.reply ≡ b → (o : Option FixedParts) → fixed_of e.op ≡ o
          → Agree r key f lines (kept_of c (cond b (kept_seeing r m.view e.op o m.kept) m.kept)) (show r f (cond (b && is_named r c o) (showing.shown_by r c past e.op) nothing) st)
      accepted false is o names = quiet-agrees m.kept st nothing refl a
      accepted true is None names = quiet-agrees m.kept st nothing refl a
      accepted true is (Some g) names = same (bytes_eq (r.named g) c) refl
        where
          tells : Marked
          tells = shown_by e.op (view_of m.view.channels (r.named g)).shown

          same : (b : Bool) → bytes_eq (r.named g) c ≡ b
              → Agree r key f lines (kept_of c (kept_with (adopting r tells) (r.named g) m.kept)) (show r f (cond b (showing.shown_by r c past e.op) nothing) st)
          same false apart =
              subst (λ (x : Option Kept). Agree r key f lines x (show r f nothing st)) (sym (kept_other (adopting r tells) (λ k. refl) (r.named g) m.kept c apart))
              (quiet-agrees m.kept st nothing refl a)
          same true here =
              let one : tells ≡ showing.shown_by r c past e.op =
              told-shown r past e m.view e.op g legal stands is refl names ∙ ap (λ (x : List ℕ). showing.shown_by r x past e.op) (same_bytes (r.named g) c here) in
              subst (λ (x : Option Kept). Agree r key f lines x (show r f (showing.shown_by r c past e.op) st)) (sym (kept_here (adopting r tells) (λ k. refl) (r.named g) m.kept c here))
              (subst (λ (x : Marked). Agree r key f lines (option_map (adopting r tells) (kept_of c m.kept)) (show r f x st)) one (adopting-agrees tells (kept_of c m.kept) st a))

-- ---- places

-- events change neither the key nor the view
did-view : (r : Rules) (deed : Deed) (command : Option Command) (m : Mind) → ((did r deed command m).view ≡ m.view) × ((did r deed command m).key ≡ m.key)
did-view r (deeds.Commanded step None) (Some (commands.Open g outcome)) m = (refl, refl)
did-view r (deeds.Commanded step None) (Some (Pay channel asset amount)) m = (refl, refl)
did-view r (deeds.Commanded step None) (Some (Close channel)) m = (refl, refl)
did-view r (deeds.Commanded step None) (Some (Release how channel)) m = (refl, refl)
did-view r (deeds.Commanded step None) (Some (Resend channel)) m = (refl, refl)
did-view r (deeds.Commanded step None) (Some (OpenOn o)) m = (refl, refl)
did-view r (deeds.Commanded step None) (Some (OpenVirtual v)) m = (refl, refl)
did-view r (deeds.Commanded step None) (Some Exit) m = (refl, refl)
did-view r (deeds.Commanded step None) None m = (refl, refl)
did-view r (deeds.Commanded step (Some refusal)) None m = (refl, refl)
did-view r (deeds.Commanded step (Some refusal)) (Some command) m = (refl, refl)
did-view r (deeds.Handled bytes None) command m = at (message_of bytes)
  where
    at : (o : Result Message ByteFault) → ((noted_message r o m).view ≡ m.view) × ((noted_message r o m).key ≡ m.key)
    at (Ok message) = (refl, refl)
    at (Err fault) = (refl, refl)
did-view r (deeds.Handled bytes (Some refusal)) command m = (refl, refl)
did-view r (deeds.Signed channel state signature) command m = (refl, refl)
did-view r (deeds.SignedChallenge channel state who signature) command m = (refl, refl)
did-view r (deeds.Called call) command m = (refl, refl)
did-view r (deeds.Watched watcher calls) command m = (refl, refl)

-- what is known after these entries, beside what is held of the channel
pub record Known (r : Rules) (key : List ℕ) (f : FixedParts) (lines : List Line) (past : List Entry) (m : Mind) (st : Option Marked) : Type 0 where
  pub own : m.key ≡ key
  pub view : StandsFor r past m.view
  pub agree : Agree r key f lines (kept_of (r.named f) m.kept) st

module _ (r : Rules) (key : List ℕ) (f : FixedParts) (lines : List Line) where
  slot-known : (k : ℕ) (past : List Entry) (front : List Told) (m : Mind) (st : Option Marked) → ((x : Told) → In x front → In (line_of key x) lines)
      → Known r key f lines past m st → Known r key f lines past (slot r k front m) (holding.slot r f k (lines_of key front) st)
  slot-known k past [] m st inside n = n
  slot-known k past (x ∷ front) m st inside n = go (x.seen == k) (slot-known k past front m st (λ y i. inside y (inr i)) n)
    where
      go : (b : Bool) → Known r key f lines past (slot r k front m) (holding.slot r f k (lines_of key front) st)
          → Known r key f lines past (cond b (did r x.deed x.command (slot r k front m)) (slot r k front m)) (cond b (note r f (line_of key x) (holding.slot r f k (lines_of key front) st)) (holding.slot r f k (lines_of key front) st))
      go false was = was
      go true was =
          let same = did-view r x.deed x.command (slot r k front m) in
          record {
            own = same.1 ∙ was.own;
            view = subst (StandsFor r past) (sym same.0) was.view;
            agree = did-agrees r key f lines x.seen x.deed x.command (slot r k front m) (holding.slot r f k (lines_of key front) st) was.own (inside x (inl refl)) was.agree;
          }

  at-place : (past : List Entry) (journal : List Told) → ((x : Told) → In x journal → In (line_of key x) lines) → Legal r past → AreFew past
      → Known r key f lines past (mind_at r key past journal) (held r f past (lines_of key journal))
  at-place [] journal inside legal few = slot-known 0 [] journal (fresh key) None inside (record { own = refl; view = unseen_stands r; agree = tt })
  at-place (e ∷ past) journal inside legal few =
      let before = at-place past journal inside legal.0 few.1 in
      let m : Mind = mind_at r key past journal in
      slot-known (suc (length past)) (e ∷ past) journal (saw r e m) (show r f (shown r (r.named f) past e) (held r f past (lines_of key journal))) inside
      (record {
        own = before.own;
        view = (following_keeps_standing r past e m.view legal before.view).stands few.0;
        agree = saw-agrees r key f lines past e m (held r f past (lines_of key journal)) legal before.view before.agree;
      })

inside-lines : (key : List ℕ) (journal : List Told) (x : Told) → In x journal → In (line_of key x) (lines_of key journal)
inside-lines key [] x i = absurd i
inside-lines key (y ∷ journal) x (inl e) = inl (ap (line_of key) e)
inside-lines key (y ∷ journal) x (inr i) = inr (inside-lines key journal x i)

-- at each place of a legal history
pub known : (r : Rules) (key : List ℕ) (f : FixedParts) (past : List Entry) (journal : List Told) → Legal r past → AreFew past
    → Known r key f (lines_of key journal) past (mind_at r key past journal) (held r f past (lines_of key journal))
known r key f past journal legal few = at-place r key f (lines_of key journal) past journal (inside-lines key journal) legal few

-- the beginning of a history of few people each
pub few-suffix : (later past : List Entry) → AreFew (later ++ past) → AreFew past
few-suffix [] past few = few
few-suffix (e ∷ later) past few = few-suffix later past few.1
