-- Where a node was commanded to exit, it is paid what its person could get just after that.
use Rattle.std.proofs.Common.{◌≡◌, ℕ, ◌-◌, ◌≤◌, Bool, true, false, cond, ◌&&◌, ◌||◌, List, [], ◌∷◌, ◌++◌, inl, inr, length, drop, refl, sym, ◌∙◌, ap, subst, arith}
use Rattle.std.specs.Prelude.{Option, Some, None}
use Rattle.std.specs.List.{list_any}
use Rattle.std.specs.Option.{option_or}
use Rattle.std.proofs.Math.Seq.{drop-append_seam}
use Rattle.std.proofs.lemmas.List.{length-append, append_assoc, append_cancel_right, map-append}
use Rattle.channel_values.specs.Digests.{name_of_person}
use Rattle.call_history.specs.History.{Legal}
use Rattle.call_history.specs.declared.entry.Entry.{Entry}
use Rattle.call_history.specs.declared.event.Deed.{Deed}
use Rattle.call_history.specs.declared.event.Deed.TheVariants as deeds
use Rattle.channel_safety.proofs.Lists.{split_of, Suffix, suffix_of}
use Rattle.channel_safety.proofs.Tests.{none-eq, some-eq, clash}
use Rattle.channel_safety.proofs.Members.{In-append_right}
use Rattle.channel_safety.specs.Journals.{In, Line, is_followed, is_watched}
use Rattle.network.specs.declared.command.Command.{Command}
use Rattle.network.specs.declared.command.Command.TheVariants.{Open, OpenOn, OpenVirtual, Pay, Close, Release, Resend, Exit}
use Rattle.node_guarantees.specs.Keeping.{LeaversArePaid}
use Rattle.channel_node.proofs.Bridging.{In-lines, plays-at, plays-rises}
use Rattle.channel_node.proofs.Exits.{played_journals_leave_for_good}
use Rattle.channel_node.specs.Exits.{LeavesForGood, is_exit as is_exit_deed}
use Rattle.channel_node.specs.Places.{Told, lines_of}
use Rattle.channel_node.specs.Playing.{Signing, Plays, PlaysEvent}
use Rattle.node_guarantees.specs.Orders.{orders_of}
use Rattle.stage_tables.specs.Stages.{stages}
use Rattle.channel_node.specs.Exiting.{leaves_by, is_exit, until_exit}
use Rattle.share_laws.specs.Lines.{SignNothing}
use Rattle.share_laws.specs.Kept.{is_signing}
use Rattle.share_laws.specs.Places.{IsPlace}
use Rattle.support_rules.specs.Real.{real}
use Rattle.node_guarantees.specs.Promised.{past_at, IsPaidOnExit}

-- the events up to an exit are the last of the journal
pub record EndsWith (journal front : List Told) : Type 0 where
  pub newer : List Told
  pub newest : Told
  pub older : List Told
  pub whole : journal ≡ newer ++ front
  pub is : front ≡ newest ∷ older
  pub exits : is_exit newest ≡ true

pub ends-with : (journal front : List Told) → until_exit journal ≡ Some front → EndsWith journal front
ends-with [] front e = absurd (none-eq front e)
ends-with (x ∷ journal) front e = go (until_exit journal) refl (λ here. ends-with journal front here) (is_exit x) refl e
  where
    later : EndsWith journal front → EndsWith (x ∷ journal) front
    later w = record { newer = x ∷ w.newer; newest = w.newest; older = w.older; whole = ap (λ (xs : List Told). x ∷ xs) w.whole; is = w.is; exits = w.exits }

    first : is_exit x ≡ true → (x ∷ journal) ≡ front → EndsWith (x ∷ journal) front
    first exits same = record { newer = []; newest = x; older = journal; whole = same; is = sym same; exits = exits }

    go : (o : Option (List Told)) → until_exit journal ≡ o → (until_exit journal ≡ Some front → EndsWith journal front) → (b : Bool) → is_exit x ≡ b
        → option_or o (cond b (Some (x ∷ journal)) None) ≡ Some front → EndsWith (x ∷ journal) front
    go (Some f) here rest b exits same = later (rest (here ∙ same))
    go None here rest true exits same = first exits (some-eq (x ∷ journal) front same)
    go None here rest false exits same = absurd (none-eq front same)

-- an accepted command to exit, by its deed
exit-deed : (deed : Deed) (command : Option Command) → (is_followed deed && leaves_by command) ≡ true → is_exit_deed deed command ≡ true
exit-deed (deeds.Commanded step None) (Some Exit) e = refl
exit-deed (deeds.Commanded step None) (Some (Open f outcome)) e = absurd cc
exit-deed (deeds.Commanded step None) (Some (OpenOn o)) e = absurd cc
exit-deed (deeds.Commanded step None) (Some (OpenVirtual v)) e = absurd cc
exit-deed (deeds.Commanded step None) (Some (Pay channel asset amount)) e = absurd cc
exit-deed (deeds.Commanded step None) (Some (Close channel)) e = absurd cc
exit-deed (deeds.Commanded step None) (Some (Release how channel)) e = absurd cc
exit-deed (deeds.Commanded step None) (Some (Resend channel)) e = absurd cc
exit-deed (deeds.Commanded step None) None e = absurd cc
exit-deed (deeds.Commanded step (Some refusal)) command e = absurd cc
exit-deed (deeds.Handled bytes refusal) command e = absurd cc
exit-deed (deeds.Signed channel state signature) command e = absurd cc
exit-deed (deeds.SignedChallenge channel state who signature) command e = absurd cc
exit-deed (deeds.Called call) command e = absurd cc
exit-deed (deeds.Watched watcher calls) command e = absurd cc

no-look : (deed : Deed) (command : Option Command) → is_exit_deed deed command ≡ true → is_watched deed ≡ false
no-look (deeds.Commanded step refusal) command e = refl
no-look (deeds.Handled bytes refusal) command e = absurd cc
no-look (deeds.Signed channel state signature) command e = absurd cc
no-look (deeds.SignedChallenge channel state who signature) command e = absurd cc
no-look (deeds.Called call) command e = absurd cc
no-look (deeds.Watched watcher calls) command e = absurd cc

any-there : (test : Told → Bool) (before : List Told) (x : Told) (after : List Told) → test x ≡ true → list_any test (before ++ x ∷ after) ≡ true
any-there test [] x after t = ap (λ (b : Bool). b || list_any test after) t
any-there test (y ∷ before) x after t = go (test y) (any-there test before x after t)
  where
    go : (b : Bool) → list_any test (before ++ x ∷ after) ≡ true → (b || list_any test (before ++ x ∷ after)) ≡ true
    go true rest = refl
    go false rest = rest

module _ (s : Signing) (h : List Entry) (events : List Told) (legal : Legal real h) (plays : Plays stages real s h events) (front : List Told) (found : until_exit events ≡ Some front) where
  ends : EndsWith events front
  ends = ends-with events front found

  exits : is_exit_deed ends.newest.deed ends.newest.command ≡ true
  exits = exit-deed ends.newest.deed ends.newest.command ends.exits

  unseen : is_watched ends.newest.deed ≡ false
  unseen = no-look ends.newest.deed ends.newest.command exits

  split : events ≡ ends.newer ++ ends.newest ∷ ends.older
  split = ends.whole ∙ ap (λ (xs : List Told). ends.newer ++ xs) ends.is

  plays-so : Plays stages real s h (ends.newer ++ ends.newest ∷ ends.older)
  plays-so = subst (Plays stages real s h) split plays

  event : PlaysEvent stages real s h ends.newest ends.older
  event = plays-at stages real s h ends.newer ends.newest ends.older plays-so

  -- as many entries as the exit had seen
  past-is : (past later : List Entry) → h ≡ later ++ past → length past ≡ ends.newest.seen → past_at h front ≡ past
  past-is past later is seen =
      let long : length h - ends.newest.seen ≡ length later = omega (arith, ap length is, length-append later past, seen) in
      ap (past_at h) ends.is ∙ (ap (λ (n : ℕ). drop n h) long ∙ (ap (drop (length later)) is ∙ drop-append_seam later past))

  there : Suffix h ends.newest.seen
  there = suffix_of h ends.newest.seen event.within

  long : length (past_at h front) ≡ ends.newest.seen
  long = ap length (past-is there.past there.later there.is there.len) ∙ there.len

  lines-split : lines_of s.key events ≡ lines_of s.key ends.newer ++ lines_of s.key front
  lines-split = ap (lines_of s.key) ends.whole ∙ map-append _ ends.newer front

  before : (x : Line) → In x (lines_of s.key front) → is_watched x.deed ≡ false → x.seen ≤ length (past_at h front)
  before x i w =
      let z = In-lines s.key x front i in
      subst (λ (n : ℕ). x.seen ≤ n) (sym long)
      (subst (λ (y : Line). y.seen ≤ ends.newest.seen) (sym z.2)
      (of z.0 (subst (In z.0) ends.is z.1) (subst (λ (y : Line). is_watched y.deed ≡ false) z.2 w)))
    where
      of : (z : Told) → In z (ends.newest ∷ ends.older) → is_watched z.deed ≡ false → z.seen ≤ ends.newest.seen
      of z (inl same) q = let e : z.seen ≡ ends.newest.seen = ap (λ (y : Told). y.seen) same in omega (arith, e)
      of z (inr i) q = event.rising z i q

  after : (x : Line) → In x (lines_of s.key ends.newer) → is_watched x.deed ≡ false → length (past_at h front) ≤ x.seen
  after x i w =
      let z = In-lines s.key x ends.newer i in
      subst (λ (n : ℕ). n ≤ x.seen) (sym long)
      (subst (λ (y : Line). ends.newest.seen ≤ y.seen) (sym z.2) (plays-rises stages real s h ends.newer ends.newest ends.older plays-so unseen z.0 z.1))

  place : (later : List Entry) → h ≡ later ++ past_at h front → IsPlace h (lines_of s.key events) (past_at h front) (lines_of s.key front)
  place later is = record { later = later; newer = lines_of s.key ends.newer; entries = is; lines = lines-split; before = before; after = after }

  -- ---- nothing is signed after it

  staying : (z : Told) (later earlier : List Told) → ends.newer ≡ later ++ z ∷ earlier → is_signing z.deed ≡ false
  staying z later earlier is = go z.deed refl
    where
      whole : events ≡ later ++ z ∷ (earlier ++ ends.newest ∷ ends.older)
      whole = split ∙ ap (λ (xs : List Told). xs ++ ends.newest ∷ ends.older) is ∙ append_assoc later (z ∷ earlier) (ends.newest ∷ ends.older)

      good : LeavesForGood z (earlier ++ ends.newest ∷ ends.older)
      good = played_journals_leave_for_good stages real s h later z (earlier ++ ends.newest ∷ ends.older) legal (subst (Plays stages real s h) whole plays)

      any : list_any (λ (y : Told). is_exit_deed y.deed y.command) (earlier ++ ends.newest ∷ ends.older) ≡ true
      any = any-there (λ (y : Told). is_exit_deed y.deed y.command) earlier ends.newest ends.older exits

      go : (deed : Deed) → z.deed ≡ deed → is_signing deed ≡ false
      go (deeds.Signed channel state signature) e = absurd (clash _ any (good.states channel state signature e))
      go (deeds.Commanded step refusal) e = refl
      go (deeds.Handled bytes refusal) e = refl
      go (deeds.SignedChallenge channel state who signature) e = refl
      go (deeds.Called call) e = refl
      go (deeds.Watched watcher calls) e = refl

  sign-nothing : (newer rest : List Line) → lines_of s.key events ≡ rest ++ (newer ++ lines_of s.key front) → SignNothing newer
  sign-nothing newer rest is x i =
      let all : rest ++ newer ≡ lines_of s.key ends.newer =
      append_cancel_right (rest ++ newer) (lines_of s.key ends.newer) (lines_of s.key front)
      (append_assoc rest newer (lines_of s.key front) ∙ (sym is ∙ lines-split)) in
      let z = In-lines s.key x ends.newer (subst (In x) all (In-append_right x rest newer i)) in
      let sp = split_of z.0 ends.newer z.1 in
      subst (λ (y : Line). is_signing y.deed ≡ false) (sym z.2) (staying z.0 sp.newer sp.front sp.is)

-- so what it could get then is paid to it, where leavers are paid
pub paid_on_exit : (s : Signing) (h : List Entry) (events : List Told) → Legal real h → Plays stages real s h events
    → LeaversArePaid (name_of_person s.key) (orders_of real s.key events) h (lines_of s.key events) → IsPaidOnExit h s.key events
paid_on_exit s h events legal plays paid front found mid later newer is at final stand asset =
    paid (past_at h front) mid later (lines_of s.key front) newer
    (place s h events legal plays front found (later ++ mid) (is ∙ sym (append_assoc later mid (past_at h front)))) at
    (sign-nothing s h events legal plays front found newer at.newer at.lines) is final stand asset
