-- At the place of an event a node left exactly where an exit that was accepted stands before it; what it signs and
-- challenges with there.
use Rattle.std.proofs.Common.{◌≡◌, ℕ, suc, ◌≤◌, ◌==◌, Bool, true, false, cond, ◌&&◌, ◌||◌, List, [], ◌∷◌, ◌++◌, inl, inr, length, refl, sym, ◌∙◌, ap, arith}
use Rattle.std.specs.Prelude.{Option, Some, None, Result, Ok, Err}
use Rattle.std.specs.List.{list_any}
use Rattle.std.proofs.lemmas.Bool.{eq-eqb}
use Rattle.channel_values.specs.Parts.{StateParts}
use Rattle.channel_values.specs.declared.chain.Signed.{Signed}
use Rattle.channel_values.specs.declared.fault.ByteFault.{ByteFault}
use Rattle.channel_values.specs.Rules.{Rules, newest}
use Rattle.call_history.specs.Reading.{message_of}
use Rattle.call_history.specs.Spelling.{Message}
use Rattle.call_history.specs.declared.entry.Entry.{Entry}
use Rattle.call_history.specs.declared.event.Deed.{Deed}
use Rattle.call_history.specs.declared.event.Deed.TheVariants as deeds
use Rattle.channel_store.specs.Keeping.{is_held}
use Rattle.channel_store.specs.Storing.{kept_of}
use Rattle.channel_store.specs.declared.kept.Kept.{Kept}
use Rattle.channel_safety.proofs.Tests.{some-eq, none-eq, clash, and-left}
use Rattle.channel_safety.specs.Journals.{In, made_in, is_watched, is_challenge}
use Rattle.channel_node.specs.Leaving.{OwnChallenge, challenge_with, challenge_of, challenge_in}
use Rattle.channel_node.specs.Minds.{Mind, facts_of, fresh, saw, noted_message, did}
use Rattle.channel_node.specs.Places.{Told, slot, mind_at}
use Rattle.channel_node.specs.Playing.{Signing, Allowed, PlaysEvent}
use Rattle.channel_node.specs.Refusing.{is_open, stands_in, wish_staying, if_signable, signs_of, signs_in}
use Rattle.channel_node.specs.Tables.{Tables}
use Rattle.network.specs.declared.command.Command.{Command}
use Rattle.network.specs.declared.command.Command.TheVariants.{Open, OpenOn, OpenVirtual, Pay, Close, Release, Resend, Exit}
use Rattle.channel_node.specs.Exits.{is_exit}

-- ---- what the journal says

abbrev pub exits : Told → Bool
exits x = is_exit x.deed x.command

-- an exit that was accepted stands in these
abbrev pub exited : List Told → Bool
exited front = list_any (λ y. is_exit y.deed y.command) front

or-false : (a b : Bool) → a ≡ false → b ≡ false → (a || b) ≡ false
or-false true b e f = absurd cc
or-false false b e f = f

either-false : (a b : Bool) → (a || b) ≡ false → (a ≡ false) × (b ≡ false)
either-false true b e = absurd cc
either-false false b e = (refl, e)

or-true : (a b : Bool) → b ≡ true → (a || b) ≡ true
or-true true b e = refl
or-true false b e = e

pub exited-older : (newer : List Told) (x : Told) (front : List Told) → exited (newer ++ x ∷ front) ≡ false → exited front ≡ false
exited-older [] x front e = (either-false (exits x) (exited front) e).1
exited-older (y ∷ newer) x front e = exited-older newer x front (either-false (exits y) (exited (newer ++ x ∷ front)) e).1

record FoundExit (front : List Told) : Type 0 where
  x : Told
  there : In x front
  is : is_exit x.deed x.command ≡ true

found-exit : (front : List Told) → exited front ≡ true → FoundExit front
found-exit [] e = absurd cc
found-exit (x ∷ front) e = go (exits x) refl (found-exit front) e
  where
    go : (b : Bool) → exits x ≡ b → (exited front ≡ true → FoundExit front) → (b || exited front) ≡ true → FoundExit (x ∷ front)
    go true t rest e = record { x = x; there = inl refl; is = t }
    go false t rest e = let found = rest e in record { x = found.x; there = inr found.there; is = found.is }

exit-not_watched : (deed : Deed) (command : Option Command) → is_exit deed command ≡ true → is_watched deed ≡ false
exit-not_watched (deeds.Commanded step refusal) command e = refl
exit-not_watched (deeds.Handled bytes refusal) command e = refl
exit-not_watched (deeds.Signed channel state signature) command e = refl
exit-not_watched (deeds.SignedChallenge channel state who signature) command e = refl
exit-not_watched (deeds.Called call) command e = refl
exit-not_watched (deeds.Watched watcher calls) command e = absurd cc

-- ---- what is known

did-left : (r : Rules) (deed : Deed) (command : Option Command) (m : Mind) → (did r deed command m).left ≡ (is_exit deed command || m.left)
did-left r (deeds.Commanded step None) (Some (Open f outcome)) m = refl
did-left r (deeds.Commanded step None) (Some (OpenOn o)) m = refl
did-left r (deeds.Commanded step None) (Some (OpenVirtual v)) m = refl
did-left r (deeds.Commanded step None) (Some (Pay channel asset amount)) m = refl
did-left r (deeds.Commanded step None) (Some (Close channel)) m = refl
did-left r (deeds.Commanded step None) (Some (Release how channel)) m = refl
did-left r (deeds.Commanded step None) (Some (Resend channel)) m = refl
did-left r (deeds.Commanded step None) (Some Exit) m = refl
did-left r (deeds.Commanded step None) None m = refl
did-left r (deeds.Commanded step (Some refusal)) None m = refl
did-left r (deeds.Commanded step (Some refusal)) (Some command) m = refl
did-left r (deeds.Handled bytes None) command m = at (message_of bytes)
  where
    at : (o : Result Message ByteFault) → (noted_message r o m).left ≡ m.left
    at (Ok message) = refl
    at (Err fault) = refl
did-left r (deeds.Handled bytes (Some refusal)) command m = refl
did-left r (deeds.Signed channel state signature) command m = refl
did-left r (deeds.SignedChallenge channel state who signature) command m = refl
did-left r (deeds.Called call) command m = refl
did-left r (deeds.Watched watcher calls) command m = refl

-- without an exit it stays
slot-stays : (r : Rules) (k : ℕ) (front : List Told) (m : Mind) → exited front ≡ false → m.left ≡ false → (slot r k front m).left ≡ false
slot-stays r k [] m e l = l
slot-stays r k (x ∷ front) m e l = go (x.seen == k) (slot-stays r k front m (either-false (exits x) (exited front) e).1 l)
  where
    go : (b : Bool) → (slot r k front m).left ≡ false → (cond b (did r x.deed x.command (slot r k front m)) (slot r k front m)).left ≡ false
    go false rest = rest
    go true rest = did-left r x.deed x.command (slot r k front m) ∙ or-false (exits x) (slot r k front m).left (either-false (exits x) (exited front) e).0 rest

pub stays : (r : Rules) (key : List ℕ) (past : List Entry) (front : List Told) → exited front ≡ false → (mind_at r key past front).left ≡ false
stays r key [] front e = slot-stays r 0 front (fresh key) e refl
stays r key (entry ∷ past) front e = slot-stays r (suc (length past)) front (saw r entry (mind_at r key past front)) e (stays r key past front e)

-- once it left it is gone
slot-gone : (r : Rules) (k : ℕ) (front : List Told) (m : Mind) → m.left ≡ true → (slot r k front m).left ≡ true
slot-gone r k [] m l = l
slot-gone r k (x ∷ front) m l = go (x.seen == k) (slot-gone r k front m l)
  where
    go : (b : Bool) → (slot r k front m).left ≡ true → (cond b (did r x.deed x.command (slot r k front m)) (slot r k front m)).left ≡ true
    go false rest = rest
    go true rest = did-left r x.deed x.command (slot r k front m) ∙ or-true (exits x) (slot r k front m).left rest

slot-leaves : (r : Rules) (k : ℕ) (front : List Told) (m : Mind) (y : Told) → In y front → is_exit y.deed y.command ≡ true → (y.seen == k) ≡ true → (slot r k front m).left ≡ true
slot-leaves r k [] m y i exit here = absurd i
slot-leaves r k (x ∷ front) m y (inl same) exit here = go (x.seen == k) (sym (ap (λ (z : Told). z.seen == k) same) ∙ here)
  where
    go : (b : Bool) → b ≡ true → (cond b (did r x.deed x.command (slot r k front m)) (slot r k front m)).left ≡ true
    go true t = did-left r x.deed x.command (slot r k front m) ∙ ap (λ (b : Bool). b || (slot r k front m).left) (sym (ap exits same) ∙ exit)
    go false t = absurd cc
slot-leaves r k (x ∷ front) m y (inr i) exit here = go (x.seen == k) (slot-leaves r k front m y i exit here)
  where
    go : (b : Bool) → (slot r k front m).left ≡ true → (cond b (did r x.deed x.command (slot r k front m)) (slot r k front m)).left ≡ true
    go false rest = rest
    go true rest = did-left r x.deed x.command (slot r k front m) ∙ or-true (exits x) (slot r k front m).left rest

gone : (r : Rules) (key : List ℕ) (past : List Entry) (front : List Told) (y : Told) → In y front → is_exit y.deed y.command ≡ true → y.seen ≤ length past → (mind_at r key past front).left ≡ true
gone r key [] front y i exit l = slot-leaves r 0 front (fresh key) y i exit (eq-eqb y.seen 0 (omega arith))
gone r key (entry ∷ past) front y i exit l = go (y.seen == suc (length past)) refl (gone r key past front y i exit)
  where
    before : Mind
    before = saw r entry (mind_at r key past front)

    go : (b : Bool) → (y.seen == suc (length past)) ≡ b → (y.seen ≤ length past → (mind_at r key past front).left ≡ true) → (slot r (suc (length past)) front before).left ≡ true
    go true here rest = slot-leaves r (suc (length past)) front before y i exit here
    go false later rest = slot-gone r (suc (length past)) front before (rest (earlier y.seen (length past) l later))
      where
        earlier : (a b : ℕ) → a ≤ suc b → (a == suc b) ≡ false → a ≤ b
        earlier a b l e = grind arith

-- at the place of an event
pub left-is : (ts : Tables) (r : Rules) (s : Signing) (h : List Entry) (x : Told) (front : List Told) → PlaysEvent ts r s h x front → (past : List Entry) → length past ≡ x.seen
    → (mind_at r s.key past front).left ≡ exited front
left-is ts r s h x front ev past len = go (exited front) refl
  where
    go : (b : Bool) → exited front ≡ b → (mind_at r s.key past front).left ≡ b
    go false e = stays r s.key past front e
    go true e =
        let found = found-exit front e in
        let l : found.x.seen ≤ x.seen = ev.rising found.x found.there (exit-not_watched found.x.deed found.x.command found.is) in
        gone r s.key past front found.x found.there found.is (omega arith)

-- ---- what is signed

pub signs-staying : (ts : Tables) (r : Rules) (waits : Option Command) (m : Mind) (channel : List ℕ) (state : StateParts) → signs_in ts r waits m channel ≡ Some state → m.left ≡ false
signs-staying ts r waits m channel state e = at (kept_of channel m.kept) e
  where
    at : (o : Option Kept) → signs_of ts r waits m channel o ≡ Some state → m.left ≡ false
    at None e = absurd (none-eq state e)
    at (Some k) e = go m.left e
      where
        go : (b : Bool) → if_signable r (facts_of m) channel k (cond b None (wish_staying ts waits m channel k)) ≡ Some state → b ≡ false
        go true e = absurd (none-eq state e)
        go false e = refl

pub challenges-left : (m : Mind) (channel : List ℕ) (c : OwnChallenge) → challenge_in m channel ≡ Some c → m.left ≡ true
challenges-left m channel c e = go m.left e
  where
    go : (b : Bool) → cond b (challenge_of m channel (kept_of channel m.kept)) None ≡ Some c → b ≡ true
    go true e = refl
    go false e = absurd (none-eq c e)

-- it challenges with a chain that it holds, and that ends with the state
pub record FromHeld (m : Mind) (channel : List ℕ) (c : OwnChallenge) : Type 0 where
  pub k : Kept
  pub is : kept_of channel m.kept ≡ Some k
  pub full : is_held k ≡ true
  pub chain : c.chain ≡ k.chain
  pub ends : newest k.chain.states ≡ Some c.state

pub from-held : (m : Mind) (channel : List ℕ) (c : OwnChallenge) → challenge_in m channel ≡ Some c → FromHeld m channel c
from-held m channel c e = go m.left e
  where
    with-kept : (o : Option Kept) → kept_of channel m.kept ≡ o → challenge_of m channel o ≡ Some c → FromHeld m channel c
    with-kept None is e = absurd (none-eq c e)
    with-kept (Some k) is e = test (is_held k && is_open (stands_in (facts_of m) channel)) refl e
      where
        ending : is_held k ≡ true → (o : Option StateParts) → newest k.chain.states ≡ o → challenge_with k o ≡ Some c → FromHeld m channel c
        ending full None ends e = absurd (none-eq c e)
        ending full (Some state) ends e =
            let same = some-eq (record { chain = k.chain; state = state; who = k.me }) c e in
            record { k = k; is = is; full = full; chain = sym (ap (λ (z : OwnChallenge). z.chain) same); ends = ends ∙ ap (λ (z : OwnChallenge). Some z.state) same }

        test : (b : Bool) → (is_held k && is_open (stands_in (facts_of m) channel)) ≡ b → cond b (challenge_with k (newest k.chain.states)) None ≡ Some c → FromHeld m channel c
        test false t e = absurd (none-eq c e)
        test true t e = ending (and-left (is_held k) (is_open (stands_in (facts_of m) channel)) t) (newest k.chain.states) refl e

    go : (b : Bool) → cond b (challenge_of m channel (kept_of channel m.kept)) None ≡ Some c → FromHeld m channel c
    go true e = with-kept (kept_of channel m.kept) refl e
    go false e = absurd (none-eq c e)

-- a state is signed by one that stays, and a challenge by one that left
pub made-staying : (ts : Tables) (r : Rules) (s : Signing) (past : List Entry) (m : Mind) (used : ℕ) (waits : Option Command) (channel : List ℕ) (deed : Deed) (command : Option Command) (t : Signed)
    → Allowed ts r s past m used waits deed command → made_in channel deed ≡ Some t → m.left ≡ false
made-staying ts r s past m used waits channel (deeds.Signed name state signature) command t allowed e = signs-staying ts r waits m name state allowed.0
made-staying ts r s past m used waits channel (deeds.Commanded step refusal) command t allowed e = absurd (none-eq t e)
made-staying ts r s past m used waits channel (deeds.Handled bytes refusal) command t allowed e = absurd (none-eq t e)
made-staying ts r s past m used waits channel (deeds.SignedChallenge name state who signature) command t allowed e = absurd (none-eq t e)
made-staying ts r s past m used waits channel (deeds.Called call) command t allowed e = absurd (none-eq t e)
made-staying ts r s past m used waits channel (deeds.Watched watcher calls) command t allowed e = absurd (none-eq t e)

pub no-challenge : (ts : Tables) (r : Rules) (s : Signing) (past : List Entry) (m : Mind) (used : ℕ) (waits : Option Command) (deed : Deed) (command : Option Command)
    → Allowed ts r s past m used waits deed command → m.left ≡ false → is_challenge deed ≡ false
no-challenge ts r s past m used waits (deeds.SignedChallenge channel state who signature) command allowed stays =
    absurd (clash m.left (challenges-left m channel allowed.1.0 allowed.1.1) stays)
no-challenge ts r s past m used waits (deeds.Commanded step refusal) command allowed stays = refl
no-challenge ts r s past m used waits (deeds.Handled bytes refusal) command allowed stays = refl
no-challenge ts r s past m used waits (deeds.Signed name state signature) command allowed stays = refl
no-challenge ts r s past m used waits (deeds.Called call) command allowed stays = refl
no-challenge ts r s past m used waits (deeds.Watched watcher calls) command allowed stays = refl
