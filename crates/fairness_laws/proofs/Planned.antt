-- The channels of a node's parts are apart, and each goal is of a part: what events make of the plan.
use Rattle.std.proofs.Common.{◌≡◌, ℕ, ◌+◌, ◌<◌, Bool, true, false, cond, ◌||◌, not, List, [], ◌∷◌, ◌++◌, inl, inr, length, refl, sym, ◌∙◌, ap, subst, arith, length-append}
use Rattle.std.specs.Prelude.{◌==◌, ◌⊎◌, Option, Some, None, is_some, map, Ok, Err, Result}
use Rattle.std.specs.List.{list_all}
use Rattle.std.specs.Str.{bytes_eq}
use Rattle.channel_values.specs.declared.fault.ByteFault.{ByteFault}
use Rattle.channel_values.specs.Rules.{Rules}
use Rattle.call_history.specs.Flows.{is_among}
use Rattle.call_history.specs.Reading.{message_of}
use Rattle.call_history.specs.Spelling.{Message}
use Rattle.call_history.specs.declared.entry.Entry.{Entry}
use Rattle.call_history.specs.declared.event.Deed.{Deed}
use Rattle.call_history.specs.declared.event.Deed.TheVariants as deeds
use Rattle.call_history.proofs.Names.{same_bytes, bytes_eq_self}
use Rattle.channel_store.specs.Storing.{kept_of}
use Rattle.funding_plans.specs.Parts.{own_channel, channels_of, channels}
use Rattle.funding_plans.specs.declared.plan.Goal.{Goal}
use Rattle.funding_plans.specs.declared.plan.Part.{Part}
use Rattle.funding_plans.specs.declared.plan.Part.TheVariants.{Root, OnLedger, End, Middle}
use Rattle.channel_safety.specs.Journals.{In, is_followed}
use Rattle.channel_safety.proofs.Members.{In-append_cases, mapped}
use Rattle.network.specs.declared.command.Command.{Command}
use Rattle.network.specs.declared.command.Command.TheVariants as commands
use Rattle.channel_node.specs.Minds.{Mind, saw, noted_message, place_with, close_if, did}
use Rattle.channel_node.specs.Openings.{opened_by, takes_part, virtual, parts_of, goals_of, are_apart}
use Rattle.channel_node.specs.Places.{Told, mind_at}
use Rattle.channel_node.specs.Playing.{Signing, signings, pending, Allowed, Plays}
use Rattle.channel_node.specs.Refusing.{part_with, is_planned, are_new, open_refusal, close_part, release_part}
use Rattle.channel_node.specs.Tables.{Tables}
use Rattle.channel_safety.proofs.Tests.{and-left, and-right, and-both, clash}
use Rattle.channel_node.proofs.Places.{mind-event, mind-watched, mind-entry}
use Rattle.fairness_laws.proofs.Finding.{not-true, or-rest}
use Rattle.fairness_laws.proofs.Apart.{joined-apart, accepted-new}
use Rattle.fairness_laws.proofs.Over.{Seen, IsKept, over, looked}
use Rattle.network.specs.declared.command.Release.{Release}

-- ---- what an event makes of the plan

-- a part is told to close, or the participant lets go of it
abbrev pub IsShut : (lets : Bool) → Tables → Mind → Option Part → Type 0
IsShut false t m p = None ≡ close_part t m p
IsShut true t m p = (how : Release) × (None ≡ release_part t m how p)

-- nothing; or its command opens new channels; or it closes a part, or lets go of it
pub data Change (t : Tables) (r : Rules) (deed : Deed) (of : Option Command) (m new : Mind) : Type 0 where
  stays : new.parts ≡ m.parts → new.goals ≡ m.goals → Change t r deed of m new
  opens : (command : Command) → is_followed deed ≡ true → of ≡ Some command → None ≡ open_refusal t r m command → new.parts ≡ m.parts ++ parts_of r m.key command
      → new.goals ≡ m.goals ++ goals_of (length m.parts) command → Change t r deed of m new
  closes : (lets : Bool) (channel : List ℕ) → IsShut lets t m (part_with channel m.parts) → new.parts ≡ m.parts
      → new.goals ≡ map (λ goal. close_if lets (goal.part == place_with channel m.parts) goal) m.goals → Change t r deed of m new

pub event-changes : (t : Tables) (r : Rules) (s : Signing) (past : List Entry) (used : ℕ) (waits : Option Command) (deed : Deed) (command : Option Command) (m : Mind)
    → Allowed t r s past m used waits deed command → Change t r deed command m (did r deed command m)
event-changes t r s past used waits (deeds.Commanded step (Some refusal)) None m allowed = stays refl refl
event-changes t r s past used waits (deeds.Commanded step (Some refusal)) (Some command) m allowed = stays refl refl
event-changes t r s past used waits (deeds.Commanded step None) None m allowed = stays refl refl
event-changes t r s past used waits (deeds.Commanded step None) (Some (commands.Open f outcome)) m allowed =
    opens (commands.Open f outcome) refl refl allowed.1 refl refl
event-changes t r s past used waits (deeds.Commanded step None) (Some (commands.OpenOn o)) m allowed =
    opens (commands.OpenOn o) refl refl allowed.1 refl refl
event-changes t r s past used waits (deeds.Commanded step None) (Some (commands.OpenVirtual v)) m allowed =
    opens (commands.OpenVirtual v) refl refl allowed.1 refl refl
event-changes t r s past used waits (deeds.Commanded step None) (Some (commands.Pay channel asset amount)) m allowed = stays refl refl
event-changes t r s past used waits (deeds.Commanded step None) (Some (commands.Close channel)) m allowed = closes false channel allowed.1 refl refl
event-changes t r s past used waits (deeds.Commanded step None) (Some (commands.Release how channel)) m allowed = closes true channel (how, allowed.1) refl refl
event-changes t r s past used waits (deeds.Commanded step None) (Some (commands.Resend channel)) m allowed = stays refl refl
event-changes t r s past used waits (deeds.Commanded step None) (Some commands.Exit) m allowed = stays refl refl
event-changes t r s past used waits (deeds.Handled bytes None) command m allowed = at (message_of bytes)
  where
    at : (o : Result Message ByteFault) → Change t r (deeds.Handled bytes None) command m (noted_message r o m)
    at (Ok message) = stays refl refl
    at (Err fault) = stays refl refl
event-changes t r s past used waits (deeds.Handled bytes (Some refusal)) command m allowed = stays refl refl
event-changes t r s past used waits (deeds.Signed channel state signature) command m allowed = stays refl refl
event-changes t r s past used waits (deeds.SignedChallenge channel state who signature) command m allowed = stays refl refl
event-changes t r s past used waits (deeds.Called call) command m allowed = stays refl refl
event-changes t r s past used waits (deeds.Watched watcher calls) command m allowed = stays refl refl

-- ---- a plan

pub record Planned (m : Mind) : Type 0 where
  pub apart : are_apart (channels m.parts) ≡ true
  pub within : (g : Goal) → In g m.goals → g.part < length m.parts

same-plan : (m new : Mind) → new.parts ≡ m.parts → new.goals ≡ m.goals → Planned m → Planned new
same-plan m new parts goals p = record {
  apart = subst (λ (x : List Part). are_apart (channels x) ≡ true) (sym parts) p.apart;
  within = λ g i. subst (λ (x : List Part). g.part < length x) (sym parts) (p.within g (subst (In g) goals i));
}

-- the channels of the part of a command that opens
pub opened-channels : (r : Rules) (key : List ℕ) (command : Command) → channels (parts_of r key command) ≡ map r.named (opened_by command)
opened-channels r key (commands.Open f outcome) = refl
opened-channels r key (commands.OpenOn o) = refl
opened-channels r key (commands.OpenVirtual v) = go (takes_part key v.channel)
  where
    names : List (List ℕ)
    names = r.named v.guarantors.0 ∷ r.named v.guarantors.1 ∷ r.named v.joint ∷ r.named v.channel ∷ []

    go : (b : Bool) → channels (cond b (End (virtual r key v.ledgers v.guarantors v.joint v.channel v.asset v.amounts) ∷ []) (Middle (virtual r key v.ledgers v.guarantors v.joint v.channel v.asset v.amounts) ∷ [])) ≡ names
    go true = refl
    go false = refl
opened-channels r key (commands.Pay channel asset amount) = refl
opened-channels r key (commands.Close channel) = refl
opened-channels r key (commands.Release how channel) = refl
opened-channels r key (commands.Resend channel) = refl
opened-channels r key commands.Exit = refl

append-nothing-yet : (xs ys zs : List (List ℕ)) → xs ++ (ys ++ zs) ≡ (xs ++ ys) ++ zs
append-nothing-yet [] ys zs = refl
append-nothing-yet (x ∷ xs) ys zs = ap (λ (n : List (List ℕ)). x ∷ n) (append-nothing-yet xs ys zs)

pub channels-append : (xs ys : List Part) → channels (xs ++ ys) ≡ channels xs ++ channels ys
channels-append [] ys = refl
channels-append (x ∷ xs) ys = ap (λ (n : List (List ℕ)). channels_of x ++ n) (channels-append xs ys) ∙ append-nothing-yet (channels_of x) (channels xs) (channels ys)

-- names that aren't planned are none of the plan's
none-planned : (m : Mind) (names : List (List ℕ)) → list_all (λ name. not (is_planned m name)) names ≡ true → list_all (λ y. not (is_among y (channels m.parts))) names ≡ true
none-planned m [] e = refl
none-planned m (n ∷ names) e =
    and-both (not (is_among n (channels m.parts))) (list_all (λ y. not (is_among y (channels m.parts))) names)
    (ap not (or-rest (is_some (kept_of n m.kept)) (is_among n (channels m.parts)) (not-true (is_planned m n) (and-left (not (is_planned m n)) (list_all (λ name. not (is_planned m name)) names) e))))
    (none-planned m names (and-right (not (is_planned m n)) (list_all (λ name. not (is_planned m name)) names) e))

-- the goal of a command that opens is of its part, and not closing
pub record NewGoal (r : Rules) (key : List ℕ) (n : ℕ) (command : Command) (g : Goal) : Type 0 where
  pub place : g.part ≡ n
  pub fresh : g.closing ≡ false
  pub one : length (parts_of r key command) ≡ 1

pub new-goal : (r : Rules) (key : List ℕ) (n : ℕ) (command : Command) (g : Goal) → In g (goals_of n command) → NewGoal r key n command g
new-goal r key n (commands.Open f outcome) g (inl e) = record { place = ap (λ (x : Goal). x.part) e; fresh = ap (λ (x : Goal). x.closing) e; one = refl }
new-goal r key n (commands.Open f outcome) g (inr i) = absurd i
new-goal r key n (commands.OpenOn o) g (inl e) = record { place = ap (λ (x : Goal). x.part) e; fresh = ap (λ (x : Goal). x.closing) e; one = refl }
new-goal r key n (commands.OpenOn o) g (inr i) = absurd i
new-goal r key n (commands.OpenVirtual v) g (inl e) =
    record { place = ap (λ (x : Goal). x.part) e; fresh = ap (λ (x : Goal). x.closing) e; one = go (takes_part key v.channel) }
  where
    go : (b : Bool) → length (cond b (End (virtual r key v.ledgers v.guarantors v.joint v.channel v.asset v.amounts) ∷ []) (Middle (virtual r key v.ledgers v.guarantors v.joint v.channel v.asset v.amounts) ∷ [])) ≡ 1
    go true = refl
    go false = refl
new-goal r key n (commands.OpenVirtual v) g (inr i) = absurd i
new-goal r key n (commands.Pay channel asset amount) g i = absurd i
new-goal r key n (commands.Close channel) g i = absurd i
new-goal r key n (commands.Release how channel) g i = absurd i
new-goal r key n (commands.Resend channel) g i = absurd i
new-goal r key n commands.Exit g i = absurd i

opens-planned : (r : Rules) (m new : Mind) (command : Command) → are_new m (map r.named (opened_by command)) ≡ true → new.parts ≡ m.parts ++ parts_of r m.key command
    → new.goals ≡ m.goals ++ goals_of (length m.parts) command → Planned m → Planned new
opens-planned r m new command fresh parts goals p = record { apart = apart; within = λ g i. within g (In-append_cases g m.goals (goals_of (length m.parts) command) (subst (In g) goals i)) }
  where
    names : List (List ℕ)
    names = map r.named (opened_by command)

    apart : are_apart (channels new.parts) ≡ true
    apart =
        subst (λ (n : List (List ℕ)). are_apart n ≡ true)
        (sym (ap channels parts ∙ channels-append m.parts (parts_of r m.key command) ∙ ap (λ (n : List (List ℕ)). channels m.parts ++ n) (opened-channels r m.key command)))
        (joined-apart (channels m.parts) names p.apart (and-left (are_apart names) (list_all (λ name. not (is_planned m name)) names) fresh)
        (none-planned m names (and-right (are_apart names) (list_all (λ name. not (is_planned m name)) names) fresh)))

    long : length new.parts ≡ length m.parts + length (parts_of r m.key command)
    long = ap length parts ∙ length-append m.parts (parts_of r m.key command)

    within : (g : Goal) → In g m.goals ⊎ In g (goals_of (length m.parts) command) → g.part < length new.parts
    within g (inl i) = let w : g.part < length m.parts = p.within g i in below g.part (length m.parts) (length (parts_of r m.key command)) (length new.parts) w long
      where
        below : (a b c d : ℕ) → a < b → d ≡ b + c → a < d
        below a b c d w l = omega arith
    within g (inr i) = let n = new-goal r m.key (length m.parts) command g i in last g.part (length m.parts) (length (parts_of r m.key command)) (length new.parts) n.place n.one long
      where
        last : (a b c d : ℕ) → a ≡ b → c ≡ 1 → d ≡ b + c → a < d
        last a b c d w o l = omega arith

pub close-part : (lets b : Bool) (g : Goal) → (close_if lets b g).part ≡ g.part
close-part lets true g = refl
close-part lets false g = refl

closes-planned : (lets : Bool) (m new : Mind) (channel : List ℕ) → new.parts ≡ m.parts → new.goals ≡ map (λ goal. close_if lets (goal.part == place_with channel m.parts) goal) m.goals → Planned m → Planned new
closes-planned lets m new channel parts goals p = record {
  apart = subst (λ (x : List Part). are_apart (channels x) ≡ true) (sym parts) p.apart;
  within = λ g i. within g i;
}
  where
    within : (g : Goal) → In g new.goals → g.part < length new.parts
    within g i =
        let was = mapped (λ (goal : Goal). close_if lets (goal.part == place_with channel m.parts) goal) g m.goals (subst (In g) goals i) in
        let same : g.part ≡ was.from.part = ap (λ (x : Goal). x.part) was.is ∙ close-part lets (was.from.part == place_with channel m.parts) was.from in
        subst (λ (n : ℕ). n < length new.parts) (sym same) (subst (λ (x : List Part). was.from.part < length x) (sym parts) (p.within was.from was.there))

change-planned : (t : Tables) (r : Rules) (deed : Deed) (of : Option Command) (m new : Mind) → Change t r deed of m new → Planned m → Planned new
change-planned t r deed of m new (stays parts goals) p = same-plan m new parts goals p
change-planned t r deed of m new (opens command followed is accepted parts goals) p = opens-planned r m new command (accepted-new t r m command accepted) parts goals p
change-planned t r deed of m new (closes lets channel accepted parts goals) p = closes-planned lets m new channel parts goals p

-- ---- over the places

module _ (t : Tables) (r : Rules) (s : Signing) (h : List Entry) where
  abbrev IsPlan : List Entry → List Told → Type 0
  IsPlan past front = Planned (mind_at r s.key past front)

  no-plan : (past : List Entry) → IsPlan past []
  no-plan [] = record { apart = refl; within = λ g i. absurd i }
  no-plan (e ∷ past) = same-plan (mind_at r s.key past []) (saw r e (mind_at r s.key past [])) refl refl (no-plan past)

  plan-is-kept : (journal : List Told) → IsKept t r s h journal IsPlan
  plan-is-kept journal = record {
    first = no-plan;
    event = λ past x front at was. subst Planned (sym (mind-event r s.key past x front at.len))
        (change-planned t r x.deed x.command (mind_at r s.key past front) (did r x.deed x.command (mind_at r s.key past front))
        (event-changes t r s past (signings front) (pending front) x.deed x.command (mind_at r s.key past front) (at.event.place at.later past at.entries at.len).1) was);
    look = λ past x front w was. subst Planned (sym (mind-watched r s.key past x front (looked r x.deed x.command w))) was;
    entry = λ past e front seen was. subst Planned (sym (mind-entry r s.key past e front seen)) (same-plan (mind_at r s.key past front) (saw r e (mind_at r s.key past front)) refl refl was);
  }

  pub is-planned : (journal : List Told) → Plays t r s h journal → (later past : List Entry) → h ≡ later ++ past → Seen past journal → IsPlan past journal
  is-planned journal plays later past is seen = over t r s h journal IsPlan (plan-is-kept journal) [] journal refl plays later past is seen

-- ---- a channel is of one part

pub or-true : (a b : Bool) → b ≡ true → (a || b) ≡ true
or-true true b e = refl
or-true false b e = e

pub own-among : (p : Part) → is_among (own_channel p) (channels_of p) ≡ true
own-among (Root channel) = ap (λ (b : Bool). b || false) (bytes_eq_self channel)
own-among (OnLedger ledger channel) = ap (λ (b : Bool). b || false) (bytes_eq_self channel)
own-among (End v) =
    or-true (bytes_eq v.channel v.guarantor_a) _ (or-true (bytes_eq v.channel v.guarantor_b) _ (or-true (bytes_eq v.channel v.joint) _ (ap (λ (b : Bool). b || false) (bytes_eq_self v.channel))))
own-among (Middle v) =
    or-true (bytes_eq v.channel v.guarantor_a) _ (or-true (bytes_eq v.channel v.guarantor_b) _ (or-true (bytes_eq v.channel v.joint) _ (ap (λ (b : Bool). b || false) (bytes_eq_self v.channel))))

pub in-left : (c : List ℕ) (xs ys : List (List ℕ)) → is_among c xs ≡ true → is_among c (xs ++ ys) ≡ true
in-left c [] ys e = absurd cc
in-left c (x ∷ xs) ys e = go (bytes_eq c x) (in-left c xs ys) e
  where
    go : (b : Bool) → (is_among c xs ≡ true → is_among c (xs ++ ys) ≡ true) → (b || is_among c xs) ≡ true → (b || is_among c (xs ++ ys)) ≡ true
    go true rest e = refl
    go false rest e = rest e

in-right : (c : List ℕ) (xs ys : List (List ℕ)) → is_among c ys ≡ true → is_among c (xs ++ ys) ≡ true
in-right c [] ys e = e
in-right c (x ∷ xs) ys e = or-true (bytes_eq c x) (is_among c (xs ++ ys)) (in-right c xs ys e)

pub among-channels : (c : List ℕ) (parts : List Part) (p : Part) → In p parts → is_among c (channels_of p) ≡ true → is_among c (channels parts) ≡ true
among-channels c [] p i e = absurd i
among-channels c (x ∷ xs) p (inl same) e = in-left c (channels_of x) (channels xs) (ap (λ (q : Part). is_among c (channels_of q)) (sym same) ∙ e)
among-channels c (x ∷ xs) p (inr i) e = in-right c (channels_of x) (channels xs) (among-channels c xs p i e)

not-both : (c : List ℕ) (xs ys : List (List ℕ)) → are_apart (xs ++ ys) ≡ true → is_among c xs ≡ true → is_among c ys ≡ true → ⊥
not-both c [] ys apart e f = absurd cc
not-both c (x ∷ xs) ys apart e f = go (bytes_eq c x) refl (not-both c xs ys (and-right (not (is_among x (xs ++ ys))) (are_apart (xs ++ ys)) apart)) e
  where
    go : (b : Bool) → bytes_eq c x ≡ b → (is_among c xs ≡ true → is_among c ys ≡ true → ⊥) → (b || is_among c xs) ≡ true → ⊥
    go false is rest e = rest e f
    go true is rest e =
        clash (is_among x (xs ++ ys)) (in-right x xs ys (subst (λ (z : List ℕ). is_among z ys ≡ true) (same_bytes c x is) f))
        (not-true (is_among x (xs ++ ys)) (and-left (not (is_among x (xs ++ ys))) (are_apart (xs ++ ys)) apart))

apart-right : (xs ys : List (List ℕ)) → are_apart (xs ++ ys) ≡ true → are_apart ys ≡ true
apart-right [] ys e = e
apart-right (x ∷ xs) ys e = apart-right xs ys (and-right (not (is_among x (xs ++ ys))) (are_apart (xs ++ ys)) e)

pub one-part : (c : List ℕ) (parts : List Part) (p q : Part) → are_apart (channels parts) ≡ true → In p parts → In q parts → is_among c (channels_of p) ≡ true → is_among c (channels_of q) ≡ true → p ≡ q
one-part c [] p q apart i j e f = absurd i
one-part c (x ∷ xs) p q apart (inl a) (inl b) e f = a ∙ sym b
one-part c (x ∷ xs) p q apart (inl a) (inr j) e f =
    absurd (not-both c (channels_of x) (channels xs) apart (ap (λ (z : Part). is_among c (channels_of z)) (sym a) ∙ e) (among-channels c xs q j f))
one-part c (x ∷ xs) p q apart (inr i) (inl b) e f =
    absurd (not-both c (channels_of x) (channels xs) apart (ap (λ (z : Part). is_among c (channels_of z)) (sym b) ∙ f) (among-channels c xs p i e))
one-part c (x ∷ xs) p q apart (inr i) (inr j) e f = one-part c xs p q (apart-right (channels_of x) (channels xs) apart) i j e f

-- a part that is about the channel of a root is that root
pub root-is : (c : List ℕ) (parts : List Part) (q : Part) → are_apart (channels parts) ≡ true → In (Root c) parts → In q parts → bytes_eq (own_channel q) c ≡ true → q ≡ Root c
root-is c parts q apart i j same =
    one-part c parts q (Root c) apart j i (subst (λ (z : List ℕ). is_among z (channels_of q) ≡ true) (same_bytes (own_channel q) c same) (own-among q)) (own-among (Root c))
