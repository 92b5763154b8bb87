-- A race stays one.
use Rattle.std.proofs.Common.{◌≡◌, ℕ, zero, suc, ◌+◌, ◌^◌, ◌<◌, ◌≤◌, ◌⊎◌, inl, inr, Bool, false, List, [], ◌∷◌, ◌++◌, length, map, replicate, reverse, drop, refl, sym, ap, ◌∙◌, subst, arith, length-append, length-drop, append_assoc, append-nil}
use Rattle.std.proofs.lemmas.List.{reverse-append, length-reverse, length-replicate}
use Rattle.std.proofs.lemmas.Bool.Decides.{nat_tests}
use Rattle.std.specs.Prelude.{Option, Some, None, Result, Ok, nat_lt}
use mathlib.Core.Option.{some, some-injective}
use lib.ListN.{get_elem?}
use Rattle.call_history.specs.History.{newest_first, Legal, now_of, or_before, time_set, reply_to}
use Rattle.call_history.specs.Refusing.{told as told_as, refuse_if}
use Rattle.call_history.specs.Replies as replies
use Rattle.call_history.specs.declared.refusal.Refusal.{Refusal}
use Rattle.call_history.specs.declared.refusal.Refusal.TheVariants.{Backwards, TooLate}
use Rattle.call_history.specs.declared.refusal.Reply.TheVariants.{Now}
use Rattle.call_history.specs.declared.call.Call.{Call}
use Rattle.call_history.specs.declared.call.Op.{Op}
use Rattle.call_history.specs.declared.call.Op.TheVariants as ops
use Rattle.call_history.specs.declared.entry.Entry.{Entry}
use Rattle.call_history.specs.declared.event.Event.{Event}
use Rattle.shared_object.specs.History.{StartsWith}
use Rattle.shared_object.proofs.Sums.{starts_trans, legal_more}
use Rattle.adjudicator.specs.Shared.{entry_after}
use Rattle.adjudicator.proofs.SharedSteps.{shared_legal}
use Rattle.channel_safety.specs.Journals.{In, Line}
use Rattle.network.specs.Ways.{Ways, unlooking}
use Rattle.network.specs.Histories.{IsFresh}
use Rattle.network.specs.declared.command.Command.{Command}
use Rattle.network.specs.declared.lookout.Lookout.{Lookout}
use Rattle.network.specs.Members.{MemberOf, sees, told}
use Rattle.channel_safety.specs.Races.{IsRaced, AreTicks, over}
use Rattle.channel_safety.specs.Growing.{AreTimeless, HaveSeen, GainsRound}
use Rattle.channel_safety.proofs.Grows.{goes_on, round_ends, rounds_pass}
use Rattle.network.proofs.Watching.{stands_fresh}
use Rattle.lms_signatures.specs.Signing.{Signing}
use Rattle.support_rules.specs.Real.{real}
use Rattle.network.specs.Standing.{AreKept, Follows}
use Rattle.network_rounds.specs.Members.{HaveFollowed}
use Rattle.network_rounds.specs.Rounds.{CrewOf}
use Rattle.network_rounds.specs.Working.{IsHistory, Given}
use Rattle.network_rounds.specs.Crews.{IsMember, IsCrew}
use Rattle.network_rounds.specs.Journals.{event_of, Wrote, WritesJournals}
use Rattle.network_rounds.specs.Laws.{RacesStay}
use Rattle.network_rounds.specs.Races.{Stage, entered_on, next_time, with_nodes, Goes, enters, tells, follows, turns, joins, rounds, Race, IsRacer, IsRacing}
use Rattle.network_rounds.specs.Told.{NodeRan, StandOnce, all_of, Round}
use Rattle.network_rounds.proofs.Kept.{longer-is, Match, match_of, sees-kept, told-kept, later-kept, ran-many, rounds_keep}
use Rattle.network_rounds.proofs.Lines.{Gained, node_gains, comes-next, in-append, in-reverse, in-map}
use Rattle.network_rounds.proofs.Phases.{found_once}

-- ---- what the driver enters

abbrev pub entry_on : List Entry → Op → Entry
entry_on seen op = record { number = suc (length seen); by = 0; op = op; reply = reply_to real (newest_first seen) op }

pub on-front : (seen : List Entry) (op : Op) → newest_first (entered_on seen op) ≡ entry_on seen op ∷ newest_first seen
on-front seen op = reverse-append seen (entry_on seen op ∷ [])

on-starts : (seen : List Entry) (op : Op) → StartsWith (entered_on seen op) seen
on-starts seen op = (entry_on seen op ∷ [], refl)

on-legal : (seen : List Entry) (op : Op) → IsHistory seen → IsHistory (entered_on seen op)
on-legal seen op l =
    legal_more (entry_after real) seen (entry_on seen op) 0 op l (ap (λ (n : ℕ). record { number = n; by = 0; op = op; reply = reply_to real (newest_first seen) op }) (omega arith))

not-less : (a b : ℕ) → b ≤ a → nat_lt a b ≡ false
not-less a b le = grind (arith, nat_tests)

accepted : (now t : ℕ) → now ≤ t → t ≤ 2 ^ 62 → replies.time now t ≡ Ok t
accepted now t a b =
    ap (λ (x : Bool). refuse_if x (Backwards now) (refuse_if (nat_lt (2 ^ 62) t) TooLate (Ok t))) (not-less t now a)
    ∙ ap (λ (x : Bool). refuse_if x TooLate (Ok t)) (not-less (2 ^ 62) t b)

pub time-set : (h : List Entry) → now_of h + 1 ≤ 2 ^ 62 → time_set (ops.Time (now_of h + 1)) (reply_to real h (ops.Time (now_of h + 1))) ≡ Some (now_of h + 1)
unfolding reply_to
time-set h low = ap (λ (o : Result ℕ Refusal). time_set (ops.Time (now_of h + 1)) (told_as Now o)) (accepted (now_of h) (now_of h + 1) (omega arith) low)

-- in a race each time is one later, so the time is at most the number of entries
pub now-low : (h : List Entry) (ends : List ℕ) → AreTicks h ends → now_of h ≤ length h
now-low [] ends ticks = omega arith
now-low (e ∷ past) ends ticks =
    go (time_set e.op e.reply) refl (now-low past ends (λ later older x time split sets. ticks (e ∷ later) older x time (ap (λ (l : List Entry). e ∷ l) split) sets))
  where
    go : (o : Option ℕ) → time_set e.op e.reply ≡ o → now_of past ≤ length past → or_before o (now_of past) ≤ length (e ∷ past)
    go None is low = omega (arith, low)
    go (Some t) is low = let k = (ticks [] past e t refl is).1 in omega (arith, low, k)

-- ---- new entries of a round set no time

record Place {A : Type 0} (xs : List A) (x : A) : Type 0 where
  place : ℕ
  at : get_elem? xs place ≡ some x
  low : place < length xs

place_of : {A : Type 0} (xs : List A) (x : A) → In x xs → Place xs x
place_of [] x i = absurd i
place_of (y ∷ xs) x (inl e) = record { place = 0; at = ap some (sym e); low = omega arith }
place_of (y ∷ xs) x (inr i) = let p = place_of xs x i in record { place = suc p.place; at = p.at; low = (let a = p.low in omega (arith, a)) }

at-behind : {A : Type 0} (h rest : List A) (k i : ℕ) (x : A) → i ≡ length h + k → get_elem? rest k ≡ some x → get_elem? (h ++ rest) i ≡ some x
at-behind [] rest k i x e a = ap (λ (n : ℕ). get_elem? rest n) (omega (arith, e)) ∙ a
at-behind (y ∷ h) rest k zero x e a = absurd (omega (arith, e))
at-behind (y ∷ h) rest k (suc i) x e a = at-behind h rest k i x (omega (arith, e)) a

pub no-time : (h later : List Entry) (s : StartsWith later h) (gave : List Given) → StandOnce h later gave → AreTimeless (reverse s.0)
no-time h later s gave stands e i =
    let p = place_of s.0 e (in-reverse e s.0 i) in
    let at : get_elem? later (length h + p.place) ≡ some e = ap (λ (l : List Entry). get_elem? l (length h + p.place)) s.1 ∙ at-behind h s.0 p.place (length h + p.place) e refl p.at in
    let low = p.low in
    let t = found_once h later gave stands (suc (length h + p.place)) (omega arith) (omega (arith, ap length s.1, length-append h s.0, low)) in
    let there = t.entered.there in
    let same : there.place ≡ length h + p.place = omega (arith, there.number_is) in
    let is : there.entry ≡ e = some-injective there.entry e (sym there.at ∙ (ap (λ (n : ℕ). get_elem? later n) same ∙ at)) in
    let op : e.op ≡ ops.Call t.given.call = ap (λ (x : Entry). x.op) (sym is) ∙ there.keeps in
    ap (λ (o : Op). time_set o e.reply) op

-- ---- races

ended : (g more back : List Entry) (journal gained : List Line) (ends : List ℕ) (e : Entry) → back ≡ more ++ g → IsRaced g journal ends → AreTimeless more → GainsRound (length g) back gained
    → time_set e.op e.reply ≡ Some (now_of back + 1) → IsRaced (e ∷ back) (gained ++ journal) (length back ∷ ends)
ended g more back journal gained ends e is raced none gains sets =
    subst (λ (l : List Entry). IsRaced (e ∷ l) (gained ++ journal) (length l ∷ ends)) (sym is)
    (round_ends g more journal gained ends e raced none (subst (λ (l : List Entry). GainsRound (length g) l gained) is gains)
    (subst (λ (l : List Entry). time_set e.op e.reply ≡ Some (now_of l + 1)) is sets))

passed : (g more back : List Entry) (ends : List ℕ) (e : Entry) → back ≡ more ++ g → IsRaced g [] ends → AreTimeless more
    → time_set e.op e.reply ≡ Some (now_of back + 1) → IsRaced (e ∷ back) [] (length back ∷ ends)
passed g more back ends e is raced none sets =
    subst (λ (l : List Entry). IsRaced (e ∷ l) [] (length l ∷ ends)) (sym is)
    (rounds_pass g more ends e raced none (subst (λ (l : List Entry). time_set e.op e.reply ≡ Some (now_of l + 1)) is sets))

none-gained : (n : ℕ) → HaveSeen n []
none-gained n x i = absurd i

module _ {P : Type 0} (ways : Ways P) (stands : List Entry → P → Type 0) (lost : P → Bool) (kept : AreKept ways stands) (writes : WritesJournals ways lost) where
  entered-crew : (crew : CrewOf P) (seen : List Entry) (op : Op) → IsCrew stands seen crew → IsCrew stands (entered_on seen op) crew
  entered-crew crew seen op is =
      let legal = on-legal seen op is.legal in
      record {
        legal = legal;
        nodes = λ m i. later-kept ways stands kept seen (entered_on seen op) m (on-starts seen op) (shared_legal real (entered_on seen op) legal) (is.nodes m i);
        notes = λ x i. starts_trans (entered_on seen op) seen x.notes (on-starts seen op) (is.notes x i);
      }

  -- ---- the driver enters a call

  one-call : (call : Call) (e : Entry) → e.op ≡ ops.Call call → AreTimeless (e ∷ [])
  one-call call e is x (inl same) = ap (λ (y : Entry). time_set y.op y.reply) same ∙ ap (λ (o : Op). time_set o e.reply) is
  one-call call e is x (inr none) = absurd none

  enters-call : (s : Stage P) (call : Call) → IsRacing ways stands lost s → IsRacing ways stands lost (record s { seen = entered_on s.seen (ops.Call call) })
  enters-call s call is = record {
    crew = entered-crew s.crew s.seen (ops.Call call) is.crew;
    ticks = subst (λ (l : List Entry). IsRaced l [] s.ends) (sym (on-front s.seen (ops.Call call)))
        (goes_on (newest_first s.seen) (entry_on s.seen (ops.Call call) ∷ []) [] [] s.ends is.ticks (one-call call (entry_on s.seen (ops.Call call)) refl) (none-gained (over s.ends)));
    racers = λ m i. let r = is.racers m i in record {
      well = r.well;
      watched = r.watched;
      raced = subst (λ (l : List Entry). IsRaced l (ways.lines m.node) s.ends) (sym (on-front s.seen (ops.Call call)))
          (goes_on (newest_first s.seen) (entry_on s.seen (ops.Call call) ∷ []) (ways.lines m.node) [] s.ends r.raced (one-call call (entry_on s.seen (ops.Call call)) refl) (none-gained (over s.ends)));
    };
  }

  -- ---- a node is given a command

  in-middle : (x m m' : MemberOf P) (front back : List (MemberOf P)) → In x (front ++ m' ∷ back) → (x ≡ m') ⊎ In x (front ++ m ∷ back)
  in-middle x m m' [] back (inl e) = inl e
  in-middle x m m' [] back (inr i) = inr (inr i)
  in-middle x m m' (y ∷ front) back (inl e) = inr (inl e)
  in-middle x m m' (y ∷ front) back (inr i) = go (in-middle x m m' front back i)
    where
      go : (x ≡ m') ⊎ In x (front ++ m ∷ back) → (x ≡ m') ⊎ In x (y ∷ (front ++ m ∷ back))
      go (inl e) = inl e
      go (inr j) = inr (inr j)

  in-there : (m : MemberOf P) (front back : List (MemberOf P)) → In m (front ++ m ∷ back)
  in-there m [] back = inl refl
  in-there m (y ∷ front) back = inr (in-there m front back)

  -- it sees what the driver has seen, and nothing is written
  record Saw (s : Stage P) (m : MemberOf P) : Type 0 where
    wrote : Wrote ways lost [] m.node (sees ways s.seen m).node
    count : ways.seen (sees ways s.seen m).node ≡ length s.seen
    member : IsMember stands (newest_first s.seen) (sees ways s.seen m)

  saw-all : (s : Stage P) (m : MemberOf P) → IsMember stands (newest_first s.seen) m → IsHistory s.seen → lost m.node ≡ false → Saw s m
  saw-all s m is legal well = record { wrote = saw.0; count = omega (arith, saw.1, length-drop (ways.seen m.node) s.seen, low); member = member }
    where
      legal' : Legal real (newest_first s.seen)
      legal' = shared_legal real s.seen legal

      low : ways.seen m.node ≤ length s.seen
      low = omega (arith, kept.within (newest_first s.seen) m.node is.node, length-reverse s.seen)

      saw : Wrote ways lost [] m.node (sees ways s.seen m).node × (ways.seen (sees ways s.seen m).node ≡ ways.seen m.node + length (drop (ways.seen m.node) s.seen))
      saw = writes.saw (newest_first s.seen) (drop (ways.seen m.node) s.seen) m.node legal' (comes-next s.seen (ways.seen m.node) low) well

      member : IsMember stands (newest_first s.seen) (sees ways s.seen m)
      member =
          let k = sees-kept ways stands kept s.seen m legal' (record { node = is.node; watchers = is.watchers }) in
          record { node = k.node; watchers = k.watchers; few = is.few }

  no-event : (x : Line) (gained : List Line) → map event_of gained ≡ reverse [] → In x gained → ⊥
  no-event x gained are i = in-reverse (event_of x) [] (subst (λ (l : List Event). In (event_of x) l) are (in-map event_of x gained i))

  seen-of : (s : Stage P) (m : MemberOf P) → IsMember stands (newest_first s.seen) m → IsHistory s.seen → IsRacer ways lost s m
      → IsMember stands (newest_first s.seen) (sees ways s.seen m) × IsRacer ways lost s (sees ways s.seen m)
  seen-of s m is legal r =
      let saw = saw-all s m is legal r.well in (
        saw.member,
        record {
          well = saw.wrote.well;
          watched = r.watched;
          raced = subst (λ (l : List Line). IsRaced (newest_first s.seen) l s.ends) (sym saw.wrote.lines)
              (goes_on (newest_first s.seen) [] (ways.lines m.node) saw.wrote.gained s.ends r.raced (λ x i. absurd i) (λ x i. absurd (no-event x saw.wrote.gained saw.wrote.are i)));
        },
      )

  told-of : (s : Stage P) (m : MemberOf P) (step : ℕ) (command : Command) → IsMember stands (newest_first s.seen) m → IsHistory s.seen → IsRacer ways lost s m
      → IsMember stands (newest_first s.seen) (told ways step command (sees ways s.seen m)) × IsRacer ways lost s (told ways step command (sees ways s.seen m))
  told-of s m step command is legal r = (member, record { well = asked.1.well; watched = r.watched; raced = raced })
    where
      legal' : Legal real (newest_first s.seen)
      legal' = shared_legal real s.seen legal

      low : ways.seen m.node ≤ length s.seen
      low = omega (arith, kept.within (newest_first s.seen) m.node is.node, length-reverse s.seen)

      saw : Wrote ways lost [] m.node (sees ways s.seen m).node × (ways.seen (sees ways s.seen m).node ≡ ways.seen m.node + length (drop (ways.seen m.node) s.seen))
      saw = writes.saw (newest_first s.seen) (drop (ways.seen m.node) s.seen) m.node legal' (comes-next s.seen (ways.seen m.node) low) r.well

      asked : (events : List Event) × Wrote ways lost events (sees ways s.seen m).node (told ways step command (sees ways s.seen m)).node
          × (ways.seen (told ways step command (sees ways s.seen m)).node ≡ ways.seen (sees ways s.seen m).node) × ((x : Event) → In x events → x.seen ≡ ways.seen (sees ways s.seen m).node)
      asked = writes.commanded step command (sees ways s.seen m).node saw.0.well

      count : ways.seen (sees ways s.seen m).node ≡ length s.seen
      count = omega (arith, saw.1, length-drop (ways.seen m.node) s.seen, low)

      member : IsMember stands (newest_first s.seen) (told ways step command (sees ways s.seen m))
      member =
          let seen_ = sees-kept ways stands kept s.seen m legal' (record { node = is.node; watchers = is.watchers }) in
          told-kept ways stands kept s.seen m (ways.commanded step command (sees ways s.seen m).node) is
          (kept.commanded (newest_first s.seen) step command (sees ways s.seen m).node legal' seen_.node)

      gained : List Line
      gained = asked.1.gained ++ saw.0.gained

      of : (x : Line) → In x asked.1.gained ⊎ In x saw.0.gained → x.seen ≡ length s.seen
      of x (inl i) = asked.3 (event_of x) (in-reverse (event_of x) asked.0 (subst (λ (l : List Event). In (event_of x) l) asked.1.are (in-map event_of x asked.1.gained i))) ∙ count
      of x (inr i) = absurd (in-reverse (event_of x) [] (subst (λ (l : List Event). In (event_of x) l) saw.0.are (in-map event_of x saw.0.gained i)))

      has_seen : HaveSeen (over s.ends) gained
      has_seen x i = let e = of x (in-append x asked.1.gained saw.0.gained i) in omega (arith, e, r.raced.over_by_now, length-reverse s.seen)

      lines : ways.lines (told ways step command (sees ways s.seen m)).node ≡ gained ++ ways.lines m.node
      lines = asked.1.lines ∙ (ap (λ (l : List Line). asked.1.gained ++ l) saw.0.lines ∙ sym (append_assoc asked.1.gained saw.0.gained (ways.lines m.node)))

      raced : IsRaced (newest_first s.seen) (ways.lines (told ways step command (sees ways s.seen m)).node) s.ends
      raced = subst (λ (l : List Line). IsRaced (newest_first s.seen) l s.ends) (sym lines) (goes_on (newest_first s.seen) [] (ways.lines m.node) gained s.ends r.raced (λ x i. absurd i) has_seen)

  -- one node in place of another, which races too
  node-changed : (s : Stage P) (front back : List (MemberOf P)) (m m' : MemberOf P) → s.crew.nodes ≡ front ++ m ∷ back
      → IsMember stands (newest_first s.seen) m' × IsRacer ways lost s m' → IsRacing ways stands lost s → IsRacing ways stands lost (with_nodes s (front ++ m' ∷ back))
  node-changed s front back m m' at races is = record {
    crew = record { legal = is.crew.legal; nodes = λ x i. (of x (in-middle x m m' front back i)).0; notes = is.crew.notes };
    ticks = is.ticks;
    racers = λ x i. let r = (of x (in-middle x m m' front back i)).1 in record { well = r.well; watched = r.watched; raced = r.raced };
  }
    where
      of : (x : MemberOf P) → (x ≡ m') ⊎ In x (front ++ m ∷ back) → IsMember stands (newest_first s.seen) x × IsRacer ways lost s x
      of x (inl e) = subst (λ (y : MemberOf P). IsMember stands (newest_first s.seen) y × IsRacer ways lost s y) (sym e) races
      of x (inr i) = let j = subst (λ (l : List (MemberOf P)). In x l) (sym at) i in (is.crew.nodes x j, is.racers x j)

  at-front : (s : Stage P) (front back : List (MemberOf P)) (m : MemberOf P) → s.crew.nodes ≡ front ++ m ∷ back → In m s.crew.nodes
  at-front s front back m at = subst (λ (l : List (MemberOf P)). In m l) (sym at) (in-there m front back)

  tells-node : (s : Stage P) (front back : List (MemberOf P)) (m : MemberOf P) (step : ℕ) (command : Command) → s.crew.nodes ≡ front ++ m ∷ back → IsRacing ways stands lost s
      → IsRacing ways stands lost (with_nodes s (front ++ told ways step command (sees ways s.seen m) ∷ back))
  tells-node s front back m step command at is =
      let i = at-front s front back m at in
      node-changed s front back m _ at (told-of s m step command (is.crew.nodes m i) is.crew.legal (is.racers m i)) is

  follows-node : (s : Stage P) (front back : List (MemberOf P)) (m : MemberOf P) → s.crew.nodes ≡ front ++ m ∷ back → IsRacing ways stands lost s
      → IsRacing ways stands lost (with_nodes s (front ++ sees ways s.seen m ∷ back))
  follows-node s front back m at is =
      let i = at-front s front back m at in
      node-changed s front back m _ at (seen-of s m (is.crew.nodes m i) is.crew.legal (is.racers m i)) is

  -- ---- a round, and its time

  pub have-followed : (h : List Entry) (m : MemberOf P) → IsMember stands (newest_first h) m → HaveFollowed h m.watchers
  have-followed h m is l i = let f = is.watchers l i in omega (arith, ap length f.is, length-append f.later f.past, f.count, length-reverse h)

  runs-round : (s : Stage P) (later : List Entry) (after : CrewOf P) → Round ways s.crew after s.seen later → length later < 2 ^ 32 → IsRacing ways stands lost s
      → IsRacing ways stands lost (record { crew = after; seen = entered_on later (ops.Time (next_time later)); ends = length later ∷ s.ends })
  runs-round s later after round most is = record { crew = entered-crew after later op crew; ticks = ticks; racers = racers }
    where
      op : Op
      op = ops.Time (next_time later)

      crew : IsCrew stands later after
      crew = rounds_keep ways stands s.crew after s.seen later kept is.crew round

      none : AreTimeless (reverse round.grows.0)
      none = no-time s.seen later round.grows (all_of round.gave ++ all_of round.called) round.entered

      few : now_of (newest_first later) + 1 ≤ 2 ^ 62
      few =
          let gone = goes_on (newest_first s.seen) (reverse round.grows.0) [] [] s.ends is.ticks none (none-gained (over s.ends)) in
          let low = subst (λ (l : List Entry). now_of l ≤ length l) (sym (longer-is s.seen later round.grows)) (now-low (reverse round.grows.0 ++ newest_first s.seen) s.ends gone.ticks) in
          omega (arith, low, most, length-reverse later)

      ticks : IsRaced (newest_first (entered_on later op)) [] (length later ∷ s.ends)
      ticks =
          subst (λ (l : List Entry). IsRaced l [] (length later ∷ s.ends)) (sym (on-front later op))
          (subst (λ (n : ℕ). IsRaced (entry_on later op ∷ newest_first later) [] (n ∷ s.ends)) (length-reverse later)
          (passed (newest_first s.seen) (reverse round.grows.0) (newest_first later) s.ends (entry_on later op) (longer-is s.seen later round.grows) is.ticks none (time-set (newest_first later) few)))

      racers : (m : MemberOf P) → In m after.nodes → IsRacer ways lost (record { crew = after; seen = entered_on later op; ends = length later ∷ s.ends }) m
      racers m i = record { well = gained.well; watched = (let a = r.watched in omega (arith, a, ran-many ways stands kept s.crew.post s.seen later f.x m f.z f.w f.holds)); raced = raced }
        where
          f : Match (NodeRan ways s.crew.post s.seen later) s.crew.nodes m
          f = match_of (NodeRan ways s.crew.post s.seen later) s.crew.nodes after.nodes round.sent round.gave m round.nodes i

          r : IsRacer ways lost s f.x
          r = is.racers f.x f.there

          member : IsMember stands (newest_first s.seen) f.x
          member = is.crew.nodes f.x f.there

          gained : Gained ways lost writes s.seen later f.x.node m.node
          gained = node_gains ways lost writes s.seen later s.crew.post f.x m f.z f.w f.holds r.watched (shared_legal real later crew.legal) r.well
              (omega (arith, kept.within (newest_first s.seen) f.x.node member.node, length-reverse s.seen)) (have-followed s.seen f.x member)

          one : IsRaced (entry_on later op ∷ newest_first later) (gained.gained ++ ways.lines f.x.node) (length (newest_first later) ∷ s.ends)
          one = ended (newest_first s.seen) (reverse round.grows.0) (newest_first later) (ways.lines f.x.node) gained.gained s.ends (entry_on later op)
              (longer-is s.seen later round.grows) r.raced none
              (subst (λ (n : ℕ). GainsRound n (newest_first later) gained.gained) (sym (length-reverse s.seen)) gained.round) (time-set (newest_first later) few)

          raced : IsRaced (newest_first (entered_on later op)) (ways.lines m.node) (length later ∷ s.ends)
          raced =
              subst (λ (l : List Entry). IsRaced l (ways.lines m.node) (length later ∷ s.ends)) (sym (on-front later op))
              (subst (λ (l : List Line). IsRaced (entry_on later op ∷ newest_first later) l (length later ∷ s.ends)) (sym gained.lines)
              (subst (λ (n : ℕ). IsRaced (entry_on later op ∷ newest_first later) (gained.gained ++ ways.lines f.x.node) (n ∷ s.ends)) (length-reverse later) one))

  -- ---- a node joins

  all-new : (n : ℕ) (l : Lookout) → In l (replicate n unlooking) → l ≡ unlooking
  all-new zero l i = absurd i
  all-new (suc n) l (inl e) = e
  all-new (suc n) l (inr i) = all-new n l i

  new-follows : (h : List Entry) → Follows h unlooking
  new-follows h = record { later = h; past = []; is = sym (append-nil h); count = refl; stands = stands_fresh real }

  in-last : (x m : MemberOf P) (xs : List (MemberOf P)) → In x (xs ++ m ∷ []) → In x xs ⊎ (x ≡ m)
  in-last x m [] (inl e) = inr e
  in-last x m [] (inr i) = absurd i
  in-last x m (y ∷ xs) (inl e) = inl (inl e)
  in-last x m (y ∷ xs) (inr i) = go (in-last x m xs i)
    where
      go : In x xs ⊎ (x ≡ m) → In x (y ∷ xs) ⊎ (x ≡ m)
      go (inl j) = inl (inr j)
      go (inr e) = inr e

  joins-race : (s : Stage P) (number : ℕ) (signer : Signing) (watchers : ℕ) → IsFresh signer → 0 < watchers → watchers < 2 ^ 32 → IsRacing ways stands lost s
      → IsRacing ways stands lost (with_nodes s (s.crew.nodes ++ record { node = ways.fresh number signer; watchers = replicate watchers unlooking } ∷ []))
  joins-race s number signer watchers fresh any few is = record {
    crew = record { legal = is.crew.legal; nodes = λ x i. (of x (in-last x new s.crew.nodes i)).0; notes = is.crew.notes };
    ticks = is.ticks;
    racers = λ x i. let r = (of x (in-last x new s.crew.nodes i)).1 in record { well = r.well; watched = r.watched; raced = r.raced };
  }
    where
      new : MemberOf P
      new = record { node = ways.fresh number signer; watchers = replicate watchers unlooking }

      w : (lost (ways.fresh number signer) ≡ false) × (ways.lines (ways.fresh number signer) ≡ []) × (ways.seen (ways.fresh number signer) ≡ 0)
      w = writes.fresh number signer

      member : IsMember stands (newest_first s.seen) new
      member = record {
        node = kept.fresh (newest_first s.seen) number signer fresh;
        watchers = λ l i. subst (λ (k : Lookout). Follows (newest_first s.seen) k) (sym (all-new watchers l i)) (new-follows (newest_first s.seen));
        few = omega (arith, few, length-replicate watchers unlooking);
      }

      racer : IsRacer ways lost s new
      racer = record { well = w.0; watched = omega (arith, any, length-replicate watchers unlooking); raced = subst (λ (l : List Line). IsRaced (newest_first s.seen) l s.ends) (sym w.1) is.ticks }

      of : (x : MemberOf P) → In x s.crew.nodes ⊎ (x ≡ new) → IsMember stands (newest_first s.seen) x × IsRacer ways lost s x
      of x (inl i) = (is.crew.nodes x i, is.racers x i)
      of x (inr e) = subst (λ (y : MemberOf P). IsMember stands (newest_first s.seen) y × IsRacer ways lost s y) (sym e) (member, racer)

  -- ---- a step

  stays-one : (s t : Stage P) → IsRacing ways stands lost s → Goes ways s t → IsRacing ways stands lost t
  stays-one s t is (enters call e) = subst (IsRacing ways stands lost) (sym e) (enters-call s call is)
  stays-one s t is (tells front back m step command at e) = subst (IsRacing ways stands lost) (sym e) (tells-node s front back m step command at is)
  stays-one s t is (follows front back m at e) = subst (IsRacing ways stands lost) (sym e) (follows-node s front back m at is)
  stays-one s t is (turns cast post notes e) =
      subst (IsRacing ways stands lost) (sym e)
      (record {
        crew = record { legal = is.crew.legal; nodes = is.crew.nodes; notes = notes };
        ticks = is.ticks;
        racers = λ m i. let r = is.racers m i in record { well = r.well; watched = r.watched; raced = r.raced };
      })
  stays-one s t is (joins number signer watchers fresh any few e) = subst (IsRacing ways stands lost) (sym e) (joins-race s number signer watchers fresh any few is)
  stays-one s t is (rounds later after round most e) = subst (IsRacing ways stands lost) (sym e) (runs-round s later after round most is)

  stays : (steps : List (Stage P)) (s t : Stage P) → IsRacing ways stands lost s → Race ways steps s t → IsRacing ways stands lost t
  stays [] s t is e = subst (IsRacing ways stands lost) (sym e) is
  stays (mid ∷ steps) s t is (one, more) = stays steps mid t (stays-one s mid is one) more

pub races_stay : {P : Type 0} (ways : Ways P) (stands : List Entry → P → Type 0) → RacesStay ways stands
races_stay ways stands lost kept writes steps s t is race = stays ways stands lost kept writes steps s t is race
