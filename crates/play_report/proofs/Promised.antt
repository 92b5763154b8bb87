-- A report that is made of what the nodes of a play say describes the play and keeps its promises.
use Rattle.std.proofs.Common.{◌≡◌, ℕ, Bool, true, false, cond, List, [], ◌∷◌, ◌++◌, map, flat_map, length, reverse, filter, refl, sym, ◌∙◌, ap, subst, ◌⊎◌, inl, inr}
use Rattle.std.specs.Prelude.{All, Option, Some, None}
use Rattle.std.specs.List.{AllByRecursion}
use Rattle.std.proofs.lemmas.List.{length-reverse}
use Rattle.channel_values.specs.Parts.{FixedParts}
use Rattle.channel_values.specs.Collisions.{NoneCollide}
use Rattle.channel_values.specs.Digests.{name_of_person, person_string}
use Rattle.call_history.specs.History.{Legal, flows_of, newest_first}
use Rattle.call_history.specs.declared.entry.Entry.{Entry}
use Rattle.asset_holder.specs.Receipts.{assets_of}
use Rattle.funding_plans.specs.Known.{FactsOf}
use Rattle.channel_safety.proofs.Members.{In-map, In-flat_map, joined}
use Rattle.channel_safety.specs.Hashed.{of_fixed, hashed}
use Rattle.channel_safety.specs.Honest.{Honest}
use Rattle.channel_safety.specs.Journals.{In, Line, lines, opened, is_followed}
use Rattle.channel_safety.specs.Premises.{Unforged, InTime}
use Rattle.channel_safety.specs.Occurring.{AreValid}
use Rattle.channel_safety.specs.Valid.{IsValidEntry, IsValidEvent}
use Rattle.network.specs.Ways.{Ways}
use Rattle.network.specs.declared.command.Command.{Command}
use Rattle.network.specs.Members.{MemberOf}
use Rattle.network.proofs.Real.{network-safe, network-cleared}
use Rattle.network.proofs.Valid.{events-valid}
use Rattle.channel_node.specs.Named.{named_by, named_in}
use Rattle.channel_node.proofs.Bridging.{In-lines}
use Rattle.channel_node.specs.Openings.{adds, opened_by, takes_part}
use Rattle.channel_node.specs.Places.{Told, told_by, line_of, lines_of}
use Rattle.channel_node.specs.Exiting.{until_exit}
use Rattle.script_play.proofs.Played.{plays_are_kept, plays_follow_commands}
use Rattle.premises.proofs.Distincts.{suffices}
use Rattle.premises.specs.Collision.{DistinctWith}
use Rattle.premises.specs.Telling.{strings_opened}
use Rattle.premises.specs.declared.journal.Journal.{Journal}
use Rattle.run_record.specs.declared.run_record.Ending.{Ending}
use Rattle.node_guarantees.specs.Challenges.{CallsOwnChallenges}
use Rattle.node_guarantees.specs.Endings.{facts_at_end, ending_of, EndsWell}
use Rattle.report_text.specs.declared.report.Judged.{Judged}
use Rattle.report_text.specs.declared.report.Load.{Load}
use Rattle.report_text.specs.declared.report.Report.{Report}
use Rattle.report_text.specs.declared.report.Share.{Share}
use Rattle.step_meanings.specs.Commands.{command_of}
use Rattle.script_play.specs.Play.{SceneOf, play}
use Rattle.script_steps.specs.Bounds.{Fits}
use Rattle.script_steps.specs.declared.step.Step.{Step}
use Rattle.support_rules.specs.Real.{real}
use Rattle.node_guarantees.specs.Promised.{Pairwise, share_at_end, share_after, IsHonest, StaysSafe, FewChallengesAreCleared, SignsFairly, KeepsShare, IsPaidOnExit}
use Rattle.node_guarantees.proofs.Once.{is_honest}
use Rattle.node_guarantees.specs.Telling.{AreTold, HaveFixed, LinesAreTold, IsToldBy, TellsCommands, amount_then, AreThose, SharesAreReal, ExitsAreReal, FactsAreReal, ChallengesAreOwn, JournalsAreByRules, KeepsIf, KeepsShares}
use Rattle.network.specs.Standing.{AreKept, IsWorld}
use Rattle.play_report.proofs.Lines.{adds_in, lines_told, adds_fixed}
use Rattle.play_report.proofs.Pairs.{all_reverse, in_all}
use Rattle.play_report.specs.Members.{IsMade}
use Rattle.play_report.specs.Reported.{IsJudged, AreJudged, shares_of, exits_after, journal_of, events, Tells, IsSafeIf, ClearsFewIf, IsFairIf, EndsWellIf, IsInTimeIf, Premised, Promises, IsPlayed}
use Rattle.play_report.specs.Shares.{HasFollowed, exits_for, exits_if, known_shares, known_exits, known_amounts, known_ending}

-- ---- the fixed parts that a journal opens are among those that its accepted commands name

in-filter : {A : Type 0} (test : A → Bool) (x : A) (xs : List A) → In x (filter test xs) → In x xs
in-filter test x [] i = absurd i
in-filter test x (y ∷ ys) i = go (test y) i (in-filter test x ys)
  where
    go : (b : Bool) → In x (cond b (y ∷ filter test ys) (filter test ys)) → (In x (filter test ys) → In x ys) → In x (y ∷ ys)
    go true (inl e) later = inl e
    go true (inr j) later = inr (later j)
    go false j later = inr (later j)

-- what a command adds for somebody is among what it opens
pub by_command : (key : List ℕ) (o : Option Command) (f : FixedParts) → In f (adds key o) → In f (named_by o)
by_command key None f j = j
by_command key (Some command) f j = in-filter (takes_part key) f (opened_by command) j

opened-named : (key : List ℕ) (events : List Told) (s : List ℕ) → In s (strings_opened (lines_of key events)) → In s (flat_map of_fixed (named_in events))
opened-named key events s i =
    let line = joined (λ (y : Line). flat_map of_fixed (opened y)) s (lines_of key events) i in
    let event = In-lines key line.from events line.there in
    let part = joined of_fixed s (opened line.from) line.is in
    In-flat_map of_fixed s part.from (named_in events)
    (In-flat_map (λ (x : Told). cond (is_followed x.deed) (named_by x.command) []) part.from event.0 events event.1
    (named event.0 part.from (subst (λ (y : Line). In part.from (opened y)) event.2 part.there))) part.is
  where
    named : (x : Told) (f : FixedParts) → In f (opened (line_of key x)) → In f (cond (is_followed x.deed) (named_by x.command) [])
    named x f j = go (is_followed x.deed) j
      where
        go : (b : Bool) → In f (cond b (adds key x.command) []) → In f (cond b (named_by x.command) [])
        go true k = by_command key x.command f k
        go false k = k

-- ---- shares

shares-same : (key : List ℕ) (some other : ℕ → ℕ) (assets : List ℕ) → ((asset : ℕ) → some asset ≡ other asset) → shares_of key some assets ≡ shares_of key other assets
shares-same key some other [] same = refl
shares-same key some other (asset ∷ assets) same =
    λ i. record { person = name_of_person key; asset = asset; amount = same asset i } ∷ shares-same key some other assets same i

exits-same : (key : List ℕ) (assets : List ℕ) (share : List Told → ℕ → ℕ) (amounts : Option (List (ℕ × ℕ))) (front : Option (List Told)) → AreThose share amounts front
    → exits_if (name_of_person key) assets amounts ≡ exits_after share key assets front
exits-same key assets share None None those = refl
exits-same key assets share (Some amounts) (Some front) those = shares-same key (amount_then amounts) (share front) assets those
exits-same key assets share None (Some front) those = absurd those
exits-same key assets share (Some amounts) None those = absurd those

-- how it ended, by what it knows and its shares
ending-with : (person : List ℕ) (assets : List ℕ) → FactsOf → (ℕ → ℕ) → Ending
ending-with person assets f share = record { person = person; plan = f.plan; known = f.known; chains = f.chains; shares = map {B = ℕ × ℕ} (λ (asset : ℕ). (asset, share asset)) assets }

amounts-same : (some other : ℕ → ℕ) (assets : List ℕ) → ((asset : ℕ) → some asset ≡ other asset) → map {B = ℕ × ℕ} (λ (asset : ℕ). (asset, some asset)) assets ≡ map {B = ℕ × ℕ} (λ (asset : ℕ). (asset, other asset)) assets
amounts-same some other [] same = refl
amounts-same some other (asset ∷ assets) same = λ i. (asset, same asset i) ∷ amounts-same some other assets same i

-- what each node says is what its journal says
of-each : {A B C : Type 0} (f : A → List C) (g : B → List C) (j : A → B) (members : List A) → ((m : A) → In m members → f m ≡ g (j m)) → flat_map f members ≡ flat_map g (map j members)
of-each f g j [] same = refl
of-each f g j (m ∷ members) same = λ i. same m (inl refl) i ++ of-each f g j members (λ n k. same n (inr k)) i

of-one : {A B C : Type 0} (f : A → C) (g : B → C) (j : A → B) (members : List A) → ((m : A) → In m members → f m ≡ g (j m)) → map f members ≡ map g (map j members)
of-one f g j [] same = refl
of-one f g j (m ∷ members) same = λ i. same m (inl refl) i ∷ of-one f g j members (λ n k. same n (inr k)) i

-- ---- each person with what is told of it

each-judged : {A B : Type 0} (R Q : A → B → Type 0) (xs : List A) (ys : List B) → ((x : A) (y : B) → In x xs → R x y → Q x y) → Pairwise R xs ys → Pairwise Q xs ys
each-judged R Q [] [] each all = tt
each-judged R Q [] (y ∷ ys) each all = absurd all
each-judged R Q (x ∷ xs) [] each all = absurd all
each-judged R Q (x ∷ xs) (y ∷ ys) each all = (each x y (inl refl) all.0, each-judged R Q xs ys (λ a b i. each a b (inr i)) all.1)

record FromMember {P : Type 0} (ways : Ways P) (members : List (MemberOf P)) (j : Journal) : Type 0 where
  member : MemberOf P
  there : In member members
  is : j ≡ journal_of ways member

from-member : {P : Type 0} (ways : Ways P) (members : List (MemberOf P)) (j : Journal) → In j (map (journal_of ways) members) → FromMember ways members j
from-member ways [] j i = absurd i
from-member ways (m ∷ members) j (inl e) = record { member = m; there = inl refl; is = e }
from-member ways (m ∷ members) j (inr i) = let f = from-member ways members j i in record { member = f.member; there = inr f.there; is = f.is }

-- ---- the report

module _ {P : Type 0} (ways : Ways P) (stands : List Entry → P → Type 0) (lost : P → Bool) (shares : P → ℕ → ℕ) (exits : P → Option (List (ℕ × ℕ))) (facts : P → FactsOf) (told : P → List Told)
    (kept : AreKept ways stands) (tells : (p : P) → AreTold (ways.lines p) (reverse (ways.journal p))) (opens : LinesAreTold ways told)
    (gets : SharesAreReal ways stands lost shares told) (got : ExitsAreReal ways stands lost exits told) (knows : FactsAreReal ways stands lost facts told) (rules : JournalsAreByRules ways stands told) (holds : KeepsShares ways stands told)
    (command : ℕ → Option Command) (scene : SceneOf P) (world : IsWorld stands scene.world) (by : (m : MemberOf P) → In m scene.world.members → told m.node ≡ events command (journal_of ways m))
    (owns : ChallengesAreOwn ways stands lost told)
    (load : Option Load) (r : Report) (made : IsMade ways lost shares exits facts load r scene) where
  abbrev past : List Entry
  past = newest_first r.history

  legal : Legal real past
  legal = subst (Legal real) (sym made.history) world.legal

  valid : AllByRecursion IsValidEntry past
  valid = all_reverse IsValidEntry r.history made.entries

  stood : (m : MemberOf P) → In m scene.world.members → stands past m.node
  stood m i = subst (λ (h : List Entry). stands h m.node) (sym made.history) (world.nodes m i)

  followed : (m : MemberOf P) → In m scene.world.members → HasFollowed ways lost (length past) m.node
  followed m i =
      subst (λ (n : ℕ). HasFollowed ways lost n m.node) (sym (length-reverse r.history))
      (in_all (λ (n : MemberOf P). HasFollowed ways lost (length r.history) n.node) m scene.world.members made.followed i)

  -- ---- it describes the scene

  abbrev assets : List ℕ
  assets = assets_of (flows_of r.history)

  share-same : (m : MemberOf P) → In m scene.world.members
      → known_shares ways shares assets m.node ≡ shares_of (ways.key m.node) (share_at_end past (ways.key m.node) (events command (journal_of ways m))) assets
  share-same m i =
      let f : HasFollowed ways lost (length past) m.node = followed m i in
      shares-same (ways.key m.node) (shares m.node) (share_at_end past (ways.key m.node) (told m.node)) assets
      (gets past m.node legal valid (stood m i) f.able f.seen)
      ∙ ap (λ (xs : List Told). shares_of (ways.key m.node) (share_at_end past (ways.key m.node) xs) assets) (by m i)

  exit-same : (m : MemberOf P) → In m scene.world.members
      → known_exits ways exits assets m.node
      ≡ exits_after (share_after past (ways.key m.node) (events command (journal_of ways m))) (ways.key m.node) assets (until_exit (events command (journal_of ways m)))
  exit-same m i =
      exits-same (ways.key m.node) assets (share_after past (ways.key m.node) (told m.node)) (exits m.node) (until_exit (told m.node))
      (got past m.node legal valid (stood m i) (followed m i).able)
      ∙ ap (λ (xs : List Told). exits_after (share_after past (ways.key m.node) xs) (ways.key m.node) assets (until_exit xs)) (by m i)

  end-same : (m : MemberOf P) → In m scene.world.members → known_ending ways facts shares assets m.node ≡ ending_of r.history (ways.key m.node) (events command (journal_of ways m))
  unfolding ending-with
  end-same m i =
      let f : HasFollowed ways lost (length past) m.node = followed m i in
      ap (λ (x : FactsOf). ending-with (name_of_person (ways.key m.node)) assets x (shares m.node)) (knows r.history m.node legal valid (stood m i) f.able f.seen)
      ∙ ap (λ (xs : List (ℕ × ℕ)). record (ending_of r.history (ways.key m.node) (told m.node)) { shares = xs })
      (amounts-same (shares m.node) (share_at_end past (ways.key m.node) (told m.node)) assets (gets past m.node legal valid (stood m i) f.able f.seen))
      ∙ ap (ending_of r.history (ways.key m.node)) (by m i)

  pub tells_scene : Tells command ways load r scene
  tells_scene = record {
    history = made.history;
    journals = made.journals;
    rounds = made.rounds;
    labels = made.labels;
    judged = made.judged;
    shares =
        made.shares ∙ of-each (λ (m : MemberOf P). known_shares ways shares assets m.node) each-share (journal_of ways) scene.world.members share-same
        ∙ ap (flat_map each-share) (sym made.journals);
    exits =
        made.exits ∙ of-each (λ (m : MemberOf P). known_exits ways exits assets m.node) each-exit (journal_of ways) scene.world.members exit-same
        ∙ ap (flat_map each-exit) (sym made.journals);
    ends =
        made.ends ∙ of-one (λ (m : MemberOf P). known_ending ways facts shares assets m.node) each-end (journal_of ways) scene.world.members end-same
        ∙ ap (map each-end) (sym made.journals);
    sums = made.sums;
    noted = made.noted;
  }
    where
      each-end : Journal → Ending
      each-end j = ending_of r.history j.key (events command j)

      each-share : Journal → List Share
      each-share j = shares_of j.key (share_at_end past j.key (events command j)) assets

      each-exit : Journal → List Share
      each-exit j = exits_after (share_after past j.key (events command j)) j.key assets (until_exit (events command j))

  -- ---- one person

  module _ (m : MemberOf P) (there : In m scene.world.members) where
    abbrev key : List ℕ
    key = ways.key m.node

    abbrev own : List Told
    own = told m.node

    in-journals : In (journal_of ways m) r.journals
    in-journals = subst (In (journal_of ways m)) (sym made.journals) (In-map (journal_of ways) m scene.world.members there)

    -- the lines by what they add
    added : ℕ → List FixedParts
    added = adds_in (ways.lines m.node)

    lines-are : lines added (reverse (ways.journal m.node)) ≡ lines_of key own
    unfolding added
    lines-are = lines_told (ways.lines m.node) (reverse (ways.journal m.node)) (tells m.node) ∙ opens m.node

    honest : Honest real key past (lines_of key own)
    honest = subst (Honest real key past) (opens m.node) (kept.honest past m.node legal valid (stood m there))

    values : AreValid past (lines_of key own)
    unfolding added
    values =
        subst (AreValid past) lines-are
        (events-valid r.history (ways.journal m.node) added made.entries
        (in_all (λ (j : Journal). AllByRecursion IsValidEvent j.events) (journal_of ways m) r.journals made.events in-journals)
        (adds_fixed (ways.lines m.node) (in_all (λ (n : MemberOf P). HaveFixed (ways.lines n.node)) m scene.world.members made.fixed there)))

    none-collide : DistinctWith r.history r.journals (flat_map of_fixed (named_in own))
        → NoneCollide (hashed past (lines_of key own) ++ (person_string key ∷ flat_map of_fixed (named_in own)))
    none-collide apart =
        subst (λ (xs : List Line). NoneCollide (hashed past xs ++ (person_string key ∷ flat_map of_fixed (named_in own)))) lines-are
        (suffices.with_named r.history r.journals (journal_of ways m) added (named_in own) in-journals
        (λ s i. opened-named key own s (subst (λ (xs : List Line). In s (strings_opened xs)) lines-are i)) apart)

    none-opened : DistinctWith r.history r.journals (strings_opened (lines_of key own)) → NoneCollide (hashed past (lines_of key own))
    none-opened apart =
        subst (λ (xs : List Line). NoneCollide (hashed past xs)) lines-are
        (suffices.with_commands r.history r.journals (journal_of ways m) added in-journals
        (subst (λ (xs : List Line). DistinctWith r.history r.journals (strings_opened xs)) (sym lines-are) apart))

    module _ (p : Judged) (judged : IsJudged r.history r.journals (journal_of ways m) p) where
      unforged : p.unforged ≡ true → Unforged real key past (lines_of key own)
      unforged is = subst (Unforged real key past) lines-are ((judged.unforged added).0 is)

      early : p.in_time ≡ true → InTime real past (lines_of key own)
      early is = subst (InTime real past) lines-are ((judged.in_time added).0 is)

      keeps : KeepsIf past key own
      keeps = holds past m.node legal (stood m there)

      -- and so by the commands of the steps
      abbrev Apart : List Told → Type 0
      Apart xs = DistinctWith r.history r.journals (flat_map of_fixed (named_in xs))

      turned : (Q : List Told → Type 0) → (Apart own → Q own) → Apart (events command (journal_of ways m)) → Q (events command (journal_of ways m))
      turned Q f = subst (λ (xs : List Told). Apart xs → Q xs) (by m there) f

      safe-if : IsSafeIf command r (journal_of ways m) p
      safe-if a b =
          subst (λ (xs : List Told). DistinctWith r.history r.journals (strings_opened (lines_of key xs)) → StaysSafe past key xs) (by m there)
          (λ apart. network-safe past (lines_of key own) values key legal honest (unforged a) (none-opened apart) (early b))

      few-if : ClearsFewIf command r (journal_of ways m) p
      few-if a =
          subst (λ (xs : List Told). DistinctWith r.history r.journals (strings_opened (lines_of key xs)) → FewChallengesAreCleared past key xs) (by m there)
          (λ apart. network-cleared past (lines_of key own) values key legal honest (unforged a) (none-opened apart))

      fair-if : IsFairIf command r (journal_of ways m) p
      fair-if a = turned (λ (xs : List Told). SignsFairly past key xs) (λ apart. keeps.fair values (unforged a) (none-collide apart))

      ends-if : EndsWellIf command r (journal_of ways m) p
      ends-if a = turned (λ (xs : List Told). EndsWell r.history key xs) (λ apart. keeps.ends values (unforged a) (none-collide apart) r.history refl)

      kept-if : Premised command r KeepsShare (journal_of ways m) p
      kept-if a b = turned (λ (xs : List Told). KeepsShare past key xs) (λ apart. keeps.kept values (unforged a) (none-collide apart) (early b))

      paid-if : Premised command r IsPaidOnExit (journal_of ways m) p
      paid-if a b = turned (λ (xs : List Told). IsPaidOnExit past key xs) (λ apart. keeps.paid values (unforged a) (none-collide apart) (early b))

    called : CallsOwnChallenges key (events command (journal_of ways m))
    called = subst (CallsOwnChallenges key) (by m there) (owns past m.node (stood m there) (followed m there).able)

    honest-all : IsHonest past key (events command (journal_of ways m))
    honest-all = subst (IsHonest past key) (by m there) (is_honest past key own honest (rules past m.node legal valid (stood m there)))

  -- ---- all

  from : (j : Journal) → In j r.journals → FromMember ways scene.world.members j
  from j i = from-member ways scene.world.members j (subst (In j) made.journals i)

  pairs : (Q : Journal → Judged → Type 0) → ((m : MemberOf P) → In m scene.world.members → (p : Judged) → IsJudged r.history r.journals (journal_of ways m) p → Q (journal_of ways m) p)
      → Pairwise Q r.journals r.premises
  pairs Q each =
      each-judged (IsJudged r.history r.journals) Q r.journals r.premises
      (λ j p i judged. let f = from j i in
      subst (λ (k : Journal). Q k p) (sym f.is) (each f.member f.there p (subst (λ (k : Journal). IsJudged r.history r.journals k p) f.is judged)))
      made.judged

  pub promises : Promises command r
  promises = record {
    honest = λ j i. let f = from j i in subst (λ (k : Journal). IsHonest past k.key (events command k)) (sym f.is) (honest-all f.member f.there);
    challenges = λ j i. let f = from j i in
        subst (λ (k : Journal). CallsOwnChallenges k.key (events command k)) (sym f.is) (called f.member f.there);
    safe = pairs (IsSafeIf command r) safe-if;
    few = pairs (ClearsFewIf command r) few-if;
    fair = pairs (IsFairIf command r) fair-if;
    ends = pairs (EndsWellIf command r) ends-if;
    kept = pairs (Premised command r KeepsShare) kept-if;
    paid = pairs (Premised command r IsPaidOnExit) paid-if;
  }

  -- where its watchers are in time by what it noted and opened, this is told
  pub all_in_time :
      ((m : MemberOf P) → In m scene.world.members → AreValid past (lines_of (ways.key m.node) (told m.node)) → NoneCollide (hashed past (lines_of (ways.key m.node) (told m.node)))
      → InTime real past (lines_of (ways.key m.node) (told m.node)))
      → Pairwise (IsInTimeIf command r) r.journals r.premises
  all_in_time timely = pairs (IsInTimeIf command r) one
    where
      one : (m : MemberOf P) → In m scene.world.members → (p : Judged) → IsJudged r.history r.journals (journal_of ways m) p → IsInTimeIf command r (journal_of ways m) p
      one m i p judged =
          subst (λ (xs : List Told). DistinctWith r.history r.journals (strings_opened (lines_of (ways.key m.node) xs)) → p.in_time ≡ true) (by m i)
          (λ apart. (judged.in_time (added m i)).1
          (subst (InTime real past) (sym (lines-are m i)) (timely m i (values m i) (none-opened m i apart))))

-- the report of a play is that of the play, and keeps its promises
pub is_played : {P : Type 0} (ways : Ways P) (stands : List Entry → P → Type 0) (lost : P → Bool) (shares : P → ℕ → ℕ) (exits : P → Option (List (ℕ × ℕ))) (facts : P → FactsOf) (told : P → List Told)
    → AreKept ways stands → ((p : P) → AreTold (ways.lines p) (reverse (ways.journal p))) → LinesAreTold ways told → TellsCommands ways told
    → SharesAreReal ways stands lost shares told → ExitsAreReal ways stands lost exits told → FactsAreReal ways stands lost facts told → JournalsAreByRules ways stands told → KeepsShares ways stands told
    → ChallengesAreOwn ways stands lost told
    → (steps : List Step) → All Fits steps → (load : Option Load) (r : Report) → IsMade ways lost shares exits facts load r (play ways steps) → IsPlayed ways load r steps
is_played {P} ways stands lost shares exits facts told kept tells opens commands gets got knows rules holds owns steps fit load r made =
    let world : IsWorld stands (play ways steps).world = (plays_are_kept ways stands kept).worlds steps fit in
    let by = plays_follow_commands ways (IsToldBy ways told) commands steps fit in
    record {
      tells = tells_scene ways stands lost shares exits facts told kept tells opens gets got knows rules holds (command_of steps) (play ways steps) world by owns load r made;
      keeps = promises ways stands lost shares exits facts told kept tells opens gets got knows rules holds (command_of steps) (play ways steps) world by owns load r made;
    }
