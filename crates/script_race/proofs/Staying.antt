-- A race of a script stays a race.
use Rattle.std.proofs.Common.{◌≡◌, ℕ, zero, suc, ◌+◌, ◌<◌, ◌≤◌, ◌^◌, Bool, true, false, List, [], ◌∷◌, ◌++◌, length, drop, fold, reverse, Option, Some, None, refl, sym, ◌∙◌, ap, subst, arith, inl, inr}
use Rattle.std.proofs.lemmas.List.{reverse-append, reverse-reverse, length-reverse}
use Rattle.std.specs.Prelude.{◌==◌}
use Rattle.std.specs.List.{find, before_first, after_first}
use Rattle.std.specs.Option.{option_map}
use Rattle.adjudicator.proofs.SharedSteps.{shared_legal}
use Rattle.call_history.specs.History.{newest_first, now_of, reply_to}
use Rattle.call_history.specs.declared.call.Op.{Op}
use Rattle.call_history.specs.declared.call.Op.TheVariants as ops
use Rattle.call_history.specs.declared.entry.Entry.{Entry}
use Rattle.channel_safety.specs.Journals.{In}
use Rattle.network.specs.Ways.{Ways}
use Rattle.network.specs.declared.command.Command.{Command}
use Rattle.network.specs.declared.outs.Outs.{Outs}
use Rattle.network.specs.Entered.{entered, oldest_first}
use Rattle.network.specs.Members.{MemberOf, sees, accepted}
use Rattle.network.specs.Members as members
use Rattle.network.specs.Worlds.{WorldOf, has_number, member, replaced, changed, happened, given}
use Rattle.network.specs.declared.happening.Happening.TheVariants as happenings
use Rattle.network_rounds.specs.Journals.{WritesJournals}
use Rattle.network_rounds.specs.Races.{Stage, entered_on, next_time, with_nodes, with_rest, Goes, enters, tells, follows, turns, joins, rounds, IsRacing}
use Rattle.network_rounds.proofs.Lines.{comes-next}
use Rattle.network_rounds.proofs.Races.{races_stay}
use Rattle.network_rounds.specs.Members.{Letter}
use Rattle.step_meanings.specs.declared.effect.Effect.{Effect}
use Rattle.step_meanings.specs.declared.effect.Effect.TheVariants.{Nothing, Enter, Join, Tell, Post, Lose, Catch, Rounds}
use Rattle.step_meanings.specs.declared.people.Person.{Person}
use Rattle.script_play.specs.Play.{SceneOf, told, done, at_end}
use Rattle.network_rounds.specs.Rounds.{CrewOf}
use Rattle.script_race.specs.Races.{RaceOf, crew_of, stage_of, FitsRace, timed, RunsRound, RunsRounds, Does}
use Rattle.script_race.proofs.Places.{Splits, found}
use Rattle.support_rules.specs.Real.{real}
use Rattle.network.specs.Standing.{AreKept}
use Rattle.script_play.specs.Rounds.{seen_by}

-- what the driver enters, in both orders
pub entered_stage : (h : List Entry) (op : Op) → oldest_first (entered h 0 op) ≡ entered_on (oldest_first h) op
entered_stage h op =
    reverse-append (record { number = suc (length h); by = 0; op = op; reply = reply_to real h op } ∷ []) h
    ∙ (λ i. reverse h ++ record { number = suc (sym (length-reverse h) i); by = 0; op = op; reply = reply_to real (sym (reverse-reverse h) i) op } ∷ [])

module _ {P : Type 0} (ways : Ways P) (stands : List Entry → P → Type 0) (lost : P → Bool) (kept : AreKept ways stands) (writes : WritesJournals ways lost) where
  abbrev Racing : Stage P → Type 0
  Racing s = IsRacing ways stands lost s

  pub goes : (s t : Stage P) → Racing s → Goes ways s t → Racing t
  goes s t is step = races_stay ways stands lost kept writes (t ∷ []) s t is (step, refl)

  -- ---- a round, and its time

  timed_stage : (s : SceneOf P) (crew : CrewOf P) (later : List Entry)
      → stage_of (record { scene = timed ways s crew later; cast = crew.cast })
      ≡ record { crew = crew; seen = entered_on later (ops.Time (next_time later)); ends = length later ∷ reverse s.rounds }
  timed_stage s crew later =
      let seen = entered_stage (newest_first later) (ops.Time (next_time later)) ∙ ap (λ h. entered_on h (ops.Time (next_time later))) (reverse-reverse later) in
      let ends = reverse-append s.rounds (length later ∷ []) in
      λ i. record { crew = crew; seen = seen i; ends = ends i }

  pub round_stays : (s t : RaceOf P) → Racing (stage_of s) → RunsRound ways s t → Racing (stage_of t)
  round_stays s t is ran =
      subst (λ (t : RaceOf P). Racing (stage_of t)) (sym ran.is)
      (subst Racing (sym (timed_stage s.scene ran.crew ran.later))
      (goes (stage_of s) _ is (rounds ran.later ran.crew ran.round ran.few refl)))

  pub rounds_stay : (count : ℕ) (s t : RaceOf P) → Racing (stage_of s) → RunsRounds ways count s t → Racing (stage_of t)
  rounds_stay zero s t is e = subst (λ (t : RaceOf P). Racing (stage_of t)) (sym e) is
  rounds_stay (suc count) s t is (mid, ran, last) = round_stays mid t (rounds_stay count s mid is ran) last

  -- ---- a command

  in_middle : (m : MemberOf P) (front back : List (MemberOf P)) → In m (front ++ m ∷ back)
  in_middle m [] back = inl refl
  in_middle m (x ∷ front) back = inr (in_middle m front back)

  -- what it sees leaves its number as it was
  saw_number : (s : RaceOf P) (m : MemberOf P) → Racing (stage_of s) → In m s.scene.world.members
      → ways.number (sees ways (oldest_first s.scene.world.history) m).node ≡ ways.number m.node
  saw_number s m is i =
      let racer = is.racers m i in
      let member = is.crew.nodes m i in
      let seen = oldest_first s.scene.world.history in
      let low : ways.seen m.node ≤ length seen = omega (arith, kept.within (newest_first seen) m.node member.node, length-reverse seen) in
      (writes.saw (newest_first seen) (drop (ways.seen m.node) seen) m.node (shared_legal real seen is.crew.legal) (comes-next seen (ways.seen m.node) low) racer.well).0.number

  -- the same, with these messages on their way
  posted : (s : RaceOf P) (post : List Letter) → Racing (stage_of s) → Racing (stage_of (record s { scene = record s.scene { post = post } }))
  posted s post is = goes (stage_of s) _ is (turns s.cast post is.crew.notes refl)

  abbrev told_scene : ℕ → Command → ℕ → RaceOf P → RaceOf P
  told_scene step command number s = record s { scene = told ways step command s.scene number }

  pub told_stays : (step : ℕ) (command : Command) (number : ℕ) (s : RaceOf P) → Racing (stage_of s) → Racing (stage_of (told_scene step command number s))
  told_stays step command number s is = by (find (has_number ways number) s.scene.world.members) refl
    where
      w : WorldOf P
      w = s.scene.world

      test : MemberOf P → Bool
      test = has_number ways number

      -- what is sent hangs on nothing that matters here
      with_world : (v : WorldOf P) → Racing (stage_of (record s { scene = record s.scene { world = v } })) → happened ways (happenings.Command number step command) (happened ways (happenings.See number) w) ≡ v
          → Racing (stage_of (told_scene step command number s))
      with_world v racing e =
          subst (λ (v : WorldOf P). Racing (stage_of (record s { scene = record s.scene { world = v; post = s.scene.post ++ (given ways (happenings.Command number step command) (happened ways (happenings.See number) w)).sends } }))) (sym e)
          (posted (record s { scene = record s.scene { world = v } }) _ racing)

      by : (o : Option (MemberOf P)) → find test w.members ≡ o → Racing (stage_of (told_scene step command number s))
      by None e =
          let sees_not : happened ways (happenings.See number) w ≡ w = ap (λ o. replaced ways w number (option_map (sees ways (oldest_first w.history)) o)) e in
          let tells_not : happened ways (happenings.Command number step command) w ≡ w = ap (λ o. replaced ways w number (option_map (members.told ways step command) o)) e in
          with_world w is (ap (happened ways (happenings.Command number step command)) sees_not ∙ tells_not)
      by (Some m) e = with_world after gone (one ∙ two)
        where
          split : Splits test w.members m
          split = found test w.members m e

          sees_m : MemberOf P
          sees_m = sees ways (oldest_first w.history) m

          tells_m : MemberOf P
          tells_m = members.told ways step command sees_m

          there : In m s.scene.world.members
          there = subst (λ (l : List (MemberOf P)). In m l) (sym split.at) (in_middle m split.front split.back)

          same_number : test sees_m ≡ true
          same_number = ap (λ n. n == number) (saw_number s m is there) ∙ split.passes

          after : WorldOf P
          after = record w { members = split.front ++ tells_m ∷ split.back }

          between : WorldOf P
          between = record w { members = split.front ++ sees_m ∷ split.back }

          one : happened ways (happenings.Command number step command) (happened ways (happenings.See number) w) ≡ happened ways (happenings.Command number step command) between
          one = ap (happened ways (happenings.Command number step command)) (
              ap (λ o. replaced ways w number (option_map (sees ways (oldest_first w.history)) o)) e
              ∙ ap (λ l. record w { members = before_first test l ++ sees_m ∷ after_first test l }) split.at
              ∙ (λ i. record w { members = split.before m split.passes i ++ sees_m ∷ split.after m split.passes i }))

          two : happened ways (happenings.Command number step command) between ≡ after
          two =
              ap (λ o. replaced ways between number (option_map (members.told ways step command) o)) (split.finds sees_m same_number)
              ∙ (λ i. record w { members = split.before sees_m same_number i ++ tells_m ∷ split.after sees_m same_number i })

          gone : Racing (stage_of (record s { scene = record s.scene { world = after } }))
          gone = goes (stage_of s) _ is (tells split.front split.back m step command split.at refl)

  pub told_all : (step : ℕ) (command : Command) (numbers : List ℕ) (s : RaceOf P) → Racing (stage_of s)
      → Racing (stage_of (record s { scene = fold (told ways step command) s.scene numbers }))
  told_all step command [] s is = is
  told_all step command (number ∷ numbers) s is = told_all step command numbers (told_scene step command number s) (told_stays step command number s is)

  -- ---- a node sees

  pub sees_on : (number : ℕ) (s : RaceOf P) → Racing (stage_of s)
      → Racing (stage_of (record s { scene = record s.scene { world = happened ways (happenings.See number) s.scene.world } }))
  sees_on number s is = by (find (has_number ways number) s.scene.world.members) refl
    where
      w : WorldOf P
      w = s.scene.world

      test : MemberOf P → Bool
      test = has_number ways number

      at : (v : WorldOf P) → happened ways (happenings.See number) w ≡ v → Racing (stage_of (record s { scene = record s.scene { world = v } }))
          → Racing (stage_of (record s { scene = record s.scene { world = happened ways (happenings.See number) w } }))
      at v e racing = subst (λ (v : WorldOf P). Racing (stage_of (record s { scene = record s.scene { world = v } }))) (sym e) racing

      by : (o : Option (MemberOf P)) → find test w.members ≡ o → Racing (stage_of (record s { scene = record s.scene { world = happened ways (happenings.See number) w } }))
      by None e = at w (ap (λ o. replaced ways w number (option_map (sees ways (oldest_first w.history)) o)) e) is
      by (Some m) e =
          let split = found test w.members m e in
          at (record w { members = split.front ++ sees ways (oldest_first w.history) m ∷ split.back })
          (ap (λ o. replaced ways w number (option_map (sees ways (oldest_first w.history)) o)) e
          ∙ ap (λ l. record w { members = before_first test l ++ sees ways (oldest_first w.history) m ∷ after_first test l }) split.at
          ∙ (λ i. record w { members = split.before m split.passes i ++ sees ways (oldest_first w.history) m ∷ split.after m split.passes i }))
          (goes (stage_of s) _ is (follows split.front split.back m split.at refl))

  pub all_see : (people : List Person) (s : RaceOf P) → Racing (stage_of s)
      → Racing (stage_of (record s { scene = record s.scene { world = fold (seen_by ways) s.scene.world people } }))
  all_see [] s is = is
  all_see (p ∷ people) s is = all_see people (record s { scene = record s.scene { world = seen_by ways s.scene.world p } }) (sees_on p.number s is)

  pub ends_stay : (s : RaceOf P) → Racing (stage_of s) → Racing (stage_of (record s { scene = at_end ways s.scene }))
  ends_stay s is = all_see s.scene.names.people s is

  -- ---- a step

  at_last : (s t : RaceOf P) (scene : SceneOf P) → t ≡ record s { scene = scene } → Racing (stage_of (record s { scene = scene })) → Racing (stage_of t)
  at_last s t scene e is = subst (λ (t : RaceOf P). Racing (stage_of t)) (sym e) is

  pub does_stays : (step : ℕ) (effect : Effect) (s t : RaceOf P) → FitsRace effect → Racing (stage_of s) → Does ways step effect s t → Racing (stage_of t)
  does_stays step Nothing s t fits is e = at_last s t s.scene e is
  does_stays step (Enter (ops.Call call)) s t fits is e =
      at_last s t _ e (goes (stage_of s) _ is (enters call (λ i. record { crew = crew_of s; seen = entered_stage s.scene.world.history (ops.Call call) i; ends = reverse s.scene.rounds })))
  does_stays step (Enter (ops.Time to)) s t fits is e = absurd fits
  does_stays step (Join number signer watchers) s t fits is e = at_last s t _ e (goes (stage_of s) _ is (joins number signer watchers fits.0 fits.1 fits.2 refl))
  does_stays step (Tell numbers command) s t fits is e = at_last s t _ e (told_all step command numbers s is)
  does_stays step (Post to bytes) s t fits is e = at_last s t _ e (posted s _ is)
  does_stays step (Lose to) s t fits is e = at_last s t _ e (posted s _ is)
  does_stays step (Catch name number key channel turn) s t fits is e = at_last s t _ e is
  does_stays step (Rounds count) s t fits is e = rounds_stay count s t is e
