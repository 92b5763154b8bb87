-- What the driver does, as the scene of a race has it.
use Rattle.std.proofs.Common.{◌≡◌, ℕ, suc, ◌+◌, ◌≤◌, Bool, List, [], ◌∷◌, ◌++◌, length, fold, refl, sym, ◌∙◌, ap, subst, arith}
use Rattle.std.proofs.lemmas.List.{reverse-reverse, length-reverse}
use Rattle.std.specs.Prelude.{Option, Some, None}
use Rattle.std.specs.Option.{option_map}
use Rattle.call_history.specs.History.{newest_first, now_of, reply_to}
use Rattle.call_history.specs.declared.call.Call.{Call}
use Rattle.call_history.specs.declared.call.Op.{Op}
use Rattle.call_history.specs.declared.call.Op.TheVariants as ops
use Rattle.call_history.specs.declared.entry.Entry.{Entry}
use Rattle.channel_safety.specs.Journals.{In}
use Rattle.network.specs.Ways.{Ways}
use Rattle.network.specs.declared.command.Command.{Command}
use Rattle.network.specs.declared.outs.Outs.{Outs}
use Rattle.network.specs.Entered.{entered, oldest_first}
use Rattle.network.specs.Members.{MemberOf, sees}
use Rattle.network.specs.Worlds.{WorldOf, member, replaced, happened, given}
use Rattle.network.specs.declared.happening.Happening.TheVariants as happenings
use Rattle.script_race.specs.Races.{RaceOf, RunsRound, RunsRounds, stage_of}
use Rattle.script_race.proofs.Staying.{rounds_stay, told_all, all_see}
use Rattle.network_rounds.proofs.Races.{on-front}
use Rattle.network_rounds.specs.Races.{entered_on, IsRacing}
use Rattle.network_rounds.specs.Members.{Letter}
use Rattle.step_meanings.specs.declared.names.Names.{Names}
use Rattle.step_meanings.specs.declared.people.Person.{Person}
use Rattle.script_play.specs.Play.{told}
use Rattle.script_race.specs.Driving.{KeepRaces, world_of}
use Rattle.script_race.proofs.Timing.{have_seen}
use Rattle.support_rules.specs.Real.{real}
use Rattle.script_play.specs.Rounds.{seen_by}

module _ {P : Type 0} (ways : Ways P) where
  -- a node sees, and is given the command of a step
  pub tells_one : (step : ℕ) (command copied : Command) (number : ℕ) (names : Names) (h h' : List Entry) (before between after : List (MemberOf P)) (post post' : List Letter) (ends : List ℕ) (outs : Outs)
      → copied ≡ command → h' ≡ h
      → world_of h between ≡ happened ways (happenings.See number) (world_of h before)
      → ((seen : List Entry) → world_of seen after ≡ happened ways (happenings.Command number step copied) (world_of seen between))
      → ((seen : List Entry) → outs ≡ given ways (happenings.Command number step copied) (world_of seen between))
      → post' ≡ post ++ outs.sends
      → record { names = names; world = world_of h' after; post = post'; rounds = ends } ≡ told ways step command (record { names = names; world = world_of h before; post = post; rounds = ends }) number
  tells_one step command copied number names h h' before between after post post' ends outs same e saw made gave sent =
      let order = happenings.Command number step command in
      let seen = happened ways (happenings.See number) (world_of h before) in
      let world : world_of h' after ≡ happened ways order seen = ap (λ (l : List Entry). world_of l after) e ∙ made h ∙ (λ i. happened ways (happenings.Command number step (same i)) (saw i)) in
      let letters : post' ≡ post ++ (given ways order seen).sends = sent ∙ ap (λ (o : Outs). post ++ o.sends) (gave h ∙ (λ i. given ways (happenings.Command number step (same i)) (saw i))) in
      λ i. record { names = names; world = world i; post = letters i; rounds = ends }

-- the driver enters an op
pub enters_one : (h last : List Entry) (op : Op) → last ≡ entered_on h op → newest_first last ≡ entered (newest_first h) 0 op
enters_one h last op e =
    ap newest_first e ∙ on-front h op ∙ (λ i. record { number = suc (sym (length-reverse h) i); by = 0; op = op; reply = reply_to real (newest_first h) op } ∷ newest_first h)

-- a call sets no time
pub call_now : (h last : List Entry) (call : Call) → last ≡ entered_on h (ops.Call call) → now_of (newest_first last) ≡ now_of (newest_first h)
call_now h last call e = ap (λ (l : List Entry). now_of (newest_first l)) e ∙ ap now_of (on-front h (ops.Call call))

-- ---- races of the driver

module _ {P : Type 0} (ways : Ways P) (stands : List Entry → P → Type 0) (lost : P → Bool) (keep : KeepRaces ways stands lost) where
  -- whose nodes have seen no more than the driver
  pub seen_by_all : (s : RaceOf P) (h : List Entry) → s.scene.world.history ≡ newest_first h → IsRacing ways stands lost (stage_of s) → (m : MemberOf P) → In m s.scene.world.members → ways.seen m.node ≤ length h
  seen_by_all s h e is m i =
      subst (λ (l : List Entry). ways.seen m.node ≤ length l) (ap oldest_first e ∙ reverse-reverse h) (have_seen ways stands lost keep (stage_of s) is m i)

  -- after so many rounds it still races
  pub raced_on : (count : ℕ) (s t : RaceOf P) → IsRacing ways stands lost (stage_of s) → RunsRounds ways count s t → IsRacing ways stands lost (stage_of t)
  raced_on count s t is ran = rounds_stay ways stands lost keep.kept keep.writes count s t is ran

  -- and after so many nodes were told
  pub told_on : (step : ℕ) (command : Command) (numbers : List ℕ) (s t : RaceOf P) → IsRacing ways stands lost (stage_of s) → t ≡ record s { scene = fold (told ways step command) s.scene numbers }
      → IsRacing ways stands lost (stage_of t)
  told_on step command numbers s t is e = subst (λ (r : RaceOf P). IsRacing ways stands lost (stage_of r)) (sym e) (told_all ways stands lost keep.kept keep.writes step command numbers s is)

  -- and after so many have seen
  pub seen_on : (people : List Person) (s : RaceOf P) (h : List Entry) → s.scene.world.history ≡ newest_first h → IsRacing ways stands lost (stage_of s)
      → (m : MemberOf P) → In m (fold (seen_by ways) s.scene.world people).members → ways.seen m.node ≤ length h
  seen_on people s h e is m i =
      seen_by_all (record s { scene = record s.scene { world = fold (seen_by ways) s.scene.world people } }) h (history people s.scene.world ∙ e) (all_see ways stands lost keep.kept keep.writes people s is) m i
    where
      one : (number : ℕ) (w : WorldOf P) (o : Option (MemberOf P)) → (replaced ways w number o).history ≡ w.history
      one number w None = refl
      one number w (Some m) = refl

      history : (people : List Person) (w : WorldOf P) → (fold (seen_by ways) w people).history ≡ w.history
      history [] w = refl
      history (p ∷ people) w = history people (seen_by ways w p) ∙ one p.number w (option_map (sees ways (oldest_first w.history)) (member ways w p.number))

  pub one_round_more : (count next : ℕ) (s mid t : RaceOf P) → next ≡ count + 1 → RunsRounds ways count s mid → RunsRound ways mid t → RunsRounds ways next s t
  one_round_more count next s mid t e ran last =
      let same : suc count ≡ next = omega (arith, e) in
      subst (λ (n : ℕ). RunsRounds ways n s t) same (mid, ran, last)
