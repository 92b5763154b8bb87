-- The time after a round, and the round as a race has it.
use Rattle.std.proofs.Common.{◌≡◌, ℕ, zero, suc, ◌+◌, ◌-◌, ◌^◌, ◌<◌, ◌≤◌, Bool, false, inl, inr, List, [], ◌∷◌, ◌++◌, length, reverse, refl, sym, ◌∙◌, ap, subst, arith, length-append}
use Rattle.std.proofs.lemmas.List.{reverse-reverse, length-reverse}
use Rattle.std.specs.Prelude.{All, Option}
use Rattle.call_history.specs.History.{newest_first, now_of, or_before, reply_to}
use Rattle.call_history.specs.declared.call.Op.{Op}
use Rattle.call_history.specs.declared.call.Op.TheVariants as ops
use Rattle.call_history.specs.declared.entry.Entry.{Entry}
use Rattle.channel_safety.specs.Journals.{In}
use Rattle.network.specs.Ways.{Ways}
use Rattle.network.specs.declared.lookout.Lookout.{Lookout}
use Rattle.network.specs.Entered.{entered}
use Rattle.network.specs.Members.{MemberOf}
use Rattle.channel_safety.specs.Growing.{AreTimeless}
use Rattle.script_race.specs.Races.{RunsRound}
use Rattle.network_rounds.proofs.Kept.{longer-is}
use Rattle.network_rounds.proofs.Races.{on-front, time-set, now-low, no-time}
use Rattle.network_rounds.specs.Races.{Stage, entered_on, IsRacing}
use Rattle.network_rounds.specs.Told.{Round}
use Rattle.network_rounds.specs.Members.{HasFollowed}
use Rattle.network_rounds.specs.Rounds.{CrewOf}
use Rattle.step_meanings.specs.declared.names.Names.{Names}
use Rattle.script_race.specs.Driving.{KeepRaces, world_of}
use Rattle.support_rules.specs.Real.{real}

all_in : {A : Type 0} (Q : A → Type 0) (xs : List A) → ((x : A) → In x xs → Q x) → All Q xs
all_in Q [] f k d lt = absurd (omega (arith, lt))
all_in Q (x ∷ xs) f zero d lt = f x (inl refl)
all_in Q (x ∷ xs) f (suc k) d lt = all_in Q xs (λ y i. f y (inr i)) k d (omega (arith, lt))

-- ---- before a round

module _ {P : Type 0} (ways : Ways P) (stands : List Entry → P → Type 0) (lost : P → Bool) (keep : KeepRaces ways stands lost) where
  pub have_seen : (s : Stage P) → IsRacing ways stands lost s → (m : MemberOf P) → In m s.crew.nodes → ways.seen m.node ≤ length s.seen
  have_seen s is m i = omega (arith, keep.kept.within (newest_first s.seen) m.node (is.crew.nodes m i).node, length-reverse s.seen)

  pub have_followed : (s : Stage P) → IsRacing ways stands lost s → All (HasFollowed ways s.seen) s.crew.nodes
  have_followed s is = all_in (HasFollowed ways s.seen) s.crew.nodes (λ m i. record { node = have_seen s is m i; watchers = λ l j. watched m i l j; few = (is.crew.nodes m i).few })
    where
      watched : (m : MemberOf P) → In m s.crew.nodes → (l : Lookout) → In l m.watchers → l.seen ≤ length s.seen
      watched m i l j =
          let f = (is.crew.nodes m i).watchers l j in
          omega (arith, ap length f.is, length-append f.later f.past, f.count, length-reverse s.seen)

-- no time is later than the number of entries
pub is_early : {P : Type 0} (ways : Ways P) (stands : List Entry → P → Type 0) (lost : P → Bool) (s : Stage P) → IsRacing ways stands lost s → now_of (newest_first s.seen) ≤ length s.seen
is_early ways stands lost s is = omega (arith, now-low (newest_first s.seen) s.ends is.ticks.ticks, length-reverse s.seen)

-- ---- the time

timeless : (mid past : List Entry) → AreTimeless mid → now_of (mid ++ past) ≡ now_of past
timeless [] past none = refl
timeless (e ∷ mid) past none = ap (λ (o : Option ℕ). or_before o (now_of (mid ++ past))) (none e (inl refl)) ∙ timeless mid past (λ x i. none x (inr i))

-- a round sets none
pub time_stays : {P : Type 0} (ways : Ways P) (crew after : CrewOf P) (h later : List Entry) → Round ways crew after h later → now_of (newest_first later) ≡ now_of (newest_first h)
time_stays ways crew after h later r =
    ap now_of (longer-is h later r.grows) ∙ timeless (reverse r.grows.0) (newest_first h) (no-time h later r.grows _ r.entered)

-- the driver sets the next one
pub time_next : (h last : List Entry) (now : ℕ) → now ≡ now_of (newest_first h) → now + 1 ≤ 2 ^ 62 → last ≡ entered_on h (ops.Time (now + 1)) → now_of (newest_first last) ≡ now + 1
time_next h last now is low e =
    ap (λ (l : List Entry). now_of (newest_first l)) e
    ∙ (λ i. now_of (newest_first (entered_on h (ops.Time (is i + 1)))))
    ∙ ap now_of (on-front h (ops.Time (now_of (newest_first h) + 1)))
    ∙ ap (λ (o : Option ℕ). or_before o (now_of (newest_first h))) (time-set (newest_first h) (subst (λ (n : ℕ). n + 1 ≤ 2 ^ 62) is low))
    ∙ ap (λ (n : ℕ). n + 1) (sym is)

-- ---- a round

one_less : (n last h : ℕ) → n ≡ last → last ≡ h + 1 → n - 1 ≡ h
one_less n last h e is = omega (arith, e, is)

-- the number of what the driver enters says how long the history was
pub count_before : (h last : List Entry) (op : Op) (n : ℕ) → n ≡ length last → last ≡ entered_on h op → n - 1 ≡ length h
count_before h last op n e is =
    one_less n (length last) (length h) e (ap length is ∙ length-append h (record { number = suc (length h); by = 0; op = op; reply = reply_to real (newest_first h) op } ∷ []))

-- what the driver entered, in the other order
pub entered_back : (h last : List Entry) (now : ℕ) → now ≡ now_of (newest_first h) → last ≡ entered_on h (ops.Time (now + 1))
    → newest_first last ≡ entered (newest_first h) 0 (ops.Time (now_of (newest_first h) + 1))
entered_back h last now is e =
    ap newest_first e ∙ on-front h (ops.Time (now + 1))
    ∙ (λ i. record { number = suc (sym (length-reverse h) i); by = 0; op = ops.Time (is i + 1); reply = reply_to real (newest_first h) (ops.Time (is i + 1)) } ∷ newest_first h)

pub round_runs : {P : Type 0} (ways : Ways P) (names : Names) (crew after : CrewOf P) (ends more : List ℕ) (h later last : List Entry) (now n : ℕ)
    → now ≡ now_of (newest_first h) → Round ways crew after h later → length later < 2 ^ 32 → last ≡ entered_on later (ops.Time (now + 1)) → n ≡ length later → more ≡ ends ++ n ∷ []
    → RunsRound ways (record { scene = record { names = names; world = world_of h crew.nodes; post = crew.post; rounds = ends }; cast = crew.cast })
    (record { scene = record { names = names; world = world_of last after.nodes; post = after.post; rounds = more }; cast = after.cast })
round_runs ways names crew after ends more h later last now n is r few e count pushed =
    let history = entered_back later last now (is ∙ sym (time_stays ways crew after h later r)) e in
    let marks : more ≡ ends ++ length later ∷ [] = pushed ∙ ap (λ (n : ℕ). ends ++ n ∷ []) count in
    record {
      crew = after;
      later = later;
      round = subst (λ (l : List Entry). Round ways crew after l later) (sym (reverse-reverse h)) r;
      few = few;
      is = λ i. record {
        scene = record { names = names; world = record { history = history i; members = after.nodes; is_lost = false }; post = after.post; rounds = marks i };
        cast = after.cast;
      };
    }
