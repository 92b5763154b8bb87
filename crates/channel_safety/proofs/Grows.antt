-- A race stays a race, as it grows.
use Rattle.std.proofs.Common.{◌≡◌, ℕ, ◌+◌, ◌<◌, ◌≤◌, List, [], ◌∷◌, ◌++◌, ⊎_elim, inl, inr, length, refl, sym, ◌∙◌, ap, subst, arith, length-append, append_assoc}
use Rattle.std.specs.Prelude.{Some}
use Rattle.call_history.specs.History.{time_set, now_of}
use Rattle.call_history.specs.declared.call.Call.{Call}
use Rattle.call_history.specs.declared.entry.Entry.{Entry}
use Rattle.channel_safety.specs.Journals.{In, Line}
use Rattle.channel_safety.proofs.Tests.{some-eq, none-eq}
use Rattle.channel_safety.proofs.Lists.{In-append_cases}
use Rattle.channel_safety.specs.Races.{IsEntered, IsRound, NotesLater, over, AreRounds, AreTicks}
use Rattle.channel_safety.specs.Growing.{AreTimeless, HaveSeen}
use Rattle.channel_safety.specs.RaceLaws.{RacesBegin, RacesGoOn, RoundsEnd, RacersJoin, RoundsPass}
use Rattle.channel_safety.proofs.RacePlaces.{tail-is, head-is, place_in}

-- ---- rounds

entered-later : (more h : List Entry) (call : Call) (from to : ℕ) → IsEntered h call from to → IsEntered (more ++ h) call from to
entered-later more h call from to w = record {
  later = more ++ w.later;
  entry = w.entry;
  past = w.past;
  split = ap (λ (l : List Entry). more ++ l) w.split ∙ sym (append_assoc more w.later (w.entry ∷ w.past));
  is = w.is;
  after = w.after;
  before = w.before;
}

round-later : (more h : List Entry) (gained journal : List Line) (seen begin end : ℕ) → HaveSeen seen gained → end < seen → IsRound h journal begin end
    → IsRound (more ++ h) (gained ++ journal) begin end
round-later more h gained journal seen begin end saw lt r = record {
  newer = gained ++ r.newer;
  front = r.front;
  look = r.look;
  watcher = r.watcher;
  calls = r.calls;
  split = ap (λ (l : List Line). gained ++ l) r.split ∙ sym (append_assoc gained r.newer (r.look ∷ r.front));
  deed = r.deed;
  begins = r.begins;
  ends = r.ends;
  noted_later = λ x channel s i n.
      ⊎_elim (λ j. let a = saw x j in omega arith) (λ j. r.noted_later x channel s j n) (In-append_cases x gained r.newer i);
  entered = λ call i. entered-later more h call r.look.seen end (r.entered call i);
}

notes-later : (gained journal : List Line) (seen end : ℕ) → HaveSeen seen gained → end < seen → NotesLater journal end → NotesLater (gained ++ journal) end
notes-later gained journal seen end saw lt later x channel s i n =
    ⊎_elim (λ j. let a = saw x j in omega arith) (λ j. later x channel s j n) (In-append_cases x gained journal i)

rounds-later : (more h : List Entry) (gained journal : List Line) (ends : List ℕ) (seen : ℕ) → HaveSeen seen gained → over ends ≤ seen → AreRounds h journal ends
    → AreRounds (more ++ h) (gained ++ journal) ends
rounds-later more h gained journal [] seen saw lt rounds = tt
rounds-later more h gained journal (end ∷ ends) seen saw lt rounds =
    let a = rounds.0.order in (
      record { order = a; looked = ⊎_elim (λ r. inl (round-later more h gained journal seen (over ends) end saw (omega arith) r)) (λ n. inr (notes-later gained journal seen end saw (omega arith) n)) rounds.0.looked },
      rounds-later more h gained journal ends seen saw (omega arith) rounds.1,
    )

-- one that has noted nothing yet has missed no look
joined : (h : List Entry) (journal : List Line) (ends : List ℕ) → AreRounds h journal ends → AreRounds h [] ends
joined h journal [] rounds = tt
joined h journal (end ∷ ends) rounds = (record { order = rounds.0.order; looked = inr (λ x channel s i n. absurd i) }, joined h journal ends rounds.1)

-- ---- times

ticks-later : (more h : List Entry) (ends : List ℕ) → AreTimeless more → AreTicks h ends → AreTicks (more ++ h) ends
ticks-later more h ends none ticks later past e time split sets =
    ⊎_elim (λ i. absurd (none-eq time (sym (none e i) ∙ sets))) (λ b. ticks b.later past e time b.split sets) (place_in more h later e past split)

ticks-end : (h : List Entry) (ends : List ℕ) (x : Entry) → time_set x.op x.reply ≡ Some (now_of h + 1) → AreTicks h ends → AreTicks (x ∷ h) (length h ∷ ends)
ticks-end h ends x sets ticks [] past e time split is =
    let same : e ≡ x = head-is x e h past split in
    let all : h ≡ past = tail-is x e h past split in
    let t : now_of h + 1 ≡ time = some-eq (now_of h + 1) time (sym sets ∙ (ap (λ (y : Entry). time_set y.op y.reply) (sym same) ∙ is)) in
    let now : now_of h ≡ now_of past = ap now_of all in
    (inl (ap length (sym all)), omega (arith, t, now))
ticks-end h ends x sets ticks (z ∷ later) past e time split is =
    let t = ticks later past e time (tail-is x z h (later ++ e ∷ past) split) is in (inr t.0, t.1)

-- ---- the laws

pub begins : RacesBegin
begins = record { rounds = tt; ticks = none; over_by_now = omega arith }
  where
    none : AreTicks [] []
    none [] past e time split sets = cc
    none (z ∷ later) past e time split sets = cc

pub goes_on : RacesGoOn
goes_on h entered journal gained ends raced none saw = record {
  rounds = rounds-later entered h gained journal ends (over ends) saw (omega arith) raced.rounds;
  ticks = ticks-later entered h ends none raced.ticks;
  over_by_now = (let a = raced.over_by_now in omega (arith, length-append entered h));
}

pub round_ends : RoundsEnd
round_ends h entered journal gained ends e raced none gains sets = record {
  rounds = (record { order = (let a = raced.over_by_now in omega (arith, length-append entered h)); looked = inl round }, rounds-later (e ∷ entered) h gained journal ends (length h) gains.begins raced.over_by_now raced.rounds);
  ticks = ticks-end (entered ++ h) ends e sets (ticks-later entered h ends none raced.ticks);
  over_by_now = omega arith;
}
  where
    there : In gains.look gained
    there = subst (λ (l : List Line). In gains.look l) (sym gains.split) (inl refl)

    round : IsRound (e ∷ (entered ++ h)) (gained ++ journal) (over ends) (length (entered ++ h))
    round =
        let a = raced.over_by_now in let b = gains.begins gains.look there in record {
          newer = [];
          front = gains.front ++ journal;
          look = gains.look;
          watcher = gains.looks.watcher;
          calls = gains.looks.calls;
          split = ap (λ (l : List Line). l ++ journal) gains.split;
          deed = gains.looks.deed;
          begins = omega arith;
          ends = gains.ends gains.look there;
          noted_later = λ x channel s i n. absurd i;
          entered = λ call i. entered-later (e ∷ []) (entered ++ h) call gains.look.seen (length (entered ++ h)) (gains.looks.entered call i);
        }

pub racers_join : RacersJoin
racers_join h journal ends raced = record { rounds = joined h journal ends raced.rounds; ticks = raced.ticks; over_by_now = raced.over_by_now }

pub rounds_pass : RoundsPass
rounds_pass h entered ends e raced none sets = record {
  rounds = (
    record { order = (let a = raced.over_by_now in omega (arith, length-append entered h)); looked = inr (λ x channel s i n. absurd i) },
    rounds-later (e ∷ entered) h [] [] ends (length h) (λ x i. absurd i) raced.over_by_now raced.rounds,
  );
  ticks = ticks-end (entered ++ h) ends e sets (ticks-later entered h ends none raced.ticks);
  over_by_now = omega arith;
}
