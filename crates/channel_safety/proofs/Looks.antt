-- The look of the round in which a challenge runs out.
use Rattle.std.proofs.Common.{◌≡◌, ℕ, suc, ◌+◌, ◌-◌, ◌<◌, ◌⊎◌, ⊎_elim, true, List, [], ◌∷◌, ◌++◌, inl, inr, length, refl, sym, ◌∙◌, ap, subst, arith, length-append, append_assoc}
use Rattle.std.specs.Prelude.{Option, Some, None}
use Rattle.channel_values.specs.Parts.{FixedParts}
use Rattle.channel_values.specs.Rules.{Rules}
use Rattle.call_history.specs.Rows.{fixed_of}
use Rattle.call_history.specs.History.{time_set, now_of, or_before, is_accepted, is_named}
use Rattle.call_history.specs.declared.call.Call.{Call}
use Rattle.call_history.specs.declared.call.Op.{Op}
use Rattle.call_history.specs.declared.entry.Entry.{Entry}
use Rattle.call_history.proofs.Names.{same_bytes}
use Rattle.channel_safety.specs.Journals.{In, Line}
use Rattle.channel_safety.specs.Premises.{Looked}
use Rattle.channel_safety.proofs.Tests.{and-right}
use Rattle.channel_safety.proofs.Lists.{In-append_right, suffix_of}
use Rattle.channel_safety.specs.Races.{IsEntered, IsRound, NotesLater, over, AreRounds, IsRaced}
use Rattle.channel_safety.specs.RaceLaws.{RacesAreInTime, LastingChannelsStandForTwo}
use Rattle.channel_safety.proofs.RacePlaces.{in-middle, regroup}

-- ---- rounds

-- each end is below the number of entries once the last round is over
pub ends-below : (h : List Entry) (journal : List Line) (ends : List ℕ) (n : ℕ) → AreRounds h journal ends → In n ends → n < over ends
ends-below h journal [] n rounds i = absurd i
ends-below h journal (m ∷ ends) n rounds (inl e) = omega arith
ends-below h journal (m ∷ ends) n rounds (inr i) =
    let b = ends-below h journal ends n rounds.1 i in let c = rounds.0.order in omega arith

-- a round that began after an earlier one was over
pub record Later (h : List Entry) (journal : List Line) (earlier end : ℕ) : Type 0 where
  pub begin : ℕ
  pub round : IsRound h journal begin end
  pub since : earlier < begin

pub later_round : (h : List Entry) (journal : List Line) (ends : List ℕ) (earlier end : ℕ) → AreRounds h journal ends → In earlier ends → In end ends → earlier < end
    → Later h journal earlier end ⊎ NotesLater journal end
later_round h journal [] earlier end rounds i j lt = absurd i
later_round h journal (m ∷ ends) earlier end rounds (inl e) (inl f) lt = absurd (omega arith)
later_round h journal (m ∷ ends) earlier end rounds (inr i) (inl f) lt =
    ⊎_elim
    (λ r. inl (record { begin = over ends; round = subst (λ (n : ℕ). IsRound h journal (over ends) n) (sym f) r; since = ends-below h journal ends earlier rounds.1 i }))
    (λ n. inr (subst (NotesLater journal) (sym f) n)) rounds.0.looked
later_round h journal (m ∷ ends) earlier end rounds (inl e) (inr j) lt =
    let b = ends-below h journal ends end rounds.1 j in let c = rounds.0.order in absurd (omega arith)
later_round h journal (m ∷ ends) earlier end rounds (inr i) (inr j) lt = later_round h journal ends earlier end rounds.1 i j lt

-- ---- times

-- a time that was set in the middle
pub record Sets (mid : List Entry) : Type 0 where
  pub after : List Entry
  pub entry : Entry
  pub before : List Entry
  pub time : ℕ
  pub split : mid ≡ after ++ entry ∷ before
  pub sets : time_set entry.op entry.reply ≡ Some time

-- where the time has changed, it was set
pub set_between : (mid past : List Entry) → now_of past < now_of (mid ++ past) → Sets mid
set_between [] past lt = absurd (omega arith)
set_between (q ∷ mid) past lt = go (time_set q.op q.reply) refl (λ low. set_between mid past low)
  where
    go : (o : Option ℕ) → time_set q.op q.reply ≡ o → (now_of past < now_of (mid ++ past) → Sets mid) → Sets (q ∷ mid)
    go None e below =
        let same : now_of (q ∷ (mid ++ past)) ≡ now_of (mid ++ past) = ap (λ (o : Option ℕ). or_before o (now_of (mid ++ past))) e in
        let s = below (omega arith) in
        record { after = q ∷ s.after; entry = s.entry; before = s.before; time = s.time; split = ap (λ (l : List Entry). q ∷ l) s.split; sets = s.sets }
    go (Some t) e below = record { after = []; entry = q; before = mid; time = t; split = refl; sets = e }

-- ---- the look

looked-at : (r : Rules) (h : List Entry) (journal : List Line) (f : FixedParts) (later mid past : List Entry) (e m : Entry) (earlier : ℕ)
    → h ≡ later ++ e ∷ (mid ++ m ∷ past) → length past < earlier → Later h journal earlier (length (mid ++ m ∷ past)) → Looked r (r.named f) journal mid m past
looked-at r h journal f later mid past e m earlier split low l =
    let a = length-append mid (m ∷ past) in
    let round = l.round in
    let b = round.begins in
    let c = round.ends in
    let s = l.since in
    let cut = suffix_of mid (round.look.seen - suc (length past)) (omega arith) in
    let d = cut.len in
    let same : mid ++ m ∷ past ≡ cut.later ++ (cut.past ++ m ∷ past) = ap (λ (l : List Entry). l ++ m ∷ past) cut.is ∙ append_assoc cut.later cut.past (m ∷ past) in
    let saw : round.look.seen ≡ length (cut.past ++ m ∷ past) = omega (arith, length-append cut.past (m ∷ past)) in record {
      newer = round.newer;
      front = round.front;
      line = round.look;
      watcher = round.watcher;
      calls = round.calls;
      split = round.split;
      deed = round.deed;
      after = cut.later;
      before = cut.past;
      between = cut.is;
      saw = saw;
      noted_before = λ x s i n. (let later = round.noted_later x (r.named f) s i n in omega (arith, later, b, c));
      entered = λ call i n. let w = round.entered call i in (w.entry, there cut.later cut.past w same saw, w.is);
    }
  where
    there : (after before : List Entry) {call : Call} {seen : ℕ} (w : IsEntered h call seen (length (mid ++ m ∷ past))) → mid ++ m ∷ past ≡ after ++ (before ++ m ∷ past)
        → seen ≡ length (before ++ m ∷ past) → In w.entry after
    there after before w same saw =
        in-middle w.later w.past w.entry (later ++ e ∷ []) after (before ++ m ∷ past)
        (sym w.split ∙ (split ∙ (sym (append_assoc later (e ∷ []) (mid ++ m ∷ past)) ∙ ap (λ (l : List Entry). (later ++ e ∷ []) ++ l) same)))
        (let a = w.after in omega arith)
        (let b = w.before in let n = ap length same in omega arith)

-- where a time was set between the challenge and the end
set-looked : (r : Rules) (h : List Entry) (journal : List Line) (ends : List ℕ) → IsRaced h journal ends → (f : FixedParts) (later mid past : List Entry) (e m : Entry)
    → h ≡ later ++ e ∷ (mid ++ m ∷ past) → In (length (mid ++ m ∷ past)) ends → Sets mid
    → Looked r (r.named f) journal mid m past ⊎ NotesLater journal (length (mid ++ m ∷ past))
set-looked r h journal ends raced f later mid past e m split at_end set =
    let between : h ≡ (later ++ e ∷ set.after) ++ set.entry ∷ (set.before ++ m ∷ past) =
    split ∙ (ap (λ (l : List Entry). later ++ e ∷ (l ++ m ∷ past)) set.split ∙ regroup later e set.after set.entry set.before (m ∷ past)) in
    let at_set = raced.ticks (later ++ e ∷ set.after) (set.before ++ m ∷ past) set.entry set.time between set.sets in
    let more : length mid ≡ length set.after + suc (length set.before) = ap length set.split ∙ length-append set.after (set.entry ∷ set.before) in
    ⊎_elim (λ l. inl (looked-at r h journal f later mid past e m (length (set.before ++ m ∷ past)) split (omega (arith, length-append set.before (m ∷ past))) l)) (λ n. inr n)
    (later_round h journal ends (length (set.before ++ m ∷ past)) (length (mid ++ m ∷ past)) raced.rounds at_set.0 at_end
    (omega (arith, length-append set.before (m ∷ past), length-append mid (m ∷ past))))

pub in_time : RacesAreInTime
in_time r h journal ends raced two later mid past e m f x s split out i n seen =
    let at_end = raced.ticks later (mid ++ m ∷ past) e out.time split out.ends in
    let long = two (later ++ e ∷ mid) past m out.chain out.who out.signature x f s (split ∙ sym (append_assoc later (e ∷ mid) (m ∷ past))) out.challenge out.turns i n in
    let now : now_of (m ∷ past) ≡ now_of past = ap (λ (op : Op). or_before (time_set op m.reply) (now_of past)) out.challenge in
    let late = out.late in
    let t = at_end.1 in
    ⊎_elim (λ l. l) (λ notes. let k = notes x (r.named f) s i n in absurd (omega (arith, k, seen)))
    (set-looked r h journal ends raced f later mid past e m split at_end.0 (set_between mid (m ∷ past) (omega arith)))

-- ---- durations

pub stand_for_two : LastingChannelsStandForTwo
stand_for_two r h journal notes none later past m chain who signature x f s split is turns i n =
    let o = notes.planned x (r.named f) s i n in
    let fixed : fixed_of m.op ≡ Some chain.fixed = ap fixed_of is in
    let named : is_named r (r.named f) (fixed_of m.op) ≡ true = and-right (is_accepted m.reply) (is_named r (r.named f) (fixed_of m.op)) turns in
    let name : r.named chain.fixed ≡ r.named f = same_bytes (r.named chain.fixed) (r.named f) (ap (is_named r (r.named f)) (sym fixed) ∙ named) in
    let there : In m h = subst (λ (l : List Entry). In m l) (sym split) (In-append_right m later (m ∷ past) (inl refl)) in
    let same : chain.fixed ≡ o.fixed = none.names chain.fixed o.fixed (inl (m, there, fixed)) (inr (o.line, o.there, o.opens)) (name ∙ sym o.name) in
    let long = notes.lasting o.line o.fixed o.there o.opens in
    let as_long : chain.fixed.duration ≡ o.fixed.duration = ap (λ (g : FixedParts). g.duration) same in
    omega (arith, long, as_long)
