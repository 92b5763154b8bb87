-- The test that watchers are in time shows it.
use Rattle.std.proofs.Common.{◌≡◌, ℕ, suc, ◌+◌, ◌-◌, ◌<◌, ◌≤◌, nat_le, Bool, true, false, cond, ◌&&◌, ◌||◌, List, [], ◌∷◌, ◌++◌, inl, inr, length, take, drop, refl, sym, ◌∙◌, ap, subst, arith, Option, Some, None, is_some}
use Rattle.std.specs.List.{list_any, list_all, AllByRecursion}
use Rattle.std.specs.Option.{option_map}
use Rattle.std.proofs.lemmas.List.{append_assoc, length-append, length-take-le, take-append-drop}
use Rattle.channel_values.specs.declared.chain.Signed.{Signed}
use Rattle.channel_values.specs.Rules.{Rules}
use Rattle.call_history.proofs.Names.{same_bytes, bytes_eq_self}
use Rattle.call_history.specs.Rows.{fixed_of}
use Rattle.call_history.specs.History.{is_accepted, is_named, turning, time_set, now_of}
use Rattle.call_history.specs.declared.call.Call.{Call}
use Rattle.call_history.specs.declared.call.ChallengeCall.{ChallengeCall}
use Rattle.call_history.specs.declared.call.Call.TheVariants.{Challenge}
use Rattle.call_history.specs.declared.call.Op.{Op}
use Rattle.call_history.specs.declared.call.Op.TheVariants as ops
use Rattle.call_history.specs.declared.entry.Entry.{Entry}
use Rattle.call_history.specs.declared.event.Deed.{Deed}
use Rattle.call_history.specs.declared.event.Deed.TheVariants as deeds
use Rattle.call_history.specs.declared.refusal.Reply.{Reply}
use Rattle.channel_safety.specs.Journals.{In, Line, noted_in}
use Rattle.channel_safety.specs.Premises.{RunsOut, Looked, InTime}
use Rattle.call_history.specs.Same.{is_op, HasValidParts}
use Rattle.premises.specs.Timing.{reaches, until_end, notes_by, is_entered, looks_well, is_looked, end_is_watched, op_is_watched, entry_is_watched, are_watched, is_in_time, IsValidLine, TimingIsTold}
use Rattle.channel_safety.specs.Valid.{IsValidOp, IsValidEntry, IsValidDeed}
use Rattle.channel_safety.proofs.Members.{In-append_right, In-append_left, all-in}
use Rattle.channel_safety.proofs.Tests.{and-left, and-right, and-both, cond-true, cond-false, le-true, true-le, le-false, false-le}
use Rattle.premises.proofs.ListTests.{never, found, any-in, all-pass, pass-all, or-first, or-second, own-if, if-own}
use Rattle.premises.proofs.Onto.{onto, onto-append, onto-split, onto-twice, length-onto, In-onto_left, In-turned, drop-past}
use Rattle.call_history.proofs.Sames.{op-same, call-self}

-- ---- places of a history

watched-at : (r : Rules) (journal : List Line) (newer later past : List Entry) (m : Entry) → are_watched r journal newer (later ++ m ∷ past) ≡ true
    → entry_is_watched r journal (onto later newer) (length past) (now_of past) m ≡ true
watched-at r journal newer [] past m h = and-left (entry_is_watched r journal newer (length past) (now_of past) m) (are_watched r journal (m ∷ newer) past) h
watched-at r journal newer (q ∷ later) past m h =
    watched-at r journal (q ∷ newer) later past m
    (and-right (entry_is_watched r journal newer (length (later ++ m ∷ past)) (now_of (later ++ m ∷ past)) q) (are_watched r journal (q ∷ newer) (later ++ m ∷ past)) h)

watched-all : (r : Rules) (journal : List Line) (newer h : List Entry)
    → ((later past : List Entry) (m : Entry) → h ≡ later ++ m ∷ past → entry_is_watched r journal (onto later newer) (length past) (now_of past) m ≡ true)
    → are_watched r journal newer h ≡ true
watched-all r journal newer [] at = refl
watched-all r journal newer (q ∷ past) at =
    and-both (entry_is_watched r journal newer (length past) (now_of past) q) (are_watched r journal (q ∷ newer) past) (at [] past q refl)
    (watched-all r journal (q ∷ newer) past (λ later older m s. at (q ∷ later) older m (ap (λ (z : List Entry). q ∷ z) s)))

-- ---- where a challenge runs out

ends-at : (r : Rules) (c : List ℕ) (deadline : ℕ) (mid : List Entry) (e : Entry) (rest : List Entry)
    → ((q : Entry) → In q mid → turning r c q ≡ false) → ((q : Entry) → In q mid → reaches deadline (time_set q.op q.reply) ≡ false)
    → turning r c e ≡ false → reaches deadline (time_set e.op e.reply) ≡ true → until_end r c deadline (mid ++ e ∷ rest) ≡ Some mid
ends-at r c deadline [] e rest quiet first still late =
    cond-false (turning r c e) None (cond (reaches deadline (time_set e.op e.reply)) (Some []) (option_map (λ (z : List Entry). e ∷ z) (until_end r c deadline rest))) still
    ∙ cond-true (reaches deadline (time_set e.op e.reply)) (Some []) (option_map (λ (z : List Entry). e ∷ z) (until_end r c deadline rest)) late
ends-at r c deadline (q ∷ mid) e rest quiet first still late =
    let u = until_end r c deadline (mid ++ e ∷ rest) in
    cond-false (turning r c q) None (cond (reaches deadline (time_set q.op q.reply)) (Some []) (option_map (λ (z : List Entry). q ∷ z) u)) (quiet q (inl refl))
    ∙ (cond-false (reaches deadline (time_set q.op q.reply)) (Some []) (option_map (λ (z : List Entry). q ∷ z) u) (first q (inl refl))
    ∙ ap (λ (o : Option (List Entry)). option_map (λ (z : List Entry). q ∷ z) o) (ends-at r c deadline mid e rest (λ x i. quiet x (inr i)) (λ x i. first x (inr i)) still late))

record Ended (r : Rules) (c : List ℕ) (deadline : ℕ) (xs mid : List Entry) : Type 0 where
  pub last : Entry
  pub rest : List Entry
  pub split : xs ≡ mid ++ last ∷ rest
  pub quiet : (q : Entry) → In q mid → turning r c q ≡ false
  pub first : (q : Entry) → In q mid → reaches deadline (time_set q.op q.reply) ≡ false
  pub late : reaches deadline (time_set last.op last.reply) ≡ true

abbrev EndedIf : Rules → List ℕ → ℕ → List Entry → Option (List Entry) → Type 0
EndedIf r c deadline xs None = Unit {0}
EndedIf r c deadline xs (Some mid) = Ended r c deadline xs mid

ended : (r : Rules) (c : List ℕ) (deadline : ℕ) (xs : List Entry) → EndedIf r c deadline xs (until_end r c deadline xs)
ended r c deadline [] = tt
ended r c deadline (q ∷ rest) = go (turning r c q) refl (reaches deadline (time_set q.op q.reply)) refl (until_end r c deadline rest) (ended r c deadline rest)
  where
    either : (P : Entry → Type 0) (mid : List Entry) → P q → ((x : Entry) → In x mid → P x) → (x : Entry) → In x (q ∷ mid) → P x
    either P mid p ps x (inl e) = subst P (sym e) p
    either P mid p ps x (inr i) = ps x i

    go : (t : Bool) → turning r c q ≡ t → (l : Bool) → reaches deadline (time_set q.op q.reply) ≡ l → (u : Option (List Entry)) → EndedIf r c deadline rest u
        → EndedIf r c deadline (q ∷ rest) (cond t None (cond l (Some []) (option_map (λ (z : List Entry). q ∷ z) u)))
    go true e l f u w = tt
    go false e true f u w = record { last = q; rest = rest; split = refl; quiet = λ x i. absurd i; first = λ x i. absurd i; late = f }
    go false e false f None w = tt
    go false e false f (Some mid) w =
        record {
          last = w.last;
          rest = w.rest;
          split = ap (λ (z : List Entry). q ∷ z) w.split;
          quiet = either (λ (x : Entry). turning r c x ≡ false) mid e w.quiet;
          first = either (λ (x : Entry). reaches deadline (time_set x.op x.reply) ≡ false) mid f w.first;
          late = w.late;
        }

-- ---- times that are set

not-reached : (deadline : ℕ) (o : Option ℕ) → ((t : ℕ) → o ≡ Some t → t < deadline) → reaches deadline o ≡ false
not-reached deadline None h = refl
not-reached deadline (Some t) h = false-le deadline t (h t refl)

before : (deadline : ℕ) (o : Option ℕ) (t : ℕ) → reaches deadline o ≡ false → o ≡ Some t → t < deadline
before deadline o t h e = le-false deadline t (ap (reaches deadline) (sym e) ∙ h)

reached : (deadline : ℕ) (o : Option ℕ) → reaches deadline o ≡ true → (t : ℕ) × (o ≡ Some t) × (deadline ≤ t)
reached deadline None h = never h
reached deadline (Some t) h = (t, refl, le-true deadline t h)

is-reached : (deadline : ℕ) (o : Option ℕ) (t : ℕ) → o ≡ Some t → deadline ≤ t → reaches deadline o ≡ true
is-reached deadline o t e l = ap (reaches deadline) e ∙ true-le deadline t l

timed-names_none : (op : Op) (reply : Reply) (t : ℕ) → time_set op reply ≡ Some t → fixed_of op ≡ None
timed-names_none (ops.Call call) reply t e = cc
timed-names_none (ops.Time u) reply t e = refl

and-false : (a b : Bool) → b ≡ false → (a && b) ≡ false
and-false true b h = h
and-false false b h = refl

timed-still : (r : Rules) (c : List ℕ) (e : Entry) (t : ℕ) → time_set e.op e.reply ≡ Some t → turning r c e ≡ false
timed-still r c e t s = and-false (is_accepted e.reply) (is_named r c (fixed_of e.op)) (ap (is_named r c) (timed-names_none e.op e.reply t s))

-- ---- looks

record Well (r : Rules) (c : List ℕ) (seen : ℕ) (mid : List Entry) (place : ℕ) (d : Deed) : Type 0 where
  pub watcher : ℕ
  pub calls : List Call
  pub deed : d ≡ deeds.Watched watcher calls
  pub from : seen ≤ place
  pub to : place ≤ seen + length mid
  pub entered : list_all (is_entered r c (drop (place - seen) mid)) calls ≡ true

well : (r : Rules) (c : List ℕ) (seen : ℕ) (mid : List Entry) (place : ℕ) (d : Deed) → looks_well r c seen mid place d ≡ true → Well r c seen mid place d
well r c seen mid place (deeds.Watched watcher calls) h =
    let all = list_all (is_entered r c (drop (place - seen) mid)) calls in
    let both = and-left (nat_le seen place && nat_le place (seen + length mid)) all h in
    record {
      watcher = watcher;
      calls = calls;
      deed = refl;
      from = le-true seen place (and-left (nat_le seen place) (nat_le place (seen + length mid)) both);
      to = le-true place (seen + length mid) (and-right (nat_le seen place) (nat_le place (seen + length mid)) both);
      entered = and-right (nat_le seen place && nat_le place (seen + length mid)) all h;
    }
well r c seen mid place _ h = never h

record LooksAt (r : Rules) (c : List ℕ) (seen : ℕ) (mid : List Entry) (journal : List Line) : Type 0 where
  pub newer : List Line
  pub line : Line
  pub front : List Line
  pub split : journal ≡ newer ++ line ∷ front
  pub later : (x : Line) → In x newer → notes_by c (seen + length mid) x ≡ false
  pub well : looks_well r c seen mid line.seen line.deed ≡ true

looks-at : (r : Rules) (c : List ℕ) (seen : ℕ) (mid : List Entry) (journal : List Line) → is_looked r c seen mid journal ≡ true → LooksAt r c seen mid journal
looks-at r c seen mid [] h = never h
looks-at r c seen mid (x ∷ front) h =
    go (notes_by c (seen + length mid) x) refl (looks_well r c seen mid x.seen x.deed) refl h (looks-at r c seen mid front)
  where
    either : (newer : List Line) → notes_by c (seen + length mid) x ≡ false → ((y : Line) → In y newer → notes_by c (seen + length mid) y ≡ false)
        → (y : Line) → In y (x ∷ newer) → notes_by c (seen + length mid) y ≡ false
    either newer e es y (inl s) = ap (notes_by c (seen + length mid)) s ∙ e
    either newer e es y (inr i) = es y i

    go : (n : Bool) → notes_by c (seen + length mid) x ≡ n → (l : Bool) → looks_well r c seen mid x.seen x.deed ≡ l
        → cond n false (l || is_looked r c seen mid front) ≡ true → (is_looked r c seen mid front ≡ true → LooksAt r c seen mid front) → LooksAt r c seen mid (x ∷ front)
    go true e l f h later = never h
    go false e true f h later = record { newer = []; line = x; front = front; split = refl; later = λ y i. absurd i; well = f }
    go false e false f h later =
        let a = later h in
        record { newer = x ∷ a.newer; line = a.line; front = a.front; split = ap (λ (z : List Line). x ∷ z) a.split; later = either a.newer e a.later; well = a.well }

is-looked : (r : Rules) (c : List ℕ) (seen : ℕ) (mid : List Entry) (newer : List Line) (line : Line) (front : List Line)
    → ((x : Line) → In x newer → notes_by c (seen + length mid) x ≡ false) → notes_by c (seen + length mid) line ≡ false
    → looks_well r c seen mid line.seen line.deed ≡ true → is_looked r c seen mid (newer ++ line ∷ front) ≡ true
is-looked r c seen mid [] line front later own w =
    cond-false (notes_by c (seen + length mid) line) false (looks_well r c seen mid line.seen line.deed || is_looked r c seen mid front) own
    ∙ or-first (looks_well r c seen mid line.seen line.deed) (is_looked r c seen mid front) w
is-looked r c seen mid (y ∷ newer) line front later own w =
    cond-false (notes_by c (seen + length mid) y) false (looks_well r c seen mid y.seen y.deed || is_looked r c seen mid (newer ++ line ∷ front)) (later y (inl refl))
    ∙ or-second (looks_well r c seen mid y.seen y.deed) (is_looked r c seen mid (newer ++ line ∷ front))
    (is-looked r c seen mid newer line front (λ x i. later x (inr i)) own w)

-- a line that noted a state, and one that had seen more or noted none
noted-late : (c : List ℕ) (last : ℕ) (x : Line) (s : Signed) → notes_by c last x ≡ false → noted_in c x.deed ≡ Some s → last < x.seen
noted-late c last x s h e = le-false x.seen last (rest (is_some (noted_in c x.deed)) (nat_le x.seen last) h (ap (λ (o : Option Signed). is_some o) e))
  where
    rest : (a b : Bool) → (a && b) ≡ false → a ≡ true → b ≡ false
    rest true b h t = h
    rest false b h t = never t

late-notes_none : (c : List ℕ) (last : ℕ) (x : Line) → ((s : Signed) → noted_in c x.deed ≡ Some s → last < x.seen) → notes_by c last x ≡ false
late-notes_none c last x h = go (noted_in c x.deed) refl
  where
    go : (o : Option Signed) → noted_in c x.deed ≡ o → (is_some o && nat_le x.seen last) ≡ false
    go None e = refl
    go (Some s) e = false-le x.seen last (h s e)

-- ---- a look, from the test and back

valid-calls : (d : Deed) (watcher : ℕ) (calls : List Call) → IsValidDeed d → d ≡ deeds.Watched watcher calls → AllByRecursion HasValidParts calls
valid-calls d watcher calls v e = subst IsValidDeed e v

-- the entries after the challenge, the newest first, are those that the look hadn't seen and those that it had
looked : (r : Rules) (c : List ℕ) (journal : List Line) (mid : List Entry) (m : Entry) (past : List Entry)
    → ((q : Entry) → In q mid → IsValidEntry q) → AllByRecursion IsValidLine journal
    → is_looked r c (suc (length past)) (onto mid []) journal ≡ true → Looked r c journal mid m past
looked r c journal mid m past valid lines h =
    let seen = suc (length past) in
    let told = onto mid [] in
    let a = looks-at r c seen told journal h in
    let w = well r c seen told a.line.seen a.line.deed a.well in
    let k = a.line.seen - seen in
    let size : length told ≡ length mid + 0 = length-onto mid [] in
    let fits : k ≤ length told = (let f : seen ≤ a.line.seen = w.from in let t : a.line.seen ≤ seen + length told = w.to in omega arith) in
    let after = onto (drop k told) [] in
    let back = onto (take k told) [] in
    let taken : length (take k told) ≡ k = length-take-le k told fits in
    let back_size : length back ≡ length (take k told) + 0 = length-onto (take k told) [] in
    let whole : length (back ++ m ∷ past) ≡ length back + length (m ∷ past) = length-append back (m ∷ past) in
    let all : length (mid ++ m ∷ past) ≡ length mid + length (m ∷ past) = length-append mid (m ∷ past) in
    let between : mid ≡ after ++ back =
    sym (onto-twice mid) ∙ (ap (λ (z : List Entry). onto z []) (sym (take-append-drop k told)) ∙ (onto-append (take k told) (drop k told) [] ∙ onto-split (drop k told) back)) in
    let there : In a.line journal = subst (In a.line) (sym a.split) (In-append_right a.line a.newer (a.line ∷ a.front) (inl refl)) in
    let calls_valid = valid-calls a.line.deed w.watcher w.calls (all-in IsValidLine a.line journal lines there) w.deed in
    record {
      newer = a.newer;
      front = a.front;
      line = a.line;
      watcher = w.watcher;
      calls = w.calls;
      split = a.split;
      deed = w.deed;
      after = after;
      before = back;
      between = between;
      saw = (let f : seen ≤ a.line.seen = w.from in omega arith);
      noted_before = λ x s i n. (let l : seen + length told < x.seen = noted-late c (seen + length told) x s (a.later x i) n in omega arith);
      entered = λ call i n. entered-at (drop k told) after call
          (all-in HasValidParts call w.calls calls_valid i)
          (λ q j. valid q (subst (In q) (sym between) (In-append_left q after back j)))
          (λ q j. In-onto_left q (drop k told) [] j)
          (own-if (is_named r c (fixed_of (ops.Call call))) (list_any (λ (q : Entry). is_op call q.op) (drop k told)) (all-pass (is_entered r c (drop k told)) w.calls call w.entered i) n);
    }
  where
    entered-at : (told after : List Entry) (call : Call) → HasValidParts call → ((q : Entry) → In q after → IsValidEntry q)
        → ((q : Entry) → In q told → In q after) → list_any (λ (q : Entry). is_op call q.op) told ≡ true → (q : Entry) × (In q after) × (q.op ≡ ops.Call call)
    entered-at told after call v vs there t =
        let f = found (λ (q : Entry). is_op call q.op) told t in
        let i = there f.item f.there in
        (f.item, i, op-same call f.item.op v (λ own e. subst IsValidOp e (vs f.item i)) f.passes)

looked-back : (r : Rules) (c : List ℕ) (journal : List Line) (told : List Entry) (m : Entry) (past : List Entry)
    → Looked r c journal (onto told []) m past → is_looked r c (suc (length past)) told journal ≡ true
looked-back r c journal told m past w =
    let seen = suc (length past) in
    let size : length (onto told []) ≡ length told + 0 = length-onto told [] in
    let parts : length (onto told []) ≡ length w.after + length w.before = ap (λ (z : List Entry). length z) w.between ∙ length-append w.after w.before in
    let whole : length (w.before ++ m ∷ past) ≡ length w.before + length (m ∷ past) = length-append w.before (m ∷ past) in
    let all : length (onto told [] ++ m ∷ past) ≡ length (onto told []) + length (m ∷ past) = length-append (onto told []) (m ∷ past) in
    let saw : w.line.seen ≡ length (w.before ++ m ∷ past) = w.saw in
    let k = w.line.seen - seen in
    let back : List Entry = onto w.before [] in
    let back_size : length back ≡ length w.before + 0 = length-onto w.before [] in
    let places : k ≡ length back = omega arith in
    let is : told ≡ back ++ onto w.after [] =
    sym (onto-twice told) ∙ (ap (λ (z : List Entry). onto z []) w.between ∙ (onto-append w.after w.before [] ∙ onto-split w.before (onto w.after []))) in
    let rest : drop k told ≡ onto w.after [] =
    ap (λ (n : ℕ). drop n told) places ∙ (ap (λ (z : List Entry). drop (length back) z) is ∙ drop-past back (onto w.after [])) in
    let within : (q : Entry) → In q w.after → In q (drop k told) = λ q i. subst (In q) (sym rest) (In-onto_left q w.after [] i) in
    let look : looks_well r c seen told w.line.seen (deeds.Watched w.watcher w.calls) ≡ true =
    and-both (nat_le seen w.line.seen && nat_le w.line.seen (seen + length told)) (list_all (is_entered r c (drop k told)) w.calls)
    (and-both (nat_le seen w.line.seen) (nat_le w.line.seen (seen + length told)) (true-le seen w.line.seen (omega arith)) (true-le w.line.seen (seen + length told) (omega arith)))
    (pass-all (is_entered r c (drop k told)) w.calls
    (λ call i. if-own (is_named r c (fixed_of (ops.Call call))) (list_any (λ (q : Entry). is_op call q.op) (drop k told))
    (λ n. entered-in call (drop k told) w.after within (w.entered call i n)))) in
    ap (is_looked r c seen told) w.split
    ∙ is-looked r c seen told w.newer w.line w.front
    (λ x i. late-notes_none c (seen + length told) x (λ s n. (let l : length (onto told [] ++ m ∷ past) < x.seen = w.noted_before x s i n in omega arith)))
    (ap (λ (d : Deed). is_some (noted_in c d) && nat_le w.line.seen (seen + length told)) w.deed)
    (ap (looks_well r c seen told w.line.seen) w.deed ∙ look)
  where
    entered-in : (call : Call) (told after : List Entry) → ((q : Entry) → In q after → In q told)
        → (q : Entry) × (In q after) × (q.op ≡ ops.Call call) → list_any (λ (q : Entry). is_op call q.op) told ≡ true
    entered-in call told after within (q, i, e) =
        any-in (λ (q : Entry). is_op call q.op) told q (within q i) (ap (is_op call) e ∙ call-self call)

-- ---- the whole test

in-time : (r : Rules) (h : List Entry) (journal : List Line) → AllByRecursion IsValidEntry h → AllByRecursion IsValidLine journal → is_in_time r h journal ≡ true → InTime r h journal
in-time r h journal valid lines t later mid past e m f x s split out i noted early =
    let chain = out.chain in
    let c = r.named chain.fixed in
    let deadline = now_of past + chain.fixed.duration in
    let accepted : is_accepted m.reply ≡ true = and-left (is_accepted m.reply) (is_named r (r.named f) (fixed_of m.op)) out.turns in
    let named : is_named r (r.named f) (fixed_of m.op) ≡ true = and-right (is_accepted m.reply) (is_named r (r.named f) (fixed_of m.op)) out.turns in
    let same : c ≡ r.named f = same_bytes c (r.named f) (ap (λ (op : Op). is_named r (r.named f) (fixed_of op)) (sym out.challenge) ∙ named) in
    let told = onto mid [] in
    let newer = onto (later ++ e ∷ mid) [] in
    let place : h ≡ (later ++ e ∷ mid) ++ m ∷ past = split ∙ sym (append_assoc later (e ∷ mid) (m ∷ past)) in
    let is : newer ≡ told ++ e ∷ onto later [] = onto-append later (e ∷ mid) [] ∙ onto-split mid (e ∷ onto later []) in
    let entry : entry_is_watched r journal newer (length past) (now_of past) m ≡ true =
    watched-at r journal [] (later ++ e ∷ mid) past m (ap (are_watched r journal []) (sym place) ∙ t) in
    let op : op_is_watched r journal newer (length past) (now_of past) m.op ≡ true =
    own-if (is_accepted m.reply) (op_is_watched r journal newer (length past) (now_of past) m.op) entry accepted in
    let watched : end_is_watched r c (suc (length past)) journal (until_end r c deadline newer) ≡ true =
    ap (op_is_watched r journal newer (length past) (now_of past)) (sym out.challenge) ∙ op in
    let ends : until_end r c deadline newer ≡ Some told =
    ap (until_end r c deadline) is
    ∙ ends-at r c deadline told e (onto later [])
    (λ q j. ap (λ (n : List ℕ). turning r n q) same ∙ out.quiet q (In-turned q mid j))
    (λ q j. not-reached deadline (time_set q.op q.reply) (λ u w. out.first q u (In-turned q mid j) w))
    (timed-still r c e out.time out.ends) (is-reached deadline (time_set e.op e.reply) out.time out.ends out.late) in
    let end : end_is_watched r c (suc (length past)) journal (Some told) ≡ true =
    ap (end_is_watched r c (suc (length past)) journal) (sym ends) ∙ watched in
    let last = suc (length past) + length told in
    let size : length told ≡ length mid + 0 = length-onto mid [] in
    let all : length (mid ++ m ∷ past) ≡ length mid + length (m ∷ past) = length-append mid (m ∷ past) in
    let notes : notes_by c last x ≡ true =
    and-both (is_some (noted_in c x.deed)) (nat_le x.seen last) (ap (λ (n : List ℕ). is_some (noted_in n x.deed)) same ∙ ap (λ (o : Option Signed). is_some o) noted)
    (true-le x.seen last (omega arith)) in
    let look : is_looked r c (suc (length past)) told journal ≡ true =
    own-if (list_any (notes_by c last) journal) (is_looked r c (suc (length past)) told journal) end (any-in (notes_by c last) journal x i notes) in
    subst (λ (n : List ℕ). Looked r n journal mid m past) same
    (looked r c journal mid m past (λ q j. all-in IsValidEntry q h valid (subst (In q) (sym split) (In-append_right q later (e ∷ (mid ++ m ∷ past)) (inr (In-append_left q mid (m ∷ past) j))))) lines look)

passes : (r : Rules) (h : List Entry) (journal : List Line) → InTime r h journal → is_in_time r h journal ≡ true
passes r h journal timely = watched-all r journal [] h at
  where
    run-out : (later past : List Entry) (m : Entry) (k : ChallengeCall) → h ≡ later ++ m ∷ past → is_accepted m.reply ≡ true
        → m.op ≡ ops.Call (Challenge k)
        → (u : Option (List Entry)) → EndedIf r (r.named k.chain.fixed) (now_of past + k.chain.fixed.duration) (onto later []) u
        → end_is_watched r (r.named k.chain.fixed) (suc (length past)) journal u ≡ true
    run-out later past m k split accepted is None w = refl
    run-out later past m k split accepted is (Some told) w =
        let c = r.named k.chain.fixed in
        let deadline = now_of past + k.chain.fixed.duration in
        let last = suc (length past) + length told in
        let mid = onto told [] in
        let e = w.last in
        let turned : later ≡ onto w.rest [] ++ e ∷ mid =
        sym (onto-twice later) ∙ (ap (λ (z : List Entry). onto z []) w.split ∙ (onto-append told (e ∷ w.rest) [] ∙ onto-split w.rest (e ∷ mid))) in
        let place : h ≡ onto w.rest [] ++ e ∷ (mid ++ m ∷ past) =
        split ∙ (ap (λ (z : List Entry). z ++ m ∷ past) turned ∙ append_assoc (onto w.rest []) (e ∷ mid) (m ∷ past)) in
        let end = reached deadline (time_set e.op e.reply) w.late in
        let size : length mid ≡ length told + 0 = length-onto told [] in
        let all : length (mid ++ m ∷ past) ≡ length mid + length (m ∷ past) = length-append mid (m ∷ past) in
        let out : RunsOut r c e mid m past =
        record {
          chain = k.chain;
          who = k.challenger;
          signature = k.signature;
          time = end.0;
          challenge = is;
          turns = and-both (is_accepted m.reply) (is_named r c (fixed_of m.op)) accepted (ap (λ (op : Op). is_named r c (fixed_of op)) is ∙ bytes_eq_self c);
          quiet = λ q j. w.quiet q (In-turned q told j);
          first = λ q t j s. before deadline (time_set q.op q.reply) t (w.first q (In-turned q told j)) s;
          ends = end.1;
          late = end.2;
        } in
        if-own (list_any (notes_by c last) journal) (is_looked r c (suc (length past)) told journal)
        (λ any.
        let f = found (notes_by c last) journal any in
        let x = f.item in
        let some = noted-some (noted_in c x.deed) (and-left (is_some (noted_in c x.deed)) (nat_le x.seen last) f.passes) in
        let seen : x.seen ≤ last = le-true x.seen last (and-right (is_some (noted_in c x.deed)) (nat_le x.seen last) f.passes) in
        looked-back r c journal told m past (timely (onto w.rest []) mid past e m k.chain.fixed x some.0 place out f.there some.1 (omega arith)))
      where
        noted-some : (o : Option Signed) → is_some o ≡ true → (s : Signed) × (o ≡ Some s)
        noted-some None h = never h
        noted-some (Some s) h = (s, refl)

    op-watched : (later past : List Entry) (m : Entry) → h ≡ later ++ m ∷ past → is_accepted m.reply ≡ true → (op : Op) → m.op ≡ op
        → op_is_watched r journal (onto later []) (length past) (now_of past) op ≡ true
    op-watched later past m split accepted (ops.Call (Challenge k)) is =
        run-out later past m k split accepted is
        (until_end r (r.named k.chain.fixed) (now_of past + k.chain.fixed.duration) (onto later []))
        (ended r (r.named k.chain.fixed) (now_of past + k.chain.fixed.duration) (onto later []))
    op-watched later past m split accepted _ is = refl

    at : (later past : List Entry) (m : Entry) → h ≡ later ++ m ∷ past → entry_is_watched r journal (onto later []) (length past) (now_of past) m ≡ true
    at later past m split =
        if-own (is_accepted m.reply) (op_is_watched r journal (onto later []) (length past) (now_of past) m.op) (λ accepted. op-watched later past m split accepted m.op refl)

pub timing-told : TimingIsTold
timing-told = λ r h journal valid lines. (in-time r h journal valid lines, passes r h journal)
