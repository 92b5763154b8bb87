-- The tests in the order of time, a step at a time.
use Rattle.std.proofs.Common.{◌≡◌, ℕ, suc, ◌+◌, ◌<◌, Bool, true, false, ◌&&◌, List, [], ◌∷◌, ◌++◌, map, length, take, drop, get_or, refl, sym, ◌∙◌, ap, Option, Some, None, cond, add-one, drop-cons, take-suc, zero, arith}
use Rattle.std.specs.List.{slice_get}
use Rattle.channel_values.specs.Parts.{StateParts}
use Rattle.channel_values.specs.declared.chain.Mark.{Mark}
use Rattle.channel_values.specs.declared.chain.Signed.{Signed}
use Rattle.channel_values.specs.Rules.{Rules}
use Rattle.call_history.specs.declared.entry.Entry.{Entry}
use Rattle.call_history.specs.declared.event.Event.{Event}
use Rattle.channel_safety.specs.Strings.{with_mark, signed_marks}
use Rattle.premises.specs.Own.{on_state, in_op, in_deed}
use Rattle.premises.specs.Forgery.{is_own}
use Rattle.premises.specs.Strings.{told_by, op_passes, message_passes, entries_pass, messages_pass}
use Rattle.premises.specs.declared.forgery.Own.{Own}
use Rattle.call_history.specs.History.{turning, time_set, or_before}
use Rattle.premises.specs.Timing.{reaches, until_end}
use Rattle.premises.specs.Looks.{channel_noted, entry_is_answered, are_answered}
use Rattle.std.specs.Option.{option_map}
use Rattle.std.proofs.lemmas.List.{append-nil, append_assoc}
use Rattle.channel_safety.proofs.Tests.{cond-true, cond-false}

-- ---- marks

both : (a b c : Bool) → b ≡ c → ((a && true) && b) ≡ (a && c)
both true b c h = h
both false b c h = refl

-- the first mark passes where it stands on a state, and then the others
marks-cons : (r : Rules) (key : List ℕ) (own : List Own) (seen : ℕ) (channel : List ℕ) (states : List StateParts) (mark : Mark) (rest : List Mark)
    → op_passes r key own seen (map (on_state r channel) (signed_marks states (mark ∷ rest)))
    ≡ (op_passes r key own seen (map (on_state r channel) (with_mark mark (slice_get states mark.place) [])) && op_passes r key own seen (map (on_state r channel) (signed_marks states rest)))
marks-cons r key own seen channel states mark rest = go (slice_get states mark.place)
  where
    go : (o : Option StateParts) → op_passes r key own seen (map (on_state r channel) (with_mark mark o (signed_marks states rest)))
        ≡ (op_passes r key own seen (map (on_state r channel) (with_mark mark o [])) && op_passes r key own seen (map (on_state r channel) (signed_marks states rest)))
    go None = refl
    go (Some s) =
        let x : Signed = record { state = s; signature = mark.signature } in
        let others = op_passes r key own seen (map (on_state r channel) (signed_marks states rest)) in
        sym (both (is_own r key (told_by own seen) (on_state r channel x)) others others refl)

pub marks_left : (r : Rules) (key : List ℕ) (own : List Own) (seen : ℕ) (channel : List ℕ) (states : List StateParts) (marks : List Mark) (i : ℕ) (d : Mark) → i < length marks
    → op_passes r key own seen (map (on_state r channel) (signed_marks states (drop i marks)))
    ≡ (op_passes r key own seen (map (on_state r channel) (with_mark (get_or marks i d) (slice_get states (get_or marks i d).place) [])) && op_passes r key own seen (map (on_state r channel) (signed_marks states (drop (i + 1) marks))))
marks_left r key own seen channel states marks i d l = rw (add-one, drop-cons marks i d) (marks-cons r key own seen channel states (get_or marks i d) (drop (suc i) marks))

-- ---- entries and events

pub entries_left : (r : Rules) (key : List ℕ) (own : List Own) (h : List Entry) (i : ℕ) (d : Entry) → i < length h
    → entries_pass r key own i (drop i h) ≡ (op_passes r key own i (in_op r (get_or h i d).op) && entries_pass r key own (i + 1) (drop (i + 1) h))
entries_left r key own h i d l = rw (add-one, drop-cons h i d) refl

pub messages_left : (r : Rules) (key : List ℕ) (own : List Own) (journal : List Event) (i : ℕ) (d : Event) → i < length journal
    → messages_pass r key own i (drop i journal) ≡ (message_passes r key (take i own) (in_deed r (get_or journal i d).deed) && messages_pass r key own (i + 1) (drop (i + 1) journal))
messages_left r key own journal i d l = rw (add-one, drop-cons journal i d) refl

pub answers_left : (r : Rules) (journal : List Event) (h : List Entry) (i now : ℕ) (d : Entry) → i < length h
    → are_answered r journal i now (drop i h)
    ≡ (entry_is_answered r journal (drop (i + 1) h) i now (get_or h i d) && are_answered r journal (i + 1) (or_before (time_set (get_or h i d).op (get_or h i d).reply) now) (drop (i + 1) h))
answers_left r journal h i now d l = rw (add-one, drop-cons h i d) refl

-- what is noted of the event at a place
pub noted_at : (journal : List Event) (noted : List (Option (List ℕ))) (i : ℕ) (d : Event) (o : Option (List ℕ)) → noted ≡ map channel_noted journal → i < length journal
    → get_or noted i o ≡ channel_noted (get_or journal i d)
noted_at journal noted i d o e l = ap (λ (z : List (Option (List ℕ))). get_or z i o) e ∙ at journal i l
  where
    at : (xs : List Event) (i : ℕ) → i < length xs → get_or (map channel_noted xs) i o ≡ channel_noted (get_or xs i d)
    at [] i l = absurd (omega arith)
    at (x ∷ xs) zero l = refl
    at (x ∷ xs) (suc i) l = at xs i (omega arith)

-- ---- the end of a challenge

abbrev pub Through : Rules → List ℕ → ℕ → List Entry → ℕ → Type 0
Through r c deadline xs i = until_end r c deadline xs ≡ option_map (λ (mid : List Entry). take i xs ++ mid) (until_end r c deadline (drop i xs))

unfold-at : (r : Rules) (c : List ℕ) (deadline : ℕ) (xs : List Entry) (i : ℕ) (d : Entry) → i < length xs
    → until_end r c deadline (drop i xs)
    ≡ cond (turning r c (get_or xs i d)) None (cond (reaches deadline (time_set (get_or xs i d).op (get_or xs i d).reply)) (Some []) (option_map (λ (mid : List Entry). get_or xs i d ∷ mid) (until_end r c deadline (drop (i + 1) xs))))
unfold-at r c deadline xs i d l = rw (add-one, drop-cons xs i d) refl

pub through_none : (r : Rules) (c : List ℕ) (deadline : ℕ) (xs : List Entry) (i : ℕ) (d : Entry) → Through r c deadline xs i → i < length xs
    → turning r c (get_or xs i d) ≡ true → None ≡ until_end r c deadline xs
through_none r c deadline xs i d t l turns =
    let q = get_or xs i d in
    let rest = cond (reaches deadline (time_set q.op q.reply)) (Some []) (option_map (λ (mid : List Entry). q ∷ mid) (until_end r c deadline (drop (i + 1) xs))) in
    let here : until_end r c deadline (drop i xs) ≡ None = unfold-at r c deadline xs i d l ∙ cond-true (turning r c q) None rest turns in
    sym (t ∙ ap (option_map (λ (mid : List Entry). take i xs ++ mid)) here)

pub through_end : (r : Rules) (c : List ℕ) (deadline : ℕ) (xs : List Entry) (i : ℕ) (d : Entry) → Through r c deadline xs i → i < length xs
    → turning r c (get_or xs i d) ≡ false → reaches deadline (time_set (get_or xs i d).op (get_or xs i d).reply) ≡ true → Some (take i xs) ≡ until_end r c deadline xs
through_end r c deadline xs i d t l still late =
    let q = get_or xs i d in
    let more = option_map (λ (mid : List Entry). q ∷ mid) (until_end r c deadline (drop (i + 1) xs)) in
    let here : until_end r c deadline (drop i xs) ≡ Some [] =
    unfold-at r c deadline xs i d l
    ∙ (cond-false (turning r c q) None (cond (reaches deadline (time_set q.op q.reply)) (Some []) more) still ∙ cond-true (reaches deadline (time_set q.op q.reply)) (Some []) more late) in
    sym (t ∙ (ap (option_map (λ (mid : List Entry). take i xs ++ mid)) here ∙ ap (λ (z : List Entry). Some z) (append-nil (take i xs))))

pub through_more : (r : Rules) (c : List ℕ) (deadline : ℕ) (xs : List Entry) (i : ℕ) (d : Entry) → Through r c deadline xs i → i < length xs
    → turning r c (get_or xs i d) ≡ false → reaches deadline (time_set (get_or xs i d).op (get_or xs i d).reply) ≡ false → Through r c deadline xs (i + 1)
through_more r c deadline xs i d t l still early =
    let q = get_or xs i d in
    let u = until_end r c deadline (drop (i + 1) xs) in
    let more = option_map (λ (mid : List Entry). q ∷ mid) u in
    let here : until_end r c deadline (drop i xs) ≡ more =
    unfold-at r c deadline xs i d l
    ∙ (cond-false (turning r c q) None (cond (reaches deadline (time_set q.op q.reply)) (Some []) more) still ∙ cond-false (reaches deadline (time_set q.op q.reply)) (Some []) more early) in
    let front : take (i + 1) xs ≡ take i xs ++ q ∷ [] = rw add-one (take-suc xs i d l) in
    t ∙ (ap (option_map (λ (mid : List Entry). take i xs ++ mid)) here ∙ (shifted u ∙ ap (λ (z : List Entry). option_map (λ (mid : List Entry). z ++ mid) u) (sym front)))
  where
    shifted : (o : Option (List Entry)) → option_map (λ (mid : List Entry). take i xs ++ mid) (option_map (λ (mid : List Entry). get_or xs i d ∷ mid) o) ≡ option_map (λ (mid : List Entry). (take i xs ++ get_or xs i d ∷ []) ++ mid) o
    shifted None = refl
    shifted (Some mid) = ap (λ (z : List Entry). Some z) (sym (append_assoc (take i xs) (get_or xs i d ∷ []) mid))

pub through_all : (r : Rules) (c : List ℕ) (deadline : ℕ) (xs : List Entry) (i : ℕ) → Through r c deadline xs i → i ≡ length xs → None ≡ until_end r c deadline xs
through_all r c deadline xs i t e =
    let gone : drop i xs ≡ [] = ap (λ (n : ℕ). drop n xs) e ∙ all xs in
    sym (t ∙ ap (λ (z : List Entry). option_map (λ (mid : List Entry). take i xs ++ mid) (until_end r c deadline z)) gone)
  where
    all : (ys : List Entry) → drop (length ys) ys ≡ []
    all [] = refl
    all (y ∷ ys) = all ys
