-- The tests in the order of time are those over the newest first.
use Rattle.std.proofs.Common.{◌≡◌, ℕ, suc, ◌+◌, nat_le, Bool, true, false, cond, not, ◌&&◌, ◌||◌, List, [], ◌∷◌, ◌++◌, map, reverse, take, fold, length, refl, sym, ◌∙◌, ap, subst, IsTrue, ◌↔◌, Option, Some, None, is_some, Result, Ok, Err, arith}
use Rattle.std.specs.List.{list_any, list_all, AllByRecursion}
use Rattle.std.specs.Str.{bytes_eq}
use Rattle.std.proofs.lemmas.List.{reverse-append, append_assoc}
use Rattle.channel_values.specs.Parts.{FixedParts}
use Rattle.channel_values.specs.declared.chain.Signed.{Signed}
use Rattle.channel_values.specs.declared.fault.ByteFault.{ByteFault}
use Rattle.channel_values.specs.Rules.{Rules}
use Rattle.call_history.specs.Spelling.{Message}
use Rattle.call_history.specs.Reading.{message_of}
use Rattle.call_history.specs.History.{now_of, is_accepted}
use Rattle.call_history.specs.declared.call.Call.TheVariants.{Challenge}
use Rattle.call_history.specs.declared.call.Op.{Op}
use Rattle.call_history.specs.declared.call.Op.TheVariants as ops
use Rattle.call_history.specs.declared.entry.Entry.{Entry}
use Rattle.call_history.specs.declared.event.Deed.{Deed}
use Rattle.call_history.specs.declared.event.Deed.TheVariants as deeds
use Rattle.call_history.specs.declared.event.Event.{Event}
use Rattle.channel_safety.specs.Journals.{Line, lines, some_if, told_in, noted_in}
use Rattle.channel_safety.specs.Strings.{string_of}
use Rattle.channel_safety.specs.Premises.{Unforged, InTime}
use Rattle.premises.specs.Own.{in_op, in_deed, is_string, is_signed, is_signed_by}
use Rattle.premises.specs.Forgery.{is_own, entries_are_own, messages_are_own, is_unforged}
use Rattle.premises.specs.Timing.{until_end, notes_by, looks_well, is_looked, end_is_watched, op_is_watched, entry_is_watched, are_watched, is_in_time, IsValidLine}
use Rattle.channel_safety.specs.Valid.{IsValidEntry, IsValidEvent}
use Rattle.premises.specs.Looks.{told_channel, noted_channel, next_look, end_is_answered, op_is_answered, entry_is_answered, are_answered}
use Rattle.premises.specs.Strings.{own_of, told, told_by, op_passes, message_passes, entries_pass, messages_pass}
use Rattle.premises.specs.declared.forgery.Own.{Own}
use Rattle.premises.proofs.Onto.{onto, onto-split, onto-twice, length-onto}
use Rattle.premises.proofs.Forged.{forgery-told}
use Rattle.premises.proofs.Timed.{timing-told}

-- ---- lists

pub reverse-onto : {A : Type 0} (xs : List A) → reverse xs ≡ onto xs []
reverse-onto [] = refl
reverse-onto {A} (x ∷ xs) = reverse-append (x ∷ []) xs ∙ (ap (λ (z : List A). z ++ x ∷ []) (reverse-onto xs) ∙ sym (onto-split xs (x ∷ [])))

all-same : {A : Type 0} (p q : A → Bool) → ((x : A) → p x ≡ q x) → (xs : List A) → list_all p xs ≡ list_all q xs
all-same p q h [] = refl
all-same p q h (x ∷ xs) = let a : p x ≡ q x = h x in let b : list_all p xs ≡ list_all q xs = all-same p q h xs in cc

or-shift : (a b c : Bool) → (a || (b || c)) ≡ ((b || a) || c)
or-shift true true c = refl
or-shift true false c = refl
or-shift false true c = refl
or-shift false false c = refl

or-none : (a : Bool) → (a || false) ≡ a
or-none true = refl
or-none false = refl

and-shift : (a b c : Bool) → (a && (b && c)) ≡ ((b && a) && c)
and-shift true true c = refl
and-shift true false c = refl
and-shift false true c = refl
and-shift false false c = refl

and-true : (a : Bool) → (a && true) ≡ a
and-true true = refl
and-true false = refl

-- ---- who signed

own-line : (r : Rules) (p : ℕ → Option (List ℕ) → Bool) (adds : ℕ → List FixedParts) (xs front : List Event)
    → list_any (λ (x : Line). p x.seen (string_of r x.deed)) (lines adds (onto xs front))
    ≡ (list_any (λ (o : Own). p o.seen o.message) (map (own_of r) xs) || list_any (λ (x : Line). p x.seen (string_of r x.deed)) (lines adds front))
own-line r p adds [] front = refl
own-line r p adds (x ∷ xs) front =
    own-line r p adds xs (x ∷ front)
    ∙ or-shift (list_any (λ (o : Own). p o.seen o.message) (map (own_of r) xs)) (p x.seen (string_of r x.deed))
    (list_any (λ (y : Line). p y.seen (string_of r y.deed)) (lines adds front))

-- of all lines
own-lines : (r : Rules) (p : ℕ → Option (List ℕ) → Bool) (adds : ℕ → List FixedParts) (xs : List Event)
    → list_any (λ (o : Own). p o.seen o.message) (map (own_of r) xs) ≡ list_any (λ (x : Line). p x.seen (string_of r x.deed)) (lines adds (onto xs []))
own-lines r p adds xs = sym (own-line r p adds xs [] ∙ or-none (list_any (λ (o : Own). p o.seen o.message) (map (own_of r) xs)))

entries-order : (r : Rules) (key : List ℕ) (adds : ℕ → List FixedParts) (journal : List Event) (xs past : List Entry)
    → entries_are_own r key (lines adds (onto journal [])) (onto xs past)
    ≡ (entries_pass r key (map (own_of r) journal) (length past) xs && entries_are_own r key (lines adds (onto journal [])) past)
entries-order r key adds journal [] past = refl
entries-order r key adds journal (x ∷ xs) past =
    let all = lines adds (onto journal []) in
    let own = map (own_of r) journal in
    let same : list_all (is_own r key (is_signed_by r all (length past))) (in_op r x.op) ≡ op_passes r key own (length past) (in_op r x.op) =
    all-same (is_own r key (is_signed_by r all (length past))) (is_own r key (told_by own (length past)))
    (λ y. ap (λ (b : Bool). not (r.verifies key y.message y.signature) || b)
    (sym (own-lines r (λ (n : ℕ) (o : Option (List ℕ)). nat_le n (length past) && is_string o y.message) adds journal))) (in_op r x.op) in
    entries-order r key adds journal xs (x ∷ past)
    ∙ (ap (λ (b : Bool). entries_pass r key own (suc (length past)) xs && (b && entries_are_own r key all past)) same
    ∙ and-shift (entries_pass r key own (suc (length past)) xs) (op_passes r key own (length past) (in_op r x.op)) (entries_are_own r key all past))

take-map : {A B : Type 0} (f : A → B) (xs ys : List A) → take (length xs) (map f (xs ++ ys)) ≡ map f xs
take-map f [] ys = refl
take-map f (x ∷ xs) ys = let h : take (length xs) (map f (xs ++ ys)) ≡ map f xs = take-map f xs ys in ap (λ z. f x ∷ z) h

messages-order : (r : Rules) (key : List ℕ) (adds : ℕ → List FixedParts) (journal xs front : List Event) → journal ≡ onto front [] ++ xs
    → messages_are_own r key (lines adds (onto xs front)) ≡ (messages_pass r key (map (own_of r) journal) (length front) xs && messages_are_own r key (lines adds front))
messages-order r key adds journal [] front split = refl
messages-order r key adds journal (x ∷ xs) front split =
    let own = map (own_of r) journal in
    let size : length (onto front []) ≡ length front = (let s : length (onto front []) ≡ length front + 0 = length-onto front [] in omega arith) in
    let taken : take (length front) own ≡ map (own_of r) (onto front []) =
    ap (λ (n : ℕ). take n own) (sym size) ∙ (ap (λ (z : List Event). take (length (onto front [])) (map (own_of r) z)) split ∙ take-map (own_of r) (onto front []) (x ∷ xs)) in
    let same : list_all (is_own r key (is_signed r (lines adds front))) (in_deed r x.deed) ≡ message_passes r key (take (length front) own) (in_deed r x.deed) =
    all-same (is_own r key (is_signed r (lines adds front))) (is_own r key (told (map (own_of r) (onto front []))))
    (λ y. ap (λ (b : Bool). not (r.verifies key y.message y.signature) || b)
    (ap (λ (z : List Event). is_signed r (lines adds z) y.message) (sym (onto-twice front))
    ∙ sym (own-lines r (λ (n : ℕ) (o : Option (List ℕ)). is_string o y.message) adds (onto front [])))) (in_deed r x.deed)
    ∙ ap (λ (z : List Own). message_passes r key z (in_deed r x.deed)) (sym taken) in
    let next : journal ≡ onto front (x ∷ []) ++ xs =
    split ∙ (sym (append_assoc (onto front []) (x ∷ []) xs) ∙ ap (λ (z : List Event). z ++ xs) (sym (onto-split front (x ∷ [])))) in
    messages-order r key adds journal xs (x ∷ front) next
    ∙ (ap (λ (b : Bool). messages_pass r key own (suc (length front)) xs && (b && messages_are_own r key (lines adds front))) same
    ∙ and-shift (messages_pass r key own (suc (length front)) xs) (message_passes r key (take (length front) own) (in_deed r x.deed)) (messages_are_own r key (lines adds front)))

unforged-order : (r : Rules) (key : List ℕ) (h : List Entry) (journal : List Event) (adds : ℕ → List FixedParts)
    → (entries_pass r key (map (own_of r) journal) 0 h && messages_pass r key (map (own_of r) journal) 0 journal) ≡ is_unforged r key (reverse h) (lines adds (reverse journal))
unforged-order r key h journal adds =
    let a : entries_are_own r key (lines adds (onto journal [])) (onto h []) ≡ entries_pass r key (map (own_of r) journal) 0 h =
    entries-order r key adds journal h [] ∙ and-true (entries_pass r key (map (own_of r) journal) 0 h) in
    let b : messages_are_own r key (lines adds (onto journal [])) ≡ messages_pass r key (map (own_of r) journal) 0 journal =
    messages-order r key adds journal journal [] refl ∙ and-true (messages_pass r key (map (own_of r) journal) 0 journal) in
    let c : is_unforged r key (onto h []) (lines adds (onto journal [])) ≡ (entries_pass r key (map (own_of r) journal) 0 h && messages_pass r key (map (own_of r) journal) 0 journal) = cc in
    sym (ap (λ (z : List Entry). is_unforged r key z (lines adds (reverse journal))) (reverse-onto h)
    ∙ (ap (λ (z : List Event). is_unforged r key (onto h []) (lines adds z)) (reverse-onto journal) ∙ c))

-- the answer of the two walks is whether nothing is forged
pub unforged-answered : (r : Rules) (key : List ℕ) (h : List Entry) (journal : List Event) (b : Bool)
    → b ≡ (entries_pass r key (map (own_of r) journal) 0 h && messages_pass r key (map (own_of r) journal) 0 journal)
    → (adds : ℕ → List FixedParts) → IsTrue b ↔ Unforged r key (reverse h) (lines adds (reverse journal))
unforged-answered r key h journal b e adds =
    let same = e ∙ unforged-order r key h journal adds in
    let told = forgery-told r key (reverse h) (lines adds (reverse journal)) in
    (λ t. told.0 (sym same ∙ t), λ u. same ∙ told.1 u)

-- ---- looks

noted-same : (c : List ℕ) (d : Deed) → is_some (noted_in c d) ≡ is_string (noted_channel d) c
noted-same c (deeds.Signed name state signature) = go (bytes_eq name c)
  where
    go : (b : Bool) → is_some (some_if b (record { state = state; signature = signature })) ≡ b
    go true = refl
    go false = refl
noted-same c (deeds.Handled bytes None) = go (message_of bytes)
  where
    at : (b : Bool) (s : Signed) → is_some (some_if b s) ≡ b
    at true s = refl
    at false s = refl

    go : (o : Result Message ByteFault) → is_some (told_in c o) ≡ is_string (told_channel o) c
    go (Ok message) = at (bytes_eq message.0 c) message.1
    go (Err fault) = refl
noted-same c _ = refl

-- whether a look answers, over lines, the newest first
abbrev watched : Rules → List ℕ → ℕ → List Entry → List Line → Bool
watched r c seen mid [] = true
watched r c seen mid (x ∷ front) = cond (notes_by c (seen + length mid) x) false (looks_well r c seen mid x.seen x.deed || watched r c seen mid front)

end-watched : (r : Rules) (c : List ℕ) (seen : ℕ) (mid : List Entry) (journal : List Line) → end_is_watched r c seen journal (Some mid) ≡ watched r c seen mid journal
end-watched r c seen mid [] = refl
end-watched r c seen mid (x ∷ front) =
    go (notes_by c (seen + length mid) x) (looks_well r c seen mid x.seen x.deed) (list_any (notes_by c (seen + length mid)) front) (is_looked r c seen mid front) (watched r c seen mid front)
    (end-watched r c seen mid front)
  where
    go : (n l any looked w : Bool) → (not any || looked) ≡ w → (not (n || any) || cond n false (l || looked)) ≡ cond n false (l || w)
    go true l any looked w h = refl
    go false true true looked w h = refl
    go false true false looked w h = refl
    go false false any looked w h = h

fold-watched : (r : Rules) (c : List ℕ) (seen : ℕ) (mid : List Entry) (adds : ℕ → List FixedParts) (xs front : List Event)
    → fold (next_look r c seen mid) (watched r c seen mid (lines adds front)) xs ≡ watched r c seen mid (lines adds (onto xs front))
fold-watched r c seen mid adds [] front = refl
fold-watched r c seen mid adds (x ∷ xs) front =
    let w = watched r c seen mid (lines adds front) in
    let same : next_look r c seen mid w x ≡ cond (is_some (noted_in c x.deed) && nat_le x.seen (seen + length mid)) false (looks_well r c seen mid x.seen x.deed || w) =
    ap (λ (b : Bool). cond (b && nat_le x.seen (seen + length mid)) false (looks_well r c seen mid x.seen x.deed || w)) (sym (noted-same c x.deed)) in
    ap (λ (b : Bool). fold (next_look r c seen mid) b xs) same ∙ fold-watched r c seen mid adds xs (x ∷ front)

end-order : (r : Rules) (c : List ℕ) (seen : ℕ) (adds : ℕ → List FixedParts) (journal : List Event) (u : Option (List Entry))
    → end_is_watched r c seen (lines adds (onto journal [])) u ≡ end_is_answered r c seen journal u
end-order r c seen adds journal None = refl
end-order r c seen adds journal (Some mid) = end-watched r c seen mid (lines adds (onto journal [])) ∙ sym (fold-watched r c seen mid adds journal [])

op-order : (r : Rules) (adds : ℕ → List FixedParts) (journal : List Event) (newer : List Entry) (seen now : ℕ) (op : Op)
    → op_is_watched r (lines adds (onto journal [])) newer seen now op ≡ op_is_answered r journal newer seen now op
op-order r adds journal newer seen now (ops.Call (Challenge k)) =
    end-order r (r.named k.chain.fixed) (suc seen) adds journal (until_end r (r.named k.chain.fixed) (now + k.chain.fixed.duration) newer)
op-order r adds journal newer seen now _ = refl

answers-order : (r : Rules) (adds : ℕ → List FixedParts) (journal : List Event) (xs past : List Entry)
    → are_watched r (lines adds (onto journal [])) [] (onto xs past)
    ≡ (are_answered r journal (length past) (now_of past) xs && are_watched r (lines adds (onto journal [])) xs past)
answers-order r adds journal [] past = refl
answers-order r adds journal (x ∷ xs) past =
    let all = lines adds (onto journal []) in
    let same : entry_is_watched r all xs (length past) (now_of past) x ≡ entry_is_answered r journal xs (length past) (now_of past) x =
    ap (λ (b : Bool). not (is_accepted x.reply) || b) (op-order r adds journal xs (length past) (now_of past) x.op) in
    answers-order r adds journal xs (x ∷ past)
    ∙ (ap (λ (b : Bool). are_answered r journal (suc (length past)) (now_of (x ∷ past)) xs && (b && are_watched r all (x ∷ xs) past)) same
    ∙ and-shift (are_answered r journal (suc (length past)) (now_of (x ∷ past)) xs) (entry_is_answered r journal xs (length past) (now_of past) x) (are_watched r all (x ∷ xs) past))

timing-order : (r : Rules) (h : List Entry) (journal : List Event) (adds : ℕ → List FixedParts)
    → are_answered r journal 0 0 h ≡ is_in_time r (reverse h) (lines adds (reverse journal))
timing-order r h journal adds =
    let a : is_in_time r (onto h []) (lines adds (onto journal [])) ≡ are_answered r journal 0 0 h =
    answers-order r adds journal h [] ∙ and-true (are_answered r journal 0 0 h) in
    sym (ap (λ (z : List Entry). is_in_time r z (lines adds (reverse journal))) (reverse-onto h)
    ∙ (ap (λ (z : List Event). is_in_time r (onto h []) (lines adds z)) (reverse-onto journal) ∙ a))

-- ---- valid values

valid-onto : {A : Type 0} (P : A → Type 0) (xs ys : List A) → AllByRecursion P xs → AllByRecursion P ys → AllByRecursion P (onto xs ys)
valid-onto P [] ys a b = b
valid-onto P (x ∷ xs) ys a b = valid-onto P xs (x ∷ ys) a.1 (a.0, b)

valid-lines : (adds : ℕ → List FixedParts) (xs : List Event) → AllByRecursion IsValidEvent xs → AllByRecursion IsValidLine (lines adds xs)
valid-lines adds [] a = tt
valid-lines adds (x ∷ xs) a = (a.0, valid-lines adds xs a.1)

-- the answer of the walk is whether watchers are in time
pub timing-answered : (r : Rules) (h : List Entry) (journal : List Event) (b : Bool)
    → AllByRecursion IsValidEntry h → AllByRecursion IsValidEvent journal → b ≡ are_answered r journal 0 0 h
    → (adds : ℕ → List FixedParts) → IsTrue b ↔ InTime r (reverse h) (lines adds (reverse journal))
timing-answered r h journal b valid looks e adds =
    let same = e ∙ timing-order r h journal adds in
    let entries : AllByRecursion IsValidEntry (reverse h) = subst (AllByRecursion IsValidEntry) (sym (reverse-onto h)) (valid-onto IsValidEntry h [] valid tt) in
    let events : AllByRecursion IsValidEvent (reverse journal) =
    subst (AllByRecursion IsValidEvent) (sym (reverse-onto journal)) (valid-onto IsValidEvent journal [] looks tt) in
    let told = timing-told r (reverse h) (lines adds (reverse journal)) entries (valid-lines adds (reverse journal) events) in
    (λ t. told.0 (sym same ∙ t), λ u. same ∙ told.1 u)
