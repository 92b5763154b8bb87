-- What is known at a place, with one more event or entry.
use Rattle.std.proofs.Common.{◌≡◌, ℕ, suc, ◌<◌, ◌≤◌, ◌==◌, Bool, true, false, cond, List, [], ◌∷◌, ◌++◌, inl, inr, length, reverse, refl, sym, ◌∙◌, ap, arith}
use Rattle.std.specs.Prelude.{Option, Some, None}
use Rattle.std.proofs.lemmas.Bool.{eq-eqb}
use Rattle.std.proofs.lemmas.List.{reverse-append}
use Rattle.channel_values.specs.Rules.{Rules}
use Rattle.call_history.specs.declared.entry.Entry.{Entry}
use Rattle.call_history.specs.declared.event.Deed.{Deed}
use Rattle.call_history.specs.declared.event.Deed.TheVariants as deeds
use Rattle.call_history.specs.declared.event.Event.{Event}
use Rattle.channel_safety.proofs.Tests.{cond-false, cond-true, eqb-false}
use Rattle.channel_safety.specs.Journals.{In, is_watched}
use Rattle.channel_node.specs.Minds.{Mind, fresh, saw, did}
use Rattle.channel_node.specs.Places.{Told, is_commanded, tell, told, slot, mind_at}
use Rattle.network.specs.declared.command.Command.{Command}

either-way : {A : Type 0} (b : Bool) (x : A) → cond b x x ≡ x
either-way true x = refl
either-way false x = refl

-- an event that isn't here, or is a look, changes nothing
unchanged : (r : Rules) (deed : Deed) (command : Option Command) (b : Bool) (m : Mind) → (is_watched deed ≡ false → b ≡ false) → cond b (did r deed command m) m ≡ m
unchanged r (deeds.Watched place calls) command b m h = either-way b m
unchanged r (deeds.Commanded step refusal) command b m h = cond-false b (did r (deeds.Commanded step refusal) command m) m (h refl)
unchanged r (deeds.Handled bytes refusal) command b m h = cond-false b (did r (deeds.Handled bytes refusal) command m) m (h refl)
unchanged r (deeds.Signed channel state signature) command b m h = cond-false b (did r (deeds.Signed channel state signature) command m) m (h refl)
unchanged r (deeds.SignedChallenge channel state who signature) command b m h = either-way b m
unchanged r (deeds.Called call) command b m h = cond-false b (did r (deeds.Called call) command m) m (h refl)

slot-skip : (r : Rules) (k : ℕ) (front : List Told) (m : Mind) → ((y : Told) → In y front → is_watched y.deed ≡ false → y.seen < k) → slot r k front m ≡ m
slot-skip r k [] m h = refl
slot-skip r k (x ∷ front) m h =
    unchanged r x.deed x.command (x.seen == k) (slot r k front m) (λ w. eqb-false x.seen k (λ e. (let l : x.seen < k = h x (inl refl) w in omega arith)))
    ∙ slot-skip r k front m (λ y i. h y (inr i))

-- an event of a later place
mind-later : (r : Rules) (key : List ℕ) (past : List Entry) (x : Told) (front : List Told) → length past < x.seen → mind_at r key past (x ∷ front) ≡ mind_at r key past front
mind-later r key [] x front h = cond-false (x.seen == 0) (did r x.deed x.command (slot r 0 front (fresh key))) (slot r 0 front (fresh key)) (eqb-false x.seen 0 (λ e. omega arith))
mind-later r key (e ∷ past) x front h =
    let k = suc (length past) in
    let m = saw r e (mind_at r key past (x ∷ front)) in
    cond-false (x.seen == k) (did r x.deed x.command (slot r k front m)) (slot r k front m) (eqb-false x.seen k (λ e. omega arith))
    ∙ ap (λ (y : Mind). slot r k front (saw r e y)) (mind-later r key past x front (omega arith))

-- an event at the end
pub mind-event : (r : Rules) (key : List ℕ) (past : List Entry) (x : Told) (front : List Told) → length past ≡ x.seen → mind_at r key past (x ∷ front) ≡ did r x.deed x.command (mind_at r key past front)
mind-event r key [] x front h = cond-true (x.seen == 0) (did r x.deed x.command (slot r 0 front (fresh key))) (slot r 0 front (fresh key)) (eq-eqb x.seen 0 (sym h))
mind-event r key (e ∷ past) x front h =
    let k = suc (length past) in
    let m = saw r e (mind_at r key past (x ∷ front)) in
    cond-true (x.seen == k) (did r x.deed x.command (slot r k front m)) (slot r k front m) (eq-eqb x.seen k (sym h))
    ∙ ap (λ (y : Mind). did r x.deed x.command (slot r k front (saw r e y))) (mind-later r key past x front (omega arith))

-- a look, wherever it stands
pub mind-watched : (r : Rules) (key : List ℕ) (past : List Entry) (x : Told) (front : List Told) → ((m : Mind) → did r x.deed x.command m ≡ m) → mind_at r key past (x ∷ front) ≡ mind_at r key past front
mind-watched r key [] x front h = go (x.seen == 0)
  where
    go : (b : Bool) → cond b (did r x.deed x.command (slot r 0 front (fresh key))) (slot r 0 front (fresh key)) ≡ slot r 0 front (fresh key)
    go true = h (slot r 0 front (fresh key))
    go false = refl
mind-watched r key (e ∷ past) x front h =
    go (x.seen == suc (length past)) (saw r e (mind_at r key past (x ∷ front))) ∙ ap (λ (y : Mind). slot r (suc (length past)) front (saw r e y)) (mind-watched r key past x front h)
  where
    go : (b : Bool) (m : Mind) → cond b (did r x.deed x.command (slot r (suc (length past)) front m)) (slot r (suc (length past)) front m) ≡ slot r (suc (length past)) front m
    go true m = h (slot r (suc (length past)) front m)
    go false m = refl

-- an entry after all events but looks
pub mind-entry : (r : Rules) (key : List ℕ) (past : List Entry) (e : Entry) (front : List Told) → ((y : Told) → In y front → is_watched y.deed ≡ false → y.seen ≤ length past)
    → mind_at r key (e ∷ past) front ≡ saw r e (mind_at r key past front)
mind-entry r key past e front h = slot-skip r (suc (length past)) front (saw r e (mind_at r key past front)) (λ y i w. (let l : y.seen ≤ length past = h y i w in omega arith))

-- ---- one more event, with its command

told-plain : (x : Event) (front : List Event) (commands : List Command) → is_commanded x.deed ≡ false → told (x ∷ front) commands ≡ tell x None ∷ told front commands
told-plain x front [] h = refl
told-plain x front (c ∷ commands) h = cond-false (is_commanded x.deed) (tell x (Some c) ∷ told front commands) (tell x None ∷ told front (c ∷ commands)) h

pub told-event : (journal : List Event) (x : Event) (commands : List Command) → is_commanded x.deed ≡ false
    → told (reverse (journal ++ x ∷ [])) (reverse commands) ≡ tell x None ∷ told (reverse journal) (reverse commands)
told-event journal x commands h = ap (λ (j : List Event). told j (reverse commands)) (reverse-append journal (x ∷ [])) ∙ told-plain x (reverse journal) (reverse commands) h

pub told-command : (journal : List Event) (x : Event) (commands : List Command) (c : Command) → is_commanded x.deed ≡ true
    → told (reverse (journal ++ x ∷ [])) (reverse (commands ++ c ∷ [])) ≡ tell x (Some c) ∷ told (reverse journal) (reverse commands)
told-command journal x commands c h =
    ap (λ (j : List Event). told j (reverse (commands ++ c ∷ []))) (reverse-append journal (x ∷ [])) ∙ ap (told (x ∷ reverse journal)) (reverse-append commands (c ∷ []))
    ∙ cond-true (is_commanded x.deed) (tell x (Some c) ∷ told (reverse journal) (reverse commands)) (tell x None ∷ told (reverse journal) (c ∷ reverse commands)) h
