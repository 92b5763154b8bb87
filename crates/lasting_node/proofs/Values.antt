-- What a machine keeps is such as its types promise: its entries, and the events of its journal with what they add.
use Rattle.std.proofs.Common.{◌≡◌, ℕ, suc, Bool, true, false, cond, List, [], ◌∷◌, length, reverse, refl, sym, ◌∙◌, ap, subst, arith}
use Rattle.std.proofs.lemmas.List.{reverse-reverse}
use Rattle.std.specs.Prelude.{◌==◌, ◌<◌}
use Rattle.std.specs.List.{AllByRecursion}
use Rattle.channel_values.specs.Parts.{FixedParts, IsFixed}
use Rattle.call_history.specs.declared.event.Event.{Event}
use Rattle.call_history.specs.declared.entry.Entry.{Entry}
use Rattle.channel_safety.specs.Journals.{Line, lines}
use Rattle.channel_safety.specs.Occurring.{AreValid}
use Rattle.channel_safety.specs.Valid.{IsValidEntry, IsValidEvent}
use Rattle.network.proofs.Valid.{events-valid}
use Rattle.network.specs.Entered.{oldest_first}
use Rattle.network.specs.Valid.{AddsFixed}
use Rattle.network_node.specs.Openings.{lines_are_told}
use Rattle.node_guarantees.specs.Telling.{AreTold, HaveFixed}
use Rattle.node_guarantees.specs.Ways.{Numbered, ways}

-- what the line adds that has so many before it
adds_in : List Line → ℕ → List FixedParts
adds_in [] place = []
adds_in (x ∷ front) place = cond (length front == place) x.adds (adds_in front place)

-- so far in front nothing else is looked at
lines-same : (some more : ℕ → List FixedParts) (events : List Event) → ((place : ℕ) → place < length events → some place ≡ more place) → lines some events ≡ lines more events
lines-same some more [] same = refl
lines-same some more (e ∷ front) same =
    λ i. record { seen = e.seen; deed = e.deed; adds = same (length front) (omega arith) i } ∷ lines-same some more front (λ place below. same place (omega (arith, below))) i

told-length : (journal : List Line) (events : List Event) → AreTold journal events → length journal ≡ length events
told-length [] [] told = refl
told-length [] (e ∷ events) told = absurd told
told-length (x ∷ journal) [] told = absurd told
told-length (x ∷ journal) (e ∷ events) told = ap suc (told-length journal events told.1)

same-place : (n : ℕ) → (n == n) ≡ true
same-place n = grind arith

other-place : (n k : ℕ) → k < n → (n == k) ≡ false
other-place n k l = grind arith

lines_told : (journal : List Line) (events : List Event) → AreTold journal events → lines (adds_in journal) events ≡ journal
unfolding adds_in
lines_told [] [] told = refl
lines_told [] (e ∷ events) told = absurd told
lines_told (x ∷ journal) [] told = absurd told
lines_told (x ∷ journal) (e ∷ events) told =
    let long : length journal ≡ length events = told-length journal events told.1 in
    let here : adds_in (x ∷ journal) (length events) ≡ x.adds =
    ap (λ b. cond b x.adds (adds_in journal (length events))) (ap (λ n. n == length events) long ∙ same-place (length events))
    in
    let rest : lines (adds_in (x ∷ journal)) events ≡ journal =
    lines-same (adds_in (x ∷ journal)) (adds_in journal) events
    (λ place below. ap (λ b. cond b x.adds (adds_in journal place)) (other-place (length journal) place (subst (λ n. place < n) (sym long) below)))
    ∙ lines_told journal events told.1
    in
    λ i. record { seen = sym told.0.0 i; deed = sym told.0.1 i; adds = here i } ∷ rest i

adds_fixed : (journal : List Line) → HaveFixed journal → AddsFixed (adds_in journal)
unfolding adds_in
adds_fixed [] fixed place = tt
adds_fixed (x ∷ journal) fixed place = go (length journal == place) (adds_fixed journal fixed.1 place)
  where
    go : (b : Bool) → AllByRecursion IsFixed (adds_in journal place) → AllByRecursion IsFixed (cond b x.adds (adds_in journal place))
    go true later = fixed.0
    go false later = later

-- ---- a history and a node

pub values_valid : (h : List Entry) (p : Numbered) → AllByRecursion IsValidEntry (oldest_first h) → AllByRecursion IsValidEvent p.node.journal
    → HaveFixed (ways.lines p) → AreValid h (ways.lines p)
unfolding adds_in
values_valid h p entries journal fixed =
    subst (λ (past : List Entry). AreValid past (ways.lines p)) (reverse-reverse h)
    (subst (AreValid (reverse (reverse h))) (lines_told (ways.lines p) (reverse p.node.journal) (lines_are_told p))
    (events-valid (oldest_first h) p.node.journal (adds_in (ways.lines p)) entries journal (adds_fixed (ways.lines p) fixed)))
