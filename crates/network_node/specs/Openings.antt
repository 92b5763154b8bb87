-- The lines of a node are the events of its journal, and what they add is what its commands open.
use Rattle.std.proofs.Common.{ℕ, Bool, true, false, cond, List, [], ◌∷◌, ◌++◌, reverse, filter, refl, sym, subst, Some, None}
use Rattle.std.specs.List.{AllByRecursion}
use Rattle.std.proofs.lemmas.List.{reverse-append}
use Rattle.channel_values.specs.Parts.{FixedParts, IsFixed}
use Rattle.call_history.specs.declared.event.Event.{Event}
use Rattle.network.specs.declared.command.Command.{Command}
use Rattle.channel_node.specs.Openings.{opened_by, takes_part}
use Rattle.channel_node.specs.Places.{tell, told, is_commanded, lines_of}
use Rattle.node_guarantees.specs.Commanded.{told as told_events}
use Rattle.node_guarantees.specs.Ways.{Numbered, ways}
use Rattle.node_guarantees.specs.Telling.{AreTold, HaveFixed, LinesAreTold}

-- ---- the events

are-told : (key : List ℕ) (events : List Event) (commands : List Command) → AreTold (lines_of key (told events commands)) events
are-told key [] commands = tt
are-told key (x ∷ front) [] = ((refl, refl), are-told key front [])
are-told key (x ∷ front) (c ∷ commands) = go (is_commanded x.deed) (are-told key front commands) (are-told key front (c ∷ commands))
  where
    go : (b : Bool) → AreTold (lines_of key (told front commands)) front → AreTold (lines_of key (told front (c ∷ commands))) front
        → AreTold (lines_of key (cond b (tell x (Some c) ∷ told front commands) (tell x None ∷ told front (c ∷ commands)))) (x ∷ front)
    go true with_it without = ((refl, refl), with_it)
    go false with_it without = ((refl, refl), without)

-- and of its commands
pub lines_open : LinesAreTold ways told_events
lines_open p = refl

pub lines_are_told : (p : Numbered) → AreTold (ways.lines p) (reverse (ways.journal p))
lines_are_told p = are-told _ (reverse p.node.journal) (reverse p.node.commands)

-- ---- what they add

abbrev Opens : Command → Type 0
Opens c = AllByRecursion IsFixed (opened_by c)

some-fixed : (test : FixedParts → Bool) (fs : List FixedParts) → AllByRecursion IsFixed fs → AllByRecursion IsFixed (filter test fs)
some-fixed test [] all = tt
some-fixed test (f ∷ fs) all = go (test f) (some-fixed test fs all.1)
  where
    go : (b : Bool) → AllByRecursion IsFixed (filter test fs) → AllByRecursion IsFixed (cond b (f ∷ filter test fs) (filter test fs))
    go true rest = (all.0, rest)
    go false rest = rest

all-append : {A : Type 0} (Q : A → Type 0) (xs ys : List A) → AllByRecursion Q xs → AllByRecursion Q ys → AllByRecursion Q (xs ++ ys)
all-append Q [] ys a b = b
all-append Q (x ∷ xs) ys a b = (a.0, all-append Q xs ys a.1 b)

all-reverse : {A : Type 0} (Q : A → Type 0) (xs : List A) → AllByRecursion Q xs → AllByRecursion Q (reverse xs)
all-reverse Q [] a = tt
all-reverse Q (x ∷ xs) a = subst (AllByRecursion Q) (sym (reverse-append (x ∷ []) xs)) (all-append Q (reverse xs) (x ∷ []) (all-reverse Q xs a.1) (a.0, tt))

have-fixed : (key : List ℕ) (events : List Event) (commands : List Command) → AllByRecursion Opens commands → HaveFixed (lines_of key (told events commands))
have-fixed key [] commands all = tt
have-fixed key (x ∷ front) [] all = (tt, have-fixed key front [] tt)
have-fixed key (x ∷ front) (c ∷ commands) all = go (is_commanded x.deed) (have-fixed key front commands all.1) (have-fixed key front (c ∷ commands) all)
  where
    go : (b : Bool) → HaveFixed (lines_of key (told front commands)) → HaveFixed (lines_of key (told front (c ∷ commands)))
        → HaveFixed (lines_of key (cond b (tell x (Some c) ∷ told front commands) (tell x None ∷ told front (c ∷ commands))))
    go true with_it without = (some-fixed (takes_part key) (opened_by c) all.0, with_it)
    go false with_it without = (tt, without)

pub adds_are_fixed : (p : Numbered) → AllByRecursion Opens p.node.commands → HaveFixed (ways.lines p)
adds_are_fixed p all = have-fixed _ (reverse p.node.journal) (reverse p.node.commands) (all-reverse Opens p.node.commands all)
