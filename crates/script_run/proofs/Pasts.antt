-- Events in which no command was refused, with one more.
use Rattle.std.proofs.Common.{◌≡◌, Bool, true, false, ◌&&◌, List, [], ◌∷◌, ◌++◌, refl, sym, subst}
use Rattle.call_history.specs.declared.event.Event.{Event}
use Rattle.script_run.specs.Pair.{Past, is_taken, are_taken}

both-of : (b c d : Bool) → (b && c) ≡ true → (c ≡ true → d ≡ true) → (b && d) ≡ true
both-of true c d h more = more h
both-of false c d h more = h

pub one-more : (events : List Event) (x : Event) → are_taken events ≡ true → is_taken x.deed ≡ true → are_taken (events ++ x ∷ []) ≡ true
one-more [] x all t = subst (λ (b : Bool). (b && true) ≡ true) (sym t) refl
one-more (y ∷ events) x all t = both-of (is_taken y.deed) (are_taken events) (are_taken (events ++ x ∷ [])) all (λ rest. one-more events x rest t)

abbrev pub grown : (past : Past) (x : Event) → is_taken x.deed ≡ true → Past
grown past x t = record { events = past.events ++ x ∷ []; taken = one-more past.events x past.taken t }
